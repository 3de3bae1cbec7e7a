-- Paths that are written as they are.
use Rattle.std.proofs.Common.{◌≡◌, ◌≢◌, ◌+◌, ◌<◌, ◌≤◌, ◌==◌, ◌&&◌, ℕ, Bool, true, false, cond, List, [], ◌∷◌, ◌++◌, length, map, drop, get_or, refl, ap, sym, ◌∙◌, subst, add-one, drop-cons, arith}
use Rattle.std.specs.Prelude.{All, bytes_eq, codes}
use Rattle.std.specs.List.{flat_map, join_by, onto_first}
use Rattle.std.proofs.lemmas.List.{drop_all}
use Rattle.std.proofs.lemmas.List.Elements.{All-nil, All-cons, All-head, All-tail}
use Rattle.std.proofs.lemmas.List.Splits.{length-slice_split}
use Rattle.apfs_model.proofs.BoolTests.{never-true, equal-from}
use Rattle.path_search.specs.Paths.{slash, parts_of}
use Rattle.tree_export.specs.Parts.{MayFollow, IsPlainAfter}
use Rattle.tree_export.specs.Safe.{safe_byte, safe_part, safe_path}
use Rattle.tree_export.proofs.Safes.{join_map}

-- ---- byte by byte
pub plain_more : (path : List ℕ) (i before byte : ℕ) → i < length path → byte ≡ get_or path i 0 → MayFollow before byte → (IsPlainAfter before (drop i path) → IsPlainAfter slash path) → IsPlainAfter byte (drop (i + 1) path) → IsPlainAfter slash path
plain_more path i before byte low at may whole rest =
    let cut : drop i path ≡ get_or path i 0 ∷ drop (i + 1) path = rw (add-one, drop-cons path i 0) refl in
    whole (subst (IsPlainAfter before) (sym (cut ∙ ap (λ (b : ℕ). b ∷ drop (i + 1) path) (sym at))) (may, rest))

pub plain_end : (path : List ℕ) (i before : ℕ) → length path ≤ i → before ≢ slash → IsPlainAfter before (drop i path)
plain_end path i before whole other = subst (IsPlainAfter before) (sym (drop_all i path whole)) other

unzero : (byte : ℕ) → byte ≢ 0 → safe_byte byte ≡ byte ∷ []
unzero byte some = ap (λ (b : Bool). cond b (codes "\\x00") (byte ∷ [])) (never-true (byte == 0) (λ e. some (equal-from byte 0 e)))

plain-zeros : (path : List ℕ) (before : ℕ) → IsPlainAfter before path → flat_map safe_byte path ≡ path
plain-zeros [] before plain = refl
plain-zeros (byte ∷ path) before plain = ap (λ (l : List ℕ). l ++ flat_map safe_byte path) (unzero byte plain.0.0) ∙ ap (λ (l : List ℕ). byte ∷ l) (plain-zeros path byte plain.1)

-- ---- part by part
-- a part is written as it is
abbrev IsOwn : List ℕ → Type 0
IsOwn part = safe_part part ≡ part

own-first : (byte : ℕ) (part : List ℕ) → byte ≢ 46 → IsOwn (byte ∷ part)
own-first byte part other =
    ap (λ (b : Bool). cond (b && bytes_eq part []) (codes "\\x2e") (cond (b && bytes_eq part (codes ".")) (codes "\\x2e\\x2e") (byte ∷ part))) (never-true (byte == 46) (λ e. other (equal-from byte 46 e)))

-- parts are, the first of them where it begins after a slash
abbrev AreOwn : ℕ → List (List ℕ) → Type 0
AreOwn before [] = ⊥
AreOwn before (part ∷ parts) = (before ≡ slash → IsOwn part) × All IsOwn parts

split-own : (before byte : ℕ) (parts : List (List ℕ)) (b : Bool) → (byte == slash) ≡ b → MayFollow before byte → AreOwn byte parts → AreOwn before (cond b ([] ∷ parts) (onto_first byte parts))
split-own before byte [] b e may own = absurd own
split-own before byte (part ∷ parts) true e may own = ((λ same. absurd ((may.1 same).0 (equal-from byte slash e))), All-cons IsOwn part parts (own.0 (equal-from byte slash e)) own.1)
split-own before byte (part ∷ parts) false e may own = ((λ same. own-first byte part (may.1 same).1), own.1)

parts-own : (path : List ℕ) (before : ℕ) → IsPlainAfter before path → AreOwn before (parts_of path)
parts-own [] before plain = ((λ same. absurd (plain same)), All-nil IsOwn)
parts-own (byte ∷ path) before plain = split-own before byte (parts_of path) (byte == slash) refl plain.0 (parts-own path byte plain.1)

map-own : (parts : List (List ℕ)) → All IsOwn parts → map safe_part parts ≡ parts
map-own [] own = refl
map-own (part ∷ parts) own = ap (λ (p : List ℕ). p ∷ map safe_part parts) (All-head IsOwn part parts own) ∙ ap (λ (l : List (List ℕ)). part ∷ l) (map-own parts (All-tail IsOwn part parts own))

all-own : (parts : List (List ℕ)) → AreOwn slash parts → All IsOwn parts
all-own [] own = absurd own
all-own (part ∷ parts) own = All-cons IsOwn part parts (own.0 refl) own.1

-- ---- the parts of a path, joined
back-if : (byte : ℕ) (parts : List (List ℕ)) (b : Bool) → (byte == slash) ≡ b → 0 < length parts →
    join_by (λ (l : List ℕ). l) (slash ∷ []) (cond b ([] ∷ parts) (onto_first byte parts)) ≡ byte ∷ join_by (λ (l : List ℕ). l) (slash ∷ []) parts
back-if byte [] b e some = absurd (omega arith)
back-if byte (part ∷ parts) true e some = ap (λ (n : ℕ). n ∷ (part ++ flat_map (λ (l : List ℕ). (slash ∷ []) ++ l) parts)) (sym (equal-from byte slash e))
back-if byte (part ∷ parts) false e some = refl

joined-back : (path : List ℕ) → join_by (λ (l : List ℕ). l) (slash ∷ []) (parts_of path) ≡ path
joined-back [] = refl
joined-back (byte ∷ path) =
    back-if byte (parts_of path) (byte == slash) refl (omega (arith, length-slice_split (λ (b : ℕ). b == slash) path)) ∙ ap (λ (l : List ℕ). byte ∷ l) (joined-back path)

-- such a path is written as it is
pub plain_same : (path : List ℕ) → IsPlainAfter slash path → safe_path path ≡ path
unfolding safe_path
plain_same path plain =
    ap (λ (text : List ℕ). join_by safe_part (slash ∷ []) (parts_of text)) (plain-zeros path slash plain)
    ∙ (join_map safe_part (slash ∷ []) (parts_of path)
    ∙ (ap (join_by (λ (l : List ℕ). l) (slash ∷ [])) (map-own (parts_of path) (all-own (parts_of path) (parts-own path slash plain)))
    ∙ joined-back path))
