-- Paths as they are written.
use Rattle.std.proofs.Common.{◌≡◌, ◌≢◌, ◌<◌, ◌==◌, ℕ, Bool, true, false, cond, List, [], ◌∷◌, ◌++◌, length, map, Result, Ok, Err, refl, ap, sym, ◌∙◌, subst, append_assoc, append-nil, arith}
use Rattle.std.specs.Prelude.{All, IfOk, bytes_eq, codes, nat_lt}
use Rattle.std.specs.List.{flat_map, join_by, list_all, slice_split, onto_first}
use Rattle.std.proofs.lemmas.List.Elements.{All-nil, All-cons, All-head, All-tail, All-append, All-map, All-weaker}
use Rattle.std.proofs.lemmas.List.Splits.{slice_split_none, slice_split_at, length-slice_split}
use Rattle.apfs_model.proofs.BoolTests.{left-true, right-true, never-true, below-from, equal-from, unequal-from}
use Rattle.path_search.specs.Paths.{slash, parts_of}
use Rattle.tree_export.specs.Safe.{IsSafePart, IsSafe, safe_byte, safe_part, safe_path}

-- ---- parts that are joined
flat-map : {X : Type 0} (f : X → List ℕ) (between : List ℕ) (xs : List X) → flat_map (λ (x : X). between ++ f x) xs ≡ flat_map (λ (l : List ℕ). between ++ l) (map f xs)
flat-map f between [] = refl
flat-map f between (x ∷ xs) = ap (λ (l : List ℕ). (between ++ f x) ++ l) (flat-map f between xs)

pub join_map : {X : Type 0} (f : X → List ℕ) (between : List ℕ) (xs : List X) → join_by f between xs ≡ join_by (λ (l : List ℕ). l) between (map f xs)
join_map f between [] = refl
join_map f between (x ∷ xs) = ap (λ (l : List ℕ). f x ++ l) (flat-map f between xs)

-- the same parts are joined to the same text
pub joined_as : {X Y : Type 0} (f : X → List ℕ) (g : Y → List ℕ) (between : List ℕ) (xs : List X) (ys : List Y) → map f xs ≡ map g ys → join_by f between xs ≡ join_by g between ys
joined_as f g between xs ys same = join_map f between xs ∙ (ap (join_by (λ (l : List ℕ). l) between) same ∙ sym (join_map g between ys))

-- parts that were written one by one
pub mapped_by : {X : Type 0} (f : X → List ℕ) (g : List ℕ → List ℕ) (xs : List X) (parts : List (List ℕ)) → map f xs ≡ parts → map (λ (x : X). g (f x)) xs ≡ map g parts
mapped_by f g xs parts same = twice xs ∙ ap (map g) same
  where
    twice : (xs : List _) → map (λ x. g (f x)) xs ≡ map g (map f xs)
    twice [] = refl
    twice (x ∷ xs) = ap (λ l. g (f x) ∷ l) (twice xs)

-- a text that was made in other words
pub ok_as : {T E : Type 0} (bytes : T → List ℕ) (r : Result T E) (a b : List ℕ) → a ≡ b → IfOk r (λ (t : T). bytes t ≡ a) → IfOk r (λ (t : T). bytes t ≡ b)
ok_as bytes (Ok t) a b e h = h ∙ e
ok_as bytes (Err x) a b e h = tt

-- a fact of a text that was made
pub ok_has : {T E : Type 0} (bytes : T → List ℕ) (P : List ℕ → Type 0) (r : Result T E) (a : List ℕ) → P a → IfOk r (λ (t : T). bytes t ≡ a) → IfOk r (λ (t : T). P (bytes t))
ok_has bytes P (Ok t) a p h = subst P (sym h) p
ok_has bytes P (Err x) a p h = tt

-- ---- what is written in place of something
-- a byte after the slash: all of it are such
abbrev IsLate : ℕ → Type 0
IsLate byte = slash < byte

all-late : (text : List ℕ) → list_all (nat_lt slash) text ≡ true → All IsLate text
all-late [] test = All-nil IsLate
all-late (byte ∷ text) test =
    All-cons IsLate byte text (below-from slash byte (left-true (nat_lt slash byte) (list_all (nat_lt slash) text) test)) (all-late text (right-true (nat_lt slash byte) (list_all (nat_lt slash) text) test))

late-some : (byte : ℕ) → IsLate byte → byte ≢ 0
late-some byte late e = omega arith

late-plain : (byte : ℕ) → IsLate byte → byte ≢ slash
late-plain byte late e = omega arith

-- ---- zero bytes
zero-if : (x : ℕ) (pieces : List (List ℕ)) (b : Bool) → 0 < length pieces →
    join_by (λ (l : List ℕ). l) (codes "\\x00") (cond b ([] ∷ pieces) (onto_first x pieces)) ≡ cond b (codes "\\x00") (x ∷ []) ++ join_by (λ (l : List ℕ). l) (codes "\\x00") pieces
zero-if x [] b some = absurd (omega arith)
zero-if x (piece ∷ pieces) true some = append_assoc (codes "\\x00") piece (flat_map (λ (l : List ℕ). codes "\\x00" ++ l) pieces)
zero-if x (piece ∷ pieces) false some = refl

-- what is between them, joined by what is written in their place
pub zeros_joined : (text : List ℕ) → join_by (λ (l : List ℕ). l) (codes "\\x00") (slice_split (λ (byte : ℕ). byte == 0) text) ≡ flat_map safe_byte text
zeros_joined [] = refl
zeros_joined (byte ∷ text) =
    zero-if byte (slice_split (λ (b : ℕ). b == 0) text) (byte == 0) (omega (arith, length-slice_split (λ (b : ℕ). b == 0) text)) ∙ ap (λ (l : List ℕ). safe_byte byte ++ l) (zeros_joined text)

zeroless-byte : (byte : ℕ) (b : Bool) → (byte == 0) ≡ b → All (λ (n : ℕ). n ≢ 0) (cond b (codes "\\x00") (byte ∷ []))
zeroless-byte byte true e = All-weaker IsLate (λ (n : ℕ). n ≢ 0) late-some (codes "\\x00") (all-late (codes "\\x00") refl)
zeroless-byte byte false e = All-cons (λ (n : ℕ). n ≢ 0) byte [] (unequal-from byte 0 e) (All-nil (λ (n : ℕ). n ≢ 0))

-- no byte of a text as it is written is zero
zeroless : (text : List ℕ) → All (λ (n : ℕ). n ≢ 0) (flat_map safe_byte text)
zeroless [] = All-nil (λ (n : ℕ). n ≢ 0)
zeroless (byte ∷ text) = All-append (λ (n : ℕ). n ≢ 0) (safe_byte byte) (flat_map safe_byte text) (zeroless-byte byte (byte == 0) refl) (zeroless text)

-- ---- the parts of a list
onto-each : {X : Type 0} (P : X → Type 0) (x : X) (parts : List (List X)) → P x → All (All P) parts → All (All P) (onto_first x parts)
onto-each P x [] here each = All-cons (All P) (x ∷ []) [] (All-cons P x [] here (All-nil P)) (All-nil (All P))
onto-each P x (part ∷ parts) here each = All-cons (All P) (x ∷ part) parts (All-cons P x part here (All-head (All P) part parts each)) (All-tail (All P) part parts each)

-- an element at which a list isn't cut, of which a fact holds
abbrev IsUncut : {X : Type 0} → (X → Bool) → (X → Type 0) → X → Type 0
IsUncut p Q x = (p x ≡ false) × Q x

split-if : {X : Type 0} (P : X → Type 0) (x : X) (parts : List (List X)) (b : Bool) → (b ≡ false → P x) → All (All P) parts → All (All P) (cond b ([] ∷ parts) (onto_first x parts))
split-if P x parts true here each = All-cons (All P) [] parts (All-nil P) each
split-if P x parts false here each = onto-each P x parts (here refl) each

-- the elements of the parts are such
split-each : {X : Type 0} (p : X → Bool) (Q : X → Type 0) (xs : List X) → All Q xs → All (All (IsUncut p Q)) (slice_split p xs)
split-each p Q [] each = All-cons (All (IsUncut p Q)) [] [] (All-nil (IsUncut p Q)) (All-nil (All (IsUncut p Q)))
split-each p Q (x ∷ xs) each = split-if (IsUncut p Q) x (slice_split p xs) (p x) (λ e. (e, All-head Q x xs each)) (split-each p Q xs (All-tail Q x xs each))

-- parts without a slash are the ones of what they are joined to
pub split_joined : (f : List ℕ → List ℕ) (parts : List (List ℕ)) → 0 < length parts → All (λ (part : List ℕ). All (λ (byte : ℕ). (byte == slash) ≡ false) (f part)) parts → parts_of (join_by f (slash ∷ []) parts) ≡ map f parts
split_joined f [] some plain = absurd (omega arith)
split_joined f (part ∷ []) some plain =
    ap parts_of (append-nil (f part)) ∙ slice_split_none (λ (byte : ℕ). byte == slash) (f part) (All-head (λ (l : List ℕ). All (λ (byte : ℕ). (byte == slash) ≡ false) (f l)) part [] plain)
split_joined f (part ∷ next ∷ parts) some plain =
    let P : List ℕ → Type 0 = λ l. All (λ (byte : ℕ). (byte == slash) ≡ false) (f l) in
    slice_split_at (λ (byte : ℕ). byte == slash) (f part) slash (join_by f (slash ∷ []) (next ∷ parts)) (All-head P part (next ∷ parts) plain) refl
    ∙ ap (λ (l : List (List ℕ)). f part ∷ l) (split_joined f (next ∷ parts) (omega arith) (All-tail P part (next ∷ parts) plain))

-- ---- a component as it is written
unlike : (part other : List ℕ) → bytes_eq part other ≡ false → bytes_eq other other ≡ true → part ≢ other
unlike part other test same e =
    let found : bytes_eq other other ≡ false = subst (λ (l : List ℕ). bytes_eq l other ≡ false) e test in
    cc

safe-if : (part : List ℕ) → bytes_eq part [] ≡ false → bytes_eq part (codes ".") ≡ false → bytes_eq part (codes "..") ≡ false →
    All (λ (byte : ℕ). byte ≢ slash) part → All (λ (byte : ℕ). byte ≢ 0) part → IsSafePart part
safe-if part some dot dots plain nonzero = record {
  some = unlike part [] some refl;
  no_dot = unlike part (codes ".") dot refl;
  no_dots = unlike part (codes "..") dots refl;
  no_slash = plain;
  no_zero = nonzero;
}

pub safe_late : (part : List ℕ) → list_all (nat_lt slash) part ≡ true → bytes_eq part [] ≡ false → bytes_eq part (codes ".") ≡ false → bytes_eq part (codes "..") ≡ false → IsSafePart part
safe_late part late some dot dots =
    safe-if part some dot dots (All-weaker IsLate (λ (byte : ℕ). byte ≢ slash) late-plain part (all-late part late)) (All-weaker IsLate (λ (byte : ℕ). byte ≢ 0) late-some part (all-late part late))

part-safe : (part : List ℕ) → All (λ (byte : ℕ). byte ≢ slash) part → All (λ (byte : ℕ). byte ≢ 0) part → IsSafePart (safe_part part)
part-safe part plain nonzero = go (bytes_eq part []) (bytes_eq part (codes ".")) (bytes_eq part (codes "..")) refl refl refl
  where
    go : (a b c : Bool) → bytes_eq part [] ≡ a → bytes_eq part (codes ".") ≡ b → bytes_eq part (codes "..") ≡ c →
        IsSafePart (cond a (codes "\\x") (cond b (codes "\\x2e") (cond c (codes "\\x2e\\x2e") part)))
    go true b c none dot dots = safe_late (codes "\\x") refl refl refl refl
    go false true c none dot dots = safe_late (codes "\\x2e") refl refl refl refl
    go false false true none dot dots = safe_late (codes "\\x2e\\x2e") refl refl refl refl
    go false false false none dot dots = safe-if part none dot dots plain nonzero

-- a path as it is written stays in the folder, whatever it was
pub path_safe : (path : List ℕ) → IsSafe (safe_path path)
unfolding safe_path
path_safe path =
    let text : List ℕ = flat_map safe_byte path in
    let parts : List (List ℕ) = parts_of text in
    let Uncut : ℕ → Type 0 = λ byte. ((byte == slash) ≡ false) × (byte ≢ 0) in
    let each : All (All Uncut) parts = split-each (λ (byte : ℕ). byte == slash) (λ (byte : ℕ). byte ≢ 0) text (zeroless path) in
    let safe : All (λ (part : List ℕ). IsSafePart (safe_part part)) parts =
    All-weaker (All Uncut) (λ (part : List ℕ). IsSafePart (safe_part part))
    (λ part h. part-safe part (All-weaker Uncut (λ (byte : ℕ). byte ≢ slash) (λ byte k. unequal-from byte slash k.0) part h) (All-weaker Uncut (λ (byte : ℕ). byte ≢ 0) (λ byte k. k.1) part h)) parts each in
    let plain : All (λ (part : List ℕ). All (λ (byte : ℕ). (byte == slash) ≡ false) (safe_part part)) parts =
    All-weaker (λ (part : List ℕ). IsSafePart (safe_part part)) (λ (part : List ℕ). All (λ (byte : ℕ). (byte == slash) ≡ false) (safe_part part))
    (λ part h. All-weaker (λ (byte : ℕ). byte ≢ slash) (λ (byte : ℕ). (byte == slash) ≡ false) (λ byte k. never-true (byte == slash) (λ e. k (equal-from byte slash e))) (safe_part part) h.no_slash) parts safe in
    subst (All IsSafePart) (sym (split_joined safe_part parts (omega (arith, length-slice_split (λ (byte : ℕ). byte == slash) text)) plain)) (All-map IsSafePart safe_part parts safe)
