-- What a sink has after some puts.
use Rattle.std.proofs.Common.{◌≡◌, ℕ, ◌+◌, ◌<◌, ◌≤◌, ◌-◌, List, [], ◌++◌, Option, Some, Result, Ok, Err, true, false, ap, sym, subst, ◌∙◌, append_assoc, append-nil, replicate, refl, arith}
use Rattle.std.specs.Result.{is_err, OnOk, OnErr}
use Rattle.apfs_model.proofs.BoolTests.{clash}
use Rattle.apfs_model.specs.Counts.{Rose}
use Rattle.apfs_model.specs.Sink.{Wrote, WrotePart}
use Rattle.img_format.specs.Tables.{size}
use Rattle.img_format.specs.declared.spec.Spec.{Spec}
use Rattle.img_format.specs.Fresh.{fresh, blocks_from}
use Rattle.img_format.specs.Steps.{zero_blocks}
use Rattle.img_format.proofs.Numbered.{one-more, rest-after, used-and-free}

pub wrote-more : (a b c : Option (List ℕ)) (x y : List ℕ) → Wrote a b x → Wrote b c y → Wrote a c (x ++ y)
wrote-more a b c x y first second held told = second (held ++ x) (first held told) ∙ ap (λ (l : List ℕ). Some l) (append_assoc held x y)

pub part-more : (a b c : Option (List ℕ)) (x y : List ℕ) → Wrote a b x → WrotePart b c y → WrotePart a c (x ++ y)
part-more a b c x y first second held told =
    let part = second (held ++ x) (first held told) in
    (x ++ part.0, part.1, ap (λ l. x ++ l) part.2 ∙ sym (append_assoc x part.0 part.1), part.3 ∙ ap (λ (l : List ℕ). Some l) (append_assoc held x part.0))

pub part-longer : (a b : Option (List ℕ)) (x y : List ℕ) → WrotePart a b x → WrotePart a b (x ++ y)
part-longer a b x y put held told =
    let part = put held told in
    (part.0, part.1 ++ y, ap (λ l. l ++ y) part.2 ∙ append_assoc part.0 part.1 y, part.3)

-- what was put whole was put in part
pub whole-part : (a b : Option (List ℕ)) (x : List ℕ) → Wrote a b x → WrotePart a b x
whole-part a b x put held told = (x, [], sym (append-nil x), put held told)

-- a count that rises from a later one rises from an earlier one
pub rose-later : (a b c : ℕ) → a ≤ b → Rose b c → Rose a c
rose-later a b c le rose = omega (arith, le, rose)

-- what an answer says once it was asked which it is
pub not-failed : {T E : Type 0} (r : Result T E) (P : Type 0) → is_err r ≡ false → OnOk r P → P
not-failed (Ok x) P e p = p
not-failed (Err x) P e p = clash true refl e

pub failed : {T E : Type 0} (r : Result T E) (P : Type 0) → is_err r ≡ true → OnErr r P → P
failed (Ok x) P e p = clash false e refl
failed (Err x) P e p = p

-- ---- blocks of zeros
pub none-put : (a : Option (List ℕ)) → Wrote a a (zero_blocks 0)
unfolding zero_blocks
none-put a held told = told ∙ ap (λ (l : List ℕ). Some l) (sym (append-nil held))

pub one-put : (a b c : Option (List ℕ)) (n : ℕ) → Wrote a b (zero_blocks n) → Wrote b c (replicate size 0) → Wrote a c (zero_blocks (n + 1))
one-put a b c n first second = subst (λ (l : List ℕ). Wrote a c l) (sym (one-more n)) (wrote-more a b c (zero_blocks n) (replicate size 0) first second)

pub one-cut : (a b c : Option (List ℕ)) (n count : ℕ) → n < count → Wrote a b (zero_blocks n) → WrotePart b c (replicate size 0) → WrotePart a c (zero_blocks count)
one-cut a b c n count below first second =
    let rest = rest-after n count below in
    let cut = part-longer a c (zero_blocks n ++ replicate size 0) rest.0 (part-more a b c (zero_blocks n) (replicate size 0) first second) in
    subst (λ (l : List ℕ). WrotePart a c l) (sym rest.1) cut

-- ---- a new container
pub used-cut : (a b : Option (List ℕ)) (spec : Spec) (used : List ℕ) → 57 ≤ spec.blocks → used ≡ blocks_from spec 0 57 → WrotePart a b used → WrotePart a b (fresh spec)
used-cut a b spec used enough is put =
    let rest : List ℕ = zero_blocks (spec.blocks - 57) in
    subst (λ (l : List ℕ). WrotePart a b l) (ap (λ (l : List ℕ). l ++ rest) is ∙ sym (used-and-free spec enough)) (part-longer a b used rest put)

pub all-put : (a b c : Option (List ℕ)) (spec : Spec) (used : List ℕ) → 57 ≤ spec.blocks → used ≡ blocks_from spec 0 57 → Wrote a b used → Wrote b c (zero_blocks (spec.blocks - 57)) → Wrote a c (fresh spec)
all-put a b c spec used enough is first second =
    let rest : List ℕ = zero_blocks (spec.blocks - 57) in
    subst (λ (l : List ℕ). Wrote a c l) (ap (λ (l : List ℕ). l ++ rest) is ∙ sym (used-and-free spec enough)) (wrote-more a b c used rest first second)

pub all-cut : (a b c : Option (List ℕ)) (spec : Spec) (used : List ℕ) → 57 ≤ spec.blocks → used ≡ blocks_from spec 0 57 → Wrote a b used → WrotePart b c (zero_blocks (spec.blocks - 57)) → WrotePart a c (fresh spec)
all-cut a b c spec used enough is first second =
    let rest : List ℕ = zero_blocks (spec.blocks - 57) in
    subst (λ (l : List ℕ). WrotePart a c l) (ap (λ (l : List ℕ). l ++ rest) is ∙ sym (used-and-free spec enough)) (part-more a b c used rest first second)
