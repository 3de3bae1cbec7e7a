-- The rows that clap keeps of what was said, and what it makes of a name that is said again.
use Rattle.std.proofs.Common.{◌≡◌, ◌∙◌, ◌&&◌, ◌||◌, ◌⊎◌, ⊎_elim, inl, inr, ℕ, Bool, true, false, not, List, [], ◌∷◌, ◌++◌, Option, refl, sym, ap, ap₂, arith, if◌then◌else◌, true≢false, codes}
use Rattle.std.proofs.lemmas.Grind.{common_steps}
use Rattle.std.proofs.lemmas.Slice.Eq.{bytes_eq-Decides}
use Rattle.std.specs.Str.{bytes_eq}
use Rattle.clap.specs.Walk.{Row, at_row, has_row, is_empty, used, with_values, more_values, without}
use Rattle.clap.specs.Kinds.{Kinds, or_else}
use Rattle.clap.specs.Faults.{use_fault}
use Rattle.clap.specs.Values.{reading_of}
use Rattle.clap.specs.declared.builder.value_parser.ValueParser.TheVariants as vp
use Rattle.clap.specs.declared.parser.matches.ValueSource.TheVariants.{CommandLine}
use Rattle.clap.specs.declared.error.kind.ErrorKind.TheVariants as kind
use Rattle.cmd_words.specs.Said.{Said, Text, is_once, says}
use Rattle.cmd_words.proofs.Shapes.{row_for, rows_for, set_rule, flag_rule}

-- ---- the rows of what was said

pub has_row-said : (name : Text) (all : List Said) → has_row name (rows_for all) ≡ says name all
has_row-said name [] = refl
has_row-said name (s ∷ rest) = ap (λ (b : Bool). bytes_eq s.0 name || b) (has_row-said name rest)

-- a row of a name that has none goes to the end
pub row_pushed : (name : Text) (change : Row → List Row) (missing : List Row) (all : List Said) → says name all ≡ false → at_row name change missing (rows_for all) ≡ rows_for all ++ missing
row_pushed name change missing [] h = refl
row_pushed name change missing (s ∷ rest) h = go (bytes_eq s.0 name) h (row_pushed name change missing rest)
  where
    go : (b : Bool) → (b || says name rest) ≡ false → (says name rest ≡ false → at_row name change missing (rows_for rest) ≡ rows_for rest ++ missing)
        → (if b then change (row_for s) ++ rows_for rest else row_for s ∷ at_row name change missing (rows_for rest)) ≡ row_for s ∷ (rows_for rest ++ missing)
    go true h more = absurd (true≢false h)
    go false h more = ap (λ (rs : List Row). row_for s ∷ rs) (more h)

pub nil-append : (xs : List Row) → xs ++ [] ≡ xs
nil-append [] = refl
nil-append (x ∷ xs) = ap (λ (ys : List Row). x ∷ ys) (nil-append xs)

pub rows-push : (all : List Said) (s : Said) → rows_for all ++ row_for s ∷ [] ≡ rows_for (all ++ s ∷ [])
rows-push [] s = refl
rows-push (x ∷ all) s = ap (λ (ys : List Row). row_for x ∷ ys) (rows-push all s)

-- a value that is said for the first time
pub used_once : (name v : Text) (long : Option Text) (index : Option ℕ) (required : Bool) (all : List Said) → says name all ≡ false
    → used (set_rule name long index required) (v ∷ []) (rows_for all) ≡ rows_for (all ++ (name, v) ∷ [])
used_once name v long index required all h =
    let gone : without name (rows_for all) ≡ rows_for all = row_pushed name (λ _. []) [] all h ∙ nil-append (rows_for all) in
    ap (λ (rs : List Row). with_values name (reading_of vp.String) CommandLine (v ∷ []) rs) gone
    ∙ row_pushed name (more_values CommandLine (v ∷ [])) (row_for (name, v) ∷ []) all h ∙ rows-push all (name, v)

-- what a use comes to, where the name has a row or none
abbrev repeated : Bool → Kinds
repeated b = or_else (if b && not false then kind.ArgumentConflict ∷ [] else []) []

pub use_first : (name v : Text) (long : Option Text) (index : Option ℕ) (required : Bool) (all : List Said) → says name all ≡ false
    → use_fault false (set_rule name long index required) (v ∷ []) (rows_for all) ≡ []
use_first name v long index required all h = ap repeated (has_row-said name all ∙ h)

pub use_again : (name v : Text) (long : Option Text) (index : Option ℕ) (required : Bool) (all : List Said) → says name all ≡ true
    → is_empty (use_fault false (set_rule name long index required) (v ∷ []) (rows_for all)) ≡ false
use_again name v long index required all h = ap (λ (b : Bool). is_empty (repeated b)) (has_row-said name all ∙ h)

-- a flag that is said for the first time
pub flag_used : (name : Text) (all : List Said) → says name all ≡ false → used (flag_rule name) [] (rows_for all) ≡ rows_for (all ++ (name, codes "true") ∷ [])
flag_used name all h =
    let gone : without name (rows_for all) ≡ rows_for all = row_pushed name (λ _. []) [] all h ∙ nil-append (rows_for all) in
    ap (λ (rs : List Row). with_values name (reading_of vp.String) CommandLine (codes "true" ∷ []) rs) gone
    ∙ row_pushed name (more_values CommandLine (codes "true" ∷ [])) (row_for (name, codes "true") ∷ []) all h ∙ rows-push all (name, codes "true")

pub flag_first : (name : Text) (all : List Said) → says name all ≡ false → use_fault false (flag_rule name) [] (rows_for all) ≡ []
flag_first name all h = ap repeated (has_row-said name all ∙ h)

pub flag_again : (name : Text) (all : List Said) → says name all ≡ true → is_empty (use_fault false (flag_rule name) [] (rows_for all)) ≡ false
flag_again name all h = ap (λ (b : Bool). is_empty (repeated b)) (has_row-said name all ∙ h)

-- ---- what was said, twice or once

pub bool_cases : (b : Bool) → (b ≡ true) ⊎ (b ≡ false)
bool_cases true = inl refl
bool_cases false = inr refl

pub text_same : (a b : Text) → bytes_eq a b ≡ true → a ≡ b
text_same a b h = let d = bytes_eq-Decides a b in grind (arith, common_steps)

pub text_itself : (a : Text) → bytes_eq a a ≡ true
text_itself a = let d = bytes_eq-Decides a a in grind (arith, common_steps)

pub text_other : (a b : Text) → bytes_eq a b ≡ false → bytes_eq b a ≡ false
text_other a b h = ⊎_elim (λ (same : bytes_eq b a ≡ true). absurd (true≢false (sym (text_itself a) ∙ ap (λ (t : Text). bytes_eq a t) (sym (text_same b a same)) ∙ h))) (λ (e : bytes_eq b a ≡ false). e) (bool_cases (bytes_eq b a))

pub text_turned : (a b : Text) → bytes_eq a b ≡ true → bytes_eq b a ≡ true
text_turned a b h = ap (λ (t : Text). bytes_eq t a) (sym (text_same a b h)) ∙ text_itself a

pub says-append : (name : Text) (xs ys : List Said) → says name (xs ++ ys) ≡ (says name xs || says name ys)
says-append name [] ys = refl
says-append name (x ∷ xs) ys = go (bytes_eq x.0 name) (says-append name xs ys)
  where
    go : (b : Bool) → says name (xs ++ ys) ≡ (says name xs || says name ys) → (b || says name (xs ++ ys)) ≡ ((b || says name xs) || says name ys)
    go true more = refl
    go false more = more

pub both_false : (a b : Bool) → (a || b) ≡ false → (a ≡ false) × (b ≡ false)
both_false true b h = absurd (true≢false h)
both_false false b h = (refl, h)

pub both_true : (a b : Bool) → (a && b) ≡ true → (a ≡ true) × (b ≡ true)
both_true true b h = (refl, h)
both_true false b h = absurd (true≢false (sym h))

pub and_false : (a : Bool) → (a && false) ≡ false
and_false true = refl
and_false false = refl

pub or_true : (a : Bool) → (a || true) ≡ true
or_true true = refl
or_true false = refl

pub not_true : (a : Bool) → not a ≡ true → a ≡ false
not_true true h = absurd (true≢false (sym h))
not_true false h = refl

pub once_more : (all : List Said) (name v : Text) → is_once all ≡ true → says name all ≡ false → is_once (all ++ (name, v) ∷ []) ≡ true
once_more [] name v once absent = refl
once_more (s ∷ rest) name v once absent =
    let parts = both_true (not (says s.0 rest)) (is_once rest) once in
    let apart = both_false (bytes_eq s.0 name) (says name rest) absent in
    let clear : says s.0 (rest ++ (name, v) ∷ []) ≡ false = says-append s.0 rest ((name, v) ∷ [])
    ∙ ap₂ (λ (x y : Bool). x || (y || false)) (not_true (says s.0 rest) parts.0) (text_other s.0 name apart.0) in
    ap₂ (λ (x y : Bool). not x && y) clear (once_more rest name v parts.1 apart.1)

pub twice : (all more : List Said) (name v : Text) → says name all ≡ true → is_once (all ++ (name, v) ∷ more) ≡ false
twice [] more name v h = absurd (true≢false (sym h))
twice (s ∷ rest) more name v h = ⊎_elim here (there (λ (later : says name rest ≡ true). twice rest more name v later)) (bool_cases (bytes_eq s.0 name))
  where
    here : bytes_eq s.0 name ≡ true → is_once (s ∷ (rest ++ (name, v) ∷ more)) ≡ false
    here e = let found : says s.0 (rest ++ (name, v) ∷ more) ≡ true = says-append s.0 rest ((name, v) ∷ more)
        ∙ ap (λ (b : Bool). says s.0 rest || (b || says s.0 more)) (text_turned s.0 name e) ∙ or_true (says s.0 rest) in
        ap (λ (b : Bool). not b && is_once (rest ++ (name, v) ∷ more)) found

    there : (says name rest ≡ true → is_once (rest ++ (name, v) ∷ more) ≡ false) → bytes_eq s.0 name ≡ false → is_once (s ∷ (rest ++ (name, v) ∷ more)) ≡ false
    there below e = let later : says name rest ≡ true = ap (λ (b : Bool). b || says name rest) (sym e) ∙ h in
        ap (λ (b : Bool). not (says s.0 (rest ++ (name, v) ∷ more)) && b) (below later) ∙ and_false (not (says s.0 (rest ++ (name, v) ∷ more)))
