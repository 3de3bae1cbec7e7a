-- A rule is clear of a list, or an item breaks it.
use Rattle.std.proofs.Common.{◌≡◌, Bool, true, false, List, ◌⊎◌, inl, inr, refl, sym, ◌∙◌}
use Rattle.std.proofs.lemmas.Bool.{false≢true}
use Rattle.apfs_model.proofs.BoolTests.{test_or}
use Rattle.apfs_model.proofs.Searches.{every_or}
use Rattle.view_rules.specs.Words.{IsClear, IsBroken}

-- a rule is clear, or something breaks it
pub clear_or : {X P : Type 0} (breaks : X → Bool) (place_of : X → P) (xs : List X) → IsClear breaks xs ⊎ ((place : P) × IsBroken breaks place_of xs place)
clear_or {X} {P} breaks place_of xs =
    elim (every_or (λ x. breaks x ≡ false) (λ x. breaks x ≡ true) (λ x. elim (test_or (breaks x)) as (λ _. (breaks x ≡ false) ⊎ (breaks x ≡ true)) [ inl y ↦ inr y | inr n ↦ inl n ]) xs) as (λ _. IsClear breaks xs ⊎ ((place : P) × IsBroken breaks place_of xs place)) [
      | inl all ↦ inl all
      | inr t ↦ inr (place_of t.0, record { item = t.0; listed = t.1.0; same = refl; breach = t.1.1 })
    ]

-- what breaks a rule is none that is clear
pub broken-clear : {X P : Type 0} {breaks : X → Bool} {place_of : X → P} {xs : List X} {place : P} → IsBroken breaks place_of xs place → IsClear breaks xs → ⊥
broken-clear b clear = false≢true (sym (clear b.item b.listed) ∙ b.breach)
