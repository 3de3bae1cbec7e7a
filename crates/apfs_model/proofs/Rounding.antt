-- How many whole units hold so many things, by the quotient and the remainder.
use Rattle.std.specs.Prelude.{◌≡◌, ℕ, ◌+◌, ◌-◌, ◌*◌, ◌/◌, ◌%◌, ◌<◌, ◌≤◌, min}
use Rattle.std.proofs.Common.{arith, ap, sym, ◌∙◌, ◌⊎◌, inl, inr}
use Rattle.std.proofs.lemmas.Bool.{cases_lt}
use Rattle.std.proofs.Math.Nat.{mod-lt}
use Rattle.std.proofs.lemmas.Nat.{div-mul-add}
use Rattle.apfs_model.specs.Blocks.{rounded_up}

rounding-step : (n unit q r : ℕ) → 1 ≤ unit → q * unit + r ≡ n → r < unit → (r < 1) ⊎ (1 ≤ r) → q + min 1 r ≡ rounded_up n unit
rounding-step n unit q r some e low (inl none) =
    let top : q * unit + (unit - 1) ≡ n + (unit - 1) = omega arith in
    let whole : (q * unit + (unit - 1)) / unit ≡ q = div-mul-add q unit (unit - 1) (omega arith) in
    let here : q + min 1 r ≡ q = omega arith in
    here ∙ (sym whole ∙ ap (λ m. m / unit) top)
rounding-step n unit q r some e low (inr more) =
    let top : (q + 1) * unit + (r - 1) ≡ n + (unit - 1) = omega arith in
    let whole : ((q + 1) * unit + (r - 1)) / unit ≡ q + 1 = div-mul-add (q + 1) unit (r - 1) (omega arith) in
    let here : q + min 1 r ≡ q + 1 = omega arith in
    here ∙ (sym whole ∙ ap (λ m. m / unit) top)

pub rounding : (n unit : ℕ) → 1 ≤ unit → n / unit + min 1 (n % unit) ≡ rounded_up n unit
rounding n unit some =
    let pos : 0 < unit = omega arith in
    rounding-step n unit (n / unit) (n % unit) some (omega arith) (mod-lt n pos) (cases_lt (n % unit) 1)
