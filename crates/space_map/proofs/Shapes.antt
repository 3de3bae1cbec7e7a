-- Shapes: what rooms say.
use Rattle.std.specs.Prelude.{◌≡◌, ℕ, ◌+◌, ◌-◌, ◌*◌, ◌/◌, ◌%◌, ◌<◌, ◌≤◌, true, nat_le, ◌&&◌, List}
use Rattle.std.proofs.Common.{arith, ap, sym, ◌∙◌}
use Rattle.std.proofs.Math.Nat.{div-mul-le_self, mul-le-mul_right, lt-div-mul-add}
use Rattle.std.proofs.lemmas.Nat.{div-mul-add}
use Rattle.apfs_model.specs.Blocks.{rounded_up}
use Rattle.apfs_model.proofs.BoolTests.{left-true, right-true, upto-from}
use Rattle.space_map.specs.Fields.{cib_chunks_of, cab_cibs_of}
use Rattle.space_map.specs.Geometry.{most_chunks, has_rooms}

-- rooms are of one thing or more
pub rooms_some : (size : ℕ) (manager : List ℕ) → has_rooms size manager ≡ true → (1 ≤ cib_chunks_of manager) × (1 ≤ cab_cibs_of manager)
unfolding has_rooms
rooms_some size manager e =
    let chunks = left-true (nat_le 1 (cib_chunks_of manager) && nat_le (cib_chunks_of manager) (most_chunks size)) _ e in
    let cibs = right-true (nat_le 1 (cib_chunks_of manager) && nat_le (cib_chunks_of manager) (most_chunks size)) _ e in (
      upto-from 1 (cib_chunks_of manager) (left-true (nat_le 1 (cib_chunks_of manager)) _ chunks),
      upto-from 1 (cab_cibs_of manager) (left-true (nat_le 1 (cab_cibs_of manager)) _ cibs),
    )

-- a unit that is needed begins among the things
pub unit_start : (n unit k : ℕ) → 1 ≤ unit → k < rounded_up n unit → k * unit < n
unit_start n unit k some low =
    let top : (n + (unit - 1)) / unit * unit ≤ n + (unit - 1) = div-mul-le_self (n + (unit - 1)) unit in
    let steps : (k + 1) * unit ≤ (n + (unit - 1)) / unit * unit = mul-le-mul_right unit (let up : k + 1 ≤ (n + (unit - 1)) / unit = omega (arith, low) in up) in
    let part : (k + 1) * unit ≡ k * unit + unit = omega arith in
    omega (arith, top, steps, part, some)

-- the units hold all things
pub units_hold : (n unit : ℕ) → 1 ≤ unit → n ≤ unit * rounded_up n unit
units_hold n unit some =
    let pos : 0 < unit = omega arith in
    let a : n + (unit - 1) < (n + (unit - 1)) / unit * unit + unit = lt-div-mul-add pos in
    let turn : unit * ((n + (unit - 1)) / unit) ≡ (n + (unit - 1)) / unit * unit = omega arith in
    omega (arith, a, turn)

mod-step : (q n j d r : ℕ) → d ≡ q → n * d + r ≡ q * n + j → r ≡ j
mod-step q n j d r same e = let f : n * q + r ≡ q * n + j = ap (λ m. n * m + r) (sym same) ∙ e in omega (arith, f)

pub mul-add-mod : (q n j : ℕ) → j < n → (q * n + j) % n ≡ j
mul-add-mod q n j low = mod-step q n j ((q * n + j) / n) ((q * n + j) % n) (div-mul-add q n j low) (let pos : 0 < n = omega arith in omega arith)
