-- Sizes of blocks.
use Rattle.std.proofs.Common.{◌≡◌, ℕ, ◌≤◌, true, arith}
use Rattle.std.proofs.lemmas.Bool.Decides.{nat_tests}
use Rattle.obj_base.specs.BlockSize.{is_accepted}

pub accepted_size : (size : ℕ) → is_accepted size ≡ true → (96 ≤ size) × (size ≤ 65536)
accepted_size size e =
    let low : 96 ≤ size = grind (arith, nat_tests) in
    let high : size ≤ 65536 = grind (arith, nat_tests) in
    (low, high)
