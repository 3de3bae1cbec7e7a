-- A name ends before the first zero.
use Rattle.std.specs.Prelude.{◌≡◌, ℕ, ◌≤◌, ◌==◌, nat_lt, Bool, true, false, cond, List, length, take, position, None, Some}
use Rattle.std.specs.List.{before_first, position_or_len}
use Rattle.std.proofs.Common.{arith, ap, sym}
use Rattle.std.proofs.lemmas.Bool.Decides.{nat_tests}
use Rattle.std.proofs.lemmas.List.{take_all}

some-is : (m n k : ℕ) (b : Bool) → cond b (Some m) None ≡ Some n → m ≡ n
some-is m n k true e = cc
some-is m n k false e = absurd (cc)

none-is : (m k : ℕ) → cond (nat_lt m k) (Some m) None ≡ None → k ≤ m
none-is m k e = grind (arith, nat_tests)

-- where there is a zero, the bytes before it
pub name_cut : (raw : List ℕ) (n : ℕ) → position (λ b. b == 0) raw ≡ Some n → take n raw ≡ before_first (λ b. b == 0) raw
name_cut raw n e = ap (λ k. take k raw) (sym (some-is (position_or_len (λ b. b == 0) raw) n (length raw) (nat_lt (position_or_len (λ b. b == 0) raw) (length raw)) e))

-- where there is none, all bytes
pub name_full : (raw : List ℕ) → position (λ b. b == 0) raw ≡ None → raw ≡ before_first (λ b. b == 0) raw
name_full raw e = sym (take_all (position_or_len (λ b. b == 0) raw) raw (none-is (position_or_len (λ b. b == 0) raw) (length raw) e))
