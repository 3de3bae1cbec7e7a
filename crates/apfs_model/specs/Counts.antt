-- Counts of 64 bits, which stand at the greatest number once they reach it.
use Rattle.std.specs.Prelude.{ℕ, ◌+◌, ◌-◌, ◌^◌, ◌≤◌, min}

-- a number as it is given: the greatest number of 64 bits stands for each beyond it
abbrev pub given : ℕ → ℕ
given n = min n (2 ^ 64 - 1)

-- the count after one more
abbrev pub one_more : ℕ → ℕ
one_more n = given (n + 1)

-- the count is greater than before, or stands at the greatest number
abbrev pub Rose : ℕ → ℕ → Type 0
Rose old new = one_more old ≤ new
