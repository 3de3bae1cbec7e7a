-- Sizes of images of whole blocks.
use Rattle.std.proofs.Common.{◌≡◌, ℕ, ◌*◌, ◌%◌, ◌≤◌, ◌∙◌, ap, sym, subst}
use Rattle.std.proofs.Math.Nat.{mul-mod_right, mul-le-mul_left}

-- so many blocks are whole
pub whole_blocks : (bytes size n : ℕ) → bytes ≡ size * n → bytes % size ≡ 0
whole_blocks bytes size n is = ap (λ b. b % size) is ∙ mul-mod_right size n

-- more blocks have more bytes
pub more_blocks : (bytes size m n : ℕ) → bytes ≡ size * n → m ≤ n → size * m ≤ bytes
more_blocks bytes size m n is more = let P : ℕ → Type 0 = λ b. size * m ≤ b in subst P (sym is) (mul-le-mul_left size more)
