-- Names of ASCII characters.
use Rattle.std.proofs.Common.{◌≡◌, ℕ, zero, suc, ◌≤◌, Bool, true, false, List, [], ◌∷◌, refl, ap, arith}
use Rattle.std.specs.Prelude.{IsAscii, nat_lt, ◌&&◌, slice_index}
use Rattle.std.specs.Str.{IsNotAscii}
use Rattle.std.specs.List.{list_all}
use Rattle.std.proofs.lemmas.Bool.Decides.{nat_tests}
use Rattle.apfs_model.proofs.BoolTests.{from-below, both-true}
use Rattle.fs_name.specs.Text.{is_ascii_name}

pub ascii_name : (name : List ℕ) → IsAscii name → is_ascii_name name ≡ true
unfolding is_ascii_name
ascii_name [] ascii = refl
ascii_name (b ∷ bs) ascii = both-true (nat_lt b 128) (list_all (λ c. nat_lt c 128) bs) (from-below b 128 (ascii 0)) (ascii_name bs (λ i. ascii (suc i)))

second-false : (a b : Bool) → b ≡ false → (a && b) ≡ false
second-false true b e = e
second-false false b e = refl

not-below : (b : ℕ) → 128 ≤ b → nat_lt b 128 ≡ false
not-below b high = grind (arith, nat_tests)

other-at : (name : List ℕ) (i : ℕ) → 128 ≤ slice_index name i → is_ascii_name name ≡ false
unfolding is_ascii_name
other-at [] i high = absurd (omega arith)
other-at (b ∷ bs) zero high = ap (λ t. t && list_all (λ c. nat_lt c 128) bs) (not-below b high)
other-at (b ∷ bs) (suc i) high = second-false (nat_lt b 128) (list_all (λ c. nat_lt c 128) bs) (other-at bs i high)

pub other_name : (name : List ℕ) → IsNotAscii name → is_ascii_name name ≡ false
other_name name other = other-at name other.0 other.1
