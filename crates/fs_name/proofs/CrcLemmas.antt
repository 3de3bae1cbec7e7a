-- A remainder goes eight bits at a time by a table, and 32 by four.
use Rattle.std.proofs.Common.{◌≡◌, ℕ, zero, suc, ◌+◌, ◌*◌, ◌/◌, ◌%◌, ◌^◌, ◌<◌, true, cond, eqb, eqb-true, List, get_or, refl, sym, ap, ap₂, ◌∙◌, arith}
use Rattle.std.specs.Prelude.{bit_xor, bit_and}
use Rattle.std.specs.Int.{w32, to_le_bytes}
use Rattle.std.proofs.Math.Nat.{pow-suc, mul_assoc}
use Rattle.std.proofs.lemmas.Bool.{agree_below_at}
use Rattle.std.proofs.lemmas.Nat.{xor_lt, xor_mod, xor_shr, xor_comm, and_mask, shr_split}
use lib.Bits.{xor_assoc, xor_self, xor_zero_r, xor_shifted}
use Rattle.fs_name.specs.declared.crc.TheConstants.{TABLE, TABLE_2, TABLE_3, TABLE_4}
use Rattle.fs_name.specs.Crc.{polynomial, after_bit, after_bits, after_byte, after_bytes}

swapped : (a b p : ℕ) → bit_xor (bit_xor a b) p ≡ bit_xor (bit_xor a p) b
swapped a b p = xor_assoc a b p ∙ ap (bit_xor a) (xor_comm b p) ∙ sym (xor_assoc a p b)

twice : (a b p : ℕ) → bit_xor a b ≡ bit_xor (bit_xor a p) (bit_xor b p)
twice a b p =
    ap (bit_xor a) (sym (xor_assoc b p p ∙ ap (bit_xor b) (xor_self p) ∙ xor_zero_r b))
    ∙ sym (xor_assoc a (bit_xor b p) p) ∙ swapped a (bit_xor b p) p

chosen : (i j a b p : ℕ) → i < 2 → j < 2 → cond (eqb (bit_xor i j) 1) (bit_xor (bit_xor a b) p) (bit_xor a b) ≡ bit_xor (cond (eqb i 1) (bit_xor a p) a) (cond (eqb j 1) (bit_xor b p) b)
chosen zero zero a b p _ _ = refl
chosen zero (suc zero) a b p _ _ = xor_assoc a b p
chosen (suc zero) zero a b p _ _ = swapped a b p
chosen (suc zero) (suc zero) a b p _ _ = twice a b p
chosen (suc (suc n)) j a b p low _ = absurd (omega (arith, low))
chosen i (suc (suc n)) a b p _ low = absurd (omega (arith, low))

-- of two numbers joined by an exclusive or, each goes by itself
linear_bit : (a b : ℕ) → after_bit (bit_xor a b) ≡ bit_xor (after_bit a) (after_bit b)
linear_bit a b =
    rw (xor_mod a b 1, xor_shr a b 1) (chosen (a % 2) (b % 2) (a / 2) (b / 2) polynomial (omega arith) (omega arith))

linear : (n a b : ℕ) → after_bits n (bit_xor a b) ≡ bit_xor (after_bits n a) (after_bits n b)
unfolding after_bits
linear zero a b = refl
linear (suc n) a b = ap (after_bits n) (linear_bit a b) ∙ linear n (after_bit a) (after_bit b)

-- some bits, and then more
more_bits : (m n x : ℕ) → after_bits (m + n) x ≡ after_bits n (after_bits m x)
unfolding after_bits
more_bits zero n x = let none : 0 + n ≡ n = omega arith in ap (λ k. after_bits k x) none
more_bits (suc m) n x =
    let one : suc m + n ≡ suc (m + n) = omega arith in ap (λ k. after_bits k x) one ∙ more_bits m n (after_bit x)

-- what stands above the lowest n bits goes down by n
unset_bit : (d : ℕ) → after_bit (d * 2) ≡ d
unset_bit d =
    let even : (d * 2) % 2 ≡ 0 = omega arith in
    let half : d * 2 / 2 ≡ d = omega arith in
    rw (even, half) refl

unset_bits : (n d : ℕ) → after_bits n (d * 2 ^ n) ≡ d
unfolding after_bits
unset_bits zero d = omega arith
unset_bits (suc n) d =
    let double : d * 2 ^ suc n ≡ d * 2 ^ n * 2 = ap (λ x. d * x) (pow-suc 2 n) ∙ sym (mul_assoc d (2 ^ n) 2) in
    ap (λ x. after_bits n (after_bit x)) double ∙ ap (after_bits n) (unset_bit (d * 2 ^ n)) ∙ unset_bits n d

shifted_bits : (n c d : ℕ) → after_bits n (bit_xor c (d * 2 ^ n)) ≡ bit_xor (after_bits n c) d
shifted_bits n c d = linear n c (d * 2 ^ n) ∙ ap (bit_xor (after_bits n c)) (unset_bits n d)

-- a number, split at its lowest byte
split_byte : (x : ℕ) → bit_xor (x % 256) (x / 256 * 256) ≡ x
split_byte x =
    let low : x % 256 < 2 ^ 8 = omega arith in
    xor_comm (x % 256) (x / 256 * 256) ∙ xor_shifted (x / 256) 8 (x % 256) low ∙ shr_split x 8

two_bytes : (x : ℕ) → x / 65536 ≡ x / 256 / 256
two_bytes x = omega arith

three_bytes : (x : ℕ) → x / 16777216 ≡ x / 65536 / 256
three_bytes x = omega arith

-- the byte that came in leaves nothing above it
high_part : (c byte : ℕ) → byte < 256 → bit_xor c byte / 256 ≡ c / 256
high_part c byte low =
    let none : byte / 2 ^ 8 ≡ 0 = omega arith in xor_shr c byte 8 ∙ ap (bit_xor (c / 256)) none ∙ xor_zero_r (c / 256)

-- a table of remainders after n bits
abbrev IsTable : ℕ → List ℕ → Type 0
IsTable n table = (i : ℕ) → i < 256 → get_or table i 0 ≡ after_bits n i

-- the tables' rules, at each of their entries
table_right : IsTable 8 TABLE
unfolding after_bits
table_right i low =
    eqb-true _ _ (agree_below_at (λ b. eqb (get_or TABLE b 0) (after_bits 8 b)) (λ b. true) 256 i refl low)

table_2_right : IsTable 16 TABLE_2
unfolding after_bits
table_2_right i low =
    eqb-true _ _ (agree_below_at (λ b. eqb (get_or TABLE_2 b 0) (after_bits 16 b)) (λ b. true) 256 i refl low)

table_3_right : IsTable 24 TABLE_3
unfolding after_bits
table_3_right i low =
    eqb-true _ _ (agree_below_at (λ b. eqb (get_or TABLE_3 b 0) (after_bits 24 b)) (λ b. true) 256 i refl low)

table_4_right : IsTable 32 TABLE_4
unfolding after_bits
table_4_right i low =
    eqb-true _ _ (agree_below_at (λ b. eqb (get_or TABLE_4 b 0) (after_bits 32 b)) (λ b. true) 256 i refl low)

-- the entry of a number's lowest byte
entry : (n : ℕ) (table : List ℕ) → IsTable n table → (x : ℕ) → get_or table (bit_and x 255) 0 ≡ after_bits n (x % 256)
entry n table right x = ap (λ i. get_or table i 0) (and_mask x 8) ∙ right (x % 256) (omega arith)

-- one byte by the table
lowest_byte : (x : ℕ) → after_bits 8 x ≡ bit_xor (after_bits 8 (x % 256)) (x / 256)
lowest_byte x = ap (after_bits 8) (sym (split_byte x)) ∙ shifted_bits 8 (x % 256) (x / 256)

pub after_byte-table : (c byte : ℕ) → byte < 256 → bit_xor (get_or TABLE (bit_and (bit_xor c byte) 255) 0) (c / 256) ≡ after_byte c byte
unfolding after_byte
after_byte-table c byte low =
    ap₂ bit_xor (entry 8 TABLE table_right (bit_xor c byte)) (sym (high_part c byte low)) ∙ sym (lowest_byte (bit_xor c byte))

-- the lowest byte goes apart from those above it
byte_apart : (n x : ℕ) → bit_xor (after_bits n (x / 256)) (after_bits (8 + n) (x % 256)) ≡ after_bits (8 + n) x
byte_apart n x =
    xor_comm (after_bits n (x / 256)) (after_bits (8 + n) (x % 256))
    ∙ ap (λ y. bit_xor y (after_bits n (x / 256))) (more_bits 8 n (x % 256))
    ∙ sym (more_bits 8 n x ∙ ap (after_bits n) (lowest_byte x) ∙ linear n (after_bits 8 (x % 256)) (x / 256))

-- four bytes by the tables
two_apart : (x : ℕ) → x < 2 ^ 16 → bit_xor (get_or TABLE (x / 256) 0) (get_or TABLE_2 (bit_and x 255) 0) ≡ after_bits 16 x
two_apart x low = ap₂ bit_xor (table_right (x / 256) (omega arith)) (entry 16 TABLE_2 table_2_right x) ∙ byte_apart 8 x

three_apart : (x : ℕ) → x < 2 ^ 24 → bit_xor (bit_xor (get_or TABLE (x / 65536) 0) (get_or TABLE_2 (bit_and (x / 256) 255) 0)) (get_or TABLE_3 (bit_and x 255) 0) ≡ after_bits 24 x
three_apart x low =
    rw (two_bytes x) (ap₂ bit_xor (two_apart (x / 256) (omega arith)) (entry 24 TABLE_3 table_3_right x) ∙ byte_apart 16 x)

four_apart : (x : ℕ) → x < 2 ^ 32 → bit_xor (bit_xor (bit_xor (get_or TABLE (x / 16777216) 0) (get_or TABLE_2 (bit_and (x / 65536) 255) 0)) (get_or TABLE_3 (bit_and (x / 256) 255) 0)) (get_or TABLE_4 (bit_and x 255) 0) ≡ after_bits 32 x
four_apart x low =
    rw (three_bytes x, two_bytes x) (ap₂ bit_xor (rw (sym (two_bytes (x / 256))) (three_apart (x / 256) (omega arith))) (entry 32 TABLE_4 table_4_right x) ∙ byte_apart 24 x)

-- the lowest byte of a number goes first
byte_first : (n c word : ℕ) → after_bits n (bit_xor (after_byte c (word % 256)) (word / 256)) ≡ after_bits (8 + n) (bit_xor c word)
unfolding after_byte
byte_first n c word =
    ap (after_bits n)
    (sym (shifted_bits 8 (bit_xor c (word % 256)) (word / 256))
    ∙ ap (after_bits 8) (xor_assoc c (word % 256) (word / 256 * 256) ∙ ap (bit_xor c) (split_byte word)))
    ∙ sym (more_bits 8 n (bit_xor c word))

-- the bytes of a number, the lowest first, are its bits
word_bits : (c word : ℕ) → word < 2 ^ 32 → after_bytes c (to_le_bytes w32 word) ≡ after_bits 32 (bit_xor c word)
unfolding after_byte
word_bits c word low =
    let first = after_byte c (word % 256) in
    let second = after_byte first (word / 256 % 256) in
    let third = after_byte second (word / 65536 % 256) in
    let last : word / 16777216 % 256 ≡ word / 16777216 = omega arith in
    ap (after_byte third) (last ∙ three_bytes word) ∙ byte_first 8 second (word / 65536)
    ∙ ap (λ d. after_bits 16 (bit_xor second d)) (two_bytes word) ∙ byte_first 16 first (word / 256)
    ∙ byte_first 24 c word

pub after_word-tables : (c word : ℕ) → c < 2 ^ 32 → word < 2 ^ 32 → bit_xor (bit_xor (bit_xor (get_or TABLE (bit_xor c word / 16777216) 0) (get_or TABLE_2 (bit_and (bit_xor c word / 65536) 255) 0)) (get_or TABLE_3 (bit_and (bit_xor c word / 256) 255) 0)) (get_or TABLE_4 (bit_and (bit_xor c word) 255) 0) ≡ after_bytes c (to_le_bytes w32 word)
after_word-tables c word low_c low_word = four_apart (bit_xor c word) (xor_lt 32 c word low_c low_word) ∙ sym (word_bits c word low_word)
