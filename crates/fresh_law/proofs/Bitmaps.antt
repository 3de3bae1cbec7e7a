-- What the two bitmaps say.
use Rattle.std.proofs.Common.{arith, ◌≡◌, ℕ, ◌-◌, ◌*◌, ◌/◌, ◌%◌, ◌<◌, ◌≤◌, ◌^◌, Bool, true, false, not, ◌==◌, nat_lt, List, [], ◌∷◌, length, inl, inr, refl, ap, sym, ◌∙◌}
use Rattle.std.proofs.lemmas.Grind.{common_steps}
use Rattle.std.specs.Prelude.{get_or}
use Rattle.std.proofs.Math.Nat.{zero-div}
use Rattle.std.specs.List.{range_with_len, list_all}
use Rattle.std.proofs.lemmas.Bool.{cases_lt}
use Rattle.apfs_model.specs.Bytes.{has_bit, bit_at}
use Rattle.bt_node.proofs.Ranges.{one_passes}
use Rattle.img_format.specs.Tables.{size, Field, laid, is_laid, plain}
use Rattle.img_format.specs.Blocks.{pool_bitmap, chunk_bitmap}
use Rattle.fresh_law.specs.Facts.{HasBits}
use Rattle.fresh_law.proofs.Laid.{byte_in, laid-length, laid-byte, byte-past}

-- two truth values are the same
abbrev alike : Bool → Bool → Bool
alike true b = b
alike false b = not b

alike-same : (a b : Bool) → alike a b ≡ true → a ≡ b
alike-same true true e = refl
alike-same true false e = sym e
alike-same false true e = absurd (let z : false ≡ true = e in let q : ⊥ = cc in q)
alike-same false false e = refl

-- a byte of zero has no bit set
no-bit : (i : ℕ) → has_bit 0 i ≡ false
no-bit i = ap (λ n. n % 2 == 1) (zero-div (2 ^ i))

-- the bits of a block without a header, read in its table
plain-bit : (fields : List Field) (i : ℕ) → is_laid size 0 fields ≡ true → i < 8 * size → bit_at (plain fields) i ≡ has_bit (byte_in fields (i / 8)) (i % 8)
unfolding bit_at
plain-bit fields i e h =
    let here : i / 8 ≡ i / 8 - 0 = omega arith in
    ap (λ b. has_bit b (i % 8)) (ap (λ p. get_or (laid size 0 fields) p 0) here ∙ laid-byte fields size 0 (i / 8) e (omega arith) (omega (arith, h)))

-- where the fields end by byte 8 and the first 64 bits are right, all are
bits-by : (n : ℕ) (fields : List Field) → n ≤ 64 → is_laid size 0 fields ≡ true → is_laid 8 0 fields ≡ true →
    list_all (λ i. alike (has_bit (byte_in fields (i / 8)) (i % 8)) (nat_lt i n)) (range_with_len 0 64) ≡ true → HasBits n (plain fields)
bits-by n fields l e s all i h =
    plain-bit fields i e h ∙
    (elim (cases_lt i 64) as (λ _. has_bit (byte_in fields (i / 8)) (i % 8) ≡ nat_lt i n) [
      | inl low ↦ alike-same (has_bit (byte_in fields (i / 8)) (i % 8)) (nat_lt i n) (one_passes (λ i. alike (has_bit (byte_in fields (i / 8)) (i % 8)) (nat_lt i n)) 64 i all low)
      | inr high ↦
          ap (λ b. has_bit b (i % 8)) (byte-past fields 8 0 (i / 8) s (omega (arith, high)))
          ∙ no-bit (i % 8)
          ∙ sym (past n i (omega (arith, high, l)))
    ])
  where
    past : (n i : ℕ) → n ≤ i → nat_lt i n ≡ false
    past n i h = Prim.grind (arith, common_steps, h)

pub pool_bitmap-says : HasBits 2 pool_bitmap
unfolding pool_bitmap
pool_bitmap-says = bits-by 2 ((0, 0x03 ∷ []) ∷ []) (omega arith) refl refl refl

pub chunk_bitmap-says : HasBits 57 chunk_bitmap
unfolding chunk_bitmap
chunk_bitmap-says = bits-by 57 ((0, 0xff ∷ 0xff ∷ 0xff ∷ 0xff ∷ 0xff ∷ 0xff ∷ 0xff ∷ 0x01 ∷ []) ∷ []) (omega arith) refl refl refl

-- how long they are
pub pool_bitmap-long : length pool_bitmap ≡ size
unfolding pool_bitmap
pool_bitmap-long = laid-length ((0, 0x03 ∷ []) ∷ []) size 0 refl

pub chunk_bitmap-long : length chunk_bitmap ≡ size
unfolding chunk_bitmap
chunk_bitmap-long = laid-length ((0, 0xff ∷ 0xff ∷ 0xff ∷ 0xff ∷ 0xff ∷ 0xff ∷ 0xff ∷ 0x01 ∷ []) ∷ []) size 0 refl
