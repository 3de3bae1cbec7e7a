-- Hashes from remainders.
use Rattle.std.proofs.Common.{◌≡◌, ℕ, ◌%◌, ◌^◌, ◌<◌, List, [], ◌∷◌, map, fold, refl, sym, ap, ◌∙◌, arith}
use Rattle.std.specs.Prelude.{bit_and}
use Rattle.std.specs.Int.{w32, bit_not, to_le_bytes}
use Rattle.std.specs.Str.{IsAscii}
use Rattle.std.proofs.lemmas.List.Sums.{fold-append}
use Rattle.std.proofs.lemmas.List.Folds.{fold-map}
use Rattle.std.proofs.lemmas.Nat.{and_mask}
use Rattle.fs_name.specs.declared.naming.Names.{Names}
use Rattle.fs_name.specs.Crc.{ones, after_byte, after_bytes, crc32c_of}
use Rattle.fs_name.specs.Hash.{bytes_of_chars, hash_chars, name_hash_of}
use Rattle.fs_name.specs.Steps.{after_char, letter_of}
use Rattle.fs_name.proofs.NormalLemmas.{ascii_normal_form}

-- the bytes of characters go one character at a time
after_bytes-chars : (remainder : ℕ) (cs : List ℕ) → after_bytes remainder (bytes_of_chars cs) ≡ fold after_char remainder cs
after_bytes-chars remainder [] = refl
after_bytes-chars remainder (c ∷ cs) =
    fold-append after_byte remainder (to_le_bytes w32 c) (bytes_of_chars cs) ∙ after_bytes-chars (after_char remainder c) cs

twice_not : (x : ℕ) → x < 2 ^ 32 → x ≡ bit_not w32 (bit_not w32 x)
twice_not x low = Prim.omega arith

-- a hash is the low part of the remainder
pub hash_from_remainder : (x : ℕ) (cs : List ℕ) → x < 2 ^ 32 → x ≡ fold after_char ones cs → bit_and x 4194303 ≡ hash_chars cs
unfolding hash_chars crc32c_of
hash_from_remainder x cs low e =
    and_mask x 22
    ∙ ap (λ y. y % 2 ^ 22) (twice_not x low ∙ ap (λ y. bit_not w32 (bit_not w32 y)) (e ∙ sym (after_bytes-chars ones cs)))

-- the hash of an ASCII name, from the remainder after its letters
pub ascii_from_remainder : (x : ℕ) (names : Names) (name : List ℕ) → IsAscii name → x < 2 ^ 32 → x ≡ fold (λ rest b. after_char rest (letter_of names b)) ones name → bit_and x 4194303 ≡ name_hash_of names name
unfolding name_hash_of
ascii_from_remainder x names name ascii low e =
    hash_from_remainder x (map (letter_of names) name) low (e ∙ sym (fold-map after_char (letter_of names) ones name))
    ∙ ap hash_chars (sym (ascii_normal_form names name ascii))
