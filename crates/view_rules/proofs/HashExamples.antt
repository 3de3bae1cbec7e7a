-- The hashes of names where case is folded: those of `a` and of `A` are 0x1E55EC.
use Rattle.std.proofs.Common.{◌≡◌, ℕ, zero, suc, true, false, List, [], ◌∷◌, map, None, refl, ap, ◌∙◌, arith}
use Rattle.std.specs.Prelude.{◌==◌, not, nat_lt, codes}
use Rattle.std.specs.List.{list_all}
use Rattle.std.specs.Str.{IsAscii}
use Rattle.std.proofs.lemmas.Bool.{ltb-true}
use Rattle.apfs_model.proofs.BoolTests.{left-true, right-true}
use Rattle.fs_name.specs.declared.naming.Names.TheVariants.{Folded}
use Rattle.fs_name.specs.Text.{is_ascii_name}
use Rattle.fs_name.specs.Crc.{after_bits, after_byte, crc32c_of}
use Rattle.fs_name.specs.Steps.{letter_of}
use Rattle.fs_name.specs.Hash.{hash_chars, name_hash_of}
use Rattle.fs_name.proofs.NormalLemmas.{ascii_normal_form}
use Rattle.fs_record.specs.Entries.{Entry}
use Rattle.fs_record.specs.Facts.{Fact}
use Rattle.view_rules.specs.Facts.{Facts}
use Rattle.view_rules.specs.Names.{has_other_hash, has_other_ascii_hash}

-- a text of bytes below 128 is ASCII
pub ascii-by : (bs : List ℕ) → list_all (λ b. nat_lt b 128) bs ≡ true → IsAscii bs
ascii-by [] e zero = omega arith
ascii-by [] e (suc i) = omega arith
ascii-by (b ∷ bs) e zero = ltb-true b 128 (left-true (nat_lt b 128) (list_all (λ b. nat_lt b 128) bs) e)
ascii-by (b ∷ bs) e (suc i) = ascii-by bs (right-true (nat_lt b 128) (list_all (λ b. nat_lt b 128) bs) e) i

folded : (name : List ℕ) → IsAscii name → name_hash_of Folded name ≡ hash_chars (map (letter_of Folded) name)
unfolding name_hash_of
folded name ascii = ap hash_chars (ascii_normal_form Folded name ascii)

computed : hash_chars (0x61 ∷ []) ≡ 0x1E55EC
unfolding hash_chars crc32c_of after_byte after_bits
computed = refl

small : name_hash_of Folded (codes "a") ≡ 0x1E55EC
small = folded (codes "a") (ascii-by (codes "a") refl) ∙ computed

capital : name_hash_of Folded (codes "A") ≡ 0x1E55EC
capital = folded (codes "A") (ascii-by (codes "A") refl) ∙ computed

abbrev facts : Facts
facts = record { names = Folded; inodes = []; entries = []; attributes = []; links = []; siblings = []; extents = [] }

abbrev entry : List ℕ → ℕ → Fact Entry
entry name hash = record { id = 2; what = record { name = name; hash = hash; file_id = 16; kind = 8; sibling = None } }

-- the hash of a name, in either case; and one whose lowest bit is changed
right_hash : has_other_ascii_hash facts (entry (codes "a") 0x1E55EC) ≡ false
unfolding has_other_ascii_hash has_other_hash is_ascii_name
right_hash = ap (λ h. not (0x1E55EC == h)) small

right_capital : has_other_ascii_hash facts (entry (codes "A") 0x1E55EC) ≡ false
unfolding has_other_ascii_hash has_other_hash is_ascii_name
right_capital = ap (λ h. not (0x1E55EC == h)) capital

other_hash : has_other_ascii_hash facts (entry (codes "a") 0x1E55ED) ≡ true
unfolding has_other_ascii_hash has_other_hash is_ascii_name
other_hash = ap (λ h. not (0x1E55ED == h)) small
