-- The hash of a name (File-System Objects, j_drec_hashed_key_t, name_len_and_hash).
use Rattle.std.specs.Prelude.{ℕ, ◌%◌, ◌^◌, List, flat_map}
use Rattle.std.specs.Int.{w32, bit_not, to_le_bytes}
use Rattle.fs_name.specs.declared.naming.Names.{Names}
use Rattle.fs_name.specs.Crc.{crc32c_of}
use Rattle.fs_name.specs.Normal.{normal_form}

-- characters as numbers of 32 bits, each with its lowest byte first
abbrev pub bytes_of_chars : List ℕ → List ℕ
bytes_of_chars cs = flat_map (to_le_bytes w32) cs

-- the hash of characters: the low 22 bits of their CRC-32C, complemented
unfoldable pub hash_chars : List ℕ → ℕ
hash_chars cs = bit_not w32 (crc32c_of (bytes_of_chars cs)) % 2 ^ 22

-- the hash of a name is that of its normal form
unfoldable pub name_hash_of : Names → List ℕ → ℕ
name_hash_of names name = hash_chars (normal_form names name)
