-- What the readers answer, by the place of an extended field.
use Rattle.std.specs.Prelude.{◌≡◌, ℕ, ◌<◌, ◌≤◌, ◌%◌, List, length, Option, None, Some, option_map, Ok, Err}
use Rattle.std.proofs.Common.{arith}
use Rattle.std.proofs.lemmas.Grind.{common_steps}
use Rattle.std.proofs.lemmas.Bool.Decides.{nat_tests}
use Rattle.apfs_model.specs.Bytes.{u16_at, u64_at}
use Rattle.fs_name.specs.declared.naming.Names.{Names}
use Rattle.fs_name.specs.Steps.{name_of}
use Rattle.fs_record.specs.Reading.{field_place}
use Rattle.fs_record.specs.Inodes.{inode_of, stream_at, stream_of, parent_of, private_id_of, links_of, bsd_flags_of, mode_of}
use Rattle.fs_record.specs.Entries.{entry_of, entry_hash, entry_name_bytes, sibling_of}
use Rattle.fs_record.specs.declared.fault.RecFault.{RecFault}
use Rattle.fs_record.specs.declared.fault.RecFault.TheVariants.{Length, Name}

pub inode_short : (value : List ℕ) → length value < 92 → inode_of value ≡ Err Length
unfolding inode_of
inode_short value e = grind (arith, nat_tests, common_steps)

pub inode_bad : (value : List ℕ) (why : RecFault) → 92 ≤ length value → field_place value 92 8 40 ≡ Err why → inode_of value ≡ Err why
unfolding inode_of field_place
inode_bad value why long e = grind (arith, nat_tests, common_steps)

pub inode_read : (value : List ℕ) (place : Option ℕ) → 92 ≤ length value → field_place value 92 8 40 ≡ Ok place → inode_of value ≡ Ok (record { parent = parent_of value; private_id = private_id_of value; links = links_of value; bsd_flags = bsd_flags_of value; mode = mode_of value; stream = option_map (stream_at value) place })
unfolding inode_of field_place stream_of
inode_read value place long e = grind (arith, nat_tests, common_steps)

pub entry_short : (names : Names) (key value : List ℕ) → length value < 18 → entry_of names key value ≡ Err Length
unfolding entry_of
entry_short names key value e = grind (arith, nat_tests, common_steps)

pub entry_bad : (names : Names) (key value : List ℕ) (why : RecFault) → 18 ≤ length value → field_place value 18 1 8 ≡ Err why → entry_of names key value ≡ Err why
unfolding entry_of field_place
entry_bad names key value why long e = grind (arith, nat_tests, common_steps)

pub entry_unnamed : (names : Names) (key value : List ℕ) (place : Option ℕ) → 18 ≤ length value → field_place value 18 1 8 ≡ Ok place → name_of (entry_name_bytes names key) ≡ None → entry_of names key value ≡ Err Name
unfolding entry_of field_place name_of
entry_unnamed names key value place long e f = grind (arith, nat_tests, common_steps)

pub entry_read : (names : Names) (key value : List ℕ) (place : Option ℕ) (name : List ℕ) → 18 ≤ length value → field_place value 18 1 8 ≡ Ok place → name_of (entry_name_bytes names key) ≡ Some name
    → entry_of names key value ≡ Ok (record { name = name; hash = entry_hash names key; file_id = u64_at value 0; kind = u16_at value 16 % 16; sibling = option_map (u64_at value) place })
unfolding entry_of field_place name_of sibling_of
entry_read names key value place name long e f = grind (arith, nat_tests, common_steps)
