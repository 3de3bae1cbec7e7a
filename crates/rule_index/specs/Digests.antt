-- Numbers that names determine.
use Rattle.std.specs.Prelude.{ℕ, ◌+◌, ◌*◌, ◌%◌, ◌^◌, List, Option, Some}
use Rattle.std.specs.List.{fold}
use Rattle.fs_record.specs.Entries.{Entry}
use Rattle.fs_record.specs.Attributes.{Attribute}
use Rattle.fs_record.specs.Facts.{Fact}
use Rattle.rule_index.specs.declared.digests.TheConstants.{FACTOR}

-- a digest, and one more byte
abbrev pub with_byte : ℕ → ℕ → ℕ
with_byte digest byte = ((digest * FACTOR) % 2 ^ 64 + byte) % 2 ^ 64

-- the digest of a name in a directory or of a file: equal names have equal digests
unfoldable pub digest_of : ℕ → List ℕ → ℕ
digest_of id name = fold with_byte id name

-- the digest of an entry's name
abbrev pub entry_digest : Fact Entry → Option ℕ
entry_digest e = Some (digest_of e.id e.what.name)

-- the digest of an attribute's name
abbrev pub attribute_digest : Fact Attribute → Option ℕ
attribute_digest a = Some (digest_of a.id a.what.name)
