-- What is known of the objects in the data area that were read to their end.
use Rattle.std.specs.Prelude.{◌≡◌, ℕ, Bool, not, ◌&&◌, ◌==◌, nat_le, List, Option, Some, None, if◌then◌else◌}
use Rattle.std.specs.Ordering.{nat_cmp, ordering_then}
use Rattle.std.specs.declared.cmp.Ordering.{Ordering}
use Rattle.std.specs.BTreeMap.{BTreeMap, get}
use Rattle.apfs_model.specs.Object.{sum_field, oid_of, xid_of, kind_of, kind_in, is_encrypted, has_no_header}
use Rattle.apfs_model.specs.Sum.{sum_of}
use Rattle.nx_ring.specs.declared.areas.Areas.{Areas}
use Rattle.nx_ring.specs.declared.mappings.Mapping.{Mapping}
use Rattle.nx_ring.specs.declared.known.Head.{Head}
use Rattle.nx_ring.specs.Objects.{mapped_bytes}

-- what the header of an object says that a mapping also says, and its transaction
unfoldable pub head_of : List ℕ → Head
head_of bytes = record { kind = kind_of bytes; oid = oid_of bytes; xid = xid_of bytes }

-- an object is neither encrypted nor without a header
unfoldable pub is_plain : List ℕ → Bool
is_plain bytes = not (is_encrypted bytes) && not (has_no_header bytes)

-- the stored sum of an object is the sum of its bytes
unfoldable pub is_summed : List ℕ → Bool
is_summed bytes = sum_field bytes == sum_of bytes

-- a header is the one that a mapping tells of, of a transaction of at most xid
abbrev pub is_expected : ℕ → Mapping → Head → Bool
is_expected xid m head = ((head.kind == kind_in m.type_bits) && (head.oid == m.oid)) && nat_le head.xid xid

-- the header of an object that is sound
abbrev pub sound_head : List ℕ → Option Head
sound_head bytes = if is_plain bytes && is_summed bytes then Some (head_of bytes) else None

-- the object of so many bytes from a block of the data area on
abbrev pub object_from : List ℕ → Areas → ℕ → ℕ → List ℕ
object_from image areas block size = mapped_bytes image areas (record { type_bits = 0; size = size; oid = 0; paddr = block })

-- places are ordered by first block, then by bytes
abbrev pub place_cmp : ℕ × ℕ → ℕ × ℕ → Ordering
place_cmp a b = ordering_then (nat_cmp a.0 b.0) (nat_cmp a.1 b.1)

-- what is kept of each place is the header of the object there, where it's sound
abbrev pub AreKnown : List ℕ → Areas → BTreeMap (ℕ × ℕ) (Option Head) → Type 0
AreKnown image areas known = (block size : ℕ) (sound : Option Head) → get place_cmp known (block, size) ≡ Some sound → sound ≡ sound_head (object_from image areas block size)
