-- The blocks that tell of chunks, and the bitmaps of chunks, by what is known of a space.
use Rattle.std.specs.Prelude.{ℕ, ◌+◌, ◌*◌, ◌/◌, ◌%◌, ◌==◌, max, List, [], ◌∷◌, ◌++◌, map, slice_index, if◌then◌else◌}
use Rattle.std.specs.List.{range_with_len}
use Rattle.space_map.specs.Fields.{cabs_of, cibs_of, cab_cibs_of, addresses_of}
use Rattle.space_map.specs.Stops.{Known}
use Rattle.space_map.specs.declared.chunk.Chunk.{Chunk}
use Rattle.reach_rules.specs.declared.naming.LookUp.TheVariants.{ByBlock}
use Rattle.reach_rules.specs.declared.naming.Object.TheVariants.{InBlock, OfId}
use Rattle.reach_rules.specs.declared.naming.Namer.TheVariants.{Whole}
use Rattle.reach_rules.specs.declared.naming.Expected.TheVariants.{AddressBlock, InfoBlock}
use Rattle.reach_rules.specs.declared.naming.Naming.{Naming}
use Rattle.reach_rules.specs.Naming.{naming}
use Rattle.reach_rules.specs.declared.owner.Who.TheVariants.{Bitmap}
use Rattle.reach_rules.specs.declared.owner.Owner.{Owner}
use Rattle.reach_rules.specs.Owners.{owner}

-- how many chunk-info blocks an address block names, and one where the manager says none
abbrev pub room_of : List ℕ → ℕ
room_of manager = max 1 (cab_cibs_of manager)

-- chunk-info address block i, by the manager of an id
abbrev pub known_cab : ℕ → Known → ℕ → Naming
known_cab oid space i = naming (Whole (OfId oid)) (addresses_of space.manager + 8 * i) (AddressBlock i) ByBlock (slice_index space.cabs i)

-- chunk-info block i, by the manager, or by its address block where there are any
abbrev pub known_cib : ℕ → Known → ℕ → Naming
known_cib oid space i =
    if cabs_of space.manager == 0 then naming (Whole (OfId oid)) (addresses_of space.manager + 8 * i) (InfoBlock i) ByBlock (slice_index space.cibs i)
    else naming (Whole (InBlock (slice_index space.cabs (i / room_of space.manager)))) (40 + 8 * (i % room_of space.manager)) (InfoBlock i) ByBlock (slice_index space.cibs i)

-- all of them, by index
abbrev pub known_cabs : ℕ → Known → List Naming
known_cabs oid space = map (known_cab oid space) (range_with_len 0 (cabs_of space.manager))

abbrev pub known_cibs : ℕ → Known → List Naming
known_cibs oid space = map (known_cib oid space) (range_with_len 0 (cibs_of space.manager))

-- the bitmap of the chunk of a number, where it has one
abbrev pub bitmap_at : ℕ → Chunk → List Owner
bitmap_at i chunk = if chunk.bitmap == 0 then [] else owner (Bitmap i) chunk.bitmap 1 ∷ []

-- the bitmaps of chunks, the first of them having a number
abbrev pub bitmaps_from : ℕ → List Chunk → List Owner
bitmaps_from i [] = []
bitmaps_from i (chunk ∷ chunks) = bitmap_at i chunk ++ bitmaps_from (i + 1) chunks
