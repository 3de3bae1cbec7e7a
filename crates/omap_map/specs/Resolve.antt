-- Which record of an object map an id resolves to (Object Maps, "Accessing Objects in an Object Map").
use Rattle.std.specs.Prelude.{ℕ, Bool, ◌&&◌, ◌==◌, nat_le, List, filter, Option, None, Some, option_map, option_and_then, if◌then◌else◌}
use Rattle.apfs_model.specs.Blocks.{in_container}
use Rattle.apfs_model.specs.Lists.{greatest}
use Rattle.omap_map.specs.Records.{is_deleted}
use Rattle.omap_map.specs.declared.records.OmapRecord.{OmapRecord}
use Rattle.omap_map.specs.declared.records.Place.{Place}

-- a record of an oid, of a transaction of at most x
abbrev pub is_for : ℕ → ℕ → OmapRecord → Bool
is_for oid x r = (r.oid == oid) && nat_le r.xid x

-- the record of an oid of the greatest transaction of at most x
unfoldable pub latest : List OmapRecord → ℕ → ℕ → Option OmapRecord
latest records oid x = greatest (λ (r : OmapRecord). r.xid) (filter (is_for oid x) records)

-- a record, where it isn't marked deleted
abbrev pub unless_deleted : OmapRecord → Option OmapRecord
unless_deleted r = if is_deleted r.flags then None else Some r

-- the record that an oid resolves to at x: the latest of at most x, and none where that one is marked deleted
unfoldable pub resolved : List OmapRecord → ℕ → ℕ → Option OmapRecord
resolved records oid x = option_and_then unless_deleted (latest records oid x)

-- where a record says that its object lies
abbrev pub place_of : OmapRecord → Place
place_of r = record { block = r.paddr; xid = r.xid; flags = r.flags; size = r.size }

-- the place that an oid resolves to at x
unfoldable pub resolve : List OmapRecord → ℕ → ℕ → Option Place
resolve records oid x = option_map place_of (resolved records oid x)

-- the block that an oid names at x, where its record gives one in a container of so many blocks
unfoldable pub named_by : List OmapRecord → ℕ → ℕ → ℕ → Option ℕ
named_by records x blocks oid = option_and_then (λ (p : Place). in_container blocks p.block) (resolve records oid x)
