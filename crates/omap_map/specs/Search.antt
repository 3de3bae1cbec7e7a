-- How records are searched.
use Rattle.std.specs.Prelude.{ℕ, Bool, ◌&&◌, ◌||◌, ◌==◌, nat_lt, nat_le}
use Rattle.omap_map.specs.declared.records.OmapRecord.{OmapRecord}

-- a record doesn't come after an id and a transaction
abbrev pub is_by : ℕ → ℕ → OmapRecord → Bool
is_by oid x r = nat_lt r.oid oid || ((r.oid == oid) && nat_le r.xid x)
