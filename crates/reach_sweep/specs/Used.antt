-- The records of all object maps, as they are handed in.
use Rattle.std.specs.Prelude.{ℕ, List, ◌∷◌, map, Option, option_map}
use Rattle.obj_base.specs.declared.stop.Within.{Within}
use Rattle.obj_base.specs.declared.stop.Within.TheVariants.{Container, Volume}
use Rattle.nx_block.specs.Super.{omap_oid_of}
use Rattle.nx_ring.specs.Checkpoint.{Seen}
use Rattle.omap_map.specs.Resolve.{resolved}
use Rattle.omap_map.specs.declared.records.OmapRecord.{OmapRecord}
use Rattle.vol_view.specs.Volumes.{Loaded}
use Rattle.reach_gather.specs.Volumes.Told.{map_of}
use Rattle.view_sweep.specs.declared.used.Used.{Used}
use Rattle.view_sweep.specs.declared.idle.MapRecords.{MapRecords}
use Rattle.view_sweep.specs.Unused.{used_in}

-- the records of the map in a block, wherever the list of them stands
abbrev pub map_with : Within → ℕ → List OmapRecord → MapRecords
map_with within block records = record { within = within; map = block; records = record { ref_ptr = (0, 0); now = records } }

-- those of a loaded volume's map
abbrev pub volume_map : Loaded → MapRecords
volume_map volume = map_with (Volume volume.head.slot) (map_of volume) volume.omap.records

-- those of the container's map, and of the maps of its volumes
abbrev pub maps_of : Seen → List Loaded → List OmapRecord → List MapRecords
maps_of seen volumes records = map_with Container (omap_oid_of seen.nx) records ∷ map volume_map volumes

-- what a map is told by
abbrev pub told_by_map : MapRecords → Within × (ℕ × List OmapRecord)
told_by_map m = (m.within, (m.map, m.records.now))

-- of some records of the container's map, that to which the id of a volume resolves
abbrev pub found_of : Seen → List OmapRecord → Loaded → Option Used
found_of seen records volume = option_map (used_in (omap_oid_of seen.nx)) (resolved records volume.head.oid seen.line.xid)
