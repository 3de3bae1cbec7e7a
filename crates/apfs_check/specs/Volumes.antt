-- The volumes of a container: those whose superblocks are sound, their new ranges, and the extents of their views.
use Rattle.std.specs.Prelude.{ℕ, Bool, List, ◌∷◌, map, filter, flat_map, Some}
use Rattle.bt_node.specs.Entries.{Pair, bytes_in}
use Rattle.obj_base.specs.declared.site.Site.{Site}
use Rattle.nx_ring.specs.Checkpoint.{Seen, site_of}
use Rattle.fs_record.specs.Facts.{Fact}
use Rattle.fs_record.specs.declared.extents.FileExt.{FileExt}
use Rattle.vol_view.specs.Heads.{is_super, heads_of}
use Rattle.vol_view.specs.SnapRecords.{snapshot_pairs, snap_extents_of, is_snapshot_long}
use Rattle.vol_view.specs.Volumes.{Loaded, metadata_of, loaded_of}
use Rattle.vol_view.specs.Views.{rooted_views}
use Rattle.vol_view.specs.declared.head.VolHead.{VolHead}
use Rattle.vol_view.specs.declared.volume.View.{View}
use Rattle.ext_ref.specs.Ranges.{ranges_of}
use Rattle.ext_ref.specs.declared.range.NewRange.{NewRange}
use Rattle.view_rules.specs.Rules.{view_facts}

-- the superblock of a volume is sound
abbrev pub has_sound_super : List ℕ → Site → VolHead → Bool
has_sound_super image site head = is_super image site (Some head.oid) head.block

-- the volumes of a container whose superblocks are sound, by slot
unfoldable pub sound_heads : List ℕ → Seen → List VolHead
sound_heads image seen = filter (has_sound_super image (site_of seen)) (heads_of image seen)

-- the volume of a head
abbrev pub volume_of : List ℕ → Seen → VolHead → Loaded
volume_of image seen head = loaded_of image (site_of seen) head

-- the root of a snapshot's extent reference tree, as the snapshot's record gives it
abbrev pub record_extents_root : Pair → ℕ
record_extents_root pair = snap_extents_of (bytes_in pair.value)

-- the roots of the extent reference trees of a volume's snapshots, by transaction; of a record that is too short nothing is read
abbrev pub past_extents_roots : List ℕ → Site → VolHead → List ℕ
past_extents_roots image site head = map record_extents_root (filter is_snapshot_long (snapshot_pairs (metadata_of image site head)))

-- the new ranges of a volume, and after them those of its snapshots
unfoldable pub volume_ranges : List ℕ → Site → VolHead → List NewRange
volume_ranges image site head = flat_map (ranges_of image site) ((loaded_of image site head).extents_root ∷ past_extents_roots image site head)

-- an extent after its stream's id
abbrev pub extent_of : Fact FileExt → ℕ × FileExt
extent_of f = (f.id, f.what)

-- the extents of a view, each after its stream's id, in record order
abbrev pub view_extents : List ℕ → Site → Loaded → View → List (ℕ × FileExt)
view_extents image site volume view = map extent_of (view_facts image site volume view).extents

-- the extents of all views of a volume
unfoldable pub volume_extents : List ℕ → Seen → VolHead → List (ℕ × FileExt)
volume_extents image seen head = flat_map (view_extents image (site_of seen) (volume_of image seen head)) (rooted_views image seen head)
