-- The views of the volumes that were loaded: what they name, and how they are swept.
use Rattle.std.specs.Prelude.{◌≡◌, ℕ, zero, suc, List, [], ◌∷◌, ◌++◌, map, flat_map, slice_get, length, Option, None, Some}
use Rattle.apfs_model.specs.Lists.{In}
use Rattle.fs_name.specs.Normal.{are_hashed}
use Rattle.nx_block.specs.Super.{omap_oid_of}
use Rattle.nx_ring.specs.Checkpoint.{Seen, site_of}
use Rattle.omap_map.specs.Maps.{resolved_in}
use Rattle.omap_map.specs.declared.records.OmapRecord.{OmapRecord}
use Rattle.vol_view.specs.Volumes.{Loaded}
use Rattle.vol_view.specs.LoadStops.{IsVolumeOf}
use Rattle.vol_view.specs.declared.head.VolHead.{VolHead}
use Rattle.vol_view.specs.declared.volume.Snapshot.{Snapshot}
use Rattle.reach_rules.specs.declared.naming.ViewAt.{ViewAt}
use Rattle.reach_rules.specs.declared.naming.Object.TheVariants.{Newest, InBlock}
use Rattle.reach_rules.specs.declared.naming.Namer.{Namer}
use Rattle.reach_rules.specs.declared.naming.Namer.TheVariants.{Whole}
use Rattle.reach_rules.specs.declared.naming.Naming.{Naming}
use Rattle.reach_gather.specs.Joined.{HaveSame}
use Rattle.reach_gather.specs.Container.{all_views}
use Rattle.reach_gather.specs.Volumes.Told.{map_of, live_at, past_at}
use Rattle.reach_gather.specs.Volumes.Parts.{volume_namer}
use Rattle.reach_gather.specs.Volumes.Laws.{HasParts}
use Rattle.view_sweep.specs.declared.wanted.SweptView.{SweptView}
use Rattle.view_sweep.specs.declared.wanted.Head.{Head}
use Rattle.view_sweep.specs.Wanted.{AreToldHeads, AreBelowHeads}
use Rattle.view_sweep.specs.Named.{head_namings, AreOfImage}
use Rattle.reach_gather.specs.Views.{volume_views}

-- the head of a loaded volume
abbrev pub head_of : Loaded → VolHead
head_of volume = volume.head

-- the slot of a loaded volume
abbrev pub slot_of : Loaded → ℕ
slot_of volume = volume.head.slot

-- the slots of some
abbrev pub slots_of : List Loaded → List ℕ
slots_of volumes = map slot_of volumes

-- two of some volumes have one slot, and this is the id of one of the two
pub record HasSlotTwice (volumes : List Loaded) (oid : ℕ) : Type 0 where
  pub before : List Loaded
  pub one : Loaded
  pub after : List Loaded
  pub other : Loaded
  pub split : volumes ≡ before ++ one ∷ after
  pub follows : In other after
  pub same_slot : other.head.slot ≡ one.head.slot
  pub id : oid ≡ one.head.oid

-- the volumes of some heads were loaded, in their order; and of each the object of its superblock is known, by the record of the
-- container's map
pub record AreVolumes (image : List ℕ) (seen : Seen) (heads : List VolHead) (volumes : List Loaded) (namer : Loaded → Namer) : Type 0 where
  pub heads_are : heads ≡ map head_of volumes
  pub loaded : (volume : Loaded) → In volume volumes → IsVolumeOf image (site_of seen) volume.head volume
  pub named : (volume : Loaded) (r : OmapRecord) → In volume volumes → resolved_in image (site_of seen) (omap_oid_of seen.nx) volume.head.oid seen.line.xid ≡ Some r → namer volume ≡ volume_namer seen r

-- the object of a volume's superblock, by the record of the container's map that is found for it
abbrev pub found_namer : Seen → Option OmapRecord → Namer
found_namer seen None = Whole Newest
found_namer seen (Some r) = volume_namer seen r

abbrev pub namer_by : List ℕ → Seen → Loaded → Namer
namer_by image seen volume = found_namer seen (resolved_in image (site_of seen) (omap_oid_of seen.nx) volume.head.oid seen.line.xid)

-- what the views of some volumes name
abbrev pub volumes_views : Seen → (Loaded → Namer) → List Loaded → List Naming
volumes_views seen namer volumes = flat_map (λ volume. volume_views seen (namer volume) volume) volumes

-- ---- as they are swept
-- a view of volume i of some
abbrev pub swept_view : ViewAt → ℕ → SweptView
swept_view v i = record { slot = v.slot; place = v.place; xid = v.xid; map = v.map; hashed = v.hashed; volume = i }

-- the live view, with what the volume's superblock names
abbrev pub live_head : Seen → ℕ → Loaded → Head
live_head seen i volume = record {
  view = swept_view (live_at seen volume.head.slot (map_of volume) (are_hashed volume.names)) i;
  root_oid = volume.root_oid;
  meta_ext = volume.meta_ext;
}

-- the view of snapshot k
abbrev pub past_head : ℕ → Loaded → ℕ → Snapshot → Head
past_head i volume k snapshot = record {
  view = swept_view (past_at volume.head.slot (map_of volume) (are_hashed volume.names) k snapshot) i;
  root_oid = snapshot.root_oid;
  meta_ext = snapshot.meta_ext;
}

-- those of some snapshots, the first of them having place k
abbrev pub past_heads : ℕ → Loaded → ℕ → List Snapshot → List Head
past_heads i volume k [] = []
past_heads i volume k (snapshot ∷ snapshots) = past_head i volume k snapshot ∷ past_heads i volume (suc k) snapshots

-- all views of volume i
abbrev pub volume_heads : Seen → ℕ → Loaded → List Head
volume_heads seen i volume = live_head seen i volume ∷ past_heads i volume 0 volume.snaps

-- those of some volumes, the first of them having place i
abbrev pub heads_from : Seen → ℕ → List Loaded → List Head
heads_from seen i [] = []
heads_from seen i (volume ∷ volumes) = volume_heads seen i volume ++ heads_from seen (suc i) volumes

-- all
abbrev pub swept_heads : Seen → List Loaded → List Head
swept_heads seen volumes = heads_from seen 0 volumes

-- the object of a snapshot's superblock, where there is such a snapshot
abbrev pub past_namer : Option Snapshot → Namer
past_namer None = Whole Newest
past_namer (Some snapshot) = Whole (InBlock snapshot.super_block)

-- the object of a view's superblock, by the place of the view among those of its volume
abbrev pub place_namer : (Loaded → Namer) → Loaded → ℕ → Namer
place_namer namer volume zero = namer volume
place_namer namer volume (suc k) = past_namer (slice_get volume.snaps k)

-- where there is such a volume
abbrev pub view_namer : (Loaded → Namer) → Option Loaded → ℕ → Namer
view_namer namer None place = Whole Newest
view_namer namer (Some volume) place = place_namer namer volume place

-- the object of the superblock of a view of some volumes
abbrev pub supers_of : (Loaded → Namer) → List Loaded → SweptView → Namer
supers_of namer volumes v = view_namer namer (slice_get volumes v.volume) v.place

-- ---- what all views name
-- it is what the views of the volumes do, as they were loaded, and as they are swept; and of what is swept each view is told by its slot
-- and its place, is of one of the volumes, and is of the image
pub record ViewsAre (image : List ℕ) (seen : Seen) : Type 0 where
  pub volumes : (volumes : List Loaded) → ((volume : Loaded) → In volume volumes → IsVolumeOf image (site_of seen) volume.head volume) → AreVolumes image seen (map head_of volumes) volumes (namer_by image seen)
  pub loaded : (heads : List VolHead) (volumes : List Loaded) (namer : Loaded → Namer) → HasParts image seen heads → AreVolumes image seen heads volumes namer → HaveSame (all_views image seen) (volumes_views seen namer volumes)
  pub swept : (heads : List VolHead) (volumes : List Loaded) (namer : Loaded → Namer) → HasParts image seen heads → AreVolumes image seen heads volumes namer → HaveSame (all_views image seen) (head_namings (supers_of namer volumes) (swept_heads seen volumes))
  pub told : (heads : List VolHead) (volumes : List Loaded) (namer : Loaded → Namer) → HasParts image seen heads → AreVolumes image seen heads volumes namer → AreToldHeads (swept_heads seen volumes)
  pub below : (volumes : List Loaded) → AreBelowHeads (length volumes) (swept_heads seen volumes)
  pub of_image : (heads : List VolHead) (volumes : List Loaded) (namer : Loaded → Namer) → AreVolumes image seen heads volumes namer → AreOfImage image seen (site_of seen) volumes (swept_heads seen volumes)
