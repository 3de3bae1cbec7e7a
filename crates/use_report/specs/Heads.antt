-- The views of a volume, as they are swept.
use Rattle.std.specs.Prelude.{◌≡◌, ℕ, ◌+◌, ◌<◌, ◌==◌, List, length, None, Some, slice_get, get_or, if◌then◌else◌}
use Rattle.fs_name.specs.Normal.{are_hashed}
use Rattle.vol_view.specs.Volumes.{Loaded}
use Rattle.view_sweep.specs.declared.wanted.SweptView.{SweptView}
use Rattle.view_sweep.specs.declared.wanted.Head.{Head}
use Rattle.reach_gather.specs.Volumes.Told.{map_of}
use Rattle.use_report.specs.declared.kept.KeptView.{KeptView}

-- a view, as it is swept; the volume is the only one that is handed in
abbrev pub swept_of : Loaded → KeptView → SweptView
swept_of volume kept = record { slot = volume.head.slot; place = kept.place; xid = kept.view.xid; map = map_of volume; hashed = are_hashed volume.names; volume = 0 }

-- a view with what its superblock names
abbrev pub head_of : Loaded → KeptView → Head
head_of volume kept = record { view = swept_of volume kept; root_oid = kept.view.root_oid; meta_ext = kept.meta_ext }

-- what stands for a view where a list has none in a place
abbrev pub no_view : KeptView
no_view = record { place = 0; view = record { slot = 0; xid = 0; root_oid = 0 }; extents_root = 0; meta_ext = 0; super_block = None }

-- the view whose head has a place, of so many: the live view, which is the first, comes last
abbrev pub kept_place : ℕ → ℕ → ℕ
kept_place many head = if head + 1 == many then 0 else head + 1

-- these are the heads of some views, the first view last
pub record AreHeadsOf (volume : Loaded) (views : List KeptView) (heads : List Head) : Type 0 where
  pub many : length heads ≡ length views
  pub each : (p : ℕ) → p < length views → slice_get heads p ≡ Some (head_of volume (get_or views (kept_place (length views) p) no_view))

-- each view has its place
abbrev pub ArePlaced : List KeptView → Type 0
ArePlaced views = (i : ℕ) (kept : KeptView) → slice_get views i ≡ Some kept → kept.place ≡ i
