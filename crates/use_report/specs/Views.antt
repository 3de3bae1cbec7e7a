-- The views of a volume, each with the roots of what it holds.
use Rattle.std.specs.Prelude.{ℕ, suc, List, [], ◌∷◌, None, Some}
use Rattle.nx_ring.specs.Checkpoint.{Seen}
use Rattle.fs_name.specs.Normal.{are_hashed}
use Rattle.vol_view.specs.Volumes.{Loaded}
use Rattle.vol_view.specs.Views.{live_of, past_of}
use Rattle.vol_view.specs.declared.volume.Snapshot.{Snapshot}
use Rattle.reach_rules.specs.declared.naming.ViewAt.{ViewAt}
use Rattle.use_report.specs.declared.kept.KeptView.{KeptView}

-- the volume as it is
abbrev pub live_kept : Loaded → Seen → KeptView
live_kept volume seen = record { place = 0; view = live_of volume seen; extents_root = volume.extents_root; meta_ext = volume.meta_ext; super_block = None }

-- the volume as its snapshot i, counted from 0, keeps it
abbrev pub past_kept : Loaded → ℕ → Snapshot → KeptView
past_kept volume i snapshot = record { place = suc i; view = past_of volume snapshot; extents_root = snapshot.extents_root; meta_ext = snapshot.meta_ext; super_block = Some snapshot.super_block }

-- those of some snapshots, the first of them being snapshot i
abbrev pub pasts_kept : Loaded → ℕ → List Snapshot → List KeptView
pasts_kept volume i [] = []
pasts_kept volume i (snapshot ∷ snapshots) = past_kept volume i snapshot ∷ pasts_kept volume (suc i) snapshots

-- the live view, then the snapshots by transaction
abbrev pub views_kept : Loaded → Seen → List KeptView
views_kept volume seen = live_kept volume seen ∷ pasts_kept volume 0 volume.snaps

-- a view as namings have it: the volume's slot, the view's place and transaction, the block of the volume's object map, and whether names are hashed
abbrev pub at_of : Loaded → KeptView → ViewAt
at_of volume kept = record { slot = volume.head.slot; place = kept.place; xid = kept.view.xid; map = volume.omap.block; hashed = are_hashed volume.names }
