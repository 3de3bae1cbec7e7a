-- What a command names is present by the definition of the check: one meaning of each fault and each feature for all commands.
use Rattle.std.specs.Prelude.{◌≡◌, ℕ, List, map, Option, None, Some, option_map, option_and_then, slice_get, refl}
use Rattle.std.proofs.Common.{inl, inr, sym, ◌∙◌, subst}
use Rattle.apfs_model.specs.Lists.{In}
use Rattle.apfs_model.proofs.Searches.{in-map, get-in}
use Rattle.bt_cursor.specs.declared.fault.WalkFault.TheVariants as walks
use Rattle.bt_keys.specs.Shapes.{queue_shape}
use Rattle.cmd_words.specs.Asked.{AskedTarget}
use Rattle.obj_base.specs.declared.stop.Feature.{Feature}
use Rattle.obj_base.specs.declared.stop.Stop.TheVariants.{Found, Unsupported}
use Rattle.nx_ring.specs.Checkpoint.{Seen, site_of}
use Rattle.vol_view.specs.Heads.{heads_of}
use Rattle.vol_view.specs.Views.{live_of, past_of, views_of, by_name_of}
use Rattle.vol_view.specs.Volumes.{Loaded}
use Rattle.vol_view.specs.declared.head.VolHead.{VolHead}
use Rattle.vol_view.specs.declared.volume.Snapshot.{Snapshot}
use Rattle.vol_view.specs.declared.volume.View.{View}
use Rattle.space_map.specs.Stops.{HasManager}
use Rattle.space_map.specs.declared.fault.SpaceFault.{SpaceFault}
use Rattle.space_map.specs.declared.fault.SpaceFault.TheVariants as spaces
use Rattle.space_pool.specs.Queues.{ephemeral_named, queue_root}
use Rattle.space_pool.specs.Stops.{IsQueueFeature}
use Rattle.space_pool.specs.declared.entry.Queue.{Queue}
use Rattle.space_pool.specs.declared.fault.PoolFault.{PoolFault}
use Rattle.space_pool.specs.declared.fault.PoolFault.TheVariants as pools
use Rattle.reach_rules.specs.Features.{HasFeature}
use Rattle.reach_rules.specs.declared.naming.LookUp.TheVariants.{ByMapping}
use Rattle.reach_rules.specs.declared.naming.TreeKind.TheVariants.{FreeQueue}
use Rattle.reach_rules.specs.Raised.{of_space, of_pool}
use Rattle.reach_rules.specs.declared.fault.ReachFault.TheVariants as sweeps
use Rattle.reach_rules.proofs.QueuesLifted.{pool-present, queue-present, queue-root, queue-walk}
use Rattle.reach_rules.proofs.SpaceLifted.{space-present, space-feature}
use Rattle.reach_rules.proofs.Walks.{gap-told}
use Rattle.view_rules.specs.declared.fault.TreeFault.{TreeFault}
use Rattle.view_rules.specs.Facts.{Facts}
use Rattle.view_rules.specs.declared.profile.Profile.{Profile}
use Rattle.view_rules.specs.declared.profile.Profile.TheVariants.{Plain}
use Rattle.apfs_check.specs.Present as container
use Rattle.apfs_check.specs.Present.{IsPresent}
use Rattle.apfs_check.specs.Raised.{of_ring, of_volume, of_view, of_sweep}
use Rattle.apfs_check.specs.Steps.{IsReady}
use Rattle.apfs_check.specs.Volumes.{sound_heads, volume_ranges}
use Rattle.apfs_check.specs.declared.fault.Fault.{Fault}
use Rattle.apfs_check.proofs.Loaded.{right-sound}
use Rattle.apfs_check.proofs.Stopped.{view-stops}
use Rattle.apfs_check.proofs.There.{ring-there, ring-feature, sweep-there, feature-there}
use Rattle.apfs_check.proofs.VolumesThere.{heads-there, load-there, heads-feature, load-feature}
use Rattle.cmd_texts.specs.ByCommand.{IsFault, IsFeature, profile_in, profile_of}
use Rattle.cmd_texts.specs.Checkpoints.{IsCheckpointFault, IsCheckpointFeature, IsVolumesFault, IsVolumesFeature}
use Rattle.cmd_texts.specs.Commands.Ring as ring
use Rattle.cmd_texts.specs.Commands.Volumes as volumes
use Rattle.cmd_texts.specs.Commands.Space as space
use Rattle.cmd_texts.specs.Commands.Ls as ls
use Rattle.cmd_texts.specs.Commands.Tree as tree
use Rattle.cmd_texts.specs.Commands.Cat as cat
use Rattle.cmd_texts.specs.Commands.Xattr as xattr
use Rattle.cmd_texts.specs.First.{FaultBy, FeatureBy, PresentBy}
use Rattle.cmd_texts.specs.Meant.{IsMeant, IsVolumeFault, IsVolumeFeature, IsMeantFault, IsMeantFeature}
use Rattle.cmd_texts.specs.MeantView.{view_of, IsMeantView}
use Rattle.cmd_texts.specs.OnView.{IsViewFault, IsNodeFeature, IsFaultOn, IsFeatureOn}
use Rattle.cmd_lines.specs.Words.{Asked, Ring, Info, Volumes, Space, Snapshots, Ls, Tree, Cat, Xattr, Format}
use Rattle.cmd_lines.specs.declared.words.Checks.{Checks}
use Rattle.cmd_lines.specs.declared.words.Checks.TheVariants.{Quick, First}
use Rattle.cmd_texts.proofs.Ways.{in_heads}

-- a fault that is the same as one that is there
there_as : (profile : Profile) (image : List ℕ) (fault other : Fault) → fault ≡ other → IsPresent profile image other → IsPresent profile image fault
there_as profile image fault other same there =
    let P : Fault → Type 0 = λ f. IsPresent profile image f in
    subst P (sym same) there

-- ---- the newest checkpoint, and so `ring` and `info`

ring_fault_there : (profile : Profile) (image : List ℕ) (fault : Fault) → ring.IsFault image fault → IsPresent profile image fault
ring_fault_there profile image fault (why, first, there, same) = there_as profile image fault (of_ring why) same (ring-there profile image why there)

checkpoint_fault_there : (profile : Profile) (image : List ℕ) (fault : Fault) → IsCheckpointFault image fault → IsPresent profile image fault
checkpoint_fault_there profile image fault (why, first, there, same) = there_as profile image fault (of_ring why) same (ring-there profile image why there)

checkpoint_feature_there : (image : List ℕ) (feature : Feature) (block : ℕ) → IsCheckpointFeature image feature block → container.IsFeature image feature block
checkpoint_feature_there image feature block (first, there) = ring-feature image feature block there

-- ---- the volumes, and so `volumes`

heads_fault_there : (profile : Profile) (image : List ℕ) (fault : Fault) → IsVolumesFault image fault → IsPresent profile image fault
heads_fault_there profile image fault (seen, why, newest, there, same) = there_as profile image fault (of_volume seen.line.xid why) same (heads-there profile image seen newest.newest why there)

heads_feature_there : (image : List ℕ) (feature : Feature) (block : ℕ) → IsVolumesFeature image feature block → container.IsFeature image feature block
heads_feature_there image feature block (seen, newest, there) = heads-feature image seen newest.newest feature block there

volumes_fault_there : (profile : Profile) (image : List ℕ) (fault : Fault) → volumes.IsFault image fault → IsPresent profile image fault
volumes_fault_there profile image fault (inl first) = checkpoint_fault_there profile image fault first
volumes_fault_there profile image fault (inr heads) = heads_fault_there profile image fault heads

volumes_feature_there : (image : List ℕ) (feature : Feature) (block : ℕ) → volumes.IsFeature image feature block → container.IsFeature image feature block
volumes_feature_there image feature block (inl first) = checkpoint_feature_there image feature block first
volumes_feature_there image feature block (inr heads) = heads_feature_there image feature block heads

-- ---- the volume that is meant, and so `snapshots`

-- its superblock is sound
meant_sound : (image : List ℕ) (named : Option ℕ) (seen : Seen) (head : VolHead) → IsMeant image named seen (Some head) → In head (sound_heads image seen)
meant_sound image named seen head meant = right-sound image seen meant.right head (in_heads named (heads_of image seen) (heads_of image seen) head refl meant.same)

volume_fault_there : (profile : Profile) (image : List ℕ) (named : Option ℕ) (fault : Fault) → IsVolumeFault image named fault → IsPresent profile image fault
volume_fault_there profile image named fault f =
    there_as profile image fault (of_volume f.seen.line.xid f.why) f.same
    (load-there profile image f.seen f.meant.newest.newest f.head (meant_sound image named f.seen f.head f.meant) f.why f.there)

volume_feature_there : (image : List ℕ) (named : Option ℕ) (feature : Feature) (block : ℕ) → IsVolumeFeature image named feature block → container.IsFeature image feature block
volume_feature_there image named feature block f = load-feature image f.seen f.meant.newest.newest f.head (meant_sound image named f.seen f.head f.meant) feature block f.there

meant_fault_there : (profile : Profile) (image : List ℕ) (named : Option ℕ) (fault : Fault) → IsMeantFault image named fault → IsPresent profile image fault
meant_fault_there profile image named fault (inl first) = checkpoint_fault_there profile image fault first
meant_fault_there profile image named fault (inr (inl heads)) = heads_fault_there profile image fault heads
meant_fault_there profile image named fault (inr (inr volume)) = volume_fault_there profile image named fault volume

meant_feature_there : (image : List ℕ) (named : Option ℕ) (feature : Feature) (block : ℕ) → IsMeantFeature image named feature block → container.IsFeature image feature block
meant_feature_there image named feature block (inl first) = checkpoint_feature_there image feature block first
meant_feature_there image named feature block (inr (inl heads)) = heads_feature_there image feature block heads
meant_feature_there image named feature block (inr (inr volume)) = volume_feature_there image named feature block volume

-- ---- the view that is meant, and so `ls`, `tree`, `cat` and `xattr` where they check nothing first

-- it is one of its volume's
past_in : (volume : Loaded) (seen : Seen) (place : Option ℕ) (view : View) → option_map (past_of volume) (option_and_then (slice_get volume.snaps) place) ≡ Some view → In view (views_of volume seen)
past_in volume seen None view is = absurd Prim.cc
past_in volume seen (Some i) view is = go (slice_get volume.snaps i) refl is
  where
    go : (s : Option Snapshot) → slice_get volume.snaps i ≡ s → option_map (past_of volume) s ≡ Some view → In view (views_of volume seen)
    go None at same = absurd Prim.cc
    go (Some s) at same =
        let e : past_of volume s ≡ view = Prim.cc in
        let P : View → Type 0 = λ v. In v (map (past_of volume) volume.snaps) in
        inr (subst P e (in-map (past_of volume) volume.snaps s (get-in volume.snaps i s at)))

one_of_views : (volume : Loaded) (seen : Seen) (snapshot : Option (List ℕ)) (view : View) → view_of volume seen snapshot ≡ Some view → In view (views_of volume seen)
one_of_views volume seen None view is = let e : live_of volume seen ≡ view = Prim.cc in inl (sym e)
one_of_views volume seen (Some name) view is = past_in volume seen (by_name_of volume name) view is

-- its volume was loaded
view_ready : (image : List ℕ) (target : AskedTarget) (seen : Seen) (volume : Loaded) (view : View) → IsMeantView image target seen volume view → IsReady image seen volume
view_ready image target seen volume view is = record {
  newest = is.volume_is.meant.newest.newest;
  sound = meant_sound image target.volume seen volume.head is.volume_is.meant;
  loaded = is.volume_is.loaded;
}

view_fault_there : (profile : Profile) (image : List ℕ) (told : Facts → TreeFault → Type 0) (target : AskedTarget) (fault : Fault) → IsViewFault told target image fault → IsPresent profile image fault
view_fault_there profile image told target fault f =
    there_as profile image fault (of_view f.why) f.same
    (view-stops profile image f.seen f.volume (view_ready image target f.seen f.volume f.view f.is) f.view (one_of_views f.volume f.seen target.snapshot f.view f.is.same) (Found f.why)
    (f.there profile (volume_ranges image (site_of f.seen) f.volume.head)))

node_feature_there : (image : List ℕ) (target : AskedTarget) (feature : Feature) (block : ℕ) → IsNodeFeature target image feature block → container.IsFeature image feature block
node_feature_there image target feature block f =
    view-stops Plain image f.seen f.volume (view_ready image target f.seen f.volume f.view f.is) f.view (one_of_views f.volume f.seen target.snapshot f.view f.is.same) (Unsupported feature block) f.there

on_view_fault_there : (image : List ℕ) (told : Facts → TreeFault → Type 0) (target : AskedTarget) (fault : Fault) → IsFaultOn told target image fault → (profile : Profile) → IsPresent profile image fault
on_view_fault_there image told target fault (inl way) profile = meant_fault_there profile image target.volume fault way
on_view_fault_there image told target fault (inr view) profile = view_fault_there profile image told target fault view

on_view_feature_there : (image : List ℕ) (target : AskedTarget) (feature : Feature) (block : ℕ) → IsFeatureOn target image feature block → container.IsFeature image feature block
on_view_feature_there image target feature block (inl way) = meant_feature_there image target.volume feature block way
on_view_feature_there image target feature block (inr view) = node_feature_there image target feature block view

-- ---- the space, and so `space`

-- what is told of the space manager is that of the account
space_same : (seen : Seen) (why : SpaceFault) → of_sweep seen.line.xid (sweeps.Space why) ≡ of_sweep seen.line.xid (of_space seen why)
space_same seen (spaces.Unnamed within oid) = refl
space_same seen why = refl

-- so is what is told of the pool and of the free queues
pool_same : (seen : Seen) (why : PoolFault) → of_sweep seen.line.xid (sweeps.Pool why) ≡ of_sweep seen.line.xid (of_pool seen why)
pool_same seen (pools.Walk root (walks.Unsound block why)) = refl
pool_same seen why = refl

manager_fault_there : (profile : Profile) (image : List ℕ) (fault : Fault) → space.IsManagerFault image fault → IsPresent profile image fault
manager_fault_there profile image fault (seen, why, newest, there, same) =
    there_as profile image fault (of_sweep seen.line.xid (of_space seen why)) (same ∙ space_same seen why)
    (sweep-there profile image seen newest.newest (of_space seen why) (space-present image seen why there))

pool_fault_there : (profile : Profile) (image : List ℕ) (fault : Fault) → space.IsSpacePoolFault image fault → IsPresent profile image fault
pool_fault_there profile image fault (seen, known, newest, is, (why, inl pool, same)) =
    there_as profile image fault (of_sweep seen.line.xid (of_pool seen why)) (same ∙ pool_same seen why)
    (sweep-there profile image seen newest.newest (of_pool seen why) (pool-present image seen known.manager is.block is.manager why pool))
pool_fault_there profile image fault (seen, known, newest, is, (why, inr (which, queue), same)) =
    there_as profile image fault (of_sweep seen.line.xid (of_pool seen why)) (same ∙ pool_same seen why)
    (sweep-there profile image seen newest.newest (of_pool seen why) (queue-present image seen known.manager is.block is.manager which why queue))

space_fault_there : (profile : Profile) (image : List ℕ) (fault : Fault) → space.IsFault image fault → IsPresent profile image fault
space_fault_there profile image fault (inl first) = checkpoint_fault_there profile image fault first
space_fault_there profile image fault (inr (inl manager)) = manager_fault_there profile image fault manager
space_fault_there profile image fault (inr (inr pool)) = pool_fault_there profile image fault pool

-- a feature of a node of a free queue: the walk of the queue meets it
queue_feature_there : (image : List ℕ) (seen : Seen) (manager : List ℕ) (b : ℕ) → HasManager seen manager b → (which : Queue) (feature : Feature) (block : ℕ) → IsQueueFeature image seen manager which feature block → HasFeature image seen feature block
queue_feature_there image seen manager b h which feature block (some, gap) =
    gap-told image seen (FreeQueue which) ByMapping queue_shape (ephemeral_named seen) (queue-walk image seen which) (queue_root which manager) (queue-root image seen manager b h which some) (Unsupported feature block) gap

space_feature_there : (image : List ℕ) (feature : Feature) (block : ℕ) → space.IsFeature image feature block → container.IsFeature image feature block
space_feature_there image feature block (inl first) = checkpoint_feature_there image feature block first
space_feature_there image feature block (inr (inl (seen, newest, there))) = feature-there image seen newest.newest feature block (space-feature image seen feature block there)
space_feature_there image feature block (inr (inr (seen, known, newest, is, (which, there)))) =
    feature-there image seen newest.newest feature block (queue_feature_there image seen known.manager is.block is.manager which feature block there)

-- ---- all commands

fault_by : (checks : Checks) (image : List ℕ) (fault : Fault) (is : Type 0) → (is → (profile : Profile) → IsPresent profile image fault) → FaultBy checks image fault is → PresentBy (profile_in checks) image fault
fault_by Quick image fault is there f = there f
fault_by (First profile) image fault is there f = f

-- each fault that a command names is present
pub fault_there : (command : Asked) (image : List ℕ) (fault : Fault) → IsFault command image fault → PresentBy (profile_of command) image fault
fault_there Ring image fault f = λ profile. ring_fault_there profile image fault f
fault_there Info image fault f = λ profile. checkpoint_fault_there profile image fault f
fault_there Volumes image fault f = λ profile. volumes_fault_there profile image fault f
fault_there Space image fault f = λ profile. space_fault_there profile image fault f
fault_there (Snapshots volume) image fault f = λ profile. meant_fault_there profile image volume fault f
fault_there (Ls checks target) image fault f = fault_by checks image fault (ls.IsFault target image fault) (on_view_fault_there image (ls.told target.path) target fault) f
fault_there (Tree checks target) image fault f = fault_by checks image fault (tree.IsFault target image fault) (on_view_fault_there image (tree.told target.path) target fault) f
fault_there (Cat checks target) image fault f = fault_by checks image fault (cat.IsFault target image fault) (on_view_fault_there image (cat.told target.path) target fault) f
fault_there (Xattr checks target name) image fault f = fault_by checks image fault (xattr.IsFault target image fault) (on_view_fault_there image (xattr.told target.path) target fault) f
fault_there (Format spec) image fault f = absurd f
fault_there command image fault f = f

feature_by : (checks : Checks) (image : List ℕ) (feature : Feature) (block : ℕ) (is : Type 0) → (is → container.IsFeature image feature block) → FeatureBy checks image feature block is → container.IsFeature image feature block
feature_by Quick image feature block is there f = there f
feature_by (First profile) image feature block is there f = f

-- each feature that a command refuses is present
pub feature_there : (command : Asked) (image : List ℕ) (feature : Feature) (block : ℕ) → IsFeature command image feature block → container.IsFeature image feature block
feature_there Ring image feature block f = inl f.1
feature_there Info image feature block f = checkpoint_feature_there image feature block f
feature_there Volumes image feature block f = volumes_feature_there image feature block f
feature_there Space image feature block f = space_feature_there image feature block f
feature_there (Snapshots volume) image feature block f = meant_feature_there image volume feature block f
feature_there (Ls checks target) image feature block f = feature_by checks image feature block (ls.IsFeature target image feature block) (on_view_feature_there image target feature block) f
feature_there (Tree checks target) image feature block f = feature_by checks image feature block (tree.IsFeature target image feature block) (on_view_feature_there image target feature block) f
feature_there (Cat checks target) image feature block f = feature_by checks image feature block (cat.IsFeature target image feature block) (on_view_feature_there image target feature block) f
feature_there (Xattr checks target name) image feature block f = feature_by checks image feature block (xattr.IsFeature target image feature block) (on_view_feature_there image target feature block) f
feature_there (Format spec) image feature block f = absurd f
feature_there command image feature block f = f
