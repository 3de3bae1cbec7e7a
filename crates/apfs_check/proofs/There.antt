-- What the parts of a check tell is present in the container.
use Rattle.std.proofs.Common.{◌≡◌, ℕ, List, None, Ok, inl, inr, refl, sym, subst}
use Rattle.apfs_model.specs.Counts.{given}
use Rattle.apfs_model.specs.Lists.{In}
use Rattle.obj_base.specs.declared.stop.Feature.{Feature}
use Rattle.obj_base.specs.declared.stop.Within.{Within}
use Rattle.obj_base.specs.declared.stop.Within.TheVariants.{Volume}
use Rattle.bt_cursor.specs.declared.fault.WalkFault.{WalkFault}
use Rattle.bt_cursor.specs.declared.fault.WalkFault.TheVariants as walks
use Rattle.nx_ring.specs.Ring.{IsRingFault, IsRingFeature}
use Rattle.nx_ring.specs.Checkpoint.{Seen, site_of}
use Rattle.nx_ring.specs.Newest.{newest_of}
use Rattle.nx_ring.specs.declared.fault.RingFault.{RingFault}
use Rattle.nx_ring.specs.declared.fault.RingFault.TheVariants as rings
use Rattle.vol_view.specs.Views.{rooted_views, IsViewFeature}
use Rattle.vol_view.specs.declared.head.VolHead.{VolHead}
use Rattle.vol_view.specs.declared.volume.View.{View}
use Rattle.ext_ref.specs.declared.range.NewRange.{NewRange}
use Rattle.space_map.specs.declared.fault.SpaceFault.TheVariants as spaces
use Rattle.space_pool.specs.declared.fault.PoolFault.TheVariants as pools
use Rattle.reach_rules.specs.Faults as reach
use Rattle.reach_rules.specs.Raised as reached
use Rattle.reach_rules.specs.Features.{HasFeature, first}
use Rattle.reach_rules.specs.declared.fault.ReachFault.{ReachFault}
use Rattle.reach_rules.specs.declared.fault.ReachFault.TheVariants as sweeps
use Rattle.view_rules.specs.Rules.{IsTreeFault}
use Rattle.view_rules.specs.declared.fault.TreeFault.{TreeFault}
use Rattle.view_rules.specs.declared.fault.TreeFault.TheVariants as trees
use Rattle.view_rules.specs.declared.profile.Profile.{Profile}
use Rattle.view_rules.specs.declared.profile.Profile.TheVariants.{Strict}
use Rattle.apfs_check.specs.declared.fault.Fault.TheVariants.{Unnamed, DataUnreached, DataCount}
use Rattle.apfs_check.specs.Volumes.{sound_heads, volume_of, volume_ranges}
use Rattle.apfs_check.specs.Data.{unreached_in, miscounted_in, streams_in}
use Rattle.apfs_check.specs.Present.{HasViewFault, IsPresent, IsFeature}
use Rattle.apfs_check.specs.Raised.{of_ring, of_walk, of_sweep, of_view}
use Rattle.apfs_check.proofs.Named.{IsViewNamed}
use Rattle.apfs_check.proofs.Told.{view-unsound, view-unnamed, view-feature}

-- of block 0 and the candidates
pub ring-there : (profile : Profile) (image : List ℕ) (fault : RingFault) → IsRingFault image fault → IsPresent profile image (of_ring fault)
ring-there profile image rings.BlockZero p = p
ring-there profile image fault p = p

-- of named objects and of the account of blocks
pub sweep-there : (profile : Profile) (image : List ℕ) (seen : Seen) → newest_of image ≡ Ok seen → (fault : ReachFault) → reach.Present image seen fault → IsPresent profile image (of_sweep seen.line.xid fault)
sweep-there profile image seen e (sweeps.Space (spaces.Unnamed within oid)) p = absurd p
sweep-there profile image seen e (sweeps.Space (spaces.Unsound block why)) p = absurd p
sweep-there profile image seen e (sweeps.Pool (pools.Unnamed oid)) p = absurd p
sweep-there profile image seen e (sweeps.Pool (pools.Walk root why)) p = absurd p
sweep-there profile image seen e (sweeps.Pool (pools.Value root item)) p = absurd p
sweep-there profile image seen e (sweeps.Tree root None) p = record { seen = seen; newest = e; fact = p }
sweep-there profile image seen e fault p = record { seen = seen; newest = e; fact = p }

-- of a walk
pub walk-there : (profile : Profile) (image : List ℕ) (seen : Seen) → newest_of image ≡ Ok seen → (within : Within) (xid root : ℕ) (why : WalkFault) → reach.Present image seen (reached.of_walk within xid root why) → IsPresent profile image (of_walk within xid root why)
walk-there profile image seen e within xid root (walks.Unsound block why) p = record { seen = seen; newest = e; fact = p }
walk-there profile image seen e within xid root why p = record { seen = seen; newest = e; fact = p }

pub feature-there : (image : List ℕ) (seen : Seen) → newest_of image ≡ Ok seen → (feature : Feature) (block : ℕ) → HasFeature image seen feature block → IsFeature image feature block
feature-there image seen e feature block p = inr (record { seen = seen; newest = e; fact = p })

-- of a view
view-fault : (profile : Profile) (image : List ℕ) (seen : Seen) → newest_of image ≡ Ok seen → (head : VolHead) → In head (sound_heads image seen) → (view : View) → In view (rooted_views image seen head) →
    (fault : TreeFault) → IsTreeFault profile image (site_of seen) (volume_of image seen head) view (volume_ranges image (site_of seen) head) fault → HasViewFault profile image fault
view-fault profile image seen e head one view rooted fault p = record { seen = seen; newest = e; fact = record { head = head; one = one; view = view; rooted = rooted; fact = p } }

pub view-there : (profile : Profile) (image : List ℕ) (seen : Seen) → newest_of image ≡ Ok seen → (head : VolHead) → In head (sound_heads image seen) → (view : View) → In view (rooted_views image seen head) → IsViewNamed image seen head view →
    (fault : TreeFault) → IsTreeFault profile image (site_of seen) (volume_of image seen head) view (volume_ranges image (site_of seen) head) fault → IsPresent profile image (of_view fault)
view-there profile image seen e head one view rooted n (trees.Unsound block why) p = record { seen = seen; newest = e; fact = view-unsound image seen head view n block why p }
view-there profile image seen e head one view rooted n (trees.Unnamed slot oid xid) (at, p) =
    subst (λ s. IsPresent profile image (Unnamed (Volume s) oid xid)) (sym at.0)
    (subst (λ x. IsPresent profile image (Unnamed (Volume view.slot) oid x)) (sym at.1) (record { seen = seen; newest = e; fact = view-unnamed image seen head view n oid p }))
view-there profile image seen e head one view rooted n fault p = view-fault profile image seen e head one view rooted fault p

-- a feature of block 0's areas or of the container
pub ring-feature : (image : List ℕ) (feature : Feature) (block : ℕ) → IsRingFeature image feature block → IsFeature image feature block
ring-feature image feature block (inl split) = inl split
ring-feature image feature block (inr t) = inr (record { seen = t.0; newest = t.1.0; fact = first t.1.1 })

-- a feature of a node of a view
pub node-feature : (image : List ℕ) (seen : Seen) → newest_of image ≡ Ok seen → (head : VolHead) (view : View) → IsViewNamed image seen head view → (feature : Feature) (block : ℕ) → IsViewFeature image (site_of seen) (volume_of image seen head) view feature block → IsFeature image feature block
node-feature image seen e head view n feature block p = feature-there image seen e feature block (view-feature image seen head view n feature block p)

-- a run of a volume's blocks that no extent reaches
pub run-there : (image : List ℕ) (seen : Seen) → newest_of image ≡ Ok seen → (head : VolHead) → In head (sound_heads image seen) → (run : ℕ × ℕ) → In run (unreached_in image seen head) → IsPresent Strict image (DataUnreached head.slot run.0 run.1)
run-there image seen e head one run h = record { seen = seen; newest = e; fact = record { strict = refl; head = head; one = one; slot_is = refl; run = h } }

-- a range of a volume without snapshots whose count is wrong
pub count-there : (image : List ℕ) (seen : Seen) → newest_of image ≡ Ok seen → (head : VolHead) → In head (sound_heads image seen) → (r : NewRange) → In r (miscounted_in image seen head) → IsPresent Strict image (DataCount head.slot r.first r.count (given (streams_in image seen head r)))
count-there image seen e head one r h = record {
  seen = seen;
  newest = e;
  fact = record { strict = refl; head = head; one = one; slot_is = refl; range = r; wrong = h; block_is = refl; stored_is = refl; streams_are = refl };
}
