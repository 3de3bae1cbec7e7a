-- What stops an account tells of what is present, and of nothing where the container is accounted.
use Rattle.std.proofs.Common.{◌≡◌, ℕ, List, sym, subst}
use Rattle.obj_base.specs.Stops.{Tells, NoFeature, IsFree}
use Rattle.obj_base.specs.Site.{IsSiteFor}
use Rattle.obj_base.specs.declared.site.Site.{Site}
use Rattle.obj_base.specs.declared.stop.Stop.{Stop}
use Rattle.obj_base.proofs.StopLemmas.{tells_more}
use Rattle.nx_ring.specs.Checkpoint.{Seen}
use Rattle.reach_rules.specs.declared.fault.ReachFault.{ReachFault}
use Rattle.reach_rules.specs.declared.fault.ReachFault.TheVariants.{Unsound, Unnamed, NamedTwice, OwnedTwice, Outside, UnusedMapping, Leaked, Missing, PoolLeaked, PoolMissing, FreeCount, Space, Pool, Tree, Value}
use Rattle.reach_rules.specs.Accounted.{IsAccounted}
use Rattle.reach_rules.specs.Faults.{Present}
use Rattle.reach_rules.specs.Features.{HasFeature}
use Rattle.reach_rules.specs.Reached.{Whole, IsReached, IsReachedFault}
use Rattle.reach_rules.specs.Settled.{IsSettleFault}
use Rattle.reach_rules.proofs.Composed.{settle-present}
use Rattle.reach_rules.proofs.Refutes.{refutes, refutes-feature, reached-refutes, reached-plain}

-- what is named on the way is present
pub reached-present : (image : List ℕ) (seen : Seen) (fault : ReachFault) → IsReachedFault image seen fault → Present image seen fault
reached-present image seen (Unsound block why) p = p
reached-present image seen (Unnamed within oid xid) p = p
reached-present image seen (NamedTwice within oid xid) p = p
reached-present image seen (OwnedTwice block) p = absurd p
reached-present image seen (Outside block) p = absurd p
reached-present image seen (UnusedMapping within oid xid) p = p
reached-present image seen (Leaked block) p = absurd p
reached-present image seen (Missing block) p = absurd p
reached-present image seen (PoolLeaked block) p = absurd p
reached-present image seen (PoolMissing block) p = absurd p
reached-present image seen (FreeCount chunk) p = absurd p
reached-present image seen (Space fault) p = p
reached-present image seen (Pool fault) p = p
reached-present image seen (Tree root item) p = p
reached-present image seen (Value root item) p = p

-- a stop on the way tells of what is present
pub reached-told : (image : List ℕ) (seen : Seen) (stop : Stop ReachFault) → Tells (IsReachedFault image seen) (HasFeature image seen) stop → Tells (Present image seen) (HasFeature image seen) stop
reached-told image seen stop t =
    tells_more (IsReachedFault image seen) (Present image seen) (HasFeature image seen) (HasFeature image seen) stop (reached-present image seen) (λ feature block h. h) t

-- a stop where ranges and bits are settled tells of what is present
pub settle-told : (image : List ℕ) (seen : Seen) (whole : Whole) (stop : Stop ReachFault) → IsReached image seen whole → Tells (IsSettleFault image whole) NoFeature stop → Tells (Present image seen) (HasFeature image seen) stop
settle-told image seen whole stop r t =
    tells_more (IsSettleFault image whole) (Present image seen) NoFeature (HasFeature image seen) stop (settle-present image seen whole r) (λ feature block h. absurd h) t

-- what is present doesn't stop it in an accounted container
pub accounted-free : (image : List ℕ) (seen : Seen) (stop : Stop ReachFault) → IsAccounted image seen → Tells (Present image seen) (HasFeature image seen) stop → IsFree stop
accounted-free image seen stop w t =
    tells_more (Present image seen) (λ fault. ⊥) (HasFeature image seen) NoFeature stop (λ fault p. refutes image seen fault p w) (λ feature block p. refutes-feature image seen feature block p w) t

-- nor what is named on the way where all is reached
pub reached-free : (image : List ℕ) (seen : Seen) (whole : Whole) (stop : Stop ReachFault) → IsReached image seen whole → Tells (IsReachedFault image seen) (HasFeature image seen) stop → IsFree stop
reached-free image seen whole stop r t =
    tells_more (IsReachedFault image seen) (λ fault. ⊥) (HasFeature image seen) NoFeature stop (λ fault p. reached-refutes image seen whole fault p r) (λ feature block p. reached-plain image seen whole feature block p r) t

-- a site that is another one is right for a source of the same size
pub same-site : (one other : Site) (size size' : ℕ) → one ≡ other → size' ≡ size → IsSiteFor other size → IsSiteFor one size'
same-site one other size size' e f h = subst (λ (s : Site). IsSiteFor s size') (sym e) (subst (λ n. IsSiteFor other n) (sym f) h)
