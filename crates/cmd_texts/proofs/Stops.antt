-- What the stops of layers say of the commands.
use Rattle.std.specs.Prelude.{◌≡◌, ℕ, List, Ok, Err, refl}
use Rattle.std.proofs.Common.{inl, inr, subst}
use Rattle.apfs_model.specs.Lists.{In}
use Rattle.obj_base.specs.declared.stop.Feature.{Feature}
use Rattle.obj_base.specs.declared.stop.Stop.{Stop}
use Rattle.obj_base.specs.declared.stop.Stop.TheVariants.{Found, Unsupported, ReadFault, NoMemory}
use Rattle.obj_base.specs.Stops.{Tells, IsFree}
use Rattle.nx_ring.specs.declared.fault.RingFault.{RingFault}
use Rattle.nx_ring.specs.Checkpoint.{Seen}
use Rattle.nx_ring.specs.Features.{container_features}
use Rattle.nx_ring.specs.Newest.{newest_of, IsFault as IsNewestFault, IsFeature as IsNewestFeature}
use Rattle.nx_ring.specs.Ring.{ring_of, IsRingFault, IsRingFeature}
use Rattle.nx_ring.specs.Zero.{IsNonContiguous}
use Rattle.vol_view.specs.declared.stop.VolStop.{VolStop}
use Rattle.vol_view.specs.Stops.{IsHeadsStop, IsHeadsFeature, AreRight}
use Rattle.cmd_texts.specs.Checkpoints.{IsNewest}
use Rattle.apfs_check.specs.Raised.{of_ring, of_volume}
use Rattle.cmd_lines.specs.Words.{Ring, Info, Volumes}
use Rattle.cmd_texts.proofs.Endings.{StopTells, no_result}

-- what stops `ring`
pub ring_stops : (image : List ℕ) (stop : Stop RingFault) →
    Tells (λ why. ring_of image ≡ Err (Found why)) (λ feature block. ring_of image ≡ Err (Unsupported feature block)) stop → Tells (IsRingFault image) (IsNonContiguous image) stop → StopTells Ring image of_ring stop
ring_stops image (Found why) first there = record {
  none = no_result Ring image (λ text is. let ok : ring_of image ≡ Ok is.0 = is.1 in Prim.cc) (λ answer is. is);
  there_is = (why, first, there, refl);
}
ring_stops image (Unsupported feature block) first there = record {
  none = no_result Ring image (λ text is. let ok : ring_of image ≡ Ok is.0 = is.1 in Prim.cc) (λ answer is. is);
  there_is = (first, there);
}
ring_stops image ReadFault first there = tt
ring_stops image NoMemory first there = tt

-- a container has one newest checkpoint
pub one_newest : (image : List ℕ) (a b : Seen) → newest_of image ≡ Ok a → newest_of image ≡ Ok b → a ≡ b
one_newest image a b first second = Prim.cc

-- there is no newest checkpoint of a plain container where a fault or a feature is named for it
pub no_newest_fault : (image : List ℕ) (why : RingFault) (seen : Seen) → IsNewestFault image why → IsNewest image seen → ⊥
no_newest_fault image why seen fault is = let ok : newest_of image ≡ Ok seen = is.newest in Prim.cc

pub no_newest_feature : (image : List ℕ) (feature : Feature) (block : ℕ) (seen : Seen) → IsNewestFeature image feature block → IsNewest image seen → ⊥
no_newest_feature image feature block seen (inl first) is = let ok : newest_of image ≡ Ok seen = is.newest in Prim.cc
no_newest_feature image feature block seen (inr has) is =
    let P : Seen → Type 0 = λ s. In feature (container_features s.nx) in
    let Q : List Feature → Type 0 = λ fs. In feature fs in
    subst Q is.plain (subst P (one_newest image has.0 seen has.1.0 is.newest) has.1.1.0)

-- what stops `info`
pub info_stops : (image : List ℕ) (stop : Stop RingFault) →
    Tells (IsNewestFault image) (IsNewestFeature image) stop → Tells (IsRingFault image) (IsRingFeature image) stop → StopTells Info image of_ring stop
info_stops image (Found why) first there = record {
  none = no_result Info image (λ text is. no_newest_fault image why is.0 first is.1) (λ answer is. is);
  there_is = (why, first, there, refl);
}
info_stops image (Unsupported feature block) first there = record {
  none = no_result Info image (λ text is. no_newest_feature image feature block is.0 first is.1) (λ answer is. is);
  there_is = (first, there);
}
info_stops image ReadFault first there = tt
info_stops image NoMemory first there = tt

-- what stops `volumes` where there is no newest checkpoint
pub volumes_stops : (image : List ℕ) (stop : Stop RingFault) →
    Tells (IsNewestFault image) (IsNewestFeature image) stop → Tells (IsRingFault image) (IsRingFeature image) stop → StopTells Volumes image of_ring stop
volumes_stops image (Found why) first there = record {
  none = no_result Volumes image (λ text is. no_newest_fault image why is.0 first is.2) (λ answer is. is);
  there_is = inl (why, first, there, refl);
}
volumes_stops image (Unsupported feature block) first there = record {
  none = no_result Volumes image (λ text is. no_newest_feature image feature block is.0 first is.2) (λ answer is. is);
  there_is = inl (first, there);
}
volumes_stops image ReadFault first there = tt
volumes_stops image NoMemory first there = tt

-- the heads of a container whose volumes are right are told
no_heads : {P : Type 0} (image : List ℕ) (seen other : Seen) → IsNewest image seen → IsNewest image other → AreRight image other → (AreRight image seen → P) → P
no_heads image seen other one two right exact =
    let P : Seen → Type 0 = λ s. AreRight image s in
    exact (subst P (one_newest image other seen two.newest one.newest) right)

-- what stops `volumes` at the newest checkpoint
pub heads_stops : (image : List ℕ) (seen : Seen) (stop : Stop VolStop) → IsNewest image seen →
    Tells (IsHeadsStop image seen) (IsHeadsFeature image seen) stop → (AreRight image seen → IsFree stop) → StopTells Volumes image (of_volume seen.line.xid) stop
heads_stops image seen (Found why) newest there exact = record {
  none = no_result Volumes image (λ text is. no_heads image seen is.0 newest is.2 is.3.right exact) (λ answer is. is);
  there_is = inr (seen, why, newest, there, refl);
}
heads_stops image seen (Unsupported feature block) newest there exact = record {
  none = no_result Volumes image (λ text is. no_heads image seen is.0 newest is.2 is.3.right exact) (λ answer is. is);
  there_is = inr (seen, newest, there);
}
heads_stops image seen ReadFault newest there exact = tt
heads_stops image seen NoMemory newest there exact = tt
