use Rattle.std.proofs.Common.{◌≡◌, inl, Err}
use Rattle.obj_base.specs.declared.stop.Stop.TheVariants.{Unsupported}
use Rattle.nx_ring.specs.Newest.{newest_of, IsFault}
use Rattle.nx_ring.specs.Ring.{IsRingFault, IsRingFeature}
use Rattle.nx_ring.proofs.Chosen.{tells_weaker, fault_there, feature_there}
use Rattle.nx_ring.proofs.choice.newest.Goals as goal

pub returns-in-Err-clause-present : goal.returns-in-Err-clause-present
returns-in-Err-clause-present g c image told =
    tells_weaker (IsFault image) (IsRingFault image) (λ name block. newest_of image ≡ Err (Unsupported name block)) (IsRingFeature image) c.in-Err.stop
    (fault_there image) (λ name block e. feature_there image name block (inl e)) (c.in-Err.ensures.found image told)
