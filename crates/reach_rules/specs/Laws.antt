-- The law of the account.
use Rattle.std.specs.Prelude.{◌⊎◌, ℕ, List}
use Rattle.obj_base.specs.declared.stop.Feature.{Feature}
use Rattle.nx_ring.specs.Checkpoint.{Seen}
use Rattle.reach_rules.specs.Accounted.{IsAccounted}
use Rattle.reach_rules.specs.Faults.{Present}
use Rattle.reach_rules.specs.Features.{HasFeature}
use Rattle.reach_rules.specs.declared.fault.ReachFault.{ReachFault}

-- a fault or a feature of a container is present
abbrev pub Flawed : List ℕ → Seen → Type 0
Flawed image seen = ((fault : ReachFault) × Present image seen fault) ⊎ ((feature : Feature) × ((block : ℕ) × HasFeature image seen feature block))

-- the container of each checkpoint is accounted, or something is present
abbrev pub AccountedOrFlawed : Type 0
AccountedOrFlawed = (image : List ℕ) (seen : Seen) → IsAccounted image seen ⊎ Flawed image seen

-- and never both
abbrev pub NeverBoth : Type 0
NeverBoth = (image : List ℕ) (seen : Seen) → Flawed image seen → IsAccounted image seen → ⊥
