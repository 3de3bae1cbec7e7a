-- What a part of a container adds to what is gathered.
use Rattle.std.specs.Prelude.{ℕ, List}
use Rattle.apfs_model.specs.Lists.{In}
use Rattle.nx_ring.specs.Checkpoint.{Seen}
use Rattle.reach_rules.specs.declared.naming.Naming.{Naming}
use Rattle.reach_rules.specs.Live.{IsLive}
use Rattle.reach_gather.specs.Account.{AreRightTrees}
use Rattle.reach_gather.specs.Joined.{ArePart}
use Rattle.reach_gather.specs.ViewParts.{AreOutside}
use Rattle.reach_gather.specs.Held.{Held, GrewBy}

-- a part of what is live from first namings was added, with a rest; no naming of it is looked up in a view, and the trees whose roots
-- it names are right
pub record Adds (image : List ℕ) (seen : Seen) (first rest : List Naming) (old new : Held) : Type 0 where
  pub these : List Naming
  pub part : ArePart image seen first these rest
  pub outside : AreOutside these
  pub trees : AreRightTrees image seen these
  pub grew : GrewBy image seen these old new

-- each of some namings is live
abbrev pub AreLive : List ℕ → Seen → List Naming → Type 0
AreLive image seen ns = (n : Naming) → In n ns → IsLive image seen n
