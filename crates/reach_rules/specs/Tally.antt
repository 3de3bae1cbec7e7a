-- How many objects are named, and how many blocks are owned.
use Rattle.std.specs.Prelude.{◌≡◌, ℕ, ◌<◌, List, length}
use Rattle.apfs_model.specs.Counts.{given}
use Rattle.apfs_model.specs.Lists.{Lists}
use Rattle.apfs_model.specs.Apart.{Apart}
use Rattle.nx_ring.specs.Checkpoint.{Seen, site_of}
use Rattle.reach_rules.specs.Live.{IsNamed}
use Rattle.reach_rules.specs.Owners.{IsOwned}

-- a number is how many things there are of which a fact holds, as it is given: the length of a list of exactly these, each once
pub record IsNumberOf {X : Type 0} (P : X → Type 0) (number : ℕ) : Type 0 where
  pub all : List X
  pub lists : Lists all P
  pub apart : Apart all
  pub same : number ≡ given (length all)

-- the number of named objects
abbrev pub IsObjectCount : List ℕ → Seen → ℕ → Type 0
IsObjectCount image seen number = IsNumberOf (IsNamed image seen) number

-- an owned block of the container
pub record IsOwnedBlock (image : List ℕ) (seen : Seen) (block : ℕ) : Type 0 where
  pub low : block < (site_of seen).blocks
  pub owned : IsOwned image seen block

-- the number of owned blocks
abbrev pub IsOwnedCount : List ℕ → Seen → ℕ → Type 0
IsOwnedCount image seen number = IsNumberOf (IsOwnedBlock image seen) number

-- both numbers of a tally
pub record IsTally (image : List ℕ) (seen : Seen) (objects owned : ℕ) : Type 0 where
  pub named : IsObjectCount image seen objects
  pub held : IsOwnedCount image seen owned
