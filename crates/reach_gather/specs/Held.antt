-- What is gathered of a container, and how it grows.
use Rattle.std.specs.Prelude.{◌≡◌, ◌⊎◌, ◌+◌, ◌≤◌, ℕ, false, not, ◌==◌, List, length}
use Rattle.std.specs.List.{filter}
use Rattle.apfs_model.specs.Lists.{In}
use Rattle.nx_ring.specs.Checkpoint.{Seen}
use Rattle.reach_rules.specs.declared.naming.Naming.{Naming}
use Rattle.reach_rules.specs.declared.owner.Owner.{Owner}
use Rattle.reach_rules.specs.Owners.{owners_through}
use Rattle.reach_rules.specs.PoolOwners.{pool_owners_through}

-- namings, and the owners of one block or more that were met through them
pub record Held : Type 0 where
  pub namings : List Naming
  pub owners : List Owner
  pub pool_owners : List Owner

-- the owners of one block or more
abbrev pub some_owners : List Owner → List Owner
some_owners owners = filter (λ (o : Owner). not (o.blocks == 0)) owners

-- a list has grown by the things of which a fact holds
pub record Grew {X : Type 0} (old new : List X) (P : X → Type 0) : Type 0 where
  pub from : (x : X) → In x new → In x old ⊎ P x
  pub kept : (x : X) → In x old → In x new
  pub grown : (x : X) → P x → In x new

-- an owner of one block or more, through one of some namings
pub record IsOwnerThrough (through : Naming → List Owner) (these : List Naming) (o : Owner) : Type 0 where
  pub naming : Naming
  pub one : In naming these
  pub owner : In o (through naming)
  pub some : (o.blocks == 0) ≡ false

-- what is gathered has grown by some namings, and by no more of them, and by the owners through them
pub record GrewBy (image : List ℕ) (seen : Seen) (these : List Naming) (old new : Held) : Type 0 where
  pub namings : Grew old.namings new.namings (λ n. In n these)
  pub fits : length new.namings ≤ length old.namings + length these
  pub owners : Grew old.owners new.owners (IsOwnerThrough (owners_through image seen) these)
  pub pool_owners : Grew old.pool_owners new.pool_owners (IsOwnerThrough (pool_owners_through image seen) these)
