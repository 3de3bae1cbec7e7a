-- Namings and owners, as they are kept.
use Rattle.std.specs.Prelude.{ℕ, not, ◌==◌, List, [], ◌∷◌}
use Rattle.std.specs.List.{filter}
use Rattle.reach_rules.specs.declared.naming.Naming.{Naming}
use Rattle.reach_rules.specs.declared.owner.Owner.{Owner}
use Rattle.reach_rules.specs.declared.owner.Who.TheVariants as who
use Rattle.reach_rules.specs.Owners.{owner, told_from}
use Rattle.reach_gather.specs.Held.{some_owners}
use Rattle.reach_gather.specs.declared.keeping.Noted.{Noted}
use Rattle.reach_gather.specs.declared.keeping.Noted.TheVariants.{Named, Block, One, Those}

-- the namings that are kept so
abbrev pub namings_in : Noted → List Naming
namings_in (Named naming) = naming ∷ []
namings_in (Block naming) = naming ∷ []
namings_in (One owner) = []
namings_in (Those naming ranges) = []

-- the owners that are kept so
abbrev pub owners_in : Noted → List Owner
owners_in (Named naming) = []
owners_in (Block naming) = owner (who.Named naming) naming.oid 1 ∷ []
owners_in (One owner) = owner ∷ []
owners_in (Those naming ranges) = some_owners (told_from naming 0 ranges.items)

-- the ranges of one block or more
abbrev pub some_ranges : List (ℕ × ℕ) → List (ℕ × ℕ)
some_ranges ranges = filter (λ (r : ℕ × ℕ). not (r.1 == 0)) ranges
