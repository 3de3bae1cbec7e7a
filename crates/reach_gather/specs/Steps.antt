-- The namings of the steps of trees, with their owners.
use Rattle.std.specs.Prelude.{List, ◌∷◌, map}
use Rattle.bt_cursor.specs.declared.step.Step.{Step}
use Rattle.reach_rules.specs.declared.naming.LookUp.TheVariants.{ByBlock, ByMapping}
use Rattle.reach_rules.specs.declared.naming.Object.TheVariants.{InBlock, OfId}
use Rattle.reach_rules.specs.declared.naming.TreeKind.{TreeKind}
use Rattle.reach_rules.specs.declared.naming.Naming.{Naming}
use Rattle.reach_rules.specs.declared.owner.Who.TheVariants.{Named}
use Rattle.reach_rules.specs.declared.owner.Owner.{Owner}
use Rattle.reach_rules.specs.Owners.{owner}
use Rattle.reach_gather.specs.Namings.{step_naming}

-- in a tree of physical nodes
abbrev pub block_steps : TreeKind → List Step → List Naming
block_steps kind steps = map (step_naming InBlock kind ByBlock) steps

-- and from that of the tree's root on
abbrev pub node_namings : TreeKind → Naming → List Step → List Naming
node_namings kind root steps = root ∷ block_steps kind steps

-- in a tree of ephemeral nodes
abbrev pub id_steps : TreeKind → List Step → List Naming
id_steps kind steps = map (step_naming OfId kind ByMapping) steps

-- the block of a physical naming
abbrev pub block_owner : Naming → Owner
block_owner n = owner (Named n) n.oid 1
