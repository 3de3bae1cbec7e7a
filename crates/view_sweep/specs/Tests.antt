-- What is told of a test that fails.
use Rattle.std.specs.Prelude.{◌≡◌, ℕ, List, Result, Err}
use Rattle.obj_base.specs.declared.stop.Bad.{Bad}
use Rattle.obj_base.specs.declared.stop.Bad.TheVariants as bads
use Rattle.obj_base.specs.declared.stop.Feature.{Feature}
use Rattle.bt_node.specs.declared.fault.NodeFault.{NodeFault}
use Rattle.reach_rules.specs.declared.fault.Why.{Why}
use Rattle.reach_rules.specs.declared.fault.Why.TheVariants.{Node}
use Rattle.reach_rules.specs.declared.fault.ReachFault.{ReachFault}
use Rattle.reach_rules.specs.declared.fault.ReachFault.TheVariants.{Unsound}
use Rattle.reach_rules.specs.Tested.{Answer}

-- a fault tells of the test of a node that fails, in a block
abbrev pub IsNodeFault : ℕ → Result (List ℕ) (Bad NodeFault) → ReachFault → Type 0
IsNodeFault block answer fault = (why : NodeFault) × ((fault ≡ Unsound block (Node why)) × (answer ≡ Err (bads.Found why)))

-- a feature of a node is told of, in a block
abbrev pub IsNodeFeature : ℕ → Result (List ℕ) (Bad NodeFault) → Feature → ℕ → Type 0
IsNodeFeature block answer feature at = (at ≡ block) × (answer ≡ Err (bads.Unsupported feature))

-- a fault tells of the test of an object that fails, in a block
abbrev pub IsFaultOf : ℕ → Answer → ReachFault → Type 0
IsFaultOf block answer fault = (why : Why) × ((fault ≡ Unsound block why) × (answer ≡ Err (bads.Found why)))

-- a feature of an object is told of, in a block
abbrev pub IsFeatureOf : ℕ → Answer → Feature → ℕ → Type 0
IsFeatureOf block answer feature at = (at ≡ block) × (answer ≡ Err (bads.Unsupported feature))
