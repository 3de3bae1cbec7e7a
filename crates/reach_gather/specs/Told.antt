-- What the object of a naming is, or what is told where it isn't one.
use Rattle.std.specs.Prelude.{ℕ, List, Option, None, Some, option_and_then, Result, Ok, Err}
use Rattle.obj_base.specs.declared.stop.Bad.TheVariants.{Found as Fails, Unsupported}
use Rattle.obj_base.specs.declared.header.HeadFault.{HeadFault}
use Rattle.obj_base.specs.declared.stop.Unsound.{Unsound as HeadUnsound}
use Rattle.obj_base.specs.declared.stop.Stop.{Stop}
use Rattle.obj_base.specs.declared.stop.Stop.TheVariants as stops
use Rattle.nx_ring.specs.Checkpoint.{Seen, eph, site_of}
use Rattle.bt_node.specs.declared.fault.NodeFault.TheVariants.{Head}
use Rattle.reach_rules.specs.declared.fault.Why.TheVariants.{Node}
use Rattle.reach_rules.specs.declared.fault.ReachFault.{ReachFault}
use Rattle.reach_rules.specs.declared.fault.ReachFault.TheVariants.{Unsound, Unnamed}
use Rattle.reach_rules.specs.declared.naming.LookUp.{LookUp}
use Rattle.reach_rules.specs.declared.naming.LookUp.TheVariants.{ByMapping}
use Rattle.reach_rules.specs.declared.naming.Naming.{Naming}
use Rattle.reach_rules.specs.Resolved.{Found, resolved, mapped}
use Rattle.reach_rules.specs.Tested.{Answer, head_tested, tested}
use Rattle.reach_rules.specs.Faults.{within_of, xid_of}

-- the object that was found, or the first test that fails, with the object's block
abbrev pub judged : Found → Answer → Result Found (Stop ReachFault)
judged f (Ok bytes) = Ok f
judged f (Err (Fails why)) = Err (stops.Found (Unsound f.block why))
judged f (Err (Unsupported feature)) = Err (stops.Unsupported feature f.block)

-- what is found by an id, by its tests, and that it isn't named where nothing is
abbrev pub told : Seen → LookUp → ℕ → (List ℕ → Answer) → Option Found → Result Found (Stop ReachFault)
told seen how oid test None = Err (stops.Found (Unnamed (within_of how) oid (xid_of seen how)))
told seen how oid test (Some f) = judged f (test f.bytes)

-- a failing test of a header in a block, said of a named object
abbrev pub unsound : HeadUnsound HeadFault → ReachFault
unsound u = Unsound u.block (Node (Head u.why))

-- the sound object of a naming, or what is told where it has none
unfoldable pub told_through : List ℕ → Seen → Naming → Result Found (Stop ReachFault)
told_through image seen n = told seen n.how n.oid (tested (site_of seen) n.expected n.oid) (resolved image seen n)

-- the mapped object of an ephemeral id, of any number of blocks
abbrev pub found_mapped : Seen → ℕ → Option Found
found_mapped seen oid = option_and_then (mapped (site_of seen) oid) (eph seen oid)

-- the sound mapped object of a kind, or what is told where there is none
unfoldable pub told_mapped : Seen → ℕ → ℕ → Result Found (Stop ReachFault)
told_mapped seen kind oid = told seen ByMapping oid (head_tested (site_of seen) kind (Some oid)) (found_mapped seen oid)
