use Rattle.std.proofs.Common.{◌≡◌, take}
use Rattle.std.specs.Prelude.{flat_map}
use Rattle.reach_rules.specs.declared.naming.Naming.{Naming}
use Rattle.reach_gather.specs.Finished.{is_look}
use Rattle.reach_gather.proofs.Kepts.{ids_in}
use Rattle.reach_gather.proofs.counting.ids_of.Given as goal

abbrev pub invariant-loop-one : goal.invariant-loop-one
invariant-loop-one l = l.out.items ≡ flat_map (ids_in (λ (n : Naming). is_look n.how l.how)) (take l.one-index l.noted)
