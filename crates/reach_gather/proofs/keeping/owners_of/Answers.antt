use Rattle.std.proofs.Common.{[], ap, sym, ◌∙◌}
use Rattle.std.specs.Prelude.{flat_map}
use Rattle.std.proofs.lemmas.List.{take_all}
use Rattle.reach_gather.specs.Kept.{owners_in}
use Rattle.reach_gather.proofs.Kepts.{made-more}
use Rattle.reach_gather.proofs.keeping.owners_of.Goals as goal

pub loop-one-preserved : goal.loop-one-preserved
loop-one-preserved c = made-more owners_in c.args.kept.now c.loop-one.one-index c.one-item.result [] c.loop-one.out.items c.add_owners.new.out.items c.loop-one-test.true (sym c.one-item.is) c.loop-one.invariant c.in_ok-add_owners.ensures

pub returns : goal.returns
returns c = c.loop-one.invariant ∙ ap (flat_map owners_in) (take_all c.loop-one.one-index c.args.kept.now c.loop-one-test.false)
