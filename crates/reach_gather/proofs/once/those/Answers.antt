use Rattle.std.proofs.Common.{Bool, [], ◌++◌, ap, sym, ◌∙◌}
use Rattle.std.specs.Prelude.{filter, flat_map}
use Rattle.std.proofs.lemmas.List.{take_all}
use Rattle.reach_rules.specs.declared.naming.Naming.{Naming}
use Rattle.reach_gather.specs.Finished.{is_look}
use Rattle.reach_gather.proofs.Kepts.{passed_in, passed-all, made-more}
use Rattle.reach_gather.proofs.once.those.Goals as goal

pub loop-one-preserved : goal.loop-one-preserved
loop-one-preserved c =
    let p : Naming → Bool = λ n. is_look n.how c.args.how in
    made-more (passed_in p) c.args.noted.now c.loop-one.one-index c.one-item.result [] c.loop-one.out.items c.add_that.new.out.items c.loop-one-test.true (sym c.one-item.is) c.loop-one.invariant
    (c.in_ok-add_that.ensures ∙ ap (λ ns. c.loop-one.out.items ++ filter p ns) c.naming.ensures)

pub returns : goal.returns
returns c =
    let p : Naming → Bool = λ n. is_look n.how c.args.how in
    c.loop-one.invariant ∙ (ap (flat_map (passed_in p)) (take_all c.loop-one.one-index c.args.noted.now c.loop-one-test.false) ∙ passed-all p c.args.noted.now)
