use Rattle.std.proofs.Common.{Bool, [], ◌++◌, map, ap, sym, ◌∙◌}
use Rattle.std.specs.Prelude.{filter, flat_map}
use Rattle.std.proofs.lemmas.List.{take_all}
use Rattle.reach_rules.specs.declared.naming.Naming.{Naming}
use Rattle.reach_gather.specs.Finished.{is_look, id_of}
use Rattle.reach_gather.proofs.Kepts.{ids_in, ids-all, made-more}
use Rattle.reach_gather.proofs.counting.ids_of.Goals as goal

pub loop-one-preserved : goal.loop-one-preserved
loop-one-preserved c =
    let p : Naming → Bool = λ n. is_look n.how c.args.how in
    made-more (ids_in p) c.args.noted.now c.loop-one.one-index c.one-item.result [] c.loop-one.out.items c.add_id.new.out.items c.loop-one-test.true (sym c.one-item.is) c.loop-one.invariant
    (c.in_ok-add_id.ensures ∙ ap (λ ns. c.loop-one.out.items ++ map id_of (filter p ns)) c.naming.ensures)

pub returns : goal.returns
returns c =
    let p : Naming → Bool = λ n. is_look n.how c.args.how in
    c.loop-one.invariant ∙ (ap (flat_map (ids_in p)) (take_all c.loop-one.one-index c.args.noted.now c.loop-one-test.false) ∙ ids-all p c.args.noted.now)
