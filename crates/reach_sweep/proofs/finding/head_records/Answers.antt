use Rattle.std.proofs.Common.{◌≡◌, ◌∙◌, List, ap, sym, subst}
use Rattle.std.specs.List.{filter_map}
use Rattle.std.proofs.lemmas.List.{take_all}
use Rattle.view_sweep.specs.declared.used.Used.{Used}
use Rattle.reach_sweep.specs.Composed.{records_used, AreHeadRecords}
use Rattle.reach_sweep.specs.Used.{found_of}
use Rattle.reach_sweep.proofs.Found.{found-more, found-records}
use Rattle.reach_sweep.proofs.finding.head_records.Goals as goal

pub loop-i-preserved : goal.loop-i-preserved
loop-i-preserved c =
    c.in-Ok.ensures.added
    ∙ found-more c.args.cp.now c.args.omap.now.records c.args.volumes.now c.loop-i.i c.index-volumes-i.result c.loop-i.found.items c.loop-i-test.true (sym c.index-volumes-i.is) c.loop-i.invariant

pub returns-clause-found : goal.returns-clause-found
returns-clause-found c = λ image heads namer p are v.
    let all : c.loop-i.found.items ≡ filter_map (found_of c.args.cp.now c.args.omap.now.records) c.args.volumes.now =
    c.loop-i.invariant ∙ ap (filter_map (found_of c.args.cp.now c.args.omap.now.records)) (take_all c.loop-i.i c.args.volumes.now c.loop-i-test.false) in
    subst (λ (us : List Used). AreHeadRecords image c.args.cp.now heads (records_used us)) (sym all) (found-records image c.args.cp.now heads c.args.volumes.now namer c.args.omap.now.records p are v)
