use Rattle.std.proofs.Common.{◌+◌, ◌≤◌, sym, subst}
use Rattle.ext_ref.proofs.Gathered.{gathered-scanned, blocks-nodes, said_tells}
use Rattle.ext_ref.specs.Stops.{IsExtStop}
use Rattle.ext_ref.specs.Scanned.{IsExtFeature}
use Rattle.obj_base.specs.Stops.{Tells}
use Rattle.ext_ref.proofs.scanning.scan_tree.Goals as goal

pub returns-in-Ok-clause-clear : goal.returns-in-Ok-clause-clear
returns-in-Ok-clause-clear g c image told =
    gathered-scanned image c.args.site.now c.args.root c.in-Ok.field-0.ranges.items c.in-Ok.field-0.steps.items c.requires.some (c.in-Ok.ensures.clear image told)

pub returns-in-Ok-clause-reads : goal.returns-in-Ok-clause-reads
returns-in-Ok-clause-reads g c image told =
    let reads = g.S.BlockSource.reads in
    subst (λ n. reads c.gather.new.src ≤ reads c.args.src.now + n) (sym (blocks-nodes image c.args.site.now c.args.root c.requires.some)) (c.in-Ok.ensures.reads image told)

pub returns-in-Err-clause-present : goal.returns-in-Err-clause-present
returns-in-Err-clause-present g c image told =
    subst (λ stop. Tells (IsExtStop image c.args.site.now c.args.root) (IsExtFeature image c.args.site.now c.args.root) stop) (sym c.raise.ensures)
    (said_tells image c.args.site.now c.args.root c.in-Err.stop c.requires.some (c.in-Err.ensures.present image told))
