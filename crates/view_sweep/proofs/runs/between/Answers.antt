use Rattle.std.proofs.Common.{◌≤◌, ◌-◌, List, length, take, drop, arith}
use Rattle.std.proofs.lemmas.List.{take_all, length-drop}
use Rattle.view_sweep.specs.declared.runs.Run.{Run}
use Rattle.view_sweep.proofs.Rises.{rising-part, between-is}
use Rattle.view_sweep.proofs.runs.between.Goals as goal

pub begun-requires : goal.begun-requires
begun-requires c = rising-part (length c.args.runs.now - c.ended.result) c.ended.result c.args.runs.now c.requires

pub returns : goal.returns
returns c =
    let at = c.ended.result in
    let rest : List Run = take (length c.args.runs.now - at) (drop at c.args.runs.now) in
    let whole : length (drop at c.args.runs.now) ≤ length c.args.runs.now - at = omega (arith, length-drop at c.args.runs.now) in
    between-is c.args.low c.args.high c.args.runs.now rest at c.begun.result (take_all (length c.args.runs.now - at) (drop at c.args.runs.now) whole) c.ended.ensures.split c.begun.ensures.split
