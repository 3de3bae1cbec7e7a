use Rattle.std.proofs.Common.{◌+◌, ◌-◌, ◌<◌, ◌≤◌, take, get_or, arith}
use Rattle.std.proofs.lemmas.List.{take_more, take_all}
use Rattle.view_sweep.specs.Runs.{has_place}
use Rattle.view_sweep.proofs.Rises.{nowhere, place-at, rising-at, begins-rise}
use Rattle.use_report.proofs.HeadRuns.{far-none, far-next, far-all}
use Rattle.use_report.proofs.runs.add_runs.Goals as goal

pub set-init : goal.set-init
set-init c = record {
  places = λ view low. far-none c.args.set.now c.args.many (has_place c.add_live.new.runs.items view) view (c.in_ok-add_live.ensures.live view);
  behind = λ j up within r h. let a : r.from ≤ 0 = c.in_ok-add_live.ensures.behind r h in omega arith;
}

pub add_next-requires-clause-low : goal.add_next-requires-clause-low
add_next-requires-clause-low c = (rising-at 0 c.args.set.now c.set.run-index nowhere c.requires.runs.rising c.set-test.true).1

pub add_next-requires-clause-high : goal.add_next-requires-clause-high
add_next-requires-clause-high c =
    let run = get_or c.args.set.now c.set.run-index nowhere in
    let some : run.from < run.end = (rising-at 0 c.args.set.now c.set.run-index nowhere c.requires.runs.rising c.set-test.true).1 in
    let last : run.end - 1 < c.args.many = c.requires.runs.inside (run.end - 1) (place-at c.args.set.now c.set.run-index (run.end - 1) c.set-test.true (omega arith) (omega arith)) in
    omega arith

pub add_next-requires-clause-behind : goal.add_next-requires-clause-behind
add_next-requires-clause-behind c = c.set.invariant.behind c.set.run-index (omega arith) c.set-test.true

pub set-preserved : goal.set-preserved
set-preserved c =
    let i = c.set.run-index in
    let run = get_or c.args.set.now i nowhere in
    record {
      places = λ view low. far-next c.args.set.now c.args.many (take i c.args.set.now) (take (i + 1) c.args.set.now) run (has_place c.set.runs.items view) (has_place c.add_next.new.runs.items view) view (take_more c.args.set.now i nowhere c.set-test.true) (c.set.invariant.places view low) (c.in_ok-add_next.ensures.places view low);
      behind = λ j up within r h.
          let a : r.from ≤ run.from + 1 = c.in_ok-add_next.ensures.behind r h in
          let b : run.from ≤ (get_or c.args.set.now j nowhere).from = begins-rise c.args.set.now i j nowhere c.requires.runs.rising (omega arith) within in
          omega arith;
    }

pub returns : goal.returns
returns c = λ view low. far-all c.args.set.now (take c.set.run-index c.args.set.now) c.args.many (has_place c.set.runs.items view) view (take_all c.set.run-index c.args.set.now c.set-test.false) (c.set.invariant.places view low)
