use Rattle.std.proofs.Common.{List, ◌||◌, ap, ◌∙◌, ◌+◌, ◌≤◌, take, get_or, arith}
use Rattle.std.proofs.lemmas.List.{take_all, take_more}
use Rattle.view_sweep.specs.declared.runs.Run.{Run}
use Rattle.view_sweep.specs.Runs.{has_place}
use Rattle.view_sweep.proofs.Ranked.{place-in}
use Rattle.view_sweep.proofs.Rises.{nowhere, has-start, has-more}
use Rattle.view_sweep.proofs.runs.put_all.Goals as goal

pub loop-run-init : goal.loop-run-init
loop-run-init c = record {
  rising = λ h. h;
  places = λ k. has-start c.args.runs.now.items k;
  behind = λ j low within. c.requires.behind (get_or c.args.more.now j nowhere) (place-in c.args.more.now j nowhere within);
}

pub put_run-requires : goal.put_run-requires
put_run-requires c = record {
  some = c.requires.some (get_or c.args.more.now c.loop-run.run-index nowhere) (place-in c.args.more.now c.loop-run.run-index nowhere c.loop-run-test.true);
  behind = c.loop-run.invariant.behind c.loop-run.run-index (omega arith) c.loop-run-test.true;
}

pub loop-run-preserved : goal.loop-run-preserved
loop-run-preserved c =
    let i = c.loop-run.run-index in
    let run = get_or c.args.more.now i nowhere in
    record {
      rising = λ h. c.in_ok-put_run.ensures.rising (c.loop-run.invariant.rising h);
      places = λ k. has-more c.args.runs.now.items c.loop-run.runs.items c.put_run.new.runs.items (take i c.args.more.now) (take (i + 1) c.args.more.now) run k (take_more c.args.more.now i nowhere c.loop-run-test.true) (c.loop-run.invariant.places k) (c.in_ok-put_run.ensures.places k);
      behind = λ j low within r h.
          let a : r.from ≤ run.from = c.in_ok-put_run.ensures.behind r h in
          let b : run.from ≤ (get_or c.args.more.now j nowhere).from = c.requires.order i j nowhere (omega arith) within in
          omega arith;
    }

pub returns-clause-places : goal.returns-clause-places
returns-clause-places c = λ k. c.loop-run.invariant.places k ∙ ap (λ (rs : List Run). has_place c.args.runs.now.items k || has_place rs k) (take_all c.loop-run.run-index c.args.more.now c.loop-run-test.false)
