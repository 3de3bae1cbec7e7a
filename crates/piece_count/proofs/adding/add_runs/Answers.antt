use Rattle.std.proofs.Common.{◌∙◌, take, refl, arith}
use Rattle.piece_count.specs.Tally.{grown_set}
use Rattle.piece_count.proofs.Pieces.{set-none, set-more, set-last}
use Rattle.piece_count.proofs.adding.add_runs.Goals as goal

pub runs-init : goal.runs-init
runs-init c = record {
  counted = refl;
  reached = refl;
  at = refl;
  tally = λ blocks has few short here h. set-none blocks c.args.many has c.args.runs.now c.args.first c.args.end c.args.tally.now h;
}

pub add_views-requires-clause-counted : goal.add_views-requires-clause-counted
add_views-requires-clause-counted c = let a = c.runs.invariant.counted in let b = c.min.ensures in omega (arith, a, b)

pub add_views-requires-clause-reached : goal.add_views-requires-clause-reached
add_views-requires-clause-reached c = let a = c.runs.invariant.reached in let b = c.min.ensures in omega (arith, a, b)

pub runs-preserved : goal.runs-preserved
runs-preserved c =
    let had = c.runs.invariant in
    let runs = c.args.runs.now in
    let i = c.runs.run-index in
    record {
      counted = c.add_views.ensures.many ∙ had.counted;
      reached = c.add_views.ensures.reaches ∙ had.reached;
      at = c.add_views.ensures.at ∙ had.at;
      tally = λ blocks has few short here h.
          set-more blocks c.args.many has runs i c.min.result c.args.first c.args.end c.add_views.new.tally c.runs-test.true c.min.ensures
          (c.add_views.ensures.added blocks c.args.many (grown_set has (take i runs) c.args.first c.args.end) few short (had.at ∙ here) (had.tally blocks has few short here h));
    }

pub returns-clause-added : goal.returns-clause-added
returns-clause-added c = λ blocks has few short here h.
    set-last blocks c.args.many has c.args.runs.now c.runs.run-index c.args.first c.args.end c.runs.tally c.runs-test.false (c.runs.invariant.tally blocks has few short here h)
