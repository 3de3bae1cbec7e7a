use Rattle.std.proofs.Common.{◌∙◌, refl, arith}
use Rattle.piece_count.specs.Tally.{grown_all}
use Rattle.piece_count.proofs.Pieces.{grown-none, grown-one, grown-last}
use Rattle.piece_count.proofs.adding.add_views.Goals as goal

pub views-init : goal.views-init
views-init c = record {
  counted = refl;
  reached = refl;
  far = omega arith;
  at = refl;
  tally = λ blocks views has few short here h. grown-none blocks views has c.args.from c.args.first c.args.end c.args.tally.now h;
}

pub views-preserved : goal.views-preserved
views-preserved c =
    let had = c.views.invariant in
    let low = c.views-test.true in
    record {
      counted = c.add.ensures.many ∙ had.counted;
      reached = c.add.ensures.reaches ∙ had.reached;
      far = omega (arith, low);
      at = c.add.ensures.at ∙ had.at;
      tally = λ blocks views has few short here h.
          grown-one blocks views has c.args.from c.views.view c.args.first c.args.end c.add.new.self c.views.auto.view
          (c.add.ensures.added blocks views (grown_all has c.args.from c.views.view c.args.first c.args.end) few short (had.at ∙ here) (had.tally blocks views has few short here h));
    }

pub returns-clause-added : goal.returns-clause-added
returns-clause-added c = λ blocks views has few short here h.
    let high = c.views-test.false in
    grown-last blocks views has c.args.from c.views.view c.args.to c.args.first c.args.end c.views.tally (omega (arith, high)) c.views.invariant.far (c.views.invariant.tally blocks views has few short here h)
