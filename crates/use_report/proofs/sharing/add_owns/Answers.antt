use Rattle.std.proofs.Common.{◌≡◌, ℕ, length, get_or, ◌∙◌, subst, arith}
use Rattle.std.proofs.lemmas.Option.{slice_get-get_or}
use Rattle.use_report.specs.Heads.{no_view}
use Rattle.use_report.specs.Sharing.{AddsOwns}
use Rattle.use_report.proofs.Spread.{owns-next, own-sets}
use Rattle.use_report.proofs.sharing.add_owns.Goals as goal

pub views-preserved : goal.views-preserved
views-preserved g c =
    let views = c.args.views.now in
    let i = c.views.i in
    let had = c.views.invariant in
    record {
      added = λ image told own.
          owns-next image c.args.site.now views i (get_or views i no_view) c.args.held.now.all c.views.held c.turn.new.self c.add_own.new.held (slice_get-get_or views i no_view c.views-test.true) (had.own image told own) (had.added image told own)
          c.turn.ensures (c.in-Ok-true.ensures.added image (had.kept.same_bytes ∙ told) c.in-Ok-true.field-0-test);
      own = λ image told own. own-sets (length views) c.views.held c.turn.new.self c.add_own.new.held _ i c.turn.ensures (c.in-Ok-true.ensures.added image (had.kept.same_bytes ∙ told) c.in-Ok-true.field-0-test) (had.own image told own);
      kept = record {
        same_bytes = c.add_own.ensures.kept.same_bytes ∙ had.kept.same_bytes;
        same_size = c.add_own.ensures.kept.same_size ∙ had.kept.same_size;
        later = omega (arith, c.add_own.ensures.kept.later, had.kept.later);
      };
    }

pub returns-clause-added : goal.returns-clause-added
returns-clause-added g c image told own _ =
    let views = c.args.views.now in
    let all : c.views.i ≡ length views = omega (arith, c.views-test.false, c.views.auto.i-end) in
    subst (λ (n : ℕ). AddsOwns image c.args.site.now views n c.args.held.now.all c.views.held.all) all (c.views.invariant.added image told own)
