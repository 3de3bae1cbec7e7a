use Rattle.std.proofs.Common.{◌≡◌, ℕ, length, get_or, refl, ◌∙◌, subst, arith}
use Rattle.std.proofs.lemmas.Option.{slice_get-get_or}
use Rattle.use_report.specs.Sets.{AreHoldings}
use Rattle.use_report.proofs.Lists.{got-in}
use Rattle.use_report.proofs.Spread.{own-sets}
use Rattle.use_report.proofs.Stopped.{view-told}
use Rattle.use_report.specs.Heads.{no_view}
use Rattle.use_report.proofs.Told.{holdings-none, holdings-more}
use Rattle.use_report.proofs.volumes.held_by_all.Goals as goal

pub views-init : goal.views-init
views-init g c = record {
  held = λ image told. holdings-none image c.args.site.now c.args.volume.now c.args.views.now c.in_ok-held.held.all c.in_ok-held.ensures.none;
  own = λ image told. c.in_ok-held.ensures.sets.own;
  kept = record { same_bytes = refl; same_size = refl; later = omega arith };
}

pub returns-in-Err-clause-present : goal.returns-in-Err-clause-present
returns-in-Err-clause-present g c image told =
    let views = c.args.views.now in
    let i = c.views.i in
    view-told image c.args.site.now c.args.volume.now views (get_or views i no_view) c.in-Err.stop (got-in views i no_view c.views-test.true) (c.in-Err.ensures.present image (c.views.invariant.kept.same_bytes ∙ told))

pub returns-in-Err-clause-exact : goal.returns-in-Err-clause-exact
returns-in-Err-clause-exact g c image told right =
    let views = c.args.views.now in
    let i = c.views.i in
    c.in-Err.ensures.exact image (c.views.invariant.kept.same_bytes ∙ told) (right (get_or views i no_view) (got-in views i no_view c.views-test.true))

pub views-preserved : goal.views-preserved
views-preserved g c =
    let views = c.args.views.now in
    let i = c.views.i in
    let had = c.views.invariant in
    record {
      held = λ image told.
          holdings-more image c.args.site.now c.args.volume.now views i (get_or views i no_view) c.views.held c.turn.new.self c.hold.new.held (slice_get-get_or views i no_view c.views-test.true)
          (had.own image told) c.turn.ensures (had.held image told) (c.in-Ok.ensures.held image (had.kept.same_bytes ∙ told));
      own = λ image told. let g = (c.in-Ok.ensures.held image (had.kept.same_bytes ∙ told)).grows in own-sets (length views) c.views.held c.turn.new.self c.hold.new.held _ i c.turn.ensures g (had.own image told);
      kept = record {
        same_bytes = c.hold.ensures.kept.same_bytes ∙ had.kept.same_bytes;
        same_size = c.hold.ensures.kept.same_size ∙ had.kept.same_size;
        later = omega (arith, c.hold.ensures.kept.later, had.kept.later);
      };
    }

pub returns-clause-held : goal.returns-clause-held
returns-clause-held g c image told =
    let views = c.args.views.now in
    let all : c.views.i ≡ length views = omega (arith, c.views-test.false, c.views.auto.i-end) in
    subst (λ (n : ℕ). AreHoldings image c.args.site.now c.args.volume.now views n c.views.held.all) all (c.views.invariant.held image told)
