use Rattle.std.proofs.Common.{◌≡◌, ◌+◌, List, ap, sym, ◌∙◌, subst, arith}
use Rattle.piece_count.specs.declared.piece.Views.{Views}
use Rattle.view_sweep.specs.Sets.{set_at}
use Rattle.view_sweep.specs.declared.sets.ViewSet.{ViewSet}
use Rattle.view_sweep.specs.declared.runs.Run.{Run}
use Rattle.view_sweep.proofs.Members.{set-read}
use Rattle.use_report.specs.Runs.{AreHeadRuns, AreViewsOf, AreOwnSets}
use Rattle.use_report.proofs.HeadRuns.{AreFirst, own-kept, first-more}
use Rattle.use_report.proofs.Lists.{one-longer}
use Rattle.use_report.proofs.runs.view_sets.Goals as goal

pub shared-init : goal.shared-init
shared-init c =
    let many = c.in_ok-sets.ensures.many in
    record { long = omega (arith, many); own = c.in_ok-sets.ensures.own; first = λ n view low in_view. absurd (omega arith) }

pub shared_views-requires-clause-some : goal.shared_views-requires-clause-some
shared_views-requires-clause-some c = c.requires.some (omega arith)

pub shared_views-requires-clause-runs : goal.shared_views-requires-clause-runs
shared_views-requires-clause-runs c = subst (AreHeadRuns c.args.many) (set-read c.args.shared.now c.shared.set-index c.set-item.result c.shared-test.true ∙ (ap (λ (s : ViewSet). s.runs.items) (sym c.set-item.is) ∙ sym c.deref.ensures.value)) (c.requires.runs c.shared.set-index c.shared-test.true)

pub shared-preserved : goal.shared-preserved
shared-preserved c =
    let had = c.shared.invariant in
    let sets : List Views = c.shared.sets.items in
    let shared = c.args.shared.now in
    let i = c.shared.set-index in
    let many = c.args.many in
    let items = c.in_ok-push.ensures.items in
    let long = had.long in
    let longer = one-longer sets c.push.new.self.items c.in_ok-shared_views.field-0 items in
    let this : c.deref.result.now ≡ set_at shared i = c.deref.ensures.value ∙ (ap (λ (s : ViewSet). s.runs.items) c.set-item.is ∙ sym (set-read shared i c.set-item.result c.shared-test.true)) in
    let views : AreViewsOf (set_at shared i) many c.in_ok-shared_views.field-0 = subst (λ (rs : List Run). AreViewsOf rs many c.in_ok-shared_views.field-0) this c.in_ok-shared_views.ensures in
    record {
      long = omega (arith, longer, long);
      own = subst (λ (ss : List Views). AreOwnSets many ss) (sym items) (own-kept sets _ many (omega (arith, long)) had.own);
      first = subst (λ (ss : List Views). AreFirst shared many (i + 1) ss) (sym items) (first-more shared many i sets _ had.long had.first views);
    }

pub returns : goal.returns
returns c =
    let had = c.shared.invariant in
    let long = had.long in
    let all = c.len-all.ensures in
    let high = c.shared-test.false in
    let end = c.shared.auto.set-index-end in
    let room = c.len-all.type_inv in
    record {
      sets = record { own = had.own; shares = λ n view low in_view. had.first n view (omega (arith, low, high)) in_view };
      few = omega (arith, long, all, high, end, room);
    }
