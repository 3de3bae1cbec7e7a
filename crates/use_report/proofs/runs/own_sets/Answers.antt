use Rattle.std.proofs.Common.{◌+◌, List, ap, length, sym, subst, arith}
use Rattle.piece_count.specs.declared.piece.Views.{Views}
use Rattle.use_report.specs.Runs.{AreOwnSets}
use Rattle.use_report.proofs.HeadRuns.{own-none, own-more}
use Rattle.use_report.proofs.Lists.{one-longer}
use Rattle.use_report.proofs.runs.own_sets.Goals as goal

pub views-init : goal.views-init
views-init c = record {
  many = ap (λ (sets : List Views). length sets) c.new-sets.ensures.items;
  own = own-none c.new-sets.result.items;
}

pub views-preserved : goal.views-preserved
views-preserved c =
    let had = c.views.invariant in
    let items = c.in_ok-push.ensures.items in
    let long = had.many in
    let longer = one-longer c.views.sets.items c.push.new.self.items c.in_ok-own_views.field-0 items in
    record {
      many = omega (arith, longer, long);
      own = subst (λ (sets : List Views). AreOwnSets (c.views.view + 1) sets) (sym items) (own-more c.views.sets.items _ c.views.view had.many had.own c.in_ok-own_views.ensures);
    }
