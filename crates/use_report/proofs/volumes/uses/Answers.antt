use Rattle.std.proofs.Common.{List, length, get_or, ap, arith}
use Rattle.std.proofs.lemmas.Option.{slice_get-get_or}
use Rattle.use_report.specs.declared.numbers.ViewUse.{ViewUse}
use Rattle.use_report.proofs.Lists.{below-length, one-longer}
use Rattle.use_report.specs.Heads.{no_view}
use Rattle.use_report.proofs.Told.{uses-more}
use Rattle.use_report.proofs.volumes.uses.Goals as goal

pub views-init : goal.views-init
views-init c = record {
  many = ap (λ (xs : List ViewUse). length xs) c.new-uses.ensures.items;
  each = λ k view low here. absurd (let q : ⊥ = omega (arith, low) in q);
}

pub views-preserved : goal.views-preserved
views-preserved c =
    let views = c.args.views.now in
    let i = c.views.i in
    let before : List ViewUse = c.views.uses.items in
    let items = c.in_ok-push.ensures.items in
    record {
      many = omega (arith, one-longer before c.push.new.self.items c.numbers.result items, c.views.invariant.many);
      each = uses-more views c.args.counts.now before c.push.new.self.items i (get_or views i no_view) c.numbers.result items c.views.invariant.many (slice_get-get_or views i no_view c.views-test.true)
          (record { xid_is = c.numbers.ensures.xid; held = c.numbers.ensures.held; only = c.numbers.ensures.only }) c.views.invariant.each;
    }

pub returns-clause-uses : goal.returns-clause-uses
returns-clause-uses c = record {
  many = omega (arith, c.views.invariant.many, c.views-test.false, c.views.auto.i-end);
  each = λ k view here.
      let low = below-length c.args.views.now k view here in
      c.views.invariant.each k view (omega (arith, low, c.views-test.false)) here;
}
