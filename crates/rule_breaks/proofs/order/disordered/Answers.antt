use Rattle.std.proofs.Common.{ℕ, List, sym, ap, ◌∙◌, subst}
use Rattle.std.specs.Ordering.{is_lt}
use Rattle.std.specs.List.Sorted.{IsPermutation, IsSortedBy}
use Rattle.fs_record.specs.declared.extents.FileExt.{FileExt}
use Rattle.view_rules.specs.Facts.{Facts}
use Rattle.view_rules.specs.Extents.{IsExtentOrder}
use Rattle.view_rules.specs.Listed.{extents_with_ids}
use Rattle.rule_breaks.specs.Order.{piece_cmp, StandInOrder}
use Rattle.rule_breaks.proofs.Orders.{uneven_first, standing-clear, crossed_or}
use Rattle.rule_breaks.proofs.order.disordered.Goals as goal

pub returns-in-Some : goal.returns-in-Some
returns-in-Some c = subst (λ (id : ℕ). IsExtentOrder c.args.block_size c.args.facts.now id) (sym c.id.ensures) (uneven_first c.args.block_size c.args.facts.now c.in-Some.f.now c.in-Some.ensures)

pub returns-then-stand_in_order : goal.returns-then-stand_in_order
returns-then-stand_in_order c =
    standing-clear c.args.block_size c.args.facts.now (sym c.in_default.ensures)
    (subst StandInOrder (c.deref.ensures.value ∙ ap (λ (g : Facts). g.extents) c.facts.view_is) (c.stand_in_order.ensures c.if-stand_in_order.true))

pub returns : goal.returns
returns c =
    crossed_or c.args.block_size c.args.facts.now c.deref-2.result.now c.crossing.result (sym c.in_default.ensures)
    (subst (λ (pieces : List (ℕ × FileExt)). IsPermutation (extents_with_ids c.args.facts.now) pieces) (sym c.deref-2.ensures.value)
    (subst (λ (pieces : List (ℕ × FileExt)). IsPermutation pieces c.by_stream.new.pieces.items) c.in_ok-pieces.ensures c.by_stream.ensures.order))
    (subst (λ (pieces : List (ℕ × FileExt)). IsSortedBy (λ a b. is_lt (piece_cmp a b)) pieces) (sym c.deref-2.ensures.value) c.by_stream.ensures.sorted)
    c.crossing.ensures.none c.crossing.ensures.some
