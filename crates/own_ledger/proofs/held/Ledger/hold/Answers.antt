use Rattle.std.proofs.Common.{◌≡◌, ℕ, ◌+◌, ◌-◌, ◌||◌, length, ap, sym, subst, ◌∙◌, arith}
use Rattle.std.proofs.lemmas.List.{with_items_is}
use Rattle.apfs_model.specs.Bytes.{bit_at}
use Rattle.own_ledger.specs.Held.{AddsPart}
use Rattle.bit_lanes.specs.Places.{is_from}
use Rattle.own_ledger.proofs.MarkLemmas.{ledger_of, hold-adds, hold-none}
use Rattle.own_ledger.proofs.held.Ledger.hold.Goals as goal

pub returns-then-least-end : goal.returns-then-least-end
returns-then-least-end c =
    let s = c.self.inside in
    let from : ℕ = c.max-least.result - s.first in
    let to : ℕ = from + (c.min-end.result - c.max-least.result) in
    let set = λ (k : ℕ). c.set_range.ensures k ∙ ap (λ bits. bit_at bits k || is_from from to k) c.deref_mut.ensures.value in
    let long : length c.set_range.new.bits ≡ s.bits.len = c.set_range.auto.bits ∙ c.deref_mut.ensures.len in
    let kept = with_items_is s.bits c.set_range.new.bits long in
    subst (λ items. AddsPart c.args.self.now (ledger_of s.first s.blocks items) c.args.first c.args.length) (sym kept)
    (subst (λ v. AddsPart v (ledger_of s.first s.blocks c.set_range.new.bits) c.args.first c.args.length) c.self.view_is
    (hold-adds s.first s.blocks s.bits.items c.set_range.new.bits c.args.first c.args.length from to (omega arith) (omega arith) set))

pub returns-else-least-end : goal.returns-else-least-end
returns-else-least-end c =
    let s = c.self.inside in
    subst (λ v. AddsPart v v c.args.first c.args.length) c.self.view_is
    (hold-none s.first s.blocks s.bits.items c.args.first c.args.length (omega arith))
