use Rattle.std.proofs.Common.{◌≡◌, ℕ, ◌+◌, ◌-◌, ◌||◌, true, length, ap, sym, subst, ◌∙◌}
use Rattle.std.proofs.lemmas.List.{with_items_is}
use Rattle.apfs_model.specs.Bytes.{bit_at}
use Rattle.own_ledger.specs.Held.{lies_in, CanClaim, AddsRange, IsTwice}
use Rattle.bit_lanes.specs.Places.{is_from, AreClear, IsLeastSet}
use Rattle.own_ledger.proofs.MarkLemmas.{ledger_of, claim-twice, claim-clear, claim-adds}
use Rattle.own_ledger.proofs.held.Ledger.claim.Goals as goal

pub returns-in-Some-clause-present : goal.returns-in-Some-clause-present
returns-in-Some-clause-present c =
    let s = c.self.inside in
    let inside = sym (subst (λ v. true ≡ lies_in v c.args.first c.args.length) (sym c.self.view_is) c.if-not-covers.ensures) in
    let least = subst (λ bits. IsLeastSet bits (c.args.first - s.first) (c.args.first - s.first + c.args.length) c.in-Some.place) c.deref.ensures.value c.in-Some.ensures in
    subst (λ v. IsTwice v c.args.first c.args.length (s.first + c.in-Some.place)) c.self.view_is (claim-twice s.first s.blocks s.bits.items c.args.first c.args.length c.in-Some.place inside least)

pub returns-clause-clear : goal.returns-clause-clear
returns-clause-clear c =
    let s = c.self.inside in
    let inside = sym (subst (λ v. true ≡ lies_in v c.args.first c.args.length) (sym c.self.view_is) c.if-not-covers.ensures) in
    let clear = subst (λ bits. AreClear bits (c.args.first - s.first) (c.args.first - s.first + c.args.length)) c.deref.ensures.value c.in_default.ensures in
    subst (λ v. CanClaim v c.args.first c.args.length) c.self.view_is (claim-clear s.first s.blocks s.bits.items c.args.first c.args.length inside clear)

pub returns-clause-added : goal.returns-clause-added
returns-clause-added c =
    let s = c.self.inside in
    let inside = sym (subst (λ v. true ≡ lies_in v c.args.first c.args.length) (sym c.self.view_is) c.if-not-covers.ensures) in
    let set = λ (k : ℕ). c.set_range.ensures k ∙ ap (λ bits. bit_at bits k || is_from (c.args.first - s.first) (c.args.first - s.first + c.args.length) k) c.deref_mut.ensures.value in
    let long : length c.set_range.new.bits ≡ s.bits.len = c.set_range.auto.bits ∙ c.deref_mut.ensures.len in
    let kept = with_items_is s.bits c.set_range.new.bits long in
    subst (λ items. AddsRange c.args.self.now (ledger_of s.first s.blocks items) c.args.first c.args.length) (sym kept)
    (subst (λ v. AddsRange v (ledger_of s.first s.blocks c.set_range.new.bits) c.args.first c.args.length) c.self.view_is
    (claim-adds s.first s.blocks s.bits.items c.set_range.new.bits c.args.first c.args.length inside set))
