use Rattle.std.proofs.Common.{◌≡◌, ℕ, ◌+◌, ◌-◌, ◌/◌, ◌%◌, true, take, slice_range, refl, ap, sym, subst, ◌∙◌, arith}
use Rattle.apfs_model.specs.Bytes.{bit_at}
use Rattle.bit_lanes.specs.Bits.{IsFirstDifference}
use Rattle.own_ledger.specs.Held.{holds, lies_in, Agrees, IsLeastDifference}
use Rattle.own_ledger.proofs.MarkLemmas.{compare-agrees, compare-differs}
use Rattle.own_ledger.proofs.held.Ledger.compare.Goals as goal

pub returns-in-Some-clause-differ : goal.returns-in-Some-clause-differ
returns-in-Some-clause-differ c =
    let s = c.self.inside in
    let at : ℕ = (c.args.first - s.first) / 8 in
    let bytes = c.div_ceil-bytes.result in
    let inside = subst (λ v. lies_in v c.args.first c.args.blocks ≡ true) (sym c.self.view_is) c.requires.inside in
    let whole = subst (λ v. (c.args.first - v.first) % 8 ≡ 0) (sym c.self.view_is) c.requires.whole in
    let held = c.holds.ensures ∙ ap (λ v. holds v (c.args.first + c.in-Some.place)) (sym c.self.view_is) in
    let first = subst (λ own. IsFirstDifference (slice_range own at (at + bytes)) (take bytes c.args.bits.now) c.in-Some.place) c.deref.ensures.value c.in-Some.ensures.value in
    subst (λ v. IsLeastDifference v c.args.first c.args.blocks c.args.bits.now (record { block = c.args.first + c.in-Some.place; held = c.holds.result })) c.self.view_is
    (compare-differs s.first s.blocks s.bits.items c.args.first c.args.blocks bytes c.args.bits.now inside whole (omega arith) c.in-Some.place c.holds.result c.if-place-blocks.true held first)

pub returns-in_default-clause-agree : goal.returns-in_default-clause-agree
returns-in_default-clause-agree c = λ _.
    let s = c.self.inside in
    let at : ℕ = (c.args.first - s.first) / 8 in
    let bytes = c.div_ceil-bytes.result in
    let inside = subst (λ v. lies_in v c.args.first c.args.blocks ≡ true) (sym c.self.view_is) c.requires.inside in
    let whole = subst (λ v. (c.args.first - v.first) % 8 ≡ 0) (sym c.self.view_is) c.requires.whole in
    let first = subst (λ own. IsFirstDifference (slice_range own at (at + bytes)) (take bytes c.args.bits.now) c.in-Some.place) c.deref.ensures.value c.in-Some.ensures.value in
    subst (λ v. Agrees v c.args.first c.args.bits.now c.args.blocks) c.self.view_is
    (compare-agrees s.first s.blocks s.bits.items c.args.first c.args.blocks bytes c.args.bits.now inside whole (omega arith) c.args.blocks (omega arith) (λ k low. first.least k (omega arith)))

pub returns-in_default-2-clause-agree : goal.returns-in_default-2-clause-agree
returns-in_default-2-clause-agree c = λ _.
    let s = c.self.inside in
    let at : ℕ = (c.args.first - s.first) / 8 in
    let bytes = c.div_ceil-bytes.result in
    let inside = subst (λ v. lies_in v c.args.first c.args.blocks ≡ true) (sym c.self.view_is) c.requires.inside in
    let whole = subst (λ v. (c.args.first - v.first) % 8 ≡ 0) (sym c.self.view_is) c.requires.whole in
    let same = subst (λ own. slice_range own at (at + bytes) ≡ take bytes c.args.bits.now) c.deref.ensures.value (c.in_default.ensures.equal.0 refl) in
    subst (λ v. Agrees v c.args.first c.args.bits.now c.args.blocks) c.self.view_is
    (compare-agrees s.first s.blocks s.bits.items c.args.first c.args.blocks bytes c.args.bits.now inside whole (omega arith) c.args.blocks (omega arith) (λ k low. ap (λ xs. bit_at xs k) same))
