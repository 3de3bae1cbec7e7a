use Rattle.std.proofs.Common.{◌≡◌, ◌∙◌, ◌<◌, ◌≤◌, length, false, take, drop, arith, refl, sym, ap, subst, inl, inr}
use Rattle.std.proofs.lemmas.Bool.{false≢true, cases_lt}
use Rattle.std.proofs.lemmas.List.{length-map, get_or-map}
use Rattle.view_change.specs.Shared.{is_among}
use Rattle.view_change.specs.Kept.{leaf_of}
use Rattle.view_change.specs.Changing.{leaves_left}
use Rattle.view_change.proofs.Lookups.{found-here, none-here, none-left}
use Rattle.view_change.proofs.changing.Changing.place_of.Goals as goal

pub returns-in-Some-clause-found : goal.returns-in-Some-clause-found
returns-in-Some-clause-found c =
    let items = c.args.self.now.leaves.items in
    let place = c.saturating_add-place.result in
    let kept = c.in-Some.kept.now in
    let all = length-map items leaf_of in
    let inside = c.in-Some.ensures.variant.0 refl in
    let long = c.args.self.now.leaves.ok.0 in
    let low : place < length items = omega (arith, inside, long) in
    let here = get_or-map leaf_of items place kept kept.leaf low ∙ ap leaf_of (sym c.in-Some.ensures.lookup) in
    found-here (leaves_left c.args.self.now) c.args.leaf.now kept.leaf c.args.from c.next.ahead place c.saturating_add-place.ensures (omega arith) (omega arith) here (sym c.eq.ensures ∙ c.if-eq.true) c.next.invariant

pub returns-in-None-clause-none : goal.returns-in-None-clause-none
returns-in-None-clause-none c =
    let items = c.args.self.now.leaves.items in
    let place = c.saturating_add-place.result in
    let all = length-map items leaf_of in
    let long = c.args.self.now.leaves.ok.0 in
    let past : length items ≤ place = elim (cases_lt place (length items)) [ inl low ↦ absurd (false≢true (c.in-None.ensures.variant.1 (omega (arith, low, long)))) | inr high ↦ high ] in
    none-left (leaves_left c.args.self.now) c.args.leaf.now c.args.from c.next.ahead place c.saturating_add-place.ensures (omega (arith, past, all)) (omega arith) c.next.invariant

pub next-preserved : goal.next-preserved
next-preserved c =
    let items = c.args.self.now.leaves.items in
    let place = c.saturating_add-place.result in
    let kept = c.in-Some.kept.now in
    let all = length-map items leaf_of in
    let inside = c.in-Some.ensures.variant.0 refl in
    let long = c.args.self.now.leaves.ok.0 in
    let low : place < length items = omega (arith, inside, long) in
    let here = get_or-map leaf_of items place kept kept.leaf low ∙ ap leaf_of (sym c.in-Some.ensures.lookup) in
    none-here (leaves_left c.args.self.now) c.args.leaf.now kept.leaf c.args.from c.next.ahead place c.saturating_add-place.ensures (omega arith) (omega arith) here (sym c.eq.ensures ∙ c.if-eq.false) c.next.invariant

pub returns-clause-none : goal.returns-clause-none
returns-clause-none c = let all : c.next.ahead ≡ 256 = omega arith in subst (λ n. is_among (take n (drop c.args.from (leaves_left c.args.self.now))) c.args.leaf.now ≡ false) all c.next.invariant
