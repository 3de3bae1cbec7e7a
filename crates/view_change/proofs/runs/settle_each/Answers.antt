use Rattle.std.proofs.Common.{◌≡◌, ◌<◌, ◌∙◌, length, refl, sym, subst, arith}
use Rattle.std.proofs.lemmas.Iterator.Adapters.{YieldsList-from_vec}
use Rattle.std.proofs.lemmas.Iterator.Consumers.{YieldsList-end}
use Rattle.std.proofs.lemmas.List.{map-id}
use Rattle.std.proofs.lemmas.Option.{slice_get_within}
use Rattle.view_change.specs.Settled.{IsSettled}
use Rattle.view_change.proofs.Settles.{settled-none, settled-to, settled-rest, settled-at, settled-lost}
use Rattle.view_change.proofs.runs.settle_each.Goals as goal

pub passed-init : goal.passed-init
passed-init g c = record { within = omega arith; told = settled-none c.args.gone.now.items c.args.come.now.items }

pub overflow_add-from : goal.overflow_add-from
overflow_add-from g c =
    let lt : c.place_of-place.result < length c.args.read.now = slice_get_within c.args.read.now c.place_of-place.result c.in-Some.fact (c.if-is_at.ensures refl) in
    omega arith

pub passed-preserved-then-is_at : goal.passed-preserved-then-is_at
passed-preserved-then-is_at g c =
    let read = c.args.read.now in
    let place = c.place_of-place.result in
    let lt : place < length read = slice_get_within read place c.in-Some.fact (c.if-is_at.ensures refl) in
    record {
      within = omega arith;
      told = settled-at read place c.in-Some.fact (c.if-is_at.ensures refl) (settled-to read c.add_copies.new.to.items c.passed.from place c.place_of-place.ensures.from c.in_ok-add_copies.ensures c.passed.invariant.told);
    }

pub passed-preserved : goal.passed-preserved
passed-preserved g c = record {
  within = c.place_of-place.ensures.within;
  told = settled-lost c.in-Some.fact c.push.new.self.items c.in_ok-push.ensures.items (settled-to c.args.read.now c.add_copies.new.to.items c.passed.from c.place_of-place.result c.place_of-place.ensures.from c.in_ok-add_copies.ensures c.passed.invariant.told);
}

pub returns : goal.returns
returns g c =
    let items = c.args.passed.items in
    let given = c.into_iter-fact-iterator.ensures.into_iter_gives in
    let all = YieldsList-end (YieldsList-from_vec {s = c.into_iter-fact-iterator.result} items given.0 (given.1 ∙ c.args.passed.ok.0)) c.passed.yielded c.passed.fact-iterator c.passed.yielded_by _ c.next.new.self c.in-None.is c.next.ensures.steps in
    let same : c.passed.yielded ≡ items = sym (map-id c.passed.yielded) ∙ all.0 in
    subst (λ xs. IsSettled xs c.args.read.now c.args.gone.now.items c.passed.gone.items c.args.come.now.items c.add_copies-2.new.to.items) same
    (settled-rest c.args.read.now c.add_copies-2.new.to.items c.passed.from c.passed.invariant.within c.in_ok-add_copies-2.ensures c.passed.invariant.told)
