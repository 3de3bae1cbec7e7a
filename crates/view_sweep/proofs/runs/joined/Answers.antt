use Rattle.std.proofs.Common.{◌≡◌, ◌++◌, ◌||◌, List, ap, sym, ◌∙◌, subst}
use Rattle.view_sweep.specs.declared.runs.Run.{Run}
use Rattle.view_sweep.specs.Runs.{AreSome, has_place}
use Rattle.view_sweep.proofs.Rises.{sorted-some, sorted-has}
use Rattle.view_sweep.proofs.runs.joined.Goals as goal

pub put_all-requires-clause-some : goal.put_all-requires-clause-some
put_all-requires-clause-some c =
    let is : c.extend_from_slice-2.new.self.items ≡ c.args.runs.now ++ c.args.more.now = c.in_ok-extend_from_slice-2.ensures.items ∙ ap (λ (xs : List Run). xs ++ c.args.more.now) (c.in_ok-extend_from_slice.ensures.items ∙ ap (λ (xs : List Run). xs ++ c.args.runs.now) c.in_ok-both.ensures.items) in
    subst AreSome (sym c.deref.ensures.value) (sorted-some c.args.runs.now c.args.more.now c.extend_from_slice-2.new.self.items c.by_begin.new.runs.items c.requires.runs c.requires.more is c.by_begin.ensures.order)

pub returns-clause-places : goal.returns-clause-places
returns-clause-places c = λ k.
    let is : c.extend_from_slice-2.new.self.items ≡ c.args.runs.now ++ c.args.more.now = c.in_ok-extend_from_slice-2.ensures.items ∙ ap (λ (xs : List Run). xs ++ c.args.more.now) (c.in_ok-extend_from_slice.ensures.items ∙ ap (λ (xs : List Run). xs ++ c.args.runs.now) c.in_ok-both.ensures.items) in
    sorted-has c.args.runs.now c.args.more.now c.extend_from_slice-2.new.self.items c.by_begin.new.runs.items c.new-all.result.items c.put_all.new.runs.items k is c.by_begin.ensures.order c.new-all.ensures.items (c.in_ok-put_all.ensures.places k ∙ ap (λ (xs : List Run). has_place c.new-all.result.items k || has_place xs k) c.deref.ensures.value)
