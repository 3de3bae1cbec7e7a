use Rattle.std.proofs.Common.{rules, ◌≤◌, ◌∙◌, List, subst, sym}
use Rattle.std.specs.List.Sorted.{IsNonDecreasingBy}
use Rattle.std.proofs.lemmas.List.Sorted.{list_any-IsPermutation, All-permutation, IsNonDecreasingBy-from_sort_by_key}
use Rattle.ext_ref.specs.declared.covering.Span.{Span}
use Rattle.ext_ref.specs.Spans.{span_has, AreProper}
use Rattle.ext_ref.proofs.Joined.{IsStep, joined-in-place}
use Rattle.ext_ref.proofs.covering.set_apart.Goals as goal

pub returns-clause-apart : goal.returns-clause-apart
returns-clause-apart c =
    let sorted : List Span = c.sort_unstable_by_key.new.self.items in
    let proper : AreProper sorted = All-permutation (λ (s : Span). s.first ≤ s.end) c.args.spans.now.items sorted c.sort_unstable_by_key.ensures.permutation c.requires in
    let up : IsNonDecreasingBy (λ (s : Span). s.first) sorted = IsNonDecreasingBy-from_sort_by_key (λ (s : Span). s.first) _ c.sort_unstable_by_key.ensures.sorted (λ a r f k. search rules) in
    (joined-in-place _ _ _ _ c.dedup_by.ensures.filtered (λ s x k b t x' k' h. subst (λ t. t) (λ i. IsStep (h.shows.0 i) (h.shows.1 i) b (h.leaves.0 i) (h.leaves.1 i)) h.called.met) proper up).0

pub returns-clause-blocks : goal.returns-clause-blocks
returns-clause-blocks c block =
    let old : List Span = c.args.spans.now.items in
    let sorted : List Span = c.sort_unstable_by_key.new.self.items in
    let proper : AreProper sorted = All-permutation (λ (s : Span). s.first ≤ s.end) old sorted c.sort_unstable_by_key.ensures.permutation c.requires in
    let up : IsNonDecreasingBy (λ (s : Span). s.first) sorted = IsNonDecreasingBy-from_sort_by_key (λ (s : Span). s.first) _ c.sort_unstable_by_key.ensures.sorted (λ a r f k. search rules) in
    (joined-in-place _ _ _ _ c.dedup_by.ensures.filtered (λ s x k b t x' k' h. subst (λ t. t) (λ i. IsStep (h.shows.0 i) (h.shows.1 i) b (h.leaves.0 i) (h.leaves.1 i)) h.called.met) proper up).1 block
    ∙ sym (list_any-IsPermutation (span_has block) old sorted c.sort_unstable_by_key.ensures.permutation)
