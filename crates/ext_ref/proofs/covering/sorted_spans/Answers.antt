use Rattle.std.proofs.Common.{rules, ◌≤◌, ◌∙◌, ap, sym, subst, List}
use Rattle.std.proofs.lemmas.List.Sorted.{list_any-IsPermutation, All-permutation, IsNonDecreasingBy-from_sort_by_key}
use Rattle.ext_ref.specs.declared.covering.Span.{Span}
use Rattle.ext_ref.specs.Spans.{span_has, is_spanned, AreProper}
use Rattle.ext_ref.proofs.Spans.{spanned-ranges, proper-ranges}
use Rattle.ext_ref.proofs.covering.sorted_spans.Goals as goal

pub returns-clause-same : goal.returns-clause-same
returns-clause-same c block =
    sym (list_any-IsPermutation (span_has block) c.in_ok-spans.spans.items c.sort_by_key.new.self.items c.sort_by_key.ensures.permutation)
    ∙ (ap (λ (spans : List Span). is_spanned spans block) c.in_ok-spans.ensures ∙ spanned-ranges c.args.ranges.now block)

pub returns-clause-proper : goal.returns-clause-proper
returns-clause-proper c =
    All-permutation (λ (s : Span). s.first ≤ s.end) c.in_ok-spans.spans.items c.sort_by_key.new.self.items c.sort_by_key.ensures.permutation
    (subst (λ (spans : List Span). AreProper spans) (sym c.in_ok-spans.ensures) (proper-ranges c.args.ranges.now))

pub returns-clause-ascending : goal.returns-clause-ascending
returns-clause-ascending c = IsNonDecreasingBy-from_sort_by_key (λ (s : Span). s.first) _ c.in_ok-sort_by_key.ensures.sorted (λ a r f k. search rules)
