use Rattle.std.proofs.Common.{◌≡◌, ◌∙◌, ◌<◌, ◌-◌, ℕ, List, get_or, map, sym, subst}
use Rattle.std.specs.Prelude.{count_by, nat_le}
use Rattle.std.specs.List.Sorted.{IsPermutation}
use Rattle.std.proofs.lemmas.Result.{IfOk-weaker}
use Rattle.ext_ref.specs.Spans.{span_has}
use Rattle.ext_ref.specs.declared.covering.Span.{Span}
use Rattle.ext_ref.proofs.Sweeps.{fewer-ended, less-of, rest-of}
use Rattle.ext_ref.proofs.sweeping.counts_of.Goals as goal

pub differences-requires-clause-fewer : goal.differences-requires-clause-fewer
differences-requires-clause-fewer c i =
    let spans : List Span = c.args.spans.now in
    let p : IsPermutation (map (λ (s : Span). s.first) spans) c.deref.result.now = subst (λ (ns : List ℕ). IsPermutation (map (λ (s : Span). s.first) spans) ns) (sym c.deref.ensures.value) c.in_ok-firsts.ensures.same in
    let q : IsPermutation (map (λ (s : Span). s.end) spans) c.deref-2.result.now = subst (λ (ns : List ℕ). IsPermutation (map (λ (s : Span). s.end) spans) ns) (sym c.deref-2.ensures.value) c.in_ok-ends.ensures.same in
    less-of _ _ _ (fewer-ended spans c.deref.result.now c.deref-2.result.now i c.requires p q)

pub returns-clause-each : goal.returns-clause-each
returns-clause-each c =
    let spans : List Span = c.args.spans.now in
    let p : IsPermutation (map (λ (s : Span). s.first) spans) c.deref.result.now = subst (λ (ns : List ℕ). IsPermutation (map (λ (s : Span). s.first) spans) ns) (sym c.deref.ensures.value) c.in_ok-firsts.ensures.same in
    let q : IsPermutation (map (λ (s : Span). s.end) spans) c.deref-2.result.now = subst (λ (ns : List ℕ). IsPermutation (map (λ (s : Span). s.end) spans) ns) (sym c.deref-2.ensures.value) c.in_ok-ends.ensures.same in
    IfOk-weaker c.differences.result
    (λ counts. (i : ℕ) → i < c.args.until → get_or counts.items i 0 ≡ count_by (λ (n : ℕ). nat_le n i) c.deref.result.now - count_by (λ (n : ℕ). nat_le n i) c.deref-2.result.now)
    (λ counts. (i : ℕ) → i < c.args.until → get_or counts.items i 0 ≡ count_by (span_has i) spans)
    (λ counts each i low. each i low ∙ rest-of _ _ _ (fewer-ended spans c.deref.result.now c.deref-2.result.now i c.requires p q))
    c.differences.ensures.each
