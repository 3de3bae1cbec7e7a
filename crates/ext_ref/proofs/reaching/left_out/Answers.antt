use Rattle.std.proofs.Common.{◌≡◌, ◌∙◌, ap, subst, sym, ℕ, List, map, ◌≤◌, ◌<◌, ◌-◌}
use Rattle.std.specs.Prelude.{◌^◌}
use Rattle.std.specs.List.{All, list_any}
use Rattle.ext_ref.specs.Spans.{IsCoverOf, is_spanned}
use Rattle.ext_ref.specs.Unreached.{reaches, unreached_runs}
use Rattle.ext_ref.specs.Left.{run_of, AreLow}
use Rattle.ext_ref.specs.declared.covering.Span.{Span}
use Rattle.ext_ref.proofs.Left.{low-spans, left-short, runs-unreached, ok-then}
use Rattle.ext_ref.proofs.reaching.left_out.Goals as goal

pub left-requires-clause-low : goal.left-requires-clause-low
left-requires-clause-low c = subst (λ (spans : List Span). AreLow spans) (sym c.as_spans.ensures.same) (low-spans c.args.ranges.now c.in_ok-cover.cover c.requires c.in_ok-cover.ensures)

pub runs-requires : goal.runs-requires
runs-requires c =
    let cover : IsCoverOf c.args.ranges.now c.as_spans.result.now = subst (λ (spans : List Span). IsCoverOf c.args.ranges.now spans) (sym c.as_spans.ensures.same) c.in_ok-cover.ensures in
    subst (λ (spans : List Span). All (λ (s : Span). (s.first ≤ s.end) × (s.end - s.first < 2 ^ 64)) spans) (sym c.deref.ensures.value)
    (left-short c.args.ranges.now c.as_spans.result.now c.as_spans-2.result.now c.in_ok-spans.spans.items c.requires cover c.in_ok-spans.ensures)

pub returns : goal.returns
returns c block_size extents same =
    let ranges = c.args.ranges.now in
    let spans = c.in_ok-spans.spans.items in
    let cover : IsCoverOf ranges c.as_spans.result.now = subst (λ (ss : List Span). IsCoverOf ranges ss) (sym c.as_spans.ensures.same) c.in_ok-cover.ensures in
    let reach : (k : ℕ) → is_spanned c.as_spans-2.result.now k ≡ list_any (reaches block_size k) extents = λ k. ap (λ (ss : List Span). is_spanned ss k) c.as_spans-2.ensures.same ∙ same k in
    let all : map run_of spans ≡ unreached_runs block_size ranges extents = runs-unreached block_size ranges extents c.as_spans.result.now c.as_spans-2.result.now spans cover reach c.in_ok-spans.ensures in
    ok-then c.runs.result (λ runs. runs.items ≡ map run_of c.deref.result.now) (λ runs. runs.items ≡ unreached_runs block_size ranges extents)
    (λ runs e. e ∙ (ap (λ (ss : List Span). map run_of ss) c.deref.ensures.value ∙ all)) c.runs.ensures
