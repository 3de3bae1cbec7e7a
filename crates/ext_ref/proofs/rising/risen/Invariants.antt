use Rattle.std.proofs.Common.{◌≤◌, ◌<◌, ℕ, get_or, length}
use Rattle.std.specs.List.{All}
use Rattle.ext_ref.specs.Spans.{BeginBy}
use Rattle.ext_ref.specs.Sweep.{AreRising}
use Rattle.ext_ref.specs.declared.covering.Span.{Span}
use Rattle.ext_ref.proofs.rising.risen.Given as goal

abbrev pub invariant-loop-span : goal.invariant-loop-span
invariant-loop-span l = record {
  rising : AreRising l.spans.items;
  by : (k : ℕ) (d : Span) → l.span-index ≤ k → k < length l.sorted → BeginBy (get_or l.sorted k d).first l.spans.items;
  far : All (λ (s : Span). s.end ≤ l.far) l.spans.items;
}
