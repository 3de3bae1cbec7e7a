use Rattle.std.proofs.Common.{◌≡◌, ◌≤◌, ◌<◌, ℕ, get_or, length, take}
use Rattle.ext_ref.specs.declared.covering.Span.{Span}
use Rattle.ext_ref.specs.Spans.{AreApart, is_spanned}
use Rattle.ext_ref.specs.Left.{is_left, AreFull, EndBy, AreUpTo}
use Rattle.ext_ref.proofs.reaching.left.Given as goal

abbrev pub invariant-loop-span : goal.invariant-loop-span
invariant-loop-span l = record {
  apart : AreApart l.spans.items;
  full : AreFull l.spans.items;
  up_to : (k : ℕ) (d : Span) → l.span-index ≤ k → k < length l.cover → AreUpTo (get_or l.cover k d).first l.spans.items;
  before : (k : ℕ) (d : Span) → l.span-index ≤ k → k < length l.cover → EndBy (get_or l.cover k d).first l.next l.others;
  blocks : (k : ℕ) → is_spanned l.spans.items k ≡ is_left (take l.span-index l.cover) l.others k;
}
