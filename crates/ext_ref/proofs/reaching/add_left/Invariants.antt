use Rattle.std.proofs.Common.{◌≡◌, ◌≤◌, ◌&&◌, ◌||◌, ℕ, not}
use Rattle.std.specs.Prelude.{nat_le, nat_lt}
use Rattle.ext_ref.specs.Spans.{is_spanned}
use Rattle.ext_ref.specs.Left.{EndBy, AreUpTo}
use Rattle.ext_ref.proofs.reaching.add_left.Given as goal

abbrev pub invariant-loop-next : goal.invariant-loop-next
invariant-loop-next l = record {
  low : l.span.first ≤ l.at;
  high : l.at ≤ l.span.end;
  up_to : AreUpTo l.at l.spans.items;
  before : EndBy l.at l.next l.others;
  blocks : (k : ℕ) → is_spanned l.spans.items k ≡ (is_spanned l.fn.spans.items k || ((nat_le l.span.first k && nat_lt k l.at) && not (is_spanned l.others k)));
}
