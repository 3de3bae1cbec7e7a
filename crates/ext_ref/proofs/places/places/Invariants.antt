use Rattle.std.proofs.Common.{◌≡◌, ◌<◌, ℕ, get_or, length, take}
use Rattle.std.specs.List.{list_any}
use Rattle.ext_ref.specs.Spans.{is_spanned, AreProper}
use Rattle.ext_ref.specs.Sweep.{meets}
use Rattle.ext_ref.specs.declared.covering.Span.{Span}
use Rattle.ext_ref.proofs.places.places.Given as goal

abbrev pub invariant-loop-extent : goal.invariant-loop-extent
invariant-loop-extent l = record {
  proper : AreProper l.places.items;
  same : (i : ℕ) (none : Span) → i < length l.spans → is_spanned l.places.items i ≡ list_any (meets l.block_size (get_or l.spans i none)) (take l.extent-index l.extents);
}
