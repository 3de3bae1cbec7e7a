use Rattle.std.proofs.Common.{◌≡◌, ℕ, take}
use Rattle.std.specs.List.{list_any}
use Rattle.ext_ref.specs.Spans.{is_spanned, AreProper}
use Rattle.ext_ref.specs.Unreached.{reaches}
use Rattle.ext_ref.proofs.reaching.reached.Given as goal

abbrev pub invariant-loop-extent : goal.invariant-loop-extent
invariant-loop-extent l = record {
  proper : AreProper l.spans.items;
  same : (k : ℕ) → is_spanned l.spans.items k ≡ list_any (reaches l.block_size k) (take l.extent-index l.extents);
}
