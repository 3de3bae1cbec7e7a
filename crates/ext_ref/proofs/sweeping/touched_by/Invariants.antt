use Rattle.std.proofs.Common.{◌≡◌, ◌<◌, ℕ, get_or, length, take}
use Rattle.std.specs.Prelude.{filter, count_by}
use Rattle.std.specs.List.{list_any}
use Rattle.ext_ref.specs.Spans.{span_has, AreProper}
use Rattle.ext_ref.specs.Sweep.{meets, is_of}
use Rattle.ext_ref.specs.declared.covering.Span.{Span}
use Rattle.ext_ref.proofs.sweeping.touched_by.Given as goal

abbrev pub invariant-loop-id : goal.invariant-loop-id
invariant-loop-id l = record {
  proper : AreProper l.out.items;
  counts : (i : ℕ) (none : Span) → i < length l.spans → count_by (span_has i) l.out.items ≡ count_by (λ (id : ℕ). list_any (meets l.block_size (get_or l.spans i none)) (filter (is_of id) l.extents)) (take l.id-index l.ids);
}
