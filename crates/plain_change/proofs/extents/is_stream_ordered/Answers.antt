use Rattle.std.proofs.Common.{List, map, sym, ap, ◌∙◌}
use Rattle.fs_record.specs.Facts.{Fact}
use Rattle.fs_record.specs.StreamExtents.{are_extents_ordered}
use Rattle.fs_record.specs.declared.extents.FileExt.{FileExt}
use Rattle.plain_change.proofs.extents.is_stream_ordered.Goals as goal

pub returns : goal.returns
returns c holds = ap (λ (fs : List (Fact FileExt)). are_extents_ordered c.args.block_size (map (λ (f : Fact FileExt). f.what) fs)) (sym c.extents_of.ensures) ∙ c.are_in_order.ensures holds
