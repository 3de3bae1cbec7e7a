use Rattle.std.proofs.Common.{List, get_or, ap, ◌∙◌}
use Rattle.std.specs.List.{list_any}
use Rattle.ext_ref.specs.Spans.{is_spanned}
use Rattle.ext_ref.specs.Sweep.{meets}
use Rattle.ext_ref.specs.declared.covering.Span.{Span}
use Rattle.ext_ref.proofs.Sweeps.{count-added}
use Rattle.ext_ref.proofs.sweeping.add_stream.Goals as goal

pub returns-clause-counts : goal.returns-clause-counts
returns-clause-counts c i none low =
    count-added c.args.out.now.items c.as_spans.result.now c.extend_from_slice.new.self.items i (list_any (meets c.args.block_size (get_or c.args.spans.now i none)) c.args.extents.now) c.as_spans.ensures.apart
    c.in_ok-extend_from_slice.ensures.items
    (ap (λ (ss : List Span). is_spanned ss i) c.as_spans.ensures.same ∙ (c.joining-cover.ensures i ∙ c.in_ok-places.ensures.same i none low))
