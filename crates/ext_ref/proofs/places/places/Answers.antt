use Rattle.std.proofs.Common.{ℕ, get_or, ap, ◌∙◌, ◌++◌, ◌∷◌, []}
use Rattle.fs_record.specs.declared.extents.FileExt.{FileExt}
use Rattle.ext_ref.specs.declared.covering.Span.{Span}
use Rattle.ext_ref.proofs.Left.{proper-push}
use Rattle.ext_ref.proofs.Sweeps.{spanned-next}
use Rattle.ext_ref.proofs.places.places.Goals as goal

pub loop-extent-preserved : goal.loop-extent-preserved
loop-extent-preserved c =
    let d : ℕ × FileExt = (0, record { logical = 0; length = 0; block = 0 }) in
    let more = c.in_ok-push.ensures.items ∙ ap (λ (s : Span). c.loop-extent.places.items ++ s ∷ []) c.span_of.ensures in
    record {
      proper = proper-push c.loop-extent.places.items c.push.new.self.items c.places_of.result more c.loop-extent.invariant.proper;
      same = λ i none low.
          spanned-next c.args.block_size (get_or c.args.spans.now i none) c.args.extents.now c.loop-extent.extent-index i d c.loop-extent.places.items c.push.new.self.items c.places_of.result
          c.loop-extent-test.true more (c.places_of.ensures i none low) (c.loop-extent.invariant.same i none low);
    }
