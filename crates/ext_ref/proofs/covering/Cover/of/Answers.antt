use Rattle.std.proofs.Common.{◌∙◌, List, ap, subst, sym}
use Rattle.ext_ref.specs.declared.covering.Span.{Span}
use Rattle.ext_ref.specs.Spans.{is_spanned, AreProper}
use Rattle.ext_ref.proofs.Spans.{spanned-ranges, proper-ranges}
use Rattle.ext_ref.proofs.covering.Cover.of.Goals as goal

pub joining-requires : goal.joining-requires
joining-requires c = subst (λ (spans : List Span). AreProper spans) (sym c.in_ok-spans.ensures) (proper-ranges c.args.ranges.now)

pub returns : goal.returns
returns c block = c.joining.ensures block ∙ (ap (λ (spans : List Span). is_spanned spans block) c.in_ok-spans.ensures ∙ spanned-ranges c.args.ranges.now block)
