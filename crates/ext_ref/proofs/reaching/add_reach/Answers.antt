use Rattle.std.proofs.Common.{◌∙◌, ◌++◌, ◌∷◌, [], ap}
use Rattle.ext_ref.specs.Spans.{span_of}
use Rattle.ext_ref.specs.declared.range.NewRange.{NewRange}
use Rattle.ext_ref.specs.declared.covering.Span.{Span}
use Rattle.ext_ref.proofs.Left.{spanned-reach, proper-push}
use Rattle.ext_ref.proofs.reaching.add_reach.Goals as goal

pub returns-clause-proper : goal.returns-clause-proper
returns-clause-proper c proper =
    proper-push c.args.spans.now.items c.push.new.self.items c.reach_of.result (c.in_ok-push.ensures.items ∙ ap (λ (s : Span). c.args.spans.now.items ++ s ∷ []) c.span_of.ensures) proper

pub returns-clause-same : goal.returns-clause-same
returns-clause-same c k =
    spanned-reach c.args.block_size c.args.spans.now.items c.push.new.self.items c.args.extent k
    (c.in_ok-push.ensures.items ∙ ap (λ (s : Span). c.args.spans.now.items ++ s ∷ []) (c.span_of.ensures ∙ ap (λ (r : NewRange). span_of r) c.reach_of.ensures)) c.if-extent-eq0.false
