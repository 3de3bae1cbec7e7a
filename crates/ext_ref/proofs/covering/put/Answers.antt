use Rattle.std.proofs.Common.{◌∙◌, ap, sym, subst, List, ◌++◌, ◌∷◌, []}
use Rattle.ext_ref.specs.declared.covering.Span.{Span}
use Rattle.ext_ref.specs.Spans.{AreApart, BeginBy}
use Rattle.ext_ref.proofs.Spans.{joined-apart, joined-by, further-apart}
use Rattle.ext_ref.proofs.covering.put.Goals as goal

pub returns-in_ok-push-in-Some-joined-clause-apart : goal.returns-in_ok-push-in-Some-joined-clause-apart
returns-in_ok-push-in-Some-joined-clause-apart c =
    let was : AreApart (c.pop.new.self.items ++ c.in-Some.last ∷ []) = subst (λ (spans : List Span). AreApart spans) c.in-Some.ensures.items c.requires.apart in
    subst (λ (spans : List Span). AreApart spans) (sym c.in_ok-push-in-Some-joined.ensures.items) (joined-apart c.pop.new.self.items c.in-Some.last c.args.span c.in-Some-joined.both was (sym c.in-Some-joined.ensures))

pub returns-in_ok-push-in-Some-joined-clause-by : goal.returns-in_ok-push-in-Some-joined-clause-by
returns-in_ok-push-in-Some-joined-clause-by c =
    let was : BeginBy c.args.span.first (c.pop.new.self.items ++ c.in-Some.last ∷ []) = subst (λ (spans : List Span). BeginBy c.args.span.first spans) c.in-Some.ensures.items c.requires.after in
    subst (λ (spans : List Span). BeginBy c.args.span.first spans) (sym c.in_ok-push-in-Some-joined.ensures.items) (joined-by c.pop.new.self.items c.in-Some.last c.args.span c.in-Some-joined.both was (sym c.in-Some-joined.ensures))

pub returns-in_ok-push-in-None-2-clause-apart : goal.returns-in_ok-push-in-None-2-clause-apart
returns-in_ok-push-in-None-2-clause-apart c =
    let was : AreApart (c.pop.new.self.items ++ c.in-Some.last ∷ []) = subst (λ (spans : List Span). AreApart spans) c.in-Some.ensures.items c.requires.apart in
    let apart = further-apart c.pop.new.self.items c.in-Some.last c.args.span was (sym c.in-None.ensures) c.requires.proper in
    subst (λ (spans : List Span). AreApart spans) (sym (c.in_ok-push-in-None-2.ensures.items ∙ ap (λ (spans : List Span). spans ++ c.args.span ∷ []) c.in_ok-push-in-None.ensures.items)) apart
