use Rattle.std.proofs.Common.{rules, ◌≡◌, ◌<◌, ◌∙◌, Some, true, length, ap, sym, arith}
use Rattle.path_read.specs.Attributes.{is_called}
use Rattle.path_read.proofs.Named.{find_first, find_none}
use Rattle.path_read.proofs.attribute.named.Goals as goal

pub returns-then-is_called : goal.returns-then-is_called
returns-then-is_called c =
    let low : c.loop-attribute.attribute-index < length c.args.attributes.now = omega arith in
    let called : c.is_called.result ≡ true = search rules in
    ap Some c.attribute-item.is
    ∙ sym (find_first (is_called c.args.name.now) c.args.attributes.now c.loop-attribute.attribute-index c.attribute-item.result low (λ k less. c.loop-attribute.invariant k c.attribute-item.result less)
    (ap (is_called c.args.name.now) (sym c.attribute-item.is) ∙ (sym c.is_called.ensures ∙ called)))

pub returns : goal.returns
returns c = sym (find_none (is_called c.args.name.now) c.args.attributes.now (λ k d low. c.loop-attribute.invariant k d (omega arith)))
