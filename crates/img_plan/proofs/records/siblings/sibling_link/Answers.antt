use Rattle.std.proofs.Common.{arith, drop, ap, ◌∙◌}
use Rattle.img_plan.specs.Records.{IsLinkValue}
use Rattle.img_plan.proofs.Kept.{name_stays, written_back}
use Rattle.img_plan.proofs.records.siblings.sibling_link.Goals as goal

pub returns-clause-value : goal.returns-clause-value
returns-clause-value c =
    let after = name_stays 8 c.args.name.now _ _ 8 (omega arith) (c.put_u64.ensures.same.after ∙ ap (λ l. drop 8 l) c.deref_mut.ensures.value) c.in_ok-value.ensures.named in
    written_back (IsLinkValue c.args.directory c.args.name.now) _ _ _ (omega arith) (record { parent = c.put_u64.ensures.value; after = after })
