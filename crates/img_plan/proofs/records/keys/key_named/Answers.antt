use Rattle.std.proofs.Common.{arith, ◌%◌, drop, ap, ◌∙◌}
use Rattle.img_plan.specs.Records.{IsNamedKey}
use Rattle.img_plan.proofs.Kept.{name_stays, written_back}
use Rattle.img_plan.proofs.records.keys.key_named.Goals as goal

pub returns-clause-named : goal.returns-clause-named
returns-clause-named c =
    let after = name_stays 8 c.args.name.now _ _ 8 (omega arith) (c.put_start.ensures.same ∙ ap (λ l. drop 8 l) c.deref_mut.ensures.value) c.in_ok-key.ensures.named in
    written_back (IsNamedKey c.args.id (c.args.kind % 16) c.args.name.now) _ _ _ (omega arith) (record { start = c.put_start.ensures.start; after = after })
