use Rattle.std.proofs.Common.{◌+◌, ◌∙◌, ap, length, drop, replicate, arith}
use Rattle.std.proofs.lemmas.List.{drop-replicate}
use Rattle.img_plan.specs.Records.{IsHashedKey}
use Rattle.img_plan.proofs.Kept.{written_back}
use Rattle.img_plan.proofs.records.entries.hashed_key.Goals as goal

pub put_hashed-requires-clause-last : goal.put_hashed-requires-clause-last
put_hashed-requires-clause-last c =
    let before = 12 + length c.args.name.now in
    ap (λ l. drop before l) (c.deref_mut.ensures.value ∙ c.in_ok-key.ensures.zeros) ∙ drop-replicate before (before + 1) 0 ∙ ap (λ n. replicate n 0) {y = 1} (omega arith)

pub returns-clause-key : goal.returns-clause-key
returns-clause-key c = written_back (IsHashedKey c.args.directory c.args.hash c.args.name.now) _ _ _ (omega arith) c.put_hashed.ensures
