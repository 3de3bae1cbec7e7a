use Rattle.std.proofs.Common.{◌≡◌, ◌+◌, ◌∙◌, ap, length, take, drop, replicate, arith}
use Rattle.std.proofs.lemmas.List.{take-replicate, drop-replicate}
use Rattle.img_plan.specs.Records.{EndsInName}
use Rattle.img_plan.proofs.Kept.{written_back}
use Rattle.img_plan.proofs.records.names.zeros_and_name.Goals as goal

pub put_name-requires-clause-last : goal.put_name-requires-clause-last
put_name-requires-clause-last c =
    let before = c.args.place + 2 + length c.args.name.now in
    ap (λ l. drop before l) (c.deref_mut.ensures.value ∙ c.in_ok-bytes.ensures.zeros) ∙ drop-replicate before (before + 1) 0 ∙ ap (λ n. replicate n 0) {y = 1} (omega arith)

pub returns-clause-named : goal.returns-clause-named
returns-clause-named c = written_back (EndsInName c.args.place c.args.name.now) _ _ _ (omega arith) c.put_name.ensures.named

pub returns-clause-zeros : goal.returns-clause-zeros
returns-clause-zeros c =
    let place = c.args.place in
    written_back (λ l. take place l ≡ replicate place 0) _ _ _ (omega arith)
    (c.put_name.ensures.front ∙ ap (λ l. take place l) (c.deref_mut.ensures.value ∙ c.in_ok-bytes.ensures.zeros) ∙ take-replicate place (place + 2 + length c.args.name.now + 1) 0 (omega arith))
