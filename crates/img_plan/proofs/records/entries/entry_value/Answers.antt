use Rattle.std.proofs.Common.{take, drop, ap, sym, subst, ◌∙◌, arith}
use Rattle.img_plan.specs.Records.{EndsInSibling, IsEntryValue}
use Rattle.img_plan.proofs.Fronts.{entry_front_stays}
use Rattle.img_plan.proofs.Kept.{written_back}
use Rattle.img_plan.proofs.records.entries.entry_value.Goals as goal

pub returns-clause-value : goal.returns-clause-value
returns-clause-value c =
    let plan = c.args.plan.now in
    let front = entry_front_stays plan.file plan.kind _ _ (c.put_sibling.ensures.front ∙ ap (λ l. take 18 l) c.deref_mut.ensures.value) c.in_ok-value.ensures.front in
    let end = subst (λ s. EndsInSibling s (drop 18 c.put_sibling.new.value)) (sym c.in-Some.is) c.put_sibling.ensures.field in
    written_back (IsEntryValue plan) _ _ _ (omega arith) (record { front = front; end = end })
