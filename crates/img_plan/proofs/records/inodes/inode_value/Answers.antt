use Rattle.std.proofs.Common.{take, drop, ap, sym, subst, ◌∙◌, arith}
use Rattle.img_plan.specs.Records.{EndsInStream, IsInodeValue}
use Rattle.img_plan.proofs.Fronts.{inode_front_stays, no_stream}
use Rattle.img_plan.proofs.Kept.{written_back}
use Rattle.img_plan.proofs.records.inodes.inode_value.Goals as goal

pub returns-in_default-clause-value : goal.returns-in_default-clause-value
returns-in_default-clause-value c = no_stream c.args.plan.now c.inode_front.result c.in_default.is c.inode_front.ensures.len c.inode_front.ensures.front

pub returns-clause-value : goal.returns-clause-value
returns-clause-value c =
    let plan = c.args.plan.now in
    let front = inode_front_stays plan _ _ (c.put_stream_field.ensures.front ∙ ap (λ l. take 92 l) c.deref_mut.ensures.value) c.in_ok-value.ensures.front in
    let end = subst (λ s. EndsInStream s (drop 92 c.put_stream_field.new.value)) (sym c.in-Some.is) c.put_stream_field.ensures.field in
    written_back (IsInodeValue plan) _ _ _ (omega arith) (record { front = front; end = end })
