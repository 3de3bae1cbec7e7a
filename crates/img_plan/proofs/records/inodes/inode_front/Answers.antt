use Rattle.std.proofs.Common.{◌+◌, take, ap, ◌∙◌, arith}
use Rattle.std.proofs.lemmas.List.{take-replicate}
use Rattle.img_plan.specs.Records.{IsInodeFront}
use Rattle.img_plan.proofs.Kept.{written_back}
use Rattle.img_plan.proofs.records.inodes.inode_front.Goals as goal

pub put_inode-requires-clause-zeros : goal.put_inode-requires-clause-zeros
put_inode-requires-clause-zeros c =
    ap (λ l. take 92 l) (c.deref_mut.ensures.value ∙ c.in_ok-value.ensures.zeros) ∙ take-replicate 92 (92 + c.args.more) 0 (omega arith)

pub returns-clause-front : goal.returns-clause-front
returns-clause-front c = written_back (IsInodeFront c.args.plan.now) _ _ _ (omega arith) c.put_inode.ensures
