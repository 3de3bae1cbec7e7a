use Rattle.std.proofs.Common.{arith}
use Rattle.img_plan.proofs.Kept.{u64_before}
use Rattle.img_plan.proofs.records.keys.put_second.Goals as goal

pub returns-clause-start : goal.returns-clause-start
returns-clause-start c = u64_before _ _ 0 8 16 (omega arith) c.put_u64.ensures.same
