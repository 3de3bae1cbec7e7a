use Rattle.id_lists.proofs.InOrder.{placed_number}
use Rattle.byte_cases.proofs.tests.lists.put_back.Goals as goal

pub set-requires : goal.set-requires
set-requires c = placed_number (λ n. n) c.args.list.now c.args.id c.in-Some.at c.in-Some.ensures
