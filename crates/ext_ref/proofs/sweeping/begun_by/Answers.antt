use Rattle.std.proofs.Common.{ℕ, sym}
use Rattle.std.specs.Prelude.{nat_le}
use Rattle.id_lists.proofs.InOrder.{point-count}
use Rattle.ext_ref.proofs.sweeping.begun_by.Goals as goal

pub returns : goal.returns
returns c = sym (point-count (λ (n : ℕ). nat_le n c.args.place) c.args.firsts.now c.up_to.result c.up_to.ensures.bound c.up_to.ensures.split)
