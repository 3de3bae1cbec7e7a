use Rattle.std.proofs.Common.{sum, arith}
use Rattle.apfs_model.specs.Sum.{weighted}
use Rattle.obj_base.proofs.Sums.{stored_of_rest}
use Rattle.nx_ring.proofs.running_sum.RunningSum.stored.Goals as goal

pub returns : goal.returns
returns c words s = stored_of_rest c.args.self.now.plain c.args.self.now.weighted (sum words) (weighted words) (Prim.omega (arith, s.plain)) (Prim.omega (arith, s.weighted))
