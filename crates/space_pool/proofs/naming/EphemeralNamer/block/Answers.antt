use Rattle.std.proofs.Common.{◌∙◌}
use Rattle.space_pool.proofs.Named.{named-none, named-one}
use Rattle.space_pool.proofs.naming.EphemeralNamer.block.Goals as goal

pub returns-in_err-object : goal.returns-in_err-object
returns-in_err-object c = c.from_residual.ensures ∙ named-none c.args.self.now.cp.now c.args.oid c.in_err-object.ensures.found

pub returns : goal.returns
returns c = c.one_block.ensures ∙ named-one c.args.self.now.cp.now c.site.result c.args.oid c.in_ok-object.object.now c.in_ok-block.block c.site.ensures c.in_ok-object.ensures.found c.in_ok-block.ensures
