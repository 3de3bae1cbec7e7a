use Rattle.std.proofs.Common.{◌≡◌, ◌∙◌, arith}
use Rattle.space_map.specs.Fields.{cibs_of}
use Rattle.space_map.proofs.Infos.{cib-has-address, cabs_none, direct_all, direct_long, named_direct}
use Rattle.space_map.proofs.info.direct.Goals as goal

pub address-requires : goal.address-requires
address-requires c = cib-has-address c.args.site.now c.args.manager.now c.cibs.index c.requires.shaped c.requires.none (omega arith)

pub returns-clause-cabs : goal.returns-clause-cabs
returns-clause-cabs c = c.new-cabs.ensures.items ∙ cabs_none c.args.manager.now c.requires.none

pub returns-clause-count : goal.returns-clause-count
returns-clause-count c = let end : c.cibs.index ≡ cibs_of c.args.manager.now = omega arith in direct_long c.args.manager.now c.cibs.cibs.items c.cibs.index end c.cibs.invariant

pub returns-clause-clear : goal.returns-clause-clear
returns-clause-clear c image =
    let end : c.cibs.index ≡ cibs_of c.args.manager.now = omega arith in
    named_direct image c.args.site.now c.args.manager.now c.cibs.cibs.items c.requires.shaped c.requires.none (direct_all c.args.manager.now c.cibs.cibs.items c.cibs.index end c.cibs.invariant)
