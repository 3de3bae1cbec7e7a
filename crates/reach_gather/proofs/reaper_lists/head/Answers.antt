use Rattle.std.proofs.Common.{sym, ◌∙◌, ap, subst}
use Rattle.reach_rules.specs.declared.naming.LookUp.TheVariants.{ByMapping}
use Rattle.reach_rules.specs.declared.naming.Expected.TheVariants.{ReaperObject}
use Rattle.reach_rules.specs.Naming.{naming}
use Rattle.nx_block.specs.Reaper.{reaper_head_of}
use Rattle.reach_gather.specs.Reaped.{IsLink}
use Rattle.reach_gather.proofs.Chained.{of-reaper, chain-present, chain-free, chain-busy, chain-unplain, chain-link, flag-busy, flag-idle}
use Rattle.reach_gather.proofs.reaper_lists.head.Goals as goal

pub returns-in-Err-clause-present : goal.returns-in-Err-clause-present
returns-in-Err-clause-present c image namer at live = chain-present of-reaper image c.args.cp.now namer at c.args.oid c.in-Err.stop live c.in-Err.ensures.found

pub returns-in-Err-clause-exact : goal.returns-in-Err-clause-exact
returns-in-Err-clause-exact c image namer at plain = chain-free of-reaper image c.args.cp.now namer at c.args.oid c.in-Err.stop plain c.in-Err.ensures.found

pub returns-then-flags-eq-CONTINUE-clause-present : goal.returns-then-flags-eq-CONTINUE-clause-present
returns-then-flags-eq-CONTINUE-clause-present c image namer at live =
    chain-busy of-reaper image c.args.cp.now namer at c.args.oid c.in-Ok.mapped.block c.in-Ok.mapped.bytes.now c.in-Ok.ensures.found (flag-busy c.in-Ok.mapped.bytes.now c.reaper_read-reaper.result c.flags.result c.reaper_read-reaper.ensures c.flags.ensures c.if-flags-eq-CONTINUE.true) live

pub returns-then-flags-eq-CONTINUE-clause-exact : goal.returns-then-flags-eq-CONTINUE-clause-exact
returns-then-flags-eq-CONTINUE-clause-exact c image namer at plain =
    chain-unplain of-reaper image c.args.cp.now namer at c.args.oid c.in-Ok.mapped.block c.in-Ok.mapped.bytes.now c.in-Ok.ensures.found (flag-busy c.in-Ok.mapped.bytes.now c.reaper_read-reaper.result c.flags.result c.reaper_read-reaper.ensures c.flags.ensures c.if-flags-eq-CONTINUE.true) plain

pub returns-clause-clear : goal.returns-clause-clear
returns-clause-clear c image namer at =
    subst (IsLink image c.args.cp.now (naming namer at ReaperObject ByMapping c.args.oid) 48) (sym (c.head.ensures ∙ ap reaper_head_of c.reaper_read-reaper.ensures))
    (chain-link of-reaper image c.args.cp.now namer at c.args.oid c.in-Ok.mapped.block c.in-Ok.mapped.bytes.now c.in-Ok.ensures.found (flag-idle c.in-Ok.mapped.bytes.now c.reaper_read-reaper.result c.flags.result c.reaper_read-reaper.ensures c.flags.ensures c.if-flags-eq-CONTINUE.false))
