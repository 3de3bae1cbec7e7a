use Rattle.std.proofs.Common.{sym, ◌∙◌, ap, subst}
use Rattle.reach_rules.specs.declared.naming.LookUp.TheVariants.{ByMapping}
use Rattle.reach_rules.specs.declared.naming.Expected.TheVariants.{ReapList}
use Rattle.reach_rules.specs.Naming.{naming}
use Rattle.nx_block.specs.Reaper.{reap_next_of}
use Rattle.reach_gather.specs.Reaped.{IsLink}
use Rattle.reach_gather.proofs.Chained.{of-list, chain-present, chain-free, chain-busy, chain-unplain, chain-link, count-some, count-none}
use Rattle.reach_gather.proofs.reaper_lists.after.Goals as goal

pub returns-in-Err-clause-present : goal.returns-in-Err-clause-present
returns-in-Err-clause-present c image namer at live = chain-present of-list image c.args.cp.now namer at c.args.oid c.in-Err.stop live c.in-Err.ensures.found

pub returns-in-Err-clause-exact : goal.returns-in-Err-clause-exact
returns-in-Err-clause-exact c image namer at plain = chain-free of-list image c.args.cp.now namer at c.args.oid c.in-Err.stop plain c.in-Err.ensures.found

pub returns-then-count-ne0-clause-present : goal.returns-then-count-ne0-clause-present
returns-then-count-ne0-clause-present c image namer at live =
    chain-busy of-list image c.args.cp.now namer at c.args.oid c.in-Ok.mapped.block c.in-Ok.mapped.bytes.now c.in-Ok.ensures.found (count-some c.in-Ok.mapped.bytes.now c.reap_list_read-list.result c.count.result c.reap_list_read-list.ensures c.count.ensures c.if-count-ne0.true) live

pub returns-then-count-ne0-clause-exact : goal.returns-then-count-ne0-clause-exact
returns-then-count-ne0-clause-exact c image namer at plain =
    chain-unplain of-list image c.args.cp.now namer at c.args.oid c.in-Ok.mapped.block c.in-Ok.mapped.bytes.now c.in-Ok.ensures.found (count-some c.in-Ok.mapped.bytes.now c.reap_list_read-list.result c.count.result c.reap_list_read-list.ensures c.count.ensures c.if-count-ne0.true) plain

pub returns-clause-clear : goal.returns-clause-clear
returns-clause-clear c image namer at =
    subst (IsLink image c.args.cp.now (naming namer at ReapList ByMapping c.args.oid) 32) (sym (c.next.ensures ∙ ap reap_next_of c.reap_list_read-list.ensures))
    (chain-link of-list image c.args.cp.now namer at c.args.oid c.in-Ok.mapped.block c.in-Ok.mapped.bytes.now c.in-Ok.ensures.found (count-none c.in-Ok.mapped.bytes.now c.reap_list_read-list.result c.count.result c.reap_list_read-list.ensures c.count.ensures c.if-count-ne0.false))
