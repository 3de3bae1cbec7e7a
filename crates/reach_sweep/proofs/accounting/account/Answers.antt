use Rattle.std.proofs.Common.{sym, ◌∙◌, subst}
use Rattle.nx_ring.specs.Checkpoint.{site_of}
use Rattle.reach_rules.specs.Bound.{RoseBy, account_reads}
use Rattle.reach_rules.specs.Tally.{IsTally}
use Rattle.reach_rules.proofs.Composed.{composed, tallied}
use Rattle.reach_sweep.proofs.Accounts.{reached-told, settle-told, accounted-free, same-site}
use Rattle.reach_sweep.proofs.Spent.{account-within}
use Rattle.reach_sweep.proofs.accounting.account.Goals as goal

pub returns-in-Err-clause-present : goal.returns-in-Err-clause-present
returns-in-Err-clause-present g c = λ image heads told are loaded. reached-told image c.args.cp.now c.in-Err.stop (c.in-Err.ensures.present image heads told are loaded)

pub returns-in-Err-clause-exact : goal.returns-in-Err-clause-exact
returns-in-Err-clause-exact g c = λ image heads told are loaded w.
    accounted-free image c.args.cp.now c.in-Err.stop w (reached-told image c.args.cp.now c.in-Err.stop (c.in-Err.ensures.present image heads told are loaded))

pub settle-requires : goal.settle-requires
settle-requires g c = record { site = same-site c.in-Ok.reached.space.site (site_of c.args.cp.now) _ _ c.in-Ok.ensures.site c.reached.ensures.kept.same_size c.requires.site }

pub returns-in-Ok-settle-clause-clear : goal.returns-in-Ok-settle-clause-clear
returns-in-Ok-settle-clause-clear g c = λ image heads told are loaded.
    let whole = c.in-Ok.reached in
    let r = c.in-Ok.ensures.clear image heads told are loaded in
    composed image c.args.cp.now whole c.in-Ok-settle.held r (c.in-Ok-settle.ensures.clear image c.args.cp.now (c.reached.ensures.kept.same_bytes ∙ told) r)

pub returns-in-Ok-settle-clause-tally : goal.returns-in-Ok-settle-clause-tally
returns-in-Ok-settle-clause-tally g c = λ image heads told are loaded.
    let whole = c.in-Ok.reached in
    let r = c.in-Ok.ensures.clear image heads told are loaded in
    subst (λ n. IsTally image c.args.cp.now n c.in-Ok-settle.held) (sym c.objects.ensures)
    (tallied image c.args.cp.now whole c.in-Ok-settle.held r (c.in-Ok-settle.ensures.clear image c.args.cp.now (c.reached.ensures.kept.same_bytes ∙ told) r))

pub returns-in-Ok-settle-clause-reads : goal.returns-in-Ok-settle-clause-reads
returns-in-Ok-settle-clause-reads g c = λ image heads told are loaded manager is.
    let whole = c.in-Ok.reached in
    let r = c.in-Ok.ensures.clear image heads told are loaded in
    let s = c.in-Ok-settle.ensures.clear image c.args.cp.now (c.reached.ensures.kept.same_bytes ∙ told) r in
    subst (λ n. RoseBy (account_reads n manager) (g.S.BlockSource.reads c.args.src.now) (g.S.BlockSource.reads c.settle.new.src)) (sym c.objects.ensures)
    (account-within image c.args.cp.now whole manager r is s.container.apart (g.S.BlockSource.reads c.args.src.now) (g.S.BlockSource.reads c.reached.new.src) (g.S.BlockSource.reads c.settle.new.src) (c.in-Ok.ensures.reads image heads told are loaded) c.settle.ensures.reads)

pub returns-clause-present : goal.returns-clause-present
returns-clause-present g c = λ image heads told are loaded.
    let r = c.in-Ok.ensures.clear image heads told are loaded in
    settle-told image c.args.cp.now c.in-Ok.reached c.in-Err-settle.stop r (c.in-Err-settle.ensures.present image c.args.cp.now (c.reached.ensures.kept.same_bytes ∙ told) r)

pub returns-clause-exact : goal.returns-clause-exact
returns-clause-exact g c = λ image heads told are loaded w.
    let r = c.in-Ok.ensures.clear image heads told are loaded in
    accounted-free image c.args.cp.now c.in-Err-settle.stop w
    (settle-told image c.args.cp.now c.in-Ok.reached c.in-Err-settle.stop r (c.in-Err-settle.ensures.present image c.args.cp.now (c.reached.ensures.kept.same_bytes ∙ told) r))
