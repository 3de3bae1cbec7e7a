use Rattle.std.proofs.Common.{◌≡◌, true, false, ◌&&◌, nat_lt, Err, sym, subst}
use Rattle.obj_base.specs.Stops.{Tells}
use Rattle.obj_base.specs.declared.stop.Stop.TheVariants as stops
use Rattle.reach_gather.specs.Jumped.{told_jump}
use Rattle.reach_gather.proofs.Jumps.{jump-lost, jump-got, jump-bad}
use Rattle.reach_gather.proofs.starting.read_jump.Goals as goal

pub returns-then-not-has_block-clause-found : goal.returns-then-not-has_block-clause-found
returns-then-not-has_block-clause-found g c image told =
    let outside : (nat_lt 0 c.args.block && nat_lt c.args.block c.site-site.result.blocks) ≡ false = cc in
    jump-lost image c.args.cp.now c.site-site.result c.args.block c.xid.result c.site-site.ensures c.xid.ensures outside

pub returns-in-Ok-clause-found : goal.returns-in-Ok-clause-found
returns-in-Ok-clause-found g c image told =
    let inside : (nat_lt 0 c.args.block && nat_lt c.args.block c.site-site.result.blocks) ≡ true = cc in
    jump-got image c.args.cp.now c.site-site.result c.args.block c.in-Ok.bytes.items c.site-site.ensures inside (c.in-Ok.ensures.found image told)

pub returns-in-Err-clause-found : goal.returns-in-Err-clause-found
returns-in-Err-clause-found g c image told =
    let inside : (nat_lt 0 c.args.block && nat_lt c.args.block c.site-site.result.blocks) ≡ true = cc in
    subst (Tells (λ f. told_jump image c.args.cp.now c.args.block ≡ Err (stops.Found f)) (λ name at. told_jump image c.args.cp.now c.args.block ≡ Err (stops.Unsupported name at))) (sym c.raise.ensures)
    (jump-bad image c.args.cp.now c.site-site.result c.args.block c.in-Err.stop c.site-site.ensures inside (c.in-Err.ensures.found image told))
