use Rattle.std.proofs.Common.{◌≡◌, true, ◌&&◌, nat_lt, sym, subst}
use Rattle.obj_base.specs.Stops.{Tells}
use Rattle.space_map.specs.Stops.{IsFaultOf, IsInfoFeature}
use Rattle.space_map.proofs.Infos.{info-got, info-sound, info-tells}
use Rattle.space_map.proofs.info.read_info.Goals as goal

pub returns-in-Ok-clause-found : goal.returns-in-Ok-clause-found
returns-in-Ok-clause-found g c image told = (info-got image c.args.site.now c.args.kind c.args.block c.in-Ok.bytes.items (c.in-Ok.ensures.found image told)).0

pub returns-in-Ok-clause-sound : goal.returns-in-Ok-clause-sound
returns-in-Ok-clause-sound g c image told =
    let inside : (nat_lt 0 c.args.block && nat_lt c.args.block c.args.site.now.blocks) ≡ true = cc in
    info-sound image c.args.site.now c.args.kind c.args.block c.in-Ok.bytes.items inside (c.in-Ok.ensures.found image told)

pub returns-in-Err-clause-present : goal.returns-in-Err-clause-present
returns-in-Err-clause-present g c image told named =
    let inside : (nat_lt 0 c.args.block && nat_lt c.args.block c.args.site.now.blocks) ≡ true = cc in
    subst (Tells (IsFaultOf image c.args.site.now c.args.manager.now) (IsInfoFeature image c.args.site.now c.args.manager.now)) (sym c.raise.ensures)
    (info-tells image c.args.site.now c.args.manager.now c.args.kind c.args.block c.in-Err.stop inside named (c.in-Err.ensures.found image told))
