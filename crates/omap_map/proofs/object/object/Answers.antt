use Rattle.std.proofs.Common.{◌≡◌, ◌∙◌, ap, sym, subst, Err}
use Rattle.obj_base.specs.Stops.{Tells}
use Rattle.obj_base.specs.declared.stop.Stop.TheVariants.{Found, Unsupported}
use Rattle.omap_map.specs.Features.{is_reverting}
use Rattle.omap_map.specs.Loading.{object_of}
use Rattle.omap_map.proofs.Objects.{object-raised, object-pending, object-settled}
use Rattle.omap_map.proofs.object.object.Goals as goal

pub returns-in-Err-clause-found : goal.returns-in-Err-clause-found
returns-in-Err-clause-found g c image told =
    let site = c.args.site.now in
    let block = c.args.block in
    subst (Tells (λ f. object_of image site block ≡ Err (Found f)) (λ name at. object_of image site block ≡ Err (Unsupported name at))) (sym c.raise.ensures)
    (object-raised image site block c.in-Err.stop (c.in-Err.ensures.found image told))

pub returns-then-is_pending-clause-found : goal.returns-then-is_pending-clause-found
returns-then-is_pending-clause-found g c image told =
    object-pending image c.args.site.now c.args.block c.in-Ok.bytes.items (c.in-Ok.ensures.found image told)
    (ap is_reverting (sym c.deref.ensures.value) ∙ (sym c.is_pending.ensures ∙ c.if-is_pending.true))

pub returns-clause-found : goal.returns-clause-found
returns-clause-found g c image told =
    object-settled image c.args.site.now c.args.block c.in-Ok.bytes.items (c.in-Ok.ensures.found image told)
    (ap is_reverting (sym c.deref.ensures.value) ∙ (sym c.is_pending.ensures ∙ c.if-is_pending.false))
