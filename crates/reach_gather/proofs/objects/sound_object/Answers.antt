use Rattle.std.proofs.Common.{◌≡◌, Ok, Err, sym, ◌∙◌, ap, subst}
use Rattle.obj_base.specs.Stops.{Tells, raised}
use Rattle.obj_base.specs.declared.stop.Stop.TheVariants as stops
use Rattle.obj_base.specs.declared.stop.Within.TheVariants.{Ephemeral}
use Rattle.reach_rules.specs.declared.fault.ReachFault.TheVariants.{Unnamed}
use Rattle.reach_gather.specs.Told.{unsound, told_mapped}
use Rattle.reach_gather.proofs.Tolds.{mapped-lost, mapped-judged, header-tells}
use Rattle.reach_gather.proofs.Chained.{object_in}
use Rattle.reach_gather.proofs.objects.sound_object.Goals as goal

pub returns-in_default-clause-found : goal.returns-in_default-clause-found
returns-in_default-clause-found c = mapped-lost c.args.cp.now c.args.kind c.args.oid c.in_default.ensures.found ∙ ap (λ x. Err (stops.Found (Unnamed Ephemeral c.args.oid x))) (sym c.xid.ensures)

pub returns-in-Ok-clause-found : goal.returns-in-Ok-clause-found
returns-in-Ok-clause-found c =
    mapped-judged c.args.cp.now c.args.kind c.args.oid c.xid-2.result (object_in c.args.oid c.in-Some.mapped.block c.in-Some.mapped.bytes.now) (Ok c.in-Ok.field-0) c.xid-2.ensures c.in-Some.ensures.found c.in-Ok.ensures.first

pub returns-in-Err-clause-found : goal.returns-in-Err-clause-found
returns-in-Err-clause-found c =
    subst (Tells (λ f. told_mapped c.args.cp.now c.args.kind c.args.oid ≡ Err (stops.Found f)) (λ name b. told_mapped c.args.cp.now c.args.kind c.args.oid ≡ Err (stops.Unsupported name b))) (sym (c.raise.ensures ∙ ap (raised unsound) c.in_block.ensures))
    (header-tells (object_in c.args.oid c.in-Some.mapped.block c.in-Some.mapped.bytes.now) (told_mapped c.args.cp.now c.args.kind c.args.oid) c.in-Err.bad
    (mapped-judged c.args.cp.now c.args.kind c.args.oid c.xid-2.result (object_in c.args.oid c.in-Some.mapped.block c.in-Some.mapped.bytes.now) (Err c.in-Err.bad) c.xid-2.ensures c.in-Some.ensures.found c.in-Err.ensures.first))
