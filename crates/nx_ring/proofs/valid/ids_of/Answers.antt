use Rattle.std.proofs.Common.{◌∙◌, ap, arith}
use Rattle.std.proofs.lemmas.List.{take_all}
use Rattle.nx_ring.specs.declared.mappings.Mapping.{Mapping}
use Rattle.nx_ring.specs.Valid.{ids_of}
use Rattle.nx_ring.proofs.More.{ids_more}
use Rattle.nx_ring.proofs.valid.ids_of.Goals as goal

pub each-preserved : goal.each-preserved
each-preserved c =
    let none : Mapping = record { type_bits = 0; size = 0; oid = 0; paddr = 0 } in
    let items = c.in_ok-push.ensures.items in
    let before = c.each.invariant in
    let more = ids_more c.args.mappings.now c.each.m-index none c.each-test.true in
    Prim.cc

pub returns-clause-found : goal.returns-clause-found
returns-clause-found c = c.each.invariant ∙ ap ids_of (take_all c.each.m-index c.args.mappings.now (Prim.omega (arith, c.each-test.false)))
