use Rattle.std.proofs.Common.{◌∙◌, map, length, ap, sym, arith}
use Rattle.std.proofs.lemmas.List.{take_all}
use Rattle.std.proofs.lemmas.List.Folds.{list_all_more}
use Rattle.std.specs.Option.{is_some}
use Rattle.std.specs.List.{list_all}
use Rattle.nx_ring.specs.declared.mappings.Mapping.{Mapping}
use Rattle.nx_ring.specs.Objects.{has_object, is_placed, place_at}
use Rattle.nx_ring.specs.Valid.{are_placed, blocks_of, have_objects}
use Rattle.nx_ring.proofs.More.{places_more, blocks_length, blocks_part}
use Rattle.nx_ring.proofs.Some.{none_chosen, chosen_is, grown, all_fail, all_pass}
use Rattle.nx_ring.proofs.Kept.{kept_on}
use Rattle.nx_ring.proofs.valid.read_objects.Goals as goal

abbrev none : Mapping
none = record { type_bits = 0; size = 0; oid = 0; paddr = 0 }

pub read_mapped-requires-clause-placed : goal.read_mapped-requires-clause-placed
unfolding are_placed
read_mapped-requires-clause-placed g c = all_pass (is_placed c.args.areas.now) c.args.mappings.now c.each.m-index none c.each-test.true c.requires.placed

pub returns-in_err-object-clause-reads : goal.returns-in_err-object-clause-reads
returns-in_err-object-clause-reads g c = Prim.omega (arith, c.in_err-object.ensures.reads, c.each.invariant.reads, blocks_part c.args.areas.now c.args.mappings.now c.each.m-index none c.each-test.true)

pub returns-in_default-clause-found : goal.returns-in_default-clause-found
unfolding have_objects
returns-in_default-clause-found g c image told =
    let found = c.in_ok-object.ensures.found image (c.each.invariant.kept.same_bytes ∙ told) in
    let fails = none_chosen _ _ _ found (ap is_some c.in_default.is) in
    sym (all_fail (has_object image c.args.areas.now c.args.xid) c.args.mappings.now c.each.m-index none c.each-test.true fails)

pub returns-in_default-clause-reads : goal.returns-in_default-clause-reads
returns-in_default-clause-reads g c = Prim.omega (arith, c.in_ok-object.ensures.reads, c.each.invariant.reads, blocks_part c.args.areas.now c.args.mappings.now c.each.m-index none c.each-test.true)

pub returns-in_err-push-clause-reads : goal.returns-in_err-push-clause-reads
returns-in_err-push-clause-reads g c = Prim.omega (arith, c.in_ok-object.ensures.reads, c.each.invariant.reads, blocks_part c.args.areas.now c.args.mappings.now c.each.m-index none c.each-test.true)

pub returns-clause-found : goal.returns-clause-found
unfolding have_objects
returns-clause-found g c image told =
    sym (c.each.invariant.sound image told) ∙ ap (list_all (has_object image c.args.areas.now c.args.xid)) (take_all c.each.m-index c.args.mappings.now (Prim.omega (arith, c.each-test.false)))

pub returns-clause-listed : goal.returns-clause-listed
returns-clause-listed g c image told = c.each.invariant.listed image told ∙ ap (map (place_at image c.args.areas.now)) (take_all c.each.m-index c.args.mappings.now (Prim.omega (arith, c.each-test.false)))

pub returns-clause-reads : goal.returns-clause-reads
returns-clause-reads g c = Prim.omega (arith, c.each.invariant.reads, ap (λ ms. length (blocks_of c.args.areas.now ms)) (take_all c.each.m-index c.args.mappings.now (Prim.omega (arith, c.each-test.false))))

pub each-preserved : goal.each-preserved
each-preserved g c =
    record {
      listed = λ image told. grown _ _ _ _ _ _ c.in_ok-push.ensures.items (c.each.invariant.listed image told) (chosen_is _ _ _ _ (c.in_ok-object.ensures.found image (c.each.invariant.kept.same_bytes ∙ told)) c.in-Some.is).1 (places_more image c.args.areas.now c.args.mappings.now c.each.m-index none c.each-test.true);
      sound = λ image told. list_all_more (has_object image c.args.areas.now c.args.xid) c.args.mappings.now c.each.m-index none c.each-test.true ∙ rw (c.each.invariant.sound image told) (chosen_is _ _ _ _ (c.in_ok-object.ensures.found image (c.each.invariant.kept.same_bytes ∙ told)) c.in-Some.is).0;
      kept = kept_on c.each.invariant.kept c.in_ok-object.ensures.kept;
      reads = Prim.omega (arith, c.in_ok-object.ensures.reads, c.each.invariant.reads, blocks_length c.args.areas.now c.args.mappings.now c.each.m-index none c.each-test.true);
    }
