use Rattle.std.proofs.Common.{◌∙◌, ap, sym, arith}
use Rattle.std.proofs.lemmas.List.{take_all}
use Rattle.std.proofs.lemmas.List.Folds.{list_all_more}
use Rattle.std.specs.List.{list_all}
use Rattle.nx_ring.specs.declared.mappings.Mapping.{Mapping}
use Rattle.nx_ring.specs.Objects.{has_object, is_placed}
use Rattle.nx_ring.specs.Valid.{are_placed, have_objects}
use Rattle.nx_ring.proofs.More.{blocks_length, blocks_part}
use Rattle.nx_ring.proofs.Some.{all_fail, all_pass}
use Rattle.nx_ring.proofs.Kept.{kept_on}
use Rattle.nx_ring.proofs.valid.have_objects.Goals as goal

abbrev none : Mapping
none = record { type_bits = 0; size = 0; oid = 0; paddr = 0 }

pub has_object-requires-clause-placed : goal.has_object-requires-clause-placed
unfolding are_placed
has_object-requires-clause-placed g c = all_pass (is_placed c.args.areas.now) c.args.mappings.now c.each.m-index none c.each-test.true c.requires.placed

pub returns-in_err-has_object-clause-reads : goal.returns-in_err-has_object-clause-reads
returns-in_err-has_object-clause-reads g c = Prim.omega (arith, c.in_err-has_object.ensures.reads, c.each.invariant.reads, blocks_part c.args.areas.now c.args.mappings.now c.each.m-index none c.each-test.true)

pub returns-then-not-branch-clause-reads : goal.returns-then-not-branch-clause-reads
returns-then-not-branch-clause-reads g c = Prim.omega (arith, c.in_ok-has_object.ensures.reads, c.each.invariant.reads, blocks_part c.args.areas.now c.args.mappings.now c.each.m-index none c.each-test.true)

pub returns-clause-found : goal.returns-clause-found
unfolding have_objects
returns-clause-found g c image told was =
    sym (c.each.invariant.sound image told was) ∙ ap (list_all (has_object image c.args.areas.now c.args.xid)) (take_all c.each.m-index c.args.mappings.now (Prim.omega (arith, c.each-test.false)))

pub returns-then-not-branch-clause-found : goal.returns-then-not-branch-clause-found
unfolding have_objects
returns-then-not-branch-clause-found g c image told was =
    let found = c.in_ok-has_object.ensures.found image (c.each.invariant.kept.same_bytes ∙ told) (c.each.invariant.known image told was) in
    sym (all_fail (has_object image c.args.areas.now c.args.xid) c.args.mappings.now c.each.m-index none c.each-test.true (sym found ∙ c.if-not-branch.true))

pub returns-then-not-branch-clause-known : goal.returns-then-not-branch-clause-known
returns-then-not-branch-clause-known g c image told was = c.in_ok-has_object.ensures.known image (c.each.invariant.kept.same_bytes ∙ told) (c.each.invariant.known image told was)

pub each-preserved : goal.each-preserved
each-preserved g c =
    record {
      sound = λ image told was.
          let found = c.in_ok-has_object.ensures.found image (c.each.invariant.kept.same_bytes ∙ told) (c.each.invariant.known image told was) in
          list_all_more (has_object image c.args.areas.now c.args.xid) c.args.mappings.now c.each.m-index none c.each-test.true ∙ rw (c.each.invariant.sound image told was) (sym found ∙ c.if-not-branch.false);
      known = λ image told was. c.in_ok-has_object.ensures.known image (c.each.invariant.kept.same_bytes ∙ told) (c.each.invariant.known image told was);
      kept = kept_on c.each.invariant.kept c.in_ok-has_object.ensures.kept;
      reads = Prim.omega (arith, c.in_ok-has_object.ensures.reads, c.each.invariant.reads, blocks_length c.args.areas.now c.args.mappings.now c.each.m-index none c.each-test.true);
    }
