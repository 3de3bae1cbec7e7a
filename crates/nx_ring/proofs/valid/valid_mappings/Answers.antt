use Rattle.std.proofs.Common.{◌≡◌, ◌∙◌, ◌≤◌, ◌<◌, ◌&&◌, List, true, false, length, ap, sym, subst, arith}
use Rattle.std.proofs.lemmas.Grind.{common_steps}
use Rattle.std.specs.Option.{is_some}
use Rattle.nx_ring.specs.declared.areas.Areas.{Areas}
use Rattle.nx_ring.specs.declared.mappings.Mapping.{Mapping}
use Rattle.nx_ring.specs.Reading.{Fits}
use Rattle.nx_ring.specs.Valid.{is_valid, has_mappings, have_objects, mappings_of, blocks_of, are_apart}
use Rattle.nx_ring.proofs.Few.{few_blocks, apart_placed}
use Rattle.nx_ring.proofs.Some.{some_at}
use Rattle.nx_ring.proofs.valid.valid_mappings.Goals as goal

few_in : (areas : Areas) (ms same : List Mapping) → 0 < areas.data_blocks → are_apart areas ms ≡ true → same ≡ ms → length (blocks_of areas same) ≤ areas.data_blocks
few_in areas ms same some apart e = rw e (few_blocks areas ms some apart)

pub returns-in_default-clause-found : goal.returns-in_default-clause-found
unfolding is_valid
returns-in_default-clause-found g c image told was =
    let no : has_mappings image c.args.areas.now c.args.line.now ≡ false = sym (c.in_ok-mappings.ensures.found image told) ∙ ap is_some c.in_default.is in
    sym (ap (λ b. b && have_objects image c.args.areas.now c.args.line.now.xid (mappings_of image c.args.areas.now c.args.line.now)) no)

pub have_objects-requires : goal.have_objects-requires
have_objects-requires g c =
    let apart : are_apart c.args.areas.now c.in-Some.mappings.items ≡ true = some_at _ c.in-Some.is c.in_ok-mappings.ensures.apart in
    record { fits = subst (Fits c.args.areas.now) (sym c.in_ok-mappings.ensures.kept.same_size) c.requires; placed = rw c.as_slice.ensures.value (apart_placed c.args.areas.now c.in-Some.mappings.items apart) }

pub returns-in_err-have_objects-clause-reads : goal.returns-in_err-have_objects-clause-reads
returns-in_err-have_objects-clause-reads g c =
    let apart : are_apart c.args.areas.now c.in-Some.mappings.items ≡ true = some_at _ c.in-Some.is c.in_ok-mappings.ensures.apart in
    let few = few_in c.args.areas.now c.in-Some.mappings.items c.as_slice.result.now c.requires.some_data apart c.as_slice.ensures.value in
    Prim.omega (arith, few, c.in_err-have_objects.ensures.reads, c.in_ok-mappings.ensures.reads)

pub returns-then-not-branch-clause-reads : goal.returns-then-not-branch-clause-reads
returns-then-not-branch-clause-reads g c =
    let apart : are_apart c.args.areas.now c.in-Some.mappings.items ≡ true = some_at _ c.in-Some.is c.in_ok-mappings.ensures.apart in
    let few = few_in c.args.areas.now c.in-Some.mappings.items c.as_slice.result.now c.requires.some_data apart c.as_slice.ensures.value in
    Prim.omega (arith, few, c.in_ok-have_objects.ensures.reads, c.in_ok-mappings.ensures.reads)

pub returns-clause-placed : goal.returns-clause-placed
returns-clause-placed g c =
    let apart : are_apart c.args.areas.now c.in-Some.mappings.items ≡ true = some_at _ c.in-Some.is c.in_ok-mappings.ensures.apart in
    apart_placed c.args.areas.now c.in-Some.mappings.items apart

pub returns-clause-reads : goal.returns-clause-reads
returns-clause-reads g c =
    let apart : are_apart c.args.areas.now c.in-Some.mappings.items ≡ true = some_at _ c.in-Some.is c.in_ok-mappings.ensures.apart in
    let few = few_in c.args.areas.now c.in-Some.mappings.items c.as_slice.result.now c.requires.some_data apart c.as_slice.ensures.value in
    Prim.omega (arith, few, c.in_ok-have_objects.ensures.reads, c.in_ok-mappings.ensures.reads)

pub returns-then-not-branch-clause-found : goal.returns-then-not-branch-clause-found
unfolding is_valid
returns-then-not-branch-clause-found g c image told was =
    let listed : c.in-Some.mappings.items ≡ mappings_of image c.args.areas.now c.args.line.now = some_at _ c.in-Some.is (c.in_ok-mappings.ensures.listed image told) in
    let objects = c.in_ok-have_objects.ensures.found image (c.in_ok-mappings.ensures.kept.same_bytes ∙ told) was in
    Prim.grind (arith, common_steps, objects, listed, c.as_slice.ensures.value, c.if-not-branch.true)

pub returns-clause-found : goal.returns-clause-found
unfolding is_valid
returns-clause-found g c image told was =
    let listed : c.in-Some.mappings.items ≡ mappings_of image c.args.areas.now c.args.line.now = some_at _ c.in-Some.is (c.in_ok-mappings.ensures.listed image told) in
    let objects = c.in_ok-have_objects.ensures.found image (c.in_ok-mappings.ensures.kept.same_bytes ∙ told) was in
    Prim.grind (arith, common_steps, objects, listed, c.as_slice.ensures.value, c.if-not-branch.false, c.in_ok-mappings.ensures.found image told, c.in-Some.is)

pub returns-clause-listed : goal.returns-clause-listed
returns-clause-listed g c image told = some_at _ c.in-Some.is (c.in_ok-mappings.ensures.listed image told)

pub returns-clause-known : goal.returns-clause-known
returns-clause-known g c image told was = c.in_ok-have_objects.ensures.known image (c.in_ok-mappings.ensures.kept.same_bytes ∙ told) was
