use Rattle.std.proofs.Common.{◌≡◌, ◌%◌, ◌≤◌, true, arith}
use Rattle.std.proofs.lemmas.Grind.{common_steps}
use Rattle.obj_base.specs.BlockSize.{is_accepted}
use Rattle.nx_ring.specs.declared.areas.Areas.{Areas}
use Rattle.nx_ring.specs.declared.mappings.Mapping.{Mapping}
use Rattle.nx_ring.specs.Objects.{is_placed}
use Rattle.nx_ring.proofs.Fitting.{whole_object}
use Rattle.nx_ring.proofs.objects.read_mapped.Goals as goal

whole : (areas : Areas) (m : Mapping) → is_accepted areas.size ≡ true → is_placed areas m ≡ true → (m.size % 4 ≡ 0) × (4096 ≤ m.size)
unfolding is_placed
whole areas m accepted e = whole_object areas.size m.size accepted (Prim.grind (arith, common_steps, e)) (Prim.grind (arith, common_steps, e))

pub is_mapped-requires-clause-whole : goal.is_mapped-requires-clause-whole
is_mapped-requires-clause-whole g c =
    let w = whole c.args.areas.now c.args.m.now c.requires.fits.accepted c.requires.placed in
    Prim.omega (arith, w.0, c.deref.ensures.len, c.in_ok-held.ensures.len)

pub is_mapped-requires-clause-long : goal.is_mapped-requires-clause-long
is_mapped-requires-clause-long g c =
    let w = whole c.args.areas.now c.args.m.now c.requires.fits.accepted c.requires.placed in
    Prim.omega (arith, w.1, c.deref.ensures.len, c.in_ok-held.ensures.len)

pub invariant_of-result : goal.invariant_of-result
invariant_of-result g c =
    let w = whole c.args.areas.now c.args.m.now c.requires.fits.accepted c.requires.placed in
    record {
      long = Prim.omega (arith, w.1, c.in_ok-held.ensures.len);
      even = Prim.omega (arith, w.0, c.in_ok-held.ensures.len);
    }
