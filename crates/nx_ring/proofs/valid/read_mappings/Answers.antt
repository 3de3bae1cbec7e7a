use Rattle.std.proofs.Common.{◌≡◌, ◌∙◌, ◌&&◌, true, false, ap, sym, arith}
use Rattle.std.proofs.lemmas.Grind.{common_steps}
use Rattle.std.specs.Option.{is_some}
use Rattle.nx_ring.specs.Valid.{ends_here, has_maps, has_mappings, mappings_of, are_apart}
use Rattle.nx_ring.proofs.Some.{some_at}
use Rattle.nx_ring.proofs.valid.read_mappings.Goals as goal

pub returns-then-not-ends_here-clause-found : goal.returns-then-not-ends_here-clause-found
unfolding has_mappings
returns-then-not-ends_here-clause-found g c image told =
    let no : ends_here c.args.areas.now c.args.line.now ≡ false = sym c.ends_here.ensures.here ∙ c.if-not-ends_here.true in
    sym (ap (λ b. (b && has_maps image c.args.areas.now c.args.line.now) && are_apart c.args.areas.now (mappings_of image c.args.areas.now c.args.line.now)) no)

pub returns-in_default-clause-found : goal.returns-in_default-clause-found
unfolding has_mappings
returns-in_default-clause-found g c image told =
    let ends : ends_here c.args.areas.now c.args.line.now ≡ true = sym c.ends_here.ensures.here ∙ c.if-not-ends_here.false in
    let no : has_maps image c.args.areas.now c.args.line.now ≡ false = sym (c.in_ok-mappings.ensures.found image told) ∙ ap is_some c.in_default.is in
    sym (ap (λ b. (b && has_maps image c.args.areas.now c.args.line.now) && are_apart c.args.areas.now (mappings_of image c.args.areas.now c.args.line.now)) ends
    ∙ ap (λ b. b && are_apart c.args.areas.now (mappings_of image c.args.areas.now c.args.line.now)) no)

pub returns-then-not-apart-clause-found : goal.returns-then-not-apart-clause-found
unfolding has_mappings
returns-then-not-apart-clause-found g c image told =
    let listed : c.in-Some.mappings.items ≡ mappings_of image c.args.areas.now c.args.line.now = some_at _ c.in-Some.is (c.in_ok-mappings.ensures.listed image told) in
    Prim.grind (arith, common_steps, listed, c.as_slice.ensures.value, c.in_ok-apart.ensures.found, c.if-not-apart.true)

pub returns-clause-found : goal.returns-clause-found
unfolding has_mappings
returns-clause-found g c image told =
    let listed : c.in-Some.mappings.items ≡ mappings_of image c.args.areas.now c.args.line.now = some_at _ c.in-Some.is (c.in_ok-mappings.ensures.listed image told) in
    Prim.grind (arith, common_steps, listed, c.as_slice.ensures.value, c.in_ok-apart.ensures.found, c.if-not-apart.false, c.in_ok-mappings.ensures.found image told, c.in-Some.is, c.ends_here.ensures.here, c.if-not-ends_here.false)

pub returns-clause-listed : goal.returns-clause-listed
returns-clause-listed g c image told = some_at _ c.in-Some.is (c.in_ok-mappings.ensures.listed image told)
