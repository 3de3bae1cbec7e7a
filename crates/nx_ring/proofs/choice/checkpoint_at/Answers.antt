use Rattle.std.proofs.Common.{◌≡◌, ◌∙◌, Bool, true, [], Some, None, Result, Ok, Err, IfOk, OnOk, length, if◌then◌else◌, ap, sym, subst, arith}
use Rattle.std.specs.Option.{is_some}
use Rattle.nx_ring.specs.Known.{AreKnown}
use Rattle.nx_ring.specs.Valid.{is_valid, blocks_of, mappings_of}
use Rattle.nx_ring.specs.Newest.{seen_of}
use Rattle.nx_ring.specs.Reading.{loaded}
use Rattle.nx_ring.proofs.Some.{some_at}
use Rattle.nx_ring.proofs.choice.checkpoint_at.Goals as goal

known_still : {X E : Type 0} (r : Result X E) (P : Type 0) → P → OnOk r P
known_still (Ok x) P p = p
known_still (Err e) P p = tt

pub returns-clause-known : goal.returns-clause-known
returns-clause-known g c image told was = known_still c.load.result (AreKnown image c.args.areas.now c.valid_mappings.new.known) (c.in_ok-mappings.ensures.known image told was)

pub returns-clause-found : goal.returns-clause-found
returns-clause-found g c image told known at =
    let valid : is_valid image c.args.areas.now c.args.line.now ≡ true = sym (c.in_ok-mappings.ensures.found image told known) ∙ ap is_some c.in-Some.is in
    let same = c.as_slice.ensures.value ∙ some_at _ c.in-Some.is (c.in_ok-mappings.ensures.listed image told) in
    let P : Bool → Type 0 = λ b. IfOk c.load.result (λ new. new ≡ (if b then Some (seen_of image c.args.areas.now [] c.args.line.now) else None)) in
    subst P (sym valid) (c.load.ensures.found image (c.in_ok-mappings.ensures.kept.same_bytes ∙ told) at valid same)

pub returns-clause-reads : goal.returns-clause-reads
returns-clause-reads g c image told known =
    let valid : is_valid image c.args.areas.now c.args.line.now ≡ true = sym (c.in_ok-mappings.ensures.found image told known) ∙ ap is_some c.in-Some.is in
    let same = c.as_slice.ensures.value ∙ some_at _ c.in-Some.is (c.in_ok-mappings.ensures.listed image told) in
    let all : loaded image c.args.areas.now c.args.line.now ≡ length (blocks_of c.args.areas.now (mappings_of image c.args.areas.now c.args.line.now)) =
    ap (λ b. if b then length (blocks_of c.args.areas.now (mappings_of image c.args.areas.now c.args.line.now)) else 0) valid in
    Prim.omega (arith, c.load.ensures.reads, c.in_ok-mappings.ensures.reads, all, ap (λ ms. length (blocks_of c.args.areas.now ms)) same)
