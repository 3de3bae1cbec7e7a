use Rattle.std.proofs.Common.{◌≡◌, ◌∙◌, ◌<◌, List, Option, Result, Ok, Err, ap, subst, sym, arith}
use Rattle.std.proofs.lemmas.Grind.{common_steps}
use Rattle.std.specs.List.{All}
use Rattle.obj_base.specs.declared.stop.Stop.{Stop}
use Rattle.obj_base.specs.declared.stop.Stop.TheVariants.{Found, Unsupported, ReadFault, NoMemory}
use Rattle.obj_base.specs.Stops.{Tells}
use Rattle.nx_ring.specs.declared.fault.RingFault.{RingFault}
use Rattle.nx_ring.specs.declared.line.RingLine.{RingLine}
use Rattle.nx_ring.specs.Candidates.{candidate, candidates, all_candidates}
use Rattle.nx_ring.proofs.More.{candidates_more}
use Rattle.nx_ring.proofs.Tried.{inside_more}
use Rattle.nx_ring.proofs.Kept.{kept_on}
use Rattle.nx_ring.proofs.candidates.lines.Goals as goal

abbrev one : Option RingLine → Result (Option RingLine) (Stop RingFault)
one line = Ok line

abbrev all : List RingLine → Result (List RingLine) (Stop RingFault)
all lines = Ok lines

pub indices-preserved : goal.indices-preserved
indices-preserved g c =
    let areas = c.args.areas.now in
    let i = c.indices.index in
    let old = c.indices.invariant in
    let kept = c.in-Ok.ensures.kept in
    record {
      found = λ image told. Prim.grind (arith, common_steps, candidates_more image areas i, c.in-Ok.ensures.found image (old.kept.same_bytes ∙ told), c.in_ok-keep.ensures.added, old.found image told);
      inside = subst (All (λ (line : RingLine). line.index < areas.desc_blocks)) (sym {A = List RingLine} c.in_ok-keep.ensures.added) (inside_more areas.desc_blocks i c.indices.lines.items c.in-Ok.found old.inside c.in-Ok.ensures.here c.indices-test.true);
      kept = kept_on old.kept kept;
      reads = Prim.omega (arith, c.in-Ok.ensures.reads, old.reads);
    }

pub returns-clause-found : goal.returns-clause-found
unfolding all_candidates
returns-clause-found g c image told =
    let all : c.indices.index ≡ c.args.areas.now.desc_blocks = Prim.omega (arith, c.indices.auto.index-end, c.indices-test.false) in
    ap Ok (sym (c.indices.invariant.found image told ∙ ap (candidates image c.args.areas.now) all))

still_tells : (line : Option RingLine) (lines : List RingLine) (stop : Stop RingFault) → Tells (λ fault. one line ≡ Err (Found fault)) (λ name block. one line ≡ Err (Unsupported name block)) stop → Tells (λ fault. all lines ≡ Err (Found fault)) (λ name block. all lines ≡ Err (Unsupported name block)) stop
still_tells line lines (Found fault) e = absurd (Prim.cc)
still_tells line lines (Unsupported name block) e = absurd (Prim.cc)
still_tells line lines ReadFault e = tt
still_tells line lines NoMemory e = tt

pub returns-in-Err-clause-found : goal.returns-in-Err-clause-found
returns-in-Err-clause-found g c image told = still_tells (candidate image c.args.areas.now c.indices.index) (all_candidates image c.args.areas.now) c.in-Err.stop (c.in-Err.ensures.found image (c.indices.invariant.kept.same_bytes ∙ told))
