use Rattle.std.proofs.Common.{◌≡◌, ◌∙◌, ◌+◌, ◌*◌, ◌≤◌, ◌<◌, [], ℕ, List, Ok, Result, length, option_map, refl, ap, sym, subst, arith}
use Rattle.std.specs.List.{find, All}
use Rattle.std.specs.List.Sorted.{IsPermutation, IsSortedBy}
use Rattle.std.proofs.lemmas.List.Sorted.{All-permutation, length_permutation}
use Rattle.obj_base.specs.declared.stop.Stop.{Stop}
use Rattle.nx_block.specs.Super.{desc_blocks_of, data_blocks_of}
use Rattle.nx_ring.specs.declared.areas.Areas.{Areas}
use Rattle.nx_ring.specs.declared.fault.RingFault.{RingFault}
use Rattle.nx_ring.specs.declared.line.RingLine.{RingLine}
use Rattle.nx_ring.specs.Checkpoint.{Seen}
use Rattle.nx_ring.specs.Candidates.{all_candidates}
use Rattle.nx_ring.specs.Order.{is_before}
use Rattle.nx_ring.specs.Reading.{AreCandidates, passing, zero_reads}
use Rattle.nx_ring.specs.Zero.{zero_of, areas_of, after_zero}
use Rattle.nx_ring.specs.Valid.{is_valid}
use Rattle.nx_ring.specs.Newest.{newest_of, newest_line, seen_of, skipped_of}
use Rattle.nx_ring.proofs.Chosen.{early, sizes_are, found_is, nothing_is, given_by}
use Rattle.nx_ring.proofs.Tried.{tried_are, first_is_newest}
use Rattle.nx_ring.proofs.choice.find.Goals as goal

abbrev listing : List RingLine → Result (List RingLine) (Stop RingFault)
listing lines = Ok lines

-- the candidates that are listed and tried are those of the image, and the first of them that is valid is the newest
tried_in : (image : List ℕ) (areas : Areas) (held listed tried slice : List RingLine) → listing (all_candidates image areas) ≡ listing held → listed ≡ held → IsPermutation listed tried → slice ≡ tried → IsSortedBy is_before tried →
    (all_candidates image areas ≡ listed) × AreCandidates image areas slice × (length slice ≡ length (all_candidates image areas)) × (find (is_valid image areas) slice ≡ newest_line image areas)
tried_in image areas held listed tried slice found same order cut sorted =
    let lines : all_candidates image areas ≡ listed = Prim.cc in
    let permuted : IsPermutation (all_candidates image areas) tried = subst (λ (ls : List RingLine). IsPermutation ls tried) (sym lines) order in (
      lines,
      subst (AreCandidates image areas) (sym cut) (tried_are image areas tried permuted),
      ap length cut ∙ length_permutation (all_candidates image areas) tried permuted,
      ap (find (is_valid image areas)) cut ∙ sym (first_is_newest image areas tried _ permuted sorted refl),
    )

-- the reads of block 0, of the list and of the candidates that are tried, in the numbers of block 0
reads_in : (image : List ℕ) (areas : Areas) (old begun lines new : ℕ) → after_zero image (Ok (areas_of (zero_of image))) ≡ Ok areas → begun ≤ old + zero_reads image → lines ≤ begun + areas.desc_blocks → new ≤ lines + areas.desc_blocks * (areas.desc_blocks + areas.data_blocks) →
    new ≤ old + (zero_reads image + desc_blocks_of (zero_of image) + desc_blocks_of (zero_of image) * (desc_blocks_of (zero_of image) + data_blocks_of (zero_of image)))
reads_in image areas old begun lines new e first list rest = let s = sizes_are image areas e in rw (s.0, s.1) (Prim.omega arith)

pub first_valid-requires-clause-inside : goal.first_valid-requires-clause-inside
first_valid-requires-clause-inside g c =
    let P : RingLine → Type 0 = λ line. line.index < c.in_ok-areas.areas.desc_blocks in
    subst (All P) (sym c.as_slice.ensures.value) (All-permutation P c.as_slice-listed.result.now c.in_ok-tried.tried.items c.in_ok-tried.ensures.order (subst (All P) (sym c.as_slice-listed.ensures.value) c.in_ok-lines.ensures.inside))

pub returns-in_err-areas-clause-found : goal.returns-in_err-areas-clause-found
returns-in_err-areas-clause-found g c image told = Prim.grind (arith, early, c.from_residual.ensures, c.in_err-areas.ensures.found image told)

pub returns-in_err-lines-clause-reads : goal.returns-in_err-lines-clause-reads
returns-in_err-lines-clause-reads g c image told =
    reads_in image c.in_ok-areas.areas _ _ _ _ (c.in_ok-areas.ensures.found image told) (c.in_ok-areas.ensures.reads image told) c.in_err-lines.ensures.reads (Prim.omega arith)

pub returns-in_err-tried-clause-reads : goal.returns-in_err-tried-clause-reads
returns-in_err-tried-clause-reads g c image told =
    reads_in image c.in_ok-areas.areas _ _ _ _ (c.in_ok-areas.ensures.found image told) (c.in_ok-areas.ensures.reads image told) c.in_ok-lines.ensures.reads (Prim.omega arith)

pub returns-in_err-checkpoint-clause-reads : goal.returns-in_err-checkpoint-clause-reads
returns-in_err-checkpoint-clause-reads g c image told =
    let areas = c.in_ok-areas.areas in
    let told1 = c.in_ok-areas.ensures.kept.same_bytes ∙ told in
    let told2 = c.in_ok-lines.ensures.kept.same_bytes ∙ told1 in
    let t = tried_in image areas _ _ _ _ (c.in_ok-lines.ensures.found image told1) c.as_slice-listed.ensures.value c.in_ok-tried.ensures.order c.as_slice.ensures.value c.in_ok-tried.ensures.sorted in
    reads_in image areas _ _ _ _ (c.in_ok-areas.ensures.found image told) (c.in_ok-areas.ensures.reads image told) c.in_ok-lines.ensures.reads (c.in_err-checkpoint.ensures.reads image told2 t.1 t.2)

pub returns-in-Some-clause-reads : goal.returns-in-Some-clause-reads
returns-in-Some-clause-reads g c image told =
    let areas = c.in_ok-areas.areas in
    let told1 = c.in_ok-areas.ensures.kept.same_bytes ∙ told in
    let told2 = c.in_ok-lines.ensures.kept.same_bytes ∙ told1 in
    let t = tried_in image areas _ _ _ _ (c.in_ok-lines.ensures.found image told1) c.as_slice-listed.ensures.value c.in_ok-tried.ensures.order c.as_slice.ensures.value c.in_ok-tried.ensures.sorted in
    reads_in image areas _ _ _ _ (c.in_ok-areas.ensures.found image told) (c.in_ok-areas.ensures.reads image told) c.in_ok-lines.ensures.reads (c.in_ok-checkpoint.ensures.reads image told2 t.1 t.2)

pub returns-clause-reads : goal.returns-clause-reads
returns-clause-reads g c image told =
    let areas = c.in_ok-areas.areas in
    let told1 = c.in_ok-areas.ensures.kept.same_bytes ∙ told in
    let told2 = c.in_ok-lines.ensures.kept.same_bytes ∙ told1 in
    let t = tried_in image areas _ _ _ _ (c.in_ok-lines.ensures.found image told1) c.as_slice-listed.ensures.value c.in_ok-tried.ensures.order c.as_slice.ensures.value c.in_ok-tried.ensures.sorted in
    reads_in image areas _ _ _ _ (c.in_ok-areas.ensures.found image told) (c.in_ok-areas.ensures.reads image told) c.in_ok-lines.ensures.reads (c.in_ok-checkpoint.ensures.reads image told2 t.1 t.2)

pub returns-in-Some-clause-found : goal.returns-in-Some-clause-found
returns-in-Some-clause-found g c image told =
    let seen = c.in-Some.checkpoint in
    let areas = c.in_ok-areas.areas in
    let told1 = c.in_ok-areas.ensures.kept.same_bytes ∙ told in
    let told2 = c.in_ok-lines.ensures.kept.same_bytes ∙ told1 in
    let t = tried_in image areas _ _ _ _ (c.in_ok-lines.ensures.found image told1) c.as_slice-listed.ensures.value c.in_ok-tried.ensures.order c.as_slice.ensures.value c.in_ok-tried.ensures.sorted in
    let best = sym c.in-Some.is ∙ (c.in_ok-checkpoint.ensures.found image told2 t.1 ∙ ap (option_map (seen_of image areas [])) t.3) in
    let value : List RingLine → Result Seen (Stop RingFault) = λ ls. Ok (passing seen (skipped_of ls seen.line.xid)) in
    given_by (newest_of image) (passing seen (skipped_of c.as_slice-listed.result.now seen.line.xid)) c.with_skipped.result
    (found_is image areas seen (c.in_ok-areas.ensures.found image told) best ∙ ap value t.0)
    c.with_skipped.ensures.found c.with_skipped.ensures.memory_only

pub returns-clause-found : goal.returns-clause-found
returns-clause-found g c image told =
    let areas = c.in_ok-areas.areas in
    let told1 = c.in_ok-areas.ensures.kept.same_bytes ∙ told in
    let told2 = c.in_ok-lines.ensures.kept.same_bytes ∙ told1 in
    let t = tried_in image areas _ _ _ _ (c.in_ok-lines.ensures.found image told1) c.as_slice-listed.ensures.value c.in_ok-tried.ensures.order c.as_slice.ensures.value c.in_ok-tried.ensures.sorted in
    nothing_is image areas (c.in_ok-areas.ensures.found image told) (sym c.in-None.is ∙ (c.in_ok-checkpoint.ensures.found image told2 t.1 ∙ ap (option_map (seen_of image areas [])) t.3))
