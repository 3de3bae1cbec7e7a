use Rattle.std.proofs.Common.{◌≡◌, ◌∙◌, ◌<◌, ◌*◌, ◌≤◌, ℕ, ap, sym, subst, length, arith, below_more}
use Rattle.apfs_model.specs.Blocks.{block_of}
use Rattle.space_map.specs.Fields.{cibs_of, chunks_of, cib_chunks_of}
use Rattle.space_map.specs.Stops.{IsRightCib}
use Rattle.space_map.specs.Held.{first_chunks}
use Rattle.space_map.proofs.Infos.{cibs_start, cibs_hold, count_next, count_all, cib-names}
use Rattle.space_map.proofs.info.chunks.Goals as goal

pub returns-in-Err-clause-present : goal.returns-in-Err-clause-present
returns-in-Err-clause-present g c image told =
    let low : c.cibs.index < cibs_of c.args.manager.now = omega (arith, c.cibs-test.true) in
    c.in-Err.ensures.present image (c.cibs.invariant.kept.same_bytes ∙ told)
    (cib-names image c.args.site.now c.args.manager.now c.args.cibs.now c.cibs.index 0 (c.requires.named image told) low)

pub add_chunks-requires-clause-first : goal.add_chunks-requires-clause-first
add_chunks-requires-clause-first g c =
    let low : c.cibs.index < cibs_of c.args.manager.now = omega (arith, c.cibs-test.true) in
    let start = cibs_start c.args.site.now c.args.manager.now c.cibs.index c.requires.shaped low in
    omega (arith, start, c.cibs.invariant.count)

pub returns-in-Err-add_chunks-clause-present : goal.returns-in-Err-add_chunks-clause-present
returns-in-Err-add_chunks-clause-present g c image told =
    let site = c.args.site.now in
    let manager = c.args.manager.now in
    let index = c.cibs.index in
    let low : index < cibs_of manager = omega (arith, c.cibs-test.true) in
    let now = c.cibs.invariant.kept.same_bytes ∙ told in
    let named = cib-names image site manager c.args.cibs.now index 0 (c.requires.named image told) low in
    c.in-Err-add_chunks.ensures.present image
    (c.deref.ensures.value ∙ (c.in-Ok.ensures.found image now ∙ ap (block_of site.block_size image) named.same))
    (record { named = named.named; right = c.in-Ok.ensures.right image now named })

pub cibs-preserved : goal.cibs-preserved
cibs-preserved g c =
    let site = c.args.site.now in
    let manager = c.args.manager.now in
    let index = c.cibs.index in
    let low : index < cibs_of manager = omega (arith, c.cibs-test.true) in
    record {
      count = count_next (chunks_of manager) (cib_chunks_of manager) index (length c.cibs.chunks.items) (length c.add_chunks.new.chunks.items) c.cibs.invariant.count (cibs_start site manager index c.requires.shaped low) c.in-Ok-add_chunks.ensures.count;
      right = c.in-Ok-add_chunks.ensures.right;
      found = λ image told.
          let named = cib-names image site manager c.args.cibs.now index 0 (c.requires.named image told) low in
          c.in-Ok-add_chunks.ensures.found image
          (c.deref.ensures.value ∙ (c.in-Ok.ensures.found image (c.cibs.invariant.kept.same_bytes ∙ told) ∙ ap (block_of site.block_size image) named.same))
          (c.cibs.invariant.found image told);
      clear = λ image told.
          below_more (λ (k : ℕ). IsRightCib image site manager k) index (c.cibs.invariant.clear image told)
          (c.in-Ok.ensures.right image (c.cibs.invariant.kept.same_bytes ∙ told) (cib-names image site manager c.args.cibs.now index 0 (c.requires.named image told) low));
      kept = record {
        same_bytes = c.in-Ok.ensures.kept.same_bytes ∙ c.cibs.invariant.kept.same_bytes;
        same_size = c.in-Ok.ensures.kept.same_size ∙ c.cibs.invariant.kept.same_size;
        later = omega (arith, c.in-Ok.ensures.kept.later, c.cibs.invariant.kept.later);
      };
      reads = omega (arith, c.in-Ok.ensures.reads, c.cibs.invariant.reads);
    }

pub returns-clause-count : goal.returns-clause-count
returns-clause-count g c =
    let manager = c.args.manager.now in
    let end : c.cibs.index ≡ cibs_of manager = omega arith in
    let holds = cibs_hold c.args.site.now manager c.requires.shaped in
    count_all (chunks_of manager) (cib_chunks_of manager) c.cibs.index (length c.cibs.chunks.items) (subst (λ n. chunks_of manager ≤ cib_chunks_of manager * n) (sym end) holds) c.cibs.invariant.count

pub returns-clause-found : goal.returns-clause-found
returns-clause-found g c image told = c.cibs.invariant.found image told ∙ ap (first_chunks image c.args.site.now c.args.manager.now) (returns-clause-count g c)
