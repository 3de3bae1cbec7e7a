use Rattle.std.proofs.Common.{◌≡◌, ℕ, ◌+◌, ◌<◌, ◌^◌, sym, List, length, length-drop, drop, rules, inl, inr, ap, ◌∙◌, subst, arith}
use Rattle.std.proofs.lemmas.Bool.{cases_lt}
use Rattle.obj_base.specs.Stops.{NoFeature}
use Rattle.obj_base.proofs.StopLemmas.{tells_more}
use Rattle.space_map.specs.declared.chunk.Chunk.{Chunk}
use Rattle.reach_rules.specs.Settled.{is_held}
use Rattle.own_settle.specs.Agreed.{first_of, IsChunkAgreed, IsChunkFault, IsOfChunk}
use Rattle.own_settle.specs.InOrder.{AreInOrder, AreAlikeFrom}
use Rattle.own_settle.proofs.ChunkLemmas.{chunk-alike, chunk-fault-alike, alike-more}
use Rattle.own_settle.proofs.OrderLemmas.{order-drop}
use Rattle.own_settle.proofs.chunks.settle_chunks.Goals as goal

pub settle_chunk-requires-clause-order : goal.settle_chunk-requires-clause-order
settle_chunk-requires-clause-order g c =
    subst (AreInOrder 0 (2 ^ 64)) (sym c.split_at.ensures.back) (order-drop (2 ^ 64) c.args.ranges.now c.each.done c.requires.order)

pub returns-in-Err-clause-present : goal.returns-in-Err-clause-present
returns-in-Err-clause-present g c = λ image told known.
    let v = c.each.invariant in
    let left = c.split_at.result.1.now in
    let alike = subst (λ xs. AreAlikeFrom (first_of c.args.space.now c.each.number) xs c.args.ranges.now) (sym c.split_at.ensures.back) v.left in
    let low : c.each.number < length c.args.space.now.chunks = omega (arith, c.each-test.true, ap (λ (cs : List Chunk). length cs) c.chunks-number-end.ensures.all) in
    tells_more (IsChunkFault image c.args.space.now (is_held left) c.each.number) (IsOfChunk image c.args.space.now (is_held c.args.ranges.now)) NoFeature NoFeature c.in-Err.stop
    (λ fault h. record { chunk = c.each.number; low = low; present = chunk-fault-alike image c.args.space.now left c.args.ranges.now c.each.number fault alike h }) (λ feature block h. h)
    (c.in-Err.ensures.present image (v.kept.same_bytes ∙ told) known)

pub each-preserved : goal.each-preserved
each-preserved g c =
    let v = c.each.invariant in
    let left = c.split_at.result.1.now in
    let back = c.split_at.ensures.back in
    let alike = subst (λ xs. AreAlikeFrom (first_of c.args.space.now c.each.number) xs c.args.ranges.now) (sym back) v.left in
    let after = subst (λ xs. AreAlikeFrom (first_of c.args.space.now (c.each.number + 1)) (drop c.in-Ok.more xs) xs) back c.in-Ok.ensures.left in
    record {
      kept = search rules;
      reads = omega arith;
      long = search rules;
      blocks = search rules;
      done = let before = v.done in let more = c.in-Ok.ensures.done in let long = ap (λ (xs : List (ℕ × ℕ)). length xs) back ∙ length-drop c.each.done c.args.ranges.now in omega arith;
      left = alike-more (first_of c.args.space.now c.each.number) (first_of c.args.space.now (c.each.number + 1)) c.args.ranges.now c.each.done c.in-Ok.more (omega arith) v.left after;
      agreed = λ image told known k low. elim (cases_lt k c.each.number) as (λ _. IsChunkAgreed image c.args.space.now (is_held c.args.ranges.now) k) [
        | inl below ↦ v.agreed image told known k below
        | inr past ↦
            let same : c.each.number ≡ k = omega arith in
            subst (λ n. IsChunkAgreed image c.args.space.now (is_held c.args.ranges.now) n) same
            (chunk-alike image c.args.space.now left c.args.ranges.now c.each.number alike (c.in-Ok.ensures.clear image (v.kept.same_bytes ∙ told) known))
      ];
    }
