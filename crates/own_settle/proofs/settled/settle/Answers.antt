use Rattle.std.proofs.Common.{◌≡◌, ◌^◌, ◌<◌, ◌≤◌, ℕ, length, ap, sym, ◌∙◌, subst, arith}
use Rattle.std.specs.List.Sorted.{IsPermutation}
use Rattle.obj_base.specs.declared.site.Site.{Site}
use Rattle.obj_base.specs.Stops.{NoFeature}
use Rattle.obj_base.proofs.StopLemmas.{tells_more}
use Rattle.space_map.specs.Stops.{Known, known_of}
use Rattle.reach_rules.specs.Settled.{is_held, IsSettledWith, IsSettleFault}
use Rattle.own_settle.specs.Agreed.{IsChunkAgreed}
use Rattle.own_settle.specs.InOrder.{AreInOrder}
use Rattle.own_settle.specs.Pooled.{IsPoolSideFault, owner_fault}
use Rattle.reach_rules.proofs.Refutes.{settled-refutes}
use Rattle.own_settle.proofs.ChunkLemmas.{accepted-size}
use Rattle.own_settle.proofs.OrderLemmas.{order-wider}
use Rattle.own_settle.proofs.PoolLemmas.{pool-side}
use Rattle.own_settle.proofs.SettleLemmas.{known-is, few-blocks, order-refused, chunks-side, exact-from, settled-all}
use Rattle.own_settle.proofs.settled.settle.Goals as goal

pub returns-in-Err-clause-present : goal.returns-in-Err-clause-present
returns-in-Err-clause-present g c = λ image seen told r.
    let whole = c.args.reached.now in
    let moved = subst (λ xs. IsPermutation c.owners.result.now xs) (sym c.as_slice-ranges.ensures.value) c.in_ok-sorted.ensures.moved in
    let blocks = ap (λ (s : Site). s.blocks) c.site.ensures ∙ ap (λ (s : Known). s.site.blocks) c.space-space.ensures in
    subst (IsSettleFault image whole) (sym c.refused.ensures)
    (order-refused image seen whole c.owners.result.now c.as_slice-ranges.result.now c.site.result.blocks c.in-Err.fault r c.owners.ensures moved blocks c.in-Err.ensures.present)

pub returns-in-Err-clause-exact : goal.returns-in-Err-clause-exact
returns-in-Err-clause-exact g c = λ image seen told r number settled.
    let whole = c.args.reached.now in
    let moved = subst (λ xs. IsPermutation c.owners.result.now xs) (sym c.as_slice-ranges.ensures.value) c.in_ok-sorted.ensures.moved in
    let blocks = ap (λ (s : Site). s.blocks) c.site.ensures ∙ ap (λ (s : Known). s.site.blocks) c.space-space.ensures in
    settled-refutes image whole number (owner_fault c.in-Err.fault)
    (order-refused image seen whole c.owners.result.now c.as_slice-ranges.result.now c.site.result.blocks c.in-Err.fault r c.owners.ensures moved blocks c.in-Err.ensures.present) settled

pub returns-in-Err-settle_pool-clause-exact : goal.returns-in-Err-settle_pool-clause-exact
returns-in-Err-settle_pool-clause-exact g c = λ image seen told r number settled.
    let whole = c.args.reached.now in
    exact-from image whole number c.in-Err-settle_pool.stop settled
    (tells_more (IsPoolSideFault whole) (IsSettleFault image whole) NoFeature NoFeature c.in-Err-settle_pool.stop (λ fault h. pool-side image whole fault r.placed h) (λ feature block h. h) c.in-Err-settle_pool.ensures.present)

pub settle_chunks-requires-clause-few : goal.settle_chunks-requires-clause-few
settle_chunks-requires-clause-few g c =
    let whole = c.args.reached.now in
    let size = accepted-size whole.space.site.block_size c.requires.site.accepted in
    let least = size.least in
    let bytes = g.S.BlockSource.bytes_len c.args.src.now in
    let below : bytes < 2 ^ 64 = omega arith in
    subst (λ (s : Known). s.site.blocks ≤ 2 ^ 63) (sym c.space-space.ensures) (few-blocks whole.space.site.block_size whole.space.site.blocks bytes least c.requires.site.inside below)

pub settle_chunks-requires-clause-order : goal.settle_chunks-requires-clause-order
settle_chunks-requires-clause-order g c =
    let whole = c.args.reached.now in
    let size = accepted-size whole.space.site.block_size c.requires.site.accepted in
    let least = size.least in
    let bytes = g.S.BlockSource.bytes_len c.args.src.now in
    let below : bytes < 2 ^ 64 = omega arith in
    let few = few-blocks whole.space.site.block_size whole.space.site.blocks bytes least c.requires.site.inside below in
    let blocks = ap (λ (s : Site). s.blocks) c.site.ensures ∙ ap (λ (s : Known). s.site.blocks) c.space-space.ensures in
    order-wider 0 0 c.site.result.blocks (2 ^ 64) c.as_slice-ranges.result.now (omega arith) (omega (arith, blocks, few)) c.in-Ok.ensures.clear

pub returns-in-Ok-settle_chunks-clause-clear : goal.returns-in-Ok-settle_chunks-clause-clear
returns-in-Ok-settle_chunks-clause-clear g c = λ image seen told r.
    let whole = c.args.reached.now in
    let size = accepted-size whole.space.site.block_size c.requires.site.accepted in
    let least = size.least in
    let bytes = g.S.BlockSource.bytes_len c.args.src.now in
    let below : bytes < 2 ^ 64 = omega arith in
    let few = few-blocks whole.space.site.block_size whole.space.site.blocks bytes least c.requires.site.inside below in
    let ranges = c.as_slice-ranges.result.now in
    let moved = subst (λ xs. IsPermutation xs ranges) c.owners.ensures (subst (λ xs. IsPermutation c.owners.result.now xs) (sym c.as_slice-ranges.ensures.value) c.in_ok-sorted.ensures.moved) in
    let blocks = ap (λ (s : Site). s.blocks) c.site.ensures ∙ ap (λ (s : Known). s.site.blocks) c.space-space.ensures in
    let order = subst (λ n. AreInOrder 0 n ranges) blocks c.in-Ok.ensures.clear in
    let known = subst (λ (s : Known). s ≡ known_of image s.site s.manager) (sym c.space-space.ensures) (known-is image seen whole r) in
    let chunks = subst (λ (s : Known). (k : ℕ) → k < length s.chunks → IsChunkAgreed image s (is_held ranges) k) c.space-space.ensures (c.in-Ok-settle_chunks.ensures.clear image told known) in
    subst (IsSettledWith image whole) (sym c.in-Ok.ensures.count)
    (settled-all image seen whole ranges r (omega arith) few moved order (c.in-Ok-settle_pool.ensures.clear r.placed) chunks)

pub returns-clause-present : goal.returns-clause-present
returns-clause-present g c = λ image seen told r.
    let whole = c.args.reached.now in
    let moved = subst (λ xs. IsPermutation c.owners.result.now xs) (sym c.as_slice-ranges.ensures.value) c.in_ok-sorted.ensures.moved in
    let known = subst (λ (s : Known). s ≡ known_of image s.site s.manager) (sym c.space-space.ensures) (known-is image seen whole r) in
    chunks-side image seen whole c.owners.result.now c.as_slice-ranges.result.now c.space-space.result.now c.in-Err-settle_chunks.stop r c.owners.ensures moved c.space-space.ensures
    (c.in-Err-settle_chunks.ensures.present image told known)

pub returns-clause-exact : goal.returns-clause-exact
returns-clause-exact g c = λ image seen told r number settled.
    let whole = c.args.reached.now in
    let moved = subst (λ xs. IsPermutation c.owners.result.now xs) (sym c.as_slice-ranges.ensures.value) c.in_ok-sorted.ensures.moved in
    let known = subst (λ (s : Known). s ≡ known_of image s.site s.manager) (sym c.space-space.ensures) (known-is image seen whole r) in
    exact-from image whole number c.in-Err-settle_chunks.stop settled
    (chunks-side image seen whole c.owners.result.now c.as_slice-ranges.result.now c.space-space.result.now c.in-Err-settle_chunks.stop r c.owners.ensures moved c.space-space.ensures
    (c.in-Err-settle_chunks.ensures.present image told known))
