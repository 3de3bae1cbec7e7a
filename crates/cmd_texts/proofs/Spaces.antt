-- What the command `space` counts, and what its stops say.
use Rattle.std.proofs.Common.{◌≡◌, ℕ, ◌+◌, ◌<◌, ◌≤◌, List, ◌++◌, Some, length, get_or, take, true, Bool, inl, inr, refl, sym, ap, ◌∙◌, subst, zero-add, arith, if◌then◌else◌}
use Rattle.std.specs.List.{flat_map, enumerate_from}
use Rattle.std.proofs.lemmas.List.{take_all, get_or_default}
use Rattle.std.proofs.lemmas.List.FromFn.{length-enumerate_from, get_or-enumerate_from, sum_by-map-range_with_len_more}
use Rattle.apfs_model.specs.Bytes.{bit_at}
use Rattle.obj_base.specs.declared.stop.Stop.{Stop}
use Rattle.obj_base.specs.declared.stop.Stop.TheVariants.{Found, Unsupported, ReadFault, NoMemory}
use Rattle.obj_base.specs.Stops.{Tells, IsFree, NoFeature}
use Rattle.nx_ring.specs.declared.fault.RingFault.{RingFault}
use Rattle.nx_ring.specs.Checkpoint.{Seen, site_of}
use Rattle.nx_ring.specs.Newest.{IsFault as IsNewestFault, IsFeature as IsNewestFeature}
use Rattle.nx_ring.specs.Ring.{IsRingFault, IsRingFeature}
use Rattle.space_map.specs.declared.chunk.Chunk.{Chunk}
use Rattle.space_map.specs.declared.fault.SpaceFault.{SpaceFault}
use Rattle.space_map.specs.Blocks.{manager_of}
use Rattle.space_map.specs.Stops.{Known, IsSpaceOf, IsSpaceFault, IsSpaceFeature}
use Rattle.space_pool.specs.declared.entry.Queue.{Queue}
use Rattle.space_pool.specs.declared.entry.Queue.TheVariants.{Pool, Main}
use Rattle.space_pool.specs.declared.entry.QueueEntry.{QueueEntry}
use Rattle.space_pool.specs.declared.fault.PoolFault.{PoolFault}
use Rattle.space_pool.specs.Bits.{is_pool_shaped}
use Rattle.space_pool.specs.Queues.{queue_of}
use Rattle.space_pool.specs.Stops.{AreQueued, IsPoolFault, IsQueueFault, IsQueueFeature}
use Rattle.reach_rules.specs.declared.fault.ReachFault.TheVariants as sweeps
use Rattle.apfs_check.specs.Raised.{of_ring, of_sweep}
use Rattle.cmd_texts.specs.Checkpoints.{IsNewest}
use Rattle.cmd_texts.specs.Commands.Space.{free_in, chunk_text, IsText}
use Rattle.cmd_lines.specs.Words.{Space}
use Rattle.cmd_texts.proofs.Endings.{StopTells, no_result}
use Rattle.cmd_lines.proofs.Puts.{texts_to}
use Rattle.cmd_texts.proofs.Stops.{one_newest, no_newest_fault, no_newest_feature}

-- no bit is counted before the first
pub free_in_none : (bits : List ℕ) → free_in bits 0 ≡ 0
unfolding free_in
free_in_none bits = refl

-- one bit more
pub free_in_more : (bits : List ℕ) (n : ℕ) → free_in bits (n + 1) ≡ free_in bits n + (if bit_at bits n then 0 else 1)
unfolding free_in
free_in_more bits n = sum_by-map-range_with_len_more (λ (marked : Bool). if marked then 0 else 1) (bit_at bits) 0 n n (zero-add n)

-- the line of one chunk more
pub chunks_more : (chunks : List Chunk) (i : ℕ) (chunk : Chunk) → i < length chunks → chunk ≡ get_or chunks i chunk →
    flat_map chunk_text (take (i + 1) (enumerate_from 0 chunks)) ≡ flat_map chunk_text (take i (enumerate_from 0 chunks)) ++ chunk_text (i, chunk)
chunks_more chunks i chunk low at =
    let inside : i < length (enumerate_from 0 chunks) = omega (arith, low, length-enumerate_from 0 chunks) in
    let there : get_or (enumerate_from 0 chunks) i (i, chunk) ≡ (0 + i, get_or chunks i chunk) = get_or-enumerate_from 0 chunks i (i, chunk) low in
    let same : (i, chunk) ≡ get_or (enumerate_from 0 chunks) i (i, chunk) =
    ap (λ (c : Chunk). (i, c)) at ∙ ap (λ (n : ℕ). (n, get_or chunks i chunk)) (sym (zero-add i)) ∙ sym there in
    texts_to chunk_text (enumerate_from 0 chunks) i (i, chunk) inside same

-- there is one space manager of a checkpoint
one_manager : (image : List ℕ) (a b : Seen) (x y : Known) → IsNewest image a → IsNewest image b → IsSpaceOf image a x → IsSpaceOf image b y → y.manager ≡ x.manager
one_manager image a b x y first second one two =
    let P : Seen → Type 0 = λ s. manager_of s ≡ Some y.manager in
    let there : manager_of a ≡ Some y.manager = subst P (one_newest image b a second.newest first.newest) two.manager.some in
    let here : manager_of a ≡ Some x.manager = one.manager.some in
    Prim.cc

-- a fact of what is told of a container's space, said of this checkpoint and this manager
told_at : (image : List ℕ) (a b : Seen) (x y : Known) (P : Seen → List ℕ → Type 0) → IsNewest image a → IsNewest image b → IsSpaceOf image a x → IsSpaceOf image b y → P b y.manager → P a x.manager
told_at image a b x y P first second one two fact =
    let Q : Seen → Type 0 = λ s. P s y.manager in
    let R : List ℕ → Type 0 = λ m. P a m in
    subst R (one_manager image a b x y first second one two) (subst Q (one_newest image b a second.newest first.newest) fact)

-- what stops `space` where there is no newest checkpoint
pub newest_stops : (image : List ℕ) (stop : Stop RingFault) →
    Tells (IsNewestFault image) (IsNewestFeature image) stop → Tells (IsRingFault image) (IsRingFeature image) stop → StopTells Space image of_ring stop
newest_stops image (Found why) first there = record {
  none = no_result Space image (λ text is. no_newest_fault image why is.0 first is.5.newest) (λ answer is. is);
  there_is = inl (why, first, there, refl);
}
newest_stops image (Unsupported feature block) first there = record {
  none = no_result Space image (λ text is. no_newest_feature image feature block is.0 first is.5.newest) (λ answer is. is);
  there_is = inl (first, there);
}
newest_stops image ReadFault first there = tt
newest_stops image NoMemory first there = tt

-- a container's space is told of at this checkpoint
space_at : (image : List ℕ) (seen : Seen) (text : List ℕ) → IsNewest image seen → IsText image text → (space : Known) × IsSpaceOf image seen space
space_at image seen text newest is =
    let P : Seen → Type 0 = λ s. IsSpaceOf image s is.1 in
    (is.1, subst P (one_newest image is.0 seen is.5.newest.newest newest.newest) is.5.space_is)

-- what stops `space` at the space manager
pub space_stops : (image : List ℕ) (seen : Seen) (stop : Stop SpaceFault) → IsNewest image seen →
    Tells (IsSpaceFault image seen) (IsSpaceFeature image seen) stop → ((space : Known) → IsSpaceOf image seen space → IsFree stop) → StopTells Space image (λ why. of_sweep seen.line.xid (sweeps.Space why)) stop
space_stops image seen (Found why) newest there exact = record {
  none = no_result Space image (λ text is. let at = space_at image seen text newest is in exact at.0 at.1) (λ answer is. is);
  there_is = inr (inl (seen, why, newest, there, refl));
}
space_stops image seen (Unsupported feature block) newest there exact = record {
  none = no_result Space image (λ text is. let at = space_at image seen text newest is in exact at.0 at.1) (λ answer is. is);
  there_is = inr (inl (seen, newest, there));
}
space_stops image seen ReadFault newest there exact = tt
space_stops image seen NoMemory newest there exact = tt

-- what stops `space` at the pool's bitmap
pub pool_stops : (image : List ℕ) (seen : Seen) (space : Known) (stop : Stop PoolFault) → IsNewest image seen → IsSpaceOf image seen space →
    Tells (IsPoolFault seen space.manager) NoFeature stop → (is_pool_shaped (site_of seen) space.manager ≡ true → IsFree stop) → StopTells Space image (λ why. of_sweep seen.line.xid (sweeps.Pool why)) stop
pool_stops image seen space (Found why) newest is there exact = record {
  none = no_result Space image
      (λ text told. exact (told_at image seen told.0 space told.1 (λ s m. is_pool_shaped (site_of s) m ≡ true) newest told.5.newest is told.5.space_is told.5.bits_are.right)) (λ answer a. a);
  there_is = inr (inr (seen, space, newest, is, (why, inl there, refl)));
}
pool_stops image seen space (Unsupported feature block) newest is there exact = absurd there
pool_stops image seen space ReadFault newest is there exact = tt
pool_stops image seen space NoMemory newest is there exact = tt

-- the entries of a queue that is told of are those of the definition
queued_whole : (image : List ℕ) (seen : Seen) (manager : List ℕ) (which : Queue) (entries : List QueueEntry) → AreQueued image seen manager which entries → AreQueued image seen manager which (queue_of image seen manager which)
queued_whole image seen manager which entries are = let P : List QueueEntry → Type 0 = λ es. AreQueued image seen manager which es in subst P are.same are

queue_told : (image text : List ℕ) (which : Queue) (is : IsText image text) → AreQueued image is.0 is.1.manager which (queue_of image is.0 is.1.manager which)
queue_told image text Pool is = queued_whole image is.0 is.1.manager Pool is.3 is.5.pool_is
queue_told image text Main is = queued_whole image is.0 is.1.manager Main is.4 is.5.main_is

-- what stops `space` at a free queue
pub queue_stops : (image : List ℕ) (seen : Seen) (space : Known) (which : Queue) (stop : Stop PoolFault) → IsNewest image seen → IsSpaceOf image seen space →
    Tells (IsQueueFault image seen space.manager which) (IsQueueFeature image seen space.manager which) stop →
    (AreQueued image seen space.manager which (queue_of image seen space.manager which) → IsFree stop) → StopTells Space image (λ why. of_sweep seen.line.xid (sweeps.Pool why)) stop
queue_stops image seen space which (Found why) newest is there exact = record {
  none = no_result Space image
      (λ text told. exact (told_at image seen told.0 space told.1 (λ s m. AreQueued image s m which (queue_of image s m which)) newest told.5.newest is told.5.space_is (queue_told image text which told))) (λ answer a. a);
  there_is = inr (inr (seen, space, newest, is, (why, inr (which, there), refl)));
}
queue_stops image seen space which (Unsupported feature block) newest is there exact = record {
  none = no_result Space image
      (λ text told. exact (told_at image seen told.0 space told.1 (λ s m. AreQueued image s m which (queue_of image s m which)) newest told.5.newest is told.5.space_is (queue_told image text which told))) (λ answer a. a);
  there_is = inr (inr (seen, space, newest, is, (which, there)));
}
queue_stops image seen space which ReadFault newest is there exact = tt
queue_stops image seen space which NoMemory newest is there exact = tt

-- all chunks have their lines
pub chunks_whole : (chunks : List Chunk) (n : ℕ) → length chunks ≤ n → flat_map chunk_text (take n (enumerate_from 0 chunks)) ≡ flat_map chunk_text (enumerate_from 0 chunks)
chunks_whole chunks n whole =
    let long : length (enumerate_from 0 chunks) ≤ n = omega (arith, whole, length-enumerate_from 0 chunks) in
    ap (flat_map chunk_text) (take_all n (enumerate_from 0 chunks) long)

-- the line of the chunk at a place
pub chunks_next : (chunks : List Chunk) (i : ℕ) (d : Chunk) → i < length chunks →
    flat_map chunk_text (take (i + 1) (enumerate_from 0 chunks)) ≡ flat_map chunk_text (take i (enumerate_from 0 chunks)) ++ chunk_text (i, get_or chunks i d)
chunks_next chunks i d low = chunks_more chunks i (get_or chunks i d) low (get_or_default chunks i d (get_or chunks i d) low)
