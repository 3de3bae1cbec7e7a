-- The bits of chunks against what a ledger holds.
use Rattle.std.proofs.Common.{◌≡◌, ℕ, ◌+◌, ◌*◌, ◌<◌, ◌≤◌, Bool, true, false, not, ◌&&◌, ◌==◌, List, length, length-take-le, take, drop, drop-drop, get_or, map, cond, refl, ap, sym, ◌∙◌, subst, arith, inl, inr}
use Rattle.std.specs.List.{range_with_len}
use Rattle.std.proofs.lemmas.List.Sums.{length-filter}
use Rattle.std.proofs.lemmas.List.Filters.{length-filter_both}
use Rattle.std.proofs.lemmas.List.FromFn.{length-range_with_len, length-map-range_with_len, get_or-map-range_with_len}
use Rattle.apfs_model.specs.Blocks.{block_of}
use Rattle.apfs_model.specs.Bytes.{bit_at}
use Rattle.apfs_model.proofs.BoolTests.{equal-from, either-from, from-equal}
use Rattle.bit_lanes.specs.Bits.{ones_below, ones_of}
use Rattle.obj_base.specs.BlockSize.{is_accepted}
use Rattle.own_ledger.specs.Held.{HeldBlocks, holds, Agrees}
use Rattle.own_ledger.proofs.MarkLemmas.{count_same, count_more, bit_in_front}
use Rattle.space_map.specs.Fields.{chunks_of}
use Rattle.space_map.specs.Chunks.{chunk_at, chunks_in}
use Rattle.space_map.specs.Marks.{lacks_bitmap, is_marked_in}
use Rattle.space_map.specs.Held.{bitmap_of}
use Rattle.space_map.specs.Stops.{Known, known_of}
use Rattle.space_map.specs.declared.chunk.Chunk.{Chunk}
use Rattle.space_map.proofs.Marked.{bits_are_marks}
use Rattle.reach_rules.specs.declared.fault.ReachFault.{ReachFault}
use Rattle.reach_rules.specs.declared.fault.ReachFault.TheVariants.{Unsound, Unnamed, NamedTwice, OwnedTwice, Outside, UnusedMapping, Leaked, Missing, PoolLeaked, PoolMissing, FreeCount, Space, Pool, Tree, Value}
use Rattle.own_settle.specs.Agreed.{unmarked, IsAgreed, HasMarkAt, HasWrongCount, IsAgreeFault, marks_in, first_of, count_of, free_at, IsChunkAgreed, IsChunkFault}
use Rattle.reach_rules.specs.Settled.{is_held}
use Rattle.own_settle.specs.InOrder.{AreAlikeFrom}
use Rattle.own_settle.proofs.OrderLemmas.{count-all}

-- ---- numbers

-- what is accepted as a block size
pub record IsSize (size : ℕ) : Type 0 where
  pub least : 4096 ≤ size
  pub most : size ≤ 65536

size-of : (size n : ℕ) → size ≡ n → 4096 ≤ n → n ≤ 65536 → IsSize size
size-of size n same least most = record { least = omega arith; most = omega arith }

pub accepted-size : (size : ℕ) → is_accepted size ≡ true → IsSize size
accepted-size size e = elim (either-from (size == 4096) _ e) as (λ _. IsSize size) [
  | inl a ↦ size-of size 4096 (equal-from size 4096 a) (omega arith) (omega arith)
  | inr e ↦ elim (either-from (size == 8192) _ e) as (λ _. IsSize size) [
    | inl a ↦ size-of size 8192 (equal-from size 8192 a) (omega arith) (omega arith)
    | inr e ↦ elim (either-from (size == 16384) _ e) as (λ _. IsSize size) [
      | inl a ↦ size-of size 16384 (equal-from size 16384 a) (omega arith) (omega arith)
      | inr e ↦ elim (either-from (size == 32768) _ e) as (λ _. IsSize size) [
        | inl a ↦ size-of size 32768 (equal-from size 32768 a) (omega arith) (omega arith)
        | inr a ↦ size-of size 65536 (equal-from size 65536 a) (omega arith) (omega arith)
      ]
    ]
  ]
]

-- ---- counts

-- the bits of whole bytes
pub ones-whole : (bits : List ℕ) (whole : ℕ) → whole ≤ length bits → ones_of (take whole bits) ≡ ones_below bits (8 * whole)
unfolding ones_of
ones-whole bits whole inside =
    let long : length (take whole bits) ≡ whole = length-take-le whole bits inside in
    ap (λ n. ones_below (take whole bits) (8 * n)) long
    ∙ count_same (bit_at (take whole bits)) (bit_at bits) 0 0 (8 * whole) (λ i low. ap (bit_at (take whole bits)) (omega arith) ∙ bit_in_front bits whole i low ∙ ap (bit_at bits) (omega arith))

-- a bit that is set adds one, and another doesn't
pub ones-set : (bits : List ℕ) (place : ℕ) → bit_at bits place ≡ true → ones_below bits (place + 1) ≡ ones_below bits place + 1
ones-set bits place set = count_more (bit_at bits) place ∙ ap (λ (b : Bool). ones_below bits place + cond b 1 0) set

pub ones-clear : (bits : List ℕ) (place : ℕ) → bit_at bits place ≡ false → ones_below bits (place + 1) ≡ ones_below bits place
ones-clear bits place clear = count_more (bit_at bits) place ∙ ap (λ (b : Bool). ones_below bits place + cond b 1 0) clear ∙ omega arith

-- the blocks that are marked and those that aren't are all
pub unmarked-ones : (bits : List ℕ) (n : ℕ) → ones_below bits n + unmarked (bit_at bits) n ≡ n
unfolding unmarked
unmarked-ones bits n =
    let both = length-filter_both (bit_at bits) (λ place. not (bit_at bits place)) (λ place. refl) (range_with_len 0 n) in
    let marked = length-filter (bit_at bits) (range_with_len 0 n) in
    let long = length-range_with_len 0 n in
    omega (arith, both, marked, long)

pub unmarked-same : (mark other : ℕ → Bool) (n : ℕ) → ((place : ℕ) → place < n → mark place ≡ other place) → unmarked mark n ≡ unmarked other n
unfolding unmarked
unmarked-same mark other n same =
    length-filter (λ place. not (mark place)) (range_with_len 0 n)
    ∙ count_same (λ place. not (mark place)) (λ place. not (other place)) 0 0 n (λ i low. ap not (ap mark (omega arith) ∙ same i low ∙ ap other (omega arith)))
    ∙ sym (length-filter (λ place. not (other place)) (range_with_len 0 n))

-- ---- bits that agree, or don't

pub agreed-from : (bits : List ℕ) (ledger : HeldBlocks) (first blocks free : ℕ) → Agrees ledger first bits blocks → free + ones_below bits blocks ≡ blocks → IsAgreed (bit_at bits) (holds ledger) first blocks free
agreed-from bits ledger first blocks free agrees count =
    let all = unmarked-ones bits blocks in
    record { marks = λ place low. sym (agrees place low); count = omega (arith, all, count) }

pub wrong-count : (bits : List ℕ) (number blocks free : ℕ) → (free + ones_below bits blocks ≡ blocks → ⊥) → HasWrongCount (bit_at bits) number blocks free number
wrong-count bits number blocks free differs =
    let all = unmarked-ones bits blocks in
    record { same = refl; wrong = λ e. differs (omega (arith, all, e)) }

-- the same of other marks and other held blocks that are those
pub agreed-same : (mark other : ℕ → Bool) (held now : ℕ → Bool) (first blocks free : ℕ) → ((place : ℕ) → place < blocks → mark place ≡ other place) →
    ((place : ℕ) → place < blocks → held (first + place) ≡ now (first + place)) → IsAgreed mark held first blocks free → IsAgreed other now first blocks free
agreed-same mark other held now first blocks free same kept agreed = record {
  marks = λ place low. sym (same place low) ∙ agreed.marks place low ∙ kept place low;
  count = agreed.count ∙ unmarked-same mark other blocks same;
}

mark-same : (mark other : ℕ → Bool) (held now : ℕ → Bool) (first blocks block : ℕ) (is_marked is_held : Bool) → ((place : ℕ) → place < blocks → mark place ≡ other place) →
    ((place : ℕ) → place < blocks → held (first + place) ≡ now (first + place)) → HasMarkAt mark held first blocks block is_marked is_held → HasMarkAt other now first blocks block is_marked is_held
mark-same mark other held now first blocks block is_marked is_held same kept h =
    record { place = h.place; low = h.low; at = h.at; mark_is = sym (same h.place h.low) ∙ h.mark_is; held_is = sym (kept h.place h.low) ∙ h.held_is }

pub fault-same : (mark other : ℕ → Bool) (held now : ℕ → Bool) (number first blocks free : ℕ) (fault : ReachFault) → ((place : ℕ) → place < blocks → mark place ≡ other place) →
    ((place : ℕ) → place < blocks → held (first + place) ≡ now (first + place)) → IsAgreeFault mark held number first blocks free fault → IsAgreeFault other now number first blocks free fault
fault-same mark other held now number first blocks free (Unsound block why) same kept h = h
fault-same mark other held now number first blocks free (Unnamed within oid xid) same kept h = h
fault-same mark other held now number first blocks free (NamedTwice within oid xid) same kept h = h
fault-same mark other held now number first blocks free (OwnedTwice block) same kept h = h
fault-same mark other held now number first blocks free (Outside block) same kept h = h
fault-same mark other held now number first blocks free (UnusedMapping within oid xid) same kept h = h
fault-same mark other held now number first blocks free (Leaked block) same kept h = mark-same mark other held now first blocks block true false same kept h
fault-same mark other held now number first blocks free (Missing block) same kept h = mark-same mark other held now first blocks block false true same kept h
fault-same mark other held now number first blocks free (PoolLeaked block) same kept h = h
fault-same mark other held now number first blocks free (PoolMissing block) same kept h = h
fault-same mark other held now number first blocks free (FreeCount chunk) same kept h = record { same = h.same; wrong = λ e. h.wrong (e ∙ sym (unmarked-same mark other blocks same)) }
fault-same mark other held now number first blocks free (Space fault) same kept h = h
fault-same mark other held now number first blocks free (Pool fault) same kept h = h
fault-same mark other held now number first blocks free (Tree root item) same kept h = h
fault-same mark other held now number first blocks free (Value root item) same kept h = h

-- ---- chunks of a space

-- the chunk at a place of the list is that of its number
pub chunk-is : (image : List ℕ) (space : Known) → space ≡ known_of image space.site space.manager → (k : ℕ) (none : Chunk) → k < length space.chunks →
    get_or space.chunks k none ≡ chunk_at space.site.block_size image space.manager k
unfolding known_of chunks_in
chunk-is image space known k none low =
    let same : space.chunks ≡ map (chunk_at space.site.block_size image space.manager) (range_with_len 0 (chunks_of space.manager)) = ap (λ (s : Known). s.chunks) known in
    let long : length space.chunks ≡ chunks_of space.manager = ap (λ (cs : List Chunk). length cs) same ∙ length-map-range_with_len (chunk_at space.site.block_size image space.manager) 0 (chunks_of space.manager) in
    ap (λ (cs : List Chunk). get_or cs k none) same
    ∙ get_or-map-range_with_len (chunk_at space.site.block_size image space.manager) 0 (chunks_of space.manager) k k none (omega arith) (omega arith)

-- the bits of a chunk's bitmap are its marks, among its blocks
pub bits-marks : (image : List ℕ) (space : Known) (k : ℕ) (place : ℕ) → place < count_of space k →
    bit_at (bitmap_of space.site.block_size image (chunk_at space.site.block_size image space.manager k)) place ≡ marks_in image space k place
bits-marks image space k place low = bits_are_marks space.site.block_size image (chunk_at space.site.block_size image space.manager k) place (omega arith)

-- what was read of a chunk: its bits, and from the list its free count; and its blocks
pub record IsReadOf (image : List ℕ) (space : Known) (k : ℕ) (bits : List ℕ) (first blocks free : ℕ) : Type 0 where
  pub bits_are : bits ≡ bitmap_of space.site.block_size image (chunk_at space.site.block_size image space.manager k)
  pub first_is : first ≡ first_of space k
  pub blocks_are : blocks ≡ count_of space k
  pub free_is : free ≡ free_at image space k

read-marks : (image : List ℕ) (space : Known) (k : ℕ) (bits : List ℕ) (first blocks free : ℕ) → IsReadOf image space k bits first blocks free → (place : ℕ) → place < count_of space k → bit_at bits place ≡ marks_in image space k place
read-marks image space k bits first blocks free read place low = ap (λ xs. bit_at xs place) read.bits_are ∙ bits-marks image space k place low

-- what is said of that and of blocks that are held is said of the chunk and of others that are held in it alike
pub chunk-agreed : (image : List ℕ) (space : Known) (held now : ℕ → Bool) (k : ℕ) (bits : List ℕ) (first blocks free : ℕ) → IsReadOf image space k bits first blocks free →
    ((place : ℕ) → place < blocks → held (first + place) ≡ now (first + place)) → IsAgreed (bit_at bits) held first blocks free → IsChunkAgreed image space now k
chunk-agreed image space held now k bits first blocks free read kept agreed =
    subst (λ n. IsAgreed (marks_in image space k) now (first_of space k) (count_of space k) n) read.free_is
    (subst (λ n. IsAgreed (marks_in image space k) now n (count_of space k) free) read.first_is
    (subst (λ n. IsAgreed (marks_in image space k) now first n free) read.blocks_are
    (agreed-same (bit_at bits) (marks_in image space k) held now first blocks free (λ place low. read-marks image space k bits first blocks free read place (subst (λ n. place < n) read.blocks_are low)) kept agreed)))

pub chunk-fault : (image : List ℕ) (space : Known) (held now : ℕ → Bool) (k : ℕ) (bits : List ℕ) (first blocks free : ℕ) (fault : ReachFault) → IsReadOf image space k bits first blocks free →
    ((place : ℕ) → place < blocks → held (first + place) ≡ now (first + place)) → IsAgreeFault (bit_at bits) held k first blocks free fault → IsChunkFault image space now k fault
chunk-fault image space held now k bits first blocks free fault read kept present =
    subst (λ n. IsAgreeFault (marks_in image space k) now k (first_of space k) (count_of space k) n fault) read.free_is
    (subst (λ n. IsAgreeFault (marks_in image space k) now k n (count_of space k) free fault) read.first_is
    (subst (λ n. IsAgreeFault (marks_in image space k) now k first n free fault) read.blocks_are
    (fault-same (bit_at bits) (marks_in image space k) held now k first blocks free fault (λ place low. read-marks image space k bits first blocks free read place (subst (λ n. place < n) read.blocks_are low)) kept present)))

-- ---- a chunk without a bitmap

-- none of its blocks is marked
bare-marks : (image : List ℕ) (space : Known) (k : ℕ) (chunk : Chunk) → chunk ≡ chunk_at space.site.block_size image space.manager k → chunk.bitmap ≡ 0 → (place : ℕ) → marks_in image space k place ≡ false
unfolding is_marked_in
bare-marks image space k chunk is none place =
    let lacks : lacks_bitmap (chunk_at space.site.block_size image space.manager k) ≡ true = from-equal _ 0 (ap (λ (c : Chunk). c.bitmap) (sym is) ∙ none) in
    ap (λ b. not b && bit_at (block_of space.site.block_size image (chunk_at space.site.block_size image space.manager k).bitmap) place) lacks

count-bare : (n : ℕ) → unmarked (λ place. false) n ≡ n
unfolding unmarked
count-bare n = length-filter (λ place. true) (range_with_len 0 n) ∙ count-all (λ place. true) 0 n (λ i low. refl)

bare-free : (image : List ℕ) (space : Known) (k : ℕ) (chunk : Chunk) → chunk ≡ chunk_at space.site.block_size image space.manager k → chunk.bitmap ≡ 0 → unmarked (marks_in image space k) (count_of space k) ≡ count_of space k
bare-free image space k chunk is none = unmarked-same (marks_in image space k) (λ place. false) (count_of space k) (λ place low. bare-marks image space k chunk is none place) ∙ count-bare (count_of space k)

pub bare-agreed : (image : List ℕ) (space : Known) (held : ℕ → Bool) (k : ℕ) (chunk : Chunk) (first blocks : ℕ) → chunk ≡ chunk_at space.site.block_size image space.manager k → chunk.bitmap ≡ 0 →
    first ≡ first_of space k → blocks ≡ count_of space k → ((block : ℕ) → block < first + blocks → held block ≡ false) → chunk.free ≡ blocks → IsChunkAgreed image space held k
bare-agreed image space held k chunk first blocks is none begins counts free all = record {
  marks = λ place low. bare-marks image space k chunk is none place ∙ sym (free (first_of space k + place) (omega arith));
  count = ap (λ (c : Chunk). c.free) (sym is) ∙ all ∙ counts ∙ sym (bare-free image space k chunk is none);
}

pub bare-fault : (image : List ℕ) (space : Known) (held : ℕ → Bool) (k : ℕ) (chunk : Chunk) (blocks : ℕ) → chunk ≡ chunk_at space.site.block_size image space.manager k → chunk.bitmap ≡ 0 →
    blocks ≡ count_of space k → (chunk.free ≡ blocks → ⊥) → IsChunkFault image space held k (FreeCount k)
bare-fault image space held k chunk blocks is none counts differs = record {
  same = refl;
  wrong = λ e. differs (ap (λ (c : Chunk). c.free) is ∙ e ∙ bare-free image space k chunk is none ∙ sym counts);
}

-- ---- ranges that have the same blocks from a chunk on

pub chunk-alike : (image : List ℕ) (space : Known) (some others : List (ℕ × ℕ)) (k : ℕ) → AreAlikeFrom (first_of space k) some others → IsChunkAgreed image space (is_held some) k → IsChunkAgreed image space (is_held others) k
chunk-alike image space some others k alike agreed =
    agreed-same (marks_in image space k) (marks_in image space k) (is_held some) (is_held others) (first_of space k) (count_of space k) (free_at image space k) (λ place low. refl)
    (λ place low. alike (first_of space k + place) (omega arith)) agreed

pub chunk-fault-alike : (image : List ℕ) (space : Known) (some others : List (ℕ × ℕ)) (k : ℕ) (fault : ReachFault) → AreAlikeFrom (first_of space k) some others →
    IsChunkFault image space (is_held some) k fault → IsChunkFault image space (is_held others) k fault
chunk-fault-alike image space some others k fault alike h =
    fault-same (marks_in image space k) (marks_in image space k) (is_held some) (is_held others) k (first_of space k) (count_of space k) (free_at image space k) fault (λ place low. refl)
    (λ place low. alike (first_of space k + place) (omega arith)) h

-- after one chunk more
pub alike-more : (first next : ℕ) (ranges : List (ℕ × ℕ)) (done more : ℕ) → first ≤ next → AreAlikeFrom first (drop done ranges) ranges → AreAlikeFrom next (drop more (drop done ranges)) (drop done ranges) →
    AreAlikeFrom next (drop (done + more) ranges) ranges
alike-more first next ranges done more up before after block low = ap (λ xs. is_held xs block) (sym (drop-drop more done ranges)) ∙ after block low ∙ before block (omega arith)
