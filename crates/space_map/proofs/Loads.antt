-- What the parts of a space tell of the whole.
use Rattle.std.specs.Prelude.{◌≡◌, ℕ, zero, suc, ◌+◌, ◌*◌, ◌/◌, ◌%◌, ◌<◌, ◌≤◌, Bool, true, false, not, ◌&&◌, ◌||◌, ◌==◌, nat_lt, List, [], length, refl, is_some, slice_index_or, slice_index, slice_range, replicate, if◌then◌else◌}
use Rattle.std.specs.List.{range_with_len, list_all}
use Rattle.std.proofs.Common.{arith, ap, sym, ◌∙◌, subst, inr, ◌-◌, drop}
use Rattle.std.proofs.Math.Numerals.{add-one}
use Rattle.std.proofs.lemmas.List.{get_or-drop, get_or-take}
use Rattle.std.proofs.lemmas.List.FromFn.{length-map-range_with_len, get_or-map-range_with_len}
use Rattle.std.proofs.lemmas.Grind.{common_steps}
use Rattle.apfs_model.specs.Blocks.{block_of, in_container, is_in}
use Rattle.apfs_model.specs.Bytes.{bit_at}
use Rattle.apfs_model.proofs.BoolTests.{clash, both-true, equal-from, never-true}
use Rattle.apfs_model.proofs.Ranges.{all_more}
use Rattle.obj_base.proofs.StopLemmas.{tells_more}
use Rattle.obj_base.specs.Stops.{Tells}
use Rattle.obj_base.specs.declared.stop.Stop.{Stop}
use Rattle.obj_base.specs.declared.stop.Stop.TheVariants.{Found}
use Rattle.obj_base.specs.declared.site.Site.{Site}
use Rattle.nx_ring.specs.Checkpoint.{Seen, site_of}
use Rattle.space_map.specs.Fields.{cabs_of, cibs_of, chunks_of, cib_chunks_of, free_of}
use Rattle.space_map.specs.Geometry.{chunk_len, is_shaped}
use Rattle.space_map.specs.Blocks.{address_at, cab_blocks, cib_blocks}
use Rattle.space_map.specs.Chunks.{chunk_at, chunks_in, is_told, are_told}
use Rattle.space_map.specs.Marks.{lacks_bitmap, is_marked_in, is_marked, has_bits, free_sum}
use Rattle.space_map.specs.Held.{bitmap_of}
use Rattle.space_map.specs.Tests.{share, is_chunk, is_in_pool, is_free_total}
use Rattle.space_map.specs.Stops.{HasManager, space_features, is_bitmap_placed, IsRightCib, IsRightSpace, IsFaultOf, IsInfoFeature, IsSpaceFault, IsSpaceFeature, IsSpaceOf, Known, known_of}
use Rattle.space_map.specs.Held.{IsHeld, first_chunks, AreRight, AreNamed}
use Rattle.space_map.specs.declared.chunk.Chunk.{Chunk}
use Rattle.space_map.specs.declared.fault.SpaceFault.{SpaceFault}
use Rattle.space_map.specs.declared.fault.SpaceFault.TheVariants as faults
use Rattle.apfs_model.specs.Bytes as bits
use Rattle.space_map.proofs.Places.{shape-from, chunk-cib, below-rounded}
use Rattle.space_map.proofs.Telling.{told-here}
use Rattle.std.proofs.Math.Nat.{mod-lt}

-- a fault or a feature below a sound manager is one of the space
pub found-present : (image : List ℕ) (seen : Seen) (manager m : List ℕ) (site : Site) (stop : Stop SpaceFault) → site ≡ site_of seen → m ≡ manager → (block : ℕ) × HasManager seen manager block
    → Tells (IsFaultOf image site m) (IsInfoFeature image site m) stop → Tells (IsSpaceFault image seen) (IsSpaceFeature image seen) stop
found-present image seen manager m site stop sites managers has tells =
    let here : Tells (IsFaultOf image (site_of seen) manager) (IsInfoFeature image (site_of seen) manager) stop =
    subst (λ x. Tells (IsFaultOf image (site_of seen) x) (IsInfoFeature image (site_of seen) x) stop) managers
    (subst (λ s. Tells (IsFaultOf image s m) (IsInfoFeature image s m) stop) sites tells) in
    tells_more (IsFaultOf image (site_of seen) manager) (IsSpaceFault image seen) (IsInfoFeature image (site_of seen) manager) (IsSpaceFeature image seen) stop
    (λ f h. inr (inr (manager, has.0, has.1, h))) (λ name at h. inr (manager, has.0, has.1, h)) here

-- each of a range passes where each number does
all-from : (p : ℕ → Bool) (n : ℕ) → ((k : ℕ) → k < n → p k ≡ true) → list_all p (range_with_len 0 n) ≡ true
all-from p zero each = refl
all-from p (suc n) each =
    subst (λ m. list_all p (range_with_len 0 m) ≡ true) (add-one n)
    (all_more p n ∙ both-true (list_all p (range_with_len 0 n)) (p n) (all-from p n (λ k low. each k (omega arith))) (each n (omega arith)))

place-of : (n k : ℕ) → n * (k / n) + k % n ≡ k
place-of n k = omega arith

is-told : (image : List ℕ) (site : Site) (m cibs : List ℕ) → is_shaped site m ≡ true → AreNamed image site m cibs → ((i : ℕ) → i < cibs_of m → IsRightCib image site m i) → (k : ℕ) → k < chunks_of m → is_told image site m k ≡ true
is-told image site m cibs shaped named right k low =
    let s = shape-from site m shaped in
    let n = cib_chunks_of m in
    let i = k / n in
    let at : i < cibs_of m = chunk-cib site m s k low in
    let pos : 0 < n = let some = s.some_chunks in omega arith in
    let inside : k % n < n = mod-lt k pos in
    let whole : n * i + k % n ≡ k = place-of n k in
    let part : k % n < share (chunks_of m) n i = omega (arith, inside, whole, low) in
    subst (λ x. is_told image site m x ≡ true) whole (told-here image site m i (k % n) shaped part (record { named = named.named i at; right = right i at }))

-- sound chunk-info blocks tell of all chunks
pub all-told : (image : List ℕ) (site : Site) (m cibs : List ℕ) → is_shaped site m ≡ true → AreNamed image site m cibs → ((i : ℕ) → i < cibs_of m → IsRightCib image site m i) → are_told image site m ≡ true
unfolding are_told
all-told image site m cibs shaped named right = all-from (is_told image site m) (chunks_of m) (is-told image site m cibs shaped named right)

-- the test of the sum, by the chunks
pub total-test : (image : List ℕ) (site : Site) (m : List ℕ) (chunks list : List Chunk) (free : ℕ) (b : Bool) → chunks ≡ first_chunks image site m (chunks_of m) → list ≡ chunks → free ≡ free_of m → b ≡ (free == free_sum list) → is_free_total site.block_size image m ≡ b
unfolding is_free_total chunks_in
total-test image site m chunks list free b all same frees e =
    sym (e ∙ (ap (λ n. n == free_sum list) frees ∙ ap (λ (cs : List Chunk). free_of m == free_sum cs) (same ∙ all)))

-- the sum of the chunks' free blocks isn't the device's
pub total-present : (image : List ℕ) (seen : Seen) (manager m : List ℕ) (site : Site) (cibs : List ℕ) → site ≡ site_of seen → m ≡ manager → (block : ℕ) × HasManager seen manager block
    → is_shaped site m ≡ true → AreNamed image site m cibs → ((i : ℕ) → i < cibs_of m → IsRightCib image site m i) → is_free_total site.block_size image m ≡ false → IsSpaceFault image seen faults.FreeTotal
total-present image seen manager m site cibs sites managers has shaped named right wrong =
    found-present image seen manager m site (Found faults.FreeTotal) sites managers has (all-told image site m cibs shaped named right, wrong)

placed-step : (blocks base len bitmap : ℕ) (b : Bool) → (bitmap == 0) ≡ b → (b || (is_in bitmap base len && nat_lt bitmap blocks)) ≡ true → (b || is_some (in_container blocks bitmap)) ≡ true
placed-step blocks base len bitmap true e f = refl
placed-step blocks base len bitmap false e f = grind (arith, common_steps)

-- a bitmap in the pool can be read
placed-bits : (site : Site) (m : List ℕ) (chunk : Chunk) → is_bitmap_placed site m chunk ≡ true → has_bits site chunk ≡ true
unfolding is_bitmap_placed is_in_pool
placed-bits site m chunk e = placed-step site.blocks _ _ chunk.bitmap (lacks_bitmap chunk) refl e

-- what is kept of a space holds
pub is-held : (site : Site) (bytes m : List ℕ) (chunks : List Chunk) → is_shaped site m ≡ true → 4096 ≤ length bytes → length chunks ≡ chunks_of m → AreRight site m chunks → IsHeld site bytes chunks
is-held site bytes m chunks shaped long count right = record {
  long = long;
  count = count ∙ (shape-from site m shaped).chunks;
  inside = λ k none low. placed-bits site m (slice_index_or chunks k none) (right.placed k none low);
}

pub cabs_long : (m cabs : List ℕ) → cabs ≡ cab_blocks m → length cabs ≡ cabs_of m
unfolding cab_blocks
cabs_long m cabs e = ap length e ∙ length-map-range_with_len (address_at m) 0 (cabs_of m)

-- the parts of a space
pub record Parts (image : List ℕ) (cabs cibs : List ℕ) (chunks : List Chunk) (site : Site) (m : List ℕ) : Type 0 where
  pub plain : space_features m ≡ []
  pub shaped : is_shaped site m ≡ true
  pub addressed : cabs ≡ cab_blocks m
  pub named : AreNamed image site m cibs
  pub right : (i : ℕ) → i < cibs_of m → IsRightCib image site m i
  pub each : AreRight site m chunks
  pub all : chunks ≡ first_chunks image site m (chunks_of m)
  pub total : is_free_total site.block_size image m ≡ true

chunk-in : (image : List ℕ) (site : Site) (m : List ℕ) (chunks : List Chunk) (k : ℕ) (none : Chunk) → chunks ≡ first_chunks image site m (chunks_of m) → k < chunks_of m → slice_index_or chunks k none ≡ chunk_at site.block_size image m k
chunk-in image site m chunks k none all low = ap (λ (cs : List Chunk). slice_index_or cs k none) all ∙ get_or-map-range_with_len (chunk_at site.block_size image m) 0 (chunks_of m) k k none low (omega arith)

chunks-long : (image : List ℕ) (site : Site) (m : List ℕ) (chunks : List Chunk) → chunks ≡ first_chunks image site m (chunks_of m) → length chunks ≡ chunks_of m
chunks-long image site m chunks all = ap length all ∙ length-map-range_with_len (chunk_at site.block_size image m) 0 (chunks_of m)

abbrev no_chunk : Chunk
no_chunk = record { first = 0; blocks = 0; free = 0; bitmap = 0 }

-- the parts are right together
parts-right : (image cabs cibs : List ℕ) (chunks : List Chunk) (site : Site) (m : List ℕ) → Parts image cabs cibs chunks site m → IsRightSpace image site m
parts-right image cabs cibs chunks site m p = record {
  plain = p.plain;
  shaped = p.shaped;
  cabs = p.named.cabs;
  cibs = p.right;
  chunks = λ k low.
      subst (λ (c : Chunk). is_chunk site k c ≡ true) (chunk-in image site m chunks k no_chunk p.all low)
      (p.each.right k no_chunk (subst (λ n. k < n) (sym (chunks-long image site m chunks p.all)) low));
  bitmaps = λ k low.
      subst (λ (c : Chunk). is_bitmap_placed site m c ≡ true) (chunk-in image site m chunks k no_chunk p.all low)
      (p.each.placed k no_chunk (subst (λ n. k < n) (sym (chunks-long image site m chunks p.all)) low));
  total = p.total;
}

abbrev known : Site → List ℕ → List ℕ → List ℕ → List Chunk → Known
known site manager cabs cibs chunks = record { site = site; manager = manager; cabs = cabs; cibs = cibs; chunks = chunks }

parts-known : (image cabs cibs : List ℕ) (chunks : List Chunk) (site : Site) (m : List ℕ) → Parts image cabs cibs chunks site m → known site m cabs cibs chunks ≡ known_of image site m
unfolding known_of chunks_in
parts-known image cabs cibs chunks site m p =
    ap (λ xs. known site m xs cibs chunks) p.addressed ∙ (ap (λ xs. known site m (cab_blocks m) xs chunks) p.named.same ∙ ap (known site m (cab_blocks m) (cib_blocks site.block_size image m)) p.all)

-- a space of right parts is that of the checkpoint
pub space-is : (image : List ℕ) (seen : Seen) (manager m : List ℕ) (site : Site) (cabs cibs : List ℕ) (chunks : List Chunk) → site ≡ site_of seen → m ≡ manager → (block : ℕ) × HasManager seen manager block
    → Parts image cabs cibs chunks site m → IsSpaceOf image seen (known site manager cabs cibs chunks)
space-is image seen manager m site cabs cibs chunks sites managers has parts =
    let p : Parts image cabs cibs chunks (site_of seen) manager = subst (λ x. Parts image cabs cibs chunks (site_of seen) x) managers (subst (λ s. Parts image cabs cibs chunks s m) sites parts) in
    record {
      block = has.0;
      manager = has.1;
      right = parts-right image cabs cibs chunks (site_of seen) manager p;
      same = ap (λ s. known s manager cabs cibs chunks) sites ∙ parts-known image cabs cibs chunks (site_of seen) manager p;
    }

-- a chunk of a loaded space is the image's
pub chunk-is : (image : List ℕ) (space : Known) (k : ℕ) (c : Chunk) → space ≡ known_of image space.site space.manager → k < length space.chunks → c ≡ slice_index_or space.chunks k c → c ≡ chunk_at space.site.block_size image space.manager k
unfolding known_of chunks_in
chunk-is image space k c same low here =
    let all : space.chunks ≡ first_chunks image space.site space.manager (chunks_of space.manager) = ap (λ (x : Known). x.chunks) same in
    here ∙ chunk-in image space.site space.manager space.chunks k c all (subst (λ n. k < n) (chunks-long image space.site space.manager space.chunks all) low)

lacks-step : (size : ℕ) (bits : List ℕ) (b : Bool) → b ≡ true → (if b then replicate size 0 else bits) ≡ replicate size 0
lacks-step size bits true e = refl
lacks-step size bits false e = clash false e refl

has-step : (size : ℕ) (bits : List ℕ) (b : Bool) → b ≡ false → (if b then replicate size 0 else bits) ≡ bits
has-step size bits true e = clash true refl e
has-step size bits false e = refl

-- the bits of a chunk without a bitmap, and with one
pub bits-none : (size : ℕ) (image : List ℕ) (c : Chunk) → lacks_bitmap c ≡ true → bitmap_of size image c ≡ replicate size 0
unfolding bitmap_of
bits-none size image c e = lacks-step size (block_of size image c.bitmap) (lacks_bitmap c) e

pub bits-some : (size : ℕ) (image : List ℕ) (c : Chunk) → lacks_bitmap c ≡ false → bitmap_of size image c ≡ block_of size image c.bitmap
unfolding bitmap_of
bits-some size image c e = has-step size (block_of size image c.bitmap) (lacks_bitmap c) e

none-step : (b bit : Bool) → b ≡ true → (not b && bit) ≡ false
none-step true bit e = refl
none-step false bit e = clash false e refl

some-step : (b bit : Bool) → b ≡ false → (not b && bit) ≡ bit
some-step true bit e = clash true refl e
some-step false bit e = refl

-- a block of a chunk without a bitmap, and of one with one
pub mark-none : (size : ℕ) (image m : List ℕ) (block k i : ℕ) (c : Chunk) → k ≡ block / chunk_len size → i ≡ block % chunk_len size → c ≡ chunk_at size image m k → lacks_bitmap c ≡ true → is_marked size image m block ≡ false
unfolding is_marked is_marked_in
mark-none size image m block k i c at place same e =
    let here : c ≡ chunk_at size image m (block / chunk_len size) = same ∙ ap (chunk_at size image m) at in
    subst (λ (x : Chunk). (not (lacks_bitmap x) && bit_at (block_of size image x.bitmap) (block % chunk_len size)) ≡ false) here
    (none-step (lacks_bitmap c) (bit_at (block_of size image c.bitmap) (block % chunk_len size)) e)

pub mark-some : (size : ℕ) (image m : List ℕ) (block k i : ℕ) (c : Chunk) → k ≡ block / chunk_len size → i ≡ block % chunk_len size → c ≡ chunk_at size image m k → lacks_bitmap c ≡ false → is_marked size image m block ≡ bit_at (block_of size image c.bitmap) i
unfolding is_marked is_marked_in
mark-some size image m block k i c at place same e =
    let here : c ≡ chunk_at size image m (block / chunk_len size) = same ∙ ap (chunk_at size image m) at in
    subst (λ (x : Chunk). (not (lacks_bitmap x) && bit_at (block_of size image x.bitmap) (block % chunk_len size)) ≡ bit_at (block_of size image c.bitmap) i) here
    (some-step (lacks_bitmap c) (bit_at (block_of size image c.bitmap) (block % chunk_len size)) e ∙ ap (bit_at (block_of size image c.bitmap)) (sym place))

-- a byte that was read is the one of its block
pub byte-here : (image part : List ℕ) (size block j at : ℕ) → length part ≡ 1 → j < size → at ≡ size * block + j → part ≡ slice_range image at (at + length part) → slice_index part 0 ≡ slice_index (block_of size image block) j
unfolding block_of
byte-here image part size block j at one low place same =
    let first : slice_index part 0 ≡ slice_index (slice_range image at (at + 1)) 0 = ap (λ xs. slice_index xs 0) (same ∙ ap (λ n. slice_range image at (at + n)) one) in
    let front : slice_index (slice_range image at (at + 1)) 0 ≡ slice_index image at =
    get_or-take (at + 1 - at) (drop at image) 0 0 (omega arith) ∙ (get_or-drop at image 0 0 ∙ ap (λ n. slice_index image n) (let e : at + 0 ≡ at = omega arith in e)) in
    let back : slice_index (slice_range image (size * block) (size * block + size)) j ≡ slice_index image (size * block + j) =
    get_or-take (size * block + size - size * block) (drop (size * block) image) j 0 (omega (arith, low)) ∙ get_or-drop (size * block) image j 0 in
    first ∙ (front ∙ (ap (slice_index image) place ∙ sym back))

-- a bit of that byte is the one of its block
pub bit-here : (image : List ℕ) (size block i byte : ℕ) → byte ≡ slice_index (block_of size image block) (i / 8) → bit_at (block_of size image block) i ≡ bits.has_bit byte (i % 8)
unfolding bit_at
bit-here image size block i byte e = ap (λ n. bits.has_bit n (i % 8)) (sym e)

-- a number other than 0
pub unequal : (n : ℕ) → (n ≡ 0 → ⊥) → (n == 0) ≡ false
unequal n h = never-true (n == 0) (λ e. h (equal-from n 0 e))

-- a block of the container stands in one of the chunks of a space
pub chunk-there : (space : Known) (block : ℕ) → IsHeld space.site space.manager space.chunks → 1 ≤ space.site.block_size → block < space.site.blocks → block / chunk_len space.site.block_size < length space.chunks
chunk-there space block held some low = subst (λ n. block / chunk_len space.site.block_size < n) (sym held.count) (below-rounded block space.site.blocks (chunk_len space.site.block_size) (omega (arith, some)) low)
