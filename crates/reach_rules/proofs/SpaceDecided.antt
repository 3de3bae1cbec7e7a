-- The space of a container is right, or something is present.
use Rattle.std.proofs.Common.{◌≡◌, ℕ, zero, suc, ◌+◌, ◌*◌, ◌/◌, ◌%◌, ◌<◌, ◌≤◌, Bool, true, false, ◌&&◌, ◌||◌, ◌==◌, nat_lt, List, [], ◌++◌, map, length, Ok, Err, is_ok, ◌⊎◌, inl, inr, refl, sym, ◌∙◌, subst, arith, if◌then◌else◌}
use Rattle.std.specs.List.{range_with_len, list_all}
use Rattle.apfs_model.specs.Blocks.{block_of}
use Rattle.apfs_model.specs.Lists.{In, through}
use Rattle.apfs_model.specs.Object.{cab_kind, cib_kind}
use Rattle.obj_base.specs.declared.stop.Feature.{Feature}
use Rattle.nx_block.specs.Super.{space_oid_of}
use Rattle.nx_ring.specs.Checkpoint.{Seen, site_of}
use Rattle.space_map.specs.Fields.{cabs_of, cibs_of, chunks_of, cab_cibs_of, cib_chunks_of, pool_queue_of, main_queue_of, addresses_of, pool_bitmap_blocks_of, indexes_of}
use Rattle.space_map.specs.Geometry.{is_shaped, has_address, has_cib_place, has_chunk_place}
use Rattle.space_map.specs.Blocks.{address_at, cab_address_at, cab_block_for, cib_block, is_info, is_cab_named, has_cab_for, is_cib_named}
use Rattle.space_map.specs.Chunks.{chunk_at, is_told, are_told}
use Rattle.space_map.specs.Marks.{lacks_bitmap}
use Rattle.space_map.specs.Tests.{is_cab, is_cib, is_chunk, is_in_pool, is_free_total}
use Rattle.space_map.specs.Stops.{HasManager, space_features, is_bitmap_placed, IsRightCab, IsRightCib, IsRightSpace}
use Rattle.space_map.specs.declared.fault.SpaceFault.TheVariants as spaces
use Rattle.space_pool.specs.Bits.{is_pool_shaped, is_pool_count, is_pool_index, has_index, has_indexes, has_pool_bits}
use Rattle.space_pool.specs.Queues.{queue_of, is_queued_in_pool}
use Rattle.space_pool.specs.declared.entry.Queue.TheVariants.{Pool as PoolQueue, Main}
use Rattle.space_pool.specs.declared.entry.QueueEntry.{QueueEntry}
use Rattle.space_pool.specs.declared.fault.PoolFault.TheVariants as pools
use Rattle.reach_rules.specs.declared.fault.ReachFault.TheVariants.{Space, Pool}
use Rattle.reach_rules.specs.Naming.{ByMapping, Whole, FreeQueue, Expected, SpaceManager, AddressBlock, InfoBlock, TreeRoot, Naming}
use Rattle.reach_rules.specs.Resolved.{Found}
use Rattle.reach_rules.specs.Tested.{Answer, tested}
use Rattle.reach_rules.specs.Next.{unless_zero, address_naming, addresses_in, address_namings, is_cib_of, cibs_in, cib_naming, cab_namings}
use Rattle.reach_rules.specs.Live.{led, IsLive, NamesSound}
use Rattle.reach_rules.specs.Features.{features_through, used_features, tested_features, field_features}
use Rattle.reach_rules.specs.Accounted.{IsPlain, IsShaped}
use Rattle.apfs_model.proofs.BoolTests.{test_or, left-true, right-true, both-true, from-below, upto-from, from-upto, equal-from, from-equal, in-range, from-range}
use Rattle.apfs_model.proofs.Searches.{in-right, in-map, in-filter, all-of}
use Rattle.apfs_model.proofs.Empty.{right-none, map-none}
use Rattle.reach_rules.proofs.Nexts.{in-next}
use Rattle.reach_rules.specs.Laws.{Flawed}
use Rattle.reach_rules.proofs.NamesDecided.{AllSound, each_or, then_or}
use Rattle.space_map.proofs.Places.{Shape, shape-from, cab-address, cib-address, cib-place, cib-cab, chunk-place, chunk-cib}
use Rattle.reach_rules.proofs.Sounds.{manager_naming, manager-live, manager-there, cab-info, cib-info, cab-bytes}

-- what is known of the manager: it is named, sound, and shaped
pub record Managed (image : List ℕ) (seen : Seen) : Type 0 where
  pub object : Found
  pub names : NamesSound image seen (manager_naming seen) object
  pub there : HasManager seen object.bytes object.block
  pub shaped : is_shaped (site_of seen) object.bytes ≡ true
  pub shape : Shape (site_of seen) object.bytes

-- all numbers below a bound are right, or something is present
pub each_below : {T : Type 0} (P : ℕ → Type 0) (n : ℕ) → ((k : ℕ) → k < n → P k ⊎ T) → ((k : ℕ) → k < n → P k) ⊎ T
each_below P zero f = inl (λ k h. absurd (omega arith))
each_below {T} P (suc n) f = elim (each_below P n (λ k h. f k (omega arith))) as (λ _. ((k : ℕ) → k < suc n → P k) ⊎ T) [
  | inr t ↦ inr t
  | inl all ↦ elim (f n (omega arith)) as (λ _. ((k : ℕ) → k < suc n → P k) ⊎ T) [
    | inr t ↦ inr t
    | inl p ↦ inl (λ k h. let c : (k < n) ⊎ (k ≡ n) = grind arith in elim c as (λ _. P k) [ inl low ↦ all k low | inr e ↦ subst P (sym e) p ])
  ]
]

pub in-if-true : {X : Type 0} (x : X) (b : Bool) (xs ys : List X) → b ≡ true → In x xs → In x (if b then xs else ys)
in-if-true x true xs ys e h = h
in-if-true x false xs ys e h = absurd (let z : false ≡ true = e in let q : ⊥ = cc in q)

pub in-if-false : {X : Type 0} (x : X) (b : Bool) (xs ys : List X) → b ≡ false → In x ys → In x (if b then xs else ys)
in-if-false x true xs ys e h = absurd (let z : true ≡ false = e in let q : ⊥ = cc in q)
in-if-false x false xs ys e h = h

-- the manager's addresses are named
in-addresses : (m : List ℕ) (n i : ℕ) → i < n → has_address m i ≡ true → In i (addresses_in m n)
in-addresses m n i low h = in-filter (has_address m) i (range_with_len 0 n) (in-range 0 n i (omega arith) (omega arith)) h

address-live : (image : List ℕ) (seen : Seen) (d : Managed image seen) (n : Naming) → In n (address_namings (Whole d.object.object) d.object.bytes) → IsLive image seen n
address-live image seen d n h =
    let me = Whole d.object.object in
    let pool = unless_zero me 208 (TreeRoot (FreeQueue PoolQueue)) ByMapping (pool_queue_of d.object.bytes) in
    let main = unless_zero me 248 (TreeRoot (FreeQueue Main)) ByMapping (main_queue_of d.object.bytes) in
    led (manager_naming seen) n d.names.names.live (in-next image seen (manager_naming seen) n (record {
      object = d.object;
      found = d.names.names.found;
      sound = d.names.sound;
      names = in-right n pool (main ++ address_namings me d.object.bytes) (in-right n main (address_namings me d.object.bytes) h);
    }))

abbrev cab_naming : {image : List ℕ} {seen : Seen} → Managed image seen → ℕ → Naming
cab_naming d i = address_naming AddressBlock (Whole d.object.object) d.object.bytes i

cab-live : (image : List ℕ) (seen : Seen) (d : Managed image seen) (i : ℕ) → (cabs_of d.object.bytes == 0) ≡ false → i < cabs_of d.object.bytes → IsLive image seen (cab_naming d i)
cab-live image seen d i some low =
    let m = d.object.bytes in
    address-live image seen d (cab_naming d i) (in-if-false (cab_naming d i) (cabs_of m == 0) _ (map (address_naming AddressBlock (Whole d.object.object) m) (addresses_in m (cabs_of m))) some
    (in-map (address_naming AddressBlock (Whole d.object.object) m) (addresses_in m (cabs_of m)) i (in-addresses m (cabs_of m) i low (cab-address (site_of seen) m d.shape i some low))))

own-live : (image : List ℕ) (seen : Seen) (d : Managed image seen) (i : ℕ) → (cabs_of d.object.bytes == 0) ≡ true → i < cibs_of d.object.bytes → IsLive image seen (address_naming InfoBlock (Whole d.object.object) d.object.bytes i)
own-live image seen d i none low =
    let m = d.object.bytes in
    address-live image seen d (address_naming InfoBlock (Whole d.object.object) m i) (in-if-true (address_naming InfoBlock (Whole d.object.object) m i) (cabs_of m == 0) (map (address_naming InfoBlock (Whole d.object.object) m) (addresses_in m (cibs_of m))) _ none
    (in-map (address_naming InfoBlock (Whole d.object.object) m) (addresses_in m (cibs_of m)) i (in-addresses m (cibs_of m) i low (cib-address (site_of seen) m d.shape i none low))))

-- chunk-info address blocks
pub some-below : (n i : ℕ) → i < n → (n == 0) ≡ false
some-below n i low = elim (test_or (n == 0)) as (λ _. (n == 0) ≡ false) [ inr f ↦ f | inl t ↦ let z : n ≡ 0 = equal-from n 0 t in absurd (omega arith) ]

cab-named : (image : List ℕ) (seen : Seen) (d : Managed image seen) (i : ℕ) → i < cabs_of d.object.bytes → is_cab_named d.object.bytes i ≡ true
unfolding is_cab_named
cab-named image seen d i low = both-true (nat_lt i (cabs_of d.object.bytes)) (has_address d.object.bytes i) (from-below i (cabs_of d.object.bytes) low) (cab-address (site_of seen) d.object.bytes d.shape i (some-below (cabs_of d.object.bytes) i low) low)

cab-sound : (image : List ℕ) (seen : Seen) (sound : AllSound image seen) (d : Managed image seen) (i : ℕ) → i < cabs_of d.object.bytes → is_info image (site_of seen) cab_kind (address_at d.object.bytes i) ≡ true
cab-sound image seen sound d i low =
    let t = sound (cab_naming d i) (cab-live image seen d i (some-below (cabs_of d.object.bytes) i low) low) in
    cab-info image seen (Whole d.object.object) (addresses_of d.object.bytes + 8 * i) i (address_at d.object.bytes i) t.0 t.1

pub cab_or : (image : List ℕ) (seen : Seen) (sound : AllSound image seen) (d : Managed image seen) (i : ℕ) → i < cabs_of d.object.bytes → IsRightCab image (site_of seen) d.object.bytes i ⊎ Flawed image seen
cab_or image seen sound d i low =
    let m = d.object.bytes in
    let named = cab-named image seen d i low in
    let info = cab-sound image seen sound d i low in
    elim (test_or (is_in_pool (site_of seen) m (address_at m i))) as (λ _. IsRightCab image (site_of seen) m i ⊎ Flawed image seen) [
      | inr out ↦ inr (inl (Space (spaces.Place (address_at m i)), (m, d.object.block, d.there, (inl (cab_kind, inl (refl, (i, record { named = named; same = refl }))), out))))
      | inl placed ↦ elim (test_or (is_cab m i (block_of (site_of seen).block_size image (address_at m i)))) as (λ _. IsRightCab image (site_of seen) m i ⊎ Flawed image seen) [
        | inr wrong ↦ inr (inl (Space (spaces.Cab i), (m, d.object.block, d.there, (named, info, wrong))))
        | inl right ↦ inl (record { placed = placed; sound = info; right = right })
      ]
    ]

-- chunk-info blocks
cib-named : (image : List ℕ) (seen : Seen) (sound : AllSound image seen) (d : Managed image seen) (i : ℕ) → i < cibs_of d.object.bytes → is_cib_named image (site_of seen) d.object.bytes i ≡ true
unfolding is_cib_named has_cab_for
cib-named image seen sound d i low =
    let m = d.object.bytes in
    let rest : (b : Bool) → (cabs_of m == 0) ≡ b → (if b then has_address m i else has_cab_for image (site_of seen) m i) ≡ true = λ b. elim b as (λ b. (cabs_of m == 0) ≡ b → (if b then has_address m i else has_cab_for image (site_of seen) m i) ≡ true) [
      | true ↦ λ none. cib-address (site_of seen) m d.shape i none low
      | false ↦ λ some.
          let c = cib-cab (site_of seen) m d.shape i some low in
          both-true (has_cib_place (site_of seen).block_size m i) _ (cib-place (site_of seen) m d.shape i)
          (both-true (is_cab_named m (i / cab_cibs_of m)) _ (cab-named image seen d (i / cab_cibs_of m) c) (cab-sound image seen sound d (i / cab_cibs_of m) c))
    ] in
    both-true (nat_lt i (cibs_of m)) _ (from-below i (cibs_of m) low) (rest (cabs_of m == 0) refl)

cib-live : (image : List ℕ) (seen : Seen) (d : Managed image seen) (i : ℕ) (g : Found) → i < cibs_of d.object.bytes → NamesSound image seen (cab_naming d (i / cab_cibs_of d.object.bytes)) g → IsLive image seen (cib_naming (Whole g.object) d.object.bytes g.bytes i)
cib-live image seen d i g low n =
    let m = d.object.bytes in
    let c = i / cab_cibs_of m in
    let x = cib_naming (Whole g.object) m g.bytes i in
    let inside : In i (cibs_in (site_of seen).block_size m c) =
    in-filter (is_cib_of (site_of seen).block_size m c) i (range_with_len 0 (cibs_of m)) (in-range 0 (cibs_of m) i (omega arith) (omega arith))
    (both-true (i / cab_cibs_of m == c) (has_cib_place (site_of seen).block_size m i) (from-equal (i / cab_cibs_of m) c refl) (cib-place (site_of seen) m d.shape i)) in
    let here : In x (cab_namings (site_of seen).block_size (Whole g.object) m c g.bytes) = in-map (cib_naming (Whole g.object) m g.bytes) (cibs_in (site_of seen).block_size m c) i inside in
    led (cab_naming d c) x n.names.live (in-next image seen (cab_naming d c) x (record {
      object = g;
      found = n.names.found;
      sound = n.sound;
      names = subst (λ o. In x (through o (λ manager. cab_namings (site_of seen).block_size (Whole g.object) manager c g.bytes))) (sym d.there.some) here;
    }))

cib-sound : (image : List ℕ) (seen : Seen) (sound : AllSound image seen) (d : Managed image seen) (i : ℕ) → i < cibs_of d.object.bytes → is_info image (site_of seen) cib_kind (cib_block (site_of seen).block_size image d.object.bytes i) ≡ true
unfolding cib_block
cib-sound image seen sound d i low =
    let m = d.object.bytes in
    let B = (site_of seen).block_size in
    let go : (b : Bool) → (cabs_of m == 0) ≡ b → is_info image (site_of seen) cib_kind (if b then address_at m i else cab_address_at (block_of B image (cab_block_for m i)) (i % cab_cibs_of m)) ≡ true =
    λ b. elim b as (λ b. (cabs_of m == 0) ≡ b → is_info image (site_of seen) cib_kind (if b then address_at m i else cab_address_at (block_of B image (cab_block_for m i)) (i % cab_cibs_of m)) ≡ true) [
      | true ↦ λ none.
          let t = sound (address_naming InfoBlock (Whole d.object.object) m i) (own-live image seen d i none low) in
          cib-info image seen (Whole d.object.object) (addresses_of m + 8 * i) i (address_at m i) t.0 t.1
      | false ↦ λ some.
          let c = i / cab_cibs_of m in
          let g = sound (cab_naming d c) (cab-live image seen d c some (cib-cab (site_of seen) m d.shape i some low)) in
          let x = cib_naming (Whole g.0.object) m g.0.bytes i in
          let t = sound x (cib-live image seen d i g.0 low g.1) in
          let info = cib-info image seen (Whole g.0.object) (40 + 8 * (i % cab_cibs_of m)) i (cab_address_at g.0.bytes (i % cab_cibs_of m)) t.0 t.1 in
          let same = cab-bytes image seen (Whole d.object.object) (addresses_of m + 8 * c) (AddressBlock c) (address_at m c) g.0 g.1.names.found in
          subst (λ bytes. is_info image (site_of seen) cib_kind (cab_address_at bytes (i % cab_cibs_of m)) ≡ true) same info
    ] in
    go (cabs_of m == 0) refl

pub cib_or : (image : List ℕ) (seen : Seen) (sound : AllSound image seen) (d : Managed image seen) (i : ℕ) → i < cibs_of d.object.bytes → IsRightCib image (site_of seen) d.object.bytes i ⊎ Flawed image seen
cib_or image seen sound d i low =
    let m = d.object.bytes in
    let block = cib_block (site_of seen).block_size image m i in
    let named = cib-named image seen sound d i low in
    let info = cib-sound image seen sound d i low in
    elim (test_or (is_in_pool (site_of seen) m block)) as (λ _. IsRightCib image (site_of seen) m i ⊎ Flawed image seen) [
      | inr out ↦ inr (inl (Space (spaces.Place block), (m, d.object.block, d.there, (inl (cib_kind, inr (refl, (i, record { named = named; same = refl }))), out))))
      | inl placed ↦ elim (test_or (is_cib m i (block_of (site_of seen).block_size image block))) as (λ _. IsRightCib image (site_of seen) m i ⊎ Flawed image seen) [
        | inr wrong ↦ inr (inl (Space (spaces.Cib i), (m, d.object.block, d.there, (named, info, wrong))))
        | inl right ↦ inl (record { placed = placed; sound = info; right = right })
      ]
    ]

-- chunks
pub told : (image : List ℕ) (seen : Seen) (sound : AllSound image seen) (d : Managed image seen) (k : ℕ) → k < chunks_of d.object.bytes → is_told image (site_of seen) d.object.bytes k ≡ true
unfolding is_told
told image seen sound d k low =
    let m = d.object.bytes in
    let c = chunk-cib (site_of seen) m d.shape k low in
    both-true (nat_lt k (chunks_of m) && has_chunk_place (site_of seen).block_size m k) _
    (both-true (nat_lt k (chunks_of m)) _ (from-below k (chunks_of m) low) (chunk-place (site_of seen) m d.shape k))
    (both-true (is_cib_named image (site_of seen) m (k / cib_chunks_of m)) _ (cib-named image seen sound d (k / cib_chunks_of m) c) (cib-sound image seen sound d (k / cib_chunks_of m) c))

pub chunk_or : (image : List ℕ) (seen : Seen) (sound : AllSound image seen) (d : Managed image seen) (k : ℕ) → k < chunks_of d.object.bytes → (is_chunk (site_of seen) k (chunk_at (site_of seen).block_size image d.object.bytes k) ≡ true) ⊎ Flawed image seen
chunk_or image seen sound d k low =
    let m = d.object.bytes in
    elim (test_or (is_chunk (site_of seen) k (chunk_at (site_of seen).block_size image m k))) as (λ _. (is_chunk (site_of seen) k (chunk_at (site_of seen).block_size image m k) ≡ true) ⊎ Flawed image seen) [
      | inl y ↦ inl y
      | inr wrong ↦ inr (inl (Space (spaces.Index k), (m, d.object.block, d.there, (told image seen sound d k low, wrong))))
    ]

either-true : (a b : Bool) → (a ≡ true) ⊎ (b ≡ true) → (a || b) ≡ true
either-true true b h = refl
either-true false b (inl e) = let z : false ≡ true = e in absurd (let q : ⊥ = cc in q)
either-true false b (inr e) = e

pub bitmap_or : (image : List ℕ) (seen : Seen) (sound : AllSound image seen) (d : Managed image seen) (k : ℕ) → k < chunks_of d.object.bytes → (is_bitmap_placed (site_of seen) d.object.bytes (chunk_at (site_of seen).block_size image d.object.bytes k) ≡ true) ⊎ Flawed image seen
unfolding is_bitmap_placed
bitmap_or image seen sound d k low =
    let m = d.object.bytes in
    let chunk = chunk_at (site_of seen).block_size image m k in
    elim (test_or (lacks_bitmap chunk)) as (λ _. ((lacks_bitmap chunk || is_in_pool (site_of seen) m chunk.bitmap) ≡ true) ⊎ Flawed image seen) [
      | inl none ↦ inl (either-true (lacks_bitmap chunk) _ (inl none))
      | inr some ↦ elim (test_or (is_in_pool (site_of seen) m chunk.bitmap)) as (λ _. ((lacks_bitmap chunk || is_in_pool (site_of seen) m chunk.bitmap) ≡ true) ⊎ Flawed image seen) [
        | inl placed ↦ inl (either-true (lacks_bitmap chunk) (is_in_pool (site_of seen) m chunk.bitmap) (inr placed))
        | inr out ↦ inr (inl (Space (spaces.Place chunk.bitmap), (m, d.object.block, d.there, (inr (record { chunk = k; told = told image seen sound d k low; some = some; same = refl }), out))))
      ]
    ]

pub total_or : (image : List ℕ) (seen : Seen) (sound : AllSound image seen) (d : Managed image seen) → (is_free_total (site_of seen).block_size image d.object.bytes ≡ true) ⊎ Flawed image seen
unfolding are_told
total_or image seen sound d =
    let m = d.object.bytes in
    elim (test_or (is_free_total (site_of seen).block_size image m)) as (λ _. (is_free_total (site_of seen).block_size image m ≡ true) ⊎ Flawed image seen) [
      | inl y ↦ inl y
      | inr wrong ↦ inr (inl (Space spaces.FreeTotal, (m, d.object.block, d.there, (all-of (is_told image (site_of seen) m) (range_with_len 0 (chunks_of m)) (λ k h. told image seen sound d k (let l = from-range 0 (chunks_of m) k h in omega arith)), wrong))))
    ]

pub ok-features : (image : List ℕ) (seen : Seen) (e : Expected) (f : Found) (a : Answer) → is_ok a ≡ true → tested_features image seen e f a ≡ field_features image seen e f.block f.bytes
ok-features image seen e f (Ok b) t = refl
ok-features image seen e f (Err bad) t = absurd (let z : false ≡ true = t in let q : ⊥ = cc in q)

-- no feature of the manager
manager-plain : (image : List ℕ) (seen : Seen) → IsPlain image seen → (f : Found) → NamesSound image seen (manager_naming seen) f → space_features f.bytes ≡ []
unfolding features_through
manager-plain image seen plain f n =
    let all = plain.all (manager_naming seen) n.names.live in
    let T = tested (site_of seen) SpaceManager (space_oid_of seen.nx) f.bytes in
    let some : used_features (site_of seen) f.object ++ tested_features image seen SpaceManager f T ≡ [] =
    subst (λ o. through o (λ (g : Found). used_features (site_of seen) g.object ++ tested_features image seen SpaceManager g (tested (site_of seen) SpaceManager (space_oid_of seen.nx) g.bytes)) ≡ []) n.names.found all in
    let rest = right-none (used_features (site_of seen) f.object) (tested_features image seen SpaceManager f T) some in
    map-none (λ (feature : Feature). (feature, f.block)) (space_features f.bytes) (sym (ok-features image seen SpaceManager f T n.sound) ∙ rest)

-- the manager is there and shaped
pub managed_or : (image : List ℕ) (seen : Seen) → AllSound image seen → Managed image seen ⊎ Flawed image seen
managed_or image seen sound =
    let t = sound (manager_naming seen) (manager-live image seen) in
    let there = manager-there image seen t.0 t.1 in
    elim (test_or (is_shaped (site_of seen) t.0.bytes)) as (λ _. Managed image seen ⊎ Flawed image seen) [
      | inr wrong ↦ inr (inl (Space spaces.Geometry, (t.0.bytes, t.0.block, there, wrong)))
      | inl shaped ↦ inl (record { object = t.0; names = t.1; there = there; shaped = shaped; shape = shape-from (site_of seen) t.0.bytes shaped })
    ]

pub space_or : (image : List ℕ) (seen : Seen) → AllSound image seen → IsPlain image seen → (d : Managed image seen) → IsRightSpace image (site_of seen) d.object.bytes ⊎ Flawed image seen
space_or image seen sound plain d =
    let m = d.object.bytes in
    then_or (each_below (IsRightCab image (site_of seen) m) (cabs_of m) (cab_or image seen sound d)) (λ cabs.
    then_or (each_below (IsRightCib image (site_of seen) m) (cibs_of m) (cib_or image seen sound d)) (λ cibs.
    then_or (each_below (λ k. is_chunk (site_of seen) k (chunk_at (site_of seen).block_size image m k) ≡ true) (chunks_of m) (chunk_or image seen sound d)) (λ chunks.
    then_or (each_below (λ k. is_bitmap_placed (site_of seen) m (chunk_at (site_of seen).block_size image m k) ≡ true) (chunks_of m) (bitmap_or image seen sound d)) (λ bitmaps.
    then_or (total_or image seen sound d) (λ total.
    inl (record { plain = manager-plain image seen plain d.object d.names; shaped = d.shaped; cabs = cabs; cibs = cibs; chunks = chunks; bitmaps = bitmaps; total = total }))))))

index-there : (image : List ℕ) (seen : Seen) (m : List ℕ) (i : ℕ) → is_pool_count (site_of seen) m ≡ true → i < pool_bitmap_blocks_of m → has_index m i ≡ true
unfolding is_pool_count has_indexes has_index
index-there image seen m i count low =
    let both = left-true (has_pool_bits (site_of seen).block_size m && has_indexes m) _ count in
    let fits : indexes_of m + 2 * pool_bitmap_blocks_of m ≤ length m = upto-from (indexes_of m + 2 * pool_bitmap_blocks_of m) (length m) (right-true (has_pool_bits (site_of seen).block_size m) (has_indexes m) both) in
    both-true (nat_lt i (pool_bitmap_blocks_of m)) _ (from-below i (pool_bitmap_blocks_of m) low) (from-upto (indexes_of m + 2 * i + 2) (length m) (omega arith))

pub pool_or : (image : List ℕ) (seen : Seen) (d : Managed image seen) → (is_pool_shaped (site_of seen) d.object.bytes ≡ true) ⊎ Flawed image seen
unfolding is_pool_shaped
pool_or image seen d =
    let m = d.object.bytes in
    let Shaped : Type 0 = (is_pool_count (site_of seen) m && list_all (is_pool_index m) (range_with_len 0 (pool_bitmap_blocks_of m))) ≡ true in
    elim (test_or (is_pool_count (site_of seen) m)) as (λ _. Shaped ⊎ Flawed image seen) [
      | inr wrong ↦ inr (inl (Pool pools.Count, (m, d.object.block, d.there, wrong)))
      | inl count ↦ elim (each_below (λ i. is_pool_index m i ≡ true) (pool_bitmap_blocks_of m) (λ i low. elim (test_or (is_pool_index m i)) as (λ _. (is_pool_index m i ≡ true) ⊎ Flawed image seen) [
        | inl y ↦ inl y
        | inr wrong ↦ inr (inl (Pool (pools.Index i), (m, d.object.block, d.there, (index-there image seen m i count low, wrong))))
      ])) as (λ _. Shaped ⊎ Flawed image seen) [
        | inr t ↦ inr t
        | inl all ↦ inl (both-true (is_pool_count (site_of seen) m) _ count (all-of (is_pool_index m) (range_with_len 0 (pool_bitmap_blocks_of m)) (λ i h. all i (let l = from-range 0 (pool_bitmap_blocks_of m) i h in omega arith))))
      ]
    ]

pub queued_or : (image : List ℕ) (seen : Seen) (d : Managed image seen) → ((e : QueueEntry) → In e (queue_of image seen d.object.bytes PoolQueue) → is_queued_in_pool d.object.bytes e ≡ true) ⊎ Flawed image seen
queued_or image seen d =
    let m = d.object.bytes in
    each_or (λ (e : QueueEntry). is_queued_in_pool m e ≡ true) (queue_of image seen m PoolQueue) (λ e h. elim (test_or (is_queued_in_pool m e)) as (λ _. (is_queued_in_pool m e ≡ true) ⊎ Flawed image seen) [
      | inl y ↦ inl y
      | inr out ↦ inr (inl (Pool (pools.Place e.paddr), (m, d.object.block, d.there, record { entry = e; one = h; outside = out; same = refl })))
    ])

pub shaped_or : (image : List ℕ) (seen : Seen) → AllSound image seen → IsPlain image seen → (d : Managed image seen) → IsShaped image seen d.object.bytes ⊎ Flawed image seen
shaped_or image seen sound plain d =
    then_or (space_or image seen sound plain d) (λ space. then_or (pool_or image seen d) (λ pool. then_or (queued_or image seen d) (λ queued.
    inl (record { space = space; pool = pool; queued = queued }))))
