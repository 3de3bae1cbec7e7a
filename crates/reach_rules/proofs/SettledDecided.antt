-- Records are used, and blocks are owned and marked as they must be, or something is present.
use Rattle.std.proofs.Common.{◌≡◌, ◌↔◌, ℕ, ◌+◌, ◌/◌, ◌<◌, ◌≤◌, Bool, true, false, ◌||◌, ◌==◌, nat_lt, nat_le, List, ◌++◌, map, Option, Some, None, ◌⊎◌, inl, inr, refl, ap, sym, ◌∙◌, subst, arith, if◌then◌else◌}
use Rattle.std.specs.Prelude.{is_some}
use Rattle.std.specs.List.{flat_map}
use Rattle.apfs_model.specs.Blocks.{in_container, is_in}
use Rattle.apfs_model.specs.Lists.{In, Lists}
use Rattle.obj_base.specs.declared.stop.Within.{Within}
use Rattle.obj_base.specs.declared.stop.Within.TheVariants.{Physical, Ephemeral, Container, Volume}
use Rattle.obj_base.specs.declared.site.Site.{Site}
use Rattle.nx_block.specs.Super.{omap_oid_of}
use Rattle.nx_ring.specs.Checkpoint.{Seen, site_of}
use Rattle.omap_map.specs.Maps.{map_records, is_map_object}
use Rattle.omap_map.specs.Records.{is_deleted}
use Rattle.omap_map.specs.declared.records.OmapRecord.{OmapRecord}
use Rattle.vol_view.specs.Fields as volumes
use Rattle.space_map.specs.Fields.{chunks_of, pool_base_of, pool_blocks_of}
use Rattle.space_map.specs.Geometry.{chunk_len, most_chunks}
use Rattle.space_map.specs.Chunks.{chunk_at}
use Rattle.space_map.specs.Marks.{lacks_bitmap, has_bits, is_marked}
use Rattle.space_map.specs.Tests.{is_in_pool, is_free_count}
use Rattle.space_map.specs.Stops.{is_bitmap_placed}
use Rattle.space_pool.specs.Bits.{is_pool_marked}
use Rattle.reach_rules.specs.declared.fault.ReachFault.TheVariants.{OwnedTwice, Outside, UnusedMapping, Leaked, Missing, PoolLeaked, PoolMissing, FreeCount}
use Rattle.reach_rules.specs.Naming.{OfRecord, Whole, Expected, VolumeIn, VolumeMap, ByBlock, Naming, naming}
use Rattle.reach_rules.specs.Resolved.{Found, resolved}
use Rattle.reach_rules.specs.Next.{names}
use Rattle.reach_rules.specs.Live.{led, IsLive, NamesSound}
use Rattle.reach_rules.specs.Maps.{GivesMap, IsMapOf, IsUsed, AreUsed}
use Rattle.reach_rules.specs.Owners.{Owner, covers, first_owners, owners_through, IsOwner, first, of, IsOwned, IsFree}
use Rattle.reach_rules.specs.PoolOwners.{pool_owners_through, IsPoolOwner, IsPoolOwned, IsPoolFree}
use Rattle.reach_rules.specs.Faults.{is_of_pool, lies_inside, HasBits, HasMark, HasPoolMark}
use Rattle.reach_rules.specs.Accounted.{IsShaped, IsSettled, IsPoolSettled}
use Rattle.apfs_model.proofs.BoolTests.{test_or, clash, right-true, both-true, below-from, from-below, unequal-from}
use Rattle.apfs_model.proofs.Searches.{in-left, in-right, in-append, in-flat_map, from-flat_map, every_of, any_of}
use Rattle.reach_rules.proofs.Equal.{object_eq, owner_eq}
use Rattle.reach_rules.proofs.Nexts.{in-next}
use Rattle.reach_rules.specs.Laws.{Flawed}
use Rattle.reach_rules.proofs.NamesDecided.{AllSound, each_or, found_or, then_or}
use Rattle.space_map.proofs.Places.{Shape, block-chunk}
use Rattle.reach_rules.proofs.Sounds.{map_naming, map-live, container-map-sound, volume-map-sound}
use Rattle.reach_rules.proofs.SpaceDecided.{Managed, each_below, told}

-- ---- records
use-or : (image : List ℕ) (seen : Seen) (map : ℕ) (r : OmapRecord) (n : Naming) → ((f : Found) × ((resolved image seen n ≡ Some f) × (f.object ≡ OfRecord map r))) ⊎ ((f : Found) → resolved image seen n ≡ Some f → f.object ≡ OfRecord map r → ⊥)
use-or image seen map r n =
    let Yes : Type 0 = (f : Found) × ((resolved image seen n ≡ Some f) × (f.object ≡ OfRecord map r)) in
    let No : Type 0 = (f : Found) → resolved image seen n ≡ Some f → f.object ≡ OfRecord map r → ⊥ in
    elim (found_or (resolved image seen n)) as (λ _. Yes ⊎ No) [
      | inr none ↦ inr (λ f e s. let z : ◌≡◌ {A = Option Found} None (Some f) = sym none ∙ e in cc)
      | inl t ↦ elim (object_eq t.0.object (OfRecord map r)) as (λ _. Yes ⊎ No) [
        | inl y ↦ inl (t.0, (t.1, y))
        | inr differs ↦ inr (λ f e s. let z : ◌≡◌ {A = Option Found} (Some t.0) (Some f) = sym t.1 ∙ e in let p : t.0 ≡ f = cc in differs (ap (λ (x : Found). x.object) p ∙ s))
      ]
    ]

used_in_or : (image : List ℕ) (seen : Seen) (xs : List Naming) → Lists xs (IsLive image seen) → (within : Within) (map : ℕ) → IsMapOf image seen within map → is_map_object image (site_of seen) map ≡ true → AreUsed image seen map ⊎ Flawed image seen
used_in_or image seen xs lists within map place sound =
    let Right : OmapRecord → Type 0 = λ r. is_deleted r.flags ≡ false → IsUsed image seen map r in
    each_or Right (map_records image (site_of seen) map) (λ r h. elim (test_or (is_deleted r.flags)) as (λ _. Right r ⊎ Flawed image seen) [
      | inl gone ↦ inl (λ kept. clash (is_deleted r.flags) gone kept)
      | inr kept ↦ elim (any_of (IsLive image seen) xs lists (λ n. (f : Found) × ((resolved image seen n ≡ Some f) × (f.object ≡ OfRecord map r))) (λ n. (f : Found) → resolved image seen n ≡ Some f → f.object ≡ OfRecord map r → ⊥) (use-or image seen map r)) as (λ _. Right r ⊎ Flawed image seen) [
        | inl t ↦ inl (λ _. record { naming = t.0; object = t.1.1.0; names = record { live = t.1.0; found = t.1.1.1.0 }; record_is = t.1.1.1.1 })
        | inr none ↦ inr (inl (UnusedMapping within r.oid r.xid, record { map = map; of = place; sound = sound; mapping = r; one = h; kept = kept; idle = λ n f names e. none n names.live f names.found e; oid_is = refl; xid_is = refl }))
      ]
    ])

-- the map of a sound volume is named, and so sound
volume-map : (image : List ℕ) (seen : Seen) (sound : AllSound image seen) (slot map : ℕ) → GivesMap image seen slot map → is_map_object image (site_of seen) map ≡ true
volume-map image seen sound slot map g =
    let oid = volumes.omap_oid_of g.object.bytes in
    let x = naming (Whole g.object.object) 128 VolumeMap ByBlock oid in
    let here : In x (names image seen g.naming.how (VolumeIn slot) (Whole g.object.object) g.object.bytes) = inl refl in
    let live : IsLive image seen x = led g.naming x g.names.names.live (in-next image seen g.naming x (record {
      object = g.object;
      found = g.names.names.found;
      sound = g.names.sound;
      names = subst (λ e. In x (names image seen g.naming.how e (Whole g.object.object) g.object.bytes)) (sym g.volume) here;
    })) in
    let t = sound x live in
    subst (λ b. is_map_object image (site_of seen) b ≡ true) (sym g.gives) (volume-map-sound image seen (Whole g.object.object) 128 oid t.0 t.1)

slot_or : (e : Expected) → ((slot : ℕ) × (e ≡ VolumeIn slot)) ⊎ ((slot : ℕ) → e ≡ VolumeIn slot → ⊥)
slot_or (VolumeIn slot) = inl (slot, refl)
slot_or e = inr (λ slot s. cc)

abbrev pub AllUsed : List ℕ → Seen → Type 0
AllUsed image seen = (within : Within) (map : ℕ) → IsMapOf image seen within map → AreUsed image seen map

pub used_or : (image : List ℕ) (seen : Seen) (xs : List Naming) → Lists xs (IsLive image seen) → AllSound image seen → AllUsed image seen ⊎ Flawed image seen
used_or image seen xs lists sound =
    let t = sound (map_naming seen) (map-live image seen) in
    let container = container-map-sound image seen _ 160 (omap_oid_of seen.nx) t.0 t.1 in
    let VolumesUsed : Naming → Type 0 = λ n. (slot map : ℕ) (f : Found) → NamesSound image seen n f → n.expected ≡ VolumeIn slot → map ≡ volumes.omap_oid_of f.bytes → AreUsed image seen map in
    let volume : (n : Naming) → In n xs → VolumesUsed n ⊎ Flawed image seen = λ n h. elim (slot_or n.expected) as (λ _. VolumesUsed n ⊎ Flawed image seen) [
      | inr none ↦ inl (λ slot map f names e gives. absurd (none slot e))
      | inl s ↦
          let f = sound n (lists.0 n h) in
          let map = volumes.omap_oid_of f.0.bytes in
          let g : GivesMap image seen s.0 map = record { naming = n; object = f.0; names = f.1; volume = s.1; gives = refl } in
          elim (used_in_or image seen xs lists (Volume s.0) map g (volume-map image seen sound s.0 map g)) as (λ _. VolumesUsed n ⊎ Flawed image seen) [
            | inr w ↦ inr w
            | inl used ↦ inl (λ slot other k names e gives.
                let z : ◌≡◌ {A = Option Found} (Some f.0) (Some k) = sym f.1.names.found ∙ names.names.found in
                let p : f.0 ≡ k = cc in
                subst (λ b. AreUsed image seen b) (sym (gives ∙ ap (λ (x : Found). volumes.omap_oid_of x.bytes) (sym p))) used)
          ]
    ] in
    then_or (used_in_or image seen xs lists Container (omap_oid_of seen.nx) refl container) (λ first.
    then_or (each_or VolumesUsed xs volume) (λ rest.
    inl (λ within. elim within as (λ within. (map : ℕ) → IsMapOf image seen within map → AreUsed image seen map) [
      | Physical ↦ λ map h. absurd h
      | Ephemeral ↦ λ map h. absurd h
      | Container ↦ λ map e. subst (λ b. AreUsed image seen b) (sym e) first
      | Volume slot ↦ λ map g. rest g.naming (lists.1 g.naming g.names.names.live) slot map g.object g.names g.volume g.gives
    ])))

-- ---- owners, as lists
pub owners_list : (image : List ℕ) (seen : Seen) (xs : List Naming) → List Owner
owners_list image seen xs = first_owners seen.nx ++ flat_map (owners_through image seen) xs

pub owners-lists : (image : List ℕ) (seen : Seen) (xs : List Naming) → Lists xs (IsLive image seen) → Lists (owners_list image seen xs) (IsOwner image seen)
unfolding owners_list
owners-lists image seen xs lists = (
  (λ a h. elim (in-append a (first_owners seen.nx) (flat_map (owners_through image seen) xs) h) as (λ _. IsOwner image seen a) [
    | inl k ↦ first k
    | inr k ↦ let t = from-flat_map (owners_through image seen) a xs k in of t.0 (lists.0 t.0 t.1.0) t.1.1
  ]),
  (λ a. λ o. elim o as (λ _. In a (first_owners seen.nx ++ flat_map (owners_through image seen) xs)) [
    | first k ↦ in-left a (first_owners seen.nx) (flat_map (owners_through image seen) xs) k
    | of n live k ↦ in-right a (first_owners seen.nx) (flat_map (owners_through image seen) xs) (in-flat_map (owners_through image seen) n a xs (lists.1 n live) k)
  ]),
)

pub pool_owners_list : (image : List ℕ) (seen : Seen) (xs : List Naming) → List Owner
pool_owners_list image seen xs = flat_map (pool_owners_through image seen) xs

pub pool-owners-lists : (image : List ℕ) (seen : Seen) (xs : List Naming) → Lists xs (IsLive image seen) → Lists (pool_owners_list image seen xs) (IsPoolOwner image seen)
unfolding pool_owners_list
pool-owners-lists image seen xs lists = (
  (λ a h. let t = from-flat_map (pool_owners_through image seen) a xs h in record { naming = t.0; live = lists.0 t.0 t.1.0; one = t.1.1 }),
  (λ a o. in-flat_map (pool_owners_through image seen) o.naming a xs (lists.1 o.naming o.live) o.one),
)

-- ---- two owners of a block
abbrev IsApart : (Owner → Type 0) → ℕ → Type 0
IsApart R block = (a : Owner) → R a → (b : Owner) → R b → covers a block ≡ true → covers b block ≡ true → a ≡ b

abbrev IsMet : (Owner → Type 0) → ℕ → Type 0
IsMet R block = (a : Owner) × (R a × ((b : Owner) × (R b × ((covers a block ≡ true) × ((covers b block ≡ true) × (a ≡ b → ⊥))))))

apart_or : (R : Owner → Type 0) (owners : List Owner) → Lists owners R → (block : ℕ) → IsApart R block ⊎ IsMet R block
apart_or R owners lists block =
    let Good : Owner → Owner → Type 0 = λ a b. covers a block ≡ true → covers b block ≡ true → a ≡ b in
    let Wrong : Owner → Owner → Type 0 = λ a b. (covers a block ≡ true) × ((covers b block ≡ true) × (a ≡ b → ⊥)) in
    let test : (a b : Owner) → Good a b ⊎ Wrong a b = λ a b. elim (test_or (covers a block)) as (λ _. Good a b ⊎ Wrong a b) [
      | inr f ↦ inl (λ x _. clash (covers a block) x f)
      | inl x ↦ elim (test_or (covers b block)) as (λ _. Good a b ⊎ Wrong a b) [
        | inr f ↦ inl (λ _ y. clash (covers b block) y f)
        | inl y ↦ elim (owner_eq a b) as (λ _. Good a b ⊎ Wrong a b) [ inl e ↦ inl (λ _ _. e) | inr d ↦ inr (x, (y, d)) ]
      ]
    ] in
    every_of R owners lists (λ a. (b : Owner) → R b → Good a b) (λ a. (b : Owner) × (R b × Wrong a b)) (λ a. every_of R owners lists (Good a) (Wrong a) (test a))

-- ---- a block is owned or free
owned_or : (image : List ℕ) (seen : Seen) (owners : List Owner) → Lists owners (IsOwner image seen) → (block : ℕ) → IsOwned image seen block ⊎ IsFree image seen block
owned_or image seen owners lists block = elim (any_of (IsOwner image seen) owners lists (λ a. covers a block ≡ true) (λ a. covers a block ≡ false) (λ a. test_or (covers a block))) as (λ _. IsOwned image seen block ⊎ IsFree image seen block) [
  | inl t ↦ inl (record { who = t.0; owner = t.1.0; covers = t.1.1 })
  | inr none ↦ inr none
]

pool_owned_or : (image : List ℕ) (seen : Seen) (owners : List Owner) → Lists owners (IsPoolOwner image seen) → (block : ℕ) → IsPoolOwned image seen block ⊎ IsPoolFree image seen block
pool_owned_or image seen owners lists block = elim (any_of (IsPoolOwner image seen) owners lists (λ a. covers a block ≡ true) (λ a. covers a block ≡ false) (λ a. test_or (covers a block))) as (λ _. IsPoolOwned image seen block ⊎ IsPoolFree image seen block) [
  | inl t ↦ inl (record { who = t.0; owner = t.1.0; covers = t.1.1 })
  | inr none ↦ inr none
]

-- a mark that agrees or doesn't with who owns
mark_or : {P Q : Type 0} (b : Bool) → P ⊎ Q → (Q → P → ⊥) → ((b ≡ true) ↔ P) ⊎ (((b ≡ true) × Q) ⊎ ((b ≡ false) × P))
mark_or {P} {Q} b o not = elim (test_or b) as (λ _. ((b ≡ true) ↔ P) ⊎ (((b ≡ true) × Q) ⊎ ((b ≡ false) × P))) [
  | inl y ↦ elim o as (λ _. ((b ≡ true) ↔ P) ⊎ (((b ≡ true) × Q) ⊎ ((b ≡ false) × P))) [ inl p ↦ inl ((λ _. p), (λ _. y)) | inr q ↦ inr (inl (y, q)) ]
  | inr z ↦ elim o as (λ _. ((b ≡ true) ↔ P) ⊎ (((b ≡ true) × Q) ⊎ ((b ≡ false) × P))) [ inl p ↦ inr (inr (z, p)) | inr q ↦ inl ((λ y. clash b y z), (λ p. absurd (not q p))) ]
]

-- ---- the bits of a chunk can be read
pub some-size : (site : Site) (m : List ℕ) → Shape site m → 1 ≤ site.block_size
some-size site m s =
    let a = s.some_chunks in
    let b = s.few_chunks in
    let c : 1 ≤ most_chunks site.block_size = omega arith in
    omega (arith, c)

either-bits : (site : Site) (m : List ℕ) (b : ℕ) (n : Bool) → (n || is_in_pool site m b) ≡ true → 0 < b → (n || is_some (in_container site.blocks b)) ≡ true
unfolding is_in_pool
either-bits site m b true e pos = refl
either-bits site m b false e pos =
    let low = below-from b site.blocks (right-true (is_in b (pool_base_of m) (pool_blocks_of m)) (nat_lt b site.blocks) e) in
    let t = both-true (nat_lt 0 b) (nat_lt b site.blocks) (from-below 0 b pos) (from-below b site.blocks low) in
    ap (λ (x : Bool). is_some (if x then Some b else None)) t

positive : (b : ℕ) → (b == 0) ≡ false → 0 < b
positive b e = let c : (b ≡ 0) ⊎ (0 < b) = grind arith in elim c as (λ _. 0 < b) [ inl z ↦ absurd (unequal-from b 0 e z) | inr l ↦ l ]

pub bits-there : (image : List ℕ) (seen : Seen) (sound : AllSound image seen) (d : Managed image seen) → IsShaped image seen d.object.bytes → (k : ℕ) → k < chunks_of d.object.bytes → HasBits image seen d.object.bytes k
unfolding is_bitmap_placed
bits-there image seen sound d shaped k low =
    let m = d.object.bytes in
    let chunk = chunk_at (site_of seen).block_size image m k in
    let go : (n : Bool) → lacks_bitmap chunk ≡ n → has_bits (site_of seen) chunk ≡ true = λ n. elim n as (λ n. lacks_bitmap chunk ≡ n → has_bits (site_of seen) chunk ≡ true) [
      | true ↦ λ none. ap (λ (x : Bool). x || is_some (in_container (site_of seen).blocks chunk.bitmap)) none
      | false ↦ λ some.
          let pos : 0 < chunk.bitmap = positive chunk.bitmap some in
          either-bits (site_of seen) m chunk.bitmap (lacks_bitmap chunk) (shaped.space.bitmaps k low) pos
    ] in
    record { told = told image seen sound d k low; bits = go (lacks_bitmap chunk) refl }

-- ---- the blocks of the container
pub settled_or : (image : List ℕ) (seen : Seen) (owners : List Owner) → Lists owners (IsOwner image seen) → AllSound image seen → (d : Managed image seen) → IsShaped image seen d.object.bytes → IsSettled image seen d.object.bytes ⊎ Flawed image seen
settled_or image seen owners lists sound d shaped =
    let m = d.object.bytes in
    let N = (site_of seen).blocks in
    let B = (site_of seen).block_size in
    let Inside : Owner → Type 0 = λ a. (a.blocks == 0) ≡ false → lies_inside seen a ≡ true in
    let inside_or : ((a : Owner) → In a owners → Inside a) ⊎ Flawed image seen = each_or Inside owners (λ a h. elim (test_or (a.blocks == 0)) as (λ _. Inside a ⊎ Flawed image seen) [
      | inl none ↦ inl (λ some. clash (a.blocks == 0) none some)
      | inr some ↦ elim (test_or (lies_inside seen a)) as (λ _. Inside a ⊎ Flawed image seen) [
        | inl y ↦ inl (λ _. y)
        | inr leaves ↦ inr (inl (Outside a.first, record { who = a; owner = lists.0 a h; some = some; leaves = leaves; at = refl }))
      ]
    ]) in
    let once_or : ((block : ℕ) → block < N → IsApart (IsOwner image seen) block) ⊎ Flawed image seen = each_below (IsApart (IsOwner image seen)) N (λ block low. elim (apart_or (IsOwner image seen) owners lists block) as (λ _. IsApart (IsOwner image seen) block ⊎ Flawed image seen) [
      | inl y ↦ inl y
      | inr t ↦ let o = t.1.1 in inr (inl (OwnedTwice block, inl (record { low = low; one = t.0; other = o.0; one_owner = t.1.0; other_owner = o.1.0; one_covers = o.1.1.0; other_covers = o.1.1.1.0; apart = o.1.1.1.1 })))
    ]) in
    let Marked : ℕ → Type 0 = λ block. (is_marked B image m block ≡ true) ↔ IsOwned image seen block in
    let marked_or : ((block : ℕ) → block < N → Marked block) ⊎ Flawed image seen = each_below Marked N (λ block low.
    let has : (mark : Bool) → is_marked B image m block ≡ mark → HasMark image seen block mark = λ mark e. record { low = low; by = (m, d.object.block, d.there, (bits-there image seen sound d shaped (block / chunk_len B) (block-chunk (site_of seen) m d.shape block (some-size (site_of seen) m d.shape) low), e)) } in
    elim (mark_or (is_marked B image m block) (owned_or image seen owners lists block) (λ none o. clash (covers o.who block) o.covers (none o.who o.owner))) as (λ _. Marked block ⊎ Flawed image seen) [
      | inl y ↦ inl y
      | inr w ↦ elim w as (λ _. Marked block ⊎ Flawed image seen) [
        | inl t ↦ inr (inl (Leaked block, (has true t.0, t.1)))
        | inr t ↦ inr (inl (Missing block, (has false t.0, t.1)))
      ]
    ]) in
    let Counted : ℕ → Type 0 = λ k. is_free_count B image (chunk_at B image m k) ≡ true in
    let counts_or : ((k : ℕ) → k < chunks_of m → Counted k) ⊎ Flawed image seen = each_below Counted (chunks_of m) (λ k low. elim (test_or (is_free_count B image (chunk_at B image m k))) as (λ _. Counted k ⊎ Flawed image seen) [
      | inl y ↦ inl y
      | inr wrong ↦ inr (inl (FreeCount k, (m, d.object.block, d.there, (bits-there image seen sound d shaped k low, wrong))))
    ]) in
    then_or inside_or (λ inside. then_or once_or (λ once. then_or marked_or (λ marked. then_or counts_or (λ counts.
    inl (record {
      inside = λ a o. inside a (lists.1 a o);
      apart = λ block a b low x y p q. once block low a x b y p q;
      marked = marked;
      counts = counts;
    })))))

-- ---- the blocks of the pool
in-pool-below : (m : List ℕ) (block : ℕ) → is_of_pool m block ≡ true → block < pool_base_of m + pool_blocks_of m
in-pool-below m block e = below-from block (pool_base_of m + pool_blocks_of m) (right-true (nat_le (pool_base_of m) block) _ e)

pub pool_settled_or : (image : List ℕ) (seen : Seen) (owners : List Owner) → Lists owners (IsPoolOwner image seen) → (d : Managed image seen) → IsShaped image seen d.object.bytes → IsPoolSettled image seen d.object.bytes ⊎ Flawed image seen
pool_settled_or image seen owners lists d shaped =
    let m = d.object.bytes in
    let B = (site_of seen).block_size in
    let end = pool_base_of m + pool_blocks_of m in
    let Once : ℕ → Type 0 = λ block. is_of_pool m block ≡ true → IsApart (IsPoolOwner image seen) block in
    let once_or : ((block : ℕ) → block < end → Once block) ⊎ Flawed image seen = each_below Once end (λ block low. elim (test_or (is_of_pool m block)) as (λ _. Once block ⊎ Flawed image seen) [
      | inr out ↦ inl (λ within. clash (is_of_pool m block) within out)
      | inl within ↦ elim (apart_or (IsPoolOwner image seen) owners lists block) as (λ _. Once block ⊎ Flawed image seen) [
        | inl y ↦ inl (λ _. y)
        | inr t ↦ let o = t.1.1 in inr (inl (OwnedTwice block, inr (record { inside = (m, d.object.block, d.there, within); one = t.0; other = o.0; one_owner = t.1.0; other_owner = o.1.0; one_covers = o.1.1.0; other_covers = o.1.1.1.0; apart = o.1.1.1.1 })))
      ]
    ]) in
    let Marked : ℕ → Type 0 = λ block. is_of_pool m block ≡ true → (is_pool_marked B image m block ≡ true) ↔ IsPoolOwned image seen block in
    let marked_or : ((block : ℕ) → block < end → Marked block) ⊎ Flawed image seen = each_below Marked end (λ block low. elim (test_or (is_of_pool m block)) as (λ _. Marked block ⊎ Flawed image seen) [
      | inr out ↦ inl (λ within. clash (is_of_pool m block) within out)
      | inl within ↦
          let has : (mark : Bool) → is_pool_marked B image m block ≡ mark → HasPoolMark image seen block mark = λ mark e. (m, d.object.block, d.there, (within, shaped.pool, e)) in
          elim (mark_or (is_pool_marked B image m block) (pool_owned_or image seen owners lists block) (λ none o. clash (covers o.who block) o.covers (none o.who o.owner))) as (λ _. Marked block ⊎ Flawed image seen) [
            | inl y ↦ inl (λ _. y)
            | inr w ↦ elim w as (λ _. Marked block ⊎ Flawed image seen) [
              | inl t ↦ inr (inl (PoolLeaked block, (has true t.0, t.1)))
              | inr t ↦ inr (inl (PoolMissing block, (has false t.0, t.1)))
            ]
          ]
    ]) in
    then_or once_or (λ once. then_or marked_or (λ marked.
    inl (record {
      apart = λ block a b within x y p q. once block (in-pool-below m block within) within a x b y p q;
      marked = λ block within. marked block (in-pool-below m block within) within;
    })))
