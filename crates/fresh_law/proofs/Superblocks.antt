-- What the superblock of the container, the checkpoint map and the superblock of the volume say.
use Rattle.std.proofs.Common.{arith, ◌≡◌, ℕ, suc, ◌+◌, ◌-◌, ◌*◌, ◌<◌, ◌≤◌, Bool, true, false, ◌==◌, ◌||◌, List, [], ◌∷◌, ◌++◌, length, take, drop, inl, inr, refl, ap, sym, ◌∙◌, subst}
use Rattle.std.specs.Prelude.{get_or, replicate, slice_index}
use Rattle.std.specs.List.{position_or_len, before_first}
use Rattle.std.proofs.lemmas.Bool.{cases_lt}
use Rattle.std.proofs.lemmas.List.{same_lists, get_or-take, get_or-drop, get_or-replicate, get_or_append_left, get_or-append_right, length-replicate, length-append, length-take-le, length-drop, get_or_default}
use Rattle.apfs_model.specs.Bytes.{number_at, u16_at, u32_at, u64_at, part_at}
use Rattle.apfs_model.specs.Lists.{has}
use Rattle.apfs_model.proofs.BoolTests.{from-upto}
use Rattle.nx_block.specs.Super as nx
use Rattle.nx_ring.specs.Mappings.{map_count_of, mapping_at}
use Rattle.nx_ring.specs.declared.mappings.Mapping.{Mapping}
use Rattle.vol_view.specs.Fields as volumes
use Rattle.img_format.specs.declared.spec.Spec.{Spec}
use Rattle.img_format.specs.Valid.{IsValid}
use Rattle.img_format.specs.Tables.{size, Field, num, is_laid, object}
use Rattle.img_format.specs.Blocks.{super, checkpoint_map, volume}
use Rattle.img_format.specs.Blocks as blocks
use Rattle.fresh_law.specs.Facts.{IsSuper, IsMap, IsVolume}
use Rattle.fresh_law.proofs.Laid.{byte_in, number_from, all_fields, object-byte, object-number, object-length, byte-here, byte-after, byte-past, byte-skip, number-zero}
use Rattle.fresh_law.proofs.Parts.{bytes_from, object-part, told-bytes}
use Rattle.fresh_law.proofs.Says.{object-head, reads}

-- ---- the superblock
-- its fields, by the bytes of the identifier
abbrev super_fields : Spec → List ℕ → List Field
super_fields spec uuid =
    (32, num 4 0x4253584e)
    ∷ (36, num 4 4096)
    ∷ (40, num 8 spec.blocks)
    ∷ (64, num 8 2)
    ∷ (72, uuid)
    ∷ (88, num 8 1031)
    ∷ (96, num 8 2)
    ∷ (104, num 4 8)
    ∷ (108, num 4 16)
    ∷ (112, num 8 1)
    ∷ (120, num 8 9)
    ∷ (128, num 4 2)
    ∷ (132, num 4 4)
    ∷ (136, num 4 0)
    ∷ (140, num 4 2)
    ∷ (144, num 4 0)
    ∷ (148, num 4 4)
    ∷ (152, num 8 1024)
    ∷ (160, num 8 25)
    ∷ (168, num 8 1025)
    ∷ (184, num 8 1026)
    ∷ []

super-by : (spec : Spec) (c : ℕ → ℕ) → IsValid spec → IsSuper spec (object 1 0x80000001 0 (super_fields spec (bytes_from 16 c 0)))
unfolding nx.magic_of nx.block_size_of nx.block_count_of nx.incompat_of nx.desc_blocks_of nx.data_blocks_of nx.desc_base_of nx.data_base_of nx.desc_index_of nx.desc_len_of nx.space_oid_of nx.omap_oid_of nx.reaper_oid_of nx.fs_oid_of nx.blocked_of nx.eviction_of nx.jumpstart_of nx.locker_of nx.media_locker_of u32_at u64_at num
super-by spec c v =
    let fields : List Field = super_fields spec (bytes_from 16 c 0) in
    let bytes : List ℕ = object 1 0x80000001 0 fields in
    let look : ℕ → ℕ = byte_in (all_fields 1 0x80000001 0 fields) in
    let at : (n p : ℕ) → 8 ≤ p → p + n ≤ size → number_at n bytes p ≡ number_from n look p = λ n p a h. object-number n 1 0x80000001 0 p fields refl a h in
    let past : (p : ℕ) → 192 ≤ p → look p ≡ 0 = λ p h. byte-past (all_fields 1 0x80000001 0 fields) 192 8 p refl h in
    record {
      head = object-head 1 0x80000001 0 fields refl refl refl refl refl;
      magic = at 4 32 (omega arith) (omega arith);
      block_size = at 4 36 (omega arith) (omega arith);
      blocks = at 8 40 (omega arith) (omega arith) ∙ reads 8 spec.blocks (omega (arith, v.most));
      incompat = at 8 64 (omega arith) (omega arith);
      desc_blocks = at 4 104 (omega arith) (omega arith);
      data_blocks = at 4 108 (omega arith) (omega arith);
      desc_base = at 8 112 (omega arith) (omega arith);
      data_base = at 8 120 (omega arith) (omega arith);
      desc_index = at 4 136 (omega arith) (omega arith);
      desc_len = at 4 140 (omega arith) (omega arith);
      space = at 8 152 (omega arith) (omega arith);
      omap = at 8 160 (omega arith) (omega arith);
      reaper = at 8 168 (omega arith) (omega arith);
      first_volume = at 8 184 (omega arith) (omega arith);
      no_volume = λ slot low. at 8 (184 + 8 * (slot + 1)) (omega arith) (omega (arith, low)) ∙ number-zero 8 look (184 + 8 * (slot + 1)) (λ i l. past i (omega (arith, l)));
      blocked = two (number_at 8 bytes 1240) (number_at 8 bytes 1248) (at 8 1240 (omega arith) (omega arith)) (at 8 1248 (omega arith) (omega arith));
      eviction = at 8 1256 (omega arith) (omega arith);
      jumpstart = at 8 1272 (omega arith) (omega arith);
      locker = two (number_at 8 bytes 1296) (number_at 8 bytes 1304) (at 8 1296 (omega arith) (omega arith)) (at 8 1304 (omega arith) (omega arith));
      media_locker = two (number_at 8 bytes 1392) (number_at 8 bytes 1400) (at 8 1392 (omega arith) (omega arith)) (at 8 1400 (omega arith) (omega arith));
    }
  where
    two : (a b : ℕ) → a ≡ 0 → b ≡ 0 → ◌≡◌ {A = ℕ × ℕ} (a, b) (0, 0)
    two a b p q = cc

pub super-says : (spec : Spec) → IsValid spec → IsSuper spec (super spec)
unfolding super
super-says spec v =
    let same : spec.container ≡ bytes_from 16 (λ i. slice_index spec.container i) 0 = told-bytes 16 spec.container v.container in
    subst (λ (bs : List ℕ). IsSuper spec (object 1 0x80000001 0 (super_fields spec bs))) (sym same) (super-by spec (λ i. slice_index spec.container i) v)

-- ---- the checkpoint map
abbrev map_fields : List Field
map_fields =
    (36, num 4 4)
    ∷ (blocks.mapping 40 0x80000005 0 1024 9
    ++ (blocks.mapping 80 0x80000011 0 1025 10
    ++ (blocks.mapping 120 0x80000002 9 1029 11
    ++ blocks.mapping 160 0x80000002 9 1030 12)))

pub checkpoint_map-says : IsMap checkpoint_map
unfolding checkpoint_map map_count_of mapping_at u32_at u64_at num
checkpoint_map-says =
    let at : (n p : ℕ) → 8 ≤ p → p + n ≤ size → number_at n (object 1 0x4000000c 0 map_fields) p ≡ number_from n (byte_in (all_fields 1 0x4000000c 0 map_fields)) p = λ n p a h. object-number n 1 0x4000000c 0 p map_fields refl a h in
    record {
      head = object-head 1 0x4000000c 0 map_fields refl refl refl refl refl;
      count = at 4 36 (omega arith) (omega arith);
      space = four _ _ _ _ _ _ _ _ (at 4 40 (omega arith) (omega arith)) (at 4 48 (omega arith) (omega arith)) (at 8 64 (omega arith) (omega arith)) (at 8 72 (omega arith) (omega arith));
      reaper = four _ _ _ _ _ _ _ _ (at 4 80 (omega arith) (omega arith)) (at 4 88 (omega arith) (omega arith)) (at 8 104 (omega arith) (omega arith)) (at 8 112 (omega arith) (omega arith));
      pool_queue = four _ _ _ _ _ _ _ _ (at 4 120 (omega arith) (omega arith)) (at 4 128 (omega arith) (omega arith)) (at 8 144 (omega arith) (omega arith)) (at 8 152 (omega arith) (omega arith));
      main_queue = four _ _ _ _ _ _ _ _ (at 4 160 (omega arith) (omega arith)) (at 4 168 (omega arith) (omega arith)) (at 8 184 (omega arith) (omega arith)) (at 8 192 (omega arith) (omega arith));
    }
  where
    four : (a b c d a' b' c' d' : ℕ) → a ≡ a' → b ≡ b' → c ≡ c' → d ≡ d' → ◌≡◌ {A = Mapping} (record { type_bits = a; size = b; oid = c; paddr = d }) (record { type_bits = a'; size = b'; oid = c'; paddr = d' })
    four a b c d a' b' c' d' p q r s = cc

-- it has no superblock's magic
pub map-magic : nx.magic_of checkpoint_map ≡ 0
unfolding checkpoint_map nx.magic_of u32_at num
map-magic = object-number 4 1 0x4000000c 0 32 map_fields refl (omega arith) (omega arith)

-- ---- the superblock of the volume
-- its fields before the name, by the bytes of the identifier
abbrev volume_front : List ℕ → List Field
volume_front uuid =
    (32, num 4 0x42535041)
    ∷ (56, num 8 1)
    ∷ (116, num 4 2)
    ∷ (120, num 4 0x40000002)
    ∷ (124, num 4 0x40000002)
    ∷ (128, num 8 52)
    ∷ (136, num 8 1028)
    ∷ (144, num 8 55)
    ∷ (152, num 8 56)
    ∷ (240, uuid)
    ∷ (264, num 8 1)
    ∷ []

abbrev volume_fields : List ℕ → List ℕ → List Field
volume_fields uuid name = volume_front uuid ++ ((704, name) ∷ [])

-- what stands before the first zero of a name with zeros after it is the name
before-zeros : (name : List ℕ) (n : ℕ) → has name 0 ≡ false → before_first (λ b. b == 0) (name ++ replicate (suc n) 0) ≡ name
before-zeros [] n none = refl
before-zeros (b ∷ bs) n none =
    let first : (b == 0) ≡ false = neither-left (b == 0) (has bs 0) none in
    let rest : has bs 0 ≡ false = neither-right (b == 0) (has bs 0) none in
    let after : List ℕ = bs ++ replicate (suc n) 0 in
    let k : ℕ = position_or_len (λ b. b == 0) after in
    let more : 1 + k ≡ suc k = omega arith in
    rw first (ap (λ m. take m (b ∷ after)) more ∙ ap (λ (xs : List ℕ). b ∷ xs) (before-zeros bs n rest))
  where
    neither-left : (a b : Bool) → (a || b) ≡ false → a ≡ false
    neither-left true b e = e
    neither-left false b e = refl

    neither-right : (a b : Bool) → (a || b) ≡ false → b ≡ false
    neither-right true b e = absurd (let z : true ≡ false = e in let q : ⊥ = cc in q)
    neither-right false b e = e

-- the bytes of the name's field
name-byte : (uuid name : List ℕ) (p : ℕ) → length uuid ≡ 16 → 704 ≤ p → byte_in (all_fields 1026 0xd 0 (volume_fields uuid name)) p ≡ byte_in ((704, name) ∷ []) p
unfolding num
name-byte uuid name p l h = byte-skip (all_fields 1026 0xd 0 (volume_front uuid)) ((704, name) ∷ []) 704 8 p (rw l refl) h

name-part : (uuid name : List ℕ) → length uuid ≡ 16 → length name ≤ 255 → is_laid size 8 (all_fields 1026 0xd 0 (volume_fields uuid name)) ≡ true →
    part_at (object 1026 0xd 0 (volume_fields uuid name)) 704 256 ≡ name ++ replicate (256 - length name) 0
name-part uuid name u short e =
    let bytes : List ℕ = object 1026 0xd 0 (volume_fields uuid name) in
    let long : length bytes ≡ size = object-length 1026 0xd 0 (volume_fields uuid name) e in
    let zeros : List ℕ = replicate (256 - length name) 0 in
    let left : length (take 256 (drop 704 bytes)) ≡ 256 = length-take-le 256 (drop 704 bytes) (omega (arith, long, length-drop 704 bytes)) in
    let z : length zeros ≡ 256 - length name = length-replicate (256 - length name) 0 in
    let right : length (name ++ zeros) ≡ 256 = length-append name zeros ∙ omega (arith, short, z) in
    same_lists (take 256 (drop 704 bytes)) (name ++ zeros) (left ∙ sym right)
    (λ k d h.
    let low : k < 256 = omega (arith, h, left) in
    let here : get_or (take 256 (drop 704 bytes)) k 0 ≡ byte_in ((704, name) ∷ []) (704 + k) =
    get_or-take 256 (drop 704 bytes) k 0 low
    ∙ get_or-drop 704 bytes k 0
    ∙ object-byte 1026 0xd 0 (704 + k) (volume_fields uuid name) e (omega arith) (omega (arith, low))
    ∙ name-byte uuid name (704 + k) u (omega arith) in
    let there : byte_in ((704, name) ∷ []) (704 + k) ≡ get_or (name ++ zeros) k 0 = named name (256 - length name) k (omega (arith, low)) in
    get_or_default (take 256 (drop 704 bytes)) k d 0 h
    ∙ (here ∙ there)
    ∙ sym (get_or_default (name ++ zeros) k d 0 (omega (arith, right, low))))
  where
    named : (name : List ℕ) (n k : ℕ) → k < length name + n → byte_in ((704, name) ∷ []) (704 + k) ≡ get_or (name ++ replicate n 0) k 0
    named name n k h =
        elim (cases_lt k (length name)) as (λ _. byte_in ((704, name) ∷ []) (704 + k) ≡ get_or (name ++ replicate n 0) k 0) [
          | inl low ↦
              let i : (704 + k) - 704 ≡ k = omega arith in
              byte-here (704, name) [] (704 + k) (omega arith) (omega (arith, low))
              ∙ ap (λ j. slice_index name j) i
              ∙ sym (get_or_append_left name (replicate n 0) 0 k low)
          | inr high ↦
              byte-after (704, name) [] (704 + k) (omega arith) (omega (arith, high))
              ∙ sym (get_or-append_right name (replicate n 0) (length name) k 0 refl high ∙ get_or-replicate n (k - length name) 0 0 (omega (arith, h, high)))
        ]

volume-laid : (uuid name : List ℕ) (end : ℕ) → length uuid ≡ 16 → length name ≤ 255 → 960 ≤ end → is_laid end 8 (all_fields 1026 0xd 0 (volume_fields uuid name)) ≡ true
unfolding num
volume-laid uuid name end u short h = rw u (from-upto (704 + length name) end (omega (arith, short, h)))

volume-by : (spec : Spec) (c : ℕ → ℕ) → IsValid spec → spec.volume ≡ bytes_from 16 c 0 → IsVolume spec (object 1026 0xd 0 (volume_fields (bytes_from 16 c 0) spec.name))
unfolding volumes.magic_of volumes.incompat_of volumes.root_type_of volumes.extents_type_of volumes.snaps_type_of volumes.omap_oid_of volumes.root_oid_of volumes.extents_root_of volumes.snaps_root_of volumes.revert_to_of volumes.snapshots_of volumes.uuid_of volumes.flags_of volumes.name_of volumes.role_of volumes.rolling_of volumes.meta_ext_of volumes.integrity_of volumes.file_extents_of volumes.reserved_of u16_at u32_at u64_at num
volume-by spec c v same =
    let uuid : List ℕ = bytes_from 16 c 0 in
    let fields : List Field = volume_fields uuid spec.name in
    let bytes : List ℕ = object 1026 0xd 0 fields in
    let look : ℕ → ℕ = byte_in (all_fields 1026 0xd 0 fields) in
    let e : is_laid size 8 (all_fields 1026 0xd 0 fields) ≡ true = volume-laid uuid spec.name size refl v.name.short (omega arith) in
    let at : (n p : ℕ) → 8 ≤ p → p + n ≤ size → number_at n bytes p ≡ number_from n look p = λ n p a h. object-number n 1026 0xd 0 p fields e a h in
    let past : (p : ℕ) → 960 ≤ p → look p ≡ 0 = λ p h. byte-past (all_fields 1026 0xd 0 fields) 960 8 p (volume-laid uuid spec.name 960 refl v.name.short (omega arith)) h in
    let zero-at : (n p : ℕ) → 960 ≤ p → p + n ≤ size → number_at n bytes p ≡ 0 = λ n p a h. at n p (omega (arith, a)) h ∙ number-zero n look p (λ i l. past i (omega (arith, l, a))) in
    record {
      head = object-head 1026 0xd 0 fields e refl refl refl refl;
      magic = at 4 32 (omega arith) (omega arith);
      incompat = at 8 56 (omega arith) (omega arith);
      root_type = at 4 116 (omega arith) (omega arith);
      extents_type = at 4 120 (omega arith) (omega arith);
      snaps_type = at 4 124 (omega arith) (omega arith);
      omap = at 8 128 (omega arith) (omega arith);
      root = at 8 136 (omega arith) (omega arith);
      extents = at 8 144 (omega arith) (omega arith);
      snaps = at 8 152 (omega arith) (omega arith);
      revert = at 8 160 (omega arith) (omega arith);
      snapshots = at 8 216 (omega arith) (omega arith);
      uuid = object-part 16 1026 0xd 0 240 fields e (omega arith) (omega arith) ∙ sym same;
      flags = at 8 264 (omega arith) (omega arith);
      name = ap (λ (bs : List ℕ). before_first (λ b. b == 0) bs) (name-part uuid spec.name refl v.name.short e) ∙ ended spec.name (256 - length spec.name) (omega (arith, v.name.short)) v.name.zero_free;
      role = zero-at 2 964 (omega arith) (omega arith);
      rolling = zero-at 8 976 (omega arith) (omega arith);
      meta_ext = zero-at 8 1000 (omega arith) (omega arith);
      integrity = zero-at 8 1024 (omega arith) (omega arith);
      file_extents = zero-at 8 1032 (omega arith) (omega arith);
      reserved = zero-at 8 1048 (omega arith) (omega arith);
    }
  where
    ended : (name : List ℕ) (n : ℕ) → 1 ≤ n → has name 0 ≡ false → before_first (λ b. b == 0) (name ++ replicate n 0) ≡ name
    ended name n l none = let m : n ≡ suc (n - 1) = omega (arith, l) in ap (λ k. before_first (λ b. b == 0) (name ++ replicate k 0)) m ∙ before-zeros name (n - 1) none

pub volume-says : (spec : Spec) → IsValid spec → IsVolume spec (volume spec)
unfolding volume
volume-says spec v =
    let same : spec.volume ≡ bytes_from 16 (λ i. slice_index spec.volume i) 0 = told-bytes 16 spec.volume v.volume in
    subst (λ (bs : List ℕ). IsVolume spec (object 1026 0xd 0 (volume_fields bs spec.name))) (sym same) (volume-by spec (λ i. slice_index spec.volume i) v same)
