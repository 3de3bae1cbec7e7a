-- What the blocks say, read in their tables: the first step, for some of them.
use Rattle.std.proofs.Common.{arith, ◌≡◌, ℕ, ◌+◌, ◌-◌, ◌*◌, ◌%◌, ◌<◌, ◌≤◌, ◌^◌, true, List, [], ◌∷◌, ◌++◌, length, refl, ap, sym, ◌∙◌}
use Rattle.std.specs.Prelude.{replicate}
use Rattle.std.proofs.lemmas.List.{append-nil}
use Rattle.byteorder.specs.Endian.{little_from}
use Rattle.byteorder.specs.Numbers.{little_number-reads_back}
use Rattle.apfs_model.specs.Bytes.{number_at, u16_at, u32_at, u64_at}
use Rattle.apfs_model.specs.Object.{sum_field, oid_of, xid_of, type_of, subtype_of}
use Rattle.apfs_model.specs.Sum.{stored_sum, sum_of}
use Rattle.obj_base.proofs.Numbers.{number_at_is}
use Rattle.img_edit.proofs.Sealed.{sum_past}
use Rattle.nx_block.specs.Reaper.{reaper_head_of, reaper_flags_of}
use Rattle.omap_map.specs.Fields.{snap_count_of, tree_of, snap_tree_of, revert_min_of, revert_max_of}
use Rattle.space_map.specs.Fields.{unit_of, chunk_blocks_of, cib_chunks_of, cab_cibs_of, blocks_of, chunks_of, cibs_of, cabs_of, free_of, addresses_of, second_blocks_of, pool_blocks_of, pool_bitmap_blocks_of, ring_blocks_of, ring_base_of, pool_base_of, pool_queue_of, main_queue_of, tier_queue_of, indexes_of}
use Rattle.space_map.specs.Blocks.{info_index_of, info_count_of}
use Rattle.space_map.specs.Chunks.{chunk_from}
use Rattle.space_map.specs.declared.chunk.Chunk.{Chunk}
use Rattle.space_pool.specs.Bits.{index_at}
use Rattle.img_format.specs.declared.spec.Spec.{Spec}
use Rattle.img_format.specs.Valid.{IsValid}
use Rattle.img_format.specs.Tables.{size, Field, num, laid, is_laid, sealed, object}
use Rattle.img_format.specs.Blocks.{reaper, object_map, space_manager, chunk_info}
use Rattle.fresh_law.specs.Facts.{HasHeader, IsReaper, IsObjectMap, IsManager, IsInfo}
use Rattle.fresh_law.proofs.Laid.{byte_in, number_from, all_fields, object-number, object-length}

-- a stored sum fits its 64 bits
sum-small : (a b : ℕ) → stored_sum a b < 256 ^ 8
unfolding stored_sum
sum-small a b = omega arith

-- the sum of an object is right
sealed-sum : (rest : List ℕ) → sum_field (sealed rest) ≡ sum_of (sealed rest)
unfolding sealed sum_field u64_at num sum_of
sealed-sum rest =
    let bare : List ℕ = replicate 8 0 ++ rest in
    let s : ℕ = sum_of bare in
    let low : s < 256 ^ 8 = sum-small _ _ in
    sym (number_at_is 8 (num 8 s ++ rest) 0)
    ∙ little_number-reads_back 8 s rest low
    ∙ sum_past bare (num 8 s ++ rest) refl same
  where
    same : length (replicate 8 0 ++ rest) ≡ length (num 8 (sum_of (replicate 8 0 ++ rest)) ++ rest)
    same = refl

pub object-head : (oid type subtype : ℕ) (fields : List Field) → is_laid size 8 (all_fields oid type subtype fields) ≡ true →
    number_from 8 (byte_in (all_fields oid type subtype fields)) 8 ≡ oid → number_from 8 (byte_in (all_fields oid type subtype fields)) 16 ≡ 1 →
    number_from 4 (byte_in (all_fields oid type subtype fields)) 24 ≡ type → number_from 4 (byte_in (all_fields oid type subtype fields)) 28 ≡ subtype →
    HasHeader oid type subtype (object oid type subtype fields)
unfolding oid_of xid_of type_of subtype_of u32_at u64_at
object-head oid type subtype fields e o x t s = record {
  long = object-length oid type subtype fields e;
  sum = object-sum;
  oid_is = object-number 8 oid type subtype 8 fields e (omega arith) (omega arith) ∙ o;
  xid_is = object-number 8 oid type subtype 16 fields e (omega arith) (omega arith) ∙ x;
  type_is = object-number 4 oid type subtype 24 fields e (omega arith) (omega arith) ∙ t;
  subtype_is = object-number 4 oid type subtype 28 fields e (omega arith) (omega arith) ∙ s;
}
  where
    object-sum : sum_field (object oid type subtype fields) ≡ sum_of (object oid type subtype fields)
    object-sum = unfold object in sealed-sum (laid size 8 (all_fields oid type subtype fields))

-- the reaper
pub reaper-says : IsReaper reaper
unfolding reaper reaper_head_of reaper_flags_of u32_at u64_at num
reaper-says = record {
  head = object-head 1025 0x80000011 0 [] refl refl refl refl refl;
  first = object-number 8 1025 0x80000011 0 48 [] refl (omega arith) (omega arith);
  flags = object-number 4 1025 0x80000011 0 64 [] refl (omega arith) (omega arith);
}

-- an object map
abbrev map_fields : ℕ → List Field
map_fields tree = (40, num 4 0x40000002) ∷ (44, num 4 0x40000002) ∷ (48, num 8 tree) ∷ []

pub container_map-says : IsObjectMap 25 26 (object_map 25 26)
unfolding object_map snap_count_of tree_of snap_tree_of revert_min_of revert_max_of u32_at u64_at num
container_map-says =
    let at : (n p : ℕ) → 8 ≤ p → p + n ≤ size → number_at n (object 25 0x4000000b 0 (map_fields 26)) p ≡ number_from n (byte_in (all_fields 25 0x4000000b 0 (map_fields 26))) p = λ n p a h. object-number n 25 0x4000000b 0 p (map_fields 26) refl a h in
    record {
      head = object-head 25 0x4000000b 0 (map_fields 26) refl refl refl refl refl;
      count = at 4 36 (omega arith) (omega arith);
      tree_is = at 8 48 (omega arith) (omega arith);
      snap_tree = at 8 56 (omega arith) (omega arith);
      least = at 8 72 (omega arith) (omega arith);
      greatest = at 8 80 (omega arith) (omega arith);
    }

pub volume_map-says : IsObjectMap 52 53 (object_map 52 53)
unfolding object_map snap_count_of tree_of snap_tree_of revert_min_of revert_max_of u32_at u64_at num
volume_map-says =
    let at : (n p : ℕ) → 8 ≤ p → p + n ≤ size → number_at n (object 52 0x4000000b 0 (map_fields 53)) p ≡ number_from n (byte_in (all_fields 52 0x4000000b 0 (map_fields 53))) p = λ n p a h. object-number n 52 0x4000000b 0 p (map_fields 53) refl a h in
    record {
      head = object-head 52 0x4000000b 0 (map_fields 53) refl refl refl refl refl;
      count = at 4 36 (omega arith) (omega arith);
      tree_is = at 8 48 (omega arith) (omega arith);
      snap_tree = at 8 56 (omega arith) (omega arith);
      least = at 8 72 (omega arith) (omega arith);
      greatest = at 8 80 (omega arith) (omega arith);
    }

-- a number that was written is read
pub reads : (n x : ℕ) → x < 256 ^ n → little_from 0 n (num n x) ≡ x
unfolding num
reads n x low = ap (λ bs. little_from 0 n bs) (sym (append-nil (num n x))) ∙ little_number-reads_back n x [] low

-- the space manager
abbrev manager_fields : Spec → List Field
manager_fields spec =
    (32, num 4 4096)
    ∷ (36, num 4 32768)
    ∷ (40, num 4 126)
    ∷ (44, num 4 507)
    ∷ (48, num 8 spec.blocks)
    ∷ (56, num 8 1)
    ∷ (64, num 4 1)
    ∷ (68, num 4 0)
    ∷ (72, num 8 (spec.blocks - 57))
    ∷ (80, num 4 2528)
    ∷ (152, num 8 8)
    ∷ (160, num 4 1)
    ∷ (164, num 4 16)
    ∷ (168, num 8 27)
    ∷ (176, num 8 43)
    ∷ (208, num 8 1029)
    ∷ (248, num 8 1030)
    ∷ (328, num 4 2520)
    ∷ (2520, num 2 0)
    ∷ (2528, num 8 43)
    ∷ []

pub manager-says : (spec : Spec) → IsValid spec → IsManager spec (space_manager spec)
unfolding space_manager unit_of chunk_blocks_of cib_chunks_of cab_cibs_of blocks_of chunks_of cibs_of cabs_of free_of addresses_of second_blocks_of pool_blocks_of pool_bitmap_blocks_of ring_blocks_of ring_base_of pool_base_of pool_queue_of main_queue_of tier_queue_of indexes_of index_at u16_at u32_at u64_at num
manager-says spec v =
    let fields = manager_fields spec in
    let at : (n p : ℕ) → 8 ≤ p → p + n ≤ size → number_at n (object 1024 0x80000005 0 fields) p ≡ number_from n (byte_in (all_fields 1024 0x80000005 0 fields)) p = λ n p a h. object-number n 1024 0x80000005 0 p fields refl a h in
    record {
      head = object-head 1024 0x80000005 0 fields refl refl refl refl refl;
      unit = at 4 32 (omega arith) (omega arith);
      chunk_blocks = at 4 36 (omega arith) (omega arith);
      cib_chunks = at 4 40 (omega arith) (omega arith);
      cab_cibs = at 4 44 (omega arith) (omega arith);
      blocks = at 8 48 (omega arith) (omega arith) ∙ reads 8 spec.blocks (omega (arith, v.most));
      chunks = at 8 56 (omega arith) (omega arith);
      cibs = at 4 64 (omega arith) (omega arith);
      cabs = at 4 68 (omega arith) (omega arith);
      free = at 8 72 (omega arith) (omega arith) ∙ reads 8 (spec.blocks - 57) (omega (arith, v.most));
      addresses = at 4 80 (omega arith) (omega arith);
      second = at 8 96 (omega arith) (omega arith);
      pool_blocks = at 8 152 (omega arith) (omega arith);
      bitmap_blocks = at 4 160 (omega arith) (omega arith);
      ring_blocks = at 4 164 (omega arith) (omega arith);
      ring_base = at 8 168 (omega arith) (omega arith);
      pool_base = at 8 176 (omega arith) (omega arith);
      pool_queue = at 8 208 (omega arith) (omega arith);
      main_queue = at 8 248 (omega arith) (omega arith);
      tier_queue = at 8 288 (omega arith) (omega arith);
      indexes = at 4 328 (omega arith) (omega arith);
      address = at 8 2528 (omega arith) (omega arith);
      index = ap (λ i. number_at 2 (object 1024 0x80000005 0 fields) (i + 2 * 0)) (at 4 328 (omega arith) (omega arith)) ∙ at 2 2520 (omega arith) (omega arith);
    }

-- the chunk-info block
abbrev info_fields : Spec → List Field
info_fields spec =
    (32, num 4 0)
    ∷ (36, num 4 1)
    ∷ (48, num 8 0)
    ∷ (56, num 4 spec.blocks)
    ∷ (60, num 4 (spec.blocks - 57))
    ∷ (64, num 8 44)
    ∷ []

pub chunk_info-says : (spec : Spec) → IsValid spec → IsInfo spec (chunk_info spec)
unfolding chunk_info info_index_of info_count_of chunk_from u32_at u64_at num
chunk_info-says spec v =
    let fields = info_fields spec in
    let at : (n p : ℕ) → 8 ≤ p → p + n ≤ size → number_at n (object 43 0x40000007 0 fields) p ≡ number_from n (byte_in (all_fields 43 0x40000007 0 fields)) p = λ n p a h. object-number n 43 0x40000007 0 p fields refl a h in
    let all : number_at 4 (object 43 0x40000007 0 fields) 56 ≡ spec.blocks = at 4 56 (omega arith) (omega arith) ∙ reads 4 spec.blocks (omega (arith, v.most)) in
    let low : spec.blocks % 2 ^ 20 ≡ spec.blocks = omega (arith, v.most) in
    record {
      head = object-head 43 0x40000007 0 fields refl refl refl refl refl;
      index = at 4 32 (omega arith) (omega arith);
      count = at 4 36 (omega arith) (omega arith);
      chunk_is = four _ _ _ _ _ _ _ _ (at 8 48 (omega arith) (omega arith)) (ap (λ n. n % 2 ^ 20) all ∙ low) (at 4 60 (omega arith) (omega arith) ∙ reads 4 (spec.blocks - 57) (omega (arith, v.most))) (at 8 64 (omega arith) (omega arith));
    }
  where
    four : (a b c d a' b' c' d' : ℕ) → a ≡ a' → b ≡ b' → c ≡ c' → d ≡ d' → ◌≡◌ {A = Chunk} (record { first = a; blocks = b; free = c; bitmap = d }) (record { first = a'; blocks = b'; free = c'; bitmap = d' })
    four a b c d a' b' c' d' p q r s = cc
