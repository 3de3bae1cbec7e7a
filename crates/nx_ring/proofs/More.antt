-- One more candidate.
use Rattle.std.proofs.Common.{◌≡◌, ℕ, ◌+◌, List, [], ◌∷◌, ◌++◌, Option, Some, None, refl, ap, sym, ◌∙◌, arith}
use Rattle.std.specs.Option.{option_to_list}
use Rattle.std.specs.List.{range_with_len, filter_map, cons_option}
use Rattle.std.proofs.lemmas.List.Elements.{filter_map-append}
use Rattle.std.proofs.lemmas.List.{map-id}
use Rattle.std.proofs.lemmas.List.FromFn.{map-range_with_len_more}
use Rattle.std.proofs.Common.{map, append_assoc, append-nil}
use Rattle.std.specs.List.{flat_map}
use Rattle.std.proofs.lemmas.Grind.{flat_map-append}
use Rattle.std.proofs.lemmas.List.Concat.{flat_map-cons}
use Rattle.apfs_model.specs.Blocks.{block_of}
use Rattle.nx_ring.specs.declared.mappings.Mapping.{Mapping}
use Rattle.std.proofs.Common.{false, ◌&&◌, ◌<◌, ◌≤◌, length, take, get_or, length-append}
use Rattle.std.proofs.lemmas.List.{take_more, map-append}
use Rattle.std.proofs.lemmas.List.FromFn.{length-map-range_with_len}
use Rattle.std.proofs.lemmas.List.Folds.{length-flat_map-take}
use Rattle.std.specs.List.{list_all}
use Rattle.apfs_model.proofs.Ranges.{all_more, all_fails}
use Rattle.nx_ring.specs.declared.line.RingLine.{RingLine}
use Rattle.nx_ring.specs.Valid.{first_mappings, map_block, is_map_after, ids_of, blocks_of}
use Rattle.nx_ring.specs.Mappings.{mapping_of_map, mappings_in}
use Rattle.nx_ring.specs.Objects.{mapped_part, data_block, first_blocks, mapped_blocks, object_blocks, place_at}
use Rattle.nx_ring.specs.declared.areas.Areas.{Areas}
use Rattle.nx_ring.specs.Candidates.{candidate, candidates}

-- a range of one more
pub range_more : (n : ℕ) → range_with_len 0 (n + 1) ≡ range_with_len 0 n ++ n ∷ []
range_more n = sym (map-id (range_with_len 0 (n + 1))) ∙ (map-range_with_len_more (λ (i : ℕ). i) 0 n n (omega arith) ∙ ap (λ xs. xs ++ n ∷ []) (map-id (range_with_len 0 n)))

one : {X Y : Type 0} (f : X → Option Y) (x : X) → filter_map f (x ∷ []) ≡ option_to_list (f x)
one f x = elim (f x) as (λ v. cons_option v [] ≡ option_to_list v) [ None ↦ refl | Some y ↦ refl ]

pub candidates_more : (image : List ℕ) (areas : Areas) (n : ℕ) → candidates image areas (n + 1) ≡ candidates image areas n ++ option_to_list (candidate image areas n)
candidates_more image areas n =
    ap (filter_map (candidate image areas)) (range_more n)
    ∙ (filter_map-append (candidate image areas) (range_with_len 0 n) (n ∷ []) ∙ ap (λ ys. candidates image areas n ++ ys) (one (candidate image areas) n))

-- one more mapping of a map
pub mappings_more : (bytes : List ℕ) (front : List Mapping) (n : ℕ) → front ++ map (mapping_of_map bytes) (range_with_len 0 (n + 1)) ≡ (front ++ map (mapping_of_map bytes) (range_with_len 0 n)) ++ mapping_of_map bytes n ∷ []
mappings_more bytes front n =
    ap (λ xs. front ++ xs) (map-range_with_len_more (mapping_of_map bytes) 0 n n (omega arith))
    ∙ sym (append_assoc front (map (mapping_of_map bytes) (range_with_len 0 n)) (mapping_of_map bytes n ∷ []))

-- a flat_map over a range of one more
pub flat_more : {X : Type 0} (f : ℕ → List X) (n : ℕ) → flat_map f (range_with_len 0 (n + 1)) ≡ flat_map f (range_with_len 0 n) ++ f n
flat_more f n =
    ap (flat_map f) (range_more n)
    ∙ (flat_map-append f (range_with_len 0 n) (n ∷ [])
    ∙ ap (λ xs. flat_map f (range_with_len 0 n) ++ xs) (flat_map-cons f n [] ∙ append-nil (f n)))

-- one more block of a mapped object
pub part_more : (image : List ℕ) (areas : Areas) (m : Mapping) (n : ℕ) → mapped_part image areas m (n + 1) ≡ mapped_part image areas m n ++ block_of areas.size image (data_block areas m.paddr n)
part_more image areas m n = flat_more (λ t. block_of areas.size image (data_block areas m.paddr t)) n

-- the mappings of one more map
pub first_more : (image : List ℕ) (areas : Areas) (line : RingLine) (n : ℕ) → first_mappings image areas line (n + 1) ≡ first_mappings image areas line n ++ mappings_in (map_block image areas line n)
first_more image areas line n = flat_more (λ j. mappings_in (map_block image areas line j)) n

-- one more sound map
pub maps_more : (image : List ℕ) (areas : Areas) (line : RingLine) (n : ℕ) → list_all (is_map_after image areas line) (range_with_len 0 (n + 1)) ≡ (list_all (is_map_after image areas line) (range_with_len 0 n) && is_map_after image areas line n)
maps_more image areas line n = all_more (is_map_after image areas line) n

-- one map that isn't sound
pub maps_fail : (image : List ℕ) (areas : Areas) (line : RingLine) (n i : ℕ) → i < n → is_map_after image areas line i ≡ false → list_all (is_map_after image areas line) (range_with_len 0 n) ≡ false
maps_fail image areas line n i low e = all_fails (is_map_after image areas line) n i low e

-- one more oid
pub ids_more : (mappings : List Mapping) (i : ℕ) (d : Mapping) → i < length mappings → ids_of (take (i + 1) mappings) ≡ ids_of (take i mappings) ++ (get_or mappings i d).oid ∷ []
ids_more mappings i d low = ap ids_of (take_more mappings i d low) ∙ map-append (λ (m : Mapping). m.oid) (take i mappings) (get_or mappings i d ∷ [])

-- one more block of a mapping
pub object_more : (areas : Areas) (m : Mapping) (front : List ℕ) (n : ℕ) → front ++ first_blocks areas m (n + 1) ≡ (front ++ first_blocks areas m n) ++ data_block areas m.paddr n ∷ []
object_more areas m front n =
    ap (λ xs. front ++ xs) (map-range_with_len_more (data_block areas m.paddr) 0 n n (omega arith))
    ∙ sym (append_assoc front (first_blocks areas m n) (data_block areas m.paddr n ∷ []))

-- the blocks of one more mapping
pub blocks_more : (areas : Areas) (mappings : List Mapping) (i : ℕ) (d : Mapping) → i < length mappings → blocks_of areas (take (i + 1) mappings) ≡ blocks_of areas (take i mappings) ++ mapped_blocks areas (get_or mappings i d)
blocks_more areas mappings i d low =
    ap (blocks_of areas) (take_more mappings i d low)
    ∙ (flat_map-append (mapped_blocks areas) (take i mappings) (get_or mappings i d ∷ [])
    ∙ ap (λ xs. blocks_of areas (take i mappings) ++ xs) (flat_map-cons (mapped_blocks areas) (get_or mappings i d) [] ∙ append-nil (mapped_blocks areas (get_or mappings i d))))

-- how many blocks one more mapping adds
pub blocks_length : (areas : Areas) (mappings : List Mapping) (i : ℕ) (d : Mapping) → i < length mappings → length (blocks_of areas (take (i + 1) mappings)) ≡ length (blocks_of areas (take i mappings)) + object_blocks areas (get_or mappings i d)
blocks_length areas mappings i d low =
    ap length (blocks_more areas mappings i d low)
    ∙ (length-append (blocks_of areas (take i mappings)) (mapped_blocks areas (get_or mappings i d))
    ∙ ap (λ n. length (blocks_of areas (take i mappings)) + n) (length-map-range_with_len (data_block areas (get_or mappings i d).paddr) 0 (object_blocks areas (get_or mappings i d))))

-- the blocks of some mappings and the next are no more than those of all
pub blocks_part : (areas : Areas) (mappings : List Mapping) (i : ℕ) (d : Mapping) → i < length mappings → length (blocks_of areas (take i mappings)) + object_blocks areas (get_or mappings i d) ≤ length (blocks_of areas mappings)
blocks_part areas mappings i d low =
    let part = length-flat_map-take (mapped_blocks areas) mappings i d low in
    let long = length-map-range_with_len (data_block areas (get_or mappings i d).paddr) 0 (object_blocks areas (get_or mappings i d)) in
    omega arith

-- one more object
pub places_more : (image : List ℕ) (areas : Areas) (mappings : List Mapping) (i : ℕ) (d : Mapping) → i < length mappings → map (place_at image areas) (take (i + 1) mappings) ≡ map (place_at image areas) (take i mappings) ++ place_at image areas (get_or mappings i d) ∷ []
places_more image areas mappings i d low = ap (map (place_at image areas)) (take_more mappings i d low) ∙ map-append (place_at image areas) (take i mappings) (get_or mappings i d ∷ [])
