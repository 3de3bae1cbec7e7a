-- Where a checkpoint has maps, not every block of the descriptor area is a candidate.
use Rattle.std.proofs.Common.{◌≡◌, ℕ, zero, suc, ◌+◌, ◌-◌, ◌*◌, ◌≤◌, ◌<◌, Bool, true, false, List, length, Option, Some, None, Result, Ok, Err, is_ok, inl, inr, refl, ap, sym, subst, ◌∙◌, if◌then◌else◌, arith}
use Rattle.std.specs.List.{range_with_len, filter_map, cons_option}
use Rattle.std.proofs.lemmas.Grind.{common_steps}
use Rattle.std.proofs.lemmas.Bool.{cases_lt}
use Rattle.std.proofs.Math.Nat.{mul-le-mul_left}
use Rattle.std.proofs.Common.{mul_comm}
use Rattle.apfs_model.specs.Object.{container_kind, checkpoint_map_kind, kind_of}
use Rattle.obj_base.specs.declared.header.Header.{Header}
use Rattle.obj_base.specs.declared.header.HeadFault.{HeadFault}
use Rattle.obj_base.specs.declared.stop.Bad.{Bad}
use Rattle.obj_base.specs.declared.stop.Bad.TheVariants.{Found, Unsupported}
use Rattle.obj_base.specs.Sound.{sound_of, expecting, any_xid}
use Rattle.obj_base.proofs.SoundLemmas.{sound_means}
use Rattle.nx_block.specs.Read.{read_of, with_head}
use Rattle.nx_ring.specs.declared.areas.Areas.{Areas}
use Rattle.nx_ring.specs.declared.line.RingLine.{RingLine}
use Rattle.nx_ring.specs.Candidates.{is_candidate, candidate, candidate_in, all_candidates, ring_block}
use Rattle.nx_ring.specs.Mappings.{is_map}
use Rattle.nx_ring.specs.Valid.{index_after, is_map_after, has_maps, has_mappings, mappings_of, first_mappings, blocks_of, is_valid, are_apart}
use Rattle.nx_ring.specs.Reading.{loaded}
use Rattle.nx_ring.proofs.Few.{few_blocks}

head_sound : (bytes : List ℕ) (r : Result Header (Bad HeadFault)) → is_ok (with_head bytes r) ≡ true → is_ok r ≡ true
head_sound bytes (Ok h) e = refl
head_sound bytes (Err (Found f)) e = e
head_sound bytes (Err (Unsupported f)) e = e

super_sound : (bytes : List ℕ) → is_ok (read_of bytes) ≡ true → is_ok (sound_of bytes (expecting container_kind (Some 1) any_xid)) ≡ true
unfolding read_of
super_sound bytes e = head_sound bytes (sound_of bytes (expecting container_kind (Some 1) any_xid)) (Prim.grind (arith, common_steps, e))

map_sound : (block xid : ℕ) (bytes : List ℕ) → is_map block xid bytes ≡ true → is_ok (sound_of bytes (expecting checkpoint_map_kind (Some block) xid)) ≡ true
unfolding is_map
map_sound block xid bytes e = Prim.grind (arith, common_steps, e)

no_super : (block xid : ℕ) (bytes : List ℕ) (b : Bool) → is_ok (read_of bytes) ≡ b → is_map block xid bytes ≡ true → b ≡ false
no_super block xid bytes false e f = refl
no_super block xid bytes true e f =
    let super : kind_of bytes ≡ 1 = (sound_means bytes (expecting container_kind (Some 1) any_xid) (super_sound bytes e)).kind_right in
    let map : kind_of bytes ≡ 12 = (sound_means bytes (expecting checkpoint_map_kind (Some block) xid) (map_sound block xid bytes f)).kind_right in
    absurd (Prim.omega (arith, super, map))

-- a checkpoint map is no candidate
map_alone : (len : ℕ) (areas : Areas) (index block xid : ℕ) (bytes : List ℕ) → is_map block xid bytes ≡ true → candidate_in len areas index bytes ≡ None
unfolding candidate_in is_candidate
map_alone len areas index block xid bytes e = let no = no_super block xid bytes (is_ok (read_of bytes)) refl e in Prim.grind (arith, common_steps, no)

at_most : (f : ℕ → Option RingLine) (b n : ℕ) → length (filter_map f (range_with_len b n)) ≤ n
at_most f b zero = Prim.omega arith
at_most f b (suc n) =
    let rest : length (filter_map f (range_with_len (b + 1) n)) ≤ n = at_most f (b + 1) n in
    elim (f b) as (λ o. length (cons_option o (filter_map f (range_with_len (b + 1) n))) ≤ suc n) [ None ↦ Prim.omega (arith, rest) | Some y ↦ Prim.omega (arith, rest) ]

one_less : (f : ℕ → Option RingLine) (b n i : ℕ) → b ≤ i → i < b + n → f i ≡ None → length (filter_map f (range_with_len b n)) < n
one_less f b zero i low high e = absurd (Prim.omega (arith, low, high))
one_less f b (suc n) i low high e = elim (cases_lt b i) as (λ _. length (cons_option (f b) (filter_map f (range_with_len (b + 1) n))) < suc n) [
  | inl more ↦
      let rest : length (filter_map f (range_with_len (b + 1) n)) < n = one_less f (b + 1) n i (Prim.omega (arith, more)) (Prim.omega (arith, high)) e in
      elim (f b) as (λ o. length (cons_option o (filter_map f (range_with_len (b + 1) n))) < suc n) [ None ↦ Prim.omega (arith, rest) | Some y ↦ Prim.omega (arith, rest) ]
  | inr same ↦
      let here : f b ≡ None = ap f (Prim.omega (arith, low, same)) ∙ e in
      let rest : length (filter_map f (range_with_len (b + 1) n)) ≤ n = at_most f (b + 1) n in
      rw here (Prim.omega (arith, rest))
]

-- there are no more candidates than blocks
pub few_candidates : (image : List ℕ) (areas : Areas) → length (all_candidates image areas) ≤ areas.desc_blocks
unfolding all_candidates
few_candidates image areas = at_most (candidate image areas) 0 areas.desc_blocks

first_map : (image : List ℕ) (areas : Areas) (line : RingLine) (k : ℕ) → line.desc_len - 1 ≡ suc k → has_maps image areas line ≡ true → is_map_after image areas line 0 ≡ true
unfolding has_maps
first_map image areas line k e f = Prim.grind (arith, common_steps, rw e at f)

-- where a checkpoint has a map, some block is no candidate
map_there : (image : List ℕ) (areas : Areas) (line : RingLine) (k : ℕ) → 0 < areas.desc_blocks → line.desc_len - 1 ≡ suc k → has_maps image areas line ≡ true → length (all_candidates image areas) < areas.desc_blocks
unfolding all_candidates is_map_after index_after
map_there image areas line k some e f =
    let i = index_after areas line 0 in
    let low : i < areas.desc_blocks = Prim.omega (arith, some) in
    one_less (candidate image areas) 0 areas.desc_blocks i (Prim.omega arith) (Prim.omega (arith, low))
    (map_alone (length image) areas i (areas.desc_base + i) line.xid (ring_block image areas i) (first_map image areas line k e f))

abbrev all_blocks : List ℕ → Areas → RingLine → ℕ
all_blocks image areas line = length (blocks_of areas (mappings_of image areas line))

none_loaded : (image : List ℕ) (areas : Areas) (line : RingLine) → line.desc_len - 1 ≡ 0 → all_blocks image areas line ≡ 0
unfolding mappings_of
none_loaded image areas line e = ap (λ n. length (blocks_of areas (first_mappings image areas line n))) e

has_those : (image : List ℕ) (areas : Areas) (line : RingLine) → is_valid image areas line ≡ true → (has_maps image areas line ≡ true) × (are_apart areas (mappings_of image areas line) ≡ true)
unfolding is_valid has_mappings
has_those image areas line e = (Prim.grind (arith, common_steps, e), Prim.grind (arith, common_steps, e))

once : (m n : ℕ) → 0 < n → m ≤ n * m
once m n some = Prim.grind (arith, mul-le-mul_left m (some), mul_comm m n)

room : (image : List ℕ) (areas : Areas) (line : RingLine) (k : ℕ) → line.desc_len - 1 ≡ k → 0 < areas.data_blocks → 0 < areas.desc_blocks → is_valid image areas line ≡ true → all_blocks image areas line ≤ (areas.desc_blocks - length (all_candidates image areas)) * areas.data_blocks
room image areas line zero e some area v = let none = none_loaded image areas line e in rw none (Prim.omega arith)
room image areas line (suc k) e some area v =
    let those = has_those image areas line v in
    let less = map_there image areas line k area e those.0 in
    let few = few_blocks areas (mappings_of image areas line) some those.1 in
    let more = once areas.data_blocks (areas.desc_blocks - length (all_candidates image areas)) (Prim.omega (arith, less)) in
    Prim.omega (arith, few, more)

room_if : (image : List ℕ) (areas : Areas) (line : RingLine) (b : Bool) → is_valid image areas line ≡ b → 0 < areas.data_blocks → 0 < areas.desc_blocks → (if b then all_blocks image areas line else 0) ≤ (areas.desc_blocks - length (all_candidates image areas)) * areas.data_blocks
room_if image areas line true e some area = room image areas line (line.desc_len - 1) refl some area e
room_if image areas line false e some area = Prim.omega arith

-- a candidate has objects to load only where some block is no candidate
pub loaded_room : (image : List ℕ) (areas : Areas) (line : RingLine) → 0 < areas.data_blocks → 0 < areas.desc_blocks → loaded image areas line ≤ (areas.desc_blocks - length (all_candidates image areas)) * areas.data_blocks
loaded_room image areas line some area = room_if image areas line (is_valid image areas line) refl some area

spread : (i n k c loaded : ℕ) → i < n → loaded ≤ k * c → i * ((n + k) + c) + ((n + k) + c + loaded) ≤ (n + k) * ((n + k) + c)
spread i n k c loaded low few =
    let before : ((n + k) + c) * (i + 1) ≤ ((n + k) + c) * n = mul-le-mul_left ((n + k) + c) (Prim.omega (arith, low)) in
    let after : k * c ≤ k * ((n + k) + c) = mul-le-mul_left k (Prim.omega arith) in
    Prim.omega (arith, before, after, few)

-- the reads of i candidates that aren't valid and of one more, which may be loaded
pub reads_last : (image : List ℕ) (areas : Areas) (line : RingLine) (i n : ℕ) → 0 < areas.data_blocks → 0 < areas.desc_blocks → n ≡ length (all_candidates image areas) → i < n →
    i * (areas.desc_blocks + areas.data_blocks) + (areas.desc_blocks + areas.data_blocks + loaded image areas line) ≤ areas.desc_blocks * (areas.desc_blocks + areas.data_blocks)
reads_last image areas line i n some area e low =
    let k = areas.desc_blocks - n in
    let few = few_candidates image areas in
    let whole : n + k ≡ areas.desc_blocks = Prim.omega (arith, few, e) in
    let room : loaded image areas line ≤ k * areas.data_blocks = subst (λ m. loaded image areas line ≤ (areas.desc_blocks - m) * areas.data_blocks) (sym e) (loaded_room image areas line some area) in
    let P : ℕ → Type 0 = λ d. i * (d + areas.data_blocks) + (d + areas.data_blocks + loaded image areas line) ≤ d * (d + areas.data_blocks) in
    subst P whole (spread i n k areas.data_blocks (loaded image areas line) low room)

-- the reads of all candidates, none of which is valid
pub reads_none : (image : List ℕ) (areas : Areas) (i n : ℕ) → n ≡ length (all_candidates image areas) → i ≤ n → i * (areas.desc_blocks + areas.data_blocks) ≤ areas.desc_blocks * (areas.desc_blocks + areas.data_blocks)
reads_none image areas i n e low =
    let few = few_candidates image areas in
    let more : (areas.desc_blocks + areas.data_blocks) * i ≤ (areas.desc_blocks + areas.data_blocks) * areas.desc_blocks = mul-le-mul_left (areas.desc_blocks + areas.data_blocks) (Prim.omega (arith, few, e, low)) in
    Prim.omega (arith, more)
