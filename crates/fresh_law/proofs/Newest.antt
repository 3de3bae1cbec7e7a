-- The newest checkpoint is the one in block 2.
use Rattle.std.proofs.Common.{arith, ◌≡◌, ℕ, ◌+◌, ◌-◌, ◌*◌, ◌/◌, ◌%◌, ◌<◌, ◌≤◌, true, false, ◌&&◌, ◌==◌, nat_lt, nat_le, List, [], ◌∷◌, ◌++◌, length, map, Option, Some, None, Result, Ok, Err, is_ok, refl, ap, sym, ◌∙◌, subst, if◌then◌else◌}
use Rattle.std.proofs.lemmas.Grind.{common_steps}
use Rattle.std.specs.Prelude.{filter, filter_map, option_map}
use Rattle.std.specs.List.{range_with_len}
use Rattle.apfs_model.specs.Blocks.{block_of}
use Rattle.apfs_model.specs.Lists.{greatest}
use Rattle.apfs_model.specs.Object.{container_kind, checkpoint_map_kind, kind_in}
use Rattle.apfs_model.proofs.BoolTests.{both-true}
use Rattle.obj_base.specs.Sound.{sound_of, expecting, any_xid}
use Rattle.obj_base.specs.declared.header.Header.{Header}
use Rattle.obj_base.specs.declared.header.HeadFault.{HeadFault}
use Rattle.obj_base.specs.declared.stop.Bad.{Bad}
use Rattle.nx_block.specs.Read.{size_of, with_head, read_of}
use Rattle.nx_ring.specs.declared.areas.Areas.{Areas}
use Rattle.nx_ring.specs.declared.line.RingLine.{RingLine}
use Rattle.nx_ring.specs.declared.mappings.Mapping.{Mapping}
use Rattle.nx_ring.specs.Zero.{size_in, zero_of, areas_of, is_area, has_areas, has_zero, is_whole, is_right, is_short, is_contiguous, where_whole, after_zero}
use Rattle.nx_ring.specs.Candidates.{has_areas_of, is_candidate, ring_block, candidate_in, candidate, all_candidates}
use Rattle.nx_ring.specs.Mappings.{mappings_in, has_count, is_map}
use Rattle.nx_ring.specs.Objects.{Place, data_block, mapped_bytes, is_placed, is_mapped, has_object, place_at}
use Rattle.nx_ring.specs.Valid.{index_after, ends_here, is_map_after, has_maps, mappings_of, are_placed, have_objects, have_ids_once, have_blocks_once, are_apart, has_mappings, is_valid}
use Rattle.nx_ring.specs.Newest.{newest_line, skipped_of, seen_of, checkpoint_of, checkpoint_or, newest_of}
use Rattle.nx_ring.specs.Checkpoint.{Seen}
use Rattle.obj_base.specs.declared.stop.Stop.{Stop}
use Rattle.obj_base.specs.declared.stop.Stop.TheVariants.{Found}
use Rattle.nx_ring.specs.declared.fault.RingFault.{RingFault}
use Rattle.nx_ring.specs.declared.fault.RingFault.TheVariants.{BlockZero}
use Rattle.img_format.specs.declared.spec.Spec.{Spec}
use Rattle.img_format.specs.Valid.{IsValid}
use Rattle.fresh_law.specs.Site.{block_at}
use Rattle.fresh_law.specs.Checkpoint.{areas, line, place, seen}
use Rattle.fresh_law.specs.Facts.{IsSuper, mapping, IsFresh}
use Rattle.fresh_law.proofs.Heads.{head-sound}

-- ---- the superblock
headed : (bytes : List ℕ) (r : Result Header (Bad HeadFault)) → is_ok r ≡ true → with_head bytes r ≡ Ok bytes
headed bytes (Ok h) e = refl
headed bytes (Err bad) e = absurd (let z : false ≡ true = e in let q : ⊥ = cc in q)

read-super : (spec : Spec) (bytes : List ℕ) → IsSuper spec bytes → read_of bytes ≡ Ok bytes
unfolding read_of
read-super spec bytes s =
    rw (s.magic, s.block_size, s.head.long)
    (headed bytes _ (head-sound 1 0x80000001 0 container_kind any_xid bytes s.head refl refl refl (omega arith)))

areas-by : (a b c d e : ℕ) → a ≡ 4096 → b ≡ 1 → c ≡ 8 → d ≡ 9 → e ≡ 16 → ◌≡◌ {A = Areas} (record { size = a; desc_base = b; desc_blocks = c; data_base = d; data_blocks = e }) areas
areas-by a b c d e p q r s t = cc

super-areas : (spec : Spec) (bytes : List ℕ) → IsSuper spec bytes → areas_of bytes ≡ areas
unfolding areas_of
super-areas spec bytes s = areas-by _ _ _ _ _ s.block_size s.desc_base s.desc_blocks s.data_base s.data_blocks

-- ---- block 0
zero-is : (spec : Spec) (image : List ℕ) → IsFresh spec image → zero_of image ≡ block_at image 0
unfolding zero_of size_in
zero-is spec image f = ap (λ n. block_of n image 0) f.zero_block.block_size

in-areas : (spec : Spec) (bytes : List ℕ) → IsValid spec → IsSuper spec bytes → has_areas bytes ≡ true
unfolding has_areas is_area
in-areas spec bytes v s = rw (s.desc_base, s.desc_blocks, s.data_base, s.data_blocks, s.blocks) (Prim.grind (arith, common_steps, v.least))

long-enough : (spec : Spec) (image : List ℕ) → IsValid spec → IsFresh spec image → nat_le 4096 (length image) ≡ true
long-enough spec image v f = Prim.grind (arith, common_steps, v.least, f.long)

zero-there : (spec : Spec) (image : List ℕ) → IsValid spec → IsFresh spec image → has_zero image ≡ true
unfolding has_zero size_in size_of
zero-there spec image v f =
    let z = f.zero_block in
    rw (z.magic, z.block_size, long-enough spec image v f)

right : (spec : Spec) (image : List ℕ) → IsValid spec → IsFresh spec image → is_right image ≡ true
unfolding is_right is_whole
right spec image v f =
    both-true (has_zero image) _ (zero-there spec image v f)
    (subst (λ z. (is_ok (read_of z) && has_areas z) ≡ true) (sym (zero-is spec image f))
    (both-true (is_ok (read_of (block_at image 0))) _ (ap is_ok (read-super spec (block_at image 0) f.zero_block)) (in-areas spec (block_at image 0) v f.zero_block)))

whole : (spec : Spec) (image : List ℕ) → IsFresh spec image → is_short (length image) (block_at image 0) ≡ false
unfolding is_short
whole spec image f = rw (f.zero_block.block_size, f.zero_block.blocks, f.long) (same spec.blocks)
  where
    same : (n : ℕ) → nat_lt ((4096 * n) / 4096) n ≡ false
    same n = let e : (4096 * n) / 4096 ≡ n = omega arith in rw e (Prim.grind (arith, common_steps))

contiguous : (spec : Spec) (bytes : List ℕ) → IsSuper spec bytes → is_contiguous bytes ≡ true
unfolding is_contiguous
contiguous spec bytes s = rw (s.desc_blocks, s.data_blocks)

passed : {T : Type 0} (spec : Spec) (image : List ℕ) (x : Result T (Stop RingFault)) → IsValid spec → IsFresh spec image → after_zero image x ≡ x
unfolding after_zero where_whole
passed spec image x v f =
    ap (λ b. if b then where_whole (length image) (zero_of image) x else Err (Found BlockZero)) (right spec image v f)
    ∙ ap (λ z. where_whole (length image) z x) (zero-is spec image f)
    ∙ rw (whole spec image f, contiguous spec (block_at image 0) f.zero_block)

-- ---- the candidates
no-candidate : (spec : Spec) (image : List ℕ) → IsFresh spec image → (i : ℕ) → i < 8 → (i == 1) ≡ false → candidate image areas i ≡ None
unfolding ring_block candidate_in is_candidate
no-candidate spec image f i low other = rw (f.others i low other)

line-by : (x d l : ℕ) → x ≡ 1 → d ≡ 0 → l ≡ 2 → ◌≡◌ {A = RingLine} (record { index = 1; block = 2; xid = x; desc_index = d; desc_len = l }) line
line-by x d l p q r = cc

one-candidate : (spec : Spec) (image : List ℕ) → IsFresh spec image → candidate image areas 1 ≡ Some line
unfolding ring_block candidate_in is_candidate has_areas_of
one-candidate spec image f =
    let n = f.newest in
    rw (read-super spec (block_at image 2) n, n.block_size, n.desc_base, n.desc_blocks, n.data_base, n.data_blocks, n.blocks, f.long, enough spec.blocks)
    (ap Some (line-by _ _ _ n.head.xid_is n.desc_index n.desc_len))
  where
    enough : (n : ℕ) → nat_le (n * 4096) (4096 * n) ≡ true
    enough n = Prim.grind (arith, common_steps)

all-are : (spec : Spec) (image : List ℕ) → IsFresh spec image → all_candidates image areas ≡ line ∷ []
unfolding all_candidates
all-are spec image f =
    let none : (i : ℕ) → i < 8 → (i == 1) ≡ false → candidate image areas i ≡ None = no-candidate spec image f in
    listed (candidate image areas) line (none 0 (omega arith) refl) (one-candidate spec image f) (none 2 (omega arith) refl) (none 3 (omega arith) refl) (none 4 (omega arith) refl) (none 5 (omega arith) refl) (none 6 (omega arith) refl) (none 7 (omega arith) refl)
  where
    listed : (c : ℕ → Option RingLine) (l : RingLine) → c 0 ≡ None → c 1 ≡ Some l → c 2 ≡ None → c 3 ≡ None → c 4 ≡ None → c 5 ≡ None → c 6 ≡ None → c 7 ≡ None → filter_map c (range_with_len 0 8) ≡ l ∷ []
    listed c l c0 c1 c2 c3 c4 c5 c6 c7 = rw (c0, c1, c2, c3, c4, c5, c6, c7)

-- ---- its mappings
abbrev mappings : List Mapping
mappings = mapping 0x80000005 1024 9 ∷ mapping 0x80000011 1025 10 ∷ mapping 0x80000002 1029 11 ∷ mapping 0x80000002 1030 12 ∷ []

append-none : {X : Type 0} (xs : List X) → xs ++ [] ≡ xs
append-none [] = refl
append-none (x ∷ xs) = ap (λ ys. x ∷ ys) (append-none xs)

mappings-are : (spec : Spec) (image : List ℕ) → IsFresh spec image → mappings_of image areas line ≡ mappings
unfolding mappings_of ring_block index_after
mappings-are spec image f = append-none (mappings_in (block_at image 1)) ∙ (let m = f.checkpoint_map in rw (m.count, m.space, m.reaper, m.pool_queue, m.main_queue))

maps-there : (spec : Spec) (image : List ℕ) → IsFresh spec image → has_maps image areas line ≡ true
unfolding has_maps is_map_after ring_block index_after is_map has_count
maps-there spec image f =
    let m = f.checkpoint_map in
    rw (head-sound 1 0x4000000c 0 checkpoint_map_kind 1 (block_at image 1) m.head refl refl refl (omega arith), m.count, m.head.long)

ends : ends_here areas line ≡ true
unfolding ends_here index_after
ends = refl

apart : are_apart areas mappings ≡ true
unfolding are_apart are_placed is_placed have_ids_once have_blocks_once data_block
apart = refl

-- a mapped object of one block
bytes-are : (image : List ℕ) (type oid block : ℕ) → 9 ≤ block → block < 25 → mapped_bytes image areas (mapping type oid block) ≡ block_at image block
unfolding data_block
bytes-are image type oid block l h =
    append-none (block_of 4096 image (9 + ((block - 9) + 0) % 16)) ∙ ap (λ k. block_of 4096 image k) (omega (arith, l, h))

object-there : (image : List ℕ) (type subtype oid block kind : ℕ) → 9 ≤ block → block < 25 → is_ok (sound_of (block_at image block) (expecting (kind_in type) (Some oid) 1)) ≡ true → has_object image areas 1 (mapping type oid block) ≡ true
unfolding is_mapped
object-there image type subtype oid block kind l h e = ap (λ b. is_ok (sound_of b (expecting (kind_in type) (Some oid) 1))) (bytes-are image type oid block l h) ∙ e

objects-there : (spec : Spec) (image : List ℕ) → IsFresh spec image → have_objects image areas 1 mappings ≡ true
unfolding have_objects
objects-there spec image f =
    both-true _ _ (object-there image 0x80000005 0 1024 9 5 (omega arith) (omega arith) (head-sound 1024 0x80000005 0 5 1 (block_at image 9) f.manager.head refl refl refl (omega arith)))
    (both-true _ _ (object-there image 0x80000011 0 1025 10 0x11 (omega arith) (omega arith) (head-sound 1025 0x80000011 0 0x11 1 (block_at image 10) f.reaper.head refl refl refl (omega arith)))
    (both-true _ _ (object-there image 0x80000002 9 1029 11 2 (omega arith) (omega arith) (head-sound 1029 0x80000002 9 2 1 (block_at image 11) f.pool_queue_head refl refl refl (omega arith)))
    (both-true _ _ (object-there image 0x80000002 9 1030 12 2 (omega arith) (omega arith) (head-sound 1030 0x80000002 9 2 1 (block_at image 12) f.main_queue_head refl refl refl (omega arith))) refl)))

valid : (spec : Spec) (image : List ℕ) → IsFresh spec image → is_valid image areas line ≡ true
unfolding is_valid has_mappings
valid spec image f =
    let same = sym (mappings-are spec image f) in
    both-true ((ends_here areas line && has_maps image areas line) && are_apart areas (mappings_of image areas line)) _
    (both-true (ends_here areas line && has_maps image areas line) _ (both-true (ends_here areas line) _ ends (maps-there spec image f)) (subst (λ ms. are_apart areas ms ≡ true) same apart))
    (subst (λ ms. have_objects image areas 1 ms ≡ true) same (objects-there spec image f))

newest-is : (spec : Spec) (image : List ℕ) → IsFresh spec image → newest_line image areas ≡ Some line
unfolding newest_line
newest-is spec image f =
    ap (λ ls. greatest (λ (l : RingLine). l.xid) (filter (is_valid image areas) ls)) (all-are spec image f)
    ∙ rw (valid spec image f)

-- ---- the checkpoint
place-is : (image : List ℕ) (type oid block : ℕ) → 9 ≤ block → block < 25 → place_at image areas (mapping type oid block) ≡ place image oid block
place-is image type oid block l h = by (mapped_bytes image areas (mapping type oid block)) (bytes-are image type oid block l h)
  where
    by : (b : List ℕ) → b ≡ block_at image block → ◌≡◌ {A = Place} (record { oid = oid; block = block; bytes = b }) (place image oid block)
    by b e = cc

seen-is : (spec : Spec) (image : List ℕ) → IsFresh spec image → checkpoint_of image areas line ≡ seen image
unfolding checkpoint_of seen_of skipped_of ring_block
seen-is spec image f =
    ap (λ (ls : List RingLine). seen_of image areas (map (λ (l : RingLine). (l.index, l.xid)) (filter (λ (l : RingLine). nat_lt 1 l.xid) ls)) line) (all-are spec image f)
    ∙ ap (λ ms. by (map (place_at image areas) ms)) (mappings-are spec image f)
    ∙ ap by (four (place-is image 0x80000005 1024 9 (omega arith) (omega arith)) (place-is image 0x80000011 1025 10 (omega arith) (omega arith)) (place-is image 0x80000002 1029 11 (omega arith) (omega arith)) (place-is image 0x80000002 1030 12 (omega arith) (omega arith)))
  where
    by : List Place → Seen
    by ps = record { line = line; nx = block_at image 2; mapped = ps; skipped = [] }

    four : {a b c d a' b' c' d' : Place} → a ≡ a' → b ≡ b' → c ≡ c' → d ≡ d' → a ∷ b ∷ c ∷ d ∷ [] ≡ a' ∷ b' ∷ c' ∷ d' ∷ []
    four p q r s = cc

pub newest : (spec : Spec) (image : List ℕ) → IsValid spec → IsFresh spec image → newest_of image ≡ Ok (seen image)
unfolding newest_of
newest spec image v f =
    passed spec image _ v f
    ∙ ap (λ z. checkpoint_or (option_map (checkpoint_of image (areas_of z)) (newest_line image (areas_of z)))) (zero-is spec image f)
    ∙ ap (λ a. checkpoint_or (option_map (checkpoint_of image a) (newest_line image a))) (super-areas spec (block_at image 0) f.zero_block)
    ∙ ap (λ o. checkpoint_or (option_map (checkpoint_of image areas) o)) (newest-is spec image f)
    ∙ ap Ok (seen-is spec image f)
