-- The owners of the container and of its pool, as ranges that follow one another.
use Rattle.std.proofs.Common.{arith, ◌≡◌, ℕ, false, ◌==◌, List, [], ◌∷◌, ◌++◌, map, if◌then◌else◌, Some, ◌⊎◌, inl, inr, refl, ap, sym, ◌∙◌, subst}
use Rattle.apfs_model.specs.Lists.{In, through}
use Rattle.nx_ring.specs.Checkpoint.{site_of, eph, object_of}
use Rattle.ext_ref.specs.Ranges.{ext_tree, ext_pairs, ranges_of, ranges_in}
use Rattle.ext_ref.specs.declared.range.NewRange.{NewRange}
use Rattle.bt_keys.specs.Shapes.{queue_shape, ext_shape}
use Rattle.bt_cursor.specs.Tree.{tree_in}
use Rattle.bt_cursor.specs.Flat.{flat_of}
use Rattle.apfs_model.specs.Blocks.{in_container}
use Rattle.obj_base.specs.declared.site.Site.{Site}
use Rattle.space_map.specs.Blocks.{manager_of}
use Rattle.space_map.specs.Geometry.{has_chunk_place}
use Rattle.space_pool.specs.Queues.{queue_tree, queue_entries, queue_entries_in, ephemeral_named, one_block}
use Rattle.space_pool.specs.declared.entry.QueueEntry.{QueueEntry}
use Rattle.reach_rules.specs.Resolved.{Found}
use Rattle.reach_rules.specs.Tested.{tested}
use Rattle.reach_rules.specs.declared.owner.Who.TheVariants.{BlockZero, Descriptors, Checkpoints, KeyLocker, MediaLocker, InternalPool, PoolRing, Named, Recorded, Bitmap}
use Rattle.reach_rules.specs.declared.owner.Owner.{Owner}
use Rattle.reach_rules.specs.Owners.{owner, first_owners, told_from, object_owners, told_owners, told_if, owners_through, IsOwner, first, of}
use Rattle.reach_rules.specs.PoolOwners.{pool_object_owners, bitmap_owners, pool_told_owners, pool_told_if, pool_owners_through, IsPoolOwner}
use Rattle.reach_rules.proofs.Nexts.{Each, each-in}
use Rattle.img_format.specs.declared.spec.Spec.{Spec}
use Rattle.img_format.specs.Valid.{IsValid}
use Rattle.fresh_law.specs.Site.{block_at, site}
use Rattle.fresh_law.specs.Checkpoint.{place, seen}
use Rattle.fresh_law.specs.Facts.{IsManager, IsInfo, IsRootLeaf, IsFresh}
use Rattle.fresh_law.proofs.Leaves.{IsLeaf, leaf-flat}
use Rattle.fresh_law.proofs.Sites.{site-is, inside}
use Rattle.fresh_law.proofs.Maps.{leaf-in}
use Rattle.fresh_law.proofs.Roots as known
use Rattle.fresh_law.proofs.Rows.{IsRow, one-block}
use Rattle.fresh_law.proofs.Named.{live-has, rows-live, row-of, at-manager, at-map, at-reaper, at-volume, at-pool_queue, at-main_queue, at-info, at-map_tree, at-volume_map, at-files, at-extents, at-snaps, at-volume_tree}
use Rattle.fresh_law.proofs.Tiles.{Tiles}

-- the owners through a row's naming, and the pool's
record IsOwning (image : List ℕ) (row : known.Row) (owners pool : List Owner) : Type 0 where
  container : object_owners row.naming row.object ++ told_owners image (seen image) row.naming row.naming.expected (block_at image row.block) ≡ owners
  pooled : pool_object_owners row.naming row.object ++ pool_told_owners image (seen image) row.naming row.naming.expected (block_at image row.block) ≡ pool

owners-are : (image : List ℕ) (row : known.Row) (owners pool : List Owner) → IsRow image row → IsOwning image row owners pool → owners_through image (seen image) row.naming ≡ owners
unfolding owners_through
owners-are image row owners pool i w =
    let n = row.naming in
    ap (λ o. through o (λ (f : Found). object_owners n f.object ++ told_if image (seen image) n f (tested (site_of (seen image)) n.expected n.oid f.bytes))) i.named
    ∙ ap (λ a. object_owners n row.object ++ told_if image (seen image) n (known.found image row) a) i.sound
    ∙ w.container

pool-are : (image : List ℕ) (row : known.Row) (owners pool : List Owner) → IsRow image row → IsOwning image row owners pool → pool_owners_through image (seen image) row.naming ≡ pool
unfolding pool_owners_through
pool-are image row owners pool i w =
    let n = row.naming in
    ap (λ o. through o (λ (f : Found). pool_object_owners n f.object ++ pool_told_if image (seen image) n f (tested (site_of (seen image)) n.expected n.oid f.bytes))) i.named
    ∙ ap (λ a. pool_object_owners n row.object ++ pool_told_if image (seen image) n (known.found image row) a) i.sound
    ∙ w.pooled

-- the owners by block
abbrev pub owners : List Owner
owners =
    owner BlockZero 0 1
    ∷ owner Descriptors 1 8
    ∷ owner Checkpoints 9 16
    ∷ owner (Named known.to_map) 25 1
    ∷ owner (Named known.to_map_tree) 26 1
    ∷ owner PoolRing 27 16
    ∷ owner InternalPool 43 8
    ∷ owner (Recorded 25 known.volume_record) 51 1
    ∷ owner (Named known.to_volume_map) 52 1
    ∷ owner (Named known.to_volume_tree) 53 1
    ∷ owner (Recorded 52 known.files_record) 54 1
    ∷ owner (Named known.to_extents) 55 1
    ∷ owner (Named known.to_snaps) 56 1
    ∷ []

pub owners-follow : Tiles 0 57 owners
owners-follow = (refl, (refl, (refl, (refl, (refl, (refl, (refl, (refl, (refl, (refl, (refl, (refl, (refl, refl)))))))))))))

-- those of the pool
abbrev pub pool_owners : List Owner
pool_owners = owner (Named known.to_info) 43 1 ∷ owner (Bitmap 0) 44 1 ∷ []

pub pool-follow : Tiles 43 45 pool_owners
pool-follow = (refl, (refl, refl))

-- owners without blocks, which own nothing
abbrev pub idle_owners : List Owner
idle_owners = owner KeyLocker 0 0 ∷ owner MediaLocker 0 0 ∷ []

firsts-are : (spec : Spec) (image : List ℕ) → IsFresh spec image → first_owners (block_at image 2) ≡ owner BlockZero 0 1 ∷ owner Descriptors 1 8 ∷ owner Checkpoints 9 16 ∷ idle_owners
unfolding first_owners
firsts-are spec image f = let n = f.newest in rw (n.desc_base, n.desc_blocks, n.data_base, n.data_blocks, n.locker, n.media_locker)

-- ---- the trees that tell of owners are empty
queue-empty : (spec : Spec) (image : List ℕ) → IsFresh spec image → (oid block : ℕ) → ephemeral_named (seen image) oid ≡ Some block → in_container spec.blocks block ≡ Some block → IsRootLeaf queue_shape spec oid [] (block_at image block) → (oid == 0) ≡ false → queue_entries image (seen image) oid ≡ []
unfolding queue_entries
queue-empty spec image f oid block named i root z =
    let leaf = subst (λ s. IsLeaf (tree_in queue_shape s (ephemeral_named (seen image)) image) oid []) (sym (site-is spec image f)) (leaf-in queue_shape spec image (ephemeral_named (seen image)) oid block [] root named i) in
    ap (λ b. if b then [] else queue_entries_in (flat_of (queue_tree image (seen image)) oid)) z
    ∙ ap queue_entries_in (leaf-flat (queue_tree image (seen image)) oid [] leaf)

pub pool_queue-named : (spec : Spec) (image : List ℕ) → IsValid spec → IsFresh spec image → ephemeral_named (seen image) 1029 ≡ Some 11
unfolding ephemeral_named eph
pool_queue-named spec image v f = ap (λ s. one_block s (place image 1029 11)) (site-is spec image f) ∙ one-block spec image v 1029 11 f.pool_queue.long (omega arith) (omega arith)

pub main_queue-named : (spec : Spec) (image : List ℕ) → IsValid spec → IsFresh spec image → ephemeral_named (seen image) 1030 ≡ Some 12
unfolding ephemeral_named eph
main_queue-named spec image v f = ap (λ s. one_block s (place image 1030 12)) (site-is spec image f) ∙ one-block spec image v 1030 12 f.main_queue.long (omega arith) (omega arith)

pub pool_queue-empty : (spec : Spec) (image : List ℕ) → IsValid spec → IsFresh spec image → queue_entries image (seen image) 1029 ≡ []
pool_queue-empty spec image v f = queue-empty spec image f 1029 11 (pool_queue-named spec image v f) (inside spec v 11 (omega arith) (omega arith)) f.pool_queue refl

pub main_queue-empty : (spec : Spec) (image : List ℕ) → IsValid spec → IsFresh spec image → queue_entries image (seen image) 1030 ≡ []
main_queue-empty spec image v f = queue-empty spec image f 1030 12 (main_queue-named spec image v f) (inside spec v 12 (omega arith) (omega arith)) f.main_queue refl

pub no-ranges : (spec : Spec) (image : List ℕ) → IsValid spec → IsFresh spec image → ranges_of image (site spec) 55 ≡ []
unfolding ranges_of ext_pairs
no-ranges spec image v f =
    let i = inside spec v 55 (omega arith) (omega arith) in
    ap ranges_in (leaf-flat (ext_tree image (site spec)) 55 [] (leaf-in ext_shape spec image (in_container spec.blocks) 55 55 [] f.extents i i))

-- ---- the manager, and the bitmap of the chunk
pub manager-of : (spec : Spec) (image : List ℕ) → IsFresh spec image → manager_of (seen image) ≡ Some (block_at image 9)
unfolding eph
manager-of spec image f = ap (λ oid. object_of (seen image) oid) f.newest.space

bitmap-is : (spec : Spec) (manager cib : List ℕ) → IsManager spec manager → IsInfo spec cib → bitmap_owners 4096 manager 0 cib ≡ owner (Bitmap 0) 44 1 ∷ []
unfolding has_chunk_place
bitmap-is spec manager cib m i = rw (m.chunks, m.cib_chunks, i.chunk_is) (rw (m.cib_chunks, i.chunk_is))

manager-owning : (spec : Spec) (image : List ℕ) → IsValid spec → IsFresh spec image → IsOwning image known.manager_row (owner InternalPool 43 8 ∷ owner PoolRing 27 16 ∷ []) ([])
manager-owning spec image v f = record {
  container = let m = f.manager in rw (m.pool_base, m.pool_blocks, m.ring_base, m.ring_blocks);
  pooled = refl;
}

map-owning : (spec : Spec) (image : List ℕ) → IsValid spec → IsFresh spec image → IsOwning image known.map_row (owner (Named known.to_map) 25 1 ∷ []) ([])
map-owning spec image v f = record {
  container = refl;
  pooled = refl;
}

reaper-owning : (spec : Spec) (image : List ℕ) → IsValid spec → IsFresh spec image → IsOwning image known.reaper_row ([]) ([])
reaper-owning spec image v f = record {
  container = refl;
  pooled = refl;
}

volume-owning : (spec : Spec) (image : List ℕ) → IsValid spec → IsFresh spec image → IsOwning image known.volume_row (owner (Recorded 25 known.volume_record) 51 1 ∷ []) ([])
volume-owning spec image v f = record {
  container = refl;
  pooled = refl;
}

pool_queue-owning : (spec : Spec) (image : List ℕ) → IsValid spec → IsFresh spec image → IsOwning image known.pool_queue_row ([]) ([])
pool_queue-owning spec image v f = record {
  container = refl;
  pooled = ap (λ es. told_from known.to_pool_queue 0 (map (λ (e : QueueEntry). (e.paddr, e.length)) es)) (pool_queue-empty spec image v f);
}

main_queue-owning : (spec : Spec) (image : List ℕ) → IsValid spec → IsFresh spec image → IsOwning image known.main_queue_row ([]) ([])
main_queue-owning spec image v f = record {
  container = ap (λ es. told_from known.to_main_queue 0 (map (λ (e : QueueEntry). (e.paddr, e.length)) es)) (main_queue-empty spec image v f);
  pooled = refl;
}

info-owning : (spec : Spec) (image : List ℕ) → IsValid spec → IsFresh spec image → IsOwning image known.info_row ([]) (pool_owners)
info-owning spec image v f = record {
  container = refl;
  pooled =
      ap (λ o. owner (Named known.to_info) 43 1 ∷ through o (λ manager. bitmap_owners (site_of (seen image)).block_size manager 0 (block_at image 43))) (manager-of spec image f)
      ∙ ap (λ (s : Site). owner (Named known.to_info) 43 1 ∷ bitmap_owners s.block_size (block_at image 9) 0 (block_at image 43)) (site-is spec image f)
      ∙ ap (λ os. owner (Named known.to_info) 43 1 ∷ os) (bitmap-is spec (block_at image 9) (block_at image 43) f.manager f.info);
}

map_tree-owning : (spec : Spec) (image : List ℕ) → IsValid spec → IsFresh spec image → IsOwning image known.map_tree_row (owner (Named known.to_map_tree) 26 1 ∷ []) ([])
map_tree-owning spec image v f = record {
  container = refl;
  pooled = refl;
}

volume_map-owning : (spec : Spec) (image : List ℕ) → IsValid spec → IsFresh spec image → IsOwning image known.volume_map_row (owner (Named known.to_volume_map) 52 1 ∷ []) ([])
volume_map-owning spec image v f = record {
  container = refl;
  pooled = refl;
}

files-owning : (spec : Spec) (image : List ℕ) → IsValid spec → IsFresh spec image → IsOwning image known.files_row (owner (Recorded 52 known.files_record) 54 1 ∷ []) ([])
files-owning spec image v f = record {
  container = refl;
  pooled = refl;
}

extents-owning : (spec : Spec) (image : List ℕ) → IsValid spec → IsFresh spec image → IsOwning image known.extents_row (owner (Named known.to_extents) 55 1 ∷ []) ([])
extents-owning spec image v f = record {
  container =
      ap (λ s. owner (Named known.to_extents) 55 1 ∷ told_from known.to_extents 0 (map (λ (r : NewRange). (r.first, r.length)) (ranges_of image s 55))) (site-is spec image f)
      ∙ ap (λ rs. owner (Named known.to_extents) 55 1 ∷ told_from known.to_extents 0 (map (λ (r : NewRange). (r.first, r.length)) rs)) (no-ranges spec image v f);
  pooled = refl;
}

snaps-owning : (spec : Spec) (image : List ℕ) → IsValid spec → IsFresh spec image → IsOwning image known.snaps_row (owner (Named known.to_snaps) 56 1 ∷ []) ([])
snaps-owning spec image v f = record {
  container = refl;
  pooled = refl;
}

volume_tree-owning : (spec : Spec) (image : List ℕ) → IsValid spec → IsFresh spec image → IsOwning image known.volume_tree_row (owner (Named known.to_volume_tree) 53 1 ∷ []) ([])
volume_tree-owning spec image v f = record {
  container = refl;
  pooled = refl;
}

-- ---- who is an owner
-- what a row owns is among the owners
record IsAmong (image : List ℕ) (row : known.Row) : Type 0 where
  container : (a : Owner) → In a (owners_through image (seen image) row.naming) → In a owners
  pooled : (a : Owner) → In a (pool_owners_through image (seen image) row.naming) → In a pool_owners

among : (image : List ℕ) (row : known.Row) (os ps : List Owner) → IsRow image row → IsOwning image row os ps → Each (λ a. In a owners) os → Each (λ a. In a pool_owners) ps → IsAmong image row
among image row os ps i w all every = record {
  container = λ a h. each-in (λ x. In x owners) os a all (subst (λ xs. In a xs) (owners-are image row os ps i w) h);
  pooled = λ a h. each-in (λ x. In x pool_owners) ps a every (subst (λ xs. In a xs) (pool-are image row os ps i w) h);
}

all-among : (spec : Spec) (image : List ℕ) → IsValid spec → IsFresh spec image → Each (IsAmong image) known.rows
all-among spec image v f = (
  among image known.manager_row (owner InternalPool 43 8 ∷ owner PoolRing 27 16 ∷ []) ([]) (row-of spec image v f known.manager_row at-manager) (manager-owning spec image v f) (inr (inr (inr (inr (inr (inr (inl refl)))))), (inr (inr (inr (inr (inr (inl refl))))), tt)) tt,
  (
    among image known.map_row (owner (Named known.to_map) 25 1 ∷ []) ([]) (row-of spec image v f known.map_row at-map) (map-owning spec image v f) (inr (inr (inr (inl refl))), tt) tt,
    (
      among image known.reaper_row ([]) ([]) (row-of spec image v f known.reaper_row at-reaper) (reaper-owning spec image v f) tt tt,
      (
        among image known.volume_row (owner (Recorded 25 known.volume_record) 51 1 ∷ []) ([]) (row-of spec image v f known.volume_row at-volume) (volume-owning spec image v f) (inr (inr (inr (inr (inr (inr (inr (inl refl))))))), tt) tt,
        (
          among image known.pool_queue_row ([]) ([]) (row-of spec image v f known.pool_queue_row at-pool_queue) (pool_queue-owning spec image v f) tt tt,
          (
            among image known.main_queue_row ([]) ([]) (row-of spec image v f known.main_queue_row at-main_queue) (main_queue-owning spec image v f) tt tt,
            (
              among image known.info_row ([]) (pool_owners) (row-of spec image v f known.info_row at-info) (info-owning spec image v f) tt (inl refl, (inr (inl refl), tt)),
              (
                among image known.map_tree_row (owner (Named known.to_map_tree) 26 1 ∷ []) ([]) (row-of spec image v f known.map_tree_row at-map_tree) (map_tree-owning spec image v f) (inr (inr (inr (inr (inl refl)))), tt) tt,
                (
                  among image known.volume_map_row (owner (Named known.to_volume_map) 52 1 ∷ []) ([]) (row-of spec image v f known.volume_map_row at-volume_map) (volume_map-owning spec image v f) (inr (inr (inr (inr (inr (inr (inr (inr (inl refl)))))))), tt) tt,
                  (
                    among image known.files_row (owner (Recorded 52 known.files_record) 54 1 ∷ []) ([]) (row-of spec image v f known.files_row at-files) (files-owning spec image v f) (inr (inr (inr (inr (inr (inr (inr (inr (inr (inr (inl refl)))))))))), tt) tt,
                    (
                      among image known.extents_row (owner (Named known.to_extents) 55 1 ∷ []) ([]) (row-of spec image v f known.extents_row at-extents) (extents-owning spec image v f) (inr (inr (inr (inr (inr (inr (inr (inr (inr (inr (inr (inl refl))))))))))), tt) tt,
                      (
                        among image known.snaps_row (owner (Named known.to_snaps) 56 1 ∷ []) ([]) (row-of spec image v f known.snaps_row at-snaps) (snaps-owning spec image v f) (inr (inr (inr (inr (inr (inr (inr (inr (inr (inr (inr (inr (inl refl)))))))))))), tt) tt,
                        (
                          among image known.volume_tree_row (owner (Named known.to_volume_tree) 53 1 ∷ []) ([]) (row-of spec image v f known.volume_tree_row at-volume_tree) (volume_tree-owning spec image v f) (inr (inr (inr (inr (inr (inr (inr (inr (inr (inl refl))))))))), tt) tt,
                          tt,
                        ),
                      ),
                    ),
                  ),
                ),
              ),
            ),
          ),
        ),
      ),
    ),
  ),
)

-- an owner of the container has its place, or owns nothing
pub owner-in : (spec : Spec) (image : List ℕ) → IsValid spec → IsFresh spec image → (a : Owner) → IsOwner image (seen image) a → In a owners ⊎ In a idle_owners
owner-in spec image v f a (first h) = placed (subst (λ xs. In a xs) (firsts-are spec image f) h)
  where
    placed : In a (owner BlockZero 0 1 ∷ owner Descriptors 1 8 ∷ owner Checkpoints 9 16 ∷ idle_owners) → In a owners ⊎ In a idle_owners
    placed (inl e) = inl (inl e)
    placed (inr (inl e)) = inl (inr (inl e))
    placed (inr (inr (inl e))) = inl (inr (inr (inl e)))
    placed (inr (inr (inr k))) = inr k
owner-in spec image v f a (of n l h) =
    let r = live-has spec image v f n l in
    inl ((each-in (IsAmong image) known.rows r.row (all-among spec image v f) r.one).container a (subst (λ x. In a (owners_through image (seen image) x)) (sym r.same) h))

pub pool-owner-in : (spec : Spec) (image : List ℕ) → IsValid spec → IsFresh spec image → (a : Owner) → IsPoolOwner image (seen image) a → In a pool_owners
pool-owner-in spec image v f a o =
    let r = live-has spec image v f o.naming o.live in
    (each-in (IsAmong image) known.rows r.row (all-among spec image v f) r.one).pooled a (subst (λ x. In a (pool_owners_through image (seen image) x)) (sym r.same) o.one)

-- each of these is one
record IsOne (image : List ℕ) (a : Owner) : Type 0 where
  owner_is : IsOwner image (seen image) a

first-one : (spec : Spec) (image : List ℕ) → IsFresh spec image → (a : Owner) → In a (owner BlockZero 0 1 ∷ owner Descriptors 1 8 ∷ owner Checkpoints 9 16 ∷ idle_owners) → IsOne image a
first-one spec image f a h = record { owner_is = first (subst (λ xs. In a xs) (sym (firsts-are spec image f)) h) }

row-one : (spec : Spec) (image : List ℕ) → IsValid spec → IsFresh spec image → (row : known.Row) → In row known.rows → (os ps : List Owner) → IsOwning image row os ps → (a : Owner) → In a os → IsOne image a
row-one spec image v f row one os ps w a h = record { owner_is = of row.naming (rows-live spec image v f row one) (subst (λ xs. In a xs) (sym (owners-are image row os ps (row-of spec image v f row one) w)) h) }

all-ones : (spec : Spec) (image : List ℕ) → IsValid spec → IsFresh spec image → Each (IsOne image) owners
all-ones spec image v f = (
  first-one spec image f _ (inl refl),
  (
    first-one spec image f _ (inr (inl refl)),
    (
      first-one spec image f _ (inr (inr (inl refl))),
      (
        row-one spec image v f known.map_row at-map (owner (Named known.to_map) 25 1 ∷ []) ([]) (map-owning spec image v f) _ (inl refl),
        (
          row-one spec image v f known.map_tree_row at-map_tree (owner (Named known.to_map_tree) 26 1 ∷ []) ([]) (map_tree-owning spec image v f) _ (inl refl),
          (
            row-one spec image v f known.manager_row at-manager (owner InternalPool 43 8 ∷ owner PoolRing 27 16 ∷ []) ([]) (manager-owning spec image v f) _ (inr (inl refl)),
            (
              row-one spec image v f known.manager_row at-manager (owner InternalPool 43 8 ∷ owner PoolRing 27 16 ∷ []) ([]) (manager-owning spec image v f) _ (inl refl),
              (
                row-one spec image v f known.volume_row at-volume (owner (Recorded 25 known.volume_record) 51 1 ∷ []) ([]) (volume-owning spec image v f) _ (inl refl),
                (
                  row-one spec image v f known.volume_map_row at-volume_map (owner (Named known.to_volume_map) 52 1 ∷ []) ([]) (volume_map-owning spec image v f) _ (inl refl),
                  (
                    row-one spec image v f known.volume_tree_row at-volume_tree (owner (Named known.to_volume_tree) 53 1 ∷ []) ([]) (volume_tree-owning spec image v f) _ (inl refl),
                    (
                      row-one spec image v f known.files_row at-files (owner (Recorded 52 known.files_record) 54 1 ∷ []) ([]) (files-owning spec image v f) _ (inl refl),
                      (
                        row-one spec image v f known.extents_row at-extents (owner (Named known.to_extents) 55 1 ∷ []) ([]) (extents-owning spec image v f) _ (inl refl),
                        (
                          row-one spec image v f known.snaps_row at-snaps (owner (Named known.to_snaps) 56 1 ∷ []) ([]) (snaps-owning spec image v f) _ (inl refl),
                          tt,
                        ),
                      ),
                    ),
                  ),
                ),
              ),
            ),
          ),
        ),
      ),
    ),
  ),
)

pub in-owner : (spec : Spec) (image : List ℕ) → IsValid spec → IsFresh spec image → (a : Owner) → In a owners → IsOwner image (seen image) a
in-owner spec image v f a h = (each-in (IsOne image) owners a (all-ones spec image v f) h).owner_is

pub in-pool-owner : (spec : Spec) (image : List ℕ) → IsValid spec → IsFresh spec image → (a : Owner) → In a pool_owners → IsPoolOwner image (seen image) a
in-pool-owner spec image v f a h = record {
  naming = known.to_info;
  live = rows-live spec image v f known.info_row at-info;
  one = subst (λ xs. In a xs) (sym (pool-are image known.info_row [] pool_owners (row-of spec image v f known.info_row at-info) (info-owning spec image v f))) h;
}
