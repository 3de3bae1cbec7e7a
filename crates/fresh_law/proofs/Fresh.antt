-- What the blocks of a new container say.
use Rattle.std.proofs.Common.{arith, ◌≡◌, ℕ, zero, suc, ◌+◌, ◌*◌, ◌<◌, true, false, ◌==◌, List, [], ◌∷◌, length, Err, refl, sym, subst}
use Rattle.std.specs.Prelude.{replicate}
use Rattle.apfs_model.specs.Bytes.{u32_at}
use Rattle.bt_keys.specs.Shapes.{omap_shape, queue_shape, ext_shape, snap_shape, fs_shape}
use Rattle.nx_block.specs.Super as nx
use Rattle.nx_block.specs.Read.{read_of}
use Rattle.nx_block.specs.declared.fault.NxFault.TheVariants.{BadMagic}
use Rattle.img_format.specs.declared.spec.Spec.{Spec}
use Rattle.img_format.specs.Valid.{IsValid}
use Rattle.img_format.specs.Tables.{size}
use Rattle.img_format.specs.Blocks.{checkpoint_map, map_entry, file_entries}
use Rattle.img_format.specs.Fresh.{block, fresh}
use Rattle.fresh_law.specs.Site.{block_at}
use Rattle.fresh_law.specs.Facts.{HasHeader, IsRootLeaf, IsSuper, IsMap, IsManager, IsReaper, IsObjectMap, IsInfo, IsVolume, HasBits}
use Rattle.fresh_law.specs.Says.{FreshSays}
use Rattle.fresh_law.proofs.Says.{reaper-says, container_map-says, volume_map-says, manager-says, chunk_info-says}
use Rattle.fresh_law.proofs.RootBlocks.{pool_queue-says, pool_queue-head, main_queue-says, main_queue-head, extents-says, snapshots-says}
use Rattle.fresh_law.proofs.Records.{container_tree-says, volume_tree-says, files-says}
use Rattle.fresh_law.proofs.Superblocks.{super-says, checkpoint_map-says, map-magic, volume-says}
use Rattle.fresh_law.proofs.Bitmaps.{pool_bitmap-says, pool_bitmap-long, chunk_bitmap-says, chunk_bitmap-long}
use Rattle.fresh_law.proofs.Image.{pieces-length, block-by, block-length}

-- each block is as long as a block
long : (spec : Spec) → IsValid spec → (k : ℕ) → length (block spec k) ≡ size
long spec v k =
    block-length spec k ((super-says spec v).head.long, (checkpoint_map-says.head.long, ((super-says spec v).head.long, ((manager-says spec v).head.long, (reaper-says.head.long, ((pool_queue-says spec).long, ((main_queue-says spec).long, (container_map-says.head.long, ((container_tree-says spec).long, (pool_bitmap-long, ((chunk_info-says spec v).head.long, (chunk_bitmap-long, ((volume-says spec v).head.long, (volume_map-says.head.long, ((volume_tree-says spec).long, ((files-says spec).long, ((extents-says spec).long, ((snapshots-says spec).long, tt))))))))))))))))))

image-long : (spec : Spec) → IsValid spec → length (fresh spec) ≡ size * spec.blocks
unfolding fresh
image-long spec v = pieces-length (block spec) (long spec v) spec.blocks 0

-- a block of the container
at-block : (spec : Spec) → IsValid spec → (k : ℕ) → k < spec.blocks → block_at (fresh spec) k ≡ block spec k
unfolding fresh
at-block spec v k h = block-by (block spec) (long spec v) spec.blocks k h

-- a block without the magic isn't read as a superblock
no-magic : (bytes : List ℕ) → nx.magic_of bytes ≡ 0 → read_of bytes ≡ Err BadMagic
unfolding read_of
no-magic bytes e = rw e refl

zeros-read : read_of (replicate size 0) ≡ Err BadMagic
zeros-read = no-magic (replicate size 0) (unfold nx.magic_of u32_at in refl)

other-says : (spec : Spec) → IsValid spec → (i : ℕ) → i < 8 → (i == 1) ≡ false → read_of (block_at (fresh spec) (1 + i)) ≡ Err BadMagic
unfolding block
other-says spec v zero h e = subst (λ (bs : List ℕ). read_of bs ≡ Err BadMagic) (sym (at-block spec v 1 (omega (arith, v.least)))) (no-magic checkpoint_map map-magic)
other-says spec v (suc zero) h e = absurd (let z : true ≡ false = e in let q : ⊥ = cc in q)
other-says spec v (suc (suc zero)) h e = subst (λ (bs : List ℕ). read_of bs ≡ Err BadMagic) (sym (at-block spec v 3 (omega (arith, v.least)))) zeros-read
other-says spec v (suc (suc (suc zero))) h e = subst (λ (bs : List ℕ). read_of bs ≡ Err BadMagic) (sym (at-block spec v 4 (omega (arith, v.least)))) zeros-read
other-says spec v (suc (suc (suc (suc zero)))) h e = subst (λ (bs : List ℕ). read_of bs ≡ Err BadMagic) (sym (at-block spec v 5 (omega (arith, v.least)))) zeros-read
other-says spec v (suc (suc (suc (suc (suc zero))))) h e = subst (λ (bs : List ℕ). read_of bs ≡ Err BadMagic) (sym (at-block spec v 6 (omega (arith, v.least)))) zeros-read
other-says spec v (suc (suc (suc (suc (suc (suc zero)))))) h e = subst (λ (bs : List ℕ). read_of bs ≡ Err BadMagic) (sym (at-block spec v 7 (omega (arith, v.least)))) zeros-read
other-says spec v (suc (suc (suc (suc (suc (suc (suc zero))))))) h e = subst (λ (bs : List ℕ). read_of bs ≡ Err BadMagic) (sym (at-block spec v 8 (omega (arith, v.least)))) zeros-read
other-says spec v (suc (suc (suc (suc (suc (suc (suc (suc n)))))))) h e = absurd (omega (arith, h))

-- the first step to the law
pub fresh-says : FreshSays
unfolding block
fresh-says spec v = record {
  long = image-long spec v;
  zero_block = subst (λ (bs : List ℕ). IsSuper spec bs) (sym (at-block spec v 0 (omega (arith, v.least)))) (super-says spec v);
  newest = subst (λ (bs : List ℕ). IsSuper spec bs) (sym (at-block spec v 2 (omega (arith, v.least)))) (super-says spec v);
  others = other-says spec v;
  checkpoint_map = subst (λ (bs : List ℕ). IsMap bs) (sym (at-block spec v 1 (omega (arith, v.least)))) checkpoint_map-says;
  manager = subst (λ (bs : List ℕ). IsManager spec bs) (sym (at-block spec v 9 (omega (arith, v.least)))) (manager-says spec v);
  reaper = subst (λ (bs : List ℕ). IsReaper bs) (sym (at-block spec v 10 (omega (arith, v.least)))) reaper-says;
  pool_queue = subst (λ (bs : List ℕ). IsRootLeaf queue_shape spec 1029 [] bs) (sym (at-block spec v 11 (omega (arith, v.least)))) (pool_queue-says spec);
  main_queue = subst (λ (bs : List ℕ). IsRootLeaf queue_shape spec 1030 [] bs) (sym (at-block spec v 12 (omega (arith, v.least)))) (main_queue-says spec);
  pool_queue_head = subst (λ (bs : List ℕ). HasHeader 1029 0x80000002 9 bs) (sym (at-block spec v 11 (omega (arith, v.least)))) pool_queue-head;
  main_queue_head = subst (λ (bs : List ℕ). HasHeader 1030 0x80000002 9 bs) (sym (at-block spec v 12 (omega (arith, v.least)))) main_queue-head;
  container_map = subst (λ (bs : List ℕ). IsObjectMap 25 26 bs) (sym (at-block spec v 25 (omega (arith, v.least)))) container_map-says;
  container_tree = subst (λ (bs : List ℕ). IsRootLeaf omap_shape spec 26 (map_entry 1026 51 ∷ []) bs) (sym (at-block spec v 26 (omega (arith, v.least)))) (container_tree-says spec);
  pool_bits = subst (λ (bs : List ℕ). HasBits 2 bs) (sym (at-block spec v 27 (omega (arith, v.least)))) pool_bitmap-says;
  info = subst (λ (bs : List ℕ). IsInfo spec bs) (sym (at-block spec v 43 (omega (arith, v.least)))) (chunk_info-says spec v);
  bits = subst (λ (bs : List ℕ). HasBits 57 bs) (sym (at-block spec v 44 (omega (arith, v.least)))) chunk_bitmap-says;
  volume = subst (λ (bs : List ℕ). IsVolume spec bs) (sym (at-block spec v 51 (omega (arith, v.least)))) (volume-says spec v);
  volume_map = subst (λ (bs : List ℕ). IsObjectMap 52 53 bs) (sym (at-block spec v 52 (omega (arith, v.least)))) volume_map-says;
  volume_tree = subst (λ (bs : List ℕ). IsRootLeaf omap_shape spec 53 (map_entry 1028 54 ∷ []) bs) (sym (at-block spec v 53 (omega (arith, v.least)))) (volume_tree-says spec);
  files = subst (λ (bs : List ℕ). IsRootLeaf fs_shape spec 1028 file_entries bs) (sym (at-block spec v 54 (omega (arith, v.least)))) (files-says spec);
  extents = subst (λ (bs : List ℕ). IsRootLeaf ext_shape spec 55 [] bs) (sym (at-block spec v 55 (omega (arith, v.least)))) (extents-says spec);
  snapshots = subst (λ (bs : List ℕ). IsRootLeaf snap_shape spec 56 [] bs) (sym (at-block spec v 56 (omega (arith, v.least)))) (snapshots-says spec);
}
