-- A new container, block by block.
use Rattle.std.specs.Prelude.{ℕ, ◌==◌, List, flat_map, replicate, if◌then◌else◌}
use Rattle.std.specs.List.{range_with_len}
use Rattle.img_format.specs.declared.spec.Spec.{Spec}
use Rattle.img_format.specs.Tables.{size}
use Rattle.img_format.specs.Blocks.{super, checkpoint_map, space_manager, reaper, pool_queue, main_queue, object_map, map_tree, pool_bitmap, chunk_info, chunk_bitmap, volume, files, extents, snapshots}

-- block k
unfoldable pub block : Spec → ℕ → List ℕ
block spec k =
    if k == 0 then super spec else
    if k == 1 then checkpoint_map else
    if k == 2 then super spec else
    if k == 9 then space_manager spec else
    if k == 10 then reaper else
    if k == 11 then pool_queue else
    if k == 12 then main_queue else
    if k == 25 then object_map 25 26 else
    if k == 26 then map_tree 26 1026 51 else
    if k == 27 then pool_bitmap else
    if k == 43 then chunk_info spec else
    if k == 44 then chunk_bitmap else
    if k == 51 then volume spec else
    if k == 52 then object_map 52 53 else
    if k == 53 then map_tree 53 1028 54 else
    if k == 54 then files else
    if k == 55 then extents else
    if k == 56 then snapshots else
    replicate size 0

-- so many blocks from one on
abbrev pub blocks_from : Spec → ℕ → ℕ → List ℕ
blocks_from spec first count = flat_map (block spec) (range_with_len first count)

-- the container
unfoldable pub fresh : Spec → List ℕ
fresh spec = blocks_from spec 0 spec.blocks
