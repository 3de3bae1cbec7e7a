use Rattle.std.proofs.Common.{arith, ◌≡◌, ◌∙◌, replicate}
use Rattle.img_format.specs.Fresh.{block}
use Rattle.img_format.proofs.Numbered.{other}
use Rattle.img_format.proofs.blocks.add_block.Goals as goal

pub returns-in-0 : goal.returns-in-0
unfolding block
returns-in-0 c = rw c.in-0.is c.add_superblock.ensures

pub returns-in-1 : goal.returns-in-1
unfolding block
returns-in-1 c = rw c.in-1.is c.add_checkpoint_map.ensures

pub returns-in-2 : goal.returns-in-2
unfolding block
returns-in-2 c = rw c.in-2.is c.add_superblock-in-2.ensures

pub returns-in-9 : goal.returns-in-9
unfolding block
returns-in-9 c = rw c.in-9.is c.add_space_manager.ensures

pub returns-in-10 : goal.returns-in-10
unfolding block
returns-in-10 c = rw c.in-10.is c.add_reaper.ensures

pub returns-in-11 : goal.returns-in-11
unfolding block
returns-in-11 c = rw c.in-11.is c.add_pool_queue.ensures

pub returns-in-12 : goal.returns-in-12
unfolding block
returns-in-12 c = rw c.in-12.is c.add_main_queue.ensures

pub returns-in-25 : goal.returns-in-25
unfolding block
returns-in-25 c = rw c.in-25.is c.add_object_map.ensures

pub returns-in-26 : goal.returns-in-26
unfolding block
returns-in-26 c = rw c.in-26.is c.add_map_tree.ensures

pub returns-in-27 : goal.returns-in-27
unfolding block
returns-in-27 c = rw c.in-27.is c.add_pool_bitmap.ensures

pub returns-in-43 : goal.returns-in-43
unfolding block
returns-in-43 c = rw c.in-43.is c.add_chunk_info.ensures

pub returns-in-44 : goal.returns-in-44
unfolding block
returns-in-44 c = rw c.in-44.is c.add_chunk_bitmap.ensures

pub returns-in-51 : goal.returns-in-51
unfolding block
returns-in-51 c = rw c.in-51.is c.add_volume.ensures

pub returns-in-52 : goal.returns-in-52
unfolding block
returns-in-52 c = rw c.in-52.is c.add_object_map-in-52.ensures

pub returns-in-53 : goal.returns-in-53
unfolding block
returns-in-53 c = rw c.in-53.is c.add_map_tree-in-53.ensures

pub returns-in-54 : goal.returns-in-54
unfolding block
returns-in-54 c = rw c.in-54.is c.add_files.ensures

pub returns-in-55 : goal.returns-in-55
unfolding block
returns-in-55 c = rw c.in-55.is c.add_extents.ensures

pub returns-in-56 : goal.returns-in-56
unfolding block
returns-in-56 c = rw c.in-56.is c.add_snapshots.ensures

pub returns-in_default : goal.returns-in_default
unfolding block
returns-in_default c =
    let k = c.args.k in
    let zeros : block c.args.spec.now k ≡ replicate 4096 0 =
    other k 0 _ _ (λ e. omega arith)
    ∙ other k 1 _ _ (λ e. omega arith)
    ∙ other k 2 _ _ (λ e. omega arith)
    ∙ other k 9 _ _ (λ e. omega arith)
    ∙ other k 10 _ _ (λ e. omega arith)
    ∙ other k 11 _ _ (λ e. omega arith)
    ∙ other k 12 _ _ (λ e. omega arith)
    ∙ other k 25 _ _ (λ e. omega arith)
    ∙ other k 26 _ _ (λ e. omega arith)
    ∙ other k 27 _ _ (λ e. omega arith)
    ∙ other k 43 _ _ (λ e. omega arith)
    ∙ other k 44 _ _ (λ e. omega arith)
    ∙ other k 51 _ _ (λ e. omega arith)
    ∙ other k 52 _ _ (λ e. omega arith)
    ∙ other k 53 _ _ (λ e. omega arith)
    ∙ other k 54 _ _ (λ e. omega arith)
    ∙ other k 55 _ _ (λ e. omega arith)
    ∙ other k 56 _ _ (λ e. omega arith) in
    rw zeros c.add_zeros.ensures
