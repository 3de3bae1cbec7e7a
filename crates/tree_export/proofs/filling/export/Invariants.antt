-- The items before the next one were put.
use Rattle.std.proofs.Common.{◌≡◌, ◌≤◌, ◌<◌, ℕ, List, Some, true, map, take}
use Rattle.std.specs.Prelude.{All}
use Rattle.apfs_model.specs.Kept.{IsKept}
use Rattle.vol_view.specs.Views.{view_flat, is_view_ordered}
use Rattle.view_rules.specs.Rules.{view_facts}
use Rattle.view_tree.specs.Trails.{IsOn}
use Rattle.tree_export.specs.Exported.{item_of, put_all}
use Rattle.tree_export.specs.Stopping.{HaveInodes}
use Rattle.tree_export.specs.Filled.{FilledWhole}
use Rattle.tree_export.specs.Done.{IsDoneFor}
use Rattle.tree_export.proofs.filling.export.Given as goal

abbrev pub invariant-loop-place : goal.invariant-loop-place
invariant-loop-place g l = record {
  filled : FilledWhole (g.F.Folder.contents l.fn.folder) (g.F.Folder.contents l.folder) (g.S.BlockSource.bytes l.fn.src) (λ image. is_view_ordered image l.site l.volume l.view ≡ true) (λ image. put_all l.site.block_size image (view_facts image l.site l.volume l.view) (take l.place (map item_of l.rows)));
  told : (image : List ℕ) → g.S.BlockSource.bytes l.fn.src ≡ Some image → is_view_ordered image l.site l.volume l.view ≡ true → IsDoneFor l.site.block_size image (view_facts image l.site l.volume l.view) (take l.place (map item_of l.rows)) l.done;
  inside : All (λ (place : ℕ). place < l.place) l.done.skipped.items;
  inodes : (image : List ℕ) → g.S.BlockSource.bytes l.fn.src ≡ Some image → HaveInodes (view_flat image l.site l.volume l.view) (take l.place (map item_of l.rows));
  kept : IsKept g.S.BlockSource.bytes g.S.BlockSource.bytes_len g.S.BlockSource.faults l.fn.src l.src;
  on : IsOn l.rows l.trail;
  later : g.F.Folder.faults l.fn.folder ≤ g.F.Folder.faults l.folder;
}
