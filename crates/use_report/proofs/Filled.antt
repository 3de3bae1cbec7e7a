-- What was added to the pieces of a view's blocks, call by call.
use Rattle.std.proofs.Common.{◌≡◌, ℕ, true, List, ◌∷◌, Some, ◌⊎◌, inl, inr, refl, sym, subst}
use Rattle.std.specs.Prelude.{◌↔◌}
use Rattle.apfs_model.specs.Lists.{In}
use Rattle.obj_base.specs.declared.site.Site.{Site}
use Rattle.fs_record.specs.StreamExtents.{is_extent_placed}
use Rattle.fs_record.specs.declared.extents.FileExt.{FileExt}
use Rattle.vol_view.specs.Volumes.{Loaded}
use Rattle.vol_view.specs.Views.{view_named}
use Rattle.vol_view.specs.declared.volume.View.{View}
use Rattle.ext_ref.specs.Ranges.{node_blocks_of}
use Rattle.use_report.specs.Counted.{Grows}
use Rattle.use_report.specs.Files.{AreOfView, IsNamedBlock, IsCoveredBlock, IsMetadataBlock}
use Rattle.use_report.specs.Holding.{IsFilesBlock, AddsFiles, AddsReferences, IsHoldingOf}
use Rattle.use_report.specs.declared.files.Files.{Files}
use Rattle.use_report.specs.declared.kept.KeptView.{KeptView}
use Rattle.use_report.specs.declared.pieces.Pieces.{Pieces}
use Rattle.use_report.proofs.Sets.{grows-then, grows-same}

-- the block of the root, or of a node below it
root-or : (site : Site) (volume : Loaded) (view : View) (root : ℕ) (below : List ℕ) (block : ℕ) → ((view_named site volume view root ≡ Some block) ⊎ IsNamedBlock site volume view below block) ↔ IsNamedBlock site volume view (root ∷ below) block
root-or site volume view root below block =
    let Either : Type 0 = (view_named site volume view root ≡ Some block) ⊎ IsNamedBlock site volume view below block in (
      (λ t. elim t as (λ _. IsNamedBlock site volume view (root ∷ below) block) [ inl e ↦ (root, inl refl, e) | inr n ↦ (n.0, inr n.1, n.2) ]),
      (λ n. elim n.1 as (λ _. Either) [
        | inl s ↦ inl (subst (λ o. view_named site volume view o ≡ Some block) s n.2)
        | inr h ↦ inr (n.0, h, n.2)
      ]),
    )

-- the root's block, those of the nodes below, and those of the extents
pub files-added : (image : List ℕ) (site : Site) (volume : Loaded) (view : View) (files : Files) (below : List ℕ) (extents : List FileExt) (a b c d : Pieces) → AreOfView image site volume view files →
    Grows a b (λ block. view_named site volume view view.root_oid ≡ Some block) → Grows b c (IsNamedBlock site volume view below) → Grows c d (IsCoveredBlock site extents) → ((e : FileExt) → In e extents → is_extent_placed site.block_size site.blocks e ≡ true) →
    below ≡ files.below.items → extents ≡ files.extents.items → AddsFiles image site volume view a d
files-added image site volume view files below extents a b c d those root nodes covered inside s t =
    let Root : ℕ → Type 0 = λ block. view_named site volume view view.root_oid ≡ Some block in
    let these : Grows b c (IsNamedBlock site volume view files.below.items) = subst (λ (xs : List ℕ). Grows b c (IsNamedBlock site volume view xs)) s nodes in
    let named : Grows a c (IsNamedBlock site volume view (view.root_oid ∷ files.below.items)) = grows-same a c (λ block. Root block ⊎ IsNamedBlock site volume view files.below.items block) (IsNamedBlock site volume view (view.root_oid ∷ files.below.items))
    (λ block. root-or site volume view view.root_oid files.below.items block) (grows-then a b c Root (IsNamedBlock site volume view files.below.items) root these) in
    record {
      files = files;
      those = those;
      grows = grows-then a c d (IsNamedBlock site volume view (view.root_oid ∷ files.below.items)) (IsCoveredBlock site files.extents.items) named (subst (λ (xs : List FileExt). Grows c d (IsCoveredBlock site xs)) t covered);
      placed = λ e h. inside e (subst (λ (xs : List FileExt). In e xs) (sym t) h);
    }

-- the blocks of the files, of the extent references, of the extended metadata, and of a snapshot's superblock
pub view-held : (image : List ℕ) (site : Site) (volume : Loaded) (kept : KeptView) (e a b c d : Pieces) → AddsFiles image site volume kept.view e a → AddsReferences image site kept a b →
    Grows b c (IsMetadataBlock site volume kept) → Grows c d (λ block. kept.super_block ≡ Some block) → IsHoldingOf image site volume kept e d
view-held image site volume kept e a b c d files references metadata superblock =
    let Super : ℕ → Type 0 = λ block. kept.super_block ≡ Some block in
    let Metadata : ℕ → Type 0 = IsMetadataBlock site volume kept in
    let Nodes : ℕ → Type 0 = λ block. In block (node_blocks_of image site kept.extents_root) in
    let OfFiles : ℕ → Type 0 = IsFilesBlock site volume kept.view files.files in
    record {
      files = files.files;
      those = files.those;
      right = references.0;
      placed = files.placed;
      grows = grows-then e a d OfFiles (λ block. Nodes block ⊎ (Metadata block ⊎ Super block)) files.grows
          (grows-then a b d Nodes (λ block. Metadata block ⊎ Super block) references.1
          (grows-then b c d Metadata Super metadata superblock));
    }
