-- The naming of a volume that was loaded, and what stands below it.
use Rattle.std.proofs.Common.{◌≡◌, ℕ, Bool, ◌+◌, ◌*◌, true, false, ◌==◌, List, [], ◌++◌, map, None, Some, is_ok, refl, ap, sym, ◌∙◌, subst, if◌then◌else◌}
use Rattle.std.specs.Prelude.{slice_get}
use Rattle.std.specs.List.{flat_map}
use Rattle.apfs_model.proofs.BoolTests.{other-true}
use Rattle.apfs_model.proofs.Searches.{get-in, from-map}
use Rattle.apfs_model.proofs.Empty.{none-flat}
use Rattle.bt_node.specs.Entries.{Pair, bytes_in}
use Rattle.obj_base.specs.declared.site.Site.{Site}
use Rattle.bt_cursor.specs.Steps.{steps_of}
use Rattle.bt_cursor.specs.Whole.{is_whole}
use Rattle.nx_block.specs.Super.{omap_oid_of}
use Rattle.nx_ring.specs.Checkpoint.{Seen, site_of}
use Rattle.omap_map.specs.Maps.{contents_of}
use Rattle.vol_view.specs.Features.{snapshot_record_features}
use Rattle.vol_view.specs.Heads.{super_in}
use Rattle.vol_view.specs.SnapRecords.{metadata_tree, metadata_steps, snapshot_pairs, snap_super_of, snap_flags_of, is_snapshot_long}
use Rattle.vol_view.specs.Volumes.{Loaded, super_of, map_block_of, metadata_of, snapshot_in, loaded_of}
use Rattle.vol_view.specs.LoadStops.{metadata_root, has_whole_metadata, IsRightSnapshot, IsLoadable, IsVolumeOf}
use Rattle.vol_view.specs.declared.head.VolHead.{VolHead}
use Rattle.vol_view.specs.declared.volume.Snapshot.{Snapshot}
use Rattle.reach_rules.specs.declared.naming.ViewAt.{ViewAt}
use Rattle.reach_rules.specs.declared.naming.Object.TheVariants.{Newest, InBlock, OfRecord}
use Rattle.reach_rules.specs.declared.naming.Namer.{Namer}
use Rattle.reach_rules.specs.declared.naming.Namer.TheVariants.{Whole, Kept}
use Rattle.reach_rules.specs.declared.naming.TreeKind.TheVariants.{SnapMetadata}
use Rattle.reach_rules.specs.declared.naming.Expected.TheVariants.{VolumeIn, SnapshotSuper}
use Rattle.reach_rules.specs.declared.naming.Naming.{Naming}
use Rattle.reach_rules.specs.Resolved.{Found, resolved, standing}
use Rattle.reach_rules.specs.Tested.{tested}
use Rattle.reach_rules.specs.Next.{next}
use Rattle.reach_rules.specs.Live.{IsLive}
use Rattle.reach_rules.specs.Features.{Placed, placed_in, record_features, volume_object_features}
use Rattle.reach_rules.proofs.SpaceLifted.{block-found}
use Rattle.reach_gather.specs.Namings.{tree_steps, IsPlainNaming}
use Rattle.reach_gather.specs.Walked.{IsWholeTree}
use Rattle.reach_gather.proofs.OfKinds.{metadata-kind}
use Rattle.reach_gather.specs.Volumes.Told.{head_naming, map_of, told_view, super_in_view, map_in_volume, past_view_of}
use Rattle.reach_gather.specs.Volumes.Parts.{IsMapPart, IsSnapshotPart, HasWholeMetadata, volume_namer, IsVolumePart}
use Rattle.reach_gather.proofs.VolumeLemmas.Leads.{record-found, volume-passes, super-passes}
use Rattle.reach_gather.proofs.VolumeLemmas.Trees.{whole-tree}
use Rattle.reach_gather.proofs.VolumeLemmas.MapParts.{volume-map-part}
use Rattle.reach_gather.proofs.VolumeLemmas.Heads.{IsRightHead, super-sound, super-magic}
use Rattle.reach_gather.proofs.VolumeLemmas.Tellings.{contents-are, map-is, told-same}
use Rattle.reach_gather.proofs.Container.{plain-by}
use Rattle.reach_gather.proofs.Parts.{sound-next}

-- ---- no feature is there
record-plain : (pair : Pair) → snapshot_record_features (snap_flags_of (bytes_in pair.value)) ≡ [] → record_features pair ≡ []
record-plain pair e =
    let there : List Placed = placed_in (snap_super_of (bytes_in pair.value)) (snapshot_record_features (snap_flags_of (bytes_in pair.value))) in
    let none : there ≡ [] = ap (placed_in (snap_super_of (bytes_in pair.value))) e in
    elim (is_snapshot_long pair) as (λ b. (if b then there else []) ≡ []) [ true ↦ none | false ↦ refl ]

fields-plain : (image : List ℕ) (seen : Seen) (head : VolHead) → IsLoadable image (site_of seen) head → volume_object_features image seen head.block (super_of image (site_of seen) head) ≡ []
fields-plain image seen head right =
    let pairs : List Pair = snapshot_pairs (metadata_of image (site_of seen) head) in
    ap (λ fs. placed_in head.block fs ++ flat_map record_features pairs) right.plain
    ∙ none-flat record_features pairs (λ pair h. record-plain pair (right.snapshots pair h).unmarked)

-- ---- the superblocks of snapshots
record IsSuperPart (image : List ℕ) (seen : Seen) (view : ViewAt) (s : Snapshot) : Type 0 where
  plain : IsPlainNaming image seen (super_in_view view s)
  leads : next image seen (super_in_view view s) ≡ told_view (Whole (InBlock s.super_block)) view s.root_oid s.meta_ext

super-part : (image : List ℕ) (seen : Seen) (view : ViewAt) (pair : Pair) → IsRightSnapshot image (site_of seen) pair → IsSuperPart image seen view (snapshot_in image (site_of seen) pair)
unfolding snapshot_in
super-part image seen view pair right =
    let site : Site = site_of seen in
    let b : ℕ = snap_super_of (bytes_in pair.value) in
    let n : Naming = super_in_view view (snapshot_in image site pair) in
    let f : Found = standing image site (InBlock b) b in
    let found : resolved image seen n ≡ Some f = block-found image seen (Kept view) 8 (SnapshotSuper view) b right.inside in
    let sound : is_ok (tested site (SnapshotSuper view) b (super_in image site b)) ≡ true = super-passes site view b (super_in image site b) (super-sound image site None b right.super) (super-magic image site None b right.super) in
    record {
      plain = plain-by image seen n f found sound refl (ap (placed_in b) right.plain);
      leads = sound-next image seen n f found sound;
    }

-- snapshot i of a volume that can be loaded
snapshot-part : (image : List ℕ) (seen : Seen) (head : VolHead) → IsLoadable image (site_of seen) head → (i : ℕ) (s : Snapshot) → slice_get (loaded_of image (site_of seen) head).snaps i ≡ Some s → IsSnapshotPart image seen (loaded_of image (site_of seen) head) i s
unfolding loaded_of
snapshot-part image seen head right i s e =
    let site : Site = site_of seen in
    let pairs : List Pair = snapshot_pairs (metadata_of image site head) in
    let t = from-map (snapshot_in image site) pairs s (get-in (map (snapshot_in image site) pairs) i s e) in
    let view : ViewAt = past_view_of (loaded_of image site head) i s in
    let p : IsSuperPart image seen view s = subst (IsSuperPart image seen view) (sym t.1.1) (super-part image seen view t.0 (right.snapshots t.0 t.1.0)) in
    record { plain = p.plain; leads = p.leads }

-- the tree of its snapshots' records
metadata-whole : (image : List ℕ) (seen : Seen) (head : VolHead) → IsLoadable image (site_of seen) head → ((loaded_of image (site_of seen) head).snaps_root == 0) ≡ false → IsWholeTree image seen SnapMetadata (loaded_of image (site_of seen) head).snaps_root
unfolding loaded_of has_whole_metadata
metadata-whole image seen head right some =
    let root : ℕ = metadata_root image (site_of seen) head in
    whole-tree (metadata-kind image seen) root (λ item. refl) (other-true (root == 0) (is_whole (metadata_tree image (site_of seen)) root) some right.metadata)

-- and its steps
metadata-steps : (image : List ℕ) (seen : Seen) (head : VolHead) → ((loaded_of image (site_of seen) head).snaps_root == 0) ≡ false → (loaded_of image (site_of seen) head).snaps_steps ≡ tree_steps image seen SnapMetadata (loaded_of image (site_of seen) head).snaps_root
unfolding loaded_of metadata_steps tree_steps
metadata-steps image seen head some =
    let root : ℕ = metadata_root image (site_of seen) head in
    ap (λ (b : Bool). if b then [] else steps_of (metadata_tree image (site_of seen)) root) some

metadata-part : (image : List ℕ) (seen : Seen) (head : VolHead) → IsLoadable image (site_of seen) head → HasWholeMetadata image seen (loaded_of image (site_of seen) head)
metadata-part image seen head right = record { whole = metadata-whole image seen head right; steps = metadata-steps image seen head }

-- ---- the volume
pub loaded-part : (image : List ℕ) (seen : Seen) (head : VolHead) → IsRightHead image seen head → IsLive image seen (head_naming head) → IsLoadable image (site_of seen) head → IsVolumePart image seen head (loaded_of image (site_of seen) head)
loaded-part image seen head h live right =
    let site : Site = site_of seen in
    let n : Naming = head_naming head in
    let me : Namer = volume_namer seen h.mapping in
    let bytes : List ℕ = super_of image site head in
    let f : Found = standing image site (OfRecord (omap_oid_of seen.nx) h.mapping) head.block in
    let found : resolved image seen n ≡ Some f = record-found image seen (Whole Newest) (184 + 8 * head.slot) (VolumeIn head.slot) head.oid head.block h.mapping h.mapped h.inside in
    let sound : is_ok (tested site (VolumeIn head.slot) head.oid bytes) ≡ true = volume-passes site head.slot head.oid bytes h.sound h.magic in
    let at : map_of (loaded_of image site head) ≡ map_block_of image site head = map-is image site head right.map in
    record {
      mapping = h.mapping;
      mapped = h.mapped;
      found = found;
      plain = plain-by image seen n f found sound (ap (placed_in h.mapping.paddr) h.plain) (fields-plain image seen head right);
      leads = sound-next image seen n f found sound ∙ sym (told-same image seen head me right);
      map = subst (λ b. IsMapPart image seen (map_in_volume me b)) (sym at) (volume-map-part image seen me (map_block_of image site head) right.map right.settled right.unmarked);
      contents = contents-are image site head right.map ∙ ap (contents_of image site) (sym at);
      snapshots = snapshot-part image seen head right;
      metadata = metadata-part image seen head right;
      gives = record { naming = n; object = f; names = record { names = record { live = live; found = found }; sound = sound }; volume = refl; gives = at };
    }

pub volume-part : (image : List ℕ) (seen : Seen) (head : VolHead) (volume : Loaded) → IsRightHead image seen head → IsLive image seen (head_naming head) → IsVolumeOf image (site_of seen) head volume → IsVolumePart image seen head volume
volume-part image seen head volume h live of = subst (IsVolumePart image seen head) (sym of.same) (loaded-part image seen head h live of.right)
