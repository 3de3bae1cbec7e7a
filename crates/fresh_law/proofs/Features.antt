-- No feature is there.
use Rattle.std.proofs.Common.{◌≡◌, ℕ, false, List, [], ◌++◌, refl, ap, ◌∙◌, subst}
use Rattle.apfs_model.specs.Lists.{through}
use Rattle.nx_block.specs.Reaper.{is_reaping}
use Rattle.nx_ring.specs.Checkpoint.{site_of}
use Rattle.nx_ring.specs.Features.{is_fusion as is_fusion_container, has_other_version, has_unknown_feature, is_resizing, container_features}
use Rattle.vol_view.specs.Features.{is_to_revert, has_keys, is_rolling, is_sealed, has_seal, has_dataless, is_restoring, has_other_root, has_other_trees, has_later_tree, has_unknown, volume_features}
use Rattle.reach_rules.specs.Resolved.{Found}
use Rattle.reach_rules.specs.Tested.{tested}
use Rattle.reach_rules.specs.Features.{field_features, tested_features, used_features, features_through}
use Rattle.reach_rules.specs.Accounted.{IsPlain}
use Rattle.reach_rules.proofs.Nexts.{Each, each-in}
use Rattle.img_format.specs.declared.spec.Spec.{Spec}
use Rattle.img_format.specs.Valid.{IsValid}
use Rattle.fresh_law.specs.Site.{block_at}
use Rattle.fresh_law.specs.Checkpoint.{seen}
use Rattle.fresh_law.specs.Facts.{IsSuper, IsVolume, IsReaper, IsFresh}
use Rattle.fresh_law.proofs.Sites.{site-is}
use Rattle.fresh_law.proofs.Maps.{container-map, volume-map}
use Rattle.fresh_law.proofs.Space.{plain}
use Rattle.fresh_law.proofs.Rows.{IsRow, no-metadata}
use Rattle.fresh_law.proofs.Named.{live-has, row-of}
use Rattle.fresh_law.proofs.Roots as known

-- of the container
pub first-plain : (spec : Spec) (nx : List ℕ) → IsSuper spec nx → container_features nx ≡ []
unfolding container_features is_fusion_container has_other_version has_unknown_feature is_resizing
first-plain spec nx n = rw (n.incompat, n.blocked, n.eviction)

-- of the volume
pub volume-plain : (spec : Spec) (bytes : List ℕ) → IsVolume spec bytes → volume_features bytes ≡ []
unfolding is_to_revert has_keys is_rolling is_sealed has_seal has_dataless is_restoring has_other_root has_other_trees has_later_tree has_unknown
volume-plain spec bytes v = rw (v.revert, v.flags, v.incompat, v.rolling, v.integrity, v.file_extents, v.root_type, v.extents_type, v.snaps_type, v.reserved)

reaper-plain : (bytes : List ℕ) → IsReaper bytes → is_reaping bytes ≡ false
reaper-plain bytes r = rw r.flags

-- through a row
abbrev IsFeatureless : List ℕ → known.Row → Type 0
IsFeatureless image row = used_features (site_of (seen image)) row.object ++ field_features image (seen image) row.naming.expected row.block (block_at image row.block) ≡ []

features-are : (image : List ℕ) (row : known.Row) → IsRow image row → IsFeatureless image row → features_through image (seen image) row.naming ≡ []
unfolding features_through
features-are image row i w =
    let n = row.naming in
    ap (λ o. through o (λ (f : Found). used_features (site_of (seen image)) f.object ++ tested_features image (seen image) n.expected f (tested (site_of (seen image)) n.expected n.oid f.bytes))) i.named
    ∙ ap (λ a. used_features (site_of (seen image)) row.object ++ tested_features image (seen image) n.expected (known.found image row) a) i.sound
    ∙ w

manager-free : (spec : Spec) (image : List ℕ) → IsFresh spec image → IsFeatureless image known.manager_row
manager-free spec image f = rw (plain spec (block_at image 9) f.manager)

map-free : (spec : Spec) (image : List ℕ) → IsValid spec → IsFresh spec image → IsFeatureless image known.map_row
map-free spec image v f =
    let m = container-map spec image v f in
    rw (m.settled, site-is spec image f, m.snapshots, f.container_map.count)

volume_map-free : (spec : Spec) (image : List ℕ) → IsValid spec → IsFresh spec image → IsFeatureless image known.volume_map_row
volume_map-free spec image v f =
    let m = volume-map spec image v f in
    rw (m.settled, site-is spec image f, m.snapshots)

reaper-free : (spec : Spec) (image : List ℕ) → IsFresh spec image → IsFeatureless image known.reaper_row
reaper-free spec image f = rw (reaper-plain (block_at image 10) f.reaper)

volume-free : (spec : Spec) (image : List ℕ) → IsValid spec → IsFresh spec image → IsFeatureless image known.volume_row
volume-free spec image v f = rw (site-is spec image f, volume-plain spec (block_at image 51) f.volume, no-metadata spec image v f)

files-free : (spec : Spec) (image : List ℕ) → IsFresh spec image → IsFeatureless image known.files_row
files-free spec image f = rw (site-is spec image f)

all-free : (spec : Spec) (image : List ℕ) → IsValid spec → IsFresh spec image → Each (IsFeatureless image) known.rows
all-free spec image v f =
    (manager-free spec image f, (map-free spec image v f, (reaper-free spec image f, (volume-free spec image v f, (refl, (refl, (refl, (refl, (volume_map-free spec image v f, (files-free spec image f, (refl, (refl, (refl, tt)))))))))))))

pub is-plain : (spec : Spec) (image : List ℕ) → IsValid spec → IsFresh spec image → IsPlain image (seen image)
is-plain spec image v f = record {
  first = first-plain spec (block_at image 2) f.newest;
  all = λ n l.
      let h = live-has spec image v f n l in
      subst (λ x. features_through image (seen image) x ≡ []) h.same (features-are image h.row (row-of spec image v f h.row h.one) (each-in (IsFeatureless image) known.rows h.row (all-free spec image v f) h.one));
}
