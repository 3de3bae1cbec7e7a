-- What a walk over a tree of an image tells of named objects: over the trees of views, of object maps and of snapshots.
use Rattle.std.proofs.Common.{◌≡◌, ℕ, Bool, true, false, List, refl, ap, sym, ◌∙◌, subst}
use Rattle.std.specs.Prelude.{option_and_then}
use Rattle.apfs_model.specs.Blocks.{in_container}
use Rattle.obj_base.specs.declared.stop.Feature.{Feature}
use Rattle.obj_base.specs.declared.stop.Stop.{Stop}
use Rattle.obj_base.specs.declared.stop.Stop.TheVariants.{Found as Fails, Unsupported}
use Rattle.obj_base.specs.declared.stop.Within.TheVariants.{Volume}
use Rattle.bt_node.specs.declared.fault.NodeFault.{NodeFault}
use Rattle.obj_base.specs.declared.site.Site.{Site}
use Rattle.bt_keys.specs.Shapes.{FsKey, fs_shape, FsPlainKey, fs_plain_shape}
use Rattle.bt_cursor.specs.declared.fault.WalkFault.{WalkFault}
use Rattle.bt_cursor.specs.declared.fault.WalkFault.TheVariants as walks
use Rattle.bt_cursor.specs.Tree.{Tree, block_named}
use Rattle.bt_cursor.specs.Faults.{HasGap}
use Rattle.nx_ring.specs.Checkpoint.{Seen, site_of}
use Rattle.omap_map.specs.Loading.{named_in}
use Rattle.fs_name.specs.Normal.{are_hashed}
use Rattle.vol_view.specs.Volumes.{map_block_of, loaded_of}
use Rattle.vol_view.specs.Views.{view_named, hashed_tree, plain_tree, FactBy, IsViewFault, IsViewFeature}
use Rattle.vol_view.specs.declared.head.VolHead.{VolHead}
use Rattle.vol_view.specs.declared.volume.View.{View}
use Rattle.vol_view.proofs.Maps.{named-in_image}
use Rattle.reach_rules.specs.declared.fault.Why.TheVariants.{Node}
use Rattle.reach_rules.specs.declared.naming.ViewAt.{ViewAt}
use Rattle.reach_rules.specs.declared.naming.LookUp.TheVariants.{InView}
use Rattle.reach_rules.specs.declared.naming.TreeKind.TheVariants.{Files}
use Rattle.reach_rules.specs.Resolved.{found_virtual}
use Rattle.reach_rules.specs.Features.{HasFeature}
use Rattle.reach_rules.specs.Faults.{IsUnsound, IsUnnamed}
use Rattle.apfs_check.specs.Volumes.{volume_of}
use Rattle.reach_rules.proofs.Walks.{Matches, IsWalkOf, IsRootNaming, Told, gap-told}
use Rattle.reach_rules.proofs.Looks.{virtual-match}
use Rattle.apfs_check.proofs.Named.{IsViewNamed}

-- in a view of a volume too
view-match : (image : List ℕ) (seen : Seen) (head : VolHead) (view : View) (at : ViewAt) (oid : ℕ) → at.xid ≡ view.xid → at.map ≡ map_block_of image (site_of seen) head →
    Matches image (site_of seen) (found_virtual image (site_of seen) at.map at.xid oid) (block_named (site_of seen) (view_named (site_of seen) (volume_of image seen head) view) oid)
unfolding loaded_of
view-match image seen head view at oid x m =
    let site : Site = site_of seen in
    let block : ℕ = map_block_of image site head in
    let named : view_named site (volume_of image seen head) view oid ≡ named_in image site at.map at.xid oid =
    named-in_image image site block view.xid oid ∙ (ap (λ k. named_in image site k view.xid oid) (sym m) ∙ ap (λ k. named_in image site at.map k oid) (sym x)) in
    subst (λ o. Matches image site (found_virtual image site at.map at.xid oid) (option_and_then (in_container site.blocks) o)) (sym named) (virtual-match image site at.map at.xid oid)

-- the trees of a view are walked as they are named
hashed-walk : (image : List ℕ) (seen : Seen) (head : VolHead) (view : View) (n : IsViewNamed image seen head view) → IsWalkOf image seen (Files true) (InView n.at) fs_shape (view_named (site_of seen) (volume_of image seen head) view)
hashed-walk image seen head view n = record { answer = λ at bytes. refl; kids = λ bytes. refl; found = λ e oid s. view-match image seen head view n.at oid n.xid_is n.map_is }

plain-walk : (image : List ℕ) (seen : Seen) (head : VolHead) (view : View) (n : IsViewNamed image seen head view) → IsWalkOf image seen (Files false) (InView n.at) fs_plain_shape (view_named (site_of seen) (volume_of image seen head) view)
plain-walk image seen head view n = record { answer = λ at bytes. refl; kids = λ bytes. refl; found = λ e oid s. view-match image seen head view n.at oid n.xid_is n.map_is }

-- what is there where a walk over a view meets no node
pub view-told : (image : List ℕ) (seen : Seen) (head : VolHead) (view : View) (n : IsViewNamed image seen head view) (why : Stop WalkFault) →
    FactBy (are_hashed (volume_of image seen head).names)
    (HasGap (hashed_tree image (site_of seen) (volume_of image seen head) view) view.root_oid why)
    (HasGap (plain_tree image (site_of seen) (volume_of image seen head) view) view.root_oid why)
    → Told image seen (InView n.at) why
view-told image seen head view n why =
    let hashed : Tree FsKey = hashed_tree image (site_of seen) (volume_of image seen head) view in
    let plain : Tree FsPlainKey = plain_tree image (site_of seen) (volume_of image seen head) view in
    let go : (b : Bool) → n.at.hashed ≡ b → FactBy b (HasGap hashed view.root_oid why) (HasGap plain view.root_oid why) → Told image seen (InView n.at) why =
    λ b. elim b as (λ b. n.at.hashed ≡ b → FactBy b (HasGap hashed view.root_oid why) (HasGap plain view.root_oid why) → Told image seen (InView n.at) why) [
      | true ↦ λ e gap.
          gap-told image seen (Files true) (InView n.at) fs_shape (view_named (site_of seen) (volume_of image seen head) view) (hashed-walk image seen head view n) view.root_oid
          (subst (λ h. IsRootNaming image seen (Files h) (InView n.at) view.root_oid) e n.root) why gap
      | false ↦ λ e gap.
          gap-told image seen (Files false) (InView n.at) fs_plain_shape (view_named (site_of seen) (volume_of image seen head) view) (plain-walk image seen head view n) view.root_oid
          (subst (λ h. IsRootNaming image seen (Files h) (InView n.at) view.root_oid) e n.root) why gap
    ] in
    go (are_hashed (volume_of image seen head).names) n.hashed_is

pub view-unsound : (image : List ℕ) (seen : Seen) (head : VolHead) (view : View) → IsViewNamed image seen head view → (block : ℕ) (why : NodeFault) → IsViewFault image (site_of seen) (volume_of image seen head) view (walks.Unsound block why) → IsUnsound image seen block (Node why)
view-unsound image seen head view n block why there = view-told image seen head view n (Fails (walks.Unsound block why)) there

pub view-unnamed : (image : List ℕ) (seen : Seen) (head : VolHead) (view : View) → IsViewNamed image seen head view → (oid : ℕ) → IsViewFault image (site_of seen) (volume_of image seen head) view (walks.Unnamed oid) → IsUnnamed image seen (Volume view.slot) oid view.xid
view-unnamed image seen head view n oid there =
    let t : IsUnnamed image seen (Volume n.at.slot) oid n.at.xid = view-told image seen head view n (Fails (walks.Unnamed oid)) there in
    subst (λ x. IsUnnamed image seen (Volume view.slot) oid x) n.xid_is (subst (λ s. IsUnnamed image seen (Volume s) oid n.at.xid) n.slot_is t)

pub view-feature : (image : List ℕ) (seen : Seen) (head : VolHead) (view : View) → IsViewNamed image seen head view → (feature : Feature) (block : ℕ) → IsViewFeature image (site_of seen) (volume_of image seen head) view feature block → HasFeature image seen feature block
view-feature image seen head view n feature block there = view-told image seen head view n (Unsupported feature block) there
