-- What stops a look-up of an id's inode is there.
use Rattle.std.proofs.Common.{◌≡◌, ℕ, Bool, true, false, cond, List, refl, ap, sym, ◌∙◌, subst}
use Rattle.std.proofs.lemmas.Bool.{false≢true}
use Rattle.obj_base.specs.Stops.{Tells}
use Rattle.obj_base.specs.declared.site.Site.{Site}
use Rattle.obj_base.specs.declared.stop.Stop.{Stop}
use Rattle.obj_base.specs.declared.stop.Stop.TheVariants.{Found, Unsupported}
use Rattle.bt_node.specs.Entries.{Pair}
use Rattle.bt_cursor.specs.Tree.{Tree}
use Rattle.bt_cursor.specs.Flat.{flat_of}
use Rattle.bt_cursor.specs.Whole.{is_whole}
use Rattle.bt_cursor.specs.Faults.{IsWalkFault, HasFeature}
use Rattle.bt_cursor.specs.Gathered.{IsGatherFault}
use Rattle.bt_cursor.specs.declared.gathering.GatherFault.{GatherFault}
use Rattle.bt_cursor.specs.declared.gathering.GatherFault.TheVariants as gathers
use Rattle.bt_cursor.proofs.Wholes.{means_whole}
use Rattle.fs_name.specs.Normal.{are_hashed}
use Rattle.vol_view.specs.Volumes.{Loaded}
use Rattle.vol_view.specs.Views.{hashed_tree, plain_tree, is_view_whole, FactBy, IsViewFeature}
use Rattle.vol_view.specs.declared.volume.View.{View}
use Rattle.path_search.proofs.Viewed.{hashed_flat, plain_flat}
use Rattle.tree_export.specs.Faults.{IsRefusedInode, LacksInode}
use Rattle.tree_export.specs.Stopping.{IsFaultOf}
use Rattle.tree_export.specs.Parts.{IsLookupFault, gather_raised}
use Rattle.tree_export.specs.declared.stop.ExportFault.{ExportFault}
use Rattle.tree_export.specs.declared.stop.ExportFault.TheVariants as faults

-- ---- in a tree

-- why a walk over all of it stops
pub gather_lookup : {K : Type 0} (tree : Tree K) (root id : ℕ) (stop : Stop GatherFault) → Tells (IsGatherFault tree root (λ _. false)) (HasFeature tree root) stop → Tells (IsLookupFault tree root id) (HasFeature tree root) (gather_raised id stop)
gather_lookup tree root id (Found (gathers.Tree why)) h = (refl, h)
gather_lookup tree root id (Found (gathers.Refused item)) h = absurd (false≢true h.refused)
gather_lookup tree root id stop h = h

-- ---- in a view
by-true : (b : Bool) (P Q : Type 0) → b ≡ true → P → FactBy b P Q
by-true true P Q e p = p
by-true false P Q e p = absurd (let q : ⊥ = cc in q)

by-false : (b : Bool) (P Q : Type 0) → b ≡ false → Q → FactBy b P Q
by-false true P Q e q = absurd (let p : ⊥ = cc in p)
by-false false P Q e q = q

hashed-whole : (image : List ℕ) (site : Site) (volume : Loaded) (view : View) → are_hashed volume.names ≡ true → is_whole (hashed_tree image site volume view) view.root_oid ≡ true → is_view_whole image site volume view ≡ true
unfolding is_view_whole
hashed-whole image site volume view e whole = ap (λ b. cond b (is_whole (hashed_tree image site volume view) view.root_oid) (is_whole (plain_tree image site volume view) view.root_oid)) e ∙ whole

plain-whole : (image : List ℕ) (site : Site) (volume : Loaded) (view : View) → are_hashed volume.names ≡ false → is_whole (plain_tree image site volume view) view.root_oid ≡ true → is_view_whole image site volume view ≡ true
unfolding is_view_whole
plain-whole image site volume view e whole = ap (λ b. cond b (is_whole (hashed_tree image site volume view) view.root_oid) (is_whole (plain_tree image site volume view) view.root_oid)) e ∙ whole

pub hashed_lookup : (image : List ℕ) (site : Site) (volume : Loaded) (view : View) (id : ℕ) (stop : Stop ExportFault) → are_hashed volume.names ≡ true →
    Tells (IsLookupFault (hashed_tree image site volume view) view.root_oid id) (HasFeature (hashed_tree image site volume view) view.root_oid) stop → Tells (IsFaultOf image site volume view id) (IsViewFeature image site volume view) stop
hashed_lookup image site volume view id (Found (faults.Stream own why)) e h = absurd h
hashed_lookup image site volume view id (Found (faults.Walk own why)) e h = (h.0, by-true (are_hashed volume.names) (IsWalkFault (hashed_tree image site volume view) view.root_oid why) (IsWalkFault (plain_tree image site volume view) view.root_oid why) e h.1)
hashed_lookup image site volume view id (Found (faults.Value own why)) e h =
    (h.0, subst (λ (ps : List Pair). IsRefusedInode ps own why) (sym (hashed_flat image site volume view e)) (subst (λ (n : ℕ). IsRefusedInode (flat_of (hashed_tree image site volume view) view.root_oid) n why) (sym h.0) h.1))
hashed_lookup image site volume view id (Found (faults.NoInode own)) e h =
    (h.0, (hashed-whole image site volume view e (means_whole (hashed_tree image site volume view) view.root_oid h.1), subst (λ (ps : List Pair). LacksInode ps own) (sym (hashed_flat image site volume view e)) (subst (λ (n : ℕ). LacksInode (flat_of (hashed_tree image site volume view) view.root_oid) n) (sym h.0) h.2)))
hashed_lookup image site volume view id (Unsupported feature block) e h = by-true (are_hashed volume.names) (HasFeature (hashed_tree image site volume view) view.root_oid feature block) (HasFeature (plain_tree image site volume view) view.root_oid feature block) e h
hashed_lookup image site volume view id stop e h = tt

pub plain_lookup : (image : List ℕ) (site : Site) (volume : Loaded) (view : View) (id : ℕ) (stop : Stop ExportFault) → are_hashed volume.names ≡ false →
    Tells (IsLookupFault (plain_tree image site volume view) view.root_oid id) (HasFeature (plain_tree image site volume view) view.root_oid) stop → Tells (IsFaultOf image site volume view id) (IsViewFeature image site volume view) stop
plain_lookup image site volume view id (Found (faults.Stream own why)) e h = absurd h
plain_lookup image site volume view id (Found (faults.Walk own why)) e h = (h.0, by-false (are_hashed volume.names) (IsWalkFault (hashed_tree image site volume view) view.root_oid why) (IsWalkFault (plain_tree image site volume view) view.root_oid why) e h.1)
plain_lookup image site volume view id (Found (faults.Value own why)) e h =
    (h.0, subst (λ (ps : List Pair). IsRefusedInode ps own why) (sym (plain_flat image site volume view e)) (subst (λ (n : ℕ). IsRefusedInode (flat_of (plain_tree image site volume view) view.root_oid) n why) (sym h.0) h.1))
plain_lookup image site volume view id (Found (faults.NoInode own)) e h =
    (h.0, (plain-whole image site volume view e (means_whole (plain_tree image site volume view) view.root_oid h.1), subst (λ (ps : List Pair). LacksInode ps own) (sym (plain_flat image site volume view e)) (subst (λ (n : ℕ). LacksInode (flat_of (plain_tree image site volume view) view.root_oid) n) (sym h.0) h.2)))
plain_lookup image site volume view id (Unsupported feature block) e h = by-false (are_hashed volume.names) (HasFeature (hashed_tree image site volume view) view.root_oid feature block) (HasFeature (plain_tree image site volume view) view.root_oid feature block) e h
plain_lookup image site volume view id stop e h = tt
