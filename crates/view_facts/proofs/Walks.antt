-- What a walk over a view's tree answers, said of the view.
use Rattle.std.proofs.Common.{◌≡◌, ℕ, Bool, true, false, List, length, Option, Some, None, Result, Err, refl, ap, sym, ◌∙◌, subst}
use Rattle.apfs_model.specs.Counts.{given}
use Rattle.obj_base.specs.declared.site.Site.{Site}
use Rattle.obj_base.specs.declared.stop.Stop.{Stop}
use Rattle.obj_base.specs.declared.stop.Stop.TheVariants.{Found, Unsupported, ReadFault, NoMemory}
use Rattle.obj_base.specs.Stops.{Tells}
use Rattle.bt_node.specs.Entries.{Pair}
use Rattle.bt_cursor.specs.Tree.{Tree}
use Rattle.bt_cursor.specs.Line.{Item, line_of}
use Rattle.bt_cursor.specs.WholeTree.{leaf_pairs, IsWhole}
use Rattle.bt_cursor.specs.Met.{nodes_of}
use Rattle.bt_cursor.specs.Faults.{HasFeature}
use Rattle.bt_cursor.specs.Gathered.{IsGatherFault}
use Rattle.bt_cursor.specs.declared.gathering.GatherFault.{GatherFault}
use Rattle.bt_cursor.specs.declared.gathering.GatherFault.TheVariants as gathers
use Rattle.bt_cursor.specs.declared.fault.WalkFault.{WalkFault}
use Rattle.bt_cursor.specs.declared.fault.WalkFault.TheVariants as walks
use Rattle.bt_cursor.proofs.Flats.{line-pairs}
use Rattle.bt_cursor.proofs.Wholes.{means_whole}
use Rattle.fs_name.specs.declared.naming.Names.{Names}
use Rattle.fs_name.specs.Normal.{are_hashed}
use Rattle.ext_ref.specs.declared.range.NewRange.{NewRange}
use Rattle.vol_view.specs.Volumes.{Loaded}
use Rattle.vol_view.specs.Views.{hashed_tree, plain_tree, view_flat, view_line, is_view_walkable, is_view_counted, is_view_whole, FactBy, IsViewFeature, IsViewFault}
use Rattle.vol_view.specs.Placed.{view_nodes}
use Rattle.vol_view.specs.declared.volume.View.{View}
use Rattle.view_rules.specs.Facts.{Facts, facts_in}
use Rattle.view_rules.specs.Rules.{IsTreeFault}
use Rattle.view_rules.specs.Listed.{raised}
use Rattle.view_rules.specs.declared.fault.TreeFault.{TreeFault}
use Rattle.view_rules.specs.declared.profile.Profile.{Profile}
use Rattle.view_facts.specs.Contents.{kept_facts}
use Rattle.view_facts.specs.Refusals.{IsRefusal}
use Rattle.view_facts.specs.Kept.{IsKeptOf, IsWalked, IsWalkedView}
use Rattle.view_facts.specs.Stops.{SaysOfView, IsRaised, IsOfWalk}
use Rattle.view_facts.specs.declared.keep.Refusal.{Refusal}
use Rattle.view_facts.specs.declared.gathering.Walked.{Walked}
use Rattle.view_facts.proofs.NamesAlike.{facts-alike, records-alike, record-alike}

-- why a walk stops is there, said of the view
pub says_tells : {K : Type 0} (view : View) (tree : Tree K) (root : ℕ) (stop : Stop GatherFault) (other : Stop TreeFault) → SaysOfView view stop other → Tells (IsGatherFault tree root (λ _. false)) (HasFeature tree root) stop → Tells (IsRaised view tree root) (HasFeature tree root) other
says_tells view tree root (Found (gathers.Tree why)) other says told = subst (Tells (IsRaised view tree root) (HasFeature tree root)) (sym says) (record { why = why; same = refl; there = told })
says_tells view tree root (Found (gathers.Refused item)) other says told = absurd says
says_tells view tree root (Unsupported feature block) other says told = subst (Tells (IsRaised view tree root) (HasFeature tree root)) (sym says) told
says_tells view tree root ReadFault other says told = subst (Tells (IsRaised view tree root) (HasFeature tree root)) (sym says) tt
says_tells view tree root NoMemory other says told = subst (Tells (IsRaised view tree root) (HasFeature tree root)) (sym says) tt

err-same : {T E : Type 0} (a b : E) → ◌≡◌ {A = Result T E} (Err a) (Err b) → a ≡ b
err-same a b e = cc

same-fault : (a b : TreeFault) → ◌≡◌ {A = Stop TreeFault} (Found a) (Found b) → a ≡ b
same-fault a b e = cc

-- a fault that it names is one of the walk
says-walked : (view : View) (stop : Stop GatherFault) (other : Stop TreeFault) (fault : TreeFault) → SaysOfView view stop other → other ≡ Found fault → IsOfWalk view fault
says-walked view (Found (gathers.Tree why)) other fault says e = (why, sym (same-fault (raised view why) fault (sym says ∙ e)))
says-walked view (Found (gathers.Refused item)) other fault says e = absurd says
says-walked view (Unsupported feature block) other fault says e = absurd (let s : ◌≡◌ {A = Stop TreeFault} (Unsupported feature block) (Found fault) = sym says ∙ e in cc)
says-walked view ReadFault other fault says e = absurd (let s : ◌≡◌ {A = Stop TreeFault} ReadFault (Found fault) = sym says ∙ e in cc)
says-walked view NoMemory other fault says e = absurd (let s : ◌≡◌ {A = Stop TreeFault} NoMemory (Found fault) = sym says ∙ e in cc)

pub says_walked : {T : Type 0} (view : View) (stop : Stop GatherFault) (other : Stop TreeFault) (fault : TreeFault) → SaysOfView view stop other → ◌≡◌ {A = Result T (Stop TreeFault)} (Err other) (Err (Found fault)) → IsOfWalk view fault
says_walked view stop other fault says e = says-walked view stop other fault says (err-same other (Found fault) e)

refusal-alike : (a b : Names) (line : List Item) (refusal : Option Refusal) → are_hashed a ≡ are_hashed b → IsRefusal a line refusal → IsRefusal b line refusal
refusal-alike a b line None e had = records-alike a b line e had
refusal-alike a b line (Some r) e had = record-alike a b line r.item r.why e had

-- what was kept of a whole tree, with the other names
pub walked : {K : Type 0} (files : Bool) (tree : Tree K) (root : ℕ) (facts later : Facts) (names : Names) (items records : ℕ) (refusal : Option Refusal) → are_hashed facts.names ≡ are_hashed names → IsWhole tree root → IsKeptOf files facts items records refusal (line_of tree root) → later ≡ record facts { names = names }
    → IsWalked files tree root names (record { facts = later; records = records; refusal = refusal })
walked files tree root facts later names items records refusal e whole kept renamed = record {
  whole = whole;
  facts = renamed ∙ (facts-alike files facts names (leaf_pairs (line_of tree root)) e kept.said ∙ ap (λ ps. kept_facts files (facts_in names ps)) (line-pairs tree root));
  records = kept.counted ∙ ap (λ (ps : List Pair). given (length ps)) (line-pairs tree root);
  refusal = refusal-alike facts.names names (line_of tree root) refusal e kept.refused;
}

-- what was kept of a tree with hashed names is what was kept of the view
pub walked-hashed : (files : Bool) (image : List ℕ) (site : Site) (volume : Loaded) (view : View) (w : Walked) → are_hashed volume.names ≡ true → IsWalked files (hashed_tree image site volume view) view.root_oid volume.names w → IsWalkedView files image site volume view w
unfolding view_flat view_line is_view_walkable is_view_counted is_view_whole
walked-hashed files image site volume view w e h = record {
  walkable = rw e h.whole.walkable;
  ordered = rw e h.whole.ordered;
  counted = rw e h.whole.counted;
  whole = rw e (means_whole (hashed_tree image site volume view) view.root_oid h.whole);
  facts = rw e h.facts;
  records = rw e h.records;
  refusal = rw e h.refusal;
}

pub walked-plain : (files : Bool) (image : List ℕ) (site : Site) (volume : Loaded) (view : View) (w : Walked) → are_hashed volume.names ≡ false → IsWalked files (plain_tree image site volume view) view.root_oid volume.names w → IsWalkedView files image site volume view w
unfolding view_flat view_line is_view_walkable is_view_counted is_view_whole
walked-plain files image site volume view w e h = record {
  walkable = rw e h.whole.walkable;
  ordered = rw e h.whole.ordered;
  counted = rw e h.whole.counted;
  whole = rw e (means_whole (plain_tree image site volume view) view.root_oid h.whole);
  facts = rw e h.facts;
  records = rw e h.records;
  refusal = rw e h.refusal;
}

-- the nodes of a view are those of its tree
pub nodes-hashed : (image : List ℕ) (site : Site) (volume : Loaded) (view : View) → are_hashed volume.names ≡ true → view_nodes image site volume view ≡ nodes_of (hashed_tree image site volume view) view.root_oid
unfolding view_nodes
nodes-hashed image site volume view e = rw e refl

pub nodes-plain : (image : List ℕ) (site : Site) (volume : Loaded) (view : View) → are_hashed volume.names ≡ false → view_nodes image site volume view ≡ nodes_of (plain_tree image site volume view) view.root_oid
unfolding view_nodes
nodes-plain image site volume view e = rw e refl

-- a fault of a walk is one of the view
raised-fault : (profile : Profile) (image : List ℕ) (site : Site) (volume : Loaded) (view : View) (ranges : List NewRange) (why : WalkFault) → IsViewFault image site volume view why → IsTreeFault profile image site volume view ranges (raised view why)
raised-fault profile image site volume view ranges (walks.Unsound block why) h = h
raised-fault profile image site volume view ranges (walks.Unnamed oid) h = ((refl, refl), h)
raised-fault profile image site volume view ranges (walks.Order item) h = ((refl, refl), h)
raised-fault profile image site volume view ranges walks.Counts h = ((refl, refl), h)

by-true : (b : Bool) (P Q : Type 0) → b ≡ true → P → FactBy b P Q
by-true b P Q e p = subst (λ t. FactBy t P Q) (sym e) p

by-false : (b : Bool) (P Q : Type 0) → b ≡ false → Q → FactBy b P Q
by-false b P Q e q = subst (λ t. FactBy t P Q) (sym e) q

pub tells-hashed : (profile : Profile) (image : List ℕ) (site : Site) (volume : Loaded) (view : View) (ranges : List NewRange) (stop : Stop TreeFault) → are_hashed volume.names ≡ true
    → Tells (IsRaised view (hashed_tree image site volume view) view.root_oid) (HasFeature (hashed_tree image site volume view) view.root_oid) stop → Tells (IsTreeFault profile image site volume view ranges) (IsViewFeature image site volume view) stop
tells-hashed profile image site volume view ranges (Found fault) e h = subst (IsTreeFault profile image site volume view ranges) (sym h.same) (raised-fault profile image site volume view ranges h.why (by-true (are_hashed volume.names) _ _ e h.there))
tells-hashed profile image site volume view ranges (Unsupported feature block) e h = by-true (are_hashed volume.names) _ _ e h
tells-hashed profile image site volume view ranges ReadFault e h = tt
tells-hashed profile image site volume view ranges NoMemory e h = tt

pub tells-plain : (profile : Profile) (image : List ℕ) (site : Site) (volume : Loaded) (view : View) (ranges : List NewRange) (stop : Stop TreeFault) → are_hashed volume.names ≡ false
    → Tells (IsRaised view (plain_tree image site volume view) view.root_oid) (HasFeature (plain_tree image site volume view) view.root_oid) stop → Tells (IsTreeFault profile image site volume view ranges) (IsViewFeature image site volume view) stop
tells-plain profile image site volume view ranges (Found fault) e h = subst (IsTreeFault profile image site volume view ranges) (sym h.same) (raised-fault profile image site volume view ranges h.why (by-false (are_hashed volume.names) _ _ e h.there))
tells-plain profile image site volume view ranges (Unsupported feature block) e h = by-false (are_hashed volume.names) _ _ e h
tells-plain profile image site volume view ranges ReadFault e h = tt
tells-plain profile image site volume view ranges NoMemory e h = tt
