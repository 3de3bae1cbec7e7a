-- The tree of a view is walkable, ordered and counted, and its records can be read, or something is there.
use Rattle.std.proofs.Common.{◌≡◌, ℕ, Bool, true, false, List, [], ◌∷◌, Option, Some, None, Result, Ok, Err, ◌⊎◌, inl, inr, refl, ap, sym, ◌∙◌, subst}
use Rattle.std.specs.Prelude.{is_ok, is_none, ◌&&◌, if◌then◌else◌}
use Rattle.std.specs.List.{list_all}
use Rattle.std.proofs.lemmas.Bool.{false≢true}
use Rattle.apfs_model.specs.Blocks.{block_of}
use Rattle.apfs_model.specs.Counts.{given}
use Rattle.apfs_model.specs.Lists.{In}
use Rattle.obj_base.specs.declared.stop.Bad.{Bad}
use Rattle.obj_base.specs.declared.stop.Bad.TheVariants as bads
use Rattle.obj_base.specs.declared.stop.Feature.{Feature}
use Rattle.obj_base.specs.declared.stop.Stop.{Stop}
use Rattle.obj_base.specs.declared.stop.Stop.TheVariants as stops
use Rattle.bt_node.specs.Shape.{Shape}
use Rattle.bt_node.specs.Soundness.{node_of}
use Rattle.bt_node.specs.declared.fault.NodeFault.{NodeFault}
use Rattle.bt_node.specs.declared.node.NodeAt.{NodeAt}
use Rattle.obj_base.specs.declared.site.Site.{Site}
use Rattle.bt_cursor.specs.declared.fault.WalkFault.{WalkFault}
use Rattle.bt_cursor.specs.declared.fault.WalkFault.TheVariants.{Unsound, Unnamed, Order, Counts}
use Rattle.bt_cursor.specs.Tree.{Tree, judged, node_named, block_named, tree_in}
use Rattle.bt_cursor.specs.Line.{Item, line_of}
use Rattle.bt_cursor.specs.Met.{places_of, has_node, is_walkable}
use Rattle.bt_cursor.specs.Order.{out_of_order, is_ordered}
use Rattle.bt_cursor.specs.Counts.{is_counted}
use Rattle.bt_cursor.specs.Faults.{HasGap, HasFeature, IsOutOfOrder, IsWalkFault}
use Rattle.bt_cursor.proofs.Places.{tree-levelled, places-met, no-gap}
use Rattle.fs_name.specs.declared.naming.Names.{Names}
use Rattle.fs_name.specs.Normal.{are_hashed}
use Rattle.fs_record.specs.declared.fault.RecFault.{RecFault}
use Rattle.bt_keys.specs.Shapes.{FsKey, fs_shape, FsPlainKey, fs_plain_shape}
use Rattle.vol_view.specs.Volumes.{Loaded}
use Rattle.vol_view.specs.Views.{view_named, hashed_tree, plain_tree, view_line, is_view_walkable, is_view_ordered, is_view_counted, FactBy, IsViewFault, IsViewFeature}
use Rattle.vol_view.specs.declared.volume.View.{View}
use Rattle.view_rules.specs.Rules.{refusal_of, HasRecords, IsRecord}
use Rattle.apfs_model.proofs.BoolTests.{test_or}
use Rattle.apfs_model.proofs.Searches.{every_or, in-get, get-in}

-- why a look-up in an image gives no node: a fault of the node, or a feature of it
abbrev IsNodeWhy : Stop WalkFault → Type 0
IsNodeWhy why = ((block : ℕ) × (part : NodeFault) × (why ≡ stops.Found (Unsound block part))) ⊎ (((oid : ℕ) × (why ≡ stops.Found (Unnamed oid))) ⊎ ((feature : Feature) × (block : ℕ) × (why ≡ stops.Unsupported feature block)))

judged-why : (block : ℕ) (r : Result (List ℕ) (Bad NodeFault)) (why : Stop WalkFault) → judged block r ≡ Err why → IsNodeWhy why
judged-why block (Ok node) why e = absurd cc
judged-why block (Err (bads.Found part)) why e = inl (block, part, cc)
judged-why block (Err (bads.Unsupported feature)) why e = inr (inr (feature, block, cc))

named-why : {K : Type 0} (shape : Shape K) (site : Site) (image : List ℕ) (at : NodeAt) (o : Option ℕ) (why : Stop WalkFault) → node_named shape site image at o ≡ Err why → IsNodeWhy why
named-why shape site image at None why e = inr (inl (at.oid, cc))
named-why shape site image at (Some block) why e = judged-why block (node_of shape at site (block_of site.block_size image block)) why e

failed : {T E : Type 0} (r : Result T E) → is_ok r ≡ false → (e : E) × (r ≡ Err e)
failed (Ok x) f = absurd cc
failed (Err e) f = (e, refl)

not-all : {X : Type 0} (test : X → Bool) (xs : List X) → list_all test xs ≡ false → (x : X) × (In x xs × (test x ≡ false))
not-all test [] f = absurd cc
not-all {X} test (x ∷ xs) f = elim (test_or (test x)) as (λ _. (y : X) × (In y (x ∷ xs) × (test y ≡ false))) [
  | inl t ↦ let r = not-all test xs (sym (ap (λ b. b && list_all test xs) t) ∙ f) in (r.0, (inr r.1.0, r.1.1))
  | inr n ↦ (x, (inl refl, n))
]

-- a fault or a feature of a tree
abbrev InTree : {K : Type 0} → Tree K → ℕ → Type 0
InTree tree root = ((fault : WalkFault) × IsWalkFault tree root fault) ⊎ ((feature : Feature) × (block : ℕ) × HasFeature tree root feature block)

gap-in : {K : Type 0} (tree : Tree K) (root : ℕ) (why : Stop WalkFault) → HasGap tree root why → IsNodeWhy why → InTree tree root
gap-in tree root why gap (inl t) = inl (Unsound t.0 t.1, subst (HasGap tree root) t.2 gap)
gap-in tree root why gap (inr (inl t)) = inl (Unnamed t.0, subst (HasGap tree root) t.1 gap)
gap-in tree root why gap (inr (inr t)) = inr (t.0, t.1, subst (HasGap tree root) t.2 gap)

-- the three parts of a whole tree
abbrev Parts : {K : Type 0} → Tree K → ℕ → Type 0
Parts tree root = (is_walkable tree root ≡ true) × (is_ordered tree.shape (line_of tree root) ≡ true) × (is_counted tree root ≡ true)

out-of : {K : Type 0} (tree : Tree K) (root : ℕ) (o : Option ℕ) → out_of_order tree.shape (line_of tree root) ≡ o → is_none o ≡ false → (item : ℕ) × IsOutOfOrder tree root item
out-of tree root None e f = absurd cc
out-of tree root (Some number) e f = (given number, record { number = number; first = e; same = refl })

parts_or : {K : Type 0} (shape : Shape K) (site : Site) (named : ℕ → Option ℕ) (image : List ℕ) (root : ℕ) → Parts (tree_in shape site named image) root ⊎ InTree (tree_in shape site named image) root
parts_or {K} shape site named image root =
    let tree : Tree K = tree_in shape site named image in
    elim (test_or (is_walkable tree root)) as (λ _. Parts tree root ⊎ InTree tree root) [
      | inr n ↦
          let gap = not-all (has_node tree) (places_of tree root) n in
          let why = failed (tree.look gap.0) gap.1.1 in
          inr (gap-in tree root why.0 (record { at = gap.0; met = (places-met tree root (tree-levelled shape site named image)).0 gap.0 gap.1.0; gap = why.1 })
          (named-why shape site image gap.0 (block_named site named gap.0.oid) why.0 why.1))
      | inl walkable ↦ elim (test_or (is_ordered shape (line_of tree root))) as (λ _. Parts tree root ⊎ InTree tree root) [
        | inr n ↦ let out = out-of tree root (out_of_order shape (line_of tree root)) refl n in inr (inl (Order out.0, out.1))
        | inl ordered ↦ elim (test_or (is_counted tree root)) as (λ _. Parts tree root ⊎ InTree tree root) [
          | inr n ↦ inr (inl (Counts, n))
          | inl counted ↦ inl (walkable, ordered, counted)
        ]
      ]
    ]

-- a tree with the three parts has none of these
parts-clear : {K : Type 0} (shape : Shape K) (site : Site) (named : ℕ → Option ℕ) (image : List ℕ) (root : ℕ) (fault : WalkFault) → IsWalkFault (tree_in shape site named image) root fault → Parts (tree_in shape site named image) root → ⊥
parts-clear shape site named image root (Unsound block why) gap parts = no-gap (tree_in shape site named image) root (stops.Found (Unsound block why)) (tree-levelled shape site named image) parts.0 gap
parts-clear shape site named image root (Unnamed oid) gap parts = no-gap (tree_in shape site named image) root (stops.Found (Unnamed oid)) (tree-levelled shape site named image) parts.0 gap
parts-clear shape site named image root (Order item) out parts = false≢true (sym (ap (λ o. is_none o) out.first) ∙ parts.1)
parts-clear shape site named image root Counts bad parts = false≢true (sym bad ∙ parts.2)

-- the parts of the one tree or of the other
abbrev PartsBy : Bool → Tree FsKey → Tree FsPlainKey → ℕ → Type 0
PartsBy b hashed plain root =
    ((if b then is_walkable hashed root else is_walkable plain root) ≡ true)
    × ((if b then is_ordered fs_shape (if b then line_of hashed root else line_of plain root) else is_ordered fs_plain_shape (if b then line_of hashed root else line_of plain root)) ≡ true)
    × ((if b then is_counted hashed root else is_counted plain root) ≡ true)

-- a fault or a feature of the one tree or of the other
abbrev InBy : Bool → Tree FsKey → Tree FsPlainKey → ℕ → Type 0
InBy b hashed plain root =
    ((fault : WalkFault) × FactBy b (IsWalkFault hashed root fault) (IsWalkFault plain root fault))
    ⊎ ((feature : Feature) × (block : ℕ) × FactBy b (HasFeature hashed root feature block) (HasFeature plain root feature block))

-- a fault or a feature of a view's tree
abbrev pub InView : List ℕ → Site → Loaded → View → Type 0
InView image site volume view = ((fault : WalkFault) × IsViewFault image site volume view fault) ⊎ ((feature : Feature) × (block : ℕ) × IsViewFeature image site volume view feature block)

abbrev pub ViewParts : List ℕ → Site → Loaded → View → Type 0
ViewParts image site volume view = (is_view_walkable image site volume view ≡ true) × (is_view_ordered image site volume view ≡ true) × (is_view_counted image site volume view ≡ true)

pub view_or : (image : List ℕ) (site : Site) (volume : Loaded) (view : View) → ViewParts image site volume view ⊎ InView image site volume view
unfolding is_view_walkable is_view_counted view_line
view_or image site volume view =
    let root : ℕ = view.root_oid in
    let hashed : Tree FsKey = hashed_tree image site volume view in
    let plain : Tree FsPlainKey = plain_tree image site volume view in
    elim (are_hashed volume.names) as (λ b. PartsBy b hashed plain root ⊎ InBy b hashed plain root) [
      | true ↦ parts_or fs_shape site (view_named site volume view) image root
      | false ↦ parts_or fs_plain_shape site (view_named site volume view) image root
    ]

pub view-clear : (image : List ℕ) (site : Site) (volume : Loaded) (view : View) (fault : WalkFault) → IsViewFault image site volume view fault → ViewParts image site volume view → ⊥
unfolding is_view_walkable is_view_counted view_line
view-clear image site volume view fault there parts =
    let root : ℕ = view.root_oid in
    let hashed : Tree FsKey = hashed_tree image site volume view in
    let plain : Tree FsPlainKey = plain_tree image site volume view in
    let go : (b : Bool) → FactBy b (IsWalkFault hashed root fault) (IsWalkFault plain root fault) → PartsBy b hashed plain root → ⊥ =
    λ b. elim b as (λ b. FactBy b (IsWalkFault hashed root fault) (IsWalkFault plain root fault) → PartsBy b hashed plain root → ⊥) [
      | true ↦ parts-clear fs_shape site (view_named site volume view) image root fault
      | false ↦ parts-clear fs_plain_shape site (view_named site volume view) image root fault
    ] in
    go (are_hashed volume.names) there parts

-- each record can be read, or one is refused
pub records_or : (names : Names) (line : List Item) → HasRecords names line ⊎ ((item : ℕ) × (why : RecFault) × IsRecord names line item why)
records_or names line =
    let Good : Item → Type 0 = λ item. refusal_of names item ≡ None in
    let Bad : Item → Type 0 = λ item. (why : RecFault) × (refusal_of names item ≡ Some why) in
    let Found : Type 0 = (item : ℕ) × (why : RecFault) × IsRecord names line item why in
    let go : (item : Item) (o : Option RecFault) → refusal_of names item ≡ o → Good item ⊎ Bad item = λ item o. elim o as (λ o. refusal_of names item ≡ o → Good item ⊎ Bad item) [ None ↦ λ e. inl e | Some why ↦ λ e. inr (why, e) ] in
    elim (every_or Good Bad (λ item. go item (refusal_of names item) refl) line) as (λ _. HasRecords names line ⊎ Found) [
      | inl all ↦ inl all
      | inr t ↦ let at = in-get line t.0 t.1.0 in inr (given at.0, t.1.1.0, record { number = at.0; item = t.0; found = at.1; part = t.1.1.1; same = refl })
    ]

pub record-records : (names : Names) (line : List Item) (item : ℕ) (why : RecFault) → IsRecord names line item why → HasRecords names line → ⊥
record-records names line item why r all =
    let none = all r.item (get-in line r.number r.item r.found) in
    let q : ◌≡◌ {A = Option RecFault} None (Some why) = sym none ∙ r.part in cc

-- a view whose tree is walkable has no feature in a node
pub featureless : (image : List ℕ) (site : Site) (volume : Loaded) (view : View) (feature : Feature) (block : ℕ) → IsViewFeature image site volume view feature block → is_view_walkable image site volume view ≡ true → ⊥
unfolding is_view_walkable
featureless image site volume view feature block there walkable =
    let root : ℕ = view.root_oid in
    let hashed : Tree FsKey = hashed_tree image site volume view in
    let plain : Tree FsPlainKey = plain_tree image site volume view in
    let go : (b : Bool) → FactBy b (HasFeature hashed root feature block) (HasFeature plain root feature block) → (if b then is_walkable hashed root else is_walkable plain root) ≡ true → ⊥ =
    λ b. elim b as (λ b. FactBy b (HasFeature hashed root feature block) (HasFeature plain root feature block) → (if b then is_walkable hashed root else is_walkable plain root) ≡ true → ⊥) [
      | true ↦ λ gap all. no-gap hashed root (stops.Unsupported feature block) (tree-levelled fs_shape site (view_named site volume view) image) all gap
      | false ↦ λ gap all. no-gap plain root (stops.Unsupported feature block) (tree-levelled fs_plain_shape site (view_named site volume view) image) all gap
    ] in
    go (are_hashed volume.names) there walkable
