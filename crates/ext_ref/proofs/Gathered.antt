-- What was gathered of an extent reference tree.
use Rattle.std.specs.Prelude.{◌≡◌, ℕ, suc, ◌==◌, Bool, true, false, if◌then◌else◌, List, [], ◌∷◌, ◌++◌, length, map, slice_get, Option, None, Some, refl}
use Rattle.std.specs.List.{cons_option}
use Rattle.std.proofs.Common.{ap, sym, ◌∙◌, append-nil}
use Rattle.std.proofs.lemmas.List.{map-append}
use Rattle.std.proofs.lemmas.List.Concat.{flat_map-append}
use Rattle.std.proofs.lemmas.List.Elements.{filter_map-append}
use Rattle.apfs_model.specs.Lists.{passes}
use Rattle.apfs_model.proofs.BoolTests.{false-not, both-true, left-or, right-or, left-true, other-true}
use Rattle.obj_base.specs.declared.site.Site.{Site}
use Rattle.obj_base.specs.declared.stop.Stop.{Stop}
use Rattle.obj_base.specs.declared.stop.Stop.TheVariants.{Found, Unsupported, ReadFault, NoMemory}
use Rattle.obj_base.specs.Stops.{Tells, IsFree, raised}
use Rattle.bt_cursor.specs.declared.gathering.GatherFault.{GatherFault}
use Rattle.bt_cursor.specs.declared.gathering.GatherFault.TheVariants as gathers
use Rattle.bt_node.specs.Entries.{Pair}
use Rattle.bt_cursor.specs.Tree.{child_in}
use Rattle.bt_cursor.specs.Line.{Item, item_at, line_of}
use Rattle.bt_cursor.specs.WholeTree.{child_id, leaf_pairs}
use Rattle.bt_cursor.specs.Steps.{step_in, steps_in, steps_of}
use Rattle.bt_cursor.specs.declared.step.Step.{Step}
use Rattle.bt_node.specs.declared.node.NodeAt.{NodeAt}
use Rattle.bt_cursor.specs.Flat.{flat_of}
use Rattle.bt_cursor.specs.Met.{nodes_of, is_walkable}
use Rattle.bt_cursor.specs.Whole.{is_whole}
use Rattle.bt_cursor.specs.Faults.{HasFeature}
use Rattle.bt_cursor.specs.Gathered.{children_of, IsGatherFault, IsGathered, IsRefused}
use Rattle.bt_cursor.proofs.Flats.{line-pairs}
use Rattle.bt_cursor.proofs.Lines.{leaf_pairs-append}
use Rattle.bt_cursor.proofs.Gathers.{ids-walkable}
use Rattle.bt_cursor.proofs.Wholes.{means_whole, whole_means}
use Rattle.ext_ref.specs.Ranges.{ext_tree, range_of, ranges_in, ranges_of, oids_of, node_blocks_of, ext_pairs}
use Rattle.ext_ref.specs.Scanned.{ext_steps, blocks_by, IsExtFeature, IsScanned, has_long_values, is_right_tree}
use Rattle.ext_ref.specs.Stops.{is_short_item, HasShortItem, IsExtStop}
use Rattle.ext_ref.specs.Gathered.{ranges_at, Gathers, said}
use Rattle.ext_ref.specs.declared.range.NewRange.{NewRange}
use Rattle.ext_ref.specs.declared.stop.ExtStop.{ExtStop}
use Rattle.ext_ref.proofs.Laws.{ext-refutes, ext-plain}

-- what one more item gives was gathered
pub gathers-more : (ranges later : List NewRange) (steps further : List Step) (items : List Item) (item : Item)
    → Gathers ranges steps items → later ≡ ranges ++ ranges_at item → further ≡ steps ++ step_in item → Gathers later further (items ++ item ∷ [])
gathers-more ranges later steps further items item had e f = record {
  same = e ∙ (ap (λ xs. xs ++ ranges_at item) had.same ∙ (sym (filter_map-append range_of (leaf_pairs items) (leaf_pairs (item ∷ []))) ∙ ap ranges_in (sym (leaf_pairs-append items (item ∷ [])))));
  taken = f ∙ (ap (λ xs. xs ++ step_in item) had.taken ∙ (ap (λ xs. steps_in items ++ xs) (sym (append-nil (step_in item))) ∙ sym (flat_map-append step_in items (item ∷ []))));
}

if-not : {A : Type 0} (b : Bool) (x y : A) → b ≡ false → (if b then x else y) ≡ y
if-not true x y e = absurd (cc)
if-not false x y e = refl

if-so : {A : Type 0} (b : Bool) (x y : A) → b ≡ true → (if b then x else y) ≡ x
if-so true x y e = refl
if-so false x y e = absurd (cc)

-- a whole tree was gathered
gathered-right : (image : List ℕ) (site : Site) (root : ℕ) (ranges : List NewRange) (steps : List Step) → IsGathered (ext_tree image site) root (Gathers ranges steps) is_short_item → is_right_tree image site root ≡ true
unfolding is_right_tree has_long_values
gathered-right image site root ranges steps all = right-or (root == 0) _ (both-true _ _ (means_whole (ext_tree image site) root all.whole) (false-not _ all.none_refused))

gathered-steps : (image : List ℕ) (site : Site) (root : ℕ) (ranges : List NewRange) (steps : List Step) → (root == 0) ≡ false → IsGathered (ext_tree image site) root (Gathers ranges steps) is_short_item → steps ≡ ext_steps image site root
unfolding ext_steps
gathered-steps image site root ranges steps some all = all.held.taken ∙ sym (if-not (root == 0) [] (steps_of (ext_tree image site) root) some)

gathered-ranges : (image : List ℕ) (site : Site) (root : ℕ) (ranges : List NewRange) (steps : List Step) → (root == 0) ≡ false → IsGathered (ext_tree image site) root (Gathers ranges steps) is_short_item → ranges ≡ ranges_of image site root
unfolding ranges_of ext_pairs
gathered-ranges image site root ranges steps some all =
    all.held.same ∙ (ap ranges_in (line-pairs (ext_tree image site) root) ∙ sym (ap ranges_in (if-not (root == 0) [] (flat_of (ext_tree image site) root) some)))

pub gathered-scanned : (image : List ℕ) (site : Site) (root : ℕ) (ranges : List NewRange) (steps : List Step) → (root == 0) ≡ false → IsGathered (ext_tree image site) root (Gathers ranges steps) is_short_item → IsScanned image site root steps ranges
gathered-scanned image site root ranges steps some all = record {
  right = gathered-right image site root ranges steps all;
  steps_are = gathered-steps image site root ranges steps some all;
  ranges_are = gathered-ranges image site root ranges steps some all;
}

-- where there is no tree, there is nothing
pub none-scanned : (image : List ℕ) (site : Site) (root : ℕ) → (root == 0) ≡ true → IsScanned image site root [] []
unfolding is_right_tree ext_steps ranges_of ext_pairs
none-scanned image site root none = record {
  right = left-or (root == 0) _ none;
  steps_are = sym (if-so (root == 0) [] (steps_of (ext_tree image site) root) none);
  ranges_are = sym (ap ranges_in (if-so (root == 0) [] (flat_of (ext_tree image site) root) none));
}

length-oids : (places : List NodeAt) → length (oids_of places) ≡ length places
length-oids [] = refl
length-oids (at ∷ places) = ap suc (length-oids places)

-- a tree has as many blocks as nodes
pub blocks-nodes : (image : List ℕ) (site : Site) (root : ℕ) → (root == 0) ≡ false → length (node_blocks_of image site root) ≡ length (nodes_of (ext_tree image site) root)
unfolding node_blocks_of
blocks-nodes image site root some = ap length (if-not (root == 0) [] (oids_of (nodes_of (ext_tree image site) root)) some) ∙ length-oids (nodes_of (ext_tree image site) root)

-- an item leads to a child exactly if it is a step
step-child : (node at level : ℕ) (pair : Pair) (rest : List ℕ) → cons_option (child_id (item_at node at level pair)) rest ≡ map (λ (s : Step). s.child) (step_in (item_at node at level pair)) ++ rest
step-child node at level pair rest =
    elim (level == 0) as (λ b. cons_option (if b then None else Some (child_in pair)) rest ≡ map (λ (s : Step). s.child) (if b then [] else record { node = node; at = at; level = level; child = child_in pair } ∷ []) ++ rest) [ true ↦ refl | false ↦ refl ]

steps-children : (items : List Item) → children_of items ≡ map (λ (s : Step). s.child) (steps_in items)
steps-children [] = refl
steps-children (item ∷ items) =
    step-child item.node item.at item.level item.pair (children_of items)
    ∙ (ap (λ (xs : List ℕ). map (λ (s : Step). s.child) (step_in item) ++ xs) (steps-children items) ∙ sym (map-append (λ (s : Step). s.child) (step_in item) (steps_in items)))

right-walkable : (image : List ℕ) (site : Site) (root : ℕ) → (root == 0) ≡ false → is_right_tree image site root ≡ true → is_walkable (ext_tree image site) root ≡ true
unfolding is_right_tree
right-walkable image site root some right =
    (whole_means (ext_tree image site) root (left-true (is_whole (ext_tree image site) root) (has_long_values image site root) (other-true (root == 0) _ some right))).walkable

-- the nodes of a right tree are its root and the children of its steps
pub blocks-steps : (image : List ℕ) (site : Site) (root : ℕ) → is_right_tree image site root ≡ true → node_blocks_of image site root ≡ blocks_by root (ext_steps image site root)
unfolding node_blocks_of ext_steps
blocks-steps image site root right =
    let tree = ext_tree image site in
    let go : (b : Bool) → (root == 0) ≡ b → (if b then [] else oids_of (nodes_of tree root)) ≡ (if b then [] else root ∷ map (λ (s : Step). s.child) (if b then [] else steps_of tree root)) =
    λ b. elim b as (λ b. (root == 0) ≡ b → (if b then [] else oids_of (nodes_of tree root)) ≡ (if b then [] else root ∷ map (λ (s : Step). s.child) (if b then [] else steps_of tree root))) [
      | true ↦ λ e. refl
      | false ↦ λ e. ids-walkable tree root (right-walkable image site root e right) ∙ ap (λ (xs : List ℕ). root ∷ xs) (steps-children (line_of tree root))
    ] in
    go (root == 0) refl

get-seam : (before after : List Item) (item : Item) → slice_get (before ++ item ∷ after) (length before) ≡ Some item
get-seam [] after item = refl
get-seam (i ∷ before) after item = get-seam before after item

-- an item that is refused has a value that is too short
short-refused : (image : List ℕ) (site : Site) (root item : ℕ) → IsRefused is_short_item (line_of (ext_tree image site) root) item → HasShortItem image site root item
short-refused image site root item refused = record {
  number = length refused.before;
  short = ap (λ (items : List Item). passes (slice_get items (length refused.before)) is_short_item) refused.split
      ∙ (ap (λ (o : Option Item). passes o is_short_item) (get-seam refused.before refused.after refused.item) ∙ refused.refused);
  same = refused.same;
}

-- why a tree can't be gathered is there
pub said_tells : (image : List ℕ) (site : Site) (root : ℕ) (stop : Stop GatherFault) → (root == 0) ≡ false → Tells (IsGatherFault (ext_tree image site) root is_short_item) (HasFeature (ext_tree image site) root) stop
    → Tells (IsExtStop image site root) (IsExtFeature image site root) (raised said stop)
said_tells image site root (Found (gathers.Tree why)) some told = (some, told)
said_tells image site root (Found (gathers.Refused item)) some told = (some, short-refused image site root item told)
said_tells image site root (Unsupported feature block) some told = (some, told)
said_tells image site root ReadFault some told = tt
said_tells image site root NoMemory some told = tt

-- where a tree is right, only the source or the memory stops a call
pub right_free : (image : List ℕ) (site : Site) (root : ℕ) (stop : Stop ExtStop) → is_right_tree image site root ≡ true → Tells (IsExtStop image site root) (IsExtFeature image site root) stop → IsFree stop
right_free image site root (Found why) right told = ext-refutes image site root why right told
right_free image site root (Unsupported feature block) right told = ext-plain image site root feature block right told
right_free image site root ReadFault right told = tt
right_free image site root NoMemory right told = tt
