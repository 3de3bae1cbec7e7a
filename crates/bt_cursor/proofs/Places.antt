-- The list of places has exactly those that are met.
use Rattle.std.proofs.Common.{◌≡◌, ℕ, zero, suc, ◌+◌, ◌<◌, Bool, true, false, List, [], ◌∷◌, ◌++◌, map, Option, Some, None, Result, Ok, Err, refl, ap, sym, ◌∙◌, subst, arith, inl, inr, ◌⊎◌, ◌&&◌}
use Rattle.std.specs.Prelude.{is_ok, is_none}
use Rattle.std.specs.List.{range_with_len, flat_map, list_all}
use Rattle.std.proofs.lemmas.Bool.{false≢true}
use Rattle.std.proofs.lemmas.Grind.{flat_map-append}
use Rattle.apfs_model.specs.Blocks.{block_of}
use Rattle.apfs_model.specs.Lists.{In, Lists, through, value_of}
use Rattle.obj_base.specs.Stops.{Tells, IsFree}
use Rattle.obj_base.specs.declared.stop.Bad.{Bad}
use Rattle.obj_base.specs.declared.stop.Bad.TheVariants as bads
use Rattle.obj_base.specs.declared.stop.Stop.{Stop}
use Rattle.obj_base.specs.declared.stop.Stop.TheVariants.{Found, Unsupported, ReadFault, NoMemory}
use Rattle.bt_node.specs.Node.{level_of, count_of}
use Rattle.bt_node.specs.Entries.{Pair, pair_of}
use Rattle.bt_node.specs.Shape.{Shape}
use Rattle.bt_node.specs.Soundness.{node_of}
use Rattle.bt_node.specs.declared.fault.NodeFault.{NodeFault}
use Rattle.bt_node.specs.declared.node.NodeAt.{NodeAt}
use Rattle.obj_base.specs.declared.site.Site.{Site}
use Rattle.bt_cursor.specs.declared.fault.WalkFault.{WalkFault}
use Rattle.bt_cursor.specs.declared.fault.WalkFault.TheVariants.{Unsound, Unnamed, Order, Counts}
use Rattle.bt_cursor.specs.Tree.{Tree, root_place, child_in, child_place, judged, node_named, block_named, tree_in}
use Rattle.bt_cursor.specs.Line.{Item, entry_of, entries_of, line_part, line_of}
use Rattle.bt_cursor.specs.Met.{IsMet, first, after, places_under, places_in, places_of, has_node, is_walkable}
use Rattle.bt_cursor.specs.WholeTree.{IsWhole}
use Rattle.bt_cursor.specs.Order.{is_ordered}
use Rattle.bt_cursor.specs.Faults.{HasGap, HasFeature, IsNodeFault, IsOutOfOrder, IsWalkFault}
use Rattle.bt_cursor.specs.Ahead.{line_from}
use Rattle.bt_cursor.proofs.Lines.{line_under-node}
use Rattle.bt_cursor.proofs.Nodes.{node_same, node-child}

in-left : {X : Type 0} (x : X) (xs ys : List X) → In x xs → In x (xs ++ ys)
in-left x [] ys h = absurd h
in-left x (z ∷ xs) ys (inl e) = inl e
in-left x (z ∷ xs) ys (inr h) = inr (in-left x xs ys h)

pub in-right : {X : Type 0} (x : X) (xs ys : List X) → In x ys → In x (xs ++ ys)
in-right x [] ys h = h
in-right x (z ∷ xs) ys h = inr (in-right x xs ys h)

in-either : {X : Type 0} (x : X) (xs ys : List X) → In x (xs ++ ys) → In x xs ⊎ In x ys
in-either x [] ys h = inr h
in-either x (z ∷ xs) ys (inl e) = inl (inl e)
in-either x (z ∷ xs) ys (inr h) = elim (in-either x xs ys h) [ inl l ↦ inl (inr l) | inr r ↦ inr r ]

-- an item that a range gives
record IsAt {X : Type 0} (f : ℕ → X) (n : ℕ) (x : X) : Type 0 where
  i : ℕ
  low : i < n
  same : x ≡ f i

at-range : {X : Type 0} (f : ℕ → X) (a n : ℕ) (x : X) → In x (map f (range_with_len a n)) → IsAt f (a + n) x
at-range f a zero x h = absurd h
at-range f a (suc n) x (inl e) = record { i = a; low = omega arith; same = e }
at-range f a (suc n) x (inr h) = let next = at-range f (a + 1) n x h in record { i = next.i; low = omega (arith, next.low); same = next.same }

range-at : {X : Type 0} (f : ℕ → X) (a n i : ℕ) → i < n → In (f (a + i)) (map f (range_with_len a n))
range-at f a zero i low = absurd (omega arith)
range-at f a (suc n) zero low = inl (let e : a + 0 ≡ a = omega arith in ap f e)
range-at f a (suc n) (suc i) low = inr (let e : (a + 1) + i ≡ a + suc i = omega arith in subst (λ k. In (f k) (map f (range_with_len (a + 1) n))) e (range-at f (a + 1) n i (omega arith)))

entry-in : {K : Type 0} (shape : Shape K) (node : List ℕ) (i : ℕ) → i < count_of node → In (entry_of shape node i) (entries_of shape node)
entry-in shape node i low = let e : 0 + i ≡ i = omega arith in subst (λ k. In (entry_of shape node k) (entries_of shape node)) e (range-at (entry_of shape node) 0 (count_of node) i low)

places-append : (xs ys : List Item) → places_in (xs ++ ys) ≡ places_in xs ++ places_in ys
places-append xs ys = flat_map-append (λ (i : Item). places_under i.level i.pair) xs ys

-- a place of a joined list comes from one of its parts
record IsFrom (f : ℕ × Pair → List Item) (ps : List (ℕ × Pair)) (x : NodeAt) : Type 0 where
  entry : ℕ × Pair
  here : In entry ps
  there : In x (places_in (f entry))

from-parts : (f : ℕ × Pair → List Item) (ps : List (ℕ × Pair)) (x : NodeAt) → In x (places_in (flat_map f ps)) → IsFrom f ps x
from-parts f [] x h = absurd h
from-parts f (p ∷ ps) x h =
    elim (in-either x (places_in (f p)) (places_in (flat_map f ps)) (subst (In x) (places-append (f p) (flat_map f ps)) h)) [
      | inl l ↦ record { entry = p; here = inl refl; there = l }
      | inr r ↦ let next = from-parts f ps x r in record { entry = next.entry; here = inr next.here; there = next.there }
    ]

to-parts : (f : ℕ × Pair → List Item) (ps : List (ℕ × Pair)) (p : ℕ × Pair) (x : NodeAt) → In p ps → In x (places_in (f p)) → In x (places_in (flat_map f ps))
to-parts f [] p x here h = absurd here
to-parts f (q ∷ ps) p x (inl e) h = subst (In x) (sym (places-append (f q) (flat_map f ps))) (in-left x (places_in (f q)) (places_in (flat_map f ps)) (subst (λ r. In x (places_in (f r))) e h))
to-parts f (q ∷ ps) p x (inr here) h = subst (In x) (sym (places-append (f q) (flat_map f ps))) (in-right x (places_in (f q)) (places_in (flat_map f ps)) (to-parts f ps p x here h))

-- children have the level that is expected of them
abbrev pub IsLevelled : {K : Type 0} → Tree K → Type 0
IsLevelled tree = (level : ℕ) (pair : Pair) (node : List ℕ) → tree.look (child_place level pair) ≡ Ok node → level_of node ≡ level

judged-ok : {K : Type 0} (shape : Shape K) (site : Site) (at : NodeAt) (block : ℕ) (bytes node : List ℕ) (r : Result (List ℕ) (Bad NodeFault)) → node_of shape at site bytes ≡ r → judged block r ≡ Ok node → node_of shape at site node ≡ Ok node
judged-ok shape site at block bytes node (Ok other) test e =
    let same : other ≡ node = cc in
    let whole : node ≡ bytes = sym same ∙ node_same shape at site bytes other test in
    ap (node_of shape at site) whole ∙ (test ∙ ap Ok same)
judged-ok shape site at block bytes node (Err (bads.Found why)) test e = absurd (cc)
judged-ok shape site at block bytes node (Err (bads.Unsupported feature)) test e = absurd (cc)

named-ok : {K : Type 0} (shape : Shape K) (site : Site) (image : List ℕ) (at : NodeAt) (node : List ℕ) (o : Option ℕ) → node_named shape site image at o ≡ Ok node → node_of shape at site node ≡ Ok node
named-ok shape site image at node None e = absurd (cc)
named-ok shape site image at node (Some block) e = judged-ok shape site at block (block_of site.block_size image block) node (node_of shape at site (block_of site.block_size image block)) refl e

pub tree-levelled : {K : Type 0} (shape : Shape K) (site : Site) (named : ℕ → Option ℕ) (image : List ℕ) → IsLevelled (tree_in shape site named image)
tree-levelled shape site named image level pair node e =
    node-child shape site (child_place level pair) node level pair (named-ok shape site image (child_place level pair) node (block_named site named (child_place level pair).oid) e) refl

through-in : (x : NodeAt) (o : Result (List ℕ) (Stop WalkFault)) (f : List ℕ → List Item) → In x (places_in (through (value_of o) f)) → (node : List ℕ) × ((o ≡ Ok node) × In x (places_in (f node)))
through-in x (Ok node) f h = (node, (refl, h))
through-in x (Err stop) f h = absurd h

-- a listed place is met
part-met : {K : Type 0} (tree : Tree K) (root : ℕ) → IsLevelled tree → (level oid : ℕ) (entry : ℕ × Pair) (x : NodeAt) → ((l : ℕ) → level ≡ suc l → IsMet tree root (child_place l entry.1)) → In x (places_in (line_part tree level oid entry)) → IsMet tree root x
part-met tree root levelled zero oid entry x met h = absurd h
part-met tree root levelled (suc level) oid entry x met (inl e) = subst (IsMet tree root) (sym e) (met level refl)
part-met tree root levelled (suc level) oid entry x met (inr h) =
    let f : List ℕ → List Item = λ node. flat_map (line_part tree level (child_in entry.1)) (entries_of tree.shape node) in
    let below = through-in x (tree.look (child_place level entry.1)) f h in
    let node = below.0 in
    let from = from-parts (line_part tree level (child_in entry.1)) (entries_of tree.shape node) x below.1.1 in
    let at = at-range (entry_of tree.shape node) 0 (count_of node) from.entry from.here in
    let high : level_of node ≡ level = levelled level entry.1 node below.1.0 in
    part-met tree root levelled level (child_in entry.1) from.entry x
    (λ l e. subst (λ (p : ℕ × Pair). IsMet tree root (child_place l p.1)) (sym at.same) (after (child_place level entry.1) node l at.i (met level refl) below.1.0 (high ∙ e) (omega (arith, at.low)))) from.there

listed-met : {K : Type 0} (tree : Tree K) (root : ℕ) → IsLevelled tree → (x : NodeAt) → In x (places_of tree root) → IsMet tree root x
listed-met tree root levelled x (inl e) = subst (IsMet tree root) (sym e) first
listed-met tree root levelled x (inr h) =
    let f : List ℕ → List Item = λ node. flat_map (line_part tree (level_of node) root) (entries_of tree.shape node) in
    let below = through-in x (tree.look (root_place root)) f h in
    let node = below.0 in
    let from = from-parts (line_part tree (level_of node) root) (entries_of tree.shape node) x below.1.1 in
    let at = at-range (entry_of tree.shape node) 0 (count_of node) from.entry from.here in
    part-met tree root levelled (level_of node) root from.entry x
    (λ l e. subst (λ (p : ℕ × Pair). IsMet tree root (child_place l p.1)) (sym at.same) (after (root_place root) node l at.i first below.1.0 e (omega (arith, at.low)))) from.there

-- a met place is listed, with all below it
record IsListed {K : Type 0} (tree : Tree K) (root : ℕ) (at : NodeAt) : Type 0 where
  here : In at (places_of tree root)
  below : (node : List ℕ) → tree.look at ≡ Ok node → (x : NodeAt) → In x (places_in (line_from tree at.oid node 0)) → In x (places_of tree root)

met-listed : {K : Type 0} (tree : Tree K) (root : ℕ) → IsLevelled tree → (at : NodeAt) → IsMet tree root at → IsListed tree root at
met-listed tree root levelled at (first) = record {
  here = inl refl;
  below = λ node found x h.
      let f : List ℕ → List Item = λ b. flat_map (line_part tree (level_of b) root) (entries_of tree.shape b) in
      inr (subst (λ o. In x (places_in (through (value_of o) f))) (sym found) h);
}
met-listed tree root levelled at (after above node level i met found high low) =
    let upper = met-listed tree root levelled above met in
    let pair = pair_of tree.shape node i in
    let f = line_part tree (level_of node) above.oid in
    let into : (x : NodeAt) → In x (places_in (line_part tree (suc level) above.oid (i, pair))) → In x (places_of tree root) =
    λ x h. upper.below node found x (to-parts f (entries_of tree.shape node) (i, pair) x (entry-in tree.shape node i low) (subst (λ l. In x (places_in (line_part tree l above.oid (i, pair)))) (sym high) h)) in
    record {
      here = into (child_place level pair) (inl refl);
      below = λ lower named x h. into x (inr (subst (λ xs. In x (places_in xs)) (sym (line_under-node tree pair lower level named (levelled level pair lower named))) h));
    }

-- the places met, as a list and as a relation
pub places-met : {K : Type 0} (tree : Tree K) (root : ℕ) → IsLevelled tree → Lists (places_of tree root) (IsMet tree root)
places-met tree root levelled = (λ x h. listed-met tree root levelled x h, λ x h. (met-listed tree root levelled x h).here)

and-left : (a b : Bool) → (a && b) ≡ true → a ≡ true
and-left true b e = refl
and-left false b e = absurd (cc)

and-right : (a b : Bool) → (a && b) ≡ true → b ≡ true
and-right true b e = e
and-right false b e = absurd (cc)

all-in : {X : Type 0} (p : X → Bool) (xs : List X) (x : X) → list_all p xs ≡ true → In x xs → p x ≡ true
all-in p [] x all h = absurd h
all-in p (y ∷ ys) x all (inl e) = ap p e ∙ and-left (p y) (list_all p ys) all
all-in p (y ∷ ys) x all (inr h) = all-in p ys x (and-right (p y) (list_all p ys) all) h

-- each place that is met in a walkable tree has a node
pub walkable-met : {K : Type 0} (tree : Tree K) (root : ℕ) → IsLevelled tree → is_walkable tree root ≡ true → (at : NodeAt) → IsMet tree root at → has_node tree at ≡ true
walkable-met tree root levelled all at met = all-in (has_node tree) (places_of tree root) at all (met-listed tree root levelled at met).here

-- a walkable tree has no gap
pub no-gap : {K : Type 0} (tree : Tree K) (root : ℕ) (why : Stop WalkFault) → IsLevelled tree → is_walkable tree root ≡ true → HasGap tree root why → ⊥
no-gap tree root why levelled all gap = false≢true (sym (ap (λ o. is_ok o) gap.gap) ∙ walkable-met tree root levelled all gap.at gap.met)

-- on a walkable tree a walk stops for no node
pub node-world : {K : Type 0} (tree : Tree K) (root : ℕ) (stop : Stop WalkFault) → IsLevelled tree → is_walkable tree root ≡ true → Tells (IsNodeFault tree root) (HasFeature tree root) stop → IsFree stop
node-world tree root (Found (Unsound block why)) levelled all told = no-gap tree root (Found (Unsound block why)) levelled all told
node-world tree root (Found (Unnamed oid)) levelled all told = no-gap tree root (Found (Unnamed oid)) levelled all told
node-world tree root (Found (Order item)) levelled all told = told
node-world tree root (Found Counts) levelled all told = told
node-world tree root (Unsupported feature block) levelled all told = no-gap tree root (Unsupported feature block) levelled all told
node-world tree root ReadFault levelled all told = tt
node-world tree root NoMemory levelled all told = tt

no-order : {K : Type 0} (tree : Tree K) (root item : ℕ) → is_ordered tree.shape (line_of tree root) ≡ true → IsOutOfOrder tree root item → ⊥
no-order tree root item ordered out = false≢true (sym (ap (λ o. is_none o) out.first) ∙ ordered)

-- on a whole tree a walk over the Line stops for no fault
pub whole-world : {K : Type 0} (tree : Tree K) (root : ℕ) (stop : Stop WalkFault) → IsLevelled tree → IsWhole tree root → Tells (IsWalkFault tree root) (HasFeature tree root) stop → IsFree stop
whole-world tree root (Found (Unsound block why)) levelled whole told = no-gap tree root (Found (Unsound block why)) levelled whole.walkable told
whole-world tree root (Found (Unnamed oid)) levelled whole told = no-gap tree root (Found (Unnamed oid)) levelled whole.walkable told
whole-world tree root (Found (Order item)) levelled whole told = no-order tree root item whole.ordered told
whole-world tree root (Found Counts) levelled whole told = false≢true (sym told ∙ whole.counted)
whole-world tree root (Unsupported feature block) levelled whole told = no-gap tree root (Unsupported feature block) levelled whole.walkable told
whole-world tree root ReadFault levelled whole told = tt
whole-world tree root NoMemory levelled whole told = tt
