-- What is left of a way is the end of its tree's Line, and where a rank's way stands in it.
use Rattle.std.proofs.Common.{◌≡◌, ℕ, zero, suc, ◌+◌, ◌<◌, ◌≤◌, Bool, true, not, List, [], ◌∷◌, ◌++◌, take, drop, Some, Ok, Err, refl, ap, sym, ◌∙◌, subst, arith, All, inl, inr, append_assoc, append-nil}
use Rattle.std.specs.List.{flat_map}
use Rattle.std.proofs.lemmas.Bool.{cases_lt}
use Rattle.std.proofs.lemmas.Grind.{flat_map-append}
use Rattle.std.proofs.lemmas.List.{take-append-drop}
use Rattle.std.proofs.lemmas.List.Elements.{All-head, All-tail}
use Rattle.apfs_model.specs.Lists.{last_or, last}
use Rattle.obj_base.specs.Stops.{Tells}
use Rattle.obj_base.specs.declared.stop.Stop.{Stop}
use Rattle.obj_base.specs.declared.stop.Stop.TheVariants.{Found, Unsupported, ReadFault, NoMemory}
use Rattle.bt_node.specs.Node.{level_of, count_of}
use Rattle.bt_node.specs.Entries.{Pair, pair_of}
use Rattle.bt_node.specs.Shape.{Shape}
use Rattle.bt_node.specs.declared.node.NodeAt.{NodeAt}
use Rattle.bt_node.specs.declared.key.Rank.{Rank}
use Rattle.bt_cursor.specs.declared.fault.WalkFault.{WalkFault}
use Rattle.bt_cursor.specs.declared.way.Step.{Step}
use Rattle.bt_cursor.specs.Tree.{Tree, root_place, child_in, child_place}
use Rattle.bt_cursor.specs.Line.{Item, item_at, entry_of, entries_of}
use Rattle.bt_cursor.specs.Gaps.{Gapped, or_gap, gapped_part, gapped_of, IsSuffix}
use Rattle.bt_cursor.specs.Stack.{IsMetStep, IsUnder, IsLinked, IsIn, bottom}
use Rattle.bt_cursor.specs.Ahead.{gapped_from, gapped_rest, gapped_under}
use Rattle.bt_cursor.specs.From.{is_low, is_high}
use Rattle.bt_cursor.specs.Search.{IsCut, IsCutStep, IsCutWay, IsPlaceOf, IsGapAt, StopsSearch}
use Rattle.bt_cursor.proofs.Gaps.{gapped_end, gapped-cons, gapped-leaf, gapped-inner, gapped_under-node}

-- the items of the entries before an index
front_of : {K : Type 0} → Tree K → ℕ → List ℕ → ℕ → List (Gapped Item)
front_of tree oid node i = flat_map (gapped_part tree (level_of node) oid) (take i (entries_of tree.shape node))

front-split : {K : Type 0} (tree : Tree K) (oid : ℕ) (node : List ℕ) (i : ℕ) → gapped_from tree oid node 0 ≡ front_of tree oid node i ++ gapped_from tree oid node i
unfolding front_of
front-split tree oid node i =
    let f = gapped_part tree (level_of node) oid in
    let ps = entries_of tree.shape node in
    ap (flat_map f) (sym (take-append-drop i ps)) ∙ flat_map-append f (take i ps) (drop i ps)

bottom-node : {K : Type 0} (tree : Tree K) (root : ℕ) (above : List Step) (last : Step) → All (IsMetStep tree root) above → IsMetStep tree root last → IsMetStep tree root (bottom above last)
bottom-node tree root [] last held here = here
bottom-node tree root (s ∷ ss) last held here = All-head (IsMetStep tree root) s ss held

-- a step's items from the start on: those before the entry that was passed last, its item, those below, and the others
through-step : {K : Type 0} (tree : Tree K) (root : ℕ) (upper lower : Step) (under : IsUnder tree upper lower) → IsMetStep tree root lower →
    gapped_from tree upper.at.oid upper.block.items 0 ≡ front_of tree upper.at.oid upper.block.items under.index ++ (Ok (item_at upper.at.oid under.index (level_of upper.block.items) (pair_of tree.shape upper.block.items under.index)) ∷ (gapped_from tree lower.at.oid lower.block.items 0 ++ gapped_from tree upper.at.oid upper.block.items upper.next))
through-step tree root upper lower under met =
    let node = upper.block.items in
    let oid = upper.at.oid in
    let i = under.index in
    let item : Gapped Item = Ok (item_at oid i (level_of node) (pair_of tree.shape node i)) in
    let named : tree.look (child_place (level_of lower.block.items) (pair_of tree.shape node i)) ≡ Ok lower.block.items = ap tree.look (sym under.place) ∙ met.node in
    front-split tree oid node i
    ∙ (ap (λ xs. front_of tree oid node i ++ xs) (gapped-inner tree oid node i (level_of lower.block.items) under.low under.high)
    ∙ (ap (λ xs. front_of tree oid node i ++ (item ∷ (xs ++ gapped_from tree oid node (i + 1)))) (gapped_under-node tree (pair_of tree.shape node i) lower.block.items (level_of lower.block.items) named refl)
    ∙ (ap (λ o. front_of tree oid node i ++ (item ∷ (gapped_from tree o lower.block.items 0 ++ gapped_from tree oid node (i + 1)))) (ap (λ (a : NodeAt). a.oid) (sym under.place))
    ∙ ap (λ k. front_of tree oid node i ++ (item ∷ (gapped_from tree lower.at.oid lower.block.items 0 ++ gapped_from tree oid node k))) (sym under.next))))

-- the items of the lowest step that is given, split where a way stands
abbrev Before : {K : Type 0} → Tree K → List Step → Step → List (Gapped Item) → Type 0
Before tree above last before = gapped_from tree (bottom above last).at.oid (bottom above last).block.items 0 ≡ before ++ (gapped_from tree last.at.oid last.block.items last.next ++ gapped_rest tree above)

before-last : {K : Type 0} (tree : Tree K) (last : Step) (before : List (Gapped Item)) → gapped_from tree last.at.oid last.block.items 0 ≡ before ++ gapped_from tree last.at.oid last.block.items last.next → Before tree [] last before
before-last tree last before split = split ∙ ap (λ xs. before ++ xs) (sym (append-nil (gapped_from tree last.at.oid last.block.items last.next)))

before-more : {K : Type 0} (tree : Tree K) (root : ℕ) (s : Step) (ss : List Step) (last : Step) (before : List (Gapped Item)) (under : IsUnder tree s (bottom ss last)) → IsMetStep tree root (bottom ss last) → Before tree ss last before →
    Before tree (s ∷ ss) last (front_of tree s.at.oid s.block.items under.index ++ (Ok (item_at s.at.oid under.index (level_of s.block.items) (pair_of tree.shape s.block.items under.index)) ∷ before))
before-more tree root s ss last before under met split =
    let node = s.block.items in
    let oid = s.at.oid in
    let front = front_of tree oid node under.index in
    let item : Gapped Item = Ok (item_at oid under.index (level_of node) (pair_of tree.shape node under.index)) in
    let here = gapped_from tree last.at.oid last.block.items last.next in
    let after = gapped_from tree oid node s.next in
    through-step tree root s (bottom ss last) under met
    ∙ (ap (λ xs. front ++ (item ∷ (xs ++ after))) split
    ∙ (ap (λ xs. front ++ (item ∷ xs)) (append_assoc before (here ++ gapped_rest tree ss) after)
    ∙ (ap (λ xs. front ++ (item ∷ (before ++ xs))) (append_assoc here (gapped_rest tree ss) after)
    ∙ sym (append_assoc front (item ∷ before) (here ++ (gapped_rest tree ss ++ after))))))

before-way : {K : Type 0} (tree : Tree K) (root : ℕ) (above : List Step) (last : Step) → All (IsMetStep tree root) above → IsMetStep tree root last → IsLinked tree above last → (before : List (Gapped Item)) × Before tree above last before
before-way tree root [] last held met linked = (front_of tree last.at.oid last.block.items last.next, before-last tree last (front_of tree last.at.oid last.block.items last.next) (front-split tree last.at.oid last.block.items last.next))
before-way tree root (s ∷ ss) last held met linked =
    let others = All-tail (IsMetStep tree root) s ss held in
    let below = before-way tree root ss last others met linked.1 in (
      front_of tree s.at.oid s.block.items linked.0.index ++ (Ok (item_at s.at.oid linked.0.index (level_of s.block.items) (pair_of tree.shape s.block.items linked.0.index)) ∷ below.0),
      before-more tree root s ss last below.0 linked.0 (bottom-node tree root ss last others met) below.1,
    )

root-items : {K : Type 0} (tree : Tree K) (root : ℕ) (node : List ℕ) → tree.look (root_place root) ≡ Ok node → gapped_of tree root ≡ gapped_from tree root node 0
root-items tree root node found = ap (λ o. or_gap o (λ n. flat_map (gapped_part tree (level_of n) root) (entries_of tree.shape n))) found

root-step : {K : Type 0} (tree : Tree K) (root : ℕ) (step : Step) → tree.look (root_place root) ≡ Ok step.block.items → step.at ≡ root_place root → gapped_of tree root ≡ gapped_from tree step.at.oid step.block.items 0
root-step tree root step found at = root-items tree root step.block.items found ∙ ap (λ (a : NodeAt). gapped_from tree a.oid step.block.items 0) (sym at)

-- what is left of a way through a tree is the end of the tree's Line with its gaps
pub way-suffix : {K : Type 0} (tree : Tree K) (root : ℕ) (above : List Step) (last : Step) → IsIn tree root above last → IsSuffix (gapped_from tree last.at.oid last.block.items last.next ++ gapped_rest tree above) (gapped_of tree root)
way-suffix tree root above last within =
    let split = before-way tree root above last within.hold within.hold_last within.linked in
    record { before = split.0; split = root-step tree root (bottom above last) within.base within.base_at ∙ split.1 }

-- at the start all of it is left
pub way-start : {K : Type 0} (tree : Tree K) (root : ℕ) (above : List Step) (last : Step) → above ≡ [] → last.next ≡ 0 → last.at ≡ root_place root → tree.look (root_place root) ≡ Ok last.block.items → gapped_from tree last.at.oid last.block.items last.next ++ gapped_rest tree above ≡ gapped_of tree root
way-start tree root above last none next at found =
    ap (λ ss. gapped_from tree last.at.oid last.block.items last.next ++ gapped_rest tree ss) none
    ∙ (append-nil (gapped_from tree last.at.oid last.block.items last.next)
    ∙ (ap (gapped_from tree last.at.oid last.block.items) next
    ∙ sym (root-step tree root last found at)))

-- the last of some items ranks below
abbrev EndsBelow : {K : Type 0} → Shape K → Rank → List (Gapped Item) → Type 0
EndsBelow shape rank items = (x : Gapped Item) → last items ≡ Some x → is_low shape rank x ≡ true

-- the first of some items doesn't
abbrev StartsAbove : {K : Type 0} → Shape K → Rank → List (Gapped Item) → Type 0
StartsAbove shape rank items = (x : Gapped Item) (xs : List (Gapped Item)) → items ≡ x ∷ xs → is_high shape rank x ≡ true

pub last-after : {X : Type 0} (xs : List X) (y : X) (ys : List X) → last (xs ++ (y ∷ ys)) ≡ Some (last_or y ys)
last-after [] y ys = refl
last-after (x ∷ []) y ys = refl
last-after (x ∷ (z ∷ xs)) y ys = last-after (z ∷ xs) y ys

ends-one : {K : Type 0} (shape : Shape K) (rank : Rank) (xs : List (Gapped Item)) (y : Gapped Item) (ys : List (Gapped Item)) → is_low shape rank y ≡ true → EndsBelow shape rank ys → EndsBelow shape rank (xs ++ (y ∷ ys))
ends-one shape rank xs y [] low ends x e =
    let same : Some y ≡ Some x = sym (last-after xs y []) ∙ e in
    let here : y ≡ x = cc in
    subst (λ (i : Gapped Item). is_low shape rank i ≡ true) here low
ends-one shape rank xs y (z ∷ zs) low ends x e = ends x (sym (last-after xs y (z ∷ zs)) ∙ e)

starts-append : {K : Type 0} (shape : Shape K) (rank : Rank) (xs ys : List (Gapped Item)) → StartsAbove shape rank xs → StartsAbove shape rank ys → StartsAbove shape rank (xs ++ ys)
starts-append shape rank [] ys left right x others e = right x others e
starts-append shape rank (y ∷ xs) ys left right x others e =
    let here : y ≡ x = cc in
    subst (λ (i : Gapped Item). is_high shape rank i ≡ true) here (left y xs refl)

-- what is left of a node from a cut on
part-head : {K : Type 0} (tree : Tree K) (oid level i : ℕ) (pair : Pair) → (xs : List (Gapped Item)) × (gapped_part tree level oid (i, pair) ≡ Ok (item_at oid i level pair) ∷ xs)
part-head tree oid zero i pair = ([], refl)
part-head tree oid (suc level) i pair = (gapped_under tree level pair, refl)

from-head : {K : Type 0} (tree : Tree K) (oid : ℕ) (node : List ℕ) (i : ℕ) → i < count_of node → (xs : List (Gapped Item)) × (gapped_from tree oid node i ≡ Ok (item_at oid i (level_of node) (pair_of tree.shape node i)) ∷ xs)
from-head tree oid node i low =
    let head = part-head tree oid (level_of node) i (pair_of tree.shape node i) in
    (head.0 ++ gapped_from tree oid node (i + 1), gapped-cons tree oid node i low ∙ ap (λ xs. xs ++ gapped_from tree oid node (i + 1)) head.1)

starts-node : {K : Type 0} (tree : Tree K) (rank : Rank) (oid : ℕ) (node : List ℕ) (i : ℕ) → IsCut tree.shape rank node i → StartsAbove tree.shape rank (gapped_from tree oid node i)
starts-node tree rank oid node i cut x others e =
    elim (cases_lt i (count_of node)) [
      | inl low ↦
          let head = from-head tree oid node i low in
          let same : Ok (item_at oid i (level_of node) (pair_of tree.shape node i)) ∷ head.0 ≡ x ∷ others = sym head.1 ∙ e in
          let here : Ok (item_at oid i (level_of node) (pair_of tree.shape node i)) ≡ x = cc in
          subst (λ (y : Gapped Item). is_high tree.shape rank y ≡ true) here (ap (λ (b : Bool). not b) (cut.after low))
      | inr past ↦ let none : [] ≡ x ∷ others = sym (gapped_end tree oid node i past) ∙ e in absurd (cc)
    ]

starts-rest : {K : Type 0} (tree : Tree K) (rank : Rank) (above : List Step) → All (IsCutStep tree.shape rank) above → StartsAbove tree.shape rank (gapped_rest tree above)
starts-rest tree rank [] cuts x others e = absurd (cc)
starts-rest tree rank (s ∷ ss) cuts x others e =
    starts-append tree.shape rank (gapped_rest tree ss) (gapped_from tree s.at.oid s.block.items s.next) (starts-rest tree rank ss (All-tail (IsCutStep tree.shape rank) s ss cuts)) (starts-node tree rank s.at.oid s.block.items s.next (All-head (IsCutStep tree.shape rank) s ss cuts)) x others e

-- what is left of a way at cuts
starts-way : {K : Type 0} (tree : Tree K) (rank : Rank) (above : List Step) (last : Step) → All (IsCutStep tree.shape rank) above → IsCutStep tree.shape rank last → StartsAbove tree.shape rank (gapped_from tree last.at.oid last.block.items last.next ++ gapped_rest tree above)
starts-way tree rank above last cuts here = starts-append tree.shape rank (gapped_from tree last.at.oid last.block.items last.next) (gapped_rest tree above) (starts-node tree rank last.at.oid last.block.items last.next here) (starts-rest tree rank above cuts)

-- the items before a cut, of which the last ranks below, and a gap that may come after them
record CutsBefore {K : Type 0} (tree : Tree K) (rank : Rank) (gap : List (Gapped Item)) (above : List Step) (last : Step) : Type 0 where
  before : List (Gapped Item)
  whole : List (Gapped Item)
  parts : whole ≡ before ++ gap
  split : Before tree above last whole
  ends : EndsBelow tree.shape rank before

cuts-last : {K : Type 0} (tree : Tree K) (rank : Rank) (last : Step) (next : ℕ) → last.next ≡ next → next ≤ count_of last.block.items → IsCutStep tree.shape rank last → (0 < next → level_of last.block.items ≡ 0) → CutsBefore tree rank [] [] last
cuts-last tree rank last zero at inside cut leaf = record {
  before = [];
  whole = [];
  parts = refl;
  split = before-last tree last [] (ap (gapped_from tree last.at.oid last.block.items) (sym at));
  ends = λ x e. absurd (cc);
}
cuts-last tree rank last (suc j) at inside cut leaf =
    let node = last.block.items in
    let oid = last.at.oid in
    let front = front_of tree oid node j in
    let item : Gapped Item = Ok (item_at oid j (level_of node) (pair_of tree.shape node j)) in
    let next : j + 1 ≡ last.next = omega (arith, at) in
    let split : gapped_from tree oid node 0 ≡ (front ++ item ∷ []) ++ gapped_from tree oid node last.next =
    front-split tree oid node j
    ∙ (ap (λ xs. front ++ xs) (gapped-leaf tree oid node j (omega arith) (leaf (omega arith)))
    ∙ (ap (λ k. front ++ (item ∷ gapped_from tree oid node k)) next
    ∙ sym (append_assoc front (item ∷ []) (gapped_from tree oid node last.next)))) in
    record {
      before = front ++ item ∷ [];
      whole = front ++ item ∷ [];
      parts = sym (append-nil (front ++ item ∷ []));
      split = before-last tree last (front ++ item ∷ []) split;
      ends = ends-one tree.shape rank front item [] (cut.before j next) (λ x e. absurd (cc));
    }

-- a node's cut after an entry above level 0 whose child isn't there
cuts-gap : {K : Type 0} (tree : Tree K) (rank : Rank) (last : Step) (level j : ℕ) (why : Stop WalkFault) → last.next ≡ j + 1 → j < count_of last.block.items → level_of last.block.items ≡ suc level → IsCutStep tree.shape rank last →
    tree.look (child_place level (pair_of tree.shape last.block.items j)) ≡ Err why → CutsBefore tree rank (Err why ∷ []) [] last
cuts-gap tree rank last level j why at low high cut missing =
    let node = last.block.items in
    let oid = last.at.oid in
    let front = front_of tree oid node j in
    let item : Gapped Item = Ok (item_at oid j (level_of node) (pair_of tree.shape node j)) in
    let gap : Gapped Item = Err why in
    let split : gapped_from tree oid node 0 ≡ (front ++ (item ∷ (gap ∷ []))) ++ gapped_from tree oid node last.next =
    front-split tree oid node j
    ∙ (ap (λ xs. front ++ xs) (gapped-inner tree oid node j level low high)
    ∙ (ap (λ o. front ++ (item ∷ (or_gap o (λ below. flat_map (gapped_part tree level (child_in (pair_of tree.shape node j))) (entries_of tree.shape below)) ++ gapped_from tree oid node (j + 1)))) missing
    ∙ (ap (λ k. front ++ (item ∷ (gap ∷ gapped_from tree oid node k))) (sym at)
    ∙ sym (append_assoc front (item ∷ (gap ∷ [])) (gapped_from tree oid node last.next))))) in
    record {
      before = front ++ item ∷ [];
      whole = front ++ (item ∷ (gap ∷ []));
      parts = sym (append_assoc front (item ∷ []) (gap ∷ []));
      split = before-last tree last (front ++ (item ∷ (gap ∷ []))) split;
      ends = ends-one tree.shape rank front item [] (cut.before j (sym at)) (λ x e. absurd (cc));
    }

cuts-way : {K : Type 0} (tree : Tree K) (root : ℕ) (rank : Rank) (gap : List (Gapped Item)) (above : List Step) (last : Step) → All (IsMetStep tree root) above → IsMetStep tree root last → IsLinked tree above last → All (IsCutStep tree.shape rank) above → CutsBefore tree rank gap [] last →
    CutsBefore tree rank gap above last
cuts-way tree root rank gap [] last held met linked cuts here = here
cuts-way tree root rank gap (s ∷ ss) last held met linked cuts here =
    let others = All-tail (IsMetStep tree root) s ss held in
    let below = cuts-way tree root rank gap ss last others met linked.1 (All-tail (IsCutStep tree.shape rank) s ss cuts) here in
    let under = linked.0 in
    let node = s.block.items in
    let oid = s.at.oid in
    let front = front_of tree oid node under.index in
    let item : Gapped Item = Ok (item_at oid under.index (level_of node) (pair_of tree.shape node under.index)) in
    let low = (All-head (IsCutStep tree.shape rank) s ss cuts).before under.index (sym under.next) in
    record {
      before = front ++ (item ∷ below.before);
      whole = front ++ (item ∷ below.whole);
      parts = ap (λ xs. front ++ (item ∷ xs)) below.parts ∙ sym (append_assoc front (item ∷ below.before) gap);
      split = before-more tree root s ss last below.whole under (bottom-node tree root ss last others met) below.split;
      ends = ends-one tree.shape rank front item below.before low below.ends;
    }

-- a way that stands at a rank's cuts stands at a place of the rank in the Line with its gaps
pub cut-place : {K : Type 0} (tree : Tree K) (root : ℕ) (rank : Rank) (above : List Step) (last : Step) → IsIn tree root above last → IsCutWay tree.shape rank above last → last.next ≤ count_of last.block.items →
    IsPlaceOf tree.shape rank (gapped_of tree root) (gapped_from tree last.at.oid last.block.items last.next ++ gapped_rest tree above)
cut-place tree root rank above last within cuts inside =
    let left = gapped_from tree last.at.oid last.block.items last.next ++ gapped_rest tree above in
    let cut = cuts-way tree root rank [] above last within.hold within.hold_last within.linked cuts.each (cuts-last tree rank last last.next refl inside cuts.here cuts.leaf) in
    record {
      before = cut.before;
      split = root-step tree root (bottom above last) within.base within.base_at ∙ (cut.split ∙ ap (λ xs. xs ++ left) (cut.parts ∙ append-nil cut.before));
      sides = record { low = cut.ends; high = starts-way tree rank above last cuts.each cuts.here };
    }

-- where the child of the entry before the last cut isn't there, a gap stands at the place of the rank
pub cut-gap : {K : Type 0} (tree : Tree K) (root : ℕ) (rank : Rank) (above : List Step) (last : Step) (level j : ℕ) (why : Stop WalkFault) → IsIn tree root above last → All (IsCutStep tree.shape rank) above → IsCutStep tree.shape rank last →
    last.next ≡ j + 1 → j < count_of last.block.items → level_of last.block.items ≡ suc level → tree.look (child_place level (pair_of tree.shape last.block.items j)) ≡ Err why → IsGapAt tree.shape rank (gapped_of tree root) why
cut-gap tree root rank above last level j why within cuts here at low high missing =
    let left = gapped_from tree last.at.oid last.block.items last.next ++ gapped_rest tree above in
    let cut = cuts-way tree root rank (Err why ∷ []) above last within.hold within.hold_last within.linked cuts (cuts-gap tree rank last level j why at low high here missing) in
    record {
      before = cut.before;
      after = left;
      split = root-step tree root (bottom above last) within.base within.base_at ∙ (cut.split ∙ (ap (λ xs. xs ++ left) cut.parts ∙ append_assoc cut.before (Err why ∷ []) left));
      sides = record { low = cut.ends; high = starts-way tree rank above last cuts here };
    }

-- and a search stops there
pub cut-stop : {K : Type 0} (tree : Tree K) (root : ℕ) (rank : Rank) (above : List Step) (last : Step) (level j : ℕ) (stop : Stop WalkFault) → IsIn tree root above last → All (IsCutStep tree.shape rank) above → IsCutStep tree.shape rank last →
    last.next ≡ j + 1 → j < count_of last.block.items → level_of last.block.items ≡ suc level →
    Tells (λ fault. tree.look (child_place level (pair_of tree.shape last.block.items j)) ≡ Err (Found fault)) (λ feature block. tree.look (child_place level (pair_of tree.shape last.block.items j)) ≡ Err (Unsupported feature block)) stop → StopsSearch tree.shape rank (gapped_of tree root) stop
cut-stop tree root rank above last level j (Found fault) within cuts here at low high told = cut-gap tree root rank above last level j (Found fault) within cuts here at low high told
cut-stop tree root rank above last level j (Unsupported feature block) within cuts here at low high told = cut-gap tree root rank above last level j (Unsupported feature block) within cuts here at low high told
cut-stop tree root rank above last level j ReadFault within cuts here at low high told = tt
cut-stop tree root rank above last level j NoMemory within cuts here at low high told = tt
