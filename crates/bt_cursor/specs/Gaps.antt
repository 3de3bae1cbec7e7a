-- The Line of a tree with its gaps: beside the entries, why a child isn't there.
use Rattle.std.specs.Prelude.{◌≡◌, ℕ, zero, suc, Bool, is_ok, List, [], ◌∷◌, ◌++◌, flat_map, Result, Ok, Err, if◌then◌else◌}
use Rattle.std.specs.List.{list_all}
use Rattle.obj_base.specs.Stops.{Tells}
use Rattle.obj_base.specs.declared.stop.Stop.{Stop}
use Rattle.obj_base.specs.declared.stop.Stop.TheVariants.{Found, Unsupported}
use Rattle.bt_node.specs.Node.{level_of}
use Rattle.bt_node.specs.Entries.{Pair}
use Rattle.bt_cursor.specs.declared.fault.WalkFault.{WalkFault}
use Rattle.bt_cursor.specs.Tree.{Tree, root_place, child_in, child_place}
use Rattle.bt_cursor.specs.Line.{Item, item_at, entries_of, is_leaf_item}

-- an item of a list, or a gap: why there is no node from which the list goes on
abbrev pub Gapped : Type 0 → Type 0
Gapped X = Result X (Stop WalkFault)

-- what a node has, or a gap
abbrev pub or_gap : {X : Type 0} → Result (List ℕ) (Stop WalkFault) → (List ℕ → List (Gapped X)) → List (Gapped X)
or_gap (Ok node) f = f node
or_gap (Err why) f = Err why ∷ []

-- an entry of a node of a level, and the items of its child, or a gap where the child isn't there
abbrev pub gapped_part : {K : Type 0} → Tree K → ℕ → ℕ → ℕ × Pair → List (Gapped Item)
gapped_part tree zero oid entry = Ok (item_at oid entry.0 zero entry.1) ∷ []
gapped_part tree (suc level) oid entry = Ok (item_at oid entry.0 (suc level) entry.1) ∷ or_gap (tree.look (child_place level entry.1)) (λ node. flat_map (gapped_part tree level (child_in entry.1)) (entries_of tree.shape node))

-- the Line of a tree with its gaps, by its root; one gap where there is no root
abbrev pub gapped_of : {K : Type 0} → Tree K → ℕ → List (Gapped Item)
gapped_of tree root = or_gap (tree.look (root_place root)) (λ node. flat_map (gapped_part tree (level_of node) root) (entries_of tree.shape node))

-- the items of a list with gaps
abbrev pub met_in : {X : Type 0} → Gapped X → List X
met_in (Ok x) = x ∷ []
met_in (Err why) = []

abbrev pub all_met : {X : Type 0} → List (Gapped X) → List X
all_met gapped = flat_map met_in gapped

-- the entries of leaves, and the gaps: the flat list with its gaps
abbrev pub flat_in : Gapped Item → List (Gapped Pair)
flat_in (Ok item) = if is_leaf_item item then Ok item.pair ∷ [] else []
flat_in (Err why) = Err why ∷ []

abbrev pub all_flat : List (Gapped Item) → List (Gapped Pair)
all_flat gapped = flat_map flat_in gapped

-- a list has no gap
abbrev pub is_gapless : {X : Type 0} → List (Gapped X) → Bool
is_gapless gapped = list_all (λ x. is_ok x) gapped

-- a list is the end of another
pub record IsSuffix {X : Type 0} (left whole : List X) : Type 0 where
  pub before : List X
  pub split : whole ≡ before ++ left

-- a gap comes next, for this reason
pub record ComesTo (left : List (Gapped Pair)) (why : Stop WalkFault) : Type 0 where
  pub after : List (Gapped Pair)
  pub gap : left ≡ Err why ∷ after

-- a walk stops at the gap that comes next and says why it is one, or tells nothing
abbrev pub StopsAt : List (Gapped Pair) → Stop WalkFault → Type 0
StopsAt left stop = Tells (λ fault. ComesTo left (Found fault)) (λ feature block. ComesTo left (Unsupported feature block)) stop
