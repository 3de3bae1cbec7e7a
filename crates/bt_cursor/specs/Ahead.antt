-- What is left of a way.
use Rattle.std.specs.Prelude.{◌≡◌, ℕ, ◌+◌, ◌-◌, ◌<◌, ◌≤◌, Bool, true, false, List, [], ◌∷◌, ◌++◌, length, drop, flat_map, Ok}
use Rattle.apfs_model.specs.Lists.{through}
use Rattle.bt_node.specs.Node.{level_of}
use Rattle.bt_node.specs.Entries.{Pair, pair_of}
use Rattle.bt_node.specs.Shape.{Shape}
use Rattle.bt_node.specs.declared.node.NodeAt.{NodeAt}
use Rattle.bt_cursor.specs.Tree.{Tree, child_in, child_place, node_at}
use Rattle.bt_cursor.specs.Line.{Item, item_at, entries_of, line_part}
use Rattle.bt_cursor.specs.Met.{places_in}
use Rattle.bt_cursor.specs.Gaps.{Gapped, or_gap, gapped_part, all_met, all_flat}
use Rattle.bt_cursor.specs.declared.way.Step.{Step}
use Rattle.bt_cursor.specs.declared.way.Way.{Way}

-- the bytes of a step's buffer, whatever a call answers
abbrev pub items_of : {U : Type 0} → Step → U → List ℕ
items_of step u = step.block.items

-- the items of a node from an entry on
abbrev pub line_from : {K : Type 0} → Tree K → ℕ → List ℕ → ℕ → List Item
line_from tree oid node i = flat_map (line_part tree (level_of node) oid) (drop i (entries_of tree.shape node))

-- what is left of the nodes above the last
abbrev pub rest : {K : Type 0} → Tree K → List Step → List Item
rest tree [] = []
rest tree (step ∷ steps) = rest tree steps ++ line_from tree step.at.oid step.block.items step.next

-- what is left of a way
abbrev pub ahead : {K : Type 0} → Tree K → Way → List Item
ahead tree way = line_from tree way.last.at.oid way.last.block.items way.last.next ++ rest tree way.above.items

-- the entry passed last, and the place of its child
abbrev pub passed_pair : {K : Type 0} → Shape K → Way → Pair
passed_pair shape way = pair_of shape way.last.block.items (way.last.next - 1)

abbrev pub passed_item : {K : Type 0} → Shape K → Way → Item
passed_item shape way = item_at way.last.at.oid (way.last.next - 1) (level_of way.last.block.items) (passed_pair shape way)

abbrev pub passed_child : {K : Type 0} → Shape K → Way → NodeAt
passed_child shape way = child_place (level_of way.last.block.items - 1) (passed_pair shape way)

-- the items of a child of a level
abbrev pub line_under : {K : Type 0} → Tree K → ℕ → Pair → List Item
line_under tree level pair = through (node_at tree (child_place level pair)) (λ node. flat_map (line_part tree level (child_in pair)) (entries_of tree.shape node))

-- what is left from an entry of a node on, where the child of the entry before may be still to come
abbrev pub ahead_at : {K : Type 0} → Tree K → Bool → ℕ → List ℕ → ℕ → List Step → List Item
ahead_at tree true oid node next above = line_under tree (level_of node - 1) (pair_of tree.shape node (next - 1)) ++ (line_from tree oid node next ++ rest tree above)
ahead_at tree false oid node next above = line_from tree oid node next ++ rest tree above

abbrev pub ahead_if : {K : Type 0} → Tree K → Bool → Way → List Item
ahead_if tree deep way = ahead_at tree deep way.last.at.oid way.last.block.items way.last.next way.above.items

-- the same with the gaps: of a node from an entry on, of the nodes above the last, and of a way
abbrev pub gapped_from : {K : Type 0} → Tree K → ℕ → List ℕ → ℕ → List (Gapped Item)
gapped_from tree oid node i = flat_map (gapped_part tree (level_of node) oid) (drop i (entries_of tree.shape node))

abbrev pub gapped_rest : {K : Type 0} → Tree K → List Step → List (Gapped Item)
gapped_rest tree [] = []
gapped_rest tree (step ∷ steps) = gapped_rest tree steps ++ gapped_from tree step.at.oid step.block.items step.next

abbrev pub gapped_ahead : {K : Type 0} → Tree K → Way → List (Gapped Item)
gapped_ahead tree way = gapped_from tree way.last.at.oid way.last.block.items way.last.next ++ gapped_rest tree way.above.items

-- of a child of a level
abbrev pub gapped_under : {K : Type 0} → Tree K → ℕ → Pair → List (Gapped Item)
gapped_under tree level pair = or_gap (tree.look (child_place level pair)) (λ node. flat_map (gapped_part tree level (child_in pair)) (entries_of tree.shape node))

-- how many places of nodes are left
abbrev pub places_ahead : {K : Type 0} → Tree K → Way → ℕ
places_ahead tree way = length (places_in (all_met (gapped_ahead tree way)))

-- an entry of level 0 was passed last
pub record Stands (way : Way) : Type 0 where
  pub leaf : level_of way.last.block.items ≡ 0
  pub some : 0 < way.last.next

-- an entry above level 0 was passed last
pub record IsDeep (way : Way) : Type 0 where
  pub upper : 0 < level_of way.last.block.items
  pub some : 0 < way.last.next

-- the next entry of level 0 was passed, and no gap before it, or there is neither
abbrev pub MovesWay : {K : Type 0} → Tree K → Way → Way → Bool → Type 0
MovesWay tree old new true = all_flat (gapped_ahead tree old) ≡ Ok (passed_pair tree.shape new) ∷ all_flat (gapped_ahead tree new)
MovesWay tree old new false = all_flat (gapped_ahead tree old) ≡ []

-- the nodes read were left before and aren't any more
abbrev pub ReadsPast : {K : Type 0} → Tree K → ℕ → Way → ℕ → Way → Type 0
ReadsPast tree old_reads old reads new = reads + places_ahead tree new ≤ old_reads + places_ahead tree old

-- how many levels it has buffers for below its root
abbrev pub depth_way : Way → ℕ
depth_way way = length way.spare.items + length way.above.items

-- a root alone, before its first entry
pub record IsStart (way : Way) : Type 0 where
  pub above : way.above.items ≡ []
  pub next : way.last.next ≡ 0
