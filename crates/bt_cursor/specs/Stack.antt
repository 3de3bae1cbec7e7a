-- A way from a root down to a place.
use Rattle.std.specs.Prelude.{◌≡◌, ℕ, suc, ◌+◌, ◌<◌, ◌≤◌, true, List, [], ◌∷◌, length, slice_index_or, All, Ok}
use Rattle.obj_base.specs.BlockSize.{is_accepted}
use Rattle.bt_node.specs.Shape.{Shape}
use Rattle.bt_node.specs.Node.{level_of, count_of}
use Rattle.bt_node.specs.Entries.{pair_of}
use Rattle.bt_node.specs.SoundNode.{IsNode}
use Rattle.obj_base.specs.declared.site.Site.{Site}
use Rattle.bt_cursor.specs.Tree.{Tree, root_place, child_place}
use Rattle.bt_cursor.specs.Met.{IsMet}
use Rattle.bt_cursor.specs.declared.way.Step.{Step}

-- a buffer of a block
abbrev pub IsLong : Site → Step → Type 0
IsLong site step = length step.block.items ≡ site.block_size

-- a step through a node that is sound as expected
pub record IsStep {K : Type 0} (shape : Shape K) (site : Site) (step : Step) : Type 0 where
  pub accepted : is_accepted site.block_size ≡ true
  pub long : IsLong site step
  pub node : IsNode shape step.at site step.block.items
  pub inside : step.next ≤ count_of step.block.items

-- the steps of a way go through such nodes, and there is a buffer for each level below
pub record IsWay {K : Type 0} (shape : Shape K) (site : Site) (above : List Step) (last : Step) (spare : List Step) : Type 0 where
  pub hold : All (IsStep shape site) above
  pub hold_last : IsStep shape site last
  pub levels : (i : ℕ) (d : Step) → i < length above → level_of (slice_index_or above i d).block.items + i < length above + 1 + length spare
  pub level_last : level_of last.block.items ≤ length spare
  pub buffers : All (IsLong site) spare

-- a step through a node that is met in a tree
pub record IsMetStep {K : Type 0} (tree : Tree K) (root : ℕ) (step : Step) : Type 0 where
  pub met : IsMet tree root step.at
  pub node : tree.look step.at ≡ Ok step.block.items

-- the first step of a way
abbrev pub bottom : List Step → Step → Step
bottom [] last = last
bottom (step ∷ steps) last = step

-- a step is the child of the entry that was passed last in the step above it
pub record IsUnder {K : Type 0} (tree : Tree K) (upper lower : Step) : Type 0 where
  pub index : ℕ
  pub next : upper.next ≡ index + 1
  pub low : index < count_of upper.block.items
  pub high : level_of upper.block.items ≡ suc (level_of lower.block.items)
  pub place : lower.at ≡ child_place (level_of lower.block.items) (pair_of tree.shape upper.block.items index)

-- each step is such a child of the one above it
abbrev pub IsLinked : {K : Type 0} → Tree K → List Step → Step → Type 0
IsLinked tree [] last = Unit {0}
IsLinked tree (step ∷ steps) last = IsUnder tree step (bottom steps last) × IsLinked tree steps last

-- a way through nodes of a tree, from its root on
pub record IsIn {K : Type 0} (tree : Tree K) (root : ℕ) (above : List Step) (last : Step) : Type 0 where
  pub hold : All (IsMetStep tree root) above
  pub hold_last : IsMetStep tree root last
  pub base : tree.look (root_place root) ≡ Ok (bottom above last).block.items
  pub base_at : (bottom above last).at ≡ root_place root
  pub linked : IsLinked tree above last
