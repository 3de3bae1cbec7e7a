-- What a view of a node holds of its bytes.
use Rattle.std.specs.Prelude.{ℕ, ◌≤◌, List, length}
use Rattle.bt_node.specs.Shape.{Shape}
use Rattle.bt_node.specs.SoundNode.{IsTable}

-- a node whose fields and entries can be lent
pub record IsLegible {K : Type 0} (shape : Shape K) (node : List ℕ) : Type 0 where
  pub long : 96 ≤ length node
  pub table : IsTable shape node
