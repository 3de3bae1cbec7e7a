-- What the keys of one kind of tree are.
use Rattle.std.specs.Prelude.{ℕ, Bool, List, Option}
use Rattle.bt_node.specs.declared.key.Layout.{Layout}
use Rattle.bt_node.specs.declared.key.Rank.{Rank}

-- a tree's subtype, how its entries lie in a node, whether an entry may lack a value, and what its keys mean (B-Trees, btree_info_fixed_t)
pub record Shape (K : Type 0) : Type 0 where
  pub subtype : ℕ
  pub layout : Layout
  pub key_len : ℕ
  pub value_len : ℕ
  pub ghosts : Bool
  pub read : List ℕ → Option K
  pub rank : K → Rank
  pub strict : K → Bool
