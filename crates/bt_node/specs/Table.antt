-- The fields of a node that all its entries need.
use Rattle.std.specs.Prelude.{◌≡◌, ℕ, ◌+◌, ◌^◌, ◌≤◌, ◌<◌, Bool, List, length}
use Rattle.bt_node.specs.Node.{is_fixed, level_of, table_begin, keys_begin, end_of}

-- numbers that are the fields of a node: its fixed flag, where its table, its keys and the end of its values lie, and its level
pub record HasFields (node : List ℕ) (fixed : Bool) (begin keys end level : ℕ) : Type 0 where
  pub long : 96 ≤ length node
  pub fixed_right : fixed ≡ is_fixed node
  pub begin_right : begin ≡ table_begin node
  pub keys_right : keys ≡ keys_begin node
  pub keys_small : keys < 56 + 2 ^ 17
  pub end_right : end ≡ end_of node
  pub end_inside : end ≤ length node
  pub level_right : level ≡ level_of node
