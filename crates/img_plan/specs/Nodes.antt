-- What a key and its value take in a node.
use Rattle.std.specs.Prelude.{ℕ, ◌+◌}

-- The bytes that a key and its value take in a node: their own, and 8 of the node's table.
abbrev pub bytes_in_node : ℕ → ℕ → ℕ
bytes_in_node key value = key + value + 8
