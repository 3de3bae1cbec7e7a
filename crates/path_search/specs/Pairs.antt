-- A record by its parts.
use Rattle.std.specs.Prelude.{ℕ, List, Option}
use Rattle.bt_node.specs.Entries.{Pair}

-- the record of these bytes of a key and of a value
abbrev pub pair_by : List ℕ → Option (List ℕ) → Pair
pair_by key value = record { key = key; value = value }
