-- What the edge tells.
use Rattle.std.specs.Prelude.{ℕ, List, Option, None}

-- the bytes that a file tells: none
abbrev pub untold : Option (List ℕ)
untold = None
