-- What the edge tells.
use Rattle.std.specs.Prelude.{List, Option, None}
use Rattle.blk_folder.specs.Items.{Item}

-- the items that a real directory tells: none
abbrev pub untold : Option (List Item)
untold = None
