-- What the command `xattr` writes.
use Rattle.std.specs.Prelude.{ℕ, ◌++◌, List, codes}
use Rattle.std.specs.Fmt.{decimal}
use Rattle.std.specs.List.{flat_map}
use Rattle.fs_name.specs.Shown.{shown_name}

-- the line of an attribute: how many bytes it holds, and its shown name
abbrev pub attribute_text : List ℕ × ℕ → List ℕ
attribute_text a = decimal a.1 ++ (codes " " ++ (shown_name a.0 ++ codes "\n"))

-- `xattr` without a name: a line for each attribute
abbrev pub xattr_text : List (List ℕ × ℕ) → List ℕ
xattr_text attributes = flat_map attribute_text attributes
