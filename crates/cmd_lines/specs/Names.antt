-- How identifiers are shown.
use Rattle.std.specs.Prelude.{ℕ, List}
use Rattle.uuid.specs.Text.{hyphenated_text, lower}

-- an identifier as it is shown: in lower case, with hyphens
unfoldable pub uuid_text : List ℕ → List ℕ
uuid_text bytes = hyphenated_text lower bytes
