-- The names that are kept.
use Rattle.std.specs.Prelude.{ℕ, ◌+◌, ◌*◌, ◌^◌, List, Option, None, Some}
use Rattle.std.specs.String.{string_bytes}
use Rattle.view_facts.specs.declared.text.Text.{Text}
use Rattle.view_facts.specs.declared.text.Text.TheVariants.{Short, Long, Twin, FarTwin}

-- the bytes of a name that is kept
abbrev pub bytes_of : Text → List ℕ
bytes_of (Short short) = short
bytes_of (Long long) = string_bytes long
bytes_of (Twin upper lower name) = string_bytes name
bytes_of (FarTwin twin) = string_bytes twin.value.name

-- the sibling's id that is kept with a name
abbrev pub sibling_of : Text → Option ℕ
sibling_of (Short short) = None
sibling_of (Long long) = None
sibling_of (Twin upper lower name) = Some (upper * 2 ^ 32 + lower)
sibling_of (FarTwin twin) = Some twin.value.sibling
