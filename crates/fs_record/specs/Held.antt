-- What a name that is kept holds.
use Rattle.std.specs.Prelude.{ℕ, List}
use Rattle.std.specs.String.{string_bytes}
use Rattle.fs_record.specs.declared.kept.Held.{Held}
use Rattle.fs_record.specs.declared.kept.Held.TheVariants.{Short, Long}

-- the bytes of a name that is kept
abbrev pub bytes_of : Held → List ℕ
bytes_of (Short short) = short.bytes
bytes_of (Long long) = string_bytes long
