-- Which words are a line of the program, and what the line asks for.
use Rattle.std.specs.Prelude.{nat_le, Bool, ◌+◌, ◌-◌, ◌*◌, ◌==◌, ◌&&◌, ℕ, not, List, [], ◌∷◌}
use Rattle.std.specs.Prelude.{Option, Some, None, is_some, option_map, option_and_then, if◌then◌else◌, codes}
use Rattle.std.specs.Str.{bytes_eq}
use Rattle.cmd_words.specs.Said.{Grammar, Text, said_by_words, value_said}
use Rattle.cmd_words.specs.Asked.{Asked, AskedFlags, AskedTarget, Cat, Check, Export, Info, Ls, Ring, Snapshots, Space, Tree, Usage, Volumes, Xattr}

-- ---- the parts of a line

-- `0` to `9`
abbrev pub is_digit : ℕ → Bool
is_digit byte = nat_le 48 byte && nat_le byte 57

-- one or two decimal digits without a leading zero, or `0`
abbrev pub small_number : Text → Option ℕ
small_number (d ∷ []) = if is_digit d then Some (d - 48) else None
small_number (d ∷ e ∷ []) =
    if is_digit d && is_digit e && not (d == 48) then Some (10 * (d - 48) + (e - 48)) else None
small_number _ = None

-- the volume that an option gives: none where the option is absent, and no answer where its value is no number
abbrev pub volume_by : Option Text → Option (Option ℕ)
volume_by None = Some None
volume_by (Some text) = option_map (λ n. Some n) (small_number text)

-- a path and its view, where `value` gives what was said for a name
abbrev pub target_by : (Text → Option Text) → Option AskedTarget
target_by value = option_and_then (λ path. option_map (λ volume. record {
  path = path;
  volume = volume;
  snapshot = value (codes "snapshot");
}) (volume_by (value (codes "volume")))) (value (codes "path"))

-- which flags were said, where `value` gives what was said for a name
abbrev pub flags_by : (Text → Option Text) → AskedFlags
flags_by value = record { quick = is_some (value (codes "quick")); strict = is_some (value (codes "strict")) }

-- flags with a path and its view, where `value` gives what was said for a name
abbrev pub browse_by : (Text → Option Text) → Option (AskedFlags × AskedTarget)
browse_by value = option_map (λ target. (flags_by value, target)) (target_by value)

-- attributes, where `value` gives what was said for a name
abbrev pub xattr_by : (Text → Option Text) → Option Asked
xattr_by value = option_map (λ target. Xattr (flags_by value) target (value (codes "name"))) (target_by value)

-- a check, where `value` gives what was said for a name
abbrev pub check_by : (Text → Option Text) → Option Asked
check_by value = Some (Check (is_some (value (codes "strict"))))

-- a volume alone, where `value` gives what was said for a name
abbrev pub volume_alone : (Text → Option Text) → Option (Option ℕ)
volume_alone value = volume_by (value (codes "volume"))

-- the root of a view, where `value` gives what was said for a name
abbrev pub root_by : (Text → Option Text) → Option AskedTarget
root_by value = option_map (λ volume. record {
  path = codes "/";
  volume = volume;
  snapshot = value (codes "snapshot");
}) (volume_by (value (codes "volume")))

-- ---- the words after the image

-- `PATH [--volume N] [--snapshot NAME] [--quick] [--strict]`
abbrev pub target_words : Grammar
target_words = record {
  options = codes "volume" ∷ codes "snapshot" ∷ [];
  flags = codes "quick" ∷ codes "strict" ∷ [];
  places = codes "path" ∷ [];
  required = codes "path" ∷ [];
}

-- `PATH [NAME] [--volume N] [--snapshot NAME] [--quick] [--strict]`
abbrev pub xattr_words : Grammar
xattr_words = record {
  options = codes "volume" ∷ codes "snapshot" ∷ [];
  flags = codes "quick" ∷ codes "strict" ∷ [];
  places = codes "path" ∷ codes "name" ∷ [];
  required = codes "path" ∷ [];
}

-- `[--strict]`
abbrev pub check_words : Grammar
check_words = record { options = []; flags = codes "strict" ∷ []; places = []; required = [] }

-- `[--volume N]`
abbrev pub volume_words : Grammar
volume_words = record { options = codes "volume" ∷ []; flags = []; places = []; required = [] }

-- `[--volume N] [--snapshot NAME]`
abbrev pub view_words : Grammar
view_words = record { options = codes "volume" ∷ codes "snapshot" ∷ []; flags = []; places = []; required = [] }

-- what words of a grammar ask for, by what they say for each name
abbrev pub read : {X : Type 0} → Grammar → ((Text → Option Text) → Option X) → List Text → Option X
read grammar parts words =
    option_and_then (λ all. parts (λ name. value_said name all)) (said_by_words grammar words)

-- `DIR [--volume N] [--snapshot NAME]`: the root of a view, after a directory that is taken as it stands
abbrev pub export_words : List Text → Option AskedTarget
export_words [] = None
export_words (dir ∷ rest) = read view_words root_by rest

-- a line that has no word after the image
abbrev pub alone : Asked → List Text → Option Asked
alone asked [] = Some asked
alone asked (word ∷ rest) = None

-- ---- the line

-- the line of a command, where the others are the lines of each kind of words after the image
abbrev pub line_named : Text → (Asked → Option Asked) → Option Asked → Option (Option ℕ) → Option (AskedFlags × AskedTarget) → Option Asked → Option AskedTarget → Option Asked
line_named command by_image check volume browse xattr export =
    if bytes_eq command (codes "ring") then by_image Ring else
    if bytes_eq command (codes "info") then by_image Info else
    if bytes_eq command (codes "volumes") then by_image Volumes else
    if bytes_eq command (codes "space") then by_image Space else
    if bytes_eq command (codes "check") then check else
    if bytes_eq command (codes "snapshots") then option_map Snapshots volume else
    if bytes_eq command (codes "usage") then option_map Usage volume else
    if bytes_eq command (codes "ls") then option_map (λ b. Ls b.0 b.1) browse else
    if bytes_eq command (codes "tree") then option_map (λ b. Tree b.0 b.1) browse else
    if bytes_eq command (codes "cat") then option_map (λ b. Cat b.0 b.1) browse else
    if bytes_eq command (codes "xattr") then xattr else
    if bytes_eq command (codes "export") then option_map Export export else
    None

-- what a line of words asks for; None where the words are no line of the program
abbrev pub line_of : List Text → Option Asked
line_of (command ∷ image ∷ rest) = line_named command (λ asked. alone asked rest)
    (read check_words check_by rest) (read volume_words volume_alone rest)
    (read target_words browse_by rest) (read xattr_words xattr_by rest) (export_words rest)
line_of words = None
