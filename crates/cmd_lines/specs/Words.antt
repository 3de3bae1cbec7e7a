-- Which words are a line of the program, and what they ask for.
use Rattle.std.specs.Prelude.{ℕ, Bool, true, false, not, List, [], ◌∷◌, length, Option, None, Some, option_map, option_and_then, bytes_eq, codes, if◌then◌else◌, nat_le, ◌&&◌, ◌==◌, ◌+◌, ◌-◌, ◌*◌}
use Rattle.std.specs.Str.{is_utf8}
use Rattle.uuid.specs.Text.{parsed}
use Rattle.apfs_model.specs.Lists.{has}
use Rattle.cmd_words.specs.Asked as lines
use Rattle.cmd_words.specs.Asked.{AskedFlags, AskedTarget}
use Rattle.cmd_words.specs.Lines.{is_digit, line_of}
use Rattle.view_rules.specs.declared.profile.Profile.{Profile}
use Rattle.view_rules.specs.declared.profile.Profile.TheVariants.{Plain, Strict}
use Rattle.img_format.specs.declared.spec.Spec.{Spec}
use Rattle.img_format.specs.Limits.{most_name, least_blocks, most_blocks}
use Rattle.cmd_lines.specs.declared.words.Checks.{Checks}
use Rattle.cmd_lines.specs.declared.words.Checks.TheVariants.{Quick, First}

-- what the program is asked for, with the parts of the line beside the image
pub data Asked : Type 0 where
  -- the candidates of the descriptor ring
  Ring : Asked
  -- the newest checkpoint
  Info : Asked
  -- the volumes
  Volumes : Asked
  -- the space that is in use and free
  Space : Asked
  -- whether the container is well-formed under a profile
  Check : Profile → Asked
  -- the snapshots of the volume in a slot, or of the first volume
  Snapshots : Option ℕ → Asked
  -- how many blocks each view of the volume in a slot, or of the first volume, keeps from being freed
  Usage : Option ℕ → Asked
  -- what a path lists in a view
  Ls : Checks → AskedTarget → Asked
  -- what is under a path in a view
  Tree : Checks → AskedTarget → Asked
  -- the contents of a file in a view
  Cat : Checks → AskedTarget → Asked
  -- the attributes of what a path leads to in a view, or what the one of a name holds
  Xattr : Checks → AskedTarget → Option (List ℕ) → Asked
  -- what a view has, put into a folder
  Export : AskedTarget → Asked
  -- an image of so many files, and whether its container is well-formed
  Gen : ℕ → Asked
  -- a new container
  Format : Spec → Asked

-- what a line asks for: a command, and whether its image is a partition of what is handed in
pub record Line : Type 0 where
  pub in_partition : Bool
  pub command : Asked

-- the profile that a flag chooses
abbrev pub profile_by : Bool → Profile
profile_by strict = if strict then Strict else Plain

-- whether the container is checked first, and under which profile; without a check the profile counts for nothing
abbrev pub checks_by : AskedFlags → Checks
checks_by flags = if flags.quick then Quick else First (profile_by flags.strict)

-- what a line asks for
abbrev pub built : lines.Asked → Asked
built lines.Ring = Ring
built lines.Info = Info
built lines.Volumes = Volumes
built lines.Space = Space
built (lines.Check strict) = Check (profile_by strict)
built (lines.Snapshots volume) = Snapshots volume
built (lines.Usage volume) = Usage volume
built (lines.Ls flags target) = Ls (checks_by flags) target
built (lines.Tree flags target) = Tree (checks_by flags) target
built (lines.Cat flags target) = Cat (checks_by flags) target
built (lines.Xattr flags target name) = Xattr (checks_by flags) target name
built (lines.Export target) = Export target

-- what words ask for that ask for a command on an image
unfoldable pub command_of : List (List ℕ) → Option Asked
command_of words = option_map built (line_of words)

-- a command on what is handed in, or on a partition of it
abbrev pub line_in : Bool → Asked → Line
line_in in_partition command = record { in_partition = in_partition; command = command }

abbrev pub plain_line : Asked → Line
plain_line command = line_in false command

-- `1` to `9`
abbrev pub leading : ℕ → Option ℕ
leading byte = if nat_le 49 byte && nat_le byte 57 then Some (byte - 48) else None

-- a number of four digits at most, and one digit more
abbrev pub joined : Option ℕ → ℕ → Option ℕ
joined None byte = None
joined (Some number) byte = if nat_le number 9999 && is_digit byte then Some (10 * number + (byte - 48)) else None

-- one to five decimal digits without a leading zero, or `0`
abbrev pub count_said : List ℕ → Option ℕ
count_said (a ∷ []) = if a == 48 then Some 0 else leading a
count_said (a ∷ b ∷ []) = joined (leading a) b
count_said (a ∷ b ∷ c ∷ []) = joined (joined (leading a) b) c
count_said (a ∷ b ∷ c ∷ d ∷ []) = joined (joined (joined (leading a) b) c) d
count_said (a ∷ b ∷ c ∷ d ∷ e ∷ []) = joined (joined (joined (joined (leading a) b) c) d) e
count_said _ = None

-- at most 20,000 files
abbrev pub few : ℕ → Option ℕ
few files = if nat_le files 20000 then Some files else None

-- a number of files that can be made
abbrev pub files_said : List ℕ → Option ℕ
files_said word = option_and_then few (count_said word)

-- how many files are asked for, where the command is `gen`
abbrev pub files_named : List ℕ → List ℕ → Option ℕ
files_named command count = if bytes_eq command (codes "gen") then files_said count else None

-- `gen N`: how many files are asked for
abbrev pub gen_files : List (List ℕ) → Option ℕ
gen_files (command ∷ count ∷ []) = files_named command count
gen_files _ = None

-- as many blocks as a new container can have
abbrev pub holdable : ℕ → Option ℕ
holdable blocks = if nat_le least_blocks blocks && nat_le blocks most_blocks then Some blocks else None

-- the number of blocks of a new container
abbrev pub blocks_said : List ℕ → Option ℕ
blocks_said word = option_and_then holdable (count_said word)

-- a name that a volume can have: 1 to 255 bytes of UTF-8, none of which is zero
abbrev pub is_name : List ℕ → Bool
is_name word = nat_le 1 (length word) && nat_le (length word) most_name && not (has word 0) && is_utf8 word

-- the name of its volume
abbrev pub name_said : List ℕ → Option (List ℕ)
name_said word = if is_name word then Some word else None

-- a new container, by what is said of each of its parts
abbrev pub spec_by : Option ℕ → Option (List ℕ) → Option (List ℕ) → Option (List ℕ) → Option Spec
spec_by (Some blocks) (Some name) (Some container) (Some volume) = Some (record { blocks = blocks; name = name; container = container; volume = volume })
spec_by _ _ _ _ = None

-- `N NAME CONTAINER VOLUME`: the new container that they say; the two identifiers are in any form that `uuid` parses
abbrev pub spec_said : List ℕ → List ℕ → List ℕ → List ℕ → Option Spec
spec_said blocks name container volume = spec_by (blocks_said blocks) (name_said name) (parsed container) (parsed volume)

-- which new container is asked for, where the command is `format`
abbrev pub spec_named : List ℕ → Option Spec → Option Spec
spec_named command spec = if bytes_eq command (codes "format") then spec else None

-- `format N NAME CONTAINER VOLUME`: which new container is asked for
abbrev pub new_spec : List (List ℕ) → Option Spec
new_spec (command ∷ blocks ∷ name ∷ container ∷ volume ∷ []) = spec_named command (spec_said blocks name container volume)
new_spec _ = None

abbrev pub new_by : List (List ℕ) → Option Spec → Option Line
new_by words None = option_map (line_in false) (command_of words)
new_by words (Some spec) = Some (plain_line (Format spec))

-- what words ask for that ask neither for a partition nor for an image that is made
unfoldable pub new_of : List (List ℕ) → Option Line
new_of words = new_by words (new_spec words)

abbrev pub plain_by : List (List ℕ) → Option ℕ → Option Line
plain_by words None = new_of words
plain_by words (Some files) = Some (plain_line (Gen files))

-- what words ask for that don't ask for a partition
unfoldable pub plain_of : List (List ℕ) → Option Line
plain_of words = plain_by words (gen_files words)

-- `--gpt` asks for a partition, and stands before the command, which is one on an image
abbrev pub is_gpt : List ℕ → Bool
is_gpt word = bytes_eq word (codes "--gpt")

-- the words after `--gpt`, where they begin so
abbrev pub after_gpt : List (List ℕ) → Option (List (List ℕ))
after_gpt [] = None
after_gpt (word ∷ words) = if is_gpt word then Some words else None

abbrev pub asked_by : List (List ℕ) → Option (List (List ℕ)) → Option Line
asked_by words None = plain_of words
asked_by words (Some rest) = option_map (line_in true) (command_of rest)

-- what the words ask for; None where they are no line of the program
unfoldable pub asked_of : List (List ℕ) → Option Line
asked_of words = asked_by words (after_gpt words)

-- whether a command checks the container before it looks at it
abbrev pub checks_of : Asked → Checks
checks_of (Usage volume) = First Plain
checks_of (Ls checks target) = checks
checks_of (Tree checks target) = checks
checks_of (Cat checks target) = checks
checks_of (Xattr checks target name) = checks
checks_of (Export target) = First Plain
checks_of command = Quick
