-- The clap commands that read the words after the image, as clap's own definitions see them.
use Rattle.std.specs.Prelude.{Bool, true, false, List, [], ◌∷◌, Option, Some, None, codes}
use Rattle.std.specs.Prelude.{if◌then◌else◌}
use Rattle.clap.specs.Walk.{Row, Rule, Text, is_empty}
use Rattle.clap.specs.Simple.{App, matches_of, new_app, new_rule, on_top, with_rule}
use Rattle.clap.specs.Faults.{fault_of}
use Rattle.clap.specs.declared.builder.action.ArgAction.TheVariants.{Set}

-- a value by its place
abbrev pub place_rule : Bool → Text → Rule
place_rule required name = record (new_rule name) { action = Some Set; required = required }

-- `--name VALUE`
abbrev pub option_rule : Text → Rule
option_rule name = record (new_rule name) { action = Some Set; long = Some name }

-- `--name`, which says `true` and takes no value
abbrev pub flag_rule : Text → Rule
flag_rule name = record (new_rule name) {
  action = Some Set;
  long = Some name;
  range = Some (record { start_inclusive = 0; end_inclusive = 0 });
  missing = codes "true" ∷ [];
}

-- a command that reads every word that it is given, and has no help
abbrev pub bare_app : App
bare_app = on_top (λ top. record top { no_binary_name = true; disable_help_flag = true }) (new_app [])

-- `[--volume N] [--snapshot NAME]`, after what a command has
abbrev pub with_view : App → App
with_view app = with_rule (with_rule app (option_rule (codes "volume"))) (option_rule (codes "snapshot"))

-- `[--quick] [--strict]`, after what a command has
abbrev pub with_flags : App → App
with_flags app = with_rule (with_rule app (flag_rule (codes "quick"))) (flag_rule (codes "strict"))

-- `PATH [--volume N] [--snapshot NAME] [--quick] [--strict]`
abbrev pub target_app : App
target_app = with_flags (with_view (with_rule bare_app (place_rule true (codes "path"))))

-- `PATH [NAME] [--volume N] [--snapshot NAME] [--quick] [--strict]`
abbrev pub xattr_app : App
xattr_app = with_flags (with_view (with_rule (with_rule bare_app (place_rule true (codes "path"))) (place_rule false (codes "name"))))

-- `[--strict]`
abbrev pub check_app : App
check_app = with_rule bare_app (flag_rule (codes "strict"))

-- `[--volume N]`
abbrev pub volume_app : App
volume_app = with_rule bare_app (option_rule (codes "volume"))

-- `[--volume N] [--snapshot NAME]`
abbrev pub view_app : App
view_app = with_view bare_app

-- what clap finds in the words, where it takes them
abbrev pub found_in : App → List Text → Option (List Row)
found_in app words = if is_empty (fault_of app words) then Some (matches_of app words) else None
