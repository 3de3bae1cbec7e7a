-- The command `check`: what is told of a well-formed container.
use Rattle.std.specs.Prelude.{◌≡◌, ℕ, List}
use Rattle.obj_base.specs.declared.stop.Feature.{Feature}
use Rattle.view_rules.specs.declared.profile.Profile.{Profile}
use Rattle.apfs_check.specs.Present as container
use Rattle.apfs_check.specs.Report.{Told, IsChecked}
use Rattle.apfs_check.specs.declared.fault.Fault.{Fault}
use Rattle.cmd_lines.specs.ReportText.{report_text}

-- the text: of a container that is well-formed under the profile
abbrev pub IsText : Profile → List ℕ → List ℕ → Type 0
IsText profile image text = (told : Told) × IsChecked profile image told × (text ≡ report_text told)

-- the fault that is named
abbrev pub IsFault : Profile → List ℕ → Fault → Type 0
IsFault profile image fault = container.IsPresent profile image fault

-- the feature that is refused
abbrev pub IsFeature : List ℕ → Feature → ℕ → Type 0
IsFeature image feature block = container.IsFeature image feature block
