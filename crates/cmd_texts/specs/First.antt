-- What is said of a command that checks the container first, by what is said of it without a check.
use Rattle.std.specs.Prelude.{ℕ, List, Option, None, Some}
use Rattle.obj_base.specs.declared.stop.Feature.{Feature}
use Rattle.apfs_check.specs.Present.{IsPresent, IsFeature}
use Rattle.apfs_check.specs.WellFormed.{IsWellFormed}
use Rattle.apfs_check.specs.declared.fault.Fault.{Fault}
use Rattle.view_rules.specs.declared.profile.Profile.{Profile}
use Rattle.cmd_lines.specs.declared.words.Checks.{Checks}
use Rattle.cmd_lines.specs.declared.words.Checks.TheVariants.{Quick, First}

-- a text or an answer: after a check, of a well-formed container alone
abbrev pub ResultBy : Checks → List ℕ → Type 0 → Type 0
ResultBy Quick image is = is
ResultBy (First profile) image is = IsWellFormed profile image × is

-- a fault that is named: after a check, any that is present
abbrev pub FaultBy : Checks → List ℕ → Fault → Type 0 → Type 0
FaultBy Quick image fault is = is
FaultBy (First profile) image fault is = IsPresent profile image fault

-- a feature that is refused: after a check, any that is present
abbrev pub FeatureBy : Checks → List ℕ → Feature → ℕ → Type 0 → Type 0
FeatureBy Quick image feature block is = is
FeatureBy (First profile) image feature block is = IsFeature image feature block

-- what a promise rests on: after a check, on nothing
abbrev pub RestsBy : Checks → Type 0 → Type 0
RestsBy Quick rests = rests
RestsBy (First profile) rests = Unit {0}

-- a fault is present in a container: under the profile of a check, and without one under each
abbrev pub PresentBy : Option Profile → List ℕ → Fault → Type 0
PresentBy None image fault = (profile : Profile) → IsPresent profile image fault
PresentBy (Some profile) image fault = IsPresent profile image fault
