-- What is there where a call on a path stops.
use Rattle.std.specs.Prelude.{ℕ, List}
use Rattle.obj_base.specs.declared.site.Site.{Site}
use Rattle.view_rules.specs.declared.fault.TreeFault.{TreeFault}
use Rattle.vol_view.specs.Volumes.{Loaded}
use Rattle.vol_view.specs.declared.volume.View.{View}
use Rattle.ext_ref.specs.declared.range.NewRange.{NewRange}
use Rattle.view_rules.specs.Rules.{HasTreeRules, IsTreeFault}
use Rattle.view_rules.specs.declared.profile.Profile.{Profile}

-- a view that meets its rules, under some profile and for some new ranges
pub record IsLawful (image : List ℕ) (site : Site) (volume : Loaded) (view : View) : Type 0 where
  pub profile : Profile
  pub ranges : List NewRange
  pub rules : HasTreeRules profile image site volume view ranges

-- a fault that is named is there, whatever the profile and the new ranges
abbrev pub IsPathFault : List ℕ → Site → Loaded → View → TreeFault → Type 0
IsPathFault image site volume view fault = (profile : Profile) (ranges : List NewRange) → IsTreeFault profile image site volume view ranges fault
