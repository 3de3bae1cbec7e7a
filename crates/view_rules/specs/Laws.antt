-- The law of the rules of a view.
use Rattle.std.specs.Prelude.{◌⊎◌, ℕ, List}
use Rattle.obj_base.specs.declared.stop.Feature.{Feature}
use Rattle.obj_base.specs.declared.site.Site.{Site}
use Rattle.vol_view.specs.Volumes.{Loaded}
use Rattle.vol_view.specs.Views.{IsViewFeature}
use Rattle.vol_view.specs.declared.volume.View.{View}
use Rattle.ext_ref.specs.declared.range.NewRange.{NewRange}
use Rattle.view_rules.specs.Rules.{HasTreeRules, IsTreeFault}
use Rattle.view_rules.specs.declared.fault.TreeFault.{TreeFault}
use Rattle.view_rules.specs.declared.profile.Profile.{Profile}

-- a fault of a view, or a feature of a node of its tree, is present
abbrev pub IsFlawed : Profile → List ℕ → Site → Loaded → View → List NewRange → Type 0
IsFlawed profile image site volume view ranges =
    ((fault : TreeFault) × IsTreeFault profile image site volume view ranges fault)
    ⊎ ((feature : Feature) × (block : ℕ) × IsViewFeature image site volume view feature block)

-- each view meets its rules, or something is present
abbrev pub RulesOrFlaw : Type 0
RulesOrFlaw = (profile : Profile) (image : List ℕ) (site : Site) (volume : Loaded) (view : View) (ranges : List NewRange) → HasTreeRules profile image site volume view ranges ⊎ IsFlawed profile image site volume view ranges

-- and never both
abbrev pub NeverBoth : Type 0
NeverBoth = (profile : Profile) (image : List ℕ) (site : Site) (volume : Loaded) (view : View) (ranges : List NewRange) → IsFlawed profile image site volume view ranges → HasTreeRules profile image site volume view ranges → ⊥
