-- What is known of a view without faults and notes, by which the next view of its volume is tested.
use Rattle.std.specs.Prelude.{◌⊎◌, ℕ, List, [], Option, None, Some, IfSome}
use Rattle.apfs_model.specs.Lists.{In}
use Rattle.obj_base.specs.declared.site.Site.{Site}
use Rattle.ext_ref.specs.declared.range.NewRange.{NewRange}
use Rattle.fs_record.specs.declared.extents.FileExt.{FileExt}
use Rattle.vol_view.specs.Volumes.{Loaded}
use Rattle.vol_view.specs.declared.volume.View.{View}
use Rattle.view_rules.specs.Words.{IsClear}
use Rattle.view_rules.specs.Facts.{Facts}
use Rattle.view_rules.specs.Names.{HasNameHashes}
use Rattle.view_rules.specs.Listed.{extents_with_ids}
use Rattle.view_rules.specs.Rules.{view_facts, HasFactRules, HasTreeRules}
use Rattle.view_rules.specs.declared.profile.Profile.{Profile}
use Rattle.rule_changes.specs.Changes.{HasDistinctInodes}
use Rattle.rule_changes.specs.Known.{is_nameless}
use Rattle.view_change.specs.declared.kept_view.KeptView.{KeptView}
use Rattle.view_change.specs.Kept.{facts_of}
use Rattle.view_change.specs.Difference.{IsKeptOf}
use Rattle.tree_rules.specs.Tallies.{IsTally}
use Rattle.tree_rules.specs.declared.next.CheckedNext.{CheckedNext}

-- what is kept of a view, by which the next one of its volume is tested
abbrev pub KnownView : Type 0
KnownView = KeptView

-- facts have their rules, no id has two inodes, and nothing is to be noted
pub record AreRight (profile : Profile) (site : Site) (ranges : List NewRange) (facts : Facts) : Type 0 where
  pub rules : HasFactRules profile site ranges facts
  pub distinct : HasDistinctInodes facts
  pub nameless : IsClear (is_nameless facts) facts.inodes
  pub hashes : HasNameHashes facts

-- this is what is kept of a view, and what is kept of its facts is right
pub record IsKnown (profile : Profile) (image : List ℕ) (site : Site) (volume : Loaded) (ranges : List NewRange) (view : View) (kept : KeptView) : Type 0 where
  pub is : IsKeptOf image site volume view kept
  pub right : AreRight profile site ranges (facts_of kept)

-- some extents are a view's, and with those of the view before, which are these, they are all that it has
pub record AddExtents (image : List ℕ) (site : Site) (volume : Loaded) (view : View) (before extents : List (ℕ × FileExt)) : Type 0 where
  pub own : (extent : ℕ × FileExt) → In extent extents → In extent (extents_with_ids (view_facts image site volume view))
  pub all : (extent : ℕ × FileExt) → In extent (extents_with_ids (view_facts image site volume view)) → In extent before ⊎ In extent extents

-- the extents of a view that is known, if one is
abbrev pub extents_before : Option KeptView → List (ℕ × FileExt)
extents_before None = []
extents_before (Some kept) = extents_with_ids (facts_of kept)

-- what is kept of a view before, if it is, is that of a view of the same volume whose facts are right
abbrev pub IsKnownBefore : Profile → List ℕ → Site → Loaded → List NewRange → Option KeptView → Type 0
IsKnownBefore profile image site volume ranges before = IfSome before (λ kept. (view : View) × IsKnown profile image site volume ranges view kept)

-- what a test of a view answers, where it meets its rules: what is told of it, its extents, and what is kept of it
pub record IsCheckedNext (profile : Profile) (image : List ℕ) (site : Site) (volume : Loaded) (ranges : List NewRange) (view : View) (before : List (ℕ × FileExt)) (next : CheckedNext) : Type 0 where
  pub rules : HasTreeRules profile image site volume view ranges
  pub tally : IsTally profile image site volume view next.checked.tally
  pub extents : AddExtents image site volume view before next.checked.extents.items
  pub known : IfSome next.kept (IsKnown profile image site volume ranges view)
