-- The law of changes.
use Rattle.std.specs.Prelude.{◌≡◌, ◌⊎◌, true, false, List}
use Rattle.std.specs.List.{list_any}
use Rattle.apfs_model.specs.Lists.{In}
use Rattle.obj_base.specs.declared.site.Site.{Site}
use Rattle.ext_ref.specs.declared.range.NewRange.{NewRange}
use Rattle.fs_record.specs.Inodes.{Inode}
use Rattle.fs_record.specs.Siblings.{Link}
use Rattle.fs_record.specs.Facts.{Fact}
use Rattle.view_rules.specs.Words.{IsClear}
use Rattle.view_rules.specs.Facts.{Facts, has_inode}
use Rattle.view_rules.specs.Siblings.{has_entry}
use Rattle.view_rules.specs.Rules.{HasFactRules}
use Rattle.view_rules.specs.declared.profile.Profile.{Profile}
use Rattle.rule_changes.specs.Changes.{IsChange, IsPlainChange, has_double, is_like, is_newly_shared}

-- facts have their rules if they differ by a plain change from facts that have them
abbrev pub ChangeKeepsRules : Type 0
ChangeKeepsRules =
    (profile : Profile) (site : Site) (ranges : List NewRange) (before after gone come same : Facts)
    → HasFactRules profile site ranges before → IsChange before after gone come same → IsPlainChange profile site ranges before after gone come
    → HasFactRules profile site ranges after

-- what a change to facts with their rules may lack: an inode that is gone and come again has its kind still, no file that keeps its only name
-- gets another, and where a link is gone its entry is gone too, or there is a link like it
pub record IsMild (before after gone come : Facts) : Type 0 where
  pub kinds : (f : Fact Inode) → In f gone.inodes → has_inode after f.id ≡ true → has_double come f ≡ true
  pub shared : IsClear (is_newly_shared before after gone) come.entries
  pub links : (l : Fact Link) → In l gone.links → (list_any (is_like l) after.links ≡ true) ⊎ (has_entry after l ≡ false)

-- a change to facts with their rules is plain under these conditions
abbrev pub PlainIfRight : Type 0
PlainIfRight =
    (profile : Profile) (site : Site) (ranges : List NewRange) (before after gone come same : Facts)
    → HasFactRules profile site ranges after → IsChange before after gone come same → IsMild before after gone come
    → IsPlainChange profile site ranges before after gone come
