-- Views of a volume that have one tree.
use Rattle.std.specs.Prelude.{◌≡◌, ℕ, Bool, ◌&&◌, ◌||◌, List, [], length, nat_le, nat_lt, Option, IfSome}
use Rattle.std.specs.List.{list_all}
use Rattle.apfs_model.specs.Counts.{given}
use Rattle.apfs_model.specs.Lists.{In}
use Rattle.obj_base.specs.declared.site.Site.{Site}
use Rattle.omap_map.specs.declared.records.OmapRecord.{OmapRecord}
use Rattle.vol_view.specs.Volumes.{Loaded}
use Rattle.vol_view.specs.Views.{view_flat}
use Rattle.vol_view.specs.declared.volume.View.{View}
use Rattle.ext_ref.specs.declared.range.NewRange.{NewRange}
use Rattle.tree_rules.specs.Known.{KnownView, IsKnown}
use Rattle.tree_rules.specs.Tallies.{notes_of}
use Rattle.view_rules.specs.Rules.{view_facts, HasTreeRules}
use Rattle.view_rules.specs.declared.profile.Profile.{Profile}
use Rattle.apfs_check.specs.declared.views.Passed.{Passed}

-- each record is of a transaction that both of two transactions see, or that neither does
abbrev pub are_seen_alike : List OmapRecord → ℕ → ℕ → Bool
are_seen_alike records x y = list_all (λ (r : OmapRecord). (nat_le r.xid x && nat_le r.xid y) || (nat_lt x r.xid && nat_lt y r.xid)) records

-- two views have one root, and no record of the map is of a transaction that one of them sees and the other doesn't
pub record HaveOneTree (volume : Loaded) (v w : View) : Type 0 where
  pub root : v.root_oid ≡ w.root_oid
  pub seen : (r : OmapRecord) → In r volume.omap.records → nat_le r.xid v.xid ≡ nat_le r.xid w.xid

-- what is kept of a view, if it is, is that of one of some views, which has its rules and no notes
abbrev pub IsKnownOf : Profile → List ℕ → Site → Loaded → List NewRange → List View → Option KnownView → Type 0
IsKnownOf profile image site volume ranges views before = IfSome before (λ kept. (view : View) × (In view views × IsKnown profile image site volume ranges view kept))

-- one of some views has its rules, so many records as are given, and no notes
pub record IsPassed (profile : Profile) (image : List ℕ) (site : Site) (volume : Loaded) (ranges : List NewRange) (views : List View) (passed : Passed) : Type 0 where
  pub one : In passed.view views
  pub rules : HasTreeRules profile image site volume passed.view ranges
  pub records : passed.records ≡ given (length (view_flat image site volume passed.view))
  pub notes : notes_of profile passed.view (view_facts image site volume passed.view) ≡ []
