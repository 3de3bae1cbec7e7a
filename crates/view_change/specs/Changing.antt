-- What is known of a view and the one before while its leaves are taken.
use Rattle.std.specs.Prelude.{◌≡◌, ℕ, Bool, true, List, map, IfSome}
use Rattle.obj_base.specs.declared.site.Site.{Site}
use Rattle.bt_node.specs.Shape.{Shape}
use Rattle.view_rules.specs.Facts.{Facts}
use Rattle.rule_changes.specs.Changes.{AreWoven}
use Rattle.view_change.specs.declared.leaf.Leaf.{Leaf}
use Rattle.view_change.specs.declared.kept.Held.{Held}
use Rattle.view_change.specs.declared.kept.KeptLeaf.{KeptLeaf}
use Rattle.view_change.specs.declared.changing.Change.{Change}
use Rattle.view_change.specs.declared.changing.Changed.{Changed}
use Rattle.view_change.specs.declared.changing.Changing.{Changing}
use Rattle.view_change.specs.Numbers.{joined, behind, no_facts_under}
use Rattle.view_change.specs.Kept.{facts_of, leaf_of, AreKept, IsHeld, IsKeptView}

-- the facts of the view before, which are all left at the start
abbrev pub facts_before : Changing → Facts
facts_before start = start.stock.0

-- the leaves of the view before that are left
abbrev pub leaves_left : Changing → List Leaf
leaves_left now = map leaf_of now.leaves.items

-- what is kept of the view after so far: the facts of the stock, and behind them those that were read since its last leaf
abbrev pub held_after : Changing → Held
held_after now = record { leaves = now.after.leaves; facts = behind now.stock.1 now.after.facts; records = now.after.records }

-- some facts are gone, some have come, and what is the same is woven with each into the facts before and after
pub record HasDifference (before after : Facts) (change : Change) : Type 0 where
  pub same : Facts
  pub left : AreWoven before same change.gone
  pub made : AreWoven after same change.come
  pub names : after.names ≡ before.names
  pub gone_names : change.gone.names ≡ before.names
  pub come_names : change.come.names ≡ before.names

-- of the facts before some are left, and some were passed since the last leaf that stays; those before these differ from those after up to that leaf as some are gone and some have come
pub record IsFollowed (before left taken passed gone come : Facts) : Type 0 where
  pub settled : Facts
  pub same : Facts
  pub split : before ≡ joined (joined settled passed) left
  pub lost : AreWoven settled same gone
  pub made : AreWoven taken same come
  pub passed_names : passed.names ≡ before.names
  pub gone_names : gone.names ≡ before.names
  pub come_names : come.names ≡ before.names

-- after some leaves of a view: what is kept of it, what is left of the view before, and, if it is followed, what was passed, what is gone and what has come
pub record IsUnderway {K : Type 0} (shape : Shape K) (site : Site) (image : List ℕ) (before : Facts) (leaves : List Leaf) (left : List KeptLeaf) (left_facts : Facts) (after : Held) (follows : Bool) (taken passed gone come : Facts) : Type 0 where
  pub rest : AreKept shape site image before.names left left_facts
  pub view : IsHeld shape site image before.names leaves after
  pub followed : follows ≡ true → IsFollowed before left_facts taken passed gone come

-- begun as the first, it has taken some leaves in an image, and these leaves of the view before are left
abbrev pub HasChangedTo : {K : Type 0} → Shape K → Site → List ℕ → List Leaf → Changing → List KeptLeaf → Changing → Type 0
HasChangedTo shape site image leaves start left now = IsUnderway shape site image (facts_before start) leaves left now.stock.0 (held_after now) now.follows now.stock.1 now.passed now.gone now.come

-- begun as the first, it has taken some leaves in an image
abbrev pub HasChanged : {K : Type 0} → Shape K → Site → List ℕ → List Leaf → Changing → Changing → Type 0
HasChanged shape site image leaves start now = HasChangedTo shape site image leaves start now.leaves.items now

-- the same, where no leaf was passed or read since the last one that stays
pub record HasSettledTo {K : Type 0} (shape : Shape K) (site : Site) (image : List ℕ) (leaves : List Leaf) (start : Changing) (left : List KeptLeaf) (now : Changing) : Type 0 where
  pub changed : HasChangedTo shape site image leaves start left now
  pub passed : now.passed ≡ no_facts_under now.passed.names
  pub read : now.after.facts ≡ no_facts_under now.after.facts.names

-- this is what is kept of a view with some leaves, and how its facts differ from those before, if that was followed
pub record IsDifference {K : Type 0} (shape : Shape K) (site : Site) (image : List ℕ) (leaves : List Leaf) (before : Facts) (changed : Changed) : Type 0 where
  pub after : IsKeptView shape site image before.names leaves changed.after
  pub change : IfSome changed.change (HasDifference before (facts_of changed.after))
