use Rattle.std.proofs.Common.{◌<◌, ℕ, List}
use Rattle.view_rules.specs.Facts.{Facts}
use Rattle.view_tree.specs.Met.{spot_in, IsEntered}
use Rattle.view_tree.specs.Parts.{IsMemo, IsUnderway, HasAll, AreTold, StaysKept, IsKeptAt}
use Rattle.view_tree.proofs.Numbered.{AreNumbered}
use Rattle.view_tree.proofs.under.meet_entries.Given as goal

abbrev pub invariant-loop-number : goal.invariant-loop-number
invariant-loop-number l = (facts : Facts) (path : List ℕ) (first : ℕ) → IsUnderway facts path first l.files.entries.items l.files.kinds.items → IsEntered facts first l.id → HasAll facts l.id l.run.entries.now → AreTold facts l.run.entries.now l.run.kinds.now → IsMemo facts path l.fn.memo →
    AreNumbered facts l.run.entries.now l.targets.items l.number
    × (IsMemo facts path l.memo × (StaysKept l.fn.memo l.memo × ((k : ℕ) → k < l.number → IsKeptAt facts l.memo (spot_in l.id k))))
