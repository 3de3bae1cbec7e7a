-- The views of a set, by their places among those that are kept.
use Rattle.std.specs.Prelude.{◌≡◌, ℕ, ◌+◌, ◌-◌, ◌<◌, ◌==◌, true, List, length, if◌then◌else◌}
use Rattle.bit_lanes.specs.Places.{is_from}
use Rattle.piece_count.specs.Covered.{runs_at, is_among}
use Rattle.piece_count.specs.declared.piece.ViewRun.{ViewRun}
use Rattle.piece_count.specs.declared.piece.Views.{Views}
use Rattle.view_sweep.specs.Sets.{set_at}
use Rattle.view_sweep.specs.declared.sets.ViewSet.{ViewSet}
use Rattle.view_sweep.specs.declared.runs.Run.{Run}
use Rattle.view_sweep.specs.Runs.{has_place, AreRising}

-- the place among the heads of the view in a place, of so many: the live view comes last
abbrev pub head_place : ℕ → ℕ → ℕ
head_place many view = if view == 0 then many - 1 else view - 1

-- runs of the heads of so many views
pub record AreHeadRuns (many : ℕ) (set : List Run) : Type 0 where
  pub rising : AreRising set
  pub inside : (p : ℕ) → has_place set p ≡ true → p < many

-- the runs have the views of a set, of so many
abbrev pub AreRunsOf : List Run → ℕ → List Run → Type 0
AreRunsOf set many runs = (view : ℕ) → view < many → has_place runs view ≡ has_place set (head_place many view)

-- a run, as pieces are counted by it
abbrev pub view_run : Run → ViewRun
view_run run = record { from = run.from; to = run.end }

-- these are the views of a set, of so many
abbrev pub AreViewsOf : List Run → ℕ → Views → Type 0
AreViewsOf set many views = (view : ℕ) → view < many → is_among views.runs.items view ≡ has_place set (head_place many view)

-- the first so many sets are each of the view in its place
abbrev pub AreOwnSets : ℕ → List Views → Type 0
AreOwnSets many sets = (i view : ℕ) → i < many → is_among (runs_at sets i) view ≡ is_from i (i + 1) view

-- each of so many views is a set, and then come the views of some sets
pub record AreViewSets (shared : List ViewSet) (many : ℕ) (sets : List Views) : Type 0 where
  pub own : AreOwnSets many sets
  pub shares : (n view : ℕ) → n < length shared → view < many → is_among (runs_at sets (many + n)) view ≡ has_place (set_at shared n) (head_place many view)
