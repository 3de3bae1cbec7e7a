-- What is counted of pieces that come in the order of their first blocks.
use Rattle.std.specs.Prelude.{◌≡◌, ℕ, ◌<◌, ◌≤◌, Bool, false, ◌&&◌, ◌||◌, ◌==◌, nat_lt, length, List, get_or, set, max}
use Rattle.piece_count.specs.Covered.{is_from, is_among, is_any, is_alone, count_below, nth_count}
use Rattle.piece_count.specs.declared.piece.ViewRun.{ViewRun}
use Rattle.piece_count.specs.declared.tally.Tally.{Tally}

-- no view has a block
abbrev pub has_none : ℕ → ℕ → Bool
has_none view block = false

-- a view has the blocks from one up to another too
abbrev pub grown : (ℕ → ℕ → Bool) → ℕ → ℕ → ℕ → ℕ → ℕ → Bool
grown has view first end other block = has other block || ((other == view) && is_from first end block)

-- the same of the views from one up to another
abbrev pub grown_all : (ℕ → ℕ → Bool) → ℕ → ℕ → ℕ → ℕ → ℕ → ℕ → Bool
grown_all has from to first end other block = has other block || (is_from from to other && is_from first end block)

-- the same of the views of some runs
abbrev pub grown_set : (ℕ → ℕ → Bool) → List ViewRun → ℕ → ℕ → ℕ → ℕ → Bool
grown_set has runs first end other block = has other block || (is_among runs other && is_from first end block)

-- how far a view reaches
abbrev pub reach_of : List ℕ → ℕ → ℕ
reach_of reach view = get_or reach view 0

-- of so many views that reach so far, this one reaches as far as any, and the others not beyond a block, to which one of them does
pub record IsTop (blocks views : ℕ) (t : Tally) : Type 0 where
  pub reaches : length t.reach.items ≡ views
  pub top_low : t.top < views
  pub high_is : reach_of t.reach.items t.top ≡ t.high
  pub high_low : t.high ≤ blocks
  pub second_low : t.second ≤ t.high
  pub others : (view : ℕ) → view < views → (view ≡ t.top → ⊥) → reach_of t.reach.items view ≤ t.second
  pub another : (block : ℕ) → block < t.second → (view : ℕ) × (view < views) × (view ≡ t.top → ⊥) × (block < reach_of t.reach.items view)

-- a view reaches up to a block, or further
pub record IsRaised (view end : ℕ) (old new : Tally) : Type 0 where
  pub same_counts : new.counts ≡ old.counts
  pub same_at : new.at ≡ old.at
  pub reach : new.reach.items ≡ set old.reach.items view (max (reach_of old.reach.items view) end)
  pub top : (blocks views : ℕ) → end ≤ blocks → IsTop blocks views old → IsTop blocks views new

-- what is counted is right, where it is told which of so many views has which of so many blocks
pub record IsTally (blocks views : ℕ) (has : ℕ → ℕ → Bool) (t : Tally) : Type 0 where
  pub many : length t.counts.views.items ≡ views
  pub low : t.at ≤ blocks
  pub top : IsTop blocks views t
  pub ahead : (view block : ℕ) → view < views → t.at ≤ block → block < blocks → has view block ≡ nat_lt block (reach_of t.reach.items view)
  pub held : (view : ℕ) → view < views → (nth_count t.counts.views.items view).held ≡ count_below (has view) blocks
  pub only : (view : ℕ) → view < views → (nth_count t.counts.views.items view).only ≡ count_below (is_alone has views view) t.at
  pub all : t.counts.all ≡ count_below (is_any has views) blocks
