-- How many blocks views have by pieces that share none with another, told by the sets of the pieces.
use Rattle.std.specs.Prelude.{◌≡◌, ℕ, ◌+◌, ◌-◌, ◌^◌, ◌<◌, ◌≤◌, Bool, true, false, not, ◌&&◌, ◌==◌, nat_lt, List, [], ◌∷◌, length, get_or, set, min, if◌then◌else◌}
use Rattle.std.specs.List.{range_with_len, list_any}
use Rattle.piece_count.specs.Covered.{is_among, covered_by, count_below, nth_count}
use Rattle.piece_count.specs.declared.piece.Piece.{Piece}
use Rattle.piece_count.specs.declared.piece.Views.{Views}
use Rattle.piece_count.specs.declared.lone.Split.{Split}
use Rattle.piece_count.specs.declared.tally.Counts.{Counts}

-- what stands for a piece where a list has none in a place
abbrev pub no_piece : Piece
no_piece = record { first = 0; end = 0; set = 0 }

-- how many blocks below one pass a test of the views that have them
abbrev pub passing_below : ((ℕ → Bool) → Bool) → (ℕ → ℕ → Bool) → ℕ → ℕ
passing_below test has end = count_below (λ (block : ℕ). test (λ (view : ℕ). has view block)) end

-- how many blocks pass it of those that sets of views have, so many each
unfoldable pub owed : ((ℕ → Bool) → Bool) → List Views → List ℕ → ℕ
owed test [] lone = 0
owed test (views ∷ sets) [] = 0
owed test (views ∷ sets) (n ∷ lone) = (if test (is_among views.runs.items) then n else 0) + owed test sets lone

-- so many blocks more of the set of a number, where there is one
abbrev pub with_more : List ℕ → ℕ → ℕ → List ℕ
with_more lone number n = if nat_lt number (length lone) then set lone number (min (get_or lone number 0 + n) (2 ^ 64 - 1)) else lone

-- the tests by which blocks are counted: a view has it, a view alone of so many, or one of so many
abbrev pub has_it : ℕ → (ℕ → Bool) → Bool
has_it view has = has view

abbrev pub alone_has : ℕ → ℕ → (ℕ → Bool) → Bool
alone_has views view has = has view && not (list_any (λ (other : ℕ). not (other == view) && has other) (range_with_len 0 views))

abbrev pub some_has : ℕ → (ℕ → Bool) → Bool
some_has views has = list_any (λ (view : ℕ). has view) (range_with_len 0 views)

-- these are the numbers of blocks that so many views have, where it is told how many pass each test
pub record AreCounts (views : ℕ) (number : ((ℕ → Bool) → Bool) → ℕ) (counts : Counts) : Type 0 where
  pub many : length counts.views.items ≡ views
  pub held : (view : ℕ) → view < views → (nth_count counts.views.items view).held ≡ number (has_it view)
  pub only : (view : ℕ) → view < views → (nth_count counts.views.items view).only ≡ number (alone_has views view)
  pub all : counts.all ≡ number (some_has views)

-- of the blocks that pieces have, some are counted, and the others are told by the sets
pub record IsSplit (blocks views : ℕ) (sets : List Views) (pieces : List Piece) (split : Split) : Type 0 where
  pub rest : ((ℕ → Bool) → Bool) → ℕ
  pub counted : AreCounts views rest split.counts
  pub long : length split.lone.items ≡ length sets
  pub few : owed (λ (has : ℕ → Bool). true) sets split.lone.items ≤ blocks
  pub whole : (test : (ℕ → Bool) → Bool) → test (λ (view : ℕ). false) ≡ false → passing_below test (covered_by sets pieces) blocks ≡ rest test + owed test sets split.lone.items
