-- Which blocks of which views pieces have, and how many there are. Views are told by their places.
use Rattle.std.specs.Prelude.{◌≡◌, ℕ, ◌<◌, Bool, not, ◌&&◌, ◌==◌, nat_le, nat_lt, List, [], length, count_by, get_or, slice_get}
use Rattle.std.specs.List.{range_with_len, list_any}
use Rattle.std.specs.Option.{option_map_or}
use Rattle.piece_count.specs.declared.piece.ViewRun.{ViewRun}
use Rattle.piece_count.specs.declared.piece.Views.{Views}
use Rattle.piece_count.specs.declared.piece.Piece.{Piece}
use Rattle.piece_count.specs.declared.piece.Holdings.{Holdings}
use Rattle.piece_count.specs.declared.tally.Counts.{Counts}
use Rattle.piece_count.specs.declared.tally.ViewCount.{ViewCount}

-- a number from one up to another
abbrev pub is_from : ℕ → ℕ → ℕ → Bool
is_from from to n = nat_le from n && nat_lt n to

-- the runs of the set of a number, of some sets; none where there is no such set
unfoldable pub runs_at : List Views → ℕ → List ViewRun
runs_at sets number = option_map_or (λ (set : Views). set.runs.items) (slice_get sets number) []

-- a view is in one of some runs
unfoldable pub is_among : List ViewRun → ℕ → Bool
is_among runs view = list_any (λ (run : ViewRun). is_from run.from run.to view) runs

-- a piece has a block of a view
abbrev pub covers : List Views → Piece → ℕ → ℕ → Bool
covers sets piece view block = is_among (runs_at sets piece.set) view && is_from piece.first piece.end block

-- one of some pieces has it
unfoldable pub covered_by : List Views → List Piece → ℕ → ℕ → Bool
covered_by sets pieces view block = list_any (λ (p : Piece). covers sets p view block) pieces

abbrev pub is_covered : Holdings → ℕ → ℕ → Bool
is_covered held = covered_by held.sets.items held.pieces.items

-- one of so many views has a block, where it is told which has which
unfoldable pub is_any : (ℕ → ℕ → Bool) → ℕ → ℕ → Bool
is_any has views block = list_any (λ (view : ℕ). has view block) (range_with_len 0 views)

-- a view has a block, and no other of so many has it
unfoldable pub is_alone : (ℕ → ℕ → Bool) → ℕ → ℕ → ℕ → Bool
is_alone has views view block = has view block && not (list_any (λ (other : ℕ). not (other == view) && has other block) (range_with_len 0 views))

-- how many blocks below one pass a test
unfoldable pub count_below : (ℕ → Bool) → ℕ → ℕ
count_below test end = count_by test (range_with_len 0 end)

-- what is counted of the view in a place
abbrev pub nth_count : List ViewCount → ℕ → ViewCount
nth_count counts view = get_or counts view (record { held = 0; only = 0 })

-- these are the numbers of the blocks, of a container of so many, that so many views have by pieces
pub record IsCount (blocks views : ℕ) (pieces : Holdings) (counts : Counts) : Type 0 where
  pub many : length counts.views.items ≡ views
  pub held : (view : ℕ) → view < views → (nth_count counts.views.items view).held ≡ count_below (is_covered pieces view) blocks
  pub only : (view : ℕ) → view < views → (nth_count counts.views.items view).only ≡ count_below (is_alone (is_covered pieces) views view) blocks
  pub all : counts.all ≡ count_below (is_any (is_covered pieces) views) blocks
