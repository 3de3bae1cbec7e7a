-- Lists from a rank on.
use Rattle.std.specs.Prelude.{◌≡◌, ℕ, Bool, true, false, not, ◌==◌, ◌&&◌, List, [], ◌∷◌, Ok, Err, if◌then◌else◌}
use Rattle.std.specs.List.{list_any, take_while}
use Rattle.bt_node.specs.Shape.{Shape}
use Rattle.bt_node.specs.Rank.{is_below}
use Rattle.bt_node.specs.Entries.{Pair}
use Rattle.bt_node.specs.declared.key.Rank.{Rank}
use Rattle.bt_cursor.specs.Tree.{Tree}
use Rattle.bt_cursor.specs.Line.{Item}
use Rattle.bt_cursor.specs.Gaps.{Gapped, gapped_of, all_flat, is_gapless}
use Rattle.bt_cursor.specs.Order.{rank_of}

-- an entry ranks below a rank
abbrev pub is_below_rank : {K : Type 0} → Shape K → Rank → Pair → Bool
is_below_rank shape rank pair = is_below (rank_of shape pair) rank

-- the items from the first on that doesn't pass
abbrev pub drop_while : {X : Type 0} → (X → Bool) → List X → List X
drop_while test [] = []
drop_while test (x ∷ xs) = if test x then drop_while test xs else x ∷ xs

-- the entries from the first on that doesn't rank below a rank
abbrev pub from_rank : {K : Type 0} → Shape K → Rank → List Pair → List Pair
from_rank shape rank pairs = drop_while (is_below_rank shape rank) pairs

-- what comes after the last item of a list that passes a test; the whole list where none does
abbrev pub after_last : {X : Type 0} → (X → Bool) → List X → List X
after_last test [] = []
after_last test (x ∷ xs) = if list_any test (x ∷ xs) then after_last test xs else x ∷ xs

-- an item that ranks below a rank; a gap is none
abbrev pub is_low : {K : Type 0} → Shape K → Rank → Gapped Item → Bool
is_low shape rank (Ok item) = is_below_rank shape rank item.pair
is_low shape rank (Err why) = false

-- an item that doesn't rank below a rank; a gap is none
abbrev pub is_high : {K : Type 0} → Shape K → Rank → Gapped Item → Bool
is_high shape rank (Ok item) = not (is_below_rank shape rank item.pair)
is_high shape rank (Err why) = false

-- a Line with its gaps from a rank on: what comes after the last item that ranks below it. So a gap that may hide an item
-- that doesn't rank below stays
abbrev pub gapped_from_rank : {K : Type 0} → Shape K → Rank → List (Gapped Item) → List (Gapped Item)
gapped_from_rank shape rank gapped = after_last (is_low shape rank) gapped

-- a test of ranks that holds on a run of them, from one on: what meets it isn't below that one, and after one from there
-- on that doesn't meet it none does
pub record IsRun (rank : Rank) (test : Rank → Bool) : Type 0 where
  pub from : (r : Rank) → test r ≡ true → is_below r rank ≡ false
  pub on : (r s : Rank) → is_below r rank ≡ false → test r ≡ false → is_below s r ≡ false → test s ≡ false

-- an entry whose rank meets a test
abbrev pub run_in : {K : Type 0} → Shape K → (Rank → Bool) → Pair → Bool
run_in shape test pair = test (rank_of shape pair)

-- an entry whose rank meets a test, or a gap
abbrev pub run_or_gap : {K : Type 0} → Shape K → (Rank → Bool) → Gapped Pair → Bool
run_or_gap shape test (Ok pair) = run_in shape test pair
run_or_gap shape test (Err why) = true

-- no gap stands among the entries at the start of a flat list that meet a test, nor right after them
abbrev pub starts_whole : {K : Type 0} → Shape K → (Rank → Bool) → List (Gapped Pair) → Bool
starts_whole shape test gapped = is_gapless (take_while (run_or_gap shape test) gapped)

-- no entry of a run from a rank on is missing
abbrev pub is_run_whole : {K : Type 0} → Tree K → ℕ → Rank → (Rank → Bool) → Bool
is_run_whole tree root rank test = starts_whole tree.shape test (all_flat (gapped_from_rank tree.shape rank (gapped_of tree root)))

-- a rank is of an id and a kind
abbrev pub is_of_kind : ℕ → ℕ → Rank → Bool
is_of_kind id kind r = (r.id == id) && (r.kind == kind)

-- no entry of an id and a kind is missing
abbrev pub is_kind_whole : {K : Type 0} → Tree K → ℕ → ℕ → ℕ → Bool
is_kind_whole tree root id kind = is_run_whole tree root (record { id = id; kind = kind; sub = 0 }) (is_of_kind id kind)
