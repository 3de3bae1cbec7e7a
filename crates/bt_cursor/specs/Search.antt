-- A search by a rank.
use Rattle.std.specs.Prelude.{◌≡◌, ℕ, ◌+◌, ◌<◌, true, false, List, [], ◌∷◌, ◌++◌, Some, Err, All}
use Rattle.apfs_model.specs.Lists.{last}
use Rattle.obj_base.specs.Stops.{Tells}
use Rattle.obj_base.specs.declared.stop.Stop.{Stop}
use Rattle.obj_base.specs.declared.stop.Stop.TheVariants.{Found, Unsupported}
use Rattle.bt_node.specs.Shape.{Shape}
use Rattle.bt_node.specs.Node.{level_of, count_of}
use Rattle.bt_node.specs.Entries.{pair_of}
use Rattle.bt_node.specs.declared.key.Rank.{Rank}
use Rattle.bt_cursor.specs.declared.fault.WalkFault.{WalkFault}
use Rattle.bt_cursor.specs.declared.way.Step.{Step}
use Rattle.bt_cursor.specs.Line.{Item}
use Rattle.bt_cursor.specs.Gaps.{Gapped}
use Rattle.bt_cursor.specs.Order.{ranks_below}
use Rattle.bt_cursor.specs.From.{is_below_rank, is_low, is_high}

-- a rank stands between two parts of a Line with its gaps: the first is empty or ends with an item that ranks below, and
-- the second is empty or starts with an item that doesn't. So no gap comes right before or right after
pub record StandsBetween {K : Type 0} (shape : Shape K) (rank : Rank) (before after : List (Gapped Item)) : Type 0 where
  pub low : (x : Gapped Item) → last before ≡ Some x → is_low shape rank x ≡ true
  pub high : (x : Gapped Item) (xs : List (Gapped Item)) → after ≡ x ∷ xs → is_high shape rank x ≡ true

-- a place of a rank in a Line with its gaps, by what is left from there on
pub record IsPlaceOf {K : Type 0} (shape : Shape K) (rank : Rank) (line left : List (Gapped Item)) : Type 0 where
  pub before : List (Gapped Item)
  pub split : line ≡ before ++ left
  pub sides : StandsBetween shape rank before left

-- where a rank stands in a Line there is a gap, for this reason
pub record IsGapAt {K : Type 0} (shape : Shape K) (rank : Rank) (line : List (Gapped Item)) (why : Stop WalkFault) : Type 0 where
  pub before : List (Gapped Item)
  pub after : List (Gapped Item)
  pub split : line ≡ before ++ (Err why ∷ after)
  pub sides : StandsBetween shape rank before after

-- a search stops at a gap where the rank stands and says why it is one, or tells nothing
abbrev pub StopsSearch : {K : Type 0} → Shape K → Rank → List (Gapped Item) → Stop WalkFault → Type 0
StopsSearch shape rank line stop = Tells (λ fault. IsGapAt shape rank line (Found fault)) (λ feature block. IsGapAt shape rank line (Unsupported feature block)) stop

-- an index of a node: the entry before it ranks below a rank, and the entry at it doesn't
pub record IsCut {K : Type 0} (shape : Shape K) (rank : Rank) (node : List ℕ) (i : ℕ) : Type 0 where
  pub before : (j : ℕ) → j + 1 ≡ i → is_below_rank shape rank (pair_of shape node j) ≡ true
  pub after : i < count_of node → is_below_rank shape rank (pair_of shape node i) ≡ false

-- a step stands at such an index of its node
abbrev pub IsCutStep : {K : Type 0} → Shape K → Rank → Step → Type 0
IsCutStep shape rank step = IsCut shape rank step.block.items step.next

-- all steps of a way do, and above the leaves the last stands before its first entry
pub record IsCutWay {K : Type 0} (shape : Shape K) (rank : Rank) (above : List Step) (last : Step) : Type 0 where
  pub each : All (IsCutStep shape rank) above
  pub here : IsCutStep shape rank last
  pub leaf : 0 < last.next → level_of last.block.items ≡ 0

-- no item ranks below one before it
abbrev pub IsInOrder : {K : Type 0} → Shape K → List Item → Type 0
IsInOrder shape [] = Unit {0}
IsInOrder shape (item ∷ items) = All (λ (after : Item). ranks_below shape after item ≡ false) items × IsInOrder shape items
