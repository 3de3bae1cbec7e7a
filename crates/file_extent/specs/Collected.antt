-- What is known on a walk over the extents of a stream, from the first of them on.
use Rattle.std.specs.Prelude.{◌≡◌, ℕ, ◌<◌, ◌≤◌, Bool, true, false, ◌&&◌, ◌==◌, List, [], ◌∷◌, ◌++◌, map, Option, None, Some, Result, Ok, Err, IsSome, All, if◌then◌else◌}
use Rattle.apfs_model.specs.Lists.{In}
use Rattle.obj_base.specs.declared.site.Site.{Site}
use Rattle.obj_base.specs.declared.stop.Stop.{Stop}
use Rattle.obj_base.specs.declared.stop.Stop.TheVariants.{Found, Unsupported, ReadFault, NoMemory}
use Rattle.bt_node.specs.Entries.{Pair}
use Rattle.bt_node.specs.declared.key.Rank.{Rank}
use Rattle.bt_keys.specs.RecordKey.{id_of, record_kind_of, file_extent_record}
use Rattle.bt_cursor.specs.Tree.{Tree}
use Rattle.bt_cursor.specs.Flat.{flat_of}
use Rattle.bt_cursor.specs.Line.{line_of}
use Rattle.bt_cursor.specs.Order.{rank_of, is_ordered}
use Rattle.bt_cursor.specs.Gaps.{Gapped, all_met}
use Rattle.bt_cursor.specs.From.{from_rank, starts_whole, is_of_kind, is_kind_whole}
use Rattle.bt_cursor.specs.Faults.{IsWalkFault}
use Rattle.bt_cursor.specs.declared.gathering.GatherFault.{GatherFault}
use Rattle.bt_cursor.specs.declared.gathering.GatherFault.TheVariants.{Tree as TreeFault, Refused}
use Rattle.fs_record.specs.StreamExtents.{are_apart, are_extents_ordered}
use Rattle.fs_record.specs.Facts.{read_extent}
use Rattle.fs_record.specs.declared.fault.RecFault.{RecFault}
use Rattle.fs_record.specs.declared.extents.FileExt.{FileExt}
use Rattle.file_extent.specs.Streams.{extents_for, are_extents_placed}
use Rattle.file_extent.specs.Stops.{HasRefused}
use Rattle.file_extent.specs.Laid.{last_end}
use Rattle.file_extent.specs.declared.lay.Follows.{Follows}
use Rattle.file_extent.specs.declared.lay.Follows.TheVariants.{After, Over, Before}
use Rattle.file_extent.specs.declared.stop.StreamStop.{StreamStop}
use Rattle.file_extent.specs.declared.stop.StreamStop.TheVariants.{Walk, Extent, Order, Outside}

-- a record of an extent of a stream
abbrev pub is_of_stream : ℕ → Pair → Bool
is_of_stream id pair = (id_of pair.key == id) && (record_kind_of pair.key == file_extent_record)

-- what a record says of a stream: an extent of it, or nothing; or why it is refused
abbrev pub some_extent : Result FileExt RecFault → Result (Option FileExt) RecFault
some_extent (Ok e) = Ok (Some e)
some_extent (Err why) = Err why

unfoldable pub extent_in : ℕ → Pair → Result (Option FileExt) RecFault
extent_in id pair = if is_of_stream id pair then some_extent (read_extent pair) else Ok None

-- where the extents of a stream stand in the order of the tree
abbrev pub stream_rank : ℕ → ℕ → Rank
stream_rank id logical = record { id = id; kind = file_extent_record; sub = logical }

abbrev pub extent_rank : ℕ → FileExt → Rank
extent_rank id e = stream_rank id e.logical

-- each record of a tree has a key that can be read
abbrev pub IsReadable : {K : Type 0} → Tree K → ℕ → Type 0
IsReadable tree root = All (λ (p : Pair). IsSome (tree.shape.read p.key)) (flat_of tree root)

-- these extents are those of the records that were passed from the first of the stream on, and the walk stands after them;
-- a record of the stream is missing where one is missing from there on
pub record IsCollected {K : Type 0} (tree : Tree K) (root id : ℕ) (left : List (Gapped Pair)) (es : List FileExt) : Type 0 where
  pub before : List Pair
  pub taken : List Pair
  pub split : flat_of tree root ≡ before ++ (taken ++ all_met left)
  pub ranks : map (rank_of tree.shape) taken ≡ map (extent_rank id) es
  pub same : extents_for id taken ≡ es
  pub from : is_ordered tree.shape (line_of tree root) ≡ true → from_rank tree.shape (stream_rank id 0) (flat_of tree root) ≡ taken ++ all_met left
  pub whole : is_ordered tree.shape (line_of tree root) ≡ true → is_kind_whole tree root id file_extent_record ≡ starts_whole tree.shape (is_of_kind id file_extent_record) left
  pub readable : IsReadable tree root

-- these extents are some of the stream's, one after another; all of them where the tree is ordered, and then no record of
-- the stream is missing
pub record AreCollected {K : Type 0} (tree : Tree K) (root id : ℕ) (es : List FileExt) : Type 0 where
  pub before : List FileExt
  pub after : List FileExt
  pub within : extents_for id (flat_of tree root) ≡ before ++ (es ++ after)
  pub all : is_ordered tree.shape (line_of tree root) ≡ true → extents_for id (flat_of tree root) ≡ es
  pub whole : is_ordered tree.shape (line_of tree root) ≡ true → is_kind_whole tree root id file_extent_record ≡ true

-- the next extent, where there is one, goes on with them; otherwise they are the stream's
abbrev pub GoesOn : {K : Type 0} → Tree K → ℕ → ℕ → List (Gapped Pair) → List FileExt → Option FileExt → Type 0
GoesOn tree root id left es None = AreCollected tree root id es
GoesOn tree root id left es (Some e) = IsCollected tree root id left (es ++ e ∷ [])

-- what is named of a stream is there, in its tree
abbrev pub IsCollectStop : {K : Type 0} → Site → Tree K → ℕ → ℕ → StreamStop → Type 0
IsCollectStop site tree root id (Walk top why) = (top ≡ root) × IsWalkFault tree root why
IsCollectStop site tree root id (Extent why) = HasRefused (flat_of tree root) id why
IsCollectStop site tree root id Order = are_extents_ordered site.block_size (extents_for id (flat_of tree root)) ≡ false
IsCollectStop site tree root id Outside = are_extents_placed site (extents_for id (flat_of tree root)) ≡ false

-- an extent can't follow some others, which is told of all of them; or there is no memory
abbrev pub IsAddStop : Site → List FileExt → Stop StreamStop → Type 0
IsAddStop site es (Found (Walk root why)) = ⊥
IsAddStop site es (Found (Extent why)) = ⊥
IsAddStop site es (Found Order) = are_extents_ordered site.block_size es ≡ false
IsAddStop site es (Found Outside) = are_extents_placed site es ≡ false
IsAddStop site es (Unsupported feature block) = ⊥
IsAddStop site es ReadFault = ⊥
IsAddStop site es NoMemory = Unit {0}

-- one of them begins after another that comes later
pub record IsMisordered (es : List FileExt) (e : FileExt) : Type 0 where
  pub other : FileExt
  pub one : In other es
  pub later : e.logical < other.logical

-- how an extent follows some others, by the last of them
abbrev pub Follow : List FileExt → FileExt → Follows → Type 0
Follow es e After = last_end 0 es ≤ e.logical
Follow es e Over = are_apart (es ++ e ∷ []) ≡ false
Follow es e Before = IsMisordered es e

-- why a tree isn't whole, said of a stream
abbrev pub gather_raised : ℕ → Stop GatherFault → Stop StreamStop
gather_raised root (Found (TreeFault why)) = Found (Walk root why)
gather_raised root (Found (Refused item)) = Found Order
gather_raised root (Unsupported feature block) = Unsupported feature block
gather_raised root ReadFault = ReadFault
gather_raised root NoMemory = NoMemory
