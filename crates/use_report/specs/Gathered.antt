-- What a walk over the files of a view gives: the nodes below the root, and the extents.
use Rattle.std.specs.Prelude.{◌≡◌, ℕ, Bool, not, ◌==◌, List, map, Option, None, Some, Result, Ok, Err, is_ok, if◌then◌else◌}
use Rattle.bt_node.specs.Entries.{Pair}
use Rattle.bt_keys.specs.RecordKey.{record_kind_of, file_extent_record}
use Rattle.bt_cursor.specs.Line.{Item, is_leaf_item}
use Rattle.bt_cursor.specs.WholeTree.{leaf_pairs}
use Rattle.bt_cursor.specs.Gathered.{children_of}
use Rattle.fs_record.specs.Facts.{Fact, read_extent, extents_of}
use Rattle.fs_record.specs.declared.extents.FileExt.{FileExt}
use Rattle.fs_record.specs.declared.fault.RecFault.{RecFault}

-- an extent that was read, or the part for which its reader refuses it
abbrev pub some_extent : Result FileExt RecFault → Result (Option FileExt) RecFault
some_extent (Ok extent) = Ok (Some extent)
some_extent (Err why) = Err why

-- the extent of a record, where it is of one
unfoldable pub extent_in : Pair → Result (Option FileExt) RecFault
extent_in pair = if record_kind_of pair.key == file_extent_record then some_extent (read_extent pair) else Ok None

-- the extent of an item; one above the leaves is no record
unfoldable pub extent_at : Item → Result (Option FileExt) RecFault
extent_at item = if is_leaf_item item then extent_in item.pair else Ok None

-- Record: an item is the record of an extent that its reader refuses
abbrev pub is_refused : Item → Bool
is_refused item = not (is_ok (extent_at item))

-- what some facts say
abbrev pub said : List (Fact FileExt) → List FileExt
said facts = map (λ (f : Fact FileExt). f.what) facts

-- these are the ids of the nodes to which some items lead, and the extents of which the records among them tell
pub record Gathers (below : List ℕ) (extents : List FileExt) (items : List Item) : Type 0 where
  pub nodes : below ≡ children_of items
  pub same : extents ≡ said (extents_of (leaf_pairs items))
