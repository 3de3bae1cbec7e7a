-- The blocks of the extents whose records stand in a leaf.
use Rattle.std.specs.Prelude.{◌≡◌, ℕ, Bool, true, false, List, Some, Ok}
use Rattle.apfs_model.specs.Lists.{In}
use Rattle.obj_base.specs.declared.site.Site.{Site}
use Rattle.bt_node.specs.Shape.{Shape}
use Rattle.bt_node.specs.Node.{level_of}
use Rattle.bt_node.specs.Entries.{Pair, pairs_of}
use Rattle.bt_keys.specs.Shapes.{fs_shape, fs_plain_shape}
use Rattle.fs_record.specs.StreamExtents.{is_extent_placed}
use Rattle.fs_record.specs.declared.extents.FileExt.{FileExt}
use Rattle.use_report.specs.Gathered.{extent_in}
use Rattle.use_report.specs.Counted.{Grows}
use Rattle.use_report.specs.Files.{IsOfExtent}
use Rattle.use_report.specs.declared.pieces.Pieces.{Pieces}

-- a block of the extent of a record
abbrev pub IsOfRecord : Site → Pair → ℕ → Type 0
IsOfRecord site pair block = (e : FileExt) × (extent_in pair ≡ Ok (Some e)) × IsOfExtent site e block

-- the same of one of some records
abbrev pub IsOfRecords : Site → List Pair → ℕ → Type 0
IsOfRecords site pairs block = (pair : Pair) × In pair pairs × IsOfRecord site pair block

-- the extent of a record lies in the container
abbrev pub IsPlacedRecord : Site → Pair → Type 0
IsPlacedRecord site pair = (e : FileExt) → extent_in pair ≡ Ok (Some e) → is_extent_placed site.block_size site.blocks e ≡ true

abbrev pub ArePlacedRecords : Site → List Pair → Type 0
ArePlacedRecords site pairs = (pair : Pair) → In pair pairs → IsPlacedRecord site pair

-- a block of an extent whose record stands in a node, where it is a leaf
abbrev pub IsOfLeaf : {K : Type 0} → Shape K → Site → List ℕ → ℕ → Type 0
IsOfLeaf shape site bytes block = (level_of bytes ≡ 0) × IsOfRecords site (pairs_of shape bytes) block

abbrev pub IsPlacedLeaf : {K : Type 0} → Shape K → Site → List ℕ → Type 0
IsPlacedLeaf shape site bytes = level_of bytes ≡ 0 → ArePlacedRecords site (pairs_of shape bytes)

-- what a leaf has was added, and lies in the container
pub record AddsLeaf {K : Type 0} (shape : Shape K) (site : Site) (bytes : List ℕ) (old new : Pieces) : Type 0 where
  pub grows : Grows old new (IsOfLeaf shape site bytes)
  pub placed : IsPlacedLeaf shape site bytes

-- the same, by whether the names in keys are hashed
abbrev pub IsOfNode : Bool → Site → List ℕ → ℕ → Type 0
IsOfNode true site bytes block = IsOfLeaf fs_shape site bytes block
IsOfNode false site bytes block = IsOfLeaf fs_plain_shape site bytes block

abbrev pub IsPlacedNode : Bool → Site → List ℕ → Type 0
IsPlacedNode true site bytes = IsPlacedLeaf fs_shape site bytes
IsPlacedNode false site bytes = IsPlacedLeaf fs_plain_shape site bytes

pub record AddsNode (hashed : Bool) (site : Site) (bytes : List ℕ) (old new : Pieces) : Type 0 where
  pub grows : Grows old new (IsOfNode hashed site bytes)
  pub placed : IsPlacedNode hashed site bytes
