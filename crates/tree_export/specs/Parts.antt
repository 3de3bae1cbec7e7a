-- What the parts of the call give. These are for the contracts of this crate's own functions; what the call promises is said elsewhere.
use Rattle.std.specs.Prelude.{◌≡◌, ◌≢◌, ◌++◌, ◌+◌, ℕ, List, [], ◌∷◌, Option, None, Some, length, Result, Ok, Err, is_ok, if◌then◌else◌}
use Rattle.apfs_model.specs.Counts.{given, one_more}
use Rattle.obj_base.specs.Stops.{Tells}
use Rattle.obj_base.specs.declared.site.Site.{Site}
use Rattle.obj_base.specs.declared.stop.Stop.{Stop}
use Rattle.obj_base.specs.declared.stop.Stop.TheVariants.{Found, Unsupported, ReadFault, NoMemory}
use Rattle.bt_node.specs.Shape.{Shape}
use Rattle.bt_node.specs.Entries.{Pair}
use Rattle.bt_keys.specs.RecordKey.{inode_record}
use Rattle.bt_cursor.specs.Tree.{Tree}
use Rattle.bt_cursor.specs.Flat.{flat_of}
use Rattle.bt_cursor.specs.From.{run_in, is_of_kind}
use Rattle.bt_cursor.specs.WholeTree.{IsWhole}
use Rattle.bt_cursor.specs.Faults.{IsWalkFault}
use Rattle.bt_cursor.specs.declared.gathering.GatherFault.{GatherFault}
use Rattle.bt_cursor.specs.declared.gathering.GatherFault.TheVariants as gathers
use Rattle.fs_record.specs.Inodes.{Inode}
use Rattle.fs_record.specs.Facts.{read_inode, inodes_of, first_for}
use Rattle.fs_record.specs.declared.fault.RecFault.{RecFault}
use Rattle.fs_record.specs.declared.inode_view.StreamSize.{StreamSize}
use Rattle.file_extent.specs.Stops.{IsStreamStop}
use Rattle.vol_view.specs.Volumes.{Loaded}
use Rattle.vol_view.specs.Views.{IsViewFeature}
use Rattle.vol_view.specs.declared.volume.View.{View}
use Rattle.view_rules.specs.Facts.{Facts, is_directory}
use Rattle.path_search.specs.Paths.{slash}
use Rattle.path_read.specs.Contents.{readable, stream_in}
use Rattle.blk_folder.specs.Items as folders
use Rattle.blk_folder.specs.Items.{directory_at, file_at}
use Rattle.blk_folder.specs.Put.{Appended}
use Rattle.tree_export.specs.Faults.{IsInodeOf, IsRefusedInode, LacksInode}
use Rattle.tree_export.specs.declared.content.Content.{Content}
use Rattle.tree_export.specs.declared.content.Content.TheVariants.{Directory, Empty, Stream, Nothing}
use Rattle.tree_export.specs.declared.putting.Put.{Put}
use Rattle.tree_export.specs.declared.putting.Put.TheVariants as puts
use Rattle.tree_export.specs.declared.search.Sought.{Sought}
use Rattle.tree_export.specs.declared.search.Sought.TheVariants.{One, Refused, Missing}
use Rattle.tree_export.specs.declared.stop.ExportFault.{ExportFault}
use Rattle.tree_export.specs.declared.stop.ExportFault.TheVariants as faults
use Rattle.tree_export.specs.declared.stop.ExportStop.{ExportStop}
use Rattle.tree_export.specs.declared.stop.ExportStop.TheVariants.{Stopped, WriteFault}
use Rattle.tree_export.specs.declared.told.Done.{Done}

-- ---- paths that are written as they are
-- a byte may stand after another one: it isn't zero, and after a slash neither a slash nor a dot
abbrev pub MayFollow : ℕ → ℕ → Type 0
MayFollow before byte = (byte ≢ 0) × (before ≡ slash → (byte ≢ slash) × (byte ≢ 46))

-- so may each byte of a text after a first one, and the last isn't a slash
abbrev pub IsPlainAfter : ℕ → List ℕ → Type 0
IsPlainAfter before [] = before ≢ slash
IsPlainAfter before (byte ∷ bytes) = MayFollow before byte × IsPlainAfter byte bytes

-- ---- the content of an inode
-- a file's, by its stream
abbrev pub content_by : ℕ → Option StreamSize → Content
content_by id None = Empty
content_by id (Some stream) = Stream id stream.size

-- what an inode gives a folder
unfoldable pub content_of : Inode → Content
content_of inode =
    if is_directory inode then Directory else
    if is_ok (readable inode) then content_by inode.private_id inode.stream else
    Nothing

-- what is put of a content at a path
abbrev pub put_as : ℕ → List ℕ → Facts → List ℕ → Content → Option folders.Item
put_as block_size image facts path Directory = Some (directory_at path)
put_as block_size image facts path Empty = Some (file_at path [])
put_as block_size image facts path (Stream id size) = Some (file_at path (stream_in block_size image facts id size))
put_as block_size image facts path Nothing = None

-- ---- a search for the inode of an id
-- the inode of an id at the start of some records, as it is read
abbrev pub first_record : {K : Type 0} → Shape K → ℕ → List Pair → Option (Result Inode RecFault)
first_record shape id [] = None
first_record shape id (pair ∷ pairs) = if run_in shape (is_of_kind id inode_record) pair then Some (read_inode pair) else None

abbrev pub sought_as : Option (Result Inode RecFault) → Sought
sought_as None = Missing
sought_as (Some (Ok inode)) = One (content_of inode)
sought_as (Some (Err why)) = Refused why

-- this is the content of an id's inode by some records
abbrev pub IsContentIn : List Pair → ℕ → Content → Type 0
IsContentIn pairs id content = (inode : Inode) × (first_for id (inodes_of pairs) ≡ Some inode) × (content ≡ content_of inode)

-- it is that of one of the records of the id's inode
abbrev pub HasContent : List Pair → ℕ → Content → Type 0
HasContent pairs id content = (inode : Inode) × IsInodeOf pairs id inode × (content ≡ content_of inode)

-- what a search tells of records in order
abbrev pub TellsOrdered : List Pair → ℕ → Sought → Type 0
TellsOrdered pairs id (One content) = IsContentIn pairs id content
TellsOrdered pairs id (Refused why) = Unit {0}
TellsOrdered pairs id Missing = LacksInode pairs id

-- what it tells of any
abbrev pub TellsRecord : List Pair → ℕ → Sought → Type 0
TellsRecord pairs id (One content) = HasContent pairs id content
TellsRecord pairs id (Refused why) = IsRefusedInode pairs id why
TellsRecord pairs id Missing = Unit {0}

-- what stops a look-up of an id's inode is there, in the tree
abbrev pub IsLookupFault : {K : Type 0} → Tree K → ℕ → ℕ → ExportFault → Type 0
IsLookupFault tree root id (faults.Stream own why) = ⊥
IsLookupFault tree root id (faults.Walk own why) = (own ≡ id) × IsWalkFault tree root why
IsLookupFault tree root id (faults.Value own why) = (own ≡ id) × IsRefusedInode (flat_of tree root) id why
IsLookupFault tree root id (faults.NoInode own) = (own ≡ id) × IsWhole tree root × LacksInode (flat_of tree root) id

-- why a tree isn't whole, said of an id
abbrev pub gather_raised : ℕ → Stop GatherFault → Stop ExportFault
gather_raised id (Found (gathers.Tree why)) = Found (faults.Walk id why)
gather_raised id (Found (gathers.Refused item)) = Found (faults.NoInode id)
gather_raised id (Unsupported feature block) = Unsupported feature block
gather_raised id ReadFault = ReadFault
gather_raised id NoMemory = NoMemory

-- ---- the bytes of a file
-- the last item has one part more: the text of the image, where the source tells that
abbrev pub AppendedWhole : Option (List folders.Item) → Option (List folders.Item) → Option (List ℕ) → (List ℕ → List ℕ) → Type 0
AppendedWhole old new told text = (part : List ℕ) × Appended old new part × ((image : List ℕ) → told ≡ Some image → part ≡ text image)

-- the last item has one part more: a front of the text of the image, where the source tells that
abbrev pub AppendedFront : Option (List folders.Item) → Option (List folders.Item) → Option (List ℕ) → (List ℕ → List ℕ) → Type 0
AppendedFront old new told text =
    (part : List ℕ) × Appended old new part × ((image : List ℕ) → told ≡ Some image → (rest : List ℕ) × (text image ≡ part ++ rest))

-- what stops a file of an item's id, by its stream, is there
abbrev pub IsStreamFault : List ℕ → Site → Loaded → View → ℕ → ℕ → ExportFault → Type 0
IsStreamFault image site volume view id stream (faults.Stream own why) = (own ≡ id) × IsStreamStop image site volume view stream why
IsStreamFault image site volume view id stream (faults.Walk own why) = ⊥
IsStreamFault image site volume view id stream (faults.Value own why) = ⊥
IsStreamFault image site volume view id stream (faults.NoInode own) = ⊥

abbrev pub IsFileStop : List ℕ → Site → Loaded → View → ℕ → ℕ → ExportStop → Type 0
IsFileStop image site volume view id stream (Stopped stop) = Tells (IsStreamFault image site volume view id stream) (IsViewFeature image site volume view) stop
IsFileStop image site volume view id stream WriteFault = Unit {0}

-- what stops the putting of a content is there
abbrev pub IsContentStop : List ℕ → Site → Loaded → View → ℕ → Content → ExportStop → Type 0
IsContentStop image site volume view id Directory stop = stop ≡ WriteFault
IsContentStop image site volume view id Empty stop = stop ≡ WriteFault
IsContentStop image site volume view id (Stream own size) stop = IsFileStop image site volume view id own stop
IsContentStop image site volume view id Nothing stop = stop ≡ WriteFault

-- ---- what is told
-- this is told of what was put for an item
abbrev pub IsPut : Option folders.Item → Put → Type 0
IsPut item puts.Directory = (path : List ℕ) × (item ≡ Some (directory_at path))
IsPut item (puts.File count) = (path : List ℕ) × (bytes : List ℕ) × (item ≡ Some (file_at path bytes)) × (length bytes ≡ count)
IsPut item puts.Nothing = item ≡ None

-- one more item is told of
abbrev pub TellsMore : Done → ℕ → Put → Done → Type 0
TellsMore old number puts.Directory new = (new.directories ≡ one_more old.directories) × (new.files ≡ old.files) × (new.bytes ≡ old.bytes) × (new.skipped.items ≡ old.skipped.items)
TellsMore old number (puts.File count) new = (new.directories ≡ old.directories) × (new.files ≡ one_more old.files) × (new.bytes ≡ given (old.bytes + count)) × (new.skipped.items ≡ old.skipped.items)
TellsMore old number puts.Nothing new = (new.directories ≡ old.directories) × (new.files ≡ old.files) × (new.bytes ≡ old.bytes) × (new.skipped.items ≡ old.skipped.items ++ number ∷ [])
