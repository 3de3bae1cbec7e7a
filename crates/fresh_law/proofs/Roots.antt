-- The namings of a new container, each with its object, its block and what it leads to.
use Rattle.std.proofs.Common.{ℕ, true, List, [], ◌∷◌}
use Rattle.omap_map.specs.declared.records.OmapRecord.{OmapRecord}
use Rattle.space_pool.specs.declared.entry.Queue.TheVariants.{Pool, Main}
use Rattle.reach_rules.specs.declared.naming.ViewAt.{ViewAt}
use Rattle.reach_rules.specs.declared.naming.LookUp.TheVariants.{ByBlock, ByMapping, InContainer, InView}
use Rattle.reach_rules.specs.declared.naming.Object.{Object}
use Rattle.reach_rules.specs.declared.naming.Object.TheVariants.{Newest, InBlock, OfId, OfRecord}
use Rattle.reach_rules.specs.declared.naming.Namer.{Namer}
use Rattle.reach_rules.specs.declared.naming.Namer.TheVariants.{Whole}
use Rattle.reach_rules.specs.declared.naming.TreeKind.TheVariants.{MapRecords, ExtentRefs, SnapMetadata, FreeQueue, Files}
use Rattle.reach_rules.specs.declared.naming.Expected.TheVariants.{SpaceManager, ContainerMap, ReaperObject, VolumeIn, VolumeMap, InfoBlock, TreeRoot}
use Rattle.reach_rules.specs.declared.naming.Naming.{Naming}
use Rattle.reach_rules.specs.Naming.{naming}
use Rattle.reach_rules.specs.Resolved.{Found}
use Rattle.fresh_law.specs.Site.{block_at}

-- the records of the two object maps
abbrev pub mapped : ℕ → ℕ → OmapRecord
mapped oid block = record { oid = oid; xid = 1; flags = 0; size = 4096; paddr = block }

abbrev pub volume_record : OmapRecord
volume_record = mapped 1026 51

abbrev pub files_record : OmapRecord
files_record = mapped 1028 54

-- the one view
abbrev pub view : ViewAt
view = record { slot = 0; place = 0; xid = 1; map = 52; hashed = true }

-- who names
abbrev pub by_super : Namer
by_super = Whole Newest

abbrev pub by_manager : Namer
by_manager = Whole (OfId 1024)

abbrev pub by_volume : Namer
by_volume = Whole (OfRecord 25 volume_record)

abbrev pub by_block : ℕ → Namer
by_block k = Whole (InBlock k)

-- the namings
abbrev pub to_manager : Naming
to_manager = naming by_super 152 SpaceManager ByMapping 1024

abbrev pub to_map : Naming
to_map = naming by_super 160 ContainerMap ByBlock 25

abbrev pub to_reaper : Naming
to_reaper = naming by_super 168 ReaperObject ByMapping 1025

abbrev pub to_volume : Naming
to_volume = naming by_super 184 (VolumeIn 0) InContainer 1026

abbrev pub to_pool_queue : Naming
to_pool_queue = naming by_manager 208 (TreeRoot (FreeQueue Pool)) ByMapping 1029

abbrev pub to_main_queue : Naming
to_main_queue = naming by_manager 248 (TreeRoot (FreeQueue Main)) ByMapping 1030

abbrev pub to_info : Naming
to_info = naming by_manager 2528 (InfoBlock 0) ByBlock 43

abbrev pub to_map_tree : Naming
to_map_tree = naming (by_block 25) 48 (TreeRoot MapRecords) ByBlock 26

abbrev pub to_volume_map : Naming
to_volume_map = naming by_volume 128 VolumeMap ByBlock 52

abbrev pub to_files : Naming
to_files = naming by_volume 136 (TreeRoot (Files true)) (InView view) 1028

abbrev pub to_extents : Naming
to_extents = naming by_volume 144 (TreeRoot ExtentRefs) ByBlock 55

abbrev pub to_snaps : Naming
to_snaps = naming by_volume 152 (TreeRoot SnapMetadata) ByBlock 56

abbrev pub to_volume_tree : Naming
to_volume_tree = naming (by_block 52) 48 (TreeRoot MapRecords) ByBlock 53

-- a naming, the object to which it resolves, the object's block, and what the object names
pub record Row : Type 0 where
  pub naming : Naming
  pub object : Object
  pub block : ℕ
  pub children : List Naming

abbrev pub row : Naming → Object → ℕ → List Naming → Row
row n o b children = record { naming = n; object = o; block = b; children = children }

abbrev pub manager_row : Row
manager_row = row to_manager (OfId 1024) 9 (to_pool_queue ∷ to_main_queue ∷ to_info ∷ [])

abbrev pub map_row : Row
map_row = row to_map (InBlock 25) 25 (to_map_tree ∷ [])

abbrev pub reaper_row : Row
reaper_row = row to_reaper (OfId 1025) 10 []

abbrev pub volume_row : Row
volume_row = row to_volume (OfRecord 25 volume_record) 51 (to_volume_map ∷ to_files ∷ to_extents ∷ to_snaps ∷ [])

abbrev pub pool_queue_row : Row
pool_queue_row = row to_pool_queue (OfId 1029) 11 []

abbrev pub main_queue_row : Row
main_queue_row = row to_main_queue (OfId 1030) 12 []

abbrev pub info_row : Row
info_row = row to_info (InBlock 43) 43 []

abbrev pub map_tree_row : Row
map_tree_row = row to_map_tree (InBlock 26) 26 []

abbrev pub volume_map_row : Row
volume_map_row = row to_volume_map (InBlock 52) 52 (to_volume_tree ∷ [])

abbrev pub files_row : Row
files_row = row to_files (OfRecord 52 files_record) 54 []

abbrev pub extents_row : Row
extents_row = row to_extents (InBlock 55) 55 []

abbrev pub snaps_row : Row
snaps_row = row to_snaps (InBlock 56) 56 []

abbrev pub volume_tree_row : Row
volume_tree_row = row to_volume_tree (InBlock 53) 53 []

abbrev pub rows : List Row
rows = manager_row ∷ map_row ∷ reaper_row ∷ volume_row ∷ pool_queue_row ∷ main_queue_row ∷ info_row ∷ map_tree_row ∷ volume_map_row ∷ files_row ∷ extents_row ∷ snaps_row ∷ volume_tree_row ∷ []

-- those that the superblock names
abbrev pub first_namings : List Naming
first_namings = to_manager ∷ to_map ∷ to_reaper ∷ to_volume ∷ []

-- what a row's naming finds in an image
abbrev pub found : List ℕ → Row → Found
found image r = record { object = r.object; block = r.block; bytes = block_at image r.block }
