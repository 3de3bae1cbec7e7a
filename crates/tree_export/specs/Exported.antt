-- What a folder gets of a view: from the tree of its root, in its order, the directories, and the files whose contents can be given.
use Rattle.std.specs.Prelude.{ℕ, Bool, not, ◌||◌, List, map, filter, filter_map, Option, Some, option_map, option_and_then, is_ok, if◌then◌else◌}
use Rattle.apfs_model.specs.Lists.{passes, through, value_of}
use Rattle.fs_record.specs.Inodes.{Inode}
use Rattle.view_rules.specs.Facts.{Facts, inode_at, is_directory}
use Rattle.path_search.specs.Places.{root_name}
use Rattle.path_search.specs.declared.target.Target.{Target}
use Rattle.view_tree.specs.Tree.{tree}
use Rattle.path_read.specs.Contents.{readable, contents_in}
use Rattle.blk_folder.specs.Items as folders
use Rattle.blk_folder.specs.Items.{directory_at, file_at}
use Rattle.tree_export.specs.Safe.{safe_path}
use Rattle.tree_export.specs.declared.told.Item.{Item}

-- an item that is asked for: a path, and what stands there
pub record Wanted : Type 0 where
  pub path : List ℕ
  pub id : ℕ
  pub kind : ℕ
  pub size : ℕ

-- the file at a path, where its contents can be given: it is regular, and neither compressed nor dataless
abbrev pub file_by : ℕ → List ℕ → Facts → List ℕ → Inode → Option folders.Item
file_by block_size image facts path inode = option_map (λ (whole : Inode). file_at path (contents_in block_size image facts whole)) (value_of (readable inode))

-- what is put at a path for an inode: a directory, a file with its contents, or nothing
unfoldable pub put_by : ℕ → List ℕ → Facts → List ℕ → Inode → Option folders.Item
put_by block_size image facts path inode = if is_directory inode then Some (directory_at path) else file_by block_size image facts path inode

-- what is put for an item, by the inode of its id, at its path as it is written
abbrev pub put_for : ℕ → List ℕ → Facts → Wanted → Option folders.Item
put_for block_size image facts item = option_and_then (put_by block_size image facts (safe_path item.path)) (inode_at facts item.id)

-- what is put for some items, in their order
unfoldable pub put_all : ℕ → List ℕ → Facts → List Wanted → List folders.Item
put_all block_size image facts items = filter_map (put_for block_size image facts) items

-- something is put for an inode
abbrev pub is_put : Inode → Bool
is_put inode = is_directory inode || is_ok (readable inode)

-- nothing is put for an item
abbrev pub is_left_out : Facts → Wanted → Bool
is_left_out facts item = not (passes (inode_at facts item.id) is_put)

-- ---- of a whole view
-- the item of a row of a tree
abbrev pub item_of : List ℕ × Target → Wanted
item_of row = record { path = row.0; id = row.1.id; kind = row.1.kind; size = row.1.size }

-- the items of a view: those of the tree of its root
unfoldable pub items_in : Facts → List Wanted
items_in facts = map item_of (through (value_of (tree facts root_name)) (λ rows. rows))

-- what a folder gets of a view
unfoldable pub exported : ℕ → List ℕ → Facts → List folders.Item
exported block_size image facts = put_all block_size image facts (items_in facts)

-- the items of a view for which nothing is put
unfoldable pub skipped : Facts → List Wanted
skipped facts = filter (is_left_out facts) (items_in facts)
