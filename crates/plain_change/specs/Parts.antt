-- What is tested of a change, part by part.
use Rattle.std.specs.Prelude.{◌≡◌, ◌⊎◌, true, false, List}
use Rattle.apfs_model.specs.Lists.{In}
use Rattle.obj_base.specs.declared.site.Site.{Site}
use Rattle.ext_ref.specs.declared.range.NewRange.{NewRange}
use Rattle.fs_record.specs.Inodes.{Inode}
use Rattle.fs_record.specs.Entries.{Entry}
use Rattle.fs_record.specs.Attributes.{Attribute}
use Rattle.fs_record.specs.Facts.{Fact}
use Rattle.fs_record.specs.declared.extents.FileExt.{FileExt}
use Rattle.view_rules.specs.Words.{IsClear}
use Rattle.view_rules.specs.Facts.{Facts}
use Rattle.view_rules.specs.Names.{is_entry_repeated, is_attribute_repeated, has_other_ascii_hash, HasAsciiHashes}
use Rattle.view_rules.specs.Entries.{lacks_parent, lacks_inode, has_root, has_other_kind}
use Rattle.view_rules.specs.Directories.{is_user_directory, is_misnamed, is_root_named, parent_at, Leads}
use Rattle.view_rules.specs.Counts.{has_other_children, has_other_links}
use Rattle.view_rules.specs.Siblings.{is_unmarked}
use Rattle.view_rules.specs.Extents.{is_disordered, is_misplaced, is_uncovered}
use Rattle.view_rules.specs.Inodes.{lacks_target, has_large_stream, has_large_body, lacks_owner}
use Rattle.rule_changes.specs.Changes.{IsUnused, HasDistinctInodes, IsClearWhere, is_renamed, is_refilled, is_stripped, is_rewritten, has_double, stands_as_in, KeepsFellows}

-- an entry's name is there once in its directory, where the hashes of ASCII names are right
abbrev pub IsAlone : Facts → Fact Entry → Type 0
IsAlone after e = HasAsciiHashes after → In e after.entries → is_entry_repeated after e ≡ false

-- an inode that is gone has come again with its kind, or nothing uses its id
abbrev pub IsLetGo : Facts → Facts → Fact Inode → Type 0
IsLetGo after come f = (has_double come f ≡ true) ⊎ IsUnused after f

-- a directory of 16 or more stands where it stood, or parents lead from it to an id below 16
abbrev pub HasWay : Facts → Facts → Fact Inode → Type 0
HasWay after gone f = is_user_directory f ≡ true → (stands_as_in gone f ≡ true) ⊎ Leads (parent_at after) f.id

-- of an entry that has come
pub record IsEntryRight (after : Facts) (e : Fact Entry) : Type 0 where
  pub hash : has_other_ascii_hash after e ≡ false
  pub parent : lacks_parent after e ≡ false
  pub file : lacks_inode after e ≡ false
  pub kind : has_other_kind after e ≡ false
  pub mark : is_unmarked after e ≡ false

-- of entries that have come
pub record AreEntriesRight (after come : Facts) : Type 0 where
  pub hashes : IsClear (has_other_ascii_hash after) come.entries
  pub parents : IsClear (lacks_parent after) come.entries
  pub files : IsClear (lacks_inode after) come.entries
  pub kinds : IsClear (has_other_kind after) come.entries
  pub marks : IsClear (is_unmarked after) come.entries

-- of an attribute that has come
abbrev pub IsAttributeRight : Facts → Fact Attribute → Type 0
IsAttributeRight after a = (lacks_owner after a ≡ false) × (is_attribute_repeated after a ≡ false)

-- of names of entries, of siblings, and of attributes
pub record AreNamesRight (after gone come : Facts) : Type 0 where
  pub fellows : KeepsFellows after gone come
  pub entries : (e : Fact Entry) → In e come.entries → IsAlone after e
  pub attributes : IsClear (is_attribute_repeated after) come.attributes
  pub owners : IsClear (lacks_owner after) come.attributes

-- of the root, and of inodes
pub record AreInodesRight (after gone come : Facts) : Type 0 where
  pub root : has_root after ≡ true
  pub root_name : is_root_named after ≡ false
  pub let_go : (f : Fact Inode) → In f gone.inodes → IsLetGo after come f
  pub names : HasDistinctInodes after → IsClearWhere (is_renamed gone come) (is_misnamed after) after.inodes
  pub links : HasDistinctInodes after → IsClearWhere (is_renamed gone come) (has_other_links after) after.inodes
  pub children : HasDistinctInodes after → IsClearWhere (is_refilled gone come) (has_other_children after) after.inodes
  pub targets : HasDistinctInodes after → IsClearWhere (is_stripped gone come) (lacks_target after) after.inodes
  pub ways : (f : Fact Inode) → In f come.inodes → HasWay after gone f

-- of an extent that has come
pub record IsExtentRight (site : Site) (ranges : List NewRange) (f : Fact FileExt) : Type 0 where
  pub place : is_misplaced site.block_size site.blocks f ≡ false
  pub cover : is_uncovered site.block_size ranges f ≡ false

-- of streams and extents
pub record AreStreamsRight (site : Site) (ranges : List NewRange) (after gone come : Facts) : Type 0 where
  pub order : IsClearWhere (is_rewritten gone come) (is_disordered site.block_size after) after.extents
  pub places : IsClear (is_misplaced site.block_size site.blocks) come.extents
  pub cover : IsClear (is_uncovered site.block_size ranges) come.extents
  pub streams : IsClear has_large_stream come.inodes
  pub bodies : IsClear has_large_body come.attributes
