-- How the facts of a view differ from those of another, and what of a difference is tested.
use Rattle.std.specs.Prelude.{◌≡◌, ◌⊎◌, ℕ, ◌≤◌, Bool, true, false, not, ◌&&◌, ◌||◌, ◌==◌, nat_lt, List, [], ◌∷◌, count_by, bytes_eq}
use Rattle.std.specs.List.{list_any}
use Rattle.apfs_model.specs.Lists.{In, passes}
use Rattle.obj_base.specs.declared.site.Site.{Site}
use Rattle.ext_ref.specs.declared.range.NewRange.{NewRange}
use Rattle.fs_record.specs.Inodes.{Inode, inode_kind}
use Rattle.fs_record.specs.Entries.{Entry}
use Rattle.fs_record.specs.Siblings.{Link}
use Rattle.fs_record.specs.Facts.{Fact, is_reserved}
use Rattle.view_rules.specs.Words.{IsClear}
use Rattle.view_rules.specs.Facts.{Facts, inode_at, is_directory, is_system_id, does_count, entry_count, child_count}
use Rattle.view_rules.specs.Names.{is_entry_repeated, is_attribute_repeated, has_other_ascii_hash, has_other_name_hash}
use Rattle.view_rules.specs.Entries.{lacks_parent, lacks_inode, has_root, has_other_kind}
use Rattle.view_rules.specs.Directories.{is_user_directory, is_misnamed, is_root_named, parent_at, Leads}
use Rattle.view_rules.specs.Counts.{has_other_children, has_other_links}
use Rattle.view_rules.specs.Siblings.{is_entry_of, is_link_of, go_together, has_entry, has_map, is_entry_lost, is_link_lost, is_map_lost, is_unmarked}
use Rattle.view_rules.specs.Extents.{is_disordered, is_misplaced, is_uncovered}
use Rattle.view_rules.specs.Inodes.{lacks_target, has_large_stream, has_large_body, lacks_owner}
use Rattle.view_rules.specs.declared.profile.Profile.{Profile}
use Rattle.view_rules.specs.declared.profile.Profile.TheVariants.{Strict}

-- a list is woven of two others: it has the items of both, those of each in their order
pub data Weaves {X : Type 0} : List X → List X → List X → Type 0 where
  ended : Weaves [] [] []
  stays : (x : X) (all same other : List X) → Weaves all same other → Weaves (x ∷ all) (x ∷ same) other
  differs : (x : X) (all same other : List X) → Weaves all same other → Weaves (x ∷ all) same (x ∷ other)

-- the facts of each kind are woven of those of two others
pub record AreWoven (all same other : Facts) : Type 0 where
  pub inodes : Weaves all.inodes same.inodes other.inodes
  pub entries : Weaves all.entries same.entries other.entries
  pub attributes : Weaves all.attributes same.attributes other.attributes
  pub links : Weaves all.links same.links other.links
  pub siblings : Weaves all.siblings same.siblings other.siblings
  pub extents : Weaves all.extents same.extents other.extents

-- a fact is of an id
abbrev pub is_of : {X : Type 0} → ℕ → Fact X → Bool
is_of id f = f.id == id

-- no two inodes have one id
abbrev pub HasDistinctInodes : Facts → Type 0
HasDistinctInodes facts = (id : ℕ) → count_by (is_of id) facts.inodes ≤ 1

-- some of the facts before are gone and the others stay; the facts after are those that stay and those that have come. Names are compared as before
pub record IsChange (before after gone come same : Facts) : Type 0 where
  pub names : after.names ≡ before.names
  pub left : AreWoven before same gone
  pub made : AreWoven after same come
  pub distinct_before : HasDistinctInodes before
  pub distinct_after : HasDistinctInodes after

-- some fact of a list is of an id
abbrev pub has_fact : {X : Type 0} → ℕ → List (Fact X) → Bool
has_fact id facts = list_any (is_of id) facts

-- an entry names a file, in whatever directory
abbrev pub is_name_of : ℕ → Fact Entry → Bool
is_name_of id e = e.what.file_id == id

-- an id whose inode has come, or which an entry that is gone or has come names
abbrev pub is_renamed : Facts → Facts → ℕ → Bool
is_renamed gone come id = has_fact id come.inodes || (list_any (is_name_of id) gone.entries || list_any (is_name_of id) come.entries)

-- an id whose inode has come, or of whose directory an entry is gone or has come
abbrev pub is_refilled : Facts → Facts → ℕ → Bool
is_refilled gone come id = has_fact id come.inodes || (has_fact id gone.entries || has_fact id come.entries)

-- an id whose inode has come, or of which an attribute is gone
abbrev pub is_stripped : Facts → Facts → ℕ → Bool
is_stripped gone come id = has_fact id come.inodes || has_fact id gone.attributes

-- an id of a stream of which an extent is gone or has come
abbrev pub is_rewritten : Facts → Facts → ℕ → Bool
is_rewritten gone come id = has_fact id gone.extents || has_fact id come.extents

-- of a list, no item whose id passes a test breaks the rule
abbrev pub IsClearWhere : {X : Type 0} → (ℕ → Bool) → (Fact X → Bool) → List (Fact X) → Type 0
IsClearWhere {X} test breaks xs = (x : Fact X) → In x xs → test x.id ≡ true → breaks x ≡ false

-- a link is like another: it is of the same sibling of the same file, and has the same name in the same directory
abbrev pub is_like : Fact Link → Fact Link → Bool
is_like l other = is_link_of l.what.file l.what.sibling other && ((other.what.parent == l.what.parent) && bytes_eq other.what.name l.what.name)

-- a link of a sibling of a file has another parent than the private directory or a reserved id
abbrev pub is_user_link : ℕ → ℕ → Fact Link → Bool
is_user_link file sibling l = is_link_of file sibling l && not (is_system_id l.what.parent)

-- an entry or a link of a map's sibling and file is gone
abbrev pub is_unsettled : Facts → Fact ℕ → Bool
is_unsettled gone m = list_any (is_entry_of m.what m.id) gone.entries || list_any (is_link_of m.what m.id) gone.links

-- what is tested of siblings: entries, links and maps that have come have their fellows; so has a link whose entry is gone, and a map
-- if an entry or a link of its file and sibling is gone; a link that is gone has one like it after, or no entry; a map that is gone has
-- one like it after, or no link of its file and sibling
pub record KeepsFellows (after gone come : Facts) : Type 0 where
  pub new_entries : IsClear (is_entry_lost after) come.entries
  pub new_links : IsClear (is_link_lost after) come.links
  pub new_maps : IsClear (is_map_lost after) come.siblings
  pub old_entries : (e : Fact Entry) (l : Fact Link) → In e gone.entries → In l after.links → go_together e l ≡ true → is_link_lost after l ≡ false
  pub old_links : (l : Fact Link) → In l gone.links → (list_any (is_like l) after.links ≡ true) ⊎ (has_entry after l ≡ false)
  pub old_maps : (m : Fact ℕ) → In m gone.siblings → (has_map after m.what m.id ≡ true) ⊎ (list_any (is_user_link m.what m.id) after.links ≡ false)
  pub maps : (m : Fact ℕ) → In m after.siblings → is_unsettled gone m ≡ true → is_map_lost after m ≡ false

-- among some facts is an inode of the same id and the same kind
abbrev pub has_double : Facts → Fact Inode → Bool
has_double facts f = passes (inode_at facts f.id) (λ (inode : Inode). inode_kind inode == inode_kind f.what)

-- no fact uses the id of an inode: no entry names it, it has no attribute, and no entry that counts stands in it if it is a directory
pub record IsUnused (facts : Facts) (f : Fact Inode) : Type 0 where
  pub entries : entry_count facts f.id ≡ 0
  pub attributes : has_fact f.id facts.attributes ≡ false
  pub children : is_directory f.what ≡ true → is_reserved f.id ≡ false → child_count facts f.id ≡ 0

-- among some facts is a directory of the same id in the same parent
abbrev pub stands_as_in : Facts → Fact Inode → Bool
stands_as_in facts f = passes (inode_at facts f.id) (λ (inode : Inode). is_directory inode && (inode.parent == f.what.parent))

-- an entry that counts, of a file that has another now, had one at most before, and has it still
abbrev pub is_newly_shared : Facts → Facts → Facts → Fact Entry → Bool
is_newly_shared before after gone e =
    (does_count e && nat_lt 1 (entry_count after e.what.file_id))
    && not (nat_lt 1 (entry_count before e.what.file_id) || (entry_count before e.what.file_id == entry_count gone e.what.file_id))

-- what is tested of a change: what has come has its rules among the facts after, and so has each id of which something speaks that is
-- gone or has come
pub record IsPlainChange (profile : Profile) (site : Site) (ranges : List NewRange) (before after gone come : Facts) : Type 0 where
  pub inodes : (f : Fact Inode) → In f gone.inodes → (has_double come f ≡ true) ⊎ IsUnused after f
  pub root : has_root after ≡ true
  pub root_name : is_root_named after ≡ false
  pub entry_names : IsClear (is_entry_repeated after) come.entries
  pub ascii_hashes : IsClear (has_other_ascii_hash after) come.entries
  pub name_hashes : profile ≡ Strict → IsClear (has_other_name_hash after) come.entries
  pub parents : IsClear (lacks_parent after) come.entries
  pub files : IsClear (lacks_inode after) come.entries
  pub kinds : IsClear (has_other_kind after) come.entries
  pub directory_names : IsClearWhere (is_renamed gone come) (is_misnamed after) after.inodes
  pub links : IsClearWhere (is_renamed gone come) (has_other_links after) after.inodes
  pub children : IsClearWhere (is_refilled gone come) (has_other_children after) after.inodes
  pub ways : (f : Fact Inode) → In f come.inodes → is_user_directory f ≡ true → (stands_as_in gone f ≡ true) ⊎ Leads (parent_at after) f.id
  pub fellows : KeepsFellows after gone come
  pub marks : IsClear (is_unmarked after) come.entries
  pub shared : IsClear (is_newly_shared before after gone) come.entries
  pub attribute_names : IsClear (is_attribute_repeated after) come.attributes
  pub owners : IsClear (lacks_owner after) come.attributes
  pub targets : IsClearWhere (is_stripped gone come) (lacks_target after) after.inodes
  pub stream_sizes : IsClear has_large_stream come.inodes
  pub body_sizes : IsClear has_large_body come.attributes
  pub extent_order : IsClearWhere (is_rewritten gone come) (is_disordered site.block_size after) after.extents
  pub extent_places : IsClear (is_misplaced site.block_size site.blocks) come.extents
  pub cover : IsClear (is_uncovered site.block_size ranges) come.extents
