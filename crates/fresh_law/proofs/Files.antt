-- The records of a new volume, and the rules of its files.
use Rattle.std.proofs.Common.{◌≡◌, ℕ, Bool, true, false, not, ◌==◌, List, [], ◌∷◌, map, None, Ok, refl, ap, sym, ◌∙◌}
use Rattle.std.specs.Prelude.{pos, codes, nat_lt}
use Rattle.std.specs.List.{list_all}
use Rattle.std.specs.Str.{is_utf8, chars}
use Rattle.std.specs.Char.{encode_utf8}
use Rattle.apfs_model.specs.Bytes.{u16_at, u32_at, u64_at, i32_at}
use Rattle.bt_node.specs.Entries.{Pair}
use Rattle.bt_keys.specs.RecordKey.{id_of, record_kind_of, second_of, len_and_hash_of, hashed_name_of, is_fs_key, sub_of}
use Rattle.bt_keys.specs.Shapes.{fs_shape}
use Rattle.bt_cursor.specs.Line.{Item}
use Rattle.bt_cursor.specs.Order.{is_ordered}
use Rattle.obj_base.specs.declared.site.Site.{Site}
use Rattle.fs_name.specs.declared.naming.Names.TheVariants.{Folded}
use Rattle.fs_name.specs.Text.{is_name, name_in, is_ascii_name}
use Rattle.fs_name.specs.Crc.{after_bits, after_byte, crc32c_of}
use Rattle.fs_name.specs.Steps.{letter_of}
use Rattle.fs_name.specs.Hash.{hash_chars, name_hash_of}
use Rattle.fs_name.proofs.NormalLemmas.{ascii_normal_form}
use Rattle.fs_record.specs.Fields.{fields_of, have_fields_room, field_of, is_field_long}
use Rattle.fs_record.specs.Inodes.{Inode, stream_of, parent_of, private_id_of, links_of, bsd_flags_of, mode_of, inode_of}
use Rattle.fs_record.specs.Entries.{Entry, sibling_of, entry_of}
use Rattle.fs_record.specs.Facts as facts
use Rattle.fs_record.specs.Facts.{Fact, refused}
use Rattle.view_rules.specs.Words.{IsClear}
use Rattle.view_rules.specs.Facts.{Facts, facts_in}
use Rattle.view_rules.specs.Names.{is_entry_repeated, is_attribute_repeated, has_other_hash, has_other_ascii_hash, has_other_name_hash}
use Rattle.view_rules.specs.Entries.{lacks_parent, lacks_inode, has_root, has_other_kind}
use Rattle.view_rules.specs.Directories.{is_misnamed, is_root_named, is_user_directory}
use Rattle.view_rules.specs.Counts.{has_other_children, has_other_links}
use Rattle.view_rules.specs.Siblings.{is_entry_lost, is_link_lost, is_map_lost, is_unmarked}
use Rattle.view_rules.specs.Inodes.{lacks_target, has_large_stream}
use Rattle.view_rules.specs.Rules.{refusal_of, HasRecords, HasFactRules}
use Rattle.view_rules.specs.declared.profile.Profile.{Profile}
use Rattle.view_rules.proofs.HashExamples.{ascii-by}
use Rattle.path_search.specs.Paths.{components}
use Rattle.path_search.specs.Found.{entries_in, found}
use Rattle.path_search.specs.Listing.{children, listing}
use Rattle.img_format.specs.Tables.{num, laid}
use Rattle.img_format.specs.Blocks.{file_entries, private_hash, root_hash}
use Rattle.fresh_law.specs.Facts.{pair_of}
use Rattle.reach_rules.proofs.Nexts.{Each, each-in}
use Rattle.fresh_law.proofs.Leaves.{leaf_items}

-- the records as they are read
abbrev pub pairs : List Pair
pairs = map pair_of file_entries

-- what they say
abbrev entry : List ℕ → ℕ → ℕ → Fact Entry
entry name hash file = record { id = 1; what = record { name = name; hash = hash; file_id = file; kind = 4; sibling = None } }

abbrev directory : ℕ → Fact Inode
directory id = record { id = id; what = record { parent = 1; private_id = id; links = pos 0; bsd_flags = 0; mode = 0x41ed; stream = None } }

abbrev pub told : Facts
told = record {
  names = Folded;
  inodes = directory 2 ∷ directory 3 ∷ [];
  entries = entry (codes "private-dir") private_hash 3 ∷ entry (codes "root") root_hash 2 ∷ [];
  attributes = [];
  links = [];
  siblings = [];
  extents = [];
}

pub facts-are : facts_in Folded pairs ≡ told
unfolding facts.inodes_of facts.entries_of facts.attributes_of facts.links_of facts.sibling_files_of facts.extents_of id_of record_kind_of len_and_hash_of hashed_name_of inode_of entry_of stream_of sibling_of parent_of private_id_of links_of bsd_flags_of mode_of i32_at u16_at u32_at u64_at num laid field_of fields_of have_fields_room is_field_long is_name name_in is_utf8 chars encode_utf8
facts-are = refl

pub line-ordered : is_ordered fs_shape (leaf_items 1028 0 pairs) ≡ true
unfolding id_of record_kind_of sub_of second_of len_and_hash_of is_fs_key u16_at u32_at u64_at num laid
line-ordered = refl

-- each can be read
abbrev Readable : Item → Type 0
Readable item = refusal_of Folded item ≡ None

all-readable : Each Readable (leaf_items 1028 0 pairs)
unfolding refusal_of refused record_kind_of len_and_hash_of hashed_name_of inode_of entry_of u16_at u32_at u64_at num laid field_of fields_of have_fields_room is_field_long is_name is_utf8 chars encode_utf8
all-readable = (refl, (refl, (refl, (refl, tt))))

pub records-right : HasRecords Folded (leaf_items 1028 0 pairs)
records-right item h = each-in Readable (leaf_items 1028 0 pairs) item all-readable h

-- ---- the hashes
folded : (name : List ℕ) → list_all (λ b. nat_lt b 128) name ≡ true → name_hash_of Folded name ≡ hash_chars (map (letter_of Folded) name)
unfolding name_hash_of
folded name e = ap hash_chars (ascii_normal_form Folded name (ascii-by name e))

private-computed : hash_chars (map (letter_of Folded) (codes "private-dir")) ≡ private_hash
unfolding hash_chars crc32c_of after_byte after_bits
private-computed = refl

root-computed : hash_chars (map (letter_of Folded) (codes "root")) ≡ root_hash
unfolding hash_chars crc32c_of after_byte after_bits
root-computed = refl

pub private-hashed : name_hash_of Folded (codes "private-dir") ≡ private_hash
private-hashed = folded (codes "private-dir") refl ∙ private-computed

pub root-hashed : name_hash_of Folded (codes "root") ≡ root_hash
root-hashed = folded (codes "root") refl ∙ root-computed

-- ---- the rules
clear : {X : Type 0} (breaks : X → Bool) (xs : List X) → Each (λ x. breaks x ≡ false) xs → IsClear breaks xs
clear breaks xs all x h = each-in (λ y. breaks y ≡ false) xs x all h

ascii-hashes : Each (λ e. has_other_ascii_hash told e ≡ false) told.entries
unfolding has_other_ascii_hash has_other_hash is_ascii_name
ascii-hashes = (ap (λ h. not (private_hash == h)) private-hashed, (ap (λ h. not (root_hash == h)) root-hashed, tt))

name-hashes : Each (λ e. has_other_name_hash told e ≡ false) told.entries
unfolding has_other_name_hash is_ascii_name
name-hashes = (refl, (refl, tt))

no-user : Each (λ (f : Fact Inode). is_user_directory f ≡ false) told.inodes
no-user = (refl, (refl, tt))

pub rules : (profile : Profile) (site : Site) → HasFactRules profile site [] told
unfolding is_entry_repeated is_attribute_repeated lacks_parent lacks_inode has_root has_other_kind is_misnamed is_root_named has_other_children has_other_links is_entry_lost is_link_lost is_map_lost is_unmarked lacks_target has_large_stream
rules profile site = record {
  entry_names = clear (is_entry_repeated told) told.entries (refl, (refl, tt));
  attribute_names = λ x h. absurd h;
  ascii_hashes = clear (has_other_ascii_hash told) told.entries ascii-hashes;
  parents = clear (lacks_parent told) told.entries (refl, (refl, tt));
  files = clear (lacks_inode told) told.entries (refl, (refl, tt));
  root = refl;
  kinds = clear (has_other_kind told) told.entries (refl, (refl, tt));
  directory_names = clear (is_misnamed told) told.inodes (refl, (refl, tt));
  root_name = refl;
  ways = λ f h d. absurd (let e : is_user_directory f ≡ false = each-in (λ (x : Fact Inode). is_user_directory x ≡ false) told.inodes f no-user h in let z : true ≡ false = sym d ∙ e in let q : ⊥ = cc in q);
  children = clear (has_other_children told) told.inodes (refl, (refl, tt));
  links = clear (has_other_links told) told.inodes (refl, (refl, tt));
  entry_fellows = clear (is_entry_lost told) told.entries (refl, (refl, tt));
  link_fellows = λ x h. absurd h;
  map_fellows = λ x h. absurd h;
  marks = clear (is_unmarked told) told.entries (refl, (refl, tt));
  extent_order = λ x h. absurd h;
  extent_places = λ x h. absurd h;
  cover = λ x h. absurd h;
  targets = clear (lacks_target told) told.inodes (refl, (refl, tt));
  stream_sizes = clear has_large_stream told.inodes (refl, (refl, tt));
  body_sizes = λ x h. absurd h;
  owners = λ x h. absurd h;
  name_hashes = λ strict. clear (has_other_name_hash told) told.entries name-hashes;
}

-- ---- the root is empty
pub root-empty : listing told (codes "/") ≡ Ok []
unfolding found components children entries_in
root-empty = refl
