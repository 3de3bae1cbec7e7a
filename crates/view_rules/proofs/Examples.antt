-- Rules on small lists of facts.
use Rattle.std.proofs.Common.{◌≡◌, ℕ, ◌*◌, ◌≤◌, true, false, List, [], ◌∷◌, map, Option, Some, None, inl, inr, refl, ap, sym, ◌∙◌, arith}
use Rattle.std.specs.Prelude.{◌-◌, ◌^◌, ℤ, pos, negsuc, codes}
use Rattle.apfs_model.specs.Lists.{In}
use Rattle.fs_name.specs.declared.naming.Names.TheVariants.{Exact}
use Rattle.fs_name.specs.Text.{is_ascii_name}
use Rattle.fs_record.specs.Inodes.{Inode}
use Rattle.fs_record.specs.Entries.{Entry}
use Rattle.fs_record.specs.Attributes.{Body, Embedded, Streamed, Attribute}
use Rattle.fs_record.specs.Siblings.{Link}
use Rattle.fs_record.specs.Facts.{Fact}
use Rattle.fs_record.specs.StreamExtents.{is_extent_even, are_extents_ordered, is_extent_placed}
use Rattle.fs_record.specs.declared.extents.FileExt.{FileExt}
use Rattle.ext_ref.specs.Cover.{is_owned, is_covered}
use Rattle.ext_ref.specs.declared.range.NewRange.{NewRange}
use Rattle.view_rules.specs.Facts.{Facts}
use Rattle.view_rules.specs.Names.{is_entry_repeated, is_attribute_repeated, has_other_hash, has_other_ascii_hash}
use Rattle.view_rules.specs.Entries.{lacks_parent, lacks_inode, has_root, has_other_kind}
use Rattle.view_rules.specs.Directories.{is_misnamed, is_root_named, parent_at, Leads, low, up}
use Rattle.view_rules.specs.Counts.{has_other_children, has_other_links}
use Rattle.view_rules.specs.Siblings.{is_entry_lost, is_link_lost, is_map_lost, is_unmarked}
use Rattle.view_rules.specs.Extents.{is_disordered, is_misplaced, is_uncovered}
use Rattle.view_rules.specs.Inodes.{lacks_target, has_large_stream, has_large_body, lacks_owner}
use Rattle.view_rules.proofs.Ways.{trapped}

abbrev a : List ℕ
a = codes "a"

abbrev b : List ℕ
b = codes "b"

-- an inode without a stream, and one with a stream of a size
abbrev inode : ℕ → ℕ → ℕ → ℤ → Fact Inode
inode id kind parent links = record { id = id; what = record { parent = parent; private_id = id; links = links; bsd_flags = 0; mode = 4096 * kind; stream = None } }

abbrev sized : ℕ → ℕ → Fact Inode
sized id size = record { id = id; what = record { parent = 2; private_id = id; links = pos 1; bsd_flags = 0; mode = 4096 * 8; stream = Some (record { size = size; allocated = 0 }) } }

-- an entry of a directory
abbrev entry : ℕ → List ℕ → ℕ → ℕ → Option ℕ → Fact Entry
entry id name file kind sibling = record { id = id; what = record { name = name; hash = 7; file_id = file; kind = kind; sibling = sibling } }

-- an attribute of a file, a sibling link, a sibling map, and an extent of a stream
abbrev attribute : ℕ → List ℕ → Body → Fact Attribute
attribute id name body = record { id = id; what = record { name = name; body = body } }

abbrev link : ℕ → ℕ → ℕ → List ℕ → Fact Link
link file sibling parent name = record { id = file; what = record { file = file; sibling = sibling; parent = parent; name = name } }

abbrev sibling_map : ℕ → ℕ → Fact ℕ
sibling_map sibling file = record { id = sibling; what = file }

abbrev extent : ℕ → ℕ → ℕ → ℕ → Fact FileExt
extent id logical len block = record { id = id; what = record { logical = logical; length = len; block = block } }

abbrev range : ℕ → ℕ → NewRange
range first len = record { first = first; length = len; count = pos 1 }

-- facts of some kinds
abbrev files : List (Fact Inode) → List (Fact Entry) → Facts
files inodes entries = record { names = Exact; inodes = inodes; entries = entries; attributes = []; links = []; siblings = []; extents = [] }

abbrev twins : List (Fact Entry) → List (Fact Link) → List (Fact ℕ) → Facts
twins entries links siblings = record { names = Exact; inodes = []; entries = entries; attributes = []; links = links; siblings = siblings; extents = [] }

abbrev attributed : List (Fact Inode) → List (Fact Attribute) → Facts
attributed inodes attributes = record { names = Exact; inodes = inodes; entries = []; attributes = attributes; links = []; siblings = []; extents = [] }

abbrev streams : List (Fact FileExt) → Facts
streams extents = record { names = Exact; inodes = []; entries = []; attributes = []; links = []; siblings = []; extents = extents }

-- ---- names
-- a name twice in a directory, also of a reserved id; in another case, or in another directory, it is another
repeated : let es : List (Fact Entry) = entry 2 a 16 8 None ∷ entry 2 a 17 8 None ∷ entry 2 (codes "A") 18 8 None ∷ entry 16 a 18 8 None ∷ entry 5 b 2 4 None ∷ entry 5 b 2 4 None ∷ [] in
    map (is_entry_repeated (files [] es)) es ≡ true ∷ true ∷ false ∷ false ∷ true ∷ true ∷ []
unfolding is_entry_repeated
repeated = refl

repeated_attribute : let attributes : List (Fact Attribute) = attribute 16 a (Embedded []) ∷ attribute 17 a (Embedded []) ∷ attribute 16 a (Streamed 18 0) ∷ [] in
    map (is_attribute_repeated (attributed [] attributes)) attributes ≡ true ∷ false ∷ true ∷ []
unfolding is_attribute_repeated
repeated_attribute = refl

-- names that aren't hashed have no hash that could be another
unhashed : has_other_ascii_hash (files [] []) (entry 2 a 16 8 None) ≡ false
unfolding has_other_ascii_hash has_other_hash is_ascii_name
unhashed = refl

-- ---- entries
-- 16 is a file, so it is no parent; 19 isn't there; of the reserved 5 nothing is asked
orphans : let facts : Facts = files (inode 2 4 1 (pos 3) ∷ inode 16 8 2 (pos 1) ∷ []) [] in
    map (lacks_parent facts) (entry 2 a 16 8 None ∷ entry 16 a 16 8 None ∷ entry 19 a 16 8 None ∷ entry 3 a 16 8 None ∷ entry 5 a 16 8 None ∷ []) ≡ false ∷ true ∷ true ∷ true ∷ false ∷ []
unfolding lacks_parent
orphans = refl

-- an entry's file isn't there, or it is of another kind
absent : let facts : Facts = files (inode 2 4 1 (pos 3) ∷ inode 16 8 2 (pos 1) ∷ []) [] in
    map (lacks_inode facts) (entry 2 a 16 4 None ∷ entry 2 b 17 8 None ∷ entry 1 b 17 8 None ∷ []) ≡ false ∷ true ∷ false ∷ []
unfolding lacks_inode
absent = refl

other_kind : let facts : Facts = files (inode 2 4 1 (pos 3) ∷ inode 16 8 2 (pos 1) ∷ []) [] in
    map (has_other_kind facts) (entry 2 a 16 4 None ∷ entry 2 b 16 8 None ∷ entry 2 b 17 4 None ∷ entry 1 b 16 4 None ∷ []) ≡ true ∷ false ∷ false ∷ false ∷ []
unfolding has_other_kind
other_kind = refl

-- a root that is a file is none
no_root : has_root (files (inode 2 8 1 (pos 0) ∷ []) []) ≡ false
unfolding has_root
no_root = refl

-- ---- directories
-- one entry in the parent; one elsewhere; two; none; none that counts
misnamed : let inodes : List (Fact Inode) = inode 16 4 2 (pos 0) ∷ inode 17 4 16 (pos 0) ∷ inode 18 4 2 (pos 0) ∷ inode 19 4 2 (pos 0) ∷ inode 20 4 1 (pos 0) ∷ inode 3 4 1 (pos 0) ∷ [] in
    let es : List (Fact Entry) = entry 2 a 16 4 None ∷ entry 2 b 17 4 None ∷ entry 2 (codes "c") 18 4 None ∷ entry 16 a 18 4 None ∷ entry 1 a 20 4 None ∷ [] in
    map (is_misnamed (files inodes es)) inodes ≡ false ∷ true ∷ true ∷ true ∷ true ∷ false ∷ []
unfolding is_misnamed
misnamed = refl

-- two entries of a directory without siblings' ids are a lost sibling too
unmarked : let es : List (Fact Entry) = entry 2 a 18 4 None ∷ entry 16 a 18 4 (Some 20) ∷ entry 2 b 17 4 None ∷ entry 5 b 17 4 None ∷ [] in
    map (is_unmarked (files [] es)) es ≡ true ∷ false ∷ false ∷ false ∷ []
unfolding is_unmarked
unmarked = refl

-- the root's entry in 1 counts in no rule; one in 3 does
root_in_one : is_root_named (files [] (entry 1 (codes "root") 2 4 None ∷ [])) ≡ false
unfolding is_root_named
root_in_one = refl

root_in_three : is_root_named (files [] (entry 3 a 2 4 None ∷ [])) ≡ true
unfolding is_root_named
root_in_three = refl

-- parent ids lead through a file
abbrev through_file : Facts
through_file = files (inode 16 4 17 (pos 0) ∷ inode 17 8 2 (pos 1) ∷ []) []

leading : Leads (parent_at through_file) 16
leading = up 16 17 refl (up 17 2 refl (low 2 (omega arith)))

-- two directories that are each other's parents never lead out
abbrev ring : Facts
ring = files (inode 16 4 17 (pos 1) ∷ inode 17 4 16 (pos 1) ∷ []) []

goes_round : (id : ℕ) → In id (16 ∷ 17 ∷ []) → (16 ≤ id) × ((next : ℕ) → parent_at ring id ≡ Some next → In next (16 ∷ 17 ∷ []))
goes_round id (inl e) = (omega arith, λ next f. inr (inl (let q : ◌≡◌ {A = Option ℕ} (Some next) (Some 17) = sym f ∙ ap (parent_at ring) e in cc)))
goes_round id (inr (inl e)) = (omega arith, λ next f. inl (let q : ◌≡◌ {A = Option ℕ} (Some next) (Some 16) = sym f ∙ ap (parent_at ring) e in cc))
goes_round id (inr (inr h)) = absurd h

trapped_in : Leads (parent_at ring) 16 → ⊥
trapped_in = trapped (parent_at ring) (16 ∷ 17 ∷ []) goes_round 16 (inl refl)

-- a directory whose one entry stands in itself has that entry, and never leads out
abbrev own_parent : Facts
own_parent = files (inode 16 4 16 (pos 1) ∷ []) (entry 16 (codes "d") 16 4 None ∷ [])

own_entry : map (is_misnamed own_parent) own_parent.inodes ≡ false ∷ []
unfolding is_misnamed
own_entry = refl

goes_to_itself : (id : ℕ) → In id (16 ∷ []) → (16 ≤ id) × ((next : ℕ) → parent_at own_parent id ≡ Some next → In next (16 ∷ []))
goes_to_itself id (inl e) = (omega arith, λ next f. inl (let q : ◌≡◌ {A = Option ℕ} (Some next) (Some 16) = sym f ∙ ap (parent_at own_parent) e in cc))
goes_to_itself id (inr h) = absurd h

never_out : Leads (parent_at own_parent) 16 → ⊥
never_out = trapped (parent_at own_parent) (16 ∷ []) goes_to_itself 16 (inl refl)

-- ---- counts
-- 3 isn't counted; a negative number is none that fits
children : let inodes : List (Fact Inode) = inode 2 4 1 (pos 1) ∷ inode 3 4 1 (pos 7) ∷ inode 16 4 2 (pos 1) ∷ inode 17 4 2 (negsuc 0) ∷ inode 18 8 2 (pos 5) ∷ [] in
    map (has_other_children (files inodes (entry 2 a 16 4 None ∷ []))) inodes ≡ false ∷ false ∷ true ∷ true ∷ false ∷ []
unfolding has_other_children
children = refl

-- two links and one entry; an entry in 5 or in 3 frees a file, and so does none at all
links : let inodes : List (Fact Inode) = inode 16 8 2 (pos 2) ∷ inode 17 8 2 (pos 2) ∷ inode 18 8 2 (pos 2) ∷ inode 19 8 2 (pos 2) ∷ inode 20 10 2 (pos 2) ∷ [] in
    let es : List (Fact Entry) = entry 2 a 16 8 None ∷ entry 2 b 17 8 None ∷ entry 5 b 17 8 None ∷ entry 3 b 18 8 None ∷ entry 2 (codes "c") 20 10 None ∷ [] in
    map (has_other_links (files inodes es)) inodes ≡ true ∷ false ∷ false ∷ false ∷ false ∷ []
unfolding has_other_links
links = refl

-- ---- siblings
-- a file of two names with its links and its maps
abbrev pair_of_names : List (Fact Entry)
pair_of_names = entry 2 a 16 8 (Some 17) ∷ entry 2 b 16 8 (Some 18) ∷ []

abbrev both_maps : List (Fact ℕ)
both_maps = sibling_map 17 16 ∷ sibling_map 18 16 ∷ []

whole_entries : map (is_entry_lost (twins pair_of_names (link 16 17 2 a ∷ link 16 18 2 b ∷ []) both_maps)) pair_of_names ≡ false ∷ false ∷ []
unfolding is_entry_lost
whole_entries = refl

-- one link is missing: its entry and its map lack a fellow
lone_entry : map (is_entry_lost (twins pair_of_names (link 16 17 2 a ∷ []) both_maps)) pair_of_names ≡ false ∷ true ∷ []
unfolding is_entry_lost
lone_entry = refl

lone_map : map (is_map_lost (twins pair_of_names (link 16 17 2 a ∷ []) both_maps)) both_maps ≡ false ∷ true ∷ []
unfolding is_map_lost
lone_map = refl

-- a link of another name or of another parent has no entry; one whose parent is 3 or reserved needs none
lone_links : let ls : List (Fact Link) = link 16 17 2 a ∷ link 16 18 2 a ∷ link 16 18 20 b ∷ link 16 18 3 b ∷ link 16 18 5 b ∷ [] in
    map (is_link_lost (twins pair_of_names ls both_maps)) ls ≡ false ∷ true ∷ true ∷ false ∷ false ∷ []
unfolding is_link_lost
lone_links = refl

-- an entry of 3 needs no fellow, and stands for its map; an entry of 5 doesn't
private_entry : let es : List (Fact Entry) = entry 3 a 16 8 (Some 17) ∷ entry 5 b 16 8 (Some 18) ∷ [] in
    map (is_map_lost (twins es [] both_maps)) both_maps ≡ false ∷ true ∷ []
unfolding is_map_lost
private_entry = refl

-- of the entries of 3, of 5 and of 2 without fellows the last is lost
system_entries : let es : List (Fact Entry) = entry 3 a 16 8 (Some 17) ∷ entry 5 b 16 8 (Some 18) ∷ entry 2 a 16 8 (Some 19) ∷ [] in
    map (is_entry_lost (twins es [] [])) es ≡ false ∷ false ∷ true ∷ []
unfolding is_entry_lost
system_entries = refl

-- a link whose parent is 3 or reserved stands for its map; one of another file doesn't
system_links : let maps : List (Fact ℕ) = sibling_map 19 16 ∷ both_maps in
    map (is_map_lost (twins [] (link 16 17 3 a ∷ link 16 18 5 b ∷ link 20 19 3 b ∷ []) maps)) maps ≡ true ∷ false ∷ false ∷ []
unfolding is_map_lost
system_links = refl

-- ---- extents
-- an end at 2^63, and one beyond it; no length; a part of a block; two that overlap; two that meet
ordered : map (is_disordered 4096 (streams (extent 16 0 4096 57 ∷ extent 16 (2 ^ 63 - 4096) 4096 0 ∷ extent 17 (2 ^ 63 - 4096) 8192 0 ∷ extent 18 0 0 57 ∷ extent 19 0 100 57 ∷ extent 20 0 8192 57 ∷ extent 20 4096 4096 57 ∷ extent 21 4096 4096 57 ∷ extent 21 0 4096 60 ∷ [])))
    (extent 16 0 4096 57 ∷ extent 17 0 0 0 ∷ extent 18 0 0 0 ∷ extent 19 0 0 0 ∷ extent 20 0 0 0 ∷ extent 21 0 0 0 ∷ []) ≡ false ∷ true ∷ true ∷ true ∷ true ∷ false ∷ []
unfolding is_disordered are_extents_ordered is_extent_even
ordered = refl

-- in a container of 256 blocks: the last block, one beyond it, a hole, and a negative block
placed : map (is_misplaced 4096 256) (extent 16 0 4096 255 ∷ extent 16 0 8192 255 ∷ extent 16 0 8192 0 ∷ extent 16 0 4096 (2 ^ 63) ∷ []) ≡ false ∷ true ∷ false ∷ true ∷ []
unfolding is_misplaced is_extent_placed
placed = refl

-- two ranges cover an extent together; a hole needs none
covered : map (is_uncovered 4096 (range 60 1 ∷ range 57 3 ∷ [])) (extent 16 0 16384 57 ∷ extent 16 0 8192 60 ∷ extent 16 0 8192 0 ∷ []) ≡ false ∷ true ∷ false ∷ []
unfolding is_uncovered is_covered is_owned
covered = refl

-- ---- inodes
-- a target of two bytes; one byte; two zeros; a target in a stream; one of another name; one of another file
targets : let symlink : ℕ → Body → Fact Attribute = λ id body. attribute id (codes "com.apple.fs.symlink") body in
    let inodes : List (Fact Inode) = inode 16 10 2 (pos 1) ∷ inode 17 10 2 (pos 1) ∷ inode 18 10 2 (pos 1) ∷ inode 19 10 2 (pos 1) ∷ inode 20 10 2 (pos 1) ∷ inode 21 10 2 (pos 1) ∷ inode 22 8 2 (pos 1) ∷ [] in
    let attributes : List (Fact Attribute) = symlink 16 (Embedded (97 ∷ 0 ∷ [])) ∷ symlink 17 (Embedded (0 ∷ [])) ∷ symlink 18 (Embedded (97 ∷ 0 ∷ 98 ∷ 0 ∷ [])) ∷ symlink 19 (Streamed 30 2) ∷ attribute 20 a (Embedded (97 ∷ 0 ∷ [])) ∷ [] in
    map (lacks_target (attributed inodes attributes)) inodes ≡ false ∷ true ∷ true ∷ true ∷ true ∷ true ∷ false ∷ []
unfolding lacks_target
targets = refl

sizes : map has_large_stream (inode 16 8 2 (pos 1) ∷ sized 17 (2 ^ 63 - 1) ∷ sized 18 (2 ^ 63) ∷ []) ≡ false ∷ false ∷ true ∷ []
unfolding has_large_stream
sizes = refl

body_sizes : map has_large_body (attribute 16 a (Embedded []) ∷ attribute 16 a (Streamed 17 (2 ^ 63 - 1)) ∷ attribute 16 a (Streamed 17 (2 ^ 63)) ∷ []) ≡ false ∷ false ∷ true ∷ []
unfolding has_large_body
body_sizes = refl

-- an attribute of a reserved id needs an inode too
owners : map (lacks_owner (attributed (inode 16 8 2 (pos 1) ∷ []) [])) (attribute 16 a (Embedded []) ∷ attribute 5 a (Embedded []) ∷ []) ≡ false ∷ true ∷ []
unfolding lacks_owner
owners = refl
