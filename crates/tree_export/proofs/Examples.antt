-- Some paths, what is written of them, and what a folder gets of a small list of facts.
use Rattle.std.proofs.Common.{◌≡◌, ℕ, List, [], ◌∷◌, inr, refl, lit<}
use Rattle.std.specs.Prelude.{codes}
use Rattle.std.specs.Fmt.{digits}
use Rattle.std.proofs.lemmas.List.Elements.{All-nil, All-cons}
use Rattle.apfs_model.specs.Blocks.{block_of}
use Rattle.file_extent.specs.Streams.{stream_bytes, byte_of, byte_in}
use Rattle.blk_folder.specs.Items.{Item, directory_at, file_at, IsFront}
use Rattle.view_rules.specs.Facts.{Facts}
use Rattle.path_search.specs.Paths.{components}
use Rattle.path_search.specs.Found.{entries_in, entry_named, found}
use Rattle.path_search.specs.Listing.{children}
use Rattle.path_search.specs.Texts.{kind_text}
use Rattle.path_search.proofs.Examples.{inode, file, entry, extent, view}
use Rattle.view_tree.specs.Tree.{rows_under, rows_below}
use Rattle.path_read.specs.Contents.{readable}
use Rattle.tree_export.specs.Safe.{IsSafePart, IsSafe, AreSafe, safe_path}
use Rattle.tree_export.specs.Exported.{put_by, put_all, items_in, exported, skipped}
use Rattle.tree_export.specs.Texts.{export_text}
use Rattle.tree_export.proofs.Safes.{safe_late}

-- ---- paths
-- a name stays in the folder, and so do two names one under the other
one_stays : IsSafe (codes "d")
one_stays = All-cons IsSafePart (codes "d") [] (safe_late (codes "d") refl refl refl refl) (All-nil IsSafePart)

stays : IsSafe (codes "d/f")
stays = All-cons IsSafePart (codes "d") (codes "f" ∷ []) (safe_late (codes "d") refl refl refl refl) (All-cons IsSafePart (codes "f") [] (safe_late (codes "f") refl refl refl refl) (All-nil IsSafePart))

-- a path over the parent doesn't, nor does the system's root, nor a path without a name
leaves : IsSafe (codes "d/../../f") → ⊥
leaves safe = (safe 1 [] (lit< tt)).no_dots refl

root : IsSafe (codes "/f") → ⊥
root safe = (safe 0 [] (lit< tt)).some refl

nameless : IsSafe [] → ⊥
nameless safe = (safe 0 [] (lit< tt)).some refl

-- what is written of them, and of a name with a zero byte
written : safe_path (codes "./../.../f") ≡ codes "\\x2e/\\x2e\\x2e/.../f"
unfolding safe_path
written = refl

empty : safe_path (codes "/f") ≡ codes "\\x/f"
unfolding safe_path
empty = refl

zero : safe_path (0x61 ∷ 0 ∷ 0x62 ∷ []) ≡ codes "a\\x00b"
unfolding safe_path
zero = refl

-- ---- items: a directory with a file stays in the folder; it doesn't where the file would lie beside it
abbrev of_item : Item → Type 0
of_item item = IsSafe item.path

pub both_stay : AreSafe (directory_at (codes "d") ∷ file_at (codes "d/f") (codes "hello") ∷ [])
both_stay = All-cons of_item (directory_at (codes "d")) (file_at (codes "d/f") (codes "hello") ∷ []) one_stays (All-cons of_item (file_at (codes "d/f") (codes "hello")) [] stays (All-nil of_item))

one_leaves : AreSafe (directory_at (codes "d") ∷ file_at (codes "d/../../f") (codes "hello") ∷ []) → ⊥
one_leaves safe = leaves (safe 1 (directory_at (codes "d")) (lit< tt))

-- ---- a directory with a file of five bytes, a compressed file, and a link, of an image with blocks of 4 bytes
abbrev image : List ℕ
image = 0 ∷ 0 ∷ 0 ∷ 0 ∷ codes "hello..."

abbrev small : Facts
small = view (inode 16 4 0 ∷ file 17 20 5 0 ∷ file 18 21 9 0x20 ∷ inode 19 10 0 ∷ [])
    (entry 2 (codes "d") 16 ∷ entry 16 (codes "f") 17 ∷ entry 2 (codes "c") 18 ∷ entry 2 (codes "l") 19 ∷ []) [] (extent 20 0 8 1 ∷ [])

gets : exported 4 image small ≡ directory_at (codes "d") ∷ file_at (codes "d/f") (codes "hello") ∷ []
unfolding components entries_in entry_named found children rows_under rows_below readable stream_bytes byte_of byte_in block_of safe_path put_by put_all items_in exported
gets = refl

leaves_out : export_text (exported 4 image small) (skipped small) ≡ codes "skipped - c\nskipped l l\nexported 1 directories 1 files 5 bytes\n"
unfolding components entries_in entry_named found children kind_text rows_under rows_below readable stream_bytes byte_of byte_in block_of safe_path put_by put_all items_in exported skipped digits
leaves_out = refl

-- ---- where a put failed in the middle of the file
begun : IsFront (directory_at (codes "d") ∷ file_at (codes "d/f") (codes "he") ∷ []) (directory_at (codes "d") ∷ file_at (codes "d/f") (codes "hello") ∷ directory_at (codes "e") ∷ [])
begun = record {
  whole = directory_at (codes "d") ∷ [];
  rest = file_at (codes "d/f") (codes "hello") ∷ directory_at (codes "e") ∷ [];
  split = refl;
  end = inr (codes "d/f", codes "he", record { bytes = codes "hello"; later = directory_at (codes "e") ∷ []; first = refl; left = codes "llo"; split = refl }, refl);
}
