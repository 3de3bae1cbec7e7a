-- What the command `export` writes.
use Rattle.std.specs.Prelude.{ℕ, ◌++◌, List, codes}
use Rattle.std.specs.Fmt.{decimal}
use Rattle.std.specs.List.{flat_map}
use Rattle.path_search.specs.Texts.{kind_text}
use Rattle.blk_folder.specs.Items.{Item}
use Rattle.tree_export.specs.Safe.{safe_path}
use Rattle.tree_export.specs.Exported.{Wanted}
use Rattle.tree_export.specs.Done.{directory_count, file_count, byte_sum}

-- the line of an item for which nothing is put: its kind, and its path as a folder would have it
abbrev pub skipped_text : Wanted → List ℕ
skipped_text item = codes "skipped " ++ (kind_text item.kind ++ (codes " " ++ (safe_path item.path ++ codes "\n")))

-- how many directories were put, how many files, and how many bytes these have
abbrev pub done_text : ℕ → ℕ → ℕ → List ℕ
done_text directories files bytes =
    codes "exported " ++ (decimal directories ++ (codes " directories " ++ (decimal files ++ (codes " files " ++ (decimal bytes ++ codes " bytes\n")))))

-- a line for each item for which nothing is put, and one of what was
abbrev pub export_text : List Item → List Wanted → List ℕ
export_text items skipped = flat_map skipped_text skipped ++ done_text (directory_count items) (file_count items) (byte_sum items)
