-- What is told of a folder that was filled.
use Rattle.std.specs.Prelude.{◌≡◌, ℕ, suc, Bool, true, false, List, [], ◌∷◌, count_by, sum_by, if◌then◌else◌}
use Rattle.apfs_model.specs.Counts.{given}
use Rattle.view_rules.specs.Facts.{Facts}
use Rattle.blk_folder.specs.Items.{Item, Held, Directory, File, byte_count}
use Rattle.tree_export.specs.Exported.{Wanted, put_all, is_left_out}
use Rattle.tree_export.specs.declared.told.Done.{Done}

abbrev pub is_file : Held → Bool
is_file Directory = false
is_file (File bytes) = true

abbrev pub is_folder : Held → Bool
is_folder Directory = true
is_folder (File bytes) = false

-- how many directories some items are, how many files, and how many bytes these have
abbrev pub directory_count : List Item → ℕ
directory_count items = given (count_by (λ (i : Item). is_folder i.held) items)

abbrev pub file_count : List Item → ℕ
file_count items = given (count_by (λ (i : Item). is_file i.held) items)

abbrev pub byte_sum : List Item → ℕ
byte_sum items = given (sum_by (λ (i : Item). byte_count i.held) items)

-- the places, counted from n, of the items for which nothing is put
abbrev pub left_out_from : Facts → ℕ → List Wanted → List ℕ
left_out_from facts n [] = []
left_out_from facts n (item ∷ items) = if is_left_out facts item then n ∷ left_out_from facts (suc n) items else left_out_from facts (suc n) items

abbrev pub left_out : Facts → List Wanted → List ℕ
left_out facts items = left_out_from facts 0 items

-- this is what is told of some items
pub record IsDoneFor (block_size : ℕ) (image : List ℕ) (facts : Facts) (items : List Wanted) (done : Done) : Type 0 where
  pub directories : done.directories ≡ directory_count (put_all block_size image facts items)
  pub files : done.files ≡ file_count (put_all block_size image facts items)
  pub bytes : done.bytes ≡ byte_sum (put_all block_size image facts items)
  pub skipped : done.skipped.items ≡ left_out facts items
