-- The items at the places that are told, and the text of what is told.
use Rattle.std.proofs.Common.{◌≡◌, ℕ, suc, ◌+◌, Bool, true, false, cond, List, [], ◌∷◌, ◌++◌, length, Option, Some, refl, ap, ap₂, sym, ◌∙◌, append_assoc}
use Rattle.std.specs.Prelude.{filter, filter_map, slice_get, map, Result, Ok, Err}
use Rattle.std.specs.List.{cons_option, flat_map}
use Rattle.apfs_model.specs.Lists.{through, value_of}
use Rattle.view_rules.specs.Facts.{Facts}
use Rattle.path_search.specs.Places.{root_name}
use Rattle.path_search.specs.declared.answer.Answer.{Answer}
use Rattle.path_search.specs.declared.target.Target.{Target}
use Rattle.view_tree.specs.Tree.{tree}
use Rattle.tree_export.specs.Exported.{Wanted, item_of, put_all, items_in, exported, skipped, is_left_out}
use Rattle.tree_export.specs.Done.{left_out_from, left_out, directory_count, file_count, byte_sum, IsDoneFor}
use Rattle.tree_export.specs.Texts.{skipped_text, done_text, export_text}
use Rattle.tree_export.specs.declared.told.Done.{Done}

-- what stands after the items before a place
get-at : (before items : List Wanted) (item : Wanted) → slice_get (before ++ item ∷ items) (length before) ≡ Some item
get-at [] items item = refl
get-at (first ∷ before) items item = get-at before items item

length-more : (before : List Wanted) (item : Wanted) → length (before ++ item ∷ []) ≡ suc (length before)
length-more [] item = refl
length-more (first ∷ before) item = ap suc (length-more before item)

-- the item at a place, where it is one of them, and those at later ones
place-if : (facts : Facts) (before items : List Wanted) (item : Wanted) (b : Bool) (later : List ℕ) → filter_map (slice_get (before ++ item ∷ items)) later ≡ filter (is_left_out facts) items →
    filter_map (slice_get (before ++ item ∷ items)) (cond b (length before ∷ later) later) ≡ cond b (item ∷ filter (is_left_out facts) items) (filter (is_left_out facts) items)
place-if facts before items item true later e =
    ap (λ (o : Option Wanted). cons_option o (filter_map (slice_get (before ++ item ∷ items)) later)) (get-at before items item) ∙ ap (λ (l : List Wanted). item ∷ l) e
place-if facts before items item false later e = e

-- the items at the places from a number on
from-place : (facts : Facts) (before items : List Wanted) → filter_map (slice_get (before ++ items)) (left_out_from facts (length before) items) ≡ filter (is_left_out facts) items
from-place facts before [] = refl
from-place facts before (item ∷ items) =
    place-if facts before items item (is_left_out facts item) (left_out_from facts (suc (length before)) items)
    (ap₂ (λ (l : List Wanted) (n : ℕ). filter_map (slice_get l) (left_out_from facts n items)) (sym (append_assoc before (item ∷ []) items)) (sym (length-more before item))
    ∙ from-place facts (before ++ item ∷ []) items)

-- the items at the places of those for which nothing is put
pub left_items : (facts : Facts) (items : List Wanted) → filter_map (slice_get items) (left_out facts items) ≡ filter (is_left_out facts) items
left_items facts items = from-place facts [] items

-- of a view these are the skipped ones
skipped-items : (facts : Facts) (items : List Wanted) → items ≡ items_in facts → filter_map (slice_get items) (left_out facts items) ≡ skipped facts
unfolding skipped
skipped-items facts items same = left_items facts items ∙ ap (filter (is_left_out facts)) same

exported-items : (block_size : ℕ) (image : List ℕ) (facts : Facts) (items : List Wanted) → items ≡ items_in facts → put_all block_size image facts items ≡ exported block_size image facts
unfolding exported
exported-items block_size image facts items same = ap (put_all block_size image facts) same

-- the text of what is told of a view
pub told_text : (block_size : ℕ) (image : List ℕ) (facts : Facts) (items : List Wanted) (done : Done) → items ≡ items_in facts → IsDoneFor block_size image facts items done →
    flat_map skipped_text (filter_map (slice_get items) done.skipped.items) ++ done_text done.directories done.files done.bytes ≡ export_text (exported block_size image facts) (skipped facts)
told_text block_size image facts items done same is =
    let put = exported-items block_size image facts items same in
    ap (λ (l : List ℕ). flat_map skipped_text (filter_map (slice_get items) l) ++ done_text done.directories done.files done.bytes) is.skipped
    ∙ (ap (λ (l : List Wanted). flat_map skipped_text l ++ done_text done.directories done.files done.bytes) (skipped-items facts items same)
    ∙ (ap (λ n. flat_map skipped_text (skipped facts) ++ done_text n done.files done.bytes) (is.directories ∙ ap directory_count put)
    ∙ (ap (λ n. flat_map skipped_text (skipped facts) ++ done_text (directory_count (exported block_size image facts)) n done.bytes) (is.files ∙ ap file_count put)
    ∙ ap (λ n. flat_map skipped_text (skipped facts) ++ done_text (directory_count (exported block_size image facts)) (file_count (exported block_size image facts)) n) (is.bytes ∙ ap byte_sum put))))

-- the items of a view are those of the rows of its root's tree, where there is one
tree-items : (facts : Facts) (result : Result (List (List ℕ × Target)) Answer) → tree facts root_name ≡ result → map item_of (through (value_of result) (λ rows. rows)) ≡ items_in facts
unfolding items_in
tree-items facts result e = sym (ap (λ (r : Result (List (List ℕ × Target)) Answer). map item_of (through (value_of r) (λ rows. rows))) e)

pub rows_items : (facts : Facts) (rows : List (List ℕ × Target)) → tree facts root_name ≡ Ok rows → map item_of rows ≡ items_in facts
rows_items facts rows e = tree-items facts (Ok rows) e

-- and otherwise there are none
pub no_items : (facts : Facts) (answer : Answer) → tree facts root_name ≡ Err answer → [] ≡ items_in facts
no_items facts answer e = tree-items facts (Err answer) e
