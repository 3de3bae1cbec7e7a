-- What is told of some items and one more.
use Rattle.std.proofs.Common.{◌≡◌, ℕ, suc, ◌+◌, Bool, true, false, cond, List, [], ◌∷◌, ◌++◌, length, Option, Some, None, refl, ap, sym, ◌∙◌, arith, append-nil}
use Rattle.std.specs.Prelude.{sum_by}
use Rattle.std.specs.List.{cons_option}
use Rattle.std.proofs.lemmas.List.Sums.{sum_by_push}
use Rattle.apfs_model.specs.Counts.{given}
use Rattle.view_rules.specs.Facts.{Facts}
use Rattle.blk_folder.specs.Items.{Item, directory_at, file_at, byte_count}
use Rattle.tree_export.specs.Exported.{Wanted, put_for, put_all, is_left_out}
use Rattle.tree_export.specs.Done.{is_file, is_folder, directory_count, file_count, byte_sum, left_out_from, left_out, IsDoneFor}
use Rattle.tree_export.specs.Parts.{IsPut, TellsMore}
use Rattle.tree_export.specs.declared.putting.Put.{Put}
use Rattle.tree_export.specs.declared.putting.Put.TheVariants as puts
use Rattle.tree_export.specs.declared.told.Done.{Done}
use Rattle.tree_export.proofs.Fills.{put_append, put_one}
use Rattle.tree_export.proofs.Contents.{left_test}

given-more : (a n : ℕ) → given (given a + n) ≡ given (a + n)
given-more a n = omega arith

-- ---- sums of items and one more, or none
sum-given : (f : Item → ℕ) (items : List Item) (item : Item) (n m : ℕ) → n ≡ given (sum_by f items) → m ≡ f item → given (n + m) ≡ given (sum_by f (items ++ item ∷ []))
sum-given f items item n m e same =
    ap (λ k. given (k + m)) e ∙ (given-more (sum_by f items) m ∙ (ap (λ k. given (sum_by f items + k)) same ∙ ap given (sym (sum_by_push f items item))))

same-sum : (f : Item → ℕ) (items : List Item) (item : Item) (n : ℕ) → n ≡ given (sum_by f items) → 0 ≡ f item → n ≡ given (sum_by f (items ++ item ∷ []))
same-sum f items item n e none =
    e ∙ (let h : given (sum_by f items) ≡ given (sum_by f items + 0) = omega arith in h ∙ (ap (λ k. given (sum_by f items + k)) none ∙ ap given (sym (sum_by_push f items item))))

-- ---- places
left-if : (n m : ℕ) (b : Bool) (xs ys rest : List ℕ) → xs ≡ ys ++ rest → cond b (n ∷ xs) xs ≡ cond b (n ∷ ys) ys ++ rest
left-if n m true xs ys rest e = ap (λ (l : List ℕ). n ∷ l) e
left-if n m false xs ys rest e = e

place-same : (n m : ℕ) (b : Bool) → n ≡ m → cond b (n ∷ []) [] ≡ cond b (m ∷ []) []
place-same n m b e = ap (λ k. cond b (k ∷ []) []) e

left-more : (facts : Facts) (n : ℕ) (items : List Wanted) (item : Wanted) → left_out_from facts n (items ++ item ∷ []) ≡ left_out_from facts n items ++ cond (is_left_out facts item) ((n + length items) ∷ []) []
left-more facts n [] item = place-same n (n + 0) (is_left_out facts item) (omega arith)
left-more facts n (first ∷ items) item =
    left-if n 0 (is_left_out facts first) (left_out_from facts (suc n) (items ++ item ∷ [])) (left_out_from facts (suc n) items) (cond (is_left_out facts item) ((n + length (first ∷ items)) ∷ []) [])
    (left-more facts (suc n) items item ∙ ap (λ (l : List ℕ). left_out_from facts (suc n) items ++ l) (place-same (suc n + length items) (n + length (first ∷ items)) (is_left_out facts item) (omega arith)))

left-on : (facts : Facts) (items : List Wanted) (item : Wanted) (b : Bool) (old new : List ℕ) → is_left_out facts item ≡ b → old ≡ left_out facts items → new ≡ old ++ cond b (length items ∷ []) [] → new ≡ left_out facts (items ++ item ∷ [])
left-on facts items item b old new test e more =
    more ∙ (ap (λ (l : List ℕ). l ++ cond b (length items ∷ []) []) e ∙ (ap (λ t. left_out facts items ++ cond t (length items ∷ []) []) (sym test) ∙ (ap (λ (l : List ℕ). left_out facts items ++ l) (place-same (length items) (0 + length items) (is_left_out facts item) (omega arith)) ∙ sym (left-more facts 0 items item))))

-- ---- one more item
put-some : (block_size : ℕ) (image : List ℕ) (facts : Facts) (items : List Wanted) (item : Wanted) (put : Item) → put_for block_size image facts item ≡ Some put → put_all block_size image facts (items ++ item ∷ []) ≡ put_all block_size image facts items ++ put ∷ []
put-some block_size image facts items item put e =
    put_append block_size image facts items (item ∷ []) ∙ ap (λ (l : List Item). put_all block_size image facts items ++ l) (put_one block_size image facts item ∙ ap (λ (o : Option Item). cons_option o []) e)

put-none : (block_size : ℕ) (image : List ℕ) (facts : Facts) (items : List Wanted) (item : Wanted) → put_for block_size image facts item ≡ None → put_all block_size image facts (items ++ item ∷ []) ≡ put_all block_size image facts items
put-none block_size image facts items item e =
    put_append block_size image facts items (item ∷ []) ∙ (ap (λ (l : List Item). put_all block_size image facts items ++ l) (put_one block_size image facts item ∙ ap (λ (o : Option Item). cons_option o []) e) ∙ append-nil (put_all block_size image facts items))

pub done_more : (block_size : ℕ) (image : List ℕ) (facts : Facts) (items : List Wanted) (item : Wanted) (put : Put) (old new : Done) →
    IsDoneFor block_size image facts items old → IsPut (put_for block_size image facts item) put → TellsMore old (length items) put new → IsDoneFor block_size image facts (items ++ item ∷ []) new
done_more block_size image facts items item puts.Directory old new done is more =
    let before : List Item = put_all block_size image facts items in
    let last : Item = directory_at is.0 in
    let all = put-some block_size image facts items item last is.1 in
    let test = left_test block_size image facts item (Some last) is.1 in
    record {
      directories = more.0 ∙ (sum-given (λ (i : Item). cond (is_folder i.held) 1 0) before last old.directories 1 done.directories refl ∙ ap directory_count (sym all));
      files = more.1 ∙ (same-sum (λ (i : Item). cond (is_file i.held) 1 0) before last old.files done.files refl ∙ ap file_count (sym all));
      bytes = more.2 ∙ (same-sum (λ (i : Item). byte_count i.held) before last old.bytes done.bytes refl ∙ ap byte_sum (sym all));
      skipped = left-on facts items item false old.skipped.items new.skipped.items test done.skipped (more.3 ∙ sym (append-nil old.skipped.items));
    }
done_more block_size image facts items item (puts.File count) old new done is more =
    let before : List Item = put_all block_size image facts items in
    let last : Item = file_at is.0 is.1 in
    let all = put-some block_size image facts items item last is.2 in
    let test = left_test block_size image facts item (Some last) is.2 in
    record {
      directories = more.0 ∙ (same-sum (λ (i : Item). cond (is_folder i.held) 1 0) before last old.directories done.directories refl ∙ ap directory_count (sym all));
      files = more.1 ∙ (sum-given (λ (i : Item). cond (is_file i.held) 1 0) before last old.files 1 done.files refl ∙ ap file_count (sym all));
      bytes = more.2 ∙ (sum-given (λ (i : Item). byte_count i.held) before last old.bytes count done.bytes (sym is.3) ∙ ap byte_sum (sym all));
      skipped = left-on facts items item false old.skipped.items new.skipped.items test done.skipped (more.3 ∙ sym (append-nil old.skipped.items));
    }
done_more block_size image facts items item puts.Nothing old new done is more =
    let all = put-none block_size image facts items item is in
    let test = left_test block_size image facts item None is in
    record {
      directories = more.0 ∙ (done.directories ∙ ap directory_count (sym all));
      files = more.1 ∙ (done.files ∙ ap file_count (sym all));
      bytes = more.2 ∙ (done.bytes ∙ ap byte_sum (sym all));
      skipped = left-on facts items item true old.skipped.items new.skipped.items test done.skipped more.3;
    }

-- nothing is told of no items
pub done_none : (block_size : ℕ) (image : List ℕ) (facts : Facts) (done : Done) → done.directories ≡ 0 → done.files ≡ 0 → done.bytes ≡ 0 → done.skipped.items ≡ [] → IsDoneFor block_size image facts [] done
unfolding put_all
done_none block_size image facts done directories files bytes skipped = record { directories = directories; files = files; bytes = bytes; skipped = skipped }
