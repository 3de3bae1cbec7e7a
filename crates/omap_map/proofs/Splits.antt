-- The latest record of an id, where the records are split by an id and a transaction.
use Rattle.std.specs.Prelude.{◌≡◌, ◌⊎◌, ℕ, ◌+◌, ◌-◌, ◌<◌, ◌≤◌, ◌==◌, Bool, true, false, cond, List, [], ◌∷◌, ◌++◌, length, take, drop, slice_index_or, filter, None, Some}
use Rattle.std.proofs.Common.{arith, ap, sym, ◌∙◌, subst, inl, inr, append-nil}
use Rattle.std.specs.List.Sorted.{IsPartitionPoint, IsPartitionedBy}
use Rattle.std.proofs.lemmas.Grind.{common_steps}
use Rattle.std.proofs.lemmas.Bool.{cases_lt}
use Rattle.std.proofs.lemmas.List.{take-append-drop, drop_more, length-take, length-drop, get_or-take, get_or-drop, get_or_read}
use Rattle.std.proofs.lemmas.List.Elements.{filter-append}
use Rattle.apfs_model.specs.Lists.{In, greatest}
use Rattle.omap_map.specs.Loading.{is_before, IsAscending}
use Rattle.omap_map.specs.Resolve.{is_for, latest}
use Rattle.omap_map.specs.Search.{is_by}
use Rattle.omap_map.specs.declared.records.OmapRecord.{OmapRecord}
use Rattle.omap_map.proofs.Lists.{all-in, filter-in, filter-none, greatest-last}

for-by : (oid x : ℕ) (s : OmapRecord) → is_by oid x s ≡ false → is_for oid x s ≡ false
for-by oid x s e = grind (arith, common_steps)

by-for : (oid x : ℕ) (r : OmapRecord) → is_by oid x r ≡ true → r.oid ≡ oid → is_for oid x r ≡ true
by-for oid x r e f = grind (arith, common_steps)

other-for : (oid x : ℕ) (r s : OmapRecord) → is_by oid x r ≡ true → (r.oid == oid) ≡ false → is_before s r ≡ true → is_for oid x s ≡ false
other-for oid x r s e f h = grind (arith, common_steps)

other-last : (oid x : ℕ) (r : OmapRecord) → (r.oid == oid) ≡ false → is_for oid x r ≡ false
other-last oid x r f = grind (arith, common_steps)

same-below : (oid x : ℕ) (r s : OmapRecord) → r.oid ≡ oid → is_for oid x s ≡ true → is_before s r ≡ true → s.xid < r.xid
same-below oid x r s e f h = grind (arith, common_steps)

-- the records up to the last by the id and the transaction: those before it, and the last
pub record IsUpTo (oid x : ℕ) (front : List OmapRecord) (last : OmapRecord) (back : List OmapRecord) : Type 0 where
  pub below : (s : OmapRecord) → In s front → is_before s last ≡ true
  pub by : is_by oid x last ≡ true
  pub past : (s : OmapRecord) → In s back → is_by oid x s ≡ false

kept-front : (oid x : ℕ) (front : List OmapRecord) (last : OmapRecord) (back : List OmapRecord) → IsUpTo oid x front last back → filter (is_for oid x) (front ++ last ∷ back) ≡ filter (is_for oid x) front ++ filter (is_for oid x) (last ∷ [])
kept-front oid x front last back split =
    let none : filter (is_for oid x) back ≡ [] = filter-none (is_for oid x) back (λ s h. for-by oid x s (split.past s h)) in
    filter-append (is_for oid x) front (last ∷ back)
    ∙ ap (λ (kept : List OmapRecord). filter (is_for oid x) front ++ cond (is_for oid x last) (last ∷ kept) kept) none

latest-same : (oid x : ℕ) (front : List OmapRecord) (last : OmapRecord) (back : List OmapRecord) → IsUpTo oid x front last back → last.oid ≡ oid → latest (front ++ last ∷ back) oid x ≡ Some last
unfolding latest
latest-same oid x front last back split e =
    let one : is_for oid x last ≡ true = by-for oid x last split.by e in
    ap (greatest (λ (s : OmapRecord). s.xid)) (kept-front oid x front last back split
    ∙ ap (λ (b : Bool). filter (is_for oid x) front ++ cond b (last ∷ []) []) one)
    ∙ greatest-last (λ (s : OmapRecord). s.xid) (filter (is_for oid x) front) last (λ s h. let f = filter-in (is_for oid x) front s h in same-below oid x last s e f.1 (split.below s f.0))

latest-other : (oid x : ℕ) (front : List OmapRecord) (last : OmapRecord) (back : List OmapRecord) → IsUpTo oid x front last back → (last.oid == oid) ≡ false → latest (front ++ last ∷ back) oid x ≡ None
unfolding latest
latest-other oid x front last back split e =
    let none : filter (is_for oid x) front ≡ [] = filter-none (is_for oid x) front (λ s h. other-for oid x last s split.by e (split.below s h)) in
    ap (greatest (λ (s : OmapRecord). s.xid)) (kept-front oid x front last back split
    ∙ (ap (λ (b : Bool). filter (is_for oid x) front ++ cond b (last ∷ []) []) (other-last oid x last e)
    ∙ (append-nil (filter (is_for oid x) front) ∙ none)))

-- no record is by the id and the transaction
pub latest-none : (oid x : ℕ) (records : List OmapRecord) → ((s : OmapRecord) → In s records → is_by oid x s ≡ false) → latest records oid x ≡ None
unfolding latest
latest-none oid x records past = ap (greatest (λ (s : OmapRecord). s.xid)) (filter-none (is_for oid x) records (λ s h. for-by oid x s (past s h)))

-- the item before a place, and those on either side
around : (records : List OmapRecord) (n : ℕ) (last : OmapRecord) → 0 < n → n ≤ length records → last ≡ slice_index_or records (n - 1) last → records ≡ take (n - 1) records ++ last ∷ drop n records
around records n last some inside here =
    let low : n - 1 < length records = omega arith in
    let next : n - 1 + 1 ≡ n = omega arith in
    sym (take-append-drop (n - 1) records)
    ∙ ap (λ rs. take (n - 1) records ++ rs) (drop_more records (n - 1) last low ∙ (ap (λ r. r ∷ drop (n - 1 + 1) records) (sym here) ∙ ap (λ k. last ∷ drop k records) next))

-- the records before the last by the id and the transaction, and those past it
splits : (oid x : ℕ) (records : List OmapRecord) (n : ℕ) (last : OmapRecord) → IsAscending records → 0 < n → n ≤ length records → last ≡ slice_index_or records (n - 1) last
    → IsPartitionPoint (λ r. is_by oid x r ≡ true) (λ r. is_by oid x r ≡ false) records n → IsUpTo oid x (take (n - 1) records) last (drop n records)
splits oid x records n last ascending some inside here point = record {
  below = λ s h. all-in (λ t. is_before t last ≡ true) (take (n - 1) records)
      (λ k d low.
      let inner : k < n - 1 = omega (arith, length-take (n - 1) records) in
      let within : n - 1 < length records = omega arith in
      let first : slice_index_or (take (n - 1) records) k d ≡ slice_index_or records k d = get_or-take (n - 1) records k d inner in
      let second : slice_index_or records (n - 1) d ≡ last = sym (get_or_read records (n - 1) last within here d) in
      subst (λ t. is_before t last ≡ true) (sym first) (subst (λ r. is_before (slice_index_or records k d) r ≡ true) second (ascending k (n - 1) d inner within))) s h;
  by = subst (λ r. is_by oid x r ≡ true) (sym here) (point.0 (n - 1) last (omega arith) (omega arith));
  past = λ s h. all-in (λ t. is_by oid x t ≡ false) (drop n records)
      (λ k d low.
      let same : slice_index_or (drop n records) k d ≡ slice_index_or records (n + k) d = get_or-drop n records k d in
      subst (λ t. is_by oid x t ≡ false) (sym same) (point.1 (n + k) d (omega arith) (omega (arith, length-drop n records)))) s h;
}

-- where the last record by the id and the transaction is of the id, it is the latest
pub latest-found : (oid x : ℕ) (records : List OmapRecord) (n : ℕ) (last : OmapRecord) → IsAscending records → 0 < n → n ≤ length records → last ≡ slice_index_or records (n - 1) last
    → IsPartitionPoint (λ r. is_by oid x r ≡ true) (λ r. is_by oid x r ≡ false) records n → last.oid ≡ oid → latest records oid x ≡ Some last
latest-found oid x records n last ascending some inside here point e =
    ap (λ rs. latest rs oid x) (around records n last some inside here)
    ∙ latest-same oid x (take (n - 1) records) last (drop n records) (splits oid x records n last ascending some inside here point) e

-- where it is of another id, there is none
pub latest-missed : (oid x : ℕ) (records : List OmapRecord) (n : ℕ) (last : OmapRecord) → IsAscending records → 0 < n → n ≤ length records → last ≡ slice_index_or records (n - 1) last
    → IsPartitionPoint (λ r. is_by oid x r ≡ true) (λ r. is_by oid x r ≡ false) records n → (last.oid == oid) ≡ false → latest records oid x ≡ None
latest-missed oid x records n last ascending some inside here point e =
    ap (λ rs. latest rs oid x) (around records n last some inside here)
    ∙ latest-other oid x (take (n - 1) records) last (drop n records) (splits oid x records n last ascending some inside here point) e

-- where no record is by the id and the transaction, there is none
pub latest-before : (oid x : ℕ) (records : List OmapRecord) (n : ℕ) → n ≡ 0 → IsPartitionPoint (λ r. is_by oid x r ≡ true) (λ r. is_by oid x r ≡ false) records n → latest records oid x ≡ None
latest-before oid x records n none point = latest-none oid x records (all-in (λ t. is_by oid x t ≡ false) records (λ k d low. point.1 k d (omega arith) low))

by-before : (oid x : ℕ) (r s : OmapRecord) → is_before r s ≡ true → is_by oid x s ≡ true → is_by oid x r ≡ true
by-before oid x r s e f = grind (arith, common_steps)

split-at : (oid x : ℕ) (records : List OmapRecord) → IsAscending records → (i j : ℕ) (d : OmapRecord) → j < length records → (i < j) ⊎ (j ≤ i) → i ≤ j → is_by oid x (slice_index_or records j d) ≡ true → is_by oid x (slice_index_or records i d) ≡ true
split-at oid x records ascending i j d inside (inl low) le by = by-before oid x (slice_index_or records i d) (slice_index_or records j d) (ascending i j d low inside) by
split-at oid x records ascending i j d inside (inr high) le by = let same : j ≡ i = omega arith in subst (λ k. is_by oid x (slice_index_or records k d) ≡ true) same by

-- no record by an id and a transaction comes after one that isn't
pub partitioned : (oid x : ℕ) (records : List OmapRecord) → IsAscending records → IsPartitionedBy (is_by oid x) records
partitioned oid x records ascending i j d low inside by = split-at oid x records ascending i j d inside (cases_lt i j) low by
