-- Which records of an id come after a transaction, where the records are split by both.
use Rattle.std.proofs.Common.{◌≡◌, ℕ, ◌<◌, ◌≤◌, List, length, true, false, ap, sym, subst, ◌∙◌, arith, inl, inr}
use Rattle.std.specs.Prelude.{◌⊎◌, ◌==◌, slice_index_or}
use Rattle.std.specs.List.Sorted.{IsPartitionPoint}
use Rattle.std.proofs.lemmas.Bool.{cases_lt}
use Rattle.std.proofs.lemmas.List.{get_or_read}
use Rattle.std.proofs.lemmas.Grind.{common_steps}
use Rattle.omap_map.specs.Loading.{is_before, IsAscending}
use Rattle.omap_map.specs.Search.{is_by}
use Rattle.omap_map.specs.declared.records.OmapRecord.{OmapRecord}
use Rattle.omap_map.proofs.Lists.{all-in}
use Rattle.view_sweep.specs.Next.{AreNoneAfter, IsNext}

by-low : (oid x : ℕ) (r : OmapRecord) → is_by oid x r ≡ true → r.oid ≡ oid → r.xid ≤ x
by-low oid x r e f = grind (arith, common_steps)

past-high : (oid x : ℕ) (r : OmapRecord) → is_by oid x r ≡ false → r.oid ≡ oid → x < r.xid
past-high oid x r e f = grind (arith, common_steps)

-- a record after one of another id that is past is of another id
past-other : (oid x : ℕ) (n r : OmapRecord) → is_by oid x n ≡ false → (n.oid == oid) ≡ false → is_before n r ≡ true → r.oid ≡ oid → ⊥
past-other oid x n r e f h g = grind (arith, common_steps)

self-other : (oid : ℕ) (n : OmapRecord) → (n.oid == oid) ≡ false → n.oid ≡ oid → ⊥
self-other oid n e f = grind (arith, common_steps)

after-next : (oid x : ℕ) (n r : OmapRecord) → n.oid ≡ oid → is_before n r ≡ true → r.oid ≡ oid → n.xid ≤ r.xid
after-next oid x n r e h g = grind (arith, common_steps)

-- all records are by the id and the transaction
pub none-end : (oid x : ℕ) (records : List OmapRecord) (n : ℕ) → n ≡ length records → IsPartitionPoint (λ r. is_by oid x r ≡ true) (λ r. is_by oid x r ≡ false) records n → AreNoneAfter records oid x
none-end oid x records n e point = all-in (λ r. r.oid ≡ oid → r.xid ≤ x) records (λ k d low f. by-low oid x (slice_index_or records k d) (point.0 k d (omega arith) (omega arith)) f)

-- a record from the place of the first that isn't by the id and the transaction on: that one, or one after it
from-next : (records : List OmapRecord) (n : ℕ) (next : OmapRecord) → IsAscending records → n < length records → next ≡ slice_index_or records n next
    → (k : ℕ) (d : OmapRecord) → k < length records → n ≤ k → (slice_index_or records k d ≡ next) ⊎ (is_before next (slice_index_or records k d) ≡ true)
from-next records n next ascending inside here k d low le =
    let first : slice_index_or records n d ≡ next = sym (get_or_read records n next inside here d) in
    elim (cases_lt n k) [
      | inl more ↦ inr (subst (λ r. is_before r (slice_index_or records k d) ≡ true) first (ascending n k d more low))
      | inr same ↦ let e : k ≡ n = omega arith in inl (ap (λ i. slice_index_or records i d) e ∙ first)
    ]

other-from : (oid x : ℕ) (next r : OmapRecord) → is_by oid x next ≡ false → (next.oid == oid) ≡ false → (r ≡ next) ⊎ (is_before next r ≡ true) → r.oid ≡ oid → ⊥
other-from oid x next r past other (inl e) f = self-other oid next other (sym (ap (λ (q : OmapRecord). q.oid) e) ∙ f)
other-from oid x next r past other (inr h) f = past-other oid x next r past other h f

high-from : (oid x : ℕ) (next r : OmapRecord) → next.oid ≡ oid → (r ≡ next) ⊎ (is_before next r ≡ true) → r.oid ≡ oid → next.xid ≤ r.xid
high-from oid x next r same (inl e) f = let number : r.xid ≡ next.xid = ap (λ (q : OmapRecord). q.xid) e in omega arith
high-from oid x next r same (inr h) f = after-next oid x next r same h f

next-past : (oid x : ℕ) (records : List OmapRecord) (n : ℕ) (next : OmapRecord) → n < length records → next ≡ slice_index_or records n next
    → IsPartitionPoint (λ r. is_by oid x r ≡ true) (λ r. is_by oid x r ≡ false) records n → is_by oid x next ≡ false
next-past oid x records n next inside here point = subst (λ r. is_by oid x r ≡ false) (sym here) (point.1 n next (omega arith) inside)

none-at : (oid x : ℕ) (records : List OmapRecord) (n : ℕ) (next : OmapRecord) → IsAscending records → n < length records → next ≡ slice_index_or records n next
    → IsPartitionPoint (λ r. is_by oid x r ≡ true) (λ r. is_by oid x r ≡ false) records n → (next.oid == oid) ≡ false
    → (k : ℕ) (d : OmapRecord) → k < length records → (k < n) ⊎ (n ≤ k) → (slice_index_or records k d).oid ≡ oid → (slice_index_or records k d).xid ≤ x
none-at oid x records n next ascending inside here point other k d low (inl less) f = by-low oid x (slice_index_or records k d) (point.0 k d (omega arith) less) f
none-at oid x records n next ascending inside here point other k d low (inr le) f =
    absurd (other-from oid x next (slice_index_or records k d) (next-past oid x records n next inside here point) other (from-next records n next ascending inside here k d low le) f)

-- the first record that isn't by the id and the transaction is of another id
pub none-other : (oid x : ℕ) (records : List OmapRecord) (n : ℕ) (next : OmapRecord) → IsAscending records → n < length records → next ≡ slice_index_or records n next
    → IsPartitionPoint (λ r. is_by oid x r ≡ true) (λ r. is_by oid x r ≡ false) records n → (next.oid == oid) ≡ false → AreNoneAfter records oid x
none-other oid x records n next ascending inside here point other = all-in (λ r. r.oid ≡ oid → r.xid ≤ x) records (λ k d low f. none-at oid x records n next ascending inside here point other k d low (cases_lt k n) f)

gap-at : (oid x : ℕ) (records : List OmapRecord) (n : ℕ) (next : OmapRecord) → IsAscending records → n < length records → next ≡ slice_index_or records n next
    → IsPartitionPoint (λ r. is_by oid x r ≡ true) (λ r. is_by oid x r ≡ false) records n → next.oid ≡ oid
    → (k : ℕ) (d : OmapRecord) → k < length records → (k < n) ⊎ (n ≤ k) → (slice_index_or records k d).oid ≡ oid → ((slice_index_or records k d).xid ≤ x) ⊎ (next.xid ≤ (slice_index_or records k d).xid)
gap-at oid x records n next ascending inside here point same k d low (inl less) f = inl (by-low oid x (slice_index_or records k d) (point.0 k d (omega arith) less) f)
gap-at oid x records n next ascending inside here point same k d low (inr le) f = inr (high-from oid x next (slice_index_or records k d) same (from-next records n next ascending inside here k d low le) f)

-- it is of the id
pub next-found : (oid x : ℕ) (records : List OmapRecord) (n : ℕ) (next : OmapRecord) → IsAscending records → n < length records → next ≡ slice_index_or records n next
    → IsPartitionPoint (λ r. is_by oid x r ≡ true) (λ r. is_by oid x r ≡ false) records n → next.oid ≡ oid → IsNext records oid x next.xid
next-found oid x records n next ascending inside here point same = record {
  after = past-high oid x next (next-past oid x records n next inside here point) same;
  gap = all-in (λ r. r.oid ≡ oid → (r.xid ≤ x) ⊎ (next.xid ≤ r.xid)) records (λ k d low f. gap-at oid x records n next ascending inside here point same k d low (cases_lt k n) f);
}
