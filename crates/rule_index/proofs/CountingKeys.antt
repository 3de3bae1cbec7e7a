-- Counts of facts by numbers and a name.
use Rattle.std.proofs.Common.{◌≡◌, ℕ, ◌+◌, ◌<◌, ◌≤◌, true, false, cond, List, length, get_or, Result, Ok, Err, refl, ap, sym, ◌∙◌, inl, inr, arith}
use Rattle.std.specs.Prelude.{count_by, nat_lt, is_ok}
use Rattle.std.specs.declared.cmp.Ordering.{Ordering}
use Rattle.std.specs.declared.cmp.Ordering.TheVariants.{Less, Equal, Greater}
use Rattle.std.specs.List.Sorted.{IsSorted, IsNonDecreasingBy, IsPartitionedBy, IsPartitionPoint, IsBinarySearchResult, IsSearchInRange}
use Rattle.std.specs.Ordering.{ordering_index, is_lt, is_le, is_eq}
use Rattle.std.proofs.lemmas.Bool.{cases_lt}
use Rattle.std.proofs.lemmas.Bool.Decides.{nat_tests}
use Rattle.std.proofs.lemmas.List.Sorted.{searchable_from_sorted, IsPartitionedBy-ltb}
use Rattle.id_lists.proofs.InOrder.{point-count, none-count, some-count, both-count}
use Rattle.rule_index.specs.Keys.{Key, key_cmp, is_same_key, key_total, key_ties, key_count}

-- among keys in order, the answers of comparisons with one key rise
keys-rise : (keys : List Key) (q : Key) → IsSorted key_cmp keys → IsNonDecreasingBy (λ k. ordering_index (key_cmp k q)) keys
keys-rise keys q up = searchable_from_sorted key_total (λ (k : Key). k) keys q up

below-index : (o : Ordering) → nat_lt (ordering_index o) 1 ≡ is_lt o
below-index Less = refl
below-index Equal = refl
below-index Greater = refl

up-to-index : (o : Ordering) → nat_lt (ordering_index o) 2 ≡ is_le o
up-to-index Less = refl
up-to-index Equal = refl
up-to-index Greater = refl

-- keys below one stand before the others
pub below-first : (keys : List Key) (q : Key) → IsSorted key_cmp keys → IsPartitionedBy (λ k. is_lt (key_cmp k q)) keys
below-first keys q up i j d le low e =
    sym (below-index (key_cmp (get_or keys i d) q))
    ∙ IsPartitionedBy-ltb (λ (k : Key). ordering_index (key_cmp k q)) keys 1 (keys-rise keys q up) i j d le low (below-index (key_cmp (get_or keys j d) q) ∙ e)

-- keys that aren't above one stand before the others
pub up-to-first : (keys : List Key) (q : Key) → IsSorted key_cmp keys → IsPartitionedBy (λ k. is_le (key_cmp k q)) keys
up-to-first keys q up i j d le low e =
    sym (up-to-index (key_cmp (get_or keys i d) q))
    ∙ IsPartitionedBy-ltb (λ (k : Key). ordering_index (key_cmp k q)) keys 2 (keys-rise keys q up) i j d le low (up-to-index (key_cmp (get_or keys j d) q) ∙ e)

parts : (o : Ordering) → cond (is_le o) 1 0 ≡ cond (is_lt o) 1 0 + cond (is_eq o) 1 0
parts Less = refl
parts Equal = refl
parts Greater = refl

-- those of a key stand between those below it and those above it
pub between-keys : (keys : List Key) (q : Key) (from to : ℕ) → from ≤ length keys → to ≤ length keys
    → IsPartitionPoint (λ k. is_lt (key_cmp k q) ≡ true) (λ k. is_lt (key_cmp k q) ≡ false) keys from → IsPartitionPoint (λ k. is_le (key_cmp k q) ≡ true) (λ k. is_le (key_cmp k q) ≡ false) keys to
    → to ≡ from + key_count keys q
unfolding key_count
between-keys keys q from to low high first last =
    let a = point-count (λ (k : Key). is_lt (key_cmp k q)) keys from low first in
    let b = point-count (λ (k : Key). is_le (key_cmp k q)) keys to high last in
    let c = both-count (λ (k : Key). is_lt (key_cmp k q)) (λ (k : Key). is_same_key k q) (λ (k : Key). is_le (key_cmp k q))
    (λ k. parts (key_cmp k q) ∙ ap (λ b. cond (is_lt (key_cmp k q)) 1 0 + cond b 1 0) (sym (key_ties k q))) keys in
    omega arith

-- what a search among keys in order answers
pub among-keys : (keys : List Key) (q : Key) (r : Result ℕ ℕ) → IsSorted key_cmp keys → IsSearchInRange r (length keys) → IsBinarySearchResult (λ k. key_cmp k q) keys r → is_ok r ≡ nat_lt 0 (key_count keys q)
unfolding key_count
among-keys keys q (Ok i) up low found =
    let some : 0 < count_by (λ k. is_same_key k q) keys = some-count (λ (k : Key). is_same_key k q) keys i q low (key_ties (get_or keys i q) q ∙ ap is_eq (found q)) in
    grind (arith, nat_tests)
among-keys keys q (Err i) up high found =
    let point = found (keys-rise keys q up) in
    let none : count_by (λ k. is_same_key k q) keys ≡ 0 = none-count (λ (k : Key). is_same_key k q) keys (λ k d low.
    key_ties (get_or keys k d) q ∙ elim (cases_lt k i) as (λ _. is_eq (key_cmp (get_or keys k d) q) ≡ false) [
      | inl before ↦ ap is_eq (point.0 k d (omega arith) before)
      | inr after ↦ ap is_eq (point.1 k d after low)
    ]) in
    sym (ap (nat_lt 0) none)
