-- The directories of each file's entries.
use Rattle.std.proofs.Common.{◌≡◌, ℕ, ◌+◌, ◌<◌, ◌≤◌, Bool, true, false, cond, List, [], ◌∷◌, get_or, refl, ap, sym, ◌∙◌, arith}
use Rattle.std.specs.Prelude.{◌==◌, ◌&&◌, ◌||◌, not, count_by, nat_lt}
use Rattle.std.specs.List.{list_any}
use Rattle.std.specs.declared.cmp.Ordering.{Ordering}
use Rattle.std.specs.Ordering.{is_lt, nat_cmp, ordering_then}
use Rattle.std.specs.List.Sorted.{IsSortedBy, IsNonDecreasingBy}
use Rattle.std.proofs.lemmas.Bool.Decides.{nat_tests}
use Rattle.std.proofs.lemmas.List.Sums.{sum_by-cons}
use Rattle.std.proofs.lemmas.List.Sorted.{IsNonDecreasingBy-from_all_adjacent}
use Rattle.apfs_model.proofs.BoolTests.{from-below, below-from, never-true, from-equal, equal-from, clash}
use Rattle.fs_record.specs.Entries.{Entry}
use Rattle.fs_record.specs.Facts.{Fact, is_reserved, private_id}
use Rattle.view_rules.specs.Facts.{Facts, names_file, entry_count, entry_count_in}
use Rattle.view_rules.specs.Counts.{is_system_name}
use Rattle.rule_index.specs.Homes.{is_named}
use Rattle.rule_index.proofs.Counting.{any-counted}

-- the order of pairs of a file and a directory
abbrev pub home_cmp : ℕ × ℕ → ℕ × ℕ → Ordering
home_cmp a b = ordering_then (nat_cmp a.0 b.0) (nat_cmp a.1 b.1)

lower-first : (a b : ℕ × ℕ) → is_lt (home_cmp b a) ≡ false → a.0 ≤ b.0
lower-first a b e = grind (arith, nat_tests)

-- pairs in order are in the order of their files
pub files-rise : (pairs : List (ℕ × ℕ)) → IsSortedBy (λ a b. is_lt (home_cmp a b)) pairs → IsNonDecreasingBy (λ (p : ℕ × ℕ). p.0) pairs
files-rise pairs up = IsNonDecreasingBy-from_all_adjacent (λ (p : ℕ × ℕ). p.0) pairs (λ k d low. lower-first (get_or pairs k d) (get_or pairs (k + 1) d) (up k d (omega arith) low))

split-count : (p r s : Bool) → (r && s) ≡ false → cond (p && r) 1 0 + cond (p && s) 1 0 ≤ cond p 1 0
split-count false r s e = omega arith
split-count true true true e = clash true refl e
split-count true true false e = omega arith
split-count true false true e = omega arith
split-count true false false e = omega arith

-- those of two parts that have nothing in common are at most all
parts-count : {X : Type 0} (p r s : X → Bool) → ((x : X) → (r x && s x) ≡ false) → (xs : List X) → count_by (λ x. p x && r x) xs + count_by (λ x. p x && s x) xs ≤ count_by p xs
parts-count p r s apart [] = omega arith
parts-count p r s apart (x ∷ xs) =
    let here = split-count (p x) (r x) (s x) (apart x) in
    let rest = parts-count p r s apart xs in
    let all = sum_by-cons (λ y. cond (p y) 1 0) x xs in
    let first = sum_by-cons (λ y. cond (p y && r y) 1 0) x xs in
    let second = sum_by-cons (λ y. cond (p y && s y) 1 0) x xs in
    omega (arith, here, rest, all, first, second)

-- a file's only entry stands in one directory, and in no other
pub one_home : (facts : Facts) (q d directory : ℕ) → entry_count facts q ≡ 1 → entry_count_in facts q d ≡ 1 → (d == directory) ≡ ((entry_count facts q == 1) && (entry_count_in facts q directory == 1))
one_home facts q d directory one here =
    let go : (b : Bool) → (d == directory) ≡ b → b ≡ (entry_count_in facts q directory == 1) =
    λ b. elim b as (λ b. (d == directory) ≡ b → b ≡ (entry_count_in facts q directory == 1)) [
      | true ↦ λ e. sym (from-equal (entry_count_in facts q directory) 1 (ap (entry_count_in facts q) (sym (equal-from d directory e)) ∙ here))
      | false ↦ λ e.
          let few = parts-count (names_file q) (λ (e : Fact Entry). e.id == d) (λ (e : Fact Entry). e.id == directory) (λ x. apart x.id d directory e) facts.entries in
          sym (never-true (entry_count_in facts q directory == 1) (λ h. let there = equal-from (entry_count_in facts q directory) 1 h in omega (arith, one, here, few, there)))
    ] in
    go (d == directory) refl ∙ sym (ap (λ b. b && (entry_count_in facts q directory == 1)) (from-equal (entry_count facts q) 1 one))
  where
    apart : (n d directory : ℕ) → (d == directory) ≡ false → ((n == d) && (n == directory)) ≡ false
    apart n d directory e = grind (arith, nat_tests)

-- and where it hasn't exactly one, in none alone
pub no_home_alone : (facts : Facts) (q directory : ℕ) → (entry_count facts q ≡ 1 → ⊥) → false ≡ ((entry_count facts q == 1) && (entry_count_in facts q directory == 1))
no_home_alone facts q directory other =
    sym (ap (λ b. b && (entry_count_in facts q directory == 1)) (never-true (entry_count facts q == 1) (λ h. other (equal-from (entry_count facts q) 1 h))))

any-either : {X : Type 0} (p r s : X → Bool) → ((x : X) → (p x || r x) ≡ s x) → (xs : List X) → (list_any p xs || list_any r xs) ≡ list_any s xs
any-either p r s each [] = refl
any-either p r s each (x ∷ xs) = shuffled (p x) (list_any p xs) (r x) (list_any r xs) ∙ (λ i. each x i || any-either p r s each xs i)
  where
    shuffled : (a b c d : Bool) → ((a || b) || (c || d)) ≡ ((a || c) || (b || d))
    shuffled true b c d = refl
    shuffled false true true d = refl
    shuffled false true false d = refl
    shuffled false false c d = refl

counted-or-not : (r t x : Bool) → ((not r && x) || ((t || r) && x)) ≡ x
counted-or-not true true true = refl
counted-or-not true true false = refl
counted-or-not true false true = refl
counted-or-not true false false = refl
counted-or-not false true true = refl
counted-or-not false true false = refl
counted-or-not false false true = refl
counted-or-not false false false = refl

-- an entry of a file counts, or stands in the private directory or one of a reserved id
pub named_either : (facts : Facts) (q : ℕ) → (list_any (names_file q) facts.entries || list_any (is_system_name q) facts.entries) ≡ list_any (is_named q) facts.entries
named_either facts q = any-either (names_file q) (is_system_name q) (is_named q) (λ e. counted-or-not (is_reserved e.id) (e.id == private_id) (e.what.file_id == q)) facts.entries

-- by how many entries it has among those that count
pub named_counted : (facts : Facts) (q n : ℕ) → n ≡ entry_count facts q → 0 < n → nat_lt 0 n ≡ list_any (is_named q) facts.entries
named_counted facts q n is above =
    let some : nat_lt 0 n ≡ true = from-below 0 n above in
    let any : list_any (names_file q) facts.entries ≡ true = sym (any-counted (names_file q) facts.entries) ∙ (ap (nat_lt 0) (sym is) ∙ some) in
    some ∙ (sym (ap (λ b. b || list_any (is_system_name q) facts.entries) any) ∙ named_either facts q)

-- and by whether it has others
pub named_else : (facts : Facts) (q n : ℕ) (r : Bool) → n ≡ entry_count facts q → n ≤ 0 → r ≡ list_any (is_system_name q) facts.entries → r ≡ list_any (is_named q) facts.entries
named_else facts q n r is low has =
    let none : nat_lt 0 n ≡ false = never-true (nat_lt 0 n) (λ h. let above = below-from 0 n h in omega arith) in
    let any : list_any (names_file q) facts.entries ≡ false = sym (any-counted (names_file q) facts.entries) ∙ (ap (nat_lt 0) (sym is) ∙ none) in
    has ∙ (sym (ap (λ b. b || list_any (is_system_name q) facts.entries) any) ∙ named_either facts q)
