-- Counts of facts by a number.
use Rattle.std.proofs.Common.{◌≡◌, ℕ, ◌+◌, ◌<◌, Bool, true, false, cond, List, [], ◌∷◌, length, take, get_or, Option, Some, None, refl, ap, sym, ◌∙◌, arith}
use Rattle.std.specs.Prelude.{count_by, bytes_eq, ◌==◌, ◌&&◌, nat_lt}
use Rattle.std.specs.List.{list_any}
use Rattle.std.proofs.lemmas.Grind.{common_steps}
use Rattle.std.proofs.lemmas.List.Sums.{count_by_more_yes, count_by_more_no}
use Rattle.std.proofs.lemmas.Bool.Decides.{nat_tests}
use Rattle.apfs_model.specs.Lists.{passes}
use Rattle.fs_record.specs.Attributes.{Attribute}
use Rattle.fs_record.specs.Facts.{Fact}
use Rattle.view_rules.specs.Facts.{Facts, is_system_id}
use Rattle.view_rules.specs.Counts.{is_system_name}
use Rattle.view_rules.specs.Inodes.{gives_target, target_name, holds_target}
use Rattle.rule_index.specs.Ids.{has_id, count_in, CountsIds, system_file, target_file}

-- the next item has the number, or what else is counted, that is added
pub counts-some : {T K : Type 0} (same : K → K → Bool) (id : T → Option K) (items : List T) (i : ℕ) (d : T) (k : K) (old new : K → ℕ) → i < length items → id (get_or items i d) ≡ Some k
    → ((q : K) → old q ≡ count_by (λ x. passes (id x) (λ n. same n q)) (take i items)) → ((q : K) → new q ≡ old q + cond (same k q) 1 0) → (q : K) → new q ≡ count_by (λ x. passes (id x) (λ n. same n q)) (take (i + 1) items)
counts-some {T} {K} same id items i d k old new low has counts more q =
    let has_one : T → Bool = λ x. passes (id x) (λ n. same n q) in
    let test : has_one (get_or items i d) ≡ same k q = ap (λ (o : Option K). passes o (λ n. same n q)) has in
    let go : (b : Bool) → same k q ≡ b → old q + cond b 1 0 ≡ count_by has_one (take (i + 1) items) =
    λ b. elim b as (λ b. same k q ≡ b → old q + cond b 1 0 ≡ count_by has_one (take (i + 1) items)) [
      | true ↦ λ e. omega (arith, counts q, count_by_more_yes has_one items i d low (test ∙ e))
      | false ↦ λ e. omega (arith, counts q, count_by_more_no has_one items i d low (test ∙ e))
    ] in
    more q ∙ go (same k q) refl

-- the next item has none
pub counts-none : {T K : Type 0} (same : K → K → Bool) (id : T → Option K) (items : List T) (i : ℕ) (d : T) (old : K → ℕ) → i < length items → id (get_or items i d) ≡ None
    → ((q : K) → old q ≡ count_by (λ x. passes (id x) (λ n. same n q)) (take i items)) → (q : K) → old q ≡ count_by (λ x. passes (id x) (λ n. same n q)) (take (i + 1) items)
counts-none {T} {K} same id items i d old low has counts q =
    counts q ∙ sym (count_by_more_no (λ x. passes (id x) (λ n. same n q)) items i d low (ap (λ (o : Option K). passes o (λ n. same n q)) has))

-- tests that are the same count the same
pub count-same : {X : Type 0} (p q : X → Bool) → ((x : X) → p x ≡ q x) → (xs : List X) → count_by p xs ≡ count_by q xs
count-same p q same xs = λ i. count_by (λ x. same x i) xs

if-counted : (b : Bool) (n q : ℕ) → passes (cond b (Some n) None) (λ m. m == q) ≡ (b && (n == q))
if-counted true n q = refl
if-counted false n q = refl

-- some item passes where one is counted
pub any-counted : {X : Type 0} (p : X → Bool) (xs : List X) → nat_lt 0 (count_by p xs) ≡ list_any p xs
any-counted p [] = refl
any-counted p (x ∷ xs) = grind (arith, nat_tests, common_steps, any-counted p xs)

-- the entries of a file in the private directory or of a reserved id
pub system_counts : (facts : Facts) (m : List ℕ) (q : ℕ) → CountsIds system_file facts.entries m → nat_lt 0 (count_in m q) ≡ list_any (is_system_name q) facts.entries
system_counts facts m q counts =
    ap (nat_lt 0) (counts q ∙ count-same (has_id system_file q) (is_system_name q) (λ e. if-counted (is_system_id e.id) e.what.file_id q) facts.entries) ∙ any-counted (is_system_name q) facts.entries

target-test : (q : ℕ) (a : Fact Attribute) → has_id target_file q a ≡ gives_target q a
target-test q a = if-counted (bytes_eq a.what.name target_name && holds_target a.what.body) a.id q ∙ swapped (bytes_eq a.what.name target_name && holds_target a.what.body) (a.id == q)
  where
    swapped : (a b : Bool) → (a && b) ≡ (b && a)
    swapped true true = refl
    swapped true false = refl
    swapped false true = refl
    swapped false false = refl

-- the targets of a file
pub target_counts : (facts : Facts) (m : List ℕ) (q : ℕ) → CountsIds target_file facts.attributes m → nat_lt 0 (count_in m q) ≡ list_any (gives_target q) facts.attributes
target_counts facts m q counts =
    ap (nat_lt 0) (counts q ∙ count-same (has_id target_file q) (gives_target q) (target-test q) facts.attributes) ∙ any-counted (gives_target q) facts.attributes
