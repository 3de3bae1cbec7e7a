-- The entries of some files, apart from the others.
use Rattle.std.proofs.Common.{◌≡◌, ℕ, ◌+◌, ◌<◌, Bool, true, false, cond, List, [], ◌∷◌, Some, refl, ap, ◌∙◌, arith}
use Rattle.std.specs.Prelude.{◌==◌, ◌&&◌, count_by, filter, nat_lt}
use Rattle.std.specs.List.{list_any, find}
use Rattle.std.proofs.lemmas.List.Sums.{sum_by-cons}
use Rattle.apfs_model.proofs.BoolTests.{clash, equal-from, from-equal}
use Rattle.fs_record.specs.Entries.{Entry}
use Rattle.fs_record.specs.Facts.{Fact}
use Rattle.view_rules.specs.Facts.{does_count, names_file, is_system_id}
use Rattle.fs_record.specs.Attributes.{Attribute}
use Rattle.view_rules.specs.Counts.{is_system_name}
use Rattle.view_rules.specs.Inodes.{gives_target}
use Rattle.rule_index.specs.Ids.{is_target}
use Rattle.rule_index.specs.declared.homes.Home.{Home}
use Rattle.rule_index.specs.Homes.{pair_of, is_file, is_place, is_home, IsHomeIn, IsHomeOf}
use Rattle.rule_index.specs.Namings.{is_marked, is_counted, is_system_one, AreListed}
use Rattle.rule_index.proofs.Counting.{any-counted, count-same}
use Rattle.rule_index.proofs.Runs.{any-filtered}

dropped : (a n b : Bool) → (b ≡ true → n ≡ true) → ((a && n) && b) ≡ (a && b)
dropped false n b h = refl
dropped true true b h = refl
dropped true false true h = clash false (h refl) refl
dropped true false false h = refl

regrouped : (a n b c : Bool) → (b ≡ true → n ≡ true) → ((a && n) && (b && c)) ≡ ((a && b) && c)
regrouped false n b c h = refl
regrouped true true b c h = refl
regrouped true false true c h = clash false (h refl) refl
regrouped true false false c h = refl

marked-too : (marks : List Bool) (file other : ℕ) → is_marked marks file ≡ true → (other == file) ≡ true → is_marked marks other ≡ true
marked-too marks file other marked same = ap (is_marked marks) (equal-from other file same) ∙ marked

-- the home of a marked file among the pairs is its home
pub home-listed : (marks : List Bool) (entries : List (Fact Entry)) (pairs : List (ℕ × ℕ)) (file : ℕ) (home : Home) → is_marked marks file ≡ true → AreListed (is_counted marks) entries pairs → IsHomeIn pairs file home → IsHomeOf entries file home
home-listed marks entries pairs file home marked had is =
    let all : count_by (is_file file) pairs ≡ count_by (names_file file) entries =
    had (is_file file)
    ∙ count-same (λ (e : Fact Entry). is_counted marks e && is_file file (pair_of e)) (names_file file) (λ e. dropped (does_count e) (is_marked marks e.what.file_id) (e.what.file_id == file) (marked-too marks file e.what.file_id marked)) entries in
    let here : count_by (is_place file home.directory) pairs ≡ count_by (is_home file home.directory) entries =
    had (is_place file home.directory)
    ∙ count-same (λ (e : Fact Entry). is_counted marks e && is_place file home.directory (pair_of e)) (is_home file home.directory) (λ e.
    regrouped (does_count e) (is_marked marks e.what.file_id) (e.what.file_id == file) (e.id == home.directory) (marked-too marks file e.what.file_id marked)) entries in
    (is.0 ∙ all, λ above. let some = is.1 above in omega (arith, here, some))

-- whether an entry of the private directory or of a reserved id names a marked file
pub system-listed : (marks : List Bool) (entries : List (Fact Entry)) (pairs : List (ℕ × ℕ)) (file : ℕ) (home : Home) → is_marked marks file ≡ true → AreListed (is_system_one marks) entries pairs → IsHomeIn pairs file home
    → nat_lt 0 home.entries ≡ list_any (is_system_name file) entries
system-listed marks entries pairs file home marked had is =
    ap (nat_lt 0) (is.0 ∙ (had (is_file file)
    ∙ count-same (λ (e : Fact Entry). is_system_one marks e && is_file file (pair_of e)) (is_system_name file) (λ e. dropped (is_system_id e.id) (is_marked marks e.what.file_id) (e.what.file_id == file) (marked-too marks file e.what.file_id marked)) entries))
    ∙ any-counted (is_system_name file) entries

counted-one : (b : Bool) → b ≡ true → 0 < cond b 1 0
counted-one true e = omega arith
counted-one false e = clash false e refl

-- what is found counts
found-counts : {X : Type 0} (p r : X → Bool) (xs : List X) (x : X) → find p xs ≡ Some x → r x ≡ true → 0 < count_by (λ y. p y && r y) xs
found-counts p r [] x e good = absurd (let no : ⊥ = cc in no)
found-counts {X} p r (y ∷ ys) x e good =
    let all = sum_by-cons (λ z. cond (p z && r z) 1 0) y ys in
    let go : (b : Bool) → p y ≡ b → cond b (Some y) (find p ys) ≡ Some x → 0 < cond (p y && r y) 1 0 + count_by (λ z. p z && r z) ys =
    λ b. elim b as (λ b. p y ≡ b → cond b (Some y) (find p ys) ≡ Some x → 0 < cond (p y && r y) 1 0 + count_by (λ z. p z && r z) ys) [
      | true ↦ λ yes f.
          let same : y ≡ x = cc in
          let first : (p y && r y) ≡ true = (λ i. yes i && r (same i)) ∙ good in
          let one = counted-one (p y && r y) first in
          omega (arith, one)
      | false ↦ λ no f. let rest = found-counts p r ys x f good in omega (arith, rest)
    ] in
    let more = go (p y) refl e in
    omega (arith, all, more)

-- the home of a file by the first entry that is found
pub home-found : (entries : List (Fact Entry)) (file n : ℕ) (e : Fact Entry) → find (names_file file) entries ≡ Some e → n ≡ count_by (names_file file) entries → IsHomeOf entries file (record { entries = n; directory = e.id })
home-found entries file n e found counted = (counted, λ above. found-counts (names_file file) (λ (x : Fact Entry). x.id == e.id) entries e found (from-equal e.id e.id refl))

-- an attribute among those of a file gives its target
pub target-run : (attributes : List (Fact Attribute)) (id : ℕ) → list_any is_target (filter (λ (a : Fact Attribute). a.id == id) attributes) ≡ list_any (gives_target id) attributes
target-run attributes id = any-filtered is_target (λ (a : Fact Attribute). a.id == id) attributes
