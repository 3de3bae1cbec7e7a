-- Where the entries of files are told, entry by entry.
use Rattle.std.proofs.Common.{◌≡◌, ℕ, ◌+◌, ◌<◌, ◌≤◌, Bool, true, false, cond, List, [], ◌∷◌, ◌++◌, length, take, get_or, Option, Some, None, refl, ap, sym, subst, ◌∙◌, inl, inr, arith}
use Rattle.std.specs.Prelude.{◌==◌, ◌&&◌, count_by}
use Rattle.std.specs.List.{find, position}
use Rattle.std.proofs.Math.ListN.{set}
use Rattle.std.proofs.Math.Seq.{take-append_seam}
use Rattle.std.proofs.lemmas.Bool.{cases_eq}
use Rattle.std.proofs.lemmas.Bool.Decides.{nat_tests}
use Rattle.std.proofs.lemmas.Grind.{common_steps}
use Rattle.std.proofs.lemmas.List.{get_or-set_same, get_or-set_other, length-set}
use Rattle.std.proofs.lemmas.List.Sums.{sum_by-append, sum_by-cons}
use Rattle.std.proofs.lemmas.List.Quantifiers.{position-Some}
use Rattle.apfs_model.proofs.BoolTests.{equal-from, from-equal, never-true, both-true, right-true, clash}
use Rattle.fs_record.specs.Entries.{Entry}
use Rattle.fs_record.specs.Facts.{Fact}
use Rattle.view_rules.specs.Facts.{does_count, names_file}
use Rattle.rule_index.specs.declared.kin.Kin.{Kin}
use Rattle.rule_index.specs.declared.homes.Home.{Home}
use Rattle.rule_index.specs.declared.homes.Told.{Told}
use Rattle.rule_index.specs.declared.homes.Told.TheVariants.{Nowhere, ByParent, InPairs}
use Rattle.rule_index.specs.Kins.{kin_place, parent_at}
use Rattle.rule_index.specs.Homes.{pair_of, is_file, is_place, is_home, is_in_pairs, are_listed_at, are_listed, is_listed, IsHomeIn, IsHomeOf, IsOnlyHome, HasHomes}
use Rattle.id_lists.proofs.InOrder.{some-count, found-nowhere}
use Rattle.rule_index.proofs.Counting.{count-same}

-- the home of a file that has no entry
abbrev no_home : Home
no_home = record { entries = 0; directory = 0 }

count-push : {X : Type 0} (p : X → Bool) (xs : List X) (x : X) → count_by p (xs ++ x ∷ []) ≡ count_by p xs + cond (p x) 1 0
count-push p xs x =
    let whole = sum_by-append (λ y. cond (p y) 1 0) xs (x ∷ []) in
    let last : count_by p (x ∷ []) ≡ cond (p x) 1 0 + count_by p [] = sum_by-cons (λ y. cond (p y) 1 0) x [] in
    let none : count_by p [] ≡ 0 = refl in
    omega (arith, whole, last, none)

count-skip : {X : Type 0} (p : X → Bool) (xs : List X) (x : X) → p x ≡ false → count_by p (xs ++ x ∷ []) ≡ count_by p xs
count-skip p xs x e =
    let pushed = count-push p xs x in
    let none : cond {A = ℕ} (p x) 1 0 ≡ 0 = ap (λ b. cond {A = ℕ} b 1 0) e in
    omega (arith, pushed, none)

count-more : {X : Type 0} (p : X → Bool) (xs : List X) (x : X) → p x ≡ true → count_by p (xs ++ x ∷ []) ≡ count_by p xs + 1
count-more p xs x e =
    let pushed = count-push p xs x in
    let one : cond {A = ℕ} (p x) 1 0 ≡ 1 = ap (λ b. cond {A = ℕ} b 1 0) e in
    omega (arith, pushed, one)

-- files with one place are the same
same-file : (kins : List (ℕ × Kin)) (a b i j : ℕ) → Some i ≡ kin_place kins a → Some j ≡ kin_place kins b → i ≡ j → a ≡ b
same-file kins a b i j e f same =
    let d : ℕ × Kin = (0, record { kind = 0; parent = 0 }) in
    let s = position-Some (λ (k : ℕ × Kin). k.0 == a) kins i d (sym e) in
    let t = position-Some (λ (k : ℕ × Kin). k.0 == b) kins j d (sym f) in
    sym (equal-from (get_or kins i d).0 a s.1) ∙ (ap (λ (n : ℕ). (get_or kins n d).0) same ∙ equal-from (get_or kins j d).0 b t.1)

nothing : (b : Bool) → (b && false) ≡ false
nothing true = refl
nothing false = refl

-- files at other places are other files
differs : (kins : List (ℕ × Kin)) (a b i j : ℕ) → Some i ≡ kin_place kins a → Some j ≡ kin_place kins b → (j ≡ i → ⊥) → (a == b) ≡ false
differs kins a b i j e f other =
    never-true (a == b) (λ h.
    let one : Some i ≡ Some j = e ∙ (ap (kin_place kins) (equal-from a b h) ∙ sym f) in
    other (let j-i : j ≡ i = cc in j-i))

-- a place is in the list
pub within : (kins : List (ℕ × Kin)) (file at : ℕ) → Some at ≡ kin_place kins file → at < length kins
within kins file at e = (position-Some (λ (k : ℕ × Kin). k.0 == file) kins at (0, record { kind = 0; parent = 0 }) (sym e)).0

names-false : (e : Fact Entry) (file : ℕ) → (e.what.file_id == file) ≡ false → names_file file e ≡ false
names-false e file other = ap (λ b. does_count e && b) other ∙ nothing (does_count e)

home-false : (e : Fact Entry) (file directory : ℕ) → names_file file e ≡ false → is_home file directory e ≡ false
home-false e file directory other = ap (λ b. b && (e.id == directory)) other

part-count : {X : Type 0} (p r : X → Bool) (xs : List X) → count_by (λ x. p x && r x) xs ≤ count_by p xs
part-count p r [] = omega arith
part-count p r (x ∷ xs) = let had = part-count p r xs in grind (arith, nat_tests, common_steps)

-- what passes one test passes one of two others
sum-count : {X : Type 0} (p q r : X → Bool) → ((x : X) → cond {A = ℕ} (p x) 1 0 ≡ cond (q x) 1 0 + cond (r x) 1 0) → (xs : List X) → count_by p xs ≡ count_by q xs + count_by r xs
sum-count p q r each [] = omega arith
sum-count p q r each (x ∷ xs) =
    let rest = sum-count p q r each xs in
    let here = each x in
    let all = sum_by-cons (λ y. cond (p y) 1 0) x xs in
    let some = sum_by-cons (λ y. cond (q y) 1 0) x xs in
    let others = sum_by-cons (λ y. cond (r y) 1 0) x xs in
    omega (arith, here, rest, all, some, others)

-- all that pass a test are alike to a second one, where those are alike that pass a third, which all of them do
alike-count : {X : Type 0} (p r g : X → Bool) (v : Bool) → ((x : X) → p x ≡ true → r x ≡ true → g x ≡ v) → (xs : List X) → count_by p xs ≡ count_by (λ x. p x && r x) xs → count_by (λ x. p x && g x) xs ≡ cond v (count_by p xs) 0
alike-count p r g true alike [] e = refl
alike-count p r g false alike [] e = refl
alike-count {X} p r g v alike (x ∷ xs) e =
    let all = sum_by-cons (λ y. cond (p y) 1 0) x xs in
    let both = sum_by-cons (λ y. cond (p y && r y) 1 0) x xs in
    let asked = sum_by-cons (λ y. cond (p y && g y) 1 0) x xs in
    let few = part-count p r xs in
    let go : (a b : Bool) → p x ≡ a → r x ≡ b → cond a 1 0 + count_by p xs ≡ cond (a && b) 1 0 + count_by (λ x. p x && r x) xs → cond (a && g x) 1 0 + count_by (λ x. p x && g x) xs ≡ cond v (cond a 1 0 + count_by p xs) 0 =
    λ a b. elim a as (λ a. p x ≡ a → r x ≡ b → cond a 1 0 + count_by p xs ≡ cond (a && b) 1 0 + count_by (λ x. p x && r x) xs → cond (a && g x) 1 0 + count_by (λ x. p x && g x) xs ≡ cond v (cond a 1 0 + count_by p xs) 0) [
      | true ↦ elim b as (λ b. p x ≡ true → r x ≡ b → cond true 1 0 + count_by p xs ≡ cond (true && b) 1 0 + count_by (λ x. p x && r x) xs → cond (true && g x) 1 0 + count_by (λ x. p x && g x) xs ≡ cond v (cond true 1 0 + count_by p xs) 0) [
        | true ↦ λ yes also same.
            let rest = alike-count p r g v alike xs (omega (arith, same)) in
            ap (λ b. cond b 1 0 + count_by (λ x. p x && g x) xs) (alike x yes also) ∙ (ap (λ n. cond v 1 0 + n) rest ∙ joined v (count_by p xs))
        | false ↦ λ yes not same. absurd (omega (arith, same, few))
      ]
      | false ↦ λ out _ same.
          let rest = alike-count p r g v alike xs (omega (arith, same)) in
          ap (λ n. 0 + n) rest ∙ joined-none v (count_by p xs)
    ] in
    asked ∙ (go (p x) (r x) refl refl (sym all ∙ (e ∙ both)) ∙ ap (λ n. cond v n 0) (sym all))
  where
    joined : (v : Bool) (n : ℕ) → cond v 1 0 + cond v n 0 ≡ cond v (1 + n) 0
    joined true n = refl
    joined false n = refl

    joined-none : (v : Bool) (n : ℕ) → 0 + cond v n 0 ≡ cond v (0 + n) 0
    joined-none true n = refl
    joined-none false n = refl

-- a file whose place doesn't tell of pairs isn't one whose entries are among them
apart-from : (kins : List (ℕ × Kin)) (places : List Told) (file other at : ℕ) → Some at ≡ kin_place kins file → is_in_pairs (get_or places at Nowhere) ≡ false → are_listed kins places other ≡ true → (other == file) ≡ false
apart-from kins places file other at is out listed =
    never-true (other == file) (λ h.
    let there : are_listed kins places other ≡ is_in_pairs (get_or places at Nowhere) = ap (are_listed_at places) (ap (kin_place kins) (equal-from other file h) ∙ sym is) in
    clash (are_listed kins places other) listed (there ∙ out))

-- one more entry of a file whose entries are among the pairs
pub homes-pushed : (kins : List (ℕ × Kin)) (entries : List (Fact Entry)) (e : Fact Entry) (places : List Told) (pairs : List (ℕ × ℕ)) → does_count e ≡ true → are_listed kins places e.what.file_id ≡ true
    → HasHomes kins entries (places, pairs) → HasHomes kins (entries ++ e ∷ []) (places, pairs ++ pair_of e ∷ [])
homes-pushed kins entries e places pairs counts listed had =
    let unnamed : (file at : ℕ) → Some at ≡ kin_place kins file → is_in_pairs (get_or places at Nowhere) ≡ false → names_file file e ≡ false =
    λ file at is out. names-false e file (apart-from kins places file e.what.file_id at is out listed) in
    record {
      long = had.long;
      none = λ file at is told. count-skip (names_file file) entries e (unnamed file at is (ap is_in_pairs told)) ∙ had.none file at is told;
      one = λ file at is told. (
        count-skip (names_file file) entries e (unnamed file at is (ap is_in_pairs told)) ∙ (had.one file at is told).0,
        count-skip (is_home file (parent_at kins at)) entries e (home-false e file (parent_at kins at) (unnamed file at is (ap is_in_pairs told))) ∙ (had.one file at is told).1,
      );
      listed = λ test.
          let pairs-more = count-push test pairs (pair_of e) in
          let entries-more = count-push (λ (e : Fact Entry). is_listed kins places e && test (pair_of e)) entries e in
          let before = had.listed test in
          let here : cond {A = ℕ} (is_listed kins places e && test (pair_of e)) 1 0 ≡ cond (test (pair_of e)) 1 0 = ap (λ b. cond {A = ℕ} (b && test (pair_of e)) 1 0) (both-true (does_count e) (are_listed kins places e.what.file_id) counts listed) in
          omega (arith, pairs-more, entries-more, before, here);
    }

-- the first entry of a file, in the directory that its inode names
pub homes-first : (kins : List (ℕ × Kin)) (entries : List (Fact Entry)) (e : Fact Entry) (places : List Told) (pairs : List (ℕ × ℕ)) (at : ℕ) → does_count e ≡ true → Some at ≡ kin_place kins e.what.file_id
    → get_or places at Nowhere ≡ Nowhere → e.id ≡ parent_at kins at → HasHomes kins entries (places, pairs) → HasHomes kins (entries ++ e ∷ []) (set places at ByParent, pairs)
homes-first kins entries e places pairs at counts is empty parent had =
    let low : at < length places = let l = within kins e.what.file_id at is in let long = had.long in omega arith in
    let now : get_or (set places at ByParent) at Nowhere ≡ ByParent = get_or-set_same places at ByParent Nowhere low in
    let other-told : (k : ℕ) → (k ≡ at → ⊥) → get_or (set places at ByParent) k Nowhere ≡ get_or places k Nowhere = λ k other. get_or-set_other places at k ByParent Nowhere other in
    let unnamed : (file k : ℕ) → Some k ≡ kin_place kins file → (k ≡ at → ⊥) → names_file file e ≡ false = λ file k there other. names-false e file (differs kins e.what.file_id file at k is there other) in
    let unchanged : (f : ℕ) → are_listed kins (set places at ByParent) f ≡ are_listed kins places f = λ f. told-set (kin_place kins f) now other-told in
    record {
      long = length-set places at ByParent ∙ had.long;
      none = λ file k there told.
          elim (cases_eq k at) as (λ _. count_by (names_file file) (entries ++ e ∷ []) ≡ 0) [
            | inl same ↦ absurd (let no : ByParent ≡ Nowhere = sym now ∙ (ap (λ n. get_or (set places at ByParent) n Nowhere) (sym same) ∙ told) in cc)
            | inr other ↦ count-skip (names_file file) entries e (unnamed file k there other) ∙ had.none file k there (sym (other-told k other) ∙ told)
          ];
      one = λ file k there told.
          elim (cases_eq k at) as (λ _. (count_by (names_file file) (entries ++ e ∷ []) ≡ 1) × (count_by (is_home file (parent_at kins k)) (entries ++ e ∷ []) ≡ 1)) [
            | inl same ↦
                let its : e.what.file_id ≡ file = same-file kins e.what.file_id file at k is there (sym same) in
                let named : names_file file e ≡ true = both-true (does_count e) (e.what.file_id == file) counts (from-equal e.what.file_id file its) in
                let home : is_home file (parent_at kins k) e ≡ true = both-true (names_file file e) (e.id == parent_at kins k) named (from-equal e.id (parent_at kins k) (parent ∙ ap (parent_at kins) (sym same))) in
                let before = had.none file k there (ap (λ n. get_or places n Nowhere) same ∙ empty) in
                let few = part-count (names_file file) (λ (e : Fact Entry). e.id == parent_at kins k) entries in
                let all = count-more (names_file file) entries e named in
                let here = count-more (is_home file (parent_at kins k)) entries e home in
                (omega (arith, all, before), omega (arith, here, few, before))
            | inr other ↦
                let had-one = had.one file k there (sym (other-told k other) ∙ told) in (
                  count-skip (names_file file) entries e (unnamed file k there other) ∙ had-one.0,
                  count-skip (is_home file (parent_at kins k)) entries e (home-false e file (parent_at kins k) (unnamed file k there other)) ∙ had-one.1,
                )
          ];
      listed = λ test.
          had.listed test
          ∙ (sym (count-same (λ (e : Fact Entry). is_listed kins (set places at ByParent) e && test (pair_of e)) (λ (e : Fact Entry). is_listed kins places e && test (pair_of e)) (λ x. ap (λ b. (does_count x && b) && test (pair_of x)) (unchanged x.what.file_id)) entries)
          ∙ sym (count-skip (λ (e : Fact Entry). is_listed kins (set places at ByParent) e && test (pair_of e)) entries e
          (ap (λ b. (does_count e && b) && test (pair_of e)) (ap (are_listed_at (set places at ByParent)) (sym is) ∙ ap is_in_pairs now) ∙ ap (λ b. b && test (pair_of e)) (nothing (does_count e)))));
    }
  where
    told-set : (o : Option ℕ) → get_or (set places at ByParent) at Nowhere ≡ ByParent → ((k : ℕ) → (k ≡ at → ⊥) → get_or (set places at ByParent) k Nowhere ≡ get_or places k Nowhere) → are_listed_at (set places at ByParent) o ≡ are_listed_at places o
    told-set None now others = refl
    told-set (Some k) now others =
        elim (cases_eq k at) as (λ _. is_in_pairs (get_or (set places at ByParent) k Nowhere) ≡ is_in_pairs (get_or places k Nowhere)) [
          | inl same ↦ ap is_in_pairs (ap (λ n. get_or (set places at ByParent) n Nowhere) same ∙ now) ∙ sym (ap is_in_pairs (ap (λ n. get_or places n Nowhere) same ∙ empty))
          | inr other ↦ ap is_in_pairs (others k other)
        ]

-- the entries of a file among the pairs from now on: each test counts as many more pairs as it has entries
homes-told : (kins : List (ℕ × Kin)) (entries : List (Fact Entry)) (file : ℕ) (places : List Told) (pairs more : List (ℕ × ℕ)) (at : ℕ) → Some at ≡ kin_place kins file → is_in_pairs (get_or places at Nowhere) ≡ false
    → ((test : ℕ × ℕ → Bool) → count_by test more ≡ count_by test pairs + count_by (λ (e : Fact Entry). names_file file e && test (pair_of e)) entries) → HasHomes kins entries (places, pairs) → HasHomes kins entries (set places at InPairs, more)
homes-told kins entries file places pairs more at is out grows had =
    let low : at < length places = let l = within kins file at is in let long = had.long in omega arith in
    let now : get_or (set places at InPairs) at Nowhere ≡ InPairs = get_or-set_same places at InPairs Nowhere low in
    let other-told : (k : ℕ) → (k ≡ at → ⊥) → get_or (set places at InPairs) k Nowhere ≡ get_or places k Nowhere = λ k other. get_or-set_other places at k InPairs Nowhere other in
    let apart : (k : ℕ) (told : Told) → get_or (set places at InPairs) k Nowhere ≡ told → is_in_pairs told ≡ false → k ≡ at → ⊥ =
    λ k told e out-of same. clash (is_in_pairs told) (sym (ap is_in_pairs e) ∙ (ap (λ n. is_in_pairs (get_or (set places at InPairs) n Nowhere)) same ∙ ap is_in_pairs now)) out-of in
    record {
      long = length-set places at InPairs ∙ had.long;
      none = λ other k there told. had.none other k there (sym (other-told k (apart k Nowhere told refl)) ∙ told);
      one = λ other k there told. had.one other k there (sym (other-told k (apart k ByParent told refl)) ∙ told);
      listed = λ test.
          let sums = sum-count (λ (e : Fact Entry). is_listed kins (set places at InPairs) e && test (pair_of e)) (λ (e : Fact Entry). is_listed kins places e && test (pair_of e)) (λ (e : Fact Entry). names_file file e && test (pair_of e))
          (λ e. split-cond (does_count e) (are_listed kins (set places at InPairs) e.what.file_id) (are_listed kins places e.what.file_id) (e.what.file_id == file) (test (pair_of e)) (its e.what.file_id now) (others e.what.file_id other-told)) entries in
          let before = had.listed test in
          let grown = grows test in
          omega (arith, sums, before, grown);
    }
  where
    place-of : (f : ℕ) → (f == file) ≡ true → kin_place kins f ≡ Some at
    place-of f h = ap (kin_place kins) (equal-from f file h) ∙ sym is

    its : (f : ℕ) → get_or (set places at InPairs) at Nowhere ≡ InPairs → (f == file) ≡ true → (are_listed kins (set places at InPairs) f ≡ true) × (are_listed kins places f ≡ false)
    its f now h = (ap (are_listed_at (set places at InPairs)) (place-of f h) ∙ ap is_in_pairs now, ap (are_listed_at places) (place-of f h) ∙ out)

    others : (f : ℕ) → ((k : ℕ) → (k ≡ at → ⊥) → get_or (set places at InPairs) k Nowhere ≡ get_or places k Nowhere) → (f == file) ≡ false → are_listed kins (set places at InPairs) f ≡ are_listed kins places f
    others f stay out-of =
        let go : (o : Option ℕ) → o ≡ kin_place kins f → are_listed_at (set places at InPairs) o ≡ are_listed_at places o =
        λ o. elim o as (λ o. o ≡ kin_place kins f → are_listed_at (set places at InPairs) o ≡ are_listed_at places o) [
          | None ↦ λ _. refl
          | Some k ↦ λ there. ap is_in_pairs (stay k (λ same. clash (f == file) (from-equal f file (same-file kins f file k at there is same)) out-of))
        ] in
        go (kin_place kins f) refl

    first : (c t : Bool) → cond {A = ℕ} ((c && false) && t) 1 0 + cond ((c && true) && t) 1 0 ≡ cond ((c && true) && t) 1 0
    first true true = refl
    first true false = refl
    first false t = refl

    second : (c m t : Bool) → cond {A = ℕ} ((c && m) && t) 1 0 + cond ((c && false) && t) 1 0 ≡ cond ((c && m) && t) 1 0
    second true true true = refl
    second true true false = refl
    second true false t = refl
    second false m t = refl

    split-cond : (c l m n t : Bool) → (n ≡ true → (l ≡ true) × (m ≡ false)) → (n ≡ false → l ≡ m) → cond {A = ℕ} ((c && l) && t) 1 0 ≡ cond ((c && m) && t) 1 0 + cond ((c && n) && t) 1 0
    split-cond c l m true t same other = ap (λ b. cond {A = ℕ} ((c && b) && t) 1 0) (same refl).0 ∙ sym (ap (λ b. cond {A = ℕ} ((c && b) && t) 1 0 + cond ((c && true) && t) 1 0) (same refl).1 ∙ first c t)
    split-cond c l m false t same other = ap (λ b. cond {A = ℕ} ((c && b) && t) 1 0) (other refl) ∙ sym (second c m t)

-- where the file has none, the pairs stay
pub homes-told-none : (kins : List (ℕ × Kin)) (entries : List (Fact Entry)) (file : ℕ) (places : List Told) (pairs : List (ℕ × ℕ)) (at : ℕ) → Some at ≡ kin_place kins file → get_or places at Nowhere ≡ Nowhere
    → HasHomes kins entries (places, pairs) → HasHomes kins entries (set places at InPairs, pairs)
homes-told-none kins entries file places pairs at is told had =
    homes-told kins entries file places pairs pairs at is (ap is_in_pairs told)
    (λ test. let none = had.none file at is told in let few = part-count (names_file file) (λ (e : Fact Entry). test (pair_of e)) entries in omega (arith, none, few)) had

-- and where it has one, in its inode's parent, that one is added
pub homes-told-one : (kins : List (ℕ × Kin)) (entries : List (Fact Entry)) (file : ℕ) (places : List Told) (pairs : List (ℕ × ℕ)) (at : ℕ) → Some at ≡ kin_place kins file → get_or places at Nowhere ≡ ByParent
    → HasHomes kins entries (places, pairs) → HasHomes kins entries (set places at InPairs, pairs ++ (file, parent_at kins at) ∷ [])
homes-told-one kins entries file places pairs at is told had =
    let one = had.one file at is told in
    homes-told kins entries file places pairs (pairs ++ (file, parent_at kins at) ∷ []) at is (ap is_in_pairs told)
    (λ test.
    let pair : ℕ × ℕ = (file, parent_at kins at) in
    let pushed = count-push test pairs pair in
    let alike = alike-count (names_file file) (λ (e : Fact Entry). e.id == parent_at kins at) (λ (e : Fact Entry). test (pair_of e)) (test pair) (λ e named here. ap test (paired e named here)) entries (one.0 ∙ sym one.1) in
    let single : cond {A = ℕ} (test pair) (count_by (names_file file) entries) 0 ≡ cond (test pair) 1 0 = ap (λ n. cond {A = ℕ} (test pair) n 0) one.0 in
    omega (arith, pushed, alike, single)) had
  where
    paired : (e : Fact Entry) → names_file file e ≡ true → (e.id == parent_at kins at) ≡ true → pair_of e ≡ (file, parent_at kins at)
    paired e named here =
        let its : e.what.file_id ≡ file = equal-from e.what.file_id file (right-true (does_count e) (e.what.file_id == file) named) in
        let there : e.id ≡ parent_at kins at = equal-from e.id (parent_at kins at) here in
        λ i. (its i, there i)

-- what is written to all of a list
pub written-back : {X : Type 0} (xs ys : List X) (n : ℕ) → n ≡ length xs → take n (xs ++ ys) ≡ xs
written-back xs ys n all = ap (λ n. take n (xs ++ ys)) all ∙ take-append_seam xs ys

-- the pairs in another order
pub homes-sorted : (kins : List (ℕ × Kin)) (entries : List (Fact Entry)) (places : List Told) (pairs sorted : List (ℕ × ℕ)) → ((test : ℕ × ℕ → Bool) → count_by test sorted ≡ count_by test pairs)
    → HasHomes kins entries (places, pairs) → HasHomes kins entries (places, sorted)
homes-sorted kins entries places pairs sorted same had = record { long = had.long; none = had.none; one = had.one; listed = λ test. same test ∙ had.listed test }

pub find-none : {X : Type 0} (p : X → Bool) (xs : List X) → find p xs ≡ None → count_by p xs ≡ 0
find-none p [] e = refl
find-none {X} p (x ∷ xs) e =
    let go : (b : Bool) → cond b (Some x) (find p xs) ≡ None → cond b 1 0 + count_by p xs ≡ 0 =
    λ b. elim b as (λ b. cond b (Some x) (find p xs) ≡ None → cond b 1 0 + count_by p xs ≡ 0) [
      | true ↦ λ f. absurd (let r : ⊥ = cc in r)
      | false ↦ λ f. let rest = find-none p xs f in omega (arith, rest)
    ] in
    sum_by-cons (λ y. cond (p y) 1 0) x xs ∙ go (p x) e

-- the pairs of a file that has none
pub pairs-none : (pairs : List (ℕ × ℕ)) (file : ℕ) → None ≡ position (is_file file) pairs → IsHomeIn pairs file no_home
pairs-none pairs file e = (sym (find-none (is_file file) pairs (found-nowhere (is_file file) pairs e)), λ above. absurd (omega arith))

-- and of one that has some
pub pairs-some : (pairs : List (ℕ × ℕ)) (file at n : ℕ) → Some at ≡ position (is_file file) pairs → n ≡ count_by (is_file file) pairs
    → IsHomeIn pairs file (record { entries = n; directory = (get_or pairs at (0, 0)).1 })
pairs-some pairs file at n e counted =
    let p : ℕ × ℕ = get_or pairs at (0, 0) in
    let t = position-Some (is_file file) pairs at (0, 0) (sym e) in
    (counted, λ above. some-count (is_place file p.1) pairs at (0, 0) t.0 (both-true (p.0 == file) (p.1 == p.1) t.1 (from-equal p.1 p.1 refl)))

-- the home of a file whose entries are among the pairs
pub home-among : (kins : List (ℕ × Kin)) (entries : List (Fact Entry)) (homes : List Told × List (ℕ × ℕ)) (file : ℕ) (home : Home) → are_listed kins homes.0 file ≡ true → IsHomeIn homes.1 file home → HasHomes kins entries homes → IsHomeOf entries file home
home-among kins entries homes file home there among had =
    let listed : (e : Fact Entry) → (e.what.file_id == file) ≡ true → are_listed kins homes.0 e.what.file_id ≡ true = λ e h. ap (are_listed kins homes.0) (equal-from e.what.file_id file h) ∙ there in
    let all : count_by (is_file file) homes.1 ≡ count_by (names_file file) entries =
    had.listed (is_file file)
    ∙ count-same (λ (e : Fact Entry). is_listed kins homes.0 e && is_file file (pair_of e)) (names_file file) (λ e. dropped (does_count e) (are_listed kins homes.0 e.what.file_id) (e.what.file_id == file) (listed e)) entries in
    let here : count_by (is_place file home.directory) homes.1 ≡ count_by (is_home file home.directory) entries =
    had.listed (is_place file home.directory)
    ∙ count-same (λ (e : Fact Entry). is_listed kins homes.0 e && is_place file home.directory (pair_of e)) (is_home file home.directory) (λ e.
    regrouped (does_count e) (are_listed kins homes.0 e.what.file_id) (e.what.file_id == file) (e.id == home.directory) (listed e)) entries in
    (among.0 ∙ all, λ above. let some = among.1 above in omega (arith, here, some))
  where
    dropped : (a n b : Bool) → (b ≡ true → n ≡ true) → ((a && n) && b) ≡ (a && b)
    dropped false n b h = refl
    dropped true true b h = refl
    dropped true false true h = clash false (h refl) refl
    dropped true false false h = refl

    regrouped : (a n b c : Bool) → (b ≡ true → n ≡ true) → ((a && n) && (b && c)) ≡ ((a && b) && c)
    regrouped false n b c h = refl
    regrouped true true b c h = refl
    regrouped true false true c h = clash false (h refl) refl
    regrouped true false false c h = refl

-- a home of one entry tells where it stands
pub only-home : (entries : List (Fact Entry)) (file : ℕ) (home : Home) → home.entries ≡ 1 → IsHomeOf entries file home → IsOnlyHome entries file (Some home.directory)
only-home entries file home one is =
    let counted = is.0 in
    let some = is.1 (omega arith) in
    let few = part-count (names_file file) (λ (e : Fact Entry). e.id == home.directory) entries in
    (omega (arith, counted), omega (arith, counted, some, few))

-- and another that there isn't one alone
pub no-only-home : (entries : List (Fact Entry)) (file : ℕ) (home : Home) → (home.entries ≡ 1 → ⊥) → IsHomeOf entries file home → IsOnlyHome entries file None
no-only-home entries file home other is = λ one. other (is.0 ∙ one)

-- no file has two entries where there are no pairs
pub single-entries : (kins : List (ℕ × Kin)) (entries : List (Fact Entry)) (homes : List Told × List (ℕ × ℕ)) → homes.1 ≡ [] → HasHomes kins entries homes → (file : ℕ) → count_by (names_file file) entries ≤ 1
single-entries kins entries homes none had file = go (kin_place kins file) refl
  where
    unlisted : are_listed kins homes.0 file ≡ true → count_by (names_file file) entries ≤ 1
    unlisted there =
        let nothing : IsHomeIn homes.1 file no_home = subst (λ (pairs : List (ℕ × ℕ)). IsHomeIn pairs file no_home) (sym none) (pairs-none [] file refl) in
        let counted = (home-among kins entries homes file no_home there nothing had).0 in
        omega (arith, counted)

    at-place : (at : ℕ) → Some at ≡ kin_place kins file → (told : Told) → get_or homes.0 at Nowhere ≡ told → count_by (names_file file) entries ≤ 1
    at-place at is Nowhere told = let none = had.none file at is told in omega (arith, none)
    at-place at is ByParent told = let one = (had.one file at is told).0 in omega (arith, one)
    at-place at is InPairs told = unlisted (ap (are_listed_at homes.0) (sym is) ∙ ap is_in_pairs told)

    go : (o : Option ℕ) → o ≡ kin_place kins file → count_by (names_file file) entries ≤ 1
    go None is = unlisted (ap (are_listed_at homes.0) (sym is))
    go (Some at) is = at-place at is (get_or homes.0 at Nowhere) refl
