-- The entry that a name takes, by its number.
use Rattle.std.proofs.Common.{◌≡◌, ℕ, zero, suc, ◌<◌, Bool, true, false, cond, List, [], ◌∷◌, length, Option, Some, None, inl, inr, refl, ap, sym, ◌∙◌, arith, get_or}
use Rattle.std.specs.Prelude.{filter, slice_get, option_map, nat_lt, ◌==◌}
use Rattle.std.specs.List.{find, position, position_or_len}
use Rattle.std.specs.Option.{option_or}
use Rattle.std.proofs.lemmas.Bool.{lt-ltb, le-ltb}
use Rattle.std.proofs.lemmas.List.Sums.{position_or_len_is}
use Rattle.fs_name.specs.declared.naming.Names.{Names}
use Rattle.fs_record.specs.Entries.{Entry}
use Rattle.fs_record.specs.Facts.{Fact, all_for, is_reserved}
use Rattle.view_rules.specs.Facts.{Facts}
use Rattle.path_search.specs.Found.{entries_in, has_name, has_form, entry_named, number_named}
use Rattle.path_search.specs.Parts.{whats, is_wanted}
use Rattle.path_search.specs.declared.search.Wanted.TheVariants.{All}
use Rattle.apfs_model.proofs.BoolTests.{equal-from}
use Rattle.path_search.proofs.Laws.{placed-as-found, number_of_the_entry}

none-found : {X : Type 0} (p : X → Bool) (xs : List X) → position p xs ≡ None → find p xs ≡ None
none-found p xs e = elim (placed-as-found p xs) as (λ _. find p xs ≡ None) [
  | inl (k, x, at_k, there, here) ↦ absurd cc
  | inr (at_none, gone) ↦ gone
]

none-either : (a b : Option ℕ) → option_or a b ≡ None → (a ≡ None) × (b ≡ None)
none-either None b e = (refl, e)
none-either (Some x) b e = absurd cc

-- no entry is taken where none has a number
pub chosen_none : (names : Names) (name : List ℕ) (es : List Entry) → None ≡ number_named names name es → None ≡ entry_named names name es
unfolding number_named entry_named
chosen_none names name es e =
    let t = none-either (position (has_name name) es) (position (has_form names name) es) (sym e) in
    sym (ap (λ (o : Option Entry). option_or o (find (has_form names name) es)) (none-found (has_name name) es t.0) ∙ none-found (has_form names name) es t.1)

get-what : (fs : List (Fact Entry)) (i : ℕ) → slice_get (whats fs) i ≡ option_map (λ (f : Fact Entry). f.what) (slice_get fs i)
get-what [] i = refl
get-what (f ∷ fs) zero = refl
get-what (f ∷ fs) (suc i) = get-what fs i

get-at : (fs : List (Fact Entry)) (i : ℕ) (d : Fact Entry) → i < length fs → slice_get fs i ≡ Some (get_or fs i d)
get-at [] i d low = absurd (omega arith)
get-at (f ∷ fs) zero d low = refl
get-at (f ∷ fs) (suc i) d low = get-at fs i d (omega arith)

-- the entry that is taken is the one of this number
pub chosen_some : (names : Names) (name : List ℕ) (fs : List (Fact Entry)) (i : ℕ) (e : Fact Entry) → Some i ≡ number_named names name (whats fs) → i < length fs → e ≡ get_or fs i e → Some e.what ≡ entry_named names name (whats fs)
chosen_some names name fs i e named low at =
    ap (λ (f : Fact Entry). Some f.what) at ∙ (sym (ap (option_map (λ (f : Fact Entry). f.what)) (get-at fs i e low)) ∙ (sym (get-what fs i) ∙ number_of_the_entry names name (whats fs) i (sym named)))

what-at : (fs : List (Fact Entry)) (k : ℕ) (d : Fact Entry) → get_or (whats fs) k d.what ≡ (get_or fs k d).what
what-at [] k d = refl
what-at (f ∷ fs) zero d = refl
what-at (f ∷ fs) (suc k) d = what-at fs k d

what-length : (fs : List (Fact Entry)) → length (whats fs) ≡ length fs
what-length [] = refl
what-length (f ∷ fs) = ap suc (what-length fs)

-- the number of the first entry that passes a test
pub first_passing : (p : Entry → Bool) (fs : List (Fact Entry)) (i : ℕ) (d : Fact Entry) → i < length fs → ((k : ℕ) → k < i → p (get_or fs k d).what ≡ false) → p (get_or fs i d).what ≡ true → position p (whats fs) ≡ Some i
first_passing p fs i d low before here =
    let all : length (whats fs) ≡ length fs = what-length fs in
    let at : position_or_len p (whats fs) ≡ i = position_or_len_is p (whats fs) i d.what (omega arith) (λ k h. ap p (what-at fs k d) ∙ before k h) (λ h. ap p (what-at fs i d) ∙ here) in
    ap (λ n. cond (nat_lt n (length (whats fs))) (Some n) None) at ∙ ap (λ b. cond b (Some i) None) (lt-ltb i (length (whats fs)) (omega arith))

none-all : (p : Entry → Bool) (fs : List (Fact Entry)) (d : Fact Entry) → ((k : ℕ) → k < length fs → p (get_or fs k d).what ≡ false) → position p (whats fs) ≡ None
none-all p fs d before =
    let all : length (whats fs) ≡ length fs = what-length fs in
    let at : position_or_len p (whats fs) ≡ length (whats fs) = position_or_len_is p (whats fs) (length (whats fs)) d.what (omega arith) (λ k h. ap p (what-at fs k d) ∙ before k (omega arith)) (λ h. absurd (omega arith)) in
    ap (λ n. cond (nat_lt n (length (whats fs))) (Some n) None) at ∙ ap (λ b. cond b (Some (length (whats fs))) None) (le-ltb (length (whats fs)) (length (whats fs)) (omega arith))

-- and no number where none does
pub none_passing : (p : Entry → Bool) (fs : List (Fact Entry)) → ((k : ℕ) (d : Fact Entry) → k < length fs → p (get_or fs k d).what ≡ false) → position p (whats fs) ≡ None
none_passing p [] before = refl
none_passing p (f ∷ fs) before = none-all p (f ∷ fs) f (λ k low. before k f low)

-- ---- the entry that a name takes among those that are kept
-- each entry is kept
pub all_wanted : (names : Names) (es : List Entry) → filter (is_wanted names All) es ≡ es
all_wanted names [] = refl
all_wanted names (e ∷ es) = ap (λ l. e ∷ l) (all_wanted names es)

-- the first one that passes a test is the first of those that pass it
first-kept : {X : Type 0} (p : X → Bool) (xs : List X) → find p (filter p xs) ≡ find p xs
first-kept p [] = refl
first-kept {X} p (x ∷ xs) =
    let rest : find p (filter p xs) ≡ find p xs = first-kept p xs in
    let go : (b : Bool) → p x ≡ b → find p (cond b (x ∷ filter p xs) (filter p xs)) ≡ cond b (Some x) (find p xs) = λ b. elim b as (λ b. p x ≡ b → find p (cond b (x ∷ filter p xs) (filter p xs)) ≡ cond b (Some x) (find p xs)) [
      | true ↦ λ here. ap (λ (t : Bool). cond t (Some x) (find p (filter p xs))) here
      | false ↦ λ here. rest
    ] in
    go (p x) refl

-- where none passes none is kept, and the other way round
none-kept : {X : Type 0} (p : X → Bool) (xs : List X) → find p xs ≡ None → filter p xs ≡ []
none-kept p [] e = refl
none-kept {X} p (x ∷ xs) e =
    let go : (b : Bool) → cond b (Some x) (find p xs) ≡ None → cond b (x ∷ filter p xs) (filter p xs) ≡ [] = λ b. elim b as (λ b. cond b (Some x) (find p xs) ≡ None → cond b (x ∷ filter p xs) (filter p xs) ≡ []) [
      | true ↦ λ h. absurd cc
      | false ↦ λ h. none-kept p xs h
    ] in
    go (p x) e

none-passes : {X : Type 0} (p : X → Bool) (xs : List X) → filter p xs ≡ [] → find p xs ≡ None
none-passes p [] e = refl
none-passes {X} p (x ∷ xs) e =
    let go : (b : Bool) → cond b (x ∷ filter p xs) (filter p xs) ≡ [] → cond b (Some x) (find p xs) ≡ None = λ b. elim b as (λ b. cond b (x ∷ filter p xs) (filter p xs) ≡ [] → cond b (Some x) (find p xs) ≡ None) [
      | true ↦ λ h. absurd cc
      | false ↦ λ h. none-passes p xs h
    ] in
    go (p x) e

-- where none passes, none of those that are kept by another test does
none-among : {X : Type 0} (p q : X → Bool) (xs : List X) → find p xs ≡ None → find p (filter q xs) ≡ None
none-among p q [] e = refl
none-among {X} p q (x ∷ xs) e =
    let go : (a b : Bool) → p x ≡ a → cond a (Some x) (find p xs) ≡ None → find p (cond b (x ∷ filter q xs) (filter q xs)) ≡ None = λ a b. elim a as (λ a. p x ≡ a → cond a (Some x) (find p xs) ≡ None → find p (cond b (x ∷ filter q xs) (filter q xs)) ≡ None) [
      | true ↦ λ here h. absurd cc
      | false ↦ λ here h. elim b as (λ b. find p (cond b (x ∷ filter q xs) (filter q xs)) ≡ None) [
        | true ↦ ap (λ (t : Bool). cond t (Some x) (find p (filter q xs))) here ∙ none-among p q xs h
        | false ↦ none-among p q xs h
      ]
    ] in
    go (p x) (q x) refl e

-- among the entries of a name's bytes, where there are any, the name takes the entry that it takes among all
pub named_same : (names : Names) (name : List ℕ) (es kept : List Entry) → kept ≡ filter (has_name name) es → (length kept == 0) ≡ false → entry_named names name kept ≡ entry_named names name es
unfolding entry_named
named_same names name es kept same some =
    let go : (o : Option Entry) → find (has_name name) es ≡ o → option_or (find (has_name name) kept) (find (has_form names name) kept) ≡ option_or (find (has_name name) es) (find (has_form names name) es) =
    λ o. elim o as (λ o. find (has_name name) es ≡ o → option_or (find (has_name name) kept) (find (has_form names name) kept) ≡ option_or (find (has_name name) es) (find (has_form names name) es)) [
      | None ↦ λ e. let gone : kept ≡ [] = same ∙ none-kept (has_name name) es e in absurd (let h : (length kept == 0) ≡ true = ap (λ (l : List Entry). length l == 0) gone in cc)
      | Some x ↦ λ e.
          ap (λ (o : Option Entry). option_or o (find (has_form names name) kept)) (ap (find (has_name name)) same ∙ (first-kept (has_name name) es ∙ e))
          ∙ sym (ap (λ (o : Option Entry). option_or o (find (has_form names name) es)) e)
    ] in
    go (find (has_name name) es) refl

-- where none has its bytes, it takes the one that it takes among those of its normal form
pub named_alike : (names : Names) (name : List ℕ) (es none kept : List Entry) → none ≡ filter (has_name name) es → (length none == 0) ≡ true → kept ≡ filter (has_form names name) es → entry_named names name kept ≡ entry_named names name es
unfolding entry_named
named_alike names name es none kept lacks empty same =
    let lacking : find (has_name name) es ≡ None = none-passes (has_name name) es (sym lacks ∙ no-items none (equal-from (length none) 0 empty)) in
    ap (λ (o : Option Entry). option_or o (find (has_form names name) kept)) (ap (find (has_name name)) same ∙ none-among (has_name name) (has_form names name) es lacking)
    ∙ ((ap (find (has_form names name)) same ∙ first-kept (has_form names name) es)
    ∙ sym (ap (λ (o : Option Entry). option_or o (find (has_form names name) es)) lacking))
  where
    no-items : (xs : List Entry) → length xs ≡ 0 → xs ≡ []
    no-items [] e = refl
    no-items (x ∷ xs) e = absurd (omega arith)

-- ---- of the entries of a directory
what-empty : (fs : List (Fact Entry)) (b : Bool) → (length fs == 0) ≡ b → (length (whats fs) == 0) ≡ b
what-empty fs b e = ap (λ (n : ℕ). n == 0) (what-length fs) ∙ e

listed-all : (facts : Facts) (id : ℕ) → is_reserved id ≡ false → entries_in facts id ≡ all_for id facts.entries
unfolding entries_in
listed-all facts id counts = ap (λ (b : Bool). cond b [] (all_for id facts.entries)) counts

pub directory_all : (facts : Facts) (id : ℕ) (es : List Entry) → is_reserved id ≡ false → es ≡ filter (is_wanted facts.names All) (all_for id facts.entries) → es ≡ entries_in facts id
directory_all facts id es counts e = e ∙ (all_wanted facts.names (all_for id facts.entries) ∙ sym (listed-all facts id counts))

pub among_same : (facts : Facts) (id : ℕ) (name : List ℕ) (fs : List (Fact Entry)) → is_reserved id ≡ false → whats fs ≡ filter (has_name name) (all_for id facts.entries) → (length fs == 0) ≡ false → entry_named facts.names name (whats fs) ≡ entry_named facts.names name (entries_in facts id)
among_same facts id name fs counts kept some =
    named_same facts.names name (all_for id facts.entries) (whats fs) kept (what-empty fs false some) ∙ ap (entry_named facts.names name) (sym (listed-all facts id counts))

pub among_alike : (facts : Facts) (id : ℕ) (name : List ℕ) (none fs : List (Fact Entry)) → is_reserved id ≡ false → whats none ≡ filter (has_name name) (all_for id facts.entries) → (length none == 0) ≡ true → whats fs ≡ filter (has_form facts.names name) (all_for id facts.entries) →
    entry_named facts.names name (whats fs) ≡ entry_named facts.names name (entries_in facts id)
among_alike facts id name none fs counts lacks empty kept =
    named_alike facts.names name (all_for id facts.entries) (whats none) (whats fs) lacks (what-empty none true empty) kept ∙ ap (entry_named facts.names name) (sym (listed-all facts id counts))
