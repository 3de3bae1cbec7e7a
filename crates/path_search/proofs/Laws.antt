-- What the definitions promise of a view that meets its rules, and of every view.
use Rattle.std.proofs.Common.{◌≡◌, ℕ, zero, suc, ◌+◌, ◌≤◌, ◌<◌, Bool, true, false, cond, List, [], ◌∷◌, length, Option, Some, None, Result, Ok, Err, ◌⊎◌, inl, inr, refl, ap, sym, ◌∙◌, subst, arith}
use Rattle.std.specs.Prelude.{is_some, option_map, not, ◌&&◌, slice_get}
use Rattle.std.specs.List.{find, position, position_or_len}
use Rattle.std.specs.Option.{option_or, ok_or}
use Rattle.std.proofs.lemmas.Bool.{cases_lt, lt-ltb, le-ltb}
use Rattle.apfs_model.specs.Lists.{In, and_then, passes}
use Rattle.fs_name.specs.declared.naming.Names.{Names}
use Rattle.fs_record.specs.Entries.{Entry}
use Rattle.fs_record.specs.Facts.{Fact, is_reserved}
use Rattle.view_rules.specs.Facts.{Facts, inode_at, has_inode, is_directory, does_count}
use Rattle.view_rules.specs.Entries.{lacks_inode, HasFiles}
use Rattle.apfs_model.proofs.Searches.{get-in}
use Rattle.path_search.specs.Paths.{components}
use Rattle.path_search.specs.Places.{Place, placed, root_of}
use Rattle.path_search.specs.Found.{entries_in, has_name, has_form, entry_named, place_by, followed, step, walk, found, number_named}
use Rattle.path_search.specs.Listing.{listing}
use Rattle.path_search.specs.declared.answer.Answer.{Answer}
use Rattle.path_search.specs.declared.answer.Answer.TheVariants.{NotFound, NotDirectory}
use Rattle.apfs_model.proofs.BoolTests.{false-not, not-false}
use Rattle.path_search.proofs.Tallies.{tally, tally-is, tally-cons, tally-in}
use Rattle.path_search.proofs.Entries.{in-entries}

-- ---- inodes
some-value : {X : Type 0} (o : Option X) → is_some o ≡ true → (x : X) × (o ≡ Some x)
some-value None e = absurd cc
some-value (Some x) e = (x, refl)

pub passing : {X : Type 0} (o : Option X) (test : X → Bool) → passes o test ≡ true → (x : X) × ((o ≡ Some x) × (test x ≡ true))
passing None test e = absurd cc
passing (Some x) test e = (x, (refl, e))

-- where a view has its files, each entry that is followed or listed has a place
pub entry_has_place : (facts : Facts) → HasFiles facts → (id : ℕ) (e : Entry) → In e (entries_in facts id) → (place : Place) × (place_by facts e ≡ Some place)
unfolding lacks_inode
entry_has_place facts files id e h =
    let t = in-entries facts id e h in
    let f : Fact Entry = t.0 in
    let counts : does_count f ≡ true = false-not (is_reserved f.id) (ap is_reserved t.1.1 ∙ t.1.3) in
    let fine : has_inode facts f.what.file_id ≡ true = not-false (has_inode facts f.what.file_id) (sym (ap (λ b. b && not (has_inode facts f.what.file_id)) counts) ∙ files f t.1.0) in
    let same : f.what ≡ e = t.1.2 in
    let here : has_inode facts e.file_id ≡ true = sym (ap (λ (w : Entry). has_inode facts w.file_id) same) ∙ fine in
    let u = some-value (inode_at facts e.file_id) here in
    (placed e.file_id e.name u.0, ap (option_map (placed e.file_id e.name)) u.1)

-- ---- answers
pub err-same : {T : Type 0} (a b : Answer) → ◌≡◌ {A = Result T Answer} (Err a) (Err b) → a ≡ b
err-same a b e = cc

pub ok-err : {T : Type 0} (x : T) (a : Answer) → ◌≡◌ {A = Result T Answer} (Ok x) (Err a) → ⊥
ok-err x a e = absurd cc

-- the answers of a path
abbrev pub IsPathAnswer : Answer → Type 0
IsPathAnswer a = (a ≡ NotFound) ⊎ (a ≡ NotDirectory)

-- an answer of two steps is one of the first, or one of the second
pub answers_then : {T U : Type 0} (P : Answer → Type 0) (r : Result T Answer) (next : T → Result U Answer) → ((a : Answer) → r ≡ Err a → P a) → ((x : T) (a : Answer) → next x ≡ Err a → P a) → (a : Answer) → and_then r next ≡ Err a → P a
answers_then P (Ok x) next f g a e = g x a e
answers_then P (Err b) next f g a e = subst P (err-same b a e) (f b refl)

lacking : {T : Type 0} (o : Option T) (a : Answer) → ok_or o NotFound ≡ Err a → IsPathAnswer a
lacking None a e = inl (sym (err-same NotFound a e))
lacking (Some x) a e = absurd (ok-err x a e)

followed-answers : (facts : Facts) (o : Option Entry) (a : Answer) → followed facts o ≡ Err a → IsPathAnswer a
followed-answers facts None a e = inl (sym (err-same NotFound a e))
followed-answers facts (Some x) a e = lacking (place_by facts x) a e

step-answers : (facts : Facts) (place : Place) (name : List ℕ) (a : Answer) → step facts place name ≡ Err a → IsPathAnswer a
step-answers facts place name a e =
    let next : Result Place Answer = followed facts (entry_named facts.names name (entries_in facts place.id)) in
    let go : (b : Bool) → cond b (Err NotDirectory) next ≡ Err a → IsPathAnswer a = λ b. elim b as (λ b. cond b (Err NotDirectory) next ≡ Err a → IsPathAnswer a) [
      | true ↦ λ h. inr (sym (err-same NotDirectory a h))
      | false ↦ λ h. followed-answers facts (entry_named facts.names name (entries_in facts place.id)) a h
    ] in
    go (not (is_directory place.inode)) e

walk-answers : (facts : Facts) (names : List (List ℕ)) (place : Place) (a : Answer) → walk facts names place ≡ Err a → IsPathAnswer a
walk-answers facts [] place a e = absurd (ok-err place a e)
walk-answers facts (name ∷ names) place a e = answers_then IsPathAnswer (step facts place name) (λ next. walk facts names next) (step-answers facts place name) (λ next b h. walk-answers facts names next b h) a e

pub found_answers : (facts : Facts) (path : List ℕ) (a : Answer) → found facts path ≡ Err a → IsPathAnswer a
unfolding found
found_answers facts path a e = answers_then IsPathAnswer (ok_or (root_of facts) NotFound) (λ root. walk facts (components path) root) (λ b h. lacking (root_of facts) b h) (λ root b h. walk-answers facts (components path) root b h) a e

-- what is answered of a listing is answered of the path
pub listing_answers : (facts : Facts) (path : List ℕ) (a : Answer) → listing facts path ≡ Err a → IsPathAnswer a
listing_answers facts path a e = answers_then IsPathAnswer (found facts path) _ (found_answers facts path) (λ place b h. absurd (ok-err _ b h)) a e

-- ---- listings
-- what is listed of a path that leads to no directory is the one target

-- ---- names
some-equal : (a b : ℕ) → ◌≡◌ {A = Option ℕ} (Some a) (Some b) → a ≡ b
some-equal a b e = cc

some-none : (a : ℕ) → ◌≡◌ {A = Option ℕ} (Some a) None → ⊥
some-none a e = absurd cc

pub two-in : {X : Type 0} (p : X → Bool) (xs : List X) (i j : ℕ) (x y : X) → slice_get xs i ≡ Some x → slice_get xs j ≡ Some y → p x ≡ true → p y ≡ true → (i ≡ j → ⊥) → 2 ≤ tally p xs
two-in p [] i j x y e f px py n = absurd cc
two-in p (z ∷ zs) zero zero x y e f px py n = absurd (n refl)
two-in {X} p (z ∷ zs) zero (suc j) x y e f px py n =
    let s : z ≡ x = cc in
    let a = tally-in p (z ∷ []) z (inl refl) (ap p s ∙ px) in
    let b = tally-in p zs y (get-in zs j y f) py in
    let c = tally-cons p z zs in let d = tally-cons p z [] in let k = tally-is p [] in omega arith
two-in {X} p (z ∷ zs) (suc i) zero x y e f px py n =
    let s : z ≡ y = cc in
    let a = tally-in p (z ∷ []) z (inl refl) (ap p s ∙ py) in
    let b = tally-in p zs x (get-in zs i x e) px in
    let c = tally-cons p z zs in let d = tally-cons p z [] in let k = tally-is p [] in omega arith
two-in p (z ∷ zs) (suc i) (suc j) x y e f px py n =
    let a = two-in p zs i j x y e f px py (λ s. n (ap suc s)) in
    let c = tally-cons p z zs in omega arith

-- what stands at the first place that passes is what is found
at-place : {X : Type 0} (p : X → Bool) (xs : List X) → slice_get xs (position_or_len p xs) ≡ find p xs
at-place p [] = refl
at-place {X} p (x ∷ xs) =
    let rest = at-place p xs in
    let step : slice_get (x ∷ xs) (1 + position_or_len p xs) ≡ find p xs = let one : 1 + position_or_len p xs ≡ suc (position_or_len p xs) = omega arith in ap (slice_get (x ∷ xs)) one ∙ rest in
    let go : (b : Bool) → slice_get (x ∷ xs) (cond (not b) (1 + position_or_len p xs) 0) ≡ cond b (Some x) (find p xs) = λ b. elim b as (λ b. slice_get (x ∷ xs) (cond (not b) (1 + position_or_len p xs) 0) ≡ cond b (Some x) (find p xs)) [ true ↦ refl | false ↦ step ] in
    go (p x)

past-end : {X : Type 0} (xs : List X) (i : ℕ) → length xs ≤ i → slice_get xs i ≡ None
past-end [] i le = refl
past-end (x ∷ xs) zero le = absurd (omega arith)
past-end (x ∷ xs) (suc i) le = past-end xs i (omega arith)

inside : {X : Type 0} (xs : List X) (i : ℕ) → i < length xs → (x : X) × (slice_get xs i ≡ Some x)
inside [] i lt = absurd (omega arith)
inside (x ∷ xs) zero lt = (x, refl)
inside (x ∷ xs) (suc i) lt = inside xs i (omega arith)

-- the number of the first item that passes, and the item: both are there, or neither
pub placed-as-found : {X : Type 0} (p : X → Bool) (xs : List X) → ((i : ℕ) × (x : X) × (position p xs ≡ Some i) × (find p xs ≡ Some x) × (slice_get xs i ≡ Some x)) ⊎ ((position p xs ≡ None) × (find p xs ≡ None))
placed-as-found {X} p xs =
    let at : ℕ = position_or_len p xs in
    let Goal : Type 0 = ((i : ℕ) × (x : X) × (position p xs ≡ Some i) × (find p xs ≡ Some x) × (slice_get xs i ≡ Some x)) ⊎ ((position p xs ≡ None) × (find p xs ≡ None)) in
    elim (cases_lt at (length xs)) as (λ _. Goal) [
      | inl lt ↦ let t = inside xs at lt in inl (at, t.0, ap (λ b. cond b (Some at) None) (lt-ltb at (length xs) lt), sym (at-place p xs) ∙ t.1, t.1)
      | inr le ↦ inr (ap (λ b. cond b (Some at) None) (le-ltb at (length xs) le), sym (at-place p xs) ∙ past-end xs at le)
    ]

-- the number of the entry that a name takes is that of the entry
pub number_of_the_entry : (names : Names) (name : List ℕ) (es : List Entry) (i : ℕ) → number_named names name es ≡ Some i → slice_get es i ≡ entry_named names name es
unfolding number_named entry_named
number_of_the_entry names name es i e =
    let Goal : Type 0 = slice_get es i ≡ option_or (find (has_name name) es) (find (has_form names name) es) in
    let second : find (has_name name) es ≡ None → position (has_form names name) es ≡ Some i → Goal = λ none q.
    elim (placed-as-found (has_form names name) es) as (λ _. Goal) [
      | inl (k, x, at_k, there, here) ↦
          let same : k ≡ i = some-equal k i (sym at_k ∙ q) in
          subst (λ n. slice_get es n ≡ Some x) same here ∙ sym (ap (λ (o : Option Entry). option_or o (find (has_form names name) es)) none ∙ there)
      | inr (at_none, gone) ↦ absurd (some-none i (sym q ∙ at_none))
    ] in
    elim (placed-as-found (has_name name) es) as (λ _. Goal) [
      | inl (k, x, at_k, there, here) ↦
          let same : k ≡ i = some-equal k i (sym (ap (λ (o : Option ℕ). option_or o (position (has_form names name) es)) at_k) ∙ e) in
          subst (λ n. slice_get es n ≡ Some x) same here ∙ sym (ap (λ (o : Option Entry). option_or o (find (has_form names name) es)) there)
      | inr (at_none, gone) ↦ second gone (sym (ap (λ (o : Option ℕ). option_or o (position (has_form names name) es)) at_none) ∙ e)
    ]
