-- Entries, links and maps that pair off have their fellows.
use Rattle.std.proofs.Common.{◌≡◌, ℕ, suc, ◌<◌, Bool, true, false, cond, List, [], ◌∷◌, length, get_or, Option, Some, None, refl, ap, sym, ◌∙◌, inl, inr, arith}
use Rattle.std.specs.Prelude.{filter, map, not, ◌&&◌, ◌||◌, ◌==◌, bytes_eq}
use Rattle.std.specs.List.{list_any}
use Rattle.std.specs.List.Sorted.{IsPermutation}
use Rattle.std.proofs.lemmas.Bool.{and_parts, and_from, and_right, or_parts, not_from_true, not-false, eqb-true, eq-eqb}
use Rattle.std.proofs.lemmas.List.Folds.{list_any_at}
use Rattle.std.proofs.lemmas.List.Sorted.{list_any-IsPermutation}
use Rattle.apfs_model.specs.Lists.{passes}
use Rattle.fs_record.specs.Entries.{Entry}
use Rattle.fs_record.specs.Siblings.{Link}
use Rattle.fs_record.specs.Facts.{Fact}
use Rattle.view_rules.specs.Words.{IsClear}
use Rattle.view_rules.specs.Facts.{Facts}
use Rattle.view_rules.specs.Siblings.{is_entry_of, go_together, has_link, has_entry, has_map, is_twin, is_entry_lost, is_link_lost, is_linked_entry, is_private_entry, is_system_link, is_map_lost, HasEntryFellows, HasLinkFellows, HasMapFellows}
use Rattle.rule_index.specs.Twins.{sibling_pair, PairOff}

-- no item passes where none does by its place
none-passes : {X : Type 0} (p : X → Bool) (xs : List X) → ((i : ℕ) (d : X) → i < length xs → p (get_or xs i d) ≡ false) → list_any p xs ≡ false
none-passes p [] none = refl
none-passes p (x ∷ xs) none = ap (λ b. b || list_any p xs) (none 0 x (omega arith)) ∙ none-passes p xs (λ i d low. none (suc i) d (omega arith))

-- where no item passes each fails
each-fails : {X : Type 0} (p : X → Bool) (xs : List X) → list_any p xs ≡ false → IsClear p xs
each-fails p [] none x at = absurd at
each-fails p (y ∷ ys) none x at =
    let parts = or_parts (p y) (list_any p ys) none in
    elim at as (λ _. p x ≡ false) [ inl same ↦ ap p same ∙ parts.0 | inr more ↦ each-fails p ys parts.1 x more ]

-- an item of a filtered list passes where one passes both tests
any-filter : {X : Type 0} (p q : X → Bool) (xs : List X) → list_any p (filter q xs) ≡ list_any (λ x. q x && p x) xs
any-filter p q [] = refl
any-filter {X} p q (x ∷ xs) =
    let go : (b : Bool) → list_any p (cond b (x ∷ filter q xs) (filter q xs)) ≡ ((b && p x) || list_any (λ x. q x && p x) xs) =
    λ b. elim b as (λ b. list_any p (cond b (x ∷ filter q xs) (filter q xs)) ≡ ((b && p x) || list_any (λ x. q x && p x) xs)) [
      | true ↦ ap (λ b. p x || b) (any-filter p q xs)
      | false ↦ any-filter p q xs
    ] in
    go (q x)

any-map : {X Y : Type 0} (p : Y → Bool) (f : X → Y) (xs : List X) → list_any p (map f xs) ≡ list_any (λ x. p (f x)) xs
any-map p f [] = refl
any-map p f (x ∷ xs) = ap (λ b. p (f x) || b) (any-map p f xs)

-- a test that another one implies
any-weaker : {X : Type 0} (p q : X → Bool) → ((x : X) → p x ≡ true → q x ≡ true) → (xs : List X) → list_any p xs ≡ true → list_any q xs ≡ true
any-weaker p q implies [] any = any
any-weaker {X} p q implies (x ∷ xs) any =
    let go : (b : Bool) → p x ≡ b → (b || list_any p xs) ≡ true → (q x || list_any q xs) ≡ true =
    λ b. elim b as (λ b. p x ≡ b → (b || list_any p xs) ≡ true → (q x || list_any q xs) ≡ true) [
      | true ↦ λ t _. ap (λ c. c || list_any q xs) (implies x t)
      | false ↦ λ _ more. or-true (q x) (list_any q xs) (any-weaker p q implies xs more)
    ] in
    go (p x) refl any
  where
    or-true : (a b : Bool) → b ≡ true → (a || b) ≡ true
    or-true true b t = refl
    or-true false b t = t

-- one of an entry's siblings is that of a link
passes-at : (o : Option ℕ) (n : ℕ) → passes o (λ s. s == n) ≡ true → o ≡ Some n
passes-at None n t = cc
passes-at (Some s) n t = ap Some (eqb-true s n t)

some_link : Fact Link
some_link = record { id = 0; what = record { file = 0; sibling = 0; parent = 0; name = [] } }

some_entry : Fact Entry
some_entry = record { id = 0; what = record { name = []; hash = 0; file_id = 0; kind = 0; sibling = None } }

-- entries that need their fellows, in another order, with the links and the maps of some facts, the maps too in another order
pub record AreTogether (facts : Facts) (twins : List (Fact Entry)) (pairs : List (ℕ × ℕ)) : Type 0 where
  pub entries : IsPermutation (filter is_twin facts.entries) twins
  pub maps : IsPermutation (map sibling_pair facts.siblings) pairs
  pub off : PairOff twins facts.links pairs

-- an entry that needs its fellows passes a test where one of those in order does
twin-passes : (facts : Facts) (twins : List (Fact Entry)) (pairs : List (ℕ × ℕ)) → AreTogether facts twins pairs → (p : Fact Entry → Bool) → list_any p twins ≡ list_any (λ e. is_twin e && p e) facts.entries
twin-passes facts twins pairs t p = sym (list_any-IsPermutation p (filter is_twin facts.entries) twins t.entries) ∙ any-filter p is_twin facts.entries

-- a map passes a test of its file and its sibling where a pair does
pair-passes : (facts : Facts) (twins : List (Fact Entry)) (pairs : List (ℕ × ℕ)) → AreTogether facts twins pairs → (p : ℕ × ℕ → Bool) → list_any p pairs ≡ list_any (λ m. p (sibling_pair m)) facts.siblings
pair-passes facts twins pairs t p = sym (list_any-IsPermutation p (map sibling_pair facts.siblings) pairs t.maps) ∙ any-map p sibling_pair facts.siblings

-- the sibling of each link has its map
map-there : (facts : Facts) (twins : List (Fact Entry)) (pairs : List (ℕ × ℕ)) → AreTogether facts twins pairs → (i : ℕ) (d : Fact Link) → i < length twins → has_map facts (get_or facts.links i d).what.file (get_or facts.links i d).what.sibling ≡ true
map-there facts twins pairs t i d low =
    let l : Fact Link = get_or facts.links i d in
    let p : ℕ × ℕ → Bool = λ q. (q.0 == l.what.file) && (q.1 == l.what.sibling) in
    let here : p (get_or pairs i (0, 0)) ≡ true =
    ap p (t.off.fellows.mapped i d (0, 0) low) ∙ and_from _ _ (eq-eqb l.what.file l.what.file refl) (eq-eqb l.what.sibling l.what.sibling refl) in
    sym (pair-passes facts twins pairs t p) ∙ list_any_at p pairs i (0, 0) (omega (arith, t.off.pairs_long)) here

-- each entry has its link
link-there : (facts : Facts) (twins : List (Fact Entry)) (pairs : List (ℕ × ℕ)) → AreTogether facts twins pairs → (i : ℕ) (d : Fact Entry) → i < length twins → has_link facts (get_or twins i d) ≡ true
link-there facts twins pairs t i d low = list_any_at (go_together (get_or twins i d)) facts.links i some_link (omega (arith, t.off.links_long)) (t.off.fellows.together i d some_link low)

-- each entry has its link and its map
entry-kept : (facts : Facts) (twins : List (Fact Entry)) (pairs : List (ℕ × ℕ)) → AreTogether facts twins pairs → (i : ℕ) (d : Fact Entry) → i < length twins
    → not (has_link facts (get_or twins i d) && passes (get_or twins i d).what.sibling (has_map facts (get_or twins i d).what.file_id)) ≡ false
entry-kept facts twins pairs t i d low =
    let e : Fact Entry = get_or twins i d in
    let l : Fact Link = get_or facts.links i some_link in
    let of = and_parts (e.what.file_id == l.what.file) (passes e.what.sibling (λ s. s == l.what.sibling))
    (and_parts (is_entry_of l.what.file l.what.sibling e) ((e.id == l.what.parent) && bytes_eq e.what.name l.what.name) (t.off.fellows.together i d some_link low)).0 in
    let mapped : passes e.what.sibling (has_map facts e.what.file_id) ≡ true =
    ap (λ o. passes o (has_map facts e.what.file_id)) (passes-at e.what.sibling l.what.sibling of.1)
    ∙ (ap (λ f. has_map facts f l.what.sibling) (eqb-true e.what.file_id l.what.file of.0) ∙ map-there facts twins pairs t i some_link low) in
    not_from_true _ (and_from _ _ (link-there facts twins pairs t i d low) mapped)

entry-fellows : (facts : Facts) (twins : List (Fact Entry)) (pairs : List (ℕ × ℕ)) → AreTogether facts twins pairs → HasEntryFellows facts
unfolding is_entry_lost
entry-fellows facts twins pairs t =
    let lost : Fact Entry → Bool = λ e. not (has_link facts e && passes e.what.sibling (has_map facts e.what.file_id)) in
    each-fails (is_entry_lost facts) facts.entries (sym (twin-passes facts twins pairs t lost) ∙ none-passes lost twins (entry-kept facts twins pairs t))

-- each link has its entry and its map
link-kept : (facts : Facts) (twins : List (Fact Entry)) (pairs : List (ℕ × ℕ)) → AreTogether facts twins pairs → (i : ℕ) (d : Fact Link) → i < length facts.links → is_link_lost facts (get_or facts.links i d) ≡ false
unfolding is_link_lost
link-kept facts twins pairs t i d below =
    let l : Fact Link = get_or facts.links i d in
    let low : i < length twins = omega (arith, t.off.links_long) in
    let entry : has_entry facts l ≡ true =
    any-weaker (λ e. is_twin e && go_together e l) (λ e. go_together e l) (λ e h. (and_parts (is_twin e) (go_together e l) h).1) facts.entries
    (sym (twin-passes facts twins pairs t (λ e. go_together e l)) ∙ list_any_at (λ e. go_together e l) twins i some_entry low (t.off.fellows.together i some_entry d low)) in
    and_right _ _ (not_from_true _ (and_from _ _ entry (map-there facts twins pairs t i d low)))

link-fellows : (facts : Facts) (twins : List (Fact Entry)) (pairs : List (ℕ × ℕ)) → AreTogether facts twins pairs → HasLinkFellows facts
link-fellows facts twins pairs t = each-fails (is_link_lost facts) facts.links (none-passes (is_link_lost facts) facts.links (link-kept facts twins pairs t))

-- the sibling of each link has an entry that has its link
linked-there : (facts : Facts) (twins : List (Fact Entry)) (pairs : List (ℕ × ℕ)) → AreTogether facts twins pairs → (i : ℕ) → i < length twins
    → list_any (is_linked_entry facts (get_or facts.links i some_link).what.file (get_or facts.links i some_link).what.sibling) facts.entries ≡ true
linked-there facts twins pairs t i low =
    let l : Fact Link = get_or facts.links i some_link in
    let of : Fact Entry → Bool = is_entry_of l.what.file l.what.sibling in
    let test : Fact Entry → Bool = λ e. of e && has_link facts e in
    let e : Fact Entry = get_or twins i some_entry in
    let here : test e ≡ true = and_from _ _ (and_parts (of e) ((e.id == l.what.parent) && bytes_eq e.what.name l.what.name) (t.off.fellows.together i some_entry some_link low)).0 (link-there facts twins pairs t i some_entry low) in
    any-weaker (λ e. is_twin e && test e) (is_linked_entry facts l.what.file l.what.sibling) (λ e h.
    let a = and_parts (is_twin e) (test e) h in
    let b = and_parts (of e) (has_link facts e) a.1 in
    and_from (of e) (is_twin e && has_link facts e) b.0 (and_from (is_twin e) (has_link facts e) a.0 b.1)) facts.entries
    (sym (twin-passes facts twins pairs t test) ∙ list_any_at test twins i some_entry low here)

map-fellows : (facts : Facts) (twins : List (Fact Entry)) (pairs : List (ℕ × ℕ)) → AreTogether facts twins pairs → HasMapFellows facts
unfolding is_map_lost
map-fellows facts twins pairs t m at =
    let alone : ℕ × ℕ → Bool = λ p. not (list_any (is_linked_entry facts p.0 p.1) facts.entries) in
    let none : list_any alone pairs ≡ false = none-passes alone pairs (λ i d below.
    let low : i < length twins = omega (arith, t.off.pairs_long) in
    ap alone (t.off.fellows.mapped i some_link d low) ∙ not_from_true _ (linked-there facts twins pairs t i low)) in
    let linked = not-false (list_any (is_linked_entry facts m.what m.id) facts.entries) (each-fails (λ (m : Fact ℕ). alone (sibling_pair m)) facts.siblings (sym (pair-passes facts twins pairs t alone) ∙ none) m at) in
    ap (λ b. not (b || (list_any (is_private_entry m.what m.id) facts.entries || list_any (is_system_link m.what m.id) facts.links))) linked

-- all have their fellows
pub all-fellows : (facts : Facts) (twins : List (Fact Entry)) (pairs : List (ℕ × ℕ)) → AreTogether facts twins pairs → HasEntryFellows facts × (HasLinkFellows facts × HasMapFellows facts)
all-fellows facts twins pairs t = (entry-fellows facts twins pairs t, (link-fellows facts twins pairs t, map-fellows facts twins pairs t))
