-- Where a path has an answer, in a view whose entries have their files.
use Rattle.std.proofs.Common.{◌≡◌, ℕ, Bool, true, false, cond, List, [], ◌∷◌, ◌++◌, Option, Some, None, Result, Ok, Err, ◌⊎◌, inl, inr, refl, ap, sym, ◌∙◌}
use Rattle.std.specs.Prelude.{not}
use Rattle.std.specs.List.{find}
use Rattle.std.specs.Option.{option_or, ok_or}
use Rattle.apfs_model.specs.Lists.{In, and_then}
use Rattle.fs_record.specs.Entries.{Entry}
use Rattle.view_rules.specs.Facts.{Facts, is_directory}
use Rattle.view_rules.specs.Entries.{HasFiles}
use Rattle.apfs_model.proofs.Searches.{found-in}
use Rattle.path_search.specs.Paths.{components}
use Rattle.path_search.specs.Places.{Place, root_of}
use Rattle.path_search.specs.Found.{entries_in, has_name, has_form, entry_named, followed, step, walk, found}
use Rattle.path_search.specs.declared.answer.Answer.{Answer}
use Rattle.path_search.specs.declared.answer.Answer.TheVariants.{NotFound, NotDirectory}
use Rattle.path_search.proofs.Laws.{entry_has_place, err-same, ok-err}

-- a component of a path is looked for at a place, which those before it lead to
pub record IsAsked (facts : Facts) (start : Place) (names : List (List ℕ)) (place : Place) (name : List ℕ) : Type 0 where
  pub before : List (List ℕ)
  pub after : List (List ℕ)
  pub split : names ≡ before ++ name ∷ after
  pub led : walk facts before start ≡ Ok place

-- NotFound: a component is looked for in a directory that has no such entry
pub record HasNone (facts : Facts) (start : Place) (names : List (List ℕ)) : Type 0 where
  pub place : Place
  pub name : List ℕ
  pub asked : IsAsked facts start names place name
  pub directory : is_directory place.inode ≡ true
  pub none : entry_named facts.names name (entries_in facts place.id) ≡ None

-- NotDirectory: a component is looked for at what is no directory
pub record HasLeft (facts : Facts) (start : Place) (names : List (List ℕ)) : Type 0 where
  pub place : Place
  pub name : List ℕ
  pub asked : IsAsked facts start names place name
  pub file : is_directory place.inode ≡ false

-- the entry that a name takes is one of those that there are
taken-in : (facts : Facts) (name : List ℕ) (es : List Entry) (e : Entry) → entry_named facts.names name es ≡ Some e → In e es
unfolding entry_named
taken-in facts name es e h =
    let second : Option Entry = find (has_form facts.names name) es in
    let go : (o : Option Entry) → find (has_name name) es ≡ o → option_or o second ≡ Some e → In e es = λ o. elim o as (λ o. find (has_name name) es ≡ o → option_or o second ≡ Some e → In e es) [
      | None ↦ λ p q. (found-in (has_form facts.names name) es e q).0
      | Some x ↦ λ p q. (found-in (has_name name) es e (p ∙ q)).0
    ] in
    go (find (has_name name) es) refl h

not-the-same : NotDirectory ≡ NotFound → ⊥
not-the-same e = absurd cc

-- what one component gives: an answer and its cause, or a place
followed-why : (facts : Facts) → HasFiles facts → (place : Place) (o : Option Entry) (name : List ℕ) → entry_named facts.names name (entries_in facts place.id) ≡ o → (a : Answer) → followed facts o ≡ Err a → (a ≡ NotFound) × (o ≡ None)
followed-why facts files place None name p a e = (sym (err-same NotFound a e), refl)
followed-why facts files place (Some x) name p a e =
    let t = entry_has_place facts files place.id x (taken-in facts name (entries_in facts place.id) x p) in
    absurd (ok-err t.0 a (sym (ap (λ (o : Option Place). ok_or o NotFound) t.1) ∙ e))

step-why : (facts : Facts) → HasFiles facts → (place : Place) (name : List ℕ) (a : Answer) → step facts place name ≡ Err a →
    ((a ≡ NotDirectory) × (is_directory place.inode ≡ false)) ⊎ ((a ≡ NotFound) × (is_directory place.inode ≡ true) × (entry_named facts.names name (entries_in facts place.id) ≡ None))
step-why facts files place name a e =
    let Why : Type 0 = ((a ≡ NotDirectory) × (is_directory place.inode ≡ false)) ⊎ ((a ≡ NotFound) × (is_directory place.inode ≡ true) × (entry_named facts.names name (entries_in facts place.id) ≡ None)) in
    let next : Result Place Answer = followed facts (entry_named facts.names name (entries_in facts place.id)) in
    let go : (b : Bool) → is_directory place.inode ≡ b → cond (not b) (Err NotDirectory) next ≡ Err a → Why = λ b. elim b as (λ b. is_directory place.inode ≡ b → cond (not b) (Err NotDirectory) next ≡ Err a → Why) [
      | false ↦ λ d h. inl (sym (err-same NotDirectory a h), d)
      | true ↦ λ d h. let t = followed-why facts files place (entry_named facts.names name (entries_in facts place.id)) name refl a h in inr (t.0, d, t.1)
    ] in
    go (is_directory place.inode) refl e

-- the causes at one component further on are those of the whole
later : (facts : Facts) (start next place : Place) (first name : List ℕ) (names : List (List ℕ)) → step facts start first ≡ Ok next → IsAsked facts next names place name → IsAsked facts start (first ∷ names) place name
later facts start next place first name names p k = record {
  before = first ∷ k.before;
  after = k.after;
  split = ap (λ (l : List (List ℕ)). first ∷ l) k.split;
  led = ap (λ (r : Result Place Answer). and_then {T = Place} {U = Place} r (λ n. walk facts k.before n)) p ∙ k.led;
}

walk-why : (facts : Facts) → HasFiles facts → (names : List (List ℕ)) (start : Place) (a : Answer) → walk facts names start ≡ Err a → ((a ≡ NotDirectory) × HasLeft facts start names) ⊎ ((a ≡ NotFound) × HasNone facts start names)
walk-why facts files [] start a e = absurd (ok-err start a e)
walk-why facts files (name ∷ names) start a e =
    let Why : Type 0 = ((a ≡ NotDirectory) × HasLeft facts start (name ∷ names)) ⊎ ((a ≡ NotFound) × HasNone facts start (name ∷ names)) in
    let here : IsAsked facts start (name ∷ names) start name = record { before = []; after = names; split = refl; led = refl } in
    let go : (r : Result Place Answer) → step facts start name ≡ r → and_then r (λ next. walk facts names next) ≡ Err a → Why = λ r. elim r as (λ r. step facts start name ≡ r → and_then r (λ next. walk facts names next) ≡ Err a → Why) [
      | Err b ↦ λ p q. elim (step-why facts files start name a (p ∙ q)) as (λ _. Why) [
        | inl t ↦ inl (t.0, record { place = start; name = name; asked = here; file = t.1 })
        | inr t ↦ inr (t.0, record { place = start; name = name; asked = here; directory = t.1; none = t.2 })
      ]
      | Ok next ↦ λ p q. elim (walk-why facts files names next a q) as (λ _. Why) [
        | inl t ↦ inl (t.0, record { place = t.1.place; name = t.1.name; asked = later facts start next t.1.place name t.1.name names p t.1.asked; file = t.1.file })
        | inr t ↦ inr (t.0, record { place = t.1.place; name = t.1.name; asked = later facts start next t.1.place name t.1.name names p t.1.asked; directory = t.1.directory; none = t.1.none })
      ]
    ] in
    go (step facts start name) refl e

-- what is found by components is what is found by the first of them, and then by the others
walk-append : (facts : Facts) (before after : List (List ℕ)) (start place : Place) → walk facts before start ≡ Ok place → walk facts (before ++ after) start ≡ walk facts after place
walk-append facts [] after start place e = let s : start ≡ place = cc in ap (walk facts after) s
walk-append facts (name ∷ before) after start place e =
    let go : (r : Result Place Answer) → and_then r (λ next. walk facts before next) ≡ Ok place → and_then r (λ next. walk facts (before ++ after) next) ≡ walk facts after place = λ r. elim r as (λ r. and_then r (λ next. walk facts before next) ≡ Ok place → and_then r (λ next. walk facts (before ++ after) next) ≡ walk facts after place) [
      | Err b ↦ λ q. absurd cc
      | Ok next ↦ λ q. walk-append facts before after next place q
    ] in
    go (step facts start name) e

walk-asked : (facts : Facts) (start place : Place) (names : List (List ℕ)) (name : List ℕ) (a : Answer) → IsAsked facts start names place name → step facts place name ≡ Err a → walk facts names start ≡ Err a
walk-asked facts start place names name a k e =
    ap (λ (l : List (List ℕ)). walk facts l start) k.split
    ∙ (walk-append facts k.before (name ∷ k.after) start place k.led
    ∙ ap (λ (r : Result Place Answer). and_then {T = Place} {U = Place} r (λ next. walk facts k.after next)) e)

from-root : (facts : Facts) (root : Place) (path : List ℕ) → root_of facts ≡ Some root → found facts path ≡ walk facts (components path) root
unfolding found
from-root facts root path e = ap (λ (o : Option Place). and_then {T = Place} {U = Place} (ok_or o NotFound) (λ r. walk facts (components path) r)) e

-- NotDirectory comes exactly where a component is left at what is no directory
pub not_directory_exactly : (facts : Facts) → HasFiles facts → (root : Place) → root_of facts ≡ Some root → (path : List ℕ) →
    (found facts path ≡ Err NotDirectory → HasLeft facts root (components path)) × (HasLeft facts root (components path) → found facts path ≡ Err NotDirectory)
not_directory_exactly facts files root there path = (
  λ e. elim (walk-why facts files (components path) root NotDirectory (sym (from-root facts root path there) ∙ e)) as (λ _. HasLeft facts root (components path)) [
    | inl t ↦ t.1
    | inr t ↦ absurd (not-the-same t.0)
  ],
  λ h. from-root facts root path there ∙ walk-asked facts root h.place (components path) h.name NotDirectory h.asked (ap (λ b. cond (not b) (Err NotDirectory) (followed facts (entry_named facts.names h.name (entries_in facts h.place.id)))) h.file),
)

-- NotFound comes exactly where a directory has no entry for a component
pub not_found_exactly : (facts : Facts) → HasFiles facts → (root : Place) → root_of facts ≡ Some root → (path : List ℕ) →
    (found facts path ≡ Err NotFound → HasNone facts root (components path)) × (HasNone facts root (components path) → found facts path ≡ Err NotFound)
not_found_exactly facts files root there path = (
  λ e. elim (walk-why facts files (components path) root NotFound (sym (from-root facts root path there) ∙ e)) as (λ _. HasNone facts root (components path)) [
    | inl t ↦ absurd (not-the-same (sym t.0))
    | inr t ↦ t.1
  ],
  λ h. from-root facts root path there ∙ walk-asked facts root h.place (components path) h.name NotFound h.asked
      (ap (λ b. cond (not b) (Err NotDirectory) (followed facts (entry_named facts.names h.name (entries_in facts h.place.id)))) h.directory ∙ ap (followed facts) h.none),
)
