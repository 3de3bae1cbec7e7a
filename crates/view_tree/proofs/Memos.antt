-- The spots that a tree keeps of directories, and what is met twice.
use Rattle.std.proofs.Common.{◌≡◌, ◌==◌, ℕ, zero, suc, ◌<◌, Bool, true, false, cond, List, [], ◌∷◌, length, get_or, Option, Some, None, Result, Ok, Err, inl, inr, refl, ap, sym, ◌∙◌, subst, arith}
use Rattle.std.specs.Prelude.{filter, not, option_map, slice_get, nat_le, IfSome}
use Rattle.std.specs.List.{cons_option}
use Rattle.std.specs.Ordering.{nat_cmp, is_eq}
use Rattle.std.specs.BTreeMap.{BTreeMap, get, is_at}
use Rattle.std.specs.Map.{lookup}
use Rattle.std.proofs.lemmas.Bool.Decides.{Decides-eqb}
use Rattle.apfs_model.specs.Lists.{In, passes, through, value_of}
use Rattle.apfs_model.proofs.BoolTests.{both-true, left-true, right-true, clash, test_or}
use Rattle.fs_record.specs.Inodes.{Inode}
use Rattle.fs_record.specs.Entries.{Entry}
use Rattle.fs_record.specs.Facts.{Fact, first_user_id}
use Rattle.view_rules.specs.Facts.{Facts, inode_at, is_directory, has_directory}
use Rattle.std.specs.Option.{ok_or}
use Rattle.path_search.specs.Paths.{is_component, parts_of, components}
use Rattle.path_search.specs.Places.{Place, target_of, root_of}
use Rattle.path_search.specs.Found.{entries_in, entry_named, place_by, followed, step, number_named}
use Rattle.view_tree.specs.Met.{Spot, spot_in, spot_named, taken_from, taken, is_user_id, IsEntered, IsEntryOf, IsMet, IsMetTwice}
use Rattle.path_search.specs.Parts.{whats, by_part}
use Rattle.view_tree.specs.Parts.{is_opened_target, IsMemo, IsUnderway, HasAll, IsTaken}
use Rattle.path_search.specs.declared.answer.Answer.{Answer}
use Rattle.path_search.specs.declared.kinds.KindAndSize.{KindAndSize}
use Rattle.path_search.specs.declared.answer.Answer.TheVariants.{NotFound, NotDirectory}
use Rattle.path_search.proofs.Laws.{number_of_the_entry, ok-err}
use Rattle.path_search.proofs.Entries.{place-file}
use Rattle.path_search.proofs.Known.{step_file}

pub same_number : (a b : ℕ) → is_eq (nat_cmp a b) ≡ true → a ≡ b
same_number a b e = grind arith

-- two spots of one directory
pub memo_twice : (facts : Facts) (path : List ℕ) (memo : BTreeMap ℕ (ℕ × ℕ)) (id : ℕ) (s other : ℕ × ℕ) → IsMemo facts path memo → IsMet facts path (spot_in s.0 s.1) → IsEntryOf facts (spot_in s.0 s.1) id → is_user_id facts id ≡ true → get nat_cmp memo id ≡ Some other → ((other.0 == s.0) ≡ true → (other.1 == s.1) ≡ true → ⊥) → IsMetTwice facts path id
memo_twice facts path memo id s other kept met entry user there differs =
    let t : IsMet facts path (spot_in other.0 other.1) × IsEntryOf facts (spot_in other.0 other.1) id = subst (λ (o : Option (ℕ × ℕ)). IfSome o (λ u. IsMet facts path (spot_in u.0 u.1) × IsEntryOf facts (spot_in u.0 u.1) id)) there (kept id) in
    record {
      one = spot_in other.0 other.1;
      other = spot_in s.0 s.1;
      different = λ e. differs ((Decides-eqb other.0 s.0).1 (ap (λ (p : Spot). p.id) e)) ((Decides-eqb other.1 s.1).1 (ap (λ (p : Spot). p.number) e));
      one_met = t.0;
      other_met = met;
      one_names = t.1;
      other_names = entry;
      directory = user;
    }

-- an entry that stands in a directory which is entered
pub entry_of : (facts : Facts) (id number : ℕ) (es : List (Fact Entry)) (e : Fact Entry) → HasAll facts id es → number < length es → e ≡ get_or es number e → IsEntryOf facts (spot_in id number) e.what.file_id
entry_of facts id number es e all low at = record {
  entry = e.what;
  there = sym (ap (λ (l : List Entry). slice_get l number) all.all) ∙ what-there es number e low at;
  names = refl;
}
  where
    what-there : (fs : List (Fact Entry)) (i : ℕ) (f : Fact Entry) → i < length fs → f ≡ get_or fs i f → slice_get (whats fs) i ≡ Some f.what
    what-there [] i f low at = absurd (omega arith)
    what-there (g ∷ fs) zero f low at = ap (λ (h : Fact Entry). Some h.what) (sym at)
    what-there (g ∷ fs) (suc i) f low at = what-there fs i f (omega arith) at

pub met_under : (facts : Facts) (path : List ℕ) (first id number : ℕ) (entries : List (Fact Entry)) (kinds : List (Option KindAndSize)) → IsUnderway facts path first entries kinds → IsEntered facts first id → IsMet facts path (spot_in id number)
met_under facts path first id number entries kinds way entered = inr (record {
  place = way.place;
  found_there = way.there;
  directory = way.directory;
  entered = subst (λ i. IsEntered facts i id) (sym way.same) entered;
})

-- a target that is opened is a directory of a user's id
pub user_of : (facts : Facts) (e : Entry) (place : Place) → place_by facts e ≡ Some place → is_opened_target (target_of place) ≡ true → is_user_id facts place.id ≡ true
user_of facts e place there opened =
    let file : place.id ≡ e.file_id = (place-file facts e place there).0 in
    let at : inode_at facts place.id ≡ Some place.inode = (place-file facts e place there).1 in
    both-true (has_directory facts place.id) (nat_le first_user_id place.id)
    (ap (λ (o : Option Inode). passes o is_directory) at ∙ left-true (is_directory place.inode) (nat_le first_user_id place.id) opened)
    (right-true (is_directory place.inode) (nat_le first_user_id place.id) opened)

-- ---- the entries that a path takes
taken-first : (facts : Facts) (names : List (List ℕ)) (place : Place) (name : List ℕ) (number : ℕ) → is_directory place.inode ≡ true → number_named facts.names name (entries_in facts place.id) ≡ Some number → In (spot_in place.id number) (taken_from facts (name ∷ names) place)
taken-first facts names place name number directory named =
    subst (λ (o : Option Spot). In (spot_in place.id number) (cons_option o (through (value_of (step facts place name)) (λ (next : Place). taken_from facts names next))))
    (sym (ap (λ b. cond b (option_map (spot_in place.id) (number_named facts.names name (entries_in facts place.id))) None) directory ∙ ap (option_map (spot_in place.id)) named)) (inl refl)

in-cons : {X : Type 0} (o : Option X) (x : X) (xs : List X) → In x xs → In x (cons_option o xs)
in-cons None x xs h = h
in-cons (Some y) x xs h = inr h

-- those that it takes from the next place on
taken-next : (facts : Facts) (names : List (List ℕ)) (place next : Place) (name : List ℕ) (s : Spot) → step facts place name ≡ Ok next → In s (taken_from facts names next) → In s (taken_from facts (name ∷ names) place)
taken-next facts names place next name s there h =
    in-cons (spot_named facts place name) s (through (value_of (step facts place name)) (λ (p : Place). taken_from facts names p))
    (subst (λ (r : Result Place Answer). In s (through (value_of r) (λ (p : Place). taken_from facts names p))) (sym there) h)

pub step_directory : (facts : Facts) (place next : Place) (name : List ℕ) → step facts place name ≡ Ok next → is_directory place.inode ≡ true
step_directory facts place next name e = elim (test_or (is_directory place.inode)) as (λ _. is_directory place.inode ≡ true) [
  | inl is ↦ is
  | inr isnt ↦ let h : Err NotDirectory ≡ Ok next = sym (step_file facts place name isnt) ∙ e in absurd (ok-err next NotDirectory (sym h))
]

entry-followed : (facts : Facts) (o : Option Entry) (next : Place) → followed facts o ≡ Ok next → (e : Entry) × ((o ≡ Some e) × (place_by facts e ≡ Some next))
entry-followed facts None next e = absurd (ok-err next NotFound (sym e))
entry-followed facts (Some x) next e = (x, (refl, some-placed (place_by facts x) next e))
  where
    some-placed : (o : Option Place) (p : Place) → ok_or o NotFound ≡ Ok p → o ≡ Some p
    some-placed None p e = absurd (ok-err p NotFound (sym e))
    some-placed (Some q) p e = let s : q ≡ p = cc in ap Some s

step-entry : (facts : Facts) (place next : Place) (name : List ℕ) (number : ℕ) → step facts place name ≡ Ok next → number_named facts.names name (entries_in facts place.id) ≡ Some number → (inode_at facts next.id ≡ Some next.inode) × IsEntryOf facts (spot_in place.id number) next.id
step-entry facts place next name number there named =
    let directory = step_directory facts place next name there in
    let f : followed facts (entry_named facts.names name (entries_in facts place.id)) ≡ Ok next = sym (ap (λ b. cond (not b) (Err NotDirectory) (followed facts (entry_named facts.names name (entries_in facts place.id)))) directory) ∙ there in
    let t = entry-followed facts (entry_named facts.names name (entries_in facts place.id)) next f in
    let file = place-file facts t.0 next t.1.1 in
    (file.1, record { entry = t.0; there = number_of_the_entry facts.names name (entries_in facts place.id) number named ∙ t.1.0; names = sym file.0 })

taken-by : (facts : Facts) (path : List ℕ) (names : List (List ℕ)) (place next : Place) (name : List ℕ) → step facts place name ≡ Ok next → ((s : Spot) → In s (taken_from facts (name ∷ names) place) → In s (taken facts path)) → IsTaken facts path place.id name next
taken-by facts path names place next name there kept component number named =
    let t = step-entry facts place next name number there named in
    (kept (spot_in place.id number) (taken-first facts names place name number (step_directory facts place next name there) named), t.0, t.1)

-- one part on
pub taken_part : (facts : Facts) (path : List ℕ) (parts : List (List ℕ)) (place next : Place) (part : List ℕ) → by_part facts place part ≡ Ok next → ((s : Spot) → In s (taken_from facts (filter is_component (part ∷ parts)) place) → In s (taken facts path)) →
    IsTaken facts path place.id part next × ((s : Spot) → In s (taken_from facts (filter is_component parts) next) → In s (taken facts path))
taken_part facts path parts place next part there kept =
    let go : (b : Bool) → is_component part ≡ b → cond b (step facts place part) (Ok place) ≡ Ok next → ((s : Spot) → In s (taken_from facts (cond b (part ∷ filter is_component parts) (filter is_component parts)) place) → In s (taken facts path)) →
    IsTaken facts path place.id part next × ((s : Spot) → In s (taken_from facts (filter is_component parts) next) → In s (taken facts path)) = λ b. elim b as (λ b. is_component part ≡ b → cond b (step facts place part) (Ok place) ≡ Ok next → ((s : Spot) → In s (taken_from facts (cond b (part ∷ filter is_component parts) (filter is_component parts)) place) → In s (taken facts path)) →
    IsTaken facts path place.id part next × ((s : Spot) → In s (taken_from facts (filter is_component parts) next) → In s (taken facts path))) [
      | true ↦ λ i h k. (taken-by facts path (filter is_component parts) place next part h k, λ s m. k s (taken-next facts (filter is_component parts) place next part s h m))
      | false ↦ λ i h k.
          let same : place ≡ next = cc in
          (λ component. absurd (clash (is_component part) component i), λ s m. k s (subst (λ (p : Place). In s (taken_from facts (filter is_component parts) p)) (sym same) m))
    ] in
    go (is_component part) refl there kept

-- at the root all of them are still to come
pub taken_root : (facts : Facts) (path : List ℕ) (root : Place) → root_of facts ≡ Some root → (s : Spot) → In s (taken_from facts (filter is_component (parts_of path)) root) → In s (taken facts path)
unfolding taken components
taken_root facts path root there s h = subst (λ (o : Option Place). In s (through o (λ (r : Place). taken_from facts (components path) r))) (sym there) h

-- nothing is kept yet
pub memo_none : (facts : Facts) (path : List ℕ) (memo : BTreeMap ℕ (ℕ × ℕ)) → memo.entries ≡ [] → IsMemo facts path memo
memo_none facts path memo e id =
    subst (λ (es : List (ℕ × (ℕ × ℕ))). IfSome (lookup (is_at (nat_cmp id)) es) (λ s. IsMet facts path (spot_in s.0 s.1) × IsEntryOf facts (spot_in s.0 s.1) id)) (sym e) tt
