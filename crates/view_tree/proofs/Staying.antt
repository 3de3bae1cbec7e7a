-- Spots that stay kept, and what a tree that was told can't have met twice.
use Rattle.std.proofs.Common.{◌≡◌, ◌==◌, ◌&&◌, ℕ, zero, suc, ◌<◌, Bool, true, false, cond, List, [], ◌∷◌, ◌++◌, length, get_or, Option, Some, None, Result, Ok, ◌⊎◌, inl, inr, refl, ap, ap₂, sym, ◌∙◌, subst, arith}
use Rattle.std.specs.Prelude.{filter, option_map, slice_get, nat_le}
use Rattle.std.specs.List.{cons_option}
use Rattle.std.specs.Ordering.{nat_cmp}
use Rattle.std.specs.BTreeMap.{BTreeMap, get, is_at, Updates}
use Rattle.apfs_model.specs.Lists.{In, passes, through, value_of}
use Rattle.apfs_model.proofs.BoolTests.{both-true, left-true, right-true, clash, test_or, equal-from}
use Rattle.apfs_model.proofs.Searches.{in-append}
use Rattle.fs_name.specs.declared.naming.Names.{Names}
use Rattle.fs_record.specs.Inodes.{Inode}
use Rattle.fs_record.specs.Entries.{Entry}
use Rattle.fs_record.specs.Facts.{Fact, first_user_id}
use Rattle.view_rules.specs.Facts.{Facts, inode_at, has_inode, is_directory, has_directory}
use Rattle.path_search.specs.Paths.{is_component, parts_of, components}
use Rattle.path_search.specs.Places.{Place, root_of, target_of}
use Rattle.path_search.specs.Found.{entries_in, place_by, step, found, number_named}
use Rattle.view_tree.specs.Tree.{lone_row, row_told}
use Rattle.view_tree.specs.Met.{Spot, spot_in, spot_named, taken_from, taken, is_user_id, IsEntryOf}
use Rattle.view_tree.specs.Rows.{IsShown, IsShownAt, IsShownTwice, HaveMetFiles}
use Rattle.path_search.specs.Parts.{whats, by_part}
use Rattle.view_tree.specs.Parts.{is_opened_target, HasAll, IsTaken, IsKeptAt, AreKeptIn, AreRowsKept, StaysKept, KeepsTaken, KeepsFrom, KeepsPath}
use Rattle.path_search.specs.declared.answer.Answer.{Answer}
use Rattle.path_search.specs.declared.target.Target.{Target}
use Rattle.path_search.proofs.Entries.{place-file}
use Rattle.path_search.proofs.Needed.{has_file}
use Rattle.view_tree.proofs.Memos.{same_number, entry_of, step_directory}

-- ---- what stays
-- of ids that are the same
pub kept_by : (facts : Facts) (memo : BTreeMap ℕ (ℕ × ℕ)) (id other : ℕ) → id ≡ other → AreKeptIn facts memo id → AreKeptIn facts memo other
kept_by facts memo id other same kept = subst (λ i. AreKeptIn facts memo i) same kept

-- one more directory is kept
pub put_stays : (old new : BTreeMap ℕ (ℕ × ℕ)) (id : ℕ) (s : ℕ × ℕ) → get nat_cmp old id ≡ None → Updates nat_cmp old new id (Some s) → StaysKept old new
put_stays old new id s none updates q t there = elim (test_or (is_at (nat_cmp id) q)) as (λ _. get nat_cmp new q ≡ Some t) [
  | inl is ↦
      let gone : get nat_cmp old q ≡ None = subst (λ i. get nat_cmp old i ≡ None) (same_number id q is) none in
      let both : ◌≡◌ {A = Option (ℕ × ℕ)} None (Some t) = sym gone ∙ there in absurd cc
  | inr isnt ↦ updates.2 q isnt ∙ there
]

-- two spots of the same parts
pub one_spot : (a b : ℕ × ℕ) → a.0 ≡ b.0 → a.1 ≡ b.1 → a ≡ b
one_spot a b first second = ap₂ (λ (x y : ℕ). (x, y)) first second

pub stays_on : (a b c : BTreeMap ℕ (ℕ × ℕ)) → StaysKept a b → StaysKept b c → StaysKept a c
stays_on a b c first second id s there = second id s (first id s there)

pub at_stays : (facts : Facts) (old new : BTreeMap ℕ (ℕ × ℕ)) (spot : Spot) → StaysKept old new → IsKeptAt facts old spot → IsKeptAt facts new spot
at_stays facts old new spot stays kept id entry = let k = kept id entry in (k.0, λ user. stays id (spot.id, spot.number) (k.1 user))

pub in_stays : (facts : Facts) (old new : BTreeMap ℕ (ℕ × ℕ)) (id : ℕ) → StaysKept old new → AreKeptIn facts old id → AreKeptIn facts new id
in_stays facts old new id stays kept number = at_stays facts old new (spot_in id number) stays (kept number)

pub path_stays : (facts : Facts) (old new : BTreeMap ℕ (ℕ × ℕ)) (path : List ℕ) → StaysKept old new → KeepsPath facts old path → KeepsPath facts new path
path_stays facts old new path stays kept s h = at_stays facts old new s stays (kept s h)

-- one more row
pub rows_more : (facts : Facts) (old new : BTreeMap ℕ (ℕ × ℕ)) (rows next : List (List ℕ × Target)) (row : List ℕ × Target) → StaysKept old new → next ≡ rows ++ row ∷ [] → AreRowsKept facts old rows → (is_opened_target row.1 ≡ true → AreKeptIn facts new row.1.id) → AreRowsKept facts new next
rows_more facts old new rows next row stays is before kept r h opened =
    let there : In r (rows ++ row ∷ []) = subst (λ (l : List (List ℕ × Target)). In r l) is h in
    elim (in-append r rows (row ∷ []) there) as (λ _. AreKeptIn facts new r.1.id) [
      | inl m ↦ in_stays facts old new r.1.id stays (before r m opened)
      | inr m ↦ elim m as (λ _. AreKeptIn facts new r.1.id) [
        | inl e ↦ subst (λ (t : Target). AreKeptIn facts new t.id) (sym (ap (λ (x : List ℕ × Target). x.1) e)) (kept (ap (λ (x : List ℕ × Target). is_opened_target x.1) (sym e) ∙ opened))
        | inr none ↦ absurd none
      ]
    ]

pub rows_none : (facts : Facts) (memo : BTreeMap ℕ (ℕ × ℕ)) (rows : List (List ℕ × Target)) → rows ≡ [] → AreRowsKept facts memo rows
rows_none facts memo rows e = subst (λ (l : List (List ℕ × Target)). AreRowsKept facts memo l) (sym e) (λ row h. absurd h)

-- ---- entries that are met
same-file : (facts : Facts) (spot : Spot) (a b : ℕ) → IsEntryOf facts spot a → IsEntryOf facts spot b → a ≡ b
same-file facts spot a b x y =
    let both : Some x.entry ≡ Some y.entry = sym x.there ∙ y.there in
    let one : x.entry ≡ y.entry = cc in
    sym x.names ∙ (ap (λ (e : Entry). e.file_id) one ∙ y.names)

-- a directory of a user's id is opened
opened-of : (facts : Facts) (place : Place) → inode_at facts place.id ≡ Some place.inode → is_user_id facts place.id ≡ true → (is_directory place.inode && nat_le first_user_id place.id) ≡ true
opened-of facts place at user =
    both-true (is_directory place.inode) (nat_le first_user_id place.id)
    (sym (ap (λ (o : Option Inode). passes o is_directory) at) ∙ left-true (has_directory facts place.id) (nat_le first_user_id place.id) user)
    (right-true (has_directory facts place.id) (nat_le first_user_id place.id) user)

-- an entry of a directory that is entered, once it is met
pub entry_kept : (facts : Facts) (memo : BTreeMap ℕ (ℕ × ℕ)) (id number : ℕ) (es : List (Fact Entry)) (e : Fact Entry) (place : Place) (target : Target) (opened : Bool) →
    HasAll facts id es → number < length es → e ≡ get_or es number e → place_by facts e.what ≡ Some place → target ≡ target_of place → opened ≡ is_opened_target target → (opened ≡ true → get nat_cmp memo target.id ≡ Some (id, number)) → IsKeptAt facts memo (spot_in id number)
entry_kept facts memo id number es e place target opened all low at there same test holds f entry =
    let file = place-file facts e.what place there in
    let is : target.id ≡ place.id = ap (λ (t : Target). t.id) same in
    let names : place.id ≡ f = file.0 ∙ same-file facts (spot_in id number) e.what.file_id f (entry_of facts id number es e all low at) entry in
    let opens : is_user_id facts f ≡ true → is_opened_target (target_of place) ≡ true = λ user. opened-of facts place file.1 (ap (is_user_id facts) names ∙ user) in
    (ap (has_inode facts) (sym names) ∙ has_file facts place.id place.inode file.1, λ user. subst (λ i. get nat_cmp memo i ≡ Some (id, number)) (is ∙ names) (holds (test ∙ (ap is_opened_target same ∙ opens user))))

what-low : (fs : List (Fact Entry)) (i : ℕ) (x : Entry) → slice_get (whats fs) i ≡ Some x → i < length fs
what-low [] i x e = absurd cc
what-low (f ∷ fs) zero x e = omega arith
what-low (f ∷ fs) (suc i) x e = omega (arith, what-low fs i x e)

-- all of them
pub all_kept : (facts : Facts) (memo : BTreeMap ℕ (ℕ × ℕ)) (id n : ℕ) (es : List (Fact Entry)) → HasAll facts id es → n ≡ length es → ((k : ℕ) → k < n → IsKeptAt facts memo (spot_in id k)) → AreKeptIn facts memo id
all_kept facts memo id n es all end each k f entry =
    let low : k < length es = what-low es k entry.entry (ap (λ (l : List Entry). slice_get l k) all.all ∙ entry.there) in
    each k (omega (arith, low)) f entry

-- ---- the entries that a path takes
none-taken : (n : ℕ) (o : Option ℕ) → o ≡ None → o ≡ Some n → ⊥
none-taken n o e f = let both : ◌≡◌ {A = Option ℕ} None (Some n) = sym e ∙ f in absurd cc

number-taken : (facts : Facts) (names : Names) (id : ℕ) (part : List ℕ) (es : List (Fact Entry)) (taken_number : Option ℕ) (n : ℕ) →
    facts.names ≡ names → whats es ≡ entries_in facts id → taken_number ≡ number_named names part (whats es) → number_named facts.names part (entries_in facts id) ≡ Some n → taken_number ≡ Some n
number-taken facts names id part es taken_number n named same chosen there =
    chosen ∙ (ap (number_named names part) same ∙ (sym (ap (λ (m : Names). number_named m part (entries_in facts id)) named) ∙ there))

-- a part that takes no entry
pub part_none : (facts : Facts) (memo : BTreeMap ℕ (ℕ × ℕ)) (names : Names) (id : ℕ) (part : List ℕ) (es : List (Fact Entry)) (taken_number : Option ℕ) →
    facts.names ≡ names → whats es ≡ entries_in facts id → taken_number ≡ number_named names part (whats es) → taken_number ≡ None → KeepsTaken facts memo id part
part_none facts memo names id part es taken_number named same chosen none component n there =
    absurd (none-taken n taken_number none (number-taken facts names id part es taken_number n named same chosen there))

-- an empty part
pub part_empty : (facts : Facts) (memo : BTreeMap ℕ (ℕ × ℕ)) (id : ℕ) (part : List ℕ) → (length part == 0) ≡ true → KeepsTaken facts memo id part
part_empty facts memo id part none component n there = absurd (none-component part none component)
  where
    none-component : (p : List ℕ) → (length p == 0) ≡ true → is_component p ≡ true → ⊥
    none-component [] e f = absurd cc
    none-component (b ∷ bs) e f = let zero_long : length (b ∷ bs) ≡ 0 = equal-from (length (b ∷ bs)) 0 e in absurd (omega (arith, zero_long))

-- a part whose entry is met
pub part_kept : (facts : Facts) (memo : BTreeMap ℕ (ℕ × ℕ)) (path : List ℕ) (names : Names) (id : ℕ) (part : List ℕ) (next : Place) (es : List (Fact Entry)) (taken_number : Option ℕ) (number : ℕ) (opened : Bool) →
    facts.names ≡ names → IsTaken facts path id part next → whats es ≡ entries_in facts id → taken_number ≡ number_named names part (whats es) → taken_number ≡ Some number → opened ≡ (is_directory next.inode && nat_le first_user_id next.id) →
    (opened ≡ true → get nat_cmp memo next.id ≡ Some (id, number)) → KeepsTaken facts memo id part
part_kept facts memo path names id part next es taken_number number opened named gives same chosen is test holds component n there f entry =
    let t = gives component n there in
    let other : taken_number ≡ Some n = number-taken facts names id part es taken_number n named same chosen there in
    let both : Some number ≡ Some n = sym is ∙ other in
    let one : number ≡ n = cc in
    let file : next.id ≡ f = same-file facts (spot_in id n) next.id f t.2 entry in
    let opens : is_user_id facts f ≡ true → opened ≡ true = λ user. test ∙ opened-of facts next t.1 (ap (is_user_id facts) file ∙ user) in
    (ap (has_inode facts) (sym file) ∙ has_file facts next.id next.inode t.1, λ user. subst (λ i. get nat_cmp memo i ≡ Some (id, n)) file (holds (opens user) ∙ ap (λ (m : ℕ). Some (id, m)) one))

in-cons-or : (o : Option Spot) (s : Spot) (xs : List Spot) → In s (cons_option o xs) → (o ≡ Some s) ⊎ In s xs
in-cons-or None s xs h = inr h
in-cons-or (Some y) s xs (inl e) = inl (ap Some (sym e))
in-cons-or (Some y) s xs (inr h) = inr h

spot-number : (id : ℕ) (o : Option ℕ) (s : Spot) → option_map (spot_in id) o ≡ Some s → (n : ℕ) × ((o ≡ Some n) × (spot_in id n ≡ s))
spot-number id None s e = absurd cc
spot-number id (Some n) s e = (n, (refl, cc))

first-kept : (facts : Facts) (memo : BTreeMap ℕ (ℕ × ℕ)) (names : List (List ℕ)) (place next : Place) (name : List ℕ) → step facts place name ≡ Ok next →
    ((n : ℕ) → number_named facts.names name (entries_in facts place.id) ≡ Some n → IsKeptAt facts memo (spot_in place.id n)) → (s : Spot) → In s (taken_from facts (name ∷ names) place) → IsKeptAt facts memo s ⊎ In s (taken_from facts names next)
first-kept facts memo names place next name there kept s h =
    let k : In s (cons_option (spot_named facts place name) (taken_from facts names next)) =
    subst (λ (r : Result Place Answer). In s (cons_option (spot_named facts place name) (through (value_of r) (λ (p : Place). taken_from facts names p)))) there h in
    elim (in-cons-or (spot_named facts place name) s (taken_from facts names next) k) as (λ _. IsKeptAt facts memo s ⊎ In s (taken_from facts names next)) [
      | inl e ↦
          let named : option_map (spot_in place.id) (number_named facts.names name (entries_in facts place.id)) ≡ Some s =
          sym (ap (λ b. cond b (option_map (spot_in place.id) (number_named facts.names name (entries_in facts place.id))) None) (step_directory facts place next name there)) ∙ e in
          let t = spot-number place.id (number_named facts.names name (entries_in facts place.id)) s named in
          inl (subst (λ (x : Spot). IsKeptAt facts memo x) t.1.1 (kept t.0 t.1.0))
      | inr m ↦ inr m
    ]

-- one part on
pub keeps_part : (facts : Facts) (memo : BTreeMap ℕ (ℕ × ℕ)) (parts : List (List ℕ)) (place next : Place) (part : List ℕ) → by_part facts place part ≡ Ok next → KeepsTaken facts memo place.id part → KeepsFrom facts memo (part ∷ parts) place parts next
keeps_part facts memo parts place next part there kept s m =
    let go : (b : Bool) → is_component part ≡ b → cond b (step facts place part) (Ok place) ≡ Ok next → In s (taken_from facts (cond b (part ∷ filter is_component parts) (filter is_component parts)) place) → IsKeptAt facts memo s ⊎ In s (taken_from facts (filter is_component parts) next) =
    λ b. elim b as (λ b. is_component part ≡ b → cond b (step facts place part) (Ok place) ≡ Ok next → In s (taken_from facts (cond b (part ∷ filter is_component parts) (filter is_component parts)) place) → IsKeptAt facts memo s ⊎ In s (taken_from facts (filter is_component parts) next)) [
      | true ↦ λ i h k. first-kept facts memo (filter is_component parts) place next part h (kept i) s k
      | false ↦ λ i h k. let same : place ≡ next = cc in inr (subst (λ (p : Place). In s (taken_from facts (filter is_component parts) p)) same k)
    ] in
    go (is_component part) refl there m

-- parts that follow one another
pub keeps_on : (facts : Facts) (old new : BTreeMap ℕ (ℕ × ℕ)) (all left rest : List (List ℕ)) (start place next : Place) → StaysKept old new → KeepsFrom facts old all start left place → KeepsFrom facts new left place rest next → KeepsFrom facts new all start rest next
keeps_on facts old new all left rest start place next stays before after s m = elim (before s m) as (λ _. IsKeptAt facts new s ⊎ In s (taken_from facts (filter is_component rest) next)) [
  | inl kept ↦ inl (at_stays facts old new s stays kept)
  | inr k ↦ after s k
]

-- all parts of a path
pub keeps_path : (facts : Facts) (memo : BTreeMap ℕ (ℕ × ℕ)) (path : List ℕ) (parts : List (List ℕ)) (root place : Place) → root_of facts ≡ Some root → parts ≡ parts_of path → KeepsFrom facts memo parts root [] place → KeepsPath facts memo path
unfolding taken components
keeps_path facts memo path parts root place there same keeps s m =
    let k : In s (taken_from facts (filter is_component (parts_of path)) root) = subst (λ (o : Option Place). In s (through o (λ (r : Place). taken_from facts (components path) r))) there m in
    elim (keeps s (subst (λ (ps : List (List ℕ)). In s (taken_from facts (filter is_component ps) root)) (sym same) k)) as (λ _. IsKeptAt facts memo s) [
      | inl kept ↦ kept
      | inr none ↦ absurd none
    ]

-- ---- what was met twice
pub kept_clear : (facts : Facts) (memo : BTreeMap ℕ (ℕ × ℕ)) (path : List ℕ) (rows : List (List ℕ × Target)) → ((spot : Spot) → IsShownAt facts path rows spot → IsKeptAt facts memo spot) → (id : ℕ) → IsShownTwice facts path rows id → ⊥
kept_clear facts memo path rows kept id twice =
    let one : get nat_cmp memo id ≡ Some (twice.one.id, twice.one.number) = (kept twice.one twice.one_met id twice.one_names).1 twice.directory in
    let other : get nat_cmp memo id ≡ Some (twice.other.id, twice.other.number) = (kept twice.other twice.other_met id twice.other_names).1 twice.directory in
    let both : ◌≡◌ {A = Option (ℕ × ℕ)} (Some (twice.one.id, twice.one.number)) (Some (twice.other.id, twice.other.number)) = sym one ∙ other in
    let pair : ◌≡◌ {A = ℕ × ℕ} (twice.one.id, twice.one.number) (twice.other.id, twice.other.number) = cc in
    twice.different (ap (λ (t : ℕ × ℕ). spot_in t.0 t.1) pair)

place-same : (facts : Facts) (path : List ℕ) (a b : Place) → found facts path ≡ Ok a → found facts path ≡ Ok b → a ≡ b
place-same facts path a b e f = let both : ◌≡◌ {A = Result Place Answer} (Ok a) (Ok b) = sym e ∙ f in cc

-- of a directory
pub rows_kept : (facts : Facts) (memo : BTreeMap ℕ (ℕ × ℕ)) (path : List ℕ) (place : Place) (rows : List (List ℕ × Target)) → found facts path ≡ Ok place → KeepsPath facts memo path → AreKeptIn facts memo place.id → AreRowsKept facts memo rows → (spot : Spot) → IsShownAt facts path rows spot → IsKeptAt facts memo spot
rows_kept facts memo path place rows there taken_kept first_kept kept_rows = at
  where
    shown : (d : ℕ) → IsShown facts path rows d → AreKeptIn facts memo d
    shown d (inl own) = subst (λ i. AreKeptIn facts memo i) (ap (λ (p : Place). p.id) (place-same facts path place own.0 there own.1) ∙ own.3) first_kept
    shown d (inr row) = subst (λ i. AreKeptIn facts memo i) row.3 (kept_rows row.0 row.1 row.2)

    at : (spot : Spot) → IsShownAt facts path rows spot → IsKeptAt facts memo spot
    at spot (inl on) = taken_kept spot on
    at spot (inr in_it) = shown spot.id in_it spot.number

-- of what is no directory
pub lone_kept : (facts : Facts) (memo : BTreeMap ℕ (ℕ × ℕ)) (path : List ℕ) (place : Place) (rows : List (List ℕ × Target)) (row : List ℕ × Target) → found facts path ≡ Ok place → is_directory place.inode ≡ false → rows ≡ row ∷ [] → row ≡ row_told (lone_row place) → KeepsPath facts memo path → (spot : Spot) → IsShownAt facts path rows spot → IsKeptAt facts memo spot
lone_kept facts memo path place rows row there closed only is taken_kept = at
  where
    none-opened : (r : List ℕ × Target) → In r (row ∷ []) → is_opened_target r.1 ≡ true → ⊥
    none-opened r (inl e) opened =
        clash (is_directory place.inode) (left-true (is_directory place.inode) (nat_le first_user_id place.id) (sym (ap (λ (x : List ℕ × Target). is_opened_target x.1) (e ∙ is)) ∙ opened)) closed
    none-opened r (inr h) opened = absurd h

    at : (spot : Spot) → IsShownAt facts path rows spot → IsKeptAt facts memo spot
    at spot (inl on) = taken_kept spot on
    at spot (inr (inl own)) = absurd (clash (is_directory place.inode) (subst (λ (p : Place). is_directory p.inode ≡ true) (place-same facts path own.0 place own.1 there) own.2) closed)
    at spot (inr (inr r)) = absurd (none-opened r.0 (subst (λ (l : List (List ℕ × Target)). In r.0 l) only r.1) r.2)

-- each has its file's inode
pub kept_files : (facts : Facts) (memo : BTreeMap ℕ (ℕ × ℕ)) (path : List ℕ) (rows : List (List ℕ × Target)) → ((spot : Spot) → IsShownAt facts path rows spot → IsKeptAt facts memo spot) → HaveMetFiles facts path rows
kept_files facts memo path rows kept spot file shown entry = (kept spot shown file entry).0
