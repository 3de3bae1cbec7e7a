-- Directories that a tree enters, its rows one by one, and what stops it.
use Rattle.std.proofs.Common.{◌≡◌, ◌==◌, ◌&&◌, get_or, ℕ, suc, ◌+◌, ◌-◌, ◌<◌, ◌≤◌, Bool, true, false, cond, List, [], ◌∷◌, ◌++◌, length, map, reverse, Option, None, Some, Result, Ok, Err, ◌⊎◌, inl, inr, refl, ap, sym, ◌∙◌, subst, arith, append_assoc, append-nil, length-append}
use Rattle.std.specs.Prelude.{filter_map, option_map, slice_get, nat_le}
use Rattle.std.proofs.lemmas.List.{reverse-append}
use Rattle.apfs_model.specs.Lists.{In, and_then, passes}
use Rattle.apfs_model.proofs.BoolTests.{both-true, left-true, right-true, from-below}
use Rattle.apfs_model.proofs.Searches.{in-append, from-map}
use Rattle.obj_base.specs.declared.site.Site.{Site}
use Rattle.obj_base.specs.declared.stop.Stop.{Stop}
use Rattle.obj_base.specs.declared.stop.Stop.TheVariants.{Found, Unsupported, NoMemory}
use Rattle.fs_name.specs.declared.naming.Names.{Names}
use Rattle.fs_record.specs.Inodes.{Inode}
use Rattle.fs_record.specs.Entries.{Entry}
use Rattle.fs_record.specs.Facts.{Fact, is_reserved, first_user_id}
use Rattle.vol_view.specs.Volumes.{Loaded}
use Rattle.vol_view.specs.declared.volume.View.{View}
use Rattle.view_rules.specs.Facts.{Facts, is_directory, has_directory}
use Rattle.view_rules.specs.Rules.{view_facts, IsTreeFault}
use Rattle.view_rules.specs.declared.fault.TreeFault.{TreeFault}
use Rattle.view_rules.proofs.Law.{refutes}
use Rattle.path_search.specs.Paths.{slash, is_component}
use Rattle.path_search.specs.Places.{Place, target_of}
use Rattle.path_search.specs.Found.{entries_in, place_by, found, number_named}
use Rattle.path_search.specs.Listing.{children}
use Rattle.view_tree.specs.Met.{Spot, spot_in, is_user_id, IsEntered, own, below, IsEntryOf, IsMet}
use Rattle.path_search.specs.Stops.{IsLawful, IsPathFault}
use Rattle.path_search.specs.Calls.{IsGiven, IsStopThere}
use Rattle.view_tree.specs.Told.{IsTold}
use Rattle.view_tree.specs.Tree.{rows_below, rows_at, lone_row, row_told, tree}
use Rattle.path_search.specs.Parts.{whats, IsLack, IsKnown, IsPlaceKnown, WhereTold}
use Rattle.view_tree.specs.Parts.{IsUnderway, HasAll, IsTaken, is_opened_target, told_after, told_of, told_under, told_from, IsRepeat, IsTreeKnown, IsTreeStop, RowsEntered}
use Rattle.path_search.specs.declared.answer.Answer.{Answer}
use Rattle.path_search.specs.declared.kinds.KindAndSize.{KindAndSize}
use Rattle.path_search.specs.declared.stop.PathStop.{PathStop}
use Rattle.path_search.specs.declared.stop.PathStop.TheVariants as stops
use Rattle.path_search.specs.declared.target.Target.{Target}
use Rattle.path_search.proofs.Tallies.{in-given, in-by}
use Rattle.path_search.proofs.Entries.{place-file}
use Rattle.view_tree.proofs.Laws.{met_twice_is_there}
use Rattle.path_search.proofs.Known.{lack_entry, known_there}
use Rattle.view_tree.proofs.Told.{rows_told, told_none}
use Rattle.path_search.specs.Needs.{RestsOn}
use Rattle.view_tree.proofs.Memos.{entry_of, met_under, user_of}

-- ---- directories that are entered
numbered : {X : Type 0} (xs : List X) (x : X) → In x xs → (n : ℕ) × (slice_get xs n ≡ Some x)
numbered [] x h = absurd h
numbered (y ∷ xs) x (inl e) = (0, ap Some (sym e))
numbered (y ∷ xs) x (inr h) = let t = numbered xs x h in (suc t.0, t.1)

pub child_entered : (facts : Facts) (first id : ℕ) → IsEntered facts first id → (t : Target) → In t (map target_of (children facts id)) → is_opened_target t ≡ true → IsEntered facts first t.id
unfolding children
child_entered facts first id entered t h opened =
    let a = from-map target_of (children facts id) t h in
    let place : Place = a.0 in
    let k = in-by (λ (p : Place). p.name) (filter_map (place_by facts) (entries_in facts id)) place a.1.0 in
    let u = in-given (place_by facts) (entries_in facts id) place k in
    let n = numbered (entries_in facts id) u.0 u.1.0 in
    let file = place-file facts u.0 place u.1.1 in
    let entry : IsEntryOf facts (spot_in id n.0) place.id = record { entry = u.0; there = n.1; names = sym file.0 } in
    let same : t.id ≡ place.id = ap (λ (x : Target). x.id) a.1.1 in
    subst (λ i. IsEntered facts first i) (sym same) (below (spot_in id n.0) place.id entered entry (user_of facts u.0 place u.1.1 (ap is_opened_target (sym a.1.1) ∙ opened)))

of-entered : (facts : Facts) (first : ℕ) (before : List ℕ) (id : ℕ) → IsEntered facts first id → RowsEntered facts first (told_of facts before id)
of-entered facts first before id entered row h opened =
    let a = from-map (told_after before) (map target_of (children facts id)) row h in
    let same : row.1 ≡ a.0 = ap (λ (r : List ℕ × Target). r.1) a.1.1 in
    subst (λ (t : Target). IsEntered facts first t.id) (sym same) (child_entered facts first id entered a.0 a.1.0 (ap is_opened_target (sym same) ∙ opened))

pub first_entered : (facts : Facts) (first : ℕ) (rows : List (List ℕ × Target)) → rows ≡ told_of facts [] first → RowsEntered facts first rows
first_entered facts first rows e = subst (λ (l : List (List ℕ × Target)). RowsEntered facts first l) (sym e) (of-entered facts first [] first own)

under-if : (facts : Facts) (first : ℕ) (row : List ℕ × Target) (b : Bool) → is_opened_target row.1 ≡ b → (is_opened_target row.1 ≡ true → IsEntered facts first row.1.id) → RowsEntered facts first (cond b (told_of facts (row.0 ++ slash ∷ []) row.1.id) [])
under-if facts first row true e entered = of-entered facts first (row.0 ++ slash ∷ []) row.1.id (entered e)
under-if facts first row false e entered = λ r h. absurd h

under-entered : (facts : Facts) (first : ℕ) (row : List ℕ × Target) → (is_opened_target row.1 ≡ true → IsEntered facts first row.1.id) → RowsEntered facts first (told_under facts row)
unfolding told_under
under-entered facts first row entered = under-if facts first row (is_opened_target row.1) refl entered

-- the rows that are left after one more row
pub next_entered : (facts : Facts) (first : ℕ) (row : List ℕ × Target) (rest next : List (List ℕ × Target)) → RowsEntered facts first (row ∷ rest) → next ≡ told_under facts row ++ rest → RowsEntered facts first next
next_entered facts first row rest next entered e r h opened =
    let k : In r (told_under facts row ++ rest) = subst (λ (l : List (List ℕ × Target)). In r l) e h in
    elim (in-append r (told_under facts row) rest k) as (λ _. IsEntered facts first r.1.id) [
      | inl m ↦ under-entered facts first row (entered row (inl refl)) r m opened
      | inr m ↦ entered r (inr m) opened
    ]

-- ---- rows one by one
pub popped : {X : Type 0} (old new : List X) (x : X) → old ≡ new ++ x ∷ [] → reverse old ≡ x ∷ reverse new
popped old new x e = ap reverse e ∙ reverse-append new (x ∷ [])

pub told_step : (facts : Facts) (n : ℕ) (rows : List (List ℕ × Target)) (row : List ℕ × Target) (left rest next : List (List ℕ × Target)) (whole : List (List ℕ × Target)) → length rows < n → left ≡ row ∷ rest → next ≡ told_under facts row ++ rest →
    rows ++ told_from facts (n - length rows) left ≡ whole → (rows ++ row ∷ []) ++ told_from facts (n - length (rows ++ row ∷ [])) next ≡ whole
told_step facts n rows row left rest next whole low e f so_far =
    let m : ℕ = n - (length rows + 1) in
    let here : n - length rows ≡ suc m = omega arith in
    let after : n - length (rows ++ row ∷ []) ≡ m = omega (arith, length-append rows (row ∷ [])) in
    append_assoc rows (row ∷ []) (told_from facts (n - length (rows ++ row ∷ [])) next)
    ∙ (ap (λ k. rows ++ (row ∷ told_from facts k next)) after
    ∙ (ap (λ l. rows ++ (row ∷ told_from facts m l)) f
    ∙ (sym (ap (λ k. rows ++ told_from facts k (row ∷ rest)) here) ∙ (sym (ap (λ l. rows ++ told_from facts (n - length rows) l) e) ∙ so_far))))

pub told_end : (facts : Facts) (n : ℕ) (rows left whole : List (List ℕ × Target)) → left ≡ [] → rows ++ told_from facts (n - length rows) left ≡ whole → rows ≡ whole
told_end facts n rows left whole e so_far = sym (ap (λ l. rows ++ told_from facts (n - length rows) l) e ∙ (ap (λ l. rows ++ l) (told_none facts (n - length rows)) ∙ append-nil rows)) ∙ so_far

pub told_full : (facts : Facts) (n : ℕ) (rows left whole : List (List ℕ × Target)) → n ≤ length rows → rows ++ told_from facts (n - length rows) left ≡ whole → rows ≡ whole
told_full facts n rows left whole full so_far =
    let none : n - length rows ≡ 0 = omega arith in
    sym (ap (λ k. rows ++ told_from facts k left) none ∙ append-nil rows) ∙ so_far

-- ---- what stops a tree
pub lack_stop : (facts : Facts) (view : View) (path : List ℕ) (e : Fact Entry) (stop : Stop PathStop) → In e facts.entries → is_reserved e.id ≡ false → IsPlaceKnown facts view e (Err stop) → IsTreeStop facts view path stop
lack_stop facts view path e (Found (stops.Fault fault)) listed counts known = inl (lack_entry facts view e fault listed counts known.0 known.1)
lack_stop facts view path e NoMemory listed counts known = tt
lack_stop facts view path e stop listed counts known = absurd known

pub stop_known : {T U : Type 0} (facts : Facts) (view : View) (path : List ℕ) (shows : T → U) (wanted : Result U Answer) (stop : Stop PathStop) → IsTreeStop facts view path stop → IsTreeKnown facts view path shows wanted (Err stop)
stop_known facts view path shows wanted (Found (stops.Fault fault)) known = known
stop_known facts view path shows wanted NoMemory known = tt
stop_known facts view path shows wanted stop known = absurd known

pub path_known : {T U V W : Type 0} (facts : Facts) (view : View) (path : List ℕ) (shows : T → U) (wanted : Result U Answer) (sees : V → W) (whole : Result W Answer) (stop : Stop PathStop) → ((a : Answer) → wanted ≡ Err a → whole ≡ Err a) → IsKnown facts view shows wanted (Err stop) → IsTreeKnown facts view path sees whole (Err stop)
path_known facts view path shows wanted sees whole (Found (stops.Answer a)) goes known = goes a known
path_known facts view path shows wanted sees whole (Found (stops.Fault fault)) goes known = inl known
path_known facts view path shows wanted sees whole NoMemory goes known = tt
path_known facts view path shows wanted sees whole stop goes known = absurd known

pub tree_ends : {T U V W : Type 0} (facts : Facts) (view : View) (path : List ℕ) (shows : T → U) (wanted : Result U Answer) (sees : V → W) (whole : Result W Answer) (stop : Stop PathStop) → ((a : Answer) → wanted ≡ Err a → whole ≡ Err a) → IsTreeKnown facts view path shows wanted (Err stop) → IsTreeKnown facts view path sees whole (Err stop)
tree_ends facts view path shows wanted sees whole (Found (stops.Answer a)) goes known = goes a known
tree_ends facts view path shows wanted sees whole stop goes known = known

pub tree_err : {T U : Type 0} (facts : Facts) (view : View) (path : List ℕ) (shows : T → U) (wanted : Result U Answer) (stop : Stop PathStop) (a : Answer) → IsTreeKnown {T = T} facts view path shows wanted (Err stop) → stop ≡ Found (stops.Answer a) → wanted ≡ Err a
tree_err {T} facts view path shows wanted stop a known e = subst (λ (s : Stop PathStop). IsTreeKnown {T = T} facts view path shows wanted (Err s)) e known

pub stop_untold : (T : Type 0) (facts : Facts) (view : View) (path : List ℕ) (P : Type 0) (stop : Stop PathStop) → IsTreeStop facts view path stop → WhereTold {T = T} P (Err stop)
stop_untold T facts view path P (Found (stops.Answer a)) known = absurd known
stop_untold T facts view path P stop known = tt

pub tree_rests : {T U : Type 0} (facts : Facts) (view : View) (path : List ℕ) (shows : T → U) (wanted : Result U Answer) (needs : Type 0) (result : Result T (Stop PathStop)) → IsTreeKnown facts view path shows wanted result → WhereTold needs result → RestsOn shows wanted needs result
tree_rests facts view path shows wanted needs (Ok x) known h = (known, h)
tree_rests facts view path shows wanted needs (Err (Found (stops.Answer a))) known h = (known, h)
tree_rests facts view path shows wanted needs result known h = tt

-- ---- the tree of a path
pub tree_answered : (facts : Facts) (path : List ℕ) (a : Answer) → found facts path ≡ Err a → tree facts path ≡ Err a
tree_answered facts path a e = ap (λ (r : Result Place Answer). and_then {T = Place} {U = List (List ℕ × Target)} r (λ (p : Place). Ok (map row_told (rows_at facts p)))) e

tree-at : (facts : Facts) (path : List ℕ) (place : Place) → found facts path ≡ Ok place → tree facts path ≡ Ok (map row_told (rows_at facts place))
tree-at facts path place e = ap (λ (r : Result Place Answer). and_then {T = Place} {U = List (List ℕ × Target)} r (λ (p : Place). Ok (map row_told (rows_at facts p)))) e

pub tree_directory : (facts : Facts) (path : List ℕ) (place : Place) (rows : List (List ℕ × Target)) → found facts path ≡ Ok place → is_directory place.inode ≡ true → rows ≡ told_from facts (length facts.entries) (told_of facts [] place.id) → tree facts path ≡ Ok rows
tree_directory facts path place rows there e all =
    tree-at facts path place there ∙ ap Ok (ap (λ b. map row_told (cond b (rows_below facts place.id) (lone_row place ∷ []))) e ∙ (rows_told facts place.id ∙ sym all))

-- ---- of a view
repeat-there : (image : List ℕ) (site : Site) (volume : Loaded) (view : View) (path : List ℕ) (fault : TreeFault) → IsRepeat (view_facts image site volume view) view path fault → IsPathFault image site volume view fault
repeat-there image site volume view path fault there profile ranges =
    subst (λ (f : TreeFault). IsTreeFault profile image site volume view ranges f) (sym there.1.0) ((refl, refl), met_twice_is_there (view_facts image site volume view) path there.0 there.1.1)

fault-there : (image : List ℕ) (site : Site) (volume : Loaded) (view : View) (path : List ℕ) (fault : TreeFault) → IsLack (view_facts image site volume view) view fault ⊎ IsRepeat (view_facts image site volume view) view path fault → IsPathFault image site volume view fault
fault-there image site volume view path fault (inl lack) = known_there {T = Place} {U = Place} image site volume view (λ p. p) (found (view_facts image site volume view) path) (Found (stops.Fault fault)) lack
fault-there image site volume view path fault (inr twice) = repeat-there image site volume view path fault twice

pub tree_there : {T U : Type 0} (image : List ℕ) (site : Site) (volume : Loaded) (view : View) (path : List ℕ) (shows : T → U) (wanted : Result U Answer) (stop : Stop PathStop) → IsTreeKnown (view_facts image site volume view) view path shows wanted (Err stop) → IsStopThere image site volume view stop
tree_there image site volume view path shows wanted (Found (stops.Fault fault)) known = fault-there image site volume view path fault known
tree_there image site volume view path shows wanted (Unsupported feature block) known = absurd known
tree_there image site volume view path shows wanted stop known = tt

pub tree_given : {T U : Type 0} (image : List ℕ) (site : Site) (volume : Loaded) (view : View) (path : List ℕ) (shows : T → U) (wanted : Result U Answer) (stop : Stop PathStop) → IsLawful image site volume view → IsTreeKnown (view_facts image site volume view) view path shows wanted (Err stop) → IsGiven shows wanted (Err stop)
tree_given image site volume view path shows wanted (Found (stops.Answer a)) lawful known = known
tree_given image site volume view path shows wanted (Found (stops.Fault fault)) lawful known = refutes lawful.profile image site volume view lawful.ranges fault (fault-there image site volume view path fault known lawful.profile lawful.ranges) lawful.rules
tree_given image site volume view path shows wanted NoMemory lawful known = tt
tree_given image site volume view path shows wanted stop lawful known = absurd known

fault-told : (facts : Facts) (view : View) (path : List ℕ) (fault : TreeFault) → IsLack facts view fault ⊎ IsRepeat facts view path fault → IsTold facts path fault
fault-told facts view path fault (inl (inl lack)) = subst (λ (f : TreeFault). IsTold facts path f) (sym lack.2) tt
fault-told facts view path fault (inl (inr lack)) = subst (λ (f : TreeFault). IsTold facts path f) (sym lack.0) tt
fault-told facts view path fault (inr twice) = subst (λ (f : TreeFault). IsTold facts path f) (sym twice.1.0) twice.1.1

pub tree_told : {T U : Type 0} (facts : Facts) (view : View) (path : List ℕ) (shows : T → U) (wanted : Result U Answer) (stop : Stop PathStop) (fault : TreeFault) → IsTreeKnown facts view path shows wanted (Err stop) → ◌≡◌ {A = Result T (Stop PathStop)} (Err stop) (Err (Found (stops.Fault fault))) → IsTold facts path fault
tree_told {T} {U} facts view path shows wanted stop fault known e =
    let same : stop ≡ Found (stops.Fault fault) = cc in
    fault-told facts view path fault (subst (λ (s : Stop PathStop). IsTreeKnown facts view path shows wanted (Err s)) same known)

-- ---- entries that are met
-- what is told of an entry's file is its place as it is told
pub place_told : (facts : Facts) (e : Entry) (target : Target) → option_map target_of (place_by facts e) ≡ Some target → (place : Place) × ((place_by facts e ≡ Some place) × (target ≡ target_of place))
place_told facts e target told =
    let go : (o : Option Place) → place_by facts e ≡ o → option_map target_of o ≡ Some target → (place : Place) × ((place_by facts e ≡ Some place) × (target ≡ target_of place)) =
    λ o. elim o as (λ o. place_by facts e ≡ o → option_map target_of o ≡ Some target → (place : Place) × ((place_by facts e ≡ Some place) × (target ≡ target_of place))) [
      | None ↦ λ is h. absurd cc
      | Some place ↦ λ is h. (place, (is, (let same : target_of place ≡ target = cc in sym same)))
    ] in
    go (place_by facts e) refl told

-- of ids that are the same
pub entry_by : (facts : Facts) (spot : Spot) (id other : ℕ) → id ≡ other → IsEntryOf facts spot other → IsEntryOf facts spot id
entry_by facts spot id other same is = subst (λ i. IsEntryOf facts spot i) (sym same) is

pub entered_by : (facts : Facts) (first id other : ℕ) → id ≡ other → IsEntered facts first other → IsEntered facts first id
entered_by facts first id other same is = subst (λ i. IsEntered facts first i) (sym same) is

-- an entry of a directory that is entered, and what it leads to
pub met_entry : (facts : Facts) (path : List ℕ) (first id number : ℕ) (entries : List (Fact Entry)) (kinds : List (Option KindAndSize)) (es : List (Fact Entry)) (e : Fact Entry) (place : Place) (target : Target) (opened : Bool) →
    IsUnderway facts path first entries kinds → IsEntered facts first id → HasAll facts id es → number < length es → e ≡ get_or es number e → place_by facts e.what ≡ Some place → target ≡ target_of place → opened ≡ is_opened_target target →
    IsMet facts path (spot_in id number) × (IsEntryOf facts (spot_in id number) target.id × (opened ≡ true → is_user_id facts target.id ≡ true))
met_entry facts path first id number entries kinds es e place target opened way entered all low at there same test =
    let file : place.id ≡ e.what.file_id = (place-file facts e.what place there).0 in
    let is : target.id ≡ place.id = ap (λ (t : Target). t.id) same in (
      met_under facts path first id number entries kinds way entered,
      (
        subst (λ i. IsEntryOf facts (spot_in id number) i) (sym (is ∙ file)) (entry_of facts id number es e all low at),
        λ opens. ap (is_user_id facts) is ∙ user_of facts e.what place there (ap is_opened_target (sym same) ∙ (sym test ∙ opens)),
      ),
    )

-- an entry that a part of a path takes
pub met_part : (facts : Facts) (path : List ℕ) (names : Names) (id : ℕ) (part : List ℕ) (next : Place) (es : List (Fact Entry)) (taken : Option ℕ) (number : ℕ) (opened : Bool) →
    facts.names ≡ names → IsTaken facts path id part next → (length part == 0) ≡ false → whats es ≡ entries_in facts id → taken ≡ number_named names part (whats es) → taken ≡ Some number → opened ≡ ((is_directory next.inode) && nat_le first_user_id next.id) →
    IsMet facts path (spot_in id number) × (IsEntryOf facts (spot_in id number) next.id × (opened ≡ true → is_user_id facts next.id ≡ true))
met_part facts path names id part next es taken number opened named gives some same chosen is test =
    let component : is_component part ≡ true = component-some part some in
    let here : number_named facts.names part (entries_in facts id) ≡ Some number = ap (λ (n : Names). number_named n part (entries_in facts id)) named ∙ (ap (number_named names part) (sym same) ∙ (sym chosen ∙ is)) in
    let t = gives component number here in (
      inl t.0,
      (
        t.2,
        λ opens.
            let both : ((is_directory next.inode) && nat_le first_user_id next.id) ≡ true = sym test ∙ opens in
            both-true (has_directory facts next.id) (nat_le first_user_id next.id) (ap (λ (o : Option Inode). passes o is_directory) t.1 ∙ left-true (is_directory next.inode) (nat_le first_user_id next.id) both) (right-true (is_directory next.inode) (nat_le first_user_id next.id) both),
      ),
    )
  where
    component-some : (p : List ℕ) → (length p == 0) ≡ false → is_component p ≡ true
    component-some [] e = absurd cc
    component-some (b ∷ bs) e = from-below 0 (length (b ∷ bs)) (omega arith)

-- ---- rows that are put on others

pub told_start : (facts : Facts) (n : ℕ) (rows left start : List (List ℕ × Target)) → rows ≡ [] → left ≡ start → rows ++ told_from facts (n - length rows) left ≡ told_from facts n start
told_start facts n rows left start e f =
    let all : n - 0 ≡ n = omega arith in
    ap (λ l. l ++ told_from facts (n - length l) left) e ∙ (ap (λ k. told_from facts k left) all ∙ ap (told_from facts n) f)

pub none_left : {X : Type 0} (xs : List X) → length xs ≡ 0 → reverse xs ≡ []
none_left [] e = refl
none_left (x ∷ xs) e = absurd (omega arith)
