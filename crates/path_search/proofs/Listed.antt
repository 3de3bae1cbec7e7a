-- Listings, as they are told, and the steps of a path one after the other.
use Rattle.std.proofs.Common.{◌≡◌, ℕ, ◌+◌, ◌<◌, Bool, true, false, cond, List, [], ◌∷◌, ◌++◌, length, map, take, drop, get_or, ◌≤◌, Option, Some, None, Result, Ok, Err, refl, ap, sym, ◌∙◌, arith}
use Rattle.std.specs.Prelude.{filter_map, option_map}
use Rattle.std.specs.List.{cons_option}
use Rattle.std.proofs.lemmas.List.{drop_more, take_more, take_all, length-take-le, map-append, take-map, drop-map}
use Rattle.std.proofs.lemmas.List.Elements.{filter_map-append}
use Rattle.apfs_model.specs.Lists.{and_then}
use Rattle.fs_record.specs.Entries.{Entry}
use Rattle.fs_record.specs.Facts.{Fact}
use Rattle.fs_record.specs.Inodes.{Inode}
use Rattle.view_rules.specs.Facts.{Facts, inode_at, is_directory}
use Rattle.path_search.specs.Places.{Place, placed, target_of}
use Rattle.path_search.specs.Found.{entries_in, place_by, found}
use Rattle.path_search.specs.Order.{is_after, put_in, by_name}
use Rattle.path_search.specs.Listing.{children, listed, listing}
use Rattle.path_search.specs.Parts.{whats, by_part, along, target_by, target_with, targets_by, targets_with}
use Rattle.path_search.specs.declared.answer.Answer.{Answer}
use Rattle.path_search.specs.declared.target.Target.{Target}
use Rattle.path_search.specs.declared.kinds.KindAndSize.{KindAndSize}
use Rattle.path_search.proofs.Known.{along_on, along_stops}

-- ---- one part after another
pub ok_same : {T E : Type 0} (x y : T) → ◌≡◌ {A = Result T E} (Ok x) (Ok y) → y ≡ x
ok_same x y e = cc

pub drop-all : {X : Type 0} (xs : List X) → drop (length xs) xs ≡ []
drop-all [] = refl
drop-all (x ∷ xs) = drop-all xs

pub drop_at : {P : Type 0} (now : P → List ℕ) (parts : List P) (i : ℕ) (d : P) → i < length parts → map now (drop i parts) ≡ now (get_or parts i d) ∷ map now (drop (i + 1) parts)
drop_at now parts i d low = ap (map now) (drop_more parts i d low)

pub along_next : {P : Type 0} (now : P → List ℕ) (facts : Facts) (parts : List P) (i : ℕ) (d : P) (place next : Place) (whole : Result Place Answer) → i < length parts → by_part facts place (now (get_or parts i d)) ≡ Ok next → along facts (map now (drop i parts)) place ≡ whole → along facts (map now (drop (i + 1) parts)) next ≡ whole
along_next now facts parts i d place next whole low step so_far = sym (along_on facts (map now (drop (i + 1) parts)) place next (now (get_or parts i d)) step) ∙ (sym (ap (λ ps. along facts ps place) (drop_at now parts i d low)) ∙ so_far)

pub along_ends : {P : Type 0} (now : P → List ℕ) (facts : Facts) (parts : List P) (i : ℕ) (d : P) (place : Place) (a : Answer) (whole : Result Place Answer) → i < length parts → by_part facts place (now (get_or parts i d)) ≡ Err a → along facts (map now (drop i parts)) place ≡ whole → whole ≡ Err a
along_ends now facts parts i d place a whole low step so_far = sym so_far ∙ (ap (λ ps. along facts ps place) (drop_at now parts i d low) ∙ along_stops facts (map now (drop (i + 1) parts)) place (now (get_or parts i d)) a step)

pub along_done : {P : Type 0} (now : P → List ℕ) (facts : Facts) (parts : List P) (i : ℕ) (place : Place) (whole : Result Place Answer) → i ≡ length parts → along facts (map now (drop i parts)) place ≡ whole → whole ≡ Ok place
along_done now facts parts i place whole end so_far = sym so_far ∙ ap (λ ps. along facts (map now ps) place) (ap (λ k. drop k parts) end ∙ drop-all parts)

-- ---- one entry after another
pub whats-join : (es fs : List (Fact Entry)) → whats (es ++ fs) ≡ whats es ++ whats fs
whats-join [] fs = refl
whats-join (e ∷ es) fs = ap (λ l. e.what ∷ l) (whats-join es fs)

pub targets_more : (facts : Facts) (es : List (Fact Entry)) (i : ℕ) (e : Fact Entry) (target : Target) (targets : List Target) → i < length es → e ≡ get_or es i e → target_by facts e.what ≡ Some target → targets ≡ targets_by facts (whats (take i es)) → targets ++ target ∷ [] ≡ targets_by facts (whats (take (i + 1) es))
targets_more facts es i e target targets low at there so_far =
    let more : whats (take (i + 1) es) ≡ whats (take i es) ++ e.what ∷ [] = ap whats (take_more es i e low ∙ ap (λ (f : Fact Entry). take i es ++ f ∷ []) (sym at)) ∙ whats-join (take i es) (e ∷ []) in
    ap (λ l. l ++ target ∷ []) so_far
    ∙ (ap (λ (o : Option Target). targets_by facts (whats (take i es)) ++ cons_option o []) (sym there)
    ∙ (sym (filter_map-append (target_by facts) (whats (take i es)) (e.what ∷ [])) ∙ ap (targets_by facts) (sym more)))

-- ---- entries with the kinds and sizes of their files
-- what is told of each, one by one
pub told_more : (f : Entry → Option KindAndSize) (es : List (Fact Entry)) (i : ℕ) (e : Fact Entry) (told : Option KindAndSize) (kinds : List (Option KindAndSize)) → i < length es → e ≡ get_or es i e → told ≡ f e.what → kinds ≡ map f (whats (take i es)) → kinds ++ told ∷ [] ≡ map f (whats (take (i + 1) es))
told_more f es i e told kinds low at same so_far =
    let more : whats (take (i + 1) es) ≡ whats (take i es) ++ e.what ∷ [] = ap whats (take_more es i e low ∙ ap (λ (g : Fact Entry). take i es ++ g ∷ []) (sym at)) ∙ whats-join (take i es) (e ∷ []) in
    ap (λ l. l ++ told ∷ []) so_far
    ∙ (ap (λ (o : Option KindAndSize). map f (whats (take i es)) ++ o ∷ []) same
    ∙ (sym (map-append f (whats (take i es)) (e.what ∷ [])) ∙ ap (map f) (sym more)))

pub told_done : (f : Entry → Option KindAndSize) (es : List (Fact Entry)) (i : ℕ) (kinds : List (Option KindAndSize)) → i ≡ length es → kinds ≡ map f (whats (take i es)) → kinds ≡ map f (whats es)
told_done f es i kinds end so_far = so_far ∙ ap (λ l. map f (whats l)) (take_all i es (omega arith))

-- what is told of a part of them
pub told_part : (f : Entry → Option KindAndSize) (es : List (Fact Entry)) (from n : ℕ) → take n (drop from (map f (whats es))) ≡ map f (whats (take n (drop from es)))
told_part f es from n =
    let what : Fact Entry → Entry = λ (g : Fact Entry). g.what in
    ap (take n) (drop-map f from (whats es))
    ∙ (take-map f n (drop from (whats es)) ∙ ap (map f) (ap (take n) (drop-map what from es) ∙ take-map what n (drop from es)))

-- what an entry leads to has its name and its file's id
same-target : (facts : Facts) (e : Fact Entry) (target : Target) (told : KindAndSize) → target_by facts e.what ≡ Some target → told.kind ≡ target.kind → told.size ≡ target.size → target ≡ target_with e told
same-target facts e target told there kind size =
    let go : (o : Option Inode) → option_map target_of (option_map (placed e.what.file_id e.what.name) o) ≡ Some target → target ≡ target_with e told = λ o. elim o as (λ o. option_map target_of (option_map (placed e.what.file_id e.what.name) o) ≡ Some target → target ≡ target_with e told) [
      | None ↦ λ h. absurd cc
      | Some inode ↦ λ h. let same : target_of (placed e.what.file_id e.what.name inode) ≡ target = cc in cc
    ] in
    go (inode_at facts e.what.file_id) there

-- one entry more
with-one : (es : List (Fact Entry)) (kinds : List KindAndSize) (e : Fact Entry) (told : KindAndSize) → length es ≡ length kinds → targets_with (es ++ e ∷ []) (kinds ++ told ∷ []) ≡ targets_with es kinds ++ target_with e told ∷ []
with-one [] [] e told same = refl
with-one (f ∷ es) (k ∷ ks) e told same = ap (λ l. target_with f k ∷ l) (with-one es ks e told (omega arith))
with-one es ks e told same = absurd (omega arith)

short : {X : Type 0} (i : ℕ) (xs : List X) → i ≤ length xs → length (take i xs) ≡ i
short i xs low = length-take-le i xs low

pub kinds_more : (facts : Facts) (es : List (Fact Entry)) (i : ℕ) (e : Fact Entry) (target : Target) (told : KindAndSize) (kinds more : List KindAndSize) → i < length es → e ≡ get_or es i e → target_by facts e.what ≡ Some target → told.kind ≡ target.kind → told.size ≡ target.size →
    more ≡ kinds ++ told ∷ [] → i ≡ length kinds → targets_with (take i es) kinds ≡ targets_by facts (whats (take i es)) → targets_with (take (i + 1) es) more ≡ targets_by facts (whats (take (i + 1) es))
kinds_more facts es i e target told kinds more low at there kind size pushed counted so_far =
    let long : length (take i es) ≡ length kinds = short i es (omega arith) ∙ counted in
    let next : take (i + 1) es ≡ take i es ++ e ∷ [] = take_more es i e low ∙ ap (λ (f : Fact Entry). take i es ++ f ∷ []) (sym at) in
    ap (λ l. targets_with l more) next
    ∙ (ap (targets_with (take i es ++ e ∷ [])) pushed
    ∙ (with-one (take i es) kinds e told long
    ∙ (ap (λ (t : Target). targets_with (take i es) kinds ++ t ∷ []) (sym (same-target facts e target told there kind size))
    ∙ targets_more facts es i e target (targets_with (take i es) kinds) low at there so_far)))

pub kinds_done : (facts : Facts) (es : List (Fact Entry)) (i : ℕ) (kinds : List KindAndSize) → i ≡ length es → targets_with (take i es) kinds ≡ targets_by facts (whats (take i es)) → targets_with es kinds ≡ targets_by facts (whats es)
kinds_done facts es i kinds end so_far =
    let all : take i es ≡ es = take_all i es (omega arith) in
    sym (ap (λ l. targets_with l kinds) all) ∙ (so_far ∙ ap (λ l. targets_by facts (whats l)) all)

-- the targets of the entries up to a place
pub with_more : (es : List (Fact Entry)) (kinds : List KindAndSize) (i : ℕ) (e : Fact Entry) (told none : KindAndSize) → i < length es → length es ≡ length kinds → e ≡ get_or es i e → told ≡ get_or kinds i none → targets_with (take i es) (take i kinds) ++ target_with e told ∷ [] ≡ targets_with (take (i + 1) es) (take (i + 1) kinds)
with_more es kinds i e told none low same at told_at =
    let low_too : i < length kinds = omega arith in
    let long : length (take i es) ≡ length (take i kinds) = short i es (omega arith) ∙ sym (short i kinds (omega arith)) in
    let next : take (i + 1) es ≡ take i es ++ e ∷ [] = take_more es i e low ∙ ap (λ (f : Fact Entry). take i es ++ f ∷ []) (sym at) in
    let next_kinds : take (i + 1) kinds ≡ take i kinds ++ told ∷ [] = take_more kinds i none low_too ∙ ap (λ (k : KindAndSize). take i kinds ++ k ∷ []) (sym told_at) in
    sym (ap (λ l. targets_with l (take (i + 1) kinds)) next ∙ (ap (targets_with (take i es ++ e ∷ [])) next_kinds ∙ with-one (take i es) (take i kinds) e told long))

pub with_all : (es : List (Fact Entry)) (kinds : List KindAndSize) (i : ℕ) → i ≡ length es → length es ≡ length kinds → targets_with (take i es) (take i kinds) ≡ targets_with es kinds
with_all es kinds i end same = ap (λ l. targets_with l (take i kinds)) (take_all i es (omega arith)) ∙ ap (targets_with es) (take_all i kinds (omega arith))

-- ---- listings
given-map : {X Y Z : Type 0} (f : Y → Z) (g : X → Option Y) (xs : List X) → filter_map (λ x. option_map f (g x)) xs ≡ map f (filter_map g xs)
given-map f g [] = refl
given-map {X} {Y} {Z} f g (x ∷ xs) =
    let rest = given-map f g xs in
    let go : (o : Option Y) → cons_option (option_map f o) (filter_map (λ x. option_map f (g x)) xs) ≡ map f (cons_option o (filter_map g xs)) = λ o. elim o as (λ o. cons_option (option_map f o) (filter_map (λ x. option_map f (g x)) xs) ≡ map f (cons_option o (filter_map g xs))) [
      | None ↦ rest
      | Some y ↦ ap (λ l. f y ∷ l) rest
    ] in
    go (g x)

put-map : {X Y : Type 0} (f : X → Y) (name : Y → List ℕ) (x : X) (xs : List X) → put_in name (f x) (map f xs) ≡ map f (put_in (λ z. name (f z)) x xs)
put-map f name x [] = refl
put-map {X} {Y} f name x (y ∷ ys) =
    let rest = put-map f name x ys in
    let go : (b : Bool) → cond b (f y ∷ put_in name (f x) (map f ys)) (f x ∷ f y ∷ map f ys) ≡ map f (cond b (y ∷ put_in (λ z. name (f z)) x ys) (x ∷ y ∷ ys)) = λ b. elim b as (λ b. cond b (f y ∷ put_in name (f x) (map f ys)) (f x ∷ f y ∷ map f ys) ≡ map f (cond b (y ∷ put_in (λ z. name (f z)) x ys) (x ∷ y ∷ ys))) [
      | true ↦ ap (λ l. f y ∷ l) rest
      | false ↦ refl
    ] in
    go (is_after name (f x) (f y))

-- a list by name, of what is told of its items
pub name_map : {X Y : Type 0} (f : X → Y) (name : Y → List ℕ) (xs : List X) → by_name name (map f xs) ≡ map f (by_name (λ x. name (f x)) xs)
name_map f name [] = refl
name_map f name (x ∷ xs) = ap (put_in name (f x)) (name_map f name xs) ∙ put-map f name x (by_name (λ x. name (f x)) xs)

-- what a directory has, from what its entries lead to
pub children_told : (facts : Facts) (id : ℕ) (es : List Entry) (targets sorted : List Target) → es ≡ entries_in facts id → targets ≡ targets_by facts es → sorted ≡ by_name (λ (t : Target). t.name) targets → sorted ≡ map target_of (children facts id)
unfolding children
children_told facts id es targets sorted e f g =
    g ∙ (ap (by_name (λ (t : Target). t.name)) (f ∙ (ap (targets_by facts) e ∙ given-map target_of (place_by facts) (entries_in facts id))) ∙ name_map target_of (λ (t : Target). t.name) (filter_map (place_by facts) (entries_in facts id)))

pub listed_directory : (facts : Facts) (place : Place) (targets : List Target) → is_directory place.inode ≡ true → targets ≡ map target_of (children facts place.id) → targets ≡ map target_of (listed facts place)
listed_directory facts place targets e f = f ∙ sym (ap (λ b. map target_of (cond b (children facts place.id) (place ∷ []))) e)

pub listed_file : (facts : Facts) (place : Place) (targets : List Target) → is_directory place.inode ≡ false → targets ≡ target_of place ∷ [] → targets ≡ map target_of (listed facts place)
listed_file facts place targets e f = f ∙ sym (ap (λ b. map target_of (cond b (children facts place.id) (place ∷ []))) e)

pub listing_found : (facts : Facts) (path : List ℕ) (place : Place) (targets : List Target) → found facts path ≡ Ok place → targets ≡ map target_of (listed facts place) → listing facts path ≡ Ok targets
listing_found facts path place targets there e = ap (λ (r : Result Place Answer). and_then {T = Place} {U = List Target} r (λ (p : Place). Ok (map target_of (listed facts p)))) there ∙ ap Ok (sym e)

pub listing_answered : (facts : Facts) (path : List ℕ) (a : Answer) → found facts path ≡ Err a → listing facts path ≡ Err a
listing_answered facts path a e = ap (λ (r : Result Place Answer). and_then {T = Place} {U = List Target} r (λ (p : Place). Ok (map target_of (listed facts p)))) e
