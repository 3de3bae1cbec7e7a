-- Records looked up by their names.
use Rattle.std.specs.Prelude.{◌≡◌, ℕ, zero, suc, ◌+◌, ◌-◌, ◌<◌, ◌≤◌, ◌++◌, length, Bool, true, false, cond, not, ◌&&◌, ◌||◌, ◌==◌, List, [], ◌∷◌, map, Option, Some, refl, is_some, bytes_eq}
use Rattle.std.specs.List.{list_all, list_any}
use Rattle.std.proofs.Common.{arith, ap, sym, ◌∙◌, subst, take, drop, get_or, drop-cons}
use Rattle.std.proofs.lemmas.List.{take_more}
use Rattle.std.proofs.lemmas.List.Folds.{list_all-append}
use Rattle.std.proofs.lemmas.Slice.Eq.{bytes_eq-Decides}
use Rattle.apfs_model.specs.Lists.{has_text, are_distinct, passes}
use Rattle.apfs_model.proofs.BoolTests.{clash, left-true, right-true, both-true, never-true, not-true, equal-from, from-equal, all-in}
use Rattle.vol_view.specs.Named.{named_by, xid_in, is_told}
use Rattle.vol_view.specs.Gathered.{is_same, are_same}
use Rattle.vol_view.specs.declared.records.SnapshotRecord.{SnapshotRecord}
use Rattle.vol_view.specs.declared.records.NameRecord.{NameRecord}
use Rattle.vol_view.proofs.Wholeness.{all-cong, any-cong, any-map, map-twice, item-in}

both-ways : (a b : Bool) → (a ≡ true → b ≡ true) → (b ≡ true → a ≡ true) → a ≡ b
both-ways true b f g = sym (f refl)
both-ways false true f g = g refl
both-ways false false f g = refl

bytes-sym : (xs ys : List ℕ) → bytes_eq xs ys ≡ bytes_eq ys xs
bytes-sym xs ys = both-ways (bytes_eq xs ys) (bytes_eq ys xs) (λ t. (bytes_eq-Decides ys xs).1 (sym ((bytes_eq-Decides xs ys).0 t))) (λ t. (bytes_eq-Decides xs ys).1 (sym ((bytes_eq-Decides ys xs).0 t)))

number-sym : (a b : ℕ) → (a == b) ≡ (b == a)
number-sym a b = both-ways (a == b) (b == a) (λ t. from-equal b a (sym (equal-from a b t))) (λ t. from-equal a b (sym (equal-from b a t)))

-- a name is found where it stands in the list
found-text : (known : List (List ℕ × ℕ)) (name : List ℕ) → is_some (xid_in known name) ≡ has_text (map (λ (p : List ℕ × ℕ). p.0) known) name
found-text [] name = refl
found-text (p ∷ known) name = found-by (bytes_eq p.0 name) p.1 (xid_in known name) (has_text (map (λ (q : List ℕ × ℕ). q.0) known) name) (found-text known name)
  where
    found-by : (b : Bool) (x : ℕ) (o : Option ℕ) (c : Bool) → is_some o ≡ c → is_some (cond b (Some x) o) ≡ (b || c)
    found-by true x o c e = refl
    found-by false x o c e = e

pub found-name : {X : Type 0} (name : X → List ℕ) (xid : X → ℕ) (xs : List X) (text : List ℕ) → is_some (xid_in (map (named_by name xid) xs) text) ≡ has_text (map name xs) text
found-name name xid xs text = found-text (map (named_by name xid) xs) text ∙ ap (λ ts. has_text ts text) (map-twice (named_by name xid) (λ (p : List ℕ × ℕ). p.0) xs)

-- the last of some names stand once where all do
pub distinct-drop : {X : Type 0} (name : X → List ℕ) (i : ℕ) (xs : List X) → are_distinct (map name xs) ≡ true → are_distinct (map name (drop i xs)) ≡ true
distinct-drop name zero xs e = e
distinct-drop name (suc i) [] e = e
distinct-drop name (suc i) (x ∷ xs) e = distinct-drop name i xs (right-true _ _ e)

-- what is left from a place on is its item and what is left after it
pub drop-here : {X : Type 0} (xs : List X) (i : ℕ) (x : X) → 0 < i → i ≤ length xs → x ≡ get_or xs (i - 1) x → drop (i - 1) xs ≡ x ∷ drop i xs
drop-here xs i x some low e =
    let next : suc (i - 1) ≡ i = omega arith in
    drop-cons xs (i - 1) x (omega arith) ∙ (ap (λ y. y ∷ drop (suc (i - 1)) xs) (sym e) ∙ ap (λ n. x ∷ drop n xs) next)

-- one more name, which isn't there yet, stands once
pub distinct-more : {X : Type 0} (name : X → List ℕ) (xid : X → ℕ) (x : X) (xs : List X) → are_distinct (map name xs) ≡ true → is_some (xid_in (map (named_by name xid) xs) (name x)) ≡ false → are_distinct (map name (x ∷ xs)) ≡ true
distinct-more name xid x xs e none = both-true _ _ (ap not (sym (found-name name xid xs (name x)) ∙ none)) e

-- a name that is there stands twice
pub twice-there : {X : Type 0} (name : X → List ℕ) (xid : X → ℕ) (x : X) (xs : List X) → is_some (xid_in (map (named_by name xid) xs) (name x)) ≡ true → are_distinct (map name (x ∷ xs)) ≡ true → ⊥
twice-there name xid x xs some e = clash _ (sym (found-name name xid xs (name x)) ∙ some) (not-true _ (left-true _ _ e))

-- a test that each item passes so far
pub all-more : {X : Type 0} (test : X → Bool) (xs : List X) (i : ℕ) (x : X) → i < length xs → x ≡ get_or xs i x → list_all test (take i xs) ≡ true → test x ≡ true → list_all test (take (i + 1) xs) ≡ true
all-more test xs i x low e had one =
    ap (list_all test) (take_more xs i x low ∙ ap (λ y. take i xs ++ y ∷ []) (sym e)) ∙ (list_all-append test (take i xs) (x ∷ []) ∙ both-true _ _ had (both-true (test x) true one refl))

-- a test that an item doesn't pass
pub all-not : {X : Type 0} (test : X → Bool) (xs : List X) (i : ℕ) (x : X) → i < length xs → x ≡ get_or xs i x → test x ≡ false → list_all test xs ≡ false
all-not test xs i x low e failed = never-true (list_all test xs) (λ t. clash (test x) (all-in test xs t x (item-in xs i x low e)) failed)

other-by : (a b c d : Bool) → (d ≡ false → c ≡ false) → (b || d) ≡ false → ((a && b) || c) ≡ false
other-by true true c d f k = absurd (cc)
other-by true false c d f k = f k
other-by false true c d f k = absurd (cc)
other-by false false c d f k = f k

no-other : (known : List (List ℕ × ℕ)) (name : List ℕ) (x : ℕ) → has_text (map (λ (q : List ℕ × ℕ). q.0) known) name ≡ false → list_any (λ q. (q.1 == x) && bytes_eq q.0 name) known ≡ false
no-other [] name x e = refl
no-other (q ∷ known) name x e = other-by (q.1 == x) (bytes_eq q.0 name) (list_any (λ r. (r.1 == x) && bytes_eq r.0 name) known) (has_text (map (λ (r : List ℕ × ℕ). r.0) known) name) (no-other known name x) e

told-by : (a b : Bool) (y x : ℕ) (o : Option ℕ) (c : Bool) → (y == x) ≡ a → (b ≡ true → c ≡ false) → passes o (λ z. z == x) ≡ c → passes (cond b (Some y) o) (λ z. z == x) ≡ ((a && b) || c)
told-by true true y x o c e f h = e
told-by false true y x o c e f h = e ∙ sym (f refl)
told-by true false y x o c e f h = h
told-by false false y x o c e f h = h

-- a record is told of where there is one of its name and its transaction
pub told-any : (known : List (List ℕ × ℕ)) (name : List ℕ) (x : ℕ) → are_distinct (map (λ (p : List ℕ × ℕ). p.0) known) ≡ true → is_told known name x ≡ list_any (λ p. (p.1 == x) && bytes_eq p.0 name) known
told-any [] name x e = refl
told-any (p ∷ known) name x e =
    told-by (p.1 == x) (bytes_eq p.0 name) p.1 x (xid_in known name) (list_any (λ q. (q.1 == x) && bytes_eq q.0 name) known) refl
    (λ t. no-other known name x (subst (λ n. has_text (map (λ (q : List ℕ × ℕ). q.0) known) n ≡ false) ((bytes_eq-Decides p.0 name).0 t) (not-true _ (left-true _ _ e))))
    (told-any known name x (right-true _ _ e))

-- where a name stands twice, the records don't agree
pub same-snapshots-twice : (snapshots : List SnapshotRecord) (names : List NameRecord) → are_distinct (map (λ (s : SnapshotRecord). s.name) snapshots) ≡ false → false ≡ are_same snapshots names
unfolding are_same
same-snapshots-twice snapshots names e = sym (never-true _ (λ t. clash _ (left-true _ _ (right-true _ _ t)) e))

pub same-names-twice : (snapshots : List SnapshotRecord) (names : List NameRecord) → are_distinct (map (λ (n : NameRecord). n.name) names) ≡ false → false ≡ are_same snapshots names
unfolding are_same
same-names-twice snapshots names e = sym (never-true _ (λ t. clash _ (right-true _ _ (right-true _ _ t)) e))

abbrev pub snapshots_known : List SnapshotRecord → List (List ℕ × ℕ)
snapshots_known snapshots = map (named_by (λ (s : SnapshotRecord). s.name) (λ (s : SnapshotRecord). s.xid)) snapshots

abbrev pub names_known : List NameRecord → List (List ℕ × ℕ)
names_known names = map (named_by (λ (n : NameRecord). n.name) (λ (n : NameRecord). n.xid)) names

told-name : (names : List NameRecord) (snapshot : SnapshotRecord) → are_distinct (map (λ (n : NameRecord). n.name) names) ≡ true → is_told (names_known names) snapshot.name snapshot.xid ≡ list_any (is_same snapshot) names
told-name names snapshot e =
    told-any (names_known names) snapshot.name snapshot.xid (ap are_distinct (map-twice (named_by (λ (n : NameRecord). n.name) (λ (n : NameRecord). n.xid)) (λ (p : List ℕ × ℕ). p.0) names) ∙ e)
    ∙ (any-map (named_by (λ (n : NameRecord). n.name) (λ (n : NameRecord). n.xid)) (λ (p : List ℕ × ℕ). (p.1 == snapshot.xid) && bytes_eq p.0 snapshot.name) names
    ∙ any-cong (λ (n : NameRecord). (n.xid == snapshot.xid) && bytes_eq n.name snapshot.name) (is_same snapshot) names (λ n _. ap (λ b. b && bytes_eq n.name snapshot.name) (number-sym n.xid snapshot.xid) ∙ ap (λ b. (snapshot.xid == n.xid) && b) (bytes-sym n.name snapshot.name)))

told-snapshot : (snapshots : List SnapshotRecord) (name : NameRecord) → are_distinct (map (λ (s : SnapshotRecord). s.name) snapshots) ≡ true → is_told (snapshots_known snapshots) name.name name.xid ≡ list_any (λ snapshot. is_same snapshot name) snapshots
told-snapshot snapshots name e =
    told-any (snapshots_known snapshots) name.name name.xid (ap are_distinct (map-twice (named_by (λ (s : SnapshotRecord). s.name) (λ (s : SnapshotRecord). s.xid)) (λ (p : List ℕ × ℕ). p.0) snapshots) ∙ e)
    ∙ any-map (named_by (λ (s : SnapshotRecord). s.name) (λ (s : SnapshotRecord). s.xid)) (λ (p : List ℕ × ℕ). (p.1 == name.xid) && bytes_eq p.0 name.name) snapshots

-- where no name stands twice, the records agree where each is told of among the others
pub same-both : (snapshots : List SnapshotRecord) (names : List NameRecord) → are_distinct (map (λ (s : SnapshotRecord). s.name) snapshots) ≡ true → are_distinct (map (λ (n : NameRecord). n.name) names) ≡ true
    → (list_all (λ (s : SnapshotRecord). is_told (names_known names) s.name s.xid) snapshots && list_all (λ (n : NameRecord). is_told (snapshots_known snapshots) n.name n.xid) names) ≡ are_same snapshots names
unfolding are_same
same-both snapshots names e f =
    let first = all-cong (λ (s : SnapshotRecord). is_told (names_known names) s.name s.xid) (λ s. list_any (is_same s) names) snapshots (λ s _. told-name names s f) in
    let second = all-cong (λ (n : NameRecord). is_told (snapshots_known snapshots) n.name n.xid) (λ n. list_any (λ s. is_same s n) snapshots) names (λ n _. told-snapshot snapshots n e) in
    ap (λ b. b && list_all (λ (n : NameRecord). is_told (snapshots_known snapshots) n.name n.xid) names) first
    ∙ (ap (λ b. list_all (λ s. list_any (is_same s) names) snapshots && b) second
    ∙ sym (all-true _ _ (both-true _ _ e f)))
  where
    all-true : (a b : Bool) → b ≡ true → (a && b) ≡ a
    all-true true b h = h
    all-true false b h = refl
