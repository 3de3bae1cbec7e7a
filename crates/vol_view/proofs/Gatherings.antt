-- What is gathered of the records of snapshots and of their names.
use Rattle.std.specs.Prelude.{◌≡◌, ℕ, ◌+◌, ◌<◌, not, Bool, true, false, cond, ◌&&◌, ◌||◌, ◌==◌, nat_le, List, [], ◌∷◌, ◌++◌, length, map, Option, None, Some, refl, Result, Ok, Err, IfOk, IsTrue, is_some, is_none, option_map, option_to_list}
use Rattle.std.specs.List.{filter, list_all, list_any}
use Rattle.std.proofs.Common.{arith, ap, sym, ◌∙◌, subst, inl, inr, append-nil}
use Rattle.std.proofs.lemmas.List.{map-append}
use Rattle.std.proofs.lemmas.List.Concat.{flat_map-append}
use Rattle.std.proofs.lemmas.List.Elements.{filter-append}
use Rattle.apfs_model.specs.Lists.{In}
use Rattle.apfs_model.proofs.BoolTests.{clash, left-true, right-true, both-true, either-from, never-true, equal-from, from-equal, all-in}
use Rattle.apfs_model.proofs.Searches.{from-filter, filter-test, from-map, in-filter, in-map, all-of}
use Rattle.bt_node.specs.Entries.{Pair, bytes_in}
use Rattle.bt_keys.specs.Shapes.{snap_shape}
use Rattle.bt_keys.specs.RecordKey.{id_of, record_kind_of, is_snap_key, has_plain_name, plain_name_of}
use Rattle.bt_keys.specs.declared.record_key.SnapKey.{SnapKey}
use Rattle.bt_cursor.specs.Line.{Item, is_leaf_item}
use Rattle.bt_cursor.specs.WholeTree.{leaf_pairs}
use Rattle.bt_cursor.specs.Gathered.{shown, IsRefused}
use Rattle.bt_cursor.specs.Steps.{step_in, steps_in}
use Rattle.bt_cursor.specs.declared.step.Step.{Step}
use Rattle.apfs_model.specs.declared.failed.NoMemory.{NoMemory}
use Rattle.bt_cursor.proofs.Lines.{leaf_pairs-append}
use Rattle.fs_name.specs.Text.{is_name, name_in}
use Rattle.fs_name.specs.Steps.{name_of}
use Rattle.vol_view.specs.SnapRecords.{is_snapshot, is_snapshot_name, snapshot_pairs, name_pairs, snap_name_len, snap_name_bytes, is_snapshot_long, is_snapshot_readable, is_name_readable, named_xid}
use Rattle.vol_view.specs.Agreement.{are_readable}
use Rattle.vol_view.specs.Gathered.{snapshot_with, snapshot_read, name_with, name_read, snapshot_told, name_told, is_unread, is_refused, Tell, Gives}
use Rattle.vol_view.specs.declared.records.SnapshotRecord.{SnapshotRecord}
use Rattle.vol_view.specs.declared.records.NameRecord.{NameRecord}

some-same : {X : Type 0} (a b : X) → Some a ≡ Some b → a ≡ b
some-same a b e = cc

key-step : (b : Bool) (i n : ℕ) (k : SnapKey) → cond b (Some (record { id = i; kind = n })) None ≡ Some k → (i ≡ k.id) × ((n ≡ k.kind) × (b ≡ true))
key-step true i n k e =
    let made : SnapKey = record { id = i; kind = n } in
    let same = some-same made k e in
    (ap (λ (s : SnapKey). s.id) same, (ap (λ (s : SnapKey). s.kind) same, refl))
key-step false i n k e = absurd (cc)

-- what is read of a key
pub key-read : (key : List ℕ) (k : SnapKey) → snap_shape.read key ≡ Some k → (id_of key ≡ k.id) × ((record_kind_of key ≡ k.kind) × (is_snap_key key ≡ true))
key-read key k e = key-step (is_snap_key key) (id_of key) (record_kind_of key) k e

name-key : (key : List ℕ) → is_snap_key key ≡ true → record_kind_of key ≡ 11 → has_plain_name key ≡ true
unfolding is_snap_key
name-key key e kind =
    elim (either-from (record_kind_of key == 1) ((record_kind_of key == 11) && has_plain_name key) (right-true _ _ e)) as (λ _. has_plain_name key ≡ true) [
      | inl h ↦ absurd (let other : record_kind_of key ≡ 1 = equal-from (record_kind_of key) 1 h in omega (arith, other, kind))
      | inr h ↦ right-true (record_kind_of key == 11) (has_plain_name key) h
    ]

-- the key of a name's record has a name
pub key-named : (key : List ℕ) (k : SnapKey) → snap_shape.read key ≡ Some k → k.kind ≡ 11 → has_plain_name key ≡ true
key-named key k e kind = let read = key-read key k e in name-key key read.1.1 (read.1.0 ∙ kind)

some-none : {X : Type 0} (o : Option X) → is_some o ≡ not (is_none o)
some-none None = refl
some-none (Some x) = refl

kind-is : (n m : ℕ) → n ≡ m → (n == m) ≡ true
kind-is n m e = from-equal n m e

kind-apart : (n : ℕ) → n ≡ 1 → (n == 11) ≡ false
kind-apart n e = ap (λ k. k == 11) e

unless : (n m : ℕ) → n ≡ 11 → (n == 1) ≡ false
unless n m e = ap (λ k. k == 1) e

-- one more item was gathered
pub tell-more : (items : List Item) (item : Item) (snapshots later : List SnapshotRecord) (names further : List NameRecord) → Tell (leaf_pairs items) snapshots names
    → later ≡ snapshots ++ map snapshot_told (snapshot_pairs (leaf_pairs (item ∷ []))) → further ≡ names ++ map name_told (name_pairs (leaf_pairs (item ∷ []))) → Tell (leaf_pairs (items ++ item ∷ [])) later further
tell-more items item snapshots later names further had e f =
    let all = leaf_pairs items in
    let one = leaf_pairs (item ∷ []) in
    let joined : leaf_pairs (items ++ item ∷ []) ≡ all ++ one = leaf_pairs-append items (item ∷ []) in
    record {
      snapshots_same = e ∙ (ap (λ xs. xs ++ map snapshot_told (snapshot_pairs one)) had.snapshots_same ∙ (sym (map-append snapshot_told (snapshot_pairs all) (snapshot_pairs one)) ∙ (ap (map snapshot_told) (sym (filter-append is_snapshot all one)) ∙ ap (λ ps. map snapshot_told (snapshot_pairs ps)) (sym joined))));
      names_same = f ∙ (ap (λ xs. xs ++ map name_told (name_pairs one)) had.names_same ∙ (sym (map-append name_told (name_pairs all) (name_pairs one)) ∙ (ap (map name_told) (sym (filter-append is_snapshot_name all one)) ∙ ap (λ ps. map name_told (name_pairs ps)) (sym joined))));
    }

-- one more item was gathered, with its step
pub gives-more : (r : Result Bool NoMemory) (items : List Item) (item : Item) (snapshots later : List SnapshotRecord) (names further : List NameRecord) (steps taken : List Step) → Gives items snapshots names steps → taken ≡ steps ++ step_in item
    → IfOk r (λ kept. IsTrue kept → Tell (leaf_pairs (items ++ item ∷ [])) later further) → IfOk r (λ kept. IsTrue kept → Gives (items ++ item ∷ []) later further taken)
gives-more (Ok kept) items item snapshots later names further steps taken had e told = λ t. record {
  told = told t;
  taken = e ∙ (ap (λ xs. xs ++ step_in item) had.taken ∙ (ap (λ xs. steps_in items ++ xs) (sym (append-nil (step_in item))) ∙ sym (flat_map-append step_in items (item ∷ []))));
}
gives-more (Err stop) items item snapshots later names further steps taken had e told = tt

-- what the records of an item tell
abbrev snapshots_told : Item → List SnapshotRecord
snapshots_told item = map snapshot_told (snapshot_pairs (leaf_pairs (item ∷ [])))

abbrev names_told : Item → List NameRecord
names_told item = map name_told (name_pairs (leaf_pairs (item ∷ [])))

by-kinds : (p : Pair) (s n : Bool) → is_snapshot p ≡ s → is_snapshot_name p ≡ n
    → (snapshots_told (shown 0 0 0 p.key p.value) ≡ map snapshot_told (cond s (p ∷ []) [])) × (names_told (shown 0 0 0 p.key p.value) ≡ map name_told (cond n (p ∷ []) []))
by-kinds p s n e f = (ap (λ (b : Bool). map snapshot_told (cond b (p ∷ []) [])) e, ap (λ (b : Bool). map name_told (cond b (p ∷ []) [])) f)

append-none : {X : Type 0} (xs : List X) → xs ≡ xs ++ []
append-none [] = refl
append-none (x ∷ xs) = ap (λ ys. x ∷ ys) (append-none xs)

read-step : (a b : Bool) (x : ℕ) (value raw name : List ℕ) → is_some (option_map (snapshot_with x value) (cond a (cond b (Some name) None) None)) ≡ true → option_to_list (option_map (snapshot_with x value) (cond a (cond b (Some name) None) None)) ≡ snapshot_with x value name ∷ []
read-step true true x value raw name e = refl
read-step true false x value raw name e = absurd (cc)
read-step false b x value raw name e = absurd (cc)

-- a snapshot's record that can be read tells what it tells
pub snapshot-one : (x : ℕ) (value : List ℕ) → is_some (snapshot_read x value) ≡ true → option_to_list (snapshot_read x value) ≡ snapshot_with x value (name_in (snap_name_bytes value)) ∷ []
unfolding name_of
snapshot-one x value e =
    read-step (nat_le 50 (length value) && nat_le (50 + snap_name_len value) (length value)) (is_name (snap_name_bytes value)) x value (snap_name_bytes value) (name_in (snap_name_bytes value)) e

name-step : (a b : Bool) (value name : List ℕ) → is_some (cond a (option_map (name_with value) (cond b (Some name) None)) None) ≡ true → option_to_list (cond a (option_map (name_with value) (cond b (Some name) None)) None) ≡ name_with value name ∷ []
name-step true true value name e = refl
name-step true false value name e = absurd (cc)
name-step false b value name e = absurd (cc)

pub name-one : (key value : List ℕ) → is_some (name_read key value) ≡ true → option_to_list (name_read key value) ≡ name_with value (name_in (plain_name_of key)) ∷ []
unfolding name_of
name-one key value e = name-step (nat_le 8 (length value)) (is_name (plain_name_of key)) value (name_in (plain_name_of key)) e

name-told : (p : Pair) → name_with (bytes_in p.value) (name_in (plain_name_of p.key)) ≡ name_told p
unfolding named_xid
name-told p = refl

-- one more snapshot's record was gathered
pub tell-snapshot : (items : List Item) (node at level : ℕ) (key : List ℕ) (value : Option (List ℕ)) (k : SnapKey) (snapshots later : List SnapshotRecord) (names further : List NameRecord) → level ≡ 0 → snap_shape.read key ≡ Some k → k.kind ≡ 1 → is_some (snapshot_read k.id (bytes_in value)) ≡ true
    → later ≡ snapshots ++ option_to_list (snapshot_read k.id (bytes_in value)) → further ≡ names → Tell (leaf_pairs items) snapshots names → Tell (leaf_pairs (items ++ shown node at level key value ∷ [])) later further
tell-snapshot items node at level key value k snapshots later names further low e kind some more same had =
    let read = key-read key k e in
    let p : Pair = record { key = key; value = value } in
    let one : record_kind_of key ≡ 1 = read.1.0 ∙ kind in
    let kinds = by-kinds p true false (kind-is (record_kind_of key) 1 one) (kind-apart (record_kind_of key) one) in
    let told : option_to_list (snapshot_read k.id (bytes_in value)) ≡ snapshot_told p ∷ [] =
    snapshot-one k.id (bytes_in value) some ∙ ap (λ i. snapshot_with i (bytes_in value) (name_in (snap_name_bytes (bytes_in value))) ∷ []) (sym read.0) in
    subst (λ l. Tell (leaf_pairs (items ++ shown node at l key value ∷ [])) later further) (sym low)
    (tell-more items (shown node at 0 key value) snapshots later names further had (more ∙ ap (λ xs. snapshots ++ xs) (told ∙ sym kinds.0)) (same ∙ (append-none names ∙ ap (λ xs. names ++ xs) (sym kinds.1))))

-- one more record of a name was gathered
pub tell-name : (items : List Item) (node at level : ℕ) (key : List ℕ) (value : Option (List ℕ)) (k : SnapKey) (snapshots later : List SnapshotRecord) (names further : List NameRecord) → level ≡ 0 → snap_shape.read key ≡ Some k → k.kind ≡ 11 → is_some (name_read key (bytes_in value)) ≡ true
    → further ≡ names ++ option_to_list (name_read key (bytes_in value)) → later ≡ snapshots → Tell (leaf_pairs items) snapshots names → Tell (leaf_pairs (items ++ shown node at level key value ∷ [])) later further
tell-name items node at level key value k snapshots later names further low e kind some more same had =
    let read = key-read key k e in
    let p : Pair = record { key = key; value = value } in
    let eleven : record_kind_of key ≡ 11 = read.1.0 ∙ kind in
    let kinds = by-kinds p false true (unless (record_kind_of key) 11 eleven) (kind-is (record_kind_of key) 11 eleven) in
    let told : option_to_list (name_read key (bytes_in value)) ≡ name_told p ∷ [] = name-one key (bytes_in value) some ∙ ap (λ (r : NameRecord). r ∷ []) (name-told p) in
    subst (λ l. Tell (leaf_pairs (items ++ shown node at l key value ∷ [])) later further) (sym low)
    (tell-more items (shown node at 0 key value) snapshots later names further had (same ∙ (append-none snapshots ∙ ap (λ xs. snapshots ++ xs) (sym kinds.0))) (more ∙ ap (λ xs. names ++ xs) (told ∙ sym kinds.1)))

-- a snapshot's record can be read where something is read of it
readable-step : (a b c : Bool) (x : ℕ) (value name : List ℕ) → ((a && b) && c) ≡ is_some (option_map (snapshot_with x value) (cond (a && b) (cond c (Some name) None) None))
readable-step true true true x value name = refl
readable-step true true false x value name = refl
readable-step true false c x value name = refl
readable-step false b c x value name = refl

pub snapshot-readable : (p : Pair) (x : ℕ) → is_snapshot_readable p ≡ is_some (snapshot_read x (bytes_in p.value))
unfolding is_snapshot_readable name_of
snapshot-readable p x =
    let value = bytes_in p.value in
    readable-step (is_snapshot_long p) (nat_le (50 + snap_name_len value) (length value)) (is_name (snap_name_bytes value)) x value (name_in (snap_name_bytes value))

name-readable-step : (a b : Bool) (value name : List ℕ) → (a && b) ≡ is_some (cond a (option_map (name_with value) (cond b (Some name) None)) None)
name-readable-step true true value name = refl
name-readable-step true false value name = refl
name-readable-step false b value name = refl

pub name-readable : (p : Pair) → is_name_readable p ≡ is_some (name_read p.key (bytes_in p.value))
unfolding is_name_readable name_of
name-readable p = name-readable-step (nat_le 8 (length (bytes_in p.value))) (is_name (plain_name_of p.key)) (bytes_in p.value) (name_in (plain_name_of p.key))

-- the entry of a leaf that isn't refused can be read
snapshot-fine : (p : Pair) → is_snapshot p ≡ true → is_unread p ≡ false → is_snapshot_readable p ≡ true
snapshot-fine p is e =
    let read : is_none (snapshot_read (id_of p.key) (bytes_in p.value)) ≡ false =
    ap (λ (b : Bool). cond b (is_none (snapshot_read (id_of p.key) (bytes_in p.value))) (cond (is_snapshot_name p) (is_none (name_read p.key (bytes_in p.value))) false)) (sym is) ∙ e in
    snapshot-readable p (id_of p.key) ∙ (some-none (snapshot_read (id_of p.key) (bytes_in p.value)) ∙ ap not read)

kinds-apart : (n : ℕ) → (n == 11) ≡ true → (n == 1) ≡ false
kinds-apart n e = unless n 11 (equal-from n 11 e)

name-fine : (p : Pair) → is_snapshot_name p ≡ true → is_unread p ≡ false → is_name_readable p ≡ true
name-fine p is e =
    let none : is_snapshot p ≡ false = kinds-apart (record_kind_of p.key) is in
    let read : is_none (name_read p.key (bytes_in p.value)) ≡ false =
    ap (λ (b : Bool). cond b (is_none (name_read p.key (bytes_in p.value))) false) (sym is)
    ∙ (ap (λ (b : Bool). cond b (is_none (snapshot_read (id_of p.key) (bytes_in p.value))) (cond (is_snapshot_name p) (is_none (name_read p.key (bytes_in p.value))) false)) (sym none) ∙ e) in
    name-readable p ∙ (some-none (name_read p.key (bytes_in p.value)) ∙ ap not read)

or-left : (a b : Bool) → (a || b) ≡ false → a ≡ false
or-left true b e = e
or-left false b e = refl

or-right : (a b : Bool) → (a || b) ≡ false → b ≡ false
or-right true b e = absurd (cc)
or-right false b e = e

none-passes : {X : Type 0} (p : X → Bool) (xs : List X) (x : X) → list_any p xs ≡ false → In x xs → p x ≡ false
none-passes p [] x e h = absurd h
none-passes p (y ∷ ys) x e (inl same) = ap p same ∙ or-left (p y) (list_any p ys) e
none-passes p (y ∷ ys) x e (inr h) = none-passes p ys x (or-right (p y) (list_any p ys) e) h

leaf-fine : (items : List Item) (p : Pair) → list_any is_refused items ≡ false → In p (leaf_pairs items) → is_unread p ≡ false
leaf-fine items p e h =
    let found = from-map (λ (item : Item). item.pair) (filter is_leaf_item items) p h in
    let item = found.0 in
    let kept = none-passes is_refused items item e (from-filter is_leaf_item item items found.1.0) in
    let leaf = filter-test is_leaf_item item items found.1.0 in
    subst (λ q. is_unread q ≡ false) (sym found.1.1) (ap (λ (b : Bool). b && is_unread item.pair) (sym leaf) ∙ kept)

-- where no item is refused, the records can be read
pub kept-readable : (items : List Item) → list_any is_refused items ≡ false → are_readable (leaf_pairs items) ≡ true
unfolding are_readable
kept-readable items e =
    both-true _ _
    (all-of is_snapshot_readable (snapshot_pairs (leaf_pairs items)) (λ p h. snapshot-fine p (filter-test is_snapshot p (leaf_pairs items) h) (leaf-fine items p e (from-filter is_snapshot p (leaf_pairs items) h))))
    (all-of is_name_readable (name_pairs (leaf_pairs items)) (λ p h. name-fine p (filter-test is_snapshot_name p (leaf_pairs items) h) (leaf-fine items p e (from-filter is_snapshot_name p (leaf_pairs items) h))))

in-middle : {X : Type 0} (before after : List X) (x : X) → In x (before ++ x ∷ after)
in-middle [] after x = inl refl
in-middle (y ∷ before) after x = inr (in-middle before after x)

unread-clash : (p : Pair) → is_unread p ≡ true → (is_snapshot p ≡ true → is_snapshot_readable p ≡ true) → (is_snapshot_name p ≡ true → is_name_readable p ≡ true) → ⊥
unread-clash p unread snapshot name = unread-by (is_snapshot p) (is_snapshot_name p) refl refl
  where
    unread-by : (s n : Bool) → is_snapshot p ≡ s → is_snapshot_name p ≡ n → ⊥
    unread-by true n e f =
        let none : is_none (snapshot_read (id_of p.key) (bytes_in p.value)) ≡ true =
        ap (λ (b : Bool). cond b (is_none (snapshot_read (id_of p.key) (bytes_in p.value))) (cond (is_snapshot_name p) (is_none (name_read p.key (bytes_in p.value))) false)) (sym e) ∙ unread in
        clash (is_snapshot_readable p) (snapshot e) (snapshot-readable p (id_of p.key) ∙ (some-none (snapshot_read (id_of p.key) (bytes_in p.value)) ∙ ap not none))
    unread-by false true e f =
        let none : is_none (name_read p.key (bytes_in p.value)) ≡ true =
        ap (λ (b : Bool). cond b (is_none (name_read p.key (bytes_in p.value))) false) (sym f)
        ∙ (ap (λ (b : Bool). cond b (is_none (snapshot_read (id_of p.key) (bytes_in p.value))) (cond (is_snapshot_name p) (is_none (name_read p.key (bytes_in p.value))) false)) (sym e) ∙ unread) in
        clash (is_name_readable p) (name f) (name-readable p ∙ (some-none (name_read p.key (bytes_in p.value)) ∙ ap not none))
    unread-by false false e f =
        let never : false ≡ true =
        ap (λ (b : Bool). cond b (is_none (name_read p.key (bytes_in p.value))) false) (sym f)
        ∙ (ap (λ (b : Bool). cond b (is_none (snapshot_read (id_of p.key) (bytes_in p.value))) (cond (is_snapshot_name p) (is_none (name_read p.key (bytes_in p.value))) false)) (sym e) ∙ unread) in
        absurd (cc)

readable-snapshots : (pairs : List Pair) → are_readable pairs ≡ true → list_all is_snapshot_readable (snapshot_pairs pairs) ≡ true
unfolding are_readable
readable-snapshots pairs e = left-true _ _ e

readable-names : (pairs : List Pair) → are_readable pairs ≡ true → list_all is_name_readable (name_pairs pairs) ≡ true
unfolding are_readable
readable-names pairs e = right-true _ _ e

-- where records can be read, each can
pub each-snapshot : (pairs : List Pair) (p : Pair) → are_readable pairs ≡ true → In p (snapshot_pairs pairs) → is_snapshot_readable p ≡ true
each-snapshot pairs p e h = all-in is_snapshot_readable (snapshot_pairs pairs) (readable-snapshots pairs e) p h

pub each-name : (pairs : List Pair) (p : Pair) → are_readable pairs ≡ true → In p (name_pairs pairs) → is_name_readable p ≡ true
each-name pairs p e h = all-in is_name_readable (name_pairs pairs) (readable-names pairs e) p h

-- where an item is refused, not all records can be read
pub refused-unreadable : (items : List Item) (number : ℕ) → IsRefused is_refused items number → are_readable (leaf_pairs items) ≡ false
refused-unreadable items number refused =
    let item = refused.item in
    let here : In item items = subst (λ xs. In item xs) (sym refused.split) (in-middle refused.before refused.after item) in
    let leaf : is_leaf_item item ≡ true = left-true _ _ refused.refused in
    let unread : is_unread item.pair ≡ true = right-true _ _ refused.refused in
    let pair : In item.pair (leaf_pairs items) = in-map (λ (i : Item). i.pair) (filter is_leaf_item items) item (in-filter is_leaf_item item items here leaf) in
    never-true (are_readable (leaf_pairs items)) (λ readable.
    unread-clash item.pair unread
    (λ e. each-snapshot (leaf_pairs items) item.pair readable (in-filter is_snapshot item.pair (leaf_pairs items) pair e))
    (λ e. each-name (leaf_pairs items) item.pair readable (in-filter is_snapshot_name item.pair (leaf_pairs items) pair e)))

-- a snapshot's record that was kept is one more
pub snapshot-held : (r : Result Bool NoMemory) (items : List Item) (node at level : ℕ) (key : List ℕ) (value : Option (List ℕ)) (k : SnapKey) (snapshots later : List SnapshotRecord) (names further : List NameRecord) → level ≡ 0 → snap_shape.read key ≡ Some k → k.kind ≡ 1
    → IfOk r (λ kept. kept ≡ is_some (snapshot_read k.id (bytes_in value))) → IfOk r (λ kept. later ≡ snapshots ++ option_to_list (snapshot_read k.id (bytes_in value))) → further ≡ names → Tell (leaf_pairs items) snapshots names
    → IfOk r (λ kept. IsTrue kept → Tell (leaf_pairs (items ++ shown node at level key value ∷ [])) later further)
snapshot-held (Ok kept) items node at level key value k snapshots later names further low e kind refused more same had = λ t. tell-snapshot items node at level key value k snapshots later names further low e kind (sym refused ∙ t) more same had
snapshot-held (Err stop) items node at level key value k snapshots later names further low e kind refused more same had = tt

pub name-held : (r : Result Bool NoMemory) (items : List Item) (node at level : ℕ) (key : List ℕ) (value : Option (List ℕ)) (k : SnapKey) (snapshots later : List SnapshotRecord) (names further : List NameRecord) → level ≡ 0 → snap_shape.read key ≡ Some k → k.kind ≡ 11
    → IfOk r (λ kept. kept ≡ is_some (name_read key (bytes_in value))) → IfOk r (λ kept. further ≡ names ++ option_to_list (name_read key (bytes_in value))) → later ≡ snapshots → Tell (leaf_pairs items) snapshots names
    → IfOk r (λ kept. IsTrue kept → Tell (leaf_pairs (items ++ shown node at level key value ∷ [])) later further)
name-held (Ok kept) items node at level key value k snapshots later names further low e kind refused more same had = λ t. tell-name items node at level key value k snapshots later names further low e kind (sym refused ∙ t) more same had
name-held (Err stop) items node at level key value k snapshots later names further low e kind refused more same had = tt
