-- What a search for the inode of an id finds.
use Rattle.std.proofs.Common.{◌≡◌, ◌==◌, ℕ, Bool, true, false, cond, List, [], ◌∷◌, Option, Some, None, Result, Ok, Err, inl, refl, ap, sym, ◌∙◌, subst}
use Rattle.std.specs.Prelude.{filter, ◌&&◌}
use Rattle.std.specs.List.{take_while}
use Rattle.std.proofs.lemmas.List.Sums.{take_while-cons}
use Rattle.apfs_model.specs.Lists.{In, value_of}
use Rattle.apfs_model.proofs.BoolTests.{both-true, left-true, right-true, equal-from, from-equal}
use Rattle.apfs_model.proofs.Searches.{in-filter, in-right}
use Rattle.bt_node.specs.Shape.{Shape}
use Rattle.bt_node.specs.Entries.{Pair}
use Rattle.bt_node.specs.declared.key.Rank.{Rank}
use Rattle.bt_node.specs.declared.key.TreeKey as keys
use Rattle.bt_keys.specs.FsTree.{IsFsShape}
use Rattle.bt_keys.specs.RecordKey.{id_of, record_kind_of, inode_record}
use Rattle.bt_cursor.specs.declared.namer.Namer as namers
use Rattle.bt_cursor.specs.declared.cursor.Cursor.{Cursor}
use Rattle.bt_cursor.specs.Cursors.{root_of, tree_of, left_of, IsOn}
use Rattle.bt_cursor.specs.Flat.{flat_of}
use Rattle.bt_cursor.specs.Line.{line_of}
use Rattle.bt_cursor.specs.Order.{is_ordered}
use Rattle.bt_cursor.specs.From.{from_rank, run_in, is_of_kind}
use Rattle.bt_cursor.proofs.Runs.{run-flat, run-kind, flat-suffix}
use Rattle.fs_record.specs.Inodes.{Inode}
use Rattle.fs_record.specs.Facts.{read_inode}
use Rattle.fs_record.specs.declared.fault.RecFault.{RecFault}
use Rattle.path_search.specs.Parts.{first_inode}
use Rattle.path_search.proofs.Searched.{HasKeys, run_is, cursor_keys, inode_from}
use Rattle.tree_export.specs.Faults.{IsInodeRecord}
use Rattle.tree_export.specs.Parts.{first_record, sought_as, TellsOrdered, TellsRecord}
use Rattle.tree_export.specs.declared.search.Sought.{Sought}

-- ---- the first of the records that are left
record FirstOf {K : Type 0} (shape : Shape K) (id : ℕ) (left : List Pair) (r : Result Inode RecFault) : Type 0 where
  pair : Pair
  rest : List Pair
  split : left ≡ pair ∷ rest
  of_run : run_in shape (is_of_kind id inode_record) pair ≡ true
  read : read_inode pair ≡ r

first-if : {K : Type 0} (shape : Shape K) (id : ℕ) (pair : Pair) (pairs : List Pair) (r : Result Inode RecFault) (t : Bool) → run_in shape (is_of_kind id inode_record) pair ≡ t → cond t (Some (read_inode pair)) None ≡ Some r → FirstOf shape id (pair ∷ pairs) r
first-if shape id pair pairs r true test e = record { pair = pair; rest = pairs; split = refl; of_run = test; read = let s : read_inode pair ≡ r = cc in s }
first-if shape id pair pairs r false test e = absurd (let q : ⊥ = cc in q)

first-of : {K : Type 0} (shape : Shape K) (id : ℕ) (left : List Pair) (r : Result Inode RecFault) → first_record shape id left ≡ Some r → FirstOf shape id left r
first-of shape id [] r e = absurd (let q : ⊥ = cc in q)
first-of shape id (pair ∷ pairs) r e = first-if shape id pair pairs r (run_in shape (is_of_kind id inode_record) pair) refl e

none-if : {K : Type 0} (shape : Shape K) (id : ℕ) (pair : Pair) (pairs : List Pair) (t : Bool) → cond t (Some (read_inode pair)) None ≡ None → cond t (pair ∷ take_while (run_in shape (is_of_kind id inode_record)) pairs) [] ≡ []
none-if shape id pair pairs true e = absurd (let q : ⊥ = cc in q)
none-if shape id pair pairs false e = refl

none-run : {K : Type 0} (shape : Shape K) (id : ℕ) (left : List Pair) → first_record shape id left ≡ None → take_while (run_in shape (is_of_kind id inode_record)) left ≡ []
none-run shape id [] e = refl
none-run shape id (pair ∷ pairs) e =
    let test = run_in shape (is_of_kind id inode_record) in
    take_while-cons test pair pairs ∙ none-if shape id pair pairs (test pair) e

-- it is the first inode, where it can be read
first-inode : {K : Type 0} (shape : Shape K) (id : ℕ) (left : List Pair) (inode : Inode) → first_record shape id left ≡ Some (Ok inode) → Some inode ≡ first_inode shape id left
first-inode shape id left inode e =
    let f = first-of shape id left (Ok inode) e in
    sym (ap (first_inode shape id) f.split ∙ (ap (λ b. cond b (value_of (read_inode f.pair)) None) f.of_run ∙ ap (λ (r : Result Inode RecFault). value_of r) f.read))

-- ---- records of an id's inode
run-record : {K : Type 0} (hashed : Bool) (shape : Shape K) → IsFsShape hashed shape → (id : ℕ) (flat : List Pair) (pair : Pair) → HasKeys shape flat → In pair flat → run_in shape (is_of_kind id inode_record) pair ≡ true → IsInodeRecord flat id pair
run-record hashed shape law id flat pair keys one test =
    let both : ((id_of pair.key == id) && (record_kind_of pair.key == inode_record)) ≡ true = sym (run_is hashed shape law id inode_record pair (keys pair one)) ∙ test in
    record {
      one = one;
      kind = equal-from (record_kind_of pair.key) inode_record (right-true (id_of pair.key == id) (record_kind_of pair.key == inode_record) both);
      of_id = equal-from (id_of pair.key) id (left-true (id_of pair.key == id) (record_kind_of pair.key == inode_record) both);
    }

record-run : {K : Type 0} (hashed : Bool) (shape : Shape K) → IsFsShape hashed shape → (id : ℕ) (flat : List Pair) (pair : Pair) → HasKeys shape flat → IsInodeRecord flat id pair → run_in shape (is_of_kind id inode_record) pair ≡ true
record-run hashed shape law id flat pair keys is =
    run_is hashed shape law id inode_record pair (keys pair is.one)
    ∙ both-true (id_of pair.key == id) (record_kind_of pair.key == inode_record) (from-equal (id_of pair.key) id is.of_id) (from-equal (record_kind_of pair.key) inode_record is.kind)

in-none : {X : Type 0} (x : X) (xs : List X) → In x xs → xs ≡ [] → ⊥
in-none x [] h e = h
in-none x (y ∷ ys) h e = let q : ⊥ = cc in q

-- ---- what is found
-- on an ordered Line: the inode of the id, or there is none
ordered-by : {K N : Type 0} {k : keys.Ghosts K} {n : namers.Ghosts N} (hashed : Bool) (image : List ℕ) (cursor : Cursor K N k n) (root id : ℕ) (left : List Pair) (o : Option (Result Inode RecFault)) → IsFsShape hashed k.shape →
    is_ordered k.shape (line_of (tree_of cursor image) root) ≡ true →
    left ≡ from_rank k.shape (record { id = id; kind = inode_record; sub = 0 }) (flat_of (tree_of cursor image) root) →
    first_record k.shape id left ≡ o → TellsOrdered (flat_of (tree_of cursor image) root) id (sought_as o)
ordered-by {k = k} hashed image cursor root id left (Some (Ok inode)) law ordered at e =
    (inode, inode_from hashed image cursor root id left (Some inode) law ordered at (first-inode k.shape id left inode e), refl)
ordered-by hashed image cursor root id left (Some (Err why)) law ordered at e = tt
ordered-by {k = k} hashed image cursor root id left None law ordered at e = λ has.
    let flat : List Pair = flat_of (tree_of cursor image) root in
    let rank : Rank = record { id = id; kind = inode_record; sub = 0 } in
    let test = run_in k.shape (is_of_kind id inode_record) in
    let none : filter test flat ≡ [] = sym (ap (take_while test) at ∙ run-flat (tree_of cursor image) root rank (is_of_kind id inode_record) (run-kind id inode_record) ordered) ∙ none-run k.shape id left e in
    in-none has.0 (filter test flat) (in-filter test has.0 flat has.1.one (record-run hashed k.shape law id flat has.0 (cursor_keys image cursor root) has.1)) none

pub sought_ordered : {K N : Type 0} {k : keys.Ghosts K} {n : namers.Ghosts N} (hashed : Bool) (image : List ℕ) (cursor : Cursor K N k n) (root id : ℕ) (left : List Pair) (sought : Sought) → IsFsShape hashed k.shape →
    is_ordered k.shape (line_of (tree_of cursor image) root) ≡ true →
    left ≡ from_rank k.shape (record { id = id; kind = inode_record; sub = 0 }) (flat_of (tree_of cursor image) root) →
    sought ≡ sought_as (first_record k.shape id left) → TellsOrdered (flat_of (tree_of cursor image) root) id sought
sought_ordered {k = k} hashed image cursor root id left sought law ordered at e =
    subst (TellsOrdered (flat_of (tree_of cursor image) root) id) (sym e) (ordered-by hashed image cursor root id left (first_record k.shape id left) law ordered at refl)

-- on any: what is found is a record of the id's inode
first-there : {K N : Type 0} {k : keys.Ghosts K} {n : namers.Ghosts N} (hashed : Bool) (image : List ℕ) (cursor : Cursor K N k n) (id : ℕ) (r : Result Inode RecFault) → IsFsShape hashed k.shape → IsOn image cursor →
    first_record k.shape id (left_of cursor image) ≡ Some r → (pair : Pair) × IsInodeRecord (flat_of (tree_of cursor image) (root_of cursor)) id pair × (read_inode pair ≡ r)
first-there {k = k} hashed image cursor id r law on e =
    let flat : List Pair = flat_of (tree_of cursor image) (root_of cursor) in
    let f = first-of k.shape id (left_of cursor image) r e in
    let end = flat-suffix image cursor on in
    let one : In f.pair flat = subst (In f.pair) (sym end.split) (in-right f.pair end.before (left_of cursor image) (subst (In f.pair) (sym f.split) (inl refl))) in
    (f.pair, run-record hashed k.shape law id flat f.pair (cursor_keys image cursor (root_of cursor)) one f.of_run, f.read)

record-by : {K N : Type 0} {k : keys.Ghosts K} {n : namers.Ghosts N} (hashed : Bool) (image : List ℕ) (cursor : Cursor K N k n) (id : ℕ) (o : Option (Result Inode RecFault)) → IsFsShape hashed k.shape → IsOn image cursor →
    first_record k.shape id (left_of cursor image) ≡ o → TellsRecord (flat_of (tree_of cursor image) (root_of cursor)) id (sought_as o)
record-by hashed image cursor id (Some (Ok inode)) law on e = (inode, first-there hashed image cursor id (Ok inode) law on e, refl)
record-by hashed image cursor id (Some (Err why)) law on e = first-there hashed image cursor id (Err why) law on e
record-by hashed image cursor id None law on e = tt

pub sought_record : {K N : Type 0} {k : keys.Ghosts K} {n : namers.Ghosts N} (hashed : Bool) (image : List ℕ) (cursor : Cursor K N k n) (id : ℕ) (sought : Sought) → IsFsShape hashed k.shape → IsOn image cursor →
    sought ≡ sought_as (first_record k.shape id (left_of cursor image)) → TellsRecord (flat_of (tree_of cursor image) (root_of cursor)) id sought
sought_record {k = k} hashed image cursor id sought law on e =
    subst (TellsRecord (flat_of (tree_of cursor image) (root_of cursor)) id) (sym e) (record-by hashed image cursor id (first_record k.shape id (left_of cursor image)) law on refl)
