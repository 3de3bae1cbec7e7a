-- A step of a walk over the extents of a stream.
use Rattle.std.proofs.Common.{◌≡◌, ℕ, Bool, true, false, cond, ◌==◌, List, [], ◌∷◌, Option, Some, None, Result, Ok, Err, refl, ap, sym, ◌∙◌, subst}
use Rattle.apfs_model.specs.Lists.{In}
use Rattle.apfs_model.proofs.BoolTests.{left-true, right-true, equal-from}
use Rattle.bt_node.specs.Entries.{Pair}
use Rattle.bt_keys.specs.RecordKey.{id_of, record_kind_of, file_extent_record}
use Rattle.bt_keys.specs.FsTree.{IsFsShape}
use Rattle.bt_cursor.specs.Tree.{Tree}
use Rattle.bt_cursor.specs.Gaps.{Gapped, all_met}
use Rattle.bt_cursor.specs.From.{run_in, starts_whole}
use Rattle.bt_cursor.proofs.Runs.{whole-over}
use Rattle.fs_record.specs.Facts.{read_extent}
use Rattle.fs_record.specs.declared.fault.RecFault.{RecFault}
use Rattle.fs_record.specs.declared.extents.FileExt.{FileExt}
use Rattle.file_extent.specs.Stops.{HasRefused}
use Rattle.file_extent.specs.Collected.{is_of_stream, some_extent, extent_in, IsCollected, AreCollected, GoesOn}
use Rattle.file_extent.proofs.Collecting.{is_run, run-read, collected-all, collected-more}

-- what a record that is the stream's is
record IsTold (id : ℕ) (pair : Pair) (r : Result FileExt RecFault) : Type 0 where
  same : id_of pair.key ≡ id
  kind : record_kind_of pair.key ≡ file_extent_record
  read : read_extent pair ≡ r

told-of : (id : ℕ) (pair : Pair) (r : Result FileExt RecFault) → is_of_stream id pair ≡ true → read_extent pair ≡ r → IsTold id pair r
told-of id pair r test read = record {
  same = equal-from (id_of pair.key) id (left-true (id_of pair.key == id) (record_kind_of pair.key == file_extent_record) test);
  kind = equal-from (record_kind_of pair.key) file_extent_record (right-true (id_of pair.key == id) (record_kind_of pair.key == file_extent_record) test);
  read = read;
}

some-if : (b : Bool) (r : Result FileExt RecFault) (e : FileExt) → cond b (some_extent r) (Ok None) ≡ Ok (Some e) → (b ≡ true) × (r ≡ Ok e)
some-if true (Ok x) e told = (refl, cc)
some-if true (Err why) e told = absurd (let q : ⊥ = cc in q)
some-if false r e told = absurd (let q : ⊥ = cc in q)

refused-if : (b : Bool) (r : Result FileExt RecFault) (why : RecFault) → cond b (some_extent r) (Ok None) ≡ Err why → (b ≡ true) × (r ≡ Err why)
refused-if true (Ok x) why told = absurd (let q : ⊥ = cc in q)
refused-if true (Err other) why told = (refl, cc)
refused-if false r why told = absurd (let q : ⊥ = cc in q)

none-if : (b : Bool) (r : Result FileExt RecFault) → cond b (some_extent r) (Ok None) ≡ Ok None → b ≡ false
none-if true (Ok x) told = absurd (let q : ⊥ = cc in q)
none-if true (Err why) told = absurd (let q : ⊥ = cc in q)
none-if false r told = refl

some-told : (id : ℕ) (pair : Pair) (e : FileExt) → extent_in id pair ≡ Ok (Some e) → IsTold id pair (Ok e)
unfolding extent_in
some-told id pair e told = let both = some-if (is_of_stream id pair) (read_extent pair) e told in told-of id pair (Ok e) both.0 both.1

refused-told : (id : ℕ) (pair : Pair) (why : RecFault) → extent_in id pair ≡ Err why → IsTold id pair (Err why)
unfolding extent_in
refused-told id pair why told = let both = refused-if (is_of_stream id pair) (read_extent pair) why told in told-of id pair (Err why) both.0 both.1

none-told : (id : ℕ) (pair : Pair) → extent_in id pair ≡ Ok None → is_of_stream id pair ≡ false
unfolding extent_in
none-told id pair told = none-if (is_of_stream id pair) (read_extent pair) told

-- a record that is refused is there
pub refused_there : (pairs : List Pair) (id : ℕ) (pair : Pair) (why : RecFault) → In pair pairs → extent_in id pair ≡ Err why → HasRefused pairs id why
refused_there pairs id pair why one told =
    let t = refused-told id pair why told in
    record { pair = pair; one = one; kind = t.kind; of_stream = t.same; refusal = t.read }

-- a walk that has moved onto a record goes on with its extent, or ends before it
pub goes_on : {K : Type 0} (hashed : Bool) (tree : Tree K) (root id : ℕ) (left rest : List (Gapped Pair)) (es : List FileExt) (pair : Pair) (key : K) (o : Option FileExt) → IsFsShape hashed tree.shape → IsCollected tree root id left es → left ≡ Ok pair ∷ rest → tree.shape.read pair.key ≡ Some key → extent_in id pair ≡ Ok o → GoesOn tree root id rest es o
goes_on hashed tree root id left rest es pair key None law c next read told =
    let over : run_in tree.shape (is_run id) pair ≡ false = run-read hashed tree.shape id pair key law read ∙ none-told id pair told in
    collected-all hashed tree root id left es law c (record {
      next = λ p ps at.
          let first : pair ∷ all_met rest ≡ p ∷ ps = sym (ap all_met next) ∙ at in
          let same : p ≡ pair = cc in
          ap (run_in tree.shape (is_run id)) same ∙ over;
      whole = ap (starts_whole tree.shape (is_run id)) next ∙ whole-over tree.shape (is_run id) pair rest over;
    })
goes_on hashed tree root id left rest es pair key (Some e) law c next read told =
    let t = some-told id pair e told in
    collected-more hashed tree root id left rest es pair key e law c next read t.same t.kind t.read

-- a walk that has come to the end of the tree has passed all extents
pub goes_on_none : {K : Type 0} (hashed : Bool) (tree : Tree K) (root id : ℕ) (left : List (Gapped Pair)) (es : List FileExt) → IsFsShape hashed tree.shape → IsCollected tree root id left es → left ≡ [] → AreCollected tree root id es
goes_on_none hashed tree root id left es law c end =
    collected-all hashed tree root id left es law c (record {
      next = λ p ps at. let bad : [] ≡ p ∷ ps = sym (ap all_met end) ∙ at in absurd (let q : ⊥ = cc in q);
      whole = ap (starts_whole tree.shape (is_run id)) end;
    })

-- the same for another name of the tree and of the answer
pub went_on : {K : Type 0} (old new : Tree K) (root id : ℕ) (left rest : List (Gapped Pair)) (es : List FileExt) (o p : Option FileExt) → old ≡ new → o ≡ p → (IsCollected old root id left es → GoesOn old root id rest es o) → IsCollected new root id left es → GoesOn new root id rest es p
went_on {K} old new root id left rest es o p same_tree same goes collected =
    subst (λ (t : Tree K). GoesOn t root id rest es p) same_tree
    (subst (λ (q : Option FileExt). GoesOn old root id rest es q) same
    (goes (subst (λ (t : Tree K). IsCollected t root id left es) (sym same_tree) collected)))
