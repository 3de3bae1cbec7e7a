-- The extents of a stream among the records of a tree, passed one after another.
use Rattle.std.proofs.Common.{◌≡◌, ℕ, Bool, true, false, cond, ◌&&◌, ◌==◌, nat_lt, List, [], ◌∷◌, ◌++◌, length, map, Option, Some, None, Result, Ok, Err, All, IsSome, refl, ap, ap₂, sym, ◌∙◌, arith, append_assoc}
use Rattle.std.specs.Prelude.{option_map}
use Rattle.std.specs.List.{filter, take_while, cons_option}
use Rattle.std.proofs.lemmas.Bool.{false≢true}
use Rattle.std.proofs.lemmas.Bool.Decides.{nat_tests}
use Rattle.std.proofs.lemmas.List.{map-append}
use Rattle.std.proofs.lemmas.List.Elements.{All-nil, All-cons, All-head, All-tail, filter-append, filter_map-append}
use Rattle.apfs_model.specs.Lists.{value_of}
use Rattle.apfs_model.proofs.BoolTests.{from-equal}
use Rattle.bt_node.specs.Shape.{Shape}
use Rattle.bt_node.specs.Entries.{Pair, bytes_in}
use Rattle.bt_node.specs.declared.key.Rank.{Rank}
use Rattle.bt_keys.specs.RecordKey.{id_of, record_kind_of, sub_of, second_of, has_second, hash_of, entry_record, file_extent_record}
use Rattle.bt_keys.specs.FsTree.{IsFsKey, IsFsShape}
use Rattle.bt_cursor.specs.Tree.{Tree}
use Rattle.bt_cursor.specs.Flat.{flat_of}
use Rattle.bt_cursor.specs.Order.{rank_of, rank_or_least}
use Rattle.bt_cursor.specs.Gaps.{Gapped, all_met}
use Rattle.bt_cursor.specs.From.{from_rank, run_in, starts_whole}
use Rattle.bt_cursor.proofs.Runs.{run-flat, run-taken, run-kind, whole-on}
use Rattle.fs_record.specs.Facts.{Fact, told_by, fact_of, facts_of, all_for, read_extent, extents_of}
use Rattle.fs_record.specs.Extents.{extent_of}
use Rattle.fs_record.specs.declared.fault.RecFault.{RecFault}
use Rattle.fs_record.specs.declared.fault.RecFault.TheVariants.{Length}
use Rattle.fs_record.specs.declared.extents.FileExt.{FileExt}
use Rattle.file_extent.specs.Streams.{extents_for}
use Rattle.file_extent.specs.Collected.{is_of_stream, stream_rank, extent_rank, IsCollected, AreCollected}

-- ---- the extents of lists of records
all-append : {X : Type 0} (id : ℕ) (fs gs : List (Fact X)) → all_for id (fs ++ gs) ≡ all_for id fs ++ all_for id gs
all-append {X} id fs gs = ap (map (λ (f : Fact X). f.what)) (filter-append (λ (f : Fact X). f.id == id) fs gs) ∙ map-append (λ (f : Fact X). f.what) (filter (λ (f : Fact X). f.id == id) fs) (filter (λ (f : Fact X). f.id == id) gs)

pub extents-append : (id : ℕ) (ps qs : List Pair) → extents_for id (ps ++ qs) ≡ extents_for id ps ++ extents_for id qs
unfolding extents_for extents_of
extents-append id ps qs =
    ap (all_for id) (filter_map-append (fact_of file_extent_record read_extent) ps qs)
    ∙ all-append id (facts_of file_extent_record read_extent ps) (facts_of file_extent_record read_extent qs)

pub extents-none : (id : ℕ) → extents_for id [] ≡ []
unfolding extents_for extents_of
extents-none id = refl

-- a record of the stream that is read gives its extent
one-read : (id : ℕ) (pair : Pair) (e : FileExt) → id_of pair.key ≡ id → record_kind_of pair.key ≡ file_extent_record → read_extent pair ≡ Ok e → extents_for id (pair ∷ []) ≡ e ∷ []
unfolding extents_for extents_of
one-read id pair e same kind read =
    let test : (record_kind_of pair.key == file_extent_record) ≡ true = from-equal (record_kind_of pair.key) file_extent_record kind in
    let mine : (id_of pair.key == id) ≡ true = from-equal (id_of pair.key) id same in
    ap (λ b. all_for id (cons_option (cond b (option_map (told_by pair) (value_of (read_extent pair))) None) [])) test
    ∙ ap (λ (r : Result FileExt RecFault). all_for id (cons_option (option_map (told_by pair) (value_of r)) [])) read
    ∙ ap (λ b. map (λ (f : Fact FileExt). f.what) (cond b (told_by pair e ∷ []) [])) mine

-- another one gives none
other-told : (id : ℕ) (pair : Pair) (o : Option FileExt) → (id_of pair.key == id) ≡ false → all_for id (cons_option (option_map (told_by pair) o) []) ≡ []
other-told id pair None other = refl
other-told id pair (Some e) other = ap (λ b. map (λ (f : Fact FileExt). f.what) (cond b (told_by pair e ∷ []) [])) other

other-kind : (id : ℕ) (pair : Pair) (b : Bool) → (record_kind_of pair.key == file_extent_record) ≡ b → ((id_of pair.key == id) && b) ≡ false → all_for id (cons_option (cond b (option_map (told_by pair) (value_of (read_extent pair))) None) []) ≡ []
other-kind id pair false test other = refl
other-kind id pair true test other = other-told id pair (value_of (read_extent pair)) (grind (arith, nat_tests, other))

one-other : (id : ℕ) (pair : Pair) → is_of_stream id pair ≡ false → extents_for id (pair ∷ []) ≡ []
unfolding extents_for extents_of
one-other id pair other = other-kind id pair (record_kind_of pair.key == file_extent_record) refl other

-- ---- the records of a stream are a run
abbrev pub is_run : ℕ → Rank → Bool
is_run id r = (r.id == id) && (r.kind == file_extent_record)

-- a key that is read has the id and the kind of its bytes
pub run-read : {K : Type 0} (hashed : Bool) (shape : Shape K) (id : ℕ) (pair : Pair) (key : K) → IsFsShape hashed shape → shape.read pair.key ≡ Some key → run_in shape (is_run id) pair ≡ is_of_stream id pair
run-read hashed shape id pair key law read =
    let known = law.reads pair.key key read in
    ap (λ o. is_run id (rank_or_least shape o)) read
    ∙ ap₂ (λ (a b : ℕ). (a == id) && (b == file_extent_record)) known.id known.kind

run-some : {K : Type 0} (hashed : Bool) (shape : Shape K) (id : ℕ) (pair : Pair) (o : Option K) → IsFsShape hashed shape → shape.read pair.key ≡ o → IsSome o → run_in shape (is_run id) pair ≡ is_of_stream id pair
run-some hashed shape id pair None law read some = absurd (false≢true some)
run-some hashed shape id pair (Some key) law read some = run-read hashed shape id pair key law read

run-one : (id : ℕ) (b : Bool) (pair : Pair) (ps : List Pair) → is_of_stream id pair ≡ b → extents_for id (pair ∷ []) ++ extents_for id ps ≡ extents_for id (cond b (pair ∷ ps) ps)
run-one id true pair ps test = sym (extents-append id (pair ∷ []) ps)
run-one id false pair ps test = ap (λ (l : List FileExt). l ++ extents_for id ps) (one-other id pair test)

-- so the extents of a stream are those of the run
extents-run : {K : Type 0} (hashed : Bool) (shape : Shape K) (id : ℕ) (pairs : List Pair) → IsFsShape hashed shape → All (λ (p : Pair). IsSome (shape.read p.key)) pairs → extents_for id pairs ≡ extents_for id (filter (run_in shape (is_run id)) pairs)
extents-run hashed shape id [] law all = refl
extents-run hashed shape id (p ∷ ps) law all =
    let test : run_in shape (is_run id) p ≡ is_of_stream id p = run-some hashed shape id p (shape.read p.key) law refl (All-head (λ (q : Pair). IsSome (shape.read q.key)) p ps all) in
    let rest = extents-run hashed shape id ps law (All-tail (λ (q : Pair). IsSome (shape.read q.key)) p ps all) in
    extents-append id (p ∷ []) ps
    ∙ ap (λ (l : List FileExt). extents_for id (p ∷ []) ++ l) rest
    ∙ run-one id (run_in shape (is_run id) p) p (filter (run_in shape (is_run id)) ps) (sym test)

-- ---- from step to step
each-of : {K : Type 0} (shape : Shape K) (id : ℕ) (taken : List Pair) (es : List FileExt) → map (rank_of shape) taken ≡ map (extent_rank id) es → All (λ (p : Pair). run_in shape (is_run id) p ≡ true) taken
each-of shape id [] es same = All-nil (λ (p : Pair). run_in shape (is_run id) p ≡ true)
each-of shape id (p ∷ ps) [] same = absurd (cc)
each-of shape id (p ∷ ps) (e ∷ es) same =
    let here : rank_of shape p ≡ extent_rank id e = cc in
    let rest : map (rank_of shape) ps ≡ map (extent_rank id) es = cc in
    let stands : is_run id (extent_rank id e) ≡ true = grind (arith, nat_tests) in
    All-cons (λ (q : Pair). run_in shape (is_run id) q ≡ true) p ps (ap (is_run id) here ∙ stands) (each-of shape id ps es rest)

-- the extents that were collected are some of the stream's
pub collected-within : {K : Type 0} (tree : Tree K) (root id : ℕ) (left : List (Gapped Pair)) (es : List FileExt) → IsCollected tree root id left es → (before after : List FileExt) × (extents_for id (flat_of tree root) ≡ before ++ (es ++ after))
collected-within tree root id left es c = (
  extents_for id c.before,
  extents_for id (all_met left),
  ap (extents_for id) c.split
      ∙ extents-append id c.before (c.taken ++ all_met left)
      ∙ ap (λ (l : List FileExt). extents_for id c.before ++ l) (extents-append id c.taken (all_met left) ∙ ap (λ (l : List FileExt). l ++ extents_for id (all_met left)) c.same),
)

-- the walk goes on with no record of a stream, and no gap stands there
pub record Ends {K : Type 0} (shape : Shape K) (id : ℕ) (left : List (Gapped Pair)) : Type 0 where
  pub next : (p : Pair) (ps : List Pair) → all_met left ≡ p ∷ ps → run_in shape (is_run id) p ≡ false
  pub whole : starts_whole shape (is_run id) left ≡ true

-- and all of them where the walk goes on with none
pub collected-all : {K : Type 0} (hashed : Bool) (tree : Tree K) (root id : ℕ) (left : List (Gapped Pair)) (es : List FileExt) → IsFsShape hashed tree.shape → IsCollected tree root id left es → Ends tree.shape id left → AreCollected tree root id es
collected-all hashed tree root id left es law c ends =
    let w = collected-within tree root id left es c in
    record {
      before = w.0;
      after = w.1;
      within = w.2;
      all = λ ordered.
          let test = run_in tree.shape (is_run id) in
          let taken : take_while test (c.taken ++ all_met left) ≡ c.taken = run-taken test c.taken (all_met left) (each-of tree.shape id c.taken es c.ranks) ends.next in
          let run : take_while test (from_rank tree.shape (stream_rank id 0) (flat_of tree root)) ≡ filter test (flat_of tree root) = run-flat tree root (stream_rank id 0) (is_run id) (run-kind id file_extent_record) ordered in
          let same : filter test (flat_of tree root) ≡ c.taken = sym run ∙ (ap (take_while test) (c.from ordered) ∙ taken) in
          extents-run hashed tree.shape id (flat_of tree root) law c.readable ∙ (ap (extents_for id) same ∙ c.same);
      whole = λ ordered. c.whole ordered ∙ ends.whole;
    }

-- where an extent's record stands is its logical address
sub-second : (hashed : Bool) (key : List ℕ) → record_kind_of key ≡ file_extent_record → sub_of hashed key ≡ second_of key
unfolding sub_of
sub-second hashed key kind =
    let second : has_second (record_kind_of key) ≡ true = grind (arith, nat_tests, kind) in
    ap (λ b. cond b (second_of key) (cond (hashed && (record_kind_of key == entry_record)) (hash_of key) 0)) second

read-if : (b : Bool) (x e : FileExt) → cond b (Err Length) (Ok x) ≡ Ok e → e ≡ x
read-if true x e told = absurd (let q : ⊥ = cc in q)
read-if false x e told = cc

logical-read : (pair : Pair) (e : FileExt) → read_extent pair ≡ Ok e → e.logical ≡ second_of pair.key
unfolding extent_of
logical-read pair e told = ap (λ (x : FileExt). x.logical) (read-if (nat_lt (length (bytes_in pair.value)) 24) _ e told)

rank-of : (r : Rank) (id kind sub : ℕ) → r.id ≡ id → r.kind ≡ kind → r.sub ≡ sub → r ≡ record { id = id; kind = kind; sub = sub }
rank-of r id kind sub a b c =
    ap (λ (n : ℕ). record { id = n; kind = r.kind; sub = r.sub }) a
    ∙ ap (λ (n : ℕ). record { id = id; kind = n; sub = r.sub }) b
    ∙ ap (λ (n : ℕ). record { id = id; kind = kind; sub = n }) c

-- one more extent
pub collected-more : {K : Type 0} (hashed : Bool) (tree : Tree K) (root id : ℕ) (left rest : List (Gapped Pair)) (es : List FileExt) (pair : Pair) (key : K) (e : FileExt) → IsFsShape hashed tree.shape → IsCollected tree root id left es → left ≡ Ok pair ∷ rest → tree.shape.read pair.key ≡ Some key → id_of pair.key ≡ id → record_kind_of pair.key ≡ file_extent_record → read_extent pair ≡ Ok e → IsCollected tree root id rest (es ++ e ∷ [])
collected-more {K} hashed tree root id left rest es pair key e law c next read same kind told =
    let known : IsFsKey hashed pair.key (tree.shape.rank key) = law.reads pair.key key read in
    let rank : rank_of tree.shape pair ≡ extent_rank id e =
    ap (rank_or_least tree.shape) read
    ∙ rank-of (tree.shape.rank key) id file_extent_record e.logical (known.id ∙ same) (known.kind ∙ kind) (known.sub ∙ (sub-second hashed pair.key kind ∙ sym (logical-read pair e told))) in
    let after : c.taken ++ all_met left ≡ (c.taken ++ pair ∷ []) ++ all_met rest = ap (λ (l : List (Gapped Pair)). c.taken ++ all_met l) next ∙ sym (append_assoc c.taken (pair ∷ []) (all_met rest)) in
    let mine : run_in tree.shape (is_run id) pair ≡ true =
    run-read hashed tree.shape id pair key law read ∙ ap₂ (λ (a b : Bool). a && b) (from-equal (id_of pair.key) id same) (from-equal (record_kind_of pair.key) file_extent_record kind) in
    record {
      before = c.before;
      taken = c.taken ++ pair ∷ [];
      split = c.split ∙ ap (λ (l : List Pair). c.before ++ l) after;
      ranks = map-append (rank_of tree.shape) c.taken (pair ∷ []) ∙ (ap₂ (λ (l : List Rank) (r : Rank). l ++ r ∷ []) c.ranks rank ∙ sym (map-append (extent_rank id) es (e ∷ [])));
      same = extents-append id c.taken (pair ∷ []) ∙ ap₂ (λ (a b : List FileExt). a ++ b) c.same (one-read id pair e same kind told);
      from = λ ordered. c.from ordered ∙ after;
      whole = λ ordered. c.whole ordered ∙ (ap (starts_whole tree.shape (is_run id)) next ∙ whole-on tree.shape (is_run id) pair rest mine);
      readable = c.readable;
    }
