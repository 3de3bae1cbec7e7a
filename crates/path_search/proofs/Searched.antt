-- What a search in a view's tree finds are the facts of the view.
use Rattle.std.proofs.Common.{◌≡◌, ◌==◌, ◌&&◌, ℕ, zero, suc, ◌<◌, Bool, true, false, cond, List, [], ◌∷◌, ◌++◌, map, Option, Some, None, Result, Ok, Err, inl, inr, refl, ap, ap₂, sym, ◌∙◌, subst, append_assoc, append-nil, arith}
use Rattle.std.specs.Prelude.{filter, filter_map, option_map, IfSome, IsSome}
use Rattle.std.specs.List.{find, cons_option, take_while, flat_map, range_with_len}
use Rattle.std.proofs.lemmas.Bool.{false≢true}
use Rattle.std.proofs.lemmas.List.Sums.{take_while-cons}
use Rattle.apfs_model.specs.Blocks.{block_of}
use Rattle.apfs_model.specs.Kept.{IsKept}
use Rattle.apfs_model.specs.Lists.{In, value_of, through}
use Rattle.apfs_model.proofs.BoolTests.{from-range}
use Rattle.apfs_model.proofs.Searches.{from-map, from-flat_map}
use Rattle.obj_base.specs.declared.site.Site.{Site}
use Rattle.obj_base.specs.declared.stop.Bad.{Bad}
use Rattle.obj_base.specs.declared.stop.Bad.TheVariants as bads
use Rattle.obj_base.specs.declared.stop.Stop.{Stop}
use Rattle.bt_node.specs.Shape.{Shape}
use Rattle.bt_node.specs.Node.{level_of, count_of}
use Rattle.bt_node.specs.Entries.{Pair, pair_of, pairs_of}
use Rattle.bt_node.specs.Soundness.{node_of}
use Rattle.bt_node.specs.declared.fault.NodeFault.{NodeFault}
use Rattle.bt_node.specs.declared.key.Rank.{Rank}
use Rattle.bt_node.specs.declared.node.NodeAt.{NodeAt}
use Rattle.bt_node.proofs.Laws.{node_means}
use Rattle.bt_keys.specs.FsTree.{IsFsShape, IsFsKey}
use Rattle.bt_keys.specs.RecordKey.{id_of, record_kind_of, inode_record, entry_record}
use Rattle.bt_cursor.specs.declared.fault.WalkFault.{WalkFault}
use Rattle.bt_node.specs.declared.key.TreeKey as keys
use Rattle.bt_cursor.specs.declared.namer.Namer as namers
use Rattle.bt_cursor.specs.declared.cursor.Cursor.{Cursor}
use Rattle.bt_cursor.specs.Cursors.{site_of, tree_of, left_of, passed_of, Moves}
use Rattle.bt_cursor.specs.Gaps.{all_met}
use Rattle.bt_cursor.specs.Faults.{IsNodeFault, HasFeature}
use Rattle.obj_base.specs.Stops.{Tells}
use Rattle.bt_cursor.specs.Tree.{Tree, root_place, child_place, judged, node_named, block_named, tree_in}
use Rattle.bt_cursor.specs.Flat.{flat_part, flat_of}
use Rattle.bt_cursor.specs.Line.{line_of}
use Rattle.bt_cursor.specs.Order.{rank_or_least, is_ordered}
use Rattle.bt_cursor.specs.From.{from_rank, run_in, is_of_kind}
use Rattle.bt_cursor.proofs.Nodes.{node_same}
use Rattle.bt_cursor.proofs.Runs.{run-flat, run-kind}
use Rattle.fs_name.specs.declared.naming.Names.{Names}
use Rattle.fs_record.specs.Inodes.{Inode}
use Rattle.fs_record.specs.Entries.{Entry}
use Rattle.fs_record.specs.Facts.{Fact, told_by, facts_of, all_for, first_for, read_inode, read_entry, inodes_of, entries_of}
use Rattle.fs_record.specs.declared.fault.RecFault.{RecFault}
use Rattle.path_search.specs.Pairs.{pair_by}
use Rattle.path_search.specs.Parts.{with_read, with_kept, run_entries, first_inode}

-- ---- the keys of a tree's records can be read
-- each key of some records can be read
abbrev pub HasKeys : {K : Type 0} → Shape K → List Pair → Type 0
HasKeys shape pairs = (pair : Pair) → In pair pairs → IsSome (shape.read pair.key)

judged-ok : {K : Type 0} (shape : Shape K) (site : Site) (at : NodeAt) (block : ℕ) (bytes node : List ℕ) (r : Result (List ℕ) (Bad NodeFault)) → node_of shape at site bytes ≡ r → judged block r ≡ Ok node → node_of shape at site node ≡ Ok node
judged-ok shape site at block bytes node (Ok other) test e =
    let same : other ≡ node = cc in
    let whole : node ≡ bytes = sym same ∙ node_same shape at site bytes other test in
    ap (node_of shape at site) whole ∙ (test ∙ ap Ok same)
judged-ok shape site at block bytes node (Err (bads.Found why)) test e = absurd (cc)
judged-ok shape site at block bytes node (Err (bads.Unsupported feature)) test e = absurd (cc)

named-ok : {K : Type 0} (shape : Shape K) (site : Site) (image : List ℕ) (at : NodeAt) (node : List ℕ) (o : Option ℕ) → node_named shape site image at o ≡ Ok node → node_of shape at site node ≡ Ok node
named-ok shape site image at node None e = absurd (cc)
named-ok shape site image at node (Some block) e = judged-ok shape site at block (block_of site.block_size image block) node (node_of shape at site (block_of site.block_size image block)) refl e

-- the keys of each node that is found can be read
NodesHaveKeys : {K : Type 0} → Tree K → Type 0
NodesHaveKeys tree = (at : NodeAt) (node : List ℕ) → tree.look at ≡ Ok node → HasKeys tree.shape (pairs_of tree.shape node)

nodes-keys : {K : Type 0} (shape : Shape K) (site : Site) (named : ℕ → Option ℕ) (image : List ℕ) → NodesHaveKeys (tree_in shape site named image)
unfolding NodesHaveKeys
nodes-keys shape site named image at node e pair h =
    let sound = node_means shape at site node (named-ok shape site image at node (block_named site named at.oid) e) in
    let t = from-map (pair_of shape node) (range_with_len 0 (count_of node)) pair h in
    let r = from-range 0 (count_of node) t.0 t.1.0 in
    let low : t.0 < count_of node = omega arith in
    subst (λ (p : Pair). IsSome (shape.read p.key)) (sym t.1.1) (sound.table.entries t.0 low).readable

through-keys : {K : Type 0} (shape : Shape K) (o : Result (List ℕ) (Stop WalkFault)) (f : List ℕ → List Pair) → ((node : List ℕ) → o ≡ Ok node → HasKeys shape (f node)) → HasKeys shape (through (value_of o) f)
through-keys shape (Ok node) f each pair h = each node refl pair h
through-keys shape (Err stop) f each pair h = absurd h

part-keys : {K : Type 0} (tree : Tree K) → NodesHaveKeys tree → (level : ℕ) (pair : Pair) → IsSome (tree.shape.read pair.key) → HasKeys tree.shape (flat_part tree level pair)
unfolding NodesHaveKeys
part-keys tree keys zero pair here p (inl e) = subst (λ (q : Pair). IsSome (tree.shape.read q.key)) (sym e) here
part-keys tree keys zero pair here p (inr h) = absurd h
part-keys tree keys (suc level) pair here p h =
    through-keys tree.shape (tree.look (child_place level pair)) (λ node. flat_map (flat_part tree level) (pairs_of tree.shape node))
    (λ node e q m.
    let t = from-flat_map (flat_part tree level) q (pairs_of tree.shape node) m in
    part-keys tree keys level t.0 (keys (child_place level pair) node e t.0 t.1.0) q t.1.1) p h

-- the keys of a tree's records can be read
pub flat_keys : {K : Type 0} (shape : Shape K) (site : Site) (named : ℕ → Option ℕ) (image : List ℕ) (root : ℕ) → HasKeys shape (flat_of (tree_in shape site named image) root)
unfolding NodesHaveKeys
flat_keys shape site named image root =
    let tree = tree_in shape site named image in
    let keys = nodes-keys shape site named image in
    through-keys shape (tree.look (root_place root)) (λ node. flat_map (flat_part tree (level_of node)) (pairs_of shape node))
    (λ node e q m.
    let t = from-flat_map (flat_part tree (level_of node)) q (pairs_of shape node) m in
    part-keys tree keys (level_of node) t.0 (keys (root_place root) node e t.0 t.1.0) q t.1.1)

-- ---- facts of a run
-- a record's rank is that of its key
ranked : {K : Type 0} (hashed : Bool) (shape : Shape K) → IsFsShape hashed shape → (id kind : ℕ) (pair : Pair) (o : Option K) → shape.read pair.key ≡ o → IsSome o → is_of_kind id kind (rank_or_least shape o) ≡ ((id_of pair.key == id) && (record_kind_of pair.key == kind))
ranked hashed shape law id kind pair None e some = absurd (false≢true some)
ranked hashed shape law id kind pair (Some key) e some =
    let is : IsFsKey hashed pair.key (shape.rank key) = law.reads pair.key key e in
    ap (λ n. (n == id) && ((shape.rank key).kind == kind)) is.id ∙ ap (λ n. (id_of pair.key == id) && (n == kind)) is.kind

pub run_is : {K : Type 0} (hashed : Bool) (shape : Shape K) → IsFsShape hashed shape → (id kind : ℕ) (pair : Pair) → IsSome (shape.read pair.key) → run_in shape (is_of_kind id kind) pair ≡ ((id_of pair.key == id) && (record_kind_of pair.key == kind))
run_is hashed shape law id kind pair some = ranked hashed shape law id kind pair (shape.read pair.key) refl some

-- one more fact of an id
one-more : {X : Type 0} (kind id : ℕ) (pair : Pair) (o : Option X) (facts : List (Fact X)) (a b : Bool) → (record_kind_of pair.key == kind) ≡ a → (id_of pair.key == id) ≡ b →
    all_for id (cons_option (cond a (option_map (told_by pair) o) None) facts) ≡ cons_option (cond (b && a) o None) (all_for id facts)
one-more kind id pair None facts true true k i = refl
one-more kind id pair None facts true false k i = refl
one-more kind id pair None facts false true k i = refl
one-more kind id pair None facts false false k i = refl
one-more {X} kind id pair (Some x) facts true true k i = ap (λ (b : Bool). map (λ (f : Fact X). f.what) (cond b (told_by pair x ∷ filter (λ (f : Fact X). f.id == id) facts) (filter (λ (f : Fact X). f.id == id) facts))) i
one-more {X} kind id pair (Some x) facts true false k i = ap (λ (b : Bool). map (λ (f : Fact X). f.what) (cond b (told_by pair x ∷ filter (λ (f : Fact X). f.id == id) facts) (filter (λ (f : Fact X). f.id == id) facts))) i
one-more kind id pair (Some x) facts false true k i = refl
one-more kind id pair (Some x) facts false false k i = refl

kept-more : {X Y : Type 0} (f : X → Option Y) (t : Bool) (x : X) (xs : List X) → filter_map f (cond t (x ∷ xs) xs) ≡ cons_option (cond t (f x) None) (filter_map f xs)
kept-more f true x xs = refl
kept-more f false x xs = refl

-- the facts of an id and a kind are read from the records of that id and kind
pub run_facts : {K X : Type 0} (hashed : Bool) (shape : Shape K) → IsFsShape hashed shape → (id kind : ℕ) (read : Pair → Result X RecFault) (pairs : List Pair) → HasKeys shape pairs →
    filter_map (λ (p : Pair). value_of (read p)) (filter (run_in shape (is_of_kind id kind)) pairs) ≡ all_for id (facts_of kind read pairs)
run_facts hashed shape law id kind read [] keys = refl
run_facts {K} {X} hashed shape law id kind read (pair ∷ pairs) keys =
    let rest = run_facts hashed shape law id kind read pairs (λ p h. keys p (inr h)) in
    let a : Bool = record_kind_of pair.key == kind in
    let b : Bool = id_of pair.key == id in
    kept-more (λ (p : Pair). value_of (read p)) (run_in shape (is_of_kind id kind) pair) pair (filter (run_in shape (is_of_kind id kind)) pairs)
    ∙ (ap (λ t. cons_option (cond t (value_of (read pair)) None) (filter_map (λ (p : Pair). value_of (read p)) (filter (run_in shape (is_of_kind id kind)) pairs))) (run_is hashed shape law id kind pair (keys pair (inl refl)))
    ∙ (ap (λ (l : List X). cons_option (cond (b && a) (value_of (read pair)) None) l) rest
    ∙ sym (one-more kind id pair (value_of (read pair)) (facts_of kind read pairs) a b refl refl)))

first-step : {X : Type 0} (id : ℕ) (f : Fact X) (fs : List (Fact X)) (b : Bool) (x : X) (xs : List X) → (f.id == id) ≡ b → (map (λ (g : Fact X). g.what) (filter (λ (g : Fact X). g.id == id) fs) ≡ x ∷ xs → first_for id fs ≡ Some x) →
    map (λ (g : Fact X). g.what) (cond b (f ∷ filter (λ (g : Fact X). g.id == id) fs) (filter (λ (g : Fact X). g.id == id) fs)) ≡ x ∷ xs → option_map (λ (g : Fact X). g.what) (cond b (Some f) (find (λ (g : Fact X). g.id == id) fs)) ≡ Some x
first-step id f fs true x xs i rest e = let s : f.what ≡ x = cc in ap Some s
first-step id f fs false x xs i rest e = rest e

-- the first of the facts of an id is that of the id
pub first_of_all : {X : Type 0} (id : ℕ) (fs : List (Fact X)) (x : X) (xs : List X) → all_for id fs ≡ x ∷ xs → first_for id fs ≡ Some x
first_of_all id [] x xs e = absurd (cc)
first_of_all id (f ∷ fs) x xs e = first-step id f fs (f.id == id) x xs refl (first_of_all id fs x xs) e

-- ---- what is taken of a run
-- one more entry, where it is kept, and others after it
one-kept : (t : Bool) (x : Entry) (before others : List Entry) → with_kept t x before ++ others ≡ before ++ cond t (x ∷ others) others
one-kept true x before others = append_assoc before (x ∷ []) others
one-kept false x before others = refl

taken-step : {K : Type 0} (shape : Shape K) (names : Names) (keep : Entry → Bool) (id : ℕ) (before : List Entry) (pair : Pair) (pairs : List Pair) (es : List Entry) (t : Bool) (r : Result Entry RecFault) →
    ((e : Entry) → run_entries shape names keep id (with_kept (keep e) e before) pairs ≡ Some es → es ≡ with_kept (keep e) e before ++ filter keep (filter_map (λ (p : Pair). value_of (read_entry names p)) (take_while (run_in shape (is_of_kind id entry_record)) pairs))) →
    read_entry names pair ≡ r →
    cond t (with_read r (λ (e : Entry). run_entries shape names keep id (with_kept (keep e) e before) pairs)) (Some before) ≡ Some es →
    es ≡ before ++ filter keep (filter_map (λ (p : Pair). value_of (read_entry names p)) (cond t (pair ∷ take_while (run_in shape (is_of_kind id entry_record)) pairs) []))
taken-step shape names keep id before pair pairs es false r rest read e = let s : before ≡ es = cc in sym s ∙ sym (append-nil before)
taken-step shape names keep id before pair pairs es true (Err why) rest read e = absurd (cc)
taken-step shape names keep id before pair pairs es true (Ok x) rest read e =
    let others : List Entry = filter_map (λ (p : Pair). value_of (read_entry names p)) (take_while (run_in shape (is_of_kind id entry_record)) pairs) in
    rest x e ∙ (one-kept (keep x) x before (filter keep others) ∙ ap (λ (r : Result Entry RecFault). before ++ filter keep (cons_option (value_of r) others)) (sym read))

pub run_taken : {K : Type 0} (shape : Shape K) (names : Names) (keep : Entry → Bool) (id : ℕ) (before : List Entry) (pairs : List Pair) (es : List Entry) → run_entries shape names keep id before pairs ≡ Some es →
    es ≡ before ++ filter keep (filter_map (λ (p : Pair). value_of (read_entry names p)) (take_while (run_in shape (is_of_kind id entry_record)) pairs))
run_taken shape names keep id before [] es e = let s : before ≡ es = cc in sym s ∙ sym (append-nil before)
run_taken shape names keep id before (pair ∷ pairs) es e =
    let test = run_in shape (is_of_kind id entry_record) in
    taken-step shape names keep id before pair pairs es (test pair) (read_entry names pair) (λ x. run_taken shape names keep id (with_kept (keep x) x before) pairs es) refl e
    ∙ ap (λ (ps : List Pair). before ++ filter keep (filter_map (λ (p : Pair). value_of (read_entry names p)) ps)) (sym (take_while-cons test pair pairs))

-- ---- what is found
-- on an ordered Line the entries of a run from their first rank on are the entries of the directory
pub entries_found : {K : Type 0} (hashed : Bool) (shape : Shape K) (site : Site) (named : ℕ → Option ℕ) (image : List ℕ) (root id : ℕ) (names : Names) (keep : Entry → Bool) (left : List Pair) (run : Option (List Entry)) → IsFsShape hashed shape →
    is_ordered shape (line_of (tree_in shape site named image) root) ≡ true →
    left ≡ from_rank shape (record { id = id; kind = entry_record; sub = 0 }) (flat_of (tree_in shape site named image) root) →
    run_entries shape names keep id [] left ≡ run →
    IfSome run (λ es. es ≡ filter keep (all_for id (entries_of names (flat_of (tree_in shape site named image) root))))
unfolding entries_of
entries_found hashed shape site named image root id names keep left None law ordered at e = tt
entries_found hashed shape site named image root id names keep left (Some es) law ordered at e =
    let tree = tree_in shape site named image in
    let rank : Rank = record { id = id; kind = entry_record; sub = 0 } in
    let read = λ (p : Pair). value_of (read_entry names p) in
    run_taken shape names keep id [] left es e
    ∙ ap (filter keep) (ap (λ (ps : List Pair). filter_map read (take_while (run_in shape (is_of_kind id entry_record)) ps)) at
    ∙ (ap (filter_map read) (run-flat tree root rank (is_of_kind id entry_record) (run-kind id entry_record) ordered)
    ∙ run_facts hashed shape law id entry_record (read_entry names) (flat_of tree root) (flat_keys shape site named image root)))

first-found : {K : Type 0} (hashed : Bool) (shape : Shape K) → IsFsShape hashed shape → (id : ℕ) (flat left : List Pair) (x : Inode) → HasKeys shape flat →
    take_while (run_in shape (is_of_kind id inode_record)) left ≡ filter (run_in shape (is_of_kind id inode_record)) flat → first_inode shape id left ≡ Some x → first_for id (inodes_of flat) ≡ Some x
unfolding inodes_of
first-found hashed shape law id flat [] x keys same e = absurd (cc)
first-found hashed shape law id flat (pair ∷ pairs) x keys same e =
    let test = run_in shape (is_of_kind id inode_record) in
    let read = λ (p : Pair). value_of (read_inode p) in
    let go : (t : Bool) → test pair ≡ t → cond t (read pair) None ≡ Some x → first_for id (facts_of inode_record read_inode flat) ≡ Some x = λ t. elim t as (λ t. test pair ≡ t → cond t (read pair) None ≡ Some x → first_for id (facts_of inode_record read_inode flat) ≡ Some x) [
      | false ↦ λ i h. absurd (cc)
      | true ↦ λ i h.
          let begins : take_while test (pair ∷ pairs) ≡ pair ∷ take_while test pairs = take_while-cons test pair pairs ∙ ap (λ b. cond b (pair ∷ take_while test pairs) []) i in
          let all : all_for id (facts_of inode_record read_inode flat) ≡ cons_option (read pair) (filter_map read (take_while test pairs)) =
          sym (run_facts hashed shape law id inode_record read_inode flat keys) ∙ ap (filter_map read) (sym same ∙ begins) in
          first_of_all id (facts_of inode_record read_inode flat) x (filter_map read (take_while test pairs)) (all ∙ ap (λ (o : Option Inode). cons_option o (filter_map read (take_while test pairs))) h)
    ] in
    go (test pair) refl e

found-some : {K : Type 0} (hashed : Bool) (shape : Shape K) (site : Site) (named : ℕ → Option ℕ) (image : List ℕ) (root id : ℕ) (left : List Pair) (x : Inode) → IsFsShape hashed shape →
    is_ordered shape (line_of (tree_in shape site named image) root) ≡ true →
    left ≡ from_rank shape (record { id = id; kind = inode_record; sub = 0 }) (flat_of (tree_in shape site named image) root) →
    first_inode shape id left ≡ Some x → first_for id (inodes_of (flat_of (tree_in shape site named image) root)) ≡ Some x
found-some hashed shape site named image root id left x law ordered at e =
    let tree = tree_in shape site named image in
    let rank : Rank = record { id = id; kind = inode_record; sub = 0 } in
    first-found hashed shape law id (flat_of tree root) left x (flat_keys shape site named image root)
    (ap (take_while (run_in shape (is_of_kind id inode_record))) at ∙ run-flat tree root rank (is_of_kind id inode_record) (run-kind id inode_record) ordered) e

-- and the first inode from its rank on is the inode of the id
pub inode_found : {K : Type 0} (hashed : Bool) (shape : Shape K) (site : Site) (named : ℕ → Option ℕ) (image : List ℕ) (root id : ℕ) (left : List Pair) (inode : Option Inode) → IsFsShape hashed shape →
    is_ordered shape (line_of (tree_in shape site named image) root) ≡ true →
    left ≡ from_rank shape (record { id = id; kind = inode_record; sub = 0 }) (flat_of (tree_in shape site named image) root) →
    inode ≡ first_inode shape id left →
    IfSome inode (λ x. first_for id (inodes_of (flat_of (tree_in shape site named image) root)) ≡ Some x)
inode_found hashed shape site named image root id left None law ordered at e = tt
inode_found hashed shape site named image root id left (Some x) law ordered at e = found-some hashed shape site named image root id left x law ordered at (sym e)

-- ---- cursors
-- the keys of the records of a cursor's tree can be read
pub cursor_keys : {K N : Type 0} {k : keys.Ghosts K} {n : namers.Ghosts N} (image : List ℕ) (cursor : Cursor K N k n) (root : ℕ) → HasKeys k.shape (flat_of (tree_of cursor image) root)
cursor_keys {k = k} {n = n} image cursor root = flat_keys k.shape (site_of cursor) (n.named cursor.namer) image root

-- a cursor that moved on has passed the first record that was left
pub moved_on : {K N : Type 0} {k : keys.Ghosts K} {n : namers.Ghosts N} (image : List ℕ) (old new : Cursor K N k n) (more : Bool) → Moves image old new more → more ≡ true → left_of old image ≡ passed_of new ∷ left_of new image
moved_on image old new true moved e = ap all_met moved
moved_on image old new false moved e = absurd (false≢true e)

-- a record by its parts
pub pair_same : (key : List ℕ) (value : Option (List ℕ)) (pair : Pair) → key ≡ pair.key → value ≡ pair.value → pair_by key value ≡ pair
pair_same key value pair e f = ap₂ pair_by e f

-- what a source keeps over some calls, and then over some more, it keeps over all of them
pub kept_on : {S : Type 0} {bytes : S → Option (List ℕ)} {size faults : S → ℕ} {old mid new : S} → IsKept bytes size faults old mid → IsKept bytes size faults mid new → IsKept bytes size faults old new
kept_on one other = record { same_bytes = other.same_bytes ∙ one.same_bytes; same_size = other.same_size ∙ one.same_size; later = omega (arith, one.later, other.later) }

-- what a walk tells of a tree and a root it tells of the same ones
pub tells_same : {K : Type 0} (tree other : List ℕ → Tree K) (root same : ℕ) (image : List ℕ) (stop : Stop WalkFault) → other ≡ tree → same ≡ root → Tells (IsNodeFault (other image) same) (HasFeature (other image) same) stop → Tells (IsNodeFault (tree image) root) (HasFeature (tree image) root) stop
tells_same {K} tree other root same image stop e f told =
    subst (λ (t : List ℕ → Tree K). Tells (IsNodeFault (t image) root) (HasFeature (t image) root) stop) e (subst (λ r. Tells (IsNodeFault (other image) r) (HasFeature (other image) r) stop) f told)

-- what is found from a rank on, where the cursor stands there
pub entries_at : {K N : Type 0} {k : keys.Ghosts K} {n : namers.Ghosts N} (hashed : Bool) (image : List ℕ) (cursor : Cursor K N k n) (root id : ℕ) (names : Names) (keep : Entry → Bool) (left : List Pair) (run : Option (List Entry)) → IsFsShape hashed k.shape →
    is_ordered k.shape (line_of (tree_of cursor image) root) ≡ true →
    left ≡ from_rank k.shape (record { id = id; kind = entry_record; sub = 0 }) (flat_of (tree_of cursor image) root) →
    run_entries k.shape names keep id [] left ≡ run →
    IfSome run (λ es. es ≡ filter keep (all_for id (entries_of names (flat_of (tree_of cursor image) root))))
entries_at {k = k} {n = n} hashed image cursor root id names keep left run law ordered at e = entries_found hashed k.shape (site_of cursor) (n.named cursor.namer) image root id names keep left run law ordered at e

pub inode_from : {K N : Type 0} {k : keys.Ghosts K} {n : namers.Ghosts N} (hashed : Bool) (image : List ℕ) (cursor : Cursor K N k n) (root id : ℕ) (left : List Pair) (inode : Option Inode) → IsFsShape hashed k.shape →
    is_ordered k.shape (line_of (tree_of cursor image) root) ≡ true →
    left ≡ from_rank k.shape (record { id = id; kind = inode_record; sub = 0 }) (flat_of (tree_of cursor image) root) →
    inode ≡ first_inode k.shape id left →
    IfSome inode (λ x. first_for id (inodes_of (flat_of (tree_of cursor image) root)) ≡ Some x)
inode_from {k = k} {n = n} hashed image cursor root id left inode law ordered at e = inode_found hashed k.shape (site_of cursor) (n.named cursor.namer) image root id left inode law ordered at e

-- what holds of a value where there is one holds of this one
pub some_at : {X : Type 0} (P : X → Type 0) (o : Option X) (x : X) → IfSome o P → o ≡ Some x → P x
some_at P None x h e = absurd cc
some_at P (Some y) x h e = let s : y ≡ x = cc in subst P s h

-- the same tree and root
pub flat_same : {K : Type 0} (tree other : List ℕ → Tree K) (root same : ℕ) (image : List ℕ) → other ≡ tree → same ≡ root → flat_of (other image) same ≡ flat_of (tree image) root
flat_same {K} tree other root same image e f = ap (λ (t : List ℕ → Tree K). flat_of (t image) same) e ∙ ap (flat_of (tree image)) f

pub flat_at : {K : Type 0} (tree other : Tree K) (root same : ℕ) → tree ≡ other → root ≡ same → flat_of tree root ≡ flat_of other same
flat_at {K} tree other root same e f = ap (λ (t : Tree K). flat_of t root) e ∙ ap (flat_of other) f

pub ordered_at : {K : Type 0} (shape : Shape K) (tree other : Tree K) (root same : ℕ) → tree ≡ other → root ≡ same → is_ordered shape (line_of other same) ≡ true → is_ordered shape (line_of tree root) ≡ true
ordered_at {K} shape tree other root same e f ordered = ap (λ (t : Tree K). is_ordered shape (line_of t root)) e ∙ (ap (λ r. is_ordered shape (line_of other r)) f ∙ ordered)

pub tells_at : {K : Type 0} (tree other : Tree K) (root same : ℕ) (stop : Stop WalkFault) → tree ≡ other → root ≡ same → Tells (IsNodeFault tree root) (HasFeature tree root) stop → Tells (IsNodeFault other same) (HasFeature other same) stop
tells_at {K} tree other root same stop e f told =
    subst (λ (t : Tree K). Tells (IsNodeFault t same) (HasFeature t same) stop) e (subst (λ r. Tells (IsNodeFault tree r) (HasFeature tree r) stop) f told)

pub ordered_same : {K : Type 0} (shape : Shape K) (tree other : List ℕ → Tree K) (root same : ℕ) (image : List ℕ) → other ≡ tree → same ≡ root → is_ordered shape (line_of (tree image) root) ≡ true → is_ordered shape (line_of (other image) same) ≡ true
ordered_same {K} shape tree other root same image e f ordered = ap (λ (t : List ℕ → Tree K). is_ordered shape (line_of (t image) same)) e ∙ (ap (λ r. is_ordered shape (line_of (tree image) r)) f ∙ ordered)
