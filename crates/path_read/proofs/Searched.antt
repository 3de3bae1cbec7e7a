-- What a search for the attributes of an id finds are those of the view.
use Rattle.std.proofs.Common.{◌≡◌, ◌==◌, ℕ, Bool, true, false, cond, List, [], ◌∷◌, ◌++◌, Option, Some, None, Result, Ok, Err, inl, inr, refl, ap, sym, ◌∙◌, subst, append_assoc, append-nil}
use Rattle.std.specs.Prelude.{filter_map, option_map, IfSome}
use Rattle.std.specs.List.{cons_option, take_while}
use Rattle.std.proofs.lemmas.List.Sums.{take_while-cons}
use Rattle.std.proofs.lemmas.Option.{none-some}
use Rattle.apfs_model.specs.Lists.{In, value_of}
use Rattle.apfs_model.proofs.BoolTests.{right-true, equal-from}
use Rattle.apfs_model.proofs.Searches.{in-right}
use Rattle.bt_node.specs.Shape.{Shape}
use Rattle.bt_node.specs.Entries.{Pair}
use Rattle.bt_node.specs.declared.key.Rank.{Rank}
use Rattle.bt_node.specs.declared.key.TreeKey as keys
use Rattle.bt_keys.specs.FsTree.{IsFsShape}
use Rattle.bt_keys.specs.RecordKey.{id_of, record_kind_of, attribute_record, has_plain_name}
use Rattle.bt_keys.proofs.FsKeys.{attribute_named}
use Rattle.bt_cursor.specs.declared.namer.Namer as namers
use Rattle.bt_cursor.specs.declared.cursor.Cursor.{Cursor}
use Rattle.bt_cursor.specs.Cursors.{root_of, tree_of, left_of, gapped_left_of, passed_of, IsOn, Moves}
use Rattle.bt_cursor.specs.Flat.{flat_of}
use Rattle.bt_cursor.specs.Line.{line_of}
use Rattle.bt_cursor.specs.Order.{is_ordered}
use Rattle.bt_cursor.specs.From.{from_rank, run_in, is_of_kind, is_kind_whole}
use Rattle.bt_cursor.proofs.Runs.{run-flat, run-kind, flat-suffix, moved-whole, moved-over}
use Rattle.fs_record.specs.Attributes.{Attribute}
use Rattle.fs_record.specs.Facts.{fault_of, all_for, read_attribute, attributes_of}
use Rattle.fs_record.specs.declared.fault.RecFault.{RecFault}
use Rattle.path_search.specs.Parts.{with_read, HasKindIn}
use Rattle.path_search.proofs.Searched.{HasKeys, run_is, run_facts, cursor_keys}
use Rattle.path_search.proofs.Needed.{kind_read, refused_by}
use Rattle.fs_name.specs.declared.naming.Names.{Names}
use Rattle.std.proofs.lemmas.Bool.{false≢true}
use Rattle.path_read.specs.declared.search.Took.{Took}
use Rattle.path_read.specs.declared.search.Took.TheVariants.{One, End, Refused}
use Rattle.path_read.specs.Parts.{run_attributes, HasRefused, IsOfRun, GoesWhole}

-- the name of an attribute lies in its key
pub plain_read : {K : Type 0} (hashed : Bool) (shape : Shape K) (key : List ℕ) (k : K) → IsFsShape hashed shape → shape.read key ≡ Some k → (shape.rank k).kind ≡ attribute_record → has_plain_name key ≡ true
plain_read hashed shape key k law e is =
    let known = law.reads key k e in
    attribute_named hashed key known.whole (sym known.kind ∙ is)

-- ---- what is taken of a run
taken-step : {K : Type 0} (shape : Shape K) (id : ℕ) (before : List Attribute) (pair : Pair) (pairs : List Pair) (es : List Attribute) (t : Bool) (r : Result Attribute RecFault) →
    ((a : Attribute) → run_attributes shape id (before ++ a ∷ []) pairs ≡ Some es → es ≡ (before ++ a ∷ []) ++ filter_map (λ (p : Pair). value_of (read_attribute p)) (take_while (run_in shape (is_of_kind id attribute_record)) pairs)) →
    read_attribute pair ≡ r →
    cond t (with_read r (λ (a : Attribute). run_attributes shape id (before ++ a ∷ []) pairs)) (Some before) ≡ Some es →
    es ≡ before ++ filter_map (λ (p : Pair). value_of (read_attribute p)) (cond t (pair ∷ take_while (run_in shape (is_of_kind id attribute_record)) pairs) [])
taken-step shape id before pair pairs es false r rest read e = let s : before ≡ es = cc in sym s ∙ sym (append-nil before)
taken-step shape id before pair pairs es true (Err why) rest read e = absurd (cc)
taken-step shape id before pair pairs es true (Ok x) rest read e =
    let others : List Attribute = filter_map (λ (p : Pair). value_of (read_attribute p)) (take_while (run_in shape (is_of_kind id attribute_record)) pairs) in
    rest x e ∙ (append_assoc before (x ∷ []) others ∙ ap (λ (r : Result Attribute RecFault). before ++ cons_option (value_of r) others) (sym read))

pub run_taken : {K : Type 0} (shape : Shape K) (id : ℕ) (before : List Attribute) (pairs : List Pair) (es : List Attribute) → run_attributes shape id before pairs ≡ Some es →
    es ≡ before ++ filter_map (λ (p : Pair). value_of (read_attribute p)) (take_while (run_in shape (is_of_kind id attribute_record)) pairs)
run_taken shape id before [] es e = let s : before ≡ es = cc in sym s ∙ sym (append-nil before)
run_taken shape id before (pair ∷ pairs) es e =
    let test = run_in shape (is_of_kind id attribute_record) in
    taken-step shape id before pair pairs es (test pair) (read_attribute pair) (λ x. run_taken shape id (before ++ x ∷ []) pairs es) refl e
    ∙ ap (λ (ps : List Pair). before ++ filter_map (λ (p : Pair). value_of (read_attribute p)) ps) (sym (take_while-cons test pair pairs))

-- a record of the run that is refused
record RefusedIn {K : Type 0} (shape : Shape K) (id : ℕ) (pairs : List Pair) : Type 0 where
  pair : Pair
  one : In pair pairs
  of_run : run_in shape (is_of_kind id attribute_record) pair ≡ true
  why : RecFault
  refusal : read_attribute pair ≡ Err why

refused-step : {K : Type 0} (shape : Shape K) (id : ℕ) (before : List Attribute) (pair : Pair) (pairs : List Pair) (t : Bool) (r : Result Attribute RecFault) →
    ((a : Attribute) → run_attributes shape id (before ++ a ∷ []) pairs ≡ None → RefusedIn shape id pairs) →
    run_in shape (is_of_kind id attribute_record) pair ≡ t → read_attribute pair ≡ r →
    cond t (with_read r (λ (a : Attribute). run_attributes shape id (before ++ a ∷ []) pairs)) (Some before) ≡ None → RefusedIn shape id (pair ∷ pairs)
refused-step shape id before pair pairs false r rest test read e = absurd (none-some before (sym e))
refused-step shape id before pair pairs true (Err why) rest test read e = record { pair = pair; one = inl refl; of_run = test; why = why; refusal = read }
refused-step shape id before pair pairs true (Ok a) rest test read e = let r = rest a e in record { pair = r.pair; one = inr r.one; of_run = r.of_run; why = r.why; refusal = r.refusal }

-- where nothing is taken of a run, one of its records is refused
run-refused : {K : Type 0} (shape : Shape K) (id : ℕ) (before : List Attribute) (pairs : List Pair) → run_attributes shape id before pairs ≡ None → RefusedIn shape id pairs
run-refused shape id before [] e = absurd (none-some before (sym e))
run-refused shape id before (pair ∷ pairs) e =
    refused-step shape id before pair pairs (run_in shape (is_of_kind id attribute_record) pair) (read_attribute pair) (λ a. run-refused shape id (before ++ a ∷ []) pairs) refl refl e

-- ---- what is found
-- what is found from a rank on, where the cursor stands there
pub attributes_found : {K N : Type 0} {k : keys.Ghosts K} {n : namers.Ghosts N} (hashed : Bool) (image : List ℕ) (cursor : Cursor K N k n) (root id : ℕ) (left : List Pair) (run : Option (List Attribute)) → IsFsShape hashed k.shape →
    is_ordered k.shape (line_of (tree_of cursor image) root) ≡ true →
    left ≡ from_rank k.shape (record { id = id; kind = attribute_record; sub = 0 }) (flat_of (tree_of cursor image) root) →
    run_attributes k.shape id [] left ≡ run →
    IfSome run (λ these. these ≡ all_for id (attributes_of (flat_of (tree_of cursor image) root)))
unfolding attributes_of
attributes_found {k = k} hashed image cursor root id left None law ordered at e = tt
attributes_found {k = k} hashed image cursor root id left (Some these) law ordered at e =
    let tree = tree_of cursor image in
    let rank : Rank = record { id = id; kind = attribute_record; sub = 0 } in
    let read = λ (p : Pair). value_of (read_attribute p) in
    run_taken k.shape id [] left these e
    ∙ (ap (λ (ps : List Pair). filter_map read (take_while (run_in k.shape (is_of_kind id attribute_record)) ps)) at
    ∙ (ap (filter_map read) (run-flat tree root rank (is_of_kind id attribute_record) (run-kind id attribute_record) ordered)
    ∙ run_facts hashed k.shape law id attribute_record read_attribute (flat_of tree root) (cursor_keys image cursor root)))

-- a record that is refused from a cursor's place on is one of its tree
pub refused_found : {K N : Type 0} {k : keys.Ghosts K} {n : namers.Ghosts N} (hashed : Bool) (image : List ℕ) (cursor : Cursor K N k n) (id : ℕ) → IsFsShape hashed k.shape → IsOn image cursor →
    run_attributes k.shape id [] (left_of cursor image) ≡ None → HasRefused (flat_of (tree_of cursor image) (root_of cursor))
refused_found {k = k} hashed image cursor id law on e =
    let flat : List Pair = flat_of (tree_of cursor image) (root_of cursor) in
    let r = run-refused k.shape id [] (left_of cursor image) e in
    let end = flat-suffix image cursor on in
    let one : In r.pair flat = subst (In r.pair) (sym end.split) (in-right r.pair end.before (left_of cursor image) r.one) in
    let keys : HasKeys k.shape flat = cursor_keys image cursor (root_of cursor) in
    let both = sym (run_is hashed k.shape law id attribute_record r.pair (keys r.pair one)) ∙ r.of_run in
    record { pair = r.pair; one = one; kind = equal-from (record_kind_of r.pair.key) attribute_record (right-true (id_of r.pair.key == id) (record_kind_of r.pair.key == attribute_record) both); why = r.why; refusal = r.refusal }

-- each attribute of a run that was taken was read
read-step : {K : Type 0} (shape : Shape K) (id : ℕ) (before : List Attribute) (pair : Pair) (pairs : List Pair) (these : List Attribute) (t : Bool) (r : Result Attribute RecFault) →
    ((a : Attribute) → run_attributes shape id (before ++ a ∷ []) pairs ≡ Some these → (p : Pair) → In p (take_while (run_in shape (is_of_kind id attribute_record)) pairs) → fault_of (read_attribute p) ≡ None) →
    read_attribute pair ≡ r → cond t (with_read r (λ (a : Attribute). run_attributes shape id (before ++ a ∷ []) pairs)) (Some before) ≡ Some these →
    (p : Pair) → In p (cond t (pair ∷ take_while (run_in shape (is_of_kind id attribute_record)) pairs) []) → fault_of (read_attribute p) ≡ None
read-step shape id before pair pairs these false r rest read e p h = absurd h
read-step shape id before pair pairs these true (Err why) rest read e p h = absurd (cc)
read-step shape id before pair pairs these true (Ok x) rest read e p (inl same) = ap (λ (q : Pair). fault_of (read_attribute q)) same ∙ ap fault_of read
read-step shape id before pair pairs these true (Ok x) rest read e p (inr h) = rest x e p h

run-read : {K : Type 0} (shape : Shape K) (id : ℕ) (before : List Attribute) (pairs : List Pair) (these : List Attribute) → run_attributes shape id before pairs ≡ Some these →
    (p : Pair) → In p (take_while (run_in shape (is_of_kind id attribute_record)) pairs) → fault_of (read_attribute p) ≡ None
run-read shape id before [] these e p h = absurd h
run-read shape id before (pair ∷ pairs) these e p h =
    let test = run_in shape (is_of_kind id attribute_record) in
    read-step shape id before pair pairs these (test pair) (read_attribute pair) (λ x. run-read shape id (before ++ x ∷ []) pairs these) refl e p (subst (In p) (take_while-cons test pair pairs) h)

-- the attributes of an id are all there, where a run of them was taken from their first rank on and no gap stands in it
pub attributes_there : {K N V : Type 0} {k : keys.Ghosts K} {n : namers.Ghosts N} (hashed : Bool) (image : List ℕ) (cursor : Cursor K N k n) (root id : ℕ) (left : List Pair) (sees : V → List Attribute) (run : Option V) → IsFsShape hashed k.shape →
    is_ordered k.shape (line_of (tree_of cursor image) root) ≡ true →
    left ≡ from_rank k.shape (record { id = id; kind = attribute_record; sub = 0 }) (flat_of (tree_of cursor image) root) →
    run_attributes k.shape id [] left ≡ option_map sees run →
    IfSome run (λ v. is_kind_whole (tree_of cursor image) root id attribute_record ≡ true) → IfSome run (λ v. (names : Names) → HasKindIn names (tree_of cursor image) root id attribute_record)
attributes_there hashed image cursor root id left sees None law ordered at e whole = tt
attributes_there {k = k} hashed image cursor root id left sees (Some v) law ordered at e whole = λ names.
    let tree = tree_of cursor image in
    let rank : Rank = record { id = id; kind = attribute_record; sub = 0 } in
    let test = run_in k.shape (is_of_kind id attribute_record) in
    record {
      whole = whole;
      read = kind_read hashed k.shape law id attribute_record names (flat_of tree root) (take_while test left) (cursor_keys image cursor root)
          (ap (take_while test) at ∙ run-flat tree root rank (is_of_kind id attribute_record) (run-kind id attribute_record) ordered)
          (λ pair h kind. refused_by names pair attribute_record kind ∙ run-read k.shape id [] left (sees v) e pair h);
    }

-- what is taken of a run goes on with no gap, or ends at none
pub goes_whole : {K N : Type 0} {k : keys.Ghosts K} {n : namers.Ghosts N} (image : List ℕ) (old new : Cursor K N k n) (id : ℕ) (pair : Pair) (more : Bool) (took : Took) → Moves image old new more → more ≡ true → pair ≡ passed_of new → IsOfRun k.shape id pair took → GoesWhole k.shape id (gapped_left_of old image) (gapped_left_of new image) took
goes_whole image old new id pair false took moved e same run = absurd (false≢true e)
goes_whole {k = k} image old new id pair true One moved e same run = moved-whole image old new (is_of_kind id attribute_record) moved (ap (run_in k.shape (is_of_kind id attribute_record)) (sym same) ∙ run)
goes_whole {k = k} image old new id pair true End moved e same run = moved-over image old new (is_of_kind id attribute_record) moved (ap (run_in k.shape (is_of_kind id attribute_record)) (sym same) ∙ run)
goes_whole image old new id pair true Refused moved e same run = tt

-- what holds of a run as it is seen holds of the run
pub if_seen : {V : Type 0} (sees : V → List Attribute) (run : Option V) (these : List Attribute) → IfSome (option_map sees run) (λ found. found ≡ these) → IfSome run (λ v. sees v ≡ these)
if_seen sees None these h = tt
if_seen sees (Some v) these h = h

pub none_seen : {V : Type 0} (sees : V → List Attribute) (run : Option V) → run ≡ None → option_map sees run ≡ None
none_seen sees run e = ap (option_map sees) e
