-- Entries that are met are in the flat list, and those of a run of ranks come one after another.
use Rattle.std.proofs.Common.{◌≡◌, ◌==◌, ◌&&◌, ℕ, Bool, true, false, cond, List, [], ◌∷◌, ◌++◌, map, Ok, refl, ap, sym, ◌∙◌, subst, arith, All, inl}
use Rattle.std.specs.List.{filter, take_while}
use Rattle.std.proofs.lemmas.Bool.{false≢true}
use Rattle.std.proofs.lemmas.Bool.Decides.{nat_tests}
use Rattle.std.proofs.lemmas.Grind.{flat_map-append}
use Rattle.std.proofs.lemmas.List.Elements.{All-head, All-tail, All-cons, All-weaker}
use Rattle.std.proofs.lemmas.List.Sums.{take_while-cons}
use Rattle.apfs_model.specs.Lists.{In}
use Rattle.bt_node.specs.Entries.{Pair}
use Rattle.bt_node.specs.Shape.{Shape}
use Rattle.bt_node.specs.declared.key.Rank.{Rank}
use Rattle.bt_node.specs.declared.key.TreeKey as keys
use Rattle.bt_cursor.specs.declared.cursor.Cursor.{Cursor}
use Rattle.bt_cursor.specs.declared.namer.Namer as namers
use Rattle.bt_cursor.specs.Tree.{Tree}
use Rattle.bt_cursor.specs.Flat.{flat_of}
use Rattle.bt_cursor.specs.Line.{Item, is_leaf_item, line_of}
use Rattle.bt_cursor.specs.WholeTree.{leaf_pairs}
use Rattle.bt_cursor.specs.Gaps.{Gapped, gapped_of, met_in, all_met, flat_in, all_flat, is_gapless, IsSuffix}
use Rattle.bt_cursor.specs.Order.{rank_of, is_ordered}
use Rattle.bt_cursor.specs.From.{is_below_rank, from_rank, IsRun, run_in, gapped_from_rank, run_or_gap, starts_whole, is_run_whole}
use Rattle.bt_cursor.specs.Search.{IsInOrder}
use Rattle.bt_cursor.specs.Cursors.{root_of, tree_of, ahead_of, gapped_left_of, left_of, passed_of, IsOn, Moves}
use Rattle.bt_cursor.proofs.Flats.{flat-gapped, line-pairs}
use Rattle.bt_cursor.proofs.Places.{in-right}
use Rattle.bt_cursor.proofs.Ranks.{rank-above, ordered-means, leaf-each}
use Rattle.bt_cursor.proofs.Seeks.{from-flat}
use Rattle.bt_cursor.proofs.Suffixes.{way-suffix}

-- what is left of a cursor's way is the end of its tree's Line with its gaps
pub left-suffix : {K N : Type 0} {k : keys.Ghosts K} {n : namers.Ghosts N} (image : List ℕ) (cursor : Cursor K N k n) → IsOn image cursor → IsSuffix (ahead_of cursor image) (gapped_of (tree_of cursor image) (root_of cursor))
left-suffix image cursor on = way-suffix (tree_of cursor image) cursor.root cursor.way.above.items cursor.way.last on

both-append : (xs ys : List (Gapped Item)) → all_met (all_flat (xs ++ ys)) ≡ all_met (all_flat xs) ++ all_met (all_flat ys)
both-append xs ys = ap all_met (flat_map-append flat_in xs ys) ∙ flat_map-append met_in (all_flat xs) (all_flat ys)

-- and of the flat list
pub flat-suffix : {K N : Type 0} {k : keys.Ghosts K} {n : namers.Ghosts N} (image : List ℕ) (cursor : Cursor K N k n) → IsOn image cursor → IsSuffix (left_of cursor image) (flat_of (tree_of cursor image) (root_of cursor))
flat-suffix image cursor on =
    let end = left-suffix image cursor on in
    record {
      before = all_met (all_flat end.before);
      split = sym (flat-gapped (tree_of cursor image) (root_of cursor)) ∙ (ap (λ xs. all_met (all_flat xs)) end.split ∙ both-append end.before (ahead_of cursor image));
    }

-- an entry onto which a cursor moves is in the flat list
pub passed-in : {K N : Type 0} {k : keys.Ghosts K} {n : namers.Ghosts N} (image : List ℕ) (old new : Cursor K N k n) → IsOn image old → Moves image old new true → In (passed_of new) (flat_of (tree_of old image) (root_of old))
passed-in image old new on moved =
    let end = flat-suffix image old on in
    let next : left_of old image ≡ passed_of new ∷ left_of new image = ap all_met moved in
    subst (In (passed_of new)) (sym (end.split ∙ ap (λ xs. end.before ++ xs) next)) (in-right (passed_of new) end.before (passed_of new ∷ left_of new image) (inl refl))

-- no entry ranks below one before it
PairsInOrder : {K : Type 0} → Shape K → List Pair → Type 0
PairsInOrder shape [] = Unit {0}
PairsInOrder shape (p ∷ ps) = All (λ (q : Pair). is_below_rank shape (rank_of shape p) q ≡ false) ps × PairsInOrder shape ps

order-if : {K : Type 0} (shape : Shape K) (b : Bool) (item : Item) (items : List Item) → All (λ (q : Pair). is_below_rank shape (rank_of shape item.pair) q ≡ false) (leaf_pairs items) → PairsInOrder shape (leaf_pairs items) → PairsInOrder shape (map (λ (i : Item). i.pair) (cond b (item ∷ filter is_leaf_item items) (filter is_leaf_item items)))
unfolding PairsInOrder
order-if shape true item items here others = (here, others)
order-if shape false item items here others = others

order-pairs : {K : Type 0} (shape : Shape K) (items : List Item) → IsInOrder shape items → PairsInOrder shape (leaf_pairs items)
unfolding PairsInOrder
order-pairs shape [] ordered = tt
order-pairs shape (item ∷ items) ordered =
    order-if shape (is_leaf_item item) item items (leaf-each (λ (q : Pair). is_below_rank shape (rank_of shape item.pair) q ≡ false) items ordered.0) (order-pairs shape items ordered.1)

none-pass : (test : Pair → Bool) (ps : List Pair) → All (λ p. test p ≡ false) ps → filter test ps ≡ []
none-pass test [] all = refl
none-pass test (p ∷ ps) all = ap (λ (b : Bool). cond b (p ∷ filter test ps) (filter test ps)) (All-head (λ q. test q ≡ false) p ps all) ∙ none-pass test ps (All-tail (λ q. test q ≡ false) p ps all)

run-end : (b : Bool) (p : Pair) (taken filtered : List Pair) → (b ≡ true → taken ≡ filtered) → (b ≡ false → filtered ≡ []) → cond b (p ∷ taken) [] ≡ cond b (p ∷ filtered) filtered
run-end true p taken filtered on off = ap (λ ps. p ∷ ps) (on refl)
run-end false p taken filtered on off = sym (off refl)

-- from a rank on those that meet a test come first
run-from : {K : Type 0} (shape : Shape K) (rank : Rank) (test : Rank → Bool) → IsRun rank test → (ps : List Pair) → PairsInOrder shape ps → All (λ (p : Pair). is_below_rank shape rank p ≡ false) ps → take_while (run_in shape test) ps ≡ filter (run_in shape test) ps
unfolding PairsInOrder
run-from shape rank test run [] ordered above = refl
run-from shape rank test run (p ∷ ps) ordered above =
    let passes = run_in shape test in
    let here = All-head (λ (q : Pair). is_below_rank shape rank q ≡ false) p ps above in
    let others = All-tail (λ (q : Pair). is_below_rank shape rank q ≡ false) p ps above in
    take_while-cons passes p ps
    ∙ run-end (passes p) p (take_while passes ps) (filter passes ps) (λ yes. run-from shape rank test run ps ordered.1 others)
    (λ no. none-pass passes ps (All-weaker (λ (q : Pair). is_below_rank shape (rank_of shape p) q ≡ false) (λ (q : Pair). passes q ≡ false) (λ q h. run.on (rank_of shape p) (rank_of shape q) here no h) ps ordered.0))

fails-if : (b c : Bool) → (b ≡ true → c ≡ false) → c ≡ true → b ≡ false
fails-if true c e low = absurd (false≢true (sym (e refl) ∙ low))
fails-if false c e low = refl

run-skip : (low pass : Bool) (p : Pair) (from ps filtered : List Pair) (f : List Pair → List Pair) → (low ≡ true → (pass ≡ false) × (f from ≡ filtered)) → (low ≡ false → f (p ∷ ps) ≡ cond pass (p ∷ filtered) filtered) → f (cond low from (p ∷ ps)) ≡ cond pass (p ∷ filtered) filtered
run-skip true pass p from ps filtered f skipped kept = (skipped refl).1 ∙ ap (λ (b : Bool). cond b (p ∷ filtered) filtered) (sym (skipped refl).0)
run-skip false pass p from ps filtered f skipped kept = kept refl

above-tail : {K : Type 0} (shape : Shape K) (rank : Rank) (p : Pair) (ps : List Pair) → is_below_rank shape rank p ≡ false → All (λ (q : Pair). is_below_rank shape (rank_of shape p) q ≡ false) ps → All (λ (q : Pair). is_below_rank shape rank q ≡ false) (p ∷ ps)
above-tail shape rank p ps here others =
    All-cons (λ (q : Pair). is_below_rank shape rank q ≡ false) p ps here
    (All-weaker (λ (q : Pair). is_below_rank shape (rank_of shape p) q ≡ false) (λ (q : Pair). is_below_rank shape rank q ≡ false) (λ q h. rank-above (rank_of shape q) (rank_of shape p) rank h here) ps others)

run-pairs : {K : Type 0} (shape : Shape K) (rank : Rank) (test : Rank → Bool) → IsRun rank test → (ps : List Pair) → PairsInOrder shape ps → take_while (run_in shape test) (from_rank shape rank ps) ≡ filter (run_in shape test) ps
unfolding PairsInOrder
run-pairs shape rank test run [] ordered = refl
run-pairs shape rank test run (p ∷ ps) ordered =
    let passes = run_in shape test in
    run-skip (is_below_rank shape rank p) (passes p) p (from_rank shape rank ps) ps (filter passes ps) (take_while passes)
    (λ low. (fails-if (passes p) (is_below_rank shape rank p) (run.from (rank_of shape p)) low, run-pairs shape rank test run ps ordered.1))
    (λ high. run-from shape rank test run (p ∷ ps) ordered (above-tail shape rank p ps high ordered.0))

-- on an ordered Line the entries from a rank on, while a test of a run from that rank holds, are those that meet it
pub run-flat : {K : Type 0} (tree : Tree K) (root : ℕ) (rank : Rank) (test : Rank → Bool) → IsRun rank test → is_ordered tree.shape (line_of tree root) ≡ true →
    take_while (run_in tree.shape test) (from_rank tree.shape rank (flat_of tree root)) ≡ filter (run_in tree.shape test) (flat_of tree root)
run-flat tree root rank test run ordered =
    let passes = run_in tree.shape test in
    let order = order-pairs tree.shape (line_of tree root) (ordered-means tree.shape (line_of tree root) ordered) in
    subst (λ ps. take_while passes (from_rank tree.shape rank ps) ≡ filter passes ps) (line-pairs tree root) (run-pairs tree.shape rank test run (leaf_pairs (line_of tree root)) order)

-- entries that meet a test, up to one that doesn't or the end, are those taken while it holds
pub run-taken : (test : Pair → Bool) (taken others : List Pair) → All (λ p. test p ≡ true) taken → ((p : Pair) (ps : List Pair) → others ≡ p ∷ ps → test p ≡ false) → take_while test (taken ++ others) ≡ taken
run-taken test [] [] all ends = refl
run-taken test [] (p ∷ ps) all ends = take_while-cons test p ps ∙ ap (λ (b : Bool). cond b (p ∷ take_while test ps) []) (ends p ps refl)
run-taken test (t ∷ ts) others all ends =
    take_while-cons test t (ts ++ others)
    ∙ (ap (λ (b : Bool). cond b (t ∷ take_while test (ts ++ others)) []) (All-head (λ p. test p ≡ true) t ts all)
    ∙ ap (λ ps. t ∷ ps) (run-taken test ts others (All-tail (λ p. test p ≡ true) t ts all) ends))

pub whole-over : {K : Type 0} (shape : Shape K) (test : Rank → Bool) (pair : Pair) (others : List (Gapped Pair)) → run_in shape test pair ≡ false → starts_whole shape test (Ok pair ∷ others) ≡ true
whole-over shape test pair others over =
    let first : Gapped Pair = Ok pair in
    ap is_gapless (take_while-cons (run_or_gap shape test) first others ∙ ap (λ (b : Bool). cond b (first ∷ take_while (run_or_gap shape test) others) []) over)

pub whole-on : {K : Type 0} (shape : Shape K) (test : Rank → Bool) (pair : Pair) (others : List (Gapped Pair)) → run_in shape test pair ≡ true → starts_whole shape test (Ok pair ∷ others) ≡ starts_whole shape test others
whole-on shape test pair others on =
    let first : Gapped Pair = Ok pair in
    ap is_gapless (take_while-cons (run_or_gap shape test) first others ∙ ap (λ (b : Bool). cond b (first ∷ take_while (run_or_gap shape test) others) []) on)

-- what is left of a cursor that moved on, and of one that stood at the end
pub moved-whole : {K N : Type 0} {k : keys.Ghosts K} {n : namers.Ghosts N} (image : List ℕ) (old new : Cursor K N k n) (test : Rank → Bool) → Moves image old new true → run_in k.shape test (passed_of new) ≡ true →
    starts_whole k.shape test (gapped_left_of old image) ≡ starts_whole k.shape test (gapped_left_of new image)
moved-whole {k = k} image old new test moved on = ap (starts_whole k.shape test) moved ∙ whole-on k.shape test (passed_of new) (gapped_left_of new image) on

pub moved-over : {K N : Type 0} {k : keys.Ghosts K} {n : namers.Ghosts N} (image : List ℕ) (old new : Cursor K N k n) (test : Rank → Bool) → Moves image old new true → run_in k.shape test (passed_of new) ≡ false → starts_whole k.shape test (gapped_left_of old image) ≡ true
moved-over {k = k} image old new test moved over = ap (starts_whole k.shape test) moved ∙ whole-over k.shape test (passed_of new) (gapped_left_of new image) over

-- from a rank on, on an ordered Line: what is left of the flat list, and that none is missing of a run where none is from there on
pub left-from : {K N : Type 0} {k : keys.Ghosts K} {n : namers.Ghosts N} (image : List ℕ) (old new : Cursor K N k n) (rank : Rank) → is_ordered k.shape (line_of (tree_of old image) (root_of old)) ≡ true →
    ahead_of new image ≡ gapped_from_rank k.shape rank (gapped_of (tree_of old image) (root_of old)) → left_of new image ≡ from_rank k.shape rank (flat_of (tree_of old image) (root_of old))
left-from image old new rank ordered left = ap (λ xs. all_met (all_flat xs)) left ∙ from-flat (tree_of old image) (root_of old) rank ordered

pub whole-from : {K N : Type 0} {k : keys.Ghosts K} {n : namers.Ghosts N} (image : List ℕ) (old new : Cursor K N k n) (rank : Rank) (test : Rank → Bool) → ahead_of new image ≡ gapped_from_rank k.shape rank (gapped_of (tree_of old image) (root_of old)) →
    starts_whole k.shape test (gapped_left_of new image) ≡ true → is_run_whole (tree_of old image) (root_of old) rank test ≡ true
whole-from {k = k} image old new rank test left whole = ap (λ xs. starts_whole k.shape test (all_flat xs)) (sym left) ∙ whole

pub run-kind : (id kind : ℕ) → IsRun (record { id = id; kind = kind; sub = 0 }) (λ r. (r.id == id) && (r.kind == kind))
run-kind id kind = record { from = λ r e. grind (arith, nat_tests); on = λ r s high no above. grind (arith, nat_tests) }
