-- On an ordered Line a place of a rank is where the items from that rank on start.
use Rattle.std.proofs.Common.{◌≡◌, ℕ, Bool, true, false, cond, not, ◌||◌, List, [], ◌∷◌, ◌++◌, Some, Ok, Err, refl, ap, sym, ◌∙◌, subst, arith, All}
use Rattle.std.specs.List.{list_any}
use Rattle.std.proofs.lemmas.Bool.{false≢true}
use Rattle.std.proofs.lemmas.Bool.Decides.{nat_tests}
use Rattle.std.proofs.lemmas.Grind.{flat_map-append}
use Rattle.std.proofs.lemmas.List.Elements.{All-head, All-tail, All-cons, All-nil, All-weaker}
use Rattle.apfs_model.specs.Lists.{last_or, last}
use Rattle.bt_node.specs.Entries.{Pair}
use Rattle.bt_node.specs.Rank.{is_below}
use Rattle.bt_node.specs.Shape.{Shape}
use Rattle.bt_node.specs.declared.key.Rank.{Rank}
use Rattle.bt_cursor.specs.Tree.{Tree}
use Rattle.bt_cursor.specs.Flat.{flat_of}
use Rattle.bt_cursor.specs.Line.{Item, line_of}
use Rattle.bt_cursor.specs.WholeTree.{leaf_pairs}
use Rattle.bt_cursor.specs.Gaps.{Gapped, gapped_of, met_in, all_met, all_flat}
use Rattle.bt_cursor.specs.Order.{rank_of, ranks_below, is_ordered}
use Rattle.bt_cursor.specs.From.{is_below_rank, from_rank, after_last, is_low, is_high, gapped_from_rank}
use Rattle.bt_cursor.specs.Search.{IsPlaceOf, IsInOrder}
use Rattle.bt_cursor.proofs.Lines.{leaf_pairs-append}
use Rattle.bt_cursor.proofs.Flats.{flat-met, line-pairs, gapped-line}
use Rattle.bt_cursor.proofs.Suffixes.{last-after}
use Rattle.bt_cursor.proofs.Ranks.{rank-below, rank-above, ordered-means, order-left, order-right, from_rank-below, from_rank-all, leaf-each}

last-holds : (P : Item → Type 0) (item : Item) (items : List Item) (other : Item) → All P (item ∷ items) → last (item ∷ items) ≡ Some other → P other
last-holds P item [] other all e = let same : item ≡ other = cc in subst P same (All-head P item [] all)
last-holds P item (next ∷ items) other all e = last-holds P next items other (All-tail P item (next ∷ items) all) e

not-itself : (x : Rank) → is_below x x ≡ false
not-itself x = grind (arith, nat_tests)

-- the last of some items in order doesn't rank below any of them
order-last : {K : Type 0} (shape : Shape K) (items : List Item) (other : Item) → IsInOrder shape items → last items ≡ Some other → All (λ (x : Item). ranks_below shape other x ≡ false) items
order-last shape [] other ordered e = All-nil (λ (x : Item). ranks_below shape other x ≡ false)
order-last shape (item ∷ []) other ordered e =
    let same : item ≡ other = cc in
    All-cons (λ (x : Item). ranks_below shape other x ≡ false) item [] (subst (λ (o : Item). ranks_below shape o item ≡ false) same (not-itself (rank_of shape item.pair))) (All-nil (λ (x : Item). ranks_below shape other x ≡ false))
order-last shape (item ∷ (next ∷ items)) other ordered e =
    All-cons (λ (x : Item). ranks_below shape other x ≡ false) item (next ∷ items)
    (last-holds (λ (after : Item). ranks_below shape after item ≡ false) next items other ordered.0 e)
    (order-last shape (next ∷ items) other ordered.1 e)

below-all : {K : Type 0} (shape : Shape K) (rank : Rank) (items : List Item) → IsInOrder shape items → ((item : Item) → last items ≡ Some item → is_below_rank shape rank item.pair ≡ true) → All (λ (x : Item). is_below_rank shape rank x.pair ≡ true) items
below-all shape rank [] ordered ends = All-nil (λ (x : Item). is_below_rank shape rank x.pair ≡ true)
below-all shape rank (item ∷ items) ordered ends =
    let other = last_or item items in
    let low = ends other refl in
    All-weaker (λ (x : Item). ranks_below shape other x ≡ false) (λ (x : Item). is_below_rank shape rank x.pair ≡ true)
    (λ x h. rank-below (rank_of shape x.pair) (rank_of shape other.pair) rank h low) (item ∷ items) (order-last shape (item ∷ items) other ordered refl)

above-all : {K : Type 0} (shape : Shape K) (rank : Rank) (items : List Item) → IsInOrder shape items → ((item : Item) (others : List Item) → items ≡ item ∷ others → is_below_rank shape rank item.pair ≡ false) → All (λ (x : Item). is_below_rank shape rank x.pair ≡ false) items
above-all shape rank [] ordered starts = All-nil (λ (x : Item). is_below_rank shape rank x.pair ≡ false)
above-all shape rank (item ∷ items) ordered starts =
    let high = starts item items refl in
    All-cons (λ (x : Item). is_below_rank shape rank x.pair ≡ false) item items high
    (All-weaker (λ (x : Item). ranks_below shape x item ≡ false) (λ (x : Item). is_below_rank shape rank x.pair ≡ false)
    (λ x h. rank-above (rank_of shape x.pair) (rank_of shape item.pair) rank h high) items ordered.0)

-- ---- what comes after the last item that passes a test
or-true : (a b : Bool) → b ≡ true → (a || b) ≡ true
or-true true b e = refl
or-true false b e = e

or-first : (a b : Bool) → (a || b) ≡ false → a ≡ false
or-first true b e = absurd (false≢true (sym e))
or-first false b e = refl

or-second : (a b : Bool) → (a || b) ≡ false → b ≡ false
or-second true b e = absurd (false≢true (sym e))
or-second false b e = e

or-left-true : (a b : Bool) → (a || b) ≡ true → b ≡ false → a ≡ true
or-left-true true b e other = refl
or-left-true false b e other = absurd (false≢true (sym other ∙ e))

none-after : {X : Type 0} (test : X → Bool) (xs : List X) → list_any test xs ≡ false → after_last test xs ≡ xs
none-after test [] none = refl
none-after test (x ∷ xs) none = ap (λ (b : Bool). cond b (after_last test xs) (x ∷ xs)) none

any-last : {X : Type 0} (test : X → Bool) (x : X) (xs ys : List X) → test (last_or x xs) ≡ true → list_any test ((x ∷ xs) ++ ys) ≡ true
any-last test x [] ys e = ap (λ (b : Bool). b || list_any test ys) e
any-last test x (z ∷ zs) ys e = or-true (test x) (list_any test ((z ∷ zs) ++ ys)) (any-last test z zs ys e)

after-last : {X : Type 0} (test : X → Bool) (xs ys : List X) → ((x : X) → last xs ≡ Some x → test x ≡ true) → list_any test ys ≡ false → after_last test (xs ++ ys) ≡ ys
after-last test [] ys ends none = none-after test ys none
after-last test (x ∷ []) ys ends none = ap (λ (b : Bool). cond b (after_last test ys) (x ∷ ys)) (any-last test x [] ys (ends x refl)) ∙ none-after test ys none
after-last test (x ∷ (z ∷ zs)) ys ends none =
    ap (λ (b : Bool). cond b (after_last test ((z ∷ zs) ++ ys)) (x ∷ ((z ∷ zs) ++ ys))) (any-last test x (z ∷ zs) ys (ends (last_or z zs) refl)) ∙ after-last test (z ∷ zs) ys ends none

-- a list split there
record IsSplit {X : Type 0} (test : X → Bool) (xs after : List X) : Type 0 where
  before : List X
  split : xs ≡ before ++ after
  ends : (x : X) → last before ≡ Some x → test x ≡ true
  none : list_any test after ≡ false

ends-more : {X : Type 0} (test : X → Bool) (x : X) (xs before after : List X) → xs ≡ before ++ after → list_any test (x ∷ xs) ≡ true → list_any test after ≡ false → ((y : X) → last before ≡ Some y → test y ≡ true) → (y : X) → last (x ∷ before) ≡ Some y → test y ≡ true
ends-more test x xs [] after split some none ends y e =
    let here : x ≡ y = cc in
    subst (λ z. test z ≡ true) here (or-left-true (test x) (list_any test xs) some (ap (list_any test) split ∙ none))
ends-more test x xs (z ∷ zs) after split some none ends y e = ends y e

split-if : {X : Type 0} (test : X → Bool) (x : X) (xs : List X) (b : Bool) → list_any test (x ∷ xs) ≡ b → IsSplit test xs (after_last test xs) → IsSplit test (x ∷ xs) (cond b (after_last test xs) (x ∷ xs))
split-if test x xs false any rest = record { before = []; split = refl; ends = λ y e. absurd (cc); none = any }
split-if test x xs true any rest = record {
  before = x ∷ rest.before;
  split = ap (λ ys. x ∷ ys) rest.split;
  ends = ends-more test x xs rest.before (after_last test xs) rest.split any rest.none rest.ends;
  none = rest.none;
}

split-last : {X : Type 0} (test : X → Bool) (xs : List X) → IsSplit test xs (after_last test xs)
split-last test [] = record { before = []; split = refl; ends = λ y e. absurd (cc); none = refl }
split-last test (x ∷ xs) = split-if test x xs (list_any test (x ∷ xs)) refl (split-last test xs)

-- ---- of a Line with its gaps
met-append : (xs ys : List (Gapped Item)) → all_met (xs ++ ys) ≡ all_met xs ++ all_met ys
met-append xs ys = flat_map-append met_in xs ys

-- all of some items and gaps but the last
front : {X : Type 0} → X → List X → List X
front x [] = []
front x (y ∷ ys) = x ∷ front y ys

front-last : {X : Type 0} (x : X) (xs : List X) → x ∷ xs ≡ front x xs ++ last_or x xs ∷ []
unfolding front
front-last x [] = refl
front-last x (y ∷ ys) = ap (λ zs. x ∷ zs) (front-last y ys)

ends-at : {K : Type 0} (shape : Shape K) (rank : Rank) (xs others : List (Gapped Item)) (x : Gapped Item) → xs ≡ others ++ x ∷ [] → is_low shape rank x ≡ true → (item : Item) → last (all_met xs) ≡ Some item → is_below_rank shape rank item.pair ≡ true
ends-at shape rank xs others (Ok i) split low item e =
    let same : Some i ≡ Some item = sym (ap (λ ys. last (all_met ys)) split ∙ (ap last (met-append others (Ok i ∷ [])) ∙ last-after (all_met others) i [])) ∙ e in
    let here : i ≡ item = cc in
    subst (λ (j : Item). is_below_rank shape rank j.pair ≡ true) here low
ends-at shape rank xs others (Err why) split low item e = absurd (false≢true low)

-- where a list ends with an item that ranks below, so do its items
ends-met : {K : Type 0} (shape : Shape K) (rank : Rank) (xs : List (Gapped Item)) → ((x : Gapped Item) → last xs ≡ Some x → is_low shape rank x ≡ true) → (item : Item) → last (all_met xs) ≡ Some item → is_below_rank shape rank item.pair ≡ true
ends-met shape rank [] ends item e = absurd (cc)
ends-met shape rank (x ∷ xs) ends item e = ends-at shape rank (x ∷ xs) (front x xs) (last_or x xs) (front-last x xs) (ends (last_or x xs) refl) item e

abbrev NotBelow : {K : Type 0} → Shape K → Rank → Item → Type 0
NotBelow shape rank item = is_below_rank shape rank item.pair ≡ false

-- no item ranks below, as a test and as a fact
none-low : {K : Type 0} (shape : Shape K) (rank : Rank) (xs : List (Gapped Item)) → All (NotBelow shape rank) (all_met xs) → list_any (is_low shape rank) xs ≡ false
none-low shape rank [] above = refl
none-low shape rank (Ok item ∷ xs) above =
    ap (λ (b : Bool). b || list_any (is_low shape rank) xs) (All-head (NotBelow shape rank) item (all_met xs) above) ∙ none-low shape rank xs (All-tail (NotBelow shape rank) item (all_met xs) above)
none-low shape rank (Err why ∷ xs) above = none-low shape rank xs above

low-none : {K : Type 0} (shape : Shape K) (rank : Rank) (xs : List (Gapped Item)) → list_any (is_low shape rank) xs ≡ false → All (NotBelow shape rank) (all_met xs)
low-none shape rank [] none = All-nil (NotBelow shape rank)
low-none shape rank (Ok item ∷ xs) none =
    All-cons (NotBelow shape rank) item (all_met xs) (or-first (is_below_rank shape rank item.pair) (list_any (is_low shape rank) xs) none)
    (low-none shape rank xs (or-second (is_below_rank shape rank item.pair) (list_any (is_low shape rank) xs) none))
low-none shape rank (Err why ∷ xs) none = low-none shape rank xs none

not-false : (b : Bool) → not b ≡ true → b ≡ false
not-false true e = absurd (false≢true e)
not-false false e = refl

-- items in order of which the first doesn't rank below
starts-met : {K : Type 0} (shape : Shape K) (rank : Rank) (xs : List (Gapped Item)) → IsInOrder shape (all_met xs) → ((x : Gapped Item) (ys : List (Gapped Item)) → xs ≡ x ∷ ys → is_high shape rank x ≡ true) → All (NotBelow shape rank) (all_met xs)
starts-met shape rank [] ordered starts = All-nil (NotBelow shape rank)
starts-met shape rank (Ok item ∷ xs) ordered starts =
    above-all shape rank (item ∷ all_met xs) ordered (λ other others e.
    let here : item ≡ other = cc in
    subst (λ (j : Item). is_below_rank shape rank j.pair ≡ false) here (not-false (is_below_rank shape rank item.pair) (starts (Ok item) xs refl)))
starts-met shape rank (Err why ∷ xs) ordered starts = absurd (false≢true (starts (Err why) xs refl))

-- the items of an ordered Line with its gaps are in order
order-met : {K : Type 0} (tree : Tree K) (root : ℕ) (before after : List (Gapped Item)) → is_ordered tree.shape (line_of tree root) ≡ true → gapped_of tree root ≡ before ++ after → IsInOrder tree.shape (all_met before ++ all_met after)
order-met tree root before after ordered split =
    subst (IsInOrder tree.shape) (sym (gapped-line tree root) ∙ (ap all_met split ∙ met-append before after)) (ordered-means tree.shape (line_of tree root) ordered)

-- on an ordered Line what is left from a place of a rank on is the Line with its gaps from that rank on
pub place-from : {K : Type 0} (tree : Tree K) (root : ℕ) (rank : Rank) (left : List (Gapped Item)) → is_ordered tree.shape (line_of tree root) ≡ true → IsPlaceOf tree.shape rank (gapped_of tree root) left → left ≡ gapped_from_rank tree.shape rank (gapped_of tree root)
place-from tree root rank left ordered place =
    let order = order-right tree.shape (all_met place.before) (all_met left) (order-met tree root place.before left ordered place.split) in
    sym (ap (after_last (is_low tree.shape rank)) place.split
    ∙ after-last (is_low tree.shape rank) place.before left place.sides.low (none-low tree.shape rank left (starts-met tree.shape rank left order place.sides.high)))

-- on an ordered Line the entries of the flat list from a rank on are those of the Line with its gaps from that rank on
pub from-flat : {K : Type 0} (tree : Tree K) (root : ℕ) (rank : Rank) → is_ordered tree.shape (line_of tree root) ≡ true → all_met (all_flat (gapped_from_rank tree.shape rank (gapped_of tree root))) ≡ from_rank tree.shape rank (flat_of tree root)
from-flat tree root rank ordered =
    let shape = tree.shape in
    let after = gapped_from_rank shape rank (gapped_of tree root) in
    let cut = split-last (is_low shape rank) (gapped_of tree root) in
    let before = cut.before in
    let order = order-met tree root before after ordered cut.split in
    let below = leaf-each (λ (p : Pair). is_below_rank shape rank p ≡ true) (all_met before) (below-all shape rank (all_met before) (order-left shape (all_met before) (all_met after) order) (ends-met shape rank before cut.ends)) in
    let above = leaf-each (λ (p : Pair). is_below_rank shape rank p ≡ false) (all_met after) (low-none shape rank after cut.none) in
    let parts : flat_of tree root ≡ leaf_pairs (all_met before) ++ leaf_pairs (all_met after) =
    sym (line-pairs tree root) ∙ (ap leaf_pairs (sym (gapped-line tree root) ∙ (ap all_met cut.split ∙ met-append before after)) ∙ leaf_pairs-append (all_met before) (all_met after)) in
    flat-met after
    ∙ sym (ap (from_rank shape rank) parts
    ∙ (from_rank-below shape rank (leaf_pairs (all_met before)) (leaf_pairs (all_met after)) below
    ∙ from_rank-all shape rank (leaf_pairs (all_met after)) above))
