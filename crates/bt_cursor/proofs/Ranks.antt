-- Lists in the order of their ranks, and where a rank stands among them.
use Rattle.std.proofs.Common.{◌≡◌, ℕ, Bool, true, false, cond, List, [], ◌∷◌, ◌++◌, map, Option, Some, None, refl, ap, ◌∙◌, subst, arith, All, ◌||◌, ◌&&◌}
use Rattle.std.specs.Prelude.{is_none}
use Rattle.std.specs.List.{filter}
use Rattle.std.proofs.lemmas.Bool.{false≢true}
use Rattle.std.proofs.lemmas.Bool.Decides.{nat_tests}
use Rattle.std.proofs.lemmas.List.Elements.{All-head, All-tail, All-cons, All-nil, All-weaker}
use Rattle.apfs_model.specs.Lists.{last, passes}
use Rattle.bt_node.specs.Entries.{Pair}
use Rattle.bt_node.specs.Rank.{is_below}
use Rattle.bt_node.specs.Shape.{Shape}
use Rattle.bt_node.specs.declared.key.Rank.{Rank}
use Rattle.bt_cursor.specs.Line.{Item, is_leaf_item}
use Rattle.bt_cursor.specs.WholeTree.{leaf_pairs}
use Rattle.bt_cursor.specs.Order.{rank_of, ranks_below, is_strict_leaf, ranks_same, is_misplaced, first_misplaced, is_ordered}
use Rattle.bt_cursor.specs.From.{is_below_rank, from_rank}
use Rattle.bt_cursor.specs.Search.{IsInOrder}
use Rattle.bt_cursor.proofs.Orders.{first-if, last-push}

-- x ≤ p < t
pub rank-below : (x p t : Rank) → is_below p x ≡ false → is_below p t ≡ true → is_below x t ≡ true
rank-below x p t low less = grind (arith, nat_tests)

-- t ≤ r ≤ y
pub rank-above : (y r t : Rank) → is_below y r ≡ false → is_below r t ≡ false → is_below y t ≡ false
rank-above y r t high not = grind (arith, nat_tests)

or-left : (a b : Bool) → (a || b) ≡ false → a ≡ false
or-left true b e = absurd (cc)
or-left false b e = refl

not-below : {K : Type 0} (shape : Shape K) (x y : Item) (before : Option Item) → passes before (ranks_below shape x) ≡ false → ranks_below shape y x ≡ false → passes before (ranks_below shape y) ≡ false
not-below shape x y None low high = refl
not-below shape x y (Some b) low high = rank-above (rank_of shape y.pair) (rank_of shape x.pair) (rank_of shape b.pair) high low

-- where no item is out of order by its neighbours, none ranks below any before it
order-means : {K : Type 0} (shape : Shape K) (before items : List Item) → first_misplaced shape before items ≡ None → IsInOrder shape items × All (λ (y : Item). passes (last before) (ranks_below shape y) ≡ false) items
order-means shape before [] e = (tt, All-nil (λ (y : Item). passes (last before) (ranks_below shape y) ≡ false))
order-means shape before (x ∷ xs) e =
    let P : Item → Type 0 = λ (y : Item). passes (last before) (ranks_below shape y) ≡ false in
    let Q : Item → Type 0 = λ (y : Item). ranks_below shape y x ≡ false in
    let both = first-if (is_misplaced shape before x) _ (first_misplaced shape (before ++ x ∷ []) xs) e in
    let others = order-means shape (before ++ x ∷ []) xs both.1 in
    let here : passes (last before) (ranks_below shape x) ≡ false = or-left (passes (last before) (ranks_below shape x)) (is_strict_leaf shape x && passes (last (filter is_leaf_item before)) (ranks_same shape x)) both.0 in
    let after : All Q xs = subst (λ o. All (λ (y : Item). passes o (ranks_below shape y) ≡ false) xs) (last-push before x) others.1 in
    ((after, others.0), All-cons P x xs here (All-weaker Q P (λ y high. not-below shape x y (last before) here high) xs after))

none-is : (o : Option ℕ) → is_none o ≡ true → o ≡ None
none-is None e = refl
none-is (Some n) e = absurd (false≢true e)

pub ordered-means : {K : Type 0} (shape : Shape K) (line : List Item) → is_ordered shape line ≡ true → IsInOrder shape line
ordered-means shape line e = (order-means shape [] line (none-is (first_misplaced shape [] line) e)).0

All-split : {X : Type 0} (P : X → Type 0) (xs ys : List X) → All P (xs ++ ys) → All P xs × All P ys
All-split P [] ys all = (All-nil P, all)
All-split P (x ∷ xs) ys all =
    let parts = All-split P xs ys (All-tail P x (xs ++ ys) all) in
    (All-cons P x xs (All-head P x (xs ++ ys) all) parts.0, parts.1)

pub order-right : {K : Type 0} (shape : Shape K) (xs ys : List Item) → IsInOrder shape (xs ++ ys) → IsInOrder shape ys
order-right shape [] ys ordered = ordered
order-right shape (x ∷ xs) ys ordered = order-right shape xs ys ordered.1

pub order-left : {K : Type 0} (shape : Shape K) (xs ys : List Item) → IsInOrder shape (xs ++ ys) → IsInOrder shape xs
order-left shape [] ys ordered = tt
order-left shape (x ∷ xs) ys ordered = ((All-split (λ (after : Item). ranks_below shape after x ≡ false) xs ys ordered.0).0, order-left shape xs ys ordered.1)

-- entries below the rank go
pub from_rank-below : {K : Type 0} (shape : Shape K) (rank : Rank) (xs ys : List Pair) → All (λ (x : Pair). is_below_rank shape rank x ≡ true) xs → from_rank shape rank (xs ++ ys) ≡ from_rank shape rank ys
from_rank-below shape rank [] ys below = refl
from_rank-below shape rank (x ∷ xs) ys below =
    ap (λ (b : Bool). cond b (from_rank shape rank (xs ++ ys)) (x ∷ (xs ++ ys))) (All-head (λ (z : Pair). is_below_rank shape rank z ≡ true) x xs below)
    ∙ from_rank-below shape rank xs ys (All-tail (λ (z : Pair). is_below_rank shape rank z ≡ true) x xs below)

-- entries that aren't below it stay
pub from_rank-all : {K : Type 0} (shape : Shape K) (rank : Rank) (ys : List Pair) → All (λ (y : Pair). is_below_rank shape rank y ≡ false) ys → from_rank shape rank ys ≡ ys
from_rank-all shape rank [] above = refl
from_rank-all shape rank (y ∷ ys) above =
    ap (λ (b : Bool). cond b (from_rank shape rank ys) (y ∷ ys)) (All-head (λ (z : Pair). is_below_rank shape rank z ≡ false) y ys above)

leaf-if : (b : Bool) (P : Pair → Type 0) (x : Item) (ys : List Item) → P x.pair → All P (map (λ (i : Item). i.pair) ys) → All P (map (λ (i : Item). i.pair) (cond b (x ∷ ys) ys))
leaf-if true P x ys here all = All-cons P x.pair (map (λ (i : Item). i.pair) ys) here all
leaf-if false P x ys here all = all

-- what holds of all items holds of the entries of leaves among them
pub leaf-each : (P : Pair → Type 0) (items : List Item) → All (λ (i : Item). P i.pair) items → All P (leaf_pairs items)
leaf-each P [] all = All-nil P
leaf-each P (x ∷ xs) all = leaf-if (is_leaf_item x) P x (filter is_leaf_item xs) (All-head (λ (i : Item). P i.pair) x xs all) (leaf-each P xs (All-tail (λ (i : Item). P i.pair) x xs all))
