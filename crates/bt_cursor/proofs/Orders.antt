-- The first item out of order, and what was seen before it.
use Rattle.std.proofs.Common.{◌≡◌, ◌==◌, ℕ, zero, suc, ◌+◌, Bool, true, false, cond, List, [], ◌∷◌, ◌++◌, length, map, Option, Some, None, refl, ap, sym, ◌∙◌, arith, append_assoc, append-nil, length-append, ◌&&◌, ◌||◌}
use Rattle.std.specs.Prelude.{option_map}
use Rattle.std.specs.List.{filter}
use Rattle.std.proofs.lemmas.Bool.Decides.{nat_tests}
use Rattle.std.proofs.lemmas.Grind.{flat_map-append}
use Rattle.std.proofs.lemmas.List.Elements.{filter-append}
use Rattle.apfs_model.specs.Lists.{last_or, last, passes}
use Rattle.bt_node.specs.Entries.{Pair}
use Rattle.bt_node.specs.Rank.{is_below, is_same_rank}
use Rattle.bt_node.specs.Shape.{Shape}
use Rattle.bt_node.specs.declared.key.Rank.{Rank}
use Rattle.bt_cursor.specs.Line.{Item, is_leaf_item}
use Rattle.bt_cursor.specs.WholeTree.{leaf_pairs}
use Rattle.bt_cursor.specs.Met.{places_under, places_in}
use Rattle.bt_cursor.specs.Order.{rank_of, is_strict_leaf, ranks_below, ranks_same, is_misplaced, first_misplaced}
use Rattle.bt_cursor.specs.Seen.{spend, comes_to, seen_start, seen_item, is_out, HasSeen}
use Rattle.bt_cursor.specs.declared.seen.Seen.{Seen}
use Rattle.bt_cursor.specs.declared.seen.Tally.{Tally}
use Rattle.bt_cursor.proofs.Lines.{leaf_pairs-append}

last_or-push : {X : Type 0} (d : X) (xs : List X) (x : X) → last_or d (xs ++ x ∷ []) ≡ x
last_or-push d [] x = refl
last_or-push d (y ∷ ys) x = last_or-push y ys x

pub last-push : {X : Type 0} (xs : List X) (x : X) → last (xs ++ x ∷ []) ≡ Some x
last-push [] x = refl
last-push (y ∷ ys) x = ap Some (last_or-push y ys x)

pub first-if : (b : Bool) (n : ℕ) (others : Option ℕ) → cond b (Some n) others ≡ None → (b ≡ false) × (others ≡ None)
first-if true n others e = absurd (cc)
first-if false n others e = (refl, e)

-- items in order are passed over
pub first-append : {K : Type 0} (shape : Shape K) (before xs ys : List Item) → first_misplaced shape before xs ≡ None → first_misplaced shape before (xs ++ ys) ≡ first_misplaced shape (before ++ xs) ys
first-append shape before [] ys e = ap (λ zs. first_misplaced shape zs ys) (sym (append-nil before))
first-append shape before (x ∷ xs) ys e =
    let both = first-if (is_misplaced shape before x) (length before) (first_misplaced shape (before ++ x ∷ []) xs) e in
    ap (λ (b : Bool). cond b (Some (length before)) (first_misplaced shape (before ++ x ∷ []) (xs ++ ys))) both.0
    ∙ (first-append shape (before ++ x ∷ []) xs ys both.1 ∙ ap (λ zs. first_misplaced shape zs ys) (append_assoc before (x ∷ []) xs))

pub first-push : {K : Type 0} (shape : Shape K) (passed : List Item) (item : Item) → first_misplaced shape [] passed ≡ None → is_misplaced shape passed item ≡ false → first_misplaced shape [] (passed ++ item ∷ []) ≡ None
first-push shape passed item e right = first-append shape [] passed (item ∷ []) e ∙ ap (λ (b : Bool). cond b (Some (length passed)) None) right

-- the next item is the first out of order
pub first-hit : {K : Type 0} (shape : Shape K) (passed : List Item) (item : Item) (items : List Item) → first_misplaced shape [] passed ≡ None → is_misplaced shape passed item ≡ true → first_misplaced shape [] (passed ++ (item ∷ items)) ≡ Some (length passed)
first-hit shape passed item items e wrong = first-append shape [] passed (item ∷ items) e ∙ ap (λ (b : Bool). cond b (Some (length passed)) (first_misplaced shape (passed ++ item ∷ []) items)) wrong

pub passes-map : {X Y : Type 0} (o : Option X) (f : X → Y) (g : Y → Bool) → passes (option_map f o) g ≡ passes o (λ x. g (f x))
passes-map None f g = refl
passes-map (Some x) f g = refl

-- what was seen tells whether an item is out of order
pub out-misplaced : {K : Type 0} (shape : Shape K) (keys nodes : ℕ) (passed : List Item) (seen : Seen) (item : Item) → HasSeen shape keys nodes passed seen → is_misplaced shape passed item ≡ is_out shape seen item
out-misplaced shape keys nodes passed seen item has =
    let f : Item → Rank = λ (other : Item). rank_of shape other.pair in
    let rank = rank_of shape item.pair in
    let below : passes (last passed) (ranks_below shape item) ≡ passes seen.before (is_below rank) = sym (ap (λ o. passes o (is_below rank)) has.before ∙ passes-map (last passed) f (is_below rank)) in
    let same : passes (last (filter is_leaf_item passed)) (ranks_same shape item) ≡ passes seen.leaf (is_same_rank rank) = sym (ap (λ o. passes o (is_same_rank rank)) has.leaf ∙ passes-map (last (filter is_leaf_item passed)) f (is_same_rank rank)) in
    ap (λ (b : Bool). b || (is_strict_leaf shape item && passes (last (filter is_leaf_item passed)) (ranks_same shape item))) below
    ∙ ap (λ (b : Bool). passes seen.before (is_below rank) || (is_strict_leaf shape item && b)) same

-- one of those to come came
spend-comes : (tally : Tally) (n : ℕ) → comes_to (spend tally) n ≡ comes_to tally (suc n)
spend-comes tally n = grind (arith, nat_tests)

pub leaf-if : (b : Bool) (f : Item → Rank) (xs : List Item) (item : Item) (leaf : Option Rank) → leaf ≡ option_map f (last xs) → cond b (Some (f item)) leaf ≡ option_map f (last (xs ++ cond b (item ∷ []) []))
leaf-if true f xs item leaf e = sym (ap (option_map f) (last-push xs item))
leaf-if false f xs item leaf e = e ∙ ap (λ ys. option_map f (last ys)) (sym (append-nil xs))

length-if : (b : Bool) (item : Item) → length (map (λ (i : Item). i.pair) (cond b (item ∷ []) [])) ≡ cond b 1 0
length-if true item = refl
length-if false item = refl

-- one more key, at level 0
pub leaves-more : (passed : List Item) (item : Item) → length (leaf_pairs (passed ++ item ∷ [])) ≡ length (leaf_pairs passed) + cond (item.level == 0) 1 0
leaves-more passed item =
    let one = length-if (item.level == 0) item in
    omega (arith, ap length (leaf_pairs-append passed (item ∷ [])), length-append (leaf_pairs passed) (leaf_pairs (item ∷ [])), one)

under-length : (level : ℕ) (pair : Pair) → length (places_under level pair) ≡ cond (level == 0) 0 1
under-length zero pair = refl
under-length (suc level) pair = let upper : (suc level == 0) ≡ false = grind (arith, nat_tests) in ap (λ (b : Bool). cond b 0 1) (sym upper)

-- one more place, above level 0
pub places-more : (passed : List Item) (item : Item) → length (places_in (passed ++ item ∷ [])) ≡ length (places_in passed) + cond (item.level == 0) 0 1
places-more passed item =
    let f : Item → List _ = λ (i : Item). places_under i.level i.pair in
    omega (arith, ap length (flat_map-append f passed (item ∷ [])), length-append (places_in passed) (places_in (item ∷ [])), ap length (append-nil (places_under item.level item.pair)), under-length item.level item.pair)

keys-if : (b : Bool) (tally : Tally) (keys l m : ℕ) → ((n : ℕ) → comes_to tally n ≡ (keys == l + n)) → m ≡ l + cond b 1 0 → (n : ℕ) → comes_to (cond b (spend tally) tally) n ≡ (keys == m + n)
keys-if true tally keys l m each more n = let e : l + suc n ≡ m + n = omega arith in spend-comes tally n ∙ (each (suc n) ∙ ap (λ k. keys == k) e)
keys-if false tally keys l m each more n = let e : l + n ≡ m + n = omega arith in each n ∙ ap (λ k. keys == k) e

nodes-if : (b : Bool) (tally : Tally) (nodes l m : ℕ) → ((n : ℕ) → comes_to tally n ≡ (nodes == l + 1 + n)) → m ≡ l + cond b 0 1 → (n : ℕ) → comes_to (cond b tally (spend tally)) n ≡ (nodes == m + 1 + n)
nodes-if true tally nodes l m each more n = let e : l + 1 + n ≡ m + 1 + n = omega arith in each n ∙ ap (λ k. nodes == k) e
nodes-if false tally nodes l m each more n = let e : l + 1 + suc n ≡ m + 1 + n = omega arith in spend-comes tally n ∙ (each (suc n) ∙ ap (λ k. nodes == k) e)

-- one more item was seen, in order
pub HasSeen-more : {K : Type 0} (shape : Shape K) (keys nodes : ℕ) (passed : List Item) (seen : Seen) (item : Item) → HasSeen shape keys nodes passed seen → is_out shape seen item ≡ false → HasSeen shape keys nodes (passed ++ item ∷ []) (seen_item shape seen item)
HasSeen-more shape keys nodes passed seen item has right =
    let f : Item → Rank = λ (other : Item). rank_of shape other.pair in
    record {
      ordered = first-push shape passed item has.ordered (out-misplaced shape keys nodes passed seen item has ∙ right);
      before = sym (ap (option_map f) (last-push passed item));
      leaf = leaf-if (item.level == 0) f (filter is_leaf_item passed) item seen.leaf has.leaf ∙ ap (λ ys. option_map f (last ys)) (sym (filter-append is_leaf_item passed (item ∷ [])));
      number = omega (arith, has.number, length-append passed (item ∷ []));
      keys_left = keys-if (item.level == 0) seen.keys keys (length (leaf_pairs passed)) (length (leaf_pairs (passed ++ item ∷ []))) has.keys_left (leaves-more passed item);
      nodes_left = nodes-if (item.level == 0) seen.nodes nodes (length (places_in passed)) (length (places_in (passed ++ item ∷ []))) has.nodes_left (places-more passed item);
    }

-- nothing was seen yet
pub HasSeen-start : {K : Type 0} (shape : Shape K) (keys nodes : ℕ) → HasSeen shape keys nodes [] (seen_start keys nodes)
HasSeen-start shape keys nodes = record {
  ordered = refl;
  before = refl;
  leaf = refl;
  number = omega arith;
  keys_left = λ n. let e : n ≡ 0 + n = omega arith in ap (λ k. keys == k) e;
  nodes_left = λ n. let e : suc n ≡ 0 + 1 + n = omega arith in spend-comes (record { left = nodes; over = false }) n ∙ ap (λ k. nodes == k) e;
}
