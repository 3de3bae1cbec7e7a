-- A tree whose list has no gap is walkable, so a walk over all of it has read each of its nodes once.
use Rattle.std.proofs.Common.{◌≡◌, ℕ, ◌+◌, Bool, true, false, cond, List, [], ◌∷◌, ◌++◌, length, Ok, Err, refl, ap, ◌∙◌, arith, ◌&&◌}
use Rattle.std.specs.List.{filter, list_all}
use Rattle.std.proofs.lemmas.Bool.{false≢true}
use Rattle.bt_node.specs.Entries.{Pair}
use Rattle.bt_cursor.specs.Tree.{Tree}
use Rattle.bt_cursor.specs.Line.{Item, is_leaf_item, line_of}
use Rattle.bt_cursor.specs.Gaps.{Gapped, all_flat, is_gapless}
use Rattle.bt_cursor.specs.Met.{places_in, places_of, has_node, nodes_of, is_walkable}

and-first : (a b : Bool) → (a && b) ≡ true → a ≡ true
and-first true b e = refl
and-first false b e = absurd (false≢true e)

and-second : (a b : Bool) → (a && b) ≡ true → b ≡ true
and-second true b e = e
and-second false b e = absurd (false≢true e)

flat-if : (b : Bool) (pair : Pair) (gapped : List (Gapped Pair)) → is_gapless (cond b (Ok pair ∷ []) [] ++ gapped) ≡ is_gapless gapped
flat-if true pair gapped = refl
flat-if false pair gapped = refl

-- a list has a gap where its flat list has one
pub gapless-flat : (gapped : List (Gapped Item)) → is_gapless (all_flat gapped) ≡ is_gapless gapped
gapless-flat [] = refl
gapless-flat (Ok item ∷ gapped) = flat-if (is_leaf_item item) item.pair (all_flat gapped) ∙ gapless-flat gapped
gapless-flat (Err why ∷ gapped) = refl

pub filter-all : {X : Type 0} (p : X → Bool) (xs : List X) → list_all p xs ≡ true → filter p xs ≡ xs
filter-all p [] all = refl
filter-all p (x ∷ xs) all = ap (λ (b : Bool). cond b (x ∷ filter p xs) (filter p xs)) (and-first (p x) (list_all p xs) all) ∙ ap (λ ys. x ∷ ys) (filter-all p xs (and-second (p x) (list_all p xs) all))

-- the nodes met in a walkable tree are the root and those to which the items of its Line lead
pub nodes-passed : {K : Type 0} (tree : Tree K) (root : ℕ) (passed : List Item) → is_walkable tree root ≡ true → line_of tree root ≡ passed → length (nodes_of tree root) ≡ length (places_in passed) + 1
nodes-passed tree root passed all line = omega (arith, ap length (filter-all (has_node tree) (places_of tree root) all), ap (λ xs. length (places_in xs)) line)
