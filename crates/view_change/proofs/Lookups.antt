-- Where a leaf is looked for among the next ones of a view.
use Rattle.std.proofs.Common.{◌≡◌, ◌∙◌, ℕ, suc, ◌+◌, ◌<◌, ◌≤◌, true, false, List, ◌∷◌, ◌++◌, length, take, drop, get_or, ap, sym, subst, arith, add-one, length-drop, drop-cons, drop-drop, take_all, take-append-drop, get_or-drop, min, ◌^◌, ◌-◌}
use Rattle.std.proofs.lemmas.Bool.{false≢true, or_from, false_from_ne_true}
use Rattle.std.proofs.lemmas.List.Folds.{list_any_more}
use Rattle.view_change.specs.declared.leaf.Leaf.{Leaf}
use Rattle.view_change.specs.Shared.{is_same_leaf, is_among, shared_leaves, StayInOrder, ComesNext}
use Rattle.view_change.proofs.Shares.{same-self, same-one, Stays, stays-next, IsNew, new-next}

-- another leaf is another one the other way round
pub not-same : (leaf other : Leaf) → is_same_leaf other leaf ≡ false → is_same_leaf leaf other ≡ false
not-same leaf other apart =
    false_from_ne_true (is_same_leaf leaf other) (λ one. false≢true (sym apart ∙ (ap (is_same_leaf other) (same-one leaf other one) ∙ same-self other)))

-- the leaf at a place is the next one that is this
pub found-here : (leaves : List Leaf) (leaf other : Leaf) (from ahead place : ℕ) → place ≡ min (from + ahead) (2 ^ 64 - 1) → place < length leaves → length leaves < 2 ^ 64 → get_or leaves place other ≡ other → is_same_leaf other leaf ≡ true
    → is_among (take ahead (drop from leaves)) leaf ≡ false → ComesNext leaf (drop from leaves) (drop (place + 1) leaves)
found-here leaves leaf other from ahead place at low few here one none =
    let sum : from + ahead ≡ place = omega arith in
    let this : get_or leaves place other ≡ leaf = here ∙ same-one other leaf one in
    record {
      passed = take ahead (drop from leaves);
      split = sym (take-append-drop ahead (drop from leaves))
          ∙ ap (λ (ls : List Leaf). take ahead (drop from leaves) ++ ls)
          (drop-drop ahead from leaves ∙ (ap (λ n. drop n leaves) sum ∙ (drop-cons leaves place other low ∙ ((λ i. this i ∷ drop (suc place) leaves) ∙ ap (λ n. leaf ∷ drop n leaves) (sym (add-one place))))));
      others = none;
    }

-- another leaf stands there
pub none-here : (leaves : List Leaf) (leaf other : Leaf) (from ahead place : ℕ) → place ≡ min (from + ahead) (2 ^ 64 - 1) → place < length leaves → length leaves < 2 ^ 64 → get_or leaves place other ≡ other → is_same_leaf other leaf ≡ false
    → is_among (take ahead (drop from leaves)) leaf ≡ false → is_among (take (ahead + 1) (drop from leaves)) leaf ≡ false
none-here leaves leaf other from ahead place at low few here apart none =
    let sum : from + ahead ≡ place = omega arith in
    let long : ahead < length (drop from leaves) = omega (arith, length-drop from leaves) in
    let this : get_or (drop from leaves) ahead other ≡ other = get_or-drop from leaves ahead other ∙ (ap (λ n. get_or leaves n other) sum ∙ here) in
    list_any_more (is_same_leaf leaf) (drop from leaves) ahead other long
    ∙ or_from (is_among (take ahead (drop from leaves)) leaf) (is_same_leaf leaf (get_or (drop from leaves) ahead other)) none (ap (is_same_leaf leaf) this ∙ not-same leaf other apart)

-- none stands there
pub none-left : (leaves : List Leaf) (leaf : Leaf) (from ahead place : ℕ) → place ≡ min (from + ahead) (2 ^ 64 - 1) → length leaves ≤ place → ahead ≤ 256 → is_among (take ahead (drop from leaves)) leaf ≡ false → is_among (take 256 (drop from leaves)) leaf ≡ false
none-left leaves leaf from ahead place at past low none =
    let long : length (drop from leaves) ≤ ahead = omega (arith, length-drop from leaves) in
    let wide : length (drop from leaves) ≤ 256 = omega arith in
    ap (λ (ls : List Leaf). is_among ls leaf) (take_all 256 (drop from leaves) wide ∙ sym (take_all ahead (drop from leaves) long)) ∙ none

-- so many leaves of a view are found in the one before, by those that are looked for there and those that are still to come
pub record Counts (before after : List Leaf) (from i found : ℕ) : Type 0 where
  pub few : found ≤ i
  pub order : StayInOrder before after → StayInOrder (drop from before) (drop i after)
  pub all : StayInOrder before after → length (shared_leaves before after) ≤ found + length (shared_leaves (drop from before) (drop i after))

next-of : (after : List Leaf) (i : ℕ) (d : Leaf) → i < length after → drop i after ≡ get_or after i d ∷ drop (i + 1) after
next-of after i d low = drop-cons after i d low ∙ ap (λ n. get_or after i d ∷ drop n after) (sym (add-one i))

-- one more is found
pub counts-one : (before after : List Leaf) (from i found place : ℕ) (d : Leaf) → i < length after → ComesNext (get_or after i d) (drop from before) (drop (place + 1) before) → Counts before after from i found → Counts before after (place + 1) (i + 1) (found + 1)
counts-one before after from i found place d low next had =
    let leaf = get_or after i d in
    let split = next-of after i d low in
    let stays : StayInOrder before after → Stays leaf (drop (i + 1) after) (drop from before) (drop (place + 1) before) =
    λ is. stays-next leaf (drop (i + 1) after) (drop from before) (drop (place + 1) before) next (subst (StayInOrder (drop from before)) split (had.order is)) in
    record {
      few = omega (arith, had.few);
      order = λ is. (stays is).further;
      all = λ is. let same = ap (λ (ls : List Leaf). length (shared_leaves (drop from before) ls)) split ∙ ap (λ (ls : List Leaf). length ls) (stays is).shared in omega (arith, had.all is, same);
    }

-- one isn't
pub counts-other : (before after : List Leaf) (from i found : ℕ) (d : Leaf) → i < length after → is_among (take 256 (drop from before)) (get_or after i d) ≡ false → Counts before after from i found → Counts before after from (i + 1) found
counts-other before after from i found d low far had =
    let leaf = get_or after i d in
    let split = next-of after i d low in
    let new : StayInOrder before after → IsNew leaf (drop (i + 1) after) (drop from before) =
    λ is. new-next leaf (drop (i + 1) after) (drop from before) far (subst (StayInOrder (drop from before)) split (had.order is)) in
    record {
      few = omega (arith, had.few);
      order = λ is. (new is).further;
      all = λ is. let same = ap (λ (ls : List Leaf). length (shared_leaves (drop from before) ls)) split ∙ ap (λ (ls : List Leaf). length ls) (new is).shared in omega (arith, had.all is, same);
    }
