-- A walkable tree has no gap, so no record of it is missing.
use Rattle.std.proofs.Common.{◌≡◌, ℕ, zero, suc, Bool, true, false, cond, List, [], ◌∷◌, ◌++◌, Result, Ok, Err, refl, ap, ◌∙◌, subst, ◌&&◌}
use Rattle.std.specs.Prelude.{is_ok}
use Rattle.std.specs.List.{flat_map, list_all, list_any, take_while}
use Rattle.std.proofs.lemmas.Bool.{false≢true}
use Rattle.std.proofs.lemmas.Grind.{flat_map-append}
use Rattle.std.proofs.lemmas.List.Sums.{take_while-cons}
use Rattle.apfs_model.specs.Lists.{through, value_of}
use Rattle.apfs_model.proofs.BoolTests.{left-true, right-true, both-true}
use Rattle.obj_base.specs.declared.stop.Stop.{Stop}
use Rattle.bt_node.specs.Node.{level_of}
use Rattle.bt_node.specs.Entries.{Pair}
use Rattle.bt_node.specs.declared.node.NodeAt.{NodeAt}
use Rattle.bt_node.specs.declared.key.Rank.{Rank}
use Rattle.bt_cursor.specs.declared.fault.WalkFault.{WalkFault}
use Rattle.bt_cursor.specs.Tree.{Tree, root_place, child_in, child_place}
use Rattle.bt_cursor.specs.Line.{Item, entries_of, line_part}
use Rattle.bt_cursor.specs.Gaps.{Gapped, or_gap, gapped_part, gapped_of, all_flat, is_gapless}
use Rattle.bt_cursor.specs.Met.{places_under, places_in, has_node, is_walkable}
use Rattle.bt_cursor.specs.From.{is_low, after_last, run_or_gap, is_kind_whole, is_of_kind}
use Rattle.bt_cursor.proofs.Walkables.{gapless-flat}

all-join : {X : Type 0} (p : X → Bool) (xs ys : List X) → list_all p xs ≡ true → list_all p ys ≡ true → list_all p (xs ++ ys) ≡ true
all-join p [] ys left right = right
all-join p (x ∷ xs) ys left right = both-true (p x) (list_all p (xs ++ ys)) (left-true (p x) (list_all p xs) left) (all-join p xs ys (right-true (p x) (list_all p xs) left) right)

all-left : {X : Type 0} (p : X → Bool) (xs ys : List X) → list_all p (xs ++ ys) ≡ true → list_all p xs ≡ true
all-left p [] ys all = refl
all-left p (x ∷ xs) ys all = both-true (p x) (list_all p xs) (left-true (p x) (list_all p (xs ++ ys)) all) (all-left p xs ys (right-true (p x) (list_all p (xs ++ ys)) all))

all-right : {X : Type 0} (p : X → Bool) (xs ys : List X) → list_all p (xs ++ ys) ≡ true → list_all p ys ≡ true
all-right p [] ys all = all
all-right p (x ∷ xs) ys all = all-right p xs ys (right-true (p x) (list_all p (xs ++ ys)) all)

-- each place to which some items lead has a node
abbrev IsReached : {K : Type 0} → Tree K → List Item → Type 0
IsReached tree items = list_all (has_node tree) (places_in items) ≡ true

gapless-parts : {K X : Type 0} (tree : Tree K) (f : X → List (Gapped Item)) (g : X → List Item) → ((p : X) → IsReached tree (g p) → is_gapless (f p) ≡ true) → (ps : List X) → IsReached tree (flat_map g ps) → is_gapless (flat_map f ps) ≡ true
gapless-parts tree f g each [] all = refl
gapless-parts tree f g each (p ∷ ps) all =
    let places : Item → List NodeAt = λ (i : Item). places_under i.level i.pair in
    let both = subst (λ xs. list_all (has_node tree) xs ≡ true) (flat_map-append places (g p) (flat_map g ps)) all in
    all-join (λ x. is_ok x) (f p) (flat_map f ps) (each p (all-left (has_node tree) (places_in (g p)) (places_in (flat_map g ps)) both)) (gapless-parts tree f g each ps (all-right (has_node tree) (places_in (g p)) (places_in (flat_map g ps)) both))

gapless-node : {K : Type 0} (tree : Tree K) (o : Result (List ℕ) (Stop WalkFault)) (f : List ℕ → List (Gapped Item)) (g : List ℕ → List Item) → ((node : List ℕ) → IsReached tree (g node) → is_gapless (f node) ≡ true) → (is_ok o && list_all (has_node tree) (places_in (through (value_of o) g))) ≡ true → is_gapless (or_gap o f) ≡ true
gapless-node tree (Ok node) f g each all = each node all
gapless-node tree (Err why) f g each all = absurd (false≢true all)

gapless-part : {K : Type 0} (tree : Tree K) (level oid : ℕ) (entry : ℕ × Pair) → IsReached tree (line_part tree level oid entry) → is_gapless (gapped_part tree level oid entry) ≡ true
gapless-part tree zero oid entry all = refl
gapless-part tree (suc level) oid entry all =
    let below : ℕ = child_in entry.1 in
    gapless-node tree (tree.look (child_place level entry.1)) (λ node. flat_map (gapped_part tree level below) (entries_of tree.shape node)) (λ node. flat_map (line_part tree level below) (entries_of tree.shape node))
    (λ node. gapless-parts tree (gapped_part tree level below) (line_part tree level below) (gapless-part tree level below) (entries_of tree.shape node)) all

walkable-gapless : {K : Type 0} (tree : Tree K) (root : ℕ) → is_walkable tree root ≡ true → is_gapless (gapped_of tree root) ≡ true
walkable-gapless tree root all =
    gapless-node tree (tree.look (root_place root)) (λ node. flat_map (gapped_part tree (level_of node) root) (entries_of tree.shape node)) (λ node. flat_map (line_part tree (level_of node) root) (entries_of tree.shape node))
    (λ node. gapless-parts tree (gapped_part tree (level_of node) root) (line_part tree (level_of node) root) (gapless-part tree (level_of node) root) (entries_of tree.shape node)) all

after-all : {X : Type 0} (p test : X → Bool) (xs : List X) → list_all p xs ≡ true → list_all p (after_last test xs) ≡ true
after-all p test [] all = refl
after-all {X} p test (x ∷ xs) all =
    let go : (b : Bool) → list_all p (cond b (after_last test xs) (x ∷ xs)) ≡ true = λ b. elim b as (λ b. list_all p (cond b (after_last test xs) (x ∷ xs)) ≡ true) [
      | true ↦ after-all p test xs (right-true (p x) (list_all p xs) all)
      | false ↦ all
    ] in
    go (list_any test (x ∷ xs))

taken-all : {X : Type 0} (p test : X → Bool) (xs : List X) → list_all p xs ≡ true → list_all p (take_while test xs) ≡ true
taken-all p test [] all = refl
taken-all {X} p test (x ∷ xs) all =
    let go : (b : Bool) → list_all p (cond b (x ∷ take_while test xs) []) ≡ true = λ b. elim b as (λ b. list_all p (cond b (x ∷ take_while test xs) []) ≡ true) [
      | true ↦ both-true (p x) (list_all p (take_while test xs)) (left-true (p x) (list_all p xs) all) (taken-all p test xs (right-true (p x) (list_all p xs) all))
      | false ↦ refl
    ] in
    ap (list_all p) (take_while-cons test x xs) ∙ go (test x)

-- no record of any id and kind is missing in a walkable tree
pub kind_whole : {K : Type 0} (tree : Tree K) (root id kind : ℕ) → is_walkable tree root ≡ true → is_kind_whole tree root id kind ≡ true
kind_whole tree root id kind walkable =
    let rank : Rank = record { id = id; kind = kind; sub = 0 } in
    let from : List (Gapped Item) = after_last (is_low tree.shape rank) (gapped_of tree root) in
    taken-all (λ x. is_ok x) (run_or_gap tree.shape (is_of_kind id kind)) (all_flat from) (gapless-flat from ∙ after-all (λ x. is_ok x) (is_low tree.shape rank) (gapped_of tree root) (walkable-gapless tree root walkable))
