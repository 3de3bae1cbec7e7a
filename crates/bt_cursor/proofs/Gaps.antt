-- What is left of a way with its gaps, a step at a time.
use Rattle.std.proofs.Common.{◌≡◌, ℕ, zero, suc, ◌+◌, ◌<◌, ◌≤◌, Bool, false, cond, List, [], ◌∷◌, ◌++◌, length, Ok, Err, ap, sym, ◌∙◌, append_assoc, append-nil, arith}
use Rattle.std.specs.List.{flat_map}
use Rattle.std.proofs.lemmas.Bool.Decides.{nat_tests}
use Rattle.obj_base.specs.Stops.{Tells}
use Rattle.obj_base.specs.declared.stop.Stop.{Stop}
use Rattle.obj_base.specs.declared.stop.Stop.TheVariants.{Found, Unsupported, ReadFault, NoMemory}
use Rattle.bt_node.specs.Node.{level_of, count_of}
use Rattle.bt_node.specs.Entries.{Pair, pair_of}
use Rattle.bt_cursor.specs.declared.fault.WalkFault.{WalkFault}
use Rattle.bt_cursor.specs.declared.way.Step.{Step}
use Rattle.bt_cursor.specs.declared.way.Way.{Way}
use Rattle.bt_cursor.specs.Tree.{Tree, root_place, child_in, child_place}
use Rattle.bt_cursor.specs.Line.{Item, item_at, entry_of, entries_of, is_leaf_item}
use Rattle.bt_cursor.specs.Met.{places_in}
use Rattle.bt_cursor.specs.Gaps.{Gapped, or_gap, gapped_part, gapped_of, all_met, all_flat, ComesTo, StopsAt}
use Rattle.bt_cursor.specs.Ahead.{gapped_from, gapped_rest, gapped_under, gapped_ahead, places_ahead}
use Rattle.bt_cursor.proofs.Pairs.{entries_cons, entries_end}

-- one more step below: what is left of it comes first
pub gapped_push : {K : Type 0} (tree : Tree K) (steps : List Step) (step : Step) → gapped_rest tree (steps ++ step ∷ []) ≡ gapped_from tree step.at.oid step.block.items step.next ++ gapped_rest tree steps
gapped_push tree [] step = sym (append-nil (gapped_from tree step.at.oid step.block.items step.next))
gapped_push tree (s ∷ steps) step = ap (λ xs. xs ++ gapped_from tree s.at.oid s.block.items s.next) (gapped_push tree steps step) ∙ append_assoc (gapped_from tree step.at.oid step.block.items step.next) (gapped_rest tree steps) (gapped_from tree s.at.oid s.block.items s.next)

-- nothing is left from the end on
pub gapped_end : {K : Type 0} (tree : Tree K) (oid : ℕ) (node : List ℕ) (i : ℕ) → count_of node ≤ i → gapped_from tree oid node i ≡ []
gapped_end tree oid node i past = ap (flat_map (gapped_part tree (level_of node) oid)) (entries_end tree.shape node i past)

-- the first of some entries apart
pub gapped-cons : {K : Type 0} (tree : Tree K) (oid : ℕ) (node : List ℕ) (i : ℕ) → i < count_of node → gapped_from tree oid node i ≡ gapped_part tree (level_of node) oid (entry_of tree.shape node i) ++ gapped_from tree oid node (i + 1)
gapped-cons tree oid node i low = ap (flat_map (gapped_part tree (level_of node) oid)) (entries_cons tree.shape node i low)

-- one level up, where nothing is left
pub gapped-up : {K : Type 0} (tree : Tree K) (above lower_above : List Step) (last lower : Step) → lower_above ≡ above ++ last ∷ [] → count_of lower.block.items ≤ lower.next →
    gapped_from tree last.at.oid last.block.items last.next ++ gapped_rest tree above ≡ gapped_from tree lower.at.oid lower.block.items lower.next ++ gapped_rest tree lower_above
gapped-up tree above lower_above last lower taken past =
    sym (ap (λ xs. xs ++ gapped_rest tree lower_above) (gapped_end tree lower.at.oid lower.block.items lower.next past) ∙ (ap (gapped_rest tree) taken ∙ gapped_push tree above last))

-- the next item apart, at level 0
pub gapped-leaf : {K : Type 0} (tree : Tree K) (oid : ℕ) (node : List ℕ) (i : ℕ) → i < count_of node → level_of node ≡ 0 → gapped_from tree oid node i ≡ Ok (item_at oid i (level_of node) (pair_of tree.shape node i)) ∷ gapped_from tree oid node (i + 1)
gapped-leaf tree oid node i low leaf =
    gapped-cons tree oid node i low
    ∙ (ap (λ l. gapped_part tree l oid (entry_of tree.shape node i) ++ gapped_from tree oid node (i + 1)) leaf
    ∙ ap (λ l. Ok (item_at oid i l (pair_of tree.shape node i)) ∷ gapped_from tree oid node (i + 1)) (sym leaf))

-- and above level 0
pub gapped-inner : {K : Type 0} (tree : Tree K) (oid : ℕ) (node : List ℕ) (i level : ℕ) → i < count_of node → level_of node ≡ suc level →
    gapped_from tree oid node i ≡ Ok (item_at oid i (level_of node) (pair_of tree.shape node i)) ∷ (gapped_under tree level (pair_of tree.shape node i) ++ gapped_from tree oid node (i + 1))
gapped-inner tree oid node i level low high =
    gapped-cons tree oid node i low
    ∙ (ap (λ l. gapped_part tree l oid (entry_of tree.shape node i) ++ gapped_from tree oid node (i + 1)) high
    ∙ ap (λ l. Ok (item_at oid i l (pair_of tree.shape node i)) ∷ (gapped_under tree level (pair_of tree.shape node i) ++ gapped_from tree oid node (i + 1))) (sym high))

-- the items of a child are those of its node
pub gapped_under-node : {K : Type 0} (tree : Tree K) (pair : Pair) (below : List ℕ) (level : ℕ) → tree.look (child_place level pair) ≡ Ok below → level_of below ≡ level → gapped_under tree level pair ≡ gapped_from tree (child_in pair) below 0
gapped_under-node tree pair below level named same =
    ap (λ o. or_gap o (λ node. flat_map (gapped_part tree level (child_in pair)) (entries_of tree.shape node))) named
    ∙ ap (λ l. flat_map (gapped_part tree l (child_in pair)) (entries_of tree.shape below)) (sym same)

-- one level down: an item is passed, and its child's items come next
pub gapped-down : {K : Type 0} (tree : Tree K) (above : List Step) (last moved lower : Step) (level i : ℕ) → i < count_of last.block.items → level_of last.block.items ≡ suc level → moved.block.items ≡ last.block.items → moved.at.oid ≡ last.at.oid → moved.next ≡ i + 1 →
    tree.look (child_place level (pair_of tree.shape last.block.items i)) ≡ Ok lower.block.items → level_of lower.block.items ≡ level → lower.at.oid ≡ child_in (pair_of tree.shape last.block.items i) → lower.next ≡ 0 →
    gapped_from tree last.at.oid last.block.items i ++ gapped_rest tree above ≡ Ok (item_at last.at.oid i (level_of last.block.items) (pair_of tree.shape last.block.items i)) ∷ (gapped_from tree lower.at.oid lower.block.items lower.next ++ gapped_rest tree (above ++ moved ∷ []))
gapped-down tree above last moved lower level i low high bytes here next named same below first =
    let node = last.block.items in
    let oid = last.at.oid in
    let item : Gapped Item = Ok (item_at oid i (level_of node) (pair_of tree.shape node i)) in
    let under = gapped_under tree level (pair_of tree.shape node i) in
    let others = gapped_rest tree above in
    ap (λ xs. xs ++ others) (gapped-inner tree oid node i level low high)
    ∙ (ap (λ xs. item ∷ xs) (append_assoc under (gapped_from tree oid node (i + 1)) others)
    ∙ (ap (λ xs. item ∷ (xs ++ (gapped_from tree oid node (i + 1) ++ others))) (gapped_under-node tree (pair_of tree.shape node i) lower.block.items level named same)
    ∙ (ap (λ o. item ∷ (gapped_from tree o lower.block.items 0 ++ (gapped_from tree oid node (i + 1) ++ others))) (sym below)
    ∙ (ap (λ j. item ∷ (gapped_from tree lower.at.oid lower.block.items 0 ++ (gapped_from tree oid node j ++ others))) (sym next)
    ∙ (ap (λ o. item ∷ (gapped_from tree lower.at.oid lower.block.items 0 ++ (gapped_from tree o node moved.next ++ others))) (sym here)
    ∙ (ap (λ b. item ∷ (gapped_from tree lower.at.oid lower.block.items 0 ++ (gapped_from tree moved.at.oid b moved.next ++ others))) (sym bytes)
    ∙ (ap (λ xs. item ∷ (gapped_from tree lower.at.oid lower.block.items 0 ++ xs)) (sym (gapped_push tree above moved))
    ∙ ap (λ j. item ∷ (gapped_from tree lower.at.oid lower.block.items j ++ gapped_rest tree (above ++ moved ∷ []))) (sym first))))))))

-- a child that isn't there is a gap after its item
pub gapped-stop : {K : Type 0} (tree : Tree K) (above : List Step) (oid : ℕ) (node : List ℕ) (level i : ℕ) (why : Stop WalkFault) → i < count_of node → level_of node ≡ suc level → tree.look (child_place level (pair_of tree.shape node i)) ≡ Err why →
    gapped_from tree oid node i ++ gapped_rest tree above ≡ Ok (item_at oid i (level_of node) (pair_of tree.shape node i)) ∷ (Err why ∷ (gapped_from tree oid node (i + 1) ++ gapped_rest tree above))
gapped-stop tree above oid node level i why low high named =
    let item : Gapped Item = Ok (item_at oid i (level_of node) (pair_of tree.shape node i)) in
    ap (λ xs. xs ++ gapped_rest tree above) (gapped-inner tree oid node i level low high)
    ∙ ap (λ o. item ∷ ((or_gap o (λ below. flat_map (gapped_part tree level (child_in (pair_of tree.shape node i))) (entries_of tree.shape below)) ++ gapped_from tree oid node (i + 1)) ++ gapped_rest tree above)) named

-- of an item above level 0 the flat list has nothing
pub flat-inner : (oid i level : ℕ) (pair : Pair) (items : List (Gapped Item)) → 0 < level → all_flat (Ok (item_at oid i level pair) ∷ items) ≡ all_flat items
flat-inner oid i level pair items upper =
    let inner : is_leaf_item (item_at oid i level pair) ≡ false = grind (arith, nat_tests) in
    ap (λ (b : Bool). cond b (Ok pair ∷ []) [] ++ all_flat items) inner

pub flat-leaf : (oid i level : ℕ) (pair : Pair) (items : List (Gapped Item)) → level ≡ 0 → all_flat (Ok (item_at oid i level pair) ∷ items) ≡ Ok pair ∷ all_flat items
flat-leaf oid i level pair items leaf = ap (λ l. all_flat (Ok (item_at oid i l pair) ∷ items)) leaf

-- an item above level 0 leads to one place
pub places-inner : (oid i level : ℕ) (pair : Pair) (items : List (Gapped Item)) → 0 < level → length (places_in (all_met (Ok (item_at oid i level pair) ∷ items))) ≡ length (places_in (all_met items)) + 1
places-inner oid i zero pair items upper = absurd (omega arith)
places-inner oid i (suc level) pair items upper = omega arith

pub places-leaf : (oid i level : ℕ) (pair : Pair) (items : List (Gapped Item)) → level ≡ 0 → length (places_in (all_met (Ok (item_at oid i level pair) ∷ items))) ≡ length (places_in (all_met items))
places-leaf oid i level pair items leaf = ap (λ l. length (places_in (all_met (Ok (item_at oid i l pair) ∷ items)))) leaf

-- an entry of level 0 is passed
pub flat-pass : {K : Type 0} (tree : Tree K) (above : List Step) (oid : ℕ) (node : List ℕ) (i j : ℕ) → i < count_of node → level_of node ≡ 0 → i ≡ j →
    all_flat (gapped_from tree oid node i ++ gapped_rest tree above) ≡ Ok (pair_of tree.shape node j) ∷ all_flat (gapped_from tree oid node (i + 1) ++ gapped_rest tree above)
flat-pass tree above oid node i j low leaf same =
    ap (λ xs. all_flat (xs ++ gapped_rest tree above)) (gapped-leaf tree oid node i low leaf)
    ∙ (flat-leaf oid i (level_of node) (pair_of tree.shape node i) (gapped_from tree oid node (i + 1) ++ gapped_rest tree above) leaf
    ∙ ap (λ k. Ok (pair_of tree.shape node k) ∷ all_flat (gapped_from tree oid node (i + 1) ++ gapped_rest tree above)) same)

pub places-pass : {K : Type 0} (tree : Tree K) (above : List Step) (oid : ℕ) (node : List ℕ) (i : ℕ) → i < count_of node → level_of node ≡ 0 →
    length (places_in (all_met (gapped_from tree oid node i ++ gapped_rest tree above))) ≡ length (places_in (all_met (gapped_from tree oid node (i + 1) ++ gapped_rest tree above)))
places-pass tree above oid node i low leaf =
    ap (λ xs. length (places_in (all_met (xs ++ gapped_rest tree above)))) (gapped-leaf tree oid node i low leaf)
    ∙ places-leaf oid i (level_of node) (pair_of tree.shape node i) (gapped_from tree oid node (i + 1) ++ gapped_rest tree above) leaf

pub places-same : {K : Type 0} (tree : Tree K) (old new : Way) → gapped_ahead tree new ≡ gapped_ahead tree old → places_ahead tree new ≡ places_ahead tree old
places-same tree old new same = ap (λ xs. length (places_in (all_met xs))) same

pub places-down : {K : Type 0} (tree : Tree K) (old new : Way) (oid i level : ℕ) (pair : Pair) → 0 < level → gapped_ahead tree old ≡ Ok (item_at oid i level pair) ∷ gapped_ahead tree new → places_ahead tree old ≡ places_ahead tree new + 1
places-down tree old new oid i level pair upper passed = ap (λ xs. length (places_in (all_met xs))) passed ∙ places-inner oid i level pair (gapped_ahead tree new) upper

-- a gap comes next in the flat list where the next item's child isn't there
gap-next : {K : Type 0} (tree : Tree K) (above : List Step) (oid : ℕ) (node : List ℕ) (level i : ℕ) (why : Stop WalkFault) → i < count_of node → level_of node ≡ suc level → tree.look (child_place level (pair_of tree.shape node i)) ≡ Err why →
    ComesTo (all_flat (gapped_from tree oid node i ++ gapped_rest tree above)) why
gap-next tree above oid node level i why low high named =
    let others = gapped_from tree oid node (i + 1) ++ gapped_rest tree above in
    record {
      after = all_flat others;
      gap = ap all_flat (gapped-stop tree above oid node level i why low high named) ∙ flat-inner oid i (level_of node) (pair_of tree.shape node i) (Err why ∷ others) (omega arith);
    }

pub stops-at : {K : Type 0} (tree : Tree K) (above : List Step) (oid : ℕ) (node : List ℕ) (level i : ℕ) (stop : Stop WalkFault) → i < count_of node → level_of node ≡ suc level →
    Tells (λ fault. tree.look (child_place level (pair_of tree.shape node i)) ≡ Err (Found fault)) (λ feature block. tree.look (child_place level (pair_of tree.shape node i)) ≡ Err (Unsupported feature block)) stop → StopsAt (all_flat (gapped_from tree oid node i ++ gapped_rest tree above)) stop
stops-at tree above oid node level i (Found fault) low high named = gap-next tree above oid node level i (Found fault) low high named
stops-at tree above oid node level i (Unsupported feature block) low high named = gap-next tree above oid node level i (Unsupported feature block) low high named
stops-at tree above oid node level i ReadFault low high named = tt
stops-at tree above oid node level i NoMemory low high named = tt

-- where there is no root the list is one gap
root-gap : {K : Type 0} (tree : Tree K) (root : ℕ) (why : Stop WalkFault) → tree.look (root_place root) ≡ Err why → ComesTo (all_flat (gapped_of tree root)) why
root-gap tree root why named = record {
  after = [];
  gap = ap (λ o. all_flat (or_gap o (λ node. flat_map (gapped_part tree (level_of node) root) (entries_of tree.shape node)))) named;
}

pub stops-root : {K : Type 0} (tree : Tree K) (root : ℕ) (stop : Stop WalkFault) → Tells (λ fault. tree.look (root_place root) ≡ Err (Found fault)) (λ feature block. tree.look (root_place root) ≡ Err (Unsupported feature block)) stop → StopsAt (all_flat (gapped_of tree root)) stop
stops-root tree root (Found fault) named = root-gap tree root (Found fault) named
stops-root tree root (Unsupported feature block) named = root-gap tree root (Unsupported feature block) named
stops-root tree root ReadFault named = tt
stops-root tree root NoMemory named = tt
