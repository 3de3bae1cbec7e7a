-- One item of a Line.
use Rattle.std.proofs.Common.{◌≡◌, ℕ, suc, ◌+◌, ◌-◌, ◌<◌, nat_lt, Bool, true, false, List, [], ◌∷◌, ◌++◌, Some, None, Option, Err, cond, refl, ap, sym, ◌∙◌, subst, append_assoc, arith, ◌&&◌, ◌||◌}
use Rattle.std.proofs.lemmas.Bool.Decides.{nat_tests}
use Rattle.apfs_model.specs.Lists.{passes}
use Rattle.bt_node.specs.Shape.{Shape}
use Rattle.bt_node.specs.Node.{level_of, count_of}
use Rattle.bt_node.specs.Entries.{Pair, pair_of}
use Rattle.obj_base.specs.Stops.{Tells}
use Rattle.obj_base.specs.declared.stop.Stop.{Stop}
use Rattle.obj_base.specs.declared.stop.Stop.TheVariants.{Found, Unsupported, ReadFault, NoMemory}
use Rattle.bt_node.specs.declared.node.NodeAt.{NodeAt}
use Rattle.bt_cursor.specs.declared.fault.WalkFault.{WalkFault}
use Rattle.bt_cursor.specs.declared.fault.WalkFault.TheVariants.{Unsound, Unnamed, Order, Counts}
use Rattle.bt_cursor.specs.Tree.{Tree}
use Rattle.bt_cursor.specs.Advance.{TellsGap, IsGapOf, IsBadNext}
use Rattle.bt_cursor.specs.Line.{Item, item_at, is_leaf_item}
use Rattle.bt_cursor.specs.Order.{rank_or_least, rank_of}
use Rattle.bt_cursor.specs.Ahead.{line_from, line_under, rest, ahead, ahead_at, ahead_if}
use Rattle.bt_cursor.specs.Seen.{falls_below, is_again, is_out, seen_more, seen_item, seen_key, seen_next}
use Rattle.bt_cursor.specs.declared.seen.Seen.{Seen}
use Rattle.bt_cursor.specs.declared.way.Step.{Step}
use Rattle.bt_cursor.specs.declared.way.Way.{Way}
use Rattle.bt_cursor.proofs.Lines.{line_from-leaf, line_from-inner}

seen-if : (b : Bool) (this new : Seen) → cond b None (Some this) ≡ Some new → (b ≡ false) × (new ≡ this)
seen-if true this new e = absurd (cc)
seen-if false this new e = (refl, cc)

none-if : (b : Bool) (this : Seen) → cond b None (Some this) ≡ None → b ≡ true
none-if true this e = refl
none-if false this e = absurd (cc)

-- the next item, and what is left after it
line-step : {K : Type 0} (tree : Tree K) (oid : ℕ) (node : List ℕ) (i : ℕ) (above : List Step) (deep : Bool) → i < count_of node → deep ≡ nat_lt 0 (level_of node) →
    line_from tree oid node i ++ rest tree above ≡ item_at oid (i + 1 - 1) (level_of node) (pair_of tree.shape node (i + 1 - 1)) ∷ ahead_at tree deep oid node (i + 1) above
line-step tree oid node i above true low upper =
    let high : level_of node ≡ suc (level_of node - 1) = grind (arith, nat_tests) in
    let back : i ≡ i + 1 - 1 = omega arith in
    let part : ℕ → List Item = λ k. line_under tree (level_of node - 1) (pair_of tree.shape node k) in
    ap (λ xs. xs ++ rest tree above) (line_from-inner tree oid node i (level_of node - 1) low high)
    ∙ (ap (λ xs. item_at oid i (level_of node) (pair_of tree.shape node i) ∷ xs) (append_assoc (part i) (line_from tree oid node (i + 1)) (rest tree above))
    ∙ ap (λ k. item_at oid k (level_of node) (pair_of tree.shape node k) ∷ (part k ++ (line_from tree oid node (i + 1) ++ rest tree above))) back)
line-step tree oid node i above false low upper =
    let leaf : level_of node ≡ 0 = grind (arith, nat_tests) in
    let back : i ≡ i + 1 - 1 = omega arith in
    ap (λ xs. xs ++ rest tree above) (line_from-leaf tree oid node i low leaf)
    ∙ ap (λ k. item_at oid k (level_of node) (pair_of tree.shape node k) ∷ (line_from tree oid node (i + 1) ++ rest tree above)) back

-- a walk that went down and up again, and what is left after its next item
pub line-passed : {K : Type 0} (tree : Tree K) (old mid way : Way) (deep now : Bool) → ahead tree mid ≡ ahead_if tree deep old → ahead tree way ≡ ahead tree mid → way.last.next < count_of way.last.block.items → now ≡ nat_lt 0 (level_of way.last.block.items) →
    ahead_if tree deep old ≡ item_at way.last.at.oid (way.last.next + 1 - 1) (level_of way.last.block.items) (pair_of tree.shape way.last.block.items (way.last.next + 1 - 1)) ∷ ahead_at tree now way.last.at.oid way.last.block.items (way.last.next + 1) way.above.items
line-passed tree old mid way deep now down up low upper = sym down ∙ (sym up ∙ line-step tree way.last.at.oid way.last.block.items way.last.next way.above.items now low upper)

pub none-left : {K : Type 0} (tree : Tree K) (old mid way : Way) (deep : Bool) → ahead tree mid ≡ ahead_if tree deep old → ahead tree way ≡ ahead tree mid → ahead tree way ≡ [] → ahead_if tree deep old ≡ []
none-left tree old mid way deep down up none = sym down ∙ (sym up ∙ none)

-- the item at an entry is the one passed last once it is passed
at-passed : (P : ℕ → Type 0) (i : ℕ) → P i → P (i + 1 - 1)
at-passed P i holds = let back : i ≡ i + 1 - 1 = omega arith in subst P back holds

pub seen-passed : {K : Type 0} (shape : Shape K) (seen new : Seen) (oid level : ℕ) (node : List ℕ) (i : ℕ) → (is_out shape seen (item_at oid i level (pair_of shape node i)) ≡ false) × (new ≡ seen_item shape seen (item_at oid i level (pair_of shape node i))) →
    (is_out shape seen (item_at oid (i + 1 - 1) level (pair_of shape node (i + 1 - 1))) ≡ false) × (new ≡ seen_item shape seen (item_at oid (i + 1 - 1) level (pair_of shape node (i + 1 - 1))))
seen-passed shape seen new oid level node i sees = at-passed (λ k. (is_out shape seen (item_at oid k level (pair_of shape node k)) ≡ false) × (new ≡ seen_item shape seen (item_at oid k level (pair_of shape node k)))) i sees

pub bad-next : {K : Type 0} (tree : Tree K) (old mid way : Way) (deep : Bool) (seen : Seen) → ahead tree mid ≡ ahead_if tree deep old → ahead tree way ≡ ahead tree mid → way.last.next < count_of way.last.block.items →
    is_out tree.shape seen (item_at way.last.at.oid way.last.next (level_of way.last.block.items) (pair_of tree.shape way.last.block.items way.last.next)) ≡ true → IsBadNext tree.shape seen (ahead_if tree deep old)
bad-next tree old mid way deep seen down up low out =
    let level = level_of way.last.block.items in
    subst (IsBadNext tree.shape seen) (sym (line-passed tree old mid way deep (nat_lt 0 level) down up low refl)) (at-passed (λ k. is_out tree.shape seen (item_at way.last.at.oid k level (pair_of tree.shape way.last.block.items k)) ≡ true) way.last.next out)

-- a key that was read stands for its bytes
next_read : {K : Type 0} (shape : Shape K) (seen : Seen) (oid i level high : ℕ) (pair : Pair) (key : K) → shape.read pair.key ≡ Some key → high ≡ level → seen_key shape seen high key ≡ seen_next shape seen (item_at oid i level pair)
next_read {K = K} shape seen oid i level high pair key read same =
    let f : Option K → Option Seen = λ o. cond (falls_below (rank_or_least shape o) seen.before || ((is_leaf_item (item_at oid i level pair) && passes o shape.strict) && is_again (rank_or_least shape o) seen.leaf)) None (Some (seen_more seen level (rank_or_least shape o))) in
    ap (λ n. seen_key shape seen n key) same ∙ ap f (sym read)

-- an item whose key was seen was in order, and one whose key wasn't was out of order
pub read-some : {K : Type 0} (shape : Shape K) (seen new : Seen) (oid i level high : ℕ) (pair : Pair) (key : K) → shape.read pair.key ≡ Some key → high ≡ level → seen_key shape seen high key ≡ Some new →
    (is_out shape seen (item_at oid i level pair) ≡ false) × (new ≡ seen_item shape seen (item_at oid i level pair))
read-some shape seen new oid i level high pair key read same e =
    let item = item_at oid i level pair in
    seen-if (is_out shape seen item) (seen_item shape seen item) new (sym (next_read shape seen oid i level high pair key read same) ∙ e)

pub read-none : {K : Type 0} (shape : Shape K) (seen : Seen) (oid i level high : ℕ) (pair : Pair) (key : K) → shape.read pair.key ≡ Some key → high ≡ level → seen_key shape seen high key ≡ None → is_out shape seen (item_at oid i level pair) ≡ true
read-none shape seen oid i level high pair key read same e =
    let item = item_at oid i level pair in
    none-if (is_out shape seen item) (seen_item shape seen item) (sym (next_read shape seen oid i level high pair key read same) ∙ e)

-- a key that was read has the rank of its bytes
pub rank_read : {K : Type 0} (shape : Shape K) (pair : Pair) (key : K) → shape.read pair.key ≡ Some key → shape.rank key ≡ rank_of shape pair
rank_read shape pair key read = ap (rank_or_least shape) (sym read)

-- a stop at a child that was still to come tells why it isn't there
pub gap-told : {K : Type 0} (tree : Tree K) (deep : Bool) (child : NodeAt) (stop : Stop WalkFault) → deep ≡ true → Tells (λ fault. tree.look child ≡ Err (Found fault)) (λ feature block. tree.look child ≡ Err (Unsupported feature block)) stop → TellsGap (IsGapOf tree deep child) stop
gap-told tree deep child (Found (Unsound block why)) now told = record { comes = now; gap = told }
gap-told tree deep child (Found (Unnamed oid)) now told = record { comes = now; gap = told }
gap-told tree deep child (Found (Order item)) now told = tt
gap-told tree deep child (Found Counts) now told = tt
gap-told tree deep child (Unsupported feature block) now told = record { comes = now; gap = told }
gap-told tree deep child ReadFault now told = tt
gap-told tree deep child NoMemory now told = tt
