-- Extents that aren't in order are of a tree whose records aren't, and what some extents of a stream fail all of them fail.
use Rattle.std.proofs.Common.{◌≡◌, ℕ, ◌<◌, Bool, true, false, cond, not, List, [], ◌∷◌, ◌++◌, map, All, inl, inr, refl, ap, sym, ◌∙◌, subst, arith}
use Rattle.std.specs.List.{filter, list_all, list_any}
use Rattle.std.proofs.lemmas.Bool.{false≢true}
use Rattle.std.proofs.lemmas.Bool.Decides.{nat_tests}
use Rattle.std.proofs.lemmas.Grind.{common_steps}
use Rattle.std.proofs.lemmas.List.{map-append}
use Rattle.std.proofs.lemmas.List.Folds.{list_all-append}
use Rattle.std.proofs.lemmas.List.Elements.{All-head, All-tail, All-map}
use Rattle.apfs_model.specs.Lists.{In}
use Rattle.apfs_model.proofs.BoolTests.{clash, left-true, right-true, both-true, not-true, false-not}
use Rattle.obj_base.specs.Stops.{Tells}
use Rattle.obj_base.specs.declared.stop.Stop.{Stop}
use Rattle.obj_base.specs.declared.stop.Stop.TheVariants.{Found, Unsupported, ReadFault, NoMemory}
use Rattle.obj_base.specs.declared.site.Site.{Site}
use Rattle.bt_node.specs.Shape.{Shape}
use Rattle.bt_node.specs.Entries.{Pair}
use Rattle.bt_node.specs.Rank.{is_below}
use Rattle.bt_node.specs.declared.key.Rank.{Rank}
use Rattle.bt_cursor.specs.Tree.{Tree}
use Rattle.bt_cursor.specs.Flat.{flat_of}
use Rattle.bt_cursor.specs.Gaps.{Gapped, all_met}
use Rattle.bt_cursor.specs.Line.{Item, is_leaf_item, line_of}
use Rattle.bt_cursor.specs.WholeTree.{leaf_pairs}
use Rattle.bt_cursor.specs.Order.{rank_of, is_ordered}
use Rattle.bt_cursor.specs.Search.{IsInOrder}
use Rattle.bt_cursor.specs.Faults.{HasFeature}
use Rattle.bt_cursor.specs.Gathered.{IsGatherFault}
use Rattle.bt_cursor.specs.declared.gathering.GatherFault.{GatherFault}
use Rattle.bt_cursor.specs.declared.gathering.GatherFault.TheVariants.{Tree as TreeFault, Refused}
use Rattle.bt_cursor.proofs.Ranks.{ordered-means, leaf-each}
use Rattle.bt_cursor.proofs.Flats.{line-pairs}
use Rattle.fs_record.specs.StreamExtents.{overlap, is_extent_even, is_extent_placed, are_apart, are_extents_ordered}
use Rattle.fs_record.specs.declared.extents.FileExt.{FileExt}
use Rattle.file_extent.specs.Streams.{are_extents_placed}
use Rattle.file_extent.specs.declared.stop.StreamStop.TheVariants.{Walk, Extent, Order, Outside}
use Rattle.file_extent.specs.Collected.{extent_rank, IsCollected, IsCollectStop, IsAddStop, IsMisordered, gather_raised}
use Rattle.file_extent.proofs.Collecting.{collected-within}

-- ---- no rank is below one before it
RanksRise : List Rank → Type 0
RanksRise [] = Unit {0}
RanksRise (r ∷ rs) = All (λ (s : Rank). is_below s r ≡ false) rs × RanksRise rs

rise-if : {K : Type 0} (shape : Shape K) (b : Bool) (item : Item) (items : List Item) → All (λ (q : Pair). is_below (rank_of shape q) (rank_of shape item.pair) ≡ false) (leaf_pairs items) → RanksRise (map (rank_of shape) (leaf_pairs items)) →
    RanksRise (map (rank_of shape) (map (λ (i : Item). i.pair) (cond b (item ∷ filter is_leaf_item items) (filter is_leaf_item items))))
unfolding RanksRise
rise-if shape true item items here others = (All-map (λ (s : Rank). is_below s (rank_of shape item.pair) ≡ false) (rank_of shape) (leaf_pairs items) here, others)
rise-if shape false item items here others = others

rise-line : {K : Type 0} (shape : Shape K) (items : List Item) → IsInOrder shape items → RanksRise (map (rank_of shape) (leaf_pairs items))
unfolding RanksRise
rise-line shape [] ordered = tt
rise-line shape (item ∷ items) ordered =
    rise-if shape (is_leaf_item item) item items (leaf-each (λ (q : Pair). is_below (rank_of shape q) (rank_of shape item.pair) ≡ false) items ordered.0) (rise-line shape items ordered.1)

rise-right : (rs ss : List Rank) → RanksRise (rs ++ ss) → RanksRise ss
unfolding RanksRise
rise-right [] ss rise = rise
rise-right (r ∷ rs) ss rise = rise-right rs ss rise.1

-- the rank of the last of some extents isn't below that of one before it
last-all : (P : Rank → Type 0) (f : FileExt → Rank) (es : List FileExt) (e : FileExt) (after : List Rank) → All P (map f (es ++ e ∷ []) ++ after) → P (f e)
last-all P f [] e after all = All-head P (f e) after all
last-all P f (x ∷ es) e after all = last-all P f es e after (All-tail P (f x) (map f (es ++ e ∷ []) ++ after) all)

rise-last : (f : FileExt → Rank) (es : List FileExt) (x e : FileExt) (after : List Rank) → RanksRise (map f (es ++ e ∷ []) ++ after) → In x es → is_below (f e) (f x) ≡ false
unfolding RanksRise
rise-last f [] x e after rise one = absurd one
rise-last f (y ∷ es) x e after rise (inl same) = subst (λ (z : FileExt). is_below (f e) (f z) ≡ false) (sym same) (last-all (λ (s : Rank). is_below s (f y) ≡ false) f es e after rise.0)
rise-last f (y ∷ es) x e after rise (inr one) = rise-last f es x e after rise.1 one

-- extents of a tree in order are in order
pub misordered : {K : Type 0} (tree : Tree K) (root id : ℕ) (left : List (Gapped Pair)) (es : List FileExt) (e : FileExt) → IsCollected tree root id left (es ++ e ∷ []) → IsMisordered es e → is_ordered tree.shape (line_of tree root) ≡ true → ⊥
misordered tree root id left es e c wrong ordered =
    let rank = rank_of tree.shape in
    let all : RanksRise (map rank (flat_of tree root)) =
    subst (λ (ps : List Pair). RanksRise (map rank ps)) (line-pairs tree root) (rise-line tree.shape (line_of tree root) (ordered-means tree.shape (line_of tree root) ordered)) in
    let split : map rank (flat_of tree root) ≡ map rank c.before ++ (map (extent_rank id) (es ++ e ∷ []) ++ map rank (all_met left)) =
    ap (map rank) c.split
    ∙ map-append rank c.before (c.taken ++ all_met left)
    ∙ ap (λ (l : List Rank). map rank c.before ++ l) (map-append rank c.taken (all_met left) ∙ ap (λ (l : List Rank). l ++ map rank (all_met left)) c.ranks) in
    let these = rise-right (map rank c.before) (map (extent_rank id) (es ++ e ∷ []) ++ map rank (all_met left)) (subst RanksRise split all) in
    let above : is_below (extent_rank id e) (extent_rank id wrong.other) ≡ false = rise-last (extent_rank id) es wrong.other e (map rank (all_met left)) these wrong.one in
    let later : e.logical < wrong.other.logical = wrong.later in
    let below : is_below (extent_rank id e) (extent_rank id wrong.other) ≡ true = grind (arith, nat_tests, later) in
    clash (is_below (extent_rank id e) (extent_rank id wrong.other)) below above

-- ---- all of a stream fail what some fail
any-front : (test : FileExt → Bool) (xs ys : List FileExt) → list_any test (xs ++ ys) ≡ false → list_any test xs ≡ false
any-front test [] ys none = refl
any-front test (x ∷ xs) ys none =
    let rest : list_any test (xs ++ ys) ≡ false = grind (arith, nat_tests, common_steps, none) in
    let more = any-front test xs ys rest in
    grind (arith, nat_tests, common_steps, none, more)

apart-front : (xs ys : List FileExt) → are_apart (xs ++ ys) ≡ true → are_apart xs ≡ true
apart-front [] ys apart = refl
apart-front (x ∷ xs) ys apart =
    both-true (not (list_any (overlap x) xs)) (are_apart xs)
    (false-not (list_any (overlap x) xs) (any-front (overlap x) xs ys (not-true (list_any (overlap x) (xs ++ ys)) (left-true (not (list_any (overlap x) (xs ++ ys))) (are_apart (xs ++ ys)) apart))))
    (apart-front xs ys (right-true (not (list_any (overlap x) (xs ++ ys))) (are_apart (xs ++ ys)) apart))

apart-back : (xs ys : List FileExt) → are_apart (xs ++ ys) ≡ true → are_apart ys ≡ true
apart-back [] ys apart = apart
apart-back (x ∷ xs) ys apart = apart-back xs ys (right-true (not (list_any (overlap x) (xs ++ ys))) (are_apart (xs ++ ys)) apart)

all-part : (test : FileExt → Bool) (xs es ys : List FileExt) → list_all test (xs ++ (es ++ ys)) ≡ true → list_all test es ≡ true
all-part test xs es ys all =
    let rest = right-true (list_all test xs) (list_all test (es ++ ys)) (sym (list_all-append test xs (es ++ ys)) ∙ all) in
    left-true (list_all test es) (list_all test ys) (sym (list_all-append test es ys) ∙ rest)

pub ordered-part : (block_size : ℕ) (xs es ys : List FileExt) → are_extents_ordered block_size (xs ++ (es ++ ys)) ≡ true → are_extents_ordered block_size es ≡ true
unfolding are_extents_ordered
ordered-part block_size xs es ys ordered =
    let even = left-true (list_all (is_extent_even block_size) (xs ++ (es ++ ys))) (are_apart (xs ++ (es ++ ys))) ordered in
    let apart = right-true (list_all (is_extent_even block_size) (xs ++ (es ++ ys))) (are_apart (xs ++ (es ++ ys))) ordered in
    both-true (list_all (is_extent_even block_size) es) (are_apart es) (all-part (is_extent_even block_size) xs es ys even) (apart-front es ys (apart-back xs (es ++ ys) apart))

pub placed-part : (site : Site) (xs es ys : List FileExt) → are_extents_placed site (xs ++ (es ++ ys)) ≡ true → are_extents_placed site es ≡ true
unfolding are_extents_placed
placed-part site xs es ys placed = all-part (is_extent_placed site.block_size site.blocks) xs es ys placed

fails-whole : (whole part : Bool) → (whole ≡ true → part ≡ true) → part ≡ false → whole ≡ false
fails-whole true part leads fails = clash part (leads refl) fails
fails-whole false part leads fails = refl

-- why an extent can't be laid after those before it is there
pub add_tells : {K : Type 0} (site : Site) (tree : Tree K) (root id : ℕ) (left : List (Gapped Pair)) (es : List FileExt) (stop : Stop _) → IsCollected tree root id left es → IsAddStop site es stop → Tells (IsCollectStop site tree root id) (HasFeature tree root) stop
add_tells site tree root id left es (Found (Walk top why)) c h = absurd h
add_tells site tree root id left es (Found (Extent why)) c h = absurd h
add_tells site tree root id left es (Found Order) c h =
    let w = collected-within tree root id left es c in
    ap (are_extents_ordered site.block_size) w.2 ∙ fails-whole (are_extents_ordered site.block_size (w.0 ++ (es ++ w.1))) (are_extents_ordered site.block_size es) (ordered-part site.block_size w.0 es w.1) h
add_tells site tree root id left es (Found Outside) c h =
    let w = collected-within tree root id left es c in
    ap (are_extents_placed site) w.2 ∙ fails-whole (are_extents_placed site (w.0 ++ (es ++ w.1))) (are_extents_placed site es) (placed-part site w.0 es w.1) h
add_tells site tree root id left es (Unsupported feature block) c h = absurd h
add_tells site tree root id left es ReadFault c h = tt
add_tells site tree root id left es NoMemory c h = tt

-- why a tree isn't whole is there
pub gather_tells : {K : Type 0} (site : Site) (tree : Tree K) (root id : ℕ) (stop : Stop GatherFault) → Tells (IsGatherFault tree root (λ _. false)) (HasFeature tree root) stop → Tells (IsCollectStop site tree root id) (HasFeature tree root) (gather_raised root stop)
gather_tells site tree root id (Found (TreeFault why)) h = (refl, h)
gather_tells site tree root id (Found (Refused item)) h = absurd (false≢true h.refused)
gather_tells site tree root id (Unsupported feature block) h = h
gather_tells site tree root id ReadFault h = tt
gather_tells site tree root id NoMemory h = tt
