-- What a liner has passed.
use Rattle.std.proofs.Common.{◌≡◌, ℕ, ◌<◌, nat_lt, Bool, true, false, IsTrue, IsSome, List, [], ◌∷◌, ◌++◌, Err, refl, ap, sym, ◌∙◌, subst}
use Rattle.obj_base.specs.Stops.{Tells}
use Rattle.obj_base.specs.declared.stop.Stop.{Stop}
use Rattle.obj_base.specs.declared.stop.Stop.TheVariants.{Found, Unsupported, ReadFault, NoMemory}
use Rattle.bt_node.specs.declared.key.TreeKey as keys
use Rattle.bt_node.specs.declared.node.NodeAt.{NodeAt}
use Rattle.bt_cursor.specs.declared.fault.WalkFault.{WalkFault}
use Rattle.bt_cursor.specs.declared.fault.WalkFault.TheVariants.{Unsound, Unnamed, Order, Counts}
use Rattle.bt_cursor.specs.declared.liner.Liner.{Liner}
use Rattle.bt_cursor.specs.declared.namer.Namer as namers
use Rattle.bt_cursor.specs.declared.seen.Seen.{Seen}
use Rattle.bt_cursor.specs.Tree.{Tree, root_place}
use Rattle.bt_cursor.specs.Line.{Item}
use Rattle.bt_cursor.specs.Faults.{IsNodeFault, IsWalkFault, HasFeature}
use Rattle.bt_cursor.specs.WholeTree.{IsOfNodes}
use Rattle.bt_cursor.specs.Stack.{IsIn}
use Rattle.bt_cursor.specs.Ahead.{passed_child, passed_pair}
use Rattle.bt_cursor.specs.Seen.{is_out, seen_item}
use Rattle.bt_cursor.specs.Advance.{Entered, Advances, StopsFor, TellsGap, IsGapOf, IsNextGap, IsNextFault, HasGone}
use Rattle.bt_cursor.specs.Liners.{root_of, tree_of, left_of, item_of, HasItemIf, Sees, HasPassed, Passes}
use Rattle.bt_cursor.proofs.Gone.{gone-more, gone-first, gone-order, gone-gap, gone-end, gone-line, gone-counts}

-- a step that went on, or ended
pub passes-on : {K N : Type 0} {k : keys.Ghosts K} {n : namers.Ghosts N} (image : List ℕ) (passed : List Item) (old new : Liner K N k n) (more : Bool) → tree_of new ≡ tree_of old → root_of new ≡ root_of old → HasPassed image passed old →
    Advances k.shape old.seen new.seen (left_of old image) (left_of new image) (item_of new) more → Entered (tree_of old image) old.deep (passed_child k.shape old.way) → IsIn (tree_of old image) (root_of old) new.way.above.items new.way.last →
    (IsTrue more → (0 < new.way.last.next) × (new.deep ≡ nat_lt 0 (item_of new).level)) → Passes image passed old new more
passes-on {k = k} image passed old new true tree root has moved entered within stands =
    let same : tree_of new image ≡ tree_of old image = ap (λ f. f image) tree in
    let more = gone-more (tree_of old image) (root_of old) passed (left_of old image) (left_of new image) (item_of new) old.seen new.seen old.deep new.deep (passed_child k.shape old.way) has.gone moved.0 moved.1.0 moved.1.1 entered (stands refl).1 in
    record {
      within = subst (λ r. IsIn (tree_of new image) r new.way.above.items new.way.last) (sym root) (subst (λ t. IsIn t (root_of old) new.way.above.items new.way.last) (sym same) within);
      gone = subst (λ r. HasGone (tree_of new image) r (passed ++ item_of new ∷ []) (left_of new image) new.seen new.deep (passed_child k.shape new.way)) (sym root)
          (subst (λ t. HasGone t (root_of old) (passed ++ item_of new ∷ []) (left_of new image) new.seen new.deep (passed_child k.shape new.way)) (sym same) more);
    }
passes-on {k = k} image passed old new false tree root has moved entered within stands =
    gone-end (tree_of old image) (root_of old) passed (left_of old image) old.seen old.deep (passed_child k.shape old.way) has.gone moved.0 moved.1 entered

pub has-item : {K N : Type 0} {k : keys.Ghosts K} {n : namers.Ghosts N} (liner : Liner K N k n) (more : Bool) → (IsTrue more → (0 < liner.way.last.next) × (liner.deep ≡ nat_lt 0 (item_of liner).level)) →
    (IsTrue more → IsSome liner.key × (k.shape.read (passed_pair k.shape liner.way).key ≡ liner.key)) → HasItemIf liner more
has-item liner true stands key = (record { some = (stands refl).0; kept = (key refl).0; read = (key refl).1 }, (stands refl).1)
has-item liner false stands key = tt

pub sees-one : {K N : Type 0} {k : keys.Ghosts K} {n : namers.Ghosts N} (old new : Liner K N k n) (more : Bool) → (IsTrue more → (is_out k.shape old.seen (item_of new) ≡ false) × (new.seen ≡ seen_item k.shape old.seen (item_of new))) → Sees old new more
sees-one old new true sees = sees refl
sees-one old new false sees = tt

-- a step that stopped at a node
pub stops-node : {K : Type 0} (tree : Tree K) (root : ℕ) (deep : Bool) (child : NodeAt) (seen : Seen) (left : List Item) (stop : Stop WalkFault) → Tells (IsNodeFault tree root) (HasFeature tree root) stop → Tells (StopsFor tree root deep child seen left) (HasFeature tree root) stop
stops-node tree root deep child seen left (Found (Unsound block why)) told = told
stops-node tree root deep child seen left (Found (Unnamed oid)) told = told
stops-node tree root deep child seen left (Found (Order item)) told = absurd told
stops-node tree root deep child seen left (Found Counts) told = absurd told
stops-node tree root deep child seen left (Unsupported feature block) told = told
stops-node tree root deep child seen left ReadFault told = tt
stops-node tree root deep child seen left NoMemory told = tt

-- a step that stopped
pub stops-for : {K : Type 0} (tree : Tree K) (root : ℕ) (passed left : List Item) (seen : Seen) (deep : Bool) (child : NodeAt) (stop : Stop WalkFault) → HasGone tree root passed left seen deep child →
    Tells (StopsFor tree root deep child seen left) (HasFeature tree root) stop → Tells (IsWalkFault tree root) (HasFeature tree root) stop
stops-for tree root passed left seen deep child (Found (Unsound block why)) gone told = told
stops-for tree root passed left seen deep child (Found (Unnamed oid)) gone told = told
stops-for tree root passed left seen deep child (Found (Order item)) gone told = gone-order tree root passed left seen deep child item gone told.0 told.1
stops-for tree root passed left seen deep child (Found Counts) gone told = gone-counts tree root passed left seen deep child gone told.none told.wrong told.entered
stops-for tree root passed left seen deep child (Unsupported feature block) gone told = told
stops-for tree root passed left seen deep child ReadFault gone told = tt
stops-for tree root passed left seen deep child NoMemory gone told = tt

-- what it names comes next
pub stops-first : {K : Type 0} (tree : Tree K) (root : ℕ) (passed left : List Item) (seen : Seen) (deep : Bool) (child : NodeAt) (stop : Stop WalkFault) → HasGone tree root passed left seen deep child →
    TellsGap (IsGapOf tree deep child) stop → Tells (StopsFor tree root deep child seen left) (HasFeature tree root) stop → Tells (IsNextFault tree root passed) (λ feature block. IsNextGap tree root passed (Unsupported feature block)) stop
stops-first tree root passed left seen deep child (Found (Unsound block why)) gone gap told = gone-gap tree root passed left seen deep child (Found (Unsound block why)) gone gap
stops-first tree root passed left seen deep child (Found (Unnamed oid)) gone gap told = gone-gap tree root passed left seen deep child (Found (Unnamed oid)) gone gap
stops-first tree root passed left seen deep child (Found (Order item)) gone gap told = (told.0 ∙ gone.seen_right.number, gone-first tree root passed left seen deep child gone told.1)
stops-first tree root passed left seen deep child (Found Counts) gone gap told = (gone-line tree root passed left seen deep child gone told.none told.entered, gone-counts tree root passed left seen deep child gone told.none told.wrong told.entered)
stops-first tree root passed left seen deep child (Unsupported feature block) gone gap told = gone-gap tree root passed left seen deep child (Unsupported feature block) gone gap
stops-first tree root passed left seen deep child ReadFault gone gap told = tt
stops-first tree root passed left seen deep child NoMemory gone gap told = tt

-- what is named before the first item is why there is no root
next-root : {K : Type 0} (tree : Tree K) (root : ℕ) (why : Stop WalkFault) → tree.look (root_place root) ≡ Err why → IsNextGap tree root [] why
next-root tree root why named = record { at = root_place root; next = refl; gap = named }

pub root-first : {K : Type 0} (tree : Tree K) (root : ℕ) (stop : Stop WalkFault) → IsOfNodes stop → Tells (λ fault. tree.look (root_place root) ≡ Err (Found fault)) (λ feature block. tree.look (root_place root) ≡ Err (Unsupported feature block)) stop →
    Tells (IsNextFault tree root []) (λ feature block. IsNextGap tree root [] (Unsupported feature block)) stop
root-first tree root (Found (Unsound block why)) of named = next-root tree root (Found (Unsound block why)) named
root-first tree root (Found (Unnamed oid)) of named = next-root tree root (Found (Unnamed oid)) named
root-first tree root (Found (Order item)) of named = absurd of
root-first tree root (Found Counts) of named = absurd of
root-first tree root (Unsupported feature block) of named = next-root tree root (Unsupported feature block) named
root-first tree root ReadFault of named = tt
root-first tree root NoMemory of named = tt
