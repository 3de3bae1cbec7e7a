-- What was gathered of the tree of a free queue.
use Rattle.std.specs.Prelude.{◌≡◌, ℕ, zero, suc, ◌+◌, ◌<◌, ◌≤◌, ◌==◌, Bool, true, false, if◌then◌else◌, List, [], ◌∷◌, ◌++◌, length, slice_get, Option, Some, refl}
use Rattle.std.specs.List.{filter}
use Rattle.std.proofs.Common.{arith, ap, sym, ◌∙◌, subst, get_or, append-nil, length-append}
use Rattle.std.proofs.lemmas.Bool.Decides.{nat_tests}
use Rattle.std.proofs.lemmas.List.Concat.{flat_map-append}
use Rattle.std.proofs.lemmas.List.Sums.{length-filter, count_by-le-length}
use Rattle.std.proofs.lemmas.List.Elements.{filter_map-append}
use Rattle.std.proofs.lemmas.Option.{slice_get-get_or}
use Rattle.apfs_model.specs.Lists.{In, passes}
use Rattle.apfs_model.proofs.BoolTests.{false-not, both-true, left-or, right-or}
use Rattle.apfs_model.proofs.Searches.{get-in}
use Rattle.obj_base.specs.declared.stop.Stop.{Stop}
use Rattle.obj_base.specs.declared.stop.Stop.TheVariants.{Found, Unsupported, ReadFault, NoMemory}
use Rattle.obj_base.specs.Stops.{Tells, IsFree, raised}
use Rattle.bt_cursor.specs.declared.gathering.GatherFault.{GatherFault}
use Rattle.bt_cursor.specs.declared.gathering.GatherFault.TheVariants as gathers
use Rattle.bt_cursor.specs.declared.fault.WalkFault.{WalkFault}
use Rattle.bt_cursor.specs.declared.fault.WalkFault.TheVariants as walks
use Rattle.bt_node.specs.Entries.{Pair}
use Rattle.bt_cursor.specs.Tree.{Tree, child_in}
use Rattle.bt_cursor.specs.Line.{Item, item_at, line_of}
use Rattle.bt_cursor.specs.WholeTree.{leaf_pairs}
use Rattle.bt_cursor.specs.Flat.{flat_of}
use Rattle.bt_cursor.specs.Met.{places_under, places_in, places_of, has_node, nodes_of}
use Rattle.bt_cursor.specs.Steps.{step_in, steps_in, steps_of}
use Rattle.bt_cursor.specs.declared.step.Step.{Step}
use Rattle.bt_cursor.specs.Faults.{IsWalkFault, HasFeature}
use Rattle.bt_cursor.specs.Gathered.{IsGatherFault, IsGathered, IsRefused}
use Rattle.bt_cursor.proofs.Flats.{line-pairs}
use Rattle.bt_cursor.proofs.Lines.{leaf_pairs-append}
use Rattle.bt_cursor.proofs.Wholes.{means_whole}
use Rattle.nx_ring.specs.Checkpoint.{Seen}
use Rattle.space_pool.specs.Queues.{queue_tree, queue_root, queue_of, queue_entry_of, queue_entries_in, queue_entries, queue_steps, ephemeral_named, is_short_item, are_queued_in_pool, is_queued_in_pool}
use Rattle.space_pool.specs.Stops.{HasShortItem, HasTree, IsQueueFault, IsQueueFeature, has_long_values, is_right_tree, AreQueued}
use Rattle.space_pool.specs.Gathered.{entries_at, Gathers, said, walk_said, IsTreeFault, AreEntries, queue_nodes, IsOutside, IsPlaceFault}
use Rattle.space_pool.specs.declared.entry.Queue.{Queue}
use Rattle.space_pool.specs.declared.entry.Queue.TheVariants.{Pool, Main}
use Rattle.space_pool.specs.declared.entry.QueueEntry.{QueueEntry}
use Rattle.space_pool.specs.declared.fault.PoolFault.{PoolFault}
use Rattle.space_pool.specs.declared.fault.PoolFault.TheVariants.{Index, Count, Place, Unnamed, Walk, Value}
use Rattle.space_pool.proofs.Laws.{queue-refutes, queue-plain}

-- what one more item gives was gathered
pub gathers-more : (entries later : List QueueEntry) (steps further : List Step) (items : List Item) (item : Item)
    → Gathers entries steps items → later ≡ entries ++ entries_at item → further ≡ steps ++ step_in item → Gathers later further (items ++ item ∷ [])
gathers-more entries later steps further items item had e f = record {
  same = e ∙ (ap (λ xs. xs ++ entries_at item) had.same ∙ (sym (filter_map-append queue_entry_of (leaf_pairs items) (leaf_pairs (item ∷ []))) ∙ ap queue_entries_in (sym (leaf_pairs-append items (item ∷ [])))));
  taken = f ∙ (ap (λ xs. xs ++ step_in item) had.taken ∙ (ap (λ xs. steps_in items ++ xs) (sym (append-nil (step_in item))) ∙ sym (flat_map-append step_in items (item ∷ []))));
}

if-not : {A : Type 0} (b : Bool) (x y : A) → b ≡ false → (if b then x else y) ≡ y
if-not true x y e = absurd (cc)
if-not false x y e = refl

if-so : {A : Type 0} (b : Bool) (x y : A) → b ≡ true → (if b then x else y) ≡ x
if-so true x y e = refl
if-so false x y e = absurd (cc)

-- a whole tree was gathered
gathered-right : (image : List ℕ) (seen : Seen) (root : ℕ) (entries : List QueueEntry) (steps : List Step) → IsGathered (queue_tree image seen) root (Gathers entries steps) is_short_item → is_right_tree image seen root ≡ true
unfolding is_right_tree has_long_values
gathered-right image seen root entries steps all = right-or (root == 0) _ (both-true _ _ (means_whole (queue_tree image seen) root all.whole) (false-not _ all.none_refused))

gathered-same : (image : List ℕ) (seen : Seen) (root : ℕ) (entries : List QueueEntry) (steps : List Step) → (root == 0) ≡ false → IsGathered (queue_tree image seen) root (Gathers entries steps) is_short_item → entries ≡ queue_entries image seen root
unfolding queue_entries
gathered-same image seen root entries steps some all =
    all.held.same ∙ (ap queue_entries_in (line-pairs (queue_tree image seen) root) ∙ sym (if-not (root == 0) [] (queue_entries_in (flat_of (queue_tree image seen) root)) some))

pub gathered-entries : (image : List ℕ) (seen : Seen) (root : ℕ) (entries : List QueueEntry) (steps : List Step) → (root == 0) ≡ false → IsGathered (queue_tree image seen) root (Gathers entries steps) is_short_item → AreEntries image seen root entries
gathered-entries image seen root entries steps some all = record { right = gathered-right image seen root entries steps all; same = gathered-same image seen root entries steps some all }

-- and its steps
pub gathered-steps : (image : List ℕ) (seen : Seen) (root : ℕ) (entries : List QueueEntry) (steps : List Step) → (root == 0) ≡ false → IsGathered (queue_tree image seen) root (Gathers entries steps) is_short_item → steps ≡ queue_steps image seen root
unfolding queue_steps
gathered-steps image seen root entries steps some all = all.held.taken ∙ sym (if-not (root == 0) [] (steps_of (queue_tree image seen) root) some)

-- where there is no tree, there are no entries
pub none-entries : (image : List ℕ) (seen : Seen) (root : ℕ) → (root == 0) ≡ true → AreEntries image seen root []
unfolding is_right_tree queue_entries
none-entries image seen root none = record {
  right = left-or (root == 0) _ none;
  same = sym (if-so (root == 0) [] (queue_entries_in (flat_of (queue_tree image seen) root)) none);
}

-- and no steps
pub none-steps : (image : List ℕ) (seen : Seen) (root : ℕ) → (root == 0) ≡ true → [] ≡ queue_steps image seen root
unfolding queue_steps
none-steps image seen root none = sym (if-so (root == 0) [] (steps_of (queue_tree image seen) root) none)

pub nodes-some : (image : List ℕ) (seen : Seen) (root : ℕ) → (root == 0) ≡ false → queue_nodes image seen root ≡ length (nodes_of (queue_tree image seen) root)
unfolding queue_nodes
nodes-some image seen root some = if-not (root == 0) 0 (length (nodes_of (queue_tree image seen) root)) some

-- an item leads to a place exactly if it is a step
step-place : (node at level : ℕ) (pair : Pair) → length (places_under level pair) ≡ length (step_in (item_at node at level pair))
step-place node at zero pair = refl
step-place node at (suc level) pair =
    let upper : (suc level == 0) ≡ false = grind (arith, nat_tests) in
    ap length (sym (if-not (suc level == 0) [] (record { node = node; at = at; level = suc level; child = child_in pair } ∷ []) upper))

steps-places : (items : List Item) → length (places_in items) ≡ length (steps_in items)
steps-places [] = refl
steps-places (item ∷ items) =
    length-append (places_under item.level item.pair) (places_in items)
    ∙ (ap (λ n. n + length (places_in items)) (step-place item.node item.at item.level item.pair)
    ∙ (ap (λ n. length (step_in item) + n) (steps-places items) ∙ sym (length-append (step_in item) (steps_in items))))

-- a tree has at most one node more than steps
nodes-steps : {K : Type 0} (tree : Tree K) (root : ℕ) → length (nodes_of tree root) ≤ suc (length (steps_of tree root))
nodes-steps tree root =
    let places = places_of tree root in
    omega (arith, length-filter (has_node tree) places, count_by-le-length (has_node tree) places, steps-places (line_of tree root))

-- a queue's tree has at most one node more than steps
pub queue-few : (image : List ℕ) (seen : Seen) (root : ℕ) → queue_nodes image seen root ≤ suc (length (queue_steps image seen root))
unfolding queue_nodes queue_steps
queue-few image seen root =
    let tree = queue_tree image seen in
    elim (root == 0) as (λ b. (if b then 0 else length (nodes_of tree root)) ≤ suc (length (if b then [] else steps_of tree root))) [ true ↦ omega arith | false ↦ nodes-steps tree root ]

get-seam : (before after : List Item) (item : Item) → slice_get (before ++ item ∷ after) (length before) ≡ Some item
get-seam [] after item = refl
get-seam (i ∷ before) after item = get-seam before after item

-- an item that is refused has a value that is too short
short-refused : (image : List ℕ) (seen : Seen) (root item : ℕ) → IsRefused is_short_item (line_of (queue_tree image seen) root) item → HasShortItem image seen root item
short-refused image seen root item refused = record {
  number = length refused.before;
  short = ap (λ (items : List Item). passes (slice_get items (length refused.before)) is_short_item) refused.split
      ∙ (ap (λ (o : Option Item). passes o is_short_item) (get-seam refused.before refused.after refused.item) ∙ refused.refused);
  same = refused.same;
}

walk_tells : (image : List ℕ) (seen : Seen) (root block : ℕ) (why : WalkFault) → ephemeral_named seen root ≡ Some block → IsWalkFault (queue_tree image seen) root why → IsTreeFault image seen root (walk_said block why)
walk_tells image seen root block (walks.Unsound at why) named told = (named, told)
walk_tells image seen root block (walks.Unnamed oid) named told = told
walk_tells image seen root block (walks.Order item) named told = (named, told)
walk_tells image seen root block walks.Counts named told = (named, told)

-- why a tree can't be gathered is there
pub said_tells : (image : List ℕ) (seen : Seen) (root block : ℕ) (stop : Stop GatherFault) → ephemeral_named seen root ≡ Some block → Tells (IsGatherFault (queue_tree image seen) root is_short_item) (HasFeature (queue_tree image seen) root) stop
    → Tells (IsTreeFault image seen root) (HasFeature (queue_tree image seen) root) (raised (said block) stop)
said_tells image seen root block (Found (gathers.Tree why)) named told = walk_tells image seen root block why named told
said_tells image seen root block (Found (gathers.Refused item)) named told = (named, short-refused image seen root item told)
said_tells image seen root block (Unsupported feature at) named told = told
said_tells image seen root block ReadFault named told = tt
said_tells image seen root block NoMemory named told = tt

-- an entry at a place, of those before which all lie in the pool
pub outside-at : (manager : List ℕ) (entries : List QueueEntry) (i : ℕ) (d : QueueEntry) (block : ℕ) → is_queued_in_pool manager (get_or entries i d) ≡ false → i < length entries → block ≡ (get_or entries i d).paddr → IsOutside manager entries block
outside-at manager entries i d block e low same = record {
  entry = get_or entries i d;
  one = get-in entries i (get_or entries i d) (slice_get-get_or entries i d low);
  outside = e;
  same = same;
}

-- what is there of the tree of a queue is there of the queue
fault-of : (image : List ℕ) (seen : Seen) (manager : List ℕ) (which : Queue) (fault : PoolFault) → HasTree manager which → IsTreeFault image seen (queue_root which manager) fault → IsQueueFault image seen manager which fault
fault-of image seen manager which (Index i) some h = absurd h
fault-of image seen manager which Count some h = absurd h
fault-of image seen manager which (Place block) some h = absurd h
fault-of image seen manager which (Unnamed oid) some h = (some, h)
fault-of image seen manager which (Walk root why) some h = (record { some = some; at = h.0 }, h.1)
fault-of image seen manager which (Value root item) some h = (record { some = some; at = h.0 }, h.1)

pub tree_tells : (image : List ℕ) (seen : Seen) (manager : List ℕ) (which : Queue) (root : ℕ) (stop : Stop PoolFault) → root ≡ queue_root which manager → (root == 0) ≡ false
    → Tells (IsTreeFault image seen root) (HasFeature (queue_tree image seen) root) stop → Tells (IsQueueFault image seen manager which) (IsQueueFeature image seen manager which) stop
tree_tells image seen manager which root (Found fault) same some told =
    fault-of image seen manager which fault (ap (λ (n : ℕ). n == 0) (sym same) ∙ some) (subst (λ (n : ℕ). IsTreeFault image seen n fault) same told)
tree_tells image seen manager which root (Unsupported feature block) same some told =
    (ap (λ (n : ℕ). n == 0) (sym same) ∙ some, subst (λ (n : ℕ). HasFeature (queue_tree image seen) n feature block) same told)
tree_tells image seen manager which root ReadFault same some told = tt
tree_tells image seen manager which root NoMemory same some told = tt

-- an entry that leaves the pool is one of the queue's
pub place_tells : (image : List ℕ) (seen : Seen) (manager : List ℕ) (which : Queue) (entries : List QueueEntry) (fault : PoolFault) → entries ≡ queue_of image seen manager which → IsPlaceFault manager which entries fault → IsQueueFault image seen manager which fault
place_tells image seen manager which entries (Index i) same h = absurd h
place_tells image seen manager which entries Count same h = absurd h
place_tells image seen manager which entries (Place block) same (pool, out) =
    (pool, record { entry = out.entry; one = subst (λ (es : List QueueEntry). In out.entry es) (same ∙ ap (queue_of image seen manager) pool) out.one; outside = out.outside; same = out.same })
place_tells image seen manager which entries (Unnamed oid) same h = absurd h
place_tells image seen manager which entries (Walk root why) same h = absurd h
place_tells image seen manager which entries (Value root item) same h = absurd h

-- the entries of a queue, those of the pool's queue in the pool
pub are_queued : (image : List ℕ) (seen : Seen) (manager : List ℕ) (which : Queue) (root : ℕ) (entries kept : List QueueEntry) → root ≡ queue_root which manager → AreEntries image seen root entries → kept ≡ entries
    → are_queued_in_pool which manager entries ≡ true → AreQueued image seen manager which kept
are_queued image seen manager which root entries kept same all e inside = record {
  right = subst (λ (n : ℕ). is_right_tree image seen n ≡ true) same all.right;
  placed = subst (λ (es : List QueueEntry). are_queued_in_pool which manager es ≡ true) (sym e) inside;
  same = e ∙ (all.same ∙ ap (queue_entries image seen) same);
}

no-entries : (which : Queue) (manager : List ℕ) → are_queued_in_pool which manager [] ≡ true
no-entries Pool manager = refl
no-entries Main manager = refl

pub none_queued : (image : List ℕ) (seen : Seen) (manager : List ℕ) (which : Queue) (root : ℕ) (kept : List QueueEntry) → root ≡ queue_root which manager → root ≡ 0 → kept ≡ [] → AreQueued image seen manager which kept
none_queued image seen manager which root kept same none e = are_queued image seen manager which root [] kept same (none-entries image seen root (ap (λ (n : ℕ). n == 0) none)) e (no-entries which manager)

-- where a queue can be read, only the source or the memory stops a call
pub queued_free : (image : List ℕ) (seen : Seen) (manager : List ℕ) (which : Queue) (entries : List QueueEntry) (stop : Stop PoolFault) → AreQueued image seen manager which entries
    → Tells (IsQueueFault image seen manager which) (IsQueueFeature image seen manager which) stop → IsFree stop
queued_free image seen manager which entries (Found fault) queued told = queue-refutes image seen manager which entries fault queued told
queued_free image seen manager which entries (Unsupported feature block) queued told = queue-plain image seen manager which entries feature block queued told
queued_free image seen manager which entries ReadFault queued told = tt
queued_free image seen manager which entries NoMemory queued told = tt
