-- What is live from the naming of a root are that naming and those of the steps of its tree.
use Rattle.std.proofs.Common.{◌≡◌, ℕ, zero, suc, ◌+◌, Bool, true, false, List, [], ◌∷◌, ◌++◌, map, Option, Some, None, Result, Ok, Err, ◌⊎◌, inl, inr, refl, ap, sym, ◌∙◌, subst, arith}
use Rattle.std.specs.Prelude.{◌==◌, if◌then◌else◌}
use Rattle.std.specs.List.{range_with_len, flat_map}
use Rattle.std.proofs.lemmas.Bool.Decides.{nat_tests}
use Rattle.std.proofs.lemmas.List.Concat.{flat_map-append}
use Rattle.std.proofs.lemmas.List.{map-append}
use Rattle.apfs_model.specs.Blocks.{block_of}
use Rattle.apfs_model.specs.Lists.{through, value_of}
use Rattle.obj_base.specs.declared.stop.Bad.{Bad}
use Rattle.obj_base.specs.declared.stop.Bad.TheVariants as bads
use Rattle.obj_base.specs.declared.stop.Stop.{Stop}
use Rattle.bt_node.specs.Shape.{Shape}
use Rattle.bt_node.specs.Node.{level_of, count_of}
use Rattle.bt_node.specs.Entries.{Pair, pair_of, pairs_of, children_of}
use Rattle.bt_node.specs.Soundness.{node_of}
use Rattle.bt_node.specs.declared.fault.NodeFault.{NodeFault}
use Rattle.bt_node.specs.declared.node.NodeAt.{NodeAt}
use Rattle.bt_cursor.specs.declared.fault.WalkFault.{WalkFault}
use Rattle.bt_cursor.specs.Tree.{Tree, root_place, child_in, child_place, judged, node_named, block_named, node_at, tree_in}
use Rattle.bt_cursor.proofs.Nodes.{node_same}
use Rattle.bt_cursor.specs.declared.step.Step.{Step}
use Rattle.bt_cursor.specs.Line.{Item, item_at, entries_of, line_part}
use Rattle.bt_cursor.specs.Steps.{step_in, steps_in, steps_of}
use Rattle.nx_ring.specs.Checkpoint.{Seen, site_of}
use Rattle.reach_rules.specs.declared.naming.LookUp.{LookUp}
use Rattle.reach_rules.specs.declared.naming.Object.{Object}
use Rattle.reach_rules.specs.declared.naming.Namer.{Namer}
use Rattle.reach_rules.specs.declared.naming.Namer.TheVariants.{Whole}
use Rattle.reach_rules.specs.declared.naming.TreeKind.{TreeKind}
use Rattle.reach_rules.specs.declared.naming.Expected.{Expected}
use Rattle.reach_rules.specs.declared.naming.Expected.TheVariants.{TreeRoot, TreeNode}
use Rattle.reach_rules.specs.declared.naming.Naming.{Naming}
use Rattle.reach_rules.specs.Naming.{naming}
use Rattle.reach_rules.specs.Resolved.{Found, resolved, found_by, is_node}
use Rattle.reach_rules.specs.Tested.{Answer, of_node, node_answer, node_tested, tested}
use Rattle.reach_rules.specs.Next.{names, names_if, next, children_in, child_namings, node_namings}
use Rattle.reach_rules.specs.Features.{used_features}
use Rattle.reach_rules.proofs.Walks.{Matches, IsWalkOf, AsPlace, tests, as-node}
use Rattle.reach_gather.specs.Namings.{step_naming, tree_namings}
use Rattle.reach_gather.proofs.Counted.{AreAllFrom, all-none, all-both, all-by}

-- trees of a shape are walked as the nodes of a kind of trees are named, and their objects are these
pub record IsTreeOf {K : Type 0} (image : List ℕ) (seen : Seen) (kind : TreeKind) (how : LookUp) (object : ℕ → Object) (shape : Shape K) (named : ℕ → Option ℕ) : Type 0 where
  pub walk : IsWalkOf image seen kind how shape named
  pub objects : (e : Expected) (oid : ℕ) (f : Found) → is_node e ≡ true → found_by image seen how e oid ≡ Some f → f.object ≡ object oid
  pub unmarked : (oid : ℕ) → used_features (site_of seen) (object oid) ≡ []

-- a naming expects the node of a place
abbrev pub Expects : TreeKind → NodeAt → Expected → Type 0
Expects = AsPlace

pub record IsAt (kind : TreeKind) (how : LookUp) (at : NodeAt) (n : Naming) : Type 0 where
  pub how_is : n.how ≡ how
  pub oid_is : n.oid ≡ at.oid
  pub expects : Expects kind at n.expected

-- what a naming leads to, by what it resolves to and by the tests
next-none : (image : List ℕ) (seen : Seen) (n : Naming) → resolved image seen n ≡ None → next image seen n ≡ []
unfolding next
next-none image seen n e = ap (λ o. through o (λ (f : Found). names_if image seen n f (tested (site_of seen) n.expected n.oid f.bytes))) e

pub next-some : (image : List ℕ) (seen : Seen) (n : Naming) (f : Found) (a : Answer) → resolved image seen n ≡ Some f → tested (site_of seen) n.expected n.oid f.bytes ≡ a → next image seen n ≡ names_if image seen n f a
unfolding next
next-some image seen n f a e t =
    ap (λ o. through o (λ (f : Found). names_if image seen n f (tested (site_of seen) n.expected n.oid f.bytes))) e ∙ ap (names_if image seen n f) t

-- a naming resolves to the sound node of a place
pub record HasNode {K : Type 0} (image : List ℕ) (seen : Seen) (object : ℕ → Object) (shape : Shape K) (named : ℕ → Option ℕ) (at : NodeAt) (n : Naming) : Type 0 where
  pub node : List ℕ
  pub look : (tree_in shape (site_of seen) named image).look at ≡ Ok node
  pub thing : Found
  pub found : resolved image seen n ≡ Some thing
  pub object_is : thing.object ≡ object at.oid
  pub bytes_are : thing.bytes ≡ node
  pub passes : tested (site_of seen) n.expected n.oid thing.bytes ≡ Ok node

-- or there is no node, and it leads to nothing
pub record HasNone {K : Type 0} (image : List ℕ) (seen : Seen) (shape : Shape K) (named : ℕ → Option ℕ) (at : NodeAt) (n : Naming) : Type 0 where
  pub stop : Stop WalkFault
  pub look : (tree_in shape (site_of seen) named image).look at ≡ Err stop
  pub leads : next image seen n ≡ []

abbrev pub Sees : {K : Type 0} → List ℕ → Seen → (ℕ → Object) → Shape K → (ℕ → Option ℕ) → NodeAt → Naming → Type 0
Sees image seen object shape named at n = HasNode image seen object shape named at n ⊎ HasNone image seen shape named at n

-- by the answer of the node's tests
sees-answer : {K : Type 0} (image : List ℕ) (seen : Seen) (object : ℕ → Object) (shape : Shape K) (named : ℕ → Option ℕ) (at : NodeAt) (n : Naming) (f : Found) (r : Result (List ℕ) (Bad NodeFault)) →
    resolved image seen n ≡ Some f → f.object ≡ object at.oid → node_of shape at (site_of seen) f.bytes ≡ r → tested (site_of seen) n.expected n.oid f.bytes ≡ of_node r → (tree_in shape (site_of seen) named image).look at ≡ judged f.block r → Sees image seen object shape named at n
sees-answer image seen object shape named at n f (Ok node) e o r t look = inl (record {
  node = node;
  look = look;
  thing = f;
  found = e;
  object_is = o;
  bytes_are = sym (node_same shape at (site_of seen) f.bytes node r);
  passes = t;
})
sees-answer image seen object shape named at n f (Err (bads.Found why)) e o r t look = inr (record { stop = _; look = look; leads = next-some image seen n f _ e t })
sees-answer image seen object shape named at n f (Err (bads.Unsupported feature)) e o r t look = inr (record { stop = _; look = look; leads = next-some image seen n f _ e t })

-- by what is found
sees-found : {K : Type 0} (image : List ℕ) (seen : Seen) (kind : TreeKind) (object : ℕ → Object) (shape : Shape K) (named : ℕ → Option ℕ) (at : NodeAt) (n : Naming) (o : Option Found) (b : Option ℕ) →
    ((bytes : List ℕ) → node_answer kind at (site_of seen) bytes ≡ node_of shape at (site_of seen) bytes) → ((bytes : List ℕ) → tested (site_of seen) n.expected n.oid bytes ≡ node_tested kind at (site_of seen) bytes) →
    ((f : Found) → o ≡ Some f → f.object ≡ object at.oid) → resolved image seen n ≡ o → block_named (site_of seen) named at.oid ≡ b → Matches image (site_of seen) o b → Sees image seen object shape named at n
sees-found image seen kind object shape named at n None None answer test is r s m = inr (record { stop = _; look = ap (node_named shape (site_of seen) image at) s; leads = next-none image seen n r })
sees-found image seen kind object shape named at n None (Some block) answer test is r s m = absurd m
sees-found image seen kind object shape named at n (Some f) None answer test is r s m = absurd m
sees-found image seen kind object shape named at n (Some f) (Some block) answer test is r s m =
    sees-answer image seen object shape named at n f (node_of shape at (site_of seen) f.bytes) r (is f refl) refl (test f.bytes ∙ ap of_node (answer f.bytes))
    (ap (node_named shape (site_of seen) image at) s
    ∙ (ap (λ k. judged k (node_of shape at (site_of seen) (block_of (site_of seen).block_size image block))) (sym m.0)
    ∙ ap (λ bytes. judged f.block (node_of shape at (site_of seen) bytes)) (sym m.1)))

pub sees : {K : Type 0} (image : List ℕ) (seen : Seen) (kind : TreeKind) (how : LookUp) (object : ℕ → Object) (shape : Shape K) (named : ℕ → Option ℕ) (at : NodeAt) (n : Naming) → IsTreeOf image seen kind how object shape named → IsAt kind how at n → Sees image seen object shape named at n
unfolding resolved
sees image seen kind how object shape named at n tree is =
    let e : Expected = n.expected in
    let node : is_node e ≡ true = as-node kind at e is.expects in
    let same : resolved image seen n ≡ found_by image seen how e at.oid =
    ap (λ h. found_by image seen h e n.oid) is.how_is ∙ ap (λ o. found_by image seen how e o) is.oid_is in
    sees-found image seen kind object shape named at n (found_by image seen how e at.oid) (block_named (site_of seen) named at.oid) (tree.walk.answer at)
    (λ bytes. tests (site_of seen) kind at e n.oid bytes is.oid_is is.expects) (λ f s. tree.objects e at.oid f node s) same refl (tree.walk.found e at.oid node)

-- ---- what a node names
-- its children, from a number on
abbrev pub kids_of : Namer → TreeKind → LookUp → ℕ → ℕ → List ℕ → List Naming
kids_of namer kind how zero i oids = []
kids_of namer kind how (suc level) i oids = child_namings namer kind how level i oids

node-kids : (namer : Namer) (kind : TreeKind) (how : LookUp) (level : ℕ) (oids : List ℕ) → node_namings namer kind how level oids ≡ kids_of namer kind how level 0 oids
node-kids namer kind how zero oids = refl
node-kids namer kind how (suc level) oids = refl

map-map : {X Y Z : Type 0} (f : X → Y) (g : Y → Z) (xs : List X) → map (λ x. g (f x)) xs ≡ map g (map f xs)
map-map f g [] = refl
map-map f g (x ∷ xs) = ap (λ ys. g (f x) ∷ ys) (map-map f g xs)

-- the children of a node are those of its entries
kids-same : {K : Type 0} (shape : Shape K) (node : List ℕ) → children_of shape node ≡ map child_in (pairs_of shape node)
kids-same shape node = map-map (pair_of shape node) child_in (range_with_len 0 (count_of node))

-- what the naming of a node leads to
pub next-root : {K : Type 0} (image : List ℕ) (seen : Seen) (kind : TreeKind) (how : LookUp) (object : ℕ → Object) (shape : Shape K) (named : ℕ → Option ℕ) (at : NodeAt) (n : Naming) → IsTreeOf image seen kind how object shape named → IsAt kind how at n →
    n.expected ≡ TreeRoot kind → (h : HasNode image seen object shape named at n) → next image seen n ≡ kids_of (Whole (object at.oid)) kind how (level_of h.node) 0 (map child_in (pairs_of shape h.node))
next-root image seen kind how object shape named at n tree is e h =
    next-some image seen n h.thing (Ok h.node) h.found h.passes
    ∙ (ap (λ x. names image seen n.how x (Whole h.thing.object) h.thing.bytes) e
    ∙ (ap (λ bytes. node_namings (Whole h.thing.object) kind n.how (level_of bytes) (children_in kind bytes)) h.bytes_are
    ∙ (ap (λ o. node_namings (Whole o) kind n.how (level_of h.node) (children_in kind h.node)) h.object_is
    ∙ (ap (λ x. node_namings (Whole (object at.oid)) kind x (level_of h.node) (children_in kind h.node)) is.how_is
    ∙ (ap (λ oids. node_namings (Whole (object at.oid)) kind how (level_of h.node) oids) (tree.walk.kids h.node ∙ kids-same shape h.node)
    ∙ node-kids (Whole (object at.oid)) kind how (level_of h.node) (map child_in (pairs_of shape h.node)))))))

pub next-child : {K : Type 0} (image : List ℕ) (seen : Seen) (kind : TreeKind) (how : LookUp) (object : ℕ → Object) (shape : Shape K) (named : ℕ → Option ℕ) (at : NodeAt) (n : Naming) (level : ℕ) → IsTreeOf image seen kind how object shape named → IsAt kind how at n →
    n.expected ≡ TreeNode kind level → (h : HasNode image seen object shape named at n) → next image seen n ≡ kids_of (Whole (object at.oid)) kind how level 0 (map child_in (pairs_of shape h.node))
next-child image seen kind how object shape named at n level tree is e h =
    next-some image seen n h.thing (Ok h.node) h.found h.passes
    ∙ (ap (λ x. names image seen n.how x (Whole h.thing.object) h.thing.bytes) e
    ∙ (ap (λ bytes. node_namings (Whole h.thing.object) kind n.how level (children_in kind bytes)) h.bytes_are
    ∙ (ap (λ o. node_namings (Whole o) kind n.how level (children_in kind h.node)) h.object_is
    ∙ (ap (λ x. node_namings (Whole (object at.oid)) kind x level (children_in kind h.node)) is.how_is
    ∙ (ap (λ oids. node_namings (Whole (object at.oid)) kind how level oids) (tree.walk.kids h.node ∙ kids-same shape h.node)
    ∙ node-kids (Whole (object at.oid)) kind how level (map child_in (pairs_of shape h.node)))))))

-- ---- the steps
-- a leaf has none
no-steps : {K : Type 0} (tree : Tree K) (oid : ℕ) (at : ℕ → Pair) (is : List ℕ) → steps_in (flat_map (line_part tree zero oid) (map (λ k. (k, at k)) is)) ≡ []
no-steps tree oid at [] = refl
no-steps tree oid at (i ∷ is) = no-steps tree oid at is

no-leaf : (level : ℕ) → (suc level == 0) ≡ false
no-leaf level = grind (arith, nat_tests)

-- above the leaves an item is a step
one-step : (oid i level : ℕ) (pair : Pair) → step_in (item_at oid i (suc level) pair) ≡ record { node = oid; at = i; level = suc level; child = child_in pair } ∷ []
one-step oid i level pair = ap (λ (b : Bool). if b then [] else record { node = oid; at = i; level = suc level; child = child_in pair } ∷ []) (no-leaf level)

-- what is live from the namings of a node's entries are those of the steps there
abbrev EntriesLive : {K : Type 0} → List ℕ → Seen → TreeKind → LookUp → (ℕ → Object) → Tree K → ℕ → Type 0
EntriesLive image seen kind how object tree level =
    (oid : ℕ) (at : ℕ → Pair) (i n : ℕ)
    → AreAllFrom (next image seen) (kids_of (Whole (object oid)) kind how level i (map child_in (map at (range_with_len i n)))) (map (step_naming object kind how) (steps_in (flat_map (line_part tree level oid) (map (λ k. (k, at k)) (range_with_len i n)))))

-- the items under a place
abbrev under : {K : Type 0} → Tree K → ℕ → NodeAt → List Item
under tree level at = through (node_at tree at) (λ node. flat_map (line_part tree level at.oid) (entries_of tree.shape node))

-- of a child
child-lives : {K : Type 0} (image : List ℕ) (seen : Seen) (kind : TreeKind) (how : LookUp) (object : ℕ → Object) (shape : Shape K) (named : ℕ → Option ℕ) (level : ℕ) (pair : Pair) (n : Naming) →
    IsTreeOf image seen kind how object shape named → EntriesLive image seen kind how object (tree_in shape (site_of seen) named image) level →
    n.expected ≡ TreeNode kind level → Sees image seen object shape named (child_place level pair) n → IsAt kind how (child_place level pair) n →
    AreAllFrom (next image seen) (next image seen n) (map (step_naming object kind how) (steps_in (under (tree_in shape (site_of seen) named image) level (child_place level pair))))
child-lives {K} image seen kind how object shape named level pair n tree rec e (inl h) is =
    let t : Tree K = tree_in shape (site_of seen) named image in
    let at : NodeAt = child_place level pair in
    let all = rec (child_in pair) (pair_of shape h.node) 0 (count_of h.node) in
    subst (λ ns. AreAllFrom (next image seen) ns (map (step_naming object kind how) (steps_in (under t level at)))) (sym (next-child image seen kind how object shape named at n level tree is e h))
    (subst (λ o. AreAllFrom (next image seen) (kids_of (Whole (object at.oid)) kind how level 0 (map child_in (pairs_of shape h.node))) (map (step_naming object kind how) (steps_in (through (value_of o) (λ node. flat_map (line_part t level at.oid) (entries_of shape node)))))) (sym h.look) all)
child-lives {K} image seen kind how object shape named level pair n tree rec e (inr h) is =
    let t : Tree K = tree_in shape (site_of seen) named image in
    let at : NodeAt = child_place level pair in
    subst (λ ns. AreAllFrom (next image seen) ns (map (step_naming object kind how) (steps_in (under t level at)))) (sym h.leads)
    (subst (λ o. AreAllFrom (next image seen) [] (map (step_naming object kind how) (steps_in (through (value_of o) (λ node. flat_map (line_part t level at.oid) (entries_of shape node)))))) (sym h.look) (all-none (next image seen)))

entries-live : {K : Type 0} (image : List ℕ) (seen : Seen) (kind : TreeKind) (how : LookUp) (object : ℕ → Object) (shape : Shape K) (named : ℕ → Option ℕ) → IsTreeOf image seen kind how object shape named → (level : ℕ) →
    EntriesLive image seen kind how object (tree_in shape (site_of seen) named image) level
entries-live {K} image seen kind how object shape named tree zero oid at i n =
    subst (λ steps. AreAllFrom (next image seen) [] (map (step_naming object kind how) steps)) (sym (no-steps (tree_in shape (site_of seen) named image) oid at (range_with_len i n))) (all-none (next image seen))
entries-live image seen kind how object shape named tree (suc level) oid at i zero = all-none (next image seen)
entries-live {K} image seen kind how object shape named tree (suc level) oid at i (suc n) =
    let t : Tree K = tree_in shape (site_of seen) named image in
    let pair : Pair = at i in
    let place : NodeAt = child_place level pair in
    let me : Namer = Whole (object oid) in
    let f : Step → Naming = step_naming object kind how in
    let m : Naming = naming me i (TreeNode kind level) how (child_in pair) in
    let is : IsAt kind how place m = record { how_is = refl; oid_is = refl; expects = inr (level, (pair, (refl, refl))) } in
    let below : List Item = under t level place in
    let others : List Item = flat_map (line_part t (suc level) oid) (map (λ k. (k, at k)) (range_with_len (i + 1) n)) in
    let kids : List ℕ = map child_in (map at (range_with_len (i + 1) n)) in
    let child = child-lives image seen kind how object shape named level pair m tree (entries-live image seen kind how object shape named tree level) refl (sees image seen kind how object shape named place m tree is) is in
    let add : i + 1 ≡ suc i = omega arith in
    let more = subst (λ k. AreAllFrom (next image seen) (child_namings me kind how level k kids) (map f (steps_in others))) add (entries-live image seen kind how object shape named tree (suc level) oid at (i + 1) n) in
    let all : map f (step_in (item_at oid i (suc level) pair) ++ steps_in (below ++ others)) ≡ m ∷ (map f (steps_in below) ++ map f (steps_in others)) =
    ap (λ ss. map f (ss ++ steps_in (below ++ others))) (one-step oid i level pair) ∙ ap (λ ns. m ∷ ns) (ap (map f) (flat_map-append step_in below others) ∙ map-append f (steps_in below) (steps_in others)) in
    subst (AreAllFrom (next image seen) (m ∷ child_namings me kind how level (suc i) kids)) (sym all)
    (all-both (next image seen) m (child_namings me kind how level (suc i) kids) (m ∷ map f (steps_in below)) (map f (steps_in others)) (all-by (next image seen) m (map f (steps_in below)) child) more)

root-lives : {K : Type 0} (image : List ℕ) (seen : Seen) (kind : TreeKind) (object : ℕ → Object) (shape : Shape K) (named : ℕ → Option ℕ) (n : Naming) → IsTreeOf image seen kind n.how object shape named → n.expected ≡ TreeRoot kind →
    IsAt kind n.how (root_place n.oid) n → Sees image seen object shape named (root_place n.oid) n →
    AreAllFrom (next image seen) (next image seen n) (map (step_naming object kind n.how) (steps_of (tree_in shape (site_of seen) named image) n.oid))
root-lives {K} image seen kind object shape named n tree e is (inl h) =
    let t : Tree K = tree_in shape (site_of seen) named image in
    let at : NodeAt = root_place n.oid in
    let f : Step → Naming = step_naming object kind n.how in
    let all = entries-live image seen kind n.how object shape named tree (level_of h.node) n.oid (pair_of shape h.node) 0 (count_of h.node) in
    subst (λ ns. AreAllFrom (next image seen) ns (map f (steps_of t n.oid))) (sym (next-root image seen kind n.how object shape named at n tree is e h))
    (subst (λ o. AreAllFrom (next image seen) (kids_of (Whole (object at.oid)) kind n.how (level_of h.node) 0 (map child_in (pairs_of shape h.node))) (map f (steps_in (through (value_of o) (λ node. flat_map (line_part t (level_of node) n.oid) (entries_of shape node)))))) (sym h.look) all)
root-lives {K} image seen kind object shape named n tree e is (inr h) =
    let t : Tree K = tree_in shape (site_of seen) named image in
    let f : Step → Naming = step_naming object kind n.how in
    subst (λ ns. AreAllFrom (next image seen) ns (map f (steps_of t n.oid))) (sym h.leads)
    (subst (λ o. AreAllFrom (next image seen) [] (map f (steps_in (through (value_of o) (λ node. flat_map (line_part t (level_of node) n.oid) (entries_of shape node)))))) (sym h.look) (all-none (next image seen)))

-- ---- the law
pub tree-lives : {K : Type 0} (image : List ℕ) (seen : Seen) (kind : TreeKind) (object : ℕ → Object) (shape : Shape K) (named : ℕ → Option ℕ) (n : Naming) → IsTreeOf image seen kind n.how object shape named → n.expected ≡ TreeRoot kind →
    AreAllFrom (next image seen) (n ∷ []) (tree_namings object kind n (steps_of (tree_in shape (site_of seen) named image) n.oid))
tree-lives {K} image seen kind object shape named n tree e =
    let at : NodeAt = root_place n.oid in
    let is : IsAt kind n.how at n = record { how_is = refl; oid_is = refl; expects = inl (e, refl) } in
    all-by (next image seen) n (map (step_naming object kind n.how) (steps_of (tree_in shape (site_of seen) named image) n.oid))
    (root-lives image seen kind object shape named n tree e is (sees image seen kind n.how object shape named at n tree is))
