-- The places that a walk over a tree meets are named: live namings lead from that of the root to each of them.
use Rattle.std.proofs.Common.{◌≡◌, ℕ, suc, ◌<◌, true, false, List, [], ◌∷◌, Option, Some, None, Result, Ok, Err, is_ok, ◌⊎◌, inl, inr, refl, ap, sym, ◌∙◌, subst, arith}
use Rattle.std.specs.List.{range_with_len}
use Rattle.apfs_model.specs.Blocks.{block_of}
use Rattle.apfs_model.specs.Lists.{In}
use Rattle.obj_base.specs.declared.stop.Bad.{Bad}
use Rattle.obj_base.specs.declared.stop.Bad.TheVariants as bads
use Rattle.obj_base.specs.declared.stop.Stop.{Stop}
use Rattle.obj_base.specs.declared.stop.Stop.TheVariants.{Found as Fails, Unsupported, ReadFault, NoMemory}
use Rattle.bt_node.specs.Shape.{Shape}
use Rattle.bt_node.specs.Node.{level_of, count_of}
use Rattle.bt_node.specs.Entries.{Pair, pair_of, child_of, children_of}
use Rattle.bt_node.specs.Soundness.{node_of}
use Rattle.bt_node.specs.declared.fault.NodeFault.{NodeFault}
use Rattle.bt_node.specs.declared.node.NodeAt.{NodeAt}
use Rattle.obj_base.specs.declared.site.Site.{Site}
use Rattle.bt_cursor.specs.declared.fault.WalkFault.{WalkFault}
use Rattle.bt_cursor.specs.declared.fault.WalkFault.TheVariants as walks
use Rattle.bt_cursor.specs.Tree.{Tree, root_place, child_place, judged, node_named, block_named, tree_in}
use Rattle.bt_cursor.specs.Met.{IsMet, first, after, places_of, has_node, is_walkable}
use Rattle.bt_cursor.specs.Faults.{HasGap, IsNodeFault}
use Rattle.bt_cursor.proofs.Nodes.{node_same, node-child}
use Rattle.bt_cursor.proofs.Places.{tree-levelled, places-met}
use Rattle.nx_ring.specs.Checkpoint.{Seen, site_of}
use Rattle.reach_rules.specs.declared.fault.Why.TheVariants.{Node}
use Rattle.reach_rules.specs.Naming.{LookUp, Namer, Whole, TreeKind, Expected, TreeRoot, TreeNode, Naming, naming}
use Rattle.reach_rules.specs.Resolved.{Found, resolved, found_by, is_node}
use Rattle.reach_rules.specs.Tested.{Answer, of_node, node_answer, node_tested, tested}
use Rattle.reach_rules.specs.Next.{names, children_in, child_namings, node_namings}
use Rattle.reach_rules.specs.Live.{IsLive, led}
use Rattle.reach_rules.specs.Features.{HasFeature, of, tested_features}
use Rattle.reach_rules.specs.Faults.{IsUnsound, IsUnnamed, within_of, xid_of, Present}
use Rattle.reach_rules.specs.Raised.{of_walk}
use Rattle.apfs_model.proofs.BoolTests.{test_or, in-range}
use Rattle.apfs_model.proofs.Searches.{in-map, all-of}
use Rattle.reach_rules.proofs.Nexts.{in-next}
use Rattle.reach_rules.proofs.NamesDecided.{in-features}

-- what is found by a naming's id, and the block that a walk finds by it
abbrev pub Matches : List ℕ → Site → Option Found → Option ℕ → Type 0
Matches image site None None = Unit {0}
Matches image site None (Some block) = ⊥
Matches image site (Some f) None = ⊥
Matches image site (Some f) (Some block) = (f.block ≡ block) × (f.bytes ≡ block_of site.block_size image block)

-- trees of a shape are walked as the nodes of a kind of trees are named
pub record IsWalkOf {K : Type 0} (image : List ℕ) (seen : Seen) (kind : TreeKind) (how : LookUp) (shape : Shape K) (named : ℕ → Option ℕ) : Type 0 where
  pub answer : (at : NodeAt) (bytes : List ℕ) → node_answer kind at (site_of seen) bytes ≡ node_of shape at (site_of seen) bytes
  pub kids : (bytes : List ℕ) → children_in kind bytes ≡ children_of shape bytes
  pub found : (e : Expected) (oid : ℕ) → is_node e ≡ true → Matches image (site_of seen) (found_by image seen how e oid) (block_named (site_of seen) named oid)

-- a place is that of a root, or of a node of a level
abbrev pub AsPlace : TreeKind → NodeAt → Expected → Type 0
AsPlace kind at e =
    ((e ≡ TreeRoot kind) × (at ≡ root_place at.oid))
    ⊎ ((level : ℕ) × ((pair : Pair) × ((e ≡ TreeNode kind level) × (at ≡ child_place level pair))))

-- a live naming names the node of a place
pub record IsNamedAt (image : List ℕ) (seen : Seen) (kind : TreeKind) (how : LookUp) (at : NodeAt) : Type 0 where
  pub naming : Naming
  pub live : IsLive image seen naming
  pub how_is : naming.how ≡ how
  pub oid_is : naming.oid ≡ at.oid
  pub as_is : AsPlace kind at naming.expected

-- the tests of the naming are those of the place
pub tests : (site : Site) (kind : TreeKind) (at : NodeAt) (e : Expected) (oid : ℕ) (bytes : List ℕ) → oid ≡ at.oid → AsPlace kind at e → tested site e oid bytes ≡ node_tested kind at site bytes
unfolding tested
tests site kind at e oid bytes s (inl (p, q)) =
    ap (λ x. tested site x oid bytes) p ∙ (ap (λ o. node_tested kind (root_place o) site bytes) s ∙ ap (λ a. node_tested kind a site bytes) (sym q))
tests site kind at e oid bytes s (inr (level, (pair, (p, q)))) =
    let place : ℕ → NodeAt = λ o. record { oid = o; root = false; level = Some level } in
    ap (λ x. tested site x oid bytes) p
    ∙ (ap (λ o. node_tested kind (place o) site bytes) (s ∙ ap (λ (a : NodeAt). a.oid) q) ∙ ap (λ a. node_tested kind a site bytes) (sym q))

pub as-node : (kind : TreeKind) (at : NodeAt) (e : Expected) → AsPlace kind at e → is_node e ≡ true
as-node kind at e (inl (p, q)) = ap is_node p
as-node kind at e (inr (level, (pair, (p, q)))) = ap is_node p

-- what a walk sees at a place is what the naming resolves to
abbrev Looked : {K : Type 0} → List ℕ → Seen → Shape K → (ℕ → Option ℕ) → NodeAt → Naming → Type 0
Looked image seen shape named at n =
    ((resolved image seen n ≡ None) × (node_named shape (site_of seen) image at (block_named (site_of seen) named at.oid) ≡ Err (Fails (walks.Unnamed at.oid))))
    ⊎ ((f : Found) × ((resolved image seen n ≡ Some f) × (node_named shape (site_of seen) image at (block_named (site_of seen) named at.oid) ≡ judged f.block (node_of shape at (site_of seen) f.bytes))))

look-cases : {K : Type 0} (image : List ℕ) (seen : Seen) (shape : Shape K) (named : ℕ → Option ℕ) (at : NodeAt) (n : Naming) (o : Option Found) (b : Option ℕ) → resolved image seen n ≡ o → block_named (site_of seen) named at.oid ≡ b → Matches image (site_of seen) o b → Looked image seen shape named at n
look-cases image seen shape named at n None None r s m = inl (r, ap (node_named shape (site_of seen) image at) s)
look-cases image seen shape named at n None (Some block) r s m = absurd m
look-cases image seen shape named at n (Some f) None r s m = absurd m
look-cases image seen shape named at n (Some f) (Some block) r s m =
    inr (
      f,
      (
        r,
        ap (node_named shape (site_of seen) image at) s
            ∙ (ap (λ k. judged k (node_of shape at (site_of seen) (block_of (site_of seen).block_size image block))) (sym m.0)
            ∙ ap (λ bytes. judged f.block (node_of shape at (site_of seen) bytes)) (sym m.1)),
      ),
    )

looked : {K : Type 0} (image : List ℕ) (seen : Seen) (kind : TreeKind) (how : LookUp) (shape : Shape K) (named : ℕ → Option ℕ) (at : NodeAt) → IsWalkOf image seen kind how shape named → (m : IsNamedAt image seen kind how at) → Looked image seen shape named at m.naming
unfolding resolved
looked image seen kind how shape named at walk m =
    let n : Naming = m.naming in
    let same : resolved image seen n ≡ found_by image seen how n.expected at.oid =
    ap (λ h. found_by image seen h n.expected n.oid) m.how_is ∙ ap (λ o. found_by image seen how n.expected o) m.oid_is in
    look-cases image seen shape named at n (found_by image seen how n.expected at.oid) (block_named (site_of seen) named at.oid) same refl
    (walk.found n.expected at.oid (as-node kind at n.expected m.as_is))

-- a child that a node names, among those namings
kid-in : (namer : Namer) (kind : TreeKind) (how : LookUp) (level k : ℕ) (oids : List ℕ) (oid : ℕ) → In oid oids → (m : Naming) × (In m (child_namings namer kind how level k oids) × ((m.expected ≡ TreeNode kind level) × ((m.how ≡ how) × (m.oid ≡ oid))))
kid-in namer kind how level k [] oid h = absurd h
kid-in namer kind how level k (o ∷ os) oid (inl e) = (naming namer k (TreeNode kind level) how o, (inl refl, (refl, (refl, sym e))))
kid-in namer kind how level k (o ∷ os) oid (inr h) = let t = kid-in namer kind how level (suc k) os oid h in (t.0, (inr t.1.0, t.1.1))

-- what a node of a level above 0 names
abbrev HasKid : TreeKind → LookUp → ℕ → ℕ → List Naming → Type 0
HasKid kind how level oid ms = (m : Naming) × (In m ms × ((m.expected ≡ TreeNode kind level) × ((m.how ≡ how) × (m.oid ≡ oid))))

names-kid : {K : Type 0} (image : List ℕ) (seen : Seen) (kind : TreeKind) (how h : LookUp) (shape : Shape K) (at : NodeAt) (e : Expected) (namer : Namer) (node : List ℕ) (level i : ℕ)
    → ((bytes : List ℕ) → children_in kind bytes ≡ children_of shape bytes) → h ≡ how → AsPlace kind at e → node_of shape at (site_of seen) node ≡ Ok node → level_of node ≡ suc level → i < count_of node
    → HasKid kind how level (child_of shape node i) (names image seen h e namer node)
names-kid image seen kind how h shape at e namer node level i kids s as_is ok high low =
    let oids : List ℕ = children_of shape node in
    let listed : In (child_of shape node i) oids = in-map (child_of shape node) (range_with_len 0 (count_of node)) i (in-range 0 (count_of node) i (omega arith) (omega arith)) in
    let kid = kid-in namer kind how level 0 oids (child_of shape node i) listed in
    let level-is : (l : ℕ) → l ≡ suc level → HasKid kind how level (child_of shape node i) (node_namings namer kind h l (children_in kind node)) = λ l q.
    subst (λ l. HasKid kind how level (child_of shape node i) (node_namings namer kind h l (children_in kind node))) (sym q)
    (subst (λ x. HasKid kind how level (child_of shape node i) (child_namings namer kind x level 0 (children_in kind node))) (sym s)
    (subst (λ xs. HasKid kind how level (child_of shape node i) (child_namings namer kind how level 0 xs)) (sym (kids node)) kid)) in
    elim as_is as (λ _. HasKid kind how level (child_of shape node i) (names image seen h e namer node)) [
      | inl t ↦ subst (λ x. HasKid kind how level (child_of shape node i) (names image seen h x namer node)) (sym t.0) (level-is (level_of node) high)
      | inr t ↦
          let l : ℕ = t.0 in
          let q : level_of node ≡ l = node-child shape (site_of seen) at node l t.1.0 ok t.1.1.1 in
          subst (λ x. HasKid kind how level (child_of shape node i) (names image seen h x namer node)) (sym t.1.1.0) (level-is l (sym q ∙ high))
    ]

-- the node of a place, where there is one
record IsNodeAt {K : Type 0} (image : List ℕ) (seen : Seen) (shape : Shape K) (at : NodeAt) (n : Naming) (node : List ℕ) : Type 0 where
  object : Found
  found : resolved image seen n ≡ Some object
  bytes_are : object.bytes ≡ node
  ok : node_of shape at (site_of seen) node ≡ Ok node

judged-node : {K : Type 0} (shape : Shape K) (site : Site) (at : NodeAt) (block : ℕ) (bytes node : List ℕ) (r : Result (List ℕ) (Bad NodeFault)) → node_of shape at site bytes ≡ r → judged block r ≡ Ok node → (bytes ≡ node) × (node_of shape at site bytes ≡ Ok node)
judged-node shape site at block bytes node (Ok other) test e =
    let same : other ≡ node = cc in
    (sym (node_same shape at site bytes other test) ∙ same, test ∙ ap Ok same)
judged-node shape site at block bytes node (Err (bads.Found why)) test e = absurd (cc)
judged-node shape site at block bytes node (Err (bads.Unsupported feature)) test e = absurd (cc)

node-there : {K : Type 0} (image : List ℕ) (seen : Seen) (shape : Shape K) (named : ℕ → Option ℕ) (at : NodeAt) (n : Naming) (node : List ℕ) → Looked image seen shape named at n → node_named shape (site_of seen) image at (block_named (site_of seen) named at.oid) ≡ Ok node → IsNodeAt image seen shape at n node
node-there image seen shape named at n node (inl (r, none)) e =
    let z : ◌≡◌ {A = Result (List ℕ) (Stop WalkFault)} (Err (Fails (walks.Unnamed at.oid))) (Ok node) = sym none ∙ e in absurd (let q : ⊥ = cc in q)
node-there image seen shape named at n node (inr (f, (r, s))) e =
    let t = judged-node shape (site_of seen) at f.block f.bytes node (node_of shape at (site_of seen) f.bytes) refl (sym s ∙ e) in
    record { object = f; found = r; bytes_are = t.0; ok = subst (λ b. node_of shape at (site_of seen) b ≡ Ok node) t.0 t.1 }

-- the child of a node that is met is named
kid-named : {K : Type 0} (image : List ℕ) (seen : Seen) (kind : TreeKind) (how : LookUp) (shape : Shape K) (named : ℕ → Option ℕ) → IsWalkOf image seen kind how shape named → (at : NodeAt) → IsNamedAt image seen kind how at →
    (node : List ℕ) (level i : ℕ) → (tree_in shape (site_of seen) named image).look at ≡ Ok node → level_of node ≡ suc level → i < count_of node → IsNamedAt image seen kind how (child_place level (pair_of shape node i))
kid-named image seen kind how shape named walk at m node level i found high low =
    let n : Naming = m.naming in
    let there = node-there image seen shape named at n node (looked image seen kind how shape named at walk m) found in
    let f : Found = there.object in
    let s : tested (site_of seen) n.expected n.oid f.bytes ≡ node_tested kind at (site_of seen) f.bytes = tests (site_of seen) kind at n.expected n.oid f.bytes m.oid_is m.as_is in
    let a : node_answer kind at (site_of seen) f.bytes ≡ Ok node = walk.answer at f.bytes ∙ (ap (λ b. node_of shape at (site_of seen) b) there.bytes_are ∙ there.ok) in
    let sound : is_ok (tested (site_of seen) n.expected n.oid f.bytes) ≡ true = ap (λ (x : Answer). is_ok x) (s ∙ ap of_node a) in
    let kid = names-kid image seen kind how n.how shape at n.expected (Whole f.object) node level i walk.kids m.how_is m.as_is there.ok high low in
    let listed : In kid.0 (names image seen n.how n.expected (Whole f.object) f.bytes) = subst (λ b. In kid.0 (names image seen n.how n.expected (Whole f.object) b)) (sym there.bytes_are) kid.1.0 in
    record {
      naming = kid.0;
      live = led n kid.0 m.live (in-next image seen n kid.0 (record { object = f; found = there.found; sound = sound; names = listed }));
      how_is = kid.1.1.1.0;
      oid_is = kid.1.1.1.1;
      as_is = inr (level, (pair_of shape node i, (kid.1.1.0, refl)));
    }

-- a live naming of a root
pub record IsRootNaming (image : List ℕ) (seen : Seen) (kind : TreeKind) (how : LookUp) (root : ℕ) : Type 0 where
  pub naming : Naming
  pub live : IsLive image seen naming
  pub expected_is : naming.expected ≡ TreeRoot kind
  pub how_is : naming.how ≡ how
  pub oid_is : naming.oid ≡ root

-- each place that a walk from the root meets is named
pub met-named : {K : Type 0} (image : List ℕ) (seen : Seen) (kind : TreeKind) (how : LookUp) (shape : Shape K) (named : ℕ → Option ℕ) → IsWalkOf image seen kind how shape named → (root : ℕ) → IsRootNaming image seen kind how root →
    (at : NodeAt) → IsMet (tree_in shape (site_of seen) named image) root at → IsNamedAt image seen kind how at
met-named image seen kind how shape named walk root r at (first) = record { naming = r.naming; live = r.live; how_is = r.how_is; oid_is = r.oid_is; as_is = inl (r.expected_is, refl) }
met-named image seen kind how shape named walk root r at (after above node level i met found high low) =
    kid-named image seen kind how shape named walk above (met-named image seen kind how shape named walk root r above met) node level i found high low

-- why a place that is met has no node, said of what is named
abbrev pub Told : List ℕ → Seen → LookUp → Stop WalkFault → Type 0
Told image seen how (Fails (walks.Unsound block why)) = IsUnsound image seen block (Node why)
Told image seen how (Fails (walks.Unnamed oid)) = IsUnnamed image seen (within_of how) oid (xid_of seen how)
Told image seen how (Fails (walks.Order item)) = ⊥
Told image seen how (Fails walks.Counts) = ⊥
Told image seen how (Unsupported feature block) = HasFeature image seen feature block
Told image seen how ReadFault = ⊥
Told image seen how NoMemory = ⊥

judged-told : (image : List ℕ) (seen : Seen) (how : LookUp) (n : Naming) (f : Found) (r : Result (List ℕ) (Bad NodeFault)) (why : Stop WalkFault) → IsLive image seen n → resolved image seen n ≡ Some f → tested (site_of seen) n.expected n.oid f.bytes ≡ of_node r → judged f.block r ≡ Err why → Told image seen how why
judged-told image seen how n f (Ok node) why live found t e = absurd (cc)
judged-told image seen how n f (Err (bads.Found part)) why live found t e =
    let z : ◌≡◌ {A = Result (List ℕ) (Stop WalkFault)} (Err (Fails (walks.Unsound f.block part))) (Err why) = e in
    let q : Fails (walks.Unsound f.block part) ≡ why = cc in
    subst (Told image seen how) q (record { naming = n; object = f; names = record { live = live; found = found }; at = refl; fails = t })
judged-told image seen how n f (Err (bads.Unsupported feature)) why live found t e =
    let z : ◌≡◌ {A = Result (List ℕ) (Stop WalkFault)} (Err (Unsupported feature f.block)) (Err why) = e in
    let q : Unsupported feature f.block ≡ why = cc in
    subst (Told image seen how) q (of n live (in-features image seen n f (feature, f.block) found (subst (λ a. In (feature, f.block) (tested_features image seen n.expected f a)) (sym t) (inl refl))))

looked-told : {K : Type 0} (image : List ℕ) (seen : Seen) (kind : TreeKind) (how : LookUp) (shape : Shape K) (named : ℕ → Option ℕ) (at : NodeAt) (why : Stop WalkFault) → IsWalkOf image seen kind how shape named → (m : IsNamedAt image seen kind how at) →
    Looked image seen shape named at m.naming → node_named shape (site_of seen) image at (block_named (site_of seen) named at.oid) ≡ Err why → Told image seen how why
looked-told image seen kind how shape named at why walk m (inl (r, none)) e =
    let z : ◌≡◌ {A = Result (List ℕ) (Stop WalkFault)} (Err (Fails (walks.Unnamed at.oid))) (Err why) = sym none ∙ e in
    let q : Fails (walks.Unnamed at.oid) ≡ why = cc in
    subst (Told image seen how) q (record {
      naming = m.naming;
      live = m.live;
      lost = r;
      shown = record { within_is = ap within_of (sym m.how_is); oid_is = sym m.oid_is; xid_is = ap (xid_of seen) (sym m.how_is) };
    })
looked-told image seen kind how shape named at why walk m (inr (f, (r, s))) e =
    let n : Naming = m.naming in
    let t : tested (site_of seen) n.expected n.oid f.bytes ≡ of_node (node_of shape at (site_of seen) f.bytes) =
    tests (site_of seen) kind at n.expected n.oid f.bytes m.oid_is m.as_is ∙ ap of_node (walk.answer at f.bytes) in
    judged-told image seen how n f (node_of shape at (site_of seen) f.bytes) why m.live r t (sym s ∙ e)

-- what is there where a walk meets no node
pub gap-told : {K : Type 0} (image : List ℕ) (seen : Seen) (kind : TreeKind) (how : LookUp) (shape : Shape K) (named : ℕ → Option ℕ) → IsWalkOf image seen kind how shape named → (root : ℕ) → IsRootNaming image seen kind how root →
    (why : Stop WalkFault) → HasGap (tree_in shape (site_of seen) named image) root why → Told image seen how why
gap-told image seen kind how shape named walk root r why gap =
    let m = met-named image seen kind how shape named walk root r gap.at gap.met in
    looked-told image seen kind how shape named gap.at why walk m (looked image seen kind how shape named gap.at walk m) gap.gap

failed : {T E : Type 0} (r : Result T E) → is_ok r ≡ false → (e : E) × (r ≡ Err e)
failed (Ok x) f = absurd (cc)
failed (Err e) f = (e, refl)

-- where nothing of that is there, the tree is walkable
pub walkable-from : {K : Type 0} (image : List ℕ) (seen : Seen) (kind : TreeKind) (how : LookUp) (shape : Shape K) (named : ℕ → Option ℕ) → IsWalkOf image seen kind how shape named → (root : ℕ) → IsRootNaming image seen kind how root →
    ((why : Stop WalkFault) → Told image seen how why → ⊥) → is_walkable (tree_in shape (site_of seen) named image) root ≡ true
walkable-from {K} image seen kind how shape named walk root r none =
    let tree : Tree K = tree_in shape (site_of seen) named image in
    all-of (has_node tree) (places_of tree root) (λ at h. elim (test_or (has_node tree at)) as (λ _. has_node tree at ≡ true) [
      | inl y ↦ y
      | inr f ↦
          let t = failed (tree.look at) f in
          absurd (none t.0 (gap-told image seen kind how shape named walk root r t.0 (record { at = at; met = (places-met tree root (tree-levelled shape (site_of seen) named image)).0 at h; gap = t.1 })))
    ])

-- the fault of a node that a walk from a named root tells of is present
pub walk-present : {K : Type 0} (image : List ℕ) (seen : Seen) (kind : TreeKind) (how : LookUp) (shape : Shape K) (named : ℕ → Option ℕ) → IsWalkOf image seen kind how shape named → (root : ℕ) → IsRootNaming image seen kind how root →
    (block : ℕ) (why : WalkFault) → IsNodeFault (tree_in shape (site_of seen) named image) root why → Present image seen (of_walk (within_of how) (xid_of seen how) block why)
walk-present image seen kind how shape named walk root r block (walks.Unsound at part) gap = gap-told image seen kind how shape named walk root r (Fails (walks.Unsound at part)) gap
walk-present image seen kind how shape named walk root r block (walks.Unnamed oid) gap = gap-told image seen kind how shape named walk root r (Fails (walks.Unnamed oid)) gap
walk-present image seen kind how shape named walk root r block (walks.Order item) gap = absurd gap
walk-present image seen kind how shape named walk root r block walks.Counts gap = absurd gap
