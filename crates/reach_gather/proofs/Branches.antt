-- What a tree adds that was walked.
use Rattle.std.proofs.Common.{◌≡◌, ℕ, Option, None, Some, List, [], ◌∷◌, ◌++◌, map, inl, inr, refl, ap, sym, ◌∙◌, subst}
use Rattle.std.proofs.lemmas.List.{append-nil}
use Rattle.apfs_model.specs.Lists.{In}
use Rattle.apfs_model.proofs.Searches.{from-map}
use Rattle.bt_cursor.specs.declared.step.Step.{Step}
use Rattle.nx_ring.specs.Checkpoint.{Seen}
use Rattle.reach_rules.specs.declared.naming.LookUp.TheVariants.{ByBlock, ByMapping}
use Rattle.reach_rules.specs.declared.naming.Object.{Object}
use Rattle.reach_rules.specs.declared.naming.Object.TheVariants.{InBlock, OfId}
use Rattle.reach_rules.specs.declared.naming.TreeKind.{TreeKind}
use Rattle.reach_rules.specs.declared.naming.Expected.{Expected}
use Rattle.reach_rules.specs.declared.naming.Expected.TheVariants.{SpaceManager, ContainerMap, ReaperObject, ReapList, Jumpstart, VolumeIn, VolumeMap, ExtendedMetadata, SnapshotSuper, AddressBlock, InfoBlock, TreeRoot, TreeNode}
use Rattle.reach_rules.specs.declared.naming.Naming.{Naming}
use Rattle.reach_rules.specs.Trees.{IsRightTree}
use Rattle.reach_rules.specs.Owners.{owners_through, tree_owners}
use Rattle.reach_rules.specs.PoolOwners.{pool_owners_through, pool_tree_owners}
use Rattle.reach_gather.specs.Account.{AreRightTrees}
use Rattle.reach_gather.specs.Namings.{level_below, step_naming, tree_namings, IsPlainNaming, AreNamingsOf}
use Rattle.reach_gather.proofs.Joined.{part-tree}
use Rattle.reach_gather.proofs.ViewParts.{outside-views}
use Rattle.reach_gather.specs.ViewParts.{is_in_view}
use Rattle.reach_gather.specs.Held.{Held, Grew, IsOwnerThrough, GrewBy, some_owners}
use Rattle.reach_gather.specs.Adds.{Adds}
use Rattle.reach_gather.specs.Steps.{block_steps, id_steps, block_owner}
use Rattle.reach_gather.proofs.Growing.{grew-none, grew-put, fits-more, grewby-one, grewby-join}
use Rattle.reach_gather.proofs.Owning.{own-block, pool-block, own-id, pool-id, OwnBlocks, grewby-blocks}

-- a naming of a step is looked up as the root is, and expects a node of a level
record IsBelow (kind : TreeKind) (root n : Naming) : Type 0 where
  level : ℕ
  how_is : n.how ≡ root.how
  expects : n.expected ≡ TreeNode kind level

below : (object : ℕ → Object) (kind : TreeKind) (root : Naming) (steps : List Step) (n : Naming) → In n (map (step_naming object kind root.how) steps) → IsBelow kind root n
below object kind root steps n h =
    let t = from-map (step_naming object kind root.how) steps n h in
    record { level = level_below t.0.level; how_is = ap (λ (m : Naming). m.how) t.1.1; expects = ap (λ (m : Naming). m.expected) t.1.1 }

-- the nodes below a root own their blocks
pub nodes-own : (image : List ℕ) (seen : Seen) (kind : TreeKind) (root : Naming) (steps : List Step) → root.how ≡ ByBlock → AreNamingsOf image seen root (tree_namings InBlock kind root steps) → OwnBlocks image seen (map (step_naming InBlock kind root.how) steps)
nodes-own image seen kind root steps how are = record {
  owners = λ n h. let b = below InBlock kind root steps n h in own-block image seen n (TreeNode kind b.level) (are.plain n (inr h)) (b.how_is ∙ how) b.expects refl;
  pool_owners = λ n h. let b = below InBlock kind root steps n h in pool-block image seen n (TreeNode kind b.level) (are.plain n (inr h)) (b.how_is ∙ how) b.expects refl;
}

-- the owners through the naming of a root
pub root-owners : (image : List ℕ) (seen : Seen) (kind : TreeKind) (root : Naming) (p : IsPlainNaming image seen root) → root.how ≡ ByBlock → root.expected ≡ TreeRoot kind → owners_through image seen root ≡ block_owner root ∷ tree_owners image seen root kind
root-owners image seen kind root p how is = own-block image seen root (TreeRoot kind) p how is refl

pub root-pool : (image : List ℕ) (seen : Seen) (kind : TreeKind) (root : Naming) (p : IsPlainNaming image seen root) → root.how ≡ ByBlock → root.expected ≡ TreeRoot kind → pool_owners_through image seen root ≡ pool_tree_owners image seen root kind
root-pool image seen kind root p how is = pool-block image seen root (TreeRoot kind) p how is refl

kind-in : Expected → Option TreeKind
kind-in SpaceManager = None
kind-in ContainerMap = None
kind-in ReaperObject = None
kind-in ReapList = None
kind-in Jumpstart = None
kind-in (VolumeIn slot) = None
kind-in VolumeMap = None
kind-in ExtendedMetadata = None
kind-in (SnapshotSuper view) = None
kind-in (AddressBlock i) = None
kind-in (InfoBlock i) = None
kind-in (TreeRoot kind) = Some kind
kind-in (TreeNode kind level) = None

-- of a tree that was walked the root alone is named as one
pub tree-right : (image : List ℕ) (seen : Seen) (object : ℕ → Object) (kind : TreeKind) (root : Naming) (steps : List Step) → root.expected ≡ TreeRoot kind → IsRightTree image seen kind root.oid → AreRightTrees image seen (tree_namings object kind root steps)
unfolding kind-in
tree-right image seen object kind root steps is right n k (inl e) at =
    let same : Some kind ≡ Some k = ap kind-in (sym is) ∙ (ap (λ (m : Naming). kind-in m.expected) (sym e) ∙ ap kind-in at) in
    let kinds : kind ≡ k = cc in
    subst (λ (m : Naming). IsRightTree image seen k m.oid) (sym e) (subst (λ x. IsRightTree image seen x root.oid) kinds right)
tree-right image seen object kind root steps is right n k (inr h) at =
    let b = below object kind root steps n h in
    absurd (let none : None ≡ Some k = ap kind-in (sym b.expects) ∙ ap kind-in at in let q : ⊥ = cc in q)

-- a tree of physical nodes, from the naming of its root on: what its root tells was added with it, and then the nodes below
pub tree-adds : (image : List ℕ) (seen : Seen) (kind : TreeKind) (root : Naming) (steps : List Step) (a b c : Held) → root.how ≡ ByBlock → root.expected ≡ TreeRoot kind → AreNamingsOf image seen root (tree_namings InBlock kind root steps) → IsRightTree image seen kind root.oid
    → pool_tree_owners image seen root kind ≡ []
    → b.namings ≡ a.namings ++ root ∷ [] → b.owners ≡ a.owners ++ block_owner root ∷ some_owners (tree_owners image seen root kind) → b.pool_owners ≡ a.pool_owners
    → c.namings ≡ b.namings ++ block_steps kind steps → c.owners ≡ b.owners ++ map block_owner (block_steps kind steps) → c.pool_owners ≡ b.pool_owners
    → Adds image seen (root ∷ []) [] a c
tree-adds image seen kind root steps a b c how is are right pool p q r s t u =
    let plain : IsPlainNaming image seen root = are.plain root (inl refl) in
    let nodes : List Naming = map (step_naming InBlock kind root.how) steps in
    let same : block_steps kind steps ≡ nodes = ap (λ h. map (step_naming InBlock kind h) steps) (sym how) in
    record {
      these = root ∷ nodes;
      part = part-tree image seen root (root ∷ nodes) are;
      outside = (outside-views image seen).tree InBlock kind root steps (ap is_in_view how);
      trees = tree-right image seen InBlock kind root steps is right;
      grew = grewby-join image seen (root ∷ []) nodes a b c
          (grewby-one image seen root a b p
          (q ∙ ap (λ xs. a.owners ++ some_owners xs) (sym (root-owners image seen kind root plain how is)))
          (r ∙ (sym (append-nil a.pool_owners) ∙ ap (λ xs. a.pool_owners ++ some_owners xs) (sym (root-pool image seen kind root plain how is ∙ pool)))))
          (grewby-blocks image seen nodes b c (nodes-own image seen kind root steps how are) (s ∙ ap (λ xs. b.namings ++ xs) same) (t ∙ ap (λ xs. b.owners ++ map block_owner xs) same) u);
    }

-- the nodes of a tree of ephemeral ones own nothing
pub record OwnNothing (image : List ℕ) (seen : Seen) (ns : List Naming) : Type 0 where
  pub owners : (n : Naming) → In n ns → owners_through image seen n ≡ []
  pub pool_owners : (n : Naming) → In n ns → pool_owners_through image seen n ≡ []

pub grewby-nothing : (image : List ℕ) (seen : Seen) (ns : List Naming) (a b : Held) → OwnNothing image seen ns → b.namings ≡ a.namings ++ ns → b.owners ≡ a.owners → b.pool_owners ≡ a.pool_owners → GrewBy image seen ns a b
grewby-nothing image seen ns a b own p q r = record {
  namings = grew-put a.namings b.namings ns (λ n. In n ns) p (λ n h. h) (λ n h. h);
  fits = fits-more a.namings b.namings ns p;
  owners = subst (λ xs. Grew a.owners xs (IsOwnerThrough (owners_through image seen) ns)) (sym q) (grew-none a.owners (IsOwnerThrough (owners_through image seen) ns) (λ o w. subst (λ xs. In o xs) (own.owners w.naming w.one) w.owner));
  pool_owners = subst (λ xs. Grew a.pool_owners xs (IsOwnerThrough (pool_owners_through image seen) ns)) (sym r) (grew-none a.pool_owners (IsOwnerThrough (pool_owners_through image seen) ns) (λ o w. subst (λ xs. In o xs) (own.pool_owners w.naming w.one) w.owner));
}

ids-own : (image : List ℕ) (seen : Seen) (kind : TreeKind) (root : Naming) (steps : List Step) → root.how ≡ ByMapping → AreNamingsOf image seen root (tree_namings OfId kind root steps) → OwnNothing image seen (map (step_naming OfId kind root.how) steps)
ids-own image seen kind root steps how are = record {
  owners = λ n h. let b = below OfId kind root steps n h in own-id image seen n (TreeNode kind b.level) (are.plain n (inr h)) (b.how_is ∙ how) b.expects;
  pool_owners = λ n h. let b = below OfId kind root steps n h in pool-id image seen n (TreeNode kind b.level) (are.plain n (inr h)) (b.how_is ∙ how) b.expects;
}

-- a tree of ephemeral nodes, from the naming of its root on: what its root tells was added with it, and then the nodes below
pub queue-adds : (image : List ℕ) (seen : Seen) (kind : TreeKind) (root : Naming) (steps : List Step) (a b c : Held) → root.how ≡ ByMapping → root.expected ≡ TreeRoot kind → AreNamingsOf image seen root (tree_namings OfId kind root steps) → IsRightTree image seen kind root.oid
    → b.namings ≡ a.namings ++ root ∷ [] → b.owners ≡ a.owners ++ some_owners (tree_owners image seen root kind) → b.pool_owners ≡ a.pool_owners ++ some_owners (pool_tree_owners image seen root kind)
    → c.namings ≡ b.namings ++ id_steps kind steps → c.owners ≡ b.owners → c.pool_owners ≡ b.pool_owners
    → Adds image seen (root ∷ []) [] a c
queue-adds image seen kind root steps a b c how is are right p q r s t u =
    let plain : IsPlainNaming image seen root = are.plain root (inl refl) in
    let nodes : List Naming = map (step_naming OfId kind root.how) steps in
    let same : id_steps kind steps ≡ nodes = ap (λ h. map (step_naming OfId kind h) steps) (sym how) in
    record {
      these = root ∷ nodes;
      part = part-tree image seen root (root ∷ nodes) are;
      outside = (outside-views image seen).tree OfId kind root steps (ap is_in_view how);
      trees = tree-right image seen OfId kind root steps is right;
      grew = grewby-join image seen (root ∷ []) nodes a b c
          (grewby-one image seen root a b p
          (q ∙ ap (λ xs. a.owners ++ some_owners xs) (sym (own-id image seen root (TreeRoot kind) plain how is)))
          (r ∙ ap (λ xs. a.pool_owners ++ some_owners xs) (sym (pool-id image seen root (TreeRoot kind) plain how is))))
          (grewby-nothing image seen nodes b c (ids-own image seen kind root steps how are) (s ∙ ap (λ xs. b.namings ++ xs) same) t u);
    }
