-- What an object map adds that was loaded.
use Rattle.std.proofs.Common.{◌≡◌, ℕ, suc, ◌+◌, Bool, true, false, List, [], ◌∷◌, ◌++◌, length, map, inl, inr, refl, ap, sym, ◌∙◌, subst, arith, length-append}
use Rattle.std.specs.Prelude.{◌==◌, if◌then◌else◌}
use Rattle.std.proofs.lemmas.List.{length-map, append-nil, append_assoc}
use Rattle.apfs_model.proofs.BoolTests.{test_or, equal-from, from-equal}
use Rattle.obj_base.specs.declared.site.Site.{Site}
use Rattle.bt_cursor.specs.Met.{nodes_of}
use Rattle.bt_cursor.specs.Steps.{steps_of}
use Rattle.bt_cursor.specs.declared.step.Step.{Step}
use Rattle.bt_cursor.proofs.Wholes.{whole_means}
use Rattle.nx_ring.specs.Checkpoint.{Seen, site_of}
use Rattle.omap_map.specs.Fields as maps
use Rattle.omap_map.specs.Maps.{Contents, contents_of, map_in, record_tree, snapshot_tree, has_no_snapshots, is_whole_map, map_steps, map_snap_steps}
use Rattle.omap_map.specs.Loading.{map_nodes, IsLoaded}
use Rattle.reach_rules.specs.declared.naming.LookUp.TheVariants.{ByBlock}
use Rattle.reach_rules.specs.declared.naming.Object.TheVariants.{InBlock}
use Rattle.reach_rules.specs.declared.naming.Namer.TheVariants.{Whole}
use Rattle.reach_rules.specs.declared.naming.TreeKind.{TreeKind}
use Rattle.reach_rules.specs.declared.naming.TreeKind.TheVariants.{MapRecords, MapSnapshots, SnapMetadata}
use Rattle.reach_rules.specs.declared.naming.Expected.TheVariants.{TreeRoot}
use Rattle.reach_rules.specs.declared.naming.Naming.{Naming}
use Rattle.reach_rules.specs.Naming.{naming}
use Rattle.reach_rules.specs.Next.{unless_zero}
use Rattle.reach_rules.specs.declared.owner.Owner.{Owner}
use Rattle.reach_rules.specs.Owners.{owners_through, tree_owners}
use Rattle.reach_rules.specs.PoolOwners.{pool_owners_through, pool_tree_owners}
use Rattle.reach_rules.specs.Trees.{IsRightTree}
use Rattle.reach_gather.specs.Namings.{tree_steps, step_naming, tree_namings, IsPlainNaming, AreNamingsOf}
use Rattle.reach_gather.specs.Parts.{ExpectsMap}
use Rattle.reach_gather.specs.Walked.{IsWholeTree}
use Rattle.reach_gather.specs.Volumes.Parts.{IsMapPart, HasWholeMetadata}
use Rattle.vol_view.specs.Volumes.{Loaded}
use Rattle.space_map.proofs.Loads.{unequal}
use Rattle.reach_gather.proofs.Joined.{part-tree}
use Rattle.reach_gather.proofs.OfKinds.{records-kind, snapshots-kind, metadata-kind}
use Rattle.reach_gather.proofs.ViewParts.{outside-views}
use Rattle.reach_gather.proofs.Walking.{nodes-count, whole-namings}
use Rattle.reach_gather.proofs.VolumeLemmas.MapParts.{records-whole, snapshots-whole}
use Rattle.reach_gather.specs.Held.{Held}
use Rattle.reach_gather.specs.Adds.{Adds}
use Rattle.reach_gather.specs.Mapped.{records_root, snapshots_root, past_namings, loaded_namings}
use Rattle.reach_gather.specs.Steps.{block_steps, node_namings, block_owner}
use Rattle.reach_gather.specs.ViewParts.{is_in_view}
use Rattle.reach_gather.proofs.Branches.{nodes-own, root-owners, root-pool, tree-right}
use Rattle.reach_gather.proofs.Fields.{unless-by, unless-not, adds-zero, adds-some, map-adds}
use Rattle.reach_gather.proofs.Owning.{OwnBlocks, grewby-blocks}

-- ---- the nodes of a tree that tells nothing
nodes-all : (image : List ℕ) (seen : Seen) (kind : TreeKind) (root : Naming) (steps : List Step) → root.how ≡ ByBlock → root.expected ≡ TreeRoot kind → AreNamingsOf image seen root (tree_namings InBlock kind root steps)
    → tree_owners image seen root kind ≡ [] → pool_tree_owners image seen root kind ≡ [] → OwnBlocks image seen (tree_namings InBlock kind root steps)
nodes-all image seen kind root steps how is are none pool =
    let plain : IsPlainNaming image seen root = are.plain root (inl refl) in
    let below = nodes-own image seen kind root steps how are in
    record {
      owners = λ n h. elim h as (λ _. owners_through image seen n ≡ block_owner n ∷ []) [
        | inl e ↦ subst (λ x. owners_through image seen x ≡ block_owner x ∷ []) (sym e) (root-owners image seen kind root plain how is ∙ ap (λ os. block_owner root ∷ os) none)
        | inr k ↦ below.owners n k
      ];
      pool_owners = λ n h. elim h as (λ _. pool_owners_through image seen n ≡ []) [
        | inl e ↦ subst (λ x. pool_owners_through image seen x ≡ []) (sym e) (root-pool image seen kind root plain how is ∙ pool)
        | inr k ↦ below.pool_owners n k
      ];
    }

-- such a tree, from the naming of its root on
pub nodes-add : (image : List ℕ) (seen : Seen) (kind : TreeKind) (root : Naming) (steps : List Step) (a b : Held) → root.how ≡ ByBlock → root.expected ≡ TreeRoot kind → AreNamingsOf image seen root (tree_namings InBlock kind root steps) → IsRightTree image seen kind root.oid
    → tree_owners image seen root kind ≡ [] → pool_tree_owners image seen root kind ≡ []
    → b.namings ≡ a.namings ++ node_namings kind root steps → b.owners ≡ a.owners ++ map block_owner (node_namings kind root steps) → b.pool_owners ≡ a.pool_owners
    → Adds image seen (root ∷ []) [] a b
nodes-add image seen kind root steps a b how is are right none pool p q r =
    let these : List Naming = tree_namings InBlock kind root steps in
    let same : node_namings kind root steps ≡ these = ap (λ h. root ∷ map (step_naming InBlock kind h) steps) (sym how) in
    record {
      these = these;
      part = part-tree image seen root these are;
      outside = (outside-views image seen).tree InBlock kind root steps (ap is_in_view how);
      trees = tree-right image seen InBlock kind root steps is right;
      grew = grewby-blocks image seen these a b (nodes-all image seen kind root steps how is are none pool) (p ∙ ap (λ xs. a.namings ++ xs) same) (q ∙ ap (λ xs. a.owners ++ map block_owner xs) same) r;
    }

-- ---- where a map has no tree of snapshots, and where it has one
pub past-none : (block : ℕ) (contents : Contents) → contents.snap_tree ≡ 0 → past_namings block contents ≡ []
past-none block contents e = unless-by (contents.snap_tree == 0) _ (from-equal contents.snap_tree 0 e)

pub past-some : (block : ℕ) (contents : Contents) → (contents.snap_tree ≡ 0 → ⊥) → past_namings block contents ≡ node_namings MapSnapshots (snapshots_root block contents) contents.snap_steps
past-some block contents not = unless-not (contents.snap_tree == 0) _ (unequal contents.snap_tree not)

-- ---- the trees of a map that was loaded
records-steps : (image : List ℕ) (seen : Seen) (block : ℕ) (contents : Contents) → contents ≡ contents_of image (site_of seen) block → contents.steps ≡ tree_steps image seen MapRecords contents.tree
unfolding map_steps tree_steps
records-steps image seen block contents same = ap (λ (c : Contents). c.steps) same ∙ ap (λ oid. steps_of (record_tree image (site_of seen)) oid) (ap (λ (c : Contents). c.tree) (sym same))

records-add : (image : List ℕ) (seen : Seen) (n : Naming) (contents : Contents) (a b : Held) → IsMapPart image seen n → contents ≡ contents_of image (site_of seen) n.oid
    → b.namings ≡ a.namings ++ node_namings MapRecords (records_root n.oid contents) contents.steps → b.owners ≡ a.owners ++ map block_owner (node_namings MapRecords (records_root n.oid contents) contents.steps) → b.pool_owners ≡ a.pool_owners
    → Adds image seen (records_root n.oid contents ∷ []) [] a b
records-add image seen n contents a b part same p q r =
    let root : Naming = records_root n.oid contents in
    let whole : IsWholeTree image seen MapRecords contents.tree = subst (IsWholeTree image seen MapRecords) (ap (λ (c : Contents). c.tree) (sym same)) part.records in
    nodes-add image seen MapRecords root contents.steps a b refl refl
    (whole-namings (records-kind image seen) contents.tree contents.steps whole (records-steps image seen n.oid contents same) root refl refl refl) whole.right refl refl p q r

snapshots-steps : (image : List ℕ) (seen : Seen) (block : ℕ) (contents : Contents) → contents ≡ contents_of image (site_of seen) block → (contents.snap_tree == 0) ≡ false → contents.snap_steps ≡ tree_steps image seen MapSnapshots contents.snap_tree
unfolding map_snap_steps tree_steps
snapshots-steps image seen block contents same some =
    let bytes : List ℕ = map_in image (site_of seen) block in
    let none : has_no_snapshots bytes ≡ false = ap (λ (c : Contents). c.snap_tree == 0) (sym same) ∙ some in
    ap (λ (c : Contents). c.snap_steps) same
    ∙ (ap (λ (b : Bool). if b then [] else steps_of (snapshot_tree image (site_of seen)) (maps.snap_tree_of bytes)) none
    ∙ ap (λ oid. steps_of (snapshot_tree image (site_of seen)) oid) (ap (λ (c : Contents). c.snap_tree) (sym same)))

snapshots-add : (image : List ℕ) (seen : Seen) (n : Naming) (contents : Contents) (a b : Held) → IsMapPart image seen n → contents ≡ contents_of image (site_of seen) n.oid → (contents.snap_tree ≡ 0 → ⊥)
    → b.namings ≡ a.namings ++ past_namings n.oid contents → b.owners ≡ a.owners ++ map block_owner (past_namings n.oid contents) → b.pool_owners ≡ a.pool_owners
    → Adds image seen (snapshots_root n.oid contents ∷ []) [] a b
snapshots-add image seen n contents a b part same not p q r =
    let root : Naming = snapshots_root n.oid contents in
    let some : (contents.snap_tree == 0) ≡ false = unequal contents.snap_tree not in
    let nodes : past_namings n.oid contents ≡ node_namings MapSnapshots root contents.snap_steps = past-some n.oid contents not in
    let whole : IsWholeTree image seen MapSnapshots contents.snap_tree =
    subst (IsWholeTree image seen MapSnapshots) (ap (λ (c : Contents). c.snap_tree) (sym same)) (part.snapshots (ap (λ (c : Contents). c.snap_tree == 0) (sym same) ∙ some)) in
    nodes-add image seen MapSnapshots root contents.snap_steps a b refl refl
    (whole-namings (snapshots-kind image seen) contents.snap_tree contents.snap_steps whole (snapshots-steps image seen n.oid contents same some) root refl refl refl) whole.right refl refl
    (p ∙ ap (λ xs. a.namings ++ xs) nodes) (q ∙ ap (λ xs. a.owners ++ map block_owner xs) nodes) r

held-same : (a b : Held) → b.namings ≡ a.namings → b.owners ≡ a.owners → b.pool_owners ≡ a.pool_owners → a ≡ b
held-same a b p q r = λ i. record { namings = sym p i; owners = sym q i; pool_owners = sym r i }

past-add : (image : List ℕ) (seen : Seen) (n : Naming) (contents : Contents) (a b : Held) → IsMapPart image seen n → contents ≡ contents_of image (site_of seen) n.oid
    → b.namings ≡ a.namings ++ past_namings n.oid contents → b.owners ≡ a.owners ++ map block_owner (past_namings n.oid contents) → b.pool_owners ≡ a.pool_owners
    → Adds image seen (unless_zero (Whole (InBlock n.oid)) 56 (TreeRoot MapSnapshots) ByBlock contents.snap_tree) [] a b
past-add image seen n contents a b part same p q r = elim (test_or (contents.snap_tree == 0)) as (λ _. Adds image seen (unless_zero (Whole (InBlock n.oid)) 56 (TreeRoot MapSnapshots) ByBlock contents.snap_tree) [] a b) [
  | inl t ↦
      let zero : contents.snap_tree ≡ 0 = equal-from contents.snap_tree 0 t in
      let none : past_namings n.oid contents ≡ [] = past-none n.oid contents zero in
      subst (Adds image seen (unless_zero (Whole (InBlock n.oid)) 56 (TreeRoot MapSnapshots) ByBlock contents.snap_tree) [] a)
      (held-same a b (p ∙ (ap (λ xs. a.namings ++ xs) none ∙ append-nil a.namings)) (q ∙ (ap (λ xs. a.owners ++ map block_owner xs) none ∙ append-nil a.owners)) r)
      (adds-zero image seen (Whole (InBlock n.oid)) 56 (TreeRoot MapSnapshots) ByBlock contents.snap_tree a zero)
  | inr f ↦
      let not : contents.snap_tree ≡ 0 → ⊥ = λ e. let z : true ≡ false = sym (from-equal contents.snap_tree 0 e) ∙ f in let k : ⊥ = cc in k in
      adds-some image seen (Whole (InBlock n.oid)) 56 (TreeRoot MapSnapshots) ByBlock contents.snap_tree [] a b not (snapshots-add image seen n contents a b part same not p q r)
]

-- ---- the snapshot metadata of a volume
pub metadata-add : (image : List ℕ) (seen : Seen) (volume : Loaded) (root : Naming) (steps : List Step) (a b : Held) → HasWholeMetadata image seen volume → root.how ≡ ByBlock → root.expected ≡ TreeRoot SnapMetadata → root.oid ≡ volume.snaps_root → (volume.snaps_root ≡ 0 → ⊥) → steps ≡ volume.snaps_steps
    → b.namings ≡ a.namings ++ node_namings SnapMetadata root steps → b.owners ≡ a.owners ++ map block_owner (node_namings SnapMetadata root steps) → b.pool_owners ≡ a.pool_owners
    → Adds image seen (root ∷ []) [] a b
metadata-add image seen volume root steps a b whole how is at not taken p q r =
    let some : (volume.snaps_root == 0) ≡ false = unequal volume.snaps_root not in
    nodes-add image seen SnapMetadata root steps a b how is
    (whole-namings (metadata-kind image seen) volume.snaps_root steps (whole.whole some) (taken ∙ whole.steps some) root is how at)
    (subst (IsRightTree image seen SnapMetadata) (sym at) (whole.whole some).right) refl refl p q r

-- ---- the map, from its naming on
pub loaded-adds : (image : List ℕ) (seen : Seen) (n : Naming) (contents : Contents) (a b c d : Held) → n.how ≡ ByBlock → ExpectsMap n.expected → IsMapPart image seen n → contents ≡ contents_of image (site_of seen) n.oid
    → b.namings ≡ a.namings ++ n ∷ [] → b.owners ≡ a.owners ++ block_owner n ∷ [] → b.pool_owners ≡ a.pool_owners
    → c.namings ≡ b.namings ++ node_namings MapRecords (records_root n.oid contents) contents.steps → c.owners ≡ b.owners ++ map block_owner (node_namings MapRecords (records_root n.oid contents) contents.steps) → c.pool_owners ≡ b.pool_owners
    → d.namings ≡ c.namings ++ past_namings n.oid contents → d.owners ≡ c.owners ++ map block_owner (past_namings n.oid contents) → d.pool_owners ≡ c.pool_owners
    → Adds image seen (n ∷ []) [] a d
loaded-adds image seen n contents a b c d how expects part same p q r s t u v w x =
    map-adds image seen n contents.tree contents.snap_tree a b c d how expects part (ap (λ (k : Contents). k.tree) same) (ap (λ (k : Contents). k.snap_tree) same) p q r
    (records-add image seen n contents b c part same s t u) (past-add image seen n contents c d part same v w x)

-- the namings that were noted, one part after the other
pub loaded-noted : (n : Naming) (contents : Contents) (a b c d : List Naming) → b ≡ a ++ n ∷ [] → c ≡ b ++ node_namings MapRecords (records_root n.oid contents) contents.steps → d ≡ c ++ past_namings n.oid contents → d ≡ a ++ loaded_namings n contents
loaded-noted n contents a b c d p q r =
    let records : List Naming = node_namings MapRecords (records_root n.oid contents) contents.steps in
    let past : List Naming = past_namings n.oid contents in
    r ∙ (ap (λ xs. xs ++ past) (q ∙ ap (λ xs. xs ++ records) p) ∙ (ap (λ xs. xs ++ past) (append_assoc a (n ∷ []) records) ∙ append_assoc a (n ∷ records) past))

-- ---- as they are noted
pub nodes-noted : (kind : TreeKind) (root : Naming) (steps : List Step) (a b c : List Naming) → b ≡ a ++ root ∷ [] → c ≡ b ++ block_steps kind steps → c ≡ a ++ node_namings kind root steps
nodes-noted kind root steps a b c p q = q ∙ (ap (λ xs. xs ++ block_steps kind steps) p ∙ append_assoc a (root ∷ []) (block_steps kind steps))

pub nodes-owned : (kind : TreeKind) (root : Naming) (steps : List Step) (a b c : List Owner) → b ≡ a ++ block_owner root ∷ [] → c ≡ b ++ map block_owner (block_steps kind steps) → c ≡ a ++ map block_owner (node_namings kind root steps)
nodes-owned kind root steps a b c p q = q ∙ (ap (λ xs. xs ++ map block_owner (block_steps kind steps)) p ∙ append_assoc a (block_owner root ∷ []) (map block_owner (block_steps kind steps)))

-- the naming of a root
abbrev root_at : ℕ → ℕ → TreeKind → ℕ → Naming
root_at block at tree oid = naming (Whole (InBlock block)) at (TreeRoot tree) ByBlock oid

pub records-are : (block : ℕ) (contents : Contents) (root : Naming) (oid : ℕ) (steps : List Step) → root ≡ root_at block 48 MapRecords oid → oid ≡ contents.tree → steps ≡ contents.steps → node_namings MapRecords root steps ≡ node_namings MapRecords (records_root block contents) contents.steps
records-are block contents root oid steps is at taken =
    ap (λ (n : Naming). node_namings MapRecords n steps) (is ∙ ap (root_at block 48 MapRecords) at) ∙ ap (node_namings MapRecords (records_root block contents)) taken

pub past-are : (block : ℕ) (contents : Contents) (root : Naming) (oid : ℕ) (steps : List Step) → root ≡ root_at block 56 MapSnapshots oid → oid ≡ contents.snap_tree → (oid ≡ 0 → ⊥) → steps ≡ contents.snap_steps → node_namings MapSnapshots root steps ≡ past_namings block contents
past-are block contents root oid steps is at not taken =
    ap (λ (n : Naming). node_namings MapSnapshots n steps) (is ∙ ap (root_at block 56 MapSnapshots) at)
    ∙ (ap (node_namings MapSnapshots (snapshots_root block contents)) taken ∙ sym (past-some block contents (λ z. not (at ∙ z))))

pub past-noted : (block : ℕ) (contents : Contents) (oid : ℕ) (a : List Naming) → oid ≡ contents.snap_tree → oid ≡ 0 → a ≡ a ++ past_namings block contents
past-noted block contents oid a at zero = sym (ap (λ xs. a ++ xs) (past-none block contents (sym at ∙ zero)) ∙ append-nil a)

pub past-owned : (block : ℕ) (contents : Contents) (oid : ℕ) (a : List Owner) → oid ≡ contents.snap_tree → oid ≡ 0 → a ≡ a ++ map block_owner (past_namings block contents)
past-owned block contents oid a at zero = sym (ap (λ xs. a ++ map block_owner xs) (past-none block contents (sym at ∙ zero)) ∙ append-nil a)

-- ---- as many namings as reads
tree-count : (f : Step → Naming) (root : Naming) (steps : List Step) → length (root ∷ map f steps) ≡ suc (length steps)
tree-count f root steps = ap suc (length-map steps f)

past-count : (image : List ℕ) (site : Site) (block at : ℕ) → is_whole_map image site block ≡ true → length (past_namings at (contents_of image site block)) ≡ (if has_no_snapshots (map_in image site block) then 0 else length (nodes_of (snapshot_tree image site) (maps.snap_tree_of (map_in image site block))))
unfolding map_snap_steps
past-count image site block at whole =
    let root : ℕ = maps.snap_tree_of (map_in image site block) in
    let steps : List Step = steps_of (snapshot_tree image site) root in
    let top : Naming = snapshots_root at (contents_of image site block) in
    let go : (b : Bool) → (root == 0) ≡ b → length (if b then [] else node_namings MapSnapshots top (if b then [] else steps)) ≡ (if b then 0 else length (nodes_of (snapshot_tree image site) root)) =
    λ b. elim b as (λ b. (root == 0) ≡ b → length (if b then [] else node_namings MapSnapshots top (if b then [] else steps)) ≡ (if b then 0 else length (nodes_of (snapshot_tree image site) root))) [
      | true ↦ λ e. refl
      | false ↦ λ e. tree-count (step_naming InBlock MapSnapshots ByBlock) top steps ∙ sym (nodes-count (snapshot_tree image site) root (whole_means (snapshot_tree image site) root (snapshots-whole image site block whole e)).walkable)
    ] in
    go (root == 0) refl

contents-count : (image : List ℕ) (site : Site) (block : ℕ) (n : Naming) → is_whole_map image site block ≡ true → length (loaded_namings n (contents_of image site block)) ≡ 1 + map_nodes image site block
unfolding map_steps map_nodes
contents-count image site block n whole =
    let contents : Contents = contents_of image site block in
    let root : ℕ = maps.tree_of (map_in image site block) in
    let top : Naming = records_root n.oid contents in
    let records : length (node_namings MapRecords top contents.steps) ≡ length (nodes_of (record_tree image site) root) =
    tree-count (step_naming InBlock MapRecords ByBlock) top contents.steps ∙ sym (nodes-count (record_tree image site) root (whole_means (record_tree image site) root (records-whole image site block whole)).walkable) in
    let past = past-count image site block n.oid whole in
    let all : length (node_namings MapRecords top contents.steps ++ past_namings n.oid contents) ≡ length (node_namings MapRecords top contents.steps) + length (past_namings n.oid contents) = length-append (node_namings MapRecords top contents.steps) (past_namings n.oid contents) in
    ap suc all ∙ (ap (λ k. suc (k + length (past_namings n.oid contents))) records ∙ (ap (λ k. suc (length (nodes_of (record_tree image site) root) + k)) past ∙ (let one : (k : ℕ) → suc k ≡ 1 + k = λ k. omega arith in one _)))

pub loaded-count : (image : List ℕ) (site : Site) (block : ℕ) (contents : Contents) (n : Naming) → IsLoaded image site block contents → length (loaded_namings n contents) ≡ 1 + map_nodes image site block
loaded-count image site block contents n loaded = ap (λ (c : Contents). length (loaded_namings n c)) loaded.same ∙ contents-count image site block n loaded.whole
