-- What records give to the views that share them is what the views hold.
use Rattle.std.proofs.Common.{◌≡◌, ℕ, ◌-◌, ◌^◌, ◌<◌, Bool, true, false, List, length, Option, Some, Result, Ok, is_ok, ◌⊎◌, inl, inr, refl, ap, sym, ◌∙◌, subst, arith, if◌then◌else◌}
use Rattle.std.specs.Prelude.{◌↔◌, slice_get}
use Rattle.apfs_model.specs.Blocks.{is_in}
use Rattle.apfs_model.specs.Lists.{In}
use Rattle.apfs_model.proofs.BoolTests.{from-equal}
use Rattle.apfs_model.proofs.Searches.{get-in}
use Rattle.obj_base.specs.declared.site.Site.{Site}
use Rattle.obj_base.specs.declared.stop.Stop.{Stop}
use Rattle.bt_node.specs.Node.{level_of}
use Rattle.bt_node.specs.Entries.{Pair, pairs_of}
use Rattle.bt_node.specs.Shape.{Shape}
use Rattle.bt_node.specs.declared.node.NodeAt.{NodeAt}
use Rattle.bt_node.specs.Soundness.{node_of}
use Rattle.bt_keys.specs.Shapes.{fs_shape, fs_plain_shape}
use Rattle.bt_cursor.specs.declared.fault.WalkFault.{WalkFault}
use Rattle.bt_cursor.specs.Tree.{Tree}
use Rattle.bt_cursor.specs.Flat.{flat_of}
use Rattle.bt_cursor.proofs.Nodes.{node-child}
use Rattle.bt_cursor.proofs.Places.{tree-levelled}
use Rattle.nx_ring.specs.Checkpoint.{Seen, site_of}
use Rattle.fs_name.specs.Normal.{are_hashed}
use Rattle.fs_record.specs.Facts.{told_by}
use Rattle.fs_record.specs.declared.extents.FileExt.{FileExt}
use Rattle.vol_view.specs.Volumes.{Loaded}
use Rattle.vol_view.specs.Views.{view_named, view_tree, view_flat, hashed_tree, plain_tree}
use Rattle.piece_count.specs.Covered.{is_covered}
use Rattle.piece_count.specs.declared.piece.Holdings.{Holdings}
use Rattle.reach_rules.specs.declared.naming.LookUp.TheVariants.{InView}
use Rattle.reach_rules.specs.declared.naming.Object.TheVariants.{OfRecord}
use Rattle.reach_rules.specs.declared.naming.Namer.{Namer}
use Rattle.reach_rules.specs.declared.naming.TreeKind.TheVariants.{Files}
use Rattle.reach_rules.specs.declared.naming.Expected.{Expected}
use Rattle.reach_rules.specs.declared.naming.Expected.TheVariants.{ExtendedMetadata, TreeRoot, TreeNode}
use Rattle.reach_rules.specs.declared.naming.Naming.{Naming}
use Rattle.reach_rules.specs.Resolved.{Found, standing, resolved}
use Rattle.reach_rules.specs.Tested.{tested}
use Rattle.reach_rules.specs.Next.{next}
use Rattle.reach_rules.specs.Live.{Live, IsLive}
use Rattle.reach_rules.proofs.Walks.{IsWalkOf, IsNamedAt, met-named}
use Rattle.reach_gather.proofs.Law.{Expects}
use Rattle.view_sweep.specs.declared.sets.ViewSet.{ViewSet}
use Rattle.view_sweep.specs.declared.wanted.SweptView.{SweptView}
use Rattle.view_sweep.specs.declared.used.Reach.{Reach}
use Rattle.view_sweep.specs.declared.used.Share.{Share}
use Rattle.view_sweep.specs.declared.used.SharedAs.{SharedAs}
use Rattle.view_sweep.specs.declared.used.SharedAs.TheVariants.{Root, Metadata, Node}
use Rattle.view_sweep.specs.Wanted.{view_at}
use Rattle.view_sweep.specs.Named.{head_namings}
use Rattle.view_sweep.specs.Sets.{view_of, IsFirst}
use Rattle.view_sweep.specs.Shared.{head_views, expected_as, is_shared}
use Rattle.view_sweep.proofs.Reached.{live-from}
use Rattle.view_sweep.proofs.Shared.{IsMetIn, IsSharedIn, shared-block}
use Rattle.use_report.specs.Given.{IsGiven}
use Rattle.use_report.specs.Heads.{swept_of}
use Rattle.use_report.specs.Held.{IsRecordHeld, IsExtentHeld, IsHeld}
use Rattle.use_report.specs.Leaves.{IsOfRecords, IsPlacedRecord, IsOfLeaf, IsOfNode, IsPlacedNode}
use Rattle.use_report.specs.Runs.{head_place}
use Rattle.use_report.specs.Sharing.{may_be_leaf, bytes_of, IsPlacedShare, IsOfShares, AreShared, IsOwn, AddsOwns, IsReachOf, AreHeldBy}
use Rattle.use_report.specs.Views.{views_kept, at_of}
use Rattle.use_report.specs.declared.kept.KeptView.{KeptView}
use Rattle.use_report.proofs.Headed.{supers_of, view-at, first-at, placed-views, heads-live, live-headed}
use Rattle.use_report.proofs.Holds.{container-in, node-in, covered-in, super-in}
use Rattle.use_report.proofs.Flats.{IsInLeaf, flat-leaf, leaf-flat, fact-from, fact-in}
use Rattle.use_report.proofs.Lists.{one-some, below-length}
use Rattle.use_report.proofs.Sets.{in-below}
use Rattle.use_report.proofs.Viewed.{node-look, viewed}
use Rattle.use_report.proofs.Walked.{hashed-walk, plain-walk, view-root, resolved-block, named-inside}

-- ---- as what a record is expected
not-metadata : (hashed : Bool) (x : SharedAs) → may_be_leaf x ≡ true → expected_as hashed x ≡ ExtendedMetadata → ⊥
not-metadata hashed Root l e = cc
not-metadata hashed Metadata l e = let z : false ≡ true = l in cc
not-metadata hashed (Node level) l e = cc

-- whether names are hashed, as it is expected
hashed-as : (hashed h : Bool) (x : SharedAs) (at : NodeAt) → Expects (Files hashed) at (expected_as h x) → may_be_leaf x ≡ true → h ≡ hashed
hashed-as hashed h Root at (inl t) l = let z : ◌≡◌ {A = Expected} (TreeRoot (Files h)) (TreeRoot (Files hashed)) = t.0 in cc
hashed-as hashed h Root at (inr t) l = absurd (let z : ◌≡◌ {A = Expected} (TreeRoot (Files h)) (TreeNode (Files hashed) t.0) = t.1.1.0 in let q : ⊥ = cc in q)
hashed-as hashed h Metadata at e l = absurd (let z : false ≡ true = l in let q : ⊥ = cc in q)
hashed-as hashed h (Node level) at (inl t) l = absurd (let z : ◌≡◌ {A = Expected} (TreeNode (Files h) level) (TreeRoot (Files hashed)) = t.0 in let q : ⊥ = cc in q)
hashed-as hashed h (Node level) at (inr t) l = let z : ◌≡◌ {A = Expected} (TreeNode (Files h) level) (TreeNode (Files hashed) t.0) = t.1.1.0 in cc

-- what is expected where a node of level 0 is met
leaf-as : (hashed h : Bool) (x : SharedAs) → (expected_as h x ≡ TreeRoot (Files hashed)) ⊎ (expected_as h x ≡ TreeNode (Files hashed) 0) → (may_be_leaf x ≡ true) × (h ≡ hashed)
leaf-as hashed h Root (inl e) = (refl, let z : ◌≡◌ {A = Expected} (TreeRoot (Files h)) (TreeRoot (Files hashed)) = e in cc)
leaf-as hashed h Root (inr e) = absurd (let z : ◌≡◌ {A = Expected} (TreeRoot (Files h)) (TreeNode (Files hashed) 0) = e in let q : ⊥ = cc in q)
leaf-as hashed h Metadata (inl e) = absurd (let z : ◌≡◌ {A = Expected} ExtendedMetadata (TreeRoot (Files hashed)) = e in let q : ⊥ = cc in q)
leaf-as hashed h Metadata (inr e) = absurd (let z : ◌≡◌ {A = Expected} ExtendedMetadata (TreeNode (Files hashed) 0) = e in let q : ⊥ = cc in q)
leaf-as hashed h (Node level) (inl e) = absurd (let z : ◌≡◌ {A = Expected} (TreeNode (Files h) level) (TreeRoot (Files hashed)) = e in let q : ⊥ = cc in q)
leaf-as hashed h (Node level) (inr e) =
    let z : ◌≡◌ {A = Expected} (TreeNode (Files h) level) (TreeNode (Files hashed) 0) = e in
    let low : level ≡ 0 = cc in
    let same : h ≡ hashed = cc in
    (from-equal level 0 low, same)

-- the level of a node that is met, as it is expected
level-as : {K : Type 0} (shape : Shape K) (site : Site) (kind : Bool) (at : NodeAt) (e : Expected) (node : List ℕ) → node_of shape at site node ≡ Ok node → level_of node ≡ 0 → Expects (Files kind) at e → (e ≡ TreeRoot (Files kind)) ⊎ (e ≡ TreeNode (Files kind) 0)
level-as shape site kind at e node ok leaf (inl t) = inl t.0
level-as shape site kind at e node ok leaf (inr t) =
    let level : level_of node ≡ t.0 = node-child shape site at node t.0 t.1.0 ok t.1.1.1 in
    inr (t.1.1.0 ∙ ap (TreeNode (Files kind)) (sym level ∙ leaf))

expects-same : (e x : Expected) (kind : Bool) → e ≡ x → (e ≡ TreeRoot (Files kind)) ⊎ (e ≡ TreeNode (Files kind) 0) → (x ≡ TreeRoot (Files kind)) ⊎ (x ≡ TreeNode (Files kind) 0)
expects-same e x kind s (inl t) = inl (sym s ∙ t)
expects-same e x kind s (inr t) = inr (sym s ∙ t)

one-ok : (r : Result (List ℕ) (Stop WalkFault)) (a b : List ℕ) → r ≡ Ok a → r ≡ Ok b → a ≡ b
one-ok r a b x y = let z : ◌≡◌ {A = Result (List ℕ) (Stop WalkFault)} (Ok a) (Ok b) = sym x ∙ y in cc

one-found : (a b : Found) → ◌≡◌ {A = Option Found} (Some a) (Some b) → a ≡ b
one-found a b e = cc

-- the blocks of extents that lie in the container do
records-inside : (site : Site) (pairs : List Pair) (block : ℕ) → ((pair : Pair) → In pair pairs → IsPlacedRecord site pair) → IsOfRecords site pairs block → is_in block 0 site.blocks ≡ true
records-inside site pairs block placed o = covered-in site o.2.0 block (placed o.0 o.1 o.2.0 o.2.1) o.2.2

node-inside : (hashed : Bool) (site : Site) (bytes : List ℕ) (block : ℕ) → IsPlacedNode hashed site bytes → IsOfNode hashed site bytes block → is_in block 0 site.blocks ≡ true
node-inside true site bytes block placed o = records-inside site (pairs_of fs_shape bytes) block (placed o.0) o.1
node-inside false site bytes block placed o = records-inside site (pairs_of fs_plain_shape bytes) block (placed o.0) o.1

-- ---- a view and the records that it shares
-- a record that a view uses, in whose node a record of the view stands
pub record HasLeaf {K : Type 0} (image : List ℕ) (site : Site) (sets : List ViewSet) (shares : List Share) (hashed : Bool) (shape : Shape K) (p : ℕ) (pair : Pair) : Type 0 where
  pub by : Share
  pub one : In by shares
  pub has : is_shared sets by p ≡ true
  pub may : may_be_leaf by.expected ≡ true
  pub hashed_is : by.hashed ≡ hashed
  pub leaf : level_of (bytes_of image site by) ≡ 0
  pub listed : In pair (pairs_of shape (bytes_of image site by))

module _ (image : List ℕ) (seen : Seen) (volume : Loaded) (given : IsGiven image seen volume) (reach : Reach) (r : IsReachOf image seen volume (views_kept volume seen) reach) (v : ℕ) (kept : KeptView) (found : slice_get (views_kept volume seen) v ≡ Some kept) where
  abbrev site : Site
  site = site_of seen

  abbrev views : List KeptView
  views = views_kept volume seen

  abbrev p : ℕ
  p = head_place (length views) v

  abbrev supers : SweptView → Namer
  supers = supers_of image seen volume given

  abbrev first : List Naming
  first = head_namings supers r.heads

  abbrev sets : List ViewSet
  sets = reach.sets.items

  abbrev shares : List Share
  shares = reach.shares.items

  one : In kept views
  one = get-in views v kept found

  view-is : view_of (head_views r.heads) p ≡ swept_of volume kept
  view-is = view-at volume views r.heads r.of_views v kept found

  at-first : IsFirst (head_views r.heads) (view_of (head_views r.heads) p) p
  at-first = first-at volume views r.heads r.of_views (placed-views volume seen views refl) v kept found

  to-live : (n : Naming) → Live first (next image seen) n → IsLive image seen n
  to-live n l = live-from image seen first (heads-live image seen volume given r.heads r.of_views) n l

  -- a naming of the view, as it is looked up
  in-view : (n : Naming) → n.how ≡ InView (at_of volume kept) → n.how ≡ InView (view_at (view_of (head_views r.heads) p))
  in-view n how = how ∙ ap (λ (x : SweptView). InView (view_at x)) (sym view-is)

  from-view : (n : Naming) → n.how ≡ InView (view_at (view_of (head_views r.heads) p)) → n.how ≡ InView (at_of volume kept)
  from-view n how = how ∙ ap (λ (x : SweptView). InView (view_at x)) view-is

  -- ---- blocks of records
  record-met-in : (block : ℕ) → IsRecordHeld image seen volume kept block → IsMetIn image seen first (view_of (head_views r.heads) p) block
  record-met-in block h = record {
    naming = h.naming;
    object = h.object;
    live = live-headed image seen volume given r.heads r.of_views kept one h.naming h.names.live h.in_view;
    in_view = in-view h.naming h.in_view;
    found = h.names.found;
    block_is = h.block_is;
  }

  met-in-record : (block : ℕ) → IsMetIn image seen first (view_of (head_views r.heads) p) block → IsRecordHeld image seen volume kept block
  met-in-record block m = record { naming = m.naming; object = m.object; names = record { live = to-live m.naming m.live; found = m.found }; in_view = from-view m.naming m.in_view; block_is = m.block_is }

  pub record-shared : (block : ℕ) → IsRecordHeld image seen volume kept block ↔ IsSharedIn sets shares p block
  record-shared block =
      let s = shared-block image seen (head_views r.heads) first sets shares (r.shared supers) p at-first block in
      ((λ h. s.0 (record-met-in block h)), (λ h. met-in-record block (s.1 h)))

  -- ---- records of leaves
  -- an object to which a live naming resolves is sound
  sound-at : (n : Naming) (f : Found) → Live first (next image seen) n → resolved image seen n ≡ Some f → is_ok (tested site n.expected n.oid f.bytes) ≡ true
  sound-at n f l e =
      let plain = (r.reached supers).plain n l in
      let same : plain.object ≡ f = one-found plain.object f (sym plain.found ∙ e) in
      subst (λ (g : Found). is_ok (tested site n.expected n.oid g.bytes) ≡ true) same plain.sound

  abbrev named : ℕ → Option ℕ
  named = view_named site volume kept.view

  from-share : {K : Type 0} (shape : Shape K) → IsWalkOf image seen (Files (are_hashed volume.names)) (InView (at_of volume kept)) shape named → (s : Share) → In s shares → is_shared sets s p ≡ true → may_be_leaf s.expected ≡ true → level_of (bytes_of image site s) ≡ 0 →
      (pair : Pair) → In pair (pairs_of shape (bytes_of image site s)) → IsInLeaf (view_tree shape image site volume kept.view) kept.view.root_oid pair
  from-share shape walk s i has may leaf pair listed =
      let t = (r.shared supers).only s p i has in
      let n : Naming = t.naming in
      let f : Found = standing image site (OfRecord s.used.map s.used.mapping) s.used.mapping.paddr in
      let how = from-view n t.is.in_view in
      elim (viewed image seen volume given kept one shape named walk n (to-live n t.live) how) as (λ _. IsInLeaf (view_tree shape image site volume kept.view) kept.view.root_oid pair) [
        | inl x ↦
            let look = node-look image seen (Files (are_hashed volume.names)) (InView (at_of volume kept)) shape named walk x.0 n f how x.1.1.0 x.1.1.1 t.is.found (sound-at n f t.live t.is.found) in
            record { at = x.0; node = bytes_of image site s; met = x.1.0; found = look.0; leaf = leaf; one = listed }
        | inr x ↦ absurd (not-metadata s.hashed s.expected may (sym t.is.expected_is ∙ x.0))
      ]

  to-share : {K : Type 0} (shape : Shape K) → IsWalkOf image seen (Files (are_hashed volume.names)) (InView (at_of volume kept)) shape named → (pair : Pair) → IsInLeaf (view_tree shape image site volume kept.view) kept.view.root_oid pair → HasLeaf image site sets shares (are_hashed volume.names) shape p pair
  to-share shape walk pair l =
      let hashed : Bool = are_hashed volume.names in
      let m : IsNamedAt image seen (Files hashed) (InView (at_of volume kept)) l.at = met-named image seen (Files hashed) (InView (at_of volume kept)) shape named walk kept.view.root_oid (view-root image seen volume given kept one) l.at l.met in
      let n : Naming = m.naming in
      let live : Live first (next image seen) n = live-headed image seen volume given r.heads r.of_views kept one n m.live m.how_is in
      let u = (r.shared supers).each n p live at-first (in-view n m.how_is) in
      let s : Share = u.by in
      let f : Found = standing image site (OfRecord s.used.map s.used.mapping) s.used.mapping.paddr in
      let look = node-look image seen (Files hashed) (InView (at_of volume kept)) shape named walk l.at n f m.how_is m.oid_is m.as_is u.is.found (sound-at n f live u.is.found) in
      let bytes : bytes_of image site s ≡ l.node = one-ok ((view_tree shape image site volume kept.view).look l.at) (bytes_of image site s) l.node look.0 l.found in
      let leaf : level_of (bytes_of image site s) ≡ 0 = ap level_of bytes ∙ l.leaf in
      let expects = leaf-as hashed s.hashed s.expected (expects-same n.expected (expected_as s.hashed s.expected) hashed u.is.expected_is (level-as shape site hashed l.at n.expected (bytes_of image site s) look.1 leaf m.as_is)) in
      record {
        by = s;
        one = u.one;
        has = u.has;
        may = expects.0;
        hashed_is = expects.1;
        leaf = leaf;
        listed = subst (λ bytes. In pair (pairs_of shape bytes)) (sym bytes) l.one;
      }

  -- the node of a record that a view uses is read as those of the view are
  hashed-at : {K : Type 0} (shape : Shape K) → IsWalkOf image seen (Files (are_hashed volume.names)) (InView (at_of volume kept)) shape named → (s : Share) → In s shares → is_shared sets s p ≡ true → may_be_leaf s.expected ≡ true → s.hashed ≡ are_hashed volume.names
  hashed-at shape walk s i has may =
      let t = (r.shared supers).only s p i has in
      let n : Naming = t.naming in
      elim (viewed image seen volume given kept one shape named walk n (to-live n t.live) (from-view n t.is.in_view)) as (λ _. s.hashed ≡ are_hashed volume.names) [
        | inl x ↦ hashed-as (are_hashed volume.names) s.hashed s.expected x.0 (subst (λ (e : Expected). Expects (Files (are_hashed volume.names)) x.0 e) t.is.expected_is x.1.1.1) may
        | inr x ↦ absurd (not-metadata s.hashed s.expected may (sym t.is.expected_is ∙ x.0))
      ]

  -- ---- extents
  -- a block of an extent whose record stands in a leaf that the view uses
  abbrev IsOfLeaves : ℕ → Type 0
  IsOfLeaves block = (s : Share) × In s shares × (is_shared sets s p ≡ true) × (may_be_leaf s.expected ≡ true) × IsOfNode s.hashed site (bytes_of image site s) block

  extent-by : {K : Type 0} (shape : Shape K) → IsWalkOf image seen (Files (are_hashed volume.names)) (InView (at_of volume kept)) shape named → view_flat image site volume kept.view ≡ flat_of (view_tree shape image site volume kept.view) kept.view.root_oid →
      ((bytes : List ℕ) (block : ℕ) → IsOfNode (are_hashed volume.names) site bytes block ↔ IsOfLeaf shape site bytes block) → (block : ℕ) → IsExtentHeld image seen volume kept block ↔ IsOfLeaves block
  extent-by {K} shape walk flat same block =
      let tree : Tree K = view_tree shape image site volume kept.view in
      let level = tree-levelled shape site named image in
      let all : List Pair = view_flat image site volume kept.view in (
        (λ h.
            let t = fact-from all h.extent h.one in
            let l = flat-leaf tree kept.view.root_oid level t.0 (subst (λ (ps : List Pair). In t.0 ps) flat t.1.0) in
            let s = to-share shape walk t.0 l in
            let of : IsOfLeaf shape site (bytes_of image site s.by) block = (s.leaf, (t.0, s.listed, (h.extent.what, t.1.1, (h.no_hole, h.covers)))) in
            (s.by, s.one, s.has, s.may, subst (λ b. IsOfNode b site (bytes_of image site s.by) block) (sym s.hashed_is) ((same (bytes_of image site s.by) block).1 of))),
        (λ x.
            let s : Share = x.0 in
            let hashed = hashed-at shape walk s x.1 x.2 x.3 in
            let of : IsOfLeaf shape site (bytes_of image site s) block = (same (bytes_of image site s) block).0 (subst (λ b. IsOfNode b site (bytes_of image site s) block) hashed x.4) in
            let pair : Pair = of.1.0 in
            let e : FileExt = of.1.2.0 in
            let l = from-share shape walk s x.1 x.2 x.3 of.0 pair of.1.1 in
            let listed : In pair all = subst (λ (ps : List Pair). In pair ps) (sym flat) (leaf-flat tree kept.view.root_oid level pair l) in
            record { extent = told_by pair e; one = fact-in all pair e listed of.1.2.1; no_hole = of.1.2.2.0; covers = of.1.2.2.1 }),
      )

  pub extent-shared : (block : ℕ) → IsExtentHeld image seen volume kept block ↔ IsOfLeaves block
  unfolding view_flat
  extent-shared block =
      let hashed : Bool = are_hashed volume.names in
      let root : ℕ = kept.view.root_oid in
      let Goal : Type 0 = IsExtentHeld image seen volume kept block ↔ IsOfLeaves block in
      let go : (b : Bool) → hashed ≡ b → Goal = λ b. elim b as (λ b. hashed ≡ b → Goal) [
        | true ↦ λ h.
            let walk = subst (λ x. IsWalkOf image seen (Files x) (InView (at_of volume kept)) fs_shape named) (sym h) (hashed-walk image seen volume given kept) in
            extent-by fs_shape walk (ap (λ b. if b then flat_of (hashed_tree image site volume kept.view) root else flat_of (plain_tree image site volume kept.view) root) h)
            (λ bytes x. ((λ o. subst (λ b. IsOfNode b site bytes x) h o), (λ o. subst (λ b. IsOfNode b site bytes x) (sym h) o))) block
        | false ↦ λ h.
            let walk = subst (λ x. IsWalkOf image seen (Files x) (InView (at_of volume kept)) fs_plain_shape named) (sym h) (plain-walk image seen volume given kept) in
            extent-by fs_plain_shape walk (ap (λ b. if b then flat_of (hashed_tree image site volume kept.view) root else flat_of (plain_tree image site volume kept.view) root) h)
            (λ bytes x. ((λ o. subst (λ b. IsOfNode b site bytes x) h o), (λ o. subst (λ b. IsOfNode b site bytes x) (sym h) o))) block
      ] in
      go hashed refl

  -- ---- what the view holds
  -- what the records that it shares give, and what is its own, is what it holds
  pub given-held : (block : ℕ) → (IsOfShares image site sets (length views) shares v block ⊎ IsOwn image site kept block) ↔ IsHeld image seen volume kept block
  given-held block =
      let Held : Type 0 = IsHeld image seen volume kept block in
      let Given : Type 0 = IsOfShares image site sets (length views) shares v block ⊎ IsOwn image site kept block in
      let records = record-shared block in
      let extents = extent-shared block in (
        (λ g. elim g as (λ _. Held) [
          | inl x ↦ elim x.3 as (λ _. Held) [
            | inl b ↦ inl (records.1 (record { by = x.0; one = x.1; has = x.2; block_is = sym b }))
            | inr l ↦ inr (inl (extents.1 (x.0, x.1, x.2, l.0, l.1)))
          ]
          | inr o ↦ elim o as (λ _. Held) [ inl n ↦ inr (inr (inl n)) | inr s ↦ inr (inr (inr s)) ]
        ]),
        (λ h. elim h as (λ _. Given) [
          | inl k ↦ let s = records.0 k in inl (s.by, s.one, s.has, inl (sym s.block_is))
          | inr k ↦ elim k as (λ _. Given) [
            | inl e ↦ let s = extents.0 e in inl (s.0, s.1, s.2, inr (s.3, s.4))
            | inr o ↦ elim o as (λ _. Given) [ inl n ↦ inr (inl n) | inr s ↦ inr (inr s) ]
          ]
        ]),
      )

  -- it lies in the container, where the extents of the shared records do
  pub held-inside : ((s : Share) → In s shares → IsPlacedShare image site s) → (block : ℕ) → IsHeld image seen volume kept block → is_in block 0 site.blocks ≡ true
  held-inside placed block h =
      let In_it : Type 0 = is_in block 0 site.blocks ≡ true in
      elim h as (λ _. In_it) [
        | inl k ↦
            let n : Naming = k.naming in
            let at : view_named site volume kept.view n.oid ≡ Some block = resolved-block image seen volume given kept n k.object k.in_view k.names.found ∙ ap (λ (b : ℕ). Some b) k.block_is in
            container-in site.blocks block block (named-inside site volume kept n.oid block at)
        | inr k ↦ elim k as (λ _. In_it) [
          | inl e ↦ let s = (extent-shared block).0 e in node-inside s.0.hashed site (bytes_of image site s.0) block (placed s.0 s.1 s.3) s.4
          | inr o ↦ elim o as (λ _. In_it) [ inl n ↦ node-in image site kept.extents_root block n | inr s ↦ super-in image seen volume given kept one block s ]
        ]
      ]

-- pieces of what views share, and of what is their own, are what each of them holds
pub shares-held : (image : List ℕ) (seen : Seen) (volume : Loaded) (site : Site) (views : List KeptView) (reach : Reach) (before after : Holdings) → site ≡ site_of seen → views ≡ views_kept volume seen → IsGiven image seen volume → site.blocks < 2 ^ 64 →
    IsReachOf image seen volume views reach → AreShared image site reach.sets.items (length views) reach.shares.items before → AddsOwns image site views (length views) before after → AreHeldBy image seen volume views after
shares-held image seen volume site views reach before after s v given few r shared owns = λ i kept at.
    let all : List KeptView = views_kept volume seen in
    let here : slice_get all i ≡ Some kept = ap (λ (xs : List KeptView). slice_get xs i) (sym v) ∙ at in
    let reaches : IsReachOf image seen volume all reach = subst (λ (xs : List KeptView). IsReachOf image seen volume xs reach) v r in
    let shares : AreShared image (site_of seen) reach.sets.items (length all) reach.shares.items before =
    subst (λ (x : Site). AreShared image x reach.sets.items (length all) reach.shares.items before) s (subst (λ (xs : List KeptView). AreShared image site reach.sets.items (length xs) reach.shares.items before) v shared) in
    let own : AddsOwns image (site_of seen) all (length all) before after =
    subst (λ (x : Site). AddsOwns image x all (length all) before after) s (subst (λ (xs : List KeptView). AddsOwns image site xs (length xs) before after) v owns) in
    let small : (site_of seen).blocks < 2 ^ 64 = subst (λ (x : Site). x.blocks < 2 ^ 64) s few in
    let low : i < length all = below-length all i kept here in
    let same = given-held image seen volume given reach reaches i kept here in
    record {
      inside = λ block h.
          let inside = in-below block 0 (site_of seen).blocks (held-inside image seen volume given reach reaches i kept here shares.placed block h) in
          omega (arith, inside);
      held = λ block below.
          let few_blocks : block < 2 ^ 64 - 1 = omega (arith, below, small) in
          let x = own i block few_blocks in
          let y = shares.held i block low few_blocks in (
            (λ e. elim (x.0 e) as (λ _. IsHeld image seen volume kept block) [
              | inl o ↦ (same block).0 (inl (y.0 o))
              | inr o ↦ (same block).0 (inr (subst (λ (k : KeptView). IsOwn image (site_of seen) k block) (one-some o.kept kept (sym o.found ∙ here)) o.own))
            ]),
            (λ h. elim ((same block).1 h) as (λ _. is_covered after i block ≡ true) [
              | inl o ↦ x.1 (inl (y.1 o))
              | inr o ↦ x.1 (inr (record { low = low; kept = kept; found = here; own = o }))
            ]),
          );
    }
