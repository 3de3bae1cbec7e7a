-- What is looked up in a view of a volume: the nodes of the view's files that a walk meets, and the view's extended metadata.
use Rattle.std.proofs.Common.{◌≡◌, ℕ, zero, suc, ◌+◌, ◌*◌, ◌<◌, Bool, true, false, ◌==◌, List, [], ◌∷◌, ◌++◌, map, Option, Some, None, Result, Ok, Err, is_ok, ◌⊎◌, inl, inr, refl, ap, ap₂, sym, ◌∙◌, subst, arith, if◌then◌else◌}
use Rattle.std.specs.Prelude.{slice_get}
use Rattle.std.specs.List.{range_with_len}
use Rattle.apfs_model.specs.Blocks.{block_of}
use Rattle.apfs_model.specs.Lists.{In}
use Rattle.apfs_model.proofs.BoolTests.{clash, from-range}
use Rattle.apfs_model.proofs.Searches.{in-append, from-map}
use Rattle.obj_base.specs.declared.site.Site.{Site}
use Rattle.obj_base.specs.declared.stop.Bad.{Bad}
use Rattle.obj_base.specs.declared.stop.Bad.TheVariants as bads
use Rattle.bt_node.specs.Shape.{Shape}
use Rattle.bt_node.specs.Node.{level_of, count_of}
use Rattle.bt_node.specs.Entries.{pair_of, child_of, children_of}
use Rattle.bt_node.specs.Soundness.{node_of}
use Rattle.bt_node.specs.declared.fault.NodeFault.{NodeFault}
use Rattle.bt_node.specs.declared.node.NodeAt.{NodeAt}
use Rattle.bt_cursor.specs.Tree.{root_place, child_place, judged, node_named, block_named, tree_in}
use Rattle.bt_cursor.specs.Met.{IsMet, first, after}
use Rattle.bt_cursor.proofs.Nodes.{node_same, node-child}
use Rattle.nx_block.specs.Super.{fs_oid_of}
use Rattle.nx_ring.specs.Checkpoint.{Seen, site_of}
use Rattle.fs_name.specs.Normal.{are_hashed}
use Rattle.vol_view.specs.Heads.{heads_of}
use Rattle.vol_view.specs.Stops.{AreHeads}
use Rattle.vol_view.specs.Volumes.{Loaded}
use Rattle.vol_view.specs.declared.head.VolHead.{VolHead}
use Rattle.vol_view.specs.declared.volume.Snapshot.{Snapshot}
use Rattle.reach_rules.specs.declared.naming.ViewAt.{ViewAt}
use Rattle.reach_rules.specs.declared.naming.LookUp.{LookUp}
use Rattle.reach_rules.specs.declared.naming.LookUp.TheVariants.{ByBlock, InContainer, InView}
use Rattle.reach_rules.specs.declared.naming.Object.TheVariants.{InBlock, Newest}
use Rattle.reach_rules.specs.declared.naming.Namer.{Namer}
use Rattle.reach_rules.specs.declared.naming.Namer.TheVariants.{Whole, Kept}
use Rattle.reach_rules.specs.declared.naming.TreeKind.{TreeKind}
use Rattle.reach_rules.specs.declared.naming.TreeKind.TheVariants.{ExtentRefs, SnapMetadata, Files}
use Rattle.reach_rules.specs.declared.naming.Expected.{Expected}
use Rattle.reach_rules.specs.declared.naming.Expected.TheVariants.{VolumeIn, ExtendedMetadata, SnapshotSuper, TreeRoot, TreeNode}
use Rattle.reach_rules.specs.declared.naming.Naming.{Naming}
use Rattle.reach_rules.specs.Naming.{naming}
use Rattle.reach_rules.specs.Resolved.{Found, resolved, found_by, is_node}
use Rattle.reach_rules.specs.Tested.{Answer, of_node, node_tested, tested}
use Rattle.reach_rules.specs.Next.{roots, names, next, unless_zero, children_in, child_namings, node_namings}
use Rattle.reach_rules.specs.Live.{IsLive, rooted, led}
use Rattle.reach_rules.proofs.Nexts.{each-in, from-next}
use Rattle.reach_rules.proofs.Walks.{Matches, IsWalkOf}
use Rattle.reach_gather.specs.ViewParts.{is_in_view}
use Rattle.reach_gather.specs.Volumes.Told.{head_naming, map_of, live_at, past_at, told_view, map_in_volume, super_in_view, told_snapshot, told_snapshots, told_volume, past_view_of, super_naming}
use Rattle.reach_gather.specs.Volumes.Parts.{volume_namer, IsVolumePart}
use Rattle.reach_gather.proofs.Law.{Expects}
use Rattle.reach_gather.proofs.VolumeLemmas.Heads.{IsRightHead, head-right}
use Rattle.reach_gather.proofs.VolumeLemmas.Others.{volume-slots}
use Rattle.reach_gather.proofs.VolumeLemmas.Law.{heads-only, the-law}
use Rattle.use_report.specs.Given.{IsGiven}
use Rattle.use_report.specs.Views.{live_kept, past_kept, pasts_kept, views_kept, at_of}
use Rattle.use_report.specs.declared.kept.KeptView.{KeptView}
use Rattle.use_report.proofs.Lists.{one-some}
use Rattle.use_report.proofs.Origins.{is_past_super, IsFrom, IsNeither, names-from, roots-neither}

-- ---- what is told of a volume
-- the root of a view's files, or the view's extended metadata
abbrev pub IsRootIn : KeptView → Bool → Naming → Type 0
IsRootIn kept hashed n =
    ((n.expected ≡ TreeRoot (Files hashed)) × (n.oid ≡ kept.view.root_oid))
    ⊎ ((n.expected ≡ ExtendedMetadata) × ((n.oid ≡ kept.meta_ext) × ((kept.meta_ext == 0) ≡ false)))

-- the superblock of a view: that of a snapshot stands in a block
abbrev pub namer_of : Namer → Option ℕ → Namer
namer_of me None = me
namer_of me (Some block) = Whole (InBlock block)

-- what a field other than 0 names
from-unless : (namer : Namer) (at : ℕ) (e : Expected) (how : LookUp) (oid : ℕ) (n : Naming) → In n (unless_zero namer at e how oid) → (n ≡ naming namer at e how oid) × ((oid == 0) ≡ false)
from-unless namer at e how oid n h =
    let Goal : Type 0 = (n ≡ naming namer at e how oid) × ((oid == 0) ≡ false) in
    let go : (b : Bool) → (oid == 0) ≡ b → In n (if b then [] else naming namer at e how oid ∷ []) → Goal = λ b. elim b as (λ b. (oid == 0) ≡ b → In n (if b then [] else naming namer at e how oid ∷ []) → Goal) [
      | true ↦ λ z k. absurd k
      | false ↦ λ z k. elim k as (λ _. Goal) [ inl s ↦ (s, z) | inr none ↦ absurd none ]
    ] in
    go (oid == 0) refl h

-- what a view's superblock names, the view's root and extended metadata being these
told-root : (kept : KeptView) (namer : Namer) (view : ViewAt) (root meta : ℕ) (n : Naming) → root ≡ kept.view.root_oid → meta ≡ kept.meta_ext → In n (told_view namer view root meta) → (n.how ≡ InView view) × IsRootIn kept view.hashed n
told-root kept namer view root meta n r m (inl e) = (ap (λ (x : Naming). x.how) e, inl (ap (λ (x : Naming). x.expected) e, ap (λ (x : Naming). x.oid) e ∙ r))
told-root kept namer view root meta n r m (inr h) =
    let t = from-unless namer 1000 ExtendedMetadata (InView view) meta n h in
    (ap (λ (x : Naming). x.how) t.0, inr (ap (λ (x : Naming). x.expected) t.0, (ap (λ (x : Naming). x.oid) t.0 ∙ m, subst (λ k. (k == 0) ≡ false) m t.1)))

-- a snapshot of a list, by its place
pub record IsSnapshotAt (slot map : ℕ) (hashed : Bool) (i : ℕ) (snapshots : List Snapshot) (n : Naming) : Type 0 where
  pub k : ℕ
  pub snapshot : Snapshot
  pub found : slice_get snapshots k ≡ Some snapshot
  pub same : n ≡ super_in_view (past_at slot map hashed (i + k) snapshot) snapshot

-- what the records of snapshots name is looked up by its block
told-past-out : (slot map : ℕ) (hashed : Bool) (i : ℕ) (snapshots : List Snapshot) (n : Naming) → In n (told_snapshots slot map hashed i snapshots) → n.how ≡ ByBlock
told-past-out slot map hashed i [] n h = absurd h
told-past-out slot map hashed i (snapshot ∷ snapshots) n h =
    let view : ViewAt = past_at slot map hashed i snapshot in
    elim (in-append n (told_snapshot view snapshot) (told_snapshots slot map hashed (suc i) snapshots) h) as (λ _. n.how ≡ ByBlock) [
      | inl k ↦ elim k as (λ _. n.how ≡ ByBlock) [
        | inl e ↦ ap (λ (x : Naming). x.how) e
        | inr g ↦ ap (λ (x : Naming). x.how) (from-unless (Kept view) 0 (TreeRoot ExtentRefs) ByBlock snapshot.extents_root n g).0
      ]
      | inr k ↦ told-past-out slot map hashed (suc i) snapshots n k
    ]

-- and where a superblock is expected, it is that of one of them
told-past-super : (slot map : ℕ) (hashed : Bool) (i : ℕ) (snapshots : List Snapshot) (n : Naming) → is_past_super n.expected ≡ true → In n (told_snapshots slot map hashed i snapshots) → IsSnapshotAt slot map hashed i snapshots n
told-past-super slot map hashed i [] n s h = absurd h
told-past-super slot map hashed i (snapshot ∷ snapshots) n s h =
    let view : ViewAt = past_at slot map hashed i snapshot in
    let Goal : Type 0 = IsSnapshotAt slot map hashed i (snapshot ∷ snapshots) n in
    elim (in-append n (told_snapshot view snapshot) (told_snapshots slot map hashed (suc i) snapshots) h) as (λ _. Goal) [
      | inl k ↦ elim k as (λ _. Goal) [
        | inl e ↦
            let none : i ≡ i + 0 = omega arith in
            record { k = 0; snapshot = snapshot; found = refl; same = e ∙ ap (λ j. super_in_view (past_at slot map hashed j snapshot) snapshot) none }
        | inr g ↦ clash (is_past_super n.expected) s (ap (λ (x : Naming). is_past_super x.expected) (from-unless (Kept view) 0 (TreeRoot ExtentRefs) ByBlock snapshot.extents_root n g).0)
      ]
      | inr k ↦
          let t = told-past-super slot map hashed (suc i) snapshots n s k in
          let more : suc i + t.k ≡ i + suc t.k = omega arith in
          record { k = suc t.k; snapshot = t.snapshot; found = t.found; same = t.same ∙ ap (λ j. super_in_view (past_at slot map hashed j t.snapshot) t.snapshot) more }
    ]

-- a view that is a snapshot's
pub record IsPastAt (volume : Loaded) (i : ℕ) (snapshots : List Snapshot) (kept : KeptView) : Type 0 where
  pub k : ℕ
  pub snapshot : Snapshot
  pub found : slice_get snapshots k ≡ Some snapshot
  pub same : kept ≡ past_kept volume (i + k) snapshot

pub past-at : (volume : Loaded) (i : ℕ) (snapshots : List Snapshot) (kept : KeptView) → In kept (pasts_kept volume i snapshots) → IsPastAt volume i snapshots kept
past-at volume i [] kept h = absurd h
past-at volume i (snapshot ∷ snapshots) kept (inl e) =
    let none : i ≡ i + 0 = omega arith in
    record { k = 0; snapshot = snapshot; found = refl; same = e ∙ ap (λ j. past_kept volume j snapshot) none }
past-at volume i (snapshot ∷ snapshots) kept (inr h) =
    let t = past-at volume (suc i) snapshots kept h in
    let more : suc i + t.k ≡ i + suc t.k = omega arith in
    record { k = suc t.k; snapshot = t.snapshot; found = t.found; same = t.same ∙ ap (λ j. past_kept volume j t.snapshot) more }

one-view : (v w : ViewAt) → ◌≡◌ {A = LookUp} (InView v) (InView w) → v ≡ w
one-view v w e = cc

one-super : (v w : ViewAt) → ◌≡◌ {A = Expected} (SnapshotSuper v) (SnapshotSuper w) → v ≡ w
one-super v w e = cc

one-slot : (a b : ℕ) → ◌≡◌ {A = Expected} (VolumeIn a) (VolumeIn b) → a ≡ b
one-slot a b e = cc

no-zero : {T : Type 0} (k : ℕ) → 0 ≡ suc k → T
no-zero k e = absurd (let q : ⊥ = omega (arith, e) in q)

-- ---- of a volume that is given
module _ (image : List ℕ) (seen : Seen) (volume : Loaded) (given : IsGiven image seen volume) where
  pub heads : List VolHead
  heads = heads_of image seen

  pub are : AreHeads image seen heads
  unfolding heads
  are = record { right = given.heads; same = refl }

  pub part : IsVolumePart image seen volume.head volume
  unfolding heads
  part = (the-law image seen heads are).volumes volume.head volume given.one given.loaded

  -- the naming of a volume in this slot is that of this volume
  one-volume : (m : Naming) → IsLive image seen m → m.expected ≡ VolumeIn volume.head.slot → m ≡ head_naming volume.head
  unfolding heads
  one-volume m live e =
      let t = from-map head_naming heads m (heads-only image seen heads m are (volume-slots image seen m volume.head.slot live e)) in
      let other : VolHead = t.0 in
      let same : m ≡ head_naming other = t.1.1 in
      let slot : other.slot ≡ volume.head.slot = one-slot other.slot volume.head.slot (sym (ap (λ (x : Naming). x.expected) same) ∙ e) in
      let left : IsRightHead image seen other = head-right image seen heads other are t.1.0 in
      let right : IsRightHead image seen volume.head = head-right image seen heads volume.head are given.one in
      let oid : other.oid ≡ volume.head.oid = left.oid_is ∙ (ap (fs_oid_of seen.nx) slot ∙ sym right.oid_is) in
      same ∙ ap₂ (λ s o. naming (Whole Newest) (184 + 8 * s) (VolumeIn s) InContainer o) slot oid

  -- what such a naming leads to is told of this volume
  led-told : (m n : Naming) → IsLive image seen m → m.expected ≡ VolumeIn volume.head.slot → In n (next image seen m) → In n (told_volume seen (volume_namer seen part.mapping) volume)
  led-told m n live e h =
      let at_head : In n (next image seen (head_naming volume.head)) = subst (λ (x : Naming). In n (next image seen x)) (one-volume m live e) h in
      subst (λ (ns : List Naming). In n ns) part.leads at_head

  -- the naming of the superblock of a snapshot of a view of this volume
  pub record IsPastSuper (at : ViewAt) (m : Naming) : Type 0 where
    pub k : ℕ
    pub snapshot : Snapshot
    pub found : slice_get volume.snaps k ≡ Some snapshot
    pub at_is : at ≡ past_view_of volume k snapshot
    pub same : m ≡ super_naming volume k snapshot

  told-super : (at : ViewAt) (m : Naming) → m.expected ≡ SnapshotSuper at → In m (told_volume seen (volume_namer seen part.mapping) volume) → IsPastSuper at m
  told-super at m e h =
      let me : Namer = volume_namer seen part.mapping in
      let view : ViewAt = live_at seen volume.head.slot (map_of volume) (are_hashed volume.names) in
      let lives : List Naming = told_view me view volume.root_oid volume.meta_ext in
      let extents : List Naming = unless_zero me 144 (TreeRoot ExtentRefs) ByBlock volume.extents_root in
      let metadata : List Naming = unless_zero me 152 (TreeRoot SnapMetadata) ByBlock volume.snaps_root in
      let snaps : List Naming = told_snapshots volume.head.slot (map_of volume) (are_hashed volume.names) 0 volume.snaps in
      let yes : is_past_super m.expected ≡ true = ap is_past_super e in
      let never : (x : Naming) → m ≡ x → is_past_super x.expected ≡ false → IsPastSuper at m = λ x s no. clash (is_past_super m.expected) yes (ap (λ (y : Naming). is_past_super y.expected) s ∙ no) in
      elim h as (λ _. IsPastSuper at m) [
        | inl s ↦ never (map_in_volume me (map_of volume)) s refl
        | inr k ↦ elim (in-append m lives (extents ++ (metadata ++ snaps)) k) as (λ _. IsPastSuper at m) [
          | inl l ↦ elim l as (λ _. IsPastSuper at m) [
            | inl s ↦ never (naming me 136 (TreeRoot (Files view.hashed)) (InView view) volume.root_oid) s refl
            | inr u ↦ never (naming me 1000 ExtendedMetadata (InView view) volume.meta_ext) (from-unless me 1000 ExtendedMetadata (InView view) volume.meta_ext m u).0 refl
          ]
          | inr l ↦ elim (in-append m extents (metadata ++ snaps) l) as (λ _. IsPastSuper at m) [
            | inl u ↦ never (naming me 144 (TreeRoot ExtentRefs) ByBlock volume.extents_root) (from-unless me 144 (TreeRoot ExtentRefs) ByBlock volume.extents_root m u).0 refl
            | inr o ↦ elim (in-append m metadata snaps o) as (λ _. IsPastSuper at m) [
              | inl u ↦ never (naming me 152 (TreeRoot SnapMetadata) ByBlock volume.snaps_root) (from-unless me 152 (TreeRoot SnapMetadata) ByBlock volume.snaps_root m u).0 refl
              | inr u ↦
                  let t = told-past-super volume.head.slot (map_of volume) (are_hashed volume.names) 0 volume.snaps m yes u in
                  let none : 0 + t.k ≡ t.k = omega arith in
                  let same : m ≡ super_naming volume t.k t.snapshot = t.same ∙ ap (λ j. super_in_view (past_at volume.head.slot (map_of volume) (are_hashed volume.names) j t.snapshot) t.snapshot) none in
                  record { k = t.k; snapshot = t.snapshot; found = t.found; at_is = one-super at (past_view_of volume t.k t.snapshot) (sym e ∙ ap (λ (x : Naming). x.expected) same); same = same }
            ]
          ]
        ]
      ]

  -- a live naming of the superblock of a snapshot of a view of this volume
  live-super : (at : ViewAt) (m : Naming) → at.slot ≡ volume.head.slot → IsLive image seen m → m.expected ≡ SnapshotSuper at → IsPastSuper at m
  live-super at m s (rooted _ h) e = clash (is_past_super m.expected) (ap is_past_super e) (each-in IsNeither (roots seen.nx) m (roots-neither seen) h).no_super
  live-super at m s (led k _ live h) e =
      let l = from-next image seen k m h in
      let from : IsFrom k.how k.expected m = each-in (IsFrom k.how k.expected) (names image seen k.how k.expected (Whole l.object.object) l.object.bytes) m (names-from image seen k.how k.expected (Whole l.object.object) l.object.bytes) l.names in
      let of : k.expected ≡ VolumeIn volume.head.slot = from.kept at e ∙ ap VolumeIn s in
      told-super at m e (led-told k m live of h)

  -- what the superblock of a view names
  abbrev pub names_of : KeptView → List Naming
  names_of kept = told_view (namer_of (volume_namer seen part.mapping) kept.super_block) (at_of volume kept) kept.view.root_oid kept.meta_ext

  -- what a volume's superblock names in its live view
  told-live : (at : ViewAt) (n : Naming) → n.how ≡ InView at → In n (told_volume seen (volume_namer seen part.mapping) volume) → (at ≡ live_at seen volume.head.slot (map_of volume) (are_hashed volume.names)) × In n (names_of (live_kept volume seen))
  told-live at n e h =
      let me : Namer = volume_namer seen part.mapping in
      let view : ViewAt = live_at seen volume.head.slot (map_of volume) (are_hashed volume.names) in
      let lives : List Naming = told_view me view volume.root_oid volume.meta_ext in
      let Goal : Type 0 = (at ≡ view) × In n lives in
      let extents : List Naming = unless_zero me 144 (TreeRoot ExtentRefs) ByBlock volume.extents_root in
      let metadata : List Naming = unless_zero me 152 (TreeRoot SnapMetadata) ByBlock volume.snaps_root in
      let snaps : List Naming = told_snapshots volume.head.slot (map_of volume) (are_hashed volume.names) 0 volume.snaps in
      let yes : is_in_view n.how ≡ true = ap is_in_view e in
      let never : (how : LookUp) → n.how ≡ how → is_in_view how ≡ false → Goal = λ how s no. clash (is_in_view n.how) yes (ap is_in_view s ∙ no) in
      elim h as (λ _. Goal) [
        | inl s ↦ never ByBlock (ap (λ (x : Naming). x.how) s) refl
        | inr k ↦ elim (in-append n lives (extents ++ (metadata ++ snaps)) k) as (λ _. Goal) [
          | inl l ↦ let t = told-root (live_kept volume seen) me view volume.root_oid volume.meta_ext n refl refl l in (one-view at view (sym e ∙ t.0), l)
          | inr l ↦ elim (in-append n extents (metadata ++ snaps) l) as (λ _. Goal) [
            | inl u ↦ never ByBlock (ap (λ (x : Naming). x.how) (from-unless me 144 (TreeRoot ExtentRefs) ByBlock volume.extents_root n u).0) refl
            | inr o ↦ elim (in-append n metadata snaps o) as (λ _. Goal) [
              | inl u ↦ never ByBlock (ap (λ (x : Naming). x.how) (from-unless me 152 (TreeRoot SnapMetadata) ByBlock volume.snaps_root n u).0) refl
              | inr u ↦ never ByBlock (told-past-out volume.head.slot (map_of volume) (are_hashed volume.names) 0 volume.snaps n u) refl
            ]
          ]
        ]
      ]

  -- a naming that the volume's superblock names in a view of this volume is named by the superblock of the view
  pub named-live : (kept : KeptView) → In kept (views_kept volume seen) → (m n : Naming) → IsLive image seen m → In n (next image seen m) → n.how ≡ InView (at_of volume kept) → m.expected ≡ VolumeIn volume.head.slot → In n (names_of kept)
  named-live kept one m n live h how e =
      let t = told-live (at_of volume kept) n how (led-told m n live e h) in
      elim one as (λ _. In n (names_of kept)) [
        | inl s ↦ subst (λ k. In n (names_of k)) (sym s) t.1
        | inr p ↦
            let q = past-at volume 0 volume.snaps kept p in
            let zero_place : kept.place ≡ 0 = ap (λ (v : ViewAt). v.place) t.0 in
            no-zero (0 + q.k) (sym zero_place ∙ ap (λ (k : KeptView). k.place) q.same)
      ]

  -- and so is one that a snapshot's superblock names
  pub named-past : (kept : KeptView) → In kept (views_kept volume seen) → (m n : Naming) → IsLive image seen m → In n (next image seen m) → m.expected ≡ SnapshotSuper (at_of volume kept) → In n (names_of kept)
  named-past kept one m n live h e =
      let s = live-super (at_of volume kept) m refl live e in
      let snapshot : Snapshot = s.snapshot in
      let from_super : In n (next image seen (super_naming volume s.k snapshot)) = subst (λ (x : Naming). In n (next image seen x)) s.same h in
      let listed : In n (told_view (Whole (InBlock snapshot.super_block)) (past_view_of volume s.k snapshot) snapshot.root_oid snapshot.meta_ext) =
      subst (λ (ns : List Naming). In n ns) (part.snapshots s.k snapshot s.found).leads from_super in
      let place : kept.place ≡ suc s.k = ap (λ (v : ViewAt). v.place) s.at_is in
      elim one as (λ _. In n (names_of kept)) [
        | inl z ↦ no-zero s.k (sym (ap (λ (k : KeptView). k.place) z) ∙ place)
        | inr p ↦
            let q = past-at volume 0 volume.snaps kept p in
            let same_place : suc (0 + q.k) ≡ suc s.k = sym (ap (λ (k : KeptView). k.place) q.same) ∙ place in
            let same_k : q.k ≡ s.k = omega (arith, same_place) in
            let same_snapshot : q.snapshot ≡ snapshot = one-some q.snapshot snapshot (sym q.found ∙ (ap (slice_get volume.snaps) same_k ∙ s.found)) in
            let counted : 0 + q.k ≡ s.k = omega (arith, same_place) in
            let kept_is : kept ≡ past_kept volume s.k snapshot = q.same ∙ (ap (λ j. past_kept volume j q.snapshot) counted ∙ ap (λ (x : Snapshot). past_kept volume s.k x) same_snapshot) in
            subst (λ k. In n (names_of k)) (sym kept_is) listed
      ]

  -- such a naming is of the view's root, or of its extended metadata
  named-root : (kept : KeptView) (n : Naming) → In n (names_of kept) → IsRootIn kept (are_hashed volume.names) n
  named-root kept n h = (told-root kept (namer_of (volume_namer seen part.mapping) kept.super_block) (at_of volume kept) kept.view.root_oid kept.meta_ext n refl refl h).1

-- ---- nodes
-- the tests of a naming are those of the place
tests : (site : Site) (kind : TreeKind) (at : NodeAt) (e : Expected) (oid : ℕ) (bytes : List ℕ) → oid ≡ at.oid → Expects kind at e → tested site e oid bytes ≡ node_tested kind at site bytes
unfolding tested
tests site kind at e oid bytes s (inl (p, q)) =
    ap (λ x. tested site x oid bytes) p ∙ (ap (λ o. node_tested kind (root_place o) site bytes) s ∙ ap (λ a. node_tested kind a site bytes) (sym q))
tests site kind at e oid bytes s (inr (level, (pair, (p, q)))) =
    let place : ℕ → NodeAt = λ o. record { oid = o; root = false; level = Some level } in
    ap (λ x. tested site x oid bytes) p
    ∙ (ap (λ o. node_tested kind (place o) site bytes) (s ∙ ap (λ (a : NodeAt). a.oid) q) ∙ ap (λ a. node_tested kind a site bytes) (sym q))

as-node : (kind : TreeKind) (at : NodeAt) (e : Expected) → Expects kind at e → is_node e ≡ true
as-node kind at e (inl (p, q)) = ap is_node p
as-node kind at e (inr (level, (pair, (p, q)))) = ap is_node p

answer-ok : (r : Result (List ℕ) (Bad NodeFault)) → is_ok (of_node r) ≡ true → (x : List ℕ) × (r ≡ Ok x)
answer-ok (Ok x) e = (x, refl)
answer-ok (Err (bads.Found why)) e = absurd (let z : false ≡ true = e in let q : ⊥ = cc in q)
answer-ok (Err (bads.Unsupported feature)) e = absurd (let z : false ≡ true = e in let q : ⊥ = cc in q)

-- the block in which what is found stands
pub matched : (image : List ℕ) (site : Site) (f : Found) (o : Option ℕ) → Matches image site (Some f) o → (o ≡ Some f.block) × (f.bytes ≡ block_of site.block_size image f.block)
matched image site f None m = absurd m
matched image site f (Some b) m = (ap Some (sym m.0), m.1 ∙ ap (block_of site.block_size image) (sym m.0))

-- a walk finds the node that a naming of its place resolves to
pub node-look : {K : Type 0} (image : List ℕ) (seen : Seen) (kind : TreeKind) (how : LookUp) (shape : Shape K) (named : ℕ → Option ℕ) → IsWalkOf image seen kind how shape named → (at : NodeAt) (m : Naming) (f : Found) → m.how ≡ how → m.oid ≡ at.oid → Expects kind at m.expected →
    resolved image seen m ≡ Some f → is_ok (tested (site_of seen) m.expected m.oid f.bytes) ≡ true → ((tree_in shape (site_of seen) named image).look at ≡ Ok f.bytes) × (node_of shape at (site_of seen) f.bytes ≡ Ok f.bytes)
unfolding resolved
node-look image seen kind how shape named walk at m f how_is oid_is as_is found sound =
    let site : Site = site_of seen in
    let by : found_by image seen how m.expected at.oid ≡ Some f = sym (ap (λ h. found_by image seen h m.expected m.oid) how_is ∙ ap (λ o. found_by image seen how m.expected o) oid_is) ∙ found in
    let t = matched image site f (block_named site named at.oid) (subst (λ x. Matches image site x (block_named site named at.oid)) by (walk.found m.expected at.oid (as-node kind at m.expected as_is))) in
    let same : tested site m.expected m.oid f.bytes ≡ of_node (node_of shape at site f.bytes) = tests site kind at m.expected m.oid f.bytes oid_is as_is ∙ ap of_node (walk.answer at f.bytes) in
    let a = answer-ok (node_of shape at site f.bytes) (sym (ap (λ (x : Answer). is_ok x) same) ∙ sound) in
    let ok : node_of shape at site f.bytes ≡ Ok f.bytes = a.1 ∙ ap Ok (node_same shape at site f.bytes a.0 a.1) in (
      ap (node_named shape site image at) t.0 ∙ (ap (λ bytes. judged f.block (node_of shape at site bytes)) (sym t.1) ∙ ap (judged f.block) ok),
      ok,
    )

-- a child that is named
from-children : (namer : Namer) (kind : TreeKind) (how : LookUp) (level i : ℕ) (oids : List ℕ) (n : Naming) → In n (child_namings namer kind how level i oids) → (n.expected ≡ TreeNode kind level) × In n.oid oids
from-children namer kind how level i [] n h = absurd h
from-children namer kind how level i (oid ∷ oids) n (inl e) = (ap (λ (x : Naming). x.expected) e, inl (ap (λ (x : Naming). x.oid) e))
from-children namer kind how level i (oid ∷ oids) n (inr h) = let t = from-children namer kind how level (suc i) oids n h in (t.0, inr t.1)

-- a child that a node of a level names
abbrev IsChildOf : TreeKind → ℕ → List ℕ → Naming → Type 0
IsChildOf kind level oids n = (l : ℕ) × ((level ≡ suc l) × ((n.expected ≡ TreeNode kind l) × In n.oid oids))

from-nodes : (namer : Namer) (kind : TreeKind) (how : LookUp) (level : ℕ) (oids : List ℕ) (n : Naming) → In n (node_namings namer kind how level oids) → IsChildOf kind level oids n
from-nodes namer kind how zero oids n h = absurd h
from-nodes namer kind how (suc l) oids n h = let t = from-children namer kind how l 0 oids n h in (l, (refl, (t.0, t.1)))

-- a naming of a place that a walk meets
abbrev pub IsOfPlace : {K : Type 0} → List ℕ → Seen → TreeKind → Shape K → (ℕ → Option ℕ) → ℕ → Naming → Type 0
IsOfPlace image seen kind shape named root n = (at : NodeAt) × (IsMet (tree_in shape (site_of seen) named image) root at × ((n.oid ≡ at.oid) × Expects kind at n.expected))

place-child : {K : Type 0} (image : List ℕ) (seen : Seen) (kind : TreeKind) (how : LookUp) (shape : Shape K) (named : ℕ → Option ℕ) (root : ℕ) → IsWalkOf image seen kind how shape named → (m n : Naming) → m.how ≡ how → IsOfPlace image seen kind shape named root m →
    In n (next image seen m) → IsOfPlace image seen kind shape named root n
place-child image seen kind how shape named root walk m n how_is (at, (met, (oid_is, as_is))) h =
    let l = from-next image seen m n h in
    let f : Found = l.object in
    let node : List ℕ = f.bytes in
    let seen_node = node-look image seen kind how shape named walk at m f how_is oid_is as_is l.found l.sound in
    let child : IsChildOf kind (level_of node) (children_in kind node) n = elim as_is as (λ _. IsChildOf kind (level_of node) (children_in kind node) n) [
      | inl t ↦ from-nodes (Whole f.object) kind m.how (level_of node) (children_in kind node) n (subst (λ e. In n (names image seen m.how e (Whole f.object) node)) t.0 l.names)
      | inr t ↦
          let same : level_of node ≡ t.0 = node-child shape (site_of seen) at node t.0 t.1.0 seen_node.1 t.1.1.1 in
          subst (λ k. IsChildOf kind k (children_in kind node) n) (sym same) (from-nodes (Whole f.object) kind m.how t.0 (children_in kind node) n (subst (λ e. In n (names image seen m.how e (Whole f.object) node)) t.1.1.0 l.names))
    ] in
    let listed : In n.oid (children_of shape node) = subst (λ (xs : List ℕ). In n.oid xs) (walk.kids node) child.1.1.1 in
    let i = from-map (child_of shape node) (range_with_len 0 (count_of node)) n.oid listed in
    let below = from-range 0 (count_of node) i.0 i.1.0 in
    let low : i.0 < count_of node = omega (arith, below) in
    (child_place child.0 (pair_of shape node i.0), (after at node child.0 i.0 met seen_node.0 child.1.0 low, (i.1.1, inr (child.0, (pair_of shape node i.0, (child.1.1.0, refl))))))

-- ---- what is looked up in a view
-- a naming of a node that a walk meets, or of the view's extended metadata
abbrev pub IsViewed : {K : Type 0} → List ℕ → Seen → Bool → Shape K → (ℕ → Option ℕ) → KeptView → Naming → Type 0
IsViewed image seen hashed shape named kept n =
    IsOfPlace image seen (Files hashed) shape named kept.view.root_oid n
    ⊎ ((n.expected ≡ ExtendedMetadata) × ((n.oid ≡ kept.meta_ext) × ((kept.meta_ext == 0) ≡ false)))

root-viewed : {K : Type 0} (image : List ℕ) (seen : Seen) (hashed : Bool) (shape : Shape K) (named : ℕ → Option ℕ) (kept : KeptView) (n : Naming) → IsRootIn kept hashed n → IsViewed image seen hashed shape named kept n
root-viewed image seen hashed shape named kept n (inl (e, o)) = inl (root_place kept.view.root_oid, (first, (o, inl (e, refl))))
root-viewed image seen hashed shape named kept n (inr t) = inr t

metadata-names : {T : Type 0} (image : List ℕ) (seen : Seen) (how : LookUp) (e : Expected) (me : Namer) (bytes : List ℕ) (n : Naming) → e ≡ ExtendedMetadata → In n (names image seen how e me bytes) → T
metadata-names image seen how e me bytes n s h = absurd (subst (λ x. In n (names image seen how x me bytes)) s h)

pub viewed : {K : Type 0} (image : List ℕ) (seen : Seen) (volume : Loaded) → IsGiven image seen volume → (kept : KeptView) → In kept (views_kept volume seen) → (shape : Shape K) (named : ℕ → Option ℕ) →
    IsWalkOf image seen (Files (are_hashed volume.names)) (InView (at_of volume kept)) shape named → (n : Naming) → IsLive image seen n → n.how ≡ InView (at_of volume kept) → IsViewed image seen (are_hashed volume.names) shape named kept n
viewed image seen volume given kept one shape named walk n (rooted _ h) how = clash (is_in_view n.how) (ap is_in_view how) (each-in IsNeither (roots seen.nx) n (roots-neither seen) h).outside
viewed image seen volume given kept one shape named walk n (led m _ live h) how =
    let hashed : Bool = are_hashed volume.names in
    let l = from-next image seen m n h in
    let me : Namer = Whole l.object.object in
    let from : IsFrom m.how m.expected n = each-in (IsFrom m.how m.expected) (names image seen m.how m.expected me l.object.bytes) n (names-from image seen m.how m.expected me l.object.bytes) l.names in
    elim (from.viewed (at_of volume kept) how) as (λ _. IsViewed image seen hashed shape named kept n) [
      | inl e ↦ root-viewed image seen hashed shape named kept n (named-root image seen volume given kept n (named-live image seen volume given kept one m n live h how e))
      | inr t ↦ elim t as (λ _. IsViewed image seen hashed shape named kept n) [
        | inl e ↦ root-viewed image seen hashed shape named kept n (named-root image seen volume given kept n (named-past image seen volume given kept one m n live h e))
        | inr u ↦ elim (viewed image seen volume given kept one shape named walk m live u.0) as (λ _. IsViewed image seen hashed shape named kept n) [
          | inl p ↦ inl (place-child image seen (Files hashed) (InView (at_of volume kept)) shape named kept.view.root_oid walk m n u.0 p h)
          | inr s ↦ metadata-names image seen m.how m.expected me l.object.bytes n s.0 l.names
        ]
      ]
    ]
