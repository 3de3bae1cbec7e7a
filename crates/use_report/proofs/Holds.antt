-- The blocks that a walk over a view finds are those that the view holds.
use Rattle.std.proofs.Common.{◌≡◌, ℕ, ◌+◌, ◌^◌, ◌<◌, Bool, true, false, ◌&&◌, ◌==◌, nat_lt, nat_le, List, [], ◌∷◌, map, Option, Some, None, is_ok, inl, inr, refl, ap, sym, ◌∙◌, subst, arith, if◌then◌else◌}
use Rattle.std.specs.Prelude.{◌↔◌, option_and_then}
use Rattle.apfs_model.specs.Blocks.{in_container, is_in, is_inside}
use Rattle.apfs_model.specs.Lists.{In}
use Rattle.apfs_model.proofs.BoolTests.{right-true, both-true, other-true, from-upto, from-below, below-from, upto-from}
use Rattle.apfs_model.proofs.Searches.{in-map, from-map, filter-test, get-in}
use Rattle.obj_base.specs.declared.site.Site.{Site}
use Rattle.bt_node.specs.Entries.{Pair, bytes_in}
use Rattle.bt_node.specs.declared.node.NodeAt.{NodeAt}
use Rattle.bt_keys.specs.Shapes.{ext_shape}
use Rattle.bt_cursor.specs.Tree.{node_named}
use Rattle.bt_cursor.specs.Met.{nodes_of, places_of, has_node}
use Rattle.nx_ring.specs.Checkpoint.{Seen, site_of}
use Rattle.fs_record.specs.Facts.{Fact}
use Rattle.fs_record.specs.StreamExtents.{extent_blocks, is_hole, is_extent_placed}
use Rattle.fs_record.specs.declared.extents.FileExt.{FileExt}
use Rattle.vol_view.specs.SnapRecords.{snapshot_pairs, snap_super_of}
use Rattle.vol_view.specs.Volumes.{Loaded, metadata_of, snapshot_in, loaded_of}
use Rattle.vol_view.specs.declared.volume.Snapshot.{Snapshot}
use Rattle.ext_ref.specs.Ranges.{ext_tree, node_blocks_of}
use Rattle.view_rules.specs.Rules.{view_facts}
use Rattle.use_report.specs.Counted.{HasExactly}
use Rattle.use_report.specs.Files.{IsOfExtent, IsCoveredBlock}
use Rattle.use_report.specs.Given.{IsGiven}
use Rattle.use_report.specs.Held.{IsExtentHeld, IsHeld}
use Rattle.use_report.specs.Holding.{IsWalked, IsWalkedSet}
use Rattle.use_report.specs.Views.{views_kept}
use Rattle.use_report.specs.declared.kept.KeptView.{KeptView}
use Rattle.use_report.proofs.Sets.{in-below}
use Rattle.use_report.proofs.Viewed.{past-at}
use Rattle.use_report.proofs.Walked.{and-inside, named-inside, record-walked}

-- ---- all that is held lies in the container
low-in : (block blocks : ℕ) → block < blocks → is_in block 0 blocks ≡ true
low-in block blocks low = both-true (nat_le 0 block) (nat_lt block (0 + blocks)) (from-upto 0 block (omega arith)) (from-below block (0 + blocks) (omega (arith, low)))

pub container-in : (blocks block b : ℕ) → in_container blocks block ≡ Some b → is_in block 0 blocks ≡ true
container-in blocks block b e =
    let go : (t : Bool) → (nat_lt 0 block && nat_lt block blocks) ≡ t → (if t then Some block else None) ≡ Some b → is_in block 0 blocks ≡ true =
    λ t. elim t as (λ t. (nat_lt 0 block && nat_lt block blocks) ≡ t → (if t then Some block else None) ≡ Some b → is_in block 0 blocks ≡ true) [
      | true ↦ λ h s. low-in block blocks (below-from block blocks (right-true (nat_lt 0 block) (nat_lt block blocks) h))
      | false ↦ λ h s. absurd (let z : ◌≡◌ {A = Option ℕ} None (Some b) = s in let q : ⊥ = cc in q)
    ] in
    go (nat_lt 0 block && nat_lt block blocks) refl e

named-in : (image : List ℕ) (site : Site) (at : NodeAt) (o : Option ℕ) → is_ok (node_named ext_shape site image at o) ≡ true → (b : ℕ) × (o ≡ Some b)
named-in image site at None e = absurd (let z : false ≡ true = e in let q : ⊥ = cc in q)
named-in image site at (Some b) e = (b, refl)

pub node-in : (image : List ℕ) (site : Site) (root block : ℕ) → In block (node_blocks_of image site root) → is_in block 0 site.blocks ≡ true
unfolding node_blocks_of
node-in image site root block h =
    let tree = ext_tree image site in
    let go : (b : Bool) → In block (if b then [] else map (λ (at : NodeAt). at.oid) (nodes_of tree root)) → is_in block 0 site.blocks ≡ true =
    λ b. elim b as (λ b. In block (if b then [] else map (λ (at : NodeAt). at.oid) (nodes_of tree root)) → is_in block 0 site.blocks ≡ true) [
      | true ↦ λ k. absurd k
      | false ↦ λ k.
          let t = from-map (λ (at : NodeAt). at.oid) (nodes_of tree root) block k in
          let at : NodeAt = t.0 in
          let ok = filter-test (has_node tree) at (places_of tree root) t.1.0 in
          let named = named-in image site at (option_and_then (in_container site.blocks) (in_container site.blocks at.oid)) ok in
          subst (λ x. is_in x 0 site.blocks ≡ true) (sym t.1.1) (container-in site.blocks at.oid named.0 (and-inside site.blocks (in_container site.blocks at.oid) named.0 named.1))
    ] in
    go (root == 0) h

pub covered-in : (site : Site) (e : FileExt) (block : ℕ) → is_extent_placed site.block_size site.blocks e ≡ true → IsOfExtent site e block → is_in block 0 site.blocks ≡ true
unfolding is_extent_placed
covered-in site e block placed o =
    let n : ℕ = extent_blocks site.block_size e in
    let inside : is_inside e.block n site.blocks ≡ true = other-true (is_hole e) (is_inside e.block n site.blocks) o.0 placed in
    let ends = upto-from (e.block + n) site.blocks (right-true (nat_lt e.block _) (nat_le (e.block + n) site.blocks) inside) in
    let low = in-below block e.block n o.1 in
    low-in block site.blocks (omega (arith, ends, low))

snapshot-super : (image : List ℕ) (site : Site) (pair : Pair) → (snapshot_in image site pair).super_block ≡ snap_super_of (bytes_in pair.value)
unfolding snapshot_in
snapshot-super image site pair = refl

loaded-snaps : (image : List ℕ) (seen : Seen) (volume : Loaded) → IsGiven image seen volume → volume.snaps ≡ map (snapshot_in image (site_of seen)) (snapshot_pairs (metadata_of image (site_of seen) volume.head))
unfolding loaded_of
loaded-snaps image seen volume given = ap (λ (v : Loaded). v.snaps) given.loaded.same

pub super-in : (image : List ℕ) (seen : Seen) (volume : Loaded) → IsGiven image seen volume → (kept : KeptView) → In kept (views_kept volume seen) → (block : ℕ) → kept.super_block ≡ Some block → is_in block 0 (site_of seen).blocks ≡ true
super-in image seen volume given kept (inl e) block s = absurd (let z : ◌≡◌ {A = Option ℕ} None (Some block) = sym (ap (λ (k : KeptView). k.super_block) e) ∙ s in let q : ⊥ = cc in q)
super-in image seen volume given kept (inr h) block s =
    let site : Site = site_of seen in
    let t = past-at volume 0 volume.snaps kept h in
    let z : ◌≡◌ {A = Option ℕ} (Some t.snapshot.super_block) (Some block) = sym (ap (λ (k : KeptView). k.super_block) t.same) ∙ s in
    let same : t.snapshot.super_block ≡ block = cc in
    let pairs : List Pair = snapshot_pairs (metadata_of image site volume.head) in
    let p = from-map (snapshot_in image site) pairs t.snapshot (subst (λ (xs : List Snapshot). In t.snapshot xs) (loaded-snaps image seen volume given) (get-in volume.snaps t.k t.snapshot t.found)) in
    let inside = (given.loaded.right.snapshots p.0 p.1.0).inside in
    let is : snap_super_of (bytes_in p.0.value) ≡ block = sym (snapshot-super image site p.0) ∙ (ap (λ (x : Snapshot). x.super_block) (sym p.1.1) ∙ same) in
    subst (λ b. is_in b 0 site.blocks ≡ true) is (container-in site.blocks (snap_super_of (bytes_in p.0.value)) (snap_super_of (bytes_in p.0.value)) inside)

-- ---- what is walked is what is held
covered-held : (image : List ℕ) (seen : Seen) (volume : Loaded) (kept : KeptView) (extents : List FileExt) (block : ℕ) → extents ≡ map (λ (f : Fact FileExt). f.what) (view_facts image (site_of seen) volume kept.view).extents →
    IsCoveredBlock (site_of seen) extents block ↔ IsExtentHeld image seen volume kept block
covered-held image seen volume kept extents block same =
    let facts : List (Fact FileExt) = (view_facts image (site_of seen) volume kept.view).extents in
    let what : Fact FileExt → FileExt = λ f. f.what in (
      (λ c.
          let t = from-map what facts c.0 (subst (λ (xs : List FileExt). In c.0 xs) same c.1) in
          let o : IsOfExtent (site_of seen) t.0.what block = subst (λ e. IsOfExtent (site_of seen) e block) t.1.1 c.2 in
          record { extent = t.0; one = t.1.0; no_hole = o.0; covers = o.1 }),
      (λ h. (h.extent.what, subst (λ (xs : List FileExt). In h.extent.what xs) (sym same) (in-map what facts h.extent h.one), (h.no_hole, h.covers))),
    )

pub walked-held : (image : List ℕ) (seen : Seen) (volume : Loaded) → IsGiven image seen volume → (kept : KeptView) → In kept (views_kept volume seen) → (test : ℕ → Bool) → (h : IsWalkedSet image (site_of seen) volume kept test) → (block : ℕ) →
    IsWalked image (site_of seen) volume kept h.files block ↔ IsHeld image seen volume kept block
walked-held image seen volume given kept one test h block =
    let site : Site = site_of seen in
    let oids : List ℕ = kept.view.root_oid ∷ h.files.below.items in
    let r = record-walked image seen volume kept oids block given one h.those.walkable h.those.nodes in
    let c = covered-held image seen volume kept h.files.extents.items block h.those.extents in
    let Held : Type 0 = IsHeld image seen volume kept block in
    let Walked : Type 0 = IsWalked image site volume kept h.files block in (
      (λ w. elim w as (λ _. Held) [
        | inl f ↦ elim f as (λ _. Held) [ inl n ↦ inl (r.1 (inl n)) | inr e ↦ inr (inl (c.0 e)) ]
        | inr k ↦ elim k as (λ _. Held) [
          | inl n ↦ inr (inr (inl n))
          | inr l ↦ elim l as (λ _. Held) [ inl m ↦ inl (r.1 (inr m)) | inr s ↦ inr (inr (inr s)) ]
        ]
      ]),
      (λ x. elim x as (λ _. Walked) [
        | inl k ↦ elim (r.0 k) as (λ _. Walked) [ inl n ↦ inl (inl n) | inr m ↦ inr (inr (inl m)) ]
        | inr k ↦ elim k as (λ _. Walked) [
          | inl e ↦ inl (inr (c.1 e))
          | inr l ↦ elim l as (λ _. Walked) [ inl n ↦ inr (inl n) | inr s ↦ inr (inr (inr s)) ]
        ]
      ]),
    )

walked-in : (image : List ℕ) (seen : Seen) (volume : Loaded) → IsGiven image seen volume → (kept : KeptView) → In kept (views_kept volume seen) → (test : ℕ → Bool) → (h : IsWalkedSet image (site_of seen) volume kept test) → (block : ℕ) →
    IsWalked image (site_of seen) volume kept h.files block → is_in block 0 (site_of seen).blocks ≡ true
walked-in image seen volume given kept one test h block w =
    let site : Site = site_of seen in
    let In_it : Type 0 = is_in block 0 site.blocks ≡ true in
    elim w as (λ _. In_it) [
      | inl f ↦ elim f as (λ _. In_it) [
        | inl n ↦ container-in site.blocks block block (named-inside site volume kept n.0 block n.2)
        | inr c ↦ covered-in site c.0 block (h.placed c.0 c.1) c.2
      ]
      | inr k ↦ elim k as (λ _. In_it) [
        | inl n ↦ node-in image site kept.extents_root block n
        | inr l ↦ elim l as (λ _. In_it) [
          | inl m ↦ container-in site.blocks block block (named-inside site volume kept kept.meta_ext block m.1)
          | inr s ↦ super-in image seen volume given kept one block s
        ]
      ]
    ]

-- the blocks that are found in a walk over a view are exactly those that the view holds
pub holding-exact : (image : List ℕ) (seen : Seen) (volume : Loaded) → IsGiven image seen volume → (site_of seen).blocks < 2 ^ 64 → (kept : KeptView) → In kept (views_kept volume seen) → (test : ℕ → Bool) → IsWalkedSet image (site_of seen) volume kept test → HasExactly (site_of seen).blocks (IsHeld image seen volume kept) test
holding-exact image seen volume given few kept one test h = record {
  inside = λ block held.
      let s = walked-held image seen volume given kept one test h block in
      let low = in-below block 0 (site_of seen).blocks (walked-in image seen volume given kept one test h block (s.1 held)) in
      omega (arith, low);
  held = λ block low.
      let s = walked-held image seen volume given kept one test h block in
      let x = h.has block (omega (arith, low, few)) in
      ((λ e. s.0 (x.0 e)), (λ p. x.1 (s.1 p)));
}
