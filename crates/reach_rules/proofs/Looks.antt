-- The trees of a container are looked up as namings are: the physical ones by their blocks, those of a view by its volume's map.
use Rattle.std.proofs.Common.{◌≡◌, ℕ, Bool, true, false, List, Option, Some, None, refl, ap, sym, ◌∙◌, subst, if◌then◌else◌}
use Rattle.std.specs.Prelude.{option_map, option_and_then}
use Rattle.apfs_model.specs.Blocks.{in_container}
use Rattle.apfs_model.proofs.Inside.{inside-same}
use Rattle.obj_base.specs.declared.site.Site.{Site}
use Rattle.bt_keys.specs.Shapes.{omap_shape, omap_snap_shape, ext_shape, snap_shape}
use Rattle.nx_ring.specs.Checkpoint.{Seen, site_of}
use Rattle.omap_map.specs.Resolve.{resolved as resolves, resolve, place_of, named_by}
use Rattle.omap_map.specs.Maps.{map_records, is_whole_map, resolved_in}
use Rattle.omap_map.specs.Loading.{named_in}
use Rattle.omap_map.specs.declared.records.OmapRecord.{OmapRecord}
use Rattle.omap_map.specs.declared.records.Place.{Place}
use Rattle.reach_rules.specs.Naming.{ByBlock, Object, InBlock, OfRecord, MapRecords, MapSnapshots, ExtentRefs, SnapMetadata}
use Rattle.reach_rules.specs.Resolved.{Found, standing, recorded, found_physical, found_virtual}
use Rattle.reach_rules.proofs.Walks.{Matches, IsWalkOf}

-- a block is found once and again
pub block-match : (image : List ℕ) (site : Site) (object : ℕ → Object) (block : ℕ) → Matches image site (option_map (λ b. standing image site (object b) b) (in_container site.blocks block)) (option_and_then (in_container site.blocks) (in_container site.blocks block))
block-match image site object block =
    let Goal : Option ℕ → Type 0 = λ o. Matches image site (option_map (λ b. standing image site (object b) b) o) (option_and_then (in_container site.blocks) o) in
    let go : (o : Option ℕ) → in_container site.blocks block ≡ o → Goal o = λ o. elim o as (λ o. in_container site.blocks block ≡ o → Goal o) [
      | None ↦ λ e. tt
      | Some b ↦ λ e.
          let again : in_container site.blocks b ≡ Some b = ap (in_container site.blocks) (inside-same site.blocks block b e) ∙ e in
          subst (λ x. Matches image site (Some (standing image site (object b) b)) x) (sym again) (refl, refl)
    ] in
    go (in_container site.blocks block) refl

-- trees of physical nodes are walked as they are named
pub records-walk : (image : List ℕ) (seen : Seen) → IsWalkOf image seen MapRecords ByBlock omap_shape (in_container (site_of seen).blocks)
records-walk image seen = record { answer = λ at bytes. refl; kids = λ bytes. refl; found = λ e oid n. block-match image (site_of seen) InBlock oid }

pub snapshots-walk : (image : List ℕ) (seen : Seen) → IsWalkOf image seen MapSnapshots ByBlock omap_snap_shape (in_container (site_of seen).blocks)
snapshots-walk image seen = record { answer = λ at bytes. refl; kids = λ bytes. refl; found = λ e oid n. block-match image (site_of seen) InBlock oid }

pub metadata-walk : (image : List ℕ) (seen : Seen) → IsWalkOf image seen SnapMetadata ByBlock snap_shape (in_container (site_of seen).blocks)
metadata-walk image seen = record { answer = λ at bytes. refl; kids = λ bytes. refl; found = λ e oid n. block-match image (site_of seen) InBlock oid }

pub extents-walk : (image : List ℕ) (seen : Seen) → IsWalkOf image seen ExtentRefs ByBlock ext_shape (in_container (site_of seen).blocks)
extents-walk image seen = record { answer = λ at bytes. refl; kids = λ bytes. refl; found = λ e oid n. block-match image (site_of seen) InBlock oid }

-- a record is found through the map in a block, or none is
record-match : (image : List ℕ) (site : Site) (map : ℕ) (o : Option OmapRecord) → Matches image site (option_and_then (recorded image site map) o) (option_and_then (in_container site.blocks) (option_and_then (λ (p : Place). in_container site.blocks p.block) (option_map place_of o)))
record-match image site map None = tt
record-match image site map (Some r) = block-match image site (λ b. OfRecord map r) r.paddr

-- ids are looked up through a map as they are named
pub virtual-match : (image : List ℕ) (site : Site) (map x oid : ℕ) → Matches image site (found_virtual image site map x oid) (option_and_then (in_container site.blocks) (named_in image site map x oid))
unfolding resolved_in named_in named_by resolve
virtual-match image site map x oid =
    let rs : List OmapRecord = map_records image site map in
    let Goal : Bool → Type 0 = λ b. Matches image site (option_and_then (recorded image site map) (if b then resolves rs oid x else None)) (option_and_then (in_container site.blocks) (if b then named_by rs x site.blocks oid else None)) in
    elim (is_whole_map image site map) as (λ b. Goal b) [
      | true ↦ record-match image site map (resolves rs oid x)
      | false ↦ tt
    ]

-- what is found by a block
pub standing-by : (image : List ℕ) (site : Site) (oid : ℕ) (f : Found) → found_physical image site oid ≡ Some f → f ≡ standing image site (InBlock oid) oid
standing-by image site oid f h =
    let go : (o : Option ℕ) → in_container site.blocks oid ≡ o → option_map (λ block. standing image site (InBlock block) block) o ≡ Some f → f ≡ standing image site (InBlock oid) oid = λ o. elim o as (λ o. in_container site.blocks oid ≡ o → option_map (λ block. standing image site (InBlock block) block) o ≡ Some f → f ≡ standing image site (InBlock oid) oid) [
      | Some b ↦ λ i e.
          let z : ◌≡◌ {A = Option Found} (Some (standing image site (InBlock b) b)) (Some f) = e in
          let s : standing image site (InBlock b) b ≡ f = cc in
          sym s ∙ ap (λ k. standing image site (InBlock k) k) (inside-same site.blocks oid b i)
      | None ↦ λ i e. absurd (let z : ◌≡◌ {A = Option Found} None (Some f) = e in let q : ⊥ = cc in q)
    ] in
    go (in_container site.blocks oid) refl h
