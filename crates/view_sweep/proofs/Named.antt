-- What is wanted, as a naming: to which object it resolves, and what that one names.
use Rattle.std.proofs.Common.{◌≡◌, ℕ, zero, suc, true, false, List, [], ◌∷◌, map, Option, Some, None, Ok, Err, refl, ap, sym, ◌∙◌, if◌then◌else◌}
use Rattle.std.specs.Prelude.{option_map, option_and_then}
use Rattle.apfs_model.specs.Blocks.{in_container}
use Rattle.apfs_model.specs.Lists.{through}
use Rattle.apfs_model.proofs.Inside.{inside-same}
use Rattle.bt_node.specs.Node.{level_of}
use Rattle.obj_base.specs.declared.site.Site.{Site}
use Rattle.nx_ring.specs.Checkpoint.{Seen, site_of}
use Rattle.omap_map.specs.Resolve.{resolved as resolves, latest}
use Rattle.omap_map.specs.Maps.{map_records, is_whole_map, resolved_in, contents_of}
use Rattle.omap_map.specs.declared.records.OmapRecord.{OmapRecord}
use Rattle.vol_view.specs.Volumes.{Loaded, map_or_empty, empty_map}
use Rattle.reach_rules.specs.declared.naming.LookUp.TheVariants.{InView}
use Rattle.reach_rules.specs.declared.naming.Object.TheVariants.{OfRecord}
use Rattle.reach_rules.specs.declared.naming.Namer.{Namer}
use Rattle.reach_rules.specs.declared.naming.Namer.TheVariants.{Whole}
use Rattle.reach_rules.specs.declared.naming.TreeKind.TheVariants.{Files}
use Rattle.reach_rules.specs.declared.naming.Naming.{Naming}
use Rattle.reach_rules.specs.Resolved.{Found, standing, recorded, resolved}
use Rattle.reach_rules.specs.Tested.{Answer, tested}
use Rattle.reach_rules.specs.Next.{children_in, child_namings, node_namings, names, names_if, next}
use Rattle.view_sweep.specs.declared.wanted.SweptView.{SweptView}
use Rattle.view_sweep.specs.declared.wanted.Want.{Want}
use Rattle.view_sweep.specs.declared.wanted.Want.TheVariants.{Root, Metadata, Node}
use Rattle.view_sweep.specs.declared.wanted.Wanted.{Wanted}
use Rattle.view_sweep.specs.Wanted.{view_at, wanted, expected_by, expected_of, naming_of}
use Rattle.view_sweep.specs.Found.{world, looked, placed, records_at, bytes_at, kids_from, kids_by, wants_by, wants_if, next_by, next_of}

-- ---- to which object it resolves
-- the object of a record that a view uses
abbrev pub object_at : List ℕ → Site → SweptView → OmapRecord → Found
object_at image site v r = standing image site (OfRecord v.map r) r.paddr

-- through a map that isn't whole nothing is found, nor is anything among no records
same-record : (image : List ℕ) (site : Site) (map oid x : ℕ) → resolved_in image site map oid x ≡ resolves (map_or_empty image site map).records oid x
unfolding resolved_in map_or_empty resolves latest
same-record image site map oid x =
    elim (is_whole_map image site map) as (λ b. (if b then resolves (map_records image site map) oid x else None) ≡ resolves (if b then contents_of image site map else empty_map).records oid x) [
      | true ↦ refl
      | false ↦ refl
    ]

placed-at : (image : List ℕ) (site : Site) (v : SweptView) (r : OmapRecord) → recorded image site v.map r ≡ option_map (object_at image site v) (placed site r)
placed-at image site v r =
    let Goal : Option ℕ → Type 0 = λ o. option_map (standing image site (OfRecord v.map r)) o ≡ option_map (object_at image site v) (option_map (λ (block : ℕ). r) o) in
    let go : (o : Option ℕ) → in_container site.blocks r.paddr ≡ o → Goal o = λ o. elim o as (λ o. in_container site.blocks r.paddr ≡ o → Goal o) [
      | None ↦ λ e. refl
      | Some b ↦ λ e. ap (λ (k : ℕ). Some (standing image site (OfRecord v.map r) k)) (inside-same site.blocks r.paddr b e)
    ] in
    go (in_container site.blocks r.paddr) refl

placed-all : (image : List ℕ) (site : Site) (v : SweptView) (o : Option OmapRecord) → option_and_then (recorded image site v.map) o ≡ option_map (object_at image site v) (option_and_then (placed site) o)
placed-all image site v None = refl
placed-all image site v (Some r) = placed-at image site v r

-- the volume of a view has the records of the map in the block that the view gives
pub record IsMapped (image : List ℕ) (seen : Seen) (volumes : List Loaded) (v : SweptView) : Type 0 where
  pub same : records_at volumes v.volume ≡ (map_or_empty image (site_of seen) v.map).records

pub resolves-as : (image : List ℕ) (seen : Seen) (loaded : List Loaded) (supers : SweptView → Namer) (w : Wanted) → IsMapped image seen loaded w.view → resolved image seen (naming_of supers w) ≡ option_map (object_at image (site_of seen) w.view) (looked loaded (site_of seen) w)
unfolding resolved looked
resolves-as image seen loaded supers w m =
    ap (option_and_then (recorded image (site_of seen) w.view.map)) (same-record image (site_of seen) w.view.map w.oid w.view.xid ∙ ap (λ (rs : List OmapRecord). resolves rs w.oid w.view.xid) (sym m.same))
    ∙ placed-all image (site_of seen) w.view (resolves (records_at loaded w.view.volume) w.oid w.view.xid)

-- ---- what it names
kids-from-as : (supers : SweptView → Namer) (v : SweptView) (r : OmapRecord) (level i : ℕ) (oids : List ℕ) → map (naming_of supers) (kids_from v r level i oids) ≡ child_namings (Whole (OfRecord v.map r)) (Files v.hashed) (InView (view_at v)) level i oids
kids-from-as supers v r level i [] = refl
kids-from-as supers v r level i (oid ∷ oids) = ap (λ (ns : List Naming). naming_of supers (wanted v oid (Node level r i)) ∷ ns) (kids-from-as supers v r level (suc i) oids)

kids-as : (supers : SweptView → Namer) (v : SweptView) (r : OmapRecord) (level : ℕ) (oids : List ℕ) → map (naming_of supers) (kids_by v r level oids) ≡ node_namings (Whole (OfRecord v.map r)) (Files v.hashed) (InView (view_at v)) level oids
kids-as supers v r zero oids = refl
kids-as supers v r (suc level) oids = kids-from-as supers v r level 0 oids

wants-as : (image : List ℕ) (seen : Seen) (supers : SweptView → Namer) (v : SweptView) (want : Want) (r : OmapRecord) (bytes : List ℕ) → map (naming_of supers) (wants_by v want r bytes) ≡ names image seen (InView (view_at v)) (expected_by v want) (Whole (OfRecord v.map r)) bytes
wants-as image seen supers v Root r bytes = kids-as supers v r (level_of bytes) (children_in (Files v.hashed) bytes)
wants-as image seen supers v Metadata r bytes = refl
wants-as image seen supers v (Node level namer entry) r bytes = kids-as supers v r level (children_in (Files v.hashed) bytes)

-- what is wanted where the answer of the tests is known
answer-as : (image : List ℕ) (seen : Seen) (supers : SweptView → Namer) (w : Wanted) (r : OmapRecord) (a : Answer) → map (naming_of supers) (wants_if w r (bytes_at image (site_of seen) r) a) ≡ names_if image seen (naming_of supers w) (object_at image (site_of seen) w.view r) a
answer-as image seen supers w r (Ok b) = wants-as image seen supers w.view w.want r (bytes_at image (site_of seen) r)
answer-as image seen supers w r (Err bad) = refl

by-record-as : (image : List ℕ) (seen : Seen) (loaded : List Loaded) (supers : SweptView → Namer) (w : Wanted) (o : Option OmapRecord) →
    map (naming_of supers) (next_by (world loaded (site_of seen) image) w o)
    ≡ through (option_map (object_at image (site_of seen) w.view) o) (λ (f : Found). names_if image seen (naming_of supers w) f (tested (site_of seen) (expected_of w) w.oid f.bytes))
by-record-as image seen loaded supers w None = refl
by-record-as image seen loaded supers w (Some r) = answer-as image seen supers w r (tested (site_of seen) (expected_of w) w.oid (bytes_at image (site_of seen) r))

-- what is wanted in turn are the namings to which the naming leads
pub next-as : (image : List ℕ) (seen : Seen) (loaded : List Loaded) (supers : SweptView → Namer) (w : Wanted) → IsMapped image seen loaded w.view →
    map (naming_of supers) (next_of (world loaded (site_of seen) image) w) ≡ next image seen (naming_of supers w)
unfolding next_of next
next-as image seen loaded supers w m =
    by-record-as image seen loaded supers w (looked loaded (site_of seen) w)
    ∙ ap (λ o. through o (λ (f : Found). names_if image seen (naming_of supers w) f (tested (site_of seen) (expected_of w) w.oid f.bytes))) (sym (resolves-as image seen loaded supers w m))

-- ---- what the superblock of a view names is what is wanted of it
