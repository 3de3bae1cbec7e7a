-- What the naming of a sound object resolves to, and that it passes its tests.
use Rattle.std.proofs.Common.{◌≡◌, ℕ, Bool, true, List, None, Some, Result, Ok, Err, is_ok, ap, ◌∙◌, if◌then◌else◌}
use Rattle.std.specs.Prelude.{option_map, option_and_then}
use Rattle.apfs_model.specs.Blocks.{in_container}
use Rattle.apfs_model.specs.Object.{map_kind, volume_kind}
use Rattle.obj_base.specs.Sound.{sound_of, expecting}
use Rattle.obj_base.specs.declared.header.Header.{Header}
use Rattle.obj_base.specs.declared.header.HeadFault.{HeadFault}
use Rattle.obj_base.specs.declared.stop.Bad.{Bad}
use Rattle.obj_base.specs.declared.stop.Bad.TheVariants.{Found as Fails, Unsupported}
use Rattle.obj_base.specs.declared.site.Site.{Site}
use Rattle.nx_block.specs.Super.{omap_oid_of}
use Rattle.nx_ring.specs.Checkpoint.{Seen, site_of}
use Rattle.omap_map.specs.Maps.{resolved_in}
use Rattle.omap_map.specs.declared.records.OmapRecord.{OmapRecord}
use Rattle.vol_view.specs.Heads.{has_magic}
use Rattle.reach_rules.specs.declared.fault.Why.TheVariants.{Magic}
use Rattle.reach_rules.specs.declared.naming.ViewAt.{ViewAt}
use Rattle.reach_rules.specs.declared.naming.LookUp.TheVariants.{InContainer}
use Rattle.reach_rules.specs.declared.naming.Object.TheVariants.{OfRecord}
use Rattle.reach_rules.specs.declared.naming.Namer.{Namer}
use Rattle.reach_rules.specs.declared.naming.Expected.{Expected}
use Rattle.reach_rules.specs.declared.naming.Expected.TheVariants.{ContainerMap, VolumeIn, VolumeMap, SnapshotSuper}
use Rattle.reach_rules.specs.Naming.{naming}
use Rattle.reach_rules.specs.Resolved.{resolved, standing, recorded}
use Rattle.reach_rules.specs.Tested.{Answer, of_header, with_magic, tested}
use Rattle.reach_rules.proofs.SpaceLifted.{ok-header}

-- ---- what it resolves to
-- what a record of the container's map gives is found
pub record-found : (image : List ℕ) (seen : Seen) (namer : Namer) (at : ℕ) (e : Expected) (oid block : ℕ) (r : OmapRecord) → resolved_in image (site_of seen) (omap_oid_of seen.nx) oid seen.line.xid ≡ Some r → in_container (site_of seen).blocks r.paddr ≡ Some block →
    resolved image seen (naming namer at e InContainer oid) ≡ Some (standing image (site_of seen) (OfRecord (omap_oid_of seen.nx) r) block)
unfolding resolved
record-found image seen namer at e oid block r found inside =
    ap (option_and_then (recorded image (site_of seen) (omap_oid_of seen.nx))) found ∙ ap (option_map (standing image (site_of seen) (OfRecord (omap_oid_of seen.nx) r))) inside

-- ---- its tests
-- the answer by the test of the magic
abbrev by_magic : List ℕ → Bool → Answer
by_magic bytes b = if b then Ok bytes else Err (Fails Magic)

magic-passes : (bytes : List ℕ) (r : Result Header (Bad HeadFault)) → is_ok r ≡ true → has_magic bytes ≡ true → is_ok (with_magic has_magic (of_header bytes r)) ≡ true
magic-passes bytes (Ok h) e m = ap (λ b. is_ok (by_magic bytes b)) m
magic-passes bytes (Err (Fails why)) e m = e
magic-passes bytes (Err (Unsupported feature)) e m = e

pub container-passes : (site : Site) (oid : ℕ) (bytes : List ℕ) → is_ok (sound_of bytes (expecting map_kind (Some oid) site.max_xid)) ≡ true → is_ok (tested site ContainerMap oid bytes) ≡ true
unfolding tested
container-passes site oid bytes e = ok-header bytes (sound_of bytes (expecting map_kind (Some oid) site.max_xid)) e

pub map-passes : (site : Site) (oid : ℕ) (bytes : List ℕ) → is_ok (sound_of bytes (expecting map_kind (Some oid) site.max_xid)) ≡ true → is_ok (tested site VolumeMap oid bytes) ≡ true
unfolding tested
map-passes site oid bytes e = ok-header bytes (sound_of bytes (expecting map_kind (Some oid) site.max_xid)) e

pub volume-passes : (site : Site) (slot oid : ℕ) (bytes : List ℕ) → is_ok (sound_of bytes (expecting volume_kind (Some oid) site.max_xid)) ≡ true → has_magic bytes ≡ true → is_ok (tested site (VolumeIn slot) oid bytes) ≡ true
unfolding tested
volume-passes site slot oid bytes e m = magic-passes bytes (sound_of bytes (expecting volume_kind (Some oid) site.max_xid)) e m

pub super-passes : (site : Site) (view : ViewAt) (oid : ℕ) (bytes : List ℕ) → is_ok (sound_of bytes (expecting volume_kind None site.max_xid)) ≡ true → has_magic bytes ≡ true → is_ok (tested site (SnapshotSuper view) oid bytes) ≡ true
unfolding tested
super-passes site view oid bytes e m = magic-passes bytes (sound_of bytes (expecting volume_kind None site.max_xid)) e m
