-- What a live naming of a sound object says of the object.
use Rattle.std.proofs.Common.{◌≡◌, ℕ, true, List, Option, Some, None, Result, Ok, Err, is_ok, inl, inr, refl, ap, sym, ◌∙◌, subst}
use Rattle.std.specs.Prelude.{option_map, option_and_then, is_some}
use Rattle.apfs_model.specs.Blocks.{block_of, in_container}
use Rattle.apfs_model.specs.Object.{cab_kind, cib_kind, map_kind}
use Rattle.obj_base.specs.Sound.{sound_of, expecting}
use Rattle.obj_base.specs.declared.header.Header.{Header}
use Rattle.obj_base.specs.declared.header.HeadFault.{HeadFault}
use Rattle.obj_base.specs.declared.stop.Bad.{Bad}
use Rattle.obj_base.specs.declared.stop.Bad.TheVariants.{Found as Fails, Unsupported}
use Rattle.obj_base.specs.declared.site.Site.{Site}
use Rattle.nx_block.specs.Super.{space_oid_of, omap_oid_of}
use Rattle.nx_ring.specs.Objects.{Place}
use Rattle.nx_ring.specs.Checkpoint.{Seen, site_of, eph}
use Rattle.omap_map.specs.Maps.{is_map_object}
use Rattle.space_map.specs.Blocks.{manager_test, is_info, info_test}
use Rattle.space_map.specs.Stops.{HasManager}
use Rattle.reach_rules.specs.Naming.{ByBlock, ByMapping, Newest, InBlock, OfId, Namer, Whole, Expected, SpaceManager, ContainerMap, VolumeMap, AddressBlock, InfoBlock, Naming, naming}
use Rattle.reach_rules.specs.Resolved.{Found, resolved, standing, found_physical, found_ephemeral, mapped}
use Rattle.reach_rules.specs.Tested.{Answer, of_header, head_tested, tested}
use Rattle.reach_rules.specs.Next.{roots}
use Rattle.reach_rules.specs.Live.{rooted, IsLive, NamesSound}
use Rattle.apfs_model.proofs.BoolTests.{both-true}
use Rattle.apfs_model.proofs.Inside.{inside-same}

-- a header that passes its tests
pub header-ok : (bytes : List ℕ) (r : Result Header (Bad HeadFault)) → is_ok (of_header bytes r) ≡ true → is_ok r ≡ true
header-ok bytes (Ok h) e = refl
header-ok bytes (Err (Fails why)) e = e
header-ok bytes (Err (Unsupported feature)) e = e

-- what is found by a block
pub record Stands (image : List ℕ) (site : Site) (oid : ℕ) (f : Found) : Type 0 where
  pub inside : in_container site.blocks oid ≡ Some oid
  pub bytes_are : f.bytes ≡ block_of site.block_size image oid
  pub block_is : f.block ≡ oid

physical-found : (image : List ℕ) (site : Site) (oid : ℕ) (f : Found) → found_physical image site oid ≡ Some f → Stands image site oid f
physical-found image site oid f h =
    let go : (o : Option ℕ) → in_container site.blocks oid ≡ o → option_map (λ block. standing image site (InBlock block) block) o ≡ Some f → Stands image site oid f =
    λ o. elim o as (λ o. in_container site.blocks oid ≡ o → option_map (λ block. standing image site (InBlock block) block) o ≡ Some f → Stands image site oid f) [
      | None ↦ λ e s. let z : ◌≡◌ {A = Option Found} None (Some f) = s in absurd (let q : ⊥ = cc in q)
      | Some b ↦ λ e s.
          let z : ◌≡◌ {A = Option Found} (Some (standing image site (InBlock b) b)) (Some f) = s in
          let p : standing image site (InBlock b) b ≡ f = cc in
          let c : b ≡ oid = inside-same site.blocks oid b e in
          record {
            inside = e ∙ ap Some c;
            bytes_are = ap (λ (x : Found). x.bytes) (sym p) ∙ ap (λ k. block_of site.block_size image k) c;
            block_is = ap (λ (x : Found). x.block) (sym p) ∙ c;
          }
    ] in
    go (in_container site.blocks oid) refl h

-- a sound physical object without a magic
pub record IsPhysical (image : List ℕ) (site : Site) (kind oid : ℕ) (f : Found) : Type 0 where
  pub stands : Stands image site oid f
  pub sound : is_ok (sound_of (block_of site.block_size image oid) (expecting kind (Some oid) site.max_xid)) ≡ true

pub physical-sound : (image : List ℕ) (seen : Seen) (namer : Namer) (at : ℕ) (e : Expected) (kind oid : ℕ) (f : Found) → ((bytes : List ℕ) → tested (site_of seen) e oid bytes ≡ head_tested (site_of seen) kind (Some oid) bytes) → NamesSound image seen (naming namer at e ByBlock oid) f → IsPhysical image (site_of seen) kind oid f
unfolding resolved
physical-sound image seen namer at e kind oid f same n =
    let stands = physical-found image (site_of seen) oid f n.names.found in
    let s : is_ok (head_tested (site_of seen) kind (Some oid) f.bytes) ≡ true = ap (λ (a : Answer). is_ok a) (sym (same f.bytes)) ∙ n.sound in
    let t = header-ok f.bytes (sound_of f.bytes (expecting kind (Some oid) (site_of seen).max_xid)) s in
    record { stands = stands; sound = subst (λ b. is_ok (sound_of b (expecting kind (Some oid) (site_of seen).max_xid)) ≡ true) stands.bytes_are t }

info-of : (image : List ℕ) (site : Site) (kind oid : ℕ) (f : Found) → IsPhysical image site kind oid f → is_info image site kind oid ≡ true
unfolding is_info
info-of image site kind oid f p = both-true (is_some (in_container site.blocks oid)) (is_ok (info_test image site kind oid)) (ap (λ (o : Option ℕ). is_some o) p.stands.inside) p.sound

pub cab-info : (image : List ℕ) (seen : Seen) (namer : Namer) (at i oid : ℕ) (f : Found) → NamesSound image seen (naming namer at (AddressBlock i) ByBlock oid) f → is_info image (site_of seen) cab_kind oid ≡ true
unfolding tested
cab-info image seen namer at i oid f n = info-of image (site_of seen) cab_kind oid f (physical-sound image seen namer at (AddressBlock i) cab_kind oid f (λ b. refl) n)

pub cib-info : (image : List ℕ) (seen : Seen) (namer : Namer) (at i oid : ℕ) (f : Found) → NamesSound image seen (naming namer at (InfoBlock i) ByBlock oid) f → is_info image (site_of seen) cib_kind oid ≡ true
unfolding tested
cib-info image seen namer at i oid f n = info-of image (site_of seen) cib_kind oid f (physical-sound image seen namer at (InfoBlock i) cib_kind oid f (λ b. refl) n)

pub cab-bytes : (image : List ℕ) (seen : Seen) (namer : Namer) (at : ℕ) (e : Expected) (oid : ℕ) (f : Found) → resolved image seen (naming namer at e ByBlock oid) ≡ Some f → f.bytes ≡ block_of (site_of seen).block_size image oid
unfolding resolved
cab-bytes image seen namer at e oid f h = (physical-found image (site_of seen) oid f h).bytes_are

map-of : (image : List ℕ) (site : Site) (oid : ℕ) (f : Found) → IsPhysical image site map_kind oid f → is_map_object image site oid ≡ true
unfolding is_map_object
map-of image site oid f p = both-true (is_some (in_container site.blocks oid)) _ (ap (λ (o : Option ℕ). is_some o) p.stands.inside) p.sound

pub container-map-sound : (image : List ℕ) (seen : Seen) (namer : Namer) (at oid : ℕ) (f : Found) → NamesSound image seen (naming namer at ContainerMap ByBlock oid) f → is_map_object image (site_of seen) oid ≡ true
unfolding tested
container-map-sound image seen namer at oid f n = map-of image (site_of seen) oid f (physical-sound image seen namer at ContainerMap map_kind oid f (λ b. refl) n)

pub volume-map-sound : (image : List ℕ) (seen : Seen) (namer : Namer) (at oid : ℕ) (f : Found) → NamesSound image seen (naming namer at VolumeMap ByBlock oid) f → is_map_object image (site_of seen) oid ≡ true
unfolding tested
volume-map-sound image seen namer at oid f n = map-of image (site_of seen) oid f (physical-sound image seen namer at VolumeMap map_kind oid f (λ b. refl) n)

-- what is found by a mapping
record Maps (seen : Seen) (oid : ℕ) (f : Found) : Type 0 where
  place : Place
  at : eph seen oid ≡ Some place
  inside : in_container (site_of seen).blocks place.block ≡ Some f.block
  bytes_are : f.bytes ≡ place.bytes

mapped-parts : (seen : Seen) (oid : ℕ) (place : Place) (f : Found) → eph seen oid ≡ Some place → mapped (site_of seen) oid place ≡ Some f → Maps seen oid f
mapped-parts seen oid place f at h =
    let go : (o : Option ℕ) → in_container (site_of seen).blocks place.block ≡ o → option_map (λ block. record { object = OfId oid; block = block; bytes = place.bytes }) o ≡ Some f → Maps seen oid f =
    λ o. elim o as (λ o. in_container (site_of seen).blocks place.block ≡ o → option_map (λ block. record { object = OfId oid; block = block; bytes = place.bytes }) o ≡ Some f → Maps seen oid f) [
      | None ↦ λ e s. let z : ◌≡◌ {A = Option Found} None (Some f) = s in absurd (let q : ⊥ = cc in q)
      | Some b ↦ λ e s.
          let z : ◌≡◌ {A = Option Found} (Some (record { object = OfId oid; block = b; bytes = place.bytes })) (Some f) = s in
          let p : ◌≡◌ {A = Found} (record { object = OfId oid; block = b; bytes = place.bytes }) f = cc in
          record { place = place; at = at; inside = e ∙ ap Some (ap (λ (x : Found). x.block) p); bytes_are = ap (λ (x : Found). x.bytes) (sym p) }
    ] in
    go (in_container (site_of seen).blocks place.block) refl h

maps-from : (image : List ℕ) (seen : Seen) (oid : ℕ) (f : Found) → found_ephemeral image seen SpaceManager oid ≡ Some f → Maps seen oid f
maps-from image seen oid f h =
    let go : (o : Option Place) → eph seen oid ≡ o → option_and_then (λ (place : Place). mapped (site_of seen) oid place) o ≡ Some f → Maps seen oid f =
    λ o. elim o as (λ o. eph seen oid ≡ o → option_and_then (λ (place : Place). mapped (site_of seen) oid place) o ≡ Some f → Maps seen oid f) [
      | None ↦ λ at m. let z : ◌≡◌ {A = Option Found} None (Some f) = m in absurd (let q : ⊥ = cc in q)
      | Some place ↦ λ at m. mapped-parts seen oid place f at m
    ] in
    go (eph seen oid) refl h

-- the naming of the space manager
abbrev pub manager_naming : Seen → Naming
manager_naming seen = naming (Whole Newest) 152 SpaceManager ByMapping (space_oid_of seen.nx)

pub manager-live : (image : List ℕ) (seen : Seen) → IsLive image seen (manager_naming seen)
unfolding roots
manager-live image seen = rooted (manager_naming seen) (inl refl)

-- the naming of the container's map
abbrev pub map_naming : Seen → Naming
map_naming seen = naming (Whole Newest) 160 ContainerMap ByBlock (omap_oid_of seen.nx)

pub map-live : (image : List ℕ) (seen : Seen) → IsLive image seen (map_naming seen)
unfolding roots
map-live image seen = rooted (map_naming seen) (inr (inl refl))

-- the space manager that is named and sound is there
pub manager-there : (image : List ℕ) (seen : Seen) (f : Found) → NamesSound image seen (manager_naming seen) f → HasManager seen f.bytes f.block
unfolding resolved tested site_of
manager-there image seen f n =
    let m = maps-from image seen (space_oid_of seen.nx) f n.names.found in
    record {
      some = ap (λ (o : Option Place). option_map (λ (p : Place). p.bytes) o) m.at ∙ ap Some (sym m.bytes_are);
      at = ap (λ (o : Option Place). option_and_then (in_container (site_of seen).blocks) (option_map (λ (p : Place). p.block) o)) m.at ∙ m.inside;
      sound = header-ok f.bytes (manager_test seen f.bytes) n.sound;
    }
