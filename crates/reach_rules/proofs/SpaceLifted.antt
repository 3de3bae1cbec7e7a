-- What is told of the space of a container is present in the container.
use Rattle.std.proofs.Common.{◌≡◌, ℕ, ◌+◌, ◌*◌, ◌/◌, ◌%◌, Bool, true, false, ◌&&◌, ◌==◌, nat_lt, List, map, Option, Some, None, Result, Ok, Err, is_ok, inl, inr, refl, ap, ◌++◌, sym, ◌∙◌, subst, arith, if◌then◌else◌}
use Rattle.std.specs.Prelude.{option_map, option_and_then, is_some}
use Rattle.std.specs.List.{range_with_len}
use Rattle.apfs_model.specs.Blocks.{block_of, in_container}
use Rattle.apfs_model.specs.Lists.{In, through}
use Rattle.apfs_model.specs.Object.{cab_kind}
use Rattle.obj_base.specs.declared.header.Header.{Header}
use Rattle.obj_base.specs.declared.header.HeadFault.{HeadFault}
use Rattle.obj_base.specs.declared.stop.Bad.{Bad}
use Rattle.obj_base.specs.declared.stop.Bad.TheVariants.{Found as Fails, Unsupported}
use Rattle.obj_base.specs.declared.stop.Within.TheVariants.{Physical, Ephemeral, Container, Volume}
use Rattle.bt_node.specs.declared.fault.NodeFault.TheVariants.{Head}
use Rattle.nx_block.specs.Super.{space_oid_of}
use Rattle.nx_ring.specs.Objects.{Place}
use Rattle.nx_ring.specs.Checkpoint.{Seen, site_of, eph}
use Rattle.space_map.specs.Fields.{cabs_of, cibs_of, cab_cibs_of, addresses_of, pool_queue_of, main_queue_of}
use Rattle.space_map.specs.Geometry.{has_address, has_cib_place}
use Rattle.space_map.specs.Blocks.{manager_of, manager_block, manager_test, address_at, cab_address_at, cab_block_for, cib_block, is_info, info_test, is_cab_named, has_cab_for, is_cib_named}
use Rattle.obj_base.specs.declared.stop.Feature.{Feature}
use Rattle.space_map.specs.Stops.{HasManager, NamesInfo, IsFaultOf, IsSpaceFault, space_features, IsInfoFeature, IsSpaceFeature}
use Rattle.space_map.specs.declared.fault.SpaceFault.{SpaceFault}
use Rattle.space_map.specs.declared.fault.SpaceFault.TheVariants as spaces
use Rattle.space_pool.specs.declared.entry.Queue.TheVariants.{Pool as PoolQueue, Main}
use Rattle.reach_rules.specs.declared.fault.Why.TheVariants.{Node}
use Rattle.reach_rules.specs.Naming.{ByBlock, ByMapping, InBlock, OfId, Namer, Whole, FreeQueue, Expected, AddressBlock, InfoBlock, TreeRoot, Naming, naming}
use Rattle.reach_rules.specs.Resolved.{Found, resolved, standing, mapped}
use Rattle.reach_rules.specs.Tested.{Answer, of_header, head_tested, tested}
use Rattle.reach_rules.specs.Next.{unless_zero, address_naming, addresses_in, address_namings, is_cib_of, cibs_in, cib_naming, cab_namings}
use Rattle.reach_rules.specs.Live.{led, IsLive, NamesSound}
use Rattle.reach_rules.specs.Faults.{Present}
use Rattle.reach_rules.specs.Features.{used_features, tested_features, features_through, HasFeature, of}
use Rattle.reach_rules.specs.Raised.{of_space}
use Rattle.apfs_model.proofs.BoolTests.{left-true, right-true, both-true, below-from, from-equal, in-range}
use Rattle.apfs_model.proofs.Searches.{in-right, in-map, in-filter}
use Rattle.apfs_model.proofs.Inside.{inside-itself}
use Rattle.reach_rules.proofs.Nexts.{in-next}
use Rattle.reach_rules.proofs.Sounds.{manager_naming, manager-live}
use Rattle.reach_rules.proofs.SpaceDecided.{in-if-true, in-if-false, some-below}

abbrev eph_found : ℕ → ℕ → List ℕ → Found
eph_found oid block bytes = record { object = OfId oid; block = block; bytes = bytes }

-- the manager, where its object and its first block are there
unfoldable pub there : (seen : Seen) (manager : List ℕ) (block : ℕ) → Found
there seen manager block = record { object = OfId (space_oid_of seen.nx); block = block; bytes = manager }

manager-found : (image : List ℕ) (seen : Seen) (manager : List ℕ) (block : ℕ) → manager_of seen ≡ Some manager → manager_block seen ≡ Some block → resolved image seen (manager_naming seen) ≡ Some (there seen manager block)
unfolding resolved there
manager-found image seen manager block some at =
    let oid = space_oid_of seen.nx in
    let N = (site_of seen).blocks in
    let inside : (place : Place) (o : Option ℕ) → place.bytes ≡ manager → o ≡ Some block → option_map (λ b. eph_found oid b place.bytes) o ≡ Some (eph_found oid block manager) =
    λ place o e h. subst (λ p. option_map (λ b. eph_found oid b place.bytes) p ≡ Some (eph_found oid block manager)) (sym h) (ap (λ m. Some (eph_found oid block m)) e) in
    let go : (o : Option Place) → option_map (λ (p : Place). p.bytes) o ≡ Some manager → option_and_then (in_container N) (option_map (λ (p : Place). p.block) o) ≡ Some block → option_and_then (λ (place : Place). mapped (site_of seen) oid place) o ≡ Some (eph_found oid block manager) =
    λ o. elim o as (λ o. option_map (λ (p : Place). p.bytes) o ≡ Some manager → option_and_then (in_container N) (option_map (λ (p : Place). p.block) o) ≡ Some block → option_and_then (λ (place : Place). mapped (site_of seen) oid place) o ≡ Some (eph_found oid block manager)) [
      | None ↦ λ s a. absurd (let z : ◌≡◌ {A = Option (List ℕ)} None (Some manager) = s in let q : ⊥ = cc in q)
      | Some place ↦ λ s a. let z : ◌≡◌ {A = Option (List ℕ)} (Some place.bytes) (Some manager) = s in let p : place.bytes ≡ manager = cc in inside place (in_container N place.block) p a
    ] in
    go (eph seen oid) some at

manager-lost : (image : List ℕ) (seen : Seen) → manager_block seen ≡ None → resolved image seen (manager_naming seen) ≡ None
unfolding resolved
manager-lost image seen at =
    let oid = space_oid_of seen.nx in
    let N = (site_of seen).blocks in
    let go : (o : Option Place) → option_and_then (in_container N) (option_map (λ (p : Place). p.block) o) ≡ None → option_and_then (λ (place : Place). mapped (site_of seen) oid place) o ≡ None =
    λ o. elim o as (λ o. option_and_then (in_container N) (option_map (λ (p : Place). p.block) o) ≡ None → option_and_then (λ (place : Place). mapped (site_of seen) oid place) o ≡ None) [
      | None ↦ λ a. refl
      | Some place ↦ λ a. ap (λ (p : Option ℕ). option_map (λ b. eph_found oid b place.bytes) p) a
    ] in
    go (eph seen oid) at

-- a header's answer, said of a named object
pub ok-header : (bytes : List ℕ) (r : Result Header (Bad HeadFault)) → is_ok r ≡ true → is_ok (of_header bytes r) ≡ true
ok-header bytes (Ok h) e = refl
ok-header bytes (Err (Fails why)) e = e
ok-header bytes (Err (Unsupported feature)) e = e

pub manager-sound : (image : List ℕ) (seen : Seen) (manager : List ℕ) (block : ℕ) → HasManager seen manager block → NamesSound image seen (manager_naming seen) (there seen manager block)
unfolding tested there site_of
manager-sound image seen manager block h = record {
  names = record { live = manager-live image seen; found = manager-found image seen manager block h.some h.at };
  sound = ok-header manager (manager_test seen manager) h.sound;
}

-- what the manager's addresses name
address-named : (image : List ℕ) (seen : Seen) (manager : List ℕ) (block : ℕ) → HasManager seen manager block → (n : Naming) → In n (address_namings (Whole (OfId (space_oid_of seen.nx))) manager) → IsLive image seen n
unfolding there
address-named image seen manager block h n k =
    let me = Whole (OfId (space_oid_of seen.nx)) in
    let s = manager-sound image seen manager block h in
    led (manager_naming seen) n s.names.live (in-next image seen (manager_naming seen) n (record {
      object = there seen manager block;
      found = s.names.found;
      sound = s.sound;
      names = in-right n (unless_zero me 208 (TreeRoot (FreeQueue PoolQueue)) ByMapping (pool_queue_of manager)) _
          (in-right n (unless_zero me 248 (TreeRoot (FreeQueue Main)) ByMapping (main_queue_of manager)) (address_namings me manager) k);
    }))

abbrev cab_naming_of : Seen → List ℕ → ℕ → Naming
cab_naming_of seen manager i = address_naming AddressBlock (Whole (OfId (space_oid_of seen.nx))) manager i

cab-named-live : (image : List ℕ) (seen : Seen) (manager : List ℕ) (block i : ℕ) → HasManager seen manager block → is_cab_named manager i ≡ true → IsLive image seen (cab_naming_of seen manager i)
unfolding is_cab_named
cab-named-live image seen manager block i h e =
    let me = Whole (OfId (space_oid_of seen.nx)) in
    let low = below-from i (cabs_of manager) (left-true (nat_lt i (cabs_of manager)) (has_address manager i) e) in
    let fits = right-true (nat_lt i (cabs_of manager)) (has_address manager i) e in
    address-named image seen manager block h (cab_naming_of seen manager i) (in-if-false (cab_naming_of seen manager i) (cabs_of manager == 0) _ (map (address_naming AddressBlock me manager) (addresses_in manager (cabs_of manager))) (some-below (cabs_of manager) i low)
    (in-map (address_naming AddressBlock me manager) (addresses_in manager (cabs_of manager)) i (in-filter (has_address manager) i (range_with_len 0 (cabs_of manager)) (in-range 0 (cabs_of manager) i (omega arith) (omega arith)) fits)))

-- what a block of the container is found as
pub block-found : (image : List ℕ) (seen : Seen) (namer : Namer) (at : ℕ) (e : Expected) (oid : ℕ) → in_container (site_of seen).blocks oid ≡ Some oid → resolved image seen (naming namer at e ByBlock oid) ≡ Some (standing image (site_of seen) (InBlock oid) oid)
unfolding resolved
block-found image seen namer at e oid inside = ap (λ (o : Option ℕ). option_map (λ b. standing image (site_of seen) (InBlock b) b) o) inside

block-lost : (image : List ℕ) (seen : Seen) (namer : Namer) (at : ℕ) (e : Expected) (oid : ℕ) → in_container (site_of seen).blocks oid ≡ None → resolved image seen (naming namer at e ByBlock oid) ≡ None
unfolding resolved
block-lost image seen namer at e oid outside = ap (λ (o : Option ℕ). option_map (λ b. standing image (site_of seen) (InBlock b) b) o) outside

-- a sound chunk-info address block is sound as it is named
cab-is-sound : (image : List ℕ) (seen : Seen) (manager : List ℕ) (block i : ℕ) → HasManager seen manager block → is_cab_named manager i ≡ true → is_info image (site_of seen) cab_kind (address_at manager i) ≡ true →
    NamesSound image seen (cab_naming_of seen manager i) (standing image (site_of seen) (InBlock (address_at manager i)) (address_at manager i))
unfolding is_info tested
cab-is-sound image seen manager block i h named info =
    let oid = address_at manager i in
    let inside = inside-itself (site_of seen).blocks oid (left-true (is_some (in_container (site_of seen).blocks oid)) _ info) in
    record {
      names = record { live = cab-named-live image seen manager block i h named; found = block-found image seen _ _ (AddressBlock i) oid inside };
      sound = ok-header (block_of (site_of seen).block_size image oid) (info_test image (site_of seen) cab_kind oid) (right-true (is_some (in_container (site_of seen).blocks oid)) _ info);
    }

-- a chunk-info block that is named, by whom it may be
pub record CibNamed (image : List ℕ) (seen : Seen) (manager : List ℕ) (i : ℕ) : Type 0 where
  pub namer : Namer
  pub at : ℕ
  pub live : IsLive image seen (naming namer at (InfoBlock i) ByBlock (cib_block (site_of seen).block_size image manager i))

pub own-block : (B : ℕ) (image manager : List ℕ) (i : ℕ) → (cabs_of manager == 0) ≡ true → cib_block B image manager i ≡ address_at manager i
unfolding cib_block
own-block B image manager i e = ap (λ (b : Bool). if b then address_at manager i else cab_address_at (block_of B image (cab_block_for manager i)) (i % cab_cibs_of manager)) e

pub other-block : (B : ℕ) (image manager : List ℕ) (i : ℕ) → (cabs_of manager == 0) ≡ false → cib_block B image manager i ≡ cab_address_at (block_of B image (cab_block_for manager i)) (i % cab_cibs_of manager)
unfolding cib_block
other-block B image manager i e = ap (λ (b : Bool). if b then address_at manager i else cab_address_at (block_of B image (cab_block_for manager i)) (i % cab_cibs_of manager)) e

cib-is-named : (image : List ℕ) (seen : Seen) (manager : List ℕ) (block i : ℕ) → HasManager seen manager block → is_cib_named image (site_of seen) manager i ≡ true → CibNamed image seen manager i
unfolding is_cib_named has_cab_for
cib-is-named image seen manager block i h e =
    let B = (site_of seen).block_size in
    let me = Whole (OfId (space_oid_of seen.nx)) in
    let low = below-from i (cibs_of manager) (left-true (nat_lt i (cibs_of manager)) _ e) in
    let rest = right-true (nat_lt i (cibs_of manager)) _ e in
    let own : (cabs_of manager == 0) ≡ true → has_address manager i ≡ true → CibNamed image seen manager i = λ none fits. record {
      namer = me;
      at = addresses_of manager + 8 * i;
      live = subst (λ b. IsLive image seen (naming me (addresses_of manager + 8 * i) (InfoBlock i) ByBlock b)) (sym (own-block B image manager i none))
          (address-named image seen manager block h (address_naming InfoBlock me manager i) (in-if-true (address_naming InfoBlock me manager i) (cabs_of manager == 0) (map (address_naming InfoBlock me manager) (addresses_in manager (cibs_of manager))) _ none
          (in-map (address_naming InfoBlock me manager) (addresses_in manager (cibs_of manager)) i (in-filter (has_address manager) i (range_with_len 0 (cibs_of manager)) (in-range 0 (cibs_of manager) i (omega arith) (omega arith)) fits))));
    } in
    let other : (cabs_of manager == 0) ≡ false → (has_cib_place B manager i && (is_cab_named manager (i / cab_cibs_of manager) && is_info image (site_of seen) cab_kind (cab_block_for manager i))) ≡ true → CibNamed image seen manager i = λ some t.
    let c = i / cab_cibs_of manager in
    let place = left-true (has_cib_place B manager i) _ t in
    let cab = right-true (has_cib_place B manager i) _ t in
    let s = cab-is-sound image seen manager block c h (left-true (is_cab_named manager c) _ cab) (right-true (is_cab_named manager c) _ cab) in
    let g = standing image (site_of seen) (InBlock (address_at manager c)) (address_at manager c) in
    let x = cib_naming (Whole (InBlock (address_at manager c))) manager g.bytes i in
    let here : In x (cab_namings B (Whole (InBlock (address_at manager c))) manager c g.bytes) = in-map (cib_naming (Whole (InBlock (address_at manager c))) manager g.bytes) (cibs_in B manager c) i
    (in-filter (is_cib_of B manager c) i (range_with_len 0 (cibs_of manager)) (in-range 0 (cibs_of manager) i (omega arith) (omega arith)) (both-true (i / cab_cibs_of manager == c) (has_cib_place B manager i) (from-equal (i / cab_cibs_of manager) c refl) place)) in
    let live : IsLive image seen x = led (cab_naming_of seen manager c) x s.names.live (in-next image seen (cab_naming_of seen manager c) x (record {
      object = g;
      found = s.names.found;
      sound = s.sound;
      names = subst (λ o. In x (through o (λ m. cab_namings B (Whole (InBlock (address_at manager c))) m c g.bytes))) (sym h.some) here;
    })) in
    record {
      namer = Whole (InBlock (address_at manager c));
      at = 40 + 8 * (i % cab_cibs_of manager);
      live = subst (λ b. IsLive image seen (naming (Whole (InBlock (address_at manager c))) (40 + 8 * (i % cab_cibs_of manager)) (InfoBlock i) ByBlock b)) (sym (other-block B image manager i some)) live;
    } in
    let go : (b : Bool) → (cabs_of manager == 0) ≡ b → (if b then has_address manager i else (has_cib_place B manager i && (is_cab_named manager (i / cab_cibs_of manager) && is_info image (site_of seen) cab_kind (cab_block_for manager i)))) ≡ true → CibNamed image seen manager i =
    λ b. elim b as (λ b. (cabs_of manager == 0) ≡ b → (if b then has_address manager i else (has_cib_place B manager i && (is_cab_named manager (i / cab_cibs_of manager) && is_info image (site_of seen) cab_kind (cab_block_for manager i)))) ≡ true → CibNamed image seen manager i) [
      | true ↦ own
      | false ↦ other
    ] in
    go (cabs_of manager == 0) refl rest

failed-header : (bytes : List ℕ) (r : Result Header (Bad HeadFault)) (why : HeadFault) → r ≡ Err (Fails why) → of_header bytes r ≡ Err (Fails (Node (Head why)))
failed-header bytes r why e = ap (λ (x : Result Header (Bad HeadFault)). of_header bytes x) e

-- a block that is named as telling of chunks, by a live naming
pub record InfoNamed (image : List ℕ) (seen : Seen) (kind block : ℕ) : Type 0 where
  pub namer : Namer
  pub at : ℕ
  pub expected : Expected
  pub live : IsLive image seen (naming namer at expected ByBlock block)
  pub tests : (bytes : List ℕ) → tested (site_of seen) expected block bytes ≡ head_tested (site_of seen) kind (Some block) bytes

info-is-named : (image : List ℕ) (seen : Seen) (manager : List ℕ) (b kind block : ℕ) → HasManager seen manager b → NamesInfo image (site_of seen) manager kind block → InfoNamed image seen kind block
unfolding tested
info-is-named image seen manager b kind block h (inl (k, (i, n))) = record {
  namer = Whole (OfId (space_oid_of seen.nx));
  at = addresses_of manager + 8 * i;
  expected = AddressBlock i;
  live = subst (λ x. IsLive image seen (naming (Whole (OfId (space_oid_of seen.nx))) (addresses_of manager + 8 * i) (AddressBlock i) ByBlock x)) (sym n.same) (cab-named-live image seen manager b i h n.named);
  tests = λ bytes. ap (λ x. head_tested (site_of seen) x (Some block) bytes) (sym k);
}
info-is-named image seen manager b kind block h (inr (k, (i, n))) =
    let c = cib-is-named image seen manager b i h n.named in
    record {
      namer = c.namer;
      at = c.at;
      expected = InfoBlock i;
      live = subst (λ x. IsLive image seen (naming c.namer c.at (InfoBlock i) ByBlock x)) (sym n.same) c.live;
      tests = λ bytes. ap (λ x. head_tested (site_of seen) x (Some block) bytes) (sym k);
    }

-- what is told of the sound manager, or of what stands below it
below-present : (image : List ℕ) (seen : Seen) (manager : List ℕ) (b : ℕ) → HasManager seen manager b → (fault : SpaceFault) → IsFaultOf image (site_of seen) manager fault → Present image seen (of_space seen fault)
below-present image seen manager b h (spaces.Unnamed Physical oid) ((kind, n), outside) =
    let t = info-is-named image seen manager b kind oid h n in
    record { naming = naming t.namer t.at t.expected ByBlock oid; live = t.live; lost = block-lost image seen t.namer t.at t.expected oid outside; shown = record { within_is = refl; oid_is = refl; xid_is = refl } }
below-present image seen manager b h (spaces.Unnamed Ephemeral oid) p = absurd p
below-present image seen manager b h (spaces.Unnamed Container oid) p = absurd p
below-present image seen manager b h (spaces.Unnamed (Volume slot) oid) p = absurd p
below-present image seen manager b h (spaces.Unsound block why) (kind, n, fails) =
    let t = info-is-named image seen manager b kind block h n.named in
    record {
      naming = naming t.namer t.at t.expected ByBlock block;
      object = standing image (site_of seen) (InBlock block) block;
      names = record { live = t.live; found = block-found image seen t.namer t.at t.expected block n.inside };
      at = refl;
      fails = t.tests (block_of (site_of seen).block_size image block) ∙ failed-header (block_of (site_of seen).block_size image block) (info_test image (site_of seen) kind block) why fails;
    }
below-present image seen manager b h spaces.Geometry p = (manager, b, h, p)
below-present image seen manager b h (spaces.Cab i) p = (manager, b, h, p)
below-present image seen manager b h (spaces.Cib i) p = (manager, b, h, p)
below-present image seen manager b h (spaces.Index k) p = (manager, b, h, p)
below-present image seen manager b h (spaces.Place block) p = (manager, b, h, p)
below-present image seen manager b h spaces.FreeTotal p = (manager, b, h, p)

unsound-manager : (image : List ℕ) (seen : Seen) (block : ℕ) (why : HeadFault) (manager : List ℕ) → manager_of seen ≡ Some manager → manager_block seen ≡ Some block → manager_test seen manager ≡ Err (Fails why) → Present image seen (of_space seen (spaces.Unsound block why))
unfolding tested there site_of
unsound-manager image seen block why manager some at fails = record {
  naming = manager_naming seen;
  object = there seen manager block;
  names = record { live = manager-live image seen; found = manager-found image seen manager block some at };
  at = refl;
  fails = failed-header manager (manager_test seen manager) why fails;
}

-- what is told of the space of a container is present
pub space-present : (image : List ℕ) (seen : Seen) (fault : SpaceFault) → IsSpaceFault image seen fault → Present image seen (of_space seen fault)
space-present image seen fault (inr (inr (manager, b, h, p))) = below-present image seen manager b h fault p
space-present image seen (spaces.Unsound block why) (inr (inl (manager, some, at, fails))) = unsound-manager image seen block why manager some at fails
space-present image seen (spaces.Unnamed Ephemeral oid) (inl (e, at)) = record {
  naming = manager_naming seen;
  live = manager-live image seen;
  lost = manager-lost image seen at;
  shown = record { within_is = refl; oid_is = e; xid_is = refl };
}
space-present image seen (spaces.Unnamed Physical oid) (inl p) = absurd p
space-present image seen (spaces.Unnamed Container oid) (inl p) = absurd p
space-present image seen (spaces.Unnamed (Volume slot) oid) (inl p) = absurd p
space-present image seen (spaces.Unsound block why) (inl p) = absurd p
space-present image seen spaces.Geometry (inl p) = absurd p
space-present image seen (spaces.Cab i) (inl p) = absurd p
space-present image seen (spaces.Cib i) (inl p) = absurd p
space-present image seen (spaces.Index k) (inl p) = absurd p
space-present image seen (spaces.Place block) (inl p) = absurd p
space-present image seen spaces.FreeTotal (inl p) = absurd p
space-present image seen (spaces.Unnamed within oid) (inr (inl p)) = absurd p
space-present image seen spaces.Geometry (inr (inl p)) = absurd p
space-present image seen (spaces.Cab i) (inr (inl p)) = absurd p
space-present image seen (spaces.Cib i) (inr (inl p)) = absurd p
space-present image seen (spaces.Index k) (inr (inl p)) = absurd p
space-present image seen (spaces.Place block) (inr (inl p)) = absurd p
space-present image seen spaces.FreeTotal (inr (inl p)) = absurd p

-- ---- features
-- a feature of the tests of a named object, or of its fields, is there
pub feature-through : (image : List ℕ) (seen : Seen) (n : Naming) (f : Found) (a : Answer) (feature : Feature) (block : ℕ) → IsLive image seen n → resolved image seen n ≡ Some f → tested (site_of seen) n.expected n.oid f.bytes ≡ a →
    In (feature, block) (used_features (site_of seen) f.object ++ tested_features image seen n.expected f a) → HasFeature image seen feature block
unfolding features_through
feature-through image seen n f a feature block live e t h =
    of n live (subst (λ o. In (feature, block) (through o (λ (g : Found). used_features (site_of seen) g.object ++ tested_features image seen n.expected g (tested (site_of seen) n.expected n.oid g.bytes)))) (sym e)
    (subst (λ x. In (feature, block) (used_features (site_of seen) f.object ++ tested_features image seen n.expected f x)) (sym t) h))

refused-header : (bytes : List ℕ) (r : Result Header (Bad HeadFault)) (feature : Feature) → r ≡ Err (Unsupported feature) → of_header bytes r ≡ Err (Unsupported feature)
refused-header bytes r feature e = ap (λ (x : Result Header (Bad HeadFault)). of_header bytes x) e

passed-header : (bytes : List ℕ) (r : Result Header (Bad HeadFault)) → is_ok r ≡ true → of_header bytes r ≡ Ok bytes
passed-header bytes (Ok h) e = refl
passed-header bytes (Err bad) e = absurd (let z : false ≡ true = e in let q : ⊥ = cc in q)

-- the manager's header is refused
manager-refused : (image : List ℕ) (seen : Seen) (manager : List ℕ) (block : ℕ) (feature : Feature) → manager_of seen ≡ Some manager → manager_block seen ≡ Some block → manager_test seen manager ≡ Err (Unsupported feature) → HasFeature image seen feature block
unfolding tested there site_of
manager-refused image seen manager block feature some at refuses =
    feature-through image seen (manager_naming seen) (there seen manager block) (Err (Unsupported feature)) feature block (manager-live image seen) (manager-found image seen manager block some at)
    (refused-header manager (manager_test seen manager) feature refuses) (inl refl)

-- a sound manager has a feature
manager-feature : (image : List ℕ) (seen : Seen) (manager : List ℕ) (block : ℕ) (feature : Feature) → manager_of seen ≡ Some manager → manager_block seen ≡ Some block → is_ok (manager_test seen manager) ≡ true → In feature (space_features manager) → HasFeature image seen feature block
unfolding tested there site_of
manager-feature image seen manager block feature some at ok one =
    feature-through image seen (manager_naming seen) (there seen manager block) (Ok manager) feature block (manager-live image seen) (manager-found image seen manager block some at)
    (passed-header manager (manager_test seen manager) ok) (in-map (λ (x : Feature). (x, block)) (space_features manager) feature one)

-- the header of a block that tells of chunks is refused
info-refused : (image : List ℕ) (seen : Seen) (manager : List ℕ) (b : ℕ) → HasManager seen manager b → (feature : Feature) (block : ℕ) → IsInfoFeature image (site_of seen) manager feature block → HasFeature image seen feature block
info-refused image seen manager b h feature block (kind, n, refuses) =
    let t = info-is-named image seen manager b kind block h n.named in
    let bytes : List ℕ = block_of (site_of seen).block_size image block in
    feature-through image seen (naming t.namer t.at t.expected ByBlock block) (standing image (site_of seen) (InBlock block) block) (Err (Unsupported feature)) feature block t.live
    (block-found image seen t.namer t.at t.expected block n.inside) (t.tests bytes ∙ refused-header bytes (info_test image (site_of seen) kind block) feature refuses) (inl refl)

-- a feature that is told of the space of a container is there
pub space-feature : (image : List ℕ) (seen : Seen) (feature : Feature) (block : ℕ) → IsSpaceFeature image seen feature block → HasFeature image seen feature block
space-feature image seen feature block (inl (manager, some, at, inl refuses)) = manager-refused image seen manager block feature some at refuses
space-feature image seen feature block (inl (manager, some, at, inr (ok, one))) = manager-feature image seen manager block feature some at ok one
space-feature image seen feature block (inr (manager, b, h, i)) = info-refused image seen manager b h feature block i
