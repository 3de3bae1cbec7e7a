-- In a right space all that the space manager names is plain.
use Rattle.std.proofs.Common.{◌≡◌, ℕ, ◌+◌, ◌*◌, ◌/◌, ◌%◌, ◌<◌, Bool, true, false, ◌==◌, List, [], ◌∷◌, ◌++◌, map, Some, is_ok, ◌⊎◌, inl, inr, refl, ap, sym, ◌∙◌, subst, arith, if◌then◌else◌}
use Rattle.std.specs.Prelude.{is_some}
use Rattle.std.specs.List.{range_with_len}
use Rattle.apfs_model.specs.Blocks.{block_of, in_container}
use Rattle.apfs_model.specs.Lists.{In, through}
use Rattle.apfs_model.specs.Object.{cab_kind, cib_kind}
use Rattle.apfs_model.proofs.BoolTests.{equal-from, left-true, right-true, from-range}
use Rattle.apfs_model.proofs.Searches.{from-map, from-filter, filter-test}
use Rattle.apfs_model.proofs.Inside.{inside-itself}
use Rattle.nx_ring.specs.Checkpoint.{Seen, site_of}
use Rattle.space_map.specs.Fields.{cabs_of, cibs_of, cab_cibs_of, addresses_of}
use Rattle.space_map.specs.Geometry.{has_address, has_cib_place}
use Rattle.space_map.specs.Blocks.{address_at, cab_address_at, cib_block, is_info, info_test}
use Rattle.space_map.specs.Stops.{HasManager, IsRightSpace}
use Rattle.reach_rules.specs.declared.naming.LookUp.TheVariants.{ByBlock}
use Rattle.reach_rules.specs.declared.naming.Object.TheVariants.{InBlock}
use Rattle.reach_rules.specs.declared.naming.Namer.{Namer}
use Rattle.reach_rules.specs.declared.naming.Namer.TheVariants.{Whole}
use Rattle.reach_rules.specs.declared.naming.Expected.{Expected}
use Rattle.reach_rules.specs.declared.naming.Expected.TheVariants.{AddressBlock, InfoBlock}
use Rattle.reach_rules.specs.declared.naming.Naming.{Naming}
use Rattle.reach_rules.specs.Naming.{naming}
use Rattle.reach_rules.specs.Resolved.{Found, resolved, standing}
use Rattle.reach_rules.specs.Tested.{tested}
use Rattle.reach_rules.specs.Next.{names, next, address_naming, addresses_in, address_namings, is_cib_of, cibs_in, cib_naming, cab_namings}
use Rattle.reach_rules.specs.Features.{placed_in}
use Rattle.reach_rules.proofs.Looks.{standing-by}
use Rattle.reach_rules.proofs.Nexts.{from-next}
use Rattle.reach_rules.proofs.SpaceLifted.{there, manager-sound, ok-header, own-block, other-block}
use Rattle.reach_gather.specs.Namings.{IsPlainNaming}
use Rattle.reach_gather.specs.Joined.{ArePart}
use Rattle.reach_gather.specs.Container.{pool_queue_naming, main_queue_naming, manager_naming}
use Rattle.reach_gather.specs.Space.{manager_namer, blocks_namings, IsSpacePart}
use Rattle.reach_gather.proofs.Container.{plain-by, block-stands, manager-part, blocks-part}

info-inside : (image : List ℕ) (seen : Seen) (kind oid : ℕ) → is_info image (site_of seen) kind oid ≡ true → in_container (site_of seen).blocks oid ≡ Some oid
unfolding is_info
info-inside image seen kind oid info = inside-itself (site_of seen).blocks oid (left-true (is_some (in_container (site_of seen).blocks oid)) _ info)

info-ok : (image : List ℕ) (seen : Seen) (kind oid : ℕ) → is_info image (site_of seen) kind oid ≡ true → is_ok (info_test image (site_of seen) kind oid) ≡ true
unfolding is_info
info-ok image seen kind oid info = right-true (is_some (in_container (site_of seen).blocks oid)) _ info

-- the namings of sound blocks that tell of chunks
cab-plain : (image : List ℕ) (seen : Seen) (namer : Namer) (at i oid : ℕ) → is_info image (site_of seen) cab_kind oid ≡ true → IsPlainNaming image seen (naming namer at (AddressBlock i) ByBlock oid)
unfolding tested
cab-plain image seen namer at i oid info =
    let n : Naming = naming namer at (AddressBlock i) ByBlock oid in
    let f : Found = standing image (site_of seen) (InBlock oid) oid in
    plain-by image seen n f (block-stands image seen n refl (info-inside image seen cab_kind oid info))
    (ok-header f.bytes (info_test image (site_of seen) cab_kind oid) (info-ok image seen cab_kind oid info)) refl refl

cib-plain : (image : List ℕ) (seen : Seen) (namer : Namer) (at i oid : ℕ) → is_info image (site_of seen) cib_kind oid ≡ true → IsPlainNaming image seen (naming namer at (InfoBlock i) ByBlock oid)
unfolding tested
cib-plain image seen namer at i oid info =
    let n : Naming = naming namer at (InfoBlock i) ByBlock oid in
    let f : Found = standing image (site_of seen) (InBlock oid) oid in
    plain-by image seen n f (block-stands image seen n refl (info-inside image seen cib_kind oid info))
    (ok-header f.bytes (info_test image (site_of seen) cib_kind oid) (info-ok image seen cib_kind oid info)) refl refl

-- a naming of what the manager's addresses name: an address block, or an info block where there are none of those
pub record IsAt (manager : List ℕ) (expected : ℕ → Expected) (count : ℕ) (namer : Namer) (n : Naming) : Type 0 where
  pub index : ℕ
  pub low : index < count
  pub is : n ≡ address_naming expected namer manager index

at-index : (manager : List ℕ) (expected : ℕ → Expected) (count : ℕ) (namer : Namer) (n : Naming) → In n (map (address_naming expected namer manager) (addresses_in manager count)) → IsAt manager expected count namer n
at-index manager expected count namer n h =
    let t = from-map (address_naming expected namer manager) (addresses_in manager count) n h in
    let i : ℕ = t.0 in
    let l : i < 0 + count = from-range 0 count i (from-filter (has_address manager) i (range_with_len 0 count) t.1.0) in
    record { index = i; low = omega (arith, l); is = t.1.1 }

abbrev pub IsInfoAt : List ℕ → Namer → Naming → Type 0
IsInfoAt manager namer n = ((cabs_of manager == 0) ≡ true) × IsAt manager InfoBlock (cibs_of manager) namer n

abbrev pub IsAddressAt : List ℕ → Namer → Naming → Type 0
IsAddressAt manager namer n = ((cabs_of manager == 0) ≡ false) × IsAt manager AddressBlock (cabs_of manager) namer n

pub from-addresses : (manager : List ℕ) (namer : Namer) (n : Naming) → In n (address_namings namer manager) → IsInfoAt manager namer n ⊎ IsAddressAt manager namer n
from-addresses manager namer n h =
    let infos : List Naming = map (address_naming InfoBlock namer manager) (addresses_in manager (cibs_of manager)) in
    let cabs : List Naming = map (address_naming AddressBlock namer manager) (addresses_in manager (cabs_of manager)) in
    let go : (b : Bool) → (cabs_of manager == 0) ≡ b → In n (if b then infos else cabs) → IsInfoAt manager namer n ⊎ IsAddressAt manager namer n =
    λ b. elim b as (λ b. (cabs_of manager == 0) ≡ b → In n (if b then infos else cabs) → IsInfoAt manager namer n ⊎ IsAddressAt manager namer n) [
      | true ↦ λ e k. inl (e, at-index manager InfoBlock (cibs_of manager) namer n k)
      | false ↦ λ e k. inr (e, at-index manager AddressBlock (cabs_of manager) namer n k)
    ] in
    go (cabs_of manager == 0) refl h

-- each of them is plain
address-plain : (image : List ℕ) (seen : Seen) (manager : List ℕ) (namer : Namer) (n : Naming) → IsRightSpace image (site_of seen) manager → IsInfoAt manager namer n ⊎ IsAddressAt manager namer n → IsPlainNaming image seen n
address-plain image seen manager namer n right (inl (none, a)) =
    subst (IsPlainNaming image seen) (sym a.is)
    (cib-plain image seen namer (addresses_of manager + 8 * a.index) a.index (address_at manager a.index)
    (subst (λ b. is_info image (site_of seen) cib_kind b ≡ true) (own-block (site_of seen).block_size image manager a.index none) (right.cibs a.index a.low).sound))
address-plain image seen manager namer n right (inr (some, a)) =
    subst (IsPlainNaming image seen) (sym a.is)
    (cab-plain image seen namer (addresses_of manager + 8 * a.index) a.index (address_at manager a.index) (right.cabs a.index a.low).sound)

-- and so is each that an address block names
cib-of-cab : (image : List ℕ) (seen : Seen) (manager : List ℕ) (block i : ℕ) (namer : Namer) (m : Naming) → HasManager seen manager block → IsRightSpace image (site_of seen) manager → (cabs_of manager == 0) ≡ false →
    In m (next image seen (address_naming AddressBlock namer manager i)) → IsPlainNaming image seen m
unfolding resolved
cib-of-cab image seen manager block i namer m has right some h =
    let B : ℕ = (site_of seen).block_size in
    let n : Naming = address_naming AddressBlock namer manager i in
    let l = from-next image seen n m h in
    let f : Found = l.object in
    let stands : f ≡ standing image (site_of seen) (InBlock (address_at manager i)) (address_at manager i) = standing-by image (site_of seen) (address_at manager i) f l.found in
    let named : In m (cab_namings B (Whole f.object) manager i f.bytes) = subst (λ o. In m (through o (λ x. cab_namings B (Whole f.object) x i f.bytes))) has.some l.names in
    let t = from-map (cib_naming (Whole f.object) manager f.bytes) (cibs_in B manager i) m named in
    let c : ℕ = t.0 in
    let test : is_cib_of B manager i c ≡ true = filter-test (is_cib_of B manager i) c (range_with_len 0 (cibs_of manager)) t.1.0 in
    let of : c / cab_cibs_of manager ≡ i = equal-from (c / cab_cibs_of manager) i (left-true (c / cab_cibs_of manager == i) (has_cib_place B manager c) test) in
    let low : c < 0 + cibs_of manager = from-range 0 (cibs_of manager) c (from-filter (is_cib_of B manager i) c (range_with_len 0 (cibs_of manager)) t.1.0) in
    let below : c < cibs_of manager = omega (arith, low) in
    let at : cib_block B image manager c ≡ cab_address_at f.bytes (c % cab_cibs_of manager) =
    other-block B image manager c some
    ∙ (ap (λ k. cab_address_at (block_of B image (address_at manager k)) (c % cab_cibs_of manager)) of
    ∙ ap (λ (x : Found). cab_address_at x.bytes (c % cab_cibs_of manager)) (sym stands)) in
    subst (IsPlainNaming image seen) (sym t.1.1)
    (cib-plain image seen (Whole f.object) (40 + 8 * (c % cab_cibs_of manager)) c (cab_address_at f.bytes (c % cab_cibs_of manager))
    (subst (λ b. is_info image (site_of seen) cib_kind b ≡ true) at (right.cibs c below).sound))

nothing-info : (image : List ℕ) (seen : Seen) (n m : Naming) (i : ℕ) → n.expected ≡ InfoBlock i → In m (next image seen n) → ⊥
nothing-info image seen n m i e h =
    let l = from-next image seen n m h in
    subst (λ x. In m (names image seen n.how x (Whole l.object.object) l.object.bytes)) e l.names

below-plain : (image : List ℕ) (seen : Seen) (manager : List ℕ) (block : ℕ) (namer : Namer) (n m : Naming) → HasManager seen manager block → IsRightSpace image (site_of seen) manager → IsInfoAt manager namer n ⊎ IsAddressAt manager namer n →
    In m (next image seen n) → IsPlainNaming image seen m
below-plain image seen manager block namer n m has right (inl (none, a)) h = absurd (nothing-info image seen n m a.index (ap (λ (x : Naming). x.expected) a.is) h)
below-plain image seen manager block namer n m has right (inr (some, a)) h = cib-of-cab image seen manager block a.index namer m has right some (subst (λ x. In m (next image seen x)) a.is h)

-- ---- the manager
manager-plain : (image : List ℕ) (seen : Seen) (manager : List ℕ) (block : ℕ) → HasManager seen manager block → IsRightSpace image (site_of seen) manager → IsPlainNaming image seen (manager_naming seen.nx)
unfolding there
manager-plain image seen manager block has right =
    let s = manager-sound image seen manager block has in
    plain-by image seen (manager_naming seen.nx) (there seen manager block) s.names.found s.sound refl (ap (placed_in block) right.plain)

manager-is : (image : List ℕ) (seen : Seen) (manager : List ℕ) (block : ℕ) → HasManager seen manager block → (p : IsPlainNaming image seen (manager_naming seen.nx)) → p.object ≡ there seen manager block
manager-is image seen manager block has p =
    let s = manager-sound image seen manager block has in
    let e : Some p.object ≡ Some (there seen manager block) = sym p.found ∙ s.names.found in
    cc

space-part-by : (image : List ℕ) (seen : Seen) (manager : List ℕ) (block : ℕ) (pool main : List Naming) (p : IsPlainNaming image seen (manager_naming seen.nx)) → p.object ≡ there seen manager block → HasManager seen manager block → IsRightSpace image (site_of seen) manager →
    ArePart image seen (pool_queue_naming (manager_namer seen.nx) manager) pool [] → ArePart image seen (main_queue_naming (manager_namer seen.nx) manager) main [] →
    ArePart image seen (manager_naming seen.nx ∷ []) (manager_naming seen.nx ∷ pool ++ (main ++ blocks_namings image seen manager)) []
unfolding there
space-part-by image seen manager block pool main p e has right a b =
    let me : Namer = manager_namer seen.nx in
    let blocks : ArePart image seen (address_namings me manager) (blocks_namings image seen manager) [] =
    blocks-part image seen me manager (λ n h. address-plain image seen manager me n right (from-addresses manager me n h)) (λ n m h k. below-plain image seen manager block me n m has right (from-addresses manager me n h) k) in
    manager-part image seen (manager_naming seen.nx) pool main (blocks_namings image seen manager) p refl
    (subst (λ (f : Found). ArePart image seen (pool_queue_naming (Whole f.object) f.bytes) pool []) (sym e) a)
    (subst (λ (f : Found). ArePart image seen (main_queue_naming (Whole f.object) f.bytes) main []) (sym e) b)
    (subst (λ (f : Found). ArePart image seen (address_namings (Whole f.object) f.bytes) (blocks_namings image seen manager) []) (sym e) blocks)

pub space-part : (image : List ℕ) (seen : Seen) → IsSpacePart image seen
space-part image seen manager block pool main has right a b =
    let p : IsPlainNaming image seen (manager_naming seen.nx) = manager-plain image seen manager block has right in
    space-part-by image seen manager block pool main p (manager-is image seen manager block has p) has right a b
