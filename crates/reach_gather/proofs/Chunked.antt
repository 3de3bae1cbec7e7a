-- The blocks that tell of chunks, and the bitmaps of chunks, are those of a right space.
use Rattle.std.proofs.Common.{◌≡◌, ℕ, ◌+◌, ◌*◌, ◌/◌, ◌%◌, ◌<◌, ◌≤◌, Bool, true, false, ◌&&◌, ◌==◌, List, [], ◌∷◌, ◌++◌, length, map, ◌⊎◌, inl, inr, refl, ap, sym, ◌∙◌, subst, arith, if◌then◌else◌}
use Rattle.std.proofs.lemmas.List.{append_assoc}
use Rattle.std.specs.Prelude.{slice_index}
use Rattle.std.specs.List.{range_with_len}
use Rattle.std.proofs.lemmas.List.FromFn.{get_or-map-range_with_len}
use Rattle.apfs_model.specs.Blocks.{block_of}
use Rattle.apfs_model.specs.Lists.{In, through}
use Rattle.apfs_model.proofs.BoolTests.{test_or, equal-from, from-equal, left-true, right-true, both-true, not-true, false-not, from-range, in-range}
use Rattle.apfs_model.proofs.Finite.{apart-length}
use Rattle.apfs_model.proofs.Searches.{in-left, in-right, in-append, in-map, from-map, in-filter, from-filter, filter-test, in-flat_map, from-flat_map}
use Rattle.nx_block.specs.Super.{space_oid_of}
use Rattle.nx_ring.specs.Checkpoint.{Seen, site_of}
use Rattle.space_map.specs.Fields.{cabs_of, cibs_of, cab_cibs_of, cib_chunks_of, chunks_of, addresses_of}
use Rattle.space_map.specs.Geometry.{has_address, has_cib_place, has_chunk_place}
use Rattle.space_map.specs.Blocks.{manager_of, address_at, cab_blocks, cib_block, cib_blocks}
use Rattle.space_map.specs.Chunks.{chunk_in, chunk_at, chunks_in}
use Rattle.space_map.specs.Stops.{HasManager, Known, known_of, IsSpaceOf}
use Rattle.space_map.specs.declared.chunk.Chunk.{Chunk}
use Rattle.space_map.proofs.Places.{Shape, shape-from, cab-address, cib-address, cib-place, cib-cab, chunk-place, chunk-cib}
use Rattle.reach_rules.specs.declared.naming.LookUp.TheVariants.{ByBlock}
use Rattle.reach_rules.specs.declared.naming.Object.TheVariants.{InBlock, OfId}
use Rattle.reach_rules.specs.declared.naming.Namer.TheVariants.{Whole}
use Rattle.reach_rules.specs.declared.naming.TreeKind.{TreeKind}
use Rattle.reach_rules.specs.declared.naming.Expected.{Expected}
use Rattle.reach_rules.specs.declared.naming.Expected.TheVariants.{AddressBlock, InfoBlock, TreeRoot}
use Rattle.reach_rules.specs.declared.naming.Naming.{Naming}
use Rattle.reach_rules.specs.Naming.{naming}
use Rattle.reach_rules.specs.Trees.{IsRightTree}
use Rattle.reach_rules.specs.Resolved.{Found}
use Rattle.reach_rules.specs.Next.{next, address_naming, addresses_in, address_namings, is_cib_of, cibs_in, cib_naming, cab_namings}
use Rattle.reach_rules.specs.declared.owner.Who.TheVariants.{Bitmap}
use Rattle.reach_rules.specs.declared.owner.Owner.{Owner}
use Rattle.reach_rules.specs.Owners.{owner, tells_of_chunks, object_owners, told_owners, owners_through}
use Rattle.reach_rules.specs.PoolOwners.{pool_object_owners, pool_told_owners, pool_owners_through, is_chunk_of, has_bitmap_in, bitmaps_in, bitmap_owner, bitmap_owners}
use Rattle.reach_rules.proofs.SpaceLifted.{own-block, other-block}
use Rattle.reach_rules.proofs.SpaceDecided.{some-below}
use Rattle.reach_gather.specs.Namings.{IsPlainNaming}
use Rattle.reach_gather.specs.Container.{block_namings}
use Rattle.reach_gather.specs.Space.{manager_namer, blocks_namings}
use Rattle.reach_gather.proofs.Container.{plain-block, plain-facts}
use Rattle.reach_gather.specs.Held.{Held, Grew, IsOwnerThrough, GrewBy}
use Rattle.reach_gather.specs.Infos.{room_of, known_cab, known_cib, known_cabs, known_cibs, bitmaps_from}
use Rattle.reach_gather.specs.Steps.{block_owner}
use Rattle.reach_gather.proofs.Growing.{grew-none, grew-put, fits-more}
use Rattle.reach_gather.proofs.Owning.{own-plain, pool-plain}
use Rattle.reach_gather.proofs.Numbered.{HasBitmap, in-bitmaps, from-bitmaps}
use Rattle.reach_gather.proofs.Indexed.{infos-apart}
use Rattle.reach_gather.proofs.SpacePart.{IsInfoAt, IsAddressAt, from-addresses}

-- ---- what is known of a space, by its manager
pub cabs-known : (image : List ℕ) (seen : Seen) (space : Known) → IsSpaceOf image seen space → space.cabs ≡ map (address_at space.manager) (range_with_len 0 (cabs_of space.manager))
unfolding known_of cab_blocks
cabs-known image seen space is = ap (λ (k : Known). k.cabs) is.same

pub cibs-known : (image : List ℕ) (seen : Seen) (space : Known) → IsSpaceOf image seen space → space.cibs ≡ map (cib_block (site_of seen).block_size image space.manager) (range_with_len 0 (cibs_of space.manager))
unfolding known_of cib_blocks
cibs-known image seen space is = ap (λ (k : Known). k.cibs) is.same

chunks-known : (image : List ℕ) (seen : Seen) (space : Known) → IsSpaceOf image seen space → space.chunks ≡ map (chunk_at (site_of seen).block_size image space.manager) (range_with_len 0 (chunks_of space.manager))
unfolding known_of chunks_in
chunks-known image seen space is = ap (λ (k : Known). k.chunks) is.same

cab-known : (image : List ℕ) (seen : Seen) (space : Known) (i : ℕ) → IsSpaceOf image seen space → i < cabs_of space.manager → slice_index space.cabs i ≡ address_at space.manager i
cab-known image seen space i is low = ap (λ xs. slice_index xs i) (cabs-known image seen space is) ∙ get_or-map-range_with_len (address_at space.manager) 0 (cabs_of space.manager) i i 0 low (omega arith)

cib-known : (image : List ℕ) (seen : Seen) (space : Known) (i : ℕ) → IsSpaceOf image seen space → i < cibs_of space.manager → slice_index space.cibs i ≡ cib_block (site_of seen).block_size image space.manager i
cib-known image seen space i is low = ap (λ xs. slice_index xs i) (cibs-known image seen space is) ∙ get_or-map-range_with_len (cib_block (site_of seen).block_size image space.manager) 0 (cibs_of space.manager) i i 0 low (omega arith)

shape-of : (image : List ℕ) (seen : Seen) (space : Known) → IsSpaceOf image seen space → Shape (site_of seen) space.manager
shape-of image seen space is = shape-from (site_of seen) space.manager is.right.shaped

room-is : (image : List ℕ) (seen : Seen) (space : Known) → IsSpaceOf image seen space → room_of space.manager ≡ cab_cibs_of space.manager
room-is image seen space is = let some = (shape-of image seen space is).some_cibs in omega (arith, some)

-- ---- the namings are those of the definitions
abbrev cab_at : Seen → List ℕ → ℕ → Naming
cab_at seen manager i = address_naming AddressBlock (manager_namer seen.nx) manager i

abbrev cib_below : List ℕ → Seen → List ℕ → ℕ → Naming
cib_below image seen manager c =
    cib_naming (Whole (InBlock (address_at manager (c / cab_cibs_of manager)))) manager (block_of (site_of seen).block_size image (address_at manager (c / cab_cibs_of manager))) c

cab-same : (image : List ℕ) (seen : Seen) (space : Known) (i : ℕ) → IsSpaceOf image seen space → i < cabs_of space.manager → known_cab (space_oid_of seen.nx) space i ≡ cab_at seen space.manager i
cab-same image seen space i is low = ap (λ b. naming (manager_namer seen.nx) (addresses_of space.manager + 8 * i) (AddressBlock i) ByBlock b) (cab-known image seen space i is low)

cib-own : (image : List ℕ) (seen : Seen) (space : Known) (c : ℕ) → IsSpaceOf image seen space → (cabs_of space.manager == 0) ≡ true → c < cibs_of space.manager → known_cib (space_oid_of seen.nx) space c ≡ address_naming InfoBlock (manager_namer seen.nx) space.manager c
cib-own image seen space c is none low =
    let manager = space.manager in
    let mine : ℕ → Naming = λ b. naming (manager_namer seen.nx) (addresses_of manager + 8 * c) (InfoBlock c) ByBlock b in
    let other : Naming = naming (Whole (InBlock (slice_index space.cabs (c / room_of manager)))) (40 + 8 * (c % room_of manager)) (InfoBlock c) ByBlock (slice_index space.cibs c) in
    ap (λ (b : Bool). if b then mine (slice_index space.cibs c) else other) none
    ∙ ap mine (cib-known image seen space c is low ∙ own-block (site_of seen).block_size image manager c none)

cib-other : (image : List ℕ) (seen : Seen) (space : Known) (c : ℕ) → IsSpaceOf image seen space → (cabs_of space.manager == 0) ≡ false → c < cibs_of space.manager → known_cib (space_oid_of seen.nx) space c ≡ cib_below image seen space.manager c
cib-other image seen space c is some low =
    let manager = space.manager in
    let mine : Naming = naming (manager_namer seen.nx) (addresses_of manager + 8 * c) (InfoBlock c) ByBlock (slice_index space.cibs c) in
    let other : ℕ → ℕ → ℕ → Naming = λ room cab b. naming (Whole (InBlock cab)) (40 + 8 * (c % room)) (InfoBlock c) ByBlock b in
    let room = room-is image seen space is in
    let inside : c / cab_cibs_of manager < cabs_of manager = cib-cab (site_of seen) manager (shape-of image seen space is) c some low in
    let block : slice_index space.cabs (c / room_of manager) ≡ address_at manager (c / cab_cibs_of manager) =
    ap (λ r. slice_index space.cabs (c / r)) room ∙ cab-known image seen space (c / cab_cibs_of manager) is inside in
    ap (λ (b : Bool). if b then mine else other (room_of manager) (slice_index space.cabs (c / room_of manager)) (slice_index space.cibs c)) some
    ∙ (ap (λ r. other r (slice_index space.cabs (c / room_of manager)) (slice_index space.cibs c)) room
    ∙ (ap (λ b. other (cab_cibs_of manager) b (slice_index space.cibs c)) block
    ∙ ap (λ b. other (cab_cibs_of manager) (address_at manager (c / cab_cibs_of manager)) b) (cib-known image seen space c is low ∙ other-block (site_of seen).block_size image manager c some)))

-- ---- what is noted is what the manager leads to
abbrev Infos : Seen → Known → List Naming
Infos seen space = known_cabs (space_oid_of seen.nx) space ++ known_cibs (space_oid_of seen.nx) space

abbrev ArePlain : List ℕ → Seen → Known → Type 0
ArePlain image seen space = (n : Naming) → In n (blocks_namings image seen space.manager) → IsPlainNaming image seen n

in-cabs : (seen : Seen) (space : Known) (i : ℕ) (n : Naming) → i < cabs_of space.manager → n ≡ known_cab (space_oid_of seen.nx) space i → In n (Infos seen space)
in-cabs seen space i n low e =
    in-left n (known_cabs (space_oid_of seen.nx) space) (known_cibs (space_oid_of seen.nx) space)
    (subst (λ m. In m (known_cabs (space_oid_of seen.nx) space)) (sym e) (in-map (known_cab (space_oid_of seen.nx) space) (range_with_len 0 (cabs_of space.manager)) i (in-range 0 (cabs_of space.manager) i (omega arith) (omega arith))))

in-cibs : (seen : Seen) (space : Known) (c : ℕ) (n : Naming) → c < cibs_of space.manager → n ≡ known_cib (space_oid_of seen.nx) space c → In n (Infos seen space)
in-cibs seen space c n low e =
    in-right n (known_cabs (space_oid_of seen.nx) space) (known_cibs (space_oid_of seen.nx) space)
    (subst (λ m. In m (known_cibs (space_oid_of seen.nx) space)) (sym e) (in-map (known_cib (space_oid_of seen.nx) space) (range_with_len 0 (cibs_of space.manager)) c (in-range 0 (cibs_of space.manager) c (omega arith) (omega arith))))

-- what is in the list, by its number
record IsCab (seen : Seen) (space : Known) (n : Naming) : Type 0 where
  number : ℕ
  low : number < cabs_of space.manager
  same : n ≡ known_cab (space_oid_of seen.nx) space number

record IsCib (seen : Seen) (space : Known) (n : Naming) : Type 0 where
  number : ℕ
  low : number < cibs_of space.manager
  same : n ≡ known_cib (space_oid_of seen.nx) space number

from-infos : (seen : Seen) (space : Known) (n : Naming) → In n (Infos seen space) → IsCab seen space n ⊎ IsCib seen space n
from-infos seen space n h =
    let oid = space_oid_of seen.nx in
    elim (in-append n (known_cabs oid space) (known_cibs oid space) h) as (λ _. IsCab seen space n ⊎ IsCib seen space n) [
      | inl k ↦
          let t = from-map (known_cab oid space) (range_with_len 0 (cabs_of space.manager)) n k in
          let i : ℕ = t.0 in
          let l : i < 0 + cabs_of space.manager = from-range 0 (cabs_of space.manager) i t.1.0 in
          inl (record { number = i; low = omega (arith, l); same = t.1.1 })
      | inr k ↦
          let t = from-map (known_cib oid space) (range_with_len 0 (cibs_of space.manager)) n k in
          let i : ℕ = t.0 in
          let l : i < 0 + cibs_of space.manager = from-range 0 (cibs_of space.manager) i t.1.0 in
          inr (record { number = i; low = omega (arith, l); same = t.1.1 })
    ]

-- an address of the manager is one of those that it names
in-own : (seen : Seen) (manager : List ℕ) (c : ℕ) → (cabs_of manager == 0) ≡ true → c < cibs_of manager → has_address manager c ≡ true → In (address_naming InfoBlock (manager_namer seen.nx) manager c) (address_namings (manager_namer seen.nx) manager)
in-own seen manager c none low fits =
    let me = manager_namer seen.nx in
    let x = address_naming InfoBlock me manager c in
    subst (λ (b : Bool). In x (if b then map (address_naming InfoBlock me manager) (addresses_in manager (cibs_of manager)) else map (address_naming AddressBlock me manager) (addresses_in manager (cabs_of manager)))) (sym none)
    (in-map (address_naming InfoBlock me manager) (addresses_in manager (cibs_of manager)) c (in-filter (has_address manager) c (range_with_len 0 (cibs_of manager)) (in-range 0 (cibs_of manager) c (omega arith) (omega arith)) fits))

in-address : (seen : Seen) (manager : List ℕ) (i : ℕ) → (cabs_of manager == 0) ≡ false → i < cabs_of manager → has_address manager i ≡ true → In (cab_at seen manager i) (address_namings (manager_namer seen.nx) manager)
in-address seen manager i some low fits =
    let me = manager_namer seen.nx in
    let x = cab_at seen manager i in
    subst (λ (b : Bool). In x (if b then map (address_naming InfoBlock me manager) (addresses_in manager (cibs_of manager)) else map (address_naming AddressBlock me manager) (addresses_in manager (cabs_of manager)))) (sym some)
    (in-map (address_naming AddressBlock me manager) (addresses_in manager (cabs_of manager)) i (in-filter (has_address manager) i (range_with_len 0 (cabs_of manager)) (in-range 0 (cabs_of manager) i (omega arith) (omega arith)) fits))

cab-in : (image : List ℕ) (seen : Seen) (space : Known) (i : ℕ) → IsSpaceOf image seen space → i < cabs_of space.manager → In (cab_at seen space.manager i) (address_namings (manager_namer seen.nx) space.manager)
cab-in image seen space i is low =
    let some = some-below (cabs_of space.manager) i low in
    in-address seen space.manager i some low (cab-address (site_of seen) space.manager (shape-of image seen space is) i some low)

head-in : (image : List ℕ) (seen : Seen) (manager : List ℕ) (x : Naming) → In x (address_namings (manager_namer seen.nx) manager) → In x (blocks_namings image seen manager)
head-in image seen manager x h = in-flat_map (block_namings image seen) x x (address_namings (manager_namer seen.nx) manager) h (inl refl)

-- what an address block leads to
cab-next : (image : List ℕ) (seen : Seen) (manager : List ℕ) (block i : ℕ) → HasManager seen manager block → IsPlainNaming image seen (cab_at seen manager i)
    → next image seen (cab_at seen manager i) ≡ cab_namings (site_of seen).block_size (Whole (InBlock (address_at manager i))) manager i (block_of (site_of seen).block_size image (address_at manager i))
cab-next image seen manager block i has p =
    let B : ℕ = (site_of seen).block_size in
    let x : Naming = cab_at seen manager i in
    (plain-facts image seen).leads x (AddressBlock i) p refl
    ∙ (ap (λ (f : Found). through (manager_of seen) (λ m. cab_namings B (Whole f.object) m i f.bytes)) (plain-block image seen x p refl)
    ∙ ap (λ o. through o (λ m. cab_namings B (Whole (InBlock (address_at manager i))) m i (block_of B image (address_at manager i)))) has.some)

-- what an info block leads to
info-next : (image : List ℕ) (seen : Seen) (x : Naming) (i : ℕ) → IsPlainNaming image seen x → x.expected ≡ InfoBlock i → next image seen x ≡ []
info-next image seen x i p e = (plain-facts image seen).leads x (InfoBlock i) p e

cib-in : (image : List ℕ) (seen : Seen) (space : Known) (c : ℕ) → IsSpaceOf image seen space → ArePlain image seen space → (cabs_of space.manager == 0) ≡ false → c < cibs_of space.manager → In (cib_below image seen space.manager c) (blocks_namings image seen space.manager)
cib-in image seen space c is plain some low =
    let manager = space.manager in
    let B : ℕ = (site_of seen).block_size in
    let s = shape-of image seen space is in
    let i : ℕ = c / cab_cibs_of manager in
    let x : Naming = cab_at seen manager i in
    let y : Naming = cib_below image seen manager c in
    let here : In x (address_namings (manager_namer seen.nx) manager) = cab-in image seen space i is (cib-cab (site_of seen) manager s c some low) in
    let cab : List ℕ = block_of B image (address_at manager i) in
    let named : In y (cab_namings B (Whole (InBlock (address_at manager i))) manager i cab) =
    in-map (cib_naming (Whole (InBlock (address_at manager i))) manager cab) (cibs_in B manager i) c
    (in-filter (is_cib_of B manager i) c (range_with_len 0 (cibs_of manager)) (in-range 0 (cibs_of manager) c (omega arith) (omega arith)) (both-true (c / cab_cibs_of manager == i) (has_cib_place B manager c) (from-equal (c / cab_cibs_of manager) i refl) (cib-place (site_of seen) manager s c))) in
    in-flat_map (block_namings image seen) x y (address_namings (manager_namer seen.nx) manager) here
    (inr (subst (λ ns. In y ns) (sym (cab-next image seen manager is.block i is.manager (plain x (head-in image seen manager x here)))) named))

pub to-blocks : (image : List ℕ) (seen : Seen) (space : Known) (n : Naming) → IsSpaceOf image seen space → ArePlain image seen space → In n (Infos seen space) → In n (blocks_namings image seen space.manager)
to-blocks image seen space n is plain h =
    let manager = space.manager in
    elim (from-infos seen space n h) as (λ _. In n (blocks_namings image seen manager)) [
      | inl a ↦
          let i : ℕ = a.number in
          subst (λ m. In m (blocks_namings image seen manager)) (sym (a.same ∙ cab-same image seen space i is a.low)) (head-in image seen manager (cab_at seen manager i) (cab-in image seen space i is a.low))
      | inr a ↦
          let c : ℕ = a.number in
          elim (test_or (cabs_of manager == 0)) as (λ _. In n (blocks_namings image seen manager)) [
            | inl none ↦
                let x : Naming = address_naming InfoBlock (manager_namer seen.nx) manager c in
                subst (λ m. In m (blocks_namings image seen manager)) (sym (a.same ∙ cib-own image seen space c is none a.low))
                (head-in image seen manager x (in-own seen manager c none a.low (cib-address (site_of seen) manager (shape-of image seen space is) c none a.low)))
            | inr some ↦
                subst (λ m. In m (blocks_namings image seen manager)) (sym (a.same ∙ cib-other image seen space c is some a.low)) (cib-in image seen space c is plain some a.low)
          ]
    ]

-- ---- and what the manager leads to is noted
below-in : (image : List ℕ) (seen : Seen) (space : Known) (i : ℕ) (n : Naming) → IsSpaceOf image seen space → (cabs_of space.manager == 0) ≡ false
    → In n (cab_namings (site_of seen).block_size (Whole (InBlock (address_at space.manager i))) space.manager i (block_of (site_of seen).block_size image (address_at space.manager i))) → In n (Infos seen space)
below-in image seen space i n is some h =
    let manager = space.manager in
    let B : ℕ = (site_of seen).block_size in
    let by : ℕ → ℕ → Naming = λ k c. cib_naming (Whole (InBlock (address_at manager k))) manager (block_of B image (address_at manager k)) c in
    let t = from-map (by i) (cibs_in B manager i) n h in
    let c : ℕ = t.0 in
    let test : is_cib_of B manager i c ≡ true = filter-test (is_cib_of B manager i) c (range_with_len 0 (cibs_of manager)) t.1.0 in
    let of : c / cab_cibs_of manager ≡ i = equal-from (c / cab_cibs_of manager) i (left-true (c / cab_cibs_of manager == i) (has_cib_place B manager c) test) in
    let l : c < 0 + cibs_of manager = from-range 0 (cibs_of manager) c (from-filter (is_cib_of B manager i) c (range_with_len 0 (cibs_of manager)) t.1.0) in
    let low : c < cibs_of manager = omega (arith, l) in
    in-cibs seen space c n low (t.1.1 ∙ (ap (λ k. by k c) (sym of) ∙ sym (cib-other image seen space c is some low)))

from-named : (image : List ℕ) (seen : Seen) (space : Known) (x n : Naming) → IsSpaceOf image seen space → IsPlainNaming image seen x → IsInfoAt space.manager (manager_namer seen.nx) x ⊎ IsAddressAt space.manager (manager_namer seen.nx) x
    → In n (block_namings image seen x) → In n (Infos seen space)
from-named image seen space x n is p (inl (none, a)) k = elim k as (λ _. In n (Infos seen space)) [
  | inl e ↦ in-cibs seen space a.index n a.low (e ∙ (a.is ∙ sym (cib-own image seen space a.index is none a.low)))
  | inr m ↦ absurd (subst (λ ns. In n ns) (info-next image seen x a.index p (ap (λ (y : Naming). y.expected) a.is)) m)
]
from-named image seen space x n is p (inr (some, a)) k = elim k as (λ _. In n (Infos seen space)) [
  | inl e ↦ in-cabs seen space a.index n a.low (e ∙ (a.is ∙ sym (cab-same image seen space a.index is a.low)))
  | inr m ↦
      let q : IsPlainNaming image seen (cab_at seen space.manager a.index) = subst (IsPlainNaming image seen) a.is p in
      below-in image seen space a.index n is some (subst (λ ns. In n ns) (cab-next image seen space.manager is.block a.index is.manager q) (subst (λ y. In n (next image seen y)) a.is m))
]

pub from-blocks : (image : List ℕ) (seen : Seen) (space : Known) (n : Naming) → IsSpaceOf image seen space → ArePlain image seen space → In n (blocks_namings image seen space.manager) → In n (Infos seen space)
from-blocks image seen space n is plain h =
    let me = manager_namer seen.nx in
    let t = from-flat_map (block_namings image seen) n (address_namings me space.manager) h in
    from-named image seen space t.0 n is (plain t.0 (head-in image seen space.manager t.0 t.1.0)) (from-addresses space.manager me t.0 t.1.0) t.1.1

-- ---- the owners through them
objects-none : (n : Naming) → tells_of_chunks n.expected ≡ true → object_owners n (InBlock n.oid) ≡ []
objects-none n e = rw e refl

pool-one : (n : Naming) (b : Naming → Owner) → tells_of_chunks n.expected ≡ true → pool_object_owners n (InBlock n.oid) ≡ block_owner n ∷ []
pool-one n b e = rw e refl

info-own : (image : List ℕ) (seen : Seen) (n : Naming) (e : Expected) (p : IsPlainNaming image seen n) → n.how ≡ ByBlock → n.expected ≡ e → tells_of_chunks e ≡ true → owners_through image seen n ≡ told_owners image seen n e p.object.bytes
info-own image seen n e p how is tells =
    own-plain image seen n p
    ∙ (ap (λ (o : Found). object_owners n o.object ++ told_owners image seen n n.expected p.object.bytes) (plain-block image seen n p how)
    ∙ (ap (λ xs. xs ++ told_owners image seen n n.expected p.object.bytes) (objects-none n (ap tells_of_chunks is ∙ tells))
    ∙ ap (λ x. told_owners image seen n x p.object.bytes) is))

info-pool : (image : List ℕ) (seen : Seen) (n : Naming) (e : Expected) (p : IsPlainNaming image seen n) → n.how ≡ ByBlock → n.expected ≡ e → tells_of_chunks e ≡ true
    → pool_owners_through image seen n ≡ block_owner n ∷ pool_told_owners image seen n e (block_of (site_of seen).block_size image n.oid)
info-pool image seen n e p how is tells =
    pool-plain image seen n p
    ∙ (ap (λ (o : Found). pool_object_owners n o.object ++ pool_told_owners image seen n n.expected o.bytes) (plain-block image seen n p how)
    ∙ (ap (λ xs. xs ++ pool_told_owners image seen n n.expected (block_of (site_of seen).block_size image n.oid)) (pool-one n block_owner (ap tells_of_chunks is ∙ tells))
    ∙ ap (λ x. block_owner n ∷ pool_told_owners image seen n x (block_of (site_of seen).block_size image n.oid)) is))

-- what a chunk-info block is named as
record IsInfo (space : Known) (c : ℕ) (n : Naming) : Type 0 where
  how : n.how ≡ ByBlock
  expected : n.expected ≡ InfoBlock c
  oid : n.oid ≡ slice_index space.cibs c

cib-shown : (oid : ℕ) (space : Known) (c : ℕ) → IsInfo space c (known_cib oid space c)
cib-shown oid space c =
    let manager = space.manager in
    let mine : Naming = naming (Whole (OfId oid)) (addresses_of manager + 8 * c) (InfoBlock c) ByBlock (slice_index space.cibs c) in
    let other : Naming = naming (Whole (InBlock (slice_index space.cabs (c / room_of manager)))) (40 + 8 * (c % room_of manager)) (InfoBlock c) ByBlock (slice_index space.cibs c) in
    let go : (b : Bool) → IsInfo space c (if b then mine else other) = λ b. elim b as (λ b. IsInfo space c (if b then mine else other)) [
      | true ↦ record { how = refl; expected = refl; oid = refl }
      | false ↦ record { how = refl; expected = refl; oid = refl }
    ] in
    go (cabs_of manager == 0)

cib-shows : (seen : Seen) (space : Known) (c : ℕ) (n : Naming) → n ≡ known_cib (space_oid_of seen.nx) space c → IsInfo space c n
cib-shows seen space c n e = subst (IsInfo space c) (sym e) (cib-shown (space_oid_of seen.nx) space c)

cab-pool : (image : List ℕ) (seen : Seen) (space : Known) (n : Naming) (i : ℕ) → IsPlainNaming image seen n → n ≡ known_cab (space_oid_of seen.nx) space i → pool_owners_through image seen n ≡ block_owner n ∷ []
cab-pool image seen space n i p e = info-pool image seen n (AddressBlock i) p (ap (λ (m : Naming). m.how) e) (ap (λ (m : Naming). m.expected) e) refl

cib-pool : (image : List ℕ) (seen : Seen) (space : Known) (n : Naming) (c : ℕ) → IsSpaceOf image seen space → IsPlainNaming image seen n → c < cibs_of space.manager → n ≡ known_cib (space_oid_of seen.nx) space c
    → pool_owners_through image seen n ≡ block_owner n ∷ bitmap_owners (site_of seen).block_size space.manager c (block_of (site_of seen).block_size image (cib_block (site_of seen).block_size image space.manager c))
cib-pool image seen space n c is p low e =
    let B : ℕ = (site_of seen).block_size in
    let s = cib-shows seen space c n e in
    info-pool image seen n (InfoBlock c) p s.how s.expected refl
    ∙ (ap (λ o. block_owner n ∷ through o (λ m. bitmap_owners B m c (block_of B image n.oid))) is.manager.some
    ∙ ap (λ b. block_owner n ∷ bitmap_owners B space.manager c (block_of B image b)) (s.oid ∙ cib-known image seen space c is low))

own-none : (image : List ℕ) (seen : Seen) (space : Known) (n : Naming) → IsPlainNaming image seen n → IsCab seen space n ⊎ IsCib seen space n → owners_through image seen n ≡ []
own-none image seen space n p (inl a) = info-own image seen n (AddressBlock a.number) p (ap (λ (m : Naming). m.how) a.same) (ap (λ (m : Naming). m.expected) a.same) refl
own-none image seen space n p (inr a) = let s = cib-shows seen space a.number n a.same in info-own image seen n (InfoBlock a.number) p s.how s.expected refl

-- none of them is expected as the root of a tree
kinds-none : (image : List ℕ) (seen : Seen) (space : Known) (n : Naming) (kind : TreeKind) → IsCab seen space n ⊎ IsCib seen space n → n.expected ≡ TreeRoot kind → ⊥
kinds-none image seen space n kind (inl a) is = let z : AddressBlock a.number ≡ TreeRoot kind = ap (λ (m : Naming). m.expected) (sym a.same) ∙ is in let q : ⊥ = cc in q
kinds-none image seen space n kind (inr a) is = let s = cib-shows seen space a.number n a.same in let z : InfoBlock a.number ≡ TreeRoot kind = sym s.expected ∙ is in let q : ⊥ = cc in q

pub blocks-expect : (image : List ℕ) (seen : Seen) (space : Known) (n : Naming) (kind : TreeKind) → IsSpaceOf image seen space → ArePlain image seen space → In n (blocks_namings image seen space.manager) → n.expected ≡ TreeRoot kind → IsRightTree image seen kind n.oid
blocks-expect image seen space n kind is plain h e = absurd (kinds-none image seen space n kind (from-infos seen space n (from-blocks image seen space n is plain h)) e)

-- ---- bitmaps
abbrev Told : List ℕ → Seen → Known → List Owner
Told image seen space = map block_owner (known_cabs (space_oid_of seen.nx) space) ++ (map block_owner (known_cibs (space_oid_of seen.nx) space) ++ bitmaps_from 0 space.chunks)

pub chunk-there : (B : ℕ) (image manager : List ℕ) (c k : ℕ) → k / cib_chunks_of manager ≡ c → chunk_in (block_of B image (cib_block B image manager c)) (k % cib_chunks_of manager) ≡ chunk_at B image manager k
unfolding chunk_at
chunk-there B image manager c k e = ap (λ i. chunk_in (block_of B image (cib_block B image manager i)) (k % cib_chunks_of manager)) (sym e)

from-bitmap : (image : List ℕ) (seen : Seen) (space : Known) (c : ℕ) (o : Owner) → IsSpaceOf image seen space
    → In o (bitmap_owners (site_of seen).block_size space.manager c (block_of (site_of seen).block_size image (cib_block (site_of seen).block_size image space.manager c))) → In o (bitmaps_from 0 space.chunks)
from-bitmap image seen space c o is h =
    let manager = space.manager in
    let B : ℕ = (site_of seen).block_size in
    let cib : List ℕ = block_of B image (cib_block B image manager c) in
    let f : ℕ → Chunk = chunk_at B image manager in
    let t = from-map (bitmap_owner manager cib) (bitmaps_in B manager c cib) o h in
    let k : ℕ = t.0 in
    let both : (is_chunk_of B manager c k && has_bitmap_in manager cib k) ≡ true = filter-test (λ k. is_chunk_of B manager c k && has_bitmap_in manager cib k) k (range_with_len 0 (chunks_of manager)) t.1.0 in
    let of : k / cib_chunks_of manager ≡ c = equal-from (k / cib_chunks_of manager) c (left-true (k / cib_chunks_of manager == c) (has_chunk_place B manager k) (left-true (is_chunk_of B manager c k) (has_bitmap_in manager cib k) both)) in
    let there : chunk_in cib (k % cib_chunks_of manager) ≡ f k = chunk-there B image manager c k of in
    let some : ((chunk_in cib (k % cib_chunks_of manager)).bitmap == 0) ≡ false = not-true ((chunk_in cib (k % cib_chunks_of manager)).bitmap == 0) (right-true (is_chunk_of B manager c k) (has_bitmap_in manager cib k) both) in
    let low : k < 0 + chunks_of manager = from-range 0 (chunks_of manager) k (from-filter (λ k. is_chunk_of B manager c k && has_bitmap_in manager cib k) k (range_with_len 0 (chunks_of manager)) t.1.0) in
    let same : o ≡ owner (Bitmap k) (f k).bitmap 1 = t.1.1 ∙ ap (λ (x : Chunk). owner (Bitmap k) x.bitmap 1) there in
    subst (λ xs. In o (bitmaps_from 0 xs)) (sym (chunks-known image seen space is))
    (subst (λ x. In x (bitmaps_from 0 (map f (range_with_len 0 (chunks_of manager))))) (sym same)
    (in-bitmaps f 0 (chunks_of manager) k (omega arith) low (ap (λ (x : Chunk). x.bitmap == 0) (sym there) ∙ some)))

to-bitmap : (image : List ℕ) (seen : Seen) (space : Known) (o : Owner) → IsSpaceOf image seen space → (b : HasBitmap (chunk_at (site_of seen).block_size image space.manager) (chunks_of space.manager) o)
    → In o (bitmap_owners (site_of seen).block_size space.manager (b.number / cib_chunks_of space.manager) (block_of (site_of seen).block_size image (cib_block (site_of seen).block_size image space.manager (b.number / cib_chunks_of space.manager))))
to-bitmap image seen space o is b =
    let manager = space.manager in
    let B : ℕ = (site_of seen).block_size in
    let k : ℕ = b.number in
    let c : ℕ = k / cib_chunks_of manager in
    let cib : List ℕ = block_of B image (cib_block B image manager c) in
    let there : chunk_in cib (k % cib_chunks_of manager) ≡ chunk_at B image manager k = chunk-there B image manager c k refl in
    let of : is_chunk_of B manager c k ≡ true = both-true (k / cib_chunks_of manager == c) (has_chunk_place B manager k) (from-equal (k / cib_chunks_of manager) c refl) (chunk-place (site_of seen) manager (shape-of image seen space is) k) in
    let some : has_bitmap_in manager cib k ≡ true = false-not ((chunk_in cib (k % cib_chunks_of manager)).bitmap == 0) (ap (λ (x : Chunk). x.bitmap == 0) there ∙ b.some) in
    let low = b.low in
    let here : In k (bitmaps_in B manager c cib) = in-filter (λ k. is_chunk_of B manager c k && has_bitmap_in manager cib k) k (range_with_len 0 (chunks_of manager)) (in-range 0 (chunks_of manager) k (omega arith) (omega (arith, low))) (both-true (is_chunk_of B manager c k) (has_bitmap_in manager cib k) of some) in
    subst (λ x. In x (bitmap_owners B manager c cib)) (sym (b.same ∙ ap (λ (x : Chunk). owner (Bitmap k) x.bitmap 1) (sym there))) (in-map (bitmap_owner manager cib) (bitmaps_in B manager c cib) k here)

-- ---- the owners of the pool
pool-has : (image : List ℕ) (seen : Seen) (space : Known) (n : Naming) → IsSpaceOf image seen space → IsPlainNaming image seen n → IsCab seen space n ⊎ IsCib seen space n → In (block_owner n) (pool_owners_through image seen n)
pool-has image seen space n is p (inl a) = subst (λ xs. In (block_owner n) xs) (sym (cab-pool image seen space n a.number p a.same)) (inl refl)
pool-has image seen space n is p (inr a) = subst (λ xs. In (block_owner n) xs) (sym (cib-pool image seen space n a.number is p a.low a.same)) (inl refl)

block-through : (image : List ℕ) (seen : Seen) (space : Known) (n : Naming) (o : Owner) → IsSpaceOf image seen space → ArePlain image seen space → In n (Infos seen space) → o ≡ block_owner n → IsOwnerThrough (pool_owners_through image seen) (blocks_namings image seen space.manager) o
block-through image seen space n o is plain h e =
    let one : In n (blocks_namings image seen space.manager) = to-blocks image seen space n is plain h in
    record {
      naming = n;
      one = one;
      owner = subst (λ x. In x (pool_owners_through image seen n)) (sym e) (pool-has image seen space n is (plain n one) (from-infos seen space n h));
      some = ap (λ (x : Owner). x.blocks == 0) e;
    }

bitmap-through : (image : List ℕ) (seen : Seen) (space : Known) (o : Owner) → IsSpaceOf image seen space → ArePlain image seen space → HasBitmap (chunk_at (site_of seen).block_size image space.manager) (chunks_of space.manager) o → IsOwnerThrough (pool_owners_through image seen) (blocks_namings image seen space.manager) o
bitmap-through image seen space o is plain b =
    let c : ℕ = b.number / cib_chunks_of space.manager in
    let n : Naming = known_cib (space_oid_of seen.nx) space c in
    let low : c < cibs_of space.manager = chunk-cib (site_of seen) space.manager (shape-of image seen space is) b.number b.low in
    let one : In n (blocks_namings image seen space.manager) = to-blocks image seen space n is plain (in-cibs seen space c n low refl) in
    record {
      naming = n;
      one = one;
      owner = subst (λ xs. In o xs) (sym (cib-pool image seen space n c is (plain n one) low refl)) (inr (to-bitmap image seen space o is b));
      some = ap (λ (x : Owner). x.blocks == 0) b.same;
    }

pool-to : (image : List ℕ) (seen : Seen) (space : Known) → IsSpaceOf image seen space → ArePlain image seen space → (o : Owner) → In o (Told image seen space) → IsOwnerThrough (pool_owners_through image seen) (blocks_namings image seen space.manager) o
pool-to image seen space is plain o h =
    let oid = space_oid_of seen.nx in
    let cabs : List Naming = known_cabs oid space in
    let cibs : List Naming = known_cibs oid space in
    let f : ℕ → Chunk = chunk_at (site_of seen).block_size image space.manager in
    elim (in-append o (map block_owner cabs) (map block_owner cibs ++ bitmaps_from 0 space.chunks) h) as (λ _. IsOwnerThrough (pool_owners_through image seen) (blocks_namings image seen space.manager) o) [
      | inl k ↦ let t = from-map block_owner cabs o k in block-through image seen space t.0 o is plain (in-left t.0 cabs cibs t.1.0) t.1.1
      | inr m ↦ elim (in-append o (map block_owner cibs) (bitmaps_from 0 space.chunks) m) as (λ _. IsOwnerThrough (pool_owners_through image seen) (blocks_namings image seen space.manager) o) [
        | inl k ↦ let t = from-map block_owner cibs o k in block-through image seen space t.0 o is plain (in-right t.0 cabs cibs t.1.0) t.1.1
        | inr k ↦ bitmap-through image seen space o is plain (from-bitmaps f 0 (chunks_of space.manager) (chunks_of space.manager) o (omega arith) (subst (λ xs. In o (bitmaps_from 0 xs)) (chunks-known image seen space is) k))
      ]
    ]

-- the block of a naming is told
block-told : (image : List ℕ) (seen : Seen) (space : Known) (n : Naming) → In n (Infos seen space) → In (block_owner n) (Told image seen space)
block-told image seen space n h =
    let oid = space_oid_of seen.nx in
    let cabs : List Naming = known_cabs oid space in
    let cibs : List Naming = known_cibs oid space in
    let rest : List Owner = map block_owner cibs ++ bitmaps_from 0 space.chunks in
    elim (in-append n cabs cibs h) as (λ _. In (block_owner n) (Told image seen space)) [
      | inl k ↦ in-left (block_owner n) (map block_owner cabs) rest (in-map block_owner cabs n k)
      | inr k ↦ in-right (block_owner n) (map block_owner cabs) rest (in-left (block_owner n) (map block_owner cibs) (bitmaps_from 0 space.chunks) (in-map block_owner cibs n k))
    ]

bitmap-told : (image : List ℕ) (seen : Seen) (space : Known) (o : Owner) → In o (bitmaps_from 0 space.chunks) → In o (Told image seen space)
bitmap-told image seen space o h =
    let oid = space_oid_of seen.nx in
    in-right o (map block_owner (known_cabs oid space)) (map block_owner (known_cibs oid space) ++ bitmaps_from 0 space.chunks) (in-right o (map block_owner (known_cibs oid space)) (bitmaps_from 0 space.chunks) h)

pool-back : (image : List ℕ) (seen : Seen) (space : Known) → IsSpaceOf image seen space → ArePlain image seen space → (o : Owner) → IsOwnerThrough (pool_owners_through image seen) (blocks_namings image seen space.manager) o → In o (Told image seen space)
pool-back image seen space is plain o w =
    let n : Naming = w.naming in
    let p : IsPlainNaming image seen n = plain n w.one in
    let here : In n (Infos seen space) = from-blocks image seen space n is plain w.one in
    elim (from-infos seen space n here) as (λ _. In o (Told image seen space)) [
      | inl a ↦
          let h : In o (block_owner n ∷ []) = subst (λ xs. In o xs) (cab-pool image seen space n a.number p a.same) w.owner in
          elim h as (λ _. In o (Told image seen space)) [ inl e ↦ subst (λ x. In x (Told image seen space)) (sym e) (block-told image seen space n here) | inr k ↦ absurd k ]
      | inr a ↦
          let more : List Owner = bitmap_owners (site_of seen).block_size space.manager a.number (block_of (site_of seen).block_size image (cib_block (site_of seen).block_size image space.manager a.number)) in
          let h : In o (block_owner n ∷ more) = subst (λ xs. In o xs) (cib-pool image seen space n a.number is p a.low a.same) w.owner in
          elim h as (λ _. In o (Told image seen space)) [ inl e ↦ subst (λ x. In x (Told image seen space)) (sym e) (block-told image seen space n here) | inr k ↦ bitmap-told image seen space o (from-bitmap image seen space a.number o is k) ]
    ]

own-never : (image : List ℕ) (seen : Seen) (space : Known) → IsSpaceOf image seen space → ArePlain image seen space → (o : Owner) → IsOwnerThrough (owners_through image seen) (blocks_namings image seen space.manager) o → ⊥
own-never image seen space is plain o w =
    subst (λ xs. In o xs) (own-none image seen space w.naming (plain w.naming w.one) (from-infos seen space w.naming (from-blocks image seen space w.naming is plain w.one))) w.owner

-- ---- what is gathered has grown by them
pub blocks-grew : (image : List ℕ) (seen : Seen) (space : Known) (a b : Held) → IsSpaceOf image seen space → ((n : Naming) → In n (blocks_namings image seen space.manager) → IsPlainNaming image seen n)
    → b.namings ≡ (a.namings ++ known_cabs (space_oid_of seen.nx) space) ++ known_cibs (space_oid_of seen.nx) space
    → b.owners ≡ a.owners
    → b.pool_owners ≡ ((a.pool_owners ++ map block_owner (known_cabs (space_oid_of seen.nx) space)) ++ map block_owner (known_cibs (space_oid_of seen.nx) space)) ++ bitmaps_from 0 space.chunks
    → GrewBy image seen (blocks_namings image seen space.manager) a b
blocks-grew image seen space a b is plain p q r =
    let oid = space_oid_of seen.nx in
    let ns : List Naming = blocks_namings image seen space.manager in
    let cabs : List Owner = map block_owner (known_cabs oid space) in
    let cibs : List Owner = map block_owner (known_cibs oid space) in
    record {
      namings = grew-put a.namings b.namings (Infos seen space) (λ n. In n ns) (p ∙ append_assoc a.namings (known_cabs oid space) (known_cibs oid space)) (λ n h. to-blocks image seen space n is plain h) (λ n h. from-blocks image seen space n is plain h);
      fits = let k : length b.namings ≤ length a.namings + length (Infos seen space) = fits-more a.namings b.namings (Infos seen space) (p ∙ append_assoc a.namings (known_cabs oid space) (known_cibs oid space)) in
          let l : length (Infos seen space) ≤ length ns = apart-length (Infos seen space) ns (infos-apart oid space) (λ n h. to-blocks image seen space n is plain h) in
          omega arith;
      owners = subst (λ xs. Grew a.owners xs (IsOwnerThrough (owners_through image seen) ns)) (sym q) (grew-none a.owners (IsOwnerThrough (owners_through image seen) ns) (own-never image seen space is plain));
      pool_owners = grew-put a.pool_owners b.pool_owners (Told image seen space) (IsOwnerThrough (pool_owners_through image seen) ns)
          (r ∙ (append_assoc (a.pool_owners ++ cabs) cibs (bitmaps_from 0 space.chunks) ∙ append_assoc a.pool_owners cabs (cibs ++ bitmaps_from 0 space.chunks)))
          (pool-to image seen space is plain) (pool-back image seen space is plain);
    }
