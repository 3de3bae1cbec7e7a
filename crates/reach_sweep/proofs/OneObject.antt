-- No two live namings resolve to one object, apart from those of views, where no block lies in two ranges of the owners.
use Rattle.std.proofs.Common.{◌≡◌, ℕ, ◌+◌, Bool, true, false, ◌==◌, nat_lt, List, [], ◌∷◌, ◌++◌, Option, Some, None, Ok, Err, is_ok, ◌⊎◌, inl, inr, refl, ap, sym, ◌∙◌, subst, arith, if◌then◌else◌}
use Rattle.std.specs.Prelude.{nat_le, option_map, option_and_then, is_some}
use Rattle.apfs_model.specs.Blocks.{block_of, is_in, in_container}
use Rattle.apfs_model.specs.Lists.{In, through}
use Rattle.apfs_model.specs.Object.{kind_of, cab_kind, cib_kind}
use Rattle.apfs_model.proofs.BoolTests.{clash, left-true, right-true, both-true, equal-from, from-below, from-upto, test_or}
use Rattle.apfs_model.proofs.Searches.{in-left, in-right}
use Rattle.obj_base.specs.Sound.{expecting}
use Rattle.obj_base.specs.declared.site.Site.{Site}
use Rattle.obj_base.proofs.SoundLemmas.{sound_means}
use Rattle.nx_block.specs.Super.{omap_oid_of}
use Rattle.nx_ring.specs.Checkpoint.{Seen, site_of}
use Rattle.omap_map.specs.Maps.{map_records, is_whole_map, resolved_in}
use Rattle.omap_map.specs.Resolve.{resolved as resolves}
use Rattle.omap_map.specs.declared.records.OmapRecord.{OmapRecord}
use Rattle.omap_map.proofs.Laws.{resolved-means}
use Rattle.space_map.specs.Fields.{pool_base_of, pool_blocks_of}
use Rattle.space_map.specs.Blocks.{address_at, cib_block, info_index_of, is_info, info_test}
use Rattle.space_map.specs.Tests.{is_cab, is_cib, is_in_pool}
use Rattle.space_map.specs.Stops.{HasManager, IsRightSpace}
use Rattle.reach_rules.specs.declared.naming.ViewAt.{ViewAt}
use Rattle.reach_rules.specs.declared.naming.LookUp.{LookUp}
use Rattle.reach_rules.specs.declared.naming.LookUp.TheVariants.{ByBlock, ByMapping, InContainer, InView}
use Rattle.reach_rules.specs.declared.naming.Object.{Object}
use Rattle.reach_rules.specs.declared.naming.Object.TheVariants.{Newest, InBlock, OfId, OfRecord}
use Rattle.reach_rules.specs.declared.naming.Expected.{Expected}
use Rattle.reach_rules.specs.declared.naming.Expected.TheVariants.{SpaceManager, ContainerMap, ReaperObject, ReapList, Jumpstart, VolumeIn, VolumeMap, ExtendedMetadata, SnapshotSuper, AddressBlock, InfoBlock, TreeRoot, TreeNode}
use Rattle.reach_rules.specs.declared.naming.Naming.{Naming}
use Rattle.reach_rules.specs.Resolved.{Found, resolved, standing, recorded, found_virtual, found_by}
use Rattle.reach_rules.specs.Tested.{Answer, tested}
use Rattle.reach_rules.specs.Faults.{is_once}
use Rattle.reach_rules.specs.Live.{IsLive}
use Rattle.reach_rules.specs.declared.owner.Who.TheVariants.{InternalPool, Named}
use Rattle.reach_rules.specs.declared.owner.Owner.{Owner}
use Rattle.reach_rules.specs.Owners.{owner, covers, tells_of_chunks, object_owners, told_owners, told_if, owners_through, of, IsOwner}
use Rattle.reach_rules.specs.Reached.{Whole, IsReached}
use Rattle.reach_rules.specs.Settled.{AreApart}
use Rattle.reach_rules.proofs.Ranges.{apart-owners}
use Rattle.reach_rules.proofs.Sounds.{manager_naming, map_naming, map-live}
use Rattle.reach_rules.proofs.SpaceLifted.{there, manager-sound}
use Rattle.reach_gather.specs.ViewParts.{is_in_view}
use Rattle.reach_gather.proofs.Counts.{IsObjectBy, resolved-by}
use Rattle.reach_sweep.proofs.Lives.{in-container}
use Rattle.reach_sweep.proofs.NamedAt.{IsMapNamed, HasMapIn, live-at, one-cab, one-info}
use Rattle.reach_sweep.proofs.Pooled.{StandsAs, live-right}

-- all is reached, and no block lies in two of the owners' ranges
pub record IsApart (image : List ℕ) (seen : Seen) (whole : Whole) : Type 0 where
  pub reached : IsReached image seen whole
  pub apart : AreApart whole.owners

one-owner : (image : List ℕ) (seen : Seen) (whole : Whole) → IsApart image seen whole → (a b : Owner) (block : ℕ) → IsOwner image seen a → IsOwner image seen b → covers a block ≡ true → covers b block ≡ true → a ≡ b
one-owner image seen whole k a b block = apart-owners (IsOwner image seen) whole.owners k.reached.owners k.apart a b block

-- ---- owners
-- an object that doesn't tell of chunks owns its block
named-owner : (image : List ℕ) (seen : Seen) (n : Naming) (f : Found) (block : ℕ) → IsLive image seen n → resolved image seen n ≡ Some f → f.object ≡ InBlock block → tells_of_chunks n.expected ≡ false → IsOwner image seen (owner (Named n) block 1)
unfolding owners_through
named-owner image seen n f block live found is none =
    let a : Owner = owner (Named n) block 1 in
    let told : List Owner = told_if image seen n f (tested (site_of seen) n.expected n.oid f.bytes) in
    let here : In a (if tells_of_chunks n.expected then [] else a ∷ []) = subst (λ (b : Bool). In a (if b then [] else a ∷ [])) (sym none) (inl refl) in
    let of_object : In a (object_owners n f.object) = subst (λ (x : Object). In a (object_owners n x)) (sym is) here in
    of n live (subst (λ (o : Option Found). In a (through o (λ (g : Found). object_owners n g.object ++ told_if image seen n g (tested (site_of seen) n.expected n.oid g.bytes)))) (sym found)
    (in-left a (object_owners n f.object) told of_object))

own-covers : (n : Naming) (block : ℕ) → covers (owner (Named n) block 1) block ≡ true
own-covers n block = both-true (nat_le block block) (nat_lt block (block + 1)) (from-upto block block (omega arith)) (from-below block (block + 1) (omega arith))

told-ok : (image : List ℕ) (seen : Seen) (n : Naming) (f : Found) (answer : Answer) (a : Owner) → is_ok answer ≡ true → In a (told_owners image seen n n.expected f.bytes) → In a (told_if image seen n f answer)
told-ok image seen n f (Ok bytes) a e h = h
told-ok image seen n f (Err bad) a e h = clash false e refl

-- the space manager owns its pool
pool-owner : (image : List ℕ) (seen : Seen) (manager : List ℕ) (block : ℕ) → HasManager seen manager block → IsOwner image seen (owner InternalPool (pool_base_of manager) (pool_blocks_of manager))
unfolding owners_through there
pool-owner image seen manager block has =
    let s = manager-sound image seen manager block has in
    let n : Naming = manager_naming seen in
    let f : Found = there seen manager block in
    let a : Owner = owner InternalPool (pool_base_of manager) (pool_blocks_of manager) in
    let answer : Answer = tested (site_of seen) n.expected n.oid f.bytes in
    of n s.names.live (subst (λ (o : Option Found). In a (through o (λ (g : Found). object_owners n g.object ++ told_if image seen n g (tested (site_of seen) n.expected n.oid g.bytes)))) (sym s.names.found)
    (in-right a (object_owners n f.object) (told_if image seen n f answer) (told-ok image seen n f answer a s.sound (inl refl))))

pool-covers : (seen : Seen) (manager : List ℕ) (block : ℕ) → is_in_pool (site_of seen) manager block ≡ true → covers (owner InternalPool (pool_base_of manager) (pool_blocks_of manager)) block ≡ true
unfolding is_in_pool
pool-covers seen manager block e = left-true (is_in block (pool_base_of manager) (pool_blocks_of manager)) (nat_lt block (site_of seen).blocks) e

-- ---- blocks that tell of chunks
-- a block of the pool, of a kind and an index
record IsInfoIn (image : List ℕ) (site : Site) (manager : List ℕ) (kind oid i : ℕ) : Type 0 where
  placed : is_in_pool site manager oid ≡ true
  sound : is_info image site kind oid ≡ true
  index : info_index_of (block_of site.block_size image oid) ≡ i

cab-index : (manager : List ℕ) (i : ℕ) (bytes : List ℕ) → is_cab manager i bytes ≡ true → info_index_of bytes ≡ i
unfolding is_cab
cab-index manager i bytes e = equal-from (info_index_of bytes) i (left-true (info_index_of bytes == i) _ e)

cib-index : (manager : List ℕ) (i : ℕ) (bytes : List ℕ) → is_cib manager i bytes ≡ true → info_index_of bytes ≡ i
unfolding is_cib
cib-index manager i bytes e = equal-from (info_index_of bytes) i (left-true (info_index_of bytes == i) _ e)

cab-in : (image : List ℕ) (seen : Seen) (manager : List ℕ) (block : ℕ) → HasManager seen manager block → IsRightSpace image (site_of seen) manager → (n : Naming) (i : ℕ) → IsLive image seen n → n.expected ≡ AddressBlock i → IsInfoIn image (site_of seen) manager cab_kind n.oid i
cab-in image seen manager block has right n i live e =
    let at = subst (StandsAs image seen manager n.how n.oid) e (live-right image seen manager block has n live) in
    let r = right.cabs i at.low in
    subst (λ b. IsInfoIn image (site_of seen) manager cab_kind b i) (sym at.at) (record { placed = r.placed; sound = r.sound; index = cab-index manager i (block_of (site_of seen).block_size image (address_at manager i)) r.right })

cib-in : (image : List ℕ) (seen : Seen) (manager : List ℕ) (block : ℕ) → HasManager seen manager block → IsRightSpace image (site_of seen) manager → (n : Naming) (i : ℕ) → IsLive image seen n → n.expected ≡ InfoBlock i → IsInfoIn image (site_of seen) manager cib_kind n.oid i
cib-in image seen manager block has right n i live e =
    let at = subst (StandsAs image seen manager n.how n.oid) e (live-right image seen manager block has n live) in
    let r = right.cibs i at.low in
    subst (λ b. IsInfoIn image (site_of seen) manager cib_kind b i) (sym at.at)
    (record { placed = r.placed; sound = r.sound; index = cib-index manager i (block_of (site_of seen).block_size image (cib_block (site_of seen).block_size image manager i)) r.right })

-- a block is of one kind
kind-is : (image : List ℕ) (site : Site) (kind oid : ℕ) → is_info image site kind oid ≡ true → kind_of (block_of site.block_size image oid) ≡ kind
unfolding is_info
kind-is image site kind oid e =
    let ok : is_ok (info_test image site kind oid) ≡ true = right-true (is_some (in_container site.blocks oid)) (is_ok (info_test image site kind oid)) e in
    (sound_means (block_of site.block_size image oid) (expecting kind (Some oid) site.max_xid) ok).kind_right

kinds-clash : {A : Type 0} (image : List ℕ) (site : Site) (oid : ℕ) → is_info image site cab_kind oid ≡ true → is_info image site cib_kind oid ≡ true → A
kinds-clash image site oid a b =
    let k : kind_of (block_of site.block_size image oid) ≡ 6 = kind-is image site cab_kind oid a in
    let l : kind_of (block_of site.block_size image oid) ≡ 7 = kind-is image site cib_kind oid b in
    absurd (omega arith)

-- what tells of chunks
abbrev IsTelling : Expected → Type 0
IsTelling e = ((i : ℕ) × (e ≡ AddressBlock i)) ⊎ ((i : ℕ) × (e ≡ InfoBlock i))

telling : (e : Expected) → tells_of_chunks e ≡ true → IsTelling e
telling SpaceManager t = clash false t refl
telling ContainerMap t = clash false t refl
telling ReaperObject t = clash false t refl
telling ReapList t = clash false t refl
telling Jumpstart t = clash false t refl
telling (VolumeIn slot) t = clash false t refl
telling VolumeMap t = clash false t refl
telling ExtendedMetadata t = clash false t refl
telling (SnapshotSuper view) t = clash false t refl
telling (AddressBlock i) t = inl (i, refl)
telling (InfoBlock i) t = inr (i, refl)
telling (TreeRoot kind) t = clash false t refl
telling (TreeNode kind level) t = clash false t refl

telling-placed : (image : List ℕ) (seen : Seen) (manager : List ℕ) (block : ℕ) → HasManager seen manager block → IsRightSpace image (site_of seen) manager → (n : Naming) → IsLive image seen n → IsTelling n.expected → is_in_pool (site_of seen) manager n.oid ≡ true
telling-placed image seen manager block has right n live (inl (i, e)) = (cab-in image seen manager block has right n i live e).placed
telling-placed image seen manager block has right n live (inr (i, e)) = (cib-in image seen manager block has right n i live e).placed

-- two that tell of chunks in one block are one
one-telling : (image : List ℕ) (seen : Seen) (manager : List ℕ) (block : ℕ) → HasManager seen manager block → IsRightSpace image (site_of seen) manager → (m n : Naming) → IsLive image seen m → IsLive image seen n → m.oid ≡ n.oid → IsTelling m.expected → IsTelling n.expected → m ≡ n
one-telling image seen manager block has right m n a b oid (inl (i, d)) (inl (j, e)) =
    let p = cab-in image seen manager block has right m i a d in
    let q = cab-in image seen manager block has right n j b e in
    let same : i ≡ j = sym p.index ∙ (ap (λ k. info_index_of (block_of (site_of seen).block_size image k)) oid ∙ q.index) in
    one-cab image seen manager block has m n j a b (d ∙ ap AddressBlock same) e
one-telling image seen manager block has right m n a b oid (inr (i, d)) (inr (j, e)) =
    let p = cib-in image seen manager block has right m i a d in
    let q = cib-in image seen manager block has right n j b e in
    let same : i ≡ j = sym p.index ∙ (ap (λ k. info_index_of (block_of (site_of seen).block_size image k)) oid ∙ q.index) in
    one-info image seen manager block has m n j a b (d ∙ ap InfoBlock same) e
one-telling image seen manager block has right m n a b oid (inl (i, d)) (inr (j, e)) =
    let p = cab-in image seen manager block has right m i a d in
    let q = cib-in image seen manager block has right n j b e in
    kinds-clash image (site_of seen) n.oid (subst (λ k. is_info image (site_of seen) cab_kind k ≡ true) oid p.sound) q.sound
one-telling image seen manager block has right m n a b oid (inr (i, d)) (inl (j, e)) =
    let p = cib-in image seen manager block has right m i a d in
    let q = cab-in image seen manager block has right n j b e in
    kinds-clash image (site_of seen) n.oid q.sound (subst (λ k. is_info image (site_of seen) cib_kind k ≡ true) oid p.sound)

-- ---- blocks
-- a live naming of a block
record NamesBlock (image : List ℕ) (seen : Seen) (block : ℕ) (n : Naming) : Type 0 where
  live : IsLive image seen n
  object : Found
  found : resolved image seen n ≡ Some object
  oid_is : n.oid ≡ block
  object_is : object.object ≡ InBlock block

-- one that tells of chunks lies in the pool, and another doesn't
pool-clash : {A : Type 0} (image : List ℕ) (seen : Seen) (whole : Whole) (block : ℕ) → IsApart image seen whole → (m n : Naming) → NamesBlock image seen block m → NamesBlock image seen block n → tells_of_chunks m.expected ≡ true → tells_of_chunks n.expected ≡ false → A
pool-clash image seen whole block k m n a b t f =
    let space = k.reached.space in
    let manager : List ℕ = whole.space.manager in
    let placed : is_in_pool (site_of seen) manager block ≡ true = subst (λ i. is_in_pool (site_of seen) manager i ≡ true) a.oid_is (telling-placed image seen manager space.block space.manager space.right m a.live (telling m.expected t)) in
    let same : owner InternalPool (pool_base_of manager) (pool_blocks_of manager) ≡ owner (Named n) block 1 =
    one-owner image seen whole k (owner InternalPool (pool_base_of manager) (pool_blocks_of manager)) (owner (Named n) block 1) block (pool-owner image seen manager space.block space.manager)
    (named-owner image seen n b.object block b.live b.found b.object_is f) (pool-covers seen manager block placed) (own-covers n block) in
    let who : InternalPool ≡ Named n = ap (λ (o : Owner). o.who) same in
    absurd (let q : ⊥ = cc in q)

-- two live namings of one block are one
one-block : (image : List ℕ) (seen : Seen) (whole : Whole) (block : ℕ) → IsApart image seen whole → (m n : Naming) → NamesBlock image seen block m → NamesBlock image seen block n → m ≡ n
one-block image seen whole block k m n a b =
    elim (test_or (tells_of_chunks m.expected)) as (λ _. m ≡ n) [
      | inl t ↦ elim (test_or (tells_of_chunks n.expected)) as (λ _. m ≡ n) [
        | inl s ↦
            let space = k.reached.space in
            one-telling image seen whole.space.manager space.block space.manager space.right m n a.live b.live (a.oid_is ∙ sym b.oid_is) (telling m.expected t) (telling n.expected s)
        | inr f ↦ pool-clash image seen whole block k m n a b t f
      ]
      | inr f ↦ elim (test_or (tells_of_chunks n.expected)) as (λ _. m ≡ n) [
        | inl s ↦ pool-clash image seen whole block k n m b a s f
        | inr g ↦
            let same : owner (Named m) block 1 ≡ owner (Named n) block 1 =
            one-owner image seen whole k (owner (Named m) block 1) (owner (Named n) block 1) block (named-owner image seen m a.object block a.live a.found a.object_is f) (named-owner image seen n b.object block b.live b.found b.object_is g)
            (own-covers m block) (own-covers n block) in
            let who : Named m ≡ Named n = ap (λ (o : Owner). o.who) same in
            cc
      ]
    ]

names-block : (image : List ℕ) (seen : Seen) (n : Naming) (f : Found) → IsLive image seen n → resolved image seen n ≡ Some f → n.how ≡ ByBlock → NamesBlock image seen n.oid n
names-block image seen n f live found by = record { live = live; object = f; found = found; oid_is = refl; object_is = subst (λ l. IsObjectBy l n.oid f.object) by (resolved-by image seen n f found) }

-- ---- records
recorded-object : (image : List ℕ) (site : Site) (map : ℕ) (r : OmapRecord) (f : Found) → recorded image site map r ≡ Some f → f.object ≡ OfRecord map r
recorded-object image site map r f h =
    let go : (o : Option ℕ) → option_map (standing image site (OfRecord map r)) o ≡ Some f → f.object ≡ OfRecord map r = λ o. elim o as (λ o. option_map (standing image site (OfRecord map r)) o ≡ Some f → f.object ≡ OfRecord map r) [
      | None ↦ λ e. let z : ◌≡◌ {A = Option Found} None (Some f) = e in absurd (let q : ⊥ = cc in q)
      | Some b ↦ λ e.
          let z : ◌≡◌ {A = Option Found} (Some (standing image site (OfRecord map r) b)) (Some f) = e in
          let s : standing image site (OfRecord map r) b ≡ f = cc in
          ap (λ (g : Found). g.object) (sym s)
    ] in
    go (in_container site.blocks r.paddr) h

-- an id that is looked up in the object map of a block names a record of it, of that id
pub record IsRecordFor (map oid : ℕ) (x : Object) : Type 0 where
  pub mapping : OmapRecord
  pub object_is : x ≡ OfRecord map mapping
  pub oid_is : mapping.oid ≡ oid

virtual-record : (image : List ℕ) (site : Site) (map x oid : ℕ) (f : Found) → found_virtual image site map x oid ≡ Some f → IsRecordFor map oid f.object
unfolding resolved_in
virtual-record image site map x oid f h =
    let rs : List OmapRecord = map_records image site map in
    let step : (o : Option OmapRecord) → resolves rs oid x ≡ o → option_and_then (recorded image site map) o ≡ Some f → IsRecordFor map oid f.object =
    λ o. elim o as (λ o. resolves rs oid x ≡ o → option_and_then (recorded image site map) o ≡ Some f → IsRecordFor map oid f.object) [
      | None ↦ λ e s. let z : ◌≡◌ {A = Option Found} None (Some f) = s in absurd (let q : ⊥ = cc in q)
      | Some r ↦ λ e s. record { mapping = r; object_is = recorded-object image site map r f s; oid_is = (resolved-means rs oid x r e).same }
    ] in
    let go : (b : Bool) → option_and_then (recorded image site map) (if b then resolves rs oid x else None) ≡ Some f → IsRecordFor map oid f.object =
    λ b. elim b as (λ b. option_and_then (recorded image site map) (if b then resolves rs oid x else None) ≡ Some f → IsRecordFor map oid f.object) [
      | true ↦ λ s. step (resolves rs oid x) refl s
      | false ↦ λ s. let z : ◌≡◌ {A = Option Found} None (Some f) = s in absurd (let q : ⊥ = cc in q)
    ] in
    go (is_whole_map image site map) h

pub container-record : (image : List ℕ) (seen : Seen) (n : Naming) (f : Found) → resolved image seen n ≡ Some f → n.how ≡ InContainer → IsRecordFor (omap_oid_of seen.nx) n.oid f.object
unfolding resolved
container-record image seen n f e how =
    virtual-record image (site_of seen) (omap_oid_of seen.nx) seen.line.xid n.oid f (subst (λ l. found_by image seen l n.expected n.oid ≡ Some f) how e)

pub view-record : (image : List ℕ) (seen : Seen) (n : Naming) (f : Found) (view : ViewAt) → resolved image seen n ≡ Some f → n.how ≡ InView view → IsRecordFor view.map n.oid f.object
unfolding resolved
view-record image seen n f view e how = virtual-record image (site_of seen) view.map view.xid n.oid f (subst (λ l. found_by image seen l n.expected n.oid ≡ Some f) how e)

-- ---- objects
not-newest : (how : LookUp) (oid : ℕ) (x : Object) → IsObjectBy how oid x → x ≡ Newest → ⊥
not-newest ByBlock oid x by e = let z : InBlock oid ≡ Newest = sym by ∙ e in cc
not-newest ByMapping oid x by e = let z : OfId oid ≡ Newest = sym by ∙ e in cc
not-newest InContainer oid x by e = let z : OfRecord by.0.0 by.0.1 ≡ Newest = sym by.1 ∙ e in cc
not-newest (InView view) oid x by e = let z : OfRecord by.0.0 by.0.1 ≡ Newest = sym by.1 ∙ e in cc

pub isnt-newest : (image : List ℕ) (seen : Seen) (n : Naming) (f : Found) → resolved image seen n ≡ Some f → f.object ≡ Newest → ⊥
isnt-newest image seen n f e is = not-newest n.how n.oid f.object (resolved-by image seen n f e) is

-- a live naming apart from those of views
pub record IsOutside (image : List ℕ) (seen : Seen) (n : Naming) (x : Object) : Type 0 where
  pub live : IsLive image seen n
  pub outside : is_in_view n.how ≡ false
  pub object : Found
  pub found : resolved image seen n ≡ Some object
  pub object_is : object.object ≡ x

-- named alike, by one id
by-id : (image : List ℕ) (seen : Seen) (whole : Whole) → IsApart image seen whole → (m n : Naming) (x : Object) (how : LookUp) → IsOutside image seen m x → IsOutside image seen n x → m.how ≡ how → n.how ≡ how → is_once how ≡ true → m.oid ≡ n.oid → m ≡ n
by-id image seen whole k m n x how a b p q once oid = k.reached.names.once m n a.live b.live (ap is_once p ∙ once) (p ∙ sym q) oid

by-looks : (image : List ℕ) (seen : Seen) (whole : Whole) → IsApart image seen whole → (m n : Naming) (x : Object) → IsOutside image seen m x → IsOutside image seen n x
    → (l k : LookUp) → m.how ≡ l → n.how ≡ k → IsObjectBy l m.oid x → IsObjectBy k n.oid x → m ≡ n
by-looks image seen whole k m n x a b ByBlock ByBlock p q s t =
    let e : InBlock m.oid ≡ InBlock n.oid = sym s ∙ t in
    let oid : m.oid ≡ n.oid = cc in
    one-block image seen whole n.oid k m n (record { live = a.live; object = a.object; found = a.found; oid_is = oid; object_is = a.object_is ∙ t }) (record { live = b.live; object = b.object; found = b.found; oid_is = refl; object_is = b.object_is ∙ t })
by-looks image seen whole k m n x a b ByMapping ByMapping p q s t =
    let e : OfId m.oid ≡ OfId n.oid = sym s ∙ t in
    let oid : m.oid ≡ n.oid = cc in
    by-id image seen whole k m n x ByMapping a b p q refl oid
by-looks image seen whole k m n x a b InContainer InContainer p q s t =
    let r = container-record image seen m a.object a.found p in
    let u = container-record image seen n b.object b.found q in
    let e : OfRecord (omap_oid_of seen.nx) r.mapping ≡ OfRecord (omap_oid_of seen.nx) u.mapping = sym r.object_is ∙ (a.object_is ∙ (sym b.object_is ∙ u.object_is)) in
    let same : r.mapping ≡ u.mapping = cc in
    by-id image seen whole k m n x InContainer a b p q refl (sym r.oid_is ∙ (ap (λ (o : OmapRecord). o.oid) same ∙ u.oid_is))
by-looks image seen whole k m n x a b ByBlock ByMapping p q s t = absurd (let z : InBlock m.oid ≡ OfId n.oid = sym s ∙ t in let w : ⊥ = cc in w)
by-looks image seen whole k m n x a b ByBlock InContainer p q s t = absurd (let z : InBlock m.oid ≡ OfRecord t.0.0 t.0.1 = sym s ∙ t.1 in let w : ⊥ = cc in w)
by-looks image seen whole k m n x a b ByMapping ByBlock p q s t = absurd (let z : OfId m.oid ≡ InBlock n.oid = sym s ∙ t in let w : ⊥ = cc in w)
by-looks image seen whole k m n x a b ByMapping InContainer p q s t = absurd (let z : OfId m.oid ≡ OfRecord t.0.0 t.0.1 = sym s ∙ t.1 in let w : ⊥ = cc in w)
by-looks image seen whole k m n x a b InContainer ByBlock p q s t = absurd (let z : OfRecord s.0.0 s.0.1 ≡ InBlock n.oid = sym s.1 ∙ t in let w : ⊥ = cc in w)
by-looks image seen whole k m n x a b InContainer ByMapping p q s t = absurd (let z : OfRecord s.0.0 s.0.1 ≡ OfId n.oid = sym s.1 ∙ t in let w : ⊥ = cc in w)
by-looks image seen whole k m n x a b (InView view) l p q s t = clash (is_in_view m.how) (ap is_in_view p) a.outside
by-looks image seen whole k m n x a b l (InView view) p q s t = clash (is_in_view n.how) (ap is_in_view q) b.outside

-- two that resolve to one object are one
pub one-object : (image : List ℕ) (seen : Seen) (whole : Whole) → IsApart image seen whole → (m n : Naming) (x : Object) → IsOutside image seen m x → IsOutside image seen n x → m ≡ n
one-object image seen whole k m n x a b =
    by-looks image seen whole k m n x a b m.how n.how refl refl (subst (IsObjectBy m.how m.oid) a.object_is (resolved-by image seen m a.object a.found)) (subst (IsObjectBy n.how n.oid) b.object_is (resolved-by image seen n b.object b.found))

-- ---- views
-- no volume's object map stands where the container's does
maps-apart : (image : List ℕ) (seen : Seen) (whole : Whole) → IsApart image seen whole → IsMapNamed image seen (omap_oid_of seen.nx) → ⊥
maps-apart image seen whole k m =
    let block : ℕ = omap_oid_of seen.nx in
    let n : Naming = map_naming seen in
    let f = k.reached.names.named m.naming m.live in
    let g = k.reached.names.named n (map-live image seen) in
    let a : NamesBlock image seen block m.naming = subst (λ b. NamesBlock image seen b m.naming) m.at (names-block image seen m.naming f.0 m.live f.1.names.found m.by) in
    let same : m.naming ≡ n = one-block image seen whole block k m.naming n a (names-block image seen n g.0 (map-live image seen) g.1.names.found refl) in
    let e : VolumeMap ≡ ContainerMap = sym m.expects ∙ ap (λ (o : Naming). o.expected) same in
    cc

-- so no object of a view is that of another naming
pub views-apart : (image : List ℕ) (seen : Seen) (whole : Whole) → IsApart image seen whole → (m n : Naming) (view : ViewAt) (map : ℕ) (r : OmapRecord) (f : Found)
    → IsOutside image seen m (OfRecord map r) → IsLive image seen n → n.how ≡ InView view → resolved image seen n ≡ Some f → f.object ≡ OfRecord map r → ⊥
views-apart image seen whole k m n view block r f a live how found is =
    let by = resolved-by image seen m a.object a.found in
    let in_container_how : m.how ≡ InContainer = in-container m.how m.oid a.object.object block r by a.object_is a.outside in
    let u = container-record image seen m a.object a.found in_container_how in
    let v = view-record image seen n f view found how in
    let e : OfRecord (omap_oid_of seen.nx) u.mapping ≡ OfRecord view.map v.mapping = sym u.object_is ∙ (a.object_is ∙ (sym is ∙ v.object_is)) in
    let same : view.map ≡ omap_oid_of seen.nx = cc in
    let named = (live-at image seen whole.space.manager k.reached.space.block k.reached.space.manager n live).1 in
    let of_map : IsMapNamed image seen view.map = subst (HasMapIn image seen) how named in
    maps-apart image seen whole k (subst (IsMapNamed image seen) same of_map)
