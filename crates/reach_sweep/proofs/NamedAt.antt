-- Which live namings expect the volume of a slot or a block that tells of chunks: one of each. And in which maps ids are looked up.
use Rattle.std.proofs.Common.{◌≡◌, ℕ, zero, suc, ◌+◌, ◌*◌, ◌/◌, Bool, true, false, ◌==◌, List, [], ◌∷◌, ◌++◌, Option, Some, inl, refl, ap, sym, ◌∙◌, subst, if◌then◌else◌, ◌⊎◌, inr}
use Rattle.std.specs.List.{flat_map, range_with_len}
use Rattle.apfs_model.specs.Blocks.{block_of}
use Rattle.apfs_model.specs.Lists.{In, through}
use Rattle.apfs_model.proofs.BoolTests.{left-true, equal-from}
use Rattle.apfs_model.proofs.Searches.{from-map, filter-test}
use Rattle.bt_node.specs.Node.{level_of}
use Rattle.nx_block.specs.Super.{space_oid_of, reaper_oid_of, jumpstart_of, fs_oid_of, slots}
use Rattle.nx_block.specs.Reaper.{reaper_head_of, reap_next_of}
use Rattle.nx_ring.specs.Checkpoint.{Seen, site_of}
use Rattle.omap_map.specs.Fields as maps
use Rattle.vol_view.specs.Fields as volumes
use Rattle.space_map.specs.Fields.{cabs_of, cibs_of, cab_cibs_of, pool_queue_of, main_queue_of}
use Rattle.space_map.specs.Geometry.{has_cib_place}
use Rattle.space_map.specs.Blocks.{address_at}
use Rattle.space_map.specs.Stops.{HasManager}
use Rattle.space_pool.specs.declared.entry.Queue.TheVariants.{Pool, Main}
use Rattle.reach_rules.specs.declared.naming.ViewAt.{ViewAt}
use Rattle.reach_rules.specs.declared.naming.LookUp.{LookUp}
use Rattle.reach_rules.specs.declared.naming.LookUp.TheVariants.{ByBlock, ByMapping, InContainer, InView}
use Rattle.reach_rules.specs.declared.naming.Object.TheVariants.{Newest, InBlock, OfId}
use Rattle.reach_rules.specs.declared.naming.Namer.{Namer}
use Rattle.reach_rules.specs.declared.naming.Namer.TheVariants.{Whole}
use Rattle.reach_rules.specs.declared.naming.TreeKind.{TreeKind}
use Rattle.reach_rules.specs.declared.naming.TreeKind.TheVariants.{MapSnapshots, FreeQueue}
use Rattle.reach_rules.specs.declared.naming.Expected.{Expected}
use Rattle.reach_rules.specs.declared.naming.Expected.TheVariants.{SpaceManager, ContainerMap, ReaperObject, ReapList, Jumpstart, VolumeIn, VolumeMap, ExtendedMetadata, SnapshotSuper, AddressBlock, InfoBlock, TreeRoot, TreeNode}
use Rattle.reach_rules.specs.declared.naming.Naming.{Naming}
use Rattle.reach_rules.specs.Naming.{naming}
use Rattle.reach_rules.specs.Resolved.{Found, resolved, standing}
use Rattle.reach_rules.specs.Next.{roots, names, unless_zero, slot_namings, map_namings, live_view, view_namings, records_of_snapshots, address_naming, address_namings, manager_namings, is_cib_of, cib_naming, cibs_in, cab_namings, children_in, child_namings, node_namings, volume_namings}
use Rattle.reach_rules.specs.Live.{rooted, led, IsLive, IsSoundFor}
use Rattle.reach_rules.proofs.Nexts.{Each, each-in, each-append, each-flat, each-unless, Leads, from-next, in-next}
use Rattle.reach_rules.proofs.SpaceLifted.{there, manager-sound}
use Rattle.reach_gather.specs.Container.{manager_naming}
use Rattle.reach_gather.proofs.Slots.{found-one}
use Rattle.reach_gather.proofs.SpacePart.{IsInfoAt, IsAddressAt, from-addresses}
use Rattle.reach_sweep.proofs.NextApart.{each-snapshots, each-volume}
use Rattle.reach_sweep.proofs.Pooled.{StandsAs, each-all, block-stands, live-right}

-- ---- the namings
-- the volume of a slot is named by the newest superblock
abbrev pub slot_naming : List ℕ → ℕ → Naming
slot_naming nx slot = naming (Whole Newest) (184 + 8 * slot) (VolumeIn slot) InContainer (fs_oid_of nx slot)

-- the space manager, as it names
abbrev pub manager_namer : Seen → Namer
manager_namer seen = Whole (OfId (space_oid_of seen.nx))

-- chunk-info block c, by the chunk-info address block in a block
abbrev pub info_naming_in : List ℕ → Seen → List ℕ → ℕ → ℕ → Naming
info_naming_in image seen manager block c = cib_naming (Whole (InBlock block)) manager (block_of (site_of seen).block_size image block) c

-- chunk-info block c, by the space manager, or by the chunk-info address block in which it has its place
abbrev pub info_naming : List ℕ → Seen → List ℕ → ℕ → Naming
info_naming image seen manager c =
    if cabs_of manager == 0 then address_naming InfoBlock (manager_namer seen) manager c
    else info_naming_in image seen manager (address_at manager (c / cab_cibs_of manager)) c

-- a live naming names a block as that of a volume's object map
pub record IsMapNamed (image : List ℕ) (seen : Seen) (block : ℕ) : Type 0 where
  pub naming : Naming
  pub live : IsLive image seen naming
  pub expects : naming.expected ≡ VolumeMap
  pub by : naming.how ≡ ByBlock
  pub at : naming.oid ≡ block

-- a naming is the one of what it expects
abbrev pub IsOneOf : List ℕ → Seen → List ℕ → Naming → Expected → Type 0
IsOneOf image seen manager n SpaceManager = n ≡ manager_naming seen.nx
IsOneOf image seen manager n ContainerMap = Unit {0}
IsOneOf image seen manager n ReaperObject = Unit {0}
IsOneOf image seen manager n ReapList = Unit {0}
IsOneOf image seen manager n Jumpstart = Unit {0}
IsOneOf image seen manager n (VolumeIn slot) = n ≡ slot_naming seen.nx slot
IsOneOf image seen manager n VolumeMap = Unit {0}
IsOneOf image seen manager n ExtendedMetadata = Unit {0}
IsOneOf image seen manager n (SnapshotSuper view) = IsMapNamed image seen view.map
IsOneOf image seen manager n (AddressBlock i) = n ≡ address_naming AddressBlock (manager_namer seen) manager i
IsOneOf image seen manager n (InfoBlock i) = n ≡ info_naming image seen manager i
IsOneOf image seen manager n (TreeRoot kind) = Unit {0}
IsOneOf image seen manager n (TreeNode kind level) = Unit {0}

-- ids of a view are looked up in the object map of a volume
abbrev pub HasMapIn : List ℕ → Seen → LookUp → Type 0
HasMapIn image seen ByBlock = Unit {0}
HasMapIn image seen ByMapping = Unit {0}
HasMapIn image seen InContainer = Unit {0}
HasMapIn image seen (InView view) = IsMapNamed image seen view.map

-- both
abbrev pub IsNamedAt : List ℕ → Seen → List ℕ → Naming → Type 0
IsNamedAt image seen manager n = IsOneOf image seen manager n n.expected × HasMapIn image seen n.how

-- ---- what each object names
child-at : (image : List ℕ) (seen : Seen) (manager : List ℕ) (me : Namer) (kind : TreeKind) (how : LookUp) (level i : ℕ) (oids : List ℕ) → HasMapIn image seen how → Each (IsNamedAt image seen manager) (child_namings me kind how level i oids)
child-at image seen manager me kind how level i [] in_map = tt
child-at image seen manager me kind how level i (oid ∷ oids) in_map = ((tt, in_map), child-at image seen manager me kind how level (suc i) oids in_map)

node-at : (image : List ℕ) (seen : Seen) (manager : List ℕ) (me : Namer) (kind : TreeKind) (how : LookUp) (level : ℕ) (oids : List ℕ) → HasMapIn image seen how → Each (IsNamedAt image seen manager) (node_namings me kind how level oids)
node-at image seen manager me kind how zero oids in_map = tt
node-at image seen manager me kind how (suc level) oids in_map = child-at image seen manager me kind how level 0 oids in_map

map-at : (image : List ℕ) (seen : Seen) (manager : List ℕ) (me : Namer) (bytes : List ℕ) → Each (IsNamedAt image seen manager) (map_namings me bytes)
map-at image seen manager me bytes = ((tt, tt), each-unless (IsNamedAt image seen manager) me 56 (TreeRoot MapSnapshots) ByBlock (maps.snap_tree_of bytes) (tt, tt))

view-at : (image : List ℕ) (seen : Seen) (manager : List ℕ) (me : Namer) (view : ViewAt) (bytes : List ℕ) → IsMapNamed image seen view.map → Each (IsNamedAt image seen manager) (view_namings me view bytes)
view-at image seen manager me view bytes m = ((tt, m), each-unless (IsNamedAt image seen manager) me 1000 ExtendedMetadata (InView view) (volumes.meta_ext_of bytes) (tt, m))

volume-at : (image : List ℕ) (seen : Seen) (manager : List ℕ) (slot : ℕ) (me : Namer) (bytes : List ℕ) → IsMapNamed image seen (volumes.omap_oid_of bytes) → Each (IsNamedAt image seen manager) (volume_namings image seen slot me bytes)
volume-at image seen manager slot me bytes m =
    let P : Naming → Type 0 = IsNamedAt image seen manager in
    each-volume P image seen slot me bytes (tt, tt) (view-at image seen manager me (live_view seen slot bytes) bytes m) (tt, tt) (tt, tt)
    (each-snapshots P slot bytes 0 (records_of_snapshots image (site_of seen) bytes) (λ k pair oid low. (m, tt)) (λ k pair oid low. (tt, tt)))

-- the addresses of the manager
own-info : (image : List ℕ) (seen : Seen) (manager : List ℕ) (c : ℕ) → (cabs_of manager == 0) ≡ true → address_naming InfoBlock (manager_namer seen) manager c ≡ info_naming image seen manager c
own-info image seen manager c e =
    let own : Naming = address_naming InfoBlock (manager_namer seen) manager c in
    let other : Naming = info_naming_in image seen manager (address_at manager (c / cab_cibs_of manager)) c in
    sym (ap (λ (b : Bool). if b then own else other) e)

other-info : (image : List ℕ) (seen : Seen) (manager : List ℕ) (i c : ℕ) → (cabs_of manager == 0) ≡ false → c / cab_cibs_of manager ≡ i → info_naming_in image seen manager (address_at manager i) c ≡ info_naming image seen manager c
other-info image seen manager i c e of =
    let own : Naming = address_naming InfoBlock (manager_namer seen) manager c in
    let other : Naming = info_naming_in image seen manager (address_at manager (c / cab_cibs_of manager)) c in
    ap (λ k. info_naming_in image seen manager (address_at manager k) c) (sym of) ∙ sym (ap (λ (b : Bool). if b then own else other) e)

address-named : (image : List ℕ) (seen : Seen) (manager : List ℕ) (n : Naming) → IsInfoAt manager (manager_namer seen) n ⊎ IsAddressAt manager (manager_namer seen) n → IsNamedAt image seen manager n
address-named image seen manager n (inl (none, a)) = subst (IsNamedAt image seen manager) (sym a.is) (own-info image seen manager a.index none, tt)
address-named image seen manager n (inr (some, a)) = subst (IsNamedAt image seen manager) (sym a.is) (refl, tt)

address-at : (image : List ℕ) (seen : Seen) (manager : List ℕ) → Each (IsNamedAt image seen manager) (address_namings (manager_namer seen) manager)
address-at image seen manager = each-all (IsNamedAt image seen manager) (address_namings (manager_namer seen) manager) (λ n h. address-named image seen manager n (from-addresses manager (manager_namer seen) n h))

manager-at : (image : List ℕ) (seen : Seen) (manager : List ℕ) → Each (IsNamedAt image seen manager) (manager_namings (manager_namer seen) manager)
manager-at image seen manager =
    let P : Naming → Type 0 = IsNamedAt image seen manager in
    let me : Namer = manager_namer seen in
    let pool : List Naming = unless_zero me 208 (TreeRoot (FreeQueue Pool)) ByMapping (pool_queue_of manager) in
    let main : List Naming = unless_zero me 248 (TreeRoot (FreeQueue Main)) ByMapping (main_queue_of manager) in
    each-append P pool (main ++ address_namings me manager) (each-unless P me 208 (TreeRoot (FreeQueue Pool)) ByMapping (pool_queue_of manager) (tt, tt))
    (each-append P main (address_namings me manager) (each-unless P me 248 (TreeRoot (FreeQueue Main)) ByMapping (main_queue_of manager) (tt, tt))
    (address-at image seen manager))

cibs-at : (image : List ℕ) (seen : Seen) (manager : List ℕ) (i : ℕ) → (cabs_of manager == 0) ≡ false
    → (n : Naming) → In n (cab_namings (site_of seen).block_size (Whole (InBlock (address_at manager i))) manager i (block_of (site_of seen).block_size image (address_at manager i))) → IsNamedAt image seen manager n
cibs-at image seen manager i some n h =
    let B : ℕ = (site_of seen).block_size in
    let a : ℕ = address_at manager i in
    let t = from-map (cib_naming (Whole (InBlock a)) manager (block_of B image a)) (cibs_in B manager i) n h in
    let c : ℕ = t.0 in
    let test : is_cib_of B manager i c ≡ true = filter-test (is_cib_of B manager i) c (range_with_len 0 (cibs_of manager)) t.1.0 in
    let of : c / cab_cibs_of manager ≡ i = equal-from (c / cab_cibs_of manager) i (left-true (c / cab_cibs_of manager == i) (has_cib_place B manager c) test) in
    subst (IsNamedAt image seen manager) (sym t.1.1) (other-info image seen manager i c some of, tt)

-- the manager that is found is the one that is there
manager-found : (image : List ℕ) (seen : Seen) (manager : List ℕ) (block : ℕ) → HasManager seen manager block → (n : Naming) (f : Found) → n ≡ manager_naming seen.nx → resolved image seen n ≡ Some f → f ≡ there seen manager block
manager-found image seen manager block has n f is e =
    let s = manager-sound image seen manager block has in
    found-one (resolved image seen n) f (there seen manager block) e (ap (resolved image seen) is ∙ s.names.found)

manager-names : (image : List ℕ) (seen : Seen) (manager : List ℕ) (block : ℕ) (f : Found) → f ≡ there seen manager block → Each (IsNamedAt image seen manager) (manager_namings (Whole f.object) f.bytes)
unfolding there
manager-names image seen manager block f e = subst (λ (g : Found). Each (IsNamedAt image seen manager) (manager_namings (Whole g.object) g.bytes)) (sym e) (manager-at image seen manager)

-- what stands in a block
stands-in : (image : List ℕ) (seen : Seen) (n : Naming) (f : Found) → n.how ≡ ByBlock → resolved image seen n ≡ Some f → f ≡ standing image (site_of seen) (InBlock n.oid) n.oid
unfolding resolved
stands-in image seen n f by e = block-stands image seen n.how n.expected n.oid f by e

-- a naming that resolves, with what is expected of it
record IsMet (image : List ℕ) (seen : Seen) (manager : List ℕ) (m : Naming) (e : Expected) : Type 0 where
  object : Found
  live : IsLive image seen m
  found : resolved image seen m ≡ Some object
  sound : IsSoundFor seen m object
  expects : m.expected ≡ e
  is_one : IsOneOf image seen manager m e
  in_map : HasMapIn image seen m.how
  stands : StandsAs image seen manager m.how m.oid e

-- the naming of the object map of a volume that is met
volume-map : (image : List ℕ) (seen : Seen) (manager : List ℕ) (m : Naming) (slot : ℕ) (t : IsMet image seen manager m (VolumeIn slot)) → IsMapNamed image seen (volumes.omap_oid_of t.object.bytes)
volume-map image seen manager m slot t =
    let f : Found = t.object in
    let v : Naming = naming (Whole f.object) 128 VolumeMap ByBlock (volumes.omap_oid_of f.bytes) in
    let l : Leads image seen m v = record { object = f; found = t.found; sound = t.sound; names = subst (λ x. In v (names image seen m.how x (Whole f.object) f.bytes)) (sym t.expects) (inl refl) } in
    record { naming = v; live = led m v t.live (in-next image seen m v l); expects = refl; by = refl; at = refl }

-- what any object that is found names
names-at : (image : List ℕ) (seen : Seen) (manager : List ℕ) (block : ℕ) → HasManager seen manager block → (m : Naming) (e : Expected) (t : IsMet image seen manager m e)
    → Each (IsNamedAt image seen manager) (names image seen m.how e (Whole t.object.object) t.object.bytes)
names-at image seen manager block has m SpaceManager t = manager-names image seen manager block t.object (manager-found image seen manager block has m t.object t.is_one t.found)
names-at image seen manager block has m ContainerMap t = map-at image seen manager (Whole t.object.object) t.object.bytes
names-at image seen manager block has m ReaperObject t = each-unless (IsNamedAt image seen manager) (Whole t.object.object) 48 ReapList ByMapping (reaper_head_of t.object.bytes) (tt, tt)
names-at image seen manager block has m ReapList t = each-unless (IsNamedAt image seen manager) (Whole t.object.object) 32 ReapList ByMapping (reap_next_of t.object.bytes) (tt, tt)
names-at image seen manager block has m Jumpstart t = tt
names-at image seen manager block has m (VolumeIn slot) t = volume-at image seen manager slot (Whole t.object.object) t.object.bytes (volume-map image seen manager m slot t)
names-at image seen manager block has m VolumeMap t = map-at image seen manager (Whole t.object.object) t.object.bytes
names-at image seen manager block has m ExtendedMetadata t = tt
names-at image seen manager block has m (SnapshotSuper view) t = view-at image seen manager (Whole t.object.object) view t.object.bytes t.is_one
names-at image seen manager block has m (AddressBlock i) t =
    let B : ℕ = (site_of seen).block_size in
    let P : Naming → Type 0 = IsNamedAt image seen manager in
    let a : ℕ = address_at manager i in
    let is : t.object ≡ standing image (site_of seen) (InBlock a) a = stands-in image seen m t.object t.stands.by t.found ∙ ap (λ k. standing image (site_of seen) (InBlock k) k) t.stands.at in
    let cibs : Each P (cab_namings B (Whole (InBlock a)) manager i (block_of B image a)) = each-all P (cab_namings B (Whole (InBlock a)) manager i (block_of B image a)) (cibs-at image seen manager i t.stands.some) in
    subst (λ (o : Option (List ℕ)). Each P (through o (λ k. cab_namings B (Whole t.object.object) k i t.object.bytes))) (sym has.some)
    (subst (λ (g : Found). Each P (cab_namings B (Whole g.object) manager i g.bytes)) (sym is) cibs)
names-at image seen manager block has m (InfoBlock i) t = tt
names-at image seen manager block has m (TreeRoot kind) t = node-at image seen manager (Whole t.object.object) kind m.how (level_of t.object.bytes) (children_in kind t.object.bytes) t.in_map
names-at image seen manager block has m (TreeNode kind level) t = node-at image seen manager (Whole t.object.object) kind m.how level (children_in kind t.object.bytes) t.in_map

roots-at : (image : List ℕ) (seen : Seen) (manager : List ℕ) → Each (IsNamedAt image seen manager) (roots seen.nx)
unfolding roots
roots-at image seen manager =
    let P : Naming → Type 0 = IsNamedAt image seen manager in
    let jump : List Naming = unless_zero (Whole Newest) 1272 Jumpstart ByBlock (jumpstart_of seen.nx) in
    let reaper : List Naming = unless_zero (Whole Newest) 168 ReaperObject ByMapping (reaper_oid_of seen.nx) in
    let of_slots : List Naming = flat_map (slot_namings seen.nx) (range_with_len 0 slots) in (
      (refl, tt),
      (
        (tt, tt),
        each-append P reaper (jump ++ of_slots) (each-unless P (Whole Newest) 168 ReaperObject ByMapping (reaper_oid_of seen.nx) (tt, tt))
            (each-append P jump of_slots (each-unless P (Whole Newest) 1272 Jumpstart ByBlock (jumpstart_of seen.nx) (tt, tt))
            (each-flat P (slot_namings seen.nx) (range_with_len 0 slots) (λ slot. each-unless P (Whole Newest) (184 + 8 * slot) (VolumeIn slot) InContainer (fs_oid_of seen.nx slot) (refl, tt)))),
      ),
    )

-- so it is of each live naming
pub live-at : (image : List ℕ) (seen : Seen) (manager : List ℕ) (block : ℕ) → HasManager seen manager block → (n : Naming) → IsLive image seen n → IsNamedAt image seen manager n
live-at image seen manager block has n (rooted _ h) = each-in (IsNamedAt image seen manager) (roots seen.nx) n (roots-at image seen manager) h
live-at image seen manager block has n (led m _ live h) =
    let l = from-next image seen m n h in
    let before = live-at image seen manager block has m live in
    let t : IsMet image seen manager m m.expected = record {
      object = l.object;
      live = live;
      found = l.found;
      sound = l.sound;
      expects = refl;
      is_one = before.0;
      in_map = before.1;
      stands = live-right image seen manager block has m live;
    } in
    each-in (IsNamedAt image seen manager) (names image seen m.how m.expected (Whole l.object.object) l.object.bytes) n (names-at image seen manager block has m m.expected t) l.names

-- two live namings that expect the volume of one slot are one
pub one-volume : (image : List ℕ) (seen : Seen) (manager : List ℕ) (block : ℕ) → HasManager seen manager block → (m n : Naming) (slot : ℕ) → IsLive image seen m → IsLive image seen n → m.expected ≡ VolumeIn slot → n.expected ≡ VolumeIn slot → m ≡ n
one-volume image seen manager block has m n slot a b d e =
    let p : m ≡ slot_naming seen.nx slot = subst (IsOneOf image seen manager m) d (live-at image seen manager block has m a).0 in
    let q : n ≡ slot_naming seen.nx slot = subst (IsOneOf image seen manager n) e (live-at image seen manager block has n b).0 in
    p ∙ sym q

pub one-cab : (image : List ℕ) (seen : Seen) (manager : List ℕ) (block : ℕ) → HasManager seen manager block → (m n : Naming) (i : ℕ) → IsLive image seen m → IsLive image seen n → m.expected ≡ AddressBlock i → n.expected ≡ AddressBlock i → m ≡ n
one-cab image seen manager block has m n i a b d e =
    let p : m ≡ address_naming AddressBlock (manager_namer seen) manager i = subst (IsOneOf image seen manager m) d (live-at image seen manager block has m a).0 in
    let q : n ≡ address_naming AddressBlock (manager_namer seen) manager i = subst (IsOneOf image seen manager n) e (live-at image seen manager block has n b).0 in
    p ∙ sym q

pub one-info : (image : List ℕ) (seen : Seen) (manager : List ℕ) (block : ℕ) → HasManager seen manager block → (m n : Naming) (i : ℕ) → IsLive image seen m → IsLive image seen n → m.expected ≡ InfoBlock i → n.expected ≡ InfoBlock i → m ≡ n
one-info image seen manager block has m n i a b d e =
    let p : m ≡ info_naming image seen manager i = subst (IsOneOf image seen manager m) d (live-at image seen manager block has m a).0 in
    let q : n ≡ info_naming image seen manager i = subst (IsOneOf image seen manager n) e (live-at image seen manager block has n b).0 in
    p ∙ sym q
