-- What the views of a container tell; and the container with its views.
use Rattle.std.proofs.Common.{◌≡◌, ℕ, zero, suc, Bool, true, false, ◌==◌, List, [], ◌∷◌, ◌++◌, map, Some, Ok, Err, ◌⊎◌, inl, inr, refl, ap, sym, ◌∙◌, subst, if◌then◌else◌}
use Rattle.std.proofs.lemmas.List.{append-nil}
use Rattle.std.specs.List.{flat_map, range_with_len}
use Rattle.apfs_model.specs.Lists.{In, Lists, through}
use Rattle.apfs_model.proofs.BoolTests.{clash}
use Rattle.apfs_model.proofs.Searches.{in-map, from-map, from-flat_map}
use Rattle.bt_node.specs.Entries.{Pair, bytes_in}
use Rattle.bt_node.specs.Node.{level_of}
use Rattle.bt_cursor.specs.declared.step.Step.{Step}
use Rattle.nx_block.specs.Super.{slots}
use Rattle.nx_ring.specs.Checkpoint.{Seen, site_of}
use Rattle.omap_map.specs.declared.records.OmapRecord.{OmapRecord}
use Rattle.vol_view.specs.Fields as volumes
use Rattle.vol_view.specs.SnapRecords.{is_snapshot_long}
use Rattle.space_map.specs.Fields.{cabs_of, cibs_of}
use Rattle.space_map.specs.Blocks.{manager_of}
use Rattle.reach_rules.specs.declared.naming.ViewAt.{ViewAt}
use Rattle.reach_rules.specs.declared.naming.LookUp.{LookUp}
use Rattle.reach_rules.specs.declared.naming.LookUp.TheVariants.{ByBlock, ByMapping, InContainer, InView}
use Rattle.reach_rules.specs.declared.naming.Object.{Object}
use Rattle.reach_rules.specs.declared.naming.Object.TheVariants.{Newest, InBlock, OfId, OfRecord}
use Rattle.reach_rules.specs.declared.naming.Namer.{Namer}
use Rattle.reach_rules.specs.declared.naming.Namer.TheVariants.{Whole}
use Rattle.reach_rules.specs.declared.naming.TreeKind.{TreeKind}
use Rattle.reach_rules.specs.declared.naming.TreeKind.TheVariants.{Files}
use Rattle.reach_rules.specs.declared.naming.Expected.{Expected}
use Rattle.reach_rules.specs.declared.naming.Expected.TheVariants.{ReapList, ExtendedMetadata, AddressBlock, InfoBlock}
use Rattle.reach_rules.specs.declared.naming.Naming.{Naming}
use Rattle.reach_rules.specs.Naming.{naming}
use Rattle.reach_rules.specs.Resolved.{Found, resolved}
use Rattle.reach_rules.specs.Tested.{Answer, tested}
use Rattle.reach_rules.specs.Next.{roots, names, next, unless_zero, slot_namings, live_view, past_view, view_namings, records_of_snapshots, address_naming, addresses_in, address_namings, cib_naming, cibs_in, cab_namings, children_in, child_namings, node_namings}
use Rattle.reach_rules.specs.Live.{Live, rooted, led, IsLive}
use Rattle.reach_rules.specs.Owners.{object_owners, told_owners, told_if, owners_through}
use Rattle.reach_rules.specs.PoolOwners.{pool_object_owners, pool_told_owners, pool_told_if, pool_owners_through, IsPoolOwner}
use Rattle.reach_rules.specs.Faults.{is_once}
use Rattle.reach_rules.specs.Maps.{IsUsed, IsIdle}
use Rattle.reach_rules.proofs.Nexts.{Each, each-in, each-append, each-map, each-flat, each-if, each-unless, each-through, from-next}
use Rattle.reach_gather.specs.Namings.{step_naming, tree_namings}
use Rattle.reach_gather.specs.Joined.{AreAllOf, HaveSame}
use Rattle.reach_gather.specs.Container.{block_namings, reap_namings, super_naming, kept_namings, past_namings, pasts_namings, views_namings, volume_views, slot_views, all_views}
use Rattle.reach_gather.specs.Tells.{objects_through, IsThrough, ArePlainFrom, AreOnce}
use Rattle.reach_gather.specs.ViewParts.{ExpectsOfView, IsOfView, is_in_view, record_object, record_owner, ResolvesTo, AreRecordsOf, ViewsTell, AreOutside, OutsideViews, AreOnceAs, JoinedTells}
use Rattle.reach_gather.proofs.Joined.{live-among}
use Rattle.reach_gather.proofs.Tells.{part-tells, plain-tells}
use Rattle.reach_gather.proofs.Growing.{outside-both}

-- ---- what views name
of-view : (n : Naming) (view : ViewAt) → n.how ≡ InView view → ExpectsOfView n.expected → IsOfView n
of-view n view how e = record { view = view; how_is = how; expects = e }

each-view : (namer : Namer) (view : ViewAt) (bytes : List ℕ) → Each IsOfView (view_namings namer view bytes)
each-view namer view bytes = (
  of-view _ view refl (inl (view.hashed, refl)),
  each-unless IsOfView namer 1000 ExtendedMetadata (InView view) (volumes.meta_ext_of bytes) (of-view _ view refl (inr (inr refl))),
)

each-past : (image : List ℕ) (seen : Seen) (slot : ℕ) (bytes : List ℕ) (i : ℕ) (pairs : List Pair) → Each IsOfView (pasts_namings image seen slot bytes i pairs)
each-past image seen slot bytes i [] = tt
each-past image seen slot bytes i (pair ∷ pairs) =
    let past : List Naming = past_namings image seen (past_view slot bytes i pair) (bytes_in pair.value) in
    each-append IsOfView (if is_snapshot_long pair then past else []) (pasts_namings image seen slot bytes (suc i) pairs)
    (each-if IsOfView (is_snapshot_long pair) past [] (each-view _ (past_view slot bytes i pair) _) tt)
    (each-past image seen slot bytes (suc i) pairs)

each-views : (image : List ℕ) (seen : Seen) (slot : ℕ) (f : Found) → Each IsOfView (views_namings image seen slot f)
each-views image seen slot f =
    let pairs : List Pair = records_of_snapshots image (site_of seen) f.bytes in
    each-append IsOfView (view_namings (Whole f.object) (live_view seen slot f.bytes) f.bytes) (pasts_namings image seen slot f.bytes 0 pairs)
    (each-view (Whole f.object) (live_view seen slot f.bytes) f.bytes) (each-past image seen slot f.bytes 0 pairs)

each-all : (image : List ℕ) (seen : Seen) → Each IsOfView (all_views image seen)
unfolding all_views
each-all image seen =
    each-flat IsOfView (slot_views image seen) (range_with_len 0 slots) (λ slot.
    each-flat IsOfView (volume_views image seen slot) (slot_namings seen.nx slot) (λ n.
    each-through IsOfView (resolved image seen n) (views_namings image seen slot) (each-views image seen slot)))

-- ---- and what these name in turn
each-children : (namer : Namer) (hashed : Bool) (view : ViewAt) (level i : ℕ) (oids : List ℕ) → Each IsOfView (child_namings namer (Files hashed) (InView view) level i oids)
each-children namer hashed view level i [] = tt
each-children namer hashed view level i (oid ∷ oids) = (of-view _ view refl (inr (inl (hashed, (level, refl)))), each-children namer hashed view level (suc i) oids)

each-nodes : (namer : Namer) (hashed : Bool) (view : ViewAt) (level : ℕ) (oids : List ℕ) → Each IsOfView (node_namings namer (Files hashed) (InView view) level oids)
each-nodes namer hashed view zero oids = tt
each-nodes namer hashed view (suc level) oids = each-children namer hashed view level 0 oids

each-named : (image : List ℕ) (seen : Seen) (view : ViewAt) (e : Expected) (namer : Namer) (bytes : List ℕ) → ExpectsOfView e → Each IsOfView (names image seen (InView view) e namer bytes)
each-named image seen view e namer bytes (inl (hashed, s)) = subst (λ x. Each IsOfView (names image seen (InView view) x namer bytes)) (sym s) (each-nodes namer hashed view (level_of bytes) (children_in (Files hashed) bytes))
each-named image seen view e namer bytes (inr (inl (hashed, (level, s)))) = subst (λ x. Each IsOfView (names image seen (InView view) x namer bytes)) (sym s) (each-nodes namer hashed view level (children_in (Files hashed) bytes))
each-named image seen view e namer bytes (inr (inr s)) = subst (λ x. Each IsOfView (names image seen (InView view) x namer bytes)) (sym s) tt

view-next : (image : List ℕ) (seen : Seen) (n m : Naming) → IsOfView n → In m (next image seen n) → IsOfView m
view-next image seen n m v h =
    let l = from-next image seen n m h in
    each-in IsOfView (names image seen (InView v.view) n.expected (Whole l.object.object) l.object.bytes) m (each-named image seen v.view n.expected (Whole l.object.object) l.object.bytes v.expects)
    (subst (λ how. In m (names image seen how n.expected (Whole l.object.object) l.object.bytes)) v.how_is l.names)

pub view-live : (image : List ℕ) (seen : Seen) (n : Naming) → Live (all_views image seen) (next image seen) n → IsOfView n
view-live image seen n (rooted _ h) = each-in IsOfView (all_views image seen) n (each-all image seen) h
view-live image seen n (led m _ live h) = view-next image seen m n (view-live image seen m live) h

-- ---- what is told of through them
told-none : (image : List ℕ) (seen : Seen) (n : Naming) (e : Expected) (bytes : List ℕ) → ExpectsOfView e → told_owners image seen n e bytes ≡ []
told-none image seen n e bytes (inl (hashed, s)) = ap (λ x. told_owners image seen n x bytes) s
told-none image seen n e bytes (inr (inl (hashed, (level, s)))) = ap (λ x. told_owners image seen n x bytes) s
told-none image seen n e bytes (inr (inr s)) = ap (λ x. told_owners image seen n x bytes) s

told-if-none : (image : List ℕ) (seen : Seen) (n : Naming) (f : Found) (a : Answer) → ExpectsOfView n.expected → told_if image seen n f a ≡ []
told-if-none image seen n f (Ok bytes) e = told-none image seen n n.expected f.bytes e
told-if-none image seen n f (Err bad) e = refl

pool-told-none : (image : List ℕ) (seen : Seen) (n : Naming) (e : Expected) (bytes : List ℕ) → ExpectsOfView e → pool_told_owners image seen n e bytes ≡ []
pool-told-none image seen n e bytes (inl (hashed, s)) = ap (λ x. pool_told_owners image seen n x bytes) s
pool-told-none image seen n e bytes (inr (inl (hashed, (level, s)))) = ap (λ x. pool_told_owners image seen n x bytes) s
pool-told-none image seen n e bytes (inr (inr s)) = ap (λ x. pool_told_owners image seen n x bytes) s

pool-told-if-none : (image : List ℕ) (seen : Seen) (n : Naming) (f : Found) (a : Answer) → ExpectsOfView n.expected → pool_told_if image seen n f a ≡ []
pool-told-if-none image seen n f (Ok bytes) e = pool-told-none image seen n n.expected f.bytes e
pool-told-if-none image seen n f (Err bad) e = refl

view-owners : (image : List ℕ) (seen : Seen) (n : Naming) (r : ℕ × OmapRecord) → IsOfView n → ResolvesTo image seen n r → owners_through image seen n ≡ record_owner r ∷ []
unfolding owners_through
view-owners image seen n r v t =
    let f : Found = t.object in
    ap (λ o. through o (λ (g : Found). object_owners n g.object ++ told_if image seen n g (tested (site_of seen) n.expected n.oid g.bytes))) t.found
    ∙ (ap (λ o. object_owners n o ++ told_if image seen n f (tested (site_of seen) n.expected n.oid f.bytes)) t.record_is
    ∙ ap (λ xs. record_owner r ∷ xs) (told-if-none image seen n f (tested (site_of seen) n.expected n.oid f.bytes) v.expects))

view-pool-owners : (image : List ℕ) (seen : Seen) (n : Naming) (r : ℕ × OmapRecord) → IsOfView n → ResolvesTo image seen n r → pool_owners_through image seen n ≡ []
unfolding pool_owners_through
view-pool-owners image seen n r v t =
    let f : Found = t.object in
    ap (λ o. through o (λ (g : Found). pool_object_owners n g.object ++ pool_told_if image seen n g (tested (site_of seen) n.expected n.oid g.bytes))) t.found
    ∙ (ap (λ o. pool_object_owners n o ++ pool_told_if image seen n f (tested (site_of seen) n.expected n.oid f.bytes)) t.record_is
    ∙ pool-told-if-none image seen n f (tested (site_of seen) n.expected n.oid f.bytes) v.expects)

view-objects : (image : List ℕ) (seen : Seen) (n : Naming) (r : ℕ × OmapRecord) → ResolvesTo image seen n r → objects_through image seen n ≡ record_object r ∷ []
view-objects image seen n r t =
    ap (λ o. through o (λ (g : Found). g.object ∷ [])) t.found
    ∙ ap (λ (o : Object). o ∷ []) t.record_is

-- each record tells of one thing, so the records tell of these
told-by : {X : Type 0} (image : List ℕ) (seen : Seen) (told : Naming → List X) (one : ℕ × OmapRecord → X) (ns : List Naming) (records : List (ℕ × OmapRecord)) → AreRecordsOf image seen ns records →
    ((n : Naming) (r : ℕ × OmapRecord) → Live ns (next image seen) n → ResolvesTo image seen n r → told n ≡ one r ∷ []) → Lists (map one records) (IsThrough image seen told ns)
told-by {X} image seen told one ns records are f = (
  (λ x h.
      let t = from-map one records x h in
      let s = are.only t.0 t.1.0 in
      record { naming = s.0; live = s.1.0; one = subst (In x) (sym (f s.0 t.0 s.1.0 s.1.1)) (inl t.1.1) }),
  (λ x t.
      let s = are.each t.naming t.live in
      let h : In x (one s.0 ∷ []) = subst (In x) (f t.naming s.0 t.live s.1.1) t.one in
      elim h as (λ _. In x (map one records)) [ inl e ↦ subst (λ y. In y (map one records)) (sym e) (in-map one records s.0 s.1.0) | inr k ↦ absurd k ]),
)

pool-none : (image : List ℕ) (seen : Seen) (records : List (ℕ × OmapRecord)) → AreRecordsOf image seen (all_views image seen) records → Lists [] (IsThrough image seen (pool_owners_through image seen) (all_views image seen))
pool-none image seen records are = (
  (λ x h. absurd h),
  (λ x t. let s = are.each t.naming t.live in subst (In x) (view-pool-owners image seen t.naming s.0 (view-live image seen t.naming t.live) s.1.1) t.one),
)

pub views-tell : (image : List ℕ) (seen : Seen) → ViewsTell image seen
views-tell image seen = record {
  views = view-live image seen;
  owners = λ records are. told-by image seen (owners_through image seen) record_owner (all_views image seen) records are (λ n r live t. view-owners image seen n r (view-live image seen n live) t);
  pool_owners = pool-none image seen;
  objects = λ records are. told-by image seen (objects_through image seen) record_object (all_views image seen) records are (λ n r live t. view-objects image seen n r t);
}

-- ---- what isn't looked up in a view
-- a block that tells of chunks is named
abbrev IsTelling : Naming → Type 0
IsTelling n = (n.how ≡ ByBlock) × (((i : ℕ) × (n.expected ≡ InfoBlock i)) ⊎ ((i : ℕ) × (n.expected ≡ AddressBlock i)))

outside-none : AreOutside []
outside-none n h = absurd h

outside-one : (n : Naming) (ns : List Naming) → is_in_view n.how ≡ false → AreOutside ns → AreOutside (n ∷ ns)
outside-one n ns e a m (inl s) = subst (λ (x : Naming). is_in_view x.how ≡ false) (sym s) e
outside-one n ns e a m (inr h) = a m h

outside-flat : {X : Type 0} (f : X → List Naming) (xs : List X) → ((x : X) → In x xs → AreOutside (f x)) → AreOutside (flat_map f xs)
outside-flat f xs a n h = let t = from-flat_map f n xs h in a t.0 t.1.0 n t.1.1

outside-unless : (namer : Namer) (at : ℕ) (e : Expected) (how : LookUp) (oid : ℕ) → is_in_view how ≡ false → AreOutside (unless_zero namer at e how oid)
outside-unless namer at e how oid s n h = each-in (λ (x : Naming). is_in_view x.how ≡ false) (unless_zero namer at e how oid) n (each-unless (λ (x : Naming). is_in_view x.how ≡ false) namer at e how oid s) h

outside-map : {X : Type 0} (f : X → Naming) (xs : List X) → ((x : X) → is_in_view (f x).how ≡ false) → AreOutside (map f xs)
outside-map f xs a n h = let t = from-map f xs n h in subst (λ (x : Naming). is_in_view x.how ≡ false) (sym t.1.1) (a t.0)

outside-tree : (object : ℕ → Object) (kind : TreeKind) (root : Naming) (steps : List Step) → is_in_view root.how ≡ false → AreOutside (tree_namings object kind root steps)
outside-tree object kind root steps e = outside-one root (map (step_naming object kind root.how) steps) e (outside-map (step_naming object kind root.how) steps (λ step. e))

outside-lists : (namer : Namer) (at : ℕ) (oids : List ℕ) → AreOutside (reap_namings namer at oids)
outside-lists namer at [] = outside-none
outside-lists namer at (oid ∷ oids) = outside-one (naming namer at ReapList ByMapping oid) (reap_namings (Whole (OfId oid)) 32 oids) refl (outside-lists (Whole (OfId oid)) 32 oids)

outside-if : (b : Bool) (ns : List Naming) → AreOutside ns → AreOutside (if b then ns else [])
outside-if true ns a = a
outside-if false ns a = outside-none

outside-kept : (slot : ℕ) (bytes : List ℕ) (extents : ℕ → List Naming) (i : ℕ) (pairs : List Pair) → ((k : ℕ) → AreOutside (extents k)) → AreOutside (kept_namings slot bytes extents i pairs)
outside-kept slot bytes extents i [] a = outside-none
outside-kept slot bytes extents i (pair ∷ pairs) a =
    let n : Naming = super_naming (past_view slot bytes i pair) (bytes_in pair.value) in
    outside-both (if is_snapshot_long pair then n ∷ extents i else []) (kept_namings slot bytes extents (suc i) pairs)
    (outside-if (is_snapshot_long pair) (n ∷ extents i) (outside-one n (extents i) refl (a i))) (outside-kept slot bytes extents (suc i) pairs a)

outside-addresses : (namer : Namer) (manager : List ℕ) → Each IsTelling (address_namings namer manager)
outside-addresses namer manager =
    each-if IsTelling (cabs_of manager == 0) (map (address_naming InfoBlock namer manager) (addresses_in manager (cibs_of manager))) (map (address_naming AddressBlock namer manager) (addresses_in manager (cabs_of manager)))
    (each-map IsTelling (address_naming InfoBlock namer manager) (addresses_in manager (cibs_of manager)) (λ i. (refl, inl (i, refl))))
    (each-map IsTelling (address_naming AddressBlock namer manager) (addresses_in manager (cabs_of manager)) (λ i. (refl, inr (i, refl))))

outside-named : (image : List ℕ) (seen : Seen) (n m : Naming) → IsTelling n → In m (next image seen n) → is_in_view m.how ≡ false
outside-named image seen n m (e, inl (i, s)) h =
    let l = from-next image seen n m h in
    let none : ⊥ = subst (λ x. In m (names image seen n.how x (Whole l.object.object) l.object.bytes)) s l.names in
    absurd none
outside-named image seen n m (e, inr (i, s)) h =
    let l = from-next image seen n m h in
    let f : Found = l.object in
    each-in (λ (x : Naming). is_in_view x.how ≡ false) (names image seen n.how (AddressBlock i) (Whole f.object) f.bytes) m
    (each-through (λ (x : Naming). is_in_view x.how ≡ false) (manager_of seen) (λ manager. cab_namings (site_of seen).block_size (Whole f.object) manager i f.bytes) (λ manager.
    each-map (λ (x : Naming). is_in_view x.how ≡ false) (cib_naming (Whole f.object) manager f.bytes) (cibs_in (site_of seen).block_size manager i) (λ c. refl)))
    (subst (λ x. In m (names image seen n.how x (Whole f.object) f.bytes)) s l.names)

outside-blocks : (image : List ℕ) (seen : Seen) (namer : Namer) (manager : List ℕ) → AreOutside (flat_map (block_namings image seen) (address_namings namer manager))
outside-blocks image seen namer manager = outside-flat (block_namings image seen) (address_namings namer manager) (λ n h.
    let t : IsTelling n = each-in IsTelling (address_namings namer manager) n (outside-addresses namer manager) h in
    outside-one n (next image seen n) (ap is_in_view t.0) (λ m k. outside-named image seen n m t k))

pub outside-views : (image : List ℕ) (seen : Seen) → OutsideViews image seen
outside-views image seen = record {
  none = outside-none;
  one = outside-one;
  join = outside-both;
  each = λ f ks a. outside-flat f ks a;
  all = λ f ns a. outside-flat f ns a;
  unless = outside-unless;
  tree = outside-tree;
  lists = outside-lists;
  kept = outside-kept;
  blocks = outside-blocks image seen;
}

-- ---- the container with its views
-- a naming apart from those of views and one of a view aren't looked up alike
mixed-once : (image : List ℕ) (seen : Seen) (all : List Naming) → AreOutside all → AreOnce (λ n. In n all) (Live (all_views image seen) (next image seen))
mixed-once image seen all apart m n h live once how oid =
    let v = view-live image seen n live in
    clash (is_in_view m.how) (ap is_in_view (how ∙ v.how_is)) (apart m h)

-- the others are looked up in a mapping or in the container
outside-once : (all : List Naming) → AreOutside all → AreOnceAs ByMapping all → AreOnceAs InContainer all → AreOnce (λ n. In n all) (λ n. In n all)
outside-once all apart mapped container m n hm hn once how oid =
    let go : (l : LookUp) → m.how ≡ l → m ≡ n = λ l. elim l as (λ l. m.how ≡ l → m ≡ n) [
      | ByBlock ↦ λ e. clash (is_once m.how) once (ap is_once e)
      | ByMapping ↦ λ e. mapped m n hm hn e (sym how ∙ e) oid
      | InContainer ↦ λ e. container m n hm hn e (sym how ∙ e) oid
      | InView view ↦ λ e. clash (is_in_view m.how) (ap is_in_view e) (apart m hm)
    ] in
    go m.how refl

-- a record to which a live naming resolves is used
used-as : (image : List ℕ) (seen : Seen) (n : Naming) (r : ℕ × OmapRecord) → IsLive image seen n → ResolvesTo image seen n r → IsUsed image seen r.0 r.1
used-as image seen n r live t = record { naming = n; object = t.object; names = record { live = live; found = t.found }; record_is = t.record_is }

record-of : Object → ℕ × OmapRecord → ℕ × OmapRecord
record-of Newest d = d
record-of (InBlock block) d = d
record-of (OfId oid) d = d
record-of (OfRecord map r) d = (map, r)

-- a naming resolves to one record
one-record : (image : List ℕ) (seen : Seen) (n : Naming) (r s : ℕ × OmapRecord) → ResolvesTo image seen n r → ResolvesTo image seen n s → r ≡ s
unfolding record-of
one-record image seen n r s a b =
    let found : Some a.object ≡ Some b.object = sym a.found ∙ b.found in
    let same : a.object ≡ b.object = cc in
    let e : record_object r ≡ record_object s = sym a.record_is ∙ (ap (λ (f : Found). f.object) same ∙ b.record_is) in
    ap (λ o. record-of o r) e

idle-by : (image : List ℕ) (seen : Seen) (all views : List Naming) (records : List (ℕ × OmapRecord)) → AreAllOf image seen (roots seen.nx) all views → AreRecordsOf image seen views records → (r : ℕ × OmapRecord) → (In r records → ⊥) →
    ((n : Naming) → In n all → ResolvesTo image seen n r → ⊥) → IsIdle image seen r.0 r.1
idle-by image seen all views records part are r none other n f names is =
    let t : ResolvesTo image seen n r = record { object = f; found = names.found; record_is = is } in
    elim (part.split n names.live) as (λ _. ⊥) [
      | inl h ↦ other n h t
      | inr live ↦ let s = are.each n live in none (subst (λ x. In x records) (one-record image seen n s.0 r s.1.1 t) s.1.0)
    ]

-- views in another order tell the same
records-same : (image : List ℕ) (seen : Seen) (ns ms : List Naming) (records : List (ℕ × OmapRecord)) → HaveSame ns ms → AreRecordsOf image seen ms records → AreRecordsOf image seen ns records
records-same image seen ns ms records s a = record {
  each = λ n live. a.each n (live-among (next image seen) ns ms n s.there live);
  only = λ r h. let t = a.only r h in (t.0, (live-among (next image seen) ms ns t.0 s.back t.1.0, t.1.1));
}

pub joined-tells : (image : List ℕ) (seen : Seen) → JoinedTells image seen
joined-tells image seen all views records j =
    let own : List Naming = all_views image seen in
    let there : (n : Naming) → Live own (next image seen) n → Live views (next image seen) n = λ n live. live-among (next image seen) own views n j.views_are.there live in
    let are : AreRecordsOf image seen own records = records-same image seen own views records j.views_are j.records_are in
    let plain : ArePlainFrom image seen (roots seen.nx) = (part-tells image seen).through (roots seen.nx) all own j.part (λ n live. j.views_plain n (there n live)) in
    record {
      named = (plain-tells image seen).named plain;
      plain = (plain-tells image seen).plain plain;
      once = (part-tells image seen).once all own j.part (outside-once all j.outside j.mapped_once j.container_once) (mixed-once image seen all j.outside) (λ m n a b. j.views_once m n (there m a) (there n b));
      owners = (part-tells image seen).owners all own (map record_owner records) j.part ((views-tell image seen).owners records are);
      pool_owners = subst (λ xs. Lists xs (IsPoolOwner image seen)) (append-nil (flat_map (pool_owners_through image seen) all)) ((part-tells image seen).pool_owners all own [] j.part ((views-tell image seen).pool_owners records are));
      objects = (part-tells image seen).objects all own (map record_object records) j.part ((views-tell image seen).objects records are);
      used = λ r h. let t = are.only r h in used-as image seen t.0 r (j.part.rest_live t.0 t.1.0) t.1.1;
      used_by = λ n r h t. used-as image seen n r (j.part.these_live n h) t;
      idle = λ r none other. idle-by image seen all own records j.part are r none other;
    }
