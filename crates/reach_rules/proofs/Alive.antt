-- The live namings of a container, as a list; or an ephemeral id is named twice.
use Rattle.std.proofs.Common.{◌≡◌, ℕ, zero, suc, Bool, true, false, ◌==◌, List, [], ◌∷◌, ◌++◌, map, Option, Some, None, Ok, Err, ◌⊎◌, inl, inr, refl, ap, sym, ◌∙◌, subst, arith, if◌then◌else◌}
use Rattle.std.specs.Prelude.{option_map, option_and_then}
use Rattle.std.specs.List.{flat_map, range_with_len}
use Rattle.apfs_model.specs.Lists.{In, Lists, through}
use Rattle.apfs_model.specs.Blocks.{in_container}
use Rattle.obj_base.specs.declared.stop.Within.TheVariants.{Ephemeral}
use Rattle.bt_node.specs.Entries.{Pair, bytes_in}
use Rattle.bt_node.specs.Node.{level_of}
use Rattle.obj_base.specs.declared.site.Site.{Site}
use Rattle.nx_block.specs.Super.{reaper_oid_of, jumpstart_of, fs_oid_of, slots}
use Rattle.nx_block.specs.Reaper.{reaper_head_of, reap_next_of}
use Rattle.nx_ring.specs.Objects.{Place}
use Rattle.nx_ring.specs.Checkpoint.{Seen, site_of, eph}
use Rattle.nx_ring.specs.Reading.{eph_ids}
use Rattle.omap_map.specs.Fields as maps
use Rattle.vol_view.specs.Fields as volumes
use Rattle.vol_view.specs.SnapRecords.{is_snapshot_long, snap_extents_of}
use Rattle.space_map.specs.Fields.{cabs_of, cibs_of, pool_queue_of, main_queue_of}
use Rattle.space_map.specs.Blocks.{manager_of}
use Rattle.space_pool.specs.declared.entry.Queue.TheVariants.{Pool, Main}
use Rattle.reach_rules.specs.declared.fault.ReachFault.TheVariants.{NamedTwice}
use Rattle.reach_rules.specs.Naming.{ViewAt, LookUp, ByBlock, ByMapping, InContainer, InView, Object, Newest, OfId, Namer, Whole, Kept, TreeKind, MapRecords, MapSnapshots, ExtentRefs, SnapMetadata, FreeQueue, Files, Expected, SpaceManager, ContainerMap, ReaperObject, ReapList, Jumpstart, VolumeIn, VolumeMap, ExtendedMetadata, SnapshotSuper, AddressBlock, InfoBlock, TreeRoot, TreeNode, Naming, naming}
use Rattle.reach_rules.specs.Resolved.{Found, resolved, standing, is_node, mapped, mapped_node, found_ephemeral}
use Rattle.space_pool.specs.Queues.{one_block}
use Rattle.reach_rules.specs.Tested.{Answer, tested}
use Rattle.reach_rules.specs.Next.{roots, next, names, names_if, unless_zero, slot_namings, map_namings, live_view, past_view, view_namings, record_namings, snapshot_namings, snapshots_namings, records_of_snapshots, address_naming, addresses_in, address_namings, cib_naming, cab_namings, cibs_in, children_in, child_namings, node_namings}
use Rattle.reach_rules.specs.Live.{Live, rooted, led, IsLive}
use Rattle.reach_rules.specs.Faults.{IsNamedTwice}
use Rattle.apfs_model.proofs.BoolTests.{equal-from}
use Rattle.apfs_model.proofs.Searches.{in-map, from-map, found-in}
use Rattle.reach_rules.specs.Laws.{Flawed}
use Rattle.reach_rules.proofs.Chains.{Link, link_of, links, first_link, IsLinked, chain_or}
use Rattle.reach_rules.proofs.Lives.{Ends, gather, gather_or, ends-by, live-from}
use Rattle.reach_rules.proofs.Nexts.{Each, each-in, each-append, each-map, each-flat, each-if, each-unless, each-through, from-next}

-- all that is live from a naming is a list
abbrev IsEnding : List ℕ → Seen → Naming → Type 0
IsEnding image seen n = Ends (next image seen) (n ∷ [])

-- it is where it is so of each that a sound object names as it is expected
ends-as : (image : List ℕ) (seen : Seen) (n : Naming) (e : Expected) → n.expected ≡ e → ((f : Found) → Each (IsEnding image seen) (names image seen n.how e (Whole f.object) f.bytes)) → IsEnding image seen n
ends-as image seen n e s each = ends-by (next image seen) n (gather (next image seen) (next image seen n) (λ m h.
    let l = from-next image seen n m h in
    each-in (IsEnding image seen) (names image seen n.how e (Whole l.object.object) l.object.bytes) m (each l.object)
    (subst (λ x. In m (names image seen n.how x (Whole l.object.object) l.object.bytes)) s l.names)))

-- nodes of trees
each-children : (image : List ℕ) (seen : Seen) (namer : Namer) (kind : TreeKind) (how : LookUp) (level : ℕ) → ((n : Naming) → n.expected ≡ TreeNode kind level → IsEnding image seen n) → (i : ℕ) (oids : List ℕ) → Each (IsEnding image seen) (child_namings namer kind how level i oids)
each-children image seen namer kind how level f i [] = tt
each-children image seen namer kind how level f i (oid ∷ oids) = (f (naming namer i (TreeNode kind level) how oid) refl, each-children image seen namer kind how level f (suc i) oids)

ends-node : (image : List ℕ) (seen : Seen) (kind : TreeKind) (level : ℕ) (n : Naming) → n.expected ≡ TreeNode kind level → IsEnding image seen n
ends-node image seen kind zero n s = ends-as image seen n (TreeNode kind zero) s (λ f. tt)
ends-node image seen kind (suc level) n s = ends-as image seen n (TreeNode kind (suc level)) s (λ f. each-children image seen (Whole f.object) kind n.how level (ends-node image seen kind level) 0 (children_in kind f.bytes))

each-nodes : (image : List ℕ) (seen : Seen) (namer : Namer) (kind : TreeKind) (how : LookUp) (level : ℕ) (oids : List ℕ) → Each (IsEnding image seen) (node_namings namer kind how level oids)
each-nodes image seen namer kind how zero oids = tt
each-nodes image seen namer kind how (suc level) oids = each-children image seen namer kind how level (ends-node image seen kind level) 0 oids

ends-root : (image : List ℕ) (seen : Seen) (kind : TreeKind) (n : Naming) → n.expected ≡ TreeRoot kind → IsEnding image seen n
ends-root image seen kind n s = ends-as image seen n (TreeRoot kind) s (λ f. each-nodes image seen (Whole f.object) kind n.how (level_of f.bytes) (children_in kind f.bytes))

-- what names nothing
ends-cib : (image : List ℕ) (seen : Seen) (i : ℕ) (n : Naming) → n.expected ≡ InfoBlock i → IsEnding image seen n
ends-cib image seen i n s = ends-as image seen n (InfoBlock i) s (λ f. tt)

ends-meta : (image : List ℕ) (seen : Seen) (n : Naming) → n.expected ≡ ExtendedMetadata → IsEnding image seen n
ends-meta image seen n s = ends-as image seen n ExtendedMetadata s (λ f. tt)

ends-jump : (image : List ℕ) (seen : Seen) (n : Naming) → n.expected ≡ Jumpstart → IsEnding image seen n
ends-jump image seen n s = ends-as image seen n Jumpstart s (λ f. tt)

-- what names these
ends-cab : (image : List ℕ) (seen : Seen) (i : ℕ) (n : Naming) → n.expected ≡ AddressBlock i → IsEnding image seen n
ends-cab image seen i n s = ends-as image seen n (AddressBlock i) s (λ f.
    each-through (IsEnding image seen) (manager_of seen) (λ manager. cab_namings (site_of seen).block_size (Whole f.object) manager i f.bytes) (λ manager.
    each-map (IsEnding image seen) (cib_naming (Whole f.object) manager f.bytes) (cibs_in (site_of seen).block_size manager i) (λ c. ends-cib image seen c (cib_naming (Whole f.object) manager f.bytes c) refl)))

each-maps : (image : List ℕ) (seen : Seen) (namer : Namer) (bytes : List ℕ) → Each (IsEnding image seen) (map_namings namer bytes)
each-maps image seen namer bytes = (ends-root image seen MapRecords _ refl, each-unless (IsEnding image seen) namer 56 (TreeRoot MapSnapshots) ByBlock (maps.snap_tree_of bytes) (ends-root image seen MapSnapshots _ refl))

ends-map : (image : List ℕ) (seen : Seen) (n : Naming) → n.expected ≡ VolumeMap → IsEnding image seen n
ends-map image seen n s = ends-as image seen n VolumeMap s (λ f. each-maps image seen (Whole f.object) f.bytes)

ends-container-map : (image : List ℕ) (seen : Seen) (n : Naming) → n.expected ≡ ContainerMap → IsEnding image seen n
ends-container-map image seen n s = ends-as image seen n ContainerMap s (λ f. each-maps image seen (Whole f.object) f.bytes)

each-view : (image : List ℕ) (seen : Seen) (namer : Namer) (view : ViewAt) (bytes : List ℕ) → Each (IsEnding image seen) (view_namings namer view bytes)
each-view image seen namer view bytes = (ends-root image seen (Files view.hashed) _ refl, each-unless (IsEnding image seen) namer 1000 ExtendedMetadata (InView view) (volumes.meta_ext_of bytes) (ends-meta image seen _ refl))

ends-super : (image : List ℕ) (seen : Seen) (view : ViewAt) (n : Naming) → n.expected ≡ SnapshotSuper view → IsEnding image seen n
ends-super image seen view n s = ends-as image seen n (SnapshotSuper view) s (λ f. each-view image seen (Whole f.object) view f.bytes)

each-record : (image : List ℕ) (seen : Seen) (view : ViewAt) (value : List ℕ) → Each (IsEnding image seen) (record_namings view value)
each-record image seen view value = (ends-super image seen view _ refl, each-unless (IsEnding image seen) (Kept view) 0 (TreeRoot ExtentRefs) ByBlock (snap_extents_of value) (ends-root image seen ExtentRefs _ refl))

each-snapshots : (image : List ℕ) (seen : Seen) (slot : ℕ) (bytes : List ℕ) (i : ℕ) (pairs : List Pair) → Each (IsEnding image seen) (snapshots_namings slot bytes i pairs)
each-snapshots image seen slot bytes i [] = tt
each-snapshots image seen slot bytes i (pair ∷ pairs) =
    each-append (IsEnding image seen) (snapshot_namings slot bytes i pair) (snapshots_namings slot bytes (suc i) pairs)
    (each-if (IsEnding image seen) (is_snapshot_long pair) (record_namings (past_view slot bytes i pair) (bytes_in pair.value)) [] (each-record image seen (past_view slot bytes i pair) (bytes_in pair.value)) tt)
    (each-snapshots image seen slot bytes (suc i) pairs)

ends-volume : (image : List ℕ) (seen : Seen) (slot : ℕ) (n : Naming) → n.expected ≡ VolumeIn slot → IsEnding image seen n
ends-volume image seen slot n s = ends-as image seen n (VolumeIn slot) s (λ f.
    let me = Whole f.object in
    let E : Naming → Type 0 = IsEnding image seen in
    let snaps = snapshots_namings slot f.bytes 0 (records_of_snapshots image (site_of seen) f.bytes) in
    let metadata = unless_zero me 152 (TreeRoot SnapMetadata) ByBlock (volumes.snaps_root_of f.bytes) in
    let extents = unless_zero me 144 (TreeRoot ExtentRefs) ByBlock (volumes.extents_root_of f.bytes) in (
      ends-map image seen _ refl,
      each-append E (view_namings me (live_view seen slot f.bytes) f.bytes) (extents ++ (metadata ++ snaps)) (each-view image seen me (live_view seen slot f.bytes) f.bytes)
          (each-append E extents (metadata ++ snaps) (each-unless E me 144 (TreeRoot ExtentRefs) ByBlock (volumes.extents_root_of f.bytes) (ends-root image seen ExtentRefs _ refl))
          (each-append E metadata snaps (each-unless E me 152 (TreeRoot SnapMetadata) ByBlock (volumes.snaps_root_of f.bytes) (ends-root image seen SnapMetadata _ refl))
          (each-snapshots image seen slot f.bytes 0 (records_of_snapshots image (site_of seen) f.bytes)))),
    ))

each-addresses : (image : List ℕ) (seen : Seen) (me : Namer) (manager : List ℕ) → Each (IsEnding image seen) (address_namings me manager)
each-addresses image seen me manager =
    each-if (IsEnding image seen) (cabs_of manager == 0) (map (address_naming InfoBlock me manager) (addresses_in manager (cibs_of manager))) (map (address_naming AddressBlock me manager) (addresses_in manager (cabs_of manager)))
    (each-map (IsEnding image seen) (address_naming InfoBlock me manager) (addresses_in manager (cibs_of manager)) (λ i. ends-cib image seen i (address_naming InfoBlock me manager i) refl))
    (each-map (IsEnding image seen) (address_naming AddressBlock me manager) (addresses_in manager (cabs_of manager)) (λ i. ends-cab image seen i (address_naming AddressBlock me manager i) refl))

ends-manager : (image : List ℕ) (seen : Seen) (n : Naming) → n.expected ≡ SpaceManager → IsEnding image seen n
ends-manager image seen n s = ends-as image seen n SpaceManager s (λ f.
    let me = Whole f.object in
    let E : Naming → Type 0 = IsEnding image seen in
    let pool = unless_zero me 208 (TreeRoot (FreeQueue Pool)) ByMapping (pool_queue_of f.bytes) in
    let main = unless_zero me 248 (TreeRoot (FreeQueue Main)) ByMapping (main_queue_of f.bytes) in
    each-append E pool (main ++ address_namings me f.bytes) (each-unless E me 208 (TreeRoot (FreeQueue Pool)) ByMapping (pool_queue_of f.bytes) (ends-root image seen (FreeQueue Pool) _ refl))
    (each-append E main (address_namings me f.bytes) (each-unless E me 248 (TreeRoot (FreeQueue Main)) ByMapping (main_queue_of f.bytes) (ends-root image seen (FreeQueue Main) _ refl))
    (each-addresses image seen me f.bytes)))

-- ---- the reaper's lists, which may go round
reap_namer : ℕ → ℕ → Namer
reap_namer reaper zero = Whole (OfId reaper)
reap_namer reaper (suc k) = Whole (OfId k)

reap_at : ℕ → ℕ
reap_at zero = 48
reap_at (suc k) = 32

-- the naming of a list: by the reaper, or by the list before it
abbrev reap_naming : ℕ → Link → Naming
reap_naming reaper l = naming (reap_namer reaper l.namer) (reap_at l.namer) ReapList ByMapping l.oid

nonzero : ℕ → Option ℕ
nonzero oid = if oid == 0 then None else Some oid

if_sound : Answer → Option ℕ → Option ℕ
if_sound (Ok bytes) o = o
if_sound (Err bad) o = None

-- what a found object names further, by a field
further : Seen → Expected → (List ℕ → ℕ) → ℕ → Option Found → Option ℕ
further seen e field oid None = None
further seen e field oid (Some f) = if_sound (tested (site_of seen) e oid f.bytes) (nonzero (field f.bytes))

after : List ℕ → Seen → ℕ → Option ℕ
after image seen oid = further seen ReapList reap_next_of oid (found_ephemeral image seen ReapList oid)

head : List ℕ → Seen → ℕ → Option ℕ
head image seen reaper = further seen ReaperObject reaper_head_of reaper (found_ephemeral image seen ReaperObject reaper)

-- an ephemeral object is the one of its id
mapped-object : (site : Site) (oid : ℕ) (place : Place) (f : Found) (o : Option ℕ) → in_container site.blocks place.block ≡ o → mapped site oid place ≡ Some f → f.object ≡ OfId oid
mapped-object site oid place f o e m =
    let go : (o : Option ℕ) → in_container site.blocks place.block ≡ o → f.object ≡ OfId oid =
    λ o. elim o as (λ o. in_container site.blocks place.block ≡ o → f.object ≡ OfId oid) [
      | None ↦ λ e. let z : ◌≡◌ {A = Option Found} None (Some f) = subst (λ x. option_map (λ block. record { object = OfId oid; block = block; bytes = place.bytes }) x ≡ Some f) e m in absurd (let q : ⊥ = cc in q)
      | Some b ↦ λ e. let z : ◌≡◌ {A = Option Found} (Some (record { object = OfId oid; block = b; bytes = place.bytes })) (Some f) = subst (λ x. option_map (λ block. record { object = OfId oid; block = block; bytes = place.bytes }) x ≡ Some f) e m in
          let s : ◌≡◌ {A = Found} (record { object = OfId oid; block = b; bytes = place.bytes }) f = cc in ap (λ (x : Found). x.object) (sym s)
    ] in
    go o e

found-object : (image : List ℕ) (seen : Seen) (e : Expected) (oid : ℕ) (f : Found) → found_ephemeral image seen e oid ≡ Some f → f.object ≡ OfId oid
found-object image seen e oid f h =
    let node : (o : Option ℕ) → option_map (standing image (site_of seen) (OfId oid)) o ≡ Some f → f.object ≡ OfId oid = λ o. elim o as (λ o. option_map (standing image (site_of seen) (OfId oid)) o ≡ Some f → f.object ≡ OfId oid) [
      | None ↦ λ m. let z : ◌≡◌ {A = Option Found} None (Some f) = m in absurd (let q : ⊥ = cc in q)
      | Some b ↦ λ m.
          let z : ◌≡◌ {A = Option Found} (Some (standing image (site_of seen) (OfId oid) b)) (Some f) = m in
          let s : standing image (site_of seen) (OfId oid) b ≡ f = cc in ap (λ (x : Found). x.object) (sym s)
    ] in
    let there : (place : Place) (b : Bool) → (if b then mapped_node image (site_of seen) oid place else mapped (site_of seen) oid place) ≡ Some f → f.object ≡ OfId oid =
    λ place b. elim b as (λ b. (if b then mapped_node image (site_of seen) oid place else mapped (site_of seen) oid place) ≡ Some f → f.object ≡ OfId oid) [
      | true ↦ λ m. node (one_block (site_of seen) place) m
      | false ↦ λ m. mapped-object (site_of seen) oid place f (in_container (site_of seen).blocks place.block) refl m
    ] in
    let go : (o : Option Place) → option_and_then (λ (place : Place). if is_node e then mapped_node image (site_of seen) oid place else mapped (site_of seen) oid place) o ≡ Some f → f.object ≡ OfId oid =
    λ o. elim o as (λ o. option_and_then (λ (place : Place). if is_node e then mapped_node image (site_of seen) oid place else mapped (site_of seen) oid place) o ≡ Some f → f.object ≡ OfId oid) [
      | None ↦ λ m. let z : ◌≡◌ {A = Option Found} None (Some f) = m in absurd (let q : ⊥ = cc in q)
      | Some place ↦ λ m. there place (is_node e) m
    ] in
    go (eph seen oid) h

-- a field names what the link of it names
unless-link : (reaper k j at oid : ℕ) (o : Object) → o ≡ OfId k → reap_namer reaper j ≡ Whole (OfId k) → reap_at j ≡ at → unless_zero (Whole o) at ReapList ByMapping oid ≡ map (reap_naming reaper) (link_of j (nonzero oid))
unfolding nonzero
unless-link reaper k j at oid o e n a =
    let go : (b : Bool) → (if b then [] else naming (Whole o) at ReapList ByMapping oid ∷ []) ≡ map (reap_naming reaper) (link_of j (if b then None else Some oid)) =
    λ b. elim b as (λ b. (if b then [] else naming (Whole o) at ReapList ByMapping oid ∷ []) ≡ map (reap_naming reaper) (link_of j (if b then None else Some oid))) [
      | true ↦ refl
      | false ↦ let p : Whole o ≡ reap_namer reaper j = ap Whole e ∙ sym n in cc
    ] in
    go (oid == 0)

naming-parts : Namer → ℕ → Expected → LookUp → ℕ → Naming
naming-parts namer at expected how oid = record { namer = namer; at = at; expected = expected; how = how; oid = oid }

naming-from : (n : Naming) (e : Expected) → n.how ≡ ByMapping → n.expected ≡ e → n ≡ naming n.namer n.at e ByMapping n.oid
unfolding naming-parts
naming-from n e h s = let k : naming-parts n.namer n.at n.expected n.how n.oid ≡ naming-parts n.namer n.at e ByMapping n.oid = cc in k

-- what the naming of an ephemeral object leads to is what its links lead to
further-next : (image : List ℕ) (seen : Seen) (n : Naming) (e : Expected) (field : List ℕ → ℕ) (reaper j at : ℕ) → n.how ≡ ByMapping → n.expected ≡ e →
    ((f : Found) → names image seen ByMapping e (Whole f.object) f.bytes ≡ unless_zero (Whole f.object) at ReapList ByMapping (field f.bytes)) →
    reap_namer reaper j ≡ Whole (OfId n.oid) → reap_at j ≡ at →
    next image seen n ≡ map (reap_naming reaper) (link_of j (further seen e field n.oid (found_ephemeral image seen e n.oid)))
unfolding next resolved further if_sound
further-next image seen n e field reaper j at h s same named placed =
    let Goal : LookUp → Expected → Option Found → Type 0 = λ how x o.
    through o (λ (f : Found). names_if image seen (naming n.namer n.at x how n.oid) f (tested (site_of seen) x n.oid f.bytes)) ≡ map (reap_naming reaper) (link_of j (further seen x field n.oid o)) in
    let answer : (f : Found) → f.object ≡ OfId n.oid → (a : Answer) → names_if image seen (naming n.namer n.at e ByMapping n.oid) f a ≡ map (reap_naming reaper) (link_of j (if_sound a (nonzero (field f.bytes)))) =
    λ f o a. elim a as (λ a. names_if image seen (naming n.namer n.at e ByMapping n.oid) f a ≡ map (reap_naming reaper) (link_of j (if_sound a (nonzero (field f.bytes))))) [
      | Ok b ↦ same f ∙ unless-link reaper n.oid j at (field f.bytes) f.object o named placed
      | Err bad ↦ refl
    ] in
    let go : (o : Option Found) → found_ephemeral image seen e n.oid ≡ o → Goal ByMapping e o = λ o. elim o as (λ o. found_ephemeral image seen e n.oid ≡ o → Goal ByMapping e o) [
      | None ↦ λ q. refl
      | Some f ↦ λ q. answer f (found-object image seen e n.oid f q) (tested (site_of seen) e n.oid f.bytes)
    ] in
    let base : Goal ByMapping e (found_ephemeral image seen e n.oid) = go (found_ephemeral image seen e n.oid) refl in
    let byhow : next image seen (naming n.namer n.at e ByMapping n.oid) ≡ map (reap_naming reaper) (link_of j (further seen e field n.oid (found_ephemeral image seen e n.oid))) = base in
    let same-naming : n ≡ naming n.namer n.at e ByMapping n.oid = naming-from n e h s in
    subst (λ m. next image seen m ≡ map (reap_naming reaper) (link_of j (further seen e field n.oid (found_ephemeral image seen e n.oid)))) (sym same-naming) byhow

-- a list that goes on has a mapping
known : (image : List ℕ) (seen : Seen) (k m : ℕ) → after image seen k ≡ Some m → In k (eph_ids seen)
unfolding after further eph eph_ids
known image seen k m h =
    let F : Place → Option Found = λ place. mapped (site_of seen) k place in
    let go : (o : Option Place) → eph seen k ≡ o → In k (map (λ (p : Place). p.oid) seen.mapped) = λ o. elim o as (λ o. eph seen k ≡ o → In k (map (λ (p : Place). p.oid) seen.mapped)) [
      | None ↦ λ e. let z : ◌≡◌ {A = Option ℕ} None (Some m) = subst (λ o. further seen ReapList reap_next_of k (option_and_then F o) ≡ Some m) e h in absurd (let q : ⊥ = cc in q)
      | Some place ↦ λ e.
          let t = found-in (λ (p : Place). p.oid == k) seen.mapped place e in
          subst (λ x. In x (map (λ (p : Place). p.oid) seen.mapped)) (equal-from place.oid k t.1) (in-map (λ (p : Place). p.oid) seen.mapped place t.0)
    ] in
    go (eph seen k) refl

abbrev reaper_naming : ℕ → Naming
reaper_naming oid = naming (Whole Newest) 168 ReaperObject ByMapping oid

reaper-next : (image : List ℕ) (seen : Seen) (oid : ℕ) → next image seen (reaper_naming oid) ≡ map (reap_naming oid) (first_link (head image seen oid))
unfolding reap_namer reap_at head
reaper-next image seen oid = further-next image seen (reaper_naming oid) ReaperObject reaper_head_of oid 0 48 refl refl (λ f. refl) refl refl

list-next : (image : List ℕ) (seen : Seen) (oid : ℕ) (l : Link) → next image seen (reap_naming oid l) ≡ map (reap_naming oid) (links (after image seen) l)
unfolding reap_namer reap_at after
list-next image seen oid l = further-next image seen (reap_naming oid l) ReapList reap_next_of oid (suc l.oid) 32 refl refl (λ f. refl) refl refl

linked-live : (image : List ℕ) (seen : Seen) (oid : ℕ) (l : Link) → IsLinked (head image seen oid) (after image seen) l → Live (reaper_naming oid ∷ []) (next image seen) (reap_naming oid l)
linked-live image seen oid l (rooted _ h) =
    led (reaper_naming oid) (reap_naming oid l) (rooted (reaper_naming oid) (inl refl)) (subst (λ xs. In (reap_naming oid l) xs) (sym (reaper-next image seen oid)) (in-map (reap_naming oid) (first_link (head image seen oid)) l h))
linked-live image seen oid l (led m _ live h) =
    led (reap_naming oid m) (reap_naming oid l) (linked-live image seen oid m live) (subst (λ xs. In (reap_naming oid l) xs) (sym (list-next image seen oid m)) (in-map (reap_naming oid) (links (after image seen) m) l h))

live-linked : (image : List ℕ) (seen : Seen) (oid : ℕ) (x : Naming) → Live (reaper_naming oid ∷ []) (next image seen) x → (x ≡ reaper_naming oid) ⊎ ((l : Link) × (IsLinked (head image seen oid) (after image seen) l × (x ≡ reap_naming oid l)))
live-linked image seen oid x (rooted _ h) = elim h as (λ _. (x ≡ reaper_naming oid) ⊎ ((l : Link) × (IsLinked (head image seen oid) (after image seen) l × (x ≡ reap_naming oid l)))) [ inl e ↦ inl e | inr k ↦ absurd k ]
live-linked image seen oid x (led m _ live h) = elim (live-linked image seen oid m live) as (λ _. (x ≡ reaper_naming oid) ⊎ ((l : Link) × (IsLinked (head image seen oid) (after image seen) l × (x ≡ reap_naming oid l)))) [
  | inl e ↦
      let t = from-map (reap_naming oid) (first_link (head image seen oid)) x (subst (λ xs. In x xs) (ap (next image seen) e ∙ reaper-next image seen oid) h) in
      inr (t.0, (rooted t.0 t.1.0, t.1.1))
  | inr s ↦
      let t = from-map (reap_naming oid) (links (after image seen) s.0) x (subst (λ xs. In x xs) (ap (next image seen) s.1.1 ∙ list-next image seen oid s.0) h) in
      inr (t.0, (led s.0 t.0 s.1.0 t.1.0, t.1.1))
]

-- two links differ where their namings do
namer-same : (reaper a b x y : ℕ) → naming (reap_namer reaper a) (reap_at a) ReapList ByMapping x ≡ naming (reap_namer reaper b) (reap_at b) ReapList ByMapping y → a ≡ b
unfolding reap_namer reap_at
namer-same reaper zero zero x y e = refl
namer-same reaper zero (suc b) x y e = let z : ◌≡◌ {A = ℕ} 48 32 = ap (λ (n : Naming). n.at) e in absurd (omega arith)
namer-same reaper (suc a) zero x y e = let z : ◌≡◌ {A = ℕ} 32 48 = ap (λ (n : Naming). n.at) e in absurd (omega arith)
namer-same reaper (suc a) (suc b) x y e = let z : Whole (OfId a) ≡ Whole (OfId b) = ap (λ (n : Naming). n.namer) e in let p : a ≡ b = cc in ap suc p

link_by : ℕ → ℕ → Link
link_by namer oid = record { namer = namer; oid = oid }

link-same : (reaper : ℕ) (l m : Link) → reap_naming reaper l ≡ reap_naming reaper m → l ≡ m
unfolding link_by
link-same reaper l m e =
    let a : l.namer ≡ m.namer = namer-same reaper l.namer m.namer l.oid m.oid e in
    let b : l.oid ≡ m.oid = ap (λ (n : Naming). n.oid) e in
    let k : link_by l.namer l.oid ≡ link_by m.namer m.oid = cc in k

ends-reaper : (image : List ℕ) (seen : Seen) (oid : ℕ) → IsLive image seen (reaper_naming oid) → IsEnding image seen (reaper_naming oid) ⊎ Flawed image seen
ends-reaper image seen oid live = elim (chain_or (head image seen oid) (after image seen) (eph_ids seen) (known image seen)) as (λ _. IsEnding image seen (reaper_naming oid) ⊎ Flawed image seen) [
  | inl t ↦ inl (
    reaper_naming oid ∷ map (reap_naming oid) t.0,
    (
      (λ x h. elim h as (λ _. Live (reaper_naming oid ∷ []) (next image seen) x) [
        | inl e ↦ rooted x (inl e)
        | inr k ↦ let l = from-map (reap_naming oid) t.0 x k in subst (λ y. Live (reaper_naming oid ∷ []) (next image seen) y) (sym l.1.1) (linked-live image seen oid l.0 (t.1.0 l.0 l.1.0))
      ]),
      (λ x k. elim (live-linked image seen oid x k) as (λ _. In x (reaper_naming oid ∷ map (reap_naming oid) t.0)) [
        | inl e ↦ inl e
        | inr s ↦ inr (subst (λ y. In y (map (reap_naming oid) t.0)) (sym s.1.1) (in-map (reap_naming oid) t.0 s.0 (t.1.1 s.0 s.1.0)))
      ]),
    ),
  )
  | inr t ↦
      let p = t.2 in
      let twice : IsNamedTwice image seen Ephemeral t.0.oid seen.line.xid = record {
        one = reap_naming oid t.0;
        other = reap_naming oid t.1;
        one_live = live-from (next image seen) (roots seen.nx) (reaper_naming oid) (reap_naming oid t.0) live (linked-live image seen oid t.0 p.0);
        other_live = live-from (next image seen) (roots seen.nx) (reaper_naming oid) (reap_naming oid t.1) live (linked-live image seen oid t.1 p.1);
        once = refl;
        same_view = refl;
        same_oid = p.2;
        apart = λ e. p.3 (link-same oid t.0 t.1 e);
        shown = record { within_is = refl; oid_is = refl; xid_is = refl };
      } in
      inr (inl (NamedTwice Ephemeral t.0.oid seen.line.xid, twice))
]

-- ---- all roots
abbrev IsEnding_or : List ℕ → Seen → Naming → Type 0
IsEnding_or image seen n = IsLive image seen n → IsEnding image seen n ⊎ Flawed image seen

each-root : (image : List ℕ) (seen : Seen) → Each (IsEnding_or image seen) (roots seen.nx)
unfolding roots
each-root image seen =
    let E : Naming → Type 0 = IsEnding_or image seen in
    let jump = unless_zero (Whole Newest) 1272 Jumpstart ByBlock (jumpstart_of seen.nx) in
    let reaper = unless_zero (Whole Newest) 168 ReaperObject ByMapping (reaper_oid_of seen.nx) in
    let volumes = flat_map (slot_namings seen.nx) (range_with_len 0 slots) in (
      (λ live. inl (ends-manager image seen _ refl)),
      (
        (λ live. inl (ends-container-map image seen _ refl)),
        each-append E reaper (jump ++ volumes) (each-unless E (Whole Newest) 168 ReaperObject ByMapping (reaper_oid_of seen.nx) (ends-reaper image seen (reaper_oid_of seen.nx)))
            (each-append E jump volumes (each-unless E (Whole Newest) 1272 Jumpstart ByBlock (jumpstart_of seen.nx) (λ live. inl (ends-jump image seen _ refl)))
            (each-flat E (slot_namings seen.nx) (range_with_len 0 slots) (λ slot. each-unless E (Whole Newest) _ (VolumeIn slot) InContainer (fs_oid_of seen.nx slot) (λ live. inl (ends-volume image seen slot _ refl))))),
      ),
    )

-- all live namings are a list, or an ephemeral id is named twice
pub live_or : (image : List ℕ) (seen : Seen) → ((xs : List Naming) × Lists xs (IsLive image seen)) ⊎ Flawed image seen
live_or image seen = gather_or (next image seen) (roots seen.nx) (λ n h. each-in (IsEnding_or image seen) (roots seen.nx) n (each-root image seen) h (rooted n h))
