-- The objects that are counted, and the owners whose ranges are given, are those that are gathered.
use Rattle.std.proofs.Common.{◌≡◌, ℕ, Bool, true, false, List, map, Option, Some, None, inl, inr, refl, ap, sym, ◌∙◌, subst, if◌then◌else◌}
use Rattle.std.specs.Prelude.{flat_map, option_map, option_and_then}
use Rattle.apfs_model.specs.Blocks.{in_container}
use Rattle.apfs_model.specs.Lists.{In}
use Rattle.apfs_model.proofs.Searches.{in-left, in-right, in-append, in-map, from-map, in-flat_map, from-flat_map}
use Rattle.obj_base.specs.declared.site.Site.{Site}
use Rattle.nx_ring.specs.Checkpoint.{Seen, eph, site_of}
use Rattle.nx_ring.specs.Objects.{Place}
use Rattle.omap_map.specs.Maps.{resolved_in}
use Rattle.omap_map.specs.declared.records.OmapRecord.{OmapRecord}
use Rattle.space_pool.specs.Queues.{one_block}
use Rattle.reach_rules.specs.declared.naming.LookUp.{LookUp}
use Rattle.reach_rules.specs.declared.naming.LookUp.TheVariants.{ByBlock, ByMapping, InContainer, InView}
use Rattle.reach_rules.specs.declared.naming.Object.{Object}
use Rattle.reach_rules.specs.declared.naming.Object.TheVariants.{Newest, InBlock, OfId, OfRecord}
use Rattle.reach_rules.specs.declared.naming.Expected.{Expected}
use Rattle.reach_rules.specs.declared.naming.Naming.{Naming}
use Rattle.reach_rules.specs.Resolved.{Found, resolved, found_by, found_virtual, recorded, standing, mapped, mapped_node, is_node}
use Rattle.reach_rules.specs.Tally.{IsNumberOf}
use Rattle.reach_rules.proofs.Looks.{standing-by}
use Rattle.reach_gather.specs.Tells.{objects_through}
use Rattle.reach_gather.specs.ViewParts.{is_in_view, record_object, ResolvesTo, AreOutside}
use Rattle.reach_gather.specs.Joined.{HaveSame}
use Rattle.reach_gather.specs.Ranges.{joined_objects}
use Rattle.reach_gather.specs.Gathered.{AreOnceOf}
use Rattle.reach_gather.specs.Finished.{IsIdOf, IsObjectOf, AreRecordsWith}
use Rattle.reach_gather.proofs.Tells.{object-found, found-object}

-- what is found through a test, and in another form
found-through : {X Y : Type 0} (g : X → Option Y) (y : Y) (o : Option X) → option_and_then g o ≡ Some y → (x : X) × ((o ≡ Some x) × (g x ≡ Some y))
found-through {X} {Y} g y None e = absurd (let z : ◌≡◌ {A = Option Y} None (Some y) = e in let q : ⊥ = cc in q)
found-through g y (Some x) e = (x, (refl, e))

found-as : {X Y : Type 0} (g : X → Y) (y : Y) (o : Option X) → option_map g o ≡ Some y → (x : X) × ((o ≡ Some x) × (y ≡ g x))
found-as {X} {Y} g y None e = absurd (let z : ◌≡◌ {A = Option Y} None (Some y) = e in let q : ⊥ = cc in q)
found-as {X} {Y} g y (Some x) e = let z : ◌≡◌ {A = Option Y} (Some (g x)) (Some y) = e in (x, (refl, (let k : y ≡ g x = cc in k)))

-- ---- the object that is found by a look-up
abbrev pub IsObjectBy : LookUp → ℕ → Object → Type 0
IsObjectBy ByBlock oid x = x ≡ InBlock oid
IsObjectBy ByMapping oid x = x ≡ OfId oid
IsObjectBy InContainer oid x = (r : ℕ × OmapRecord) × (x ≡ record_object r)
IsObjectBy (InView view) oid x = (r : ℕ × OmapRecord) × (x ≡ record_object r)

by-place : (image : List ℕ) (site : Site) (e : Expected) (oid : ℕ) (place : Place) (f : Found) (b : Bool) → (if b then mapped_node image site oid place else mapped site oid place) ≡ Some f → f.object ≡ OfId oid
by-place image site e oid place f true h = let t = found-as (standing image site (OfId oid)) f (one_block site place) h in ap (λ (g : Found). g.object) t.1.1
by-place image site e oid place f false h =
    let told : ℕ → Found = λ block. record { object = OfId oid; block = block; bytes = place.bytes } in
    let t = found-as told f (in_container site.blocks place.block) h in ap (λ (g : Found). g.object) t.1.1

by-record : (image : List ℕ) (site : Site) (mapped x oid : ℕ) (f : Found) → found_virtual image site mapped x oid ≡ Some f → (r : ℕ × OmapRecord) × (f.object ≡ record_object r)
by-record image site mapped x oid f h =
    let t = found-through (recorded image site mapped) f (resolved_in image site mapped oid x) h in
    let s = found-as (standing image site (OfRecord mapped t.0)) f (in_container site.blocks t.0.paddr) t.1.1 in
    ((mapped, t.0), ap (λ (g : Found). g.object) s.1.1)

object-by : (image : List ℕ) (seen : Seen) (how : LookUp) (e : Expected) (oid : ℕ) (f : Found) → found_by image seen how e oid ≡ Some f → IsObjectBy how oid f.object
object-by image seen ByBlock e oid f h = ap (λ (g : Found). g.object) (standing-by image (site_of seen) oid f h)
object-by image seen ByMapping e oid f h =
    let t = found-through (λ (place : Place). if is_node e then mapped_node image (site_of seen) oid place else mapped (site_of seen) oid place) f (eph seen oid) h in
    by-place image (site_of seen) e oid t.0 f (is_node e) t.1.1
object-by image seen InContainer e oid f h = by-record image (site_of seen) _ seen.line.xid oid f h
object-by image seen (InView view) e oid f h = by-record image (site_of seen) view.map view.xid oid f h

pub resolved-by : (image : List ℕ) (seen : Seen) (n : Naming) (f : Found) → resolved image seen n ≡ Some f → IsObjectBy n.how n.oid f.object
unfolding resolved
resolved-by image seen n f h = object-by image seen n.how n.expected n.oid f h

-- ---- the objects that namings tell of
-- each naming resolves
abbrev pub DoResolve : List ℕ → Seen → List Naming → Type 0
DoResolve image seen ns = (n : Naming) → In n ns → (f : Found) × (resolved image seen n ≡ Some f)

-- an id by a look-up, as the object to which its naming resolves
id-told : (image : List ℕ) (seen : Seen) (ns : List Naming) → DoResolve image seen ns → (how : LookUp) (oid : ℕ) (i : IsIdOf how ns oid) → (x : Object) → ((y : Object) → IsObjectBy how oid y → y ≡ x) → In x (flat_map (objects_through image seen) ns)
id-told image seen ns found how oid i x is =
    let t = found i.naming i.one in
    let by : IsObjectBy how oid t.0.object = subst (λ k. IsObjectBy how k t.0.object) (sym i.oid_is) (subst (λ h. IsObjectBy h i.naming.oid t.0.object) i.how_is (resolved-by image seen i.naming t.0 t.1)) in
    in-flat_map (objects_through image seen) i.naming x ns i.one (subst (λ (y : Object). In y (objects_through image seen i.naming)) (is t.0.object by) (found-object image seen i.naming t.0 t.1))

told-object : (image : List ℕ) (seen : Seen) (ns : List Naming) (used records : List (ℕ × OmapRecord)) → DoResolve image seen ns → AreRecordsWith image seen ns used records → (x : Object) → IsObjectOf ns records x → In x (joined_objects image seen ns used)
told-object image seen ns used records found recs Newest h = inl refl
told-object image seen ns used records found recs (InBlock block) h =
    inr (in-left (InBlock block) (flat_map (objects_through image seen) ns) (map record_object used) (id-told image seen ns found ByBlock block h (InBlock block) (λ y e. e)))
told-object image seen ns used records found recs (OfId oid) h =
    inr (in-left (OfId oid) (flat_map (objects_through image seen) ns) (map record_object used) (id-told image seen ns found ByMapping oid h (OfId oid) (λ y e. e)))
told-object image seen ns used records found recs (OfRecord block r) h = elim (recs.only (block, r) h) as (λ _. In (OfRecord block r) (joined_objects image seen ns used)) [
  | inl k ↦ inr (in-right (OfRecord block r) (flat_map (objects_through image seen) ns) (map record_object used) (in-map record_object used (block, r) k))
  | inr t ↦
      let to : ResolvesTo image seen t.0 (block, r) = t.1.1 in
      inr (in-left (OfRecord block r) (flat_map (objects_through image seen) ns) (map record_object used)
      (in-flat_map (objects_through image seen) t.0 (OfRecord block r) ns t.1.0 (subst (λ (y : Object). In y (objects_through image seen t.0)) to.record_is (found-object image seen t.0 to.object to.found))))
]

-- by the look-up of its naming
by-look : (image : List ℕ) (seen : Seen) (ns : List Naming) (used records : List (ℕ × OmapRecord)) → AreRecordsWith image seen ns used records → (n : Naming) → In n ns → is_in_view n.how ≡ false → (f : Found) → resolved image seen n ≡ Some f →
    (how : LookUp) → n.how ≡ how → IsObjectBy how n.oid f.object → IsObjectOf ns records f.object
by-look image seen ns used records recs n h out f e ByBlock how by = subst (IsObjectOf ns records) (sym by) (record { naming = n; one = h; how_is = how; oid_is = refl })
by-look image seen ns used records recs n h out f e ByMapping how by = subst (IsObjectOf ns records) (sym by) (record { naming = n; one = h; how_is = how; oid_is = refl })
by-look image seen ns used records recs n h out f e InContainer how by =
    subst (IsObjectOf ns records) (sym by.1) (recs.of_namings n h how by.0 (record { object = f; found = e; record_is = by.1 }))
by-look image seen ns used records recs n h out f e (InView view) how by = absurd (let z : true ≡ false = sym (ap is_in_view how) ∙ out in let q : ⊥ = cc in q)

object-told : (image : List ℕ) (seen : Seen) (ns : List Naming) (used records : List (ℕ × OmapRecord)) → AreOutside ns → AreRecordsWith image seen ns used records → (x : Object) → In x (joined_objects image seen ns used) → IsObjectOf ns records x
object-told image seen ns used records outside recs x (inl e) = subst (IsObjectOf ns records) (sym e) tt
object-told image seen ns used records outside recs x (inr h) = elim (in-append x (flat_map (objects_through image seen) ns) (map record_object used) h) as (λ _. IsObjectOf ns records x) [
  | inl k ↦
      let t = from-flat_map (objects_through image seen) x ns k in
      let f = object-found image seen t.0 x t.1.1 in
      subst (IsObjectOf ns records) (sym f.1.1) (by-look image seen ns used records recs t.0 t.1.0 (outside t.0 t.1.0) f.0 f.1.0 t.0.how refl (resolved-by image seen t.0 f.0 f.1.0))
  | inr k ↦ let t = from-map record_object used x k in subst (IsObjectOf ns records) (sym t.1.1) (recs.of_views t.0 t.1.0)
]

-- ---- namings in another order
ids-same : (how : LookUp) (ns ms : List Naming) → ((n : Naming) → In n ns → In n ms) → (oid : ℕ) → IsIdOf how ns oid → IsIdOf how ms oid
ids-same how ns ms into oid i = record { naming = i.naming; one = into i.naming i.one; how_is = i.how_is; oid_is = i.oid_is }

objects-same : (ns ms : List Naming) (records : List (ℕ × OmapRecord)) → ((n : Naming) → In n ns → In n ms) → (x : Object) → IsObjectOf ns records x → IsObjectOf ms records x
objects-same ns ms records into Newest h = tt
objects-same ns ms records into (InBlock block) h = ids-same ByBlock ns ms into block h
objects-same ns ms records into (OfId oid) h = ids-same ByMapping ns ms into oid h
objects-same ns ms records into (OfRecord block r) h = h

-- ---- all that was gathered
-- namings that resolve, none of them in a view, and the records with those that views use: the objects that are counted are theirs, each once
pub objects-once : (image : List ℕ) (seen : Seen) (namings ns : List Naming) (used records : List (ℕ × OmapRecord)) → HaveSame namings ns → AreOutside ns → DoResolve image seen ns → AreRecordsWith image seen ns used records →
    (number : ℕ) (n : IsNumberOf (IsObjectOf namings records) number) → AreOnceOf n.all (joined_objects image seen ns used)
objects-once image seen namings ns used records same outside found recs number n = record {
  apart = n.apart;
  there = λ x h. told-object image seen ns used records found recs x (objects-same namings ns records same.there x (n.lists.0 x h));
  all = λ x h. n.lists.1 x (objects-same ns namings records same.back x (object-told image seen ns used records outside recs x h));
}
