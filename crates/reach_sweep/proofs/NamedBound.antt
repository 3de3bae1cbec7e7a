-- The namings that were gathered, and the records that views use, are no more than the named objects.
use Rattle.std.proofs.Common.{◌≡◌, ℕ, suc, ◌+◌, ◌≤◌, List, [], ◌∷◌, ◌++◌, map, length, Option, Some, inl, inr, refl, ap, sym, ◌∙◌, subst, arith}
use Rattle.std.specs.List.{flat_map}
use Rattle.std.proofs.lemmas.List.{length-append, length-map}
use Rattle.apfs_model.specs.Apart.{Apart}
use Rattle.apfs_model.specs.Counts.{given}
use Rattle.apfs_model.specs.Lists.{In, through}
use Rattle.apfs_model.proofs.BoolTests.{clash}
use Rattle.apfs_model.proofs.Finite.{apart-length}
use Rattle.apfs_model.proofs.Searches.{in-left, in-right, in-append, from-map, in-flat_map, from-flat_map}
use Rattle.nx_ring.specs.Checkpoint.{Seen}
use Rattle.omap_map.specs.declared.records.OmapRecord.{OmapRecord}
use Rattle.reach_rules.specs.declared.naming.Object.{Object}
use Rattle.reach_rules.specs.declared.naming.Object.TheVariants.{Newest, OfRecord}
use Rattle.reach_rules.specs.declared.naming.Namer.TheVariants.{Whole as By, Kept}
use Rattle.reach_rules.specs.declared.naming.Expected.TheVariants.{VolumeIn}
use Rattle.reach_rules.specs.declared.naming.Naming.{Naming}
use Rattle.reach_rules.specs.Resolved.{Found, resolved}
use Rattle.reach_rules.specs.Next.{roots, names, next}
use Rattle.reach_rules.specs.Live.{led, IsLive}
use Rattle.reach_rules.specs.Reached.{Whole}
use Rattle.reach_rules.specs.Tally.{IsNumberOf}
use Rattle.reach_rules.proofs.Equal.{naming_eq}
use Rattle.reach_rules.proofs.Nexts.{each-in, from-next}
use Rattle.reach_gather.specs.Namings.{IsPlainNaming}
use Rattle.reach_gather.specs.Tells.{objects_through}
use Rattle.reach_gather.specs.Joined.{HaveSame}
use Rattle.reach_gather.specs.Container.{all_views}
use Rattle.reach_gather.specs.ViewParts.{is_in_view, record_object}
use Rattle.reach_gather.specs.Ranges.{joined_objects}
use Rattle.reach_gather.proofs.Joined.{live-among}
use Rattle.reach_gather.proofs.ViewParts.{view-live}
use Rattle.view_sweep.specs.declared.used.Used.{Used}
use Rattle.view_sweep.specs.Named.{AreReached}
use Rattle.view_sweep.specs.Unused.{used_in}
use Rattle.reach_gather.specs.Held.{Held}
use Rattle.reach_gather.specs.Adds.{Adds}
use Rattle.reach_gather.specs.Finished.{IsObjectOf, AreRecordsWith}
use Rattle.reach_gather.proofs.Counts.{objects-once}
use Rattle.reach_gather.proofs.Finishes.{apart-append, apart_map}
use Rattle.reach_sweep.specs.Composed.{record_used, records_used, IsStart}
use Rattle.reach_sweep.proofs.Added.{held-same}
use Rattle.reach_sweep.proofs.Counting.{is_it, times}
use Rattle.reach_sweep.proofs.LedOnce.{AreLedOnce, led-apart}
use Rattle.reach_sweep.proofs.Lives.{same-record}
use Rattle.reach_sweep.proofs.NamedAt.{one-volume}
use Rattle.reach_sweep.proofs.NextApart.{next-apart, roots-apart, IsNamedBy, names-by, roots-by}
use Rattle.reach_sweep.proofs.OneObject.{IsApart, isnt-newest, IsOutside, one-object, views-apart}

-- all was added from the roots, with what the views name as its rest
pub record IsAddedOnce (image : List ℕ) (seen : Seen) (whole : Whole) (rest : List Naming) (start parts : Held) : Type 0 where
  pub apart : IsApart image seen whole
  pub added : Adds image seen (roots seen.nx) rest start parts
  pub rest_is : HaveSame (all_views image seen) rest

-- each of these is live, and not of a view
outside-of : (image : List ℕ) (seen : Seen) (whole : Whole) (rest : List Naming) (start parts : Held) (a : IsAddedOnce image seen whole rest start parts) → (n : Naming) (f : Found) → In n a.added.these → resolved image seen n ≡ Some f → IsOutside image seen n f.object
outside-of image seen whole rest start parts a n f h e = record { live = a.added.part.these_live n h; outside = a.added.outside n h; object = f; found = e; object_is = refl }

-- ---- each stands once
led-on : (image : List ℕ) (seen : Seen) (whole : Whole) (rest : List Naming) (start parts : Held) (a : IsAddedOnce image seen whole rest start parts) → (m n : Naming) → IsLive image seen m → In n (next image seen m) → In n a.added.these → In m a.added.these
led-on image seen whole rest start parts a m n live h k = elim (a.added.part.split m live) as (λ _. In m a.added.these) [
  | inl i ↦ i
  | inr l ↦
      let v = view-live image seen n (live-among (next image seen) rest (all_views image seen) n a.rest_is.back (led m n l h)) in
      clash (is_in_view n.how) (ap is_in_view v.how_is) (a.added.outside n k)
]

unled : (image : List ℕ) (seen : Seen) (m n : Naming) → In n (next image seen m) → In n (roots seen.nx) → ⊥
unled image seen m n h r =
    let l = from-next image seen m n h in
    let root : n.namer ≡ By Newest = each-in (λ (x : Naming). x.namer ≡ By Newest) (roots seen.nx) n (roots-by seen.nx) r in
    elim (each-in (IsNamedBy l.object.object m.expected) (names image seen m.how m.expected (By l.object.object) l.object.bytes) n (names-by image seen m.how m.expected l.object.object l.object.bytes) l.names) as (λ _. ⊥) [
      | inl e ↦
          let z : By l.object.object ≡ By Newest = sym e ∙ root in
          let same : l.object.object ≡ Newest = cc in
          isnt-newest image seen m l.object l.found same
      | inr w ↦ let z : Kept w.view ≡ By Newest = sym w.namer_is ∙ root in let q : ⊥ = cc in q
    ]

one-leader : (image : List ℕ) (seen : Seen) (whole : Whole) (rest : List Naming) (start parts : Held) (a : IsAddedOnce image seen whole rest start parts) → (k m n : Naming) → In k a.added.these → In m a.added.these → In n (next image seen k) → In n (next image seen m) → k ≡ m
one-leader image seen whole rest start parts a k m n hk hm ik im =
    let l = from-next image seen k n ik in
    let j = from-next image seen m n im in
    let by_k : IsNamedBy l.object.object k.expected n = each-in (IsNamedBy l.object.object k.expected) (names image seen k.how k.expected (By l.object.object) l.object.bytes) n (names-by image seen k.how k.expected l.object.object l.object.bytes) l.names in
    let by_m : IsNamedBy j.object.object m.expected n = each-in (IsNamedBy j.object.object m.expected) (names image seen m.how m.expected (By j.object.object) j.object.bytes) n (names-by image seen m.how m.expected j.object.object j.object.bytes) j.names in
    elim by_k as (λ _. k ≡ m) [
      | inl d ↦ elim by_m as (λ _. k ≡ m) [
        | inl e ↦
            let z : By l.object.object ≡ By j.object.object = sym d ∙ e in
            let same : l.object.object ≡ j.object.object = cc in
            one-object image seen whole a.apart k m j.object.object (subst (IsOutside image seen k) same (outside-of image seen whole rest start parts a k l.object hk l.found)) (outside-of image seen whole rest start parts a m j.object hm j.found)
        | inr w ↦ absurd (let z : By l.object.object ≡ Kept w.view = sym d ∙ w.namer_is in let q : ⊥ = cc in q)
      ]
      | inr v ↦ elim by_m as (λ _. k ≡ m) [
        | inl e ↦ absurd (let z : Kept v.view ≡ By j.object.object = sym v.namer_is ∙ e in let q : ⊥ = cc in q)
        | inr w ↦
            let z : Kept v.view ≡ Kept w.view = sym v.namer_is ∙ w.namer_is in
            let same : v.view ≡ w.view = cc in
            let slot : v.slot ≡ w.slot = sym v.slot_is ∙ (ap (λ x. x.slot) same ∙ w.slot_is) in
            let space = a.apart.reached.space in
            one-volume image seen whole.space.manager space.block space.manager k m w.slot (a.added.part.these_live k hk) (a.added.part.these_live m hm) (v.volume ∙ ap VolumeIn slot) w.volume
      ]
    ]

pub these-apart : (image : List ℕ) (seen : Seen) (whole : Whole) (rest : List Naming) (start parts : Held) (a : IsAddedOnce image seen whole rest start parts) → Apart a.added.these
these-apart image seen whole rest start parts a =
    let first : List Naming = roots seen.nx in
    let these : List Naming = a.added.these in
    let leads : Naming → List Naming = next image seen in
    let once : AreLedOnce naming_eq leads first these = record {
      roots_apart = roots-apart seen.nx;
      next_apart = λ m h. next-apart image seen m;
      led_on = led-on image seen whole rest start parts a;
      unled = λ m n h i r. unled image seen m n i r;
      one = one-leader image seen whole rest start parts a;
      counted = λ n. let all : times naming_eq n these + times naming_eq n rest ≤ times naming_eq n first + times naming_eq n (flat_map leads these) = a.added.part.counted (is_it naming_eq n) in omega arith;
    } in
    led-apart naming_eq leads first these once a.added.part.these_live

-- ---- and so does each object
through-one : (image : List ℕ) (seen : Seen) (n : Naming) (f : Found) → resolved image seen n ≡ Some f → objects_through image seen n ≡ f.object ∷ []
through-one image seen n f e = ap (λ (o : Option Found). through o (λ (g : Found). g.object ∷ [])) e

-- each of some namings is plain
abbrev ArePlain : List ℕ → Seen → List Naming → Type 0
ArePlain image seen ns = (n : Naming) → In n ns → IsPlainNaming image seen n

objects-long : (image : List ℕ) (seen : Seen) (ns : List Naming) → ArePlain image seen ns → length (flat_map (objects_through image seen) ns) ≡ length ns
objects-long image seen [] plain = refl
objects-long image seen (n ∷ ns) plain =
    let p = plain n (inl refl) in
    let more : length (flat_map (objects_through image seen) ns) ≡ length ns = objects-long image seen ns (λ m h. plain m (inr h)) in
    ap (λ (xs : List Object). length (xs ++ flat_map (objects_through image seen) ns)) (through-one image seen n p.object p.found) ∙ ap suc more

object-of : (image : List ℕ) (seen : Seen) (n : Naming) (p : IsPlainNaming image seen n) (x : Object) → In x (objects_through image seen n) → p.object.object ≡ x
object-of image seen n p x h = elim (subst (λ (xs : List Object). In x xs) (through-one image seen n p.object p.found) h) as (λ _. p.object.object ≡ x) [ inl e ↦ sym e | inr k ↦ absurd k ]

objects-apart : (image : List ℕ) (seen : Seen) (ns : List Naming) → ArePlain image seen ns → ((m n : Naming) (x : Object) → In m ns → In n ns → In x (objects_through image seen m) → In x (objects_through image seen n) → m ≡ n) → Apart ns → Apart (flat_map (objects_through image seen) ns)
objects-apart image seen [] plain one apart = tt
objects-apart image seen (n ∷ ns) plain one apart =
    let p = plain n (inl refl) in
    let t = objects_through image seen in
    let here : Apart (t n) = subst (λ (xs : List Object). Apart xs) (sym (through-one image seen n p.object p.found)) ((λ h. h), tt) in
    apart-append (t n) (flat_map t ns) here (objects-apart image seen ns (λ m h. plain m (inr h)) (λ m k x h i. one m k x (inr h) (inr i)) apart.1) (λ x h i.
    let u = from-flat_map t x ns i in
    apart.0 (subst (λ (m : Naming). In m ns) (sym (one n u.0 x (inl refl) (inr u.1.0) h u.1.1)) u.1.0))

-- the records that views use
same-used : (u v : Used) → record_used u ≡ record_used v → u ≡ v
same-used u v e =
    let a : u.map ≡ v.map = ap (λ (r : ℕ × OmapRecord). r.0) e in
    let b : u.mapping ≡ v.mapping = ap (λ (r : ℕ × OmapRecord). r.1) e in
    let same : used_in u.map u.mapping ≡ used_in v.map v.mapping = ap (λ k. used_in k u.mapping) a ∙ ap (used_in v.map) b in
    same

records-apart : (used : List Used) → Apart used → Apart (map record_object (records_used used))
records-apart used apart = apart_map record_object same-record (records_used used) (apart_map record_used same-used used apart)

-- the newest superblock, the objects of these, and the records
joined-apart : (image : List ℕ) (seen : Seen) (whole : Whole) (rest first : List Naming) (used : List Used) (start parts : Held) (a : IsAddedOnce image seen whole rest start parts) → AreReached image seen first used → HaveSame (all_views image seen) first → Apart (joined_objects image seen a.added.these (records_used used))
joined-apart image seen whole rest first used start parts a r f =
    let these : List Naming = a.added.these in
    let t = objects_through image seen in
    let plain : ArePlain image seen these = a.added.part.plain in
    let outside : (n : Naming) (x : Object) → In n these → In x (t n) → IsOutside image seen n x = λ n x h i.
    let p = plain n h in
    subst (IsOutside image seen n) (object-of image seen n p x i) (outside-of image seen whole rest start parts a n p.object h p.found) in
    let objects : List Object = flat_map t these in
    let records : List Object = map record_object (records_used used) in
    let objects_are : Apart objects = objects-apart image seen these plain (λ m n x h k i j. one-object image seen whole a.apart m n x (outside m x h i) (outside n x k j)) (these-apart image seen whole rest start parts a) in
    let parted : (x : Object) → In x objects → In x records → ⊥ = λ x h k.
    let n = from-flat_map t x these h in
    let q = from-map record_object (records_used used) x k in
    let u = from-map record_used used q.0 q.1.0 in
    let w = r.only u.0 u.1.0 in
    let v = view-live image seen w.naming (live-among (next image seen) first (all_views image seen) w.naming f.back w.live) in
    let is : x ≡ OfRecord (u.0).map (u.0).mapping = q.1.1 ∙ ap record_object u.1.1 in
    views-apart image seen whole a.apart n.0 w.naming v.view (u.0).map (u.0).mapping w.is.object
    (subst (IsOutside image seen n.0) is (outside n.0 x n.1.0 n.1.1))
    (a.added.part.rest_live w.naming (live-among (next image seen) (all_views image seen) rest w.naming a.rest_is.there (live-among (next image seen) first (all_views image seen) w.naming f.back w.live)))
    v.how_is w.is.found w.is.record_is in
    let newest : In Newest (objects ++ records) → ⊥ = λ h. elim (in-append Newest objects records h) as (λ _. ⊥) [
      | inl k ↦
          let n = from-flat_map t Newest these k in
          let o = outside n.0 Newest n.1.0 n.1.1 in
          isnt-newest image seen n.0 o.object o.found o.object_is
      | inr k ↦
          let q = from-map record_object (records_used used) Newest k in
          let z : Newest ≡ OfRecord q.0.0 q.0.1 = q.1.1 in
          let w : ⊥ = cc in
          w
    ] in
    (newest, apart-append objects records objects_are (records-apart used r.apart) parted)

joined-long : (image : List ℕ) (seen : Seen) (ns : List Naming) (used : List Used) → ArePlain image seen ns → length (joined_objects image seen ns (records_used used)) ≡ suc (length ns + length used)
joined-long image seen ns used plain =
    let objects : List Object = flat_map (objects_through image seen) ns in
    let records : List Object = map record_object (records_used used) in
    let both : length (objects ++ records) ≡ length objects + length records = length-append objects records in
    let left : length objects ≡ length ns = objects-long image seen ns plain in
    let right : length records ≡ length (records_used used) = length-map (records_used used) record_object in
    let those : length (records_used used) ≡ length used = length-map used record_used in
    let all : length (objects ++ records) ≡ length ns + length used = omega arith in
    ap suc all

joined-more : (image : List ℕ) (seen : Seen) (ns ms : List Naming) (records : List (ℕ × OmapRecord)) → ((n : Naming) → In n ns → In n ms) → (x : Object) → In x (joined_objects image seen ns records) → In x (joined_objects image seen ms records)
joined-more image seen ns ms records into x (inl e) = inl e
joined-more image seen ns ms records into x (inr h) =
    let t = objects_through image seen in
    elim (in-append x (flat_map t ns) (map record_object records) h) as (λ _. In x (joined_objects image seen ms records)) [
      | inl k ↦ let n = from-flat_map t x ns k in inr (in-left x (flat_map t ms) (map record_object records) (in-flat_map t n.0 x ms (into n.0 n.1.0) n.1.1))
      | inr k ↦ inr (in-right x (flat_map t ms) (map record_object records) k)
    ]

-- the namings and the records of views, with the newest superblock, are no more than the objects that are counted
pub named-bound : (image : List ℕ) (seen : Seen) (whole : Whole) (rest first : List Naming) (used : List Used) (those : List (ℕ × OmapRecord)) (start parts : Held) (number : ℕ) (a : IsAddedOnce image seen whole rest start parts) → IsStart seen start → AreReached image seen first used → HaveSame (all_views image seen) first
    → AreRecordsWith image seen parts.namings (records_used used) those → IsNumberOf (IsObjectOf parts.namings those) number → given (suc (length a.added.these + length used)) ≤ number
named-bound image seen whole rest first used those start parts number a s r f recs n =
    let these : List Naming = a.added.these in
    let all : List Naming = parts.namings in
    let same : HaveSame these all = held-same image seen these start parts s a.added.grew in
    let once = objects-once image seen all all (records_used used) those (record { there = λ m h. h; back = λ m h. h }) (λ m h. a.added.outside m (same.back m h)) (λ m h. let p = a.added.part.plain m (same.back m h) in (p.object, p.found)) recs number n in
    let few : length (joined_objects image seen these (records_used used)) ≤ length n.all =
    apart-length (joined_objects image seen these (records_used used)) n.all (joined-apart image seen whole rest first used start parts a r f) (λ x h. once.all x (joined-more image seen these all (records_used used) same.there x h)) in
    let long : length (joined_objects image seen these (records_used used)) ≡ suc (length these + length used) = joined-long image seen these used a.added.part.plain in
    let is : number ≡ given (length n.all) = n.same in
    omega arith
