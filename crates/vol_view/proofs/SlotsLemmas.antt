-- What the answer of a slot means.
use Rattle.std.specs.Prelude.{◌≡◌, ◌⊎◌, ℕ, ◌<◌, ◌+◌, ◌&&◌, ◌==◌, nat_lt, not, Bool, true, false, cond, List, [], ◌∷◌, ◌++◌, Option, None, Some, Result, Ok, Err, refl, is_ok, is_some, option_map, option_and_then, filter_map, option_to_list}
use Rattle.std.specs.List.{range_with_len, cons_option}
use Rattle.std.proofs.Common.{arith, ap, sym, ◌∙◌, subst, inl, inr}
use Rattle.std.proofs.lemmas.List.{map-id}
use Rattle.std.proofs.lemmas.List.Elements.{filter_map-append}
use Rattle.std.proofs.lemmas.List.FromFn.{map-range_with_len_more}
use Rattle.apfs_model.specs.Blocks.{in_container}
use Rattle.apfs_model.specs.Lists.{In, and_then}
use Rattle.obj_base.specs.Stops.{Tells, IsFree}
use Rattle.obj_base.specs.declared.header.Header.{Header}
use Rattle.obj_base.specs.declared.header.HeadFault.{HeadFault}
use Rattle.obj_base.specs.declared.stop.Bad.{Bad}
use Rattle.obj_base.specs.declared.stop.Bad.TheVariants as bads
use Rattle.obj_base.specs.declared.stop.Feature.{Feature}
use Rattle.obj_base.specs.declared.stop.Feature.TheVariants.{Encrypted, NoHeader, Size}
use Rattle.obj_base.specs.declared.stop.Stop.{Stop}
use Rattle.obj_base.specs.declared.stop.Stop.TheVariants.{Found, Unsupported, ReadFault, NoMemory}
use Rattle.obj_base.specs.declared.stop.Within.TheVariants.{Physical, Ephemeral, Container, Volume}
use Rattle.obj_base.specs.declared.site.Site.{Site}
use Rattle.nx_block.specs.Super.{omap_oid_of, fs_oid_of, slots}
use Rattle.nx_ring.specs.Checkpoint.{Seen, site_of}
use Rattle.omap_map.specs.Fields.{snap_count_of}
use Rattle.omap_map.specs.Records.{maps_encrypted, maps_headless}
use Rattle.omap_map.specs.Features.{container_features, snapshot_features, mapping_features}
use Rattle.omap_map.specs.Resolve.{resolve, place_of}
use Rattle.omap_map.specs.Maps.{Contents, map_in, map_snapshots, is_map_object, is_whole_map, IsMapFault, IsMapFeature}
use Rattle.omap_map.specs.Loading.{IsLoaded}
use Rattle.omap_map.proofs.Loads.{whole-object, object-inside, whole-free, resolved-loaded}
use Rattle.omap_map.specs.declared.records.Place.{Place}
use Rattle.omap_map.specs.declared.fault.OmapFault.{OmapFault}
use Rattle.vol_view.specs.Heads.{super_in, super_test, has_magic, is_super, volume_place, volume_block, head_of, head_for, head_at, heads_in}
use Rattle.vol_view.specs.Stops.{IsNamed, IsNamedIn, IsHeadsStop, IsHeadsFeature, IsPlainMap, IsVolume, AreRight}
use Rattle.vol_view.specs.Slots.{map_raised, plain_of, inside_of, placed_of, located, after_header, told_of, volume_at, slot_of, HasMap, IsMarked, IsRight}
use Rattle.vol_view.specs.declared.head.VolHead.{VolHead}
use Rattle.vol_view.specs.declared.stop.VolStop.{VolStop}
use Rattle.vol_view.specs.declared.stop.VolStop.TheVariants.{Head, Magic, Unnamed, Omap, Walk, SnapRecord, SnapCount, SnapName, OmapSnaps}

-- the place of a volume is what the records of a whole map resolve to
place-same : (image : List ℕ) (seen : Seen) (contents : Contents) (oid : ℕ) → HasMap image seen contents → volume_place image seen oid ≡ resolve contents.records oid seen.line.xid
unfolding volume_place resolve
place-same image seen contents oid has =
    sym (ap (option_map place_of) (resolved-loaded image (site_of seen) (omap_oid_of seen.nx) contents has.loaded oid seen.line.xid))

inside-same : (blocks n b : ℕ) → in_container blocks n ≡ Some b → n ≡ b
inside-same blocks n b e = inside-if (nat_lt 0 n && nat_lt n blocks) n b e
  where
    inside-if : (t : Bool) (n b : ℕ) → cond t (Some n) None ≡ Some b → n ≡ b
    inside-if true n b e = cc
    inside-if false n b e = absurd (cc)

-- a place that stops has the feature that it names, in its block
plain-cases : (block_size : ℕ) (place : Place) (e h s : Bool) → maps_encrypted place.flags ≡ e → maps_headless place.flags ≡ h → not (place.size == block_size) ≡ s
    → ((plain_of block_size place ≡ Ok place) × (mapping_features block_size place.flags place.size ≡ []))
    ⊎ ((feature : Feature) × ((plain_of block_size place ≡ Err (Unsupported feature place.block)) × In feature (mapping_features block_size place.flags place.size)))
plain-cases block_size place true h s f g k = inr (Encrypted, (rw f refl, rw f (inl refl)))
plain-cases block_size place false true s f g k = inr (NoHeader, (rw (f, g) refl, rw (f, g) (inl refl)))
plain-cases block_size place false false true f g k = inr (Size, (rw (f, g, k) refl, rw (f, g, k) (inl refl)))
plain-cases block_size place false false false f g k = inl (rw (f, g, k) refl, rw (f, g, k) refl)

value-same : (answer : Result (Option VolHead) (Stop VolStop)) (a b : Option VolHead) → answer ≡ Ok a → answer ≡ Ok b → a ≡ b
value-same answer a b e f = cc

stop-same : (answer : Result (Option VolHead) (Stop VolStop)) (a b : Stop VolStop) → answer ≡ Err a → answer ≡ Err b → a ≡ b
stop-same answer a b e f = cc

apart : (a : Option VolHead) (b : Stop VolStop) → Ok a ≡ Err b → ⊥
apart a b e = cc

and-first : (a b : Bool) → (a && b) ≡ true → a ≡ true
and-first true b e = refl
and-first false b e = e

and-second : (a b : Bool) → (a && b) ≡ true → b ≡ true
and-second true b e = e
and-second false b e = absurd (cc)

true-false : (b : Bool) → b ≡ true → b ≡ false → ⊥
true-false b e f = cc

-- why a slot stops is there
abbrev IsThere : List ℕ → Seen → Stop VolStop → Type 0
IsThere image seen stop = Tells (IsHeadsStop image seen) (IsHeadsFeature image seen) stop

-- the place of a volume was found
record IsLocated (image : List ℕ) (seen : Seen) (contents : Contents) (oid : ℕ) : Type 0 where
  place : Place
  found : located (site_of seen) contents.records oid ≡ Ok place
  named : IsNamedIn image seen oid place
  plain : mapping_features (site_of seen).block_size place.flags place.size ≡ []

-- or it wasn't, and why is there
record IsLost (image : List ℕ) (seen : Seen) (answer : Result Place (Stop VolStop)) : Type 0 where
  stop : Stop VolStop
  lost : answer ≡ Err stop
  there : IsThere image seen stop

plain-located : (image : List ℕ) (seen : Seen) (contents : Contents) (oid : ℕ) (place : Place) → IsNamedIn image seen oid place → located (site_of seen) contents.records oid ≡ plain_of (site_of seen).block_size place
    → IsLocated image seen contents oid ⊎ IsLost image seen (located (site_of seen) contents.records oid)
plain-located image seen contents oid place named e =
    elim (plain-cases (site_of seen).block_size place (maps_encrypted place.flags) (maps_headless place.flags) (not (place.size == (site_of seen).block_size)) refl refl refl) [
      | inl h ↦ inl (record { place = place; found = e ∙ h.0; named = named; plain = h.1 })
      | inr h ↦ inr (record { stop = Unsupported h.0 place.block; lost = e ∙ h.1.0; there = inr (inr (oid, place, named, refl, inl h.1.1)) })
    ]

inside-located : (image : List ℕ) (seen : Seen) (contents : Contents) (oid : ℕ) (place : Place) (o : Option ℕ) → IsNamed seen oid → volume_place image seen oid ≡ Some place → in_container (site_of seen).blocks place.block ≡ o
    → located (site_of seen) contents.records oid ≡ inside_of (site_of seen) oid place o → IsLocated image seen contents oid ⊎ IsLost image seen (located (site_of seen) contents.records oid)
inside-located image seen contents oid place None named at inside e = inr (record {
  stop = Found (Unnamed Container oid);
  lost = e;
  there = (named, ap (option_and_then (λ (p : Place). in_container (site_of seen).blocks p.block)) at ∙ inside);
})
inside-located image seen contents oid place (Some b) named at inside e =
    let same = inside-same (site_of seen).blocks place.block b inside in
    plain-located image seen contents oid place (record { named = named; at = at; inside = inside ∙ ap (λ n. Some n) (sym same) }) e

place-located : (image : List ℕ) (seen : Seen) (contents : Contents) (oid : ℕ) (o : Option Place) → IsNamed seen oid → volume_place image seen oid ≡ o → located (site_of seen) contents.records oid ≡ placed_of (site_of seen) oid o
    → IsLocated image seen contents oid ⊎ IsLost image seen (located (site_of seen) contents.records oid)
place-located image seen contents oid None named at e = inr (record {
  stop = Found (Unnamed Container oid);
  lost = e;
  there = (named, ap (option_and_then (λ (p : Place). in_container (site_of seen).blocks p.block)) at);
})
place-located image seen contents oid (Some place) named at e = inside-located image seen contents oid place (in_container (site_of seen).blocks place.block) named at refl e

located-or : (image : List ℕ) (seen : Seen) (contents : Contents) (oid : ℕ) → HasMap image seen contents → IsNamed seen oid → IsLocated image seen contents oid ⊎ IsLost image seen (located (site_of seen) contents.records oid)
unfolding site_of
located-or image seen contents oid has named =
    place-located image seen contents oid (volume_place image seen oid) named refl (ap (placed_of (site_of seen) oid) (sym (place-same image seen contents oid has)))

-- a slot was answered right
record IsAnswered (image : List ℕ) (seen : Seen) (slot oid : ℕ) (answer : Result (Option VolHead) (Stop VolStop)) : Type 0 where
  head : Option VolHead
  found : answer ≡ Ok head
  same : head ≡ head_for image seen slot oid
  right : (oid == 0) ≡ false → IsVolume image seen oid

-- or it stopped, and why is there
record IsStopped (image : List ℕ) (seen : Seen) (answer : Result (Option VolHead) (Stop VolStop)) : Type 0 where
  stop : Stop VolStop
  stopped : answer ≡ Err stop
  there : IsThere image seen stop

head-is : (image : List ℕ) (seen : Seen) (slot oid : ℕ) (place : Place) → IsNamedIn image seen oid place → Some (head_of slot oid place.block (super_in image (site_of seen) place.block)) ≡ head_for image seen slot oid
head-is image seen slot oid place named =
    let found : option_and_then (λ (p : Place). in_container (site_of seen).blocks p.block) (volume_place image seen oid) ≡ Some place.block = ap (option_and_then (λ (p : Place). in_container (site_of seen).blocks p.block)) named.at ∙ named.inside in
    sym (ap (λ (b : Bool). cond b None (option_map (λ block. head_of slot oid block (super_in image (site_of seen) block)) (volume_block image seen oid))) named.named.some
    ∙ ap (option_map (λ block. head_of slot oid block (super_in image (site_of seen) block))) found)

magic-answered : (image : List ℕ) (seen : Seen) (slot oid : ℕ) (place : Place) (answer : Result (Option VolHead) (Stop VolStop)) (b : Bool) → IsNamedIn image seen oid place → mapping_features (site_of seen).block_size place.flags place.size ≡ []
    → is_ok (super_test image (site_of seen) (Some oid) place.block) ≡ true → has_magic (super_in image (site_of seen) place.block) ≡ b
    → answer ≡ and_then (cond b (Ok (super_in image (site_of seen) place.block)) (Err (Found (Magic place.block)))) (told_of slot oid place.block) → IsAnswered image seen slot oid answer ⊎ IsStopped image seen answer
unfolding is_super
magic-answered image seen slot oid place answer true named plain sound magic e = inl (record {
  head = Some (head_of slot oid place.block (super_in image (site_of seen) place.block));
  found = e;
  same = head-is image seen slot oid place named;
  right = λ some. record { place = place; at = named.at; inside = named.inside; plain = plain; super = rw (sound, magic) refl };
})
magic-answered image seen slot oid place answer false named plain sound magic e = inr (record {
  stop = Found (Magic place.block);
  stopped = e;
  there = (oid, place, named, refl, sound, magic);
})

header-answered : (image : List ℕ) (seen : Seen) (slot oid : ℕ) (place : Place) (answer : Result (Option VolHead) (Stop VolStop)) (r : Result Header (Bad HeadFault)) → IsNamedIn image seen oid place → mapping_features (site_of seen).block_size place.flags place.size ≡ []
    → super_test image (site_of seen) (Some oid) place.block ≡ r → answer ≡ and_then (after_header place.block (super_in image (site_of seen) place.block) r) (told_of slot oid place.block) → IsAnswered image seen slot oid answer ⊎ IsStopped image seen answer
header-answered image seen slot oid place answer (Ok h) named plain test e =
    magic-answered image seen slot oid place answer (has_magic (super_in image (site_of seen) place.block)) named plain (ap is_ok test) refl e
header-answered image seen slot oid place answer (Err (bads.Found why)) named plain test e = inr (record {
  stop = Found (Head place.block why);
  stopped = e;
  there = (oid, place, named, refl, test);
})
header-answered image seen slot oid place answer (Err (bads.Unsupported feature)) named plain test e = inr (record {
  stop = Unsupported feature place.block;
  stopped = e;
  there = inr (inr (oid, place, named, refl, inr test));
})

volume-answered : (image : List ℕ) (seen : Seen) (contents : Contents) (slot oid : ℕ) (answer : Result (Option VolHead) (Stop VolStop)) → answer ≡ and_then (located (site_of seen) contents.records oid) (volume_at image (site_of seen) slot oid)
    → IsLocated image seen contents oid ⊎ IsLost image seen (located (site_of seen) contents.records oid) → IsAnswered image seen slot oid answer ⊎ IsStopped image seen answer
volume-answered image seen contents slot oid answer e (inl h) =
    header-answered image seen slot oid h.place answer (super_test image (site_of seen) (Some oid) h.place.block) h.named h.plain refl
    (e ∙ ap (λ r. and_then r (volume_at image (site_of seen) slot oid)) h.found)
volume-answered image seen contents slot oid answer e (inr h) = inr (record {
  stop = h.stop;
  stopped = e ∙ ap (λ r. and_then r (volume_at image (site_of seen) slot oid)) h.lost;
  there = h.there;
})

oid-answered : (image : List ℕ) (seen : Seen) (contents : Contents) (slot : ℕ) (b : Bool) → HasMap image seen contents → slot < slots → (fs_oid_of seen.nx slot == 0) ≡ b
    → IsAnswered image seen slot (fs_oid_of seen.nx slot) (slot_of image seen contents.records slot) ⊎ IsStopped image seen (slot_of image seen contents.records slot)
unfolding slot_of
oid-answered image seen contents slot true has low e = inl (record {
  head = None;
  found = ap (λ (b : Bool). cond b (Ok None) (and_then (located (site_of seen) contents.records (fs_oid_of seen.nx slot)) (volume_at image (site_of seen) slot (fs_oid_of seen.nx slot)))) e;
  same = sym (ap (λ (b : Bool). cond b None (option_map (λ block. head_of slot (fs_oid_of seen.nx slot) block (super_in image (site_of seen) block)) (volume_block image seen (fs_oid_of seen.nx slot)))) e);
  right = λ some. absurd (cc);
})
oid-answered image seen contents slot false has low e =
    volume-answered image seen contents slot (fs_oid_of seen.nx slot) (slot_of image seen contents.records slot)
    (ap (λ (b : Bool). cond b (Ok None) (and_then (located (site_of seen) contents.records (fs_oid_of seen.nx slot)) (volume_at image (site_of seen) slot (fs_oid_of seen.nx slot)))) e)
    (located-or image seen contents (fs_oid_of seen.nx slot) has (record { slot = slot; low = low; same = refl; some = e }))

answered-found : (image : List ℕ) (seen : Seen) (slot : ℕ) (answer : Result (Option VolHead) (Stop VolStop)) (head : Option VolHead) → answer ≡ Ok head → IsAnswered image seen slot (fs_oid_of seen.nx slot) answer ⊎ IsStopped image seen answer → (head ≡ head_at image seen slot) × IsRight image seen slot
unfolding head_at
answered-found image seen slot answer head e (inl h) = (value-same answer head h.head e h.found ∙ h.same, h.right)
answered-found image seen slot answer head e (inr h) = absurd (apart head h.stop (sym e ∙ h.stopped))

answered-stops : (image : List ℕ) (seen : Seen) (slot : ℕ) (answer : Result (Option VolHead) (Stop VolStop)) (stop : Stop VolStop) → answer ≡ Err stop → IsAnswered image seen slot (fs_oid_of seen.nx slot) answer ⊎ IsStopped image seen answer → IsThere image seen stop
answered-stops image seen slot answer stop e (inl h) = absurd (apart h.head stop (sym h.found ∙ e))
answered-stops image seen slot answer stop e (inr h) = subst (IsThere image seen) (stop-same answer h.stop stop h.stopped e) h.there

-- the volume of a slot is the one that is defined, and it is right
pub slot-found : (image : List ℕ) (seen : Seen) (contents : Contents) (slot : ℕ) (head : Option VolHead) → HasMap image seen contents → slot < slots → slot_of image seen contents.records slot ≡ Ok head → (head ≡ head_at image seen slot) × IsRight image seen slot
slot-found image seen contents slot head has low e = answered-found image seen slot (slot_of image seen contents.records slot) head e (oid-answered image seen contents slot (fs_oid_of seen.nx slot == 0) has low refl)

slot-stops : (image : List ℕ) (seen : Seen) (contents : Contents) (slot : ℕ) (stop : Stop VolStop) → HasMap image seen contents → slot < slots → slot_of image seen contents.records slot ≡ Err stop → IsThere image seen stop
slot-stops image seen contents slot stop has low e = answered-stops image seen slot (slot_of image seen contents.records slot) stop e (oid-answered image seen contents slot (fs_oid_of seen.nx slot == 0) has low refl)

-- why a slot stops is there, as its answer tells it
pub slot-tells : (image : List ℕ) (seen : Seen) (contents : Contents) (slot : ℕ) (stop : Stop VolStop) → HasMap image seen contents → slot < slots
    → Tells (λ f. slot_of image seen contents.records slot ≡ Err (Found f)) (λ name at. slot_of image seen contents.records slot ≡ Err (Unsupported name at)) stop → Tells (IsHeadsStop image seen) (IsHeadsFeature image seen) stop
slot-tells image seen contents slot (Found f) has low h = slot-stops image seen contents slot (Found f) has low h
slot-tells image seen contents slot (Unsupported name at) has low h = slot-stops image seen contents slot (Unsupported name at) has low h
slot-tells image seen contents slot ReadFault has low h = tt
slot-tells image seen contents slot NoMemory has low h = tt

-- why the container's map stops is there
pub raise_tells : (image : List ℕ) (seen : Seen) (stop : Stop OmapFault) → Tells (IsMapFault image (site_of seen) (omap_oid_of seen.nx)) (IsMapFeature image (site_of seen) (omap_oid_of seen.nx)) stop → Tells (IsHeadsStop image seen) (IsHeadsFeature image seen) (map_raised stop)
raise_tells image seen (Found f) h = h
raise_tells image seen (Unsupported name at) h = inl h
raise_tells image seen ReadFault h = tt
raise_tells image seen NoMemory h = tt

map-object : (image : List ℕ) (site : Site) (block : ℕ) (contents : Contents) → IsLoaded image site block contents → is_map_object image site block ≡ true
unfolding is_whole_map
map-object image site block contents loaded = and-first (is_map_object image site block) _ loaded.whole

-- a feature of the container's map is there
pub mark_tells : (image : List ℕ) (seen : Seen) (contents : Contents) (stop : Stop VolStop) → IsLoaded image (site_of seen) (omap_oid_of seen.nx) contents → Tells (λ fault. ⊥) (IsMarked contents (omap_oid_of seen.nx)) stop → Tells (IsHeadsStop image seen) (IsHeadsFeature image seen) stop
mark_tells image seen contents (Found f) loaded h = absurd h
mark_tells image seen contents (Unsupported name at) loaded h =
    let count : contents.snap_count ≡ snap_count_of (map_in image (site_of seen) (omap_oid_of seen.nx)) = ap (λ (c : Contents). c.snap_count) loaded.same in
    let snapshots : contents.snapshots ≡ map_snapshots image (site_of seen) (omap_oid_of seen.nx) = ap (λ (c : Contents). c.snapshots) loaded.same in
    inr (inl (
      h.0,
      (
        map-object image (site_of seen) (omap_oid_of seen.nx) contents loaded,
        (elim h.1 [
          | inl k ↦ inl (subst (λ n. In name (container_features n)) count k)
          | inr k ↦ inr (subst (λ ss. In name (snapshot_features ss)) snapshots k)
        ]),
      ),
    ))
mark_tells image seen contents ReadFault loaded h = tt
mark_tells image seen contents NoMemory loaded h = tt

-- a map that was loaded without a feature is plain
pub map-plain : (image : List ℕ) (seen : Seen) (contents : Contents) → HasMap image seen contents → IsPlainMap image seen
map-plain image seen contents has = record {
  whole = has.loaded.whole;
  settled = has.loaded.settled;
  plain = subst (λ n. container_features n ≡ []) (ap (λ (c : Contents). c.snap_count) has.loaded.same) has.plain;
  unmarked = subst (λ ss. snapshot_features ss ≡ []) (ap (λ (c : Contents). c.snapshots) has.loaded.same) has.unmarked;
}

one : {X Y : Type 0} (f : X → Option Y) (x : X) → filter_map f (x ∷ []) ≡ option_to_list (f x)
one f x = elim (f x) as (λ v. cons_option v [] ≡ option_to_list v) [ None ↦ refl | Some y ↦ refl ]

range-more : (n : ℕ) → range_with_len 0 (n + 1) ≡ range_with_len 0 n ++ n ∷ []
range-more n = sym (map-id (range_with_len 0 (n + 1))) ∙ (map-range_with_len_more (λ (i : ℕ). i) 0 n n (omega arith) ∙ ap (λ xs. xs ++ n ∷ []) (map-id (range_with_len 0 n)))

-- the volume of one more slot is the last
pub heads-more : (image : List ℕ) (seen : Seen) (n : ℕ) → heads_in image seen (n + 1) ≡ heads_in image seen n ++ option_to_list (head_at image seen n)
heads-more image seen n =
    ap (filter_map (head_at image seen)) (range-more n)
    ∙ (filter_map-append (head_at image seen) (range_with_len 0 n) (n ∷ []) ∙ ap (λ ys. heads_in image seen n ++ ys) (one (head_at image seen) n))

-- the volume that a slot names is right
named-volume : (image : List ℕ) (seen : Seen) (oid : ℕ) → AreRight image seen → IsNamed seen oid → IsVolume image seen oid
named-volume image seen oid right named =
    subst (IsVolume image seen) named.same (right.volumes named.slot named.low (ap (λ n. n == 0) named.same ∙ named.some))

place-one : (image : List ℕ) (seen : Seen) (oid : ℕ) (a b : Place) → volume_place image seen oid ≡ Some a → volume_place image seen oid ≡ Some b → a ≡ b
place-one image seen oid a b e f = cc

super-test : (image : List ℕ) (site : Site) (oid block : ℕ) → is_super image site (Some oid) block ≡ true → is_ok (super_test image site (Some oid) block) ≡ true
unfolding is_super
super-test image site oid block e = and-first (is_ok (super_test image site (Some oid) block)) (has_magic (super_in image site block)) e

super-magic : (image : List ℕ) (site : Site) (oid block : ℕ) → is_super image site (Some oid) block ≡ true → has_magic (super_in image site block) ≡ true
unfolding is_super
super-magic image site oid block e = and-second (is_ok (super_test image site (Some oid) block)) (has_magic (super_in image site block)) e

named-super : (image : List ℕ) (seen : Seen) (oid block : ℕ) (place : Place) → AreRight image seen → IsNamedIn image seen oid place → block ≡ place.block → is_super image (site_of seen) (Some oid) block ≡ true
named-super image seen oid block place right named e =
    let volume = named-volume image seen oid right named.named in
    let same : volume.place ≡ place = place-one image seen oid volume.place place volume.at named.at in
    subst (λ b. is_super image (site_of seen) (Some oid) b ≡ true) (ap (λ (p : Place). p.block) same ∙ sym e) volume.super

named-plain : (image : List ℕ) (seen : Seen) (oid : ℕ) (place : Place) → AreRight image seen → IsNamedIn image seen oid place → mapping_features (site_of seen).block_size place.flags place.size ≡ []
named-plain image seen oid place right named =
    let volume = named-volume image seen oid right named.named in
    subst (λ (p : Place). mapping_features (site_of seen).block_size p.flags p.size ≡ []) (place-one image seen oid volume.place place volume.at named.at) volume.plain

ok-err : {T E : Type 0} (r : Result T E) (e : E) → r ≡ Err e → is_ok r ≡ true → ⊥
ok-err (Ok x) e f g = cc
ok-err (Err d) e f g = cc

some-none : {T : Type 0} (o : Option T) → o ≡ None → is_some o ≡ true → ⊥
some-none None e f = cc
some-none (Some x) e f = cc

volume-blocked : (image : List ℕ) (seen : Seen) (oid : ℕ) → IsVolume image seen oid → is_some (volume_block image seen oid) ≡ true
volume-blocked image seen oid volume =
    ap (λ (o : Option ℕ). is_some o) (ap (option_and_then (λ (p : Place). in_container (site_of seen).blocks p.block)) volume.at ∙ volume.inside)

-- where nothing is there, nothing is named
pub right-free : (image : List ℕ) (seen : Seen) (stop : Stop VolStop) → AreRight image seen → Tells (IsHeadsStop image seen) (IsHeadsFeature image seen) stop → IsFree stop
right-free image seen (Found (Head block why)) right (oid, place, named, e, test) =
    ok-err (super_test image (site_of seen) (Some oid) block) (bads.Found why) test (super-test image (site_of seen) oid block (named-super image seen oid block place right named e))
right-free image seen (Found (Magic block)) right (oid, place, named, e, test, magic) = true-false (has_magic (super_in image (site_of seen) block)) (super-magic image (site_of seen) oid block (named-super image seen oid block place right named e)) magic
right-free image seen (Found (Unnamed Physical oid)) right (e, none) =
    some-none (in_container (site_of seen).blocks oid) none (subst (λ b. is_some (in_container (site_of seen).blocks b) ≡ true) (sym e) (object-inside image (site_of seen) (omap_oid_of seen.nx) (whole-object image (site_of seen) (omap_oid_of seen.nx) right.map.whole)))
right-free image seen (Found (Unnamed Container oid)) right (named, none) = some-none (volume_block image seen oid) none (volume-blocked image seen oid (named-volume image seen oid right named))
right-free image seen (Found (Unnamed Ephemeral oid)) right h = absurd h
right-free image seen (Found (Unnamed (Volume slot) oid)) right h = absurd h
right-free image seen (Found (Omap fault)) right h = whole-free image (site_of seen) (omap_oid_of seen.nx) (Found fault) right.map.whole right.map.settled h
right-free image seen (Found (Walk root why)) right h = absurd h
right-free image seen (Found (SnapRecord slot)) right h = absurd h
right-free image seen (Found (SnapCount slot)) right h = absurd h
right-free image seen (Found (SnapName slot)) right h = absurd h
right-free image seen (Found (OmapSnaps slot)) right h = absurd h
right-free image seen (Unsupported feature block) right (inl h) = whole-free image (site_of seen) (omap_oid_of seen.nx) (Unsupported feature block) right.map.whole right.map.settled h
right-free image seen (Unsupported feature block) right (inr (inl (e, (sound, inl h)))) = subst (λ fs. In feature fs) right.map.plain h
right-free image seen (Unsupported feature block) right (inr (inl (e, (sound, inr h)))) = subst (λ fs. In feature fs) right.map.unmarked h
right-free image seen (Unsupported feature block) right (inr (inr (oid, place, named, e, inl h))) = subst (λ fs. In feature fs) (named-plain image seen oid place right named) h
right-free image seen (Unsupported feature block) right (inr (inr (oid, place, named, e, inr test))) =
    ok-err (super_test image (site_of seen) (Some oid) block) (bads.Unsupported feature) test (super-test image (site_of seen) oid block (named-super image seen oid block place right named e))
right-free image seen ReadFault right h = tt
right-free image seen NoMemory right h = tt
