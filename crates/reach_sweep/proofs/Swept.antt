-- The views of the volumes as they are swept: what they name, and how each of them is told.
use Rattle.std.proofs.Common.{◌≡◌, ℕ, zero, suc, ◌+◌, ◌<◌, ◌==◌, Bool, List, [], ◌∷◌, ◌++◌, map, Option, Some, None, inl, inr, refl, ap, sym, ◌∙◌, subst, if◌then◌else◌, arith}
use Rattle.std.specs.Prelude.{slice_get, length, option_map, ◌*◌, true, false}
use Rattle.std.specs.List.{flat_map, range_with_len}
use Rattle.std.proofs.lemmas.List.{map-append}
use Rattle.std.proofs.lemmas.List.Concat.{flat_map-append}
use Rattle.std.proofs.lemmas.Option.{slice_get_within, slice_get-map}
use Rattle.apfs_model.specs.Apart.{Apart}
use Rattle.apfs_model.specs.Lists.{In, through}
use Rattle.apfs_model.proofs.Finite.{apart-range}
use Rattle.apfs_model.proofs.Searches.{in-append, in-map, get-in, in-get, from-map, from-flat_map}
use Rattle.apfs_model.proofs.Greatest.{some-value}
use Rattle.fs_name.specs.Normal.{are_hashed}
use Rattle.nx_block.specs.Super.{fs_oid_of, slots}
use Rattle.nx_ring.specs.Checkpoint.{Seen, site_of}
use Rattle.vol_view.specs.Volumes.{Loaded, map_or_empty, loaded_of}
use Rattle.vol_view.specs.LoadStops.{IsLoadable, IsVolumeOf}
use Rattle.vol_view.specs.declared.head.VolHead.{VolHead}
use Rattle.vol_view.specs.declared.volume.Snapshot.{Snapshot}
use Rattle.reach_rules.specs.declared.naming.LookUp.TheVariants.{InContainer, InView}
use Rattle.reach_rules.specs.declared.naming.Object.TheVariants.{Newest, InBlock}
use Rattle.reach_rules.specs.declared.naming.Namer.{Namer}
use Rattle.reach_rules.specs.declared.naming.Namer.TheVariants.{Whole}
use Rattle.reach_rules.specs.declared.naming.TreeKind.TheVariants.{Files}
use Rattle.reach_rules.specs.declared.naming.Expected.TheVariants.{VolumeIn, TreeRoot}
use Rattle.reach_rules.specs.declared.naming.Naming.{Naming}
use Rattle.reach_rules.specs.Naming.{naming}
use Rattle.reach_rules.specs.Next.{slot_namings}
use Rattle.reach_gather.specs.Joined.{HaveSame}
use Rattle.reach_gather.specs.Container.{all_views}
use Rattle.reach_gather.specs.Volumes.Told.{head_naming, map_of, live_at, past_at, told_view}
use Rattle.reach_gather.specs.Volumes.Laws.{HasParts}
use Rattle.reach_gather.proofs.VolumeLemmas.Tellings.{map-is}
use Rattle.reach_gather.proofs.VolumeLemmas.Law.{same-slot}
use Rattle.reach_gather.proofs.Finishes.{apart-append}
use Rattle.view_sweep.specs.declared.wanted.SweptView.{SweptView}
use Rattle.view_sweep.specs.declared.wanted.Head.{Head}
use Rattle.view_sweep.specs.Wanted.{view_at, head_wants, heads_want, naming_of, AreToldHeads, AreBelowHeads}
use Rattle.view_sweep.specs.Found.{records_at}
use Rattle.view_sweep.specs.Named.{head_namings, AreOfImage}
use Rattle.reach_gather.specs.Views.{pasts_namings, volume_views}
use Rattle.reach_sweep.specs.Views.{head_of, slot_of, slots_of, AreVolumes, volumes_views, swept_view, live_head, past_head, past_heads, volume_heads, heads_from, swept_heads, found_namer, past_namer, view_namer, supers_of, ViewsAre}
use Rattle.reach_sweep.proofs.Views.{slot-expected, views-loaded}

-- ---- what the head of a view names
abbrev told_by : (SweptView → Namer) → Head → List Naming
told_by supers h = told_view (supers h.view) (view_at h.view) h.root_oid h.meta_ext

map-unless : {X Y : Type 0} (f : X → Y) (b : Bool) (x : X) → map f (if b then [] else x ∷ []) ≡ (if b then [] else f x ∷ [])
map-unless f true x = refl
map-unless f false x = refl

head-told : (supers : SweptView → Namer) (h : Head) → map (naming_of supers) (head_wants h) ≡ told_by supers h
head-told supers h =
    let root : Naming = naming (supers h.view) 136 (TreeRoot (Files h.view.hashed)) (InView (view_at h.view)) h.root_oid in
    ap (λ ns. root ∷ ns) (map-unless (naming_of supers) (h.meta_ext == 0) _)

heads-told : (supers : SweptView → Namer) (hs : List Head) → head_namings supers hs ≡ flat_map (told_by supers) hs
heads-told supers [] = refl
heads-told supers (h ∷ hs) =
    map-append (naming_of supers) (head_wants h) (heads_want hs)
    ∙ (ap (λ ns. ns ++ map (naming_of supers) (heads_want hs)) (head-told supers h)
    ∙ ap (λ ns. told_by supers h ++ ns) (heads-told supers hs))

-- ---- lists from a place on
-- a list stands in another from a place on
abbrev StandsAt : {X : Type 0} → List X → ℕ → List X → Type 0
StandsAt {X} all k xs = (j : ℕ) (x : X) → slice_get xs j ≡ Some x → slice_get all (k + j) ≡ Some x

stands-here : {X : Type 0} (all : List X) (k : ℕ) (x : X) (xs : List X) → StandsAt all k (x ∷ xs) → slice_get all k ≡ Some x
stands-here all k x xs s = let e : k + 0 ≡ k = omega arith in subst (λ i. slice_get all i ≡ Some x) e (s 0 x refl)

stands-next : {X : Type 0} (all : List X) (k : ℕ) (x : X) (xs : List X) → StandsAt all k (x ∷ xs) → StandsAt all (suc k) xs
stands-next all k x xs s = λ j y h. let e : k + suc j ≡ suc k + j = omega arith in subst (λ i. slice_get all i ≡ Some y) e (s (suc j) y h)

stands-first : {X : Type 0} (all : List X) → StandsAt all 0 all
stands-first all = λ j x h. let e : j ≡ 0 + j = omega arith in subst (λ i. slice_get all i ≡ Some x) e h

-- ---- what the views of volumes name
pasts-told : (namer : Loaded → Namer) (volumes : List Loaded) (i : ℕ) (volume : Loaded) (k : ℕ) (ss : List Snapshot) → slice_get volumes i ≡ Some volume → StandsAt volume.snaps k ss →
    flat_map (told_by (supers_of namer volumes)) (past_heads i volume k ss) ≡ pasts_namings volume.head.slot (map_of volume) (are_hashed volume.names) k ss
pasts-told namer volumes i volume k [] e at = refl
pasts-told namer volumes i volume k (s ∷ ss) e at =
    let supers : SweptView → Namer = supers_of namer volumes in
    let view = past_at volume.head.slot (map_of volume) (are_hashed volume.names) k s in
    let by : view_namer namer (slice_get volumes i) (suc k) ≡ Whole (InBlock s.super_block) =
    ap (λ (o : Option Loaded). view_namer namer o (suc k)) e ∙ ap past_namer (stands-here volume.snaps k s ss at) in
    ap (λ x. told_view x view s.root_oid s.meta_ext ++ flat_map (told_by supers) (past_heads i volume (suc k) ss)) by
    ∙ ap (λ ns. told_view (Whole (InBlock s.super_block)) view s.root_oid s.meta_ext ++ ns) (pasts-told namer volumes i volume (suc k) ss e (stands-next volume.snaps k s ss at))

volume-told : (seen : Seen) (namer : Loaded → Namer) (volumes : List Loaded) (i : ℕ) (volume : Loaded) → slice_get volumes i ≡ Some volume →
    flat_map (told_by (supers_of namer volumes)) (volume_heads seen i volume) ≡ volume_views seen (namer volume) volume
volume-told seen namer volumes i volume e =
    let supers : SweptView → Namer = supers_of namer volumes in
    let view = live_at seen volume.head.slot (map_of volume) (are_hashed volume.names) in
    let by : view_namer namer (slice_get volumes i) 0 ≡ namer volume = ap (λ (o : Option Loaded). view_namer namer o 0) e in
    ap (λ x. told_view x view volume.root_oid volume.meta_ext ++ flat_map (told_by supers) (past_heads i volume 0 volume.snaps)) by
    ∙ ap (λ ns. told_view (namer volume) view volume.root_oid volume.meta_ext ++ ns) (pasts-told namer volumes i volume 0 volume.snaps e (stands-first volume.snaps))

volumes-told : (seen : Seen) (namer : Loaded → Namer) (volumes : List Loaded) (i : ℕ) (vs : List Loaded) → StandsAt volumes i vs →
    flat_map (told_by (supers_of namer volumes)) (heads_from seen i vs) ≡ volumes_views seen namer vs
volumes-told seen namer volumes i [] at = refl
volumes-told seen namer volumes i (v ∷ vs) at =
    let told : Head → List Naming = told_by (supers_of namer volumes) in
    flat_map-append told (volume_heads seen i v) (heads_from seen (suc i) vs)
    ∙ (ap (λ ns. ns ++ flat_map told (heads_from seen (suc i) vs)) (volume-told seen namer volumes i v (stands-here volumes i v vs at))
    ∙ ap (λ ns. volume_views seen (namer v) v ++ ns) (volumes-told seen namer volumes (suc i) vs (stands-next volumes i v vs at)))

swept-same : (seen : Seen) (namer : Loaded → Namer) (volumes : List Loaded) → volumes_views seen namer volumes ≡ head_namings (supers_of namer volumes) (swept_heads seen volumes)
swept-same seen namer volumes = sym (heads-told (supers_of namer volumes) (swept_heads seen volumes) ∙ volumes-told seen namer volumes 0 volumes (stands-first volumes))

-- ---- which views are swept
abbrev past_swept : ℕ → Loaded → ℕ → Option Snapshot → SweptView
past_swept i volume k None = swept_view (record { slot = 0; place = 0; xid = 0; map = 0; hashed = are_hashed volume.names }) i
past_swept i volume k (Some s) = swept_view (past_at volume.head.slot (map_of volume) (are_hashed volume.names) k s) i

-- the view of volume i at a place
abbrev swept_at : Seen → ℕ → Loaded → ℕ → SweptView
swept_at seen i volume zero = swept_view (live_at seen volume.head.slot (map_of volume) (are_hashed volume.names)) i
swept_at seen i volume (suc k) = past_swept i volume k (slice_get volume.snaps k)

-- a view is that of a volume, at its place
record IsSweptOf (seen : Seen) (volumes : List Loaded) (v : SweptView) : Type 0 where
  i : ℕ
  volume : Loaded
  at : slice_get volumes i ≡ Some volume
  volume_is : v.volume ≡ i
  slot_is : v.slot ≡ volume.head.slot
  map_is : v.map ≡ map_of volume
  view_is : v ≡ swept_at seen i volume v.place

past-swept : (seen : Seen) (volumes : List Loaded) (i : ℕ) (volume : Loaded) (k : ℕ) (ss : List Snapshot) → slice_get volumes i ≡ Some volume → StandsAt volume.snaps k ss → (h : Head) → In h (past_heads i volume k ss) → IsSweptOf seen volumes h.view
past-swept seen volumes i volume k [] e at h z = absurd z
past-swept seen volumes i volume k (s ∷ ss) e at h (inl same) =
    let v : SweptView = (past_head i volume k s).view in
    let is : IsSweptOf seen volumes v = record {
      i = i;
      volume = volume;
      at = e;
      volume_is = refl;
      slot_is = refl;
      map_is = refl;
      view_is = ap (past_swept i volume k) (sym (stands-here volume.snaps k s ss at));
    } in
    subst (λ (x : Head). IsSweptOf seen volumes x.view) (sym same) is
past-swept seen volumes i volume k (s ∷ ss) e at h (inr m) = past-swept seen volumes i volume (suc k) ss e (stands-next volume.snaps k s ss at) h m

volume-swept : (seen : Seen) (volumes : List Loaded) (i : ℕ) (volume : Loaded) → slice_get volumes i ≡ Some volume → (h : Head) → In h (volume_heads seen i volume) → IsSweptOf seen volumes h.view
volume-swept seen volumes i volume e h (inl same) =
    let is : IsSweptOf seen volumes (live_head seen i volume).view = record { i = i; volume = volume; at = e; volume_is = refl; slot_is = refl; map_is = refl; view_is = refl } in
    subst (λ (x : Head). IsSweptOf seen volumes x.view) (sym same) is
volume-swept seen volumes i volume e h (inr m) = past-swept seen volumes i volume 0 volume.snaps e (stands-first volume.snaps) h m

heads-swept : (seen : Seen) (volumes : List Loaded) (i : ℕ) (vs : List Loaded) → StandsAt volumes i vs → (h : Head) → In h (heads_from seen i vs) → IsSweptOf seen volumes h.view
heads-swept seen volumes i [] at h z = absurd z
heads-swept seen volumes i (v ∷ vs) at h m = elim (in-append h (volume_heads seen i v) (heads_from seen (suc i) vs) m) as (λ _. IsSweptOf seen volumes h.view) [
  | inl k ↦ volume-swept seen volumes i v (stands-here volumes i v vs at) h k
  | inr k ↦ heads-swept seen volumes (suc i) vs (stands-next volumes i v vs at) h k
]

all-swept : (seen : Seen) (volumes : List Loaded) (h : Head) → In h (swept_heads seen volumes) → IsSweptOf seen volumes h.view
all-swept seen volumes h m = heads-swept seen volumes 0 volumes (stands-first volumes) h m

-- ---- no two volumes are of one slot
slot-apart : (nx : List ℕ) (slot : ℕ) → Apart (slot_namings nx slot)
slot-apart nx slot = elim (fs_oid_of nx slot == 0) as (λ b. Apart (if b then [] else naming (Whole Newest) (184 + 8 * slot) (VolumeIn slot) InContainer (fs_oid_of nx slot) ∷ [])) [ true ↦ tt | false ↦ ((λ h. h), tt) ]

pub slots-apart : (nx : List ℕ) (xs : List ℕ) → Apart xs → Apart (flat_map (slot_namings nx) xs)
slots-apart nx [] a = tt
slots-apart nx (x ∷ xs) a = apart-append (slot_namings nx x) (flat_map (slot_namings nx) xs) (slot-apart nx x) (slots-apart nx xs a.1) (λ m h k.
    let t = from-flat_map (slot_namings nx) m xs k in
    let same : t.0 ≡ x = same-slot t.0 x (sym (slot-expected nx t.0 m t.1.1) ∙ slot-expected nx x m h) in
    a.0 (subst (λ y. In y xs) same t.1.0))

-- the naming of a slot is the only one
slot-one : (nx : List ℕ) (slot : ℕ) (m n : Naming) → In m (slot_namings nx slot) → In n (slot_namings nx slot) → m ≡ n
slot-one nx slot m n h k =
    let p : Naming = naming (Whole Newest) (184 + 8 * slot) (VolumeIn slot) InContainer (fs_oid_of nx slot) in
    let go : (b : Bool) → In m (if b then [] else p ∷ []) → In n (if b then [] else p ∷ []) → m ≡ n = λ b. elim b as (λ b. In m (if b then [] else p ∷ []) → In n (if b then [] else p ∷ []) → m ≡ n) [
      | true ↦ λ a b. absurd a
      | false ↦ λ a b. elim a as (λ _. m ≡ n) [ inl e ↦ elim b as (λ _. m ≡ n) [ inl f ↦ e ∙ sym f | inr z ↦ absurd z ] | inr z ↦ absurd z ]
    ] in
    go (fs_oid_of nx slot == 0) h k

-- in a list without repeats one thing has one place
apart-place : {X : Type 0} (xs : List X) → Apart xs → (i j : ℕ) (x : X) → slice_get xs i ≡ Some x → slice_get xs j ≡ Some x → i ≡ j
apart-place {X} [] a i j x e f = absurd (let z : ◌≡◌ {A = Option X} None (Some x) = e in let q : ⊥ = cc in q)
apart-place (y ∷ ys) a zero zero x e f = refl
apart-place (y ∷ ys) a zero (suc j) x e f = absurd (let z : Some y ≡ Some x = e in let s : x ≡ y = cc in a.0 (subst (λ w. In w ys) s (get-in ys j x f)))
apart-place (y ∷ ys) a (suc i) zero x e f = absurd (let z : Some y ≡ Some x = f in let s : x ≡ y = cc in a.0 (subst (λ w. In w ys) s (get-in ys i x e)))
apart-place (y ∷ ys) a (suc i) (suc j) x e f = ap suc (apart-place ys a.1 i j x e f)

-- the naming of a volume's superblock
abbrev volume_naming : Loaded → Naming
volume_naming volume = head_naming volume.head

maps-one : (f : Loaded → VolHead) (g : VolHead → Naming) (vs : List Loaded) → map g (map f vs) ≡ map (λ v. g (f v)) vs
maps-one f g [] = refl
maps-one f g (v ∷ vs) = ap (λ ns. g (f v) ∷ ns) (maps-one f g vs)

slot-places : (image : List ℕ) (seen : Seen) (heads : List VolHead) (volumes : List Loaded) → HasParts image seen heads → heads ≡ map head_of volumes → (i j : ℕ) (v w : Loaded) → slice_get volumes i ≡ Some v → slice_get volumes j ≡ Some w → v.head.slot ≡ w.head.slot → i ≡ j
slot-places image seen heads volumes p e i j v w a b same =
    let nx : List ℕ = seen.nx in
    let ns : List Naming = map volume_naming volumes in
    let slots_are : flat_map (slot_namings nx) (range_with_len 0 slots) ≡ ns = p.slots_are ∙ (ap (map head_naming) e ∙ maps-one head_of head_naming volumes) in
    let apart : Apart ns = subst (λ (xs : List Naming). Apart xs) slots_are (slots-apart nx (range_with_len 0 slots) (apart-range 0 slots)) in
    let placed : (u : Loaded) → In u volumes → In (volume_naming u) (slot_namings nx u.head.slot) = λ u h.
    let t = from-flat_map (slot_namings nx) (volume_naming u) (range_with_len 0 slots) (subst (λ (xs : List Naming). In (volume_naming u) xs) (sym slots_are) (in-map volume_naming volumes u h)) in
    subst (λ s. In (volume_naming u) (slot_namings nx s)) (same-slot t.0 u.head.slot (sym (slot-expected nx t.0 (volume_naming u) t.1.1))) t.1.1 in
    let one : volume_naming v ≡ volume_naming w =
    slot-one nx w.head.slot (volume_naming v) (volume_naming w) (subst (λ s. In (volume_naming v) (slot_namings nx s)) same (placed v (get-in volumes i v a))) (placed w (get-in volumes j w b)) in
    let at : (k : ℕ) (u : Loaded) → slice_get volumes k ≡ Some u → slice_get ns k ≡ Some (volume_naming u) = λ k u h. slice_get-map volume_naming volumes k ∙ ap (option_map volume_naming) h in
    apart-place ns apart i j (volume_naming w) (at i v a ∙ ap Some one) (at j w b)

-- so each view is told by its slot and its place
told-by : (seen : Seen) (volumes : List Loaded) → ((i j : ℕ) (v w : Loaded) → slice_get volumes i ≡ Some v → slice_get volumes j ≡ Some w → v.head.slot ≡ w.head.slot → i ≡ j) → AreToldHeads (swept_heads seen volumes)
told-by seen volumes places a b h k slot place =
    let s = all-swept seen volumes a h in
    let t = all-swept seen volumes b k in
    let i_is : s.i ≡ t.i = places s.i t.i s.volume t.volume s.at t.at (sym s.slot_is ∙ (slot ∙ t.slot_is)) in
    let volume_is : s.volume ≡ t.volume = some-value s.volume t.volume (sym s.at ∙ (ap (slice_get volumes) i_is ∙ t.at)) in
    s.view_is
    ∙ (ap (λ i. swept_at seen i s.volume a.view.place) i_is
    ∙ (ap (λ x. swept_at seen t.i x a.view.place) volume_is
    ∙ (ap (swept_at seen t.i t.volume) place
    ∙ sym t.view_is)))

told-heads : (image : List ℕ) (seen : Seen) (heads : List VolHead) (volumes : List Loaded) (namer : Loaded → Namer) → HasParts image seen heads → AreVolumes image seen heads volumes namer → AreToldHeads (swept_heads seen volumes)
told-heads image seen heads volumes namer p v = told-by seen volumes (slot-places image seen heads volumes p v.heads_are)

-- it suffices that the slots are apart
pub told-apart : (seen : Seen) (volumes : List Loaded) → Apart (slots_of volumes) → AreToldHeads (swept_heads seen volumes)
told-apart seen volumes apart =
    let at : (k : ℕ) (u : Loaded) → slice_get volumes k ≡ Some u → slice_get (slots_of volumes) k ≡ Some u.head.slot = λ k u h. slice_get-map slot_of volumes k ∙ ap (option_map slot_of) h in
    told-by seen volumes (λ i j v w e f same. apart-place (slots_of volumes) apart i j w.head.slot (at i v e ∙ ap Some same) (at j w f))

places-apart : {X Y : Type 0} (f : X → Y) (xs : List X) → ((i j : ℕ) (v w : X) → slice_get xs i ≡ Some v → slice_get xs j ≡ Some w → f v ≡ f w → i ≡ j) → Apart (map f xs)
places-apart f [] p = tt
places-apart f (x ∷ xs) p = (
  (λ h.
      let t = from-map f xs (f x) h in
      let g = in-get xs t.0 t.1.0 in
      let z : 0 ≡ suc g.0 = p 0 (suc g.0) x t.0 refl g.1 t.1.1 in
      absurd (omega arith)),
  places-apart f xs (λ i j v w a b e. let z : suc i ≡ suc j = p (suc i) (suc j) v w a b e in omega arith),
)

-- the slots of the volumes of a container are apart
pub slots-are-apart : (image : List ℕ) (seen : Seen) (heads : List VolHead) (volumes : List Loaded) (namer : Loaded → Namer) → HasParts image seen heads → AreVolumes image seen heads volumes namer → Apart (slots_of volumes)
slots-are-apart image seen heads volumes namer p v = places-apart slot_of volumes (slot-places image seen heads volumes p v.heads_are)

pub below-heads : (seen : Seen) (volumes : List Loaded) → AreBelowHeads (length volumes) (swept_heads seen volumes)
below-heads seen volumes h k = let s = all-swept seen volumes h k in subst (λ i. i < length volumes) (sym s.volume_is) (slice_get_within volumes s.i s.volume s.at)

-- ---- the maps of views
loaded-map : (image : List ℕ) (seen : Seen) (head : VolHead) → IsLoadable image (site_of seen) head → (loaded_of image (site_of seen) head).omap.records ≡ (map_or_empty image (site_of seen) (map_of (loaded_of image (site_of seen) head))).records
unfolding loaded_of
loaded-map image seen head right =
    ap (λ b. (map_or_empty image (site_of seen) b).records) (sym (map-is image (site_of seen) head right.map))

volume-map : (image : List ℕ) (seen : Seen) (volume : Loaded) → IsVolumeOf image (site_of seen) volume.head volume → volume.omap.records ≡ (map_or_empty image (site_of seen) (map_of volume)).records
volume-map image seen volume of =
    ap (λ (v : Loaded). v.omap.records) of.same
    ∙ (loaded-map image seen volume.head of.right
    ∙ ap (λ (v : Loaded). (map_or_empty image (site_of seen) (map_of v)).records) (sym of.same))

of-image : (image : List ℕ) (seen : Seen) (heads : List VolHead) (volumes : List Loaded) (namer : Loaded → Namer) → AreVolumes image seen heads volumes namer → AreOfImage image seen (site_of seen) volumes (swept_heads seen volumes)
of-image image seen heads volumes namer v = record {
  site_is = refl;
  mapped = λ h k.
      let s = all-swept seen volumes h k in
      ap (records_at volumes) s.volume_is
      ∙ (ap (λ (o : Option Loaded). through o (λ (x : Loaded). x.omap.records)) s.at
      ∙ (volume-map image seen s.volume (v.loaded s.volume (get-in volumes s.i s.volume s.at))
      ∙ ap (λ b. (map_or_empty image (site_of seen) b).records) (sym s.map_is)));
}

pub views-are : (image : List ℕ) (seen : Seen) → ViewsAre image seen
views-are image seen = record {
  volumes = λ volumes loaded. record { heads_are = refl; loaded = loaded; named = λ volume r h e. ap (found_namer seen) e };
  loaded = λ heads volumes namer p v. views-loaded image seen heads volumes namer p v;
  swept = λ heads volumes namer p v. subst (λ (ns : List Naming). HaveSame (all_views image seen) ns) (swept-same seen namer volumes) (views-loaded image seen heads volumes namer p v);
  told = λ heads volumes namer p v. told-heads image seen heads volumes namer p v;
  below = λ volumes. below-heads seen volumes;
  of_image = λ heads volumes namer v. of-image image seen heads volumes namer v;
}
