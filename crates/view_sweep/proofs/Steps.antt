-- A level taken.
use Rattle.std.proofs.Common.{◌≡◌, ℕ, true, false, List, [], map, Option, Some, Ok, Err, is_ok, ◌⊎◌, inl, inr, refl, ap, sym, ◌∙◌, subst}
use Rattle.std.specs.Prelude.{Contains}
use Rattle.std.specs.List.{flat_map}
use Rattle.std.specs.List.Sorted.{IsPermutation}
use Rattle.std.proofs.lemmas.List.Sorted.{IsPermutation-sym, Contains-permutation}
use Rattle.apfs_model.specs.Lists.{In}
use Rattle.apfs_model.proofs.Searches.{in-map, from-map, in-flat_map, from-flat_map}
use Rattle.obj_base.specs.declared.stop.Stop.{Stop}
use Rattle.obj_base.specs.declared.stop.Stop.TheVariants.{Found, Unsupported, ReadFault, NoMemory}
use Rattle.obj_base.specs.Stops.{Tells, NoFeature}
use Rattle.omap_map.specs.declared.records.OmapRecord.{OmapRecord}
use Rattle.reach_rules.specs.declared.fault.ReachFault.{ReachFault}
use Rattle.reach_rules.specs.declared.fault.ReachFault.TheVariants.{Unsound, Unnamed, NamedTwice}
use Rattle.reach_rules.specs.Tested.{Answer}
use Rattle.view_sweep.specs.declared.wanted.Wanted.{Wanted}
use Rattle.view_sweep.specs.declared.used.Used.{Used}
use Rattle.view_sweep.specs.declared.used.Hit.{Hit}
use Rattle.view_sweep.specs.declared.wanted.SweptView.{SweptView}
use Rattle.omap_map.specs.Features.{mapping_features}
use Rattle.view_sweep.specs.Found.{World, used_by, used_of, tested_as, is_sound, wants_of, wants_if, next_by, next_of}
use Rattle.view_sweep.specs.Sets.{of_view}
use Rattle.view_sweep.specs.Next.{AreAsOne}
use Rattle.view_sweep.specs.Here.{IsHere, TellsHere, Among, IsTwiceHere, IsBadHit, IsRefusedHit}
use Rattle.view_sweep.specs.Swept.{ArePlaced, AreSound, AreRead, IsOnce, IsClear, IsUsedBy, IsStep}
use Rattle.view_sweep.proofs.Ranked.{in-place, place-in}
use Rattle.view_sweep.proofs.Orders.{use-is}
use Rattle.view_sweep.proofs.Wholes.{IsByName}
use Rattle.view_sweep.proofs.Likes.{IsLike, tested-like, look-like, next-like, tested-one}

-- in another order
pub in-permuted : {X : Type 0} (xs ys : List X) → IsPermutation xs ys → (x : X) → In x xs → In x ys
in-permuted {X} xs ys p x h =
    let t = in-place xs x x h in
    let c : Contains xs x = (t.0, t.1.0, sym t.1.1) in
    let d = Contains-permutation xs ys x p c in
    subst (λ (y : X). In y ys) d.2 (place-in ys d.0 x d.1)

pub placed-permuted : (n : ℕ) (gs hs : List Hit) → IsPermutation gs hs → ArePlaced n gs → ArePlaced n hs
placed-permuted n gs hs p all = λ h k. all h (in-permuted hs gs (IsPermutation-sym gs hs p) h k)

-- what is told of some is told of more
pub here-more : (k : World) (P Q : Wanted → Type 0) → ((w : Wanted) → P w → Q w) → (stop : Stop ReachFault) → TellsHere k P stop → TellsHere k Q stop
here-more k P Q f (Found (Unsound block why)) h = record { one = h.one; by = h.by; wanted = f h.one h.wanted; found = h.found; at = h.at; fails = h.fails }
here-more k P Q f (Found (Unnamed within oid xid)) h = record { one = h.one; wanted = f h.one h.wanted; lost = h.lost; shown = h.shown }
here-more k P Q f (Found (NamedTwice within oid xid)) h = record { one = h.one; other = h.other; one_wanted = f h.one h.one_wanted; other_wanted = f h.other h.other_wanted; same_view = h.same_view; same_oid = h.same_oid; apart = h.apart; shown = h.shown }
here-more k P Q f (Found fault) h = absurd h
here-more k P Q f (Unsupported feature block) (inl h) = inl (record { one = h.one; by = h.by; wanted = f h.one h.wanted; found = h.found; at = h.at; has = h.has })
here-more k P Q f (Unsupported feature block) (inr h) = inr (record { one = h.one; by = h.by; wanted = f h.one h.wanted; found = h.found; at = h.at; fails = h.fails })
here-more k P Q f ReadFault h = tt
here-more k P Q f NoMemory h = tt

pub twice-tells : (k : World) (P : Wanted → Type 0) (stop : Stop ReachFault) → Tells (IsTwiceHere P) NoFeature stop → TellsHere k P stop
twice-tells k P (Found (NamedTwice within oid xid)) h = h
twice-tells k P (Found fault) h = absurd h
twice-tells k P (Unsupported feature block) h = absurd h
twice-tells k P ReadFault h = tt
twice-tells k P NoMemory h = tt

-- what a sound hit wants in turn
wants-ok : (w : Wanted) (r : OmapRecord) (bytes : List ℕ) (a : Answer) → is_ok a ≡ true → wants_if w r bytes a ≡ wants_of w r bytes
wants-ok w r bytes (Ok b) e = refl
wants-ok w r bytes (Err bad) e = absurd (let z : false ≡ true = e in let q : ⊥ = cc in q)

-- hits of all that is wanted: each has its views, by which the object is wanted and found by one record
pub record AreFor (k : World) (current : List Wanted) (hits : List Hit) (by : Hit → List Wanted) : Type 0 where
  pub each : (w : Wanted) → In w current → (h : Hit) × (In h hits × ((v : Wanted) × (In v (by h) × IsLike v w)))
  pub only : (h : Hit) (v : Wanted) → In h hits → In v (by h) → (w : Wanted) × (In w current × IsLike v w)
  pub own : (h : Hit) → In h hits → In h.wanted (by h)
  pub is : (h : Hit) (v : Wanted) → In h hits → In v (by h) → v ≡ of_view h.wanted v.view
  pub one : (h : Hit) (v : Wanted) → In h hits → In v (by h) → AreAsOne h.wanted.view v.view
  pub found : (h : Hit) (v : Wanted) → In h hits → In v (by h) → k.look v ≡ Some h.mapping
  pub plain : (h : Hit) → In h hits → mapping_features k.site.block_size h.mapping.flags h.mapping.size ≡ []

module _ (k : World) (named : IsByName k) (current : List Wanted) (hits : List Hit) (by : Hit → List Wanted) (for : AreFor k current hits by) where
  -- what a hit is for: an object that is wanted, found by the hit's record, and tested as the hit is
  pub record IsFor (h : Hit) (w : Wanted) : Type 0 where
    pub wanted : In w current
    pub found : k.look w ≡ Some h.mapping
    pub tests : tested_as k.site w (k.bytes h.mapping) ≡ tested_as k.site h.wanted (k.bytes h.mapping)

  tests-by : (h : Hit) (v : Wanted) → In h hits → In v (by h) → tested_as k.site v (k.bytes h.mapping) ≡ tested_as k.site h.wanted (k.bytes h.mapping)
  tests-by h v i j = ap (λ (x : Wanted). tested_as k.site x (k.bytes h.mapping)) (for.is h v i j) ∙ tested-one k.site h.wanted v.view (k.bytes h.mapping) (for.one h v i j)

  for-like : (h : Hit) (v w : Wanted) → In h hits → In v (by h) → In w current → IsLike v w → IsFor h w
  for-like h v w i j m l = record {
    wanted = m;
    found = sym (look-like k named v w l) ∙ for.found h v i j;
    tests = sym (tested-like k.site v w (k.bytes h.mapping) l) ∙ tests-by h v i j;
  }

  own-for : (h : Hit) → In h hits → (w : Wanted) × (IsFor h w × IsLike h.wanted w)
  own-for h i = let t = for.only h h.wanted i (for.own h i) in (t.0, (for-like h h.wanted t.0 i (for.own h i) t.1.0 t.1.1, t.1.1))

  -- a fault of a test is that of what the hit is for
  bad-here : (fault : ReachFault) → IsBadHit k.site k.bytes hits fault → IsHere k (Among current) fault
  bad-here fault (h, (i, (why, (e, f)))) =
      let t = own-for h i in
      subst (λ (x : ReachFault). IsHere k (Among current) x) (sym e)
      (let r : IsHere k (Among current) (Unsound h.mapping.paddr why) = record { one = t.0; by = h.mapping; wanted = t.1.0.wanted; found = t.1.0.found; at = refl; fails = t.1.0.tests ∙ f } in r)

  pub bad-tells : (stop : Stop ReachFault) → Tells (IsBadHit k.site k.bytes hits) (IsRefusedHit k.site k.bytes hits) stop → TellsHere k (Among current) stop
  bad-tells (Found fault) h = bad-here fault h
  bad-tells (Unsupported feature block) (h, (i, (e, f))) = let t = own-for h i in inr (record { one = t.0; by = h.mapping; wanted = t.1.0.wanted; found = t.1.0.found; at = e; fails = t.1.0.tests ∙ f })
  bad-tells ReadFault h = tt
  bad-tells NoMemory h = tt

  -- what a sound hit wants in turn
  next-by : (h : Hit) (v : Wanted) → In h hits → In v (by h) → is_sound k.site h.wanted (k.bytes h.mapping) ≡ true → next_of k v ≡ wants_of v h.mapping (k.bytes h.mapping)
  unfolding next_of
  next-by h v i j s =
      ap (next_by k v) (for.found h v i j)
      ∙ wants-ok v h.mapping (k.bytes h.mapping) (tested_as k.site v (k.bytes h.mapping)) (ap (λ (x : Answer). is_ok x) (tests-by h v i j) ∙ s)

  -- what the views of hits want in turn, by the bytes to which records lead
  abbrev pub IsNextOf : Wanted → Type 0
  IsNextOf w = (h : Hit) × (In h hits × ((v : Wanted) × (In v (by h) × In w (wants_of v h.mapping (k.bytes h.mapping)))))

  next-from : AreSound k.site k.bytes hits → (w : Wanted) → In w (flat_map (next_of k) current) → IsNextOf w
  next-from sound w b =
      let t = from-flat_map (next_of k) w current b in
      let s = for.each t.0 t.1.0 in
      let v = s.1.1 in
      let e : next_of k t.0 ≡ wants_of v.0 s.0.mapping (k.bytes s.0.mapping) = sym (next-like k named v.0 t.0 v.1.1) ∙ next-by s.0 v.0 s.1.0 v.1.0 (sound s.0 s.1.0) in
      (s.0, (s.1.0, (v.0, (v.1.0, subst (λ ws. In w ws) e t.1.1))))

  from-next : AreSound k.site k.bytes hits → (w : Wanted) → IsNextOf w → In w (flat_map (next_of k) current)
  from-next sound w (h, (i, (v, (j, m)))) =
      let t = for.only h v i j in
      let e : wants_of v h.mapping (k.bytes h.mapping) ≡ next_of k t.0 = sym (next-by h v i j (sound h i)) ∙ next-like k named v t.0 t.1.1 in
      in-flat_map (next_of k) t.0 w current t.1.0 (subst (λ ws. In w ws) e m)

  clear-by : AreSound k.site k.bytes hits → (w : Wanted) → In w current → IsClear k w
  clear-by sound w i =
      let s = for.each w i in
      let v = s.1.1 in
      let f = for-like s.0 v.0 w s.1.0 v.1.0 i v.1.1 in
      record { by = s.0.mapping; found = f.found; sound = ap (λ (x : Answer). is_ok x) f.tests ∙ sound s.0 s.1.0; plain = for.plain s.0 s.1.0 }

  read-by : (read : List Used) → AreRead (map used_of hits) read → (w : Wanted) (r : OmapRecord) → In w current → k.look w ≡ Some r → In (used_by w.view r) read
  read-by read is w r i e =
      let s = for.each w i in
      let h : Hit = s.0 in
      let v = s.1.1 in
      let q : ◌≡◌ {A = Option OmapRecord} (Some h.mapping) (Some r) = sym (for.found h v.0 s.1.0 v.1.0) ∙ (look-like k named v.0 w v.1.1 ∙ e) in
      let same : h.mapping ≡ r = cc in
      let map_is : h.wanted.view.map ≡ w.view.map = (for.one h v.0 s.1.0 v.1.0).map ∙ ap (λ (x : SweptView). x.map) v.1.1.view in
      is.each (used_by w.view r) (subst (λ (u : Used). In u (map used_of hits)) (use-is (used_of h) (used_by w.view r) map_is same) (in-map used_of hits h s.1.0))

  used-by : (read : List Used) → AreRead (map used_of hits) read → (u : Used) → In u read → IsUsedBy k (λ w. In w current) u
  used-by read is u i =
      let t = from-map used_of hits u (is.only u i) in
      let s = own-for t.0 t.1.0 in
      record { one = s.0; wanted = s.1.0.wanted; by = t.0.mapping; found = s.1.0.found; same = t.1.1 ∙ ap (λ (v : SweptView). used_by v t.0.mapping) s.1.1.view }

  pub step_from : (before after : List Wanted) (read : List Used) → IsOnce current → ((w : Wanted) → In w after → In w before ⊎ IsNextOf w) → ((w : Wanted) → In w before ⊎ IsNextOf w → In w after) → AreSound k.site k.bytes hits → AreRead (map used_of hits) read → IsStep k current before after read
  step_from before after read once from to sound is = record {
    below = λ w h. elim (from w h) as (λ _. In w before ⊎ In w (flat_map (next_of k) current)) [ inl a ↦ inl a | inr b ↦ inr (from-next sound w b) ];
    all = λ w h. to w (elim h as (λ _. In w before ⊎ IsNextOf w) [ inl a ↦ inl a | inr b ↦ inr (next-from sound w b) ]);
    clear = clear-by sound;
    once = once;
    apart = is.apart;
    each = read-by read is;
    only = used-by read is;
  }
