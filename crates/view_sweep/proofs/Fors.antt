-- The hits of a level are for all that is wanted there.
use Rattle.std.proofs.Common.{◌≡◌, ℕ, ◌<◌, true, List, ◌++◌, length, map, ◌⊎◌, inl, inr, Option, refl, ap, sym, ◌∙◌, subst}
use Rattle.std.specs.List.{flat_map}
use Rattle.std.specs.List.Sorted.{IsPermutation}
use Rattle.std.proofs.lemmas.Grind.{flat_map-append}
use Rattle.std.proofs.lemmas.List.Sorted.{IsPermutation-sym}
use Rattle.apfs_model.specs.Lists.{In}
use Rattle.apfs_model.proofs.Searches.{in-map, from-map, in-flat_map, from-flat_map, in-left, in-right, in-append}
use Rattle.obj_base.specs.declared.stop.Stop.{Stop}
use Rattle.obj_base.specs.declared.stop.Stop.TheVariants.{Found, Unsupported, ReadFault, NoMemory}
use Rattle.obj_base.specs.declared.stop.Within.TheVariants.{Volume}
use Rattle.obj_base.specs.Stops.{Tells}
use Rattle.obj_base.specs.declared.site.Site.{Site}
use Rattle.omap_map.specs.declared.records.OmapRecord.{OmapRecord}
use Rattle.reach_rules.specs.declared.fault.ReachFault.{ReachFault}
use Rattle.reach_rules.specs.declared.fault.ReachFault.TheVariants.{Unnamed}
use Rattle.view_sweep.specs.declared.sets.ViewSet.{ViewSet}
use Rattle.view_sweep.specs.declared.joining.Sought.{Sought}
use Rattle.view_sweep.specs.declared.wanted.SweptView.{SweptView}
use Rattle.view_sweep.specs.declared.wanted.Wanted.{Wanted}
use Rattle.view_sweep.specs.declared.wanted.Asked.{Asked}
use Rattle.view_sweep.specs.declared.used.Hit.{Hit}
use Rattle.view_sweep.specs.Runs.{has_place}
use Rattle.view_sweep.specs.Wanted.{number_by}
use Rattle.view_sweep.specs.Found.{World, wants_of}
use Rattle.view_sweep.specs.Here.{TellsHere, IsLostHere, IsMappedBy}
use Rattle.view_sweep.specs.Sets.{set_at, view_of, of_view, hit_by, asked_of, all_asked, asked_with, AreNumbered}
use Rattle.view_sweep.specs.Asked.{IsOfSet, IsOfSought, HasAsked, HasSought, AreSought}
use Rattle.view_sweep.specs.Hits.{AreHitsOf}
use Rattle.view_sweep.specs.Next.{AreAsOne}
use Rattle.view_sweep.specs.Swept.{ArePlaced, IsOnce, hit_wants, hit_asks}
use Rattle.view_sweep.proofs.Likes.{IsLike, look-like, wants-moved}
use Rattle.view_sweep.proofs.Members.{of-set, set-of, from-asked, in-asked}
use Rattle.view_sweep.proofs.Steps.{AreFor, in-permuted}
use Rattle.view_sweep.proofs.Wholes.{IsByName}

-- what is sought is wanted, as one of those that name it wants it
pub like-asked : (views : List SweptView) (sets : List ViewSet) (asked : List Asked) (w x : Wanted) (p : ℕ) → p < length views → x ≡ of_view w (view_of views p) → HasAsked sets asked w.oid (number_by w.want) p → (y : Wanted) × (In y (all_asked views sets asked) × IsLike x y)
like-asked views sets asked w x p low e h =
    let y : Wanted = of_view h.one.wanted (view_of views p) in
    let l : IsLike x y = record {
      view = ap (λ (z : Wanted). z.view) e;
      oid = ap (λ (z : Wanted). z.oid) e ∙ sym h.under.oid_is;
      number = ap (λ (z : Wanted). number_by z.want) e ∙ sym h.under.number_is;
    } in
    (y, (in-asked views sets asked h.one y h.listed (record { place = p; below = low; has = h.has; is = refl }), l))

sought-has : (all : List Sought) (s : Sought) (p : ℕ) → In s all → has_place s.set.items p ≡ true → HasSought all s.wanted.oid (number_by s.wanted.want) p
sought-has all s p i e = record { one = s; listed = i; under = record { oid_is = refl; number_is = refl }; has = e }

pub sought-like : (views : List SweptView) (sets : List ViewSet) (asked : List Asked) (all : List Sought) → AreSought sets asked all → (x : Wanted) → IsOfSought views all x → (y : Wanted) × (In y (all_asked views sets asked) × IsLike x y)
sought-like views sets asked all so x (s, (i, o)) =
    like-asked views sets asked s.wanted x o.place o.below o.is (so.only s.wanted.oid (number_by s.wanted.want) o.place (sought-has all s o.place i o.has))

-- what stops the look-ups is told of what is wanted
pub lost-here : (k : World) → IsByName k → (P Q : Wanted → Type 0) → ((x : Wanted) → P x → (y : Wanted) × (Q y × IsLike x y)) → (stop : Stop ReachFault) → Tells (IsLostHere k.look P) (IsMappedBy k.look k.site.block_size P) stop → TellsHere k Q stop
lost-here k named P Q f (Found (Unnamed within oid xid)) h =
    let t = f h.one h.wanted in
    record {
      one = t.0;
      wanted = t.1.0;
      lost = sym (look-like k named h.one t.0 t.1.1) ∙ h.lost;
      shown = record { within_is = h.shown.within_is ∙ ap (λ (v : SweptView). Volume v.slot) t.1.1.view; oid_is = h.shown.oid_is ∙ t.1.1.oid; xid_is = h.shown.xid_is ∙ ap (λ (v : SweptView). v.xid) t.1.1.view };
    }
lost-here k named P Q f (Found fault) h = absurd h
lost-here k named P Q f (Unsupported feature block) h =
    let t = f h.one h.wanted in
    inl (record { one = t.0; by = h.by; wanted = t.1.0; found = sym (look-like k named h.one t.0 t.1.1) ∙ h.found; at = h.at; has = h.has })
lost-here k named P Q f ReadFault h = tt
lost-here k named P Q f NoMemory h = tt

module _ (k : World) (views : List SweptView) (sets more : List ViewSet) (asked : List Asked) (all : List Sought) (hits : List Hit) (so : AreSought sets asked all) (of : AreHitsOf k.look k.site views more all hits) where
  hit-each : (w : Wanted) → In w (all_asked views sets asked) → (h : Hit) × (In h hits × ((v : Wanted) × (In v (hit_by views more h) × IsLike v w)))
  hit-each w i =
      let a = from-asked views sets asked w i in
      let o : IsOfSet views a.0.wanted (set_at sets a.0.set) w = a.1.1 in
      let s = so.each a.0.wanted.oid (number_by a.0.wanted.want) o.place (record { one = a.0; listed = a.1.0; under = record { oid_is = refl; number_is = refl }; has = o.has }) in
      let h = of.each s.one o.place s.listed o.below s.has in
      let v : Wanted = of_view h.one.wanted (view_of views o.place) in
      let l : IsLike v w = record {
        view = sym (ap (λ (z : Wanted). z.view) o.is);
        oid = h.is.oid ∙ (s.under.oid_is ∙ sym (ap (λ (z : Wanted). z.oid) o.is));
        number = ap number_by h.is.want ∙ (s.under.number_is ∙ sym (ap (λ (z : Wanted). number_by z.want) o.is));
      } in
      (h.one, (h.listed, (v, (set-of views (set_at more h.one.set) h.one.wanted v (record { place = o.place; below = o.below; has = h.has; is = refl }), l))))

  hit-only : (h : Hit) (v : Wanted) → In h hits → In v (hit_by views more h) → (w : Wanted) × (In w (all_asked views sets asked) × IsLike v w)
  hit-only h v i j =
      let o = of-set views (set_at more h.set) h.wanted v j in
      let t = of.only h i in
      let s : Sought = t.0 in
      let is = t.1.1 in
      let e : of_view h.wanted (view_of views o.place) ≡ of_view s.wanted (view_of views o.place) = ap (λ (n : ℕ). of_view (record { view = h.wanted.view; oid = n; want = h.wanted.want }) (view_of views o.place)) is.oid ∙ ap (λ x. of_view (record { view = h.wanted.view; oid = s.wanted.oid; want = x }) (view_of views o.place)) is.want in
      like-asked views sets asked s.wanted v o.place o.below (o.is ∙ e) (so.only s.wanted.oid (number_by s.wanted.want) o.place (sought-has all s o.place t.1.0 (is.only o.place o.has)))

  pub hits-for : AreFor k (all_asked views sets asked) hits (hit_by views more)
  hits-for = record {
    each = hit-each;
    only = hit-only;
    own = λ h i. let is = (of.only h i).1.1 in set-of views (set_at more h.set) h.wanted h.wanted (record { place = is.place; below = is.below; has = is.own; is = ap (of_view h.wanted) is.view });
    is = λ h v i j. let o = of-set views (set_at more h.set) h.wanted v j in o.is ∙ ap (of_view h.wanted) (sym (ap (λ (z : Wanted). z.view) o.is));
    one = λ h v i j. let o = of-set views (set_at more h.set) h.wanted v j in subst (λ (u : SweptView). AreAsOne h.wanted.view u) (sym (ap (λ (z : Wanted). z.view) o.is)) ((of.only h i).1.1.found o.place o.has).0;
    found = λ h v i j. let o = of-set views (set_at more h.set) h.wanted v j in ap k.look o.is ∙ ((of.only h i).1.1.found o.place o.has).1;
    plain = λ h i. (of.only h i).1.1.plain;
  }

-- in another order
pub for-permuted : (k : World) (current sorted : List Wanted) (hits others : List Hit) (by : Hit → List Wanted) → ((w : Wanted) → In w current → In w sorted) → ((w : Wanted) → In w sorted → In w current) → IsPermutation hits others → AreFor k sorted hits by → AreFor k current others by
for-permuted k current sorted hits others by to from order f =
    let back : (h : Hit) → In h others → In h hits = in-permuted others hits (IsPermutation-sym hits others order) in
    record {
      each = λ w i. let t = f.each w (to w i) in (t.0, (in-permuted hits others order t.0 t.1.0, t.1.1));
      only = λ h v i j. let t = f.only h v (back h i) j in (t.0, (from t.0 t.1.0, t.1.1));
      own = λ h i. f.own h (back h i);
      is = λ h v i j. f.is h v (back h i) j;
      one = λ h v i j. f.one h v (back h i) j;
      found = λ h v i j. f.found h v (back h i) j;
      plain = λ h i. f.plain h (back h i);
    }

pub asked-permuted : (views : List SweptView) (sets : List ViewSet) (asked others : List Asked) → IsPermutation asked others → (w : Wanted) → In w (all_asked views sets asked) → In w (all_asked views sets others)
asked-permuted views sets asked others order w i =
    let a = from-asked views sets asked w i in
    in-asked views sets others a.0 w (in-permuted asked others order a.0 a.1.0) a.1.1

pub numbered-permuted : (n : ℕ) (asked others : List Asked) → IsPermutation asked others → AreNumbered n asked → AreNumbered n others
numbered-permuted n asked others order low = λ a i. low a (in-permuted others asked (IsPermutation-sym asked others order) a i)

pub once-permuted : (views : List SweptView) (sets : List ViewSet) (asked others : List Asked) → IsPermutation asked others → IsOnce (all_asked views sets others) → IsOnce (all_asked views sets asked)
once-permuted views sets asked others order once = λ a b h i. once a b (asked-permuted views sets asked others order a h) (asked-permuted views sets asked others order b i)

-- the hits of a level, sorted anew, are for all that was asked there
pub level-for : (k : World) (views : List SweptView) (old new : List ViewSet) (current sorted : List Asked) (all : List Sought) (found hits : List Hit) → IsPermutation current sorted → AreSought old sorted all → AreHitsOf k.look k.site views new all found → IsPermutation found hits → AreFor k (all_asked views old current) hits (hit_by views new)
level-for k views old new current sorted all found hits asked_order so of order =
    for-permuted k (all_asked views old current) (all_asked views old sorted) found hits (hit_by views new) (asked-permuted views old current sorted asked_order) (asked-permuted views old sorted current (IsPermutation-sym current sorted asked_order)) order (hits-for k views old new sorted all found so of)

pub hits-placed : (look : Wanted → Option OmapRecord) (site : Site) (views : List SweptView) (sets : List ViewSet) (all : List Sought) (hits : List Hit) → AreHitsOf look site views sets all hits → ArePlaced site.blocks hits
hits-placed look site views sets all hits of = λ h i. (of.only h i).1.1.inside

pub hits-numbered : (look : Wanted → Option OmapRecord) (site : Site) (views : List SweptView) (sets : List ViewSet) (all : List Sought) (found hits : List Hit) → AreHitsOf look site views sets all found → IsPermutation found hits → (h : Hit) → In h hits → h.set < length sets
hits-numbered look site views sets all found hits of order h i = (of.only h (in-permuted hits found (IsPermutation-sym found hits order) h i)).1.1.number

-- ---- what is asked for in turn
module _ (k : World) (views : List SweptView) (sets : List ViewSet) (current : List Wanted) (hits : List Hit) (for : AreFor k current hits (hit_by views sets)) where
  asks-next : (w : Wanted) → In w (all_asked views sets (flat_map (hit_asks k.bytes) hits)) → (h : Hit) × (In h hits × ((v : Wanted) × (In v (hit_by views sets h) × In w (wants_of v h.mapping (k.bytes h.mapping)))))
  asks-next w i =
      let a = from-asked views sets (flat_map (hit_asks k.bytes) hits) w i in
      let t = from-flat_map (hit_asks k.bytes) a.0 hits a.1.0 in
      let h : Hit = t.0 in
      let m = from-map (asked_with h.set) (hit_wants k.bytes h) a.0 t.1.1 in
      let o : IsOfSet views a.0.wanted (set_at sets a.0.set) w = a.1.1 in
      let u : SweptView = view_of views o.place in
      let v : Wanted = of_view h.wanted u in
      let j : In v (hit_by views sets h) = set-of views (set_at sets h.set) h.wanted v (record { place = o.place; below = o.below; has = sym (ap (λ (x : Asked). has_place (set_at sets x.set) o.place) m.1.1) ∙ o.has; is = refl }) in
      let e : w ≡ of_view m.0 u = o.is ∙ ap (λ (x : Asked). of_view x.wanted u) m.1.1 in (
        h,
        (
          t.1.0,
          (
            v,
            (
              j,
              subst (λ (x : Wanted). In x (wants_of v h.mapping (k.bytes h.mapping))) (sym e)
                  (subst (λ (xs : List Wanted). In (of_view m.0 u) xs) (sym (wants-moved h.wanted u h.mapping (k.bytes h.mapping) (for.one h v t.1.0 j))) (in-map (λ (x : Wanted). of_view x u) (hit_wants k.bytes h) m.0 m.1.0)),
            ),
          ),
        ),
      )

  next-asks : (w : Wanted) → (h : Hit) × (In h hits × ((v : Wanted) × (In v (hit_by views sets h) × In w (wants_of v h.mapping (k.bytes h.mapping))))) → In w (all_asked views sets (flat_map (hit_asks k.bytes) hits))
  next-asks w (h, (i, (v, (j, m)))) =
      let o = of-set views (set_at sets h.set) h.wanted v j in
      let moved : wants_of v h.mapping (k.bytes h.mapping) ≡ map (λ (x : Wanted). of_view x v.view) (hit_wants k.bytes h) = ap (λ (x : Wanted). wants_of x h.mapping (k.bytes h.mapping)) (for.is h v i j) ∙ wants-moved h.wanted v.view h.mapping (k.bytes h.mapping) (for.one h v i j) in
      let t = from-map (λ (x : Wanted). of_view x v.view) (hit_wants k.bytes h) w (subst (λ (xs : List Wanted). In w xs) moved m) in
      in-asked views sets (flat_map (hit_asks k.bytes) hits) (asked_with h.set t.0) w
      (in-flat_map (hit_asks k.bytes) h (asked_with h.set t.0) hits i (in-map (asked_with h.set) (hit_wants k.bytes h) t.0 t.1.0))
      (record { place = o.place; below = o.below; has = o.has; is = t.1.1 ∙ ap (of_view t.0) (ap (λ (z : Wanted). z.view) o.is) })

  -- what is asked for after some hits
  pub after-to : (before after : List Asked) → after ≡ before ++ flat_map (hit_asks k.bytes) hits → (w : Wanted) → In w (all_asked views sets after) → In w (all_asked views sets before) ⊎ ((h : Hit) × (In h hits × ((v : Wanted) × (In v (hit_by views sets h) × In w (wants_of v h.mapping (k.bytes h.mapping))))))
  after-to before after e w i =
      elim (in-append w (all_asked views sets before) (all_asked views sets (flat_map (hit_asks k.bytes) hits)) (subst (λ (xs : List Wanted). In w xs) (ap (all_asked views sets) e ∙ flat_map-append (asked_of views sets) before (flat_map (hit_asks k.bytes) hits)) i))
      as (λ _. In w (all_asked views sets before) ⊎ ((h : Hit) × (In h hits × ((v : Wanted) × (In v (hit_by views sets h) × In w (wants_of v h.mapping (k.bytes h.mapping))))))) [ inl a ↦ inl a | inr b ↦ inr (asks-next w b) ]

  pub after-from : (before after : List Asked) → after ≡ before ++ flat_map (hit_asks k.bytes) hits → (w : Wanted) → In w (all_asked views sets before) ⊎ ((h : Hit) × (In h hits × ((v : Wanted) × (In v (hit_by views sets h) × In w (wants_of v h.mapping (k.bytes h.mapping)))))) → In w (all_asked views sets after)
  after-from before after e w i =
      subst (λ (xs : List Wanted). In w xs) (sym (ap (all_asked views sets) e ∙ flat_map-append (asked_of views sets) before (flat_map (hit_asks k.bytes) hits)))
      (elim i as (λ _. In w (all_asked views sets before ++ all_asked views sets (flat_map (hit_asks k.bytes) hits))) [
        | inl a ↦ in-left w (all_asked views sets before) (all_asked views sets (flat_map (hit_asks k.bytes) hits)) a
        | inr b ↦ in-right w (all_asked views sets before) (all_asked views sets (flat_map (hit_asks k.bytes) hits)) (next-asks w b)
      ])
