-- The levels together are what is live.
use Rattle.std.proofs.Common.{◌≡◌, ℕ, suc, ◌<◌, ◌≤◌, Bool, true, false, ◌==◌, List, [], ◌∷◌, ◌++◌, Option, Some, ◌⊎◌, inl, inr, refl, ap, sym, ◌∙◌, subst, arith, if◌then◌else◌}
use Rattle.std.specs.List.{filter}
use Rattle.std.proofs.lemmas.Bool.{cases_lt}
use Rattle.std.proofs.lemmas.Bool.Decides.{Decides-eqb}
use Rattle.apfs_model.specs.Apart.{Apart}
use Rattle.apfs_model.specs.Lists.{In}
use Rattle.apfs_model.proofs.Searches.{in-left, in-right, in-append, in-flat_map, from-flat_map, in-filter, from-filter, filter-test}
use Rattle.omap_map.specs.declared.records.OmapRecord.{OmapRecord}
use Rattle.reach_rules.specs.Live.{rooted, led}
use Rattle.view_sweep.specs.declared.wanted.Head.{Head}
use Rattle.view_sweep.specs.declared.wanted.Want.TheVariants.{Metadata}
use Rattle.view_sweep.specs.declared.wanted.Wanted.{Wanted}
use Rattle.view_sweep.specs.declared.used.Used.{Used}
use Rattle.std.specs.Prelude.{option_and_then}
use Rattle.obj_base.specs.declared.site.Site.{Site}
use Rattle.omap_map.specs.Resolve.{resolved as resolves}
use Rattle.vol_view.specs.Volumes.{Loaded}
use Rattle.view_sweep.specs.declared.wanted.SweptView.{SweptView}
use Rattle.view_sweep.specs.Wanted.{head_wants, heads_want, AreTold, AreToldHeads, AreOfHeads}
use Rattle.view_sweep.specs.Found.{World, world, looked, placed, records_at, used_by, is_sound, next_of}
use Rattle.view_sweep.specs.Swept.{IsClear, IsUsedBy, IsStep, IsLive, IsSwept, AreKids, level_of}
use Rattle.view_sweep.proofs.Levels.{Falls, next-falls, one-level}

-- what is wanted at a level
abbrev pub at_level : ℕ → Wanted → Bool
at_level level w = level_of w == level

-- what superblocks want is wanted above all levels
head-level : (h : Head) (w : Wanted) → In w (head_wants h) → level_of w ≡ 16
head-level h w (inl e) = ap level_of e
head-level h w (inr k) =
    let go : (b : Bool) → In w (if b then [] else record { view = h.view; oid = h.meta_ext; want = Metadata } ∷ []) → level_of w ≡ 16 =
    λ b. elim b as (λ b. In w (if b then [] else record { view = h.view; oid = h.meta_ext; want = Metadata } ∷ []) → level_of w ≡ 16) [
      | true ↦ λ x. absurd x
      | false ↦ λ x. elim x as (λ _. level_of w ≡ 16) [ inl e ↦ ap level_of e | inr y ↦ absurd y ]
    ] in
    go (h.meta_ext == 0) k

pub heads-level : (heads : List Head) (w : Wanted) → In w (heads_want heads) → level_of w ≡ 16
heads-level heads w h = let t = from-flat_map head_wants w heads h in head-level t.0 w t.1.1

-- what is live is wanted by a superblock, or below level 16
live-low : (k : World) (heads : List Head) (w : Wanted) → IsLive k heads w → In w (heads_want heads) ⊎ (level_of w < 16)
live-low k heads w (rooted _ h) = inl h
live-low k heads w (led m _ live h) =
    elim (next-falls k m w h) as (λ _. In w (heads_want heads) ⊎ (level_of w < 16)) [
      | inl a ↦ inr a.1
      | inr e ↦ elim (live-low k heads m live) as (λ _. In w (heads_want heads) ⊎ (level_of w < 16)) [
        | inl i ↦ let f : level_of m ≡ 16 = heads-level heads m i in let g : level_of m ≡ suc (level_of w) = e in inr (omega arith)
        | inr i ↦ let g : level_of m ≡ suc (level_of w) = e in inr (omega arith)
      ]
    ]

pub live-top : (k : World) (heads : List Head) (w : Wanted) → IsLive k heads w → 16 ≤ level_of w → In w (heads_want heads)
live-top k heads w live high = elim (live-low k heads w live) as (λ _. In w (heads_want heads)) [ inl i ↦ i | inr i ↦ absurd (omega arith) ]

pub kids-step : (k : World) (heads : List Head) (kids : List Wanted) (read : List Used) → IsStep k (heads_want heads) [] kids read → AreKids k heads kids
kids-step k heads kids read s = record {
  live = λ w h. elim (s.below w h) as (λ _. IsLive k heads w) [
    | inl a ↦ absurd a
    | inr b ↦ let t = from-flat_map (next_of k) w (heads_want heads) b in led t.0 w (rooted t.0 t.1.0) t.1.1
  ];
  all = λ m w i h. s.all w (inr (in-flat_map (next_of k) m w (heads_want heads) i h));
}

-- what waits below a level that was taken, but for what superblocks lead to
pub record IsWaiting (k : World) (heads : List Head) (level : ℕ) (current : List Wanted) : Type 0 where
  pub live : (w : Wanted) → In w current → IsLive k heads w × (suc (level_of w) ≡ level)
  pub all : (m w : Wanted) → IsLive k heads m → level ≤ level_of m → level_of m < 16 → In w (next_of k m) → suc (level_of w) ≡ level → In w current

-- with that: exactly what is live on the level
pub record IsLevel (k : World) (heads : List Head) (level : ℕ) (current : List Wanted) : Type 0 where
  pub live : (w : Wanted) → In w current → IsLive k heads w × (level_of w ≡ level)
  pub all : (w : Wanted) → IsLive k heads w → level_of w ≡ level → In w current

level-all : (k : World) (heads : List Head) (kids current : List Wanted) (level : ℕ) → level < 16 → AreKids k heads kids → IsWaiting k heads (suc level) current → (w : Wanted) → IsLive k heads w → level_of w ≡ level → In w (current ++ filter (at_level level) kids)
level-all k heads kids current level low a b w (rooted _ h) e = let f : level_of w ≡ 16 = heads-level heads w h in absurd (omega arith)
level-all k heads kids current level low a b w (led m _ live h) e =
    let f : Falls (level_of m) (level_of w) = next-falls k m w h in
    let of : In m (heads_want heads) → In w (current ++ filter (at_level level) kids) = λ i. in-right w current (filter (at_level level) kids) (in-filter (at_level level) w kids (a.all m w i h) ((Decides-eqb (level_of w) level).1 e)) in
    elim (live-low k heads m live) as (λ _. In w (current ++ filter (at_level level) kids)) [
      | inl i ↦ of i
      | inr i ↦ elim f as (λ _. In w (current ++ filter (at_level level) kids)) [
        | inl t ↦ let g : level_of m ≡ 16 = t.0 in absurd (omega arith)
        | inr t ↦ let g : level_of m ≡ suc (level_of w) = t in in-left w current (filter (at_level level) kids) (b.all m w live (omega arith) i h (omega arith))
      ]
    ]

pub level-from : (k : World) (heads : List Head) (kids current after : List Wanted) (level : ℕ) → level < 16 → AreKids k heads kids → IsWaiting k heads (suc level) current → after ≡ current ++ filter (at_level level) kids → IsLevel k heads level after
level-from k heads kids current after level low a b e = record {
  live = λ w h. elim (in-append w current (filter (at_level level) kids) (subst (λ ws. In w ws) e h)) as (λ _. IsLive k heads w × (level_of w ≡ level)) [
    | inl i ↦ let t = b.live w i in let f : suc (level_of w) ≡ suc level = t.1 in (t.0, omega arith)
    | inr i ↦ (a.live w (from-filter (at_level level) w kids i), (Decides-eqb (level_of w) level).0 (filter-test (at_level level) w kids i))
  ];
  all = λ w live f. subst (λ ws. In w ws) (sym e) (level-all k heads kids current level low a b w live f);
}

pub waiting-next : (k : World) (heads : List Head) (level : ℕ) (current after : List Wanted) (read : List Used) → level < 16 → IsLevel k heads level current → IsStep k current [] after read → IsWaiting k heads level after
waiting-next k heads level current after read top l s = record {
  live = λ w h. elim (s.below w h) as (λ _. IsLive k heads w × (suc (level_of w) ≡ level)) [
    | inl a ↦ absurd a
    | inr b ↦ let t = from-flat_map (next_of k) w current b in
        let u = l.live t.0 t.1.0 in
        let e : level_of t.0 ≡ level = u.1 in (
          led t.0 w u.0 t.1.1,
          elim (next-falls k t.0 w t.1.1) as (λ _. suc (level_of w) ≡ level) [
            | inl f ↦ let g : level_of t.0 ≡ 16 = f.0 in absurd (omega arith)
            | inr f ↦ let g : level_of t.0 ≡ suc (level_of w) = f in omega arith
          ],
        )
  ];
  all = λ m w live high low h e. s.all w (inr (in-flat_map (next_of k) m w current (l.all m live (elim (next-falls k m w h) as (λ _. level_of m ≡ level) [
    | inl f ↦ let g : level_of m ≡ 16 = f.0 in absurd (omega arith)
    | inr f ↦ let g : level_of m ≡ suc (level_of w) = f in omega arith
  ])) h));
}

-- one record is used at one level alone
cross : (k : World) (a b : Wanted) (r s : OmapRecord) → IsClear k a → IsClear k b → k.look a ≡ Some r → k.look b ≡ Some s → used_by a.view r ≡ used_by b.view s → level_of a ≡ level_of b
cross k a b r s ca cb la lb e =
    let qa : ◌≡◌ {A = Option OmapRecord} (Some ca.by) (Some r) = sym ca.found ∙ la in
    let qb : ◌≡◌ {A = Option OmapRecord} (Some cb.by) (Some s) = sym cb.found ∙ lb in
    let sa : ca.by ≡ r = cc in
    let sb : cb.by ≡ s = cc in
    let same : r ≡ s = ap (λ (u : Used). u.mapping) e in
    one-level k.site a b (k.bytes r) (subst (λ (x : OmapRecord). is_sound k.site a (k.bytes x) ≡ true) sa ca.sound) (subst (λ (x : OmapRecord). is_sound k.site b (k.bytes x) ≡ true) (sb ∙ sym same) cb.sound)

-- ids are looked up by their view and number alone
pub record IsByName (k : World) : Type 0 where
  pub alike : (a b : Wanted) → a.view ≡ b.view → a.oid ≡ b.oid → k.look a ≡ k.look b

apart-append : {X : Type 0} (xs ys : List X) → Apart xs → Apart ys → ((x : X) → In x xs → In x ys → ⊥) → Apart (xs ++ ys)
apart-append [] ys a b f = b
apart-append (x ∷ xs) ys a b f = ((λ h. elim (in-append x xs ys h) as (λ _. ⊥) [ inl i ↦ a.0 i | inr i ↦ f x (inl refl) i ]), apart-append xs ys a.1 b (λ y h i. f y (inr h) i))

-- what superblocks want was taken
pub swept-top : (k : World) (heads : List Head) (kids : List Wanted) (read : List Used) → IsStep k (heads_want heads) [] kids read → IsSwept k heads 16 read
swept-top k heads kids read s = record {
  clear = λ w live high. s.clear w (live-top k heads w live high);
  once = λ a b la lb ha hb v o. s.once a b (live-top k heads a la ha) (live-top k heads b lb hb) v o;
  apart = s.apart;
  each = λ w r live high e. s.each w r (live-top k heads w live high) e;
  only = λ u h. let t = s.only u h in let e : level_of t.one ≡ 16 = heads-level heads t.one t.wanted in
      record { one = t.one; wanted = (rooted t.one t.wanted, omega arith); by = t.by; found = t.found; same = t.same };
}

split : (level n : ℕ) → level ≤ n → (n ≡ level) ⊎ (suc level ≤ n)
split level n h = elim (cases_lt level n) as (λ _. (n ≡ level) ⊎ (suc level ≤ n)) [ inl l ↦ inr (omega arith) | inr l ↦ inl (omega arith) ]

-- one id of a view isn't wanted at two levels
apart-levels : (k : World) → IsByName k → (a b : Wanted) → IsClear k a → IsClear k b → a.view ≡ b.view → a.oid ≡ b.oid → level_of a ≡ level_of b
apart-levels k named a b ca cb v o =
    let lb : k.look b ≡ Some ca.by = named.alike b a (sym v) (sym o) ∙ ca.found in
    cross k a b ca.by ca.by ca cb ca.found lb (ap (λ x. used_by x ca.by) v)

pub swept-more : (k : World) → IsByName k → (heads : List Head) (level : ℕ) (current after : List Wanted) (read all more : List Used) → IsLevel k heads level current → IsStep k current [] after read → more ≡ all ++ read → IsSwept k heads (suc level) all → IsSwept k heads level more
swept-more k named heads level current after read all more l s e u =
    let clear : (w : Wanted) → IsLive k heads w → level ≤ level_of w → IsClear k w = λ w live h.
    elim (split level (level_of w) h) as (λ _. IsClear k w) [ inl f ↦ s.clear w (l.all w live f) | inr f ↦ u.clear w live f ] in
    record {
      clear = clear;
      once = λ a b la lb ha hb v o.
          let same : level_of a ≡ level_of b = apart-levels k named a b (clear a la ha) (clear b lb hb) v o in
          elim (split level (level_of a) ha) as (λ _. a ≡ b) [
            | inl f ↦ s.once a b (l.all a la f) (l.all b lb (omega arith)) v o
            | inr f ↦ u.once a b la lb f (omega arith) v o
          ];
      apart = subst (λ us. Apart us) (sym e) (apart-append all read u.apart s.apart (λ x h i.
          let a = u.only x h in
          let b = s.only x i in
          let c = l.live b.one b.wanted in
          let high : suc level ≤ level_of a.one = a.wanted.1 in
          let low : level_of b.one ≡ level = c.1 in
          let same : level_of a.one ≡ level_of b.one = cross k a.one b.one a.by b.by (u.clear a.one a.wanted.0 high) (s.clear b.one b.wanted) a.found b.found (sym a.same ∙ b.same) in
          absurd (omega arith)));
      each = λ w r live h f. subst (λ us. In (used_by w.view r) us) (sym e) (elim (split level (level_of w) h) as (λ _. In (used_by w.view r) (all ++ read)) [
        | inl g ↦ in-right (used_by w.view r) all read (s.each w r (l.all w live g) f)
        | inr g ↦ in-left (used_by w.view r) all read (u.each w r live g f)
      ]);
      only = λ x h. elim (in-append x all read (subst (λ us. In x us) e h)) as (λ _. IsUsedBy k (λ w. IsLive k heads w × (level ≤ level_of w)) x) [
        | inl i ↦ let a = u.only x i in let high : suc level ≤ level_of a.one = a.wanted.1 in record { one = a.one; wanted = (a.wanted.0, omega arith); by = a.by; found = a.found; same = a.same }
        | inr i ↦ let b = s.only x i in let c = l.live b.one b.wanted in let low : level_of b.one ≡ level = c.1 in record { one = b.one; wanted = (c.0, omega arith); by = b.by; found = b.found; same = b.same }
      ];
    }

-- what is here on a level is live
pub here-live : (k : World) (heads : List Head) (level : ℕ) (current : List Wanted) → IsLevel k heads level current → (w : Wanted) → In w current → IsLive k heads w
here-live k heads level current l w h = (l.live w h).0

-- ids are looked up in the maps of volumes by their view and number alone
pub looked-named : (volumes : List Loaded) (site : Site) (image : List ℕ) → IsByName (world volumes site image)
unfolding looked
looked-named volumes site image = record {
  alike = λ a b v o. ap (λ (x : SweptView). option_and_then (placed site) (resolves (records_at volumes x.volume) a.oid x.xid)) v
      ∙ ap (λ (n : ℕ). option_and_then (placed site) (resolves (records_at volumes b.view.volume) n b.view.xid)) o;
}

-- what is wanted of the views of some heads is told by slot and place, and its volumes are there
pub told-of : (heads : List Head) (ws : List Wanted) → AreToldHeads heads → AreOfHeads heads ws → AreTold ws
told-of heads ws told of = λ a b h i s p.
    let x = of a h in
    let y = of b i in
    let slot : x.0.view.slot ≡ y.0.view.slot = sym (ap (λ (v : SweptView). v.slot) x.1.1) ∙ (s ∙ ap (λ (v : SweptView). v.slot) y.1.1) in
    let place : x.0.view.place ≡ y.0.view.place = sym (ap (λ (v : SweptView). v.place) x.1.1) ∙ (p ∙ ap (λ (v : SweptView). v.place) y.1.1) in
    x.1.1 ∙ (told x.0 y.0 x.1.0 y.1.0 slot place ∙ sym y.1.1)

pub head-view : (h : Head) (w : Wanted) → In w (head_wants h) → w.view ≡ h.view
head-view h w (inl e) = ap (λ (x : Wanted). x.view) e
head-view h w (inr k) =
    let go : (b : Bool) → In w (if b then [] else record { view = h.view; oid = h.meta_ext; want = Metadata } ∷ []) → w.view ≡ h.view =
    λ b. elim b as (λ b. In w (if b then [] else record { view = h.view; oid = h.meta_ext; want = Metadata } ∷ []) → w.view ≡ h.view) [
      | true ↦ λ x. absurd x
      | false ↦ λ x. elim x as (λ _. w.view ≡ h.view) [ inl e ↦ ap (λ (x : Wanted). x.view) e | inr y ↦ absurd y ]
    ] in
    go (h.meta_ext == 0) k

pub heads-views : (heads : List Head) → AreOfHeads heads (heads_want heads)
heads-views heads = λ w h. let t = from-flat_map head_wants w heads h in (t.0, (t.1.0, head-view t.0 w t.1.1))
