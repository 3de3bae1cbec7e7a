-- The views of a volume as they are swept: their heads, and what is live from what their superblocks name.
use Rattle.std.proofs.Common.{◌≡◌, ℕ, zero, suc, ◌+◌, ◌-◌, ◌<◌, Bool, true, false, ◌==◌, List, [], ◌∷◌, length, map, get_or, Some, inl, inr, refl, ap, sym, ◌∙◌, subst, arith, if◌then◌else◌}
use Rattle.std.specs.Prelude.{slice_get}
use Rattle.std.proofs.lemmas.Option.{slice_get-get_or}
use Rattle.apfs_model.specs.Lists.{In}
use Rattle.apfs_model.proofs.BoolTests.{clash, equal-from, from-equal, never-true}
use Rattle.apfs_model.proofs.Searches.{get-in, in-get, in-map, from-map, in-flat_map, from-flat_map}
use Rattle.obj_base.specs.declared.site.Site.{Site}
use Rattle.nx_ring.specs.Checkpoint.{Seen, site_of}
use Rattle.omap_map.specs.Maps.{Contents, map_records, is_whole_map, contents_of}
use Rattle.vol_view.specs.Volumes.{Loaded, map_or_empty, empty_map}
use Rattle.reach_rules.specs.declared.naming.LookUp.TheVariants.{InView}
use Rattle.reach_rules.specs.declared.naming.Namer.{Namer}
use Rattle.reach_rules.specs.declared.naming.Namer.TheVariants.{Whole}
use Rattle.reach_rules.specs.declared.naming.TreeKind.TheVariants.{Files}
use Rattle.reach_rules.specs.declared.naming.Expected.TheVariants.{TreeRoot}
use Rattle.reach_rules.specs.declared.naming.Naming.{Naming}
use Rattle.reach_rules.specs.Naming.{naming}
use Rattle.reach_rules.specs.Next.{roots, names, next}
use Rattle.reach_rules.specs.Live.{Live, IsLive, rooted, led}
use Rattle.reach_rules.proofs.Nexts.{each-in, from-next}
use Rattle.reach_gather.specs.ViewParts.{is_in_view}
use Rattle.reach_gather.specs.Volumes.Told.{map_of, told_view}
use Rattle.reach_gather.specs.Volumes.Parts.{volume_namer, IsVolumePart}
use Rattle.view_sweep.specs.declared.wanted.SweptView.{SweptView}
use Rattle.view_sweep.specs.declared.wanted.Head.{Head}
use Rattle.view_sweep.specs.Wanted.{view_at, head_wants, heads_want, naming_of, AreToldHeads, AreBelowHeads}
use Rattle.view_sweep.specs.Found.{records_at}
use Rattle.view_sweep.specs.Named.{head_namings, AreOfImage, AreLive}
use Rattle.view_sweep.specs.declared.runs.Run.{Run}
use Rattle.view_sweep.specs.declared.sets.ViewSet.{ViewSet}
use Rattle.view_sweep.specs.declared.used.Share.{Share}
use Rattle.view_sweep.specs.Sets.{view_of, IsFirst, IsSetOf, set_at}
use Rattle.view_sweep.specs.Shared.{head_views, AreInside}
use Rattle.use_report.specs.Given.{IsGiven}
use Rattle.use_report.specs.Heads.{swept_of, head_of, no_view, kept_place, AreHeadsOf, ArePlaced}
use Rattle.use_report.specs.Runs.{head_place, AreHeadRuns}
use Rattle.use_report.specs.Sharing.{AreInOrder}
use Rattle.use_report.specs.Views.{views_kept, at_of}
use Rattle.use_report.specs.declared.kept.KeptView.{KeptView}
use Rattle.use_report.proofs.Lists.{one-some, no-some, below-length}
use Rattle.use_report.proofs.Origins.{IsFrom, IsNeither, names-from, roots-neither}
use Rattle.use_report.proofs.Viewed.{namer_of, part, names_of, named-live, named-past}
use Rattle.use_report.proofs.Walked.{view-roots}
use Rattle.use_report.proofs.Told.{view-place}

-- ---- places among the heads
kept-live : (many head : ℕ) → head + 1 ≡ many → kept_place many head ≡ 0
kept-live many head e = ap (λ b. if b then 0 else head + 1) (from-equal (head + 1) many e)

kept-past : (many head : ℕ) → (head + 1 ≡ many → ⊥) → kept_place many head ≡ head + 1
kept-past many head apart = ap (λ b. if b then 0 else head + 1) (never-true (head + 1 == many) (λ e. apart (equal-from (head + 1) many e)))

head-past : (many view : ℕ) → (view ≡ 0 → ⊥) → head_place many view ≡ view - 1
head-past many view apart = ap (λ b. if b then many - 1 else view - 1) (never-true (view == 0) (λ e. apart (equal-from view 0 e)))

head-live : (many view : ℕ) → view ≡ 0 → head_place many view ≡ many - 1
head-live many view e = ap (λ b. if b then many - 1 else view - 1) (from-equal view 0 e)

-- the view whose head is that of a view
there-back : (many view : ℕ) → view < many → kept_place many (head_place many view) ≡ view
there-back many zero low =
    let all : (many - 1) + 1 ≡ many = omega (arith, low) in
    ap (kept_place many) (head-live many zero refl) ∙ kept-live many (many - 1) all
there-back many (suc view) low =
    let some : suc view ≡ 0 → ⊥ = λ e. let q : ⊥ = omega (arith, e) in q in
    let more : (suc view - 1) + 1 ≡ suc view = omega arith in
    let apart : (suc view - 1) + 1 ≡ many → ⊥ = λ e. let q : ⊥ = omega (arith, e, low) in q in
    ap (kept_place many) (head-past many (suc view) some) ∙ (kept-past many (suc view - 1) apart ∙ more)

-- the head of the view whose head it is
back-there : (many head : ℕ) → head < many → head_place many (kept_place many head) ≡ head
back-there many head low =
    let go : (b : Bool) → (head + 1 == many) ≡ b → head_place many (kept_place many head) ≡ head = λ b. elim b as (λ b. (head + 1 == many) ≡ b → head_place many (kept_place many head) ≡ head) [
      | true ↦ λ e.
          let last : head + 1 ≡ many = equal-from (head + 1) many e in
          let is : many - 1 ≡ head = omega (arith, last) in
          head-live many (kept_place many head) (kept-live many head last) ∙ is
      | false ↦ λ e.
          let is : kept_place many head ≡ head + 1 = ap (λ b. if b then 0 else head + 1) e in
          let some : head + 1 ≡ 0 → ⊥ = λ z. let q : ⊥ = omega (arith, z) in q in
          let less : (head + 1) - 1 ≡ head = omega arith in
          ap (head_place many) is ∙ (head-past many (head + 1) some ∙ less)
    ] in
    go (head + 1 == many) refl

pub head-low : (many view : ℕ) → view < many → head_place many view < many
head-low many zero low = let is : head_place many zero ≡ many - 1 = head-live many zero refl in let less : many - 1 < many = omega (arith, low) in subst (λ p. p < many) (sym is) less
head-low many (suc view) low =
    let some : suc view ≡ 0 → ⊥ = λ e. let q : ⊥ = omega (arith, e) in q in
    let less : suc view - 1 < many = omega (arith, low) in
    subst (λ p. p < many) (sym (head-past many (suc view) some)) less

kept-low : (many head : ℕ) → head < many → kept_place many head < many
kept-low many head low =
    let go : (b : Bool) → (head + 1 == many) ≡ b → (if b then 0 else head + 1) < many = λ b. elim b as (λ b. (head + 1 == many) ≡ b → (if b then 0 else head + 1) < many) [
      | true ↦ λ e. omega (arith, low)
      | false ↦ λ e.
          let apart : head + 1 ≡ many → ⊥ = λ s. clash (head + 1 == many) (from-equal (head + 1) many s) e in
          omega (arith, low, apart)
    ] in
    go (head + 1 == many) refl

-- ---- heads
got : {X : Type 0} (xs : List X) (i : ℕ) (x d : X) → slice_get xs i ≡ Some x → get_or xs i d ≡ x
got xs i x d e = one-some (get_or xs i d) x (sym (slice_get-get_or xs i d (below-length xs i x e)) ∙ e)

view-at-head : (heads : List Head) (p : ℕ) (h : Head) → slice_get heads p ≡ Some h → view_of (head_views heads) p ≡ h.view
view-at-head [] p h e = no-some h e
view-at-head (x ∷ xs) zero h e = ap (λ (y : Head). y.view) (one-some x h e)
view-at-head (x ∷ xs) (suc p) h e = view-at-head xs p h e

views-many : (heads : List Head) → length (head_views heads) ≡ length heads
views-many [] = refl
views-many (h ∷ hs) = ap suc (views-many hs)

-- a head is that of one of the views
pub record IsHeadOf (volume : Loaded) (views : List KeptView) (h : Head) : Type 0 where
  pub place : ℕ
  pub kept : KeptView
  pub found : slice_get views place ≡ Some kept
  pub is : h ≡ head_of volume kept

module _ (volume : Loaded) (views : List KeptView) (heads : List Head) (a : AreHeadsOf volume views heads) where
  pub head-at : (v : ℕ) (kept : KeptView) → slice_get views v ≡ Some kept → slice_get heads (head_place (length views) v) ≡ Some (head_of volume kept)
  head-at v kept e =
      let many : ℕ = length views in
      let low : v < many = below-length views v kept e in
      a.each (head_place many v) (head-low many v low) ∙ ap (λ (k : KeptView). Some (head_of volume k)) (ap (λ j. get_or views j no_view) (there-back many v low) ∙ got views v kept no_view e)

  pub head-from : (h : Head) → In h heads → IsHeadOf volume views h
  head-from h i =
      let many : ℕ = length views in
      let t = in-get heads h i in
      let below = below-length heads t.0 h t.1 in
      let low : t.0 < many = subst (λ n. t.0 < n) a.many below in
      let v : ℕ = kept_place many t.0 in
      record { place = v; kept = get_or views v no_view; found = slice_get-get_or views v no_view (kept-low many t.0 low); is = one-some h (head_of volume (get_or views v no_view)) (sym t.1 ∙ a.each t.0 low) }

  pub view-at : (v : ℕ) (kept : KeptView) → slice_get views v ≡ Some kept → view_of (head_views heads) (head_place (length views) v) ≡ swept_of volume kept
  view-at v kept e = view-at-head heads (head_place (length views) v) (head_of volume kept) (head-at v kept e)

  pub told-heads : ArePlaced views → AreToldHeads heads
  told-heads placed x y i j slot place =
      let s = head-from x i in
      let t = head-from y j in
      let same : s.place ≡ t.place = sym (placed s.place s.kept s.found) ∙ (ap (λ (h : Head). h.view.place) (sym s.is) ∙ (place ∙ (ap (λ (h : Head). h.view.place) t.is ∙ placed t.place t.kept t.found))) in
      let kept : s.kept ≡ t.kept = one-some s.kept t.kept (sym s.found ∙ (ap (slice_get views) same ∙ t.found)) in
      ap (λ (h : Head). h.view) s.is ∙ (ap (swept_of volume) kept ∙ ap (λ (h : Head). h.view) (sym t.is))

  pub below-heads : AreBelowHeads 1 heads
  below-heads h i =
      let s = head-from h i in
      let z : h.view.volume ≡ 0 = ap (λ (x : Head). x.view.volume) s.is in
      omega (arith, z)

  -- each view stands once
  pub first-at : ArePlaced views → (v : ℕ) (kept : KeptView) → slice_get views v ≡ Some kept → IsFirst (head_views heads) (view_of (head_views heads) (head_place (length views) v)) (head_place (length views) v)
  first-at placed v kept e =
      let many : ℕ = length views in
      let p : ℕ = head_place many v in
      let low : v < many = below-length views v kept e in
      let all : length (head_views heads) ≡ many = views-many heads ∙ a.many in
      record {
        below = subst (λ n. p < n) (sym all) (head-low many v low);
        is = refl;
        first = λ q inside s.
            let here : q < many = subst (λ n. q < n) all inside in
            let w : ℕ = kept_place many q in
            let other : KeptView = get_or views w no_view in
            let is : view_of (head_views heads) q ≡ swept_of volume other = view-at-head heads q (head_of volume other) (a.each q here) in
            let place : other.place ≡ kept.place = ap (λ (x : SweptView). x.place) (sym is ∙ (s ∙ view-at v kept e)) in
            let same : w ≡ v = sym (placed w other (slice_get-get_or views w no_view (kept-low many q here))) ∙ (place ∙ placed v kept e) in
            let is_p : q ≡ p = sym (back-there many q here) ∙ ap (head_place many) same in
            omega (arith, is_p);
      }

-- the sets of the heads' views have no other place
set-runs : (views : List SweptView) (set : List Run) (m : ℕ) → length views ≡ m → IsSetOf views set → AreHeadRuns m set
set-runs views set m e is = record {
  rising = is.rising;
  inside = λ p has. subst (λ (n : ℕ). p < n) e (is.first p has).below;
}

pub in-order : (volume : Loaded) (views : List KeptView) (heads : List Head) → AreHeadsOf volume views heads → (blocks : ℕ) (sets : List ViewSet) (shares : List Share) → AreInside blocks (head_views heads) sets shares → AreInOrder blocks (length views) sets shares
in-order volume views heads a blocks sets shares inside = record {
  number = inside.number;
  runs = λ n low. set-runs (head_views heads) (set_at sets n) (length views) (views-many heads ∙ a.many) (inside.sets_are n low);
  placed = inside.placed;
}

-- the views of a volume have their places
pub placed-views : (volume : Loaded) (seen : Seen) (views : List KeptView) → views ≡ views_kept volume seen → ArePlaced views
placed-views volume seen views e = λ i kept at. view-place volume seen i kept (ap (λ (xs : List KeptView). slice_get xs i) (sym e) ∙ at)

-- ---- of a volume that is given
whole-records : (image : List ℕ) (site : Site) (block : ℕ) → is_whole_map image site block ≡ true → map_records image site block ≡ (map_or_empty image site block).records
unfolding map_or_empty
whole-records image site block w = sym (ap (λ b. (if b then contents_of image site block else empty_map).records) w)

pub of-image : (image : List ℕ) (seen : Seen) (volume : Loaded) → IsGiven image seen volume → (site : Site) (views : List KeptView) (heads : List Head) → site ≡ site_of seen → AreHeadsOf volume views heads → AreOfImage image seen site (volume ∷ []) heads
of-image image seen volume given site views heads s a = record {
  site_is = s;
  mapped = λ h i.
      let t = head-from volume views heads a h i in
      let p : IsVolumePart image seen volume.head volume = part image seen volume given in
      let here : volume.omap.records ≡ (map_or_empty image (site_of seen) (map_of volume)).records = ap (λ (m : Contents). m.records) p.contents ∙ whole-records image (site_of seen) (map_of volume) p.map.whole in
      subst (λ (x : Head). records_at (volume ∷ []) x.view.volume ≡ (map_or_empty image (site_of seen) x.view.map).records) (sym t.is) here;
}

-- the namer of each view, by its place
abbrev pub supers_of : (image : List ℕ) (seen : Seen) (volume : Loaded) → IsGiven image seen volume → SweptView → Namer
supers_of image seen volume given v = namer_of (volume_namer seen (part image seen volume given).mapping) (get_or (views_kept volume seen) v.place no_view).super_block

supers-at : (image : List ℕ) (seen : Seen) (volume : Loaded) (given : IsGiven image seen volume) (kept : KeptView) → In kept (views_kept volume seen) → supers_of image seen volume given (swept_of volume kept) ≡ namer_of (volume_namer seen (part image seen volume given).mapping) kept.super_block
supers-at image seen volume given kept one =
    let views : List KeptView = views_kept volume seen in
    let t = in-get views kept one in
    let place : kept.place ≡ t.0 = view-place volume seen t.0 kept t.1 in
    let is : get_or views kept.place no_view ≡ kept = ap (λ j. get_or views j no_view) place ∙ got views t.0 kept no_view t.1 in
    ap (λ (k : KeptView). namer_of (volume_namer seen (part image seen volume given).mapping) k.super_block) is

-- what a superblock names is what is wanted of its view
map-unless : {X Y : Type 0} (f : X → Y) (b : Bool) (x : X) → map f (if b then [] else x ∷ []) ≡ (if b then [] else f x ∷ [])
map-unless f true x = refl
map-unless f false x = refl

told-head : (supers : SweptView → Namer) (h : Head) → map (naming_of supers) (head_wants h) ≡ told_view (supers h.view) (view_at h.view) h.root_oid h.meta_ext
told-head supers h =
    let root : Naming = naming (supers h.view) 136 (TreeRoot (Files h.view.hashed)) (InView (view_at h.view)) h.root_oid in
    ap (λ (ns : List Naming). root ∷ ns) (map-unless (naming_of supers) (h.meta_ext == 0) _)

module _ (image : List ℕ) (seen : Seen) (volume : Loaded) (given : IsGiven image seen volume) (heads : List Head) (a : AreHeadsOf volume (views_kept volume seen) heads) where
  abbrev first : List Naming
  first = head_namings (supers_of image seen volume given) heads

  head-names : (kept : KeptView) → In kept (views_kept volume seen) → map (naming_of (supers_of image seen volume given)) (head_wants (head_of volume kept)) ≡ names_of image seen volume given kept
  head-names kept one =
      told-head (supers_of image seen volume given) (head_of volume kept)
      ∙ ap (λ (namer : Namer). told_view namer (at_of volume kept) kept.view.root_oid kept.meta_ext) (supers-at image seen volume given kept one)

  -- what the heads name is live
  pub heads-live : AreLive image seen first
  heads-live n h =
      let supers : SweptView → Namer = supers_of image seen volume given in
      let w = from-map (naming_of supers) (heads_want heads) n h in
      let x = from-flat_map head_wants w.0 heads w.1.0 in
      let t = head-from volume (views_kept volume seen) heads a x.0 x.1.0 in
      let one : In t.kept (views_kept volume seen) = get-in (views_kept volume seen) t.place t.kept t.found in
      let wants : In w.0 (head_wants (head_of volume t.kept)) = subst (λ (y : Head). In w.0 (head_wants y)) t.is x.1.1 in
      let named : In n (map (naming_of supers) (head_wants (head_of volume t.kept))) = subst (λ (m : Naming). In m (map (naming_of supers) (head_wants (head_of volume t.kept)))) (sym w.1.1) (in-map (naming_of supers) (head_wants (head_of volume t.kept)) w.0 wants) in
      view-roots image seen volume given t.kept one n (subst (λ (ns : List Naming). In n ns) (head-names t.kept one) named)

  named-first : (kept : KeptView) → In kept (views_kept volume seen) → (n : Naming) → In n (names_of image seen volume given kept) → In n first
  named-first kept one n h =
      let supers : SweptView → Namer = supers_of image seen volume given in
      let t = in-get (views_kept volume seen) kept one in
      let head : In (head_of volume kept) heads = get-in heads (head_place (length (views_kept volume seen)) t.0) (head_of volume kept) (head-at volume (views_kept volume seen) heads a t.0 kept t.1) in
      let w = from-map (naming_of supers) (head_wants (head_of volume kept)) n (subst (λ (ns : List Naming). In n ns) (sym (head-names kept one)) h) in
      subst (λ (m : Naming). In m first) (sym w.1.1) (in-map (naming_of supers) (heads_want heads) w.0 (in-flat_map head_wants (head_of volume kept) w.0 heads head w.1.0))

  -- what is live and looked up in a view is live from the heads
  pub live-headed : (kept : KeptView) → In kept (views_kept volume seen) → (n : Naming) → IsLive image seen n → n.how ≡ InView (at_of volume kept) → Live first (next image seen) n
  live-headed kept one n (rooted _ h) how = clash (is_in_view n.how) (ap is_in_view how) (each-in IsNeither (roots seen.nx) n (roots-neither seen) h).outside
  live-headed kept one n (led m _ live h) how =
      let l = from-next image seen m n h in
      let me : Namer = Whole l.object.object in
      let from : IsFrom m.how m.expected n = each-in (IsFrom m.how m.expected) (names image seen m.how m.expected me l.object.bytes) n (names-from image seen m.how m.expected me l.object.bytes) l.names in
      let here : In n (names_of image seen volume given kept) → Live first (next image seen) n = λ i. rooted n (named-first kept one n i) in
      elim (from.viewed (at_of volume kept) how) as (λ _. Live first (next image seen) n) [
        | inl e ↦ here (named-live image seen volume given kept one m n live h how e)
        | inr t ↦ elim t as (λ _. Live first (next image seen) n) [
          | inl e ↦ here (named-past image seen volume given kept one m n live h e)
          | inr u ↦ led m n (live-headed kept one m live u.0) h
        ]
      ]
