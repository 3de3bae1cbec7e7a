-- What is told of a volume are the numbers of the blocks that its views hold.
use Rattle.std.proofs.Common.{◌≡◌, ℕ, zero, suc, ◌+◌, ◌-◌, ◌^◌, ◌<◌, Bool, true, false, not, ◌&&◌, ◌==◌, List, [], ◌∷◌, ◌++◌, length, Some, inl, inr, refl, ap, sym, ◌∙◌, subst, arith}
use Rattle.std.specs.Prelude.{◌↔◌, slice_get}
use Rattle.std.specs.List.{AllZip, range_with_len, list_any}
use Rattle.apfs_model.proofs.BoolTests.{left-true, right-true, both-true, equal-from, unequal-from, test_or, clash, not-true, false-not, never-true}
use Rattle.apfs_model.proofs.Searches.{get-in, in-get}
use Rattle.obj_base.specs.declared.site.Site.{Site}
use Rattle.nx_ring.specs.Checkpoint.{Seen, site_of}
use Rattle.vol_view.specs.Volumes.{Loaded}
use Rattle.vol_view.specs.declared.volume.Snapshot.{Snapshot}
use Rattle.piece_count.specs.Covered.{is_from, runs_at, is_among, covered_by, is_covered, is_any, is_alone, IsCount}
use Rattle.piece_count.specs.declared.piece.Views.{Views}
use Rattle.piece_count.specs.declared.piece.Piece.{Piece}
use Rattle.piece_count.specs.declared.piece.Holdings.{Holdings}
use Rattle.piece_count.specs.declared.tally.Counts.{Counts}
use Rattle.piece_count.specs.declared.tally.ViewCount.{ViewCount}
use Rattle.piece_count.proofs.Numbers.{any-below, below-any, from-low, from-high, from-is}
use Rattle.reach_rules.specs.Tally.{IsNumberOf}
use Rattle.use_report.specs.Counted.{has_turn}
use Rattle.use_report.specs.Given.{IsGiven}
use Rattle.use_report.specs.Held.{IsHeld, IsOnlyHeld, IsHeldByAny}
use Rattle.use_report.specs.Holding.{IsWalked, IsHoldingOf, IsWalkedSet}
use Rattle.use_report.specs.Numbers.{IsUse, IsUsage}
use Rattle.use_report.specs.Runs.{AreOwnSets}
use Rattle.use_report.specs.Sets.{AreHoldings, IsUseOf, AreNumbersOf}
use Rattle.use_report.specs.Sharing.{AreHeldBy}
use Rattle.use_report.specs.Views.{past_kept, pasts_kept, live_kept, views_kept}
use Rattle.use_report.specs.declared.kept.KeptView.{KeptView}
use Rattle.use_report.specs.declared.numbers.ViewUse.{ViewUse}
use Rattle.use_report.specs.declared.pieces.Pieces.{Pieces}
use Rattle.use_report.proofs.Holds.{holding-exact}
use Rattle.use_report.proofs.Lists.{one-some, no-some, get-there, below-length, push-before, push-last}
use Rattle.use_report.proofs.Sets.{number-by, number-is}

-- ---- items that go with one another, place by place
zip-by : {X Y : Type 0} (R : X → Y → Type 0) (xs : List X) (ys : List Y) → length ys ≡ length xs → ((i : ℕ) (x : X) → slice_get xs i ≡ Some x → (y : Y) × (slice_get ys i ≡ Some y) × R x y) → AllZip R xs ys
zip-by R [] [] long each = tt
zip-by R (x ∷ xs) (y ∷ ys) long each =
    let t = each 0 x refl in
    (subst (R x) (sym (one-some y t.0 t.1)) t.2, zip-by R xs ys (omega (arith, long)) (λ i a e. each (suc i) a e))
zip-by R xs ys long each = absurd (let q : ⊥ = omega (arith, long) in q)

-- ---- a view's place is that in the list of its volume's views
pasts-place : (volume : Loaded) (i j : ℕ) (snapshots : List Snapshot) (kept : KeptView) → slice_get (pasts_kept volume i snapshots) j ≡ Some kept → kept.place ≡ suc (i + j)
pasts-place volume i j [] kept e = no-some kept e
pasts-place volume i zero (s ∷ ss) kept e =
    let same = one-some (past_kept volume i s) kept e in
    let none : suc i ≡ suc (i + 0) = omega arith in
    ap (λ (k : KeptView). k.place) (sym same) ∙ none
pasts-place volume i (suc j) (s ∷ ss) kept e =
    let more : suc (suc i + j) ≡ suc (i + suc j) = omega arith in
    pasts-place volume (suc i) j ss kept e ∙ more

pub view-place : (volume : Loaded) (seen : Seen) (i : ℕ) (kept : KeptView) → slice_get (views_kept volume seen) i ≡ Some kept → kept.place ≡ i
view-place volume seen zero kept e = ap (λ (k : KeptView). k.place) (sym (one-some (live_kept volume seen) kept e))
view-place volume seen (suc j) kept e =
    let none : suc (0 + j) ≡ suc j = omega arith in
    pasts-place volume 0 j volume.snaps kept e ∙ none

-- ---- one view more
-- what is added next is held by the view in a place alone, where the sets begin with those of each view alone
pub turned-view : (sets : List Views) (before turned : Pieces) (many i view : ℕ) → sets ≡ before.all.sets.items → AreOwnSets many sets → i < many → turned ≡ record before { set = i } → has_turn turned view ≡ is_from i (i + 1) view
turned-view sets before turned many i view s own low e =
    ap (λ (p : Pieces). has_turn p view) e ∙ (ap (λ (ss : List Views). is_among (runs_at ss i) view) (sym s) ∙ own i view low)

-- no view yet
pub holdings-none : (image : List ℕ) (site : Site) (volume : Loaded) (views : List KeptView) (held : Holdings) → held.pieces.items ≡ [] → AreHoldings image site volume views 0 held
unfolding covered_by
holdings-none image site volume views held e = record {
  each = λ i view low here. absurd (let q : ⊥ = omega (arith, low) in q);
  none = λ i block up low. ap (λ (ps : List Piece). covered_by held.sets.items ps i block) e;
}

set-same : (image : List ℕ) (site : Site) (volume : Loaded) (view : KeptView) (test also : ℕ → Bool) → ((block : ℕ) → block < 2 ^ 64 - 1 → (also block ≡ true) ↔ (test block ≡ true)) → IsWalkedSet image site volume view test → IsWalkedSet image site volume view also
set-same image site volume view test also s h = record {
  files = h.files;
  those = h.those;
  right = h.right;
  placed = h.placed;
  has = λ block low.
      let x = h.has block low in
      let y = s block low in
      ((λ e. x.0 (y.0 e)), (λ p. y.1 (x.1 p)));
}

pub holdings-more : (image : List ℕ) (site : Site) (volume : Loaded) (views : List KeptView) (i : ℕ) (view : KeptView) (before turned after : Pieces) → slice_get views i ≡ Some view → AreOwnSets (length views) before.all.sets.items → turned ≡ record before { set = i } →
    AreHoldings image site volume views i before.all → IsHoldingOf image site volume view turned after → AreHoldings image site volume views (i + 1) after.all
holdings-more image site volume views i view before turned after at own turns had one =
    let old : (v block : ℕ) → is_covered turned.all v block ≡ is_covered before.all v block = λ v block. ap (λ (p : Pieces). is_covered p.all v block) turns in
    let turn : (v : ℕ) → has_turn turned v ≡ is_from i (i + 1) v = λ v. turned-view before.all.sets.items before turned (length views) i v refl own (below-length views i view at) turns in
    let others : (v block : ℕ) → (v ≡ i → ⊥) → block < 2 ^ 64 - 1 → (is_covered after.all v block ≡ true) ↔ (is_covered before.all v block ≡ true) = λ v block apart low.
    let g = one.grows.held v block low in (
      (λ e. elim (g.0 e) as (λ _. is_covered before.all v block ≡ true) [
        | inl o ↦ sym (old v block) ∙ o
        | inr n ↦
            let here : is_from i (i + 1) v ≡ true = sym (turn v) ∙ n.0 in
            let above = from-low i (i + 1) v here in
            let below = from-high i (i + 1) v here in
            absurd (apart (omega (arith, above, below)))
      ]),
      (λ e. g.1 (inl (old v block ∙ e))),
    )
    in
    record {
      each = λ j other low here. elim (test_or (j == i)) as (λ _. IsWalkedSet image site volume other (is_covered after.all j)) [
        | inl y ↦
            let s = equal-from j i y in
            let view_is : view ≡ other = one-some view other (sym at ∙ (ap (slice_get views) (sym s) ∙ here)) in
            let this : IsWalkedSet image site volume view (is_covered after.all j) = record {
              files = one.files;
              those = one.those;
              right = one.right;
              placed = one.placed;
              has = λ block lb.
                  let g = one.grows.held j block lb in (
                    (λ e. elim (g.0 e) as (λ _. IsWalked image site volume view one.files block) [
                      | inl o ↦ clash (is_covered before.all j block) (sym (old j block) ∙ o) (had.none j block (omega (arith, s)) lb)
                      | inr n ↦ n.1
                    ]),
                    (λ p. g.1 (inr (turn j ∙ from-is i (i + 1) j (omega (arith, s)) (omega (arith, s)), p))),
                  );
            } in
            subst (λ (w : KeptView). IsWalkedSet image site volume w (is_covered after.all j)) view_is this
        | inr n ↦
            let apart = unequal-from j i n in
            set-same image site volume other (is_covered before.all j) (is_covered after.all j) (λ block lb. others j block apart lb) (had.each j other (omega (arith, low, apart)) here)
      ];
      none = λ j block up low.
          let apart : j ≡ i → ⊥ = λ s. let q : ⊥ = omega (arith, s, up) in q in
          never-true (is_covered after.all j block) (λ e. clash (is_covered before.all j block) ((others j block apart low).0 e) (had.none j block (omega (arith, up)) low));
    }

-- the numbers of the view in a place are told
abbrev pub IsTold : List ViewCount → List ViewUse → ℕ → KeptView → Type 0
IsTold counts told k view = (numbers : ViewUse) × (slice_get told k ≡ Some numbers) × IsUseOf counts k view.view.xid numbers

pub uses-more : (views : List KeptView) (counts : List ViewCount) (told new : List ViewUse) (i : ℕ) (view : KeptView) (numbers : ViewUse) → new ≡ told ++ numbers ∷ [] → length told ≡ i → slice_get views i ≡ Some view →
    IsUseOf counts i view.view.xid numbers → ((k : ℕ) (v : KeptView) → k < i → slice_get views k ≡ Some v → IsTold counts told k v) → (k : ℕ) (v : KeptView) → k < i + 1 → slice_get views k ≡ Some v → IsTold counts new k v
uses-more views counts told new i view numbers e many at one had k v low here =
    let back : (n : ViewUse) → slice_get (told ++ numbers ∷ []) k ≡ Some n → slice_get new k ≡ Some n = λ n h. subst (λ (xs : List ViewUse). slice_get xs k ≡ Some n) (sym e) h in
    elim (test_or (k == i)) as (λ _. IsTold counts new k v) [
      | inl y ↦
          let same : k ≡ i = equal-from k i y in
          let view_is : view ≡ v = one-some view v (sym at ∙ (ap (slice_get views) (sym same) ∙ here)) in
          let this : IsUseOf counts k view.view.xid numbers = subst (λ j. IsUseOf counts j view.view.xid numbers) (sym same) one in
          (numbers, back numbers (push-last told numbers k (same ∙ sym many)), subst (λ (w : KeptView). IsUseOf counts k w.view.xid numbers) view_is this)
      | inr n ↦
          let apart : k ≡ i → ⊥ = unequal-from k i n in
          let t = had k v (omega (arith, low, apart)) here in
          (t.0, back t.0 (push-before told numbers k t.0 t.1), t.2)
    ]

-- ---- the numbers
module _ (image : List ℕ) (seen : Seen) (volume : Loaded) (pieces : Holdings) (few : (site_of seen).blocks < 2 ^ 64) (exact-at : AreHeldBy image seen volume (views_kept volume seen) pieces) where
  abbrev blocks : ℕ
  blocks = (site_of seen).blocks

  abbrev many : ℕ
  many = length (views_kept volume seen)

  any-held : (block : ℕ) → block < blocks → is_any (is_covered pieces) many block ≡ true → IsHeldByAny image seen volume block
  unfolding is_any
  any-held block low e =
      let r = below-any (λ v. is_covered pieces v block) many e in
      let t = get-there (views_kept volume seen) r.0 r.1.0 in
      (t.0, get-in (views_kept volume seen) r.0 t.0 t.1, ((exact-at r.0 t.0 t.1).held block low).0 r.1.1)

  held-any : (block : ℕ) → IsHeldByAny image seen volume block → (is_any (is_covered pieces) many block ≡ true) × (block < blocks)
  unfolding is_any
  held-any block h =
      let t = in-get (views_kept volume seen) h.0 h.1 in
      let x = exact-at t.0 h.0 t.1 in
      let low = x.inside block h.2 in
      (any-below (λ v. is_covered pieces v block) many t.0 (below-length (views_kept volume seen) t.0 h.0 t.1) ((x.held block low).1 h.2), low)

  -- another view has a block by the pieces
  abbrev other_has : ℕ → ℕ → ℕ → Bool
  other_has i block other = not (other == i) && is_covered pieces other block

  only-held : (i : ℕ) (kept : KeptView) → slice_get (views_kept volume seen) i ≡ Some kept → (block : ℕ) → block < blocks → is_alone (is_covered pieces) many i block ≡ true → IsOnlyHeld image seen volume kept block
  unfolding is_alone
  only-held i kept at block low e =
      let any : Bool = list_any (other_has i block) (range_with_len 0 many) in
      let none = not-true any (right-true (is_covered pieces i block) (not any) e) in
      record {
        held = ((exact-at i kept at).held block low).0 (left-true (is_covered pieces i block) (not any) e);
        alone = λ other one apart h.
            let g = in-get (views_kept volume seen) other one in
            let there : (g.0 == i) ≡ false = never-true (g.0 == i) (λ y. apart (view-place volume seen g.0 other g.1 ∙ (equal-from g.0 i y ∙ sym (view-place volume seen i kept at)))) in
            clash any (any-below (other_has i block) many g.0 (below-length (views_kept volume seen) g.0 other g.1)
            (both-true (not (g.0 == i)) (is_covered pieces g.0 block) (false-not (g.0 == i) there) (((exact-at g.0 other g.1).held block low).1 h))) none;
      }

  held-only : (i : ℕ) (kept : KeptView) → slice_get (views_kept volume seen) i ≡ Some kept → (block : ℕ) → IsOnlyHeld image seen volume kept block → (is_alone (is_covered pieces) many i block ≡ true) × (block < blocks)
  unfolding is_alone
  held-only i kept at block h =
      let any : Bool = list_any (other_has i block) (range_with_len 0 many) in
      let x = exact-at i kept at in
      let low = x.inside block h.held in (
        both-true (is_covered pieces i block) (not any) ((x.held block low).1 h.held)
            (false-not any (never-true any (λ y.
            let r = below-any (other_has i block) many y in
            let t = get-there (views_kept volume seen) r.0 r.1.0 in
            let apart = unequal-from r.0 i (not-true (r.0 == i) (left-true (not (r.0 == i)) (is_covered pieces r.0 block) r.1.1)) in
            h.alone t.0 (get-in (views_kept volume seen) r.0 t.0 t.1) (λ same. apart (sym (view-place volume seen r.0 t.0 t.1) ∙ (same ∙ view-place volume seen i kept at)))
            (((exact-at r.0 t.0 t.1).held block low).0 (right-true (not (r.0 == i)) (is_covered pieces r.0 block) r.1.1))))),
        low,
      )

  use-of : (counts : Counts) (i : ℕ) (kept : KeptView) (numbers : ViewUse) → slice_get (views_kept volume seen) i ≡ Some kept → IsCount blocks many pieces counts → IsUseOf counts.views.items i kept.view.xid numbers → IsUse image seen volume kept numbers
  use-of counts i kept numbers at c u =
      let low = below-length (views_kept volume seen) i kept at in
      record {
        xid_is = u.xid_is;
        held = subst (IsNumberOf (IsHeld image seen volume kept)) (sym (u.held ∙ c.held i low)) (number-is blocks (IsHeld image seen volume kept) (is_covered pieces i) few (exact-at i kept at));
        only = subst (IsNumberOf (IsOnlyHeld image seen volume kept)) (sym (u.only ∙ c.only i low)) (number-by blocks (IsOnlyHeld image seen volume kept) (is_alone (is_covered pieces) many i) few (only-held i kept at) (held-only i kept at));
      }

  pub usage-is : (told : List ViewUse) (number : ℕ) → AreNumbersOf blocks (views_kept volume seen) pieces told number → IsUsage image seen volume (record { views = told; all = number })
  usage-is told number n = record {
    views = zip-by (IsUse image seen volume) (views_kept volume seen) told n.uses.many (λ i kept at. let t = n.uses.each i kept at in (t.0, t.1, use-of n.counts i kept t.0 at n.counted t.2));
    all = subst (IsNumberOf (IsHeldByAny image seen volume)) (sym (n.number_is ∙ n.counted.all)) (number-by blocks (IsHeldByAny image seen volume) (is_any (is_covered pieces) many) few any-held held-any);
  }

-- where each view is walked, its pieces are what it holds
pub holdings-held : (image : List ℕ) (seen : Seen) (volume : Loaded) (site : Site) (views : List KeptView) (pieces : Holdings) → site ≡ site_of seen → views ≡ views_kept volume seen → IsGiven image seen volume → site.blocks < 2 ^ 64 → AreHoldings image site volume views (length views) pieces → AreHeldBy image seen volume views pieces
holdings-held image seen volume site views pieces s v given few held = λ i kept at.
    let here : slice_get (views_kept volume seen) i ≡ Some kept = ap (λ (xs : List KeptView). slice_get xs i) (sym v) ∙ at in
    let walked : IsWalkedSet image (site_of seen) volume kept (is_covered pieces i) = subst (λ (x : Site). IsWalkedSet image x volume kept (is_covered pieces i)) s (held.each i kept (below-length views i kept at) at) in
    holding-exact image seen volume given (subst (λ (x : Site). x.blocks < 2 ^ 64) s few) kept (get-in (views_kept volume seen) i kept here) (is_covered pieces i) walked

-- the same of a site and of views that are those of the checkpoint and the volume
pub usage-told : (image : List ℕ) (seen : Seen) (volume : Loaded) (site : Site) (views named : List KeptView) (pieces : Holdings) (told : List ViewUse) (number : ℕ) → site ≡ site_of seen → views ≡ views_kept volume seen → named ≡ views →
    site.blocks < 2 ^ 64 → AreHeldBy image seen volume views pieces → AreNumbersOf site.blocks named pieces told number → IsUsage image seen volume (record { views = told; all = number })
usage-told image seen volume site views named pieces told number s v p few held n =
    let all : List KeptView = views_kept volume seen in
    let of_all : AreNumbersOf site.blocks all pieces told number = subst (λ (xs : List KeptView). AreNumbersOf site.blocks xs pieces told number) (p ∙ v) n in
    usage-is image seen volume pieces (subst (λ (x : Site). x.blocks < 2 ^ 64) s few) (subst (λ (xs : List KeptView). AreHeldBy image seen volume xs pieces) v held) told number
    (subst (λ (x : Site). AreNumbersOf x.blocks all pieces told number) s of_all)
