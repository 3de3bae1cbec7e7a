-- Going through the views of a volume that was loaded.
use Rattle.std.proofs.Common.{◌≡◌, ◌∙◌, ℕ, zero, suc, ◌+◌, ◌-◌, ◌<◌, ◌≤◌, true, false, List, [], ◌∷◌, ◌++◌, length, None, Some, Option, map, take, inl, inr, refl, sym, ap, subst, arith, append-nil}
use Rattle.std.specs.Prelude.{◌^◌, ◌⊎◌, IfSome, slice_index_or, nat_lt, flat_map, slice_get, option_map}
use Rattle.std.specs.List.{All}
use Rattle.std.proofs.lemmas.Grind.{flat_map-append}
use Rattle.std.proofs.lemmas.List.{length-map, take_more}
use Rattle.std.proofs.lemmas.List.Elements.{All-head, All-tail}
use Rattle.std.proofs.lemmas.Option.{slice_get-map, slice_get_within, get_or_from_slice_get}
use Rattle.apfs_model.specs.Lists.{In}
use Rattle.apfs_model.proofs.BoolTests.{not-false, other-true, right-true, upto-from}
use Rattle.apfs_model.proofs.Searches.{from-map, in-flat_map, in-left, in-right, in-append}
use Rattle.obj_base.specs.declared.site.Site.{Site}
use Rattle.omap_map.proofs.Lists.{all-in}
use Rattle.nx_ring.specs.Checkpoint.{Seen, site_of}
use Rattle.fs_record.specs.Facts.{Fact}
use Rattle.fs_record.specs.StreamExtents.{extent_blocks, is_hole, is_extent_placed}
use Rattle.fs_record.specs.declared.extents.FileExt.{FileExt}
use Rattle.vol_view.specs.Volumes.{Loaded}
use Rattle.vol_view.specs.Views.{past_of, views_of}
use Rattle.vol_view.specs.declared.volume.View.{View}
use Rattle.ext_ref.specs.Left.{AreShortExtents}
use Rattle.ext_ref.specs.Ranges.{ranges_of}
use Rattle.ext_ref.specs.Same.{HaveSame}
use Rattle.ext_ref.specs.declared.range.NewRange.{NewRange}
use Rattle.view_rules.specs.Facts.{Facts}
use Rattle.view_rules.specs.Extents.{is_misplaced}
use Rattle.view_rules.specs.Rules.{view_facts}
use Rattle.view_rules.specs.declared.profile.Profile.{Profile}
use Rattle.tree_rules.specs.Known.{KnownView, AddExtents, IsKnown, IsKnownBefore, extents_before}
use Rattle.apfs_check.specs.Again.{IsPassed, IsKnownOf}
use Rattle.apfs_check.specs.declared.views.Passed.{Passed}
use Rattle.apfs_check.specs.Volumes.{volume_of, volume_ranges, extent_of, view_extents, volume_extents}
use Rattle.apfs_check.specs.WellFormed.{HasViewRules}
use Rattle.apfs_check.specs.DataSteps.{AreShortOrHoles}
use Rattle.apfs_check.specs.Steps.{IsReady, snapshot_root}
use Rattle.apfs_check.proofs.Same.{views-same, ranges-same}
use Rattle.apfs_check.proofs.Short.{all-in-list}

-- ---- one item more of a list
pub take-one : {X : Type 0} (xs : List X) (i : ℕ) (x : X) → slice_get xs i ≡ Some x → take (i + 1) xs ≡ take i xs ++ x ∷ []
take-one xs i x e = take_more xs i x (slice_get_within xs i x e) ∙ ap (λ y. take i xs ++ y ∷ []) (get_or_from_slice_get xs i x x e)

-- ---- a view by its place
pub past-place : (volume : Loaded) (seen : Seen) (place : ℕ) (view : View) → 0 < place → option_map (past_of volume) (slice_get volume.snaps (place - 1)) ≡ Some view → slice_get (views_of volume seen) place ≡ Some view
past-place volume seen zero view some e = absurd (omega arith)
past-place volume seen (suc k) view some e =
    let same : suc k - 1 ≡ k = omega arith in
    slice_get-map (past_of volume) volume.snaps k ∙ subst (λ n. option_map (past_of volume) (slice_get volume.snaps n) ≡ Some view) same e

-- how many there are
pub views-length : (volume : Loaded) (seen : Seen) → length (views_of volume seen) ≡ length volume.snaps + 1
views-length volume seen = let e = length-map volume.snaps (past_of volume) in omega (arith, e)

-- ---- the new ranges of a volume that was loaded
pub ranges-joined : (image : List ℕ) (seen : Seen) (volume : Loaded) → IsReady image seen volume → ranges_of image (site_of seen) volume.extents_root ++ flat_map (ranges_of image (site_of seen)) (map snapshot_root volume.snaps) ≡ volume_ranges image (site_of seen) volume.head
ranges-joined image seen volume r =
    ap (λ (v : Loaded). ranges_of image (site_of seen) v.extents_root ++ flat_map (ranges_of image (site_of seen)) (map snapshot_root v.snaps)) r.loaded.same ∙ sym (ranges-same image seen volume.head r.loaded.right)

-- ---- the extents of all views
pub extents-same : (image : List ℕ) (seen : Seen) (volume : Loaded) → IsReady image seen volume → flat_map (view_extents image (site_of seen) volume) (views_of volume seen) ≡ volume_extents image seen volume.head
unfolding volume_extents
extents-same image seen volume r =
    let head = volume.head in
    ap (λ (v : Loaded). flat_map (view_extents image (site_of seen) v) (views_of v seen)) r.loaded.same
    ∙ ap (λ vs. flat_map (view_extents image (site_of seen) (volume_of image seen head)) vs) (sym (views-same image seen head r.loaded.right))

-- those of one view more, some of which were there
one-more : {X Y : Type 0} (f : X → List Y) (xs : List X) (x : X) (a m : List Y) → HaveSame a (flat_map f xs) → ((y : Y) → In y m → In y (f x)) → ((y : Y) → In y (f x) → In y a ⊎ In y m) → HaveSame (a ++ m) (flat_map f (xs ++ x ∷ []))
one-more f xs x a m same own all = λ y. (
  (λ h. elim (in-append y a m h) as (λ _. In y (flat_map f (xs ++ x ∷ []))) [
    | inl k ↦ subst (In y) (sym (flat_map-append f xs (x ∷ []))) (in-left y (flat_map f xs) (f x ++ []) ((same y).0 k))
    | inr k ↦ subst (In y) (sym (flat_map-append f xs (x ∷ []))) (in-right y (flat_map f xs) (f x ++ []) (in-left y (f x) [] (own y k)))
  ]),
  (λ h. elim (in-append y (flat_map f xs) (f x ++ []) (subst (In y) (flat_map-append f xs (x ∷ [])) h)) as (λ _. In y (a ++ m)) [
    | inl k ↦ in-left y a m ((same y).1 k)
    | inr k ↦ elim (all y (subst (In y) (append-nil (f x)) k)) as (λ _. In y (a ++ m)) [ inl l ↦ in-left y a m l | inr r ↦ in-right y a m r ]
  ]),
)

pub extents-next : (image : List ℕ) (site : Site) (volume : Loaded) (views : List View) (i : ℕ) (view : View) (before added b c d : List (ℕ × FileExt)) → slice_get views i ≡ Some view → HaveSame b (flat_map (view_extents image site volume) (take i views))
    → AddExtents image site volume view before added → ((x : ℕ × FileExt) → In x before → In x (flat_map (view_extents image site volume) (take i views))) → c ≡ b ++ added → HaveSame c d
    → HaveSame d (flat_map (view_extents image site volume) (take (i + 1) views))
extents-next image site volume views i view before added b c d at p new old q r =
    let f : View → List (ℕ × FileExt) = view_extents image site volume in
    let all : (x : ℕ × FileExt) → In x (f view) → In x b ⊎ In x added = λ x h. elim (new.all x h) as (λ _. In x b ⊎ In x added) [ inl k ↦ inl ((p x).1 (old x k)) | inr k ↦ inr k ] in
    let more : HaveSame c (flat_map f (take (i + 1) views)) =
    subst (λ vs. HaveSame c (flat_map f vs)) (sym (take-one views i view at)) (subst (λ es. HaveSame es (flat_map f (take i views ++ view ∷ []))) (sym q) (one-more f (take i views) view b added p new.own all)) in
    λ x. ((λ h. (more x).0 ((r x).1 h)), (λ h. (r x).0 ((more x).1 h)))

-- a view whose extents an earlier one has
pub extents-kept : (image : List ℕ) (site : Site) (volume : Loaded) (views : List View) (i : ℕ) (before view : View) (b : List (ℕ × FileExt)) → slice_get views i ≡ Some view → In before (take i views) → view_extents image site volume before ≡ view_extents image site volume view
    → HaveSame b (flat_map (view_extents image site volume) (take i views)) → HaveSame b (flat_map (view_extents image site volume) (take (i + 1) views))
extents-kept image site volume views i before view b at one same had = λ x. (
  (λ h. subst (λ vs. In x (flat_map (view_extents image site volume) vs)) (sym (take-one views i view at))
      (subst (In x) (sym (flat_map-append (view_extents image site volume) (take i views) (view ∷ []))) (in-left x (flat_map (view_extents image site volume) (take i views)) (view_extents image site volume view ++ []) ((had x).0 h)))),
  (λ h. elim (in-append x (flat_map (view_extents image site volume) (take i views)) (view_extents image site volume view ++ [])
      (subst (In x) (flat_map-append (view_extents image site volume) (take i views) (view ∷ [])) (subst (λ vs. In x (flat_map (view_extents image site volume) vs)) (take-one views i view at) h))) as (λ _. In x b) [
        | inl k ↦ (had x).1 k
        | inr k ↦ (had x).1 (in-flat_map (view_extents image site volume) before x (take i views) one (subst (In x) (sym same) (subst (In x) (append-nil (view_extents image site volume view)) k)))
      ]),
)

-- a view that passed is one of those up to the next place
pub passed-one : (profile : Profile) (image : List ℕ) (site : Site) (volume : Loaded) (ranges : List NewRange) (views : List View) (i : ℕ) (view : View) (passed : Option Passed) → slice_get views i ≡ Some view → IfSome passed (IsPassed profile image site volume ranges (view ∷ []))
    → IfSome passed (IsPassed profile image site volume ranges (take (i + 1) views))
passed-one profile image site volume ranges views i view None at is = tt
passed-one profile image site volume ranges views i view (Some p) at is = record {
  one = subst (In p.view) (sym (take-one views i view at)) (in-right p.view (take i views) (view ∷ []) is.one);
  rules = is.rules;
  records = is.records;
  notes = is.notes;
}

pub passed-kept : (profile : Profile) (image : List ℕ) (site : Site) (volume : Loaded) (ranges : List NewRange) (views : List View) (i : ℕ) (view : View) (passed : List Passed) → slice_get views i ≡ Some view → All (IsPassed profile image site volume ranges (take i views)) passed
    → All (IsPassed profile image site volume ranges (take (i + 1) views)) passed
passed-kept profile image site volume ranges views i view passed at all k d low =
    let is = all k d low in
    record {
      one = subst (In (slice_index_or passed k d).view) (sym (take-one views i view at)) (in-left (slice_index_or passed k d).view (take i views) (view ∷ []) is.one);
      rules = is.rules;
      records = is.records;
      notes = is.notes;
    }

-- those that are remembered, with one more
pub passed-more : (profile : Profile) (image : List ℕ) (site : Site) (volume : Loaded) (ranges : List NewRange) (views : List View) (old new : List Passed) (one : Option Passed) → ((other : Passed) → In other new → In other old ⊎ (one ≡ Some other))
    → All (IsPassed profile image site volume ranges views) old → IfSome one (IsPassed profile image site volume ranges views) → All (IsPassed profile image site volume ranges views) new
passed-more profile image site volume ranges views old new one of all is =
    all-in-list (IsPassed profile image site volume ranges views) new (λ other h. elim (of other h) as (λ _. IsPassed profile image site volume ranges views other) [
      | inl k ↦ all-in (IsPassed profile image site volume ranges views) old all other k
      | inr e ↦ subst (λ (o : Option Passed). IfSome o (IsPassed profile image site volume ranges views)) e is
    ])

-- what is kept of a view
pub known-one : (profile : Profile) (image : List ℕ) (site : Site) (volume : Loaded) (ranges : List NewRange) (views : List View) (i : ℕ) (view : View) (kept : Option KnownView) → slice_get views i ≡ Some view → IfSome kept (IsKnown profile image site volume ranges view) → IsKnownOf profile image site volume ranges (take (i + 1) views) kept
known-one profile image site volume ranges views i view None at is = tt
known-one profile image site volume ranges views i view (Some kept) at is = (view, (subst (In view) (sym (take-one views i view at)) (in-right view (take i views) (view ∷ []) (inl refl)), is))

pub known-kept : (profile : Profile) (image : List ℕ) (site : Site) (volume : Loaded) (ranges : List NewRange) (views : List View) (i : ℕ) (view : View) (kept : Option KnownView) → slice_get views i ≡ Some view → IsKnownOf profile image site volume ranges (take i views) kept → IsKnownOf profile image site volume ranges (take (i + 1) views) kept
known-kept profile image site volume ranges views i view None at is = tt
known-kept profile image site volume ranges views i view (Some kept) at is = (is.0, (subst (In is.0) (sym (take-one views i view at)) (in-left is.0 (take i views) (view ∷ []) is.1.0), is.1.1))

pub known-before : (profile : Profile) (image : List ℕ) (site : Site) (volume : Loaded) (ranges : List NewRange) (views : List View) (kept : Option KnownView) → IsKnownOf profile image site volume ranges views kept → IsKnownBefore profile image site volume ranges kept
known-before profile image site volume ranges views None is = tt
known-before profile image site volume ranges views (Some kept) is = (is.0, is.1.1)

-- the extents of what is kept of a view are those of the view
pub extents-known : (profile : Profile) (image : List ℕ) (site : Site) (volume : Loaded) (ranges : List NewRange) (views : List View) (kept : Option KnownView) → IsKnownOf profile image site volume ranges views kept → (x : ℕ × FileExt) → In x (extents_before kept) → In x (flat_map (view_extents image site volume) views)
extents-known profile image site volume ranges views None is x h = absurd h
extents-known profile image site volume ranges views (Some kept) is x h =
    in-flat_map (view_extents image site volume) is.0 x views is.1.0 (subst (λ fs. In x (map extent_of fs)) (ap (λ (facts : Facts). facts.extents) is.1.1.is.gathered.facts) h)

-- extents that are short, thinned
pub short-same : (block_size : ℕ) (xs ys : List (ℕ × FileExt)) → HaveSame xs ys → AreShortExtents block_size xs → AreShortExtents block_size ys
short-same block_size xs ys same short =
    all-in-list (λ (x : ℕ × FileExt). x.1.block + extent_blocks block_size x.1 < 2 ^ 64) ys (λ x h. in-all (λ (y : ℕ × FileExt). y.1.block + extent_blocks block_size y.1 < 2 ^ 64) xs short x ((same x).1 h))
  where
    in-all : {X : Type 0} (P : X → Type 0) (xs : List X) → All P xs → (x : X) → In x xs → P x
    in-all P [] all x h = absurd h
    in-all P (y ∷ ys) all x (inl e) = subst P (sym e) (All-head P y ys all)
    in-all P (y ∷ ys) all x (inr h) = in-all P ys (All-tail P y ys all) x h

-- the extents of a view that has its rules are holes, or end within the container
placed-short : (block_size blocks : ℕ) (e : FileExt) → is_extent_placed block_size blocks e ≡ true → is_hole e ≡ false → e.block + extent_blocks block_size e ≤ blocks
unfolding is_extent_placed
placed-short block_size blocks e placed some =
    let inside = other-true (is_hole e) _ some placed in
    upto-from (e.block + extent_blocks block_size e) blocks (right-true (nat_lt e.block (2 ^ 63)) _ inside)

fact-placed : (block_size blocks : ℕ) (f : Fact FileExt) → is_misplaced block_size blocks f ≡ false → is_extent_placed block_size blocks f.what ≡ true
unfolding is_misplaced
fact-placed block_size blocks f e = not-false (is_extent_placed block_size blocks f.what) e

pub extents-short : (profile : Profile) (image : List ℕ) (seen : Seen) (volume : Loaded) → IsReady image seen volume → (view : View) → HasViewRules profile image seen volume.head view → (site_of seen).blocks < 2 ^ 64 → AreShortOrHoles (site_of seen).block_size (view_extents image (site_of seen) volume view)
extents-short profile image seen volume r view rules low x h some =
    let site : Site = site_of seen in
    let facts : Facts = view_facts image site (volume_of image seen volume.head) view in
    let listed : In x (view_extents image site (volume_of image seen volume.head) view) = subst (λ (v : Loaded). In x (view_extents image site v view)) r.loaded.same h in
    let t = from-map extent_of facts.extents x listed in
    let placed = fact-placed site.block_size site.blocks t.0 (rules.facts.extent_places t.0 t.1.0) in
    let what : x.1 ≡ t.0.what = ap (λ (y : ℕ × FileExt). y.1) t.1.1 in
    let end : t.0.what.block + extent_blocks site.block_size t.0.what ≤ site.blocks = placed-short site.block_size site.blocks t.0.what placed (subst (λ (e : FileExt). is_hole e ≡ false) what some) in
    let ended : x.1.block + extent_blocks site.block_size x.1 ≤ site.blocks = subst (λ (e : FileExt). e.block + extent_blocks site.block_size e ≤ site.blocks) (sym what) end in
    omega arith
