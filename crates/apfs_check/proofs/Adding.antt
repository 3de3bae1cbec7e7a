-- How what is told of views and of volumes adds up.
use Rattle.std.proofs.Common.{◌≡◌, ◌∙◌, ℕ, ◌+◌, ◌<◌, List, [], ◌∷◌, ◌++◌, length, get_or, take, map, refl, sym, ap, subst, inl, inr, arith, append_assoc, append-nil}
use Rattle.std.specs.Prelude.{flat_map, sum, filter}
use Rattle.std.proofs.lemmas.Grind.{flat_map-append}
use Rattle.std.proofs.lemmas.List.{map-append, get_or_default, take_more}
use Rattle.std.proofs.lemmas.List.Sums.{sum_by-append}
use Rattle.apfs_model.specs.Counts.{given}
use Rattle.apfs_model.specs.Lists.{In}
use Rattle.obj_base.specs.declared.site.Site.{Site}
use Rattle.nx_ring.specs.Checkpoint.{Seen, site_of}
use Rattle.vol_view.specs.Volumes.{Loaded}
use Rattle.vol_view.specs.LoadStops.{IsVolumeOf}
use Rattle.vol_view.specs.Views.{views_of, view_flat}
use Rattle.vol_view.specs.declared.head.VolHead.{VolHead}
use Rattle.vol_view.specs.declared.volume.View.{View}
use Rattle.ext_ref.specs.declared.range.NewRange.{NewRange}
use Rattle.reach_sweep.specs.Account.{AreLoadedOf}
use Rattle.reach_sweep.specs.Views.{head_of}
use Rattle.view_rules.specs.declared.notes.Note.{Note}
use Rattle.tree_rules.specs.Tallies as tallies
use Rattle.view_rules.specs.Rules.{view_facts, HasTreeRules}
use Rattle.view_rules.specs.declared.profile.Profile.{Profile}
use Rattle.view_rules.specs.declared.profile.Profile.TheVariants.{Plain, Strict}
use Rattle.apfs_check.specs.Volumes.{volume_of, volume_ranges}
use Rattle.apfs_check.specs.Notes as notes
use Rattle.apfs_check.specs.NoteTests as tests
use Rattle.apfs_check.specs.Data.{HasRightData}
use Rattle.apfs_check.specs.WellFormed.{HasViewRules}
use Rattle.apfs_check.specs.Held.{Held, view_hashes, unreached_under, counts_under, AddsViews, AddsData, AddsVolumes}
use Rattle.apfs_check.specs.Report.{view_count, record_count, records_of_volume}
use Rattle.apfs_check.specs.Steps.{IsReady}
use Rattle.omap_map.proofs.Lists.{contains-in}
use Rattle.apfs_check.specs.Again.{HaveOneTree, IsPassed}
use Rattle.apfs_check.specs.declared.views.Passed.{Passed}
use Rattle.apfs_check.proofs.Again.{passed-again}
use Rattle.apfs_check.proofs.NoteKinds.{view-unnamed, view-hash, hash-kind}

-- ---- counts that stand at the greatest number
pub counts-more : (a b c m n : ℕ) → given b ≡ given (a + m) → given c ≡ given (b + n) → given c ≡ given (a + (m + n))
counts-more a b c m n p q = omega arith

-- ---- lists
pub sum-append : {X : Type 0} (f : X → ℕ) (xs ys : List X) → sum (map f (xs ++ ys)) ≡ sum (map f xs) + sum (map f ys)
sum-append f xs ys = ap sum (map-append f xs ys) ∙ sum_by-append (λ n. n) (map f xs) (map f ys)

-- what a list was added to twice
pub appended-more : {X Y : Type 0} (f : X → List Y) (xs ys : List X) (a b c : List Y) → b ≡ a ++ flat_map f xs → c ≡ b ++ flat_map f ys → c ≡ a ++ flat_map f (xs ++ ys)
appended-more f xs ys a b c p q = q ∙ (ap (λ zs. zs ++ flat_map f ys) p ∙ (append_assoc a (flat_map f xs) (flat_map f ys) ∙ ap (λ zs. a ++ zs) (sym (flat_map-append f xs ys))))

in-either : {X : Type 0} (x : X) (xs ys : List X) (P : X → Type 0) → ((y : X) → In y xs → P y) → ((y : X) → In y ys → P y) → In x (xs ++ ys) → P x
in-either x [] ys P p q h = q x h
in-either x (y ∷ xs) ys P p q (inl e) = p x (inl e)
in-either x (y ∷ xs) ys P p q (inr h) = in-either x xs ys P (λ z k. p z (inr k)) q h

-- the items of a list up to a place, and the one at that place
pub one-taken : {X : Type 0} (xs : List X) (i : ℕ) (x : X) → i < length xs → x ≡ get_or xs i x → take (i + 1) xs ≡ take i xs ++ x ∷ []
one-taken xs i x low e = take_more xs i x low ∙ ap (λ y. take i xs ++ y ∷ []) (sym e)

pub item-in : {X : Type 0} (xs : List X) (i : ℕ) (x : X) → i < length xs → x ≡ get_or xs i x → In x xs
item-in xs i x low e = contains-in xs x i low (sym e)

-- the item at a place, whatever stands for one beyond the end
pub at-place : {X : Type 0} (xs : List X) (i : ℕ) (d : X) → i < length xs → get_or xs i d ≡ get_or xs i (get_or xs i d)
at-place xs i d low = get_or_default xs i d (get_or xs i d) low

-- what items up to a place were added to, with the next one
pub items-more : {X : Type 0} (xs : List X) (i : ℕ) (x : X) (a b c : List X) → i < length xs → x ≡ get_or xs i x → b ≡ a ++ take i xs → c ≡ b ++ x ∷ [] → c ≡ a ++ take (i + 1) xs
items-more xs i x a b c low e p q = q ∙ (ap (λ ys. ys ++ x ∷ []) p ∙ (append_assoc a (take i xs) (x ∷ []) ∙ ap (λ ys. a ++ ys) (sym (one-taken xs i x low e))))

-- the same of what is mapped first
pub mapped-more : {X Y Z : Type 0} (f : Y → List Z) (m : X → Y) (xs : List X) (i : ℕ) (x : X) (a b c : List Z) → i < length xs → x ≡ get_or xs i x → b ≡ a ++ flat_map f (map m (take i xs)) → c ≡ b ++ f (m x) → c ≡ a ++ flat_map f (map m (take (i + 1) xs))
mapped-more f m xs i x a b c low e p q =
    appended-more f (map m (take i xs)) (m x ∷ []) a b c p (q ∙ ap (λ ys. b ++ ys) (sym (append-nil (f (m x)))))
    ∙ ap (λ ys. a ++ flat_map f ys) (sym (map-append m (take i xs) (x ∷ [])) ∙ ap (map m) (sym (one-taken xs i x low e)))

pub more-views : (profile : Profile) (image : List ℕ) (seen : Seen) (head : VolHead) (xs ys : List View) (a b c : Held) → AddsViews profile image seen head xs a b → AddsViews profile image seen head ys b c → AddsViews profile image seen head (xs ++ ys) a c
more-views profile image seen head xs ys a b c p q = record {
  right = λ view h. in-either view xs ys (HasViewRules profile image seen head) p.right q.right h;
  records = counts-more a.records b.records c.records _ _ p.records q.records ∙ ap (λ n. given (a.records + n)) (sym (sum-append (record_count image seen head) xs ys));
  hashes = appended-more (view_hashes profile image seen head) xs ys a.hashes b.hashes c.hashes p.hashes q.hashes;
  unnamed = appended-more (notes.view_unnamed_notes image seen head) xs ys a.unnamed b.unnamed c.unnamed p.unnamed q.unnamed;
  views_same = q.views_same ∙ p.views_same;
  unreached_same = q.unreached_same ∙ p.unreached_same;
  counts_same = q.counts_same ∙ p.counts_same;
}

pub more-volumes : (profile : Profile) (image : List ℕ) (seen : Seen) (xs ys : List VolHead) (a b c : Held) → AddsVolumes profile image seen xs a b → AddsVolumes profile image seen ys b c → AddsVolumes profile image seen (xs ++ ys) a c
more-volumes profile image seen xs ys a b c p q = record {
  right = λ head h. in-either head xs ys (λ head. (view : View) → In view (views_of (volume_of image seen head) seen) → HasViewRules profile image seen head view) p.right q.right h;
  data_right = λ head h. in-either head xs ys (λ head. profile ≡ Strict → HasRightData image seen head) p.data_right q.data_right h;
  views = counts-more a.views b.views c.views _ _ p.views q.views ∙ ap (λ n. given (a.views + n)) (sym (sum-append (view_count image seen) xs ys));
  records = counts-more a.records b.records c.records _ _ p.records q.records ∙ ap (λ n. given (a.records + n)) (sym (sum-append (records_of_volume image seen) xs ys));
  hashes = appended-more (notes.of_views (view_hashes profile) image seen) xs ys a.hashes b.hashes c.hashes p.hashes q.hashes;
  unreached = appended-more (unreached_under profile image seen) xs ys a.unreached b.unreached c.unreached p.unreached q.unreached;
  unnamed = appended-more (notes.of_views notes.view_unnamed_notes image seen) xs ys a.unnamed b.unnamed c.unnamed p.unnamed q.unnamed;
  counts = appended-more (counts_under profile image seen) xs ys a.counts b.counts c.counts p.counts q.counts;
}

-- ---- one volume: its views, their number, and its data
pub one-volume : (profile : Profile) (image : List ℕ) (seen : Seen) (volume : Loaded) (a b c d : Held) → volume ≡ volume_of image seen volume.head → AddsViews profile image seen volume.head (views_of volume seen) a b → c ≡ record b { views = given (b.views + length (views_of volume seen)) } →
    AddsData profile image seen volume.head c d → AddsVolumes profile image seen (volume.head ∷ []) a d
one-volume profile image seen volume a b c d same p e q =
    let head = volume.head in
    let Right : Loaded → Type 0 = λ v. (view : View) → In view (views_of v seen) → HasViewRules profile image seen head view in
    let views : AddsViews profile image seen head (views_of (volume_of image seen head) seen) a b = subst (λ (v : Loaded). AddsViews profile image seen head (views_of v seen) a b) same p in
    let count : length (views_of volume seen) ≡ view_count image seen head = ap (λ (v : Loaded). length (views_of v seen)) same in
    let counted : c.views ≡ given (b.views + view_count image seen head) = ap (λ (h : Held). h.views) e ∙ ap (λ n. given (b.views + n)) count in
    let recorded : c.records ≡ b.records = ap (λ (h : Held). h.records) e in
    record {
      right = λ other one. in-single other head (λ h. (view : View) → In view (views_of (volume_of image seen h) seen) → HasViewRules profile image seen h view) views.right one;
      data_right = λ other one. in-single other head (λ h. profile ≡ Strict → HasRightData image seen h) q.right one;
      views = ap given (q.views_same ∙ counted) ∙ given-one a.views b.views (view_count image seen head) views.views_same;
      records = ap given (q.records_same ∙ recorded) ∙ (views.records ∙ ap (λ n. given (a.records + n)) (sum-one (records_of_volume image seen head)));
      hashes = q.hashes_same ∙ (ap (λ (h : Held). h.hashes) e ∙ (views.hashes ∙ ap (λ ns. a.hashes ++ ns) (sym (append-nil _))));
      unreached = q.unreached ∙ (ap (λ (h : Held). h.unreached ++ unreached_under profile image seen head) e ∙ (ap (λ ns. ns ++ unreached_under profile image seen head) views.unreached_same ∙ ap (λ ns. a.unreached ++ ns) (sym (append-nil _))));
      unnamed = q.unnamed_same ∙ (ap (λ (h : Held). h.unnamed) e ∙ (views.unnamed ∙ ap (λ ns. a.unnamed ++ ns) (sym (append-nil _))));
      counts = q.counts ∙ (ap (λ (h : Held). h.counts ++ counts_under profile image seen head) e ∙ (ap (λ ns. ns ++ counts_under profile image seen head) views.counts_same ∙ ap (λ ns. a.counts ++ ns) (sym (append-nil _))));
    }
  where
    in-single : {X : Type 0} (x y : X) (P : X → Type 0) → P y → In x (y ∷ []) → P x
    in-single x y P p (inl e) = subst P (sym e) p
    in-single x y P p (inr h) = absurd h

    given-one : (a b n : ℕ) → b ≡ a → given (given (b + n)) ≡ given (a + (0 + n))
    given-one a b n e = omega arith

    sum-one : (n : ℕ) → n ≡ 0 + n
    sum-one n = omega arith

-- ---- one view
hashes-of : (profile : Profile) (image : List ℕ) (seen : Seen) (head : VolHead) (view : View) → filter tests.is_hash_note (tallies.notes_of profile view (view_facts image (site_of seen) (volume_of image seen head) view)) ≡ view_hashes profile image seen head view
hashes-of Plain image seen head view = view-hash image seen head view
hashes-of Strict image seen head view = hash-kind Strict view (view_facts image (site_of seen) (volume_of image seen head) view)

-- so many records and these notes of a view are added
pub record PutsView (records : ℕ) (noted : List Note) (old new : Held) : Type 0 where
  pub records_added : new.records ≡ given (old.records + records)
  pub hashes : new.hashes ≡ old.hashes ++ filter tests.is_hash_note noted
  pub unnamed : new.unnamed ≡ old.unnamed ++ filter tests.is_unnamed_note noted
  pub views_same : new.views ≡ old.views
  pub unreached_same : new.unreached ≡ old.unreached
  pub counts_same : new.counts ≡ old.counts

pub one-view : (profile : Profile) (image : List ℕ) (seen : Seen) (head : VolHead) (view : View) (records : ℕ) (noted : List Note) (a b : Held) → HasViewRules profile image seen head view → records ≡ given (record_count image seen head view) → noted ≡ tallies.notes_of profile view (view_facts image (site_of seen) (volume_of image seen head) view) →
    PutsView records noted a b → AddsViews profile image seen head (view ∷ []) a b
one-view profile image seen head view records noted a b rules counted told put = record {
  right = λ other one. in-single other view (HasViewRules profile image seen head) rules one;
  records = ap given (put.records_added ∙ ap (λ n. given (a.records + n)) counted) ∙ given-one a.records (record_count image seen head view);
  hashes = put.hashes ∙ ap (λ ns. a.hashes ++ ns) (ap (filter tests.is_hash_note) told ∙ (hashes-of profile image seen head view ∙ sym (append-nil _)));
  unnamed = put.unnamed ∙ ap (λ ns. a.unnamed ++ ns) (ap (filter tests.is_unnamed_note) told ∙ (view-unnamed profile image seen head view ∙ sym (append-nil _)));
  views_same = put.views_same;
  unreached_same = put.unreached_same;
  counts_same = put.counts_same;
}
  where
    in-single : {X : Type 0} (x y : X) (P : X → Type 0) → P y → In x (y ∷ []) → P x
    in-single x y P p (inl e) = subst P (sym e) p
    in-single x y P p (inr h) = absurd h

    given-one : (a n : ℕ) → given (given (a + given n)) ≡ given (a + (0 + n))
    given-one a n = omega arith

-- a view of a volume that was loaded, by what its check tells
pub view-added : (profile : Profile) (image : List ℕ) (seen : Seen) (site : Site) (volume : Loaded) (view : View) (ranges : List NewRange) (records : ℕ) (noted : List Note) (a b : Held) → IsReady image seen volume → site ≡ site_of seen → ranges ≡ volume_ranges image (site_of seen) volume.head →
    HasTreeRules profile image site volume view ranges → records ≡ given (length (view_flat image site volume view)) → noted ≡ tallies.notes_of profile view (view_facts image site volume view) → PutsView records noted a b → AddsViews profile image seen volume.head (view ∷ []) a b
view-added profile image seen site volume view ranges records noted a b ready here same rules counted told put =
    let head = volume.head in
    let has : HasViewRules profile image seen head view = subst (λ (v : Loaded). HasTreeRules profile image (site_of seen) v view (volume_ranges image (site_of seen) head)) ready.loaded.same
    (subst (λ (s : Site). HasTreeRules profile image s volume view (volume_ranges image (site_of seen) head)) here (subst (λ rs. HasTreeRules profile image site volume view rs) same rules)) in
    let counts : records ≡ given (record_count image seen head view) = subst (λ (v : Loaded). records ≡ given (length (view_flat image (site_of seen) v view))) ready.loaded.same (subst (λ (s : Site). records ≡ given (length (view_flat image s volume view))) here counted) in
    let tells : noted ≡ tallies.notes_of profile view (view_facts image (site_of seen) (volume_of image seen head) view) =
    subst (λ (v : Loaded). noted ≡ tallies.notes_of profile view (view_facts image (site_of seen) v view)) ready.loaded.same (subst (λ (s : Site). noted ≡ tallies.notes_of profile view (view_facts image s volume view)) here told) in
    one-view profile image seen head view records noted a b has counts tells put

-- a view that has the tree of one that passed, by the number of its records
pub again-added : (profile : Profile) (image : List ℕ) (seen : Seen) (volume : Loaded) (ranges : List NewRange) (views : List View) (passed : Passed) (view : View) (a b : Held) → IsReady image seen volume → ranges ≡ volume_ranges image (site_of seen) volume.head →
    IsPassed profile image (site_of seen) volume ranges views passed → HaveOneTree volume passed.view view → b ≡ record a { records = given (a.records + passed.records) } → AddsViews profile image seen volume.head (view ∷ []) a b
again-added profile image seen volume ranges views passed view a b ready same is one e =
    let now = passed-again profile image (site_of seen) volume ranges views passed view is one in
    view-added profile image seen (site_of seen) volume view ranges passed.records [] a b ready refl same now.rules now.records (sym now.notes)
    (record {
      records_added = ap (λ (h : Held). h.records) e;
      hashes = ap (λ (h : Held). h.hashes) e ∙ sym (append-nil a.hashes);
      unnamed = ap (λ (h : Held). h.unnamed) e ∙ sym (append-nil a.unnamed);
      views_same = ap (λ (h : Held). h.views) e;
      unreached_same = ap (λ (h : Held). h.unreached) e;
      counts_same = ap (λ (h : Held). h.counts) e;
    })

-- ---- the volumes that were loaded
pub loaded-more : (image : List ℕ) (seen : Seen) (heads : List VolHead) (volumes : List Loaded) (head : VolHead) (volume : Loaded) → AreLoadedOf image seen heads volumes → IsVolumeOf image (site_of seen) head volume → volume.head ≡ head → AreLoadedOf image seen (heads ++ head ∷ []) (volumes ++ volume ∷ [])
loaded-more image seen heads volumes head volume are one same = record {
  heads_are = ap (λ hs. hs ++ head ∷ []) are.heads_are ∙ (ap (λ h. map head_of volumes ++ h ∷ []) (sym same) ∙ sym (map-append head_of volumes (volume ∷ [])));
  loaded = λ other h. in-either other volumes (volume ∷ []) (λ v. IsVolumeOf image (site_of seen) v.head v) are.loaded (λ v k. last v k) h;
}
  where
    last : (v : Loaded) → In v (volume ∷ []) → IsVolumeOf image (site_of seen) v.head v
    last v (inl e) = subst (λ (w : Loaded). IsVolumeOf image (site_of seen) w.head w) (sym e) (subst (λ (h : VolHead). IsVolumeOf image (site_of seen) h volume) (sym same) one)
    last v (inr h) = absurd h
