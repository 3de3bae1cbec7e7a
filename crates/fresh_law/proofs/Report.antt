-- What is told of a new container.
use Rattle.std.proofs.Common.{arith, ◌≡◌, ℕ, ◌-◌, ◌<◌, true, not, List, [], ◌∷◌, ◌++◌, map, length, Option, Some, inl, inr, refl, ap, sym, ◌∙◌, subst}
use Rattle.std.specs.Prelude.{flat_map, sum}
use Rattle.std.specs.List.{range_with_len}
use Rattle.apfs_model.specs.Apart.{Apart}
use Rattle.apfs_model.specs.Counts.{given}
use Rattle.apfs_model.specs.Lists.{In, has, is_distinct}
use Rattle.apfs_model.proofs.BoolTests.{clash, left-true, right-true, not-true, below-from, from-below, in-range, from-range}
use Rattle.apfs_model.proofs.Finite.{apart-range}
use Rattle.apfs_model.proofs.Searches.{in-has, in-map, from-map}
use Rattle.fs_name.specs.Text.{is_ascii_name}
use Rattle.obj_base.specs.declared.site.Site.{Site}
use Rattle.nx_ring.specs.Checkpoint.{site_of}
use Rattle.vol_view.specs.Heads.{heads_of}
use Rattle.vol_view.specs.Volumes.{Loaded}
use Rattle.vol_view.specs.Views.{views_of, view_flat}
use Rattle.vol_view.specs.declared.head.VolHead.{VolHead}
use Rattle.vol_view.specs.declared.volume.View.{View}
use Rattle.reach_rules.specs.declared.naming.Object.{Object}
use Rattle.reach_rules.specs.declared.naming.Object.TheVariants.{Newest, InBlock, OfId, OfRecord}
use Rattle.reach_rules.specs.Resolved.{Found, resolved}
use Rattle.reach_rules.specs.Live.{IsNamed, newest, named}
use Rattle.reach_rules.specs.Tally.{IsObjectCount, IsOwnedBlock, IsOwnedCount}
use Rattle.reach_rules.proofs.Nexts.{each-in}
use Rattle.view_rules.specs.Facts.{Facts}
use Rattle.view_rules.specs.Rules.{view_facts}
use Rattle.view_rules.specs.Names.{has_other_name_hash}
use Rattle.view_rules.specs.declared.profile.Profile.{Profile}
use Rattle.view_rules.specs.declared.profile.Profile.TheVariants.{Plain, Strict}
use Rattle.tree_rules.specs.Notes.{hash_notes, is_unnamed, unnamed_notes}
use Rattle.view_rules.specs.declared.notes.Note.{Note}
use Rattle.apfs_check.specs.Data.{HasRightData}
use Rattle.apfs_check.specs.Notes.{of_views, of_volumes, view_hash_notes, view_unnamed_notes, unreached_note, unreached_notes, count_note, count_notes, notes_of}
use Rattle.apfs_check.specs.Report.{view_count, views_in, records_of_volume, records_in, IsToldOf}
use Rattle.apfs_check.specs.Volumes.{volume_of}
use Rattle.img_format.specs.declared.spec.Spec.{Spec}
use Rattle.img_format.specs.Fresh.{fresh}
use Rattle.img_format.specs.Valid.{IsValid}
use Rattle.fresh_law.specs.Facts.{IsFresh}
use Rattle.fresh_law.proofs.Fresh.{fresh-says}
use Rattle.fresh_law.specs.Checkpoint.{seen}
use Rattle.fresh_law.specs.Law.{FreshReported}
use Rattle.fresh_law.specs.Report.{fresh_report}
use Rattle.fresh_law.proofs.Sites.{site-is}
use Rattle.fresh_law.proofs.Roots as known
use Rattle.fresh_law.proofs.Rows.{IsRow, all-rows}
use Rattle.fresh_law.proofs.Named.{live-has, rows-live}
use Rattle.fresh_law.proofs.Newest as checkpoints
use Rattle.fresh_law.proofs.Bits.{marked-is, all-marked}
use Rattle.fresh_law.proofs.Files.{told}
use Rattle.fresh_law.proofs.Volumes.{head, heads-are, loaded, loaded-is, live, flat-is, facts-told, right-volume}

-- ---- the named objects: the newest superblock, and one for each row
abbrev object_in : known.Row → Object
object_in row = row.object

abbrev objects : List Object
objects = Newest ∷ map object_in known.rows

object-named : (spec : Spec) (image : List ℕ) → IsValid spec → IsFresh spec image → (x : Object) → In x objects → IsNamed image (seen image) x
object-named spec image v f x (inl e) = subst (IsNamed image (seen image)) (sym e) newest
object-named spec image v f x (inr h) =
    let r = from-map object_in known.rows x h in
    let i = each-in (IsRow image) known.rows r.0 (all-rows spec image v f) r.1.0 in
    subst (IsNamed image (seen image)) (sym r.1.1) (named r.0.naming (known.found image r.0) (record { live = rows-live spec image v f r.0 r.1.0; found = i.named }))

found-object : (a b : Option Found) (x y : Found) → a ≡ b → a ≡ Some x → b ≡ Some y → x.object ≡ y.object
found-object a b x y e p q =
    let same : x ≡ y = cc in
    ap (λ (s : Found). s.object) same

named-object : (spec : Spec) (image : List ℕ) → IsValid spec → IsFresh spec image → (x : Object) → IsNamed image (seen image) x → In x objects
named-object spec image v f x (newest) = inl refl
named-object spec image v f x (named n g s) =
    let r = live-has spec image v f n s.live in
    let i = each-in (IsRow image) known.rows r.row (all-rows spec image v f) r.one in
    let same : r.row.object ≡ g.object = found-object (resolved image (seen image) r.row.naming) (resolved image (seen image) n) (known.found image r.row) g (ap (λ m. resolved image (seen image) m) r.same) i.named s.found in
    inr (subst (λ o. In o (map object_in known.rows)) same (in-map object_in known.rows r.row r.one))

-- they are told apart by a number
abbrev number_of : Object → ℕ
number_of Newest = 0
number_of (InBlock block) = block
number_of (OfId oid) = oid
number_of (OfRecord map found) = found.oid

apart-by : (xs : List Object) → is_distinct (map number_of xs) ≡ true → Apart xs
apart-by [] d = tt
apart-by (x ∷ xs) d = (
  λ h. clash (has (map number_of xs) (number_of x)) (in-has (number_of x) (map number_of xs) (in-map number_of xs x h))
      (not-true (has (map number_of xs) (number_of x)) (left-true (not (has (map number_of xs) (number_of x))) (is_distinct (map number_of xs)) d)),
  apart-by xs (right-true (not (has (map number_of xs) (number_of x))) (is_distinct (map number_of xs)) d),
)

objects-are : (spec : Spec) (image : List ℕ) → IsValid spec → IsFresh spec image → IsObjectCount image (seen image) 14
objects-are spec image v f = record { all = objects; lists = (object-named spec image v f, named-object spec image v f); apart = apart-by objects refl; same = refl }

-- ---- the used blocks: the first 57
block-low : (spec : Spec) (image : List ℕ) → IsFresh spec image → (block : ℕ) → block < spec.blocks → block < (site_of (seen image)).blocks
block-low spec image f block low = subst (λ (s : Site). block < s.blocks) (sym (site-is spec image f)) low

low-block : (spec : Spec) (image : List ℕ) → IsFresh spec image → (block : ℕ) → block < (site_of (seen image)).blocks → block < spec.blocks
low-block spec image f block low = subst (λ (s : Site). block < s.blocks) (site-is spec image f) low

used-owned : (spec : Spec) (image : List ℕ) → IsValid spec → IsFresh spec image → (block : ℕ) → In block (range_with_len 0 57) → IsOwnedBlock image (seen image) block
used-owned spec image v f block h =
    let below : block < 57 = from-range 0 57 block h in
    let low : block < spec.blocks = omega (arith, below, v.least) in
    record { low = block-low spec image f block low; owned = (all-marked spec image v f block low).0 (marked-is spec image v f block low ∙ from-below block 57 below) }

owned-used : (spec : Spec) (image : List ℕ) → IsValid spec → IsFresh spec image → (block : ℕ) → IsOwnedBlock image (seen image) block → In block (range_with_len 0 57)
owned-used spec image v f block o =
    let low = low-block spec image f block o.low in
    let below : block < 57 = below-from block 57 (sym (marked-is spec image v f block low) ∙ (all-marked spec image v f block low).1 o.owned) in
    in-range 0 57 block (omega arith) (omega (arith, below))

used-is : (spec : Spec) (image : List ℕ) → IsValid spec → IsFresh spec image → IsOwnedCount image (seen image) 57
used-is spec image v f = record { all = range_with_len 0 57; lists = (used-owned spec image v f, owned-used spec image v f); apart = apart-range 0 57; same = refl }

free-is : (spec : Spec) (image : List ℕ) → IsFresh spec image → spec.blocks - 57 ≡ (site_of (seen image)).blocks - 57
free-is spec image f = ap (λ (s : Site). s.blocks - 57) (sym (site-is spec image f))

-- ---- the views and their records
volumes-are : (spec : Spec) (image : List ℕ) → IsValid spec → IsFresh spec image → 1 ≡ length (heads_of image (seen image))
volumes-are spec image v f = ap (λ (hs : List VolHead). length hs) (sym (heads-are spec image v f))

views-are : (spec : Spec) (image : List ℕ) → IsValid spec → IsFresh spec image → views_in image (seen image) ≡ 1
unfolding views_in
views-are spec image v f =
    ap (λ hs. sum (map (view_count image (seen image)) hs)) (heads-are spec image v f)
    ∙ ap (λ (l : Loaded). sum (length (views_of l (seen image)) ∷ [])) (loaded-is spec image v f)

records-are : (spec : Spec) (image : List ℕ) → IsValid spec → IsFresh spec image → records_in image (seen image) ≡ 4
unfolding records_in
records-are spec image v f =
    ap (λ hs. sum (map (records_of_volume image (seen image)) hs)) (heads-are spec image v f)
    ∙ ap (λ (l : Loaded). sum (sum (map (λ view. length (view_flat image (site_of (seen image)) l view)) (views_of l (seen image))) ∷ [])) (loaded-is spec image v f)
    ∙ ap (λ s. sum (sum (length (view_flat image s (loaded spec image) live) ∷ []) ∷ [])) (site-is spec image f)
    ∙ ap (λ ps. sum (sum (length ps ∷ []) ∷ [])) (flat-is spec image v f)

-- ---- the notes: none
-- the notes of one kind are those of the one view
one-view : (spec : Spec) (image : List ℕ) → IsValid spec → IsFresh spec image → (kind : View → Facts → List Note) → kind live told ≡ [] →
    flat_map (λ (h : VolHead). flat_map (λ view. kind view (view_facts image (site_of (seen image)) (volume_of image (seen image) h) view)) (views_of (volume_of image (seen image) h) (seen image))) (heads_of image (seen image)) ≡ []
one-view spec image v f kind none =
    ap (λ hs. flat_map (λ (h : VolHead). flat_map (λ view. kind view (view_facts image (site_of (seen image)) (volume_of image (seen image) h) view)) (views_of (volume_of image (seen image) h) (seen image))) hs) (heads-are spec image v f)
    ∙ ap (λ (l : Loaded). flat_map (λ view. kind view (view_facts image (site_of (seen image)) l view)) (views_of l (seen image)) ++ []) (loaded-is spec image v f)
    ∙ ap (λ s. (kind live (view_facts image s (loaded spec image) live) ++ []) ++ []) (site-is spec image f)
    ∙ ap (λ facts. (kind live facts ++ []) ++ []) (facts-told spec image v f)
    ∙ ap (λ (notes : List Note). (notes ++ []) ++ []) none

no-hash-notes : hash_notes live told ≡ []
unfolding has_other_name_hash is_ascii_name
no-hash-notes = refl

no-unnamed-notes : unnamed_notes live told ≡ []
unfolding is_unnamed
no-unnamed-notes = refl

right-data : (spec : Spec) (image : List ℕ) → IsValid spec → IsFresh spec image → HasRightData image (seen image) (head spec)
right-data spec image v f = (right-volume Strict spec image v f).ranges refl

no-unreached : (spec : Spec) (image : List ℕ) → IsValid spec → IsFresh spec image → of_volumes unreached_notes image (seen image) ≡ []
no-unreached spec image v f =
    ap (λ hs. flat_map (unreached_notes image (seen image)) hs) (heads-are spec image v f)
    ∙ ap (λ runs. map (unreached_note (head spec)) runs ++ []) (right-data spec image v f).reached

no-counts : (spec : Spec) (image : List ℕ) → IsValid spec → IsFresh spec image → of_volumes count_notes image (seen image) ≡ []
no-counts spec image v f =
    ap (λ hs. flat_map (count_notes image (seen image)) hs) (heads-are spec image v f)
    ∙ ap (λ rs. map (count_note image (seen image) (head spec)) rs ++ []) (right-data spec image v f).counted

no-notes : (profile : Profile) (spec : Spec) (image : List ℕ) → IsValid spec → IsFresh spec image → [] ≡ notes_of profile image (seen image)
unfolding notes_of
no-notes Plain spec image v f =
    let hashes : of_volumes (of_views view_hash_notes) image (seen image) ≡ [] = one-view spec image v f hash_notes no-hash-notes in
    let unnamed : of_volumes (of_views view_unnamed_notes) image (seen image) ≡ [] = one-view spec image v f unnamed_notes no-unnamed-notes in
    sym (ap (λ (hs : List Note). hs ++ (of_volumes unreached_notes image (seen image) ++ (of_volumes (of_views view_unnamed_notes) image (seen image) ++ of_volumes count_notes image (seen image)))) hashes
    ∙ ap (λ (us : List Note). us ++ (of_volumes (of_views view_unnamed_notes) image (seen image) ++ of_volumes count_notes image (seen image))) (no-unreached spec image v f)
    ∙ ap (λ (ns : List Note). ns ++ of_volumes count_notes image (seen image)) unnamed
    ∙ no-counts spec image v f)
no-notes Strict spec image v f = sym (one-view spec image v f unnamed_notes no-unnamed-notes)

-- ---- the report
pub told-of : (profile : Profile) (spec : Spec) (image : List ℕ) → IsValid spec → IsFresh spec image → IsToldOf profile image (seen image) (fresh_report spec.blocks)
told-of profile spec image v f = record {
  xid = refl;
  volumes = volumes-are spec image v f;
  views = ap given (sym (views-are spec image v f));
  objects = objects-are spec image v f;
  records = ap given (sym (records-are spec image v f));
  used = used-is spec image v f;
  free = free-is spec image f;
  notes = no-notes profile spec image v f;
}

pub fresh-reported : FreshReported
fresh-reported spec v profile = record {
  seen = seen (fresh spec);
  newest = checkpoints.newest spec (fresh spec) v (fresh-says spec v);
  same = told-of profile spec (fresh spec) v (fresh-says spec v);
}
