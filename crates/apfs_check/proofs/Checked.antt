-- What a check answers of a container that it has found right.
use Rattle.std.proofs.Common.{◌≡◌, ◌∙◌, ℕ, ◌+◌, ◌-◌, ◌≤◌, List, [], ◌∷◌, ◌++◌, length, map, refl, sym, ap, subst, arith, append-nil}
use Rattle.std.specs.Prelude.{Option, None, Some, filter_map, min, sum}
use Rattle.std.specs.List.{cons_option, range_with_len}
use Rattle.std.proofs.lemmas.List.FromFn.{length-range_with_len}
use Rattle.std.proofs.lemmas.List.{length-map}
use Rattle.apfs_model.specs.Counts.{given}
use Rattle.apfs_model.specs.Lists.{In}
use Rattle.apfs_model.proofs.Empty.{none-flat}
use Rattle.apfs_model.proofs.Searches.{from-map}
use Rattle.nx_block.specs.Super.{slots}
use Rattle.nx_ring.specs.Checkpoint.{Seen, site_of}
use Rattle.vol_view.specs.Heads.{head_at, heads_of}
use Rattle.vol_view.specs.Volumes.{Loaded}
use Rattle.vol_view.specs.LoadStops.{IsLoadable}
use Rattle.vol_view.specs.Views.{views_of}
use Rattle.vol_view.specs.declared.head.VolHead.{VolHead}
use Rattle.reach_rules.specs.Accounted.{IsAccounted}
use Rattle.reach_rules.specs.Tally.{IsObjectCount, IsOwnedCount, IsTally}
use Rattle.reach_sweep.specs.Views.{head_of}
use Rattle.view_rules.specs.declared.notes.Note.{Note}
use Rattle.view_rules.specs.declared.profile.Profile.{Profile}
use Rattle.view_rules.specs.declared.profile.Profile.TheVariants.{Plain, Strict}
use Rattle.apfs_check.specs.Volumes.{volume_of}
use Rattle.apfs_check.specs.Notes.{skipped_notes, of_views, of_volumes, view_unnamed_notes, notes_of}
use Rattle.apfs_check.specs.Held.{Held, nothing_held, view_hashes, unreached_under, counts_under, AddsVolumes}
use Rattle.apfs_check.specs.Report.{view_count, records_of_volume, views_in, records_in, Told, IsChecked}
use Rattle.apfs_check.specs.Steps.{AreReady}
use Rattle.apfs_check.proofs.Browsed.{composed}

-- ---- the notes
notes-are : (profile : Profile) (image : List ℕ) (seen : Seen) →
    skipped_notes seen
    ++ (of_volumes (of_views (view_hashes profile)) image seen
    ++ (of_volumes (unreached_under profile) image seen
    ++ (of_volumes (of_views view_unnamed_notes) image seen
    ++ of_volumes (counts_under profile) image seen))) ≡ notes_of profile image seen
unfolding notes_of
notes-are Plain image seen = refl
notes-are Strict image seen =
    let heads : List VolHead = heads_of image seen in
    let hashes : of_volumes (of_views (view_hashes Strict)) image seen ≡ [] = none-flat (of_views (view_hashes Strict) image seen) heads (λ head one. none-flat (view_hashes Strict image seen head) (views_of (volume_of image seen head) seen) (λ view rooted. refl)) in
    let unreached : of_volumes (unreached_under Strict) image seen ≡ [] = none-flat (unreached_under Strict image seen) heads (λ head one. refl) in
    let counts : of_volumes (counts_under Strict) image seen ≡ [] = none-flat (counts_under Strict image seen) heads (λ head one. refl) in
    let unnamed : List Note = of_volumes (of_views view_unnamed_notes) image seen in
    ap (λ ns. skipped_notes seen ++ (ns ++ (of_volumes (unreached_under Strict) image seen ++ (unnamed ++ of_volumes (counts_under Strict) image seen)))) hashes
    ∙ (ap (λ ns. skipped_notes seen ++ (ns ++ (unnamed ++ of_volumes (counts_under Strict) image seen))) unreached
    ∙ (ap (λ ns. skipped_notes seen ++ (unnamed ++ ns)) counts ∙ ap (λ ns. skipped_notes seen ++ ns) (append-nil unnamed)))

-- ---- all that is told
views-are : (image : List ℕ) (seen : Seen) → sum (map (view_count image seen) (heads_of image seen)) ≡ views_in image seen
unfolding views_in
views-are image seen = refl

records-are : (image : List ℕ) (seen : Seen) → sum (map (records_of_volume image seen) (heads_of image seen)) ≡ records_in image seen
unfolding records_in
records-are image seen = refl

-- there are no more volumes than slots
chosen-few : {X Y : Type 0} (f : X → Option Y) (xs : List X) → length (filter_map f xs) ≤ length xs
chosen-few f [] = omega arith
chosen-few f (x ∷ xs) =
    let rest = chosen-few f xs in
    elim (f x) as (λ o. length (cons_option o (filter_map f xs)) ≤ length (x ∷ xs)) [ None ↦ omega arith | Some y ↦ omega arith ]

heads-few : (image : List ℕ) (seen : Seen) → length (heads_of image seen) ≤ slots
unfolding heads_of
heads-few image seen = omega (arith, chosen-few (head_at image seen) (range_with_len 0 slots), length-range_with_len 0 slots)

few-loaded : (image : List ℕ) (seen : Seen) (n : ℕ) → n ≡ length (heads_of image seen) → min n slots ≡ length (heads_of image seen)
few-loaded image seen n e = let few = heads-few image seen in omega arith

from-nothing : (n : ℕ) → given (0 + n) ≡ given n
from-nothing n = omega arith

pub checked : (profile : Profile) (image : List ℕ) (seen : Seen) (volumes : List Loaded) (objects owned : ℕ) (held : Held) (told : Told) → AreReady image seen volumes → IsAccounted image seen → IsTally image seen objects owned → AddsVolumes profile image seen (map head_of volumes) nothing_held held →
    told ≡ record {
      xid = seen.line.xid;
      volumes = min (length volumes) slots;
      views = given held.views;
      objects = objects;
      records = given held.records;
      used = owned;
      free = (site_of seen).blocks - owned;
      notes = skipped_notes seen ++ (held.hashes ++ (held.unreached ++ (held.unnamed ++ held.counts)));
    } → IsChecked profile image told
checked profile image seen volumes objects owned held told are accounted tally adds same =
    let heads : List VolHead = heads_of image seen in
    let all : AddsVolumes profile image seen heads nothing_held held = subst (λ hs. AddsVolumes profile image seen hs nothing_held held) (sym are.loaded.heads_are) adds in
    let loadable : (head : VolHead) → In head heads → IsLoadable image (site_of seen) head = λ head one.
    let t = from-map head_of volumes head (subst (In head) are.loaded.heads_are one) in
    subst (IsLoadable image (site_of seen)) (sym t.1.1) (are.loaded.loaded t.0 t.1.0).right in
    record {
      right = composed profile image seen are.newest accounted loadable all.right all.data_right;
      report = record {
        seen = seen;
        newest = are.newest;
        same = record {
          xid = ap (λ (t : Told). t.xid) same;
          volumes = ap (λ (t : Told). t.volumes) same ∙ few-loaded image seen (length volumes) (sym (length-map volumes head_of) ∙ ap (λ hs. length hs) (sym are.loaded.heads_are));
          views = ap (λ (t : Told). t.views) same ∙ (all.views ∙ (from-nothing (sum (map (view_count image seen) heads)) ∙ ap given (views-are image seen)));
          objects = subst (λ n. IsObjectCount image seen n) (sym (ap (λ (t : Told). t.objects) same)) tally.named;
          records = ap (λ (t : Told). t.records) same ∙ (all.records ∙ (from-nothing (sum (map (records_of_volume image seen) heads)) ∙ ap given (records-are image seen)));
          used = subst (λ n. IsOwnedCount image seen n) (sym (ap (λ (t : Told). t.used) same)) tally.held;
          free = ap (λ (t : Told). t.free) same ∙ ap (λ n. (site_of seen).blocks - n) (sym (ap (λ (t : Told). t.used) same));
          notes = ap (λ (t : Told). t.notes) same ∙ (notes-held all ∙ notes-are profile image seen);
        };
      };
    }
  where
    notes-held : {profile : Profile} {image : List ℕ} {seen : Seen} {held : Held} → AddsVolumes profile image seen (heads_of image seen) nothing_held held →
        skipped_notes seen ++ (held.hashes ++ (held.unreached ++ (held.unnamed ++ held.counts))) ≡
        skipped_notes seen
        ++ (of_volumes (of_views (view_hashes profile)) image seen
        ++ (of_volumes (unreached_under profile) image seen
        ++ (of_volumes (of_views view_unnamed_notes) image seen
        ++ of_volumes (counts_under profile) image seen)))
    notes-held all = cc (all.hashes, all.unreached, all.unnamed, all.counts)
