-- What is told of a volume's data, as the definitions have it.
use Rattle.std.proofs.Common.{◌≡◌, ◌∙◌, ℕ, ◌+◌, ◌<◌, pos, Bool, true, false, List, [], ◌∷◌, ◌++◌, length, get_or, take, map, arith, refl, sym, ap, subst}
use Rattle.std.specs.Prelude.{◌^◌, not, filter, if◌then◌else◌}
use Rattle.std.specs.Ordering.{int_eq}
use Rattle.std.proofs.Math.Path.{fun_ext}
use Rattle.std.proofs.lemmas.List.{map-append, get_or-map, take_more}
use Rattle.std.proofs.lemmas.List.Elements.{filter-append}
use Rattle.apfs_model.specs.Counts.{given}
use Rattle.apfs_model.specs.Lists.{In}
use Rattle.apfs_model.proofs.Empty.{map-none}
use Rattle.apfs_model.proofs.Searches.{from-map}
use Rattle.obj_base.specs.Stops.{Tells, NoFeature}
use Rattle.obj_base.specs.declared.stop.Stop.{Stop}
use Rattle.obj_base.specs.declared.stop.Stop.TheVariants.{Found, Unsupported}
use Rattle.nx_ring.specs.Checkpoint.{Seen, site_of}
use Rattle.fs_record.specs.declared.extents.FileExt.{FileExt}
use Rattle.vol_view.specs.Volumes.{Loaded}
use Rattle.vol_view.specs.declared.head.VolHead.{VolHead}
use Rattle.ext_ref.specs.References.{streams_of}
use Rattle.ext_ref.specs.Scanned.{references_of}
use Rattle.ext_ref.specs.Same.{HaveSame}
use Rattle.ext_ref.specs.Unreached.{unreached_runs}
use Rattle.ext_ref.specs.declared.range.NewRange.{NewRange}
use Rattle.view_rules.specs.declared.profile.Profile.{Profile}
use Rattle.view_rules.specs.declared.profile.Profile.TheVariants.{Strict}
use Rattle.apfs_check.specs.Volumes.{volume_of, volume_ranges, volume_extents}
use Rattle.apfs_check.specs.Data.{has_no_snapshots, is_miscounted, unreached_in, miscounted_in, streams_in}
use Rattle.apfs_check.specs.Notes.{unreached_note, count_note}
use Rattle.apfs_check.specs.Present.{IsPresent}
use Rattle.apfs_check.specs.Held.{Held, unless_strict, AddsData}
use Rattle.apfs_check.specs.DataSteps.{IsRunFault, IsCountFault, with_streams, wrong_note, wrong_in}
use Rattle.apfs_check.specs.Steps.{IsThere, IsReady}
use Rattle.apfs_check.specs.declared.fault.Fault.{Fault}
use Rattle.apfs_check.specs.declared.fault.Fault.TheVariants.{DataUnreached, DataCount}
use Rattle.ext_ref.proofs.Members.{streams-same, unreached-same}
use Rattle.apfs_check.proofs.Same.{map-map}
use Rattle.apfs_check.proofs.There.{run-there, count-there}

-- ---- the parts
pub runs-same : (image : List ℕ) (seen : Seen) (head : VolHead) (ranges : List NewRange) (extents : List (ℕ × FileExt)) → ranges ≡ volume_ranges image (site_of seen) head → HaveSame extents (volume_extents image seen head) → unreached_runs (site_of seen).block_size ranges extents ≡ unreached_in image seen head
unfolding unreached_in
runs-same image seen head ranges extents p q = ap (λ rs. unreached_runs (site_of seen).block_size rs extents) p ∙ sym (unreached-same (site_of seen).block_size (volume_ranges image (site_of seen) head) extents (volume_extents image seen head) q)

-- a range before the number of its streams, in a volume
abbrev pub counted_in : List ℕ → Seen → VolHead → NewRange → NewRange × ℕ
counted_in image seen head r = (r, given (streams_in image seen head r))

chosen-map : {X Y : Type 0} (f : X → Y) (b : Bool) (xs : List X) → (if b then map f xs else []) ≡ map f (if b then xs else [])
chosen-map f true xs = refl
chosen-map f false xs = refl

-- which extents there are matters alone
wrong-alike : (volume : Loaded) (size : ℕ) (ranges : List NewRange) (xs ys : List (ℕ × FileExt)) → HaveSame xs ys → wrong_in volume size ranges xs ≡ wrong_in volume size ranges ys
unfolding is_miscounted
wrong-alike volume size ranges xs ys same =
    ap (λ (streams : NewRange → ℕ). if has_no_snapshots volume then map (λ (r : NewRange). (r, given (streams r))) (filter (λ (r : NewRange). not (int_eq r.count (pos (streams r)))) ranges) else [])
    (fun_ext (λ r. sym (streams-same size xs ys r same)))

pub wrong-same : (image : List ℕ) (seen : Seen) (volume : Loaded) (ranges : List NewRange) (extents : List (ℕ × FileExt)) → IsReady image seen volume → ranges ≡ volume_ranges image (site_of seen) volume.head → HaveSame extents (volume_extents image seen volume.head) →
    wrong_in volume (site_of seen).block_size ranges extents ≡ map (counted_in image seen volume.head) (miscounted_in image seen volume.head)
unfolding miscounted_in
wrong-same image seen volume ranges extents r p q =
    let head = volume.head in
    let size : ℕ = (site_of seen).block_size in
    ap (λ rs. wrong_in volume size rs extents) p
    ∙ (wrong-alike volume size (volume_ranges image (site_of seen) head) extents (volume_extents image seen head) q
    ∙ (ap (λ (v : Loaded). wrong_in v size (volume_ranges image (site_of seen) head) (volume_extents image seen head)) r.loaded.same
    ∙ chosen-map (counted_in image seen head) (has_no_snapshots (volume_of image seen head)) (filter (is_miscounted size (volume_extents image seen head)) (volume_ranges image (site_of seen) head))))

-- ---- one range more
given-low : (n : ℕ) → n < 2 ^ 64 → n ≡ given n
given-low n low = omega arith

one-wrong : (block_size : ℕ) (extents : List (ℕ × FileExt)) (r : NewRange) (b : Bool) → map (with_streams block_size extents) (if not b then r ∷ [] else []) ≡ (if b then [] else with_streams block_size extents r ∷ [])
one-wrong block_size extents r true = refl
one-wrong block_size extents r false = refl

pub wrong-more : (block_size : ℕ) (extents : List (ℕ × FileExt)) (ranges : List NewRange) (counts : List ℕ) (i : ℕ) (none : NewRange) (wrong later : List (NewRange × ℕ)) → i < length ranges → counts ≡ references_of block_size ranges extents → get_or counts i 0 < 2 ^ 64 →
    wrong ≡ map (with_streams block_size extents) (filter (is_miscounted block_size extents) (take i ranges)) →
    later ≡ wrong ++ (if int_eq (get_or ranges i none).count (pos (get_or counts i 0)) then [] else (get_or ranges i none, get_or counts i 0) ∷ []) →
    later ≡ map (with_streams block_size extents) (filter (is_miscounted block_size extents) (take (i + 1) ranges))
unfolding is_miscounted
wrong-more block_size extents ranges counts i none wrong later low same fits p q =
    let r : NewRange = get_or ranges i none in
    let n : ℕ = get_or counts i 0 in
    let told = with_streams block_size extents in
    let test = is_miscounted block_size extents in
    let streams : n ≡ streams_of block_size extents r = ap (λ (cs : List ℕ). get_or cs i 0) same ∙ get_or-map (streams_of block_size extents) ranges i none 0 low in
    let number : n ≡ given (streams_of block_size extents r) = given-low n fits ∙ ap given streams in
    let piece : (if int_eq r.count (pos n) then [] else (r, n) ∷ []) ≡ map told (filter test (r ∷ [])) =
    ap (λ m. if int_eq r.count (pos m) then [] else (r, n) ∷ []) streams
    ∙ (ap (λ m. if int_eq r.count (pos (streams_of block_size extents r)) then [] else (r, m) ∷ []) number ∙ sym (one-wrong block_size extents r (int_eq r.count (pos (streams_of block_size extents r))))) in
    q
    ∙ (ap (λ ws. ws ++ (if int_eq r.count (pos n) then [] else (r, n) ∷ [])) p
    ∙ (ap (λ ws. map told (filter test (take i ranges)) ++ ws) piece
    ∙ (sym (map-append told (filter test (take i ranges)) (filter test (r ∷ [])))
    ∙ (ap (map told) (sym (filter-append test (take i ranges) (r ∷ []))) ∙ ap (λ rs. map told (filter test rs)) (sym (take_more ranges i none low))))))

-- ---- their faults
strict-there : (profile : Profile) (image : List ℕ) (fault : Fault) → profile ≡ Strict → IsPresent Strict image fault → IsPresent profile image fault
strict-there profile image fault e p = subst (λ (q : Profile). IsPresent q image fault) (sym e) p

pub runs-stop : (profile : Profile) (image : List ℕ) (seen : Seen) (volume : Loaded) → IsReady image seen volume → (runs : List (ℕ × ℕ)) → runs ≡ unreached_in image seen volume.head →
    (stop : Stop Fault) → Tells (λ fault. (profile ≡ Strict) × IsRunFault volume.head.slot runs fault) NoFeature stop → IsThere profile image stop
runs-stop profile image seen volume r runs same (Found fault) (strict, t) =
    let head = volume.head in
    subst (IsPresent profile image) (sym t.same) (strict-there profile image (DataUnreached head.slot t.run.0 t.run.1) strict (run-there image seen r.newest head r.sound t.run (subst (In t.run) same t.one)))
runs-stop profile image seen volume r runs same (Unsupported feature block) p = absurd p
runs-stop profile image seen volume r runs same stop p = tt

pub counts-stop : (profile : Profile) (image : List ℕ) (seen : Seen) (volume : Loaded) → IsReady image seen volume → (wrong : List (NewRange × ℕ)) → wrong ≡ map (counted_in image seen volume.head) (miscounted_in image seen volume.head) →
    (stop : Stop Fault) → Tells (λ fault. (profile ≡ Strict) × IsCountFault volume.head.slot wrong fault) NoFeature stop → IsThere profile image stop
counts-stop profile image seen volume r wrong same (Found fault) (strict, t) =
    let head = volume.head in
    let m = from-map (counted_in image seen head) (miscounted_in image seen head) t.item (subst (In t.item) same t.one) in
    let fault_is : fault ≡ DataCount head.slot m.0.first m.0.count (given (streams_in image seen head m.0)) =
    t.same ∙ ap (λ (item : NewRange × ℕ). DataCount head.slot item.0.first item.0.count item.1) m.1.1 in
    subst (IsPresent profile image) (sym fault_is) (strict-there profile image (DataCount head.slot m.0.first m.0.count (given (streams_in image seen head m.0))) strict (count-there image seen r.newest head r.sound m.0 m.1.0))
counts-stop profile image seen volume r wrong same (Unsupported feature block) p = absurd p
counts-stop profile image seen volume r wrong same stop p = tt

-- ---- both told
pub data-added : (profile : Profile) (image : List ℕ) (seen : Seen) (volume : Loaded) (runs : List (ℕ × ℕ)) (wrong : List (NewRange × ℕ)) (a b c : Held) → runs ≡ unreached_in image seen volume.head → wrong ≡ map (counted_in image seen volume.head) (miscounted_in image seen volume.head) →
    (profile ≡ Strict → runs ≡ []) → (profile ≡ Strict → wrong ≡ []) → b ≡ record a { unreached = a.unreached ++ unless_strict profile (map (unreached_note volume.head) runs) } → c ≡ record b { counts = b.counts ++ unless_strict profile (map (wrong_note volume.head.slot) wrong) } →
    AddsData profile image seen volume.head a c
data-added profile image seen volume runs wrong a b c p q no_runs no_wrong e f =
    let head = volume.head in
    let noted : map (wrong_note head.slot) wrong ≡ map (count_note image seen head) (miscounted_in image seen head) =
    ap (map (wrong_note head.slot)) q ∙ map-map (wrong_note head.slot) (counted_in image seen head) (count_note image seen head) (miscounted_in image seen head) (λ r. refl) in
    record {
      right = λ strict. record { reached = sym p ∙ no_runs strict; counted = map-none (counted_in image seen head) (miscounted_in image seen head) (sym q ∙ no_wrong strict) };
      unreached = ap (λ (h : Held). h.unreached) f ∙ (ap (λ (h : Held). h.unreached) e ∙ ap (λ rs. a.unreached ++ unless_strict profile (map (unreached_note head) rs)) p);
      counts = ap (λ (h : Held). h.counts) f ∙ (ap (λ (h : Held). h.counts ++ unless_strict profile (map (wrong_note head.slot) wrong)) e ∙ ap (λ ns. a.counts ++ unless_strict profile ns) noted);
      views_same = ap (λ (h : Held). h.views) f ∙ ap (λ (h : Held). h.views) e;
      records_same = ap (λ (h : Held). h.records) f ∙ ap (λ (h : Held). h.records) e;
      hashes_same = ap (λ (h : Held). h.hashes) f ∙ ap (λ (h : Held). h.hashes) e;
      unnamed_same = ap (λ (h : Held). h.unnamed) f ∙ ap (λ (h : Held). h.unnamed) e;
    }
