-- What was gathered is no more than the named objects, so that a read for each of it is one for each of these.
use Rattle.std.proofs.Common.{◌≡◌, ℕ, ◌+◌, ◌<◌, ◌≤◌, ◌++◌, List, length, ap, subst, arith}
use Rattle.std.specs.Prelude.{◌^◌}
use Rattle.nx_ring.specs.Checkpoint.{Seen}
use Rattle.vol_view.specs.Volumes.{Loaded}
use Rattle.vol_view.specs.declared.head.VolHead.{VolHead}
use Rattle.space_map.specs.Fields.{pool_bitmap_blocks_of}
use Rattle.space_map.specs.Stops.{Known}
use Rattle.reach_rules.specs.Bound.{ReachedWithin}
use Rattle.reach_rules.specs.declared.naming.Naming.{Naming}
use Rattle.reach_rules.specs.Reached.{Whole}
use Rattle.reach_rules.specs.Settled.{AreApart}
use Rattle.reach_rules.specs.Tally.{IsNumberOf}
use Rattle.view_sweep.specs.declared.used.Used.{Used}
use Rattle.view_sweep.specs.declared.idle.MapRecords.{MapRecords}
use Rattle.reach_gather.specs.Finished.{IsObjectOf}
use Rattle.reach_gather.specs.Held.{Held}
use Rattle.reach_sweep.specs.Composed.{records_used}
use Rattle.reach_sweep.specs.Finished.{IsFinished}
use Rattle.reach_sweep.specs.Views.{namer_by, volumes_views}
use Rattle.reach_sweep.proofs.Composed.{parts-compose}
use Rattle.reach_sweep.proofs.NamedBound.{IsAddedOnce, named-bound}
use Rattle.reach_sweep.proofs.Together.{swept_namings, AreSwept, records-of, AreKnown, all-reached}

-- the namings that were gathered and the records that views use are no more than the objects, where they fit a count
pub gathered-few : (image : List ℕ) (seen : Seen) (heads : List VolHead) (volumes : List Loaded) (start parts : Held) (used found : List Used) (maps : List MapRecords) (space : Known) (bits : List ℕ) (whole : Whole)
    (a : AreSwept image seen heads volumes start parts used found) → AreKnown image seen heads maps (found ++ used) space bits → IsFinished (records_used used) (records_used found) parts space bits whole
    → length parts.namings + length used < 2 ^ 64 → AreApart whole.owners → length parts.namings + length used ≤ whole.objects
gathered-few image seen heads volumes start parts used found maps space bits whole a k f low apart =
    let law = parts-compose image seen in
    let namer = namer_by image seen in
    let rest : List Naming = volumes_views seen namer volumes in
    let added : IsAddedOnce image seen whole rest start parts = record {
      apart = record { reached = all-reached image seen heads volumes start parts used found maps space bits whole a k f; apart = apart };
      added = a.gathered.added;
      rest_is = law.views.loaded heads volumes namer a.given.parts a.given.volumes_are;
    } in
    let counted : IsNumberOf (IsObjectOf parts.namings (records_used used ++ records_used found)) whole.objects = subst (λ (ns : List Naming). IsNumberOf (IsObjectOf ns (records_used used ++ records_used found)) whole.objects) f.told.namings f.objects in
    let bound = named-bound image seen whole rest (swept_namings image seen volumes) used (records_used used ++ records_used found) start parts whole.objects added a.gathered.start_is a.reached
    (law.views.swept heads volumes namer a.given.parts a.given.volumes_are) (records-of image seen heads volumes start parts used found a) counted in
    let none : length start.namings ≡ 0 = ap length a.gathered.start_is.namings in
    let fits : length parts.namings ≤ length start.namings + length a.gathered.added.these = a.gathered.added.grew.fits in
    omega arith

-- how often the source was read: by the space, by the pool, by what is gathered, and by the views, one after the other
pub record AreReads (start parts : Held) (used : List Used) (space : Known) (first loaded pooled gathered last : ℕ) : Type 0 where
  pub of_space : loaded ≤ first + (length space.cabs + length space.cibs)
  pub of_pool : pooled ≤ loaded + pool_bitmap_blocks_of space.manager
  pub of_parts : gathered + (length space.cabs + length space.cibs) + length start.namings ≤ pooled + length parts.namings
  pub of_views : last ≤ gathered + length used

pub reads-within : (image : List ℕ) (seen : Seen) (heads : List VolHead) (volumes : List Loaded) (start parts : Held) (used found : List Used) (maps : List MapRecords) (space : Known) (bits : List ℕ) (whole : Whole)
    (a : AreSwept image seen heads volumes start parts used found) → AreKnown image seen heads maps (found ++ used) space bits → IsFinished (records_used used) (records_used found) parts space bits whole
    → length parts.namings + length used < 2 ^ 64 → (first loaded pooled gathered last : ℕ) → AreReads start parts used space first loaded pooled gathered last → ReachedWithin whole first last
reads-within image seen heads volumes start parts used found maps space bits whole a k f low first loaded pooled gathered last r apart =
    let few : length parts.namings + length used ≤ whole.objects = gathered-few image seen heads volumes start parts used found maps space bits whole a k f low apart in
    let same : pool_bitmap_blocks_of whole.space.manager ≡ pool_bitmap_blocks_of space.manager = ap (λ (s : Known). pool_bitmap_blocks_of s.manager) f.space_is in
    let of_space = r.of_space in
    let of_pool = r.of_pool in
    let of_parts = r.of_parts in
    let of_views = r.of_views in
    omega arith
