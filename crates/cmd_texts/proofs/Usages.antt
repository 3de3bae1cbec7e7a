-- What the command `usage` comes to. It runs over the image of a well-formed container, so nothing stands in its way: its volume is there or its slot holds none, and its blocks can be counted.
use Rattle.std.specs.Prelude.{◌≡◌, ℕ, List, [], Option, Err, refl}
use Rattle.std.proofs.Common.{inl, inr, sym, ◌∙◌, subst}
use Rattle.obj_base.specs.declared.stop.Stop.{Stop}
use Rattle.obj_base.specs.declared.stop.Stop.TheVariants as layer
use Rattle.obj_base.specs.Stops.{IsFree}
use Rattle.nx_ring.specs.Checkpoint.{Seen, site_of}
use Rattle.vol_view.specs.Heads.{heads_of}
use Rattle.vol_view.specs.Volumes.{Loaded}
use Rattle.reach_rules.specs.Accounted.{IsAccounted}
use Rattle.view_rules.specs.declared.profile.Profile.TheVariants.{Plain}
use Rattle.apfs_check.specs.Volumes.{volume_ranges}
use Rattle.apfs_check.specs.WellFormed.{IsWellFormed}
use Rattle.use_report.specs.Given.{IsGiven, IsRight}
use Rattle.use_report.specs.declared.stop.UseFault.{UseFault}
use Rattle.use_report.proofs.Numbered.{numbers_there}
use Rattle.path_search.specs.declared.answer.Answer.{Answer}
use Rattle.path_search.specs.declared.answer.Answer.TheVariants.{NoVolume}
use Rattle.cmd_lines.specs.declared.stopped.Stopped.{Stopped}
use Rattle.cmd_lines.specs.declared.stopped.Stopped.TheVariants as stops
use Rattle.cmd_texts.specs.ByCommand.{HasResult}
use Rattle.cmd_texts.specs.Commands.Usage.{usage_text}
use Rattle.cmd_texts.specs.Handed.{Looked, LookFailed, OfImage}
use Rattle.cmd_texts.specs.Meant.{IsMeantVolume, HasNoVolume, IsMeantFault}
use Rattle.cmd_texts.specs.Reached.{IsClear, TellsWay, IsWhileLooking}
use Rattle.cmd_texts.specs.Says.{AnswersAt}
use Rattle.cmd_texts.specs.Ended.{HasEnded}
use Rattle.cmd_texts.specs.Seen.{stopped_counting}
use Rattle.cmd_lines.specs.Words.{Usage}
use Rattle.cmd_texts.proofs.Browsable.{meant_own, well_clear, well_views}
use Rattle.cmd_texts.proofs.Endings.{read_ended, no_memory_ended}
use Rattle.cmd_texts.proofs.OverVolume.{named_of}
use Rattle.cmd_lines.proofs.Puts.{wrote_nothing}
use Rattle.cmd_texts.proofs.Stops.{one_newest}
use Rattle.cmd_texts.proofs.Ways.{in_heads, volume_or_none}

-- ---- the volume that is meant

-- it is one of those that were found
pub given_of : (image : List ℕ) (named : Option ℕ) (seen : Seen) (volume : Loaded) → IsMeantVolume image named seen volume.head volume → IsGiven image seen volume
given_of image named seen volume is = record {
  heads = is.meant.right;
  one = in_heads named (heads_of image seen) (heads_of image seen) volume.head refl is.meant.same;
  loaded = is.loaded;
}

-- in a well-formed container its blocks can be counted
pub right_of : (image : List ℕ) (named : Option ℕ) (seen : Seen) (volume : Loaded) → IsWellFormed Plain image → IsMeantVolume image named seen volume.head volume → IsRight image seen volume
right_of image named seen volume w is =
    let P : Seen → Type 0 = λ s. IsAccounted image s in
    record {
      accounted = subst P (one_newest image w.seen seen w.newest is.meant.newest.newest) w.right.accounted;
      views = λ view one. (Plain, volume_ranges image (site_of seen) volume.head, well_views Plain image named seen volume w is view one);
    }

-- ---- of a well-formed container there is a text or the answer

pub usage_result : (named : Option ℕ) (image : List ℕ) → IsWellFormed Plain image → HasResult (Usage named) image
usage_result named image w = elim (well_clear Plain named image w) as (λ _. HasResult (Usage named) image) [
  | inl has ↦
      let meant = meant_own image named has.seen has.head has.volume has.is in
      let told = numbers_there image has.seen has.volume (given_of image named has.seen has.volume meant) (λ view one. (well_views Plain image named has.seen has.volume w meant view one).walkable) in
      inl (usage_text has.volume.snaps told.0, (w, record { seen = has.seen; volume = has.volume; meant = meant; told = told.0; numbers = told.1; same = refl }))
  | inr none ↦ inr (NoVolume, (w, (refl, none)))
]

-- ---- what stops it

-- the answer is the only one
no_volume_told : (named : Option ℕ) (image : List ℕ) (answer : Answer) → IsWellFormed Plain image → answer ≡ NoVolume → HasNoVolume image named → AnswersAt (Usage named) image answer
no_volume_told named image answer w same lacks rests = record {
  none = λ text has. volume_or_none image named (record { seen = has.1.seen; head = has.1.volume.head; volume = has.1.volume; is = has.1.meant }) lacks;
  only = λ other has. has.1.0 ∙ sym same;
  answer_is = (w, (same, lacks));
}

-- it stopped on its way to the volume that is meant, and nothing was written
pub usage_way_ended : (named : Option ℕ) (source : Looked) (stopped : Stopped) (contents : Option (List ℕ)) (count : ℕ) → OfImage source (λ image. IsWellFormed Plain image) →
    OfImage source (λ image. TellsWay image named stopped) → IsWhileLooking stopped → (stopped ≡ stops.ReadFailed → LookFailed source) →
    HasEnded (Usage named) source (Err stopped) (record { old = contents; new = contents; old_faults = count; new_faults = count })
usage_way_ended named source (stops.Faulty why) contents count clean tells looking cause = (
  [],
  (
    refl,
    λ image told.
        named_of (Usage named) image why (λ fault. (IsClear image named → ⊥) × IsMeantFault image named fault) (λ fault both. absurd (both.0 (well_clear Plain named image (clean image told)))) (tells image told),
  ),
  wrote_nothing contents,
)
usage_way_ended named source (stops.Refused feature block) contents count clean tells looking cause =
    ([], (refl, λ image told. absurd ((tells image told).0 (well_clear Plain named image (clean image told)))), wrote_nothing contents)
usage_way_ended named source (stops.Answered answer) contents count clean tells looking cause =
    ([], (refl, λ image told. no_volume_told named image answer (clean image told) (tells image told).0 (tells image told).1), wrote_nothing contents)
usage_way_ended named source stops.ReadFailed contents count clean tells looking cause = read_ended (Usage named) source contents count (cause refl)
usage_way_ended named source stops.OutOfMemory contents count clean tells looking cause = no_memory_ended (Usage named) source contents count
usage_way_ended named source stopped contents count clean tells looking cause = absurd looking

-- it stopped while it counted, and nothing was written
pub usage_stop_ended : (named : Option ℕ) (source : Looked) (slot : ℕ) (stop : Stop UseFault) (contents : Option (List ℕ)) (count : ℕ) → OfImage source (λ image. IsFree stop) → (stop ≡ layer.ReadFault → LookFailed source) →
    HasEnded (Usage named) source (Err (stopped_counting slot stop)) (record { old = contents; new = contents; old_faults = count; new_faults = count })
usage_stop_ended named source slot (layer.Found why) contents count free cause = ([], (refl, λ image told. absurd (free image told)), wrote_nothing contents)
usage_stop_ended named source slot (layer.Unsupported feature block) contents count free cause = ([], (refl, λ image told. absurd (free image told)), wrote_nothing contents)
usage_stop_ended named source slot layer.ReadFault contents count free cause = read_ended (Usage named) source contents count (cause refl)
usage_stop_ended named source slot layer.NoMemory contents count free cause = no_memory_ended (Usage named) source contents count
