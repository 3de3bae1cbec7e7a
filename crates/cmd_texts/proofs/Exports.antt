-- What the command `export` comes to. It runs over the image of a well-formed container, so nothing stands in its way: its view is there or one of the two answers is given, and all that the view has can be put.
use Rattle.std.specs.Prelude.{◌≡◌, ◌⊎◌, ◌++◌, ◌+◌, ◌<◌, ℕ, true, List, [], ◌∷◌, length, take, Option, Some, Result, Ok, Err, filter_map, slice_get, refl}
use Rattle.std.specs.List.{cons_option, flat_map}
use Rattle.std.proofs.Common.{inl, inr, sym, ◌∙◌, ap, subst, get_or}
use Rattle.std.proofs.lemmas.Grind.{flat_map-append}
use Rattle.std.proofs.lemmas.List.Elements.{filter_map-append}
use Rattle.std.proofs.lemmas.List.{take_more}
use Rattle.cmd_words.specs.Asked.{AskedTarget}
use Rattle.obj_base.specs.declared.site.Site.{Site}
use Rattle.obj_base.specs.declared.stop.Stop.{Stop}
use Rattle.obj_base.specs.declared.stop.Stop.TheVariants as layer
use Rattle.nx_ring.specs.Checkpoint.{Seen, site_of}
use Rattle.vol_view.specs.Volumes.{Loaded}
use Rattle.vol_view.specs.Views.{is_view_ordered}
use Rattle.vol_view.specs.declared.volume.View.{View}
use Rattle.view_rules.specs.Facts.{Facts}
use Rattle.view_rules.specs.Rules.{view_facts}
use Rattle.view_rules.specs.declared.profile.Profile.TheVariants.{Plain}
use Rattle.apfs_check.specs.WellFormed.{IsWellFormed}
use Rattle.path_search.specs.Places.{root_name}
use Rattle.path_search.specs.Stops.{IsLawful}
use Rattle.path_search.specs.Calls.{IsGiven, IsNoAnswer}
use Rattle.path_search.specs.declared.stop.PathStop.{PathStop}
use Rattle.path_search.specs.declared.stop.PathStop.TheVariants as paths
use Rattle.path_search.specs.declared.target.Target.{Target}
use Rattle.view_tree.specs.Tree.{tree}
use Rattle.path_search.specs.declared.answer.Answer.{Answer}
use Rattle.path_search.specs.declared.answer.Answer.TheVariants.{NoVolume, NoSnapshot}
use Rattle.blk_folder.specs.Items.{Item}
use Rattle.tree_export.specs.Exported.{Wanted, put_all, items_in, exported, skipped}
use Rattle.tree_export.specs.Stopping.{IsFailure}
use Rattle.tree_export.specs.Filled.{FilledWhole, FilledFront}
use Rattle.tree_export.specs.Texts.{skipped_text, export_text}
use Rattle.tree_export.specs.declared.stop.ExportStop.{ExportStop}
use Rattle.tree_export.specs.declared.stop.ExportStop.TheVariants as exports
use Rattle.tree_export.proofs.Tellings.{no_items}
use Rattle.cmd_lines.specs.declared.stopped.Stopped.{Stopped}
use Rattle.cmd_lines.specs.declared.stopped.Stopped.TheVariants as stops
use Rattle.cmd_texts.specs.ByCommand.{HasResult}
use Rattle.cmd_texts.specs.Commands.Export as export
use Rattle.cmd_texts.specs.Commands.ExportParts as export_parts
use Rattle.cmd_texts.specs.Formed.{IsFormed}
use Rattle.cmd_texts.specs.Handed.{Looked, LookFailed, OfImage, Stored, StoreFailed}
use Rattle.cmd_texts.specs.Meant.{HasNoVolume, IsMeantFault}
use Rattle.cmd_texts.specs.MeantView.{IsMeantView, HasNoSnapshot}
use Rattle.cmd_texts.specs.OnView.{ByAnswer, IsWantedOf, IsAnswerOn}
use Rattle.cmd_texts.specs.Reached.{IsClear, IsFree, IsWhileLooking, TellsViewWay}
use Rattle.cmd_texts.specs.Says.{AreItemsIf, AreItemsBy, AnswersAt, Fills, IsTextIf}
use Rattle.cmd_texts.specs.Ended.{HasEnded, HasEndedInto}
use Rattle.cmd_texts.specs.Seen.{stopped_exporting, stopped_on}
use Rattle.cmd_lines.specs.Words.{Export}
use Rattle.cmd_lines.specs.Written.{Sunk}
use Rattle.cmd_lines.specs.Putting.{IsPut}
use Rattle.cmd_texts.proofs.Browsable.{AnswersPaths, well_clear, well_lawful, well_wanted}
use Rattle.cmd_texts.proofs.ByAnswers.{which_answer}
use Rattle.cmd_texts.proofs.Endings.{nothing_part, nothing_read, part_of_text, read_ended, no_memory_ended}
use Rattle.cmd_texts.proofs.OverVolume.{named_of}
use Rattle.cmd_lines.proofs.Puts.{part_taken, wrote_nothing}
use Rattle.cmd_texts.proofs.Views.{text_no_answer, view_volume}
use Rattle.cmd_texts.proofs.Ways.{volume_or_none}

-- ---- of a well-formed container there is a text or an answer

export_paths : AnswersPaths export.wanted
export_paths size image facts answer e = absurd Prim.cc

pub export_result : (target : AskedTarget) (image : List ℕ) → IsWellFormed Plain image → HasResult (Export target) image
export_result target image w = elim (well_wanted Plain export.wanted target image export_paths w) as (λ _. HasResult (Export target) image) [
  | inl has ↦ inl (has.0, (w, has.1))
  | inr has ↦ inr (has.0, (w, has.1))
]

-- ---- the answers

-- an answer is one of the two
abbrev IsOfTwo : AskedTarget → List ℕ → Answer → Type 0
IsOfTwo target image answer = ((answer ≡ NoVolume) × HasNoVolume image target.volume) ⊎ ((answer ≡ NoSnapshot) × HasNoSnapshot image target)

one_of_two : (target : AskedTarget) (image : List ℕ) (answer : Answer) → IsAnswerOn export.wanted target image answer → IsOfTwo target image answer
one_of_two target image answer is =
    elim (which_answer answer (HasNoVolume image target.volume) (HasNoSnapshot image target) (IsWantedOf export.wanted target image (Err answer)) is) as (λ _. IsOfTwo target image answer) [
      | inl volume ↦ inl volume
      | inr more ↦ elim more [ inl snapshot ↦ inr snapshot | inr path ↦ let e = path.same in absurd Prim.cc ]
    ]

way_of_two : (target : AskedTarget) (image : List ℕ) (answer : Answer) → ByAnswer answer (HasNoVolume image target.volume) (HasNoSnapshot image target) ⊥ → IsOfTwo target image answer
way_of_two target image answer is =
    elim (which_answer answer (HasNoVolume image target.volume) (HasNoSnapshot image target) ⊥ is) as (λ _. IsOfTwo target image answer) [
      | inl volume ↦ inl volume
      | inr more ↦ elim more [ inl snapshot ↦ inr snapshot | inr none ↦ absurd none ]
    ]

no_two : (target : AskedTarget) (image : List ℕ) → HasNoVolume image target.volume → HasNoSnapshot image target → ⊥
no_two target image volume snapshot = volume_or_none image target.volume (view_volume image target snapshot.seen snapshot.volume snapshot.volume_is) volume

same_of_two : (target : AskedTarget) (image : List ℕ) (a b : Answer) → IsOfTwo target image a → IsOfTwo target image b → a ≡ b
same_of_two target image a b (inl first) (inl second) = first.0 ∙ sym second.0
same_of_two target image a b (inl first) (inr second) = absurd (no_two target image first.1 second.1)
same_of_two target image a b (inr first) (inl second) = absurd (no_two target image second.1 first.1)
same_of_two target image a b (inr first) (inr second) = first.0 ∙ sym second.0

answer_of_two : (target : AskedTarget) (image : List ℕ) (answer : Answer) → IsOfTwo target image answer → IsAnswerOn export.wanted target image answer
answer_of_two target image answer (inl volume) = let P : Answer → Type 0 = λ a. IsAnswerOn export.wanted target image a in subst P (sym volume.0) volume.1
answer_of_two target image answer (inr snapshot) = let P : Answer → Type 0 = λ a. IsAnswerOn export.wanted target image a in subst P (sym snapshot.0) snapshot.1

-- it is the only one
two_answers : (target : AskedTarget) (image : List ℕ) (answer : Answer) → IsWellFormed Plain image → IsOfTwo target image answer → AnswersAt (Export target) image answer
two_answers target image answer w is rests = record {
  none = λ text has. text_no_answer export.wanted target image text answer has.1 (answer_of_two target image answer is);
  only = λ other has. same_of_two target image other answer (one_of_two target image other has.1) is;
  answer_is = (w, answer_of_two target image answer is);
}

-- ---- what stops it before anything is put

-- on its way to the view that is meant
pub export_way_ended : (target : AskedTarget) (source : Looked) (stopped : Stopped) (contents : Option (List ℕ)) (count : ℕ) → OfImage source (λ image. IsWellFormed Plain image) →
    OfImage source (λ image. TellsViewWay image target stopped) → IsWhileLooking stopped → (stopped ≡ stops.ReadFailed → LookFailed source) →
    HasEnded (Export target) source (Err stopped) (record { old = contents; new = contents; old_faults = count; new_faults = count })
export_way_ended target source (stops.Faulty why) contents count clean tells looking cause = (
  [],
  (
    refl,
    λ image told.
        named_of (Export target) image why (λ fault. (IsClear image target.volume → ⊥) × IsMeantFault image target.volume fault) (λ fault both. absurd (both.0 (well_clear Plain target.volume image (clean image told)))) (tells image told),
  ),
  wrote_nothing contents,
)
export_way_ended target source (stops.Refused feature block) contents count clean tells looking cause =
    ([], (refl, λ image told. absurd ((tells image told).0 (well_clear Plain target.volume image (clean image told)))), wrote_nothing contents)
export_way_ended target source (stops.Answered answer) contents count clean tells looking cause =
    ([], (refl, λ image told. two_answers target image answer (clean image told) (way_of_two target image answer (tells image told))), wrote_nothing contents)
export_way_ended target source stops.ReadFailed contents count clean tells looking cause = read_ended (Export target) source contents count (cause refl)
export_way_ended target source stops.OutOfMemory contents count clean tells looking cause = no_memory_ended (Export target) source contents count
export_way_ended target source stopped contents count clean tells looking cause = absurd looking

-- while it gathered the items of the view
pub export_items_ended : (target : AskedTarget) (source : Looked) (stopped : Stopped) (contents : Option (List ℕ)) (count : ℕ) → OfImage source (λ image. IsFree stopped) → IsWhileLooking stopped → (stopped ≡ stops.ReadFailed → LookFailed source) →
    HasEnded (Export target) source (Err stopped) (record { old = contents; new = contents; old_faults = count; new_faults = count })
export_items_ended target source (stops.Faulty why) contents count free looking cause = ([], (refl, λ image told. absurd (free image told)), wrote_nothing contents)
export_items_ended target source (stops.Refused feature block) contents count free looking cause = ([], (refl, λ image told. absurd (free image told)), wrote_nothing contents)
export_items_ended target source (stops.Answered answer) contents count free looking cause = ([], (refl, λ image told. absurd (free image told)), wrote_nothing contents)
export_items_ended target source stops.ReadFailed contents count free looking cause = read_ended (Export target) source contents count (cause refl)
export_items_ended target source stops.OutOfMemory contents count free looking cause = no_memory_ended (Export target) source contents count
export_items_ended target source stopped contents count free looking cause = absurd looking

-- what a stop of the tree says of a view that meets its rules, where it is no answer
pub free_stop : {T : Type 0} (view : T → List (List ℕ × Target)) (wanted : Result (List (List ℕ × Target)) Answer) (stop : Stop PathStop) → IsGiven view wanted (Err stop) → IsNoAnswer stop → IsFree (stopped_on stop)
free_stop view wanted (layer.Found (paths.Answer answer)) given none = absurd none
free_stop view wanted (layer.Found (paths.Fault fault)) given none = absurd given
free_stop view wanted (layer.Unsupported feature block) given none = absurd given
free_stop view wanted layer.ReadFault given none = tt
free_stop view wanted layer.NoMemory given none = tt

-- where it is one there are no items
pub no_root_items : {T : Type 0} (view : T → List (List ℕ × Target)) (facts : Facts) (stop : Stop PathStop) → IsGiven view (tree facts root_name) (Err stop) → export_parts.IsOfNoRoot stop → [] ≡ items_in facts
no_root_items view facts (layer.Found (paths.Answer answer)) given root = no_items facts answer given
no_root_items view facts stop given root = absurd root

-- ---- the lines

-- the lines of the places up to one, that of the place there among them
pub skipped_more : (items : List Wanted) (places : List ℕ) (i other : ℕ) → i < length places →
    flat_map skipped_text (filter_map (slice_get items) (take (i + 1) places)) ≡ flat_map skipped_text (filter_map (slice_get items) (take i places)) ++ flat_map skipped_text (cons_option (slice_get items (get_or places i other)) [])
skipped_more items places i other low =
    ap (λ l. flat_map skipped_text (filter_map (slice_get items) l)) (take_more places i other low)
    ∙ (ap (flat_map skipped_text) (filter_map-append (slice_get items) (take i places) (get_or places i other ∷ []))
    ∙ flat_map-append skipped_text (filter_map (slice_get items) (take i places)) (cons_option (slice_get items (get_or places i other)) []))

-- ---- the view that is meant

-- its records are in order
abbrev IsOrdered : List ℕ → Site → Loaded → View → Type 0
IsOrdered image site volume view = is_view_ordered image site volume view ≡ true

-- it is reached in a well-formed container, and these are its items
pub record IsAtItems (target : AskedTarget) (source : Looked) (seen : Seen) (volume : Loaded) (view : View) (site : Site) (items : List Wanted) : Type 0 where
  pub site_is : site ≡ site_of seen
  pub clean : OfImage source (λ image. IsWellFormed Plain image)
  pub meant : OfImage source (λ image. IsMeantView image target seen volume view)
  pub items_are : OfImage source (λ image. items ≡ items_in (view_facts image site volume view))

-- it meets its rules
pub lawful_at : (target : AskedTarget) (source : Looked) (seen : Seen) (volume : Loaded) (view : View) (site : Site) → site ≡ site_of seen → OfImage source (λ image. IsWellFormed Plain image) →
    OfImage source (λ image. IsMeantView image target seen volume view) → OfImage source (λ image. IsLawful image site volume view)
lawful_at target source seen volume view site site_is clean meant image told =
    let P : Site → Type 0 = λ s. IsLawful image s volume view in
    subst P (sym site_is) (well_lawful Plain image target (clean image told) seen volume view (meant image told))

all_of_items : (size : ℕ) (image : List ℕ) (target : AskedTarget) (source : Looked) (seen : Seen) (volume : Loaded) (view : View) (site : Site) (items : List Wanted) → IsAtItems target source seen volume view site items → source.bytes ≡ Some image →
    put_all size image (view_facts image site volume view) items ≡ exported size image (view_facts image site volume view)
unfolding exported
all_of_items size image target source seen volume view site items at told = ap (λ l. put_all size image (view_facts image site volume view) l) (at.items_are image told)

-- what it has is what the folder gets
are_items : (target : AskedTarget) (source : Looked) (seen : Seen) (volume : Loaded) (view : View) (site : Site) (items : List Wanted) (image : List ℕ) → IsAtItems target source seen volume view site items → source.bytes ≡ Some image →
    export.AreItems target image (put_all site.block_size image (view_facts image site volume view) items)
are_items target source seen volume view site items image at told =
    let P : Site → Type 0 = λ s. put_all site.block_size image (view_facts image site volume view) items ≡ exported s.block_size image (view_facts image s volume view) in
    record {
      seen = seen;
      volume = volume;
      view = view;
      is = at.meant image told;
      lawful = well_lawful Plain image target (at.clean image told) seen volume view (at.meant image told);
      same = subst P at.site_is (all_of_items site.block_size image target source seen volume view site items at told);
    }

ordered_at : (target : AskedTarget) (source : Looked) (seen : Seen) (volume : Loaded) (view : View) (site : Site) (items : List Wanted) (image : List ℕ) → IsAtItems target source seen volume view site items → source.bytes ≡ Some image →
    IsOrdered image site volume view
ordered_at target source seen volume view site items image at told = (lawful_at target source seen volume view site at.site_is at.clean at.meant image told).rules.ordered

-- all of it was put
abbrev AllPut : Looked → Stored → Loaded → View → Site → List Wanted → Type 0
AllPut source folder volume view site items =
    FilledWhole folder.old folder.new source.bytes (λ image. IsOrdered image site volume view) (λ image. put_all site.block_size image (view_facts image site volume view) items)

-- a front of it was put
abbrev FrontPut : Looked → Stored → Loaded → View → Site → List Wanted → Type 0
FrontPut source folder volume view site items =
    FilledFront folder.old folder.new source.bytes (λ image. IsOrdered image site volume view) (λ image. put_all site.block_size image (view_facts image site volume view) items)

-- a folder into which all was put
all_fills : (target : AskedTarget) (source : Looked) (folder : Stored) (seen : Seen) (volume : Loaded) (view : View) (site : Site) (items : List Wanted) → IsAtItems target source seen volume view site items → AllPut source folder volume view site items →
    Fills (Export target) source folder (AreItemsIf (Export target))
all_fills target source folder seen volume view site items at all = record {
  added = all.0;
  none = λ e. absurd Prim.cc;
  are = λ image told rests.
      let P : List Item → Type 0 = λ l. export.AreItems target image l in
      (at.clean image told, subst P (sym (all.2 image told (ordered_at target source seen volume view site items image at told))) (are_items target source seen volume view site items image at told));
  put = all.1;
  safe = all.3;
}

-- whatever part of the text was written then
all_before : (target : AskedTarget) (source : Looked) (folder : Stored) (part : List ℕ) → Fills (Export target) source folder (AreItemsIf (Export target)) → Fills (Export target) source folder (AreItemsBy (Export target) part)
all_before target source folder part f = record { added = f.added; none = f.none; are = λ image told. inl (f.are image told); put = f.put; safe = f.safe }

-- a folder into which a front was put, where nothing was written
front_fills : (target : AskedTarget) (source : Looked) (folder : Stored) (seen : Seen) (volume : Loaded) (view : View) (site : Site) (items : List Wanted) → IsAtItems target source seen volume view site items → FrontPut source folder volume view site items →
    Fills (Export target) source folder (AreItemsBy (Export target) [])
front_fills target source folder seen volume view site items at front = record {
  added = front.0;
  none = λ e. absurd Prim.cc;
  are = λ image told.
      let wanted : List Item = put_all site.block_size image (view_facts image site volume view) items in
      inr (([], refl), inr (wanted, (λ rests. (at.clean image told, are_items target source seen volume view site items image at told)), front.2 image told (ordered_at target source seen volume view site items image at told)));
  put = front.1;
  safe = front.3;
}

-- ---- what stops it while it puts

pub export_stop_ended : (target : AskedTarget) (source : Looked) (folder : Stored) (seen : Seen) (volume : Loaded) (view : View) (site : Site) (items : List Wanted) (slot xid : ℕ) (stop : ExportStop) (contents : Option (List ℕ)) (count : ℕ) →
    IsAtItems target source seen volume view site items → FrontPut source folder volume view site items → OfImage source (λ image. IsFailure stop) →
    (stop ≡ exports.Stopped layer.ReadFault → LookFailed source) → (stop ≡ exports.WriteFault → StoreFailed (Some folder)) →
    HasEndedInto (Export target) source folder (Err (stopped_exporting slot xid stop)) (record { old = contents; new = contents; old_faults = count; new_faults = count })
export_stop_ended target source folder seen volume view site items slot xid (exports.Stopped (layer.Found why)) contents count at front free read write = (
  [],
  (refl, λ image told. absurd (free image told)),
  record { added = front.0; none = λ e. absurd Prim.cc; are = λ image told. absurd (free image told); put = front.1; safe = front.3 },
  wrote_nothing contents,
)
export_stop_ended target source folder seen volume view site items slot xid (exports.Stopped (layer.Unsupported feature block)) contents count at front free read write = (
  [],
  (refl, λ image told. absurd (free image told)),
  record { added = front.0; none = λ e. absurd Prim.cc; are = λ image told. absurd (free image told); put = front.1; safe = front.3 },
  wrote_nothing contents,
)
export_stop_ended target source folder seen volume view site items slot xid (exports.Stopped layer.ReadFault) contents count at front free read write =
    ([], (read refl, nothing_read (Export target) source), front_fills target source folder seen volume view site items at front, wrote_nothing contents)
export_stop_ended target source folder seen volume view site items slot xid (exports.Stopped layer.NoMemory) contents count at front free read write =
    ([], nothing_part (Export target) source, front_fills target source folder seen volume view site items at front, wrote_nothing contents)
export_stop_ended target source folder seen volume view site items slot xid exports.WriteFault contents count at front free read write =
    ([], (inr (write refl), nothing_part (Export target) source), front_fills target source folder seen volume view site items at front, wrote_nothing contents)

-- ---- its text

-- the text is that of the view
abbrev IsTextAt : Looked → Loaded → View → Site → List ℕ → Type 0
IsTextAt source volume view site text =
    OfImage source (λ image. IsOrdered image site volume view → text ≡ export_text (exported site.block_size image (view_facts image site volume view)) (skipped (view_facts image site volume view)))

text_at : (target : AskedTarget) (source : Looked) (seen : Seen) (volume : Loaded) (view : View) (site : Site) (items : List Wanted) (text : List ℕ) → IsAtItems target source seen volume view site items → IsTextAt source volume view site text →
    OfImage source (λ image. IsTextIf (Export target) image text)
text_at target source seen volume view site items text at is image told rests =
    let P : Site → Type 0 = λ s. ◌≡◌ {A = Result (List ℕ) Answer} (Ok (export_text (exported s.block_size image (view_facts image s volume view)) (skipped (view_facts image s volume view)))) (Ok text) in
    let same : ◌≡◌ {A = Result (List ℕ) Answer} (Ok (export_text (exported site.block_size image (view_facts image site volume view)) (skipped (view_facts image site volume view)))) (Ok text) =
    ap (λ l. Ok l) (sym (is image told (ordered_at target source seen volume view site items image at told))) in (
      at.clean image told,
      record {
        seen = seen;
        volume = volume;
        view = view;
        is = at.meant image told;
        lawful = well_lawful Plain image target (at.clean image told) seen volume view (at.meant image told);
        same = subst P at.site_is same;
      },
    )

-- all was put, and the text after it
pub export_put_ended : (target : AskedTarget) (source : Looked) (folder : Stored) (seen : Seen) (volume : Loaded) (view : View) (site : Site) (items : List Wanted) (text : List ℕ) (ended : Result Unit Stopped) (out : Sunk) →
    IsAtItems target source seen volume view site items → AllPut source folder volume view site items → IsFormed (Export target) text → IsTextAt source volume view site text → IsPut text ended out → HasEndedInto (Export target) source folder ended out
export_put_ended target source folder seen volume view site items text (Ok done) out at all formed is put = (
  text,
  record { formed = formed; is = text_at target source seen volume view site items text at is },
  all_fills target source folder seen volume view site items at all,
  put.0,
)
export_put_ended target source folder seen volume view site items text (Err stops.WriteFailed) out at all formed is put =
    let taken = part_taken out.old out.new text put.1 in (
      taken.0,
      (inl put.0, part_of_text (Export target) source text taken.0 formed (text_at target source seen volume view site items text at is) taken.1),
      all_before target source folder taken.0 (all_fills target source folder seen volume view site items at all),
      taken.2,
    )
export_put_ended target source folder seen volume view site items text (Err stops.OutOfMemory) out at all formed is put =
    let taken = part_taken out.old out.new text put.1 in (
      taken.0,
      part_of_text (Export target) source text taken.0 formed (text_at target source seen volume view site items text at is) taken.1,
      all_before target source folder taken.0 (all_fills target source folder seen volume view site items at all),
      taken.2,
    )
export_put_ended target source folder seen volume view site items text (Err stopped) out at all formed is put = absurd put.0
