-- Where a container is well-formed, the view that is meant meets its rules, and what is wanted of it is a text or an answer.
use Rattle.std.specs.Prelude.{◌≡◌, ◌⊎◌, ℕ, List, Option, Some, None, Result, Ok, Err, refl, map, option_map, option_and_then, slice_get}
use Rattle.std.proofs.Common.{inl, inr, sym, ap, ◌∙◌, subst}
use Rattle.apfs_model.specs.Lists.{In}
use Rattle.apfs_model.proofs.Searches.{in-map, get-in}
use Rattle.cmd_words.specs.Asked.{AskedTarget}
use Rattle.obj_base.specs.declared.site.Site.{Site}
use Rattle.nx_ring.specs.Checkpoint.{Seen, site_of}
use Rattle.nx_ring.specs.Newest.{newest_of}
use Rattle.vol_view.specs.declared.head.VolHead.{VolHead}
use Rattle.vol_view.specs.declared.volume.Snapshot.{Snapshot}
use Rattle.vol_view.specs.declared.volume.View.{View}
use Rattle.vol_view.specs.Heads.{heads_of}
use Rattle.vol_view.specs.Volumes.{Loaded, loaded_of}
use Rattle.vol_view.specs.Views.{live_of, past_of, views_of, by_name_of}
use Rattle.view_rules.specs.Facts.{Facts}
use Rattle.view_rules.specs.Rules.{HasTreeRules, view_facts}
use Rattle.view_rules.specs.declared.profile.Profile.{Profile}
use Rattle.apfs_check.specs.Laws.{IsBrowsable}
use Rattle.apfs_check.specs.Volumes.{volume_of, volume_ranges}
use Rattle.apfs_check.specs.WellFormed.{IsWellFormed}
use Rattle.apfs_check.proofs.Browsed.{browsed}
use Rattle.path_search.specs.Stops.{IsLawful}
use Rattle.path_search.specs.declared.answer.Answer.{Answer}
use Rattle.path_search.specs.declared.answer.Answer.TheVariants.{NoVolume, NoSnapshot}
use Rattle.cmd_texts.specs.Meant.{meant_head, IsMeant, IsMeantVolume, HasNoVolume}
use Rattle.cmd_texts.specs.MeantView.{view_of, IsMeantView, HasNoSnapshot, IsLawfulView}
use Rattle.cmd_texts.specs.Reached.{IsClear}
use Rattle.cmd_texts.specs.OnView.{Wanted, IsWantedOf, IsTextOn, IsAnswerOn}
use Rattle.cmd_texts.proofs.ByAnswers.{IsOfPath, of_path}
use Rattle.cmd_texts.proofs.Stops.{one_newest}
use Rattle.cmd_texts.proofs.Ways.{in_heads}

-- the view of a snapshot is one of a volume's
past_in : (volume : Loaded) (seen : Seen) (place : Option ℕ) (view : View) → option_map (past_of volume) (option_and_then (slice_get volume.snaps) place) ≡ Some view → In view (views_of volume seen)
past_in volume seen None view is = absurd Prim.cc
past_in volume seen (Some i) view is = go (slice_get volume.snaps i) refl is
  where
    go : (s : Option Snapshot) → slice_get volume.snaps i ≡ s → option_map (past_of volume) s ≡ Some view → In view (views_of volume seen)
    go None at same = absurd Prim.cc
    go (Some s) at same =
        let e : past_of volume s ≡ view = Prim.cc in
        let P : View → Type 0 = λ v. In v (map (past_of volume) volume.snaps) in
        inr (subst P e (in-map (past_of volume) volume.snaps s (get-in volume.snaps i s at)))

-- the view that is meant of a volume is one of its views
view_in : (volume : Loaded) (seen : Seen) (snapshot : Option (List ℕ)) (view : View) → view_of volume seen snapshot ≡ Some view → In view (views_of volume seen)
view_in volume seen None view is = let e : live_of volume seen ≡ view = Prim.cc in inl (sym e)
view_in volume seen (Some name) view is = past_in volume seen (by_name_of volume name) view is

-- a well-formed container can be browsed at its newest checkpoint
browsable_at : (profile : Profile) (image : List ℕ) (seen : Seen) (w : IsWellFormed profile image) → newest_of image ≡ Ok seen → IsBrowsable profile image seen
browsable_at profile image seen w newest =
    let P : Seen → Type 0 = λ s. IsBrowsable profile image s in
    subst P (one_newest image w.seen seen w.newest newest) (browsed profile image w).0

-- in a well-formed container each view of the volume that is meant meets its rules
pub well_views : (profile : Profile) (image : List ℕ) (named : Option ℕ) (seen : Seen) (volume : Loaded) → IsWellFormed profile image → IsMeantVolume image named seen volume.head volume → (view : View) → In view (views_of volume seen) →
    HasTreeRules profile image (site_of seen) volume view (volume_ranges image (site_of seen) volume.head)
well_views profile image named seen volume w is view among =
    let can = browsable_at profile image seen w is.meant.newest.newest in
    let one : In volume.head (heads_of image seen) = in_heads named (heads_of image seen) (heads_of image seen) volume.head refl is.meant.same in
    let same : volume ≡ volume_of image seen volume.head = is.loaded.same in
    let P : Loaded → Type 0 = λ l. In view (views_of l seen) in
    let Q : Loaded → Type 0 = λ l. HasTreeRules profile image (site_of seen) l view (volume_ranges image (site_of seen) volume.head) in
    subst Q (sym same) (can.views volume.head one view (subst P same among))

-- so does the view that is meant
pub well_lawful : (profile : Profile) (image : List ℕ) (target : AskedTarget) → IsWellFormed profile image → IsLawfulView image target
well_lawful profile image target w seen volume view is = record {
  profile = profile;
  ranges = volume_ranges image (site_of seen) volume.head;
  rules = well_views profile image target.volume seen volume w is.volume_is view (view_in volume seen target.snapshot view is.same);
}

-- the head of a volume is the one that it was loaded of
head_is : (image : List ℕ) (site : Site) (head : VolHead) → (loaded_of image site head).head ≡ head
unfolding loaded_of
head_is image site head = refl

-- what is wanted of the view that is meant is a text or an answer
abbrev pub HasWanted : Wanted → AskedTarget → List ℕ → Type 0
HasWanted wanted target image = ((text : List ℕ) × IsTextOn wanted target image text) ⊎ ((answer : Answer) × IsAnswerOn wanted target image answer)

-- each answer of what is wanted is one of a path
abbrev pub AnswersPaths : Wanted → Type 0
AnswersPaths wanted = (size : ℕ) (image : List ℕ) (facts : Facts) (answer : Answer) → wanted size image facts ≡ Err answer → IsOfPath answer

-- of a view that is meant
of_view : (wanted : Wanted) (target : AskedTarget) (image : List ℕ) (seen : Seen) (volume : Loaded) (view : View) → AnswersPaths wanted → IsMeantView image target seen volume view → IsLawful image (site_of seen) volume view → HasWanted wanted target image
of_view wanted target image seen volume view paths is lawful = go (wanted (site_of seen).block_size image (view_facts image (site_of seen) volume view)) refl
  where
    go : (result : Result (List ℕ) Answer) → wanted (site_of seen).block_size image (view_facts image (site_of seen) volume view) ≡ result → HasWanted wanted target image
    go (Ok text) same = inl (text, record { seen = seen; volume = volume; view = view; is = is; lawful = lawful; same = same })
    go (Err answer) same =
        inr (
          answer,
          of_path answer (HasNoVolume image target.volume) (HasNoSnapshot image target) (IsWantedOf wanted target image (Err answer))
              (paths (site_of seen).block_size image (view_facts image (site_of seen) volume view) answer same)
              (record { seen = seen; volume = volume; view = view; is = is; lawful = lawful; same = same }),
        )

-- of a volume that is meant
of_volume : (profile : Profile) (wanted : Wanted) (target : AskedTarget) (image : List ℕ) (seen : Seen) (volume : Loaded) → AnswersPaths wanted → IsWellFormed profile image → IsMeantVolume image target.volume seen volume.head volume → HasWanted wanted target image
of_volume profile wanted target image seen volume paths w meant = go (view_of volume seen target.snapshot) refl
  where
    go : (view : Option View) → view_of volume seen target.snapshot ≡ view → HasWanted wanted target image
    go None same = inr (NoSnapshot, record { seen = seen; volume = volume; volume_is = meant; none = same })
    go (Some view) same =
        let is : IsMeantView image target seen volume view = record { volume_is = meant; same = same } in
        of_view wanted target image seen volume view paths is (well_lawful profile image target w seen volume view is)

-- a volume that is meant, by its own head
pub meant_own : (image : List ℕ) (named : Option ℕ) (seen : Seen) (head : VolHead) (volume : Loaded) → IsMeantVolume image named seen head volume → IsMeantVolume image named seen volume.head volume
meant_own image named seen head volume is =
    let same : volume.head ≡ head = ap (λ (l : Loaded). l.head) is.loaded.same ∙ head_is image (site_of seen) head in
    let P : VolHead → Type 0 = λ h. IsMeantVolume image named seen h volume in
    subst P (sym same) is

-- in a well-formed container nothing stands in the way to the volume that is meant
pub well_clear : (profile : Profile) (named : Option ℕ) (image : List ℕ) → IsWellFormed profile image → IsClear image named
well_clear profile named image w = go (meant_head named (heads_of image w.seen)) refl
  where
    can : IsBrowsable profile image w.seen
    can = (browsed profile image w).0

    meant : (held : Option VolHead) → held ≡ meant_head named (heads_of image w.seen) → IsMeant image named w.seen held
    meant held same = record { newest = record { newest = can.newest; plain = can.plain }; right = can.heads.right; same = same }

    go : (held : Option VolHead) → meant_head named (heads_of image w.seen) ≡ held → IsClear image named
    go None same = inr (record { seen = w.seen; is = meant None (sym same) })
    go (Some head) same =
        let one : In head (heads_of image w.seen) = in_heads named (heads_of image w.seen) (heads_of image w.seen) head refl (sym same) in
        inl (record { seen = w.seen; head = head; volume = volume_of image w.seen head; is = record { meant = meant (Some head) (sym same); loaded = can.volumes head one } })

-- in a well-formed container what is wanted is a text or an answer
pub well_wanted : (profile : Profile) (wanted : Wanted) (target : AskedTarget) (image : List ℕ) → AnswersPaths wanted → IsWellFormed profile image → HasWanted wanted target image
well_wanted profile wanted target image paths w = elim (well_clear profile target.volume image w) as (λ _. HasWanted wanted target image) [
  | inl has ↦ of_volume profile wanted target image has.seen has.volume paths w (meant_own image target.volume has.seen has.head has.volume has.is)
  | inr none ↦ inr (NoVolume, none)
]
