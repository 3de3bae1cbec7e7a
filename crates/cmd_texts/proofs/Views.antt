-- The view that is meant is one.
use Rattle.std.specs.Prelude.{◌≡◌, ◌<◌, ℕ, Bool, true, false, nat_lt, bytes_eq, List, length, Option, Some, None, Result, Ok, Err, refl}
use Rattle.std.specs.List.{position_or_len}
use Rattle.std.proofs.Common.{inl, inr, sym, ◌∙◌, ap, subst, cond, arith}
use Rattle.cmd_words.specs.Asked.{AskedTarget}
use Rattle.nx_ring.specs.Checkpoint.{Seen, site_of}
use Rattle.vol_view.specs.declared.volume.Snapshot.{Snapshot}
use Rattle.vol_view.specs.declared.volume.View.{View}
use Rattle.vol_view.specs.Volumes.{Loaded, loaded_of}
use Rattle.vol_view.specs.Views.{by_name_of}
use Rattle.view_rules.specs.Rules.{view_facts}
use Rattle.path_search.specs.Stops.{IsLawful}
use Rattle.path_search.specs.declared.answer.Answer.{Answer}
use Rattle.cmd_texts.specs.Meant.{IsMeantVolume, HasVolume, HasNoVolume}
use Rattle.cmd_texts.specs.MeantView.{view_of, IsMeantView, HasView, HasNoSnapshot, IsLawfulView}
use Rattle.cmd_texts.specs.OnView.{Wanted, IsWantedOf, IsTextOn, IsAnswerOn}
use Rattle.cmd_texts.proofs.ByAnswers.{which_answer}
use Rattle.cmd_texts.proofs.Stops.{one_newest}
use Rattle.cmd_texts.proofs.Ways.{one_held, volume_or_none}

-- the place of a name is one of a snapshot
pub by_name_low : (volume : Loaded) (name : List ℕ) (i : ℕ) → Some i ≡ by_name_of volume name → i < length volume.snaps
unfolding by_name_of
by_name_low volume name i is =
    let test : Snapshot → Bool = λ s. bytes_eq s.name name in
    let p : ℕ = position_or_len test volume.snaps in
    let n : ℕ = length volume.snaps in
    let go : (b : Bool) → nat_lt p n ≡ b → ◌≡◌ {A = Option ℕ} (Some i) (cond b (Some p) None) → i < n = λ b. elim b as (λ b. nat_lt p n ≡ b → ◌≡◌ {A = Option ℕ} (Some i) (cond b (Some p) None) → i < n) [
      | true ↦ λ low e. let same : i ≡ p = Prim.cc in grind (arith, low, same)
      | false ↦ λ low e. absurd Prim.cc
    ] in
    go (nat_lt p n) refl is

-- a view that is meant is of a volume that is meant
pub view_volume : (image : List ℕ) (target : AskedTarget) (seen : Seen) (volume : Loaded) → IsMeantVolume image target.volume seen volume.head volume → HasVolume image target.volume
view_volume image target seen volume is = record { seen = seen; head = volume.head; volume = volume; is = is }

-- the newest checkpoint is one
one_seen : (image : List ℕ) (named : Option ℕ) (a b : Seen) (x y : Loaded) → IsMeantVolume image named a x.head x → IsMeantVolume image named b y.head y → a ≡ b
one_seen image named a b x y first second = one_newest image a b first.meant.newest.newest second.meant.newest.newest

-- so is the volume
one_volume : (image : List ℕ) (named : Option ℕ) (a b : Seen) (x y : Loaded) → IsMeantVolume image named a x.head x → IsMeantVolume image named b y.head y → x ≡ y
one_volume image named a b x y first second =
    let held : Some x.head ≡ Some y.head = one_held image named a b (Some x.head) (Some y.head) first.meant second.meant in
    let heads : x.head ≡ y.head = Prim.cc in
    first.loaded.same
    ∙ ap (λ s. loaded_of image (site_of s) x.head) (one_seen image named a b x y first second)
    ∙ ap (λ h. loaded_of image (site_of b) h) heads
    ∙ sym second.loaded.same

-- what is meant of the one volume is one
one_meant : (image : List ℕ) (named : Option ℕ) (snapshot : Option (List ℕ)) (a b : Seen) (x y : Loaded) → IsMeantVolume image named a x.head x → IsMeantVolume image named b y.head y →
    view_of x a snapshot ≡ view_of y b snapshot
one_meant image named snapshot a b x y first second =
    ap (λ s. view_of x s snapshot) (one_seen image named a b x y first second)
    ∙ ap (λ v. view_of v b snapshot) (one_volume image named a b x y first second)

-- there isn't both a view that is meant and none
pub view_or_none : (image : List ℕ) (target : AskedTarget) → HasView image target → HasNoSnapshot image target → ⊥
view_or_none image target has lacks =
    let same = one_meant image target.volume target.snapshot has.seen lacks.seen has.volume lacks.volume has.is.volume_is lacks.volume_is in
    let e : Some has.view ≡ None = sym has.is.same ∙ same ∙ lacks.none in
    Prim.cc

-- a fact of the view that is meant holds of each that is
pub same_view : (image : List ℕ) (target : AskedTarget) (a b : Seen) (x y : Loaded) (v w : View) (P : Seen → Loaded → View → Type 0) → IsMeantView image target a x v → IsMeantView image target b y w → P a x v → P b y w
same_view image target a b x y v w P first second fact =
    let same = one_meant image target.volume target.snapshot a b x y first.volume_is second.volume_is in
    let views : Some v ≡ Some w = sym first.same ∙ same ∙ second.same in
    let view : v ≡ w = Prim.cc in
    let Q : Seen → Type 0 = λ s. P s x v in
    let R : Loaded → Type 0 = λ l. P b l v in
    let S : View → Type 0 = λ u. P b y u in
    subst S view
    (subst R (one_volume image target.volume a b x y first.volume_is second.volume_is)
    (subst Q (one_seen image target.volume a b x y first.volume_is second.volume_is) fact))

-- where no view is meant each that is meets its rules
pub none_lawful : (image : List ℕ) (target : AskedTarget) → (HasView image target → ⊥) → IsLawfulView image target
none_lawful image target none seen volume view is = absurd (none (record { seen = seen; volume = volume; view = view; is = is }))

pub no_volume_no_view : (image : List ℕ) (target : AskedTarget) → HasNoVolume image target.volume → HasView image target → ⊥
no_volume_no_view image target lacks has = volume_or_none image target.volume (view_volume image target has.seen has.volume has.is.volume_is) lacks

-- where something is wanted of the view that is meant, there is one
pub wanted_view : (wanted : Wanted) (target : AskedTarget) (image : List ℕ) (result : Result (List ℕ) Answer) → IsWantedOf wanted target image result → HasView image target
wanted_view wanted target image result is = record { seen = is.seen; volume = is.volume; view = is.view; is = is.is }

-- and it meets its rules
pub wanted_lawful : (wanted : Wanted) (target : AskedTarget) (image : List ℕ) (result : Result (List ℕ) Answer) → IsWantedOf wanted target image result → IsLawfulView image target
wanted_lawful wanted target image result is seen volume view meant =
    same_view image target is.seen seen is.volume volume is.view view (λ s l v. IsLawful image (site_of s) l v) is.is meant is.lawful

pub answer_lawful : (wanted : Wanted) (target : AskedTarget) (image : List ℕ) (answer : Answer) → IsAnswerOn wanted target image answer → IsLawfulView image target
answer_lawful wanted target image answer is =
    elim (which_answer answer (HasNoVolume image target.volume) (HasNoSnapshot image target) (IsWantedOf wanted target image (Err answer)) is) [
      | inl volume ↦ none_lawful image target (λ has. no_volume_no_view image target volume.1 has)
      | inr more ↦ elim more [
        | inl snapshot ↦ none_lawful image target (λ has. view_or_none image target has snapshot.1)
        | inr path ↦ wanted_lawful wanted target image (Err answer) path
      ]
    ]

-- what is wanted of the view that is meant is one
pub one_wanted : (wanted : Wanted) (target : AskedTarget) (image : List ℕ) (a b : Result (List ℕ) Answer) → IsWantedOf wanted target image a → IsWantedOf wanted target image b → a ≡ b
one_wanted wanted target image a b first second =
    let P : Seen → Loaded → View → Type 0 = λ s l v. wanted (site_of s).block_size image (view_facts image (site_of s) l v) ≡ a in
    sym (same_view image target first.seen second.seen first.volume second.volume first.view second.view P first.is second.is first.same) ∙ second.same

-- a text and an answer are never both wanted
pub text_no_answer : (wanted : Wanted) (target : AskedTarget) (image text : List ℕ) (answer : Answer) → IsTextOn wanted target image text → IsAnswerOn wanted target image answer → ⊥
text_no_answer wanted target image text answer has is =
    elim (which_answer answer (HasNoVolume image target.volume) (HasNoSnapshot image target) (IsWantedOf wanted target image (Err answer)) is) [
      | inl volume ↦ no_volume_no_view image target volume.1 (wanted_view wanted target image (Ok text) has)
      | inr more ↦ elim more [
        | inl snapshot ↦ view_or_none image target (wanted_view wanted target image (Ok text) has) snapshot.1
        | inr path ↦
            let e : ◌≡◌ {A = Result (List ℕ) Answer} (Ok text) (Err answer) = one_wanted wanted target image (Ok text) (Err answer) has path in
            Prim.cc
      ]
    ]
