-- What stands in the way to the volume that is meant.
use Rattle.std.specs.Prelude.{◌≡◌, ℕ, ◌==◌, List, Option, Some, None, refl}
use Rattle.std.proofs.Common.{inl, inr, sym, ◌∙◌, ap, subst}
use Rattle.apfs_model.specs.Lists.{In}
use Rattle.apfs_model.proofs.Searches.{found-in}
use Rattle.obj_base.specs.declared.stop.Stop.{Stop}
use Rattle.obj_base.specs.declared.stop.Stop.TheVariants.{Found, Unsupported, ReadFault, NoMemory}
use Rattle.obj_base.specs.Stops.{Tells, IsFree}
use Rattle.nx_ring.specs.Checkpoint.{Seen, site_of}
use Rattle.vol_view.specs.declared.head.VolHead.{VolHead}
use Rattle.vol_view.specs.declared.stop.VolStop.{VolStop}
use Rattle.vol_view.specs.Heads.{heads_of}
use Rattle.vol_view.specs.Stops.{IsHeadsStop, IsHeadsFeature, AreRight, AreHeads}
use Rattle.vol_view.specs.LoadStops.{IsLoadStop, IsLoadFeature, IsLoadable}
use Rattle.apfs_check.specs.Raised.{of_volume}
use Rattle.cmd_texts.specs.Checkpoints.{IsNewest}
use Rattle.cmd_texts.specs.Meant.{meant_slot, meant_head, IsMeant, HasVolume, HasNoVolume}
use Rattle.cmd_texts.specs.Reached.{IsClear, TellsWay}
use Rattle.cmd_lines.specs.Stops.{stopped_at}
use Rattle.cmd_texts.proofs.Stops.{one_newest}

-- the slot that is meant holds one thing
pub one_held : (image : List ℕ) (named : Option ℕ) (a b : Seen) (x y : Option VolHead) → IsMeant image named a x → IsMeant image named b y → x ≡ y
one_held image named a b x y first second =
    first.same ∙ ap (λ s. meant_head named (heads_of image s)) (one_newest image a b first.newest.newest second.newest.newest) ∙ sym second.same

none_held : (image : List ℕ) (named : Option ℕ) (a b : Seen) (head : VolHead) → IsMeant image named a (Some head) → IsMeant image named b None → ⊥
none_held image named a b head first second = let e : Some head ≡ None = one_held image named a b (Some head) None first second in Prim.cc

-- the slot that is meant doesn't hold a volume and hold none
pub volume_or_none : (image : List ℕ) (named : Option ℕ) → HasVolume image named → HasNoVolume image named → ⊥
volume_or_none image named has lacks = none_held image named has.seen lacks.seen has.head has.is.meant lacks.is

-- where nothing stands in the way there is a newest checkpoint, whose volumes are right
pub record HasRight (image : List ℕ) : Type 0 where
  pub seen : Seen
  pub newest : IsNewest image seen
  pub right : AreRight image seen

has_right : (image : List ℕ) (named : Option ℕ) → IsClear image named → HasRight image
has_right image named (inl has) = record { seen = has.seen; newest = has.is.meant.newest; right = has.is.meant.right }
has_right image named (inr lacks) = record { seen = lacks.seen; newest = lacks.is.newest; right = lacks.is.right }

right_at : (image : List ℕ) (seen : Seen) → IsNewest image seen → HasRight image → AreRight image seen
right_at image seen newest has =
    let P : Seen → Type 0 = λ s. AreRight image s in
    subst P (one_newest image has.seen seen has.newest.newest newest.newest) has.right

-- what stops the heads of the volumes
pub heads_way : (image : List ℕ) (named : Option ℕ) (seen : Seen) (stop : Stop VolStop) → IsNewest image seen →
    Tells (IsHeadsStop image seen) (IsHeadsFeature image seen) stop → (AreRight image seen → IsFree stop) → TellsWay image named (stopped_at (of_volume seen.line.xid) stop)
heads_way image named seen (Found why) newest there exact =
    (λ clear. exact (right_at image seen newest (has_right image named clear)), inr (inl (seen, why, newest, there, refl)))
heads_way image named seen (Unsupported feature block) newest there exact =
    (λ clear. exact (right_at image seen newest (has_right image named clear)), inr (inl (seen, newest, there)))
heads_way image named seen ReadFault newest there exact = tt
heads_way image named seen NoMemory newest there exact = tt

-- where nothing stands in the way the volume that is meant can be loaded
loadable_at : (image : List ℕ) (named : Option ℕ) (seen : Seen) (head : VolHead) → IsMeant image named seen (Some head) → IsClear image named → IsLoadable image (site_of seen) head
loadable_at image named seen head meant (inr lacks) = absurd (none_held image named seen lacks.seen head meant lacks.is)
loadable_at image named seen head meant (inl has) =
    let same : Some has.head ≡ Some head = one_held image named has.seen seen (Some has.head) (Some head) has.is.meant meant in
    let one : has.head ≡ head = Prim.cc in
    let P : Seen → Type 0 = λ s. IsLoadable image (site_of s) has.head in
    let Q : VolHead → Type 0 = λ h. IsLoadable image (site_of seen) h in
    subst Q one (subst P (one_newest image has.seen seen has.is.meant.newest.newest meant.newest.newest) has.is.loaded.right)

-- what stops the volume that is meant
pub load_way : (image : List ℕ) (named : Option ℕ) (seen : Seen) (head : VolHead) (stop : Stop VolStop) → IsMeant image named seen (Some head) →
    Tells (IsLoadStop image (site_of seen) head) (IsLoadFeature image (site_of seen) head) stop → (IsLoadable image (site_of seen) head → IsFree stop) →
    TellsWay image named (stopped_at (of_volume seen.line.xid) stop)
load_way image named seen head (Found why) meant there exact =
    (λ clear. exact (loadable_at image named seen head meant clear), inr (inr (record { seen = seen; head = head; why = why; meant = meant; there = there; same = refl })))
load_way image named seen head (Unsupported feature block) meant there exact =
    (λ clear. exact (loadable_at image named seen head meant clear), inr (inr (record { seen = seen; head = head; meant = meant; there = there })))
load_way image named seen head ReadFault meant there exact = tt
load_way image named seen head NoMemory meant there exact = tt

-- what the slot that is meant holds, by the heads that were told
pub held_at : (image : List ℕ) (named : Option ℕ) (seen : Seen) (heads list : List VolHead) (held : Option VolHead) → IsNewest image seen → AreHeads image seen heads → list ≡ heads →
    held ≡ meant_head named list → IsMeant image named seen held
held_at image named seen heads list held newest are listed is = record {
  newest = newest;
  right = are.right;
  same = is ∙ ap (λ (hs : List VolHead). meant_head named hs) (listed ∙ are.same);
}

-- a head that is meant is one of those that were told
pub in_heads : (named : Option ℕ) (heads list : List VolHead) (head : VolHead) → list ≡ heads → Some head ≡ meant_head named list → In head heads
in_heads named heads list head listed is =
    let P : List VolHead → Type 0 = λ hs. In head hs in
    subst P listed (found-in (λ (h : VolHead). h.slot == meant_slot named list) list head (sym is)).0
