-- What the newest checkpoint is, and what the tests before it name.
use Rattle.std.proofs.Common.{inl, inr, IfOk, ◌≡◌, ℕ, List, [], Option, Some, None, option_map, Result, Ok, Err, IfErr, refl, ap, sym, subst, ◌∙◌, arith}
use Rattle.std.proofs.lemmas.Grind.{common_steps}
use Rattle.obj_base.specs.declared.stop.Feature.{Feature}
use Rattle.obj_base.specs.declared.stop.Stop.{Stop}
use Rattle.obj_base.specs.declared.stop.Stop.TheVariants.{Found, Unsupported, ReadFault, NoMemory}
use Rattle.obj_base.specs.Stops.{Tells, Gives}
use Rattle.nx_block.specs.Super.{desc_blocks_of, data_blocks_of}
use Rattle.nx_ring.specs.declared.areas.Areas.{Areas}
use Rattle.nx_ring.specs.declared.line.RingLine.{RingLine}
use Rattle.nx_ring.specs.declared.fault.RingFault.{RingFault}
use Rattle.nx_ring.specs.declared.fault.RingFault.TheVariants.{BlockZero, Truncated, NoCheckpoint}
use Rattle.nx_ring.specs.Zero.{zero_of, areas_of, after_zero, where_whole, is_short, IsWrongZero, IsTruncated, IsNonContiguous}
use Rattle.nx_ring.specs.Candidates.{all_candidates}
use Rattle.nx_ring.specs.Checkpoint.{Seen}
use Rattle.nx_ring.specs.Newest.{newest_line, seen_of, checkpoint_of, checkpoint_or, newest_of, skipped_of, IsFault, IsFeature}
use Rattle.nx_ring.specs.Reading.{passing}
use Rattle.nx_ring.specs.Ring.{IsRingFault, IsRingFeature}

-- the best of all candidates, with those before which it stands, is the newest checkpoint
chosen : (image : List ℕ) (areas : Areas) (o : Option RingLine) (checkpoint : Seen) → option_map (seen_of image areas []) o ≡ Some checkpoint → checkpoint_or (option_map (checkpoint_of image areas) o) ≡ Ok (passing checkpoint (skipped_of (all_candidates image areas) checkpoint.line.xid))
unfolding seen_of checkpoint_of
chosen image areas None checkpoint e = absurd (Prim.cc)
chosen image areas (Some line) checkpoint e =
    let same : seen_of image areas [] line ≡ checkpoint = Prim.cc in
    let P : Seen → Type 0 = λ seen. checkpoint_or (Some (checkpoint_of image areas line)) ≡ Ok (passing seen (skipped_of (all_candidates image areas) seen.line.xid)) in
    subst P same refl

unchosen : (image : List ℕ) (areas : Areas) (o : Option RingLine) → option_map (seen_of image areas []) o ≡ None → checkpoint_or (option_map (checkpoint_of image areas) o) ≡ Err (Found NoCheckpoint)
unchosen image areas None e = refl
unchosen image areas (Some line) e = absurd (Prim.cc)

-- where the tests of block 0 answer its areas, they let any answer through
passed : {T : Type 0} (image : List ℕ) (areas : Areas) (answer : Result T (Stop RingFault)) → after_zero image (Ok (areas_of (zero_of image))) ≡ Ok areas → after_zero image answer ≡ answer
unfolding after_zero where_whole
passed image areas answer e = Prim.grind (arith, common_steps, e)

areas_are : (image : List ℕ) (areas : Areas) → after_zero image (Ok (areas_of (zero_of image))) ≡ Ok areas → areas_of (zero_of image) ≡ areas
unfolding after_zero where_whole
areas_are image areas e = Prim.grind (arith, common_steps, e)

-- the numbers of blocks of the areas
pub sizes_are : (image : List ℕ) (areas : Areas) → after_zero image (Ok (areas_of (zero_of image))) ≡ Ok areas → (desc_blocks_of (zero_of image) ≡ areas.desc_blocks) × (data_blocks_of (zero_of image) ≡ areas.data_blocks)
unfolding areas_of
sizes_are image areas e =
    let same = areas_are image areas e in
    (ap (λ (a : Areas). a.desc_blocks) same, ap (λ (a : Areas). a.data_blocks) same)

-- an answer is given by a result that is its value or wants memory
pub given_by : (answer : Result Seen (Stop RingFault)) (value : Seen) (result : Result Seen (Stop RingFault)) → answer ≡ Ok value → IfOk result (λ seen. seen ≡ value) → IfErr result (λ stop. stop ≡ NoMemory) → Gives (λ (seen : Seen). seen) result answer
given_by answer value (Ok seen) e f g = e ∙ ap Ok (sym f)
given_by answer value (Err NoMemory) e f g = tt
given_by answer value (Err ReadFault) e f g = tt
given_by answer value (Err (Found fault)) e f g = absurd (Prim.cc)
given_by answer value (Err (Unsupported name block)) e f g = absurd (Prim.cc)

-- what was found is the newest checkpoint
pub found_is : (image : List ℕ) (areas : Areas) (checkpoint : Seen) → after_zero image (Ok (areas_of (zero_of image))) ≡ Ok areas → Some checkpoint ≡ option_map (seen_of image areas []) (newest_line image areas) → newest_of image ≡ Ok (passing checkpoint (skipped_of (all_candidates image areas) checkpoint.line.xid))
unfolding newest_of
found_is image areas checkpoint e f =
    let same = areas_are image areas e in
    let answer = checkpoint_or (option_map (checkpoint_of image (areas_of (zero_of image))) (newest_line image (areas_of (zero_of image)))) in
    let P : Areas → Type 0 = λ a. checkpoint_or (option_map (checkpoint_of image a) (newest_line image a)) ≡ Ok (passing checkpoint (skipped_of (all_candidates image areas) checkpoint.line.xid)) in
    passed image areas answer e ∙ subst P (sym same) (chosen image areas (newest_line image areas) checkpoint (sym f))

-- where nothing was found there is no checkpoint
pub nothing_is : (image : List ℕ) (areas : Areas) → after_zero image (Ok (areas_of (zero_of image))) ≡ Ok areas → None ≡ option_map (seen_of image areas []) (newest_line image areas) → newest_of image ≡ Err (Found NoCheckpoint)
unfolding newest_of
nothing_is image areas e f =
    let same = areas_are image areas e in
    let answer = checkpoint_or (option_map (checkpoint_of image (areas_of (zero_of image))) (newest_line image (areas_of (zero_of image)))) in
    let P : Areas → Type 0 = λ a. checkpoint_or (option_map (checkpoint_of image a) (newest_line image a)) ≡ Err (Found NoCheckpoint) in
    passed image areas answer e ∙ subst P (sym same) (unchosen image areas (newest_line image areas) (sym f))

-- a test of block 0 that fails is the one that both answers name
pub early : {T : Type 0} (image : List ℕ) (x : T) (stop : Stop RingFault) → after_zero image (Ok x) ≡ Err stop → newest_of image ≡ Err stop
unfolding newest_of after_zero where_whole
early image x stop e = Prim.grind (arith, common_steps, e)

abbrev IsNamed : List ℕ → Option Seen → RingFault → Type 0
IsNamed image o BlockZero = IsWrongZero image
IsNamed image o (Truncated have need) = IsTruncated image have need
IsNamed image o NoCheckpoint = o ≡ None

named : (image : List ℕ) (o : Option Seen) (fault : RingFault) → after_zero image (checkpoint_or o) ≡ Err (Found fault) → IsNamed image o fault
unfolding after_zero where_whole is_short
named image None BlockZero e = Prim.grind (arith, common_steps, e)
named image (Some seen) BlockZero e = Prim.grind (arith, common_steps, e)
named image None (Truncated have need) e = record { right = Prim.grind (arith, common_steps, e); have_is = Prim.grind (arith, common_steps, e); need_is = Prim.grind (arith, common_steps, e); fewer = Prim.grind (arith, common_steps, e) }
named image (Some seen) (Truncated have need) e = record { right = Prim.grind (arith, common_steps, e); have_is = Prim.grind (arith, common_steps, e); need_is = Prim.grind (arith, common_steps, e); fewer = Prim.grind (arith, common_steps, e) }
named image None NoCheckpoint e = refl
named image (Some seen) NoCheckpoint e = absurd (Prim.grind (arith, common_steps, e))

none_before : {X Y : Type 0} (f : X → Y) (o : Option X) → option_map f o ≡ None → o ≡ None
none_before f None e = refl
none_before f (Some x) e = absurd (Prim.cc)

-- a fault of the four tests is present
pub fault_there : (image : List ℕ) (fault : RingFault) → IsFault image fault → IsRingFault image fault
unfolding newest_of
fault_there image BlockZero e = named image (option_map (checkpoint_of image (areas_of (zero_of image))) (newest_line image (areas_of (zero_of image)))) BlockZero e
fault_there image (Truncated have need) e = named image (option_map (checkpoint_of image (areas_of (zero_of image))) (newest_line image (areas_of (zero_of image)))) (Truncated have need) e
fault_there image NoCheckpoint e = none_before (checkpoint_of image (areas_of (zero_of image))) (newest_line image (areas_of (zero_of image))) (named image (option_map (checkpoint_of image (areas_of (zero_of image))) (newest_line image (areas_of (zero_of image)))) NoCheckpoint e)

split : (image : List ℕ) (o : Option Seen) (name : Feature) (block : ℕ) → after_zero image (checkpoint_or o) ≡ Err (Unsupported name block) → IsNonContiguous image name block
unfolding after_zero where_whole is_short
split image None name block e = record { name_is = Prim.grind (arith, common_steps, e); block_is = Prim.grind (arith, common_steps, e); right = Prim.grind (arith, common_steps, e); split = Prim.grind (arith, common_steps, e) }
split image (Some seen) name block e = record { name_is = Prim.grind (arith, common_steps, e); block_is = Prim.grind (arith, common_steps, e); right = Prim.grind (arith, common_steps, e); split = Prim.grind (arith, common_steps, e) }

-- a feature of the third test, or of the container, is present
pub feature_there : (image : List ℕ) (name : Feature) (block : ℕ) → IsFeature image name block → IsRingFeature image name block
unfolding newest_of
feature_there image name block (inl e) = inl (split image (option_map (checkpoint_of image (areas_of (zero_of image))) (newest_line image (areas_of (zero_of image)))) name block e)
feature_there image name block (inr e) = inr e

-- what a stop tells, weaker
pub tells_weaker : (P Q : RingFault → Type 0) (F G : Feature → ℕ → Type 0) (stop : Stop RingFault) → ((fault : RingFault) → P fault → Q fault) → ((name : Feature) (block : ℕ) → F name block → G name block) → Tells P F stop → Tells Q G stop
tells_weaker P Q F G (Found fault) f g t = f fault t
tells_weaker P Q F G (Unsupported name block) f g t = g name block t
tells_weaker P Q F G ReadFault f g t = tt
tells_weaker P Q F G NoMemory f g t = tt
