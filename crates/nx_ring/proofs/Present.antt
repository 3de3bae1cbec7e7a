-- What the tests of block 0 name is there.
use Rattle.std.proofs.Common.{◌≡◌, ℕ, List, Result, Ok, Err, IfErr, arith}
use Rattle.std.proofs.lemmas.Grind.{common_steps}
use Rattle.obj_base.specs.declared.stop.Feature.{Feature}
use Rattle.obj_base.specs.declared.stop.Stop.{Stop}
use Rattle.obj_base.specs.declared.stop.Stop.TheVariants.{Found, Unsupported, ReadFault, NoMemory}
use Rattle.obj_base.specs.Stops.{Gives, Tells}
use Rattle.nx_ring.specs.declared.fault.RingFault.{RingFault}
use Rattle.nx_ring.specs.declared.fault.RingFault.TheVariants.{BlockZero, Truncated, NoCheckpoint}
use Rattle.nx_ring.specs.Zero.{after_zero, where_whole, is_short, IsNonContiguous}
use Rattle.nx_ring.specs.Ring.{IsRingFault}

-- a fault that the tests of block 0 answer is present
pub fault_present : {T : Type 0} (image : List ℕ) (x : T) (fault : RingFault) → after_zero image (Ok x) ≡ Err (Found fault) → IsRingFault image fault
unfolding after_zero where_whole is_short
fault_present image x BlockZero e = Prim.grind (arith, common_steps, e)
fault_present image x (Truncated have need) e = record {
  right = Prim.grind (arith, common_steps, e);
  have_is = Prim.grind (arith, common_steps, e);
  need_is = Prim.grind (arith, common_steps, e);
  fewer = Prim.grind (arith, common_steps, e);
}
fault_present image x NoCheckpoint e = absurd (Prim.grind (arith, common_steps, e))

-- a feature that they answer is present
pub feature_present : {T : Type 0} (image : List ℕ) (x : T) (name : Feature) (block : ℕ) → after_zero image (Ok x) ≡ Err (Unsupported name block) → IsNonContiguous image name block
unfolding after_zero where_whole is_short
feature_present image x name block e = record {
  name_is = Prim.grind (arith, common_steps, e);
  block_is = Prim.grind (arith, common_steps, e);
  right = Prim.grind (arith, common_steps, e);
  split = Prim.grind (arith, common_steps, e);
}

-- the stop is that of an answer
abbrev IsStopOf : {T : Type 0} → Result T (Stop RingFault) → Stop RingFault → Type 0
IsStopOf answer stop = Tells (λ f. answer ≡ Err (Found f)) (λ name block. answer ≡ Err (Unsupported name block)) stop

tells_present : {T : Type 0} (image : List ℕ) (x : T) (stop : Stop RingFault) → IsStopOf (after_zero image (Ok x)) stop → Tells (IsRingFault image) (IsNonContiguous image) stop
tells_present image x (Found f) e = fault_present image x f e
tells_present image x (Unsupported name block) e = feature_present image x name block e
tells_present image x ReadFault e = tt
tells_present image x NoMemory e = tt

-- what an answer after these tests tells is present
pub told_present : {T U : Type 0} (image : List ℕ) (view : U → T) (x : T) (result : Result U (Stop RingFault)) → Gives view result (after_zero image (Ok x)) → IfErr result (Tells (IsRingFault image) (IsNonContiguous image))
told_present image view x (Ok y) e = tt
told_present image view x (Err stop) e = tells_present image x stop e

refuted : {T : Type 0} (P : RingFault → Type 0) (Q : Feature → ℕ → Type 0) (x : T) (stop : Stop RingFault) → IsStopOf (Ok x) stop → Tells P Q stop
refuted P Q x (Found f) e = absurd (Prim.cc)
refuted P Q x (Unsupported name block) e = absurd (Prim.cc)
refuted P Q x ReadFault e = tt
refuted P Q x NoMemory e = tt

-- where the answer is a value, no fault and no feature is told
pub value_told : {T U : Type 0} (P : RingFault → Type 0) (Q : Feature → ℕ → Type 0) (view : U → T) (x : T) (result : Result U (Stop RingFault)) → Gives view result (Ok x) → IfErr result (Tells P Q)
value_told P Q view x (Ok y) e = tt
value_told P Q view x (Err stop) e = refuted P Q x stop e
