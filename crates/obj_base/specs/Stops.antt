-- What a call that may stop has answered.
use Rattle.std.specs.Prelude.{◌≡◌, ℕ, Result, Ok, Err}
use Rattle.obj_base.specs.declared.stop.Feature.{Feature}
use Rattle.obj_base.specs.declared.stop.Bad.{Bad}
use Rattle.obj_base.specs.declared.stop.Bad.TheVariants as bads
use Rattle.obj_base.specs.declared.stop.Unsound.{Unsound}
use Rattle.obj_base.specs.declared.stop.Stop.{Stop}
use Rattle.obj_base.specs.declared.stop.Stop.TheVariants.{Found, Unsupported, ReadFault, NoMemory}

-- what a stop tells: a fact of the fault, or of the feature and its block; nothing where reading failed or memory ran out
abbrev pub Tells : {F : Type 0} → (F → Type 0) → (Feature → ℕ → Type 0) → Stop F → Type 0
Tells fault feature (Found f) = fault f
Tells fault feature (Unsupported name block) = feature name block
Tells fault feature ReadFault = Unit {0}
Tells fault feature NoMemory = Unit {0}

-- the answer is determined: a value as view shows it, a fault and a feature are those of the answer
abbrev pub Gives : {T U F : Type 0} → (T → U) → Result T (Stop F) → Result U (Stop F) → Type 0
Gives view (Ok value) answer = answer ≡ Ok (view value)
Gives view (Err stop) answer = Tells (λ f. answer ≡ Err (Found f)) (λ name block. answer ≡ Err (Unsupported name block)) stop

-- no feature is told of
abbrev pub NoFeature : Feature → ℕ → Type 0
NoFeature name block = ⊥

-- nothing is told of the image: reading failed, or memory ran out
abbrev pub IsFree : {F : Type 0} → Stop F → Type 0
IsFree stop = Tells (λ fault. ⊥) NoFeature stop

-- why a call stops where a test of the object in a block refuses: the fault and the feature are those of the block
abbrev pub in_block : {F : Type 0} → ℕ → Bad F → Stop (Unsound F)
in_block block (bads.Found why) = Found (record { block = block; why = why })
in_block block (bads.Unsupported feature) = Unsupported feature block

-- a stop whose fault is told in other words; the rest stays
abbrev pub raised : {F G : Type 0} → (F → G) → Stop F → Stop G
raised say (Found fault) = Found (say fault)
raised say (Unsupported feature block) = Unsupported feature block
raised say ReadFault = ReadFault
raised say NoMemory = NoMemory
