-- What is said of a superblock that was read.
use Rattle.std.specs.Prelude.{◌≡◌, ℕ, ◌≤◌, true, List, Result, Ok, Err}
use Rattle.std.proofs.Common.{arith}
use Rattle.std.proofs.lemmas.Grind.{common_steps}
use Rattle.blk_read.specs.Object.{judged}
use Rattle.obj_base.specs.BlockSize.{is_accepted}
use Rattle.obj_base.specs.Stops.{Tells}
use Rattle.obj_base.specs.declared.header.Header.{Header}
use Rattle.obj_base.specs.declared.header.HeadFault.{HeadFault}
use Rattle.obj_base.specs.declared.stop.Bad.{Bad}
use Rattle.obj_base.specs.declared.stop.Bad.TheVariants as bads
use Rattle.obj_base.specs.declared.stop.Stop.{Stop}
use Rattle.obj_base.specs.declared.stop.Stop.TheVariants.{Found, Unsupported, ReadFault, NoMemory}
use Rattle.obj_base.specs.declared.stop.Unsound.{Unsound}
use Rattle.vol_view.specs.Slots.{after_header, head_raised}

-- a stop is that of an answer
abbrev pub IsStopOf : {T F : Type 0} → Result T (Stop F) → Stop F → Type 0
IsStopOf answer stop = Tells (λ f. answer ≡ Err (Found f)) (λ name block. answer ≡ Err (Unsupported name block)) stop

-- a test of the header that fails is said of the superblock
pub raise_head : (block : ℕ) (bytes : List ℕ) (r : Result Header (Bad HeadFault)) (stop : Stop (Unsound HeadFault)) → IsStopOf (judged block bytes r) stop → IsStopOf (after_header block bytes r) (head_raised stop)
raise_head block bytes (Ok h) (Found f) e = absurd (cc)
raise_head block bytes (Ok h) (Unsupported name at) e = absurd (cc)
raise_head block bytes (Err (bads.Found why)) (Found f) e = cc
raise_head block bytes (Err (bads.Found why)) (Unsupported name at) e = absurd (cc)
raise_head block bytes (Err (bads.Unsupported feature)) (Found f) e = absurd (cc)
raise_head block bytes (Err (bads.Unsupported feature)) (Unsupported name at) e = cc
raise_head block bytes r ReadFault e = tt
raise_head block bytes r NoMemory e = tt

-- a block is long enough for a superblock
pub long_enough : (n size : ℕ) → is_accepted size ≡ true → n ≡ size → 1024 ≤ n
long_enough n size accepted same = Prim.grind (arith, common_steps, accepted, same)
