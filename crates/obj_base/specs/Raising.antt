-- What a relation allows of a stop that is told in other words.
use Rattle.std.specs.Prelude.{◌≡◌}
use Rattle.obj_base.specs.declared.stop.Stop.{Stop}
use Rattle.obj_base.specs.declared.stop.Stop.TheVariants.{Found, Unsupported, ReadFault, NoMemory}

-- a stop whose fault is told in other words, as a relation allows; the rest stays
abbrev pub IsRaisedBy : {F G : Type 0} → (F → G → Type 0) → Stop F → Stop G → Type 0
IsRaisedBy {F} {G} says (Found fault) after = (told : G) × says fault told × (after ≡ Found told)
IsRaisedBy says (Unsupported feature block) after = after ≡ Unsupported feature block
IsRaisedBy says ReadFault after = after ≡ ReadFault
IsRaisedBy says NoMemory after = after ≡ NoMemory
