-- The first step to the law of a new container.
use Rattle.img_format.specs.declared.spec.Spec.{Spec}
use Rattle.img_format.specs.Valid.{IsValid}
use Rattle.img_format.specs.Fresh.{fresh}
use Rattle.fresh_law.specs.Facts.{IsFresh}

-- what the blocks of a new container say
abbrev pub FreshSays : Type 0
FreshSays = (spec : Spec) → IsValid spec → IsFresh spec (fresh spec)
