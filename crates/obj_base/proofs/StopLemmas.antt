-- What a stop tells, told in other words.
use Rattle.std.proofs.Common.{ℕ}
use Rattle.obj_base.specs.declared.stop.Feature.{Feature}
use Rattle.obj_base.specs.declared.stop.Stop.{Stop}
use Rattle.obj_base.specs.declared.stop.Stop.TheVariants.{Found, Unsupported, ReadFault, NoMemory}
use Rattle.obj_base.specs.Stops.{Tells, raised}

-- what a stop tells of its fault is told in the other words
pub raised_tells : {F G : Type 0} (say : F → G) (fault : F → Type 0) (told : G → Type 0) (feature : Feature → ℕ → Type 0) (stop : Stop F) →
    ((f : F) → fault f → told (say f)) → Tells fault feature stop → Tells told feature (raised say stop)
raised_tells say fault told feature (Found f) carries h = carries f h
raised_tells say fault told feature (Unsupported name block) carries h = h
raised_tells say fault told feature ReadFault carries h = tt
raised_tells say fault told feature NoMemory carries h = tt

-- a stop that tells something tells all that follows from it
pub tells_more : {F : Type 0} (fault more : F → Type 0) (feature others : Feature → ℕ → Type 0) (stop : Stop F) →
    ((f : F) → fault f → more f) → ((name : Feature) (block : ℕ) → feature name block → others name block) → Tells fault feature stop → Tells more others stop
tells_more fault more feature others (Found f) faults features h = faults f h
tells_more fault more feature others (Unsupported name block) faults features h = features name block h
tells_more fault more feature others ReadFault faults features h = tt
tells_more fault more feature others NoMemory faults features h = tt
