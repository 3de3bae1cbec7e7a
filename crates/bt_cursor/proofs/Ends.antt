-- What an end of a call is not.
use Rattle.std.specs.Prelude.{Ok, Err, IsErrOf}
use Rattle.obj_base.specs.declared.stop.Stop.{Stop}
use Rattle.obj_base.specs.declared.stop.Stop.TheVariants.{Found, ReadFault, NoMemory}

pub ok-not : {T E A : Type 0} (x : T) (e : E) → IsErrOf {T = T} {E = E} (Ok x) e → A
ok-not x e is = absurd (cc)

pub read-not : {T F A : Type 0} (why : F) → IsErrOf {T = T} {E = Stop F} (Err (Found why)) ReadFault → A
read-not why is = absurd (cc)

pub memory-not : {T F A : Type 0} (why : F) → IsErrOf {T = T} {E = Stop F} (Err (Found why)) NoMemory → A
memory-not why is = absurd (cc)

-- an error that is handed on
pub err-as : {T U E : Type 0} (e f : E) → IsErrOf {T = T} {E = E} (Err e) f → IsErrOf {T = U} {E = E} (Err e) f
err-as e f is = cc
