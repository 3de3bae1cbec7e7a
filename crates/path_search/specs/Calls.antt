-- What the calls on paths answer where they stop.
use Rattle.std.specs.Prelude.{◌≡◌, ℕ, List, Result, Ok, Err}
use Rattle.obj_base.specs.Stops.{Tells}
use Rattle.obj_base.specs.declared.stop.Stop.{Stop}
use Rattle.obj_base.specs.declared.stop.Stop.TheVariants.{Found, Unsupported, ReadFault, NoMemory}
use Rattle.obj_base.specs.declared.site.Site.{Site}
use Rattle.bt_cursor.specs.declared.fault.WalkFault.{WalkFault}
use Rattle.vol_view.specs.Volumes.{Loaded}
use Rattle.vol_view.specs.Views.{IsViewFeature}
use Rattle.vol_view.specs.declared.volume.View.{View}
use Rattle.view_rules.specs.Listed as listed
use Rattle.path_search.specs.declared.answer.Answer.{Answer}
use Rattle.path_search.specs.declared.stop.PathStop.{PathStop}
use Rattle.path_search.specs.declared.stop.PathStop.TheVariants as stops
use Rattle.path_search.specs.Stops.{IsPathFault}

-- what a call has answered of a view that meets its rules: the value, as view shows it, or the answer, and neither a fault nor a feature; nothing is told where reading failed or memory ran out
abbrev pub IsGiven : {T U : Type 0} → (T → U) → Result U Answer → Result T (Stop PathStop) → Type 0
IsGiven view wanted (Ok x) = wanted ≡ Ok (view x)
IsGiven view wanted (Err (Found (stops.Answer a))) = wanted ≡ Err a
IsGiven view wanted (Err (Found (stops.Fault fault))) = ⊥
IsGiven view wanted (Err (Unsupported feature block)) = ⊥
IsGiven view wanted (Err ReadFault) = Unit {0}
IsGiven view wanted (Err NoMemory) = Unit {0}

-- a fault that stops a call is there; of an answer nothing is said of each view
abbrev pub IsPathStop : List ℕ → Site → Loaded → View → PathStop → Type 0
IsPathStop image site volume view (stops.Answer a) = Unit {0}
IsPathStop image site volume view (stops.Fault fault) = IsPathFault image site volume view fault

-- what stops a call is there, whatever the view: a fault of it, or a feature of one of its nodes
abbrev pub IsStopThere : List ℕ → Site → Loaded → View → Stop PathStop → Type 0
IsStopThere image site volume view stop = Tells (IsPathStop image site volume view) (IsViewFeature image site volume view) stop

-- what a walk names, said of a path
abbrev pub of_walk : View → WalkFault → PathStop
of_walk view why = stops.Fault (listed.raised view why)

-- a call stops with no answer
abbrev pub IsNoAnswer : Stop PathStop → Type 0
IsNoAnswer (Found (stops.Answer a)) = ⊥
IsNoAnswer (Found (stops.Fault fault)) = Unit {0}
IsNoAnswer (Unsupported feature block) = Unit {0}
IsNoAnswer ReadFault = Unit {0}
IsNoAnswer NoMemory = Unit {0}
