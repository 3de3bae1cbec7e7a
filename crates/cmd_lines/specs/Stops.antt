-- How a stop is an outcome, and why a run stops if a layer does.
use Rattle.std.specs.Prelude.{ℕ, List, Result, Ok, Err}
use Rattle.obj_base.specs.declared.stop.Stop.{Stop}
use Rattle.obj_base.specs.declared.stop.Stop.TheVariants as layer
use Rattle.apfs_check.specs.declared.fault.Fault.{Fault}
use Rattle.cmd_lines.specs.declared.named.Named.TheVariants.{InContainer}
use Rattle.cmd_lines.specs.declared.stopped.Stopped.{Stopped}
use Rattle.cmd_lines.specs.declared.stopped.Stopped.TheVariants as stops
use Rattle.cmd_lines.specs.Outcome.{Outcome, Written, Faulty, WrongWords, ReadFailed, WriteFailed, OutOfMemory, Refused, Answered, NoImage, NoFolder}

-- the outcome of a run that has written so much of its text
abbrev pub outcome_of : Result Unit Stopped → List ℕ → Outcome
outcome_of (Ok done) part = Written part
outcome_of (Err (stops.Faulty named)) part = Faulty part named
outcome_of (Err stops.WrongWords) part = WrongWords
outcome_of (Err stops.ReadFailed) part = ReadFailed part
outcome_of (Err stops.WriteFailed) part = WriteFailed part
outcome_of (Err stops.OutOfMemory) part = OutOfMemory part
outcome_of (Err (stops.Refused feature block)) part = Refused part feature block
outcome_of (Err (stops.Answered answer)) part = Answered part answer
outcome_of (Err stops.NoImage) part = NoImage
outcome_of (Err stops.NoFolder) part = NoFolder

-- why a run stops where a layer does, by what the layer's fault is of the container
abbrev pub stopped_at : {F : Type 0} → (F → Fault) → Stop F → Stopped
stopped_at fault (layer.Found why) = stops.Faulty (InContainer (fault why))
stopped_at fault (layer.Unsupported feature block) = stops.Refused feature block
stopped_at fault layer.ReadFault = stops.ReadFailed
stopped_at fault layer.NoMemory = stops.OutOfMemory
