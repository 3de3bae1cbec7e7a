-- What a run has come to, as an outcome.
use Rattle.std.specs.Prelude.{ℕ}
use Rattle.obj_base.specs.declared.stop.Stop.{Stop}
use Rattle.obj_base.specs.declared.stop.Stop.TheVariants as layer
use Rattle.apfs_check.specs.Raised.{of_view}
use Rattle.apfs_check.specs.declared.fault.Fault.{Fault}
use Rattle.img_gpt.specs.declared.part.GptStop.{GptStop}
use Rattle.img_gpt.specs.declared.part.GptStop.TheVariants as tables
use Rattle.path_search.specs.declared.answer.Answer.{Answer}
use Rattle.path_search.specs.declared.answer.Answer.TheVariants.{NotFound, NoVolume, NoSnapshot}
use Rattle.path_search.specs.declared.stop.PathStop.{PathStop}
use Rattle.path_search.specs.declared.stop.PathStop.TheVariants as paths
use Rattle.use_report.specs.declared.stop.UseFault.{UseFault}
use Rattle.path_read.specs.declared.stop.WriteStop.{WriteStop}
use Rattle.path_read.specs.declared.stop.WriteStop.TheVariants as writes
use Rattle.tree_export.specs.Faults.{fault_id}
use Rattle.tree_export.specs.declared.stop.ExportStop.{ExportStop}
use Rattle.tree_export.specs.declared.stop.ExportStop.TheVariants as exports
use Rattle.cmd_lines.specs.declared.named.Named.TheVariants.{InContainer, InUsage, InExport, NoTable, BadTable, NoPartition, PartOutside}
use Rattle.cmd_lines.specs.declared.stopped.Stopped.{Stopped}
use Rattle.cmd_lines.specs.declared.stopped.Stopped.TheVariants as stops
use Rattle.cmd_texts.specs.Commands.Usage.{xid_of}
use Rattle.cmd_lines.specs.Outcome.{Faulty, ReadFailed, WriteFailed, OutOfMemory, Refused, Answered}

-- why a run stops where the blocks of the views of the volume in a slot can't be counted
abbrev pub stopped_counting : ℕ → Stop UseFault → Stopped
stopped_counting slot (layer.Found why) = stops.Faulty (InUsage slot (xid_of why))
stopped_counting slot (layer.Unsupported feature block) = stops.Refused feature block
stopped_counting slot layer.ReadFault = stops.ReadFailed
stopped_counting slot layer.NoMemory = stops.OutOfMemory

-- why a run stops where the view of a transaction, of the volume in a slot, can't be put into a folder
abbrev pub stopped_exporting : ℕ → ℕ → ExportStop → Stopped
stopped_exporting slot xid (exports.Stopped (layer.Found why)) = stops.Faulty (InExport slot xid (fault_id why))
stopped_exporting slot xid (exports.Stopped (layer.Unsupported feature block)) = stops.Refused feature block
stopped_exporting slot xid (exports.Stopped layer.ReadFault) = stops.ReadFailed
stopped_exporting slot xid (exports.Stopped layer.NoMemory) = stops.OutOfMemory
stopped_exporting slot xid exports.WriteFault = stops.WriteFailed

-- why a run stops where no partition is found
abbrev pub stopped_at_table : GptStop → Stopped
stopped_at_table tables.NoTable = stops.Faulty NoTable
stopped_at_table tables.BadTable = stops.Faulty BadTable
stopped_at_table tables.NoPartition = stops.Faulty NoPartition
stopped_at_table (tables.PartOutside at) = stops.Faulty (PartOutside at)
stopped_at_table tables.ReadFault = stops.ReadFailed

-- what is answered of a path: NoVolume and NoSnapshot aren't
abbrev pub answered_of : Answer → Answer
answered_of NoVolume = NotFound
answered_of NoSnapshot = NotFound
answered_of answer = answer

-- why a run stops where a call on a path does
abbrev pub stopped_on : Stop PathStop → Stopped
stopped_on (layer.Found (paths.Answer answer)) = stops.Answered (answered_of answer)
stopped_on (layer.Found (paths.Fault fault)) = stops.Faulty (InContainer (of_view fault))
stopped_on (layer.Unsupported feature block) = stops.Refused feature block
stopped_on layer.ReadFault = stops.ReadFailed
stopped_on layer.NoMemory = stops.OutOfMemory

-- why a run stops where a call on a path that writes does
abbrev pub stopped_writing : WriteStop → Stopped
stopped_writing (writes.Stopped stop) = stopped_on stop
stopped_writing writes.WriteFault = stops.WriteFailed
