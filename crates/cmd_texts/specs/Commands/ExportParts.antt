-- Parts of what an export comes to, which the calls below a run tell.
use Rattle.std.specs.Prelude.{ℕ, List}
use Rattle.obj_base.specs.declared.stop.Stop.{Stop}
use Rattle.obj_base.specs.declared.stop.Stop.TheVariants.{Found, Unsupported, ReadFault, NoMemory}
use Rattle.path_search.specs.declared.answer.Answer.{Answer}
use Rattle.path_search.specs.declared.stop.PathStop.{PathStop}
use Rattle.path_search.specs.declared.stop.PathStop.TheVariants as paths
use Rattle.tree_export.specs.Stopping.{wanted_of}
use Rattle.tree_export.specs.Texts.{skipped_text, done_text}
use Rattle.cmd_texts.specs.declared.commands.export.Told.{Told}
use Rattle.cmd_texts.specs.declared.commands.export.Told.TheVariants.{Skipped, Done}

-- the line of an item for which nothing is put, or the one that tells of all that was
abbrev pub told_text : Told → List ℕ
told_text (Skipped item) = skipped_text (wanted_of item)
told_text (Done directories files bytes) = done_text directories files bytes

-- a call on the root's path stops with an answer: there is no root
abbrev pub IsOfNoRoot : Stop PathStop → Type 0
IsOfNoRoot (Found (paths.Answer answer)) = Unit {0}
IsOfNoRoot (Found (paths.Fault fault)) = ⊥
IsOfNoRoot (Unsupported feature block) = ⊥
IsOfNoRoot ReadFault = ⊥
IsOfNoRoot NoMemory = ⊥
