use Rattle.img_gpt.proofs.Exactly.{found_exactly, part_or_fault}
use Rattle.img_gpt.proofs.law.part_or_fault.Goals as goal

pub returns-clause-exactly : goal.returns-clause-exactly
returns-clause-exactly c = found_exactly

pub returns-clause-either : goal.returns-clause-either
returns-clause-either c = part_or_fault
