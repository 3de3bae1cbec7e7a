-- What stops the check is there.
use Rattle.cmd_texts.proofs.Checked.{tells_flaw}
use Rattle.cmd_texts.proofs.commands.checked.checked.Goals as goal

pub returns-in-Err-clause-flaw : goal.returns-in-Err-clause-flaw
returns-in-Err-clause-flaw g c image given = rw c.stopped_by.ensures (tells_flaw c.args.profile image c.in-Err.stop (c.in-Err.ensures.present image given))
