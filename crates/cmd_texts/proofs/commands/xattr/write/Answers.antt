-- What was asked for is the list, or the attribute of a name.
use Rattle.cmd_texts.proofs.commands.xattr.write.Goals as goal

pub returns-in-None-clause-answer : goal.returns-in-None-clause-answer
returns-in-None-clause-answer g c = rw c.in-None.is c.write_all.ensures.answer

pub returns-in-Some-clause-answer : goal.returns-in-Some-clause-answer
returns-in-Some-clause-answer g c = rw c.in-Some.is c.write_one.ensures.answer
