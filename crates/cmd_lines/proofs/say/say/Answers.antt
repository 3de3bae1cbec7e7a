-- The line of each stop, whatever was written before.
use Rattle.std.proofs.Common.{inl}
use Rattle.cmd_lines.specs.FaultTexts.{named_fault_text}
use Rattle.cmd_lines.specs.Texts.{fault_line, unsupported_line}
use Rattle.cmd_lines.proofs.say.say.Goals as goal

pub returns-in-Faulty : goal.returns-in-Faulty
returns-in-Faulty g c part = rw c.in-Faulty.is (c.put_built.ensures (fault_line (named_fault_text c.in-Faulty.named)) c.fault_line.ensures)

pub returns-in-WrongWords : goal.returns-in-WrongWords
returns-in-WrongWords g c part = rw c.in-WrongWords.is (inl c.put_line.ensures)

pub returns-in-ReadFailed : goal.returns-in-ReadFailed
returns-in-ReadFailed g c part = rw c.in-ReadFailed.is (inl c.put_line-in-ReadFailed.ensures)

pub returns-in-Refused : goal.returns-in-Refused
returns-in-Refused g c part =
    rw c.in-Refused.is (c.put_built-in-Refused.ensures (unsupported_line c.in-Refused.feature c.in-Refused.block) c.unsupported_line.ensures)

pub returns-in-NoImage : goal.returns-in-NoImage
returns-in-NoImage g c part = rw c.in-NoImage.is (inl c.put_line-in-NoImage.ensures)

pub returns-in-NoFolder : goal.returns-in-NoFolder
returns-in-NoFolder g c part = rw c.in-NoFolder.is (inl c.put_line-in-NoFolder.ensures)

pub returns-in-Answered : goal.returns-in-Answered
returns-in-Answered g c part = rw (c.in-Answered.is, ← c.answer_line.ensures) (inl c.put_line-in-Answered.ensures)
