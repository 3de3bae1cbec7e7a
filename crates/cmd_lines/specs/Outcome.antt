-- How a run may end, with its status and what it has written: one case for each row of the table of statuses.
use Rattle.std.specs.Prelude.{ℕ, [], List}
use Rattle.obj_base.specs.declared.stop.Feature.{Feature}
use Rattle.path_search.specs.declared.answer.Answer.{Answer}
use Rattle.cmd_lines.specs.Texts.{usage_line, fault_line, read_failed_line, out_of_memory_line, unsupported_line, answer_line, no_image_line, no_folder_line}
use Rattle.cmd_lines.specs.FaultTexts.{named_fault_text}
use Rattle.cmd_lines.specs.declared.named.Named.{Named}

pub data Outcome : Type 0 where
  -- the whole text of the command
  Written : List ℕ → Outcome
  -- a fault, after what the command writes before it looks
  Faulty : List ℕ → Named → Outcome
  -- the words are no line of the program
  WrongWords : Outcome
  -- a read of the image failed, after a part of the text
  ReadFailed : List ℕ → Outcome
  -- a put of the text failed, or one into the folder, after a part of the text
  WriteFailed : List ℕ → Outcome
  -- memory ran out, after a part of the text
  OutOfMemory : List ℕ → Outcome
  -- a feature that is refused and its block, after what the command writes before it looks
  Refused : List ℕ → Feature → ℕ → Outcome
  -- an answer in place of a text, after what the command writes before it looks
  Answered : List ℕ → Answer → Outcome
  -- no image was handed in
  NoImage : Outcome
  -- no folder was handed in
  NoFolder : Outcome

abbrev pub status_of : Outcome → ℕ
status_of (Written text) = 0
status_of (Faulty lead named) = 1
status_of WrongWords = 2
status_of (ReadFailed part) = 3
status_of (WriteFailed part) = 4
status_of (OutOfMemory part) = 5
status_of (Refused lead feature block) = 6
status_of (Answered lead answer) = 7
status_of NoImage = 8
status_of NoFolder = 9

-- what is written on the first sink
abbrev pub text_of : Outcome → List ℕ
text_of (Written text) = text
text_of (Faulty lead named) = lead
text_of (ReadFailed part) = part
text_of (WriteFailed part) = part
text_of (OutOfMemory part) = part
text_of (Refused lead feature block) = lead
text_of (Answered lead answer) = lead
text_of o = []

-- what is written on the second sink
abbrev pub line_of : Outcome → List ℕ
line_of (Written text) = []
line_of (Faulty lead named) = fault_line (named_fault_text named)
line_of WrongWords = usage_line
line_of (ReadFailed part) = read_failed_line
line_of (WriteFailed part) = []
line_of (OutOfMemory part) = out_of_memory_line
line_of (Refused lead feature block) = unsupported_line feature block
line_of (Answered lead answer) = answer_line answer
line_of NoImage = no_image_line
line_of NoFolder = no_folder_line
