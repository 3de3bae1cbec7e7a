-- How the calls that a run is made of come to an outcome.
use Rattle.std.specs.Prelude.{◌≡◌, ◌⊎◌, ℕ, List, [], Option, Some, None, Result, Err}
use Rattle.apfs_model.specs.Sink.{Wrote}
use Rattle.cmd_lines.specs.Written.{Sunk, Failed, Ends}
use Rattle.cmd_lines.specs.declared.stopped.Stopped.{Stopped}
use Rattle.cmd_lines.specs.declared.stopped.Stopped.TheVariants as stops
use Rattle.cmd_lines.specs.Stops.{outcome_of}
use Rattle.cmd_lines.specs.Words.{Asked, Line}
use Rattle.cmd_texts.specs.Handed.{Looked, made, Stored}
use Rattle.cmd_lines.specs.Outcome.{Outcome, text_of, OutOfMemory}
use Rattle.cmd_texts.specs.Says.{FillsBy, PutFailed, Says, SaysOn}

-- a command has come to an outcome over a source, and has written its text
abbrev pub HasEnded : Asked → Looked → Result Unit Stopped → Sunk → Type 0
HasEnded command source ended out =
    (part : List ℕ) × SaysOn command source (Failed out) (outcome_of ended part) × Wrote out.old out.new (text_of (outcome_of ended part))

-- it has come to an outcome over the image that was made, and has written its text; without one memory ran out, and nothing was written
abbrev pub HasMade : Asked → Option (List ℕ) → Result Unit Stopped → Sunk → Type 0
HasMade command None ended out = (ended ≡ Err stops.OutOfMemory) × Wrote out.old out.new []
HasMade command (Some image) ended out = HasEnded command (made image) ended out

-- it came to an outcome over the image that was made, has written its text, and has said its line and given its status
abbrev pub CameOver : Asked → Option (List ℕ) → ℕ → Sunk → Sunk → Type 0
CameOver command None result out err = Ends result (OutOfMemory []) out err
CameOver command (Some image) result out err = (outcome : Outcome) × SaysOn command (made image) (Failed out) outcome × Ends result outcome out err

-- a command that takes a folder has come to an outcome over a source, has put so much into the folder, and has written its text
abbrev pub HasEndedInto : Asked → Looked → Stored → Result Unit Stopped → Sunk → Type 0
HasEndedInto command source folder ended out =
    (part : List ℕ) × SaysOn command source (PutFailed out (Some folder)) (outcome_of ended part) × FillsBy command source folder (outcome_of ended part)
    × Wrote out.old out.new (text_of (outcome_of ended part))

-- a run has come to an outcome that the words and what was handed in allow, and has written its text
abbrev pub HasCome : Option Line → Option Looked → Option Stored → Result Unit Stopped → Sunk → Type 0
HasCome asked image folder ended out =
    (part : List ℕ) × Says asked image folder out (outcome_of ended part) × Wrote out.old out.new (text_of (outcome_of ended part))

-- the statuses with which an image that was made may end
abbrev pub IsOfMade : ℕ → Type 0
IsOfMade result = (result ≡ 0) ⊎ ((result ≡ 1) ⊎ ((result ≡ 4) ⊎ ((result ≡ 5) ⊎ (result ≡ 6))))
