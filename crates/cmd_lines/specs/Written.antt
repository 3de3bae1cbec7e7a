-- What a run has written on its two sinks.
use Rattle.std.specs.Prelude.{◌≡◌, ◌⊎◌, ℕ, List, Option}
use Rattle.apfs_model.specs.Counts.{Rose}
use Rattle.apfs_model.specs.Sink.{Wrote, WrotePart}
use Rattle.cmd_lines.specs.Outcome.{Outcome, status_of, text_of, line_of}

-- a sink before and after the run: its contents where it tells them, and how often it failed
pub record Sunk : Type 0 where
  pub old : Option (List ℕ)
  pub new : Option (List ℕ)
  pub old_faults : ℕ
  pub new_faults : ℕ

abbrev pub sunk : {W : Type 0} → (W → Option (List ℕ)) → (W → ℕ) → W → W → Sunk
sunk contents faults old new = record { old = contents old; new = contents new; old_faults = faults old; new_faults = faults new }

-- a sink failed in the run
abbrev pub Failed : Sunk → Type 0
Failed sink = Rose sink.old_faults sink.new_faults

-- a line was written, and the status is the one that goes with it
pub record HasLine (result status : ℕ) (line : List ℕ) (err : Sunk) : Type 0 where
  pub status_is : result ≡ status
  pub put : Wrote err.old err.new line

-- a line wasn't written whole, since the second sink failed
pub record LacksLine (result : ℕ) (line : List ℕ) (err : Sunk) : Type 0 where
  pub status_is : result ≡ 4
  pub failed : Failed err
  pub part : WrotePart err.old err.new line

-- what the second sink and the status say
abbrev pub IsSaid : ℕ → ℕ → List ℕ → Sunk → Type 0
IsSaid result status line err = HasLine result status line err ⊎ LacksLine result line err

-- a run ends so with an outcome
pub record Ends (result : ℕ) (outcome : Outcome) (out err : Sunk) : Type 0 where
  pub text : Wrote out.old out.new (text_of outcome)
  pub said : IsSaid result (status_of outcome) (line_of outcome) err
