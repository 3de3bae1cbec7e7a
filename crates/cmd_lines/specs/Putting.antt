-- What the puts of a text leave, and how a run closes.
use Rattle.std.specs.Prelude.{◌≡◌, ◌⊎◌, ◌++◌, ℕ, ◌≤◌, List, Result, Ok, Err}
use Rattle.apfs_model.specs.Sink.{Wrote, WrotePart}
use Rattle.cmd_lines.specs.declared.stopped.Stopped.{Stopped}
use Rattle.cmd_lines.specs.declared.stopped.Stopped.TheVariants.{WriteFailed, OutOfMemory}
use Rattle.cmd_lines.specs.Outcome.{Outcome, status_of, line_of}
use Rattle.cmd_lines.specs.Texts.{out_of_memory_line}
use Rattle.cmd_lines.specs.Written.{Failed, IsSaid, Sunk}

-- what stops a text: a put of it that fails, or want of memory
abbrev pub CutsText : Stopped → Sunk → Type 0
CutsText WriteFailed sink = Failed sink
CutsText OutOfMemory sink = Unit {0}
CutsText stopped sink = ⊥

-- a text was put on a sink: all of it, or a prefix where something stopped it
abbrev pub IsPut : List ℕ → Result Unit Stopped → Sunk → Type 0
IsPut text (Ok done) sink = Wrote sink.old sink.new text × (sink.old_faults ≤ sink.new_faults)
IsPut text (Err stopped) sink = CutsText stopped sink × WrotePart sink.old sink.new text

-- a text comes after what waits: a part of both was put and the rest waits, or something cut both short
abbrev pub Passes : List ℕ → List ℕ → List ℕ → Result Unit Stopped → Sunk → Type 0
Passes waited text waits (Ok done) sink = (part : List ℕ) × (waited ++ text ≡ part ++ waits) × IsPut part (Ok done) sink
Passes waited text waits (Err stopped) sink = IsPut (waited ++ text) (Err stopped) sink

-- the line of an outcome was said, or that there was no memory for it
abbrev pub IsClosed : ℕ → Outcome → Sunk → Type 0
IsClosed result outcome err = IsSaid result (status_of outcome) (line_of outcome) err ⊎ IsSaid result 5 out_of_memory_line err
