-- What puts of lines leave on a sink. These are for the contracts of this crate's own functions.
use Rattle.std.specs.Prelude.{◌≡◌, ◌++◌, ℕ, ◌≤◌, List, Option, Result, Ok, Err}
use Rattle.apfs_model.specs.Counts.{Rose}
use Rattle.apfs_model.specs.Sink.{Wrote, WrotePart}
use Rattle.view_tree.specs.declared.kept.PutStop.{PutStop}
use Rattle.view_tree.specs.declared.kept.PutStop.TheVariants.{WriteFault, NoMemory}

-- what stops a text: a put of it that fails, or want of memory
abbrev pub CutsText : PutStop → ℕ → ℕ → Type 0
CutsText WriteFault a b = Rose a b
CutsText NoMemory a b = Unit {0}

-- a text was put on a sink with these contents and counts of failures: all of it, or a prefix where something stopped it
abbrev pub IsPut : List ℕ → Result Unit PutStop → Option (List ℕ) → Option (List ℕ) → ℕ → ℕ → Type 0
IsPut text (Ok done) old new a b = Wrote old new text × (a ≤ b)
IsPut text (Err stop) old new a b = WrotePart old new text × (CutsText stop a b × (a ≤ b))

-- a text comes after what waits: a part of both was put and the rest waits, or something cut both short
abbrev pub Passes : List ℕ → List ℕ → List ℕ → Result Unit PutStop → Option (List ℕ) → Option (List ℕ) → ℕ → ℕ → Type 0
Passes waited text waits (Ok done) old new a b = (part : List ℕ) × (waited ++ text ≡ part ++ waits) × IsPut part (Ok done) old new a b
Passes waited text waits (Err stop) old new a b = IsPut (waited ++ text) (Err stop) old new a b
