-- What is gone from the rest was appended.
use Rattle.std.proofs.Common.{◌≡◌, ℕ, List, ◌++◌}
use Rattle.std.specs.Io.KnownBytes.{Appends}
use Rattle.blk_source.proofs.edge.write_whole.Given as goal

abbrev pub invariant-loop : goal.invariant-loop
invariant-loop g l = (front : List ℕ) × (l.initial.rest ≡ front ++ l.rest) × Appends (g.T.Write.contents l.initial.writer) (g.T.Write.contents l.writer) front
