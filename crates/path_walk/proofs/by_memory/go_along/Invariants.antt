use Rattle.std.proofs.Common.{◌≡◌, map, drop}
use Rattle.view_rules.specs.Facts.{Facts}
use Rattle.path_search.specs.Parts.{along, Remembers, AlongNeeds, of_any}
use Rattle.path_walk.proofs.by_memory.go_along.Given as goal

abbrev pub invariant-loop-part : goal.invariant-loop-part
invariant-loop-part l = record {
  goes : (facts : Facts) → facts.names ≡ l.names → Remembers facts l.files.entries.items l.files.inodes.items → along facts (map (λ part. part.now) (drop l.part-index l.parts)) l.place ≡ along facts (map (λ part. part.now) l.parts) l.fn.start;
  needs : (facts : Facts) → facts.names ≡ l.names → Remembers facts l.files.entries.items l.files.inodes.items → AlongNeeds facts of_any (map (λ part. part.now) (drop l.part-index l.parts)) l.place → AlongNeeds facts of_any (map (λ part. part.now) l.parts) l.fn.start;
}
