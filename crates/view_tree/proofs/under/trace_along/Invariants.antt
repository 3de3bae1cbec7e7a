use Rattle.std.proofs.Common.{◌≡◌, ℕ, List, map, drop}
use Rattle.view_rules.specs.Facts.{Facts}
use Rattle.path_search.specs.Parts.{along, Remembers, AlongNeeds, of_any}
use Rattle.view_tree.specs.Parts.{IsMemo, TakesFrom, KeepsFrom}
use Rattle.view_tree.proofs.under.trace_along.Given as goal

abbrev pub invariant-loop-part : goal.invariant-loop-part
invariant-loop-part l = (facts : Facts) (path : List ℕ) → facts.names ≡ l.names → Remembers facts l.files.entries.items l.files.inodes.items → IsMemo facts path l.fn.memo → TakesFrom facts path (map (λ part. part.now) l.parts) l.fn.start →
    (along facts (map (λ part. part.now) (drop l.part-index l.parts)) l.place ≡ along facts (map (λ part. part.now) l.parts) l.fn.start)
    × (TakesFrom facts path (map (λ part. part.now) (drop l.part-index l.parts)) l.place
    × (IsMemo facts path l.memo × (KeepsFrom facts l.memo (map (λ part. part.now) l.parts) l.fn.start (map (λ part. part.now) (drop l.part-index l.parts)) l.place
    × (AlongNeeds facts of_any (map (λ part. part.now) (drop l.part-index l.parts)) l.place → AlongNeeds facts of_any (map (λ part. part.now) l.parts) l.fn.start))))
