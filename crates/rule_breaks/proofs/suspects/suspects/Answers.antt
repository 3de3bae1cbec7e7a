use Rattle.std.proofs.Common.{ℕ, ◌≤◌, ◌+◌, List, take, ap, inl, inr, arith}
use Rattle.std.specs.Prelude.{count_by}
use Rattle.rule_index.specs.Ids.{count_in}
use Rattle.rule_breaks.proofs.Suspected.{alone-next, suspect-next, some_entry}
use Rattle.rule_breaks.proofs.suspects.suspects.Goals as goal

pub loop-i-preserved : goal.loop-i-preserved
loop-i-preserved c test q digest none =
    let entries = c.args.entries.now in
    let i = c.loop-i.i in
    let so_far = c.loop-i.invariant test q digest (λ k d low at alone. none k d (omega arith) at alone) in
    elim c.in_ok-add.ensures as (λ _. count_by test (take (i + 1) entries) ≤ count_in c.add.new.digests.items q) [
      | inl alone ↦
          let same = ap (λ (ids : List ℕ). count_in ids q) alone.1 in
          let more = alone-next entries i some_entry c.loop-i.digests.items test q c.loop-i-test.true alone.0 none so_far in
          omega arith
      | inr more ↦ suspect-next entries i some_entry c.loop-i.digests.items c.add.new.digests.items test q c.loop-i-test.true (more some_entry) digest so_far
    ]
