use Rattle.std.proofs.Common.{◌≡◌, ℕ, ◌^◌, ◌<◌, ◌≤◌, Bool, length, take}
use Rattle.piece_count.specs.Tally.{IsTally, grown_set}
use Rattle.piece_count.proofs.adding.add_runs.Given as goal

abbrev pub invariant-runs : goal.invariant-runs
invariant-runs l = record {
  counted : length l.tally.counts.views.items ≡ length l.fn.tally.counts.views.items;
  reached : length l.tally.reach.items ≡ length l.fn.tally.reach.items;
  at : l.tally.at ≡ l.fn.tally.at;
  tally : (blocks : ℕ) (has : ℕ → ℕ → Bool) → blocks < 2 ^ 64 → l.end ≤ blocks → l.fn.tally.at ≡ l.first → IsTally blocks l.many has l.fn.tally → IsTally blocks l.many (grown_set has (take l.run-index l.runs) l.first l.end) l.tally;
}
