use Rattle.std.proofs.Common.{◌≡◌, ℕ, ◌^◌, ◌<◌, ◌≤◌, Bool, length, max}
use Rattle.piece_count.specs.Tally.{IsTally, grown_all}
use Rattle.piece_count.proofs.adding.add_views.Given as goal

abbrev pub invariant-views : goal.invariant-views
invariant-views l = record {
  counted : length l.tally.counts.views.items ≡ length l.fn.tally.counts.views.items;
  reached : length l.tally.reach.items ≡ length l.fn.tally.reach.items;
  far : l.view ≤ max l.from l.to;
  at : l.tally.at ≡ l.fn.tally.at;
  tally : (blocks views : ℕ) (has : ℕ → ℕ → Bool) → blocks < 2 ^ 64 → l.end ≤ blocks → l.fn.tally.at ≡ l.first → IsTally blocks views has l.fn.tally → IsTally blocks views (grown_all has l.from l.view l.first l.end) l.tally;
}
