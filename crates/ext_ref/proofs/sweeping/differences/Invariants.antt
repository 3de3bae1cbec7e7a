use Rattle.std.proofs.Common.{◌≡◌, ◌<◌, ◌-◌, ℕ, length, get_or}
use Rattle.std.specs.Prelude.{count_by, nat_le}
use Rattle.ext_ref.proofs.sweeping.differences.Given as goal

abbrev pub invariant-loop-place : goal.invariant-loop-place
invariant-loop-place l = record {
  long : length l.counts.items ≡ l.place;
  each : (i : ℕ) → i < l.place → get_or l.counts.items i 0 ≡ count_by (λ (n : ℕ). nat_le n i) l.firsts - count_by (λ (n : ℕ). nat_le n i) l.ends;
}
