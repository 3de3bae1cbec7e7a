use Rattle.std.proofs.Common.{◌≡◌, ℕ, ◌+◌, ◌-◌, ◌^◌, ◌<◌, ◌≤◌, length, min}
use Rattle.piece_count.specs.Covered.{nth_count}
use Rattle.piece_count.proofs.lone.add_counts.Given as goal

abbrev pub invariant-views : goal.invariant-views
invariant-views l = record {
  many : length l.counts.views.items ≡ length l.fn.counts.views.items;
  all : l.counts.all ≡ l.fn.counts.all;
  held : (v : ℕ) → v < l.view → (nth_count l.counts.views.items v).held ≡ min ((nth_count l.fn.counts.views.items v).held + (nth_count l.more.views.items v).held) (2 ^ 64 - 1);
  only : (v : ℕ) → v < l.view → (nth_count l.counts.views.items v).only ≡ min ((nth_count l.fn.counts.views.items v).only + (nth_count l.more.views.items v).only) (2 ^ 64 - 1);
  same : (v : ℕ) → l.view ≤ v → nth_count l.counts.views.items v ≡ nth_count l.fn.counts.views.items v;
}
