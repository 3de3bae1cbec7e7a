use Rattle.std.proofs.Common.{◌≡◌, ℕ, ◌<◌, Some, length, get_or}
use Rattle.std.specs.Prelude.{slice_get}
use Rattle.use_report.specs.Heads.{head_of, no_view, kept_place}
use Rattle.use_report.proofs.heads.heads_of.Given as goal

abbrev pub invariant-views : goal.invariant-views
invariant-views l = record {
  many : length l.heads.items ≡ l.i;
  each : (p : ℕ) → p < l.i → slice_get l.heads.items p ≡ Some (head_of l.volume (get_or l.views (kept_place (length l.views) p) no_view));
}
