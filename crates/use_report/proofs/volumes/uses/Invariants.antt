use Rattle.std.proofs.Common.{◌≡◌, ℕ, ◌<◌, Some, length}
use Rattle.std.specs.Prelude.{slice_get}
use Rattle.use_report.specs.declared.kept.KeptView.{KeptView}
use Rattle.use_report.proofs.Told.{IsTold}
use Rattle.use_report.proofs.volumes.uses.Given as goal

abbrev pub invariant-views : goal.invariant-views
invariant-views l = record {
  many : length l.uses.items ≡ l.i;
  each : (k : ℕ) (view : KeptView) → k < l.i → slice_get l.views k ≡ Some view → IsTold l.counts l.uses.items k view;
}
