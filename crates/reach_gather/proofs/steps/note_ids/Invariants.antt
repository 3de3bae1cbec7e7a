use Rattle.std.proofs.Common.{◌≡◌, ◌++◌, take}
use Rattle.reach_gather.specs.Steps.{id_steps}
use Rattle.reach_gather.proofs.steps.note_ids.Given as goal

abbrev pub invariant-loop-step : goal.invariant-loop-step
invariant-loop-step l = record {
  namings : l.out.namings ≡ l.fn.out.namings ++ id_steps l.tree (take l.step-index l.steps);
  owners : l.out.owners ≡ l.fn.out.owners;
  pool_owners : l.out.pool_owners ≡ l.fn.out.pool_owners;
}
