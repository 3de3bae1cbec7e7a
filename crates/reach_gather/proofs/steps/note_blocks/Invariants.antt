use Rattle.std.proofs.Common.{◌≡◌, ◌++◌, map, take}
use Rattle.reach_gather.specs.Steps.{block_steps, block_owner}
use Rattle.reach_gather.proofs.steps.note_blocks.Given as goal

abbrev pub invariant-loop-step : goal.invariant-loop-step
invariant-loop-step l = record {
  namings : l.out.namings ≡ l.fn.out.namings ++ block_steps l.tree (take l.step-index l.steps);
  owners : l.out.owners ≡ l.fn.out.owners ++ map block_owner (block_steps l.tree (take l.step-index l.steps));
  pool_owners : l.out.pool_owners ≡ l.fn.out.pool_owners;
}
