use Rattle.std.proofs.Common.{◌∙◌, ℕ, ap, length, arith}
use Rattle.std.specs.Prelude.{◌==◌}
use Rattle.obj_base.specs.declared.stop.Stop.TheVariants.{Found}
use Rattle.apfs_model.proofs.BoolTests.{never-true, equal-from}
use Rattle.space_pool.specs.Queues.{queue_of, queue_entries, queue_steps}
use Rattle.space_pool.proofs.Gathered.{tree_tells, place_tells, none_queued, none-steps, queue-few, queued_free}
use Rattle.space_pool.proofs.queues.queue_walk.Goals as goal

pub returns-then-root-eq0-clause-clear : goal.returns-then-root-eq0-clause-clear
returns-then-root-eq0-clause-clear g c image told = none_queued image c.args.cp.now c.args.space.now.manager c.args.which c.root_of-root.result c.new.result.items c.root_of-root.ensures c.if-root-eq0.true c.new.ensures.items

pub returns-then-root-eq0-clause-steps : goal.returns-then-root-eq0-clause-steps
returns-then-root-eq0-clause-steps g c image told =
    let seen = c.args.cp.now in
    c.new-then-root-eq0.ensures.items ∙ (none-steps image seen c.root_of-root.result (ap (λ (n : ℕ). n == 0) c.if-root-eq0.true) ∙ ap (queue_steps image seen) c.root_of-root.ensures)

pub returns-in-Err-clause-exact : goal.returns-in-Err-clause-exact
returns-in-Err-clause-exact g c image told queued =
    let seen = c.args.cp.now in
    let manager = c.args.space.now.manager in
    queued_free image seen manager c.args.which (queue_of image seen manager c.args.which) c.in-Err.stop queued
    (tree_tells image seen manager c.args.which c.root_of-root.result c.in-Err.stop c.root_of-root.ensures (never-true _ (λ e. c.if-root-eq0.false (equal-from c.root_of-root.result 0 e))) (c.in-Err.ensures.present image told))

pub returns-in-Err-placed-clause-exact : goal.returns-in-Err-placed-clause-exact
returns-in-Err-placed-clause-exact g c image told queued =
    let seen = c.args.cp.now in
    let manager = c.args.space.now.manager in
    queued_free image seen manager c.args.which (queue_of image seen manager c.args.which) (Found c.in-Err-placed.fault) queued
    (place_tells image seen manager c.args.which c.in-Ok.kept.entries.items c.in-Err-placed.fault ((c.in-Ok.ensures.clear image told).same ∙ ap (λ (root : ℕ). queue_entries image seen root) c.root_of-root.ensures) c.in-Err-placed.ensures.outside)

pub returns-in-Ok-placed-clause-by_steps : goal.returns-in-Ok-placed-clause-by_steps
returns-in-Ok-placed-clause-by_steps g c image told =
    omega (arith, c.in-Ok.ensures.reads image told, queue-few image c.args.cp.now c.root_of-root.result, ap length (c.in-Ok.ensures.steps image told))
