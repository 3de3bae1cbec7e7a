use Rattle.std.proofs.Common.{◌∙◌, ap, sym, refl, ℕ, get_or}
use Rattle.std.specs.Prelude.{◌||◌, ◌==◌}
use Rattle.apfs_model.specs.Blocks.{is_within}
use Rattle.space_pool.specs.Queues.{is_queued_in_pool}
use Rattle.space_pool.specs.declared.entry.QueueEntry.{QueueEntry}
use Rattle.space_pool.proofs.Gathered.{outside-at}
use Rattle.space_pool.proofs.queues.outside.Goals as goal

pub returns-then-not-is_in-clause-present : goal.returns-then-not-is_in-clause-present
unfolding is_queued_in_pool
returns-then-not-is_in-clause-present c =
    let none : QueueEntry = record { xid = 0; paddr = 0; length = 0 } in
    let e = get_or c.args.entries.now c.loop-entry.entry-index none in
    outside-at c.args.space.now.manager c.args.entries.now c.loop-entry.entry-index none e.paddr
    (ap (λ (pool : ℕ × ℕ). (e.length == 0) || is_within e.paddr e.length pool.0 pool.1) (sym c.pool-first.ensures) ∙ (sym c.is_in.ensures ∙ c.if-not-is_in.true)) c.loop-entry-test.true refl
