-- What the pool's free queue keeps lies in the pool.
use Rattle.std.specs.Prelude.{◌≡◌, ℕ, true, List}
use Rattle.apfs_model.specs.Lists.{In}
use Rattle.nx_ring.specs.Checkpoint.{Seen}
use Rattle.space_pool.specs.Queues.{queue_of, is_queued_in_pool}
use Rattle.space_pool.specs.declared.entry.Queue.TheVariants.{Pool}
use Rattle.space_pool.specs.declared.entry.QueueEntry.{QueueEntry}

-- the entries of the pool's queue lie in the pool
abbrev pub ArePooled : List ℕ → Seen → List ℕ → Type 0
ArePooled image seen manager = (e : QueueEntry) → In e (queue_of image seen manager Pool) → is_queued_in_pool manager e ≡ true
