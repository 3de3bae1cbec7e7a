-- How many reads the account of a container takes at most.
use Rattle.std.specs.Prelude.{ℕ, ◌+◌, ◌≤◌, List}
use Rattle.space_map.specs.Fields.{chunks_of, pool_bitmap_blocks_of}
use Rattle.reach_rules.specs.Reached.{Whole}
use Rattle.reach_rules.specs.Settled.{AreApart}

-- a count rose by at most a number; a count that stands at the greatest number rose by no more
abbrev pub RoseBy : ℕ → ℕ → ℕ → Type 0
RoseBy bound old new = new ≤ old + bound

-- to reach all: a read for each named object, and one for each block of the pool's current bitmap
abbrev pub reach_reads : Whole → ℕ
reach_reads whole = whole.objects + pool_bitmap_blocks_of whole.space.manager

-- for the whole account: a read for each named object, each chunk, and each block of the pool's current bitmap
abbrev pub account_reads : ℕ → List ℕ → ℕ
account_reads objects manager = objects + chunks_of manager + pool_bitmap_blocks_of manager

-- all was reached with at most so many reads, where no block lies in two of the owners' ranges
abbrev pub ReachedWithin : Whole → ℕ → ℕ → Type 0
ReachedWithin whole old new = AreApart whole.owners → RoseBy (reach_reads whole) old new
