-- The bytes that are there are those of the image, and what is kept is as after a read of them.
use Rattle.std.proofs.Common.{◌≡◌, ◌⊎◌, ℕ, ◌+◌, ◌/◌, ◌≤◌, ◌<◌, ◌-◌, List, Some, true, length, take}
use Rattle.apfs_model.specs.Counts.{Rose}
use Rattle.apfs_model.specs.Source.{Copies}
use Rattle.apfs_model.specs.Kept.{IsKept}
use Rattle.blk_cache.specs.Keeping.{keeps, Touches, last_touched, touched_count, IsCache, Grows, IsSame}
use Rattle.blk_cache.proofs.part.parts.Given as goal

abbrev pub invariant-loop-done : goal.invariant-loop-done
invariant-loop-done g l = record {
  bound : l.done ≤ length l.into;
  cache : IsCache g.S.BlockSource.bytes g.S.BlockSource.bytes_len l.inner l.store;
  kept : IsKept g.S.BlockSource.bytes g.S.BlockSource.bytes_len g.S.BlockSource.faults l.initial.inner l.inner;
  grows : Grows l.initial.store l.store;
  found : (image : List ℕ) → g.S.BlockSource.bytes l.initial.inner ≡ Some image → Copies image l.at (take l.done l.into);
  last : length l.into ≤ l.done → (keeps l.store (last_touched l.initial.store.size l.at l.done) ≡ true) ⊎ Rose l.initial.store.lost l.store.lost;
  served : ((block : ℕ) → Touches l.initial.store.size l.at (length l.into) block → keeps l.initial.store block ≡ true) → (g.S.BlockSource.reads l.inner ≡ g.S.BlockSource.reads l.initial.inner) × IsSame l.initial.store l.store;
  onward : l.done < length l.into → g.S.BlockSource.reads l.inner + l.at / l.initial.store.size ≤ g.S.BlockSource.reads l.initial.inner + (l.at + l.done) / l.initial.store.size;
  at_end : length l.into ≤ l.done → g.S.BlockSource.reads l.inner ≤ g.S.BlockSource.reads l.initial.inner + touched_count l.initial.store.size l.at (length l.into);
}

abbrev pub decreases-loop-done : goal.decreases-loop-done
decreases-loop-done g l = length l.into - l.done
