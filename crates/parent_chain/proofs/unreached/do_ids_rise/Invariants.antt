use Rattle.std.proofs.Common.{ℕ, suc, ◌<◌, ◌≤◌, get_or}
use Rattle.fs_record.specs.Inodes.{Inode}
use Rattle.fs_record.specs.Facts.{Fact}
use Rattle.parent_chain.proofs.unreached.do_ids_rise.Given as goal

abbrev pub invariant-loop-i : goal.invariant-loop-i
invariant-loop-i l = (1 ≤ l.i) × ((k : ℕ) (d : Fact Inode) → suc k < l.i → (get_or l.inodes k d).id < (get_or l.inodes (suc k) d).id)
