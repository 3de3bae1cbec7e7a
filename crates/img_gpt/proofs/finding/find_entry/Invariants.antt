-- No entry so far has the type, and the source is as it was.
use Rattle.std.proofs.Common.{◌≡◌, ◌<◌, ℕ, List, Some, false}
use Rattle.apfs_model.specs.Kept.{IsKept}
use Rattle.img_gpt.specs.Table.{is_container_entry}
use Rattle.img_gpt.specs.Reads.{IsTableOf}
use Rattle.img_gpt.proofs.finding.find_entry.Given as goal

abbrev pub invariant-entries : goal.invariant-entries
invariant-entries g l = record {
  kept : IsKept g.S.BlockSource.bytes g.S.BlockSource.bytes_len g.S.BlockSource.faults l.initial.src l.src;
  none : (disk : List ℕ) → g.S.BlockSource.bytes l.initial.src ≡ Some disk → IsTableOf disk l.table → (k : ℕ) → k < l.at → is_container_entry disk l.table.sector k ≡ false;
}
