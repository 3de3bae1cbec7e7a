use Rattle.std.proofs.Common.{◌≡◌, ℕ, ◌≤◌, true, false, take}
use Rattle.apfs_model.specs.Blocks.{is_in}
use Rattle.own_ledger.specs.Held.{holds}
use Rattle.reach_rules.specs.Settled.{is_held}
use Rattle.own_settle.proofs.chunks.fill.Given as goal

abbrev pub invariant-each : goal.invariant-each
invariant-each l = record {
  first : l.ledger.first ≡ l.fn.ledger.first;
  blocks : l.ledger.blocks ≡ l.fn.ledger.blocks;
  held : (block : ℕ) → is_in block l.fn.ledger.first l.fn.ledger.blocks ≡ true → holds l.ledger block ≡ is_held (take l.place l.ranges) block;
  done : (block : ℕ) → l.end ≤ block → is_held (take l.place l.ranges) block ≡ false;
}
