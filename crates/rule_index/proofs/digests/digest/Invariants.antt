use Rattle.std.proofs.Common.{◌≡◌, take}
use Rattle.std.specs.List.{fold}
use Rattle.rule_index.specs.Digests.{with_byte}
use Rattle.rule_index.proofs.digests.digest.Given as goal

abbrev pub invariant-loop-byte : goal.invariant-loop-byte
invariant-loop-byte l = l.digest ≡ fold with_byte l.fn.id (take l.byte-index l.byte-items)
