-- The order in which candidates are tried.
use Rattle.std.specs.Prelude.{Bool}
use Rattle.std.specs.declared.cmp.Ordering.{Ordering}
use Rattle.std.specs.Ordering.{nat_cmp, ordering_then, is_lt}
use Rattle.nx_ring.specs.declared.line.RingLine.{RingLine}

-- greater transactions come first, and those of one transaction by index
abbrev pub line_cmp : RingLine → RingLine → Ordering
line_cmp a b = ordering_then (nat_cmp b.xid a.xid) (nat_cmp a.index b.index)

-- a candidate is tried before another
abbrev pub is_before : RingLine → RingLine → Bool
is_before a b = is_lt (line_cmp a b)
