-- The orders in which objects are sorted.
use Rattle.std.specs.Prelude.{ℕ, ◌<◌, ◌≤◌, Bool, List, length}
use Rattle.std.specs.declared.cmp.Ordering.{Ordering}
use Rattle.std.specs.Ordering.{nat_cmp, ordering_then, is_lt}
use Rattle.view_sweep.specs.declared.wanted.Asked.{Asked}
use Rattle.view_sweep.specs.declared.used.Used.{Used}
use Rattle.view_sweep.specs.declared.used.Hit.{Hit}
use Rattle.view_sweep.specs.Wanted.{number_by}
use Rattle.view_sweep.specs.Found.{used_of}
use Rattle.view_sweep.specs.Asked.{nth_asked}

-- by the id, then by what is expected
abbrev pub asked_rank : Asked → Asked → Ordering
asked_rank a b = ordering_then (nat_cmp a.wanted.oid b.wanted.oid) (nat_cmp (number_by a.wanted.want) (number_by b.wanted.want))

-- the ids don't fall
abbrev pub AreById : List Asked → Type 0
AreById asked = (i j : ℕ) → i ≤ j → j < length asked → (nth_asked asked i).wanted.oid ≤ (nth_asked asked j).wanted.oid

-- by the map, then by all that a record says
abbrev pub used_rank : Used → Used → Ordering
used_rank a b =
    ordering_then (nat_cmp a.map b.map)
    (ordering_then (nat_cmp a.mapping.oid b.mapping.oid)
    (ordering_then (nat_cmp a.mapping.xid b.mapping.xid)
    (ordering_then (nat_cmp a.mapping.paddr b.mapping.paddr)
    (ordering_then (nat_cmp a.mapping.flags b.mapping.flags) (nat_cmp a.mapping.size b.mapping.size)))))

abbrev pub is_used_below : Used → Used → Bool
is_used_below a b = is_lt (used_rank a b)

abbrev pub is_hit_below : Hit → Hit → Bool
is_hit_below g h = is_used_below (used_of g) (used_of h)
