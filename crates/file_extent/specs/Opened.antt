-- A stream once it is opened, and how much a read of it gives.
use Rattle.std.specs.Prelude.{ℕ, ◌-◌, List, min}
use Rattle.bt_node.specs.Entries.{Pair}
use Rattle.obj_base.specs.declared.site.Site.{Site}
use Rattle.file_extent.specs.Streams.{Opened, extents_for}

-- how many bytes a read of n bytes from a place on gives: the fewer of n and what is left of the size
abbrev pub read_len : ℕ → ℕ → ℕ → ℕ
read_len size offset n = min n (size - offset)

-- the stream of an id and a size among a view's records
abbrev pub opened_of : Site → List Pair → ℕ → ℕ → Opened
opened_of site pairs id size = record { site = site; extents = extents_for id pairs; size = size }
