-- Why a stream can't be opened, said of a path. These are for the contracts of this crate's own functions.
use Rattle.std.specs.Prelude.{ℕ, Option, None, Some}
use Rattle.obj_base.specs.declared.stop.Stop.{Stop}
use Rattle.obj_base.specs.declared.stop.Stop.TheVariants.{Found, Unsupported, ReadFault, NoMemory}
use Rattle.vol_view.specs.declared.volume.View.{View}
use Rattle.file_extent.specs.declared.stop.StreamStop.{StreamStop}
use Rattle.file_extent.specs.declared.stop.StreamStop.TheVariants as streams
use Rattle.view_rules.specs.Listed as listed
use Rattle.view_rules.specs.declared.fault.IdAt.{IdAt}
use Rattle.view_rules.specs.declared.fault.TreeFault.TheVariants.{ExtentOrder, ExtentPlace}
use Rattle.path_search.specs.declared.stop.PathStop.{PathStop}
use Rattle.path_search.specs.declared.stop.PathStop.TheVariants as stops

-- the place of a fault of an id
abbrev pub id_at : View → ℕ → IdAt
id_at view id = record { slot = view.slot; xid = view.xid; id = id }

-- why a stream of an id can't be opened; nothing where a record is refused, whose item isn't known
abbrev pub stream_raised : View → ℕ → Stop StreamStop → Option (Stop PathStop)
stream_raised view id (Found (streams.Walk root why)) = Some (Found (stops.Fault (listed.raised view why)))
stream_raised view id (Found (streams.Extent why)) = None
stream_raised view id (Found streams.Order) = Some (Found (stops.Fault (ExtentOrder (id_at view id))))
stream_raised view id (Found streams.Outside) = Some (Found (stops.Fault (ExtentPlace (id_at view id))))
stream_raised view id (Unsupported feature block) = Some (Unsupported feature block)
stream_raised view id ReadFault = Some ReadFault
stream_raised view id NoMemory = Some NoMemory
