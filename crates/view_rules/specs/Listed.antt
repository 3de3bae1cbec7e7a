-- Extents with their ids, and a walk's fault said of a view.
use Rattle.std.specs.Prelude.{ℕ, List, map}
use Rattle.bt_cursor.specs.declared.fault.WalkFault.{WalkFault}
use Rattle.bt_cursor.specs.declared.fault.WalkFault.TheVariants as walks
use Rattle.vol_view.specs.declared.volume.View.{View}
use Rattle.view_rules.specs.Facts.{Facts}
use Rattle.view_rules.specs.declared.fault.TreeFault.{TreeFault}
use Rattle.view_rules.specs.declared.fault.TreeFault.TheVariants.{Unsound, Unnamed, Order, Counts}
use Rattle.fs_record.specs.Facts.{Fact}
use Rattle.fs_record.specs.declared.extents.FileExt.{FileExt}

-- what a walk over a view's tree names, said of the view
abbrev pub raised : View → WalkFault → TreeFault
raised view (walks.Unsound block why) = Unsound block why
raised view (walks.Unnamed oid) = Unnamed view.slot oid view.xid
raised view (walks.Order item) = Order view.slot view.xid item
raised view walks.Counts = Counts view.slot view.xid

-- the extents of a view in record order, each after its stream's id
abbrev pub extents_with_ids : Facts → List (ℕ × FileExt)
extents_with_ids facts = map (λ (f : Fact FileExt). (f.id, f.what)) facts.extents
