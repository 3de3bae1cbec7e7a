use Rattle.std.proofs.Common.{Ok}
use Rattle.view_rules.specs.Extents.{HasExtentOrder, HasExtentPlaces, HasCover}
use Rattle.rule_breaks.proofs.Shown.{either-first}
use Rattle.rule_breaks.proofs.faults.extents.fault.Goals as goal

pub returns : goal.returns
returns c =
    let a = c.args.asked.now in
    let f = c.args.facts.now in
    let places = HasExtentPlaces a.site.now.block_size a.site.now.blocks f in
    let covered = HasCover a.site.now.block_size a.ranges.now f in
    either-first a f (HasExtentOrder a.site.now.block_size f) (places × covered) (Ok c.in_ok-order.order) c.either-rest.result c.either.result c.either.ensures c.in_ok-order.ensures
    (either-first a f places covered (Ok c.place-place.result) c.cover-cover.result c.either-rest.result c.either-rest.ensures c.place-place.ensures c.cover-cover.ensures)
