use Rattle.std.specs.Prelude.{option_map}
use Rattle.bt_cursor.specs.Gathered.{shown}
use Rattle.use_report.proofs.Gathered.{gathers-more}
use Rattle.use_report.proofs.keep.KeptKeeper.keep.Goals as goal

pub returns-clause-held : goal.returns-clause-held
returns-clause-held g c items had kept =
    let item = shown c.args.item.node c.args.item.at c.args.item.level c.args.item.pair.key_bytes.now (option_map (λ value. value.now) c.args.item.pair.value) in
    gathers-more c.args.self.now.below.items c.add.new.gathered.items c.args.self.now.extents.items c.add-2.new.gathered.items items item c.args.item.child c.in-Ok.extent had
    c.requires.child c.in-Ok.ensures c.in_ok-add.ensures c.in_ok-add-2.ensures
