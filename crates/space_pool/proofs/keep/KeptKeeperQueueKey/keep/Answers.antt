use Rattle.std.proofs.Common.{◌∙◌, ◌++◌, ap}
use Rattle.std.specs.Prelude.{option_map}
use Rattle.bt_cursor.specs.Gathered.{shown}
use Rattle.space_pool.proofs.Gathered.{gathers-more}
use Rattle.space_pool.proofs.keep.KeptKeeperQueueKey.keep.Goals as goal

pub returns-clause-held : goal.returns-clause-held
returns-clause-held c items had kept =
    let item = shown c.args.item.node c.args.item.at c.args.item.level c.args.item.pair.key_bytes.now (option_map (λ value. value.now) c.args.item.pair.value) in
    gathers-more c.args.self.now.entries.items c.add-2.new.gathered.items c.args.self.now.steps.items c.add.new.gathered.items items item had
    (c.in_ok-add-2.ensures ∙ ap (λ xs. c.args.self.now.entries.items ++ xs) c.in-Some.ensures.value)
    (c.in_ok-add.ensures ∙ ap (λ xs. c.args.self.now.steps.items ++ xs) c.step.ensures)
