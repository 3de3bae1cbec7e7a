use Rattle.std.specs.Prelude.{count_by}
use Rattle.view_rules.specs.Names.{is_entry_at, is_entry_repeated}
use Rattle.plain_change.proofs.Looks.{not-twice}
use Rattle.plain_change.proofs.repeats.is_entry_alone.Goals as goal

pub returns : goal.returns
unfolding is_entry_repeated
returns c holds right listed =
    let e = c.args.e.now in
    not-twice (count_by (is_entry_at e.id e.what.name) c.rivals.result.now) (count_by (is_entry_at e.id e.what.name) c.args.after.now.index.now.facts.now.entries) (c.is_once.ensures holds) (c.rivals.ensures right listed)
