use Rattle.std.proofs.Common.{Ok}
use Rattle.view_rules.specs.Names.{HasDistinctEntries, HasDistinctAttributes, HasAsciiHashes}
use Rattle.rule_breaks.proofs.Shown.{two-and, none-given}
use Rattle.rule_breaks.proofs.faults.names.fault.Goals as goal

pub returns : goal.returns
returns c =
    let f = c.args.facts.now in
    two-and c.args.asked.now f (HasDistinctEntries f) (HasDistinctAttributes f) (HasAsciiHashes f) c.name_twice-twice.result (Ok c.in_ok-hash.hash) c.either.result c.either.ensures c.name_twice-twice.ensures c.in_ok-hash.ensures

pub name_twice-twice-requires : goal.name_twice-twice-requires
name_twice-twice-requires c none = none-given c.args.asked.now c.args.facts.now (HasAsciiHashes c.args.facts.now) c.in_ok-hash.hash c.is_none.result c.in_ok-hash.ensures c.is_none.ensures none
