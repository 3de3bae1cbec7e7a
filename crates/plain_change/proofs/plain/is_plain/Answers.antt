use Rattle.std.proofs.Common.{subst}
use Rattle.view_rules.specs.Facts.{Facts}
use Rattle.view_rules.specs.Names.{has_other_name_hash}
use Rattle.rule_breaks.proofs.Finds.{none-clear}
use Rattle.plain_change.specs.Fellows.{IsSharedStill}
use Rattle.plain_change.specs.Parts.{AreNamesRight, AreInodesRight, AreStreamsRight}
use Rattle.plain_change.proofs.Looks.{each-in}
use Rattle.plain_change.proofs.Tested.{entries-right, plain}
use Rattle.plain_change.proofs.plain.is_plain.Goals as goal

pub returns : goal.returns
returns c holds before same rules change =
    let asked = c.args.asked.now in
    let after = c.args.index.now.facts.now in
    let gone = c.args.gone.now in
    let come = c.args.come.now in
    let same_facts = c.in-Some.ensures in
    plain asked.profile asked.site.now asked.ranges.now before after gone come same rules change (entries-right after come (c.are_entries_right.ensures c.if-not-are_entries_right.false))
    (subst (λ (f : Facts). AreNamesRight f gone come) same_facts (c.are_names_right.ensures c.if-not-are_names_right.false))
    (subst (λ (f : Facts). AreInodesRight f gone come) same_facts (c.are_inodes_right.ensures c.if-not-are_inodes_right.false))
    (subst (λ (f : Facts). AreStreamsRight asked.site.now asked.ranges.now f gone come) same_facts (c.are_streams_right.ensures holds))
    (each-in (IsSharedStill after gone come) come.entries (c.in_ok-shared.ensures c.if-not-shared.false))
    (λ strict. none-clear (has_other_name_hash after) come.entries (c.in_ok-hashed.ensures c.if-not-hashed.false strict))
