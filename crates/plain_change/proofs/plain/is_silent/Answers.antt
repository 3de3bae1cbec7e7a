use Rattle.std.proofs.Common.{subst}
use Rattle.view_rules.specs.Facts.{Facts}
use Rattle.view_rules.specs.Names.{has_other_name_hash}
use Rattle.rule_breaks.proofs.Finds.{none-clear}
use Rattle.rule_changes.specs.Changes.{HasDistinctInodes, IsClearWhere, is_renamed}
use Rattle.rule_changes.specs.Known.{is_nameless}
use Rattle.rule_changes.proofs.Known.{no-nameless, no-odd-hashes}
use Rattle.plain_change.proofs.plain.is_silent.Goals as goal

pub returns-clause-nameless : goal.returns-clause-nameless
returns-clause-nameless c holds before same change none =
    let gone = c.args.gone.now in
    let come = c.args.come.now in
    no-nameless before c.args.index.now.facts.now gone come same change none
    (subst (λ (f : Facts). HasDistinctInodes f → IsClearWhere (is_renamed gone come) (is_nameless f) f.inodes) c.in-Some.ensures (c.do_renamed_keep.ensures holds) change.distinct_after)

pub returns-clause-hashes : goal.returns-clause-hashes
returns-clause-hashes c holds before same change right =
    no-odd-hashes before c.args.index.now.facts.now c.args.gone.now c.args.come.now same change right (none-clear (has_other_name_hash c.args.index.now.facts.now) c.args.come.now.entries (c.in_ok-hashed.ensures c.if-not-hashed.false))
