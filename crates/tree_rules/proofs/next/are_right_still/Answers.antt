use Rattle.std.proofs.Common.{◌≡◌, ◌∙◌, sym, subst, true}
use Rattle.view_rules.specs.Facts.{Facts}
use Rattle.rule_index.specs.Order.{AreInOrder}
use Rattle.rule_changes.specs.Changes.{AreWoven, HasDistinctInodes, IsChange}
use Rattle.view_change.specs.Kept.{facts_of}
use Rattle.tree_rules.specs.Known.{AreRight}
use Rattle.tree_rules.proofs.Nexts.{ok-so, chain-distinct, changed, unchanged}
use Rattle.tree_rules.proofs.next.are_right_still.Goals as goal

pub returns-then-are_none-2 : goal.returns-then-are_none-2
returns-then-are_none-2 c on before same had names left made =
    let asked = c.args.asked.now in
    let after = facts_of c.args.after.now in
    let no_gone = c.are_none.ensures c.if-are_none.true in
    let no_come = c.are_none-then-are_none.ensures c.if-are_none-2.true in
    subst (AreRight asked.profile asked.site.now asked.ranges.now)
    (unchanged before after same c.args.gone.now.names c.args.come.now.names names (subst (AreWoven before same) no_gone left) (subst (AreWoven after same) no_come made)) had

pub after-requires : goal.after-requires
after-requires c = subst AreInOrder (sym c.facts.ensures) (c.is_in_order.ensures c.if-not-is_in_order.false)

pub returns : goal.returns
returns c =
    let asked = c.args.asked.now in
    let after = facts_of c.args.after.now in
    let gone = c.args.gone.now in
    let come = c.args.come.now in
    let order : AreInOrder after = c.is_in_order.ensures c.if-not-is_in_order.false in
    let distinct : HasDistinctInodes after = chain-distinct after order.inodes in
    let same_facts : c.in_ok-index.index.facts.now ≡ after = c.in_ok-index.ensures ∙ c.facts.ensures in
    ok-so c.are_shown_right.result (λ right shown told before same had names left made.
    subst (AreRight asked.profile asked.site.now asked.ranges.now) same_facts
    (shown told before same had (subst (λ (f : Facts). IsChange before f gone come same) (sym same_facts) (changed before after gone come same had.distinct distinct names left made))))
    c.are_shown_right.ensures
