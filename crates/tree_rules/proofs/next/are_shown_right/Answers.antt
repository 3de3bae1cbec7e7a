use Rattle.tree_rules.proofs.Nexts.{both-ok, right-still}
use Rattle.tree_rules.proofs.next.are_shown_right.Goals as goal

pub returns : goal.returns
returns c =
    let asked = c.args.asked.now in
    let after = c.args.index.now.facts.now in
    let gone = c.args.gone.now in
    let come = c.args.come.now in
    both-ok c.is_silent.result (λ right named hashed told before same had change.
    right-still asked.profile asked.site.now asked.ranges.now before after gone come same had change
    (c.in_ok-is_plain.ensures c.if-not-branch.false before same had.rules change) (named told before same change had.nameless) (hashed told before same change had.hashes))
    c.is_silent.ensures.nameless c.is_silent.ensures.hashes
