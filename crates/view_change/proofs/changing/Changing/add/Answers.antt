use Rattle.std.proofs.Common.{rules, ◌≡◌, ◌∙◌, true, refl, ap}
use Rattle.bt_node.specs.Entries.{pairs_of}
use Rattle.view_change.specs.Numbers.{behind, numbers_since}
use Rattle.view_change.specs.Changing.{facts_before, held_after}
use Rattle.view_change.proofs.EndsRead.{records-read, ends-read}
use Rattle.view_change.proofs.Underway.{read-too}
use Rattle.view_change.proofs.changing.Changing.add.Goals as goal

pub returns-clause-leaf_ends : goal.returns-clause-leaf_ends
returns-clause-leaf_ends g c site image is = ends-read g.K.TreeKey.shape site image c.args.leaf c.args.node.now c.in-Some.ends is c.in-Some.ensures

pub returns-clause-held : goal.returns-clause-held
returns-clause-held g c start site image leaves is had =
    let shape = g.K.TreeKey.shape in
    let now = c.args.self.now in
    let leaf = c.args.leaf in
    let node = c.args.node.now in
    let here : c.in_ok-add_records.field-0 ≡ true = search rules in
    read-too shape site image (facts_before start) leaves leaf c.in-Some.ends c.since-numbers.result (pairs_of shape node) now.leaves.items now.stock.0 (held_after now) (record { leaves = c.put.new.self.leaves; facts = behind now.stock.1 c.put.new.self.facts; records = c.put.new.self.records }) now.follows now.stock.1 now.after.facts c.add_records.new.facts now.passed now.gone now.come
    (records-read shape site image leaf node is) (ends-read shape site image leaf node c.in-Some.ends is c.in-Some.ensures) refl
    (c.in_ok-add_records.ensures.facts here) (c.in_ok-add_records.ensures.readable here)
    (c.since-numbers.ensures ∙ (λ i. numbers_since (c.of.ensures i) (c.of-before.ensures i))) (ap (behind now.stock.1) c.put.ensures.facts) c.in_ok-put.ensures.leaves c.in_ok-put.ensures.records had
