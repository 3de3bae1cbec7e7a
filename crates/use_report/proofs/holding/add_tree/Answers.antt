use Rattle.apfs_model.proofs.BoolTests.{from-equal, never-true, equal-from}
use Rattle.use_report.proofs.Adding.{tree-none, tree-some}
use Rattle.use_report.proofs.holding.add_tree.Goals as goal

pub returns-then-root-eq0 : goal.returns-then-root-eq0
returns-then-root-eq0 c = tree-none c.args.root c.args.steps.now c.args.held.now (from-equal c.args.root 0 c.if-root-eq0.true)

pub returns : goal.returns
returns c =
    tree-some c.args.root c.args.steps.now c.args.held.now c.add.new.self c.add_children.new.held (never-true _ (λ e. c.if-root-eq0.false (equal-from c.args.root 0 e)))
    c.in_ok-add.ensures c.in_ok-add_children.ensures
