use Rattle.std.proofs.Common.{ℕ, sym, ◌∙◌}
use Rattle.apfs_model.proofs.BoolTests.{not-true}
use Rattle.rule_changes.specs.Changes.{is_refilled}
use Rattle.plain_change.specs.Lookups.{breaks_at}
use Rattle.plain_change.proofs.Looks.{where-clear}
use Rattle.plain_change.proofs.Tested.{refilled-clear}
use Rattle.plain_change.proofs.touched.do_refilled_keep.Goals as goal

pub returns-then-not-is_filled_broken : goal.returns-then-not-is_filled_broken
returns-then-not-is_filled_broken g c holds distinct =
    let after = c.args.after.now.index.now.facts.now in
    let gone = c.args.gone.now in
    let come = c.args.come.now in
    let breaks = g.R.InodeRule.breaks after in
    where-clear after distinct (is_refilled gone come) breaks
    (refilled-clear gone come (λ (id : ℕ). breaks_at breaks after id) (sym c.is_come_broken.ensures ∙ c.if-is_come_broken.false) (sym c.is_filled_broken.ensures ∙ c.if-not-is_filled_broken.true) (sym c.is_filled_broken-then-not-is_filled_broken.ensures ∙ not-true c.is_filled_broken-then-not-is_filled_broken.result holds))
