use Rattle.std.proofs.Common.{List, [], sym, subst}
use Rattle.apfs_model.proofs.BoolTests.{from-equal}
use Rattle.bt_cursor.specs.declared.step.Step.{Step}
use Rattle.ext_ref.specs.declared.range.NewRange.{NewRange}
use Rattle.ext_ref.specs.Scanned.{IsScanned}
use Rattle.ext_ref.proofs.Gathered.{none-scanned, right_free}
use Rattle.ext_ref.proofs.scanning.scan.Goals as goal

pub returns-then-root-eq0-clause-clear : goal.returns-then-root-eq0-clause-clear
returns-then-root-eq0-clause-clear g c image told =
    subst (λ (ranges : List NewRange). IsScanned image c.args.site.now c.args.root c.new.result.items ranges) (sym c.new-then-root-eq0.ensures.items)
    (subst (λ (steps : List Step). IsScanned image c.args.site.now c.args.root steps []) (sym c.new.ensures.items)
    (none-scanned image c.args.site.now c.args.root (from-equal c.args.root 0 c.if-root-eq0.true)))

pub returns-in-Err-clause-exact : goal.returns-in-Err-clause-exact
returns-in-Err-clause-exact g c image told right = right_free image c.args.site.now c.args.root c.in-Err.stop right (c.in-Err.ensures.present image told)
