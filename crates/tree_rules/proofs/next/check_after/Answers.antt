use Rattle.std.proofs.Common.{◌+◌, ◌≤◌, subst}
use Rattle.std.specs.Prelude.{Option, IfSome}
use Rattle.view_change.specs.declared.changing.Changed.{Changed}
use Rattle.view_change.specs.Kept.{facts_of, leaves_of}
use Rattle.view_change.specs.Changing.{HasDifference}
use Rattle.view_change.specs.Difference.{new_nodes, IsKeptOf}
use Rattle.tree_rules.proofs.next.check_after.Goals as goal

pub returns-in-Ok-clause-clear : goal.returns-in-Ok-clause-clear
returns-in-Ok-clause-clear g c image earlier told known =
    let asked = c.args.asked.now in
    let leaves = known.is.leaves in
    let told_here = c.in-Ok-Some.ensures in
    let after = subst (λ (o : Option Changed). IfSome o (λ changed. IsKeptOf image asked.site.now c.args.volume.now asked.view.now changed.after)) c.in-Ok-Some.field-0-is (told_here.after image leaves told known.is.leaves_kept) in
    let differs = subst (λ (o : Option Changed). IfSome o (λ changed. IfSome changed.change (HasDifference (facts_of c.args.before) (facts_of changed.after)))) c.in-Ok-Some.field-0-is (told_here.differs image leaves told known.is.leaves_kept) in
    c.in-Ok.ensures.clear image c.args.volume.now (facts_of c.args.before) after known.right differs

pub returns-in-Ok-clause-reads_new : goal.returns-in-Ok-clause-reads_new
returns-in-Ok-clause-reads_new g c image told shares =
    let asked = c.args.asked.now in
    let reads = g.S.BlockSource.reads in
    subst (λ (o : Option Changed). IfSome o (λ changed. reads c.difference.new.src ≤ reads c.args.src.now + new_nodes image asked.site.now c.args.volume.now asked.view.now (leaves_of c.args.before))) c.in-Ok-Some.field-0-is (c.in-Ok-Some.ensures.reads_new image told shares)
