use Rattle.view_rules.specs.Inodes.{HasTargets, HasStreamSizes, HasBodySizes, HasOwners}
use Rattle.rule_breaks.proofs.Shown.{both}
use Rattle.rule_breaks.proofs.faults.inodes.fault.Goals as goal

pub returns : goal.returns
returns c =
    let a = c.args.asked.now in
    let f = c.args.index.now.facts.now in
    both a f (HasTargets f) (HasStreamSizes f × (HasBodySizes f × HasOwners f)) c.first-target.result c.or-2.result c.or-3.result c.or-3.ensures c.first-target.ensures (both a f (HasStreamSizes f) (HasBodySizes f × HasOwners f) c.first-stream.result c.or.result c.or-2.result c.or-2.ensures c.first-stream.ensures (both a f (HasBodySizes f) (HasOwners f) c.body-body.result c.owner-owner.result c.or.result c.or.ensures c.body-body.ensures c.owner-owner.ensures))
