use Rattle.std.proofs.Common.{◌+◌, ◌≤◌, List, length, ap, sym, ◌∙◌, subst}
use Rattle.fs_name.specs.Normal.{are_hashed}
use Rattle.vol_view.specs.Volumes.{Loaded}
use Rattle.bt_node.specs.declared.node.NodeAt.{NodeAt}
use Rattle.view_facts.proofs.Walks.{walked-hashed, walked-plain, nodes-hashed, nodes-plain, tells-hashed, tells-plain}
use Rattle.view_facts.proofs.gathering.walk_view.Goals as goal

pub returns-in-Ok-clause-clear : goal.returns-in-Ok-clause-clear
returns-in-Ok-clause-clear g c image told =
    walked-hashed g.W.Scope.FILES image c.args.site.now c.args.volume.now c.args.view.now c.in-Ok.walked (ap (λ (v : Loaded). are_hashed v.names) (sym c.volume.view_is) ∙ (sym c.are_hashed.ensures ∙ c.if-are_hashed.true)) (c.in-Ok.ensures.clear image told)

pub returns-in-Ok-clause-reads : goal.returns-in-Ok-clause-reads
returns-in-Ok-clause-reads g c image told =
    subst (λ (ns : List NodeAt). g.S.BlockSource.reads c.walk.new.src ≤ g.S.BlockSource.reads c.args.src.now + length ns) (sym (nodes-hashed image c.args.site.now c.args.volume.now c.args.view.now (ap (λ (v : Loaded). are_hashed v.names) (sym c.volume.view_is) ∙ (sym c.are_hashed.ensures ∙ c.if-are_hashed.true)))) (c.in-Ok.ensures.reads image told)

pub returns-in-Ok-walk-clause-clear : goal.returns-in-Ok-walk-clause-clear
returns-in-Ok-walk-clause-clear g c image told =
    walked-plain g.W.Scope.FILES image c.args.site.now c.args.volume.now c.args.view.now c.in-Ok-walk.walked (ap (λ (v : Loaded). are_hashed v.names) (sym c.volume.view_is) ∙ (sym c.are_hashed.ensures ∙ c.if-are_hashed.false)) (c.in-Ok-walk.ensures.clear image told)

pub returns-in-Ok-walk-clause-reads : goal.returns-in-Ok-walk-clause-reads
returns-in-Ok-walk-clause-reads g c image told =
    subst (λ (ns : List NodeAt). g.S.BlockSource.reads c.walk-else-are_hashed.new.src ≤ g.S.BlockSource.reads c.args.src.now + length ns) (sym (nodes-plain image c.args.site.now c.args.volume.now c.args.view.now (ap (λ (v : Loaded). are_hashed v.names) (sym c.volume.view_is) ∙ (sym c.are_hashed.ensures ∙ c.if-are_hashed.false)))) (c.in-Ok-walk.ensures.reads image told)

pub returns-in-Err-clause-present : goal.returns-in-Err-clause-present
returns-in-Err-clause-present g c profile ranges image told =
    tells-hashed profile image c.args.site.now c.args.volume.now c.args.view.now ranges c.in-Err.stop (ap (λ (v : Loaded). are_hashed v.names) (sym c.volume.view_is) ∙ (sym c.are_hashed.ensures ∙ c.if-are_hashed.true)) (c.in-Err.ensures.present image told)

pub returns-in-Err-walk-clause-present : goal.returns-in-Err-walk-clause-present
returns-in-Err-walk-clause-present g c profile ranges image told =
    tells-plain profile image c.args.site.now c.args.volume.now c.args.view.now ranges c.in-Err-walk.stop (ap (λ (v : Loaded). are_hashed v.names) (sym c.volume.view_is) ∙ (sym c.are_hashed.ensures ∙ c.if-are_hashed.false)) (c.in-Err-walk.ensures.present image told)
