use Rattle.std.proofs.Common.{◌≡◌, ◌+◌, ◌≤◌, length, false, ap, sym, ◌∙◌, subst}
use Rattle.obj_base.specs.Stops.{Tells}
use Rattle.omap_map.specs.Maps.{Contents}
use Rattle.omap_map.specs.Resolve.{named_by}
use Rattle.bt_cursor.specs.Tree.{tree_in}
use Rattle.bt_cursor.specs.Met.{nodes_of}
use Rattle.bt_cursor.specs.Faults.{HasFeature}
use Rattle.bt_cursor.specs.Gathered.{IsGatherFault, IsGathered}
use Rattle.vol_view.specs.Volumes.{Loaded}
use Rattle.view_facts.specs.Kept.{IsKeptOf}
use Rattle.view_facts.proofs.Walks.{says_tells, says_walked, walked}
use Rattle.view_facts.proofs.gathering.walk.Goals as goal

pub returns-in-Err-clause-present : goal.returns-in-Err-clause-present
returns-in-Err-clause-present g c image told =
    let tree = λ (o : Contents). tree_in g.K.TreeKey.shape c.args.site.now (λ oid. named_by o.records c.args.view.now.xid c.args.site.now.blocks oid) image in
    let same : c.volume.inside.omap ≡ c.args.volume.now.omap = ap (λ (v : Loaded). v.omap) c.volume.view_is in
    says_tells c.args.view.now (tree c.args.volume.now.omap) c.args.view.now.root_oid c.in-Err.stop c.raise.result c.raise.ensures
    (subst (λ (o : Contents). Tells (IsGatherFault (tree o) c.args.view.now.root_oid (λ _. false)) (HasFeature (tree o) c.args.view.now.root_oid) c.in-Err.stop) same (c.in-Err.ensures.present image told))

pub returns-clause-clear : goal.returns-clause-clear
returns-clause-clear g c image told =
    let tree = λ (o : Contents). tree_in g.K.TreeKey.shape c.args.site.now (λ oid. named_by o.records c.args.view.now.xid c.args.site.now.blocks oid) image in
    let same : c.volume.inside.omap ≡ c.args.volume.now.omap = ap (λ (v : Loaded). v.omap) c.volume.view_is in
    let k = c.in-Ok.keep in
    let all = subst (λ (o : Contents). IsGathered (tree o) c.args.view.now.root_oid (IsKeptOf g.W.Scope.FILES k.facts k.items k.records k.refusal) (λ _. false)) same (c.in-Ok.ensures.clear image told) in
    walked g.W.Scope.FILES (tree c.args.volume.now.omap) c.args.view.now.root_oid k.facts c.renamed.result c.args.volume.now.names k.items k.records k.refusal (k.hashed ∙ sym c.requires.hashed) all.whole all.held
    (c.renamed.ensures ∙ ap (λ (v : Loaded). record k.facts { names = v.names }) c.volume.view_is)

pub returns-clause-reads : goal.returns-clause-reads
returns-clause-reads g c image told =
    let tree = λ (o : Contents). tree_in g.K.TreeKey.shape c.args.site.now (λ oid. named_by o.records c.args.view.now.xid c.args.site.now.blocks oid) image in
    let same : c.volume.inside.omap ≡ c.args.volume.now.omap = ap (λ (v : Loaded). v.omap) c.volume.view_is in
    subst (λ (o : Contents). g.S.BlockSource.reads c.gather.new.src ≤ g.S.BlockSource.reads c.args.src.now + length (nodes_of (tree o) c.args.view.now.root_oid)) same (c.in-Ok.ensures.reads image told)

pub returns-in-Err-clause-walked : goal.returns-in-Err-clause-walked
returns-in-Err-clause-walked g c fault e = says_walked c.args.view.now c.in-Err.stop c.raise.result fault c.raise.ensures e
