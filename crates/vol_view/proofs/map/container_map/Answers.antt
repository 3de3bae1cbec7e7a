use Rattle.std.proofs.Common.{◌≡◌, ◌∙◌, sym, ap, subst, arith}
use Rattle.obj_base.specs.Stops.{Tells}
use Rattle.nx_block.specs.Super.{omap_oid_of}
use Rattle.omap_map.specs.Maps.{IsMapFault, IsMapFeature}
use Rattle.omap_map.specs.Loading.{IsLoaded, map_nodes}
use Rattle.nx_ring.specs.Checkpoint.{site_of}
use Rattle.vol_view.specs.Slots.{IsMarked}
use Rattle.vol_view.specs.Stops.{IsHeadsStop, IsHeadsFeature}
use Rattle.vol_view.proofs.SlotsLemmas.{raise_tells, mark_tells}
use Rattle.vol_view.proofs.map.container_map.Goals as goal

pub returns-in-Err-clause-present : goal.returns-in-Err-clause-present
returns-in-Err-clause-present g c image told =
    let seen = c.args.cp.now in
    let stop = c.in-Err.stop in
    let block : c.omap_oid-block.result ≡ omap_oid_of seen.nx = c.omap_oid-block.ensures ∙ ap omap_oid_of c.nx.ensures in
    let there = subst (λ s. Tells (IsMapFault image s c.omap_oid-block.result) (IsMapFeature image s c.omap_oid-block.result) stop) c.requires.same (c.in-Err.ensures.present image told) in
    let there2 = subst (λ b. Tells (IsMapFault image (site_of seen) b) (IsMapFeature image (site_of seen) b) stop) block there in
    subst (Tells (IsHeadsStop image seen) (IsHeadsFeature image seen)) (sym c.raise.ensures) (raise_tells image seen stop there2)

pub returns-in-Err-test-clause-present : goal.returns-in-Err-test-clause-present
returns-in-Err-test-clause-present g c image told =
    let seen = c.args.cp.now in
    let block : c.omap_oid-block.result ≡ omap_oid_of seen.nx = c.omap_oid-block.ensures ∙ ap omap_oid_of c.nx.ensures in
    let loaded = subst (λ s. IsLoaded image s c.omap_oid-block.result c.in-Ok.omap) c.requires.same (c.in-Ok.ensures.clear image told) in
    mark_tells image seen c.in-Ok.omap c.in-Err-test.stop (subst (λ b. IsLoaded image (site_of seen) b c.in-Ok.omap) block loaded)
    (subst (λ b. Tells (λ fault. ⊥) (IsMarked c.in-Ok.omap b) c.in-Err-test.stop) block c.in-Err-test.ensures.present)

pub returns-in-Ok-test-clause-reads : goal.returns-in-Ok-test-clause-reads
returns-in-Ok-test-clause-reads g c image told =
    let seen = c.args.cp.now in
    let block : c.omap_oid-block.result ≡ omap_oid_of seen.nx = c.omap_oid-block.ensures ∙ ap omap_oid_of c.nx.ensures in
    let same = ap (λ s. map_nodes image s c.omap_oid-block.result) c.requires.same ∙ ap (map_nodes image (site_of seen)) block in
    omega (arith, same, c.in-Ok.ensures.reads image told)

pub returns-in-Err-test-clause-clear : goal.returns-in-Err-test-clause-clear
returns-in-Err-test-clause-clear g c image told = tt

pub returns-in-Err-test-clause-reads : goal.returns-in-Err-test-clause-reads
returns-in-Err-test-clause-reads g c image told = tt

pub returns-in-Ok-test-clause-present : goal.returns-in-Ok-test-clause-present
returns-in-Ok-test-clause-present g c image told = tt
