use Rattle.std.proofs.Common.{◌≡◌, ◌∙◌, ◌+◌, ◌≤◌, ℕ, true, false, ap, sym, subst}
use Rattle.std.specs.Prelude.{◌&&◌, nat_lt}
use Rattle.obj_base.specs.Stops.{Tells}
use Rattle.obj_base.specs.declared.site.Site.{Site}
use Rattle.nx_block.specs.Super.{omap_oid_of}
use Rattle.nx_ring.specs.Checkpoint.{Seen, site_of}
use Rattle.omap_map.specs.Features.{is_reverting}
use Rattle.omap_map.specs.Maps.{map_in, is_whole_map}
use Rattle.omap_map.specs.Loading.{map_nodes, IsLoaded}
use Rattle.reach_rules.specs.Features.{HasFeature}
use Rattle.reach_rules.specs.Reached.{IsReachedFault}
use Rattle.reach_sweep.proofs.SpaceTells.{never-lost, free-tells}
use Rattle.reach_sweep.proofs.loading.load_map.Goals as goal

pub returns-then-not-has_block-clause-present : goal.returns-then-not-has_block-clause-present
returns-then-not-has_block-clause-present g c = λ image told part.
    let seen : Seen = c.args.cp.now in
    let block : c.omap_oid-block.result ≡ omap_oid_of seen.nx = c.omap_oid-block.ensures ∙ ap omap_oid_of c.nx.ensures in
    absurd (never-lost image seen part
    (ap (λ (b : ℕ). nat_lt 0 b && nat_lt b (site_of seen).blocks) (sym block) ∙ (ap (λ (s : Site). nat_lt 0 c.omap_oid-block.result && nat_lt c.omap_oid-block.result s.blocks) (sym c.site-site.ensures) ∙ (sym c.has_block.ensures ∙ c.if-not-has_block.true))))

pub returns-in-Err-clause-present : goal.returns-in-Err-clause-present
returns-in-Err-clause-present g c = λ image told part.
    let seen : Seen = c.args.cp.now in
    let block : c.omap_oid-block.result ≡ omap_oid_of seen.nx = c.omap_oid-block.ensures ∙ ap omap_oid_of c.nx.ensures in
    subst (Tells (IsReachedFault image seen) (HasFeature image seen)) (sym c.raise_map.ensures)
    (free-tells image seen c.in-Err.stop (c.in-Err.ensures.exact image told
    (subst (λ (b : ℕ). is_whole_map image c.site-site.result b ≡ true) (sym block) (subst (λ (s : Site). is_whole_map image s (omap_oid_of seen.nx) ≡ true) (sym c.site-site.ensures) part.whole))
    (subst (λ (b : ℕ). is_reverting (map_in image c.site-site.result b) ≡ false) (sym block) (subst (λ (s : Site). is_reverting (map_in image s (omap_oid_of seen.nx)) ≡ false) (sym c.site-site.ensures) part.settled))))

pub returns-in-Ok-clause-clear : goal.returns-in-Ok-clause-clear
returns-in-Ok-clause-clear g c = λ image told.
    subst (λ (b : ℕ). IsLoaded image (site_of c.args.cp.now) b c.in-Ok.omap) (c.omap_oid-block.ensures ∙ ap omap_oid_of c.nx.ensures)
    (subst (λ (s : Site). IsLoaded image s c.omap_oid-block.result c.in-Ok.omap) c.site-site.ensures (c.in-Ok.ensures.clear image told))

pub returns-in-Ok-clause-reads : goal.returns-in-Ok-clause-reads
returns-in-Ok-clause-reads g c = λ image told.
    subst (λ (b : ℕ). g.S.BlockSource.reads c.load.new.src ≤ g.S.BlockSource.reads c.args.src.now + (1 + map_nodes image (site_of c.args.cp.now) b)) (c.omap_oid-block.ensures ∙ ap omap_oid_of c.nx.ensures)
    (subst (λ (s : Site). g.S.BlockSource.reads c.load.new.src ≤ g.S.BlockSource.reads c.args.src.now + (1 + map_nodes image s c.omap_oid-block.result)) c.site-site.ensures (c.in-Ok.ensures.reads image told))
