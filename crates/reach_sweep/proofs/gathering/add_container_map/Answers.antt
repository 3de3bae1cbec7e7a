use Rattle.std.proofs.Common.{◌≡◌, ◌∙◌, ℕ, ◌+◌, ◌≤◌, [], ◌∷◌, length, ap, sym, subst, arith}
use Rattle.nx_block.specs.Super.{omap_oid_of}
use Rattle.nx_ring.specs.Checkpoint.{Seen, site_of}
use Rattle.omap_map.specs.Maps.{Contents, contents_of}
use Rattle.omap_map.specs.Loading.{map_nodes}
use Rattle.reach_rules.specs.declared.naming.LookUp.TheVariants.{ByBlock}
use Rattle.reach_rules.specs.declared.naming.Object.TheVariants.{Newest}
use Rattle.reach_rules.specs.declared.naming.Namer.TheVariants.{Whole}
use Rattle.reach_rules.specs.declared.naming.Expected.TheVariants.{ContainerMap}
use Rattle.reach_rules.specs.declared.naming.Naming.{Naming}
use Rattle.reach_rules.specs.Naming.{naming}
use Rattle.reach_gather.specs.Volumes.Parts.{IsMapPart}
use Rattle.reach_gather.specs.Adds.{Adds}
use Rattle.reach_gather.specs.Mapped.{loaded_namings}
use Rattle.reach_gather.proofs.Growing.{noted-more}
use Rattle.reach_gather.proofs.Mapped.{loaded-count}
use Rattle.reach_sweep.proofs.gathering.add_container_map.Goals as goal

pub returns-clause-clear : goal.returns-clause-clear
returns-clause-clear g c = λ image told part.
    let seen : Seen = c.args.cp.now in
    let by : c.omap_oid.result ≡ omap_oid_of seen.nx = c.omap_oid.ensures ∙ ap omap_oid_of c.nx.ensures in
    subst (λ (oid : ℕ). Adds image seen (naming (Whole Newest) 160 ContainerMap ByBlock oid ∷ []) [] c.args.out.now c.add_map.new.out) by
    (c.in_ok-add_map.ensures.clear image seen (subst (λ (oid : ℕ). IsMapPart image seen (naming (Whole Newest) 160 ContainerMap ByBlock oid)) (sym by) part)
    ((c.in-Ok.ensures.clear image told).same ∙ ap (contents_of image (site_of seen)) (sym by)))

pub returns-clause-records : goal.returns-clause-records
returns-clause-records g c = λ image told. ap (λ (m : Contents). m.records) (c.in-Ok.ensures.clear image told).same

pub returns-clause-reads : goal.returns-clause-reads
returns-clause-reads g c = λ image told.
    let seen : Seen = c.args.cp.now in
    let n : Naming = naming (Whole Newest) 160 ContainerMap ByBlock c.omap_oid.result in
    let few : g.S.BlockSource.reads c.load_map.new.src ≤ g.S.BlockSource.reads c.args.src.now + (1 + map_nodes image (site_of seen) (omap_oid_of seen.nx)) = c.in-Ok.ensures.reads image told in
    let more : length c.add_map.new.out.namings ≡ length c.args.out.now.namings + length (loaded_namings n c.in-Ok.omap) = noted-more c.args.out.now.namings c.add_map.new.out.namings (loaded_namings n c.in-Ok.omap) c.in_ok-add_map.ensures.namings in
    let long : length (loaded_namings n c.in-Ok.omap) ≡ 1 + map_nodes image (site_of seen) (omap_oid_of seen.nx) = loaded-count image (site_of seen) (omap_oid_of seen.nx) c.in-Ok.omap n (c.in-Ok.ensures.clear image told) in
    omega (arith, few, more, long)
