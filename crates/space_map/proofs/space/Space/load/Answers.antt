use Rattle.std.proofs.Common.{◌≡◌, ◌∙◌, [], true, false, sym, subst, arith}
use Rattle.space_map.specs.Stops.{space_features}
use Rattle.space_map.specs.Held.{AreNamed}
use Rattle.obj_base.specs.declared.stop.Stop.TheVariants.{Found}
use Rattle.space_map.specs.declared.fault.SpaceFault.TheVariants as faults
use Rattle.space_map.proofs.Laws.{right-free}
use Rattle.space_map.proofs.Loads.{found-present, total-test, total-present, is-held, cabs_long, space-is}
use Rattle.space_map.proofs.space.Space.load.Goals as goal

pub returns-in-Err-info_blocks-clause-present : goal.returns-in-Err-info_blocks-clause-present
returns-in-Err-info_blocks-clause-present g c image told =
    found-present image c.args.cp.now c.in-Ok.bytes.items c.of-manager.result c.site-site.result c.in-Err-info_blocks.stop c.site-site.ensures (c.of-manager.ensures ∙ c.deref.ensures.value) c.in-Ok.ensures.right
    (c.in-Err-info_blocks.ensures.present image told)

pub returns-in-Err-info_blocks-clause-exact : goal.returns-in-Err-info_blocks-clause-exact
returns-in-Err-info_blocks-clause-exact g c image told space is = right-free image c.args.cp.now space c.in-Err-info_blocks.stop is (returns-in-Err-info_blocks-clause-present g c image told)

pub chunks-requires-clause-named : goal.chunks-requires-clause-named
chunks-requires-clause-named g c image told =
    subst (λ cibs. AreNamed image c.site-site.result c.of-manager.result cibs) (sym c.deref-2.ensures.value) (c.in-Ok-info_blocks.ensures.clear image (sym c.in-Ok-info_blocks.ensures.kept.same_bytes ∙ told))

pub returns-in-Err-chunks-clause-present : goal.returns-in-Err-chunks-clause-present
returns-in-Err-chunks-clause-present g c image told =
    found-present image c.args.cp.now c.in-Ok.bytes.items c.of-manager.result c.site-site.result c.in-Err-chunks.stop c.site-site.ensures (c.of-manager.ensures ∙ c.deref.ensures.value) c.in-Ok.ensures.right
    (c.in-Err-chunks.ensures.present image (c.in-Ok-info_blocks.ensures.kept.same_bytes ∙ told))

pub returns-in-Err-chunks-clause-exact : goal.returns-in-Err-chunks-clause-exact
returns-in-Err-chunks-clause-exact g c image told space is = right-free image c.args.cp.now space c.in-Err-chunks.stop is (returns-in-Err-chunks-clause-present g c image told)

pub returns-then-not-is_free_total-clause-present : goal.returns-then-not-is_free_total-clause-present
returns-then-not-is_free_total-clause-present g c image told =
    let now = c.in-Ok-info_blocks.ensures.kept.same_bytes ∙ told in
    let shaped : c.is_shaped.result ≡ true = cc in
    let wrong : c.is_free_total.result ≡ false = cc in
    total-present image c.args.cp.now c.in-Ok.bytes.items c.of-manager.result c.site-site.result c.in-Ok-info_blocks.blocks.cibs.items c.site-site.ensures (c.of-manager.ensures ∙ c.deref.ensures.value) c.in-Ok.ensures.right
    (sym c.is_shaped.ensures ∙ shaped) (c.in-Ok-info_blocks.ensures.clear image told) (c.in-Ok-chunks.ensures.clear image now)
    (total-test image c.site-site.result c.of-manager.result c.in-Ok-chunks.chunks.items c.deref-3.result.now c.free.result c.is_free_total.result (c.in-Ok-chunks.ensures.found image now) c.deref-3.ensures.value c.free.ensures c.is_free_total.ensures ∙ wrong)

pub returns-then-not-is_free_total-clause-exact : goal.returns-then-not-is_free_total-clause-exact
returns-then-not-is_free_total-clause-exact g c image told space is = right-free image c.args.cp.now space (Found faults.FreeTotal) is (returns-then-not-is_free_total-clause-present g c image told)

pub invariant_of-result : goal.invariant_of-result
invariant_of-result g c =
    let shaped : c.is_shaped.result ≡ true = cc in
    is-held c.site-site.result c.in-Ok.bytes.items c.of-manager.result c.in-Ok-chunks.chunks.items (sym c.is_shaped.ensures ∙ shaped) c.in-Ok.ensures.long c.in-Ok-chunks.ensures.count c.in-Ok-chunks.ensures.right

pub returns-clause-clear : goal.returns-clause-clear
returns-clause-clear g c image told =
    let now = c.in-Ok-info_blocks.ensures.kept.same_bytes ∙ told in
    let shaped : c.is_shaped.result ≡ true = cc in
    let right : c.is_free_total.result ≡ true = cc in
    let managers : c.of-manager.result ≡ c.in-Ok.bytes.items = c.of-manager.ensures ∙ c.deref.ensures.value in
    space-is image c.args.cp.now c.in-Ok.bytes.items c.of-manager.result c.site-site.result c.in-Ok-info_blocks.blocks.cabs.items c.in-Ok-info_blocks.blocks.cibs.items c.in-Ok-chunks.chunks.items c.site-site.ensures managers c.in-Ok.ensures.right
    (record {
      plain = subst (λ x. space_features x ≡ []) (sym managers) c.in-Ok.ensures.plain;
      shaped = sym c.is_shaped.ensures ∙ shaped;
      addressed = c.in-Ok-info_blocks.ensures.cabs;
      named = c.in-Ok-info_blocks.ensures.clear image told;
      right = c.in-Ok-chunks.ensures.clear image now;
      each = c.in-Ok-chunks.ensures.right;
      all = c.in-Ok-chunks.ensures.found image now;
      total = total-test image c.site-site.result c.of-manager.result c.in-Ok-chunks.chunks.items c.deref-3.result.now c.free.result c.is_free_total.result (c.in-Ok-chunks.ensures.found image now) c.deref-3.ensures.value c.free.ensures c.is_free_total.ensures ∙ right;
    })

pub returns-clause-reads : goal.returns-clause-reads
returns-clause-reads g c = omega (arith, c.in-Ok-chunks.ensures.reads, c.in-Ok-info_blocks.ensures.reads, c.in-Ok-info_blocks.ensures.count, cabs_long c.of-manager.result c.in-Ok-info_blocks.blocks.cabs.items c.in-Ok-info_blocks.ensures.cabs)
