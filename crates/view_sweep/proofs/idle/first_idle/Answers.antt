use Rattle.std.proofs.Common.{◌≡◌, ◌+◌, false, List, get_or, take, refl, sym, subst}
use Rattle.std.proofs.lemmas.List.{take_more, take_all}
use Rattle.apfs_model.specs.Lists.{In}
use Rattle.omap_map.specs.Records.{is_deleted}
use Rattle.omap_map.specs.declared.records.OmapRecord.{OmapRecord}
use Rattle.view_sweep.specs.Unused.{used_in}
use Rattle.view_sweep.proofs.Hits.{norecord}
use Rattle.view_sweep.proofs.Ranked.{place-in, every-push}
use Rattle.view_sweep.proofs.idle.first_idle.Goals as goal

pub returns-then-is_idle-clause-some : goal.returns-then-is_idle-clause-some
returns-then-is_idle-clause-some c = record {
  one = place-in c.args.of.now.records.now c.loop-mapping.mapping-index norecord c.loop-mapping-test.true;
  kept = c.if-is_idle.ensures.kept refl;
  idle = c.if-is_idle.ensures.idle refl;
}

pub loop-mapping-preserved : goal.loop-mapping-preserved
loop-mapping-preserved c =
    let rs : List OmapRecord = c.args.of.now.records.now in
    every-push (λ (r : OmapRecord). is_deleted r.flags ≡ false → In (used_in c.args.of.now.map r) c.args.sorted.now) (take c.loop-mapping.mapping-index rs) (take (c.loop-mapping.mapping-index + 1) rs) (get_or rs c.loop-mapping.mapping-index norecord)
    (take_more rs c.loop-mapping.mapping-index norecord c.loop-mapping-test.true) c.loop-mapping.invariant (c.if-is_idle.ensures.used refl)

pub returns-clause-none : goal.returns-clause-none
returns-clause-none c = λ none r h. c.loop-mapping.invariant r (subst (λ (rs : List OmapRecord). In r rs) (sym (take_all c.loop-mapping.mapping-index c.args.of.now.records.now c.loop-mapping-test.false)) h)
