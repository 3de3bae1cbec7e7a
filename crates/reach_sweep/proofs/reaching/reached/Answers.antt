use Rattle.std.proofs.Common.{◌≡◌, ◌∙◌, ◌++◌, ◌+◌, ◌<◌, ℕ, List, Some, length, sym, subst}
use Rattle.std.specs.Prelude.{◌^◌}
use Rattle.nx_block.specs.Super.{omap_oid_of}
use Rattle.nx_ring.specs.Checkpoint.{Seen, site_of}
use Rattle.omap_map.specs.Maps.{map_records}
use Rattle.vol_view.specs.Volumes.{Loaded}
use Rattle.vol_view.specs.Stops.{AreHeads}
use Rattle.vol_view.specs.declared.head.VolHead.{VolHead}
use Rattle.view_sweep.specs.declared.used.Used.{Used}
use Rattle.view_sweep.specs.Unused.{AreAllUsed, AreUsedOnes}
use Rattle.reach_sweep.specs.Account.{AreLoadedOf}
use Rattle.reach_sweep.specs.Composed.{records_used}
use Rattle.reach_sweep.specs.Finished.{IsFinished}
use Rattle.reach_sweep.specs.Used.{maps_of}
use Rattle.reach_sweep.specs.Views.{namer_by}
use Rattle.reach_sweep.proofs.Accounts.{reached-free}
use Rattle.reach_sweep.proofs.Slots.{twice-apart}
use Rattle.reach_sweep.proofs.Swept.{slots-are-apart}
use Rattle.reach_sweep.proofs.Listed.{listed-by, of-maps}
use Rattle.reach_sweep.proofs.Together.{given-of, AreParts, parts-live, swept-live, AreSwept, used-ones, AreKnown, all-reached}
use Rattle.reach_sweep.proofs.Within.{reads-within}
use Rattle.reach_sweep.proofs.reaching.reached.Goals as goal

pub returns-in-Err-clause-exact : goal.returns-in-Err-clause-exact
returns-in-Err-clause-exact g c = λ image heads told h l whole r. reached-free image c.args.cp.now whole c.in-Err.stop r (c.in-Err.ensures.present image told)

pub returns-in-Err-load_pool-clause-present : goal.returns-in-Err-load_pool-clause-present
returns-in-Err-load_pool-clause-present g c = λ image heads told h l.
    c.in-Err-load_pool.ensures.present image (c.load_space.ensures.kept.same_bytes ∙ told) (c.in-Ok.ensures.clear image told)

pub returns-in-Err-load_pool-clause-exact : goal.returns-in-Err-load_pool-clause-exact
returns-in-Err-load_pool-clause-exact g c = λ image heads told h l whole r.
    reached-free image c.args.cp.now whole c.in-Err-load_pool.stop r (returns-in-Err-load_pool-clause-present g c image heads told h l)

pub returns-in-Err-add_parts-clause-present : goal.returns-in-Err-add_parts-clause-present
returns-in-Err-add_parts-clause-present g c = λ image heads told h l.
    let v = given-of image c.args.cp.now heads c.args.volumes.now h l in
    c.in-Err-add_parts.ensures.present image heads (namer_by image c.args.cp.now) (c.load_pool.ensures.kept.same_bytes ∙ (c.load_space.ensures.kept.same_bytes ∙ told)) v.parts v.volumes_are (c.in-Ok.ensures.clear image told)

pub returns-in-Err-add_parts-clause-exact : goal.returns-in-Err-add_parts-clause-exact
returns-in-Err-add_parts-clause-exact g c = λ image heads told h l whole r.
    reached-free image c.args.cp.now whole c.in-Err-add_parts.stop r (returns-in-Err-add_parts-clause-present g c image heads told h l)

pub returns-in-Err-once-clause-present : goal.returns-in-Err-once-clause-present
returns-in-Err-once-clause-present g c = λ image heads told h l.
    let v = given-of image c.args.cp.now heads c.args.volumes.now h l in
    let parts : AreParts image c.args.cp.now c.args.volumes.now c.in_ok-parts.parts c.add_parts.new.out = record {
      start_is = c.in_ok-parts.ensures.start;
      added = c.in-Ok-add_parts.ensures.clear image heads (namer_by image c.args.cp.now) (c.load_pool.ensures.kept.same_bytes ∙ (c.load_space.ensures.kept.same_bytes ∙ told)) v.parts v.volumes_are (c.in-Ok.ensures.clear image told);
    } in
    c.in-Err-once.ensures.present image (parts-live image c.args.cp.now c.args.volumes.now c.in_ok-parts.parts c.add_parts.new.out parts)

pub returns-in-Err-once-clause-exact : goal.returns-in-Err-once-clause-exact
returns-in-Err-once-clause-exact g c = λ image heads told h l whole r.
    reached-free image c.args.cp.now whole c.in-Err-once.stop r (returns-in-Err-once-clause-present g c image heads told h l)

pub returns-in-Some-clause-present : goal.returns-in-Some-clause-present
returns-in-Some-clause-present g c = λ image heads told h l.
    let v = given-of image c.args.cp.now heads c.args.volumes.now h l in
    absurd (twice-apart c.args.volumes.now c.in-Some.oid c.in-Some.ensures.twice (slots-are-apart image c.args.cp.now heads c.args.volumes.now (namer_by image c.args.cp.now) v.parts v.volumes_are))

pub returns-in-Some-clause-exact : goal.returns-in-Some-clause-exact
returns-in-Some-clause-exact g c = λ image heads told h l whole r.
    let v = given-of image c.args.cp.now heads c.args.volumes.now h l in
    absurd (twice-apart c.args.volumes.now c.in-Some.oid c.in-Some.ensures.twice (slots-are-apart image c.args.cp.now heads c.args.volumes.now (namer_by image c.args.cp.now) v.parts v.volumes_are))

pub returns-in-Err-sweep_views-clause-present : goal.returns-in-Err-sweep_views-clause-present
returns-in-Err-sweep_views-clause-present g c = λ image heads told h l.
    let v = given-of image c.args.cp.now heads c.args.volumes.now h l in
    let before = c.load_pool.ensures.kept.same_bytes ∙ (c.load_space.ensures.kept.same_bytes ∙ told) in
    let parts : AreParts image c.args.cp.now c.args.volumes.now c.in_ok-parts.parts c.add_parts.new.out = record {
      start_is = c.in_ok-parts.ensures.start;
      added = c.in-Ok-add_parts.ensures.clear image heads (namer_by image c.args.cp.now) before v.parts v.volumes_are (c.in-Ok.ensures.clear image told);
    } in
    c.in-Err-sweep_views.ensures.present image heads (namer_by image c.args.cp.now) (c.add_parts.ensures.kept.same_bytes ∙ before) v.parts v.volumes_are
    (swept-live image c.args.cp.now heads c.args.volumes.now c.in_ok-parts.parts c.add_parts.new.out v parts)

pub returns-in-Err-sweep_views-clause-exact : goal.returns-in-Err-sweep_views-clause-exact
returns-in-Err-sweep_views-clause-exact g c = λ image heads told h l whole r.
    reached-free image c.args.cp.now whole c.in-Err-sweep_views.stop r (returns-in-Err-sweep_views-clause-present g c image heads told h l)

pub returns-in-Err-check_used-clause-present : goal.returns-in-Err-check_used-clause-present
returns-in-Err-check_used-clause-present g c = λ image heads told h l.
    let seen : Seen = c.args.cp.now in
    let volumes : List Loaded = c.args.volumes.now in
    let namer = namer_by image seen in
    let found : List Used = c.in-Ok-head_records.found.items in
    let used : List Used = c.in-Ok-sweep_views.used.items in
    let v = given-of image seen heads volumes h l in
    let before = c.load_pool.ensures.kept.same_bytes ∙ (c.load_space.ensures.kept.same_bytes ∙ told) in
    let records : c.in-Ok-add_parts.omap.records ≡ map_records image (site_of seen) (omap_oid_of seen.nx) = c.in-Ok-add_parts.ensures.records image before in
    let swept : AreSwept image seen heads volumes c.in_ok-parts.parts c.add_parts.new.out used found = record {
      given = v;
      gathered = record {
        start_is = c.in_ok-parts.ensures.start;
        added = c.in-Ok-add_parts.ensures.clear image heads namer before v.parts v.volumes_are (c.in-Ok.ensures.clear image told);
      };
      once = c.in-Ok-once.ensures.clear;
      reached = c.in-Ok-sweep_views.ensures.clear image heads namer (c.add_parts.ensures.kept.same_bytes ∙ before) v.parts v.volumes_are;
      heads_found = c.in-Ok-head_records.ensures.found image heads namer v.parts records v.volumes_are;
    } in
    let ones : AreUsedOnes image seen (found ++ used) = used-ones image seen heads volumes c.in_ok-parts.parts c.add_parts.new.out used found swept in
    c.in-Err-check_used.ensures.present image
    (subst (λ (us : List Used). AreUsedOnes image seen (us ++ c.deref-2.result.now)) (sym c.deref.ensures.value) (subst (λ (us : List Used). AreUsedOnes image seen (found ++ us)) (sym c.deref-2.ensures.value) ones))
    (of-maps image seen heads volumes namer c.records.result.now v.parts v.volumes_are (c.records.ensures.all ∙ records))

pub returns-in-Err-check_used-clause-exact : goal.returns-in-Err-check_used-clause-exact
returns-in-Err-check_used-clause-exact g c = λ image heads told h l whole r.
    reached-free image c.args.cp.now whole c.in-Err-check_used.stop r (returns-in-Err-check_used-clause-present g c image heads told h l)

-- all that was swept, known and finished where all is put together
swept-at : (g : _) (c : goal.After-drop-parts-inside-in-Ok-finish-2 g) (image : List ℕ) (heads : List VolHead) → g.S.BlockSource.bytes c.args.src.now ≡ Some image → AreHeads image c.args.cp.now heads → AreLoadedOf image c.args.cp.now heads c.args.volumes.now →
    AreSwept image c.args.cp.now heads c.args.volumes.now c.in_ok-parts.parts c.add_parts.new.out c.in-Ok-sweep_views.used.items c.in-Ok-head_records.found.items
swept-at g c image heads told h l =
    let seen : Seen = c.args.cp.now in
    let namer = namer_by image seen in
    let v = given-of image seen heads c.args.volumes.now h l in
    let before = c.load_pool.ensures.kept.same_bytes ∙ (c.load_space.ensures.kept.same_bytes ∙ told) in
    record {
      given = v;
      gathered = record {
        start_is = c.in_ok-parts.ensures.start;
        added = c.in-Ok-add_parts.ensures.clear image heads namer before v.parts v.volumes_are (c.in-Ok.ensures.clear image told);
      };
      once = c.in-Ok-once.ensures.clear;
      reached = c.in-Ok-sweep_views.ensures.clear image heads namer (c.add_parts.ensures.kept.same_bytes ∙ before) v.parts v.volumes_are;
      heads_found = c.in-Ok-head_records.ensures.found image heads namer v.parts (c.in-Ok-add_parts.ensures.records image before) v.volumes_are;
    }

known-at : (g : _) (c : goal.After-drop-parts-inside-in-Ok-finish-2 g) (image : List ℕ) (heads : List VolHead) → g.S.BlockSource.bytes c.args.src.now ≡ Some image → AreHeads image c.args.cp.now heads → AreLoadedOf image c.args.cp.now heads c.args.volumes.now →
    AreKnown image c.args.cp.now heads (maps_of c.args.cp.now c.args.volumes.now c.records.result.now) (c.in-Ok-head_records.found.items ++ c.in-Ok-sweep_views.used.items) c.in-Ok.space c.in-Ok-load_pool.pool.items
known-at g c image heads told h l =
    let seen : Seen = c.args.cp.now in
    let volumes : List Loaded = c.args.volumes.now in
    let v = given-of image seen heads volumes h l in
    let before = c.load_pool.ensures.kept.same_bytes ∙ (c.load_space.ensures.kept.same_bytes ∙ told) in
    record {
      plain = c.requires.plain;
      listed = listed-by image seen heads volumes (namer_by image seen) c.records.result.now v.parts v.volumes_are (c.records.ensures.all ∙ c.in-Ok-add_parts.ensures.records image before);
      all_are_used = subst (λ (us : List Used). AreAllUsed (maps_of seen volumes c.records.result.now) (us ++ c.in-Ok-sweep_views.used.items)) c.deref.ensures.value
          (subst (λ (us : List Used). AreAllUsed (maps_of seen volumes c.records.result.now) (c.deref.result.now ++ us)) c.deref-2.ensures.value c.in-Ok-check_used.ensures.clear);
      space_is = c.in-Ok.ensures.clear image told;
      pool_is = c.in-Ok-load_pool.ensures.clear image (c.load_space.ensures.kept.same_bytes ∙ told);
      queued = c.in-Ok-add_parts.ensures.queued image before;
    }

finished-at : (g : _) (c : goal.After-drop-parts-inside-in-Ok-finish-2 g) → IsFinished (records_used c.in-Ok-sweep_views.used.items) (records_used c.in-Ok-head_records.found.items) c.add_parts.new.out c.in-Ok.space c.in-Ok-load_pool.pool.items c.in-Ok-finish.reached
finished-at g c =
    subst (λ (us : List Used). IsFinished (records_used us) (records_used c.in-Ok-head_records.found.items) c.add_parts.new.out c.in-Ok.space c.in-Ok-load_pool.pool.items c.in-Ok-finish.reached) c.deref-3.ensures.value
    (subst (λ (us : List Used). IsFinished (records_used c.deref-3.result.now) (records_used us) c.add_parts.new.out c.in-Ok.space c.in-Ok-load_pool.pool.items c.in-Ok-finish.reached) c.deref-4.ensures.value c.in-Ok-finish.ensures.done)

pub returns-in-Ok-finish-clause-clear : goal.returns-in-Ok-finish-clause-clear
returns-in-Ok-finish-clause-clear g c = λ image heads told h l.
    all-reached image c.args.cp.now heads c.args.volumes.now c.in_ok-parts.parts c.add_parts.new.out c.in-Ok-sweep_views.used.items c.in-Ok-head_records.found.items (maps_of c.args.cp.now c.args.volumes.now c.records.result.now) c.in-Ok.space c.in-Ok-load_pool.pool.items c.in-Ok-finish.reached
    (swept-at g c image heads told h l) (known-at g c image heads told h l) (finished-at g c)

pub returns-in-Ok-finish-clause-reads : goal.returns-in-Ok-finish-clause-reads
returns-in-Ok-finish-clause-reads g c = λ image heads told h l.
    let before = c.load_pool.ensures.kept.same_bytes ∙ (c.load_space.ensures.kept.same_bytes ∙ told) in
    let few : length c.add_parts.new.out.namings + length c.in-Ok-sweep_views.used.items < 2 ^ 64 = subst (λ (us : List Used). length c.add_parts.new.out.namings + length us < 2 ^ 64) c.deref-3.ensures.value c.in-Ok-finish.ensures.few in
    reads-within image c.args.cp.now heads c.args.volumes.now c.in_ok-parts.parts c.add_parts.new.out c.in-Ok-sweep_views.used.items c.in-Ok-head_records.found.items (maps_of c.args.cp.now c.args.volumes.now c.records.result.now) c.in-Ok.space c.in-Ok-load_pool.pool.items c.in-Ok-finish.reached
    (swept-at g c image heads told h l) (known-at g c image heads told h l) (finished-at g c) few _ _ _ _ _ (record {
      of_space = c.in-Ok.ensures.reads;
      of_pool = c.in-Ok-load_pool.ensures.reads;
      of_parts = c.in-Ok-add_parts.ensures.reads image before (c.in-Ok.ensures.clear image told);
      of_views = c.in-Ok-sweep_views.ensures.reads;
    })
