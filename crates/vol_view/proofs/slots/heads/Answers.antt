use Rattle.std.proofs.Common.{◌≡◌, ◌∙◌, ◌<◌, ◌++◌, ℕ, length, length-append, sym, ap, subst, arith, below_more, option_to_list}
use Rattle.nx_block.specs.Super.{slots}
use Rattle.apfs_model.specs.Lists.{In}
use Rattle.nx_ring.specs.Checkpoint.{site_of}
use Rattle.vol_view.specs.Heads.{heads_in, heads_of}
use Rattle.vol_view.specs.Placed.{IsPlaced}
use Rattle.vol_view.specs.ReadBound.{heads_reads}
use Rattle.vol_view.specs.Slots.{IsRight}
use Rattle.vol_view.specs.Stops.{IsHeadsStop, IsHeadsFeature}
use Rattle.obj_base.specs.Stops.{Tells, IsFree}
use Rattle.vol_view.proofs.SlotsLemmas.{slot-tells, slot-found, map-plain, heads-more, right-free}
use Rattle.vol_view.proofs.Placed.{each-more}
use Rattle.vol_view.proofs.slots.heads.Goals as goal

pub returns-in-Err-volume_in-clause-present : goal.returns-in-Err-volume_in-clause-present
returns-in-Err-volume_in-clause-present g c image told =
    let low : c.slots.slot < slots = omega arith in
    slot-tells image c.args.cp.now c.in-Ok.omap c.slots.slot c.in-Err-volume_in.stop (c.in-Ok.ensures.clear image told) low
    (c.in-Err-volume_in.ensures.found image (c.slots.invariant.kept.same_bytes ∙ told))

pub slots-preserved : goal.slots-preserved
slots-preserved g c =
    let seen = c.args.cp.now in
    let slot = c.slots.slot in
    let head = c.in-Ok-volume_in.head in
    let low : slot < slots = omega arith in
    record {
      found = λ image told.
          let one = slot-found image seen c.in-Ok.omap slot head (c.in-Ok.ensures.clear image told) low (c.in-Ok-volume_in.ensures.found image (c.slots.invariant.kept.same_bytes ∙ told)) in
          c.in-Ok-add.ensures.more
          ∙ (ap (λ xs. xs ++ option_to_list head) (c.slots.invariant.found image told)
          ∙ (ap (λ h. heads_in image seen slot ++ option_to_list h) one.0 ∙ sym (heads-more image seen slot)));
      right = λ image told.
          let one = slot-found image seen c.in-Ok.omap slot head (c.in-Ok.ensures.clear image told) low (c.in-Ok-volume_in.ensures.found image (c.slots.invariant.kept.same_bytes ∙ told)) in
          below_more (λ (k : ℕ). IsRight image seen k) slot (c.slots.invariant.right image told) one.1;
      placed = each-more (IsPlaced (site_of seen)) c.slots.heads.items head _ c.in-Ok-add.ensures.more c.slots.invariant.placed c.in-Ok-volume_in.ensures.placed;
      reads = λ image told.
          omega (arith, c.slots.invariant.reads image told, c.in-Ok-volume_in.ensures.reads, ap length c.in-Ok-add.ensures.more, length-append c.slots.heads.items (option_to_list head));
      kept = record {
        same_bytes = c.in-Ok-volume_in.ensures.kept.same_bytes ∙ c.slots.invariant.kept.same_bytes;
        same_size = c.in-Ok-volume_in.ensures.kept.same_size ∙ c.slots.invariant.kept.same_size;
        later = omega (arith, c.in-Ok-volume_in.ensures.kept.later, c.slots.invariant.kept.later);
      };
    }

pub returns-clause-clear : goal.returns-clause-clear
unfolding heads_of
returns-clause-clear g c image told =
    let seen = c.args.cp.now in
    let end : c.slots.slot ≡ slots = omega arith in
    record {
      right = record {
        map = map-plain image seen c.in-Ok.omap (c.in-Ok.ensures.clear image told);
        volumes = λ k low some. c.slots.invariant.right image told k (omega (arith, end)) some;
      };
      same = c.slots.invariant.found image told ∙ ap (heads_in image seen) end;
    }

pub returns-clause-reads : goal.returns-clause-reads
unfolding heads_reads
returns-clause-reads g c image told = c.slots.invariant.reads image told

pub returns-clause-each : goal.returns-clause-each
unfolding heads_of
returns-clause-each g c head one =
    let seen = c.args.cp.now in
    let end : c.slots.slot ≡ slots = omega arith in
    record {
      placed = c.slots.invariant.placed head one;
      one = λ image told. subst (In head) (c.slots.invariant.found image told ∙ ap (heads_in image seen) end) one;
    }

pub returns-in-Err-clause-exact : goal.returns-in-Err-clause-exact
returns-in-Err-clause-exact g c image told right = right-free image c.args.cp.now c.in-Err.stop right (c.in-Err.ensures.present image told)

pub returns-in-Err-volume_in-clause-exact : goal.returns-in-Err-volume_in-clause-exact
returns-in-Err-volume_in-clause-exact g c image told right = right-free image c.args.cp.now c.in-Err-volume_in.stop right (returns-in-Err-volume_in-clause-present g c image told)

pub returns-in-Err-volume_in-clause-clear : goal.returns-in-Err-volume_in-clause-clear
returns-in-Err-volume_in-clause-clear g c image told = tt

pub returns-in-Err-volume_in-clause-each : goal.returns-in-Err-volume_in-clause-each
returns-in-Err-volume_in-clause-each g c = tt

pub returns-in-Err-volume_in-clause-reads : goal.returns-in-Err-volume_in-clause-reads
returns-in-Err-volume_in-clause-reads g c image told = tt

pub returns-clause-present : goal.returns-clause-present
returns-clause-present g c image told = tt

pub returns-clause-exact : goal.returns-clause-exact
returns-clause-exact g c image told right = tt

pub returns-in-Err-add-clause-clear : goal.returns-in-Err-add-clause-clear
returns-in-Err-add-clause-clear g c image told = tt

pub returns-in-Err-add-clause-each : goal.returns-in-Err-add-clause-each
returns-in-Err-add-clause-each g c = tt

pub returns-in-Err-add-clause-reads : goal.returns-in-Err-add-clause-reads
returns-in-Err-add-clause-reads g c image told = tt

pub returns-in-Err-add-clause-present : goal.returns-in-Err-add-clause-present
returns-in-Err-add-clause-present g c image told = subst (Tells (IsHeadsStop image c.args.cp.now) (IsHeadsFeature image c.args.cp.now)) (sym c.in-Err-add.ensures.memory_only) tt

pub returns-in-Err-add-clause-exact : goal.returns-in-Err-add-clause-exact
returns-in-Err-add-clause-exact g c image told right = subst IsFree (sym c.in-Err-add.ensures.memory_only) tt
