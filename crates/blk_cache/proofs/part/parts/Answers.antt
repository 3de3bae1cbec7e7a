use Rattle.std.proofs.Common.{◌≡◌, inl, inr, ℕ, ◌+◌, ◌-◌, ◌/◌, ◌≤◌, ◌<◌, true, length, subst, ap, ◌∙◌, arith}
use Rattle.apfs_model.specs.Counts.{Rose}
use Rattle.blk_cache.specs.Keeping.{keeps, Touches, last_touched, touched_count}
use Rattle.blk_cache.proofs.Keeps.{size_fits, grows_on, same_on, touches}
use Rattle.blk_cache.proofs.Ranges.{block_later}
use Rattle.blk_cache.proofs.part.parts.Goals as goal

later-rose : (old mid new : ℕ) → old ≤ mid → Rose mid new → Rose old new
later-rose old mid new later rose = omega arith

-- a step reads at most once, in a block that the read touches
once-at : (size at done len before mid after : ℕ) → 1 ≤ size → done < len → mid + at / size ≤ before + (at + done) / size → after ≤ mid + 1 → after ≤ before + touched_count size at len
once-at size at done len before mid after some low reads step =
    let first = block_later at (at + len - 1) size some (omega arith) in
    let last = block_later (at + done) (at + len - 1) size some (omega arith) in
    omega (arith, first, last, reads, step)

pub loop-done-preserved : goal.loop-done-preserved
loop-done-preserved g c =
    let before = c.loop-done.invariant in
    let after = c.in_ok-done.ensures in
    let size = c.args.store.now.size in
    record {
      bound = omega (arith, after.done, c.step.auto.into);
      cache = after.cache;
      kept = record {
        same_bytes = after.kept.same_bytes ∙ before.kept.same_bytes;
        same_size = after.kept.same_size ∙ before.kept.same_size;
        later = omega (arith, after.kept.later, before.kept.later);
      };
      grows = grows_on c.args.store.now c.loop-done.store c.step.new.store after.cache.fits before.grows after.grows;
      found = λ image told. after.found image (before.kept.same_bytes ∙ told) (before.found image told);
      last = λ all. elim (after.last (omega (arith, all, c.step.auto.into))) [
        | inl kept ↦ inl (subst (λ (n : ℕ). keeps c.step.new.store (last_touched n c.args.at c.in_ok-done.done) ≡ true) before.grows.same_size kept)
        | inr lost ↦ inr (later-rose c.args.store.now.lost c.loop-done.store.lost c.step.new.store.lost before.grows.lost_later lost)
      ];
      served = λ all.
          let (reads, same) = before.served (λ block touched. all block (touched.0, omega (arith, touched.1, c.step.auto.into))) in
          let block = (c.args.at + c.loop-done.done) / c.loop-done.store.size in
          let at_mid = touches c.loop-done.store.size c.args.at c.loop-done.done (length c.step.new.into) (size_fits c.loop-done.store.size before.cache.accepted).0 (omega (arith, c.loop-done-test.true, c.step.auto.into)) in
          let touched : Touches size c.args.at (length c.step.new.into) block = subst (λ (n : ℕ). Touches n c.args.at (length c.step.new.into) block) before.grows.same_size at_mid in
          let step = after.served (same.same_blocks block ∙ all block touched) in
          (step.0 ∙ reads, same_on c.args.store.now c.loop-done.store c.step.new.store same step.1);
      onward = λ low.
          let moved = subst (λ (n : ℕ). (c.args.at + c.loop-done.done) / n + 1 ≤ (c.args.at + c.in_ok-done.done) / n) before.grows.same_size (after.onward (omega (arith, low, c.step.auto.into))) in
          omega (arith, moved, after.reads, before.onward (omega (arith, c.loop-done-test.true)));
      at_end = λ high. once-at size c.args.at c.loop-done.done (length c.step.new.into) (g.S.BlockSource.reads c.args.inner.now) (g.S.BlockSource.reads c.loop-done.inner) (g.S.BlockSource.reads c.step.new.inner)
          (size_fits size c.requires.cache.accepted).0 (omega (arith, c.loop-done-test.true, c.step.auto.into)) (before.onward (omega (arith, c.loop-done-test.true))) after.reads;
    }

pub returns-clause-once_each : goal.returns-clause-once_each
returns-clause-once_each g c =
    let same = ap (λ (n : ℕ). touched_count c.args.store.now.size c.args.at n) c.loop-done.auto.into in
    omega (arith, same, c.loop-done.invariant.at_end (omega (arith, c.loop-done-test.false)))
