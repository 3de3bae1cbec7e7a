use Rattle.std.proofs.Common.{◌-◌, ℕ, arith}
use Rattle.std.specs.Prelude.{count_by, nat_le}
use Rattle.ext_ref.proofs.Sweeps.{each-next, long-next}
use Rattle.ext_ref.proofs.sweeping.differences.Goals as goal

pub overflow_sub-begun : goal.overflow_sub-begun
overflow_sub-begun c = omega (arith, c.requires.fewer c.loop-place.place, c.begun_by-begun.ensures, c.ended_by-ended.ensures)

pub loop-place-preserved : goal.loop-place-preserved
loop-place-preserved c =
    let n : ℕ = c.begun_by-begun.result - c.ended_by-ended.result in
    record {
      long = long-next c.loop-place.counts.items c.push.new.self.items n c.loop-place.place c.loop-place.invariant.long c.in_ok-push.ensures.items;
      each = each-next c.loop-place.counts.items c.push.new.self.items (λ (i : ℕ). count_by (λ (m : ℕ). nat_le m i) c.args.firsts.now - count_by (λ (m : ℕ). nat_le m i) c.args.ends.now) n c.loop-place.place
          c.loop-place.invariant.long c.in_ok-push.ensures.items c.loop-place.invariant.each (λ j. c.begun_by-begun.ensures j - c.ended_by-ended.ensures j);
    }
