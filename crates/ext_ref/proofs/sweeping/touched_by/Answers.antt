use Rattle.std.proofs.Common.{◌∙◌, ◌+◌, ◌≤◌, ℕ, Bool, List, get_or, length, take, cond, ap, sym, arith}
use Rattle.std.specs.Prelude.{filter, count_by}
use Rattle.std.specs.List.{list_any}
use Rattle.std.proofs.lemmas.List.{take_all}
use Rattle.fs_record.specs.declared.extents.FileExt.{FileExt}
use Rattle.ext_ref.specs.Sweep.{meets, is_of}
use Rattle.ext_ref.proofs.Sweeps.{count-next}
use Rattle.ext_ref.proofs.sweeping.touched_by.Goals as goal

pub loop-id-preserved : goal.loop-id-preserved
loop-id-preserved c = record {
  proper = c.in_ok-add_stream.ensures.proper c.loop-id.invariant.proper;
  counts = λ i none low.
      let m : ℕ × FileExt → Bool = meets c.args.block_size (get_or c.args.spans.now i none) in
      let p : ℕ → Bool = λ id. list_any m (filter (is_of id) c.args.extents.now) in
      let k : ℕ = c.loop-id.id-index in
      c.in_ok-add_stream.ensures.counts i none low
      ∙ (ap (λ (n : ℕ). n + cond (list_any m c.of_stream-own.result.now) 1 0) (c.loop-id.invariant.counts i none low)
      ∙ (ap (λ (xs : List (ℕ × FileExt)). count_by p (take k c.args.ids.now) + cond (list_any m xs) 1 0) c.of_stream-own.ensures
      ∙ sym (count-next p c.args.ids.now k 0 c.loop-id-test.true)));
}

pub returns-clause-counts : goal.returns-clause-counts
returns-clause-counts c i none low =
    let m : ℕ × FileExt → Bool = meets c.args.block_size (get_or c.args.spans.now i none) in
    let p : ℕ → Bool = λ id. list_any m (filter (is_of id) c.args.extents.now) in
    let end : length c.args.ids.now ≤ c.loop-id.id-index = omega arith in
    c.loop-id.invariant.counts i none low ∙ ap (λ (ids : List ℕ). count_by p ids) (take_all c.loop-id.id-index c.args.ids.now end)
