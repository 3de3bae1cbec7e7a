use Rattle.std.proofs.Common.{◌≡◌, ◌-◌, arith, ap, ◌∙◌}
use Rattle.std.specs.List.{slice_get}
use Rattle.file_extent.proofs.Searches.{part-covered, part-uncovered, part-first}
use Rattle.file_extent.proofs.search.part_at.Goals as goal

pub returns-then-n-eq0 : goal.returns-then-n-eq0
returns-then-n-eq0 c = record {
  part = part-first c.args.extents.now c.args.i (c.start_of-next.result - c.args.i) c.requires.rising
      (omega (arith, c.start_of-next.ensures.later))
      (λ f q.
      let start : c.start_of-next.result ≡ f.logical = c.start_of-next.ensures.start f (ap (slice_get c.args.extents.now) (let e : c.begun-n.result ≡ 0 = omega arith in e) ∙ q) in
      omega (arith, start, c.start_of-next.ensures.later));
}

pub returns-then-i-extent : goal.returns-then-i-extent
returns-then-i-extent c = record {
  part = part-covered c.args.extents.now (c.begun-n.result - 1) c.begun-n.result c.args.i (c.last_begun-extent.result.length - (c.args.i - c.last_begun-extent.result.logical)) c.last_begun-extent.result
      c.requires.rising c.last_begun-extent.ensures.at (omega arith) c.last_begun-extent.ensures.begun
      (omega arith) (omega (arith, c.last_begun-extent.ensures.begun));
}

pub returns : goal.returns
returns c = record {
  part = part-uncovered c.args.extents.now (c.begun-n.result - 1) c.begun-n.result c.args.i (c.start_of-next.result - c.args.i) c.last_begun-extent.result
      c.requires.rising c.last_begun-extent.ensures.at (omega arith) c.last_begun-extent.ensures.begun
      (omega (arith, c.last_begun-extent.ensures.begun))
      (omega (arith, c.start_of-next.ensures.later))
      (λ f q.
      let start : c.start_of-next.result ≡ f.logical = c.start_of-next.ensures.start f q in
      omega (arith, start, c.start_of-next.ensures.later));
}
