use Rattle.std.proofs.Common.{◌≡◌, ◌<◌, ◌+◌, List, length, ap, arith}
use Rattle.ext_ref.specs.declared.covering.Span.{Span}
use Rattle.ext_ref.proofs.Sweeps.{found}
use Rattle.ext_ref.proofs.sweeping.Sweep.find.Goals as goal

pub returns : goal.returns
returns c block_size extents counts =
    let spans : List Span = c.args.self.now.spans.items in
    let span : Span = c.index-span.result.now in
    let first : span.first ≡ c.args.range.first = omega arith in
    let ends : c.span_of.result.end ≡ c.args.range.first + c.args.range.length = ap (λ (s : Span). s.end) c.span_of.ensures in
    let end : span.end ≡ c.args.range.first + c.args.range.length = omega (arith, ends) in
    let long : length c.deref.result.now ≡ length spans = ap (λ (ss : List Span). length ss) c.deref.ensures.value in
    let low : c.below-place.result < length spans = omega (arith, c.below-place.ensures.bound, long, c.len.ensures) in
    found block_size extents spans c.args.self.now.counts.items c.below-place.result c.args.range span c.index.result.now counts low c.index-span.ensures c.index.ensures first end
