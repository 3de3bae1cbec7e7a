use Rattle.std.proofs.Common.{◌≡◌, ◌+◌, ◌^◌, ◌<◌, ◌≤◌, get_or, refl, arith}
use Rattle.piece_count.specs.Tally.{grown_set}
use Rattle.piece_count.proofs.Splits.{laid-none, laid-fits, laid-more, laid-all}
use Rattle.piece_count.proofs.lone.count_lone.Goals as goal

pub sets-init : goal.sets-init
sets-init c = laid-none c.args.blocks c.args.views c.args.sets.now c.args.lone.now c.in_ok-tally.tally (c.in_ok-tally.ensures.tally c.args.blocks) c.in_ok-tally.ensures.at

pub add_runs-requires-clause-counted : goal.add_runs-requires-clause-counted
add_runs-requires-clause-counted c = let h = c.sets.invariant.tally in let many = h.many in omega (arith, many)

pub add_runs-requires-clause-reached : goal.add_runs-requires-clause-reached
add_runs-requires-clause-reached c = let h = c.sets.invariant.tally in let many = h.top.reaches in omega (arith, many)

pub settle-requires : goal.settle-requires
settle-requires c =
    let blocks = c.args.blocks in
    let had = c.sets.invariant in
    let few : blocks < 2 ^ 64 = omega arith in
    let fits = laid-fits blocks c.args.views c.args.sets.now c.args.lone.now c.sets.i c.sets.tally c.requires.long c.sets-test.true c.requires.few had in
    let end = c.saturating_add-end.ensures in
    let h = c.add_runs.ensures.added blocks had.has few (omega (arith, end, fits)) refl had.tally in
    let low = h.top.top_low in
    let many = h.many in
    omega (arith, low, many)

pub settle-requires-2 : goal.settle-requires-2
settle-requires-2 c =
    let h = c.sets.invariant.tally in
    let low = h.top.top_low in
    let many = h.many in
    omega (arith, low, many)

pub sets-preserved : goal.sets-preserved
sets-preserved c =
    let blocks = c.args.blocks in
    let had = c.sets.invariant in
    let few : blocks < 2 ^ 64 = omega arith in
    let fits = laid-fits blocks c.args.views c.args.sets.now c.args.lone.now c.sets.i c.sets.tally c.requires.long c.sets-test.true c.requires.few had in
    let end = c.saturating_add-end.ensures in
    let end_is : c.saturating_add-end.result ≡ c.sets.tally.at + get_or c.args.lone.now c.sets.i 0 = omega (arith, end, fits, few) in
    let low : c.saturating_add-end.result ≤ blocks = omega (arith, end_is, fits) in
    let at = c.add_runs.ensures.at in
    let h = c.add_runs.ensures.added blocks had.has few low refl had.tally in
    laid-more blocks c.args.views c.args.sets.now c.args.lone.now c.sets.i c.sets.tally c.settle.new.self c.runs_of.result.now c.saturating_add-end.result c.requires.long c.sets-test.true fits end_is c.runs_of.ensures had
    (c.settle.ensures.settled blocks c.args.views (grown_set had.has c.runs_of.result.now c.sets.tally.at c.saturating_add-end.result) few low (omega (arith, at, end_is)) h) c.settle.ensures.at

pub returns : goal.returns
returns c =
    let blocks = c.args.blocks in
    let few : blocks < 2 ^ 64 = omega arith in
    let h = c.sets.invariant in
    laid-all blocks c.args.views c.args.sets.now c.args.lone.now c.sets.i c.sets.tally c.settle-2.new.self c.requires.long c.sets-test.false h (c.settle-2.ensures.settled blocks c.args.views h.has few (omega arith) h.tally.low h.tally) c.settle-2.ensures.at
