use Rattle.std.proofs.Common.{ℕ, ◌+◌, ◌-◌, ◌^◌, ◌<◌, Vec, Global, refl, sym, ◌∙◌, subst, arith}
use Rattle.piece_count.specs.Covered.{covered_by}
use Rattle.piece_count.specs.declared.tally.Tally.{Tally}
use Rattle.piece_count.proofs.Splits.{IsSplitting, split-start, split-shared, split-lone, split-done}
use Rattle.piece_count.proofs.lone.divide.Goals as goal
use Rattle.piece_count.proofs.lone.divide.Goals.{then-is_lone, else-is_lone}

pub pieces-init : goal.pieces-init
pieces-init c = split-start c.args.blocks c.args.views c.args.sets.now c.args.pieces.now c.in_ok-tally.tally _ (c.in_ok-tally.ensures.tally c.args.blocks) c.in_ok-tally.ensures.at (c.in_ok-lone.ensures.items_if_clones_equal (λ y e. e))

pub settle-requires : goal.settle-requires
settle-requires c =
    let h = c.pieces.invariant.tally in
    let low = h.top.top_low in
    let many = h.many in
    omega (arith, low, many)

pub settle-requires-2 : goal.settle-requires-2
settle-requires-2 c =
    let h = c.pieces.invariant.tally in
    let low = h.top.top_low in
    let many = h.many in
    omega (arith, low, many)

pub add_runs-requires-clause-counted : goal.add_runs-requires-clause-counted
add_runs-requires-clause-counted c =
    let few : c.args.blocks < 2 ^ 64 = omega arith in
    let first = c.min-first.ensures in
    let turn = c.pieces.invariant.turn c.pieces-test.true in
    let h = c.settle.ensures.settled c.args.blocks c.args.views _ few (omega (arith, first)) (omega (arith, first, turn)) c.pieces.invariant.tally in
    let many = h.many in
    omega (arith, many)

pub add_runs-requires-clause-reached : goal.add_runs-requires-clause-reached
add_runs-requires-clause-reached c =
    let few : c.args.blocks < 2 ^ 64 = omega arith in
    let first = c.min-first.ensures in
    let turn = c.pieces.invariant.turn c.pieces-test.true in
    let h = c.settle.ensures.settled c.args.blocks c.args.views _ few (omega (arith, first)) (omega (arith, first, turn)) c.pieces.invariant.tally in
    let many = h.top.reaches in
    omega (arith, many)

pub pieces-preserved : goal.pieces-preserved
pieces-preserved c =
    let blocks = c.args.blocks in
    let views = c.args.views in
    let sets = c.args.sets.now in
    let pieces = c.args.pieces.now in
    let i = c.pieces.i in
    let had = c.pieces.invariant in
    let few : blocks < 2 ^ 64 = omega arith in
    let first = c.min-first.ensures in
    let end = c.min-end.ensures in
    let turn = had.turn c.pieces-test.true in
    let reach = c.max-reach.result in
    let more = split-lone blocks views sets pieces i c.pieces.tally c.pieces.lone.items c.pieces.high c.min-first.result c.min-end.result reach c.pieces-test.true c.requires.sorted first end c.max-reach.ensures had in
    let shared = split-shared blocks views sets pieces i c.pieces.tally c.pieces.lone.items c.pieces.high c.min-first.result c.min-end.result reach c.pieces-test.true c.requires.sorted first end c.max-reach.ensures had in
    elim c.if-is_lone.branch as (λ _. IsSplitting blocks views sets pieces (i + 1) c.if-is_lone.tally c.if-is_lone.lone.items reach) [
      | then-is_lone w ↦
          subst (λ (t : Tally). IsSplitting blocks views sets pieces (i + 1) t c.if-is_lone.lone.items reach) (sym w.tally-is)
          (subst (λ (v : Vec ℕ Global). IsSplitting blocks views sets pieces (i + 1) c.pieces.tally v.items reach) (sym w.lone-is)
          (more w.add_lone.new.lone.items w.saturating_sub.result few (w.if-is_lone.ensures.first refl) (w.if-is_lone.ensures.next refl) w.saturating_sub.ensures w.add_lone.ensures))
      | else-is_lone w ↦
          subst (λ (t : Tally). IsSplitting blocks views sets pieces (i + 1) t c.if-is_lone.lone.items reach) (sym w.tally-is)
          (subst (λ (v : Vec ℕ Global). IsSplitting blocks views sets pieces (i + 1) w.add_runs.new.tally v.items reach) (sym w.lone-is)
          (shared w.add_runs.new.tally w.runs_of.result.now w.runs_of.ensures
          (w.add_runs.ensures.added blocks (covered_by sets had.rest) few (omega (arith, end)) w.settle.ensures.at (w.settle.ensures.settled blocks views (covered_by sets had.rest) few (omega (arith, first)) (omega (arith, first, turn)) had.tally))
          (w.add_runs.ensures.at ∙ w.settle.ensures.at)))
    ]

pub returns : goal.returns
returns c =
    let blocks = c.args.blocks in
    let few : blocks < 2 ^ 64 = omega arith in
    let h = c.pieces.invariant in
    let low = h.tally.low in
    split-done blocks c.args.views c.args.sets.now c.args.pieces.now c.pieces.i c.pieces.tally c.settle-2.new.self c.pieces.lone.items c.pieces.high _ c.pieces-test.false h
    (c.settle-2.ensures.settled blocks c.args.views (covered_by c.args.sets.now h.rest) few (omega arith) low h.tally) c.settle-2.ensures.at refl refl
