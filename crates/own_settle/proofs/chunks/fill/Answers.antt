use Rattle.std.proofs.Common.{◌≡◌, ◌+◌, ◌^◌, ◌||◌, true, get_or, ap, ap₂, sym, ◌∙◌, arith}
use Rattle.apfs_model.specs.Blocks.{is_in}
use Rattle.own_ledger.proofs.MarkLemmas.{in-below}
use Rattle.own_settle.proofs.OrderLemmas.{order-from, order-past, front-alike, back-alike, held-next}
use Rattle.own_settle.proofs.chunks.fill.Goals as goal

pub returns-then-first-end-clause-held : goal.returns-then-first-end-clause-held
returns-then-first-end-clause-held c = λ block one.
    let below = in-below block c.args.ledger.now.first c.args.ledger.now.blocks one in
    let v = c.each.invariant in
    let up = c.if-first-end.true in
    let end = c.requires.end in
    v.held block one
    ∙ front-alike (2 ^ 64) c.args.ranges.now c.each.place (get_or c.args.ranges.now c.each.place (0, 0)).0 block
    (order-from 0 (2 ^ 64) c.args.ranges.now c.each.place (0, 0) c.each-test.true c.requires.order) (omega arith)

pub returns-then-first-end-clause-left : goal.returns-then-first-end-clause-left
returns-then-first-end-clause-left c = λ block up. back-alike c.args.ranges.now c.each.place block (c.each.invariant.done block up)

pub returns-then-length-end-clause-held : goal.returns-then-length-end-clause-held
returns-then-length-end-clause-held c = λ block one.
    let below = in-below block c.args.ledger.now.first c.args.ledger.now.blocks one in
    let v = c.each.invariant in
    let begins = c.if-first-end.false in
    let goes = c.if-length-end.true in
    let end = c.requires.end in
    let here : is_in block c.each.ledger.first c.each.ledger.blocks ≡ true = ap₂ (λ a b. is_in block a b) v.first v.blocks ∙ one in
    let range = get_or c.args.ranges.now c.each.place (0, 0) in
    c.hold.ensures.held block here ∙ ap (λ b. b || is_in block range.0 range.1) (v.held block one)
    ∙ sym (held-next c.args.ranges.now c.each.place block c.each-test.true)
    ∙ front-alike (2 ^ 64) c.args.ranges.now (c.each.place + 1) (range.0 + range.1) block
    (order-past 0 (2 ^ 64) c.args.ranges.now c.each.place (0, 0) c.each-test.true c.requires.order) (omega arith)

pub returns-then-length-end-clause-left : goal.returns-then-length-end-clause-left
returns-then-length-end-clause-left c = λ block up. back-alike c.args.ranges.now c.each.place block (c.each.invariant.done block up)
