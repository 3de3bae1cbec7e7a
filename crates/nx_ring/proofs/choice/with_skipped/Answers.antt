use Rattle.std.proofs.Common.{ℕ, List, [], ◌∷◌, ◌++◌, ap, sym, get_or, ◌∙◌, arith}
use Rattle.std.proofs.lemmas.List.{take_all}
use Rattle.nx_ring.specs.declared.line.RingLine.{RingLine}
use Rattle.nx_ring.specs.Newest.{skipped_of}
use Rattle.nx_ring.specs.Checkpoint.{Seen}
use Rattle.nx_ring.specs.Reading.{passing}
use Rattle.nx_ring.proofs.Read.{skipped_more}
use Rattle.nx_ring.proofs.choice.with_skipped.Goals as goal

pub each-init : goal.each-init
unfolding skipped_of
each-init c = c.new-passed.ensures.items

pub each-preserved : goal.each-preserved
each-preserved c =
    let none : RingLine = record { index = 0; block = 0; xid = 0; desc_index = 0; desc_len = 0 } in
    let one = skipped_of (get_or c.args.lines.now c.each.line-index none ∷ []) c.xid-xid.result in
    c.in_ok-add_skipped.ensures.added ∙ (ap (λ (xs : List (ℕ × ℕ)). xs ++ one) c.each.invariant ∙ sym (skipped_more c.args.lines.now c.xid-xid.result c.each.line-index none c.each-test.true))

pub returns-clause-found : goal.returns-clause-found
returns-clause-found c =
    let all = ap (λ (ls : List RingLine). skipped_of ls c.xid-xid.result) (take_all c.each.line-index c.args.lines.now (Prim.omega (arith, c.each-test.false))) in
    let skipped = c.each.invariant ∙ (all ∙ ap (skipped_of c.args.lines.now) c.xid-xid.ensures) in
    ap (λ (seen : Seen). passing seen c.each.passed.items) c.checkpoint.view_is ∙ ap (passing c.args.checkpoint) skipped
