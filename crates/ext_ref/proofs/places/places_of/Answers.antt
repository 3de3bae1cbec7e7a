use Rattle.std.proofs.Common.{◌≡◌, ◌<◌, ◌≤◌, ◌∙◌, ◌+◌, ℕ, get_or, ap, arith, subst}
use Rattle.std.specs.Prelude.{nat_le, nat_lt, ◌&&◌, true, false, ◌==◌}
use Rattle.std.specs.List.Sorted.{IsPartitionPoint}
use Rattle.apfs_model.proofs.BoolTests.{never-true, equal-from}
use Rattle.ext_ref.specs.References.{end_of}
use Rattle.ext_ref.specs.declared.covering.Span.{Span}
use Rattle.ext_ref.proofs.Sweeps.{meets-between, meets-none, meets-empty}
use Rattle.ext_ref.proofs.places.places_of.Goals as goal

pub returns-then-extent-eq0 : goal.returns-then-extent-eq0
returns-then-extent-eq0 c i none low = meets-none c.args.block_size (get_or c.args.spans.now i none) c.args.extent i c.if-extent-eq0.true

pub returns-then-end-from : goal.returns-then-end-from
returns-then-end-from c i none low =
    let few : end_of c.args.block_size c.args.extent.1 ≤ c.args.extent.1.block = omega (arith, c.if-end-from.true, c.end_of-end.ensures, c.from.ensures) in
    meets-empty c.args.block_size (get_or c.args.spans.now i none) c.args.extent i few

pub returns : goal.returns
returns c i none low =
    let some : (c.args.extent.1.block == 0) ≡ false = never-true (c.args.extent.1.block == 0) (λ t. c.if-extent-eq0.false (equal-from c.args.extent.1.block 0 t)) in
    let full : c.args.extent.1.block < end_of c.args.block_size c.args.extent.1 = omega (arith, c.if-end-from.false, c.end_of-end.ensures, c.from.ensures) in
    let begun = subst (λ (n : ℕ). IsPartitionPoint (λ (s : Span). nat_lt s.first n ≡ true) (λ (s : Span). nat_lt s.first n ≡ false) c.args.spans.now c.begun_before-high.result) c.end_of-end.ensures c.begun_before-high.ensures.split in
    ap (λ (n : ℕ). nat_le c.ended_by-low.result i && nat_lt i (c.ended_by-low.result + n)) c.saturating_sub.ensures
    ∙ meets-between c.args.block_size c.args.spans.now c.args.extent c.ended_by-low.result c.begun_before-high.result i none c.requires.rising low c.ended_by-low.ensures.split begun some full
