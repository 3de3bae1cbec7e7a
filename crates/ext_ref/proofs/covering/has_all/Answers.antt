use Rattle.std.proofs.Common.{arith, length, get_or, ◌≡◌, ◌<◌, ◌+◌, ◌-◌, ◌∙◌, ℕ, true, false, sym, subst, ap}
use Rattle.std.specs.Prelude.{nat_le}
use Rattle.std.specs.List.Sorted.{IsPartitionPoint}
use Rattle.ext_ref.specs.declared.covering.Span.{Span}
use Rattle.ext_ref.proofs.Spans.{none-spanned, last-spanned}
use Rattle.ext_ref.proofs.covering.has_all.Goals as goal

pub returns-then-by-eq0 : goal.returns-then-by-eq0
returns-then-by-eq0 c =
    sym (none-spanned c.args.spans.now c.args.first c.args.length (omega arith)
    (subst (λ (n : ℕ). IsPartitionPoint (λ (s : Span). nat_le s.first c.args.first ≡ true) (λ (s : Span). nat_le s.first c.args.first ≡ false) c.args.spans.now n) c.if-by-eq0.true c.count_by-by.ensures.split))

pub returns : goal.returns
returns c =
    let by = c.count_by-by.result in
    let none : Span = record { first = 0; end = 0 } in
    let back : by ≡ (by - 1) + 1 = omega arith in
    let bound : by - 1 < length c.args.spans.now = omega arith in
    ap (λ (n : ℕ). nat_le (n + c.from-2.result) (get_or c.args.spans.now (by - 1) none).end) c.from.ensures
    ∙ (ap (λ (n : ℕ). nat_le (c.args.first + n) (get_or c.args.spans.now (by - 1) none).end) c.from-2.ensures
    ∙ last-spanned c.args.spans.now c.args.first c.args.length (by - 1) none c.requires (omega arith) bound
    (subst (λ (n : ℕ). IsPartitionPoint (λ (s : Span). nat_le s.first c.args.first ≡ true) (λ (s : Span). nat_le s.first c.args.first ≡ false) c.args.spans.now n) back c.count_by-by.ensures.split))
