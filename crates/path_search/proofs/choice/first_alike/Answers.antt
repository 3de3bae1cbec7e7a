use Rattle.std.proofs.Common.{◌<◌, ◌∙◌, ℕ, List, length, ap, sym, arith}
use Rattle.fs_name.specs.Normal.{is_same_name}
use Rattle.fs_record.specs.Entries.{Entry}
use Rattle.fs_record.specs.Facts.{Fact}
use Rattle.path_search.specs.Found.{has_form}
use Rattle.path_search.proofs.Chosen.{first_passing, none_passing}
use Rattle.path_search.proofs.choice.first_alike.Goals as goal

pub returns-then-branch-clause-first : goal.returns-then-branch-clause-first
returns-then-branch-clause-first c =
    let low : c.loop-number.number < length c.args.entries.now = omega arith in
    sym (first_passing (has_form c.args.names c.args.name.now) c.args.entries.now c.loop-number.number c.index-entries-number.result low (λ k less. c.loop-number.invariant k c.index-entries-number.result less)
    (ap (λ (f : Fact Entry). is_same_name c.args.names f.what.name c.args.name.now) (sym c.index-entries-number.is) ∙ (ap (λ (n : List ℕ). is_same_name c.args.names n c.args.name.now) (sym c.name.ensures) ∙ (sym c.in_ok-same_name.ensures.value ∙ c.if-branch.true))))

pub returns-clause-first : goal.returns-clause-first
returns-clause-first c = sym (none_passing (has_form c.args.names c.args.name.now) c.args.entries.now (λ k d less. c.loop-number.invariant k d (omega arith)))
