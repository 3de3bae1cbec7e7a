use Rattle.std.proofs.Common.{rules, ◌≡◌, ◌<◌, ◌∙◌, ℕ, List, true, length, ap, sym, arith}
use Rattle.std.specs.Prelude.{bytes_eq}
use Rattle.fs_record.specs.Entries.{Entry}
use Rattle.fs_record.specs.Facts.{Fact}
use Rattle.path_search.specs.Found.{has_name}
use Rattle.path_search.proofs.Chosen.{first_passing, none_passing}
use Rattle.path_search.proofs.choice.first_same.Goals as goal

pub returns-then-eq-clause-first : goal.returns-then-eq-clause-first
returns-then-eq-clause-first c =
    let low : c.loop-number.number < length c.args.entries.now = omega arith in
    sym (first_passing (has_name c.args.name.now) c.args.entries.now c.loop-number.number c.index-entries-number.result low (λ k less. c.loop-number.invariant k c.index-entries-number.result less)
    (let h : bytes_eq c.name.result.now c.args.name.now ≡ true = search rules in ap (λ (f : Fact Entry). bytes_eq f.what.name c.args.name.now) (sym c.index-entries-number.is) ∙ (ap (λ (n : List ℕ). bytes_eq n c.args.name.now) (sym c.name.ensures) ∙ h)))

pub returns-clause-first : goal.returns-clause-first
returns-clause-first c = sym (none_passing (has_name c.args.name.now) c.args.entries.now (λ k d less. c.loop-number.invariant k d (omega arith)))
