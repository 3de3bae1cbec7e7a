use Rattle.std.proofs.Common.{sym, subst}
use Rattle.own_ledger.specs.Held.{IsEmpty}
use Rattle.own_ledger.specs.Inside.{IsSound}
use Rattle.own_ledger.proofs.MarkLemmas.{ledger_of, new-empty, new-sound}
use Rattle.own_ledger.proofs.held.Ledger.new.Goals as goal

pub invariant_of-result : goal.invariant_of-result
invariant_of-result c =
    subst (IsSound c.args.first c.args.blocks) (sym (c.in-Ok.ensures.items_if_clones_equal (λ y same. same))) (new-sound c.args.first c.args.blocks c.div_ceil.result c.requires c.div_ceil.ensures)

pub returns-in-Ok : goal.returns-in-Ok
returns-in-Ok c =
    subst (λ bits. IsEmpty (ledger_of c.args.first c.args.blocks bits) c.args.first c.args.blocks) (sym (c.in-Ok.ensures.items_if_clones_equal (λ y same. same)))
    (new-empty c.args.first c.args.blocks c.div_ceil.result)
