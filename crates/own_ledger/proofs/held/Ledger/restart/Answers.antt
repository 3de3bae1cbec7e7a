use Rattle.std.proofs.Common.{◌≡◌, replicate, vec_len, ap, sym, subst, arith}
use Rattle.own_ledger.specs.Held.{HeldBlocks, IsEmpty}
use Rattle.own_ledger.specs.Inside.{IsSound}
use Rattle.own_ledger.proofs.MarkLemmas.{ledger_of, new-empty, new-sound}
use Rattle.own_ledger.proofs.held.Ledger.restart.Goals as goal

pub invariant_of-self : goal.invariant_of-self
invariant_of-self c =
    let s = c.self.inside in
    let long = c.self.invariant.long in
    let had : s.blocks ≡ c.args.self.now.blocks = ap (λ (v : HeldBlocks). v.blocks) c.self.view_is in
    let zeros : c.fill.new.self.items ≡ replicate (vec_len s.bits) 0 = c.fill.ensures.items (λ y same. same) in
    subst (IsSound c.args.first s.blocks) (sym zeros) (new-sound c.args.first s.blocks (vec_len s.bits) (omega arith) (omega arith))

pub returns : goal.returns
returns c =
    let s = c.self.inside in
    let zeros : c.fill.new.self.items ≡ replicate (vec_len s.bits) 0 = c.fill.ensures.items (λ y same. same) in
    subst (λ blocks. IsEmpty (ledger_of c.args.first s.blocks c.fill.new.self.items) c.args.first blocks) (ap (λ (v : HeldBlocks). v.blocks) c.self.view_is)
    (subst (λ bits. IsEmpty (ledger_of c.args.first s.blocks bits) c.args.first s.blocks) (sym zeros) (new-empty c.args.first s.blocks (vec_len s.bits)))
