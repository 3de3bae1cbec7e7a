use Rattle.std.proofs.Common.{◌≡◌, ◌-◌, true, ap, sym, subst, ◌∙◌}
use Rattle.apfs_model.specs.Bytes.{bit_at}
use Rattle.own_ledger.specs.Held.{holds, lies_in}
use Rattle.own_ledger.proofs.MarkLemmas.{holds-covered, holds-uncovered}
use Rattle.own_ledger.proofs.held.Ledger.holds.Goals as goal

pub returns-then-not-covers : goal.returns-then-not-covers
returns-then-not-covers c = holds-uncovered c.args.self.now c.args.block (sym c.if-not-covers.ensures)

pub returns : goal.returns
returns c =
    let s = c.self.inside in
    let inside = sym (subst (λ v. true ≡ lies_in v c.args.block 1) (sym c.self.view_is) c.if-not-covers.ensures) in
    c.is_set.ensures ∙ ap (λ bits. bit_at bits (c.args.block - s.first)) c.deref.ensures.value
    ∙ holds-covered s.first s.blocks s.bits.items c.args.block inside ∙ ap (λ v. holds v c.args.block) c.self.view_is
