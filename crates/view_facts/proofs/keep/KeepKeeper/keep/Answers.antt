use Rattle.std.proofs.Common.{◌≡◌, sym, subst, ◌∷◌, [], ◌++◌, Option, arith}
use Rattle.std.specs.Prelude.{option_map}
use Rattle.bt_cursor.specs.Gathered.{shown}
use Rattle.view_facts.specs.Kept.{IsKeptOf}
use Rattle.view_facts.specs.declared.keep.Refusal.{Refusal}
use Rattle.view_facts.proofs.Keeping.{kept-leaf, kept-inner}
use Rattle.view_facts.proofs.keep.KeepKeeper.keep.Goals as goal

pub returns-then-item-gt0-clause-held : goal.returns-then-item-gt0-clause-held
returns-then-item-gt0-clause-held g c line had kept =
    let item = shown c.args.item.node c.args.item.at c.args.item.level c.args.item.pair.key_bytes.now (option_map (λ value. value.now) c.args.item.pair.value) in
    kept-inner g.W.Scope.FILES c.args.self.now.facts c.args.self.now.items c.saturating_add-self.result c.args.self.now.records c.args.self.now.refusal line item c.if-item-gt0.true had c.saturating_add-self.ensures

pub returns-clause-held : goal.returns-clause-held
returns-clause-held g c line had kept =
    let item = shown c.args.item.node c.args.item.at c.args.item.level c.args.item.pair.key_bytes.now (option_map (λ value. value.now) c.args.item.pair.value) in
    let leaf : c.args.item.level ≡ 0 = omega (arith, c.if-item-gt0.false) in
    subst (λ (o : Option Refusal). IsKeptOf g.W.Scope.FILES c.add_kept.new.facts c.saturating_add-self.result c.saturating_add-self-2.result o (line ++ item ∷ [])) (sym c.noted-self.ensures)
    (kept-leaf g.W.Scope.FILES c.args.self.now.facts c.add_kept.new.facts c.args.self.now.items c.saturating_add-self.result c.args.self.now.records c.saturating_add-self-2.result c.args.self.now.refusal c.in_ok-why.why line item leaf had
    c.in_ok-why.ensures.facts c.saturating_add-self.ensures c.saturating_add-self-2.ensures c.in_ok-why.ensures.refused)
