use Rattle.std.specs.Prelude.{count_by}
use Rattle.std.proofs.lemmas.List.{take_all}
use Rattle.std.proofs.Common.{◌≡◌, ◌==◌, ℕ, ◌∙◌, sym, ap, get_or, Vec, Global}
use Rattle.rule_index.specs.Ids.{has_id, count_in}
use Rattle.rule_index.proofs.Counting.{counts-some, counts-none}
use Rattle.rule_index.proofs.ids.listed.Goals as goal
use Rattle.rule_index.proofs.ids.listed.Goals.{in-Some+in_ok-add, in_default}

pub loop-item-preserved : goal.loop-item-preserved
loop-item-preserved g c =
    let id = g.B.IdOf.id in
    let items = c.args.items.now in
    let i = c.loop-item.item-index in
    let d = c.item-item.result in
    let next : c.id.result ≡ id (get_or items i d) = c.id.ensures ∙ ap id c.item-item.is in
    λ q. elim c.match-id.branch [
      | in-Some+in_ok-add w ↦
          ap (λ (v : Vec ℕ Global). count_in v.items q) w.ids-is
          ∙ counts-some (λ n m. n == m) id items i d w.in-Some.id (count_in c.loop-item.ids.items) (count_in w.add.new.ids.items) c.loop-item-test.true (sym next ∙ w.in-Some.is) c.loop-item.invariant w.in_ok-add.ensures q
      | in_default w ↦
          ap (λ (v : Vec ℕ Global). count_in v.items q) w.ids-is
          ∙ counts-none (λ n m. n == m) id items i d (count_in c.loop-item.ids.items) c.loop-item-test.true (sym next ∙ w.in_default.is) c.loop-item.invariant q
    ]

pub returns : goal.returns
returns g c = λ q. c.loop-item.invariant q ∙ ap (count_by (has_id g.B.IdOf.id q)) (take_all c.loop-item.item-index c.args.items.now c.loop-item-test.false)
