use Rattle.std.proofs.Common.{◌∙◌, ap, sym}
use Rattle.std.specs.Prelude.{count_by}
use Rattle.view_rules.specs.Facts.{Facts}
use Rattle.rule_index.specs.Keys.{Key, is_same_key, key_count, linked_sibling}
use Rattle.rule_breaks.proofs.FellowLooks.{key-more, key-none}
use Rattle.rule_breaks.proofs.fellows.linked_keys.Goals.{in-Some+in_ok-add, in_default}
use Rattle.rule_breaks.proofs.fellows.linked_keys.Goals as goal

pub loop-e-init : goal.loop-e-init
unfolding key_count
loop-e-init c = λ q. ap (count_by (λ (k : Key). is_same_key k q)) c.new-linked.ensures.items

pub loop-e-preserved : goal.loop-e-preserved
loop-e-preserved c = λ q.
    let f = c.args.facts.now in
    let old = key_count c.loop-e.linked.items q in
    let same = c.deref-e-items.ensures.value ∙ ap (λ (f : Facts). f.entries) c.facts.view_is in
    elim c.match-linked_key.branch [
      | in-Some+in_ok-add w ↦
          ap (λ v. key_count v.items q) w.linked-is
          ∙ key-more (linked_sibling f) q f.entries c.deref-e-items.result.now c.loop-e.e-index c.e-item.result w.in-Some.key old (key_count w.add.new.keys.items q) same c.loop-e-test.true c.e-item.is (sym w.in-Some.is ∙ c.linked_key.ensures) (c.loop-e.invariant q) (w.in_ok-add.ensures q)
      | in_default w ↦
          ap (λ v. key_count v.items q) w.linked-is
          ∙ key-none (linked_sibling f) q f.entries c.deref-e-items.result.now c.loop-e.e-index c.e-item.result old same c.loop-e-test.true c.e-item.is (sym w.in_default.is ∙ c.linked_key.ensures) (c.loop-e.invariant q)
    ]
