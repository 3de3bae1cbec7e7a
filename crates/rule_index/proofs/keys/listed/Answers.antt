use Rattle.std.proofs.Common.{◌≡◌, ◌∙◌, sym, ap, get_or, Vec, Global}
use Rattle.std.specs.Prelude.{count_by}
use Rattle.std.proofs.lemmas.List.{take_all}
use Rattle.rule_index.specs.declared.key.KeyRef.{KeyRef}
use Rattle.rule_index.specs.Keys.{Key, is_same_key, has_key, key_count}
use Rattle.rule_index.proofs.Counting.{counts-some, counts-none}
use Rattle.rule_index.proofs.keys.listed.Goals as goal
use Rattle.rule_index.proofs.keys.listed.Goals.{in-Some+in_ok-add, in_default}

pub loop-item-init : goal.loop-item-init
unfolding key_count
loop-item-init g c = λ q. ap (count_by (λ (k : Key). is_same_key k q)) c.new-keys.ensures.items

pub loop-item-preserved : goal.loop-item-preserved
loop-item-preserved g c =
    let key = g.B.KeyOf.key in
    let items = c.args.items.now in
    let i = c.loop-item.item-index in
    let d = c.item-item.result in
    let next : c.key.result ≡ key (get_or items i d) = c.key.ensures ∙ ap key c.item-item.is in
    λ q. elim c.match-key.branch [
      | in-Some+in_ok-add w ↦
          ap (λ (v : Vec KeyRef Global). key_count v.items q) w.keys-is
          ∙ counts-some is_same_key key items i d w.in-Some.key (key_count c.loop-item.keys.items) (key_count w.add.new.keys.items) c.loop-item-test.true (sym next ∙ w.in-Some.is) c.loop-item.invariant w.in_ok-add.ensures q
      | in_default w ↦
          ap (λ (v : Vec KeyRef Global). key_count v.items q) w.keys-is
          ∙ counts-none is_same_key key items i d (key_count c.loop-item.keys.items) c.loop-item-test.true (sym next ∙ w.in_default.is) c.loop-item.invariant q
    ]

pub returns : goal.returns
returns g c = λ q. c.loop-item.invariant q ∙ ap (count_by (has_key g.B.KeyOf.key q)) (take_all c.loop-item.item-index c.args.items.now c.loop-item-test.false)
