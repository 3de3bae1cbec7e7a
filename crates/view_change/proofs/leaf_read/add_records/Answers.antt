use Rattle.std.proofs.Common.{◌≡◌, ◌∙◌, sym, List, Bor}
use Rattle.std.specs.Prelude.{option_map}
use Rattle.bt_node.specs.Entries.{Pair, pair_of, pairs_of}
use Rattle.view_change.proofs.Joined.{added-none, added-more}
use Rattle.view_change.proofs.leaf_read.add_records.Goals as goal

pub records-init : goal.records-init
records-init g c = added-none c.args.facts.now

pub records-preserved : goal.records-preserved
records-preserved g c =
    let shape = g.K.TreeKey.shape in
    let said : Pair = record { key = c.entry.result.key_bytes.now; value = option_map (λ (v : Bor (List _)). v.now) c.entry.result.value } in
    let same : said ≡ pair_of shape c.args.node.now c.records.i = λ j. record { key = c.entry.ensures.key_bytes j; value = c.entry.ensures.value_bytes j } in
    added-more c.args.facts.now c.records.facts c.add_record.new.facts (pairs_of shape c.args.node.now) c.records.i said (pair_of shape c.args.node.now c.records.i) c.in_ok-add_record.field-0
    same c.entry.ensures.listed c.in_ok-add_record.ensures.facts c.in_ok-add_record.ensures.names c.in_ok-add_record.ensures.refused (sym c.is_some.ensures ∙ c.if-is_some.false) c.records.invariant
