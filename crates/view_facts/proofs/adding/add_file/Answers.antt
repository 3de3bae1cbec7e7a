use Rattle.std.proofs.Common.{◌≡◌, ◌∙◌, List, true, false, ap, sym, subst, OnOk, Bor}
use Rattle.std.specs.Prelude.{option_map}
use Rattle.bt_node.specs.Entries.{Pair}
use Rattle.bt_keys.specs.RecordKey.{record_kind_of}
use Rattle.view_rules.specs.Facts.{Facts}
use Rattle.view_facts.specs.Adding.{is_file_record}
use Rattle.view_facts.proofs.Adds.{file_with, other_with}
use Rattle.view_facts.proofs.adding.add_file.Goals as goal

pub returns-then-is_of_files-clause-facts : goal.returns-then-is_of_files-clause-facts
returns-then-is_of_files-clause-facts g c =
    let pair : Pair = record { key = c.args.pair.now.key_bytes.now; value = option_map (λ (v : Bor (List _)). v.now) c.args.pair.now.value } in
    let is = g.met.K.FsTreeKey.of_tree.reads c.args.pair.now.key_bytes.now c.args.pair.now.key c.requires.read in
    let file : is_file_record (record_kind_of pair.key) ≡ true = ap is_file_record (sym (c.kind-kind.ensures ∙ is.kind)) ∙ (sym c.is_of_files.ensures ∙ c.if-is_of_files.true) in
    subst (λ (f : Facts). OnOk c.add.result (c.add.new.facts ≡ f)) (file_with c.args.facts.now pair file) c.add.ensures.facts

pub returns-else-is_of_files-clause-facts : goal.returns-else-is_of_files-clause-facts
returns-else-is_of_files-clause-facts g c =
    let pair : Pair = record { key = c.args.pair.now.key_bytes.now; value = option_map (λ (v : Bor (List _)). v.now) c.args.pair.now.value } in
    let is = g.met.K.FsTreeKey.of_tree.reads c.args.pair.now.key_bytes.now c.args.pair.now.key c.requires.read in
    let other : is_file_record (record_kind_of pair.key) ≡ false = ap is_file_record (sym (c.kind-kind.ensures ∙ is.kind)) ∙ (sym c.is_of_files.ensures ∙ c.if-is_of_files.false) in
    other_with c.args.facts.now pair other
