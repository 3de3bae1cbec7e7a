use Rattle.std.proofs.Common.{List, [], ◌∷◌, ◌++◌, cond, take, ap, sym, ◌∙◌}
use Rattle.std.specs.Prelude.{filter}
use Rattle.std.proofs.lemmas.List.{take_all}
use Rattle.std.proofs.lemmas.List.Elements.{filter_more}
use Rattle.fs_record.specs.Entries.{Entry}
use Rattle.fs_record.specs.Facts.{Fact}
use Rattle.view_rules.specs.Siblings.{is_twin}
use Rattle.rule_index.proofs.twins.listed.Goals as goal

pub loop-e-preserved : goal.loop-e-preserved
loop-e-preserved c =
    let entries : List (Fact Entry) = c.args.entries.now in
    let i = c.loop-e.e-index in
    let d : Fact Entry = c.e-item.result in
    c.in_ok-add.ensures
    ∙ (ap (λ (es : List (Fact Entry)). es ++ cond (is_twin d) (d ∷ []) []) c.loop-e.invariant
    ∙ (ap (λ (e : Fact Entry). filter is_twin (take i entries) ++ cond (is_twin e) (e ∷ []) []) c.e-item.is ∙ sym (filter_more is_twin entries i d c.loop-e-test.true)))

pub returns : goal.returns
returns c = c.loop-e.invariant ∙ ap (filter is_twin) (take_all c.loop-e.e-index c.args.entries.now c.loop-e-test.false)
