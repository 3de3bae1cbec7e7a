use Rattle.std.proofs.Common.{subst}
use Rattle.std.proofs.lemmas.Result.{on_ok_weaker}
use Rattle.img_plan.specs.Files.{IsLink}
use Rattle.img_plan.proofs.FilesSteps.{linked}
use Rattle.img_plan.proofs.files.FileTree.link.Goals as goal

pub returns-clause-adds : goal.returns-clause-adds
returns-clause-adds c = λ short.
    let file = c.args.file in
    let sibling = c.args.sibling in
    let directory = c.args.directory in
    let link = c.in_ok-sibling_link.field-0 in
    let map = c.in_ok-sibling_map.field-0 in
    let given : IsLink file sibling directory c.as_bytes.result.now link = record { key = c.in_ok-sibling_link.ensures.key; value = c.in_ok-sibling_link.ensures.value } in
    let is_link : IsLink file sibling directory c.args.name.now link = subst (λ n. IsLink file sibling directory n link) c.as_bytes.ensures.value given in
    on_ok_weaker c.record-2.result
    (λ second. linked file sibling directory c.args.name.now link map c.args.self.now c.name.new.self c.raise.new.self c.record.new.self c.record-2.new.self
    (c.in_ok-name.ensures.adds short) c.raise.ensures c.in_ok-record.ensures.adds second is_link
    (record { key = c.in_ok-sibling_map.ensures.key; value = c.in_ok-sibling_map.ensures.value }))
    c.record-2.ensures.adds
