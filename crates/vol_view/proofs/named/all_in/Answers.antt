use Rattle.std.proofs.Common.{◌∙◌, ◌<◌, ◌≤◌, sym, ap, arith, length}
use Rattle.std.proofs.lemmas.List.{take_all}
use Rattle.std.specs.List.{list_all}
use Rattle.vol_view.specs.Named.{is_told}
use Rattle.vol_view.proofs.Indexes.{all-more, all-not}
use Rattle.vol_view.proofs.named.all_in.Goals as goal

pub records-preserved : goal.records-preserved
records-preserved g c known is =
    let xs = c.args.records.now in
    let told = c.told-item.result in
    let low : c.records.told-index < length xs = omega arith in
    all-more (λ told. is_told known (g.T.Named.name_of told) (g.T.Named.xid_of told)) xs c.records.told-index told low c.told-item.is (c.records.invariant known is)
    (ap (λ n. is_told known n (g.T.Named.xid_of told)) (sym c.name.ensures) ∙ (ap (λ x. is_told known c.name.result.now x) (sym c.xid.ensures) ∙ (sym (c.has.ensures known is) ∙ c.if-not-has.false)))

pub returns-then-not-has : goal.returns-then-not-has
returns-then-not-has g c known is =
    let xs = c.args.records.now in
    let told = c.told-item.result in
    let low : c.records.told-index < length xs = omega arith in
    sym (all-not (λ told. is_told known (g.T.Named.name_of told) (g.T.Named.xid_of told)) xs c.records.told-index told low c.told-item.is
    (ap (λ n. is_told known n (g.T.Named.xid_of told)) (sym c.name.ensures) ∙ (ap (λ x. is_told known c.name.result.now x) (sym c.xid.ensures) ∙ (sym (c.has.ensures known is) ∙ c.if-not-has.true))))

pub returns : goal.returns
returns g c known is =
    let xs = c.args.records.now in
    let end : length xs ≤ c.records.told-index = omega arith in
    sym (c.records.invariant known is) ∙ ap (list_all (λ told. is_told known (g.T.Named.name_of told) (g.T.Named.xid_of told))) (take_all c.records.told-index xs end)
