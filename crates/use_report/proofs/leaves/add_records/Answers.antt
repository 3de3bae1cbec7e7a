use Rattle.std.proofs.Common.{◌≡◌, ◌<◌, length, get_or, sym, subst, arith}
use Rattle.bt_node.specs.Entries.{Pair, pair_of, pairs_of}
use Rattle.use_report.specs.Counted.{Grows}
use Rattle.use_report.specs.Leaves.{IsOfRecord, IsPlacedRecord}
use Rattle.use_report.proofs.Adding.{grows-next}
use Rattle.use_report.proofs.Spread.{no_pair, pair-got, placed-next}
use Rattle.use_report.proofs.leaves.add_records.Goals as goal

pub records-preserved : goal.records-preserved
records-preserved g c =
    let site = c.args.site.now in
    let shape = g.K.TreeKey.shape in
    let node = c.args.node.now in
    let pairs = pairs_of shape node in
    let i = c.records.i in
    let low : i < length pairs = omega (arith, c.records-test.true, c.len-i-end.ensures.all) in
    let got : get_or pairs i no_pair ≡ pair_of shape node i = pair-got shape node i low in
    record {
      added = grows-next (IsOfRecord site) pairs i no_pair c.args.held.now c.records.held c.add_record.new.held low c.records.invariant.added
          (subst (λ (pair : Pair). Grows c.records.held c.add_record.new.held (IsOfRecord site pair)) (sym got) (c.in_ok-whole.ensures.added c.if-not-whole.false));
      placed = placed-next site pairs i no_pair low c.records.invariant.placed (subst (λ (pair : Pair). IsPlacedRecord site pair) (sym got) (c.in_ok-whole.ensures.placed c.if-not-whole.false));
    }
