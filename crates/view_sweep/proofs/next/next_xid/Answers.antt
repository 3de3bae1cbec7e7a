use Rattle.std.proofs.Common.{rules, ◌<◌, length, arith}
use Rattle.omap_map.specs.declared.records.OmapRecord.{OmapRecord}
use Rattle.view_sweep.proofs.Gaps.{none-end, none-other, next-found}
use Rattle.view_sweep.proofs.Hits.{norecord}
use Rattle.view_sweep.proofs.Ranked.{get_or-same}
use Rattle.std.specs.Prelude.{slice_index_or}
use Rattle.view_sweep.proofs.next.next_xid.Goals as goal

pub returns-then-by-records-clause-none : goal.returns-then-by-records-clause-none
returns-then-by-records-clause-none c = λ none. none-end c.args.oid c.args.xid c.args.records.now c.count_by-by.result (search rules) c.count_by-by.ensures.split

pub returns-then-next-oid-clause-none : goal.returns-then-next-oid-clause-none
returns-then-next-oid-clause-none c =
    let next : OmapRecord = slice_index_or c.args.records.now c.count_by-by.result norecord in
    let inside : c.count_by-by.result < length c.args.records.now = omega (arith, c.count_by-by.ensures.bound) in
    λ none. none-other c.args.oid c.args.xid c.args.records.now c.count_by-by.result next c.requires inside (get_or-same c.args.records.now c.count_by-by.result norecord next inside) c.count_by-by.ensures.split (search rules)

pub returns-clause-some : goal.returns-clause-some
returns-clause-some c =
    let next : OmapRecord = slice_index_or c.args.records.now c.count_by-by.result norecord in
    let inside : c.count_by-by.result < length c.args.records.now = omega (arith, c.count_by-by.ensures.bound) in
    next-found c.args.oid c.args.xid c.args.records.now c.count_by-by.result next c.requires inside (get_or-same c.args.records.now c.count_by-by.result norecord next inside) c.count_by-by.ensures.split (search rules)
