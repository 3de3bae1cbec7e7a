use Rattle.std.proofs.Common.{rules, of_calls, ◌≡◌, ◌∙◌, true, false, ap, sym, subst}
use Rattle.std.specs.List.Sorted.{IsPartitionPoint}
use Rattle.std.proofs.lemmas.List.Sorted.{IsPartitionPoint-from_clause}
use Rattle.omap_map.specs.Loading.{IsAscending}
use Rattle.omap_map.specs.Search.{is_by}
use Rattle.omap_map.specs.Maps.{Contents}
use Rattle.omap_map.proofs.Splits.{partitioned}
use Rattle.omap_map.proofs.omap.Omap.count_by.Goals as goal

pub returns-clause-split : goal.returns-clause-split
returns-clause-split c =
    let slice : c.as_slice.result.now ≡ c.self.inside.records.items = c.as_slice.ensures.value in
    let same : c.as_slice.result.now ≡ c.args.self.now.records = slice ∙ ap (λ (m : Contents). m.records) c.self.view_is in
    let ordered : IsAscending c.as_slice.result.now = subst (λ rs. IsAscending rs) (sym slice) c.self.invariant in
    subst (λ rs. IsPartitionPoint (λ r. is_by c.args.oid c.args.xid r ≡ true) (λ r. is_by c.args.oid c.args.xid r ≡ false) rs c.partition_point.result) same
    (IsPartitionPoint-from_clause (is_by c.args.oid c.args.xid) c.as_slice.result.now c.partition_point.result c.partition_point.ensures.partitioned
    (partitioned c.args.oid c.args.xid c.as_slice.result.now ordered) (λ a r f k. search (rules, of_calls)))
