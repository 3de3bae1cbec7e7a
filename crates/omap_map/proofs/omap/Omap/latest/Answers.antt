use Rattle.std.proofs.Common.{rules, ◌≡◌, ◌∙◌, ◌-◌, ap, sym, subst, slice_index_or, arith}
use Rattle.omap_map.specs.Loading.{IsAscending}
use Rattle.omap_map.specs.Maps.{Contents}
use Rattle.omap_map.proofs.Splits.{latest-before, latest-found, latest-missed}
use Rattle.omap_map.proofs.omap.Omap.latest.Goals as goal

pub returns-then-by-eq0 : goal.returns-then-by-eq0
returns-then-by-eq0 c = sym (latest-before c.args.oid c.args.xid c.args.self.now.records c.count_by-by.result c.if-by-eq0.true c.count_by-by.ensures.split)

pub returns-then-last-oid : goal.returns-then-last-oid
returns-then-last-oid c =
    let same : c.self.inside.records.items ≡ c.args.self.now.records = ap (λ (m : Contents). m.records) c.self.view_is in
    let ordered : IsAscending c.args.self.now.records = subst (λ rs. IsAscending rs) same c.self.invariant in
    let here : c.index-last.result.now ≡ slice_index_or c.args.self.now.records (c.count_by-by.result - 1) c.index-last.result.now = c.index-last.ensures ∙ ap (λ rs. slice_index_or rs (c.count_by-by.result - 1) c.index-last.result.now) same in
    sym (latest-missed c.args.oid c.args.xid c.args.self.now.records c.count_by-by.result c.index-last.result.now ordered (omega arith) c.count_by-by.ensures.bound here c.count_by-by.ensures.split (search rules))

pub returns : goal.returns
returns c =
    let same : c.self.inside.records.items ≡ c.args.self.now.records = ap (λ (m : Contents). m.records) c.self.view_is in
    let ordered : IsAscending c.args.self.now.records = subst (λ rs. IsAscending rs) same c.self.invariant in
    let here : c.index-last.result.now ≡ slice_index_or c.args.self.now.records (c.count_by-by.result - 1) c.index-last.result.now = c.index-last.ensures ∙ ap (λ rs. slice_index_or rs (c.count_by-by.result - 1) c.index-last.result.now) same in
    sym (latest-found c.args.oid c.args.xid c.args.self.now.records c.count_by-by.result c.index-last.result.now ordered (omega arith) c.count_by-by.ensures.bound here c.count_by-by.ensures.split (search rules))
