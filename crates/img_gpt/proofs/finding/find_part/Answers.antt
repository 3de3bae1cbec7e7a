-- The table, its first entry of the type, and the partition of that entry.
use Rattle.std.proofs.Common.{◌≡◌, ◌∙◌, sym, ap, true, false, Ok, length}
use Rattle.std.proofs.lemmas.Result.{err_from_is_err_and}
use Rattle.img_gpt.specs.Partition.{part_of, is_placed}
use Rattle.img_gpt.specs.Laws.{IsTableStop}
use Rattle.img_gpt.proofs.Exactly.{found_there}
use Rattle.img_gpt.proofs.finding.find_part.Goals as goal

pub returns-in_err-at-clause-fault : goal.returns-in_err-at-clause-fault
returns-in_err-at-clause-fault g c disk told =
    let table = c.in_ok-table.ensures.found disk told in
    let stop : IsTableStop disk c.in_err-at.field-0.0 = c.in_err-at.ensures.fault disk (c.in_ok-table.ensures.kept.same_bytes ∙ told) table.0 table.1 in
    let p = err_from_is_err_and c.from_residual-in_err-at.result c.from_residual-in_err-at.ensures.1 in
    rw (p.1, p.2) stop

pub returns-in-Some-clause-found : goal.returns-in-Some-clause-found
returns-in-Some-clause-found g c disk told =
    let table = c.in_ok-table.ensures.found disk told in
    let entry = c.in_ok-at.ensures.found disk (c.in_ok-table.ensures.kept.same_bytes ∙ told) table.1 in
    let long : length disk ≡ c.size-size.result = g.met.S.BlockSource.whole c.args.src.now disk told ∙ sym c.size-size.ensures in
    let is : (is_placed disk c.in_ok-table.table.sector c.in_ok-at.at ≡ true) × (c.in-Some.part ≡ part_of disk c.in_ok-table.table.sector c.in_ok-at.at) = c.in-Some.ensures.part disk c.in_ok-at.at long entry.1 in
    found_there disk c.in_ok-table.table.sector c.in_ok-at.at table.0 entry.0 is.0 ∙ ap Ok (sym is.1)

pub returns-in-None-clause-fault : goal.returns-in-None-clause-fault
returns-in-None-clause-fault g c disk told =
    let table = c.in_ok-table.ensures.found disk told in
    let entry = c.in_ok-at.ensures.found disk (c.in_ok-table.ensures.kept.same_bytes ∙ told) table.1 in
    let long : length disk ≡ c.size-size.result = g.met.S.BlockSource.whole c.args.src.now disk told ∙ sym c.size-size.ensures in
    let outside : is_placed disk c.in_ok-table.table.sector c.in_ok-at.at ≡ false = c.in-None.ensures.part disk c.in_ok-at.at long entry.1 in
    (c.in_ok-table.table.sector, table.0, entry.0, outside)
