-- The table is that of the header.
use Rattle.std.proofs.Common.{◌≡◌, ◌∙◌, sym, ap, true, ℕ, Some, length}
use Rattle.img_gpt.specs.Table.{is_table}
use Rattle.img_gpt.specs.Reads.{IsTableOf}
use Rattle.img_gpt.proofs.finding.find_table.Goals as goal

pub returns-in-Some-clause-found : goal.returns-in-Some-clause-found
returns-in-Some-clause-found g c disk told =
    let header = c.in_ok-sector.ensures.found disk told in
    let long : length disk ≡ c.size-size.result = g.met.S.BlockSource.whole c.args.src.now disk told ∙ sym c.size-size.ensures in
    let is : (c.in-Some.table.sector ≡ c.in_ok-sector.sector) × (is_table disk c.in_ok-sector.sector ≡ true) × IsTableOf disk c.in-Some.table = c.in-Some.ensures.table disk long header.1 in (
      record {
        header = header.0 ∙ ap (λ (k : ℕ). Some k) (sym is.0);
        right = ap (is_table disk) is.0 ∙ is.1;
      },
      is.2,
    )
