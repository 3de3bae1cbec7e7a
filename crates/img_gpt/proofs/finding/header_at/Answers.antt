-- A header stands at a place exactly where its 92 bytes lie in the disk and begin with the mark.
use Rattle.std.proofs.Common.{◌≡◌, ◌∙◌, true, false, sym}
use Rattle.apfs_model.specs.Bytes.{part_at}
use Rattle.img_gpt.proofs.Tables.{header-short, header-is}
use Rattle.img_gpt.proofs.finding.header_at.Goals as goal

pub returns-then-size-at-clause-found : goal.returns-then-size-at-clause-found
returns-then-size-at-clause-found g c disk told =
    header-short disk c.args.at c.size.result (g.met.S.BlockSource.whole c.args.src.now disk told ∙ sym c.size.ensures) c.if-size-at.true

pub returns-then-eq-clause-found : goal.returns-then-eq-clause-found
returns-then-eq-clause-found g c disk told =
    let read : c.in_ok-header.header ≡ part_at disk c.args.at 92 = c.in_ok-header.ensures.found disk told in (
      header-is disk c.in_ok-header.header c.args.at c.size.result (g.met.S.BlockSource.whole c.args.src.now disk told ∙ sym c.size.ensures) c.if-size-at.false read true (sym c.eq.ensures ∙ c.if-eq.true),
      read,
    )

pub returns-clause-found : goal.returns-clause-found
returns-clause-found g c disk told =
    header-is disk c.in_ok-header.header c.args.at c.size.result (g.met.S.BlockSource.whole c.args.src.now disk told ∙ sym c.size.ensures) c.if-size-at.false (c.in_ok-header.ensures.found disk told) false (sym c.eq.ensures ∙ c.if-eq.false)
