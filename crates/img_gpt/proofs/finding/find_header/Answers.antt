-- The first of the two places at which a header stands.
use Rattle.std.proofs.Common.{◌≡◌, ◌∙◌, true, false}
use Rattle.apfs_model.specs.Bytes.{part_at}
use Rattle.img_gpt.specs.Table.{has_header}
use Rattle.img_gpt.proofs.Tables.{small-sector, large-sector, no-sector, none-since}
use Rattle.img_gpt.proofs.finding.find_header.Goals as goal

pub returns-in-Some-clause-found : goal.returns-in-Some-clause-found
returns-in-Some-clause-found g c disk told =
    let is : (has_header disk 512 ≡ true) × (c.in-Some.header ≡ part_at disk 512 92) = rw c.in-Some.is at (c.in_ok-header.ensures.found disk told) in
    (small-sector disk is.0, is.1)

pub returns-in-Some-2-clause-found : goal.returns-in-Some-2-clause-found
returns-in-Some-2-clause-found g c disk told =
    let lacks : has_header disk 512 ≡ false = none-since c.in_ok-header.field-0 _ _ (c.in_ok-header.ensures.found disk told) c.in_default.not-Some in
    let is : (has_header disk 4096 ≡ true) × (c.in-Some-2.header ≡ part_at disk 4096 92) = rw c.in-Some-2.is at (c.in_ok-header-2.ensures.found disk (c.in_ok-header.ensures.kept.same_bytes ∙ told)) in
    (large-sector disk lacks is.0, is.1)

pub returns-in-None-clause-fault : goal.returns-in-None-clause-fault
returns-in-None-clause-fault g c disk told =
    let lacks : has_header disk 512 ≡ false = none-since c.in_ok-header.field-0 _ _ (c.in_ok-header.ensures.found disk told) c.in_default.not-Some in
    let none : has_header disk 4096 ≡ false = rw c.in-None.is at (c.in_ok-header-2.ensures.found disk (c.in_ok-header.ensures.kept.same_bytes ∙ told)) in
    no-sector disk lacks none
