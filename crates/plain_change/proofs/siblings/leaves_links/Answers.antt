use Rattle.std.proofs.Common.{◌≡◌, true, false, ap, ◌∙◌}
use Rattle.std.specs.Prelude.{ℕ, filter}
use Rattle.fs_record.specs.Facts.{Fact}
use Rattle.fs_record.specs.Siblings.{Link}
use Rattle.view_rules.specs.Siblings.{go_together, is_link_lost}
use Rattle.plain_change.specs.Lookups.{is_file_link}
use Rattle.plain_change.proofs.Looks.{each-in}
use Rattle.plain_change.proofs.Among.{leaves}
use Rattle.plain_change.proofs.siblings.leaves_links.Goals as goal

pub returns-in-Some : goal.returns-in-Some
returns-in-Some c holds =
    let after = c.args.after.now.index.now.facts.now in
    let e = c.args.e.now in
    let links = c.in-Some.links.now in
    leaves after e links (c.in-Some.ensures ∙ ap (λ (file : ℕ). filter (is_file_link file) after.links) c.file_id.ensures)
    (each-in (λ (l : Fact Link). go_together e l ≡ true → is_link_lost after l ≡ false) links (c.leaves_those.ensures holds))
