use Rattle.std.proofs.Common.{List, sym, ap, ◌∙◌}
use Rattle.std.specs.Prelude.{find}
use Rattle.fs_record.specs.Facts.{Fact}
use Rattle.fs_record.specs.Siblings.{Link}
use Rattle.view_rules.specs.Siblings.{is_link_of}
use Rattle.plain_change.proofs.Among.{fellows-by}
use Rattle.plain_change.proofs.found.is_first_fellow.Goals as goal

pub returns-in-Some : goal.returns-in-Some
returns-in-Some c holds few =
    let file = c.args.file in
    let sibling = c.args.sibling in
    fellows-by c.args.after.now.index.now.facts.now file sibling c.in-Some.l.now (ap (λ (links : List (Fact Link)). find (is_link_of file sibling) links) (sym few) ∙ sym c.in-Some.ensures) (c.is_fellow.ensures holds)
