use Rattle.std.proofs.Common.{◌∙◌, ap, subst, List}
use Rattle.fs_record.specs.Entries.{Entry}
use Rattle.fs_record.specs.Facts.{Fact}
use Rattle.view_rules.specs.Facts.{Facts}
use Rattle.rule_index.specs.Ids.{CountsIds}
use Rattle.rule_index.specs.Digests.{entry_digest}
use Rattle.rule_breaks.proofs.NamesApart.{entries_apart}
use Rattle.rule_breaks.proofs.repeats.are_entries_apart.Goals as goal

pub returns : goal.returns
returns c apart =
    entries_apart c.args.facts.now c.in_ok-digests.digests
    (subst (λ (entries : List (Fact Entry)). CountsIds entry_digest entries c.in_ok-digests.digests) (c.deref.ensures.value ∙ ap (λ (f : Facts). f.entries) c.facts.view_is) c.in_ok-digests.ensures)
    (c.are_distinct.ensures.distinct apart)
