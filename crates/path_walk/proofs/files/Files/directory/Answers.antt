use Rattle.std.proofs.Common.{List, sym, subst, ◌∙◌}
use Rattle.fs_record.specs.Entries.{Entry}
use Rattle.fs_record.specs.Facts.{Fact}
use Rattle.path_search.specs.Parts.{Rises}
use Rattle.path_walk.proofs.files.Files.directory.Goals as goal

pub returns-clause-counted : goal.returns-clause-counted
returns-clause-counted c facts r = c.directory_in.ensures.counted facts (c.deref.ensures.value ∙ r.all_entries) (subst (λ (l : List (Fact Entry)). Rises l) (sym c.deref.ensures.value) r.entries_rise)

pub returns-clause-all : goal.returns-clause-all
returns-clause-all c facts r = c.directory_in.ensures.all facts (c.deref.ensures.value ∙ r.all_entries) (subst (λ (l : List (Fact Entry)). Rises l) (sym c.deref.ensures.value) r.entries_rise)
