use Rattle.std.proofs.Common.{◌≡◌, ◌==◌, ◌∙◌, List, ap, sym, subst}
use Rattle.std.specs.Prelude.{filter}
use Rattle.std.proofs.lemmas.Bool.Decides.{Decides-eqb}
use Rattle.apfs_model.specs.Lists.{In}
use Rattle.apfs_model.proofs.Searches.{from-filter, filter-test}
use Rattle.fs_record.specs.Entries.{Entry}
use Rattle.fs_record.specs.Facts.{Fact, is_reserved}
use Rattle.path_walk.proofs.files.directory_in.Goals as goal

pub returns-clause-counted : goal.returns-clause-counted
returns-clause-counted c facts all rise e h =
    let items : List (Fact Entry) = c.args.entries.now in
    let test = λ (f : Fact Entry). f.id == c.args.id in
    let same : c.run_of.result.now ≡ filter test items = c.run_of.ensures rise in
    let k : In e (filter test items) = subst (λ (l : List (Fact Entry)). In e l) same h in (
      subst (λ (l : List (Fact Entry)). In e l) all (from-filter test e items k),
      ap is_reserved ((Decides-eqb e.id c.args.id).0 (filter-test test e items k)) ∙ (sym c.is_reserved.ensures ∙ c.if-is_reserved.false),
    )
