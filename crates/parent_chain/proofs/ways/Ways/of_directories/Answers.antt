use Rattle.std.proofs.Common.{◌≡◌, ◌∙◌, ℕ, List}
use Rattle.std.specs.Prelude.{filter}
use Rattle.std.proofs.lemmas.Result.{IfOk-weaker}
use Rattle.fs_record.specs.Inodes.{Inode}
use Rattle.fs_record.specs.Facts.{Fact}
use Rattle.view_rules.specs.Directories.{is_user_directory}
use Rattle.parent_chain.specs.declared.ways.Way.{Way}
use Rattle.parent_chain.specs.Ways.{way_at, HasWaysOf}
use Rattle.parent_chain.proofs.WayLooks.{ways-given}
use Rattle.parent_chain.proofs.ways.Ways.of_directories.Goals as goal

pub returns : goal.returns
returns c =
    let directories : List (Fact Inode) = filter is_user_directory c.args.inodes.now in
    IfOk-weaker c.made.result (λ (ways : List Way). (id : ℕ) → way_at ways id ≡ way_at c.in_ok-list.list.items id) (λ (ways : List Way). HasWaysOf directories ways)
    (λ ways same id. same id ∙ ways-given directories c.in_ok-list.list.items c.in_ok-list.ensures id) c.made.ensures
