use Rattle.std.proofs.Common.{◌∙◌, List, Err, ap, sym, subst}
use Rattle.obj_base.specs.declared.stop.Stop.{Stop}
use Rattle.fs_record.specs.Inodes.{Inode}
use Rattle.fs_record.specs.Entries.{Entry}
use Rattle.fs_record.specs.Facts.{Fact}
use Rattle.view_rules.specs.Facts.{Facts}
use Rattle.view_rules.specs.declared.fault.TreeFault.{TreeFault}
use Rattle.path_search.specs.Parts.{Rises}
use Rattle.path_search.specs.Calls.{IsStopThere, IsNoAnswer}
use Rattle.path_search.specs.declared.stop.PathStop.{PathStop}
use Rattle.path_search.proofs.Known.{fault_said, said_unanswered, said_there}
use Rattle.path_search.proofs.Viewed.{view_rises}
use Rattle.path_walk.proofs.whole.gather_view.Goals as goal

pub returns-in-Ok-clause-clear : goal.returns-in-Ok-clause-clear
returns-in-Ok-clause-clear g c image told =
    let files = c.in-Ok.ensures.clear image told in
    let rise = view_rises image c.args.site.now c.args.volume.now c.args.view.now files.ordered in
    let entries = c.files_of.ensures.entries ∙ ap (λ (f : Facts). f.entries) files.facts in
    let inodes = c.files_of.ensures.inodes ∙ ap (λ (f : Facts). f.inodes) files.facts in
    record {
      all_entries = entries;
      all_inodes = inodes;
      entries_rise = subst (λ (es : List (Fact Entry)). Rises es) (sym entries) rise.0;
      inodes_rise = subst (λ (is : List (Fact Inode)). Rises is) (sym inodes) rise.1;
    }

pub returns-in-Ok-clause-rests : goal.returns-in-Ok-clause-rests
returns-in-Ok-clause-rests g c image told = record { whole = (c.in-Ok.ensures.clear image told).whole; records = (c.in-Ok.ensures.clear image told).readable }

pub returns-in-Err-clause-present : goal.returns-in-Err-clause-present
returns-in-Err-clause-present g c image told =
    subst (λ (s : Stop PathStop). IsStopThere image c.args.site.now c.args.volume.now c.args.view.now s) (sym c.of_path.ensures)
    (said_there image c.args.site.now c.args.volume.now c.args.view.now c.in-Err.stop (λ profile ranges. c.in-Err.ensures.present profile ranges image told))

pub returns-in-Err-clause-unanswered : goal.returns-in-Err-clause-unanswered
returns-in-Err-clause-unanswered g c = subst (λ (s : Stop PathStop). IsNoAnswer s) (sym c.of_path.ensures) (said_unanswered c.in-Err.stop)

pub returns-in-Err-clause-walked : goal.returns-in-Err-clause-walked
returns-in-Err-clause-walked g c fault e = c.in-Err.ensures.walked fault (ap (λ (s : Stop TreeFault). Err s) (fault_said c.in-Err.stop c.of_path.result fault c.of_path.ensures e))
