use Rattle.std.proofs.Common.{◌≡◌, ◌∙◌, [], Some, true}
use Rattle.std.specs.Prelude.{filter}
use Rattle.bt_node.specs.declared.key.Rank.{Rank}
use Rattle.bt_keys.specs.RecordKey.{entry_record}
use Rattle.bt_cursor.specs.Cursors.{root_of, tree_of, left_of, gapped_left_of}
use Rattle.fs_record.specs.Facts.{all_for, entries_of}
use Rattle.bt_cursor.specs.Flat.{flat_of}
use Rattle.bt_cursor.specs.From.{is_of_kind, is_kind_whole}
use Rattle.bt_cursor.proofs.Runs.{left-from, whole-from}
use Rattle.path_search.specs.Parts.{whats, is_wanted, run_entries, are_whole}
use Rattle.path_search.proofs.Searched.{entries_at}
use Rattle.path_search.proofs.Needed.{if_as, entries_there}
use Rattle.path_search.proofs.Stays.{stays_by, stays_on, stops_on}
use Rattle.path_search.proofs.search.find_entries.Goals as goal

pub returns-in-Ok-take_run-clause-found : goal.returns-in-Ok-take_run-clause-found
returns-in-Ok-take_run-clause-found g c image told on ordered =
    if_as (λ v. run_entries g.K.TreeKey.shape c.args.names (is_wanted c.args.names c.args.wanted) c.args.id [] (left_of c.seek.new.self image) ≡ Some (whats v.items))
    (λ v. whats v.items ≡ filter (is_wanted c.args.names c.args.wanted) (all_for c.args.id (entries_of c.args.names (flat_of (tree_of c.args.cursor.now image) (root_of c.args.cursor.now))))) c.in-Ok-take_run.run'
    (λ v e. entries_at g.K.FsTreeKey.HASHED image c.args.cursor.now (root_of c.args.cursor.now) c.args.id c.args.names (is_wanted c.args.names c.args.wanted) (left_of c.seek.new.self image) (Some (whats v.items)) g.met.K.FsTreeKey.of_tree ordered
    (left-from image c.args.cursor.now c.seek.new.self (record { id = c.args.id; kind = entry_record; sub = 0 }) ordered (c.in-Ok.ensures.left image told on ordered)) e)
    (c.in-Ok-take_run.ensures.taken image (c.in-Ok.ensures.kept.same_bytes ∙ told))

pub returns-in-Ok-take_run-clause-all : goal.returns-in-Ok-take_run-clause-all
returns-in-Ok-take_run-clause-all g c image told on ordered =
    let rank : Rank = record { id = c.args.id; kind = entry_record; sub = 0 } in
    let left = c.in-Ok.ensures.left image told on ordered in
    let later = c.in-Ok.ensures.kept.same_bytes ∙ told in
    entries_there g.K.FsTreeKey.HASHED image c.args.cursor.now (root_of c.args.cursor.now) c.args.id c.args.names (is_wanted c.args.names c.args.wanted) (left_of c.seek.new.self image) (λ v. whats v.items) c.in-Ok-take_run.run' g.met.K.FsTreeKey.of_tree ordered
    (left-from image c.args.cursor.now c.seek.new.self rank ordered left) (c.in-Ok-take_run.ensures.taken image later)
    (if_as (λ v. are_whole g.K.TreeKey.shape c.args.id (gapped_left_of c.seek.new.self image) ≡ true) (λ v. is_kind_whole (tree_of c.args.cursor.now image) (root_of c.args.cursor.now) c.args.id entry_record ≡ true) c.in-Ok-take_run.run'
    (λ v whole. whole-from image c.args.cursor.now c.seek.new.self rank (is_of_kind c.args.id entry_record) left whole) (c.in-Ok-take_run.ensures.whole image later))

pub returns-in-Ok-take_run-clause-stays : goal.returns-in-Ok-take_run-clause-stays
returns-in-Ok-take_run-clause-stays g c =
    stays_on (stays_by c.args.cursor.now c.seek.new.self c.in-Ok.ensures.site c.in-Ok.ensures.root c.in-Ok.ensures.tree c.in-Ok.ensures.kept c.in-Ok.ensures.within) c.in-Ok-take_run.ensures.stays

pub returns-in-Err-take_run-clause-stays : goal.returns-in-Err-take_run-clause-stays
returns-in-Err-take_run-clause-stays g c =
    stays_on (stays_by c.args.cursor.now c.seek.new.self c.in-Ok.ensures.site c.in-Ok.ensures.root c.in-Ok.ensures.tree c.in-Ok.ensures.kept c.in-Ok.ensures.within) c.in-Err-take_run.ensures.stays

pub returns-in-Err-take_run-clause-stops : goal.returns-in-Err-take_run-clause-stops
returns-in-Err-take_run-clause-stops g c =
    stops_on (stays_by c.args.cursor.now c.seek.new.self c.in-Ok.ensures.site c.in-Ok.ensures.root c.in-Ok.ensures.tree c.in-Ok.ensures.kept c.in-Ok.ensures.within) c.in-Err-take_run.ensures.stops
