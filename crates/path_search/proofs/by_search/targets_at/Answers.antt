use Rattle.std.proofs.Common.{◌≡◌, ◌<◌, ◌∙◌, length, Some, arith}
use Rattle.std.specs.Prelude.{IfSome}
use Rattle.bt_cursor.specs.Flat.{flat_of}
use Rattle.bt_cursor.specs.Cursors.{root_of, tree_of}
use Rattle.view_rules.specs.Facts.{Facts, facts_in}
use Rattle.path_search.specs.Parts.{target_by}
use Rattle.path_search.specs.declared.target.Target.{Target}
use Rattle.path_search.proofs.Searched.{some_at}
use Rattle.path_search.proofs.Listed.{targets_more}
use Rattle.path_search.proofs.Needed.{target_file, files_next, files_done}
use Rattle.path_search.proofs.Stays.{stays_on, stops_on, says_on}
use Rattle.path_search.proofs.by_search.targets_at.Goals as goal

pub loop-entry-preserved : goal.loop-entry-preserved
loop-entry-preserved g c = record {
  stays = stays_on c.loop-entry.invariant.stays c.in-Ok.ensures.stays;
  found = λ image told on ordered.
      let facts : Facts = facts_in c.args.names (flat_of (tree_of c.args.cursor.now image) (root_of c.args.cursor.now)) in
      let low : c.loop-entry.entry-index < length c.args.entries.now = omega arith in
      let here = says_on (λ t r. IfSome c.in-Ok.found (λ (found : Target). target_by (facts_in c.args.names (flat_of t r)) c.entry-item.result.what ≡ Some found)) c.loop-entry.invariant.stays c.in-Ok.ensures.found image told on ordered in
      let there : target_by facts c.entry-item.result.what ≡ Some c.in-Some.target = some_at (λ (found : Target). target_by facts c.entry-item.result.what ≡ Some found) c.in-Ok.found c.in-Some.target here c.in-Some.is in
      c.in_ok-push.ensures.items ∙ targets_more facts c.args.entries.now c.loop-entry.entry-index c.entry-item.result c.in-Some.target c.loop-entry.targets.items low c.entry-item.is there (c.loop-entry.invariant.found image told on ordered);
  files = λ image told on ordered.
      let facts : Facts = facts_in c.args.names (flat_of (tree_of c.args.cursor.now image) (root_of c.args.cursor.now)) in
      let low : c.loop-entry.entry-index < length c.args.entries.now = omega arith in
      let here = says_on (λ t r. IfSome c.in-Ok.found (λ (found : Target). target_by (facts_in c.args.names (flat_of t r)) c.entry-item.result.what ≡ Some found)) c.loop-entry.invariant.stays c.in-Ok.ensures.found image told on ordered in
      let there : target_by facts c.entry-item.result.what ≡ Some c.in-Some.target = some_at (λ (found : Target). target_by facts c.entry-item.result.what ≡ Some found) c.in-Ok.found c.in-Some.target here c.in-Some.is in
      files_next facts c.args.entries.now c.loop-entry.entry-index c.entry-item.result low c.entry-item.is (target_file facts c.entry-item.result.what c.in-Some.target there) (c.loop-entry.invariant.files image told on ordered);
}

pub returns-clause-needs : goal.returns-clause-needs
returns-clause-needs g c image told on ordered =
    let facts : Facts = facts_in c.args.names (flat_of (tree_of c.args.cursor.now image) (root_of c.args.cursor.now)) in
    let end : c.loop-entry.entry-index ≡ length c.args.entries.now = omega arith in
    files_done facts c.args.entries.now c.loop-entry.entry-index end (c.loop-entry.invariant.files image told on ordered)

pub returns-in-Err-clause-stays : goal.returns-in-Err-clause-stays
returns-in-Err-clause-stays g c = stays_on c.loop-entry.invariant.stays c.in-Err.ensures.stays

pub returns-in-Err-clause-stops : goal.returns-in-Err-clause-stops
returns-in-Err-clause-stops g c = stops_on c.loop-entry.invariant.stays c.in-Err.ensures.stops

pub returns-in_default-clause-stays : goal.returns-in_default-clause-stays
returns-in_default-clause-stays g c = stays_on c.loop-entry.invariant.stays c.in-Ok.ensures.stays

pub returns-in_err-push-clause-stays : goal.returns-in_err-push-clause-stays
returns-in_err-push-clause-stays g c = stays_on c.loop-entry.invariant.stays c.in-Ok.ensures.stays
