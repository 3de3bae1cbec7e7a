use Rattle.std.proofs.Common.{rules, ◌≡◌, false}
use Rattle.std.specs.Prelude.{filter}
use Rattle.path_search.specs.declared.search.Wanted.TheVariants.{All}
use Rattle.bt_cursor.specs.Cursors.{root_of, tree_of}
use Rattle.bt_cursor.specs.Flat.{flat_of}
use Rattle.fs_record.specs.Facts.{all_for, is_reserved}
use Rattle.view_rules.specs.Facts.{Facts, facts_in}
use Rattle.path_search.specs.Found.{entries_in}
use Rattle.path_search.specs.Parts.{whats, is_wanted}
use Rattle.path_search.proofs.Chosen.{directory_all}
use Rattle.path_search.proofs.Needed.{if_as}
use Rattle.path_search.proofs.by_search.directory.Goals as goal

pub returns-in-Ok-clause-found : goal.returns-in-Ok-clause-found
returns-in-Ok-clause-found g c image told on ordered =
    let facts : Facts = facts_in c.args.names (flat_of (tree_of c.args.cursor.now image) (root_of c.args.cursor.now)) in
    let counts : is_reserved c.args.id ≡ false = search rules in
    if_as (λ v. whats v.items ≡ filter (is_wanted c.args.names All) (all_for c.args.id facts.entries)) (λ v. whats v.items ≡ entries_in facts c.args.id) c.in-Ok.run' (λ v h. directory_all facts c.args.id (whats v.items) counts h) (c.in-Ok.ensures.found image told on ordered)
