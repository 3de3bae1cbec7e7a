use Rattle.std.proofs.Common.{rules, ◌≡◌, List, true, false, sym, subst}
use Rattle.bt_node.specs.Entries.{Pair}
use Rattle.fs_name.specs.Normal.{are_hashed}
use Rattle.path_search.proofs.Viewed.{hashed_flat, plain_flat, hashed_ordered, plain_ordered}
use Rattle.tree_export.specs.Parts.{IsContentIn, HasContent}
use Rattle.tree_export.proofs.Lookups.{hashed_lookup, plain_lookup}
use Rattle.tree_export.proofs.lookup.content_for.Goals as goal

pub returns-in-Ok-clause-found : goal.returns-in-Ok-clause-found
returns-in-Ok-clause-found g c image told ordered =
    let e : are_hashed c.args.volume.now.names ≡ true = search rules in
    subst (λ (ps : List Pair). IsContentIn ps c.args.id c.in-Ok.content) (sym (hashed_flat image c.args.site.now c.args.volume.now c.args.view.now e))
    (c.in-Ok.ensures.found image told (hashed_ordered image c.args.site.now c.args.volume.now c.args.view.now e ordered))

pub returns-in-Ok-clause-record : goal.returns-in-Ok-clause-record
returns-in-Ok-clause-record g c image told =
    let e : are_hashed c.args.volume.now.names ≡ true = search rules in
    subst (λ (ps : List Pair). HasContent ps c.args.id c.in-Ok.content) (sym (hashed_flat image c.args.site.now c.args.volume.now c.args.view.now e)) (c.in-Ok.ensures.record image told)

pub returns-in-Err-clause-present : goal.returns-in-Err-clause-present
returns-in-Err-clause-present g c image told =
    let e : are_hashed c.args.volume.now.names ≡ true = search rules in
    hashed_lookup image c.args.site.now c.args.volume.now c.args.view.now c.args.id c.in-Err.stop e (c.in-Err.ensures.present image told)

pub returns-in-Ok-content_by-clause-found : goal.returns-in-Ok-content_by-clause-found
returns-in-Ok-content_by-clause-found g c image told ordered =
    let e : are_hashed c.args.volume.now.names ≡ false = search rules in
    subst (λ (ps : List Pair). IsContentIn ps c.args.id c.in-Ok-content_by.content) (sym (plain_flat image c.args.site.now c.args.volume.now c.args.view.now e))
    (c.in-Ok-content_by.ensures.found image told (plain_ordered image c.args.site.now c.args.volume.now c.args.view.now e ordered))

pub returns-in-Ok-content_by-clause-record : goal.returns-in-Ok-content_by-clause-record
returns-in-Ok-content_by-clause-record g c image told =
    let e : are_hashed c.args.volume.now.names ≡ false = search rules in
    subst (λ (ps : List Pair). HasContent ps c.args.id c.in-Ok-content_by.content) (sym (plain_flat image c.args.site.now c.args.volume.now c.args.view.now e)) (c.in-Ok-content_by.ensures.record image told)

pub returns-in-Err-content_by-clause-present : goal.returns-in-Err-content_by-clause-present
returns-in-Err-content_by-clause-present g c image told =
    let e : are_hashed c.args.volume.now.names ≡ false = search rules in
    plain_lookup image c.args.site.now c.args.volume.now c.args.view.now c.args.id c.in-Err-content_by.stop e (c.in-Err-content_by.ensures.present image told)
