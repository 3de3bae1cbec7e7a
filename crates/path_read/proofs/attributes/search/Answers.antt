use Rattle.std.proofs.Common.{rules, ◌≡◌, List, true, false, sym, subst}
use Rattle.std.specs.Prelude.{IfSome}
use Rattle.bt_node.specs.Entries.{Pair}
use Rattle.fs_name.specs.Normal.{are_hashed}
use Rattle.fs_record.specs.Facts.{all_for, attributes_of}
use Rattle.path_search.proofs.Viewed.{hashed_flat, plain_flat, hashed_ordered, plain_ordered}
use Rattle.path_read.specs.Parts.{HasRefused}
use Rattle.path_search.proofs.Needed.{if_as, hashed_kind, plain_kind}
use Rattle.path_search.specs.Parts.{HasKindIn}
use Rattle.path_search.specs.Needs.{HasKind}
use Rattle.bt_keys.specs.RecordKey.{attribute_record}
use Rattle.vol_view.specs.Views.{hashed_tree, plain_tree}
use Rattle.path_read.proofs.attributes.search.Goals as goal

pub returns-in-Ok-clause-found : goal.returns-in-Ok-clause-found
returns-in-Ok-clause-found g c image told ordered =
    let e : are_hashed c.args.volume.now.names ≡ true = search rules in
    subst (λ (ps : List Pair). IfSome c.in-Ok.run' (λ v. v.items ≡ all_for c.args.id (attributes_of ps))) (sym (hashed_flat image c.args.site.now c.args.volume.now c.args.view.now e))
    (c.in-Ok.ensures.found image told (hashed_ordered image c.args.site.now c.args.volume.now c.args.view.now e ordered))

pub returns-in-Ok-clause-refused : goal.returns-in-Ok-clause-refused
returns-in-Ok-clause-refused g c image told none =
    let e : are_hashed c.args.volume.now.names ≡ true = search rules in
    subst HasRefused (sym (hashed_flat image c.args.site.now c.args.volume.now c.args.view.now e)) (c.in-Ok.ensures.refused image told none)

pub returns-in-Ok-search_by-clause-found : goal.returns-in-Ok-search_by-clause-found
returns-in-Ok-search_by-clause-found g c image told ordered =
    let e : are_hashed c.args.volume.now.names ≡ false = search rules in
    subst (λ (ps : List Pair). IfSome c.in-Ok-search_by.run' (λ v. v.items ≡ all_for c.args.id (attributes_of ps))) (sym (plain_flat image c.args.site.now c.args.volume.now c.args.view.now e))
    (c.in-Ok-search_by.ensures.found image told (plain_ordered image c.args.site.now c.args.volume.now c.args.view.now e ordered))

pub returns-in-Ok-search_by-clause-refused : goal.returns-in-Ok-search_by-clause-refused
returns-in-Ok-search_by-clause-refused g c image told none =
    let e : are_hashed c.args.volume.now.names ≡ false = search rules in
    subst HasRefused (sym (plain_flat image c.args.site.now c.args.volume.now c.args.view.now e)) (c.in-Ok-search_by.ensures.refused image told none)

pub returns-in-Ok-clause-all : goal.returns-in-Ok-clause-all
returns-in-Ok-clause-all g c image told ordered =
    let e : are_hashed c.args.volume.now.names ≡ true = search rules in
    if_as (λ v. HasKindIn c.args.volume.now.names (hashed_tree image c.args.site.now c.args.volume.now c.args.view.now) c.args.view.now.root_oid c.args.id attribute_record) (λ v. HasKind image c.args.site.now c.args.volume.now c.args.view.now c.args.id attribute_record) c.in-Ok.run'
    (λ v h. hashed_kind image c.args.site.now c.args.volume.now c.args.view.now c.args.id attribute_record e h) (c.in-Ok.ensures.all image told (hashed_ordered image c.args.site.now c.args.volume.now c.args.view.now e ordered))

pub returns-in-Ok-search_by-clause-all : goal.returns-in-Ok-search_by-clause-all
returns-in-Ok-search_by-clause-all g c image told ordered =
    let e : are_hashed c.args.volume.now.names ≡ false = search rules in
    if_as (λ v. HasKindIn c.args.volume.now.names (plain_tree image c.args.site.now c.args.volume.now c.args.view.now) c.args.view.now.root_oid c.args.id attribute_record) (λ v. HasKind image c.args.site.now c.args.volume.now c.args.view.now c.args.id attribute_record) c.in-Ok-search_by.run'
    (λ v h. plain_kind image c.args.site.now c.args.volume.now c.args.view.now c.args.id attribute_record e h) (c.in-Ok-search_by.ensures.all image told (plain_ordered image c.args.site.now c.args.volume.now c.args.view.now e ordered))
