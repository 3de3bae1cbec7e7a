use Rattle.std.proofs.Common.{◌≡◌, ◌∙◌, subst}
use Rattle.std.specs.Prelude.{IfSome}
use Rattle.bt_cursor.specs.Flat.{flat_of}
use Rattle.bt_cursor.specs.Cursors.{root_of, tree_of}
use Rattle.fs_record.specs.Facts.{all_for, attributes_of}
use Rattle.vol_view.specs.Views.{view_tree}
use Rattle.path_search.proofs.Searched.{flat_at, tells_at}
use Rattle.path_search.proofs.Stays.{says_at}
use Rattle.path_read.specs.Parts.{HasRefused}
use Rattle.path_search.proofs.Needed.{if_as}
use Rattle.path_search.specs.Parts.{HasKindIn}
use Rattle.bt_keys.specs.RecordKey.{attribute_record}
use Rattle.fs_name.specs.declared.naming.Names.{Names}
use Rattle.path_read.proofs.attributes.search_by.Goals as goal

pub returns-in-Ok-find_attributes-clause-found : goal.returns-in-Ok-find_attributes-clause-found
returns-in-Ok-find_attributes-clause-found g c image told ordered =
    says_at (λ t r. IfSome c.in-Ok-find_attributes.run' (λ v. v.items ≡ all_for c.args.id (attributes_of (flat_of t r)))) c.in-Ok.cursor image (c.in-Ok.ensures.tree image) c.in-Ok.ensures.root ordered
    (c.in-Ok-find_attributes.ensures.found image (c.in-Ok.ensures.kept.same_bytes ∙ told) (c.in-Ok.ensures.within image told))

pub returns-in-Ok-find_attributes-clause-refused : goal.returns-in-Ok-find_attributes-clause-refused
returns-in-Ok-find_attributes-clause-refused g c image told none =
    let tree = view_tree g.K.TreeKey.shape image c.args.site.now c.args.volume.now c.args.view.now in
    let same = flat_at (tree_of c.in-Ok.cursor image) tree (root_of c.in-Ok.cursor) c.args.view.now.root_oid (c.in-Ok.ensures.tree image) c.in-Ok.ensures.root in
    subst HasRefused same (c.in-Ok-find_attributes.ensures.refused image (c.in-Ok.ensures.kept.same_bytes ∙ told) (c.in-Ok.ensures.within image told) none)

pub returns-clause-present : goal.returns-clause-present
returns-clause-present g c image told =
    tells_at (tree_of c.in-Ok.cursor image) (view_tree g.K.TreeKey.shape image c.args.site.now c.args.volume.now c.args.view.now) (root_of c.in-Ok.cursor) c.args.view.now.root_oid c.in-Err-find_attributes.stop (c.in-Ok.ensures.tree image) c.in-Ok.ensures.root
    (c.in-Err-find_attributes.ensures.present image (c.in-Ok.ensures.kept.same_bytes ∙ told) (c.in-Ok.ensures.within image told))

pub returns-in-Ok-find_attributes-clause-all : goal.returns-in-Ok-find_attributes-clause-all
returns-in-Ok-find_attributes-clause-all g c image told ordered =
    let tree = view_tree g.K.TreeKey.shape image c.args.site.now c.args.volume.now c.args.view.now in
    if_as (λ v. (names : Names) → HasKindIn names tree c.args.view.now.root_oid c.args.id attribute_record) (λ v. HasKindIn c.args.volume.now.names tree c.args.view.now.root_oid c.args.id attribute_record) c.in-Ok-find_attributes.run' (λ v h. h c.args.volume.now.names)
    (says_at (λ t r. IfSome c.in-Ok-find_attributes.run' (λ v. (names : Names) → HasKindIn names t r c.args.id attribute_record)) c.in-Ok.cursor image (c.in-Ok.ensures.tree image) c.in-Ok.ensures.root ordered
    (c.in-Ok-find_attributes.ensures.all image (c.in-Ok.ensures.kept.same_bytes ∙ told) (c.in-Ok.ensures.within image told)))
