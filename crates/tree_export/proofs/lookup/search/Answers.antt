use Rattle.std.proofs.Common.{◌∙◌, List, subst}
use Rattle.bt_node.specs.Entries.{Pair}
use Rattle.bt_cursor.specs.Flat.{flat_of}
use Rattle.bt_cursor.specs.Cursors.{root_of, tree_of}
use Rattle.vol_view.specs.Views.{view_tree}
use Rattle.path_search.proofs.Searched.{flat_at, tells_at}
use Rattle.path_search.proofs.Stays.{says_at}
use Rattle.tree_export.specs.Parts.{TellsOrdered, TellsRecord}
use Rattle.tree_export.proofs.lookup.search.Goals as goal

pub returns-in-Ok-find_inode-clause-ordered : goal.returns-in-Ok-find_inode-clause-ordered
returns-in-Ok-find_inode-clause-ordered g c image told ordered =
    says_at (λ t r. TellsOrdered (flat_of t r) c.args.id c.in-Ok-find_inode.sought) c.in-Ok.cursor image (c.in-Ok.ensures.tree image) c.in-Ok.ensures.root ordered
    (c.in-Ok-find_inode.ensures.ordered image (c.in-Ok.ensures.kept.same_bytes ∙ told) (c.in-Ok.ensures.within image told))

pub returns-in-Ok-find_inode-clause-record : goal.returns-in-Ok-find_inode-clause-record
returns-in-Ok-find_inode-clause-record g c image told =
    let tree = view_tree g.K.TreeKey.shape image c.args.site.now c.args.volume.now c.args.view.now in
    let same = flat_at (tree_of c.in-Ok.cursor image) tree (root_of c.in-Ok.cursor) c.args.view.now.root_oid (c.in-Ok.ensures.tree image) c.in-Ok.ensures.root in
    subst (λ (ps : List Pair). TellsRecord ps c.args.id c.in-Ok-find_inode.sought) same
    (c.in-Ok-find_inode.ensures.record image (c.in-Ok.ensures.kept.same_bytes ∙ told) (c.in-Ok.ensures.within image told))

pub returns-clause-present : goal.returns-clause-present
returns-clause-present g c image told =
    tells_at (tree_of c.in-Ok.cursor image) (view_tree g.K.TreeKey.shape image c.args.site.now c.args.volume.now c.args.view.now) (root_of c.in-Ok.cursor) c.args.view.now.root_oid c.in-Err-find_inode.stop (c.in-Ok.ensures.tree image) c.in-Ok.ensures.root
    (c.in-Err-find_inode.ensures.present image (c.in-Ok.ensures.kept.same_bytes ∙ told) (c.in-Ok.ensures.within image told))
