use Rattle.std.proofs.Common.{rules, ◌≡◌, ◌∙◌, ◌∷◌, true, ap, sym}
use Rattle.bt_node.specs.Entries.{Pair}
use Rattle.bt_cursor.specs.Cursors.{left_of, passed_of}
use Rattle.path_search.specs.Parts.{first_inode}
use Rattle.path_search.proofs.Searched.{moved_on, pair_same}
use Rattle.path_search.proofs.search.next_inode.Goals as goal

pub returns-clause-found : goal.returns-clause-found
returns-clause-found g c image told =
    let on : c.in-Ok.more ≡ true = search rules in
    c.inode_in.ensures (left_of c.next.new.self image)
    ∙ ap (first_inode g.K.TreeKey.shape c.args.id) (ap (λ (p : Pair). p ∷ left_of c.next.new.self image) (pair_same _ _ (passed_of c.next.new.self) c.item.ensures.key_bytes c.item.ensures.value) ∙ sym (moved_on image c.args.cursor.now c.next.new.self c.in-Ok.more (c.in-Ok.ensures.moved image told) on))
