use Rattle.std.proofs.Common.{rules, ◌≡◌, ◌∙◌, ◌∷◌, true, ap, sym}
use Rattle.bt_node.specs.Entries.{Pair}
use Rattle.bt_cursor.specs.Cursors.{left_of, passed_of}
use Rattle.path_search.proofs.Searched.{moved_on, pair_same}
use Rattle.tree_export.specs.Parts.{first_record, sought_as}
use Rattle.tree_export.proofs.search.next_inode.Goals as goal

pub returns-clause-found : goal.returns-clause-found
returns-clause-found g c image told =
    let on : c.in-Ok.more ≡ true = search rules in
    c.sought_in.ensures (left_of c.next.new.self image)
    ∙ ap (λ ps. sought_as (first_record g.K.TreeKey.shape c.args.id ps)) (ap (λ (p : Pair). p ∷ left_of c.next.new.self image) (pair_same _ _ (passed_of c.next.new.self) c.item.ensures.key_bytes c.item.ensures.value) ∙ sym (moved_on image c.args.cursor.now c.next.new.self c.in-Ok.more (c.in-Ok.ensures.moved image told) on))
