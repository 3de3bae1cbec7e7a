use Rattle.std.proofs.Common.{rules, ◌≡◌, true}
use Rattle.bt_cursor.specs.Cursors.{passed_of}
use Rattle.path_search.proofs.Searched.{pair_same}
use Rattle.path_read.proofs.Searched.{goes_whole}
use Rattle.path_read.proofs.search.take_next.Goals as goal

pub returns-clause-whole : goal.returns-clause-whole
returns-clause-whole g c image told =
    let on : c.in-Ok.more ≡ true = search rules in
    goes_whole image c.args.cursor.now c.next.new.self c.args.id _ c.in-Ok.more c.in_ok-took.took (c.in-Ok.ensures.moved image told) on (pair_same _ _ (passed_of c.next.new.self) c.item.ensures.key_bytes c.item.ensures.value) c.in_ok-took.ensures.run
