use Rattle.std.proofs.Common.{◌≡◌, Ok, ap, sym, ◌∙◌}
use Rattle.bt_cursor.specs.Tree.{tree_in, look_in, root_place}
use Rattle.bt_cursor.specs.Stack.{IsIn, bottom}
use Rattle.bt_cursor.proofs.Suffixes.{way-start}
use Rattle.bt_cursor.proofs.cursor.Cursor.first.Goals as goal

pub returns-clause-left : goal.returns-clause-left
returns-clause-left g c image on =
    let self = c.args.self.now in
    let look = look_in g.K.TreeKey.shape self.site (g.N.Namer.named self.namer) image in
    let tree = tree_in g.K.TreeKey.shape self.site (g.N.Namer.named self.namer) image in
    let way = c.back.new.way in
    let within : IsIn tree self.root way.above.items way.last = c.back.ensures.within look self.root on in
    let base : look (root_place self.root) ≡ Ok way.last.block.items = within.base ∙ ap (λ ss. Ok (bottom ss way.last).block.items) c.back.ensures.above in
    let at : way.last.at ≡ root_place self.root = ap (λ ss. (bottom ss way.last).at) (sym c.back.ensures.above) ∙ within.base_at in
    way-start tree self.root way.above.items way.last c.back.ensures.above c.back.ensures.next at base
