use Rattle.std.proofs.Common.{rules, ◌≡◌, ◌∙◌, ◌++◌, suc, true, ℕ, List, Some, ap, sym, arith}
use Rattle.bt_node.specs.Node.{level_of}
use Rattle.bt_node.specs.SoundNode.{info_of}
use Rattle.bt_cursor.specs.Tree.{tree_in, root_place, node_at}
use Rattle.view_change.specs.Outline.{separators_of}
use Rattle.view_change.proofs.Outlines.{outline-top}
use Rattle.view_change.proofs.outline.top.Goals as goal

pub returns-clause-outlined : goal.returns-clause-outlined
returns-clause-outlined g c image told =
    let shape = g.K.TreeKey.shape in
    let reads = g.S.BlockSource.reads in
    let tree = tree_in shape c.args.site.now (g.N.Namer.named c.args.namer.now) image in
    let node : List ℕ = c.load.new.into in
    let read : c.in_ok-load.field-0 ≡ true = search rules in
    let there : node_at tree (root_place c.args.root) ≡ Some node = c.in_ok-load.ensures.found image told read in
    let info : info_of node ≡ Some c.in-Some.info = sym (c.info.ensures ∙ ap info_of c.kept-view.ensures) ∙ c.in-Some.is in
    let high : level_of node ≡ suc c.in-Some-checked_sub.level = omega (arith, c.level.ensures, ap level_of c.kept-view.ensures, c.in-Some-checked_sub.ensures.0, c.in-Some-checked_sub.ensures.1) in
    let all = c.in_ok-put_entries.ensures ∙ ap (λ xs. xs ++ separators_of shape node) c.new-separators.ensures.items in
    outline-top tree c.args.root (reads c.args.src.now) (reads c.load.new.src) node _ there high info all c.load.ensures.reads
