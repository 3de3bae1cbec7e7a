use Rattle.std.proofs.Common.{◌≡◌, ◌∙◌, ◌<◌, ◌∷◌, [], ◌++◌, ℕ, List, Some, ap, sym, subst, take, append_assoc, arith}
use Rattle.bt_node.specs.Node.{count_of}
use Rattle.bt_node.specs.Entries.{pair_of, child_of}
use Rattle.view_change.specs.Outline.{separators_of}
use Rattle.view_change.proofs.Outlines.{entry-taken}
use Rattle.view_change.proofs.outline.put_entries.Goals as goal

pub entries-preserved : goal.entries-preserved
entries-preserved g c =
    let shape = g.K.TreeKey.shape in
    let node : List ℕ = c.args.node.now in
    let old = c.args.into.now.items in
    let i = c.entries.i in
    let all = separators_of shape node in
    let low : i < count_of node = omega (arith, c.entries-test.true, c.len-i-end.ensures.count, ap count_of c.kept-view.ensures) in
    let read : shape.read (pair_of shape node i).key ≡ Some c.key.result = subst (λ (n : List ℕ). shape.read (pair_of shape n i).key ≡ Some c.key.result) c.kept-view.ensures c.key.ensures in
    let child : c.child.result ≡ child_of shape node i = subst (λ (n : List ℕ). c.child.result ≡ child_of shape n i) c.kept-view.ensures c.child.ensures.child in
    let last : List _ = record { rank = c.rank.result; child = Some c.child.result } ∷ [] in
    c.in_ok-push.ensures.items
    ∙ (ap (λ xs. xs ++ last) c.entries.invariant ∙ (append_assoc old (take i all) last ∙ ap (λ xs. old ++ xs) (sym (entry-taken shape node i c.key.result c.rank.result c.child.result low read c.rank.ensures child))))
