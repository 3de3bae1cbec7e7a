use Rattle.std.proofs.Common.{◌≡◌, ◌≤◌, ◌++◌, [], ◌∷◌, length, length-append, ap, ◌∙◌, arith, rules}
use Rattle.bt_node.specs.Node.{count_of}
use Rattle.bt_cursor.specs.Tree.{tree_by}
use Rattle.bt_cursor.specs.Ahead.{line_from, rest, gapped_from, gapped_rest}
use Rattle.bt_cursor.specs.declared.way.Step.{Step}
use Rattle.bt_cursor.proofs.Lines.{line-up, line_from_end}
use Rattle.bt_cursor.proofs.Gaps.{gapped-up, gapped_end}
use Rattle.bt_cursor.proofs.Fuels.{fuel-up}
use Rattle.bt_cursor.proofs.Ways.{IsWay-up, IsIn-up}
use Rattle.bt_cursor.proofs.walk.climb.Goals as goal

pub climb-preserved : goal.climb-preserved
climb-preserved g c =
    let shape = g.K.TreeKey.shape in
    let taken : c.climb.way.above.items ≡ c.up.new.way.above.items ++ c.up.new.way.last ∷ [] = search rules in
    let spare : c.up.new.way.spare.items ≡ c.climb.way.spare.items ++ c.climb.way.last ∷ [] = search rules in
    let past : count_of c.climb.way.last.block.items ≤ c.climb.way.last.next = omega arith in
    record {
      way = IsWay-up shape c.args.site.now c.up.new.way.above.items c.climb.way.above.items c.up.new.way.last c.climb.way.last c.climb.way.spare.items c.up.new.way.spare.items c.climb.invariant.way taken spare;
      same = λ look. line-up (tree_by shape look) c.up.new.way.above.items c.climb.way.above.items c.up.new.way.last c.climb.way.last taken past ∙ c.climb.invariant.same look;
      same_gapped = λ look. gapped-up (tree_by shape look) c.up.new.way.above.items c.climb.way.above.items c.up.new.way.last c.climb.way.last taken past ∙ c.climb.invariant.same_gapped look;
      depth = omega (arith, ap length taken, ap length spare, length-append c.up.new.way.above.items (c.up.new.way.last ∷ []), length-append c.climb.way.spare.items (c.climb.way.last ∷ []), c.climb.invariant.depth);
      fuel = omega (arith, fuel-up c.up.new.way.above.items c.climb.way.above.items c.up.new.way.last c.climb.way.last taken past, c.climb.invariant.fuel);
      within = λ look root within. IsIn-up (tree_by shape look) root c.up.new.way.above.items c.climb.way.above.items c.up.new.way.last c.climb.way.last (c.climb.invariant.within look root within) taken;
    }

pub returns-then-not-up-clause-same : goal.returns-then-not-up-clause-same
returns-then-not-up-clause-same g c look =
    let tree = tree_by g.K.TreeKey.shape look in
    let last : c.up.new.way.last ≡ c.climb.way.last = search rules in
    let above : c.up.new.way.above.items ≡ c.climb.way.above.items = search rules in
    ap (λ (s : Step). line_from tree s.at.oid s.block.items s.next ++ rest tree c.up.new.way.above.items) last
    ∙ (ap (λ ss. line_from tree c.climb.way.last.at.oid c.climb.way.last.block.items c.climb.way.last.next ++ rest tree ss) above ∙ c.climb.invariant.same look)

pub returns-then-not-up-clause-end : goal.returns-then-not-up-clause-end
returns-then-not-up-clause-end g c not_up look =
    let tree = tree_by g.K.TreeKey.shape look in
    let past : count_of c.climb.way.last.block.items ≤ c.climb.way.last.next = omega arith in
    let last : c.up.new.way.last ≡ c.climb.way.last = search rules in
    let none : c.up.new.way.above.items ≡ [] = search rules in
    ap (λ (s : Step). line_from tree s.at.oid s.block.items s.next ++ rest tree c.up.new.way.above.items) last
    ∙ (ap (λ xs. xs ++ rest tree c.up.new.way.above.items) (line_from_end tree c.climb.way.last.at.oid c.climb.way.last.block.items c.climb.way.last.next past) ∙ ap (rest tree) none)

pub returns-then-not-up-clause-same_gapped : goal.returns-then-not-up-clause-same_gapped
returns-then-not-up-clause-same_gapped g c look =
    let tree = tree_by g.K.TreeKey.shape look in
    let last : c.up.new.way.last ≡ c.climb.way.last = search rules in
    let above : c.up.new.way.above.items ≡ c.climb.way.above.items = search rules in
    ap (λ (s : Step). gapped_from tree s.at.oid s.block.items s.next ++ gapped_rest tree c.up.new.way.above.items) last
    ∙ (ap (λ ss. gapped_from tree c.climb.way.last.at.oid c.climb.way.last.block.items c.climb.way.last.next ++ gapped_rest tree ss) above ∙ c.climb.invariant.same_gapped look)

pub returns-then-not-up-clause-end_gapped : goal.returns-then-not-up-clause-end_gapped
returns-then-not-up-clause-end_gapped g c not_up look =
    let tree = tree_by g.K.TreeKey.shape look in
    let past : count_of c.climb.way.last.block.items ≤ c.climb.way.last.next = omega arith in
    let last : c.up.new.way.last ≡ c.climb.way.last = search rules in
    let none : c.up.new.way.above.items ≡ [] = search rules in
    ap (λ (s : Step). gapped_from tree s.at.oid s.block.items s.next ++ gapped_rest tree c.up.new.way.above.items) last
    ∙ (ap (λ xs. xs ++ gapped_rest tree c.up.new.way.above.items) (gapped_end tree c.climb.way.last.at.oid c.climb.way.last.block.items c.climb.way.last.next past) ∙ ap (gapped_rest tree) none)
