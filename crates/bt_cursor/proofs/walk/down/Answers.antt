use Rattle.std.proofs.Common.{◌≡◌, ℕ, suc, ◌+◌, ◌-◌, ◌<◌, ◌≤◌, List, ◌∷◌, ◌++◌, Some, Ok, refl, ap, sym, ◌∙◌, subst, arith}
use Rattle.bt_node.specs.Node.{level_of, count_of}
use Rattle.bt_node.specs.declared.node.NodeAt.{NodeAt}
use Rattle.bt_cursor.specs.Tree.{tree_in}
use Rattle.bt_node.specs.Entries.{pair_of}
use Rattle.bt_cursor.specs.declared.way.Step.{Step}
use Rattle.bt_cursor.specs.Line.{Item, item_at}
use Rattle.bt_cursor.specs.Gaps.{Gapped}
use Rattle.bt_cursor.specs.Ahead.{gapped_from, gapped_rest, gapped_ahead}
use Rattle.bt_cursor.proofs.Gaps.{gapped-down, stops-at}
use Rattle.bt_cursor.proofs.Fuels.{fuel-pass, weight-high, weight-some}
use Rattle.bt_cursor.proofs.Ways.{IsIn-moved}
use Rattle.bt_cursor.proofs.walk.down.Goals as goal

passed : (g : _) (c : goal.In-Ok g) (image : List ℕ) → g.S.BlockSource.bytes c.args.src.now ≡ Some image → gapped_ahead (tree_in g.K.TreeKey.shape c.args.site.now (g.N.Namer.named c.args.namer.now) image) c.args.way.now ≡
    Ok (item_at c.args.way.now.last.at.oid c.args.way.now.last.next (level_of c.args.way.now.last.block.items) (pair_of g.K.TreeKey.shape c.args.way.now.last.block.items c.args.way.now.last.next)) ∷ gapped_ahead (tree_in g.K.TreeKey.shape c.args.site.now (g.N.Namer.named c.args.namer.now) image) c.enter.new.way
passed g c image told =
    let tree = tree_in g.K.TreeKey.shape c.args.site.now (g.N.Namer.named c.args.namer.now) image in
    let last = c.args.way.now.last in
    let lower = c.enter.new.way.last in
    let high : level_of last.block.items ≡ suc (level_of last.block.items - 1) = omega arith in
    let level : level_of lower.block.items + 1 ≡ level_of last.block.items = c.in-Ok.ensures.level in
    let item : Gapped Item = Ok (item_at last.at.oid last.next (level_of last.block.items) (pair_of tree.shape last.block.items last.next)) in
    gapped-down tree c.args.way.now.above.items last (record last { next = last.next + 1 }) lower (level_of last.block.items - 1) last.next c.requires.left high refl refl refl (c.in-Ok.ensures.found image told) (omega arith) (ap (λ (a : NodeAt). a.oid) c.in-Ok.ensures.at) c.in-Ok.ensures.first
    ∙ sym (ap (λ ss. item ∷ (gapped_from tree lower.at.oid lower.block.items lower.next ++ gapped_rest tree ss)) c.in-Ok.ensures.above)

pub returns-in-Ok : goal.returns-in-Ok
returns-in-Ok g c =
    let tree = λ (image : List ℕ). tree_in g.K.TreeKey.shape c.args.site.now (g.N.Namer.named c.args.namer.now) image in
    let last = c.args.way.now.last in
    let lower = c.enter.new.way.last in
    let e = c.in-Ok.ensures in
    record { way = e.way; passed = passed g c; same = λ image told. tt; stops = λ image told. tt; depth = e.depth; reads = e.reads; level = e.level; more = subst (λ n. n < count_of lower.block.items) (sym e.first) e.some; within = λ image told root within. e.within image told root (IsIn-moved (tree image) root c.args.way.now.above.items last (last.next + 1) within); present = λ image told root within. tt; of_nodes = tt; cause = e.cause; no_memory = e.no_memory; kept = e.kept; fuel = omega (arith, e.fuel, fuel-pass last.block.items last.next (last.next + 1) c.requires.left refl, weight-high last.block.items c.requires.upper, weight-some (level_of last.block.items - 1)) }

pub returns-in-Err : goal.returns-in-Err
returns-in-Err g c =
    let tree = λ (image : List ℕ). tree_in g.K.TreeKey.shape c.args.site.now (g.N.Namer.named c.args.namer.now) image in
    let old = c.args.way.now in
    let last = old.last in
    let high : level_of last.block.items ≡ suc (level_of last.block.items - 1) = omega (arith, c.requires.upper) in
    let way = c.enter.new.way in
    let e = c.in-Err.ensures in
    let held = e.way.hold_last in
    record {
      way = record { hold = e.way.hold; hold_last = record { accepted = held.accepted; long = held.long; node = held.node; inside = subst (λ (s : Step). last.next ≤ count_of s.block.items) (sym e.same_last) c.requires.way.hold_last.inside }; levels = e.way.levels; level_last = e.way.level_last; buffers = e.way.buffers };
      passed = λ image told. tt;
      more = tt;
      level = tt;
      fuel = tt;
      depth = e.depth;
      reads = e.reads;
      same = λ image told. ap (λ (s : Step). gapped_from (tree image) s.at.oid s.block.items last.next ++ gapped_rest (tree image) way.above.items) e.same_last ∙ ap (λ ss. gapped_from (tree image) last.at.oid last.block.items last.next ++ gapped_rest (tree image) ss) e.same_above;
      stops = λ image told. stops-at (tree image) old.above.items last.at.oid last.block.items (level_of last.block.items - 1) last.next c.in-Err.stop c.requires.left high (e.found image told);
      within = λ image told root within. IsIn-moved (tree image) root way.above.items way.last last.next (e.within image told root (IsIn-moved (tree image) root old.above.items last (last.next + 1) within));
      present = λ image told root within. e.present image told root (IsIn-moved (tree image) root old.above.items last (last.next + 1) within);
      of_nodes = e.of_nodes;
      cause = e.cause;
      no_memory = e.no_memory;
      kept = e.kept;
    }
