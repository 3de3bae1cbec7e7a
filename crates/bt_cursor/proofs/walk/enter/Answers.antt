use Rattle.std.proofs.Common.{◌≡◌, ℕ, List, Some, suc, refl, ◌+◌, ◌-◌, [], ◌∷◌, length, length-append, ap, sym, ◌∙◌, subst, arith, rules, Err}
use Rattle.obj_base.specs.Stops.{Tells}
use Rattle.obj_base.specs.declared.stop.Stop.TheVariants.{Found, Unsupported}
use Rattle.bt_node.specs.Node.{level_of}
use Rattle.bt_node.specs.Entries.{pair_of}
use Rattle.bt_cursor.specs.Tree.{tree_in, child_place}
use Rattle.bt_cursor.specs.Met.{after}
use Rattle.bt_cursor.proofs.Nodes.{node-child, node-some, step_few, gap_fault}
use Rattle.bt_cursor.proofs.Fuels.{fuel_push, fuel-child}
use Rattle.bt_cursor.proofs.Ways.{IsWay-down, IsWay-back, IsIn-down}
use Rattle.bt_cursor.proofs.walk.enter.Goals as goal

pub returns-in-Err : goal.returns-in-Err
returns-in-Err g c =
    let shape = g.K.TreeKey.shape in
    let tree = λ (image : List ℕ). tree_in shape c.args.site.now (g.N.Namer.named c.args.namer.now) image in
    let way = c.args.way.now in
    let last = way.last in
    let pair = pair_of shape last.block.items c.args.i in
    let high : level_of last.block.items ≡ suc (level_of last.block.items - 1) = omega arith in
    let taken = rw c.unwrap-lower.ensures at c.pop.ensures.items in
    let pushed = c.push_reserved-in-Err.ensures.items in
    let e = c.in-Err.ensures in
    let found = λ (image : List ℕ) (told : g.S.BlockSource.bytes c.args.src.now ≡ Some image).
    subst (λ a. Tells (λ f. (tree image).look a ≡ Err (Found f)) (λ name block. (tree image).look a ≡ Err (Unsupported name block)) c.in-Err.stop) (search rules) (e.found image told) in
    record {
      found = found;
      at = tt;
      above = tt;
      first = tt;
      level = tt;
      spare = tt;
      fuel = tt;
      some = tt;
      same_above = refl;
      same_last = refl;
      way = rw pushed (IsWay-back shape c.args.site.now way.above.items last c.unwrap-lower.result c.load.new.into way.spare.items c.pop.new.self.items c.requires.way taken c.load.ensures.long);
      depth = omega (arith, ap length taken, ap length pushed, length-append c.pop.new.self.items (c.unwrap-lower.result ∷ []), length-append c.pop.new.self.items (c.load.new.into ∷ []));
      within = λ image told root within. within;
      present = λ image told root within. gap_fault (tree image) root (child_place (level_of last.block.items - 1) pair) c.in-Err.stop (after last.at last.block.items (level_of last.block.items - 1) c.args.i within.hold_last.met within.hold_last.node high c.requires.low) e.of_nodes (found image told);
      of_nodes = e.of_nodes;
      reads = e.reads;
      cause = e.cause;
      no_memory = e.no_memory;
      kept = e.kept;
    }

pub returns-in-Ok : goal.returns-in-Ok
returns-in-Ok g c =
    let shape = g.K.TreeKey.shape in
    let site = c.args.site.now in
    let tree = λ (image : List ℕ). tree_in shape site (g.N.Namer.named c.args.namer.now) image in
    let way = c.args.way.now in
    let last = way.last in
    let level = level_of last.block.items - 1 in
    let lower = c.load.new.into in
    let e = c.in-Ok.ensures in
    let taken = rw c.unwrap-lower.ensures at c.pop.ensures.items in
    let pushed = c.push_reserved.ensures.items in
    let after = c.replace-upper.ensures.after in
    let value = c.replace-upper.ensures.value in
    let high : level_of last.block.items ≡ suc level = omega arith in
    let place : lower.at ≡ child_place level (pair_of shape last.block.items c.args.i) = search rules in
    let below : level_of lower.block.items ≡ level = node-child shape site lower.at lower.block.items level (pair_of shape last.block.items c.args.i) e.step.node place in
    let next : level_of lower.block.items + 1 ≡ level_of last.block.items = omega (arith, below) in
    let found = λ (image : List ℕ) (told : g.S.BlockSource.bytes c.args.src.now ≡ Some image). sym (ap (tree image).look (search rules)) ∙ e.found image told in
    record {
      found = λ image told. rw after (found image told);
      at = rw after place;
      above = rw (pushed, value) refl;
      first = rw after e.first;
      level = rw after next;
      way = rw (pushed, after, value) (IsWay-down shape site way.above.items last lower c.unwrap-lower.result way.spare.items c.pop.new.self.items c.requires.way taken e.step next);
      spare = omega (arith, ap length taken, length-append c.pop.new.self.items (c.unwrap-lower.result ∷ []));
      depth = omega (arith, ap length taken, ap length pushed, length-append c.pop.new.self.items (c.unwrap-lower.result ∷ []), length-append way.above.items (c.replace-upper.result ∷ []));
      fuel = rw (pushed, after, value) (omega (arith, fuel-child lower.block.items lower.next level (step_few shape site lower e.step) below, fuel_push way.above.items last));
      some = rw after (node-some shape site lower.at lower.block.items e.step.node (search rules));
      within = λ image told root within. rw (pushed, after, value) (IsIn-down (tree image) root way.above.items last lower level c.args.i within high c.requires.passed c.requires.low place below (found image told));
      present = λ image told root within. tt;
      of_nodes = tt;
      same_above = tt;
      same_last = tt;
      reads = e.reads;
      cause = e.cause;
      no_memory = e.no_memory;
      kept = e.kept;
    }
