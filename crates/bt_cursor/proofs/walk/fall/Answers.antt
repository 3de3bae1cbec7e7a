use Rattle.std.proofs.Common.{◌≡◌, ℕ, ◌+◌, ◌-◌, ◌<◌, ◌≤◌, true, Bool, List, ◌++◌, ap, sym, ◌∙◌, subst, arith}
use Rattle.std.specs.Prelude.{is_ok}
use Rattle.bt_node.specs.Node.{level_of}
use Rattle.bt_node.specs.declared.node.NodeAt.{NodeAt}
use Rattle.bt_cursor.specs.Tree.{tree_in}
use Rattle.bt_cursor.specs.Ahead.{line_from, rest, ahead_if, passed_pair, passed_child}
use Rattle.bt_cursor.specs.declared.way.Step.{Step}
use Rattle.bt_cursor.specs.Fuel.{fuel_way, fuel_if}
use Rattle.bt_cursor.specs.Seen.{reads_for}
use Rattle.bt_cursor.proofs.Lines.{line-down}
use Rattle.bt_cursor.proofs.Steps.{gap-told}
use Rattle.bt_cursor.proofs.walk.fall.Goals as goal

pub returns-in-Ok : goal.returns-in-Ok
returns-in-Ok g c =
    let tree = λ (image : List ℕ). tree_in g.K.TreeKey.shape c.args.site.now (g.N.Namer.named c.args.namer.now) image in
    let old = c.args.way.now in
    let lower = c.enter.new.way.last in
    let deep : c.args.deep ≡ true = c.if-not-deep.false in
    let e = c.in-Ok.ensures in
    record {
      way = e.way;
      within = e.within;
      entered = λ image told on. ap (λ r. is_ok r) (e.found image told);
      gap = λ image told. tt;
      back = tt;
      present = λ image told root within. tt;
      of_nodes = tt;
      same = λ image told.
          ap (λ ss. line_from (tree image) lower.at.oid lower.block.items lower.next ++ rest (tree image) ss) e.above
          ∙ (line-down (tree image) old.above.items old.last lower (passed_pair g.K.TreeKey.shape old) (level_of old.last.block.items - 1) (e.found image told) (omega (arith, e.level)) (ap (λ (a : NodeAt). a.oid) e.at) e.first
          ∙ ap (λ (d : Bool). ahead_if (tree image) d old) (sym deep));
      fuel = subst (λ d. fuel_way c.enter.new.way ≤ fuel_if d old) (sym deep) (omega (arith, e.fuel));
      reads = subst (λ d. g.S.BlockSource.reads c.enter.new.src ≤ g.S.BlockSource.reads c.args.src.now + reads_for d) (sym deep) e.reads;
      cause = e.cause;
      no_memory = e.no_memory;
      kept = e.kept;
    }

pub returns-in-Err : goal.returns-in-Err
returns-in-Err g c =
    let old = c.args.way.now in
    let deep : c.args.deep ≡ true = c.if-not-deep.false in
    let e = c.in-Err.ensures in
    record { way = e.way; same = λ image told. tt; entered = λ image told. tt; fuel = tt; within = e.within; present = e.present; of_nodes = e.of_nodes; gap = λ image told. gap-told (tree_in g.K.TreeKey.shape c.args.site.now (g.N.Namer.named c.args.namer.now) image) c.args.deep (passed_child g.K.TreeKey.shape old) c.in-Err.stop deep (e.found image told); back = λ on. record { upper = subst (λ (s : Step). 0 < level_of s.block.items) (sym e.same_last) (c.requires.deep on).upper; some = subst (λ (s : Step). 0 < s.next) (sym e.same_last) (c.requires.deep on).some }; reads = subst (λ d. g.S.BlockSource.reads c.enter.new.src ≤ g.S.BlockSource.reads c.args.src.now + reads_for d) (sym deep) e.reads; cause = e.cause; no_memory = e.no_memory; kept = e.kept }
