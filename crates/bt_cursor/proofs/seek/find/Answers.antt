use Rattle.std.proofs.Common.{◌-◌, sym, subst, arith, rules, All, ◌∙◌}
use Rattle.std.proofs.lemmas.List.Elements.{All-nil, All-push}
use Rattle.obj_base.specs.Stops.{Tells}
use Rattle.bt_node.specs.Node.{level_of}
use Rattle.bt_cursor.specs.Tree.{tree_in, look_in}
use Rattle.bt_cursor.specs.Faults.{IsNodeFault, HasFeature}
use Rattle.bt_cursor.specs.Gaps.{gapped_of}
use Rattle.bt_cursor.specs.Search.{IsCutStep, StopsSearch}
use Rattle.bt_cursor.specs.declared.way.Step.{Step}
use Rattle.bt_cursor.proofs.Ways.{IsIn-moved}
use Rattle.bt_cursor.proofs.Suffixes.{cut-stop}
use Rattle.bt_cursor.proofs.seek.find.Goals as goal

pub returns-then-i-eq0-clause-within : goal.returns-then-i-eq0-clause-within
returns-then-i-eq0-clause-within g c image told root within =
    IsIn-moved (tree_in g.K.TreeKey.shape c.args.site.now (g.N.Namer.named c.args.namer.now) image) root c.descend.way.above.items c.descend.way.last c.cut-i.result (c.descend.invariant.within image told root within)

pub returns-then-i-eq0-clause-cut : goal.returns-then-i-eq0-clause-cut
returns-then-i-eq0-clause-cut g c = record { each = c.descend.invariant.cuts; here = c.cut-i.ensures.cut; leaf = λ some. absurd (omega arith) }

pub returns-then-level-eq0-clause-within : goal.returns-then-level-eq0-clause-within
returns-then-level-eq0-clause-within g c image told root within =
    IsIn-moved (tree_in g.K.TreeKey.shape c.args.site.now (g.N.Namer.named c.args.namer.now) image) root c.descend.way.above.items c.descend.way.last c.cut-i.result (c.descend.invariant.within image told root within)

pub returns-then-level-eq0-clause-cut : goal.returns-then-level-eq0-clause-cut
returns-then-level-eq0-clause-cut g c = record { each = c.descend.invariant.cuts; here = c.cut-i.ensures.cut; leaf = λ some. omega arith }

pub descend-preserved : goal.descend-preserved
descend-preserved g c =
    let shape = g.K.TreeKey.shape in
    let last = c.descend.way.last in
    let moved : Step = record last { next = c.cut-i.result } in
    let above = c.descend.way.above.items in
    let cuts = All-push (IsCutStep shape c.args.rank.now) above moved c.descend.invariant.cuts c.cut-i.ensures.cut in
    record {
      way = c.in_ok-enter.ensures.way;
      within = λ image told root within. c.in_ok-enter.ensures.within image (search rules) root (IsIn-moved (tree_in shape c.args.site.now (g.N.Namer.named c.args.namer.now) image) root above last c.cut-i.result (c.descend.invariant.within image told root within));
      cuts = subst (All (IsCutStep shape c.args.rank.now)) (sym c.in_ok-enter.ensures.above) cuts;
      depth = c.in_ok-enter.ensures.depth ∙ c.descend.invariant.depth;
      reads = omega (arith, c.in_ok-enter.ensures.reads, c.in_ok-enter.ensures.spare, c.descend.invariant.reads);
      kept = search rules;
    }

pub descend-init : goal.descend-init
descend-init g c = record {
  way = c.back.ensures.way;
  within = λ image told root within. c.back.ensures.within (look_in g.K.TreeKey.shape c.args.site.now (g.N.Namer.named c.args.namer.now) image) root within;
  cuts = subst (All (IsCutStep g.K.TreeKey.shape c.args.rank.now)) (sym c.back.ensures.above) (All-nil (IsCutStep g.K.TreeKey.shape c.args.rank.now));
  depth = c.back.ensures.depth;
  reads = omega (arith, c.back.ensures.depth);
  kept = search rules;
}

pub returns-in_err-enter-clause-within : goal.returns-in_err-enter-clause-within
returns-in_err-enter-clause-within g c image told root within =
    let tree = tree_in g.K.TreeKey.shape c.args.site.now (g.N.Namer.named c.args.namer.now) image in
    c.in_err-enter.ensures.within image (search rules) root (IsIn-moved tree root c.descend.way.above.items c.descend.way.last c.cut-i.result (c.descend.invariant.within image told root within))

pub returns-in_err-enter-clause-present : goal.returns-in_err-enter-clause-present
returns-in_err-enter-clause-present g c image told root within =
    let tree = tree_in g.K.TreeKey.shape c.args.site.now (g.N.Namer.named c.args.namer.now) image in
    let present : Tells (IsNodeFault tree root) (HasFeature tree root) c.in_err-enter.field-0.0 =
    c.in_err-enter.ensures.present image (search rules) root (IsIn-moved tree root c.descend.way.above.items c.descend.way.last c.cut-i.result (c.descend.invariant.within image told root within)) in
    search rules

pub returns-in_err-enter-clause-stops : goal.returns-in_err-enter-clause-stops
returns-in_err-enter-clause-stops g c image told root within =
    let shape = g.K.TreeKey.shape in
    let tree = tree_in shape c.args.site.now (g.N.Namer.named c.args.namer.now) image in
    let last = c.descend.way.last in
    let moved : Step = record last { next = c.cut-i.result } in
    let above = c.descend.way.above.items in
    let here = IsIn-moved tree root above last c.cut-i.result (c.descend.invariant.within image told root within) in
    let stops : StopsSearch shape c.args.rank.now (gapped_of tree root) c.in_err-enter.field-0.0 =
    cut-stop tree root c.args.rank.now above moved (level_of last.block.items - 1) (c.cut-i.result - 1) c.in_err-enter.field-0.0 here c.descend.invariant.cuts c.cut-i.ensures.cut (omega arith) (omega (arith, c.cut-i.ensures.inside)) (omega arith) (c.in_err-enter.ensures.found image (search rules)) in
    search rules
