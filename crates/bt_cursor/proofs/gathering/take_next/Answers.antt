use Rattle.std.proofs.Common.{rules, ◌≡◌, ◌∙◌, ◌∷◌, ◌++◌, [], true, false, ap, sym, subst}
use Rattle.std.specs.Prelude.{option_map}
use Rattle.std.proofs.lemmas.Bool.{false≢true}
use Rattle.obj_base.specs.Stops.{Tells}
use Rattle.obj_base.specs.declared.stop.Stop.TheVariants.{ReadFault}
use Rattle.bt_cursor.specs.declared.gathering.GatherFault.TheVariants.{Refused}
use Rattle.bt_cursor.specs.Line.{Item}
use Rattle.bt_cursor.specs.WholeTree.{child_id}
use Rattle.bt_cursor.specs.Faults.{HasFeature}
use Rattle.bt_cursor.specs.Liners.{tree_of, root_of, item_of, HasItemIf, Sees, Passes}
use Rattle.bt_cursor.specs.Gathered.{shown, IsGatherFault}
use Rattle.bt_cursor.proofs.Ends.{ok-not, read-not}
use Rattle.bt_cursor.proofs.Gathers.{walk_tells, taken-more, taken-all, refused-there, shown-is, not-refused, not-kept}
use Rattle.bt_cursor.proofs.gathering.take_next.Goals as goal

pub returns-in-Err-clause-present : goal.returns-in-Err-clause-present
returns-in-Err-clause-present g c start had image told =
    let tree = tree_of c.args.liner.now image in
    let root = root_of c.args.liner.now in
    let refuses = g.P.Keeper.refuses in
    subst (Tells (IsGatherFault tree root refuses) (HasFeature tree root)) (sym c.raise.ensures)
    (walk_tells tree root refuses c.in-Err.stop (c.in-Err.ensures.present image told had.passed (had.walked image told).has))

pub returns-then-not-more : goal.returns-then-not-more
returns-then-not-more g c =
    let old = c.args.liner.now in
    let new = c.next.new.self in
    let e = c.in-Ok.ensures in
    let end : c.in-Ok.more ≡ false = c.if-not-more.true in
    record {
      site = e.site;
      root = e.root;
      tree = e.tree;
      kept = e.kept;
      refused = tt;
      present = λ start had image told. tt;
      taken = λ start had. taken-all (g.S.BlockSource.bytes c.args.src.now) (g.P.Keeper.holds c.args.keeper.now) g.P.Keeper.refuses c.args.number start (g.S.BlockSource.reads c.args.src.now) (g.S.BlockSource.reads c.next.new.src) old new had
          (λ image told. subst (λ b. Passes image had.passed old new b) end (e.passed image told had.passed (had.walked image told).has)) e.reads;
      fuel = λ more. absurd (false≢true more);
      cause = ok-not false ReadFault;
    }

pub keep-requires-clause-child : goal.keep-requires-clause-child
keep-requires-clause-child g c =
    c.item.ensures.child ∙ ap child_id (sym (shown-is c.item.result.node c.item.result.at c.item.result.level c.item.result.pair.key_bytes.now (option_map (λ value. value.now) c.item.result.pair.value) (item_of c.next.new.self) c.item.ensures.node c.item.ensures.at c.item.ensures.level c.item.ensures.key_bytes c.item.ensures.value))

pub returns-clause-taken : goal.returns-clause-taken
returns-clause-taken g c start had =
    let old = c.args.liner.now in
    let new = c.next.new.self in
    let item = shown c.item.result.node c.item.result.at c.item.result.level c.item.result.pair.key_bytes.now (option_map (λ value. value.now) c.item.result.pair.value) in
    let same : item ≡ item_of new = shown-is c.item.result.node c.item.result.at c.item.result.level c.item.result.pair.key_bytes.now (option_map (λ value. value.now) c.item.result.pair.value) (item_of new) c.item.ensures.node c.item.ensures.at c.item.ensures.level c.item.ensures.key_bytes c.item.ensures.value in
    let on : c.in-Ok.more ≡ true = search rules in
    let kept : c.in_ok-kept.kept ≡ true = search rules in
    let right = not-refused c.in_ok-kept.kept (g.P.Keeper.refuses item) c.in_ok-kept.ensures.refused kept in
    taken-more (g.S.BlockSource.bytes c.args.src.now) (g.P.Keeper.holds c.args.keeper.now) (g.P.Keeper.holds c.keep.new.self) g.P.Keeper.refuses c.args.number start (g.S.BlockSource.reads c.args.src.now) (g.S.BlockSource.reads c.next.new.src) old new had
    (subst (λ (i : Item). g.P.Keeper.holds c.keep.new.self (had.passed ++ i ∷ [])) same (c.in_ok-kept.ensures.held had.passed had.held kept))
    (sym (ap g.P.Keeper.refuses same) ∙ right)
    (subst (λ b. Sees old new b) on c.in-Ok.ensures.seen)
    (subst (λ b. HasItemIf new b) on c.in-Ok.ensures.stands)
    (λ image told. subst (λ b. Passes image had.passed old new b) on (c.in-Ok.ensures.passed image told had.passed (had.walked image told).has))
    c.in-Ok.ensures.reads

pub returns-then-not-kept : goal.returns-then-not-kept
returns-then-not-kept g c =
    let old = c.args.liner.now in
    let new = c.next.new.self in
    let e = c.in-Ok.ensures in
    let item = shown c.item.result.node c.item.result.at c.item.result.level c.item.result.pair.key_bytes.now (option_map (λ value. value.now) c.item.result.pair.value) in
    let same : item ≡ item_of new = shown-is c.item.result.node c.item.result.at c.item.result.level c.item.result.pair.key_bytes.now (option_map (λ value. value.now) c.item.result.pair.value) (item_of new) c.item.ensures.node c.item.ensures.at c.item.ensures.level c.item.ensures.key_bytes c.item.ensures.value in
    let wrong = not-kept c.in_ok-kept.kept (g.P.Keeper.refuses item) c.in_ok-kept.ensures.refused c.if-not-kept.true in
    record {
      site = e.site;
      root = e.root;
      tree = e.tree;
      kept = e.kept;
      taken = λ start had. tt;
      fuel = tt;
      present = λ start had image told.
          refused-there (g.S.BlockSource.bytes c.args.src.now) (g.P.Keeper.holds c.args.keeper.now) g.P.Keeper.refuses c.args.number start (g.S.BlockSource.reads c.args.src.now) old new had image e.tree e.root
          (subst (λ b. Passes image had.passed old new b) c.if-not-more.false (e.passed image told had.passed (had.walked image told).has))
          (sym (ap g.P.Keeper.refuses same) ∙ wrong);
      refused = (item, wrong);
      cause = read-not (Refused c.args.number);
    }

pub returns-clause-fuel : goal.returns-clause-fuel
returns-clause-fuel g c moved = c.in-Ok.ensures.fuel (search rules)
