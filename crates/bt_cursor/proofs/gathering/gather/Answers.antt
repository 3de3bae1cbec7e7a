use Rattle.std.proofs.Common.{rules, ◌≡◌, ◌∙◌, ℕ, false, ap, subst, arith}
use Rattle.obj_base.specs.Stops.{Tells}
use Rattle.bt_cursor.specs.Tree.{Tree, tree_in}
use Rattle.bt_cursor.specs.Faults.{HasFeature}
use Rattle.bt_cursor.specs.Liners.{tree_of, root_of}
use Rattle.bt_cursor.specs.Gathered.{IsGatherFault, HasTakenAll, Takes}
use Rattle.obj_base.specs.declared.stop.Stop.TheVariants.{ReadFault}
use Rattle.bt_cursor.proofs.Ends.{ok-not}
use Rattle.bt_cursor.proofs.Places.{tree-levelled}
use Rattle.bt_cursor.proofs.Gathers.{start_tells, gather-free, taken-told, all-told, all-gathered}
use Rattle.bt_cursor.proofs.gathering.gather.Goals as goal

pub returns-in-Err-clause-exact : goal.returns-in-Err-clause-exact
returns-in-Err-clause-exact g c image told whole none =
    let tree = tree_in g.K.TreeKey.shape c.args.site.now (g.N.Namer.named c.args.namer) image in
    gather-free tree c.args.root g.P.Keeper.refuses c.in-Err.stop (tree-levelled g.K.TreeKey.shape c.args.site.now (g.N.Namer.named c.args.namer) image) whole none
    (start_tells tree c.args.root g.P.Keeper.refuses c.in-Err.stop (c.in-Err.ensures.present image told))

pub returns-in-Err-take_next-clause-present : goal.returns-in-Err-take_next-clause-present
returns-in-Err-take_next-clause-present g c image told =
    let refuses = g.P.Keeper.refuses in
    let reads = g.S.BlockSource.reads in
    let bytes = g.S.BlockSource.bytes in
    let same = c.walk.invariant.kept.same_bytes in
    let taken = taken-told (bytes c.args.src.now) (bytes c.walk.src) (g.P.Keeper.holds c.walk.keeper) refuses c.walk.number (reads c.args.src.now) (reads c.walk.src) c.walk.liner same c.walk.invariant.taken in
    subst (λ (t : Tree g.row.K.Denot). Tells (IsGatherFault t c.args.root refuses) (HasFeature t c.args.root) c.in-Err-take_next.stop) (ap (λ f. f image) c.walk.invariant.tree)
    (subst (λ (r : ℕ). Tells (IsGatherFault (tree_of c.walk.liner image) r refuses) (HasFeature (tree_of c.walk.liner image) r) c.in-Err-take_next.stop) c.walk.invariant.root
    (c.in-Err-take_next.ensures.present (reads c.args.src.now) taken image (same ∙ told)))

pub returns-in-Err-take_next-clause-exact : goal.returns-in-Err-take_next-clause-exact
returns-in-Err-take_next-clause-exact g c image told whole none =
    let tree = tree_in g.K.TreeKey.shape c.args.site.now (g.N.Namer.named c.args.namer) image in
    gather-free tree c.args.root g.P.Keeper.refuses c.in-Err-take_next.stop (tree-levelled g.K.TreeKey.shape c.args.site.now (g.N.Namer.named c.args.namer) image) whole none
    (returns-in-Err-take_next-clause-present g c image told)

all : (g : _) (c : goal.After-drop-liner-then-not-more-4 g) → HasTakenAll (g.S.BlockSource.bytes c.args.src.now) (tree_in g.K.TreeKey.shape c.args.site.now (g.N.Namer.named c.args.namer)) g.K.TreeKey.shape c.args.root (g.P.Keeper.holds c.take_next.new.keeper) g.P.Keeper.refuses (g.S.BlockSource.reads c.args.src.now) (g.S.BlockSource.reads c.take_next.new.src)
all g c =
    let refuses = g.P.Keeper.refuses in
    let reads = g.S.BlockSource.reads in
    let bytes = g.S.BlockSource.bytes in
    let same = c.walk.invariant.kept.same_bytes in
    let end : c.in-Ok-take_next.more ≡ false = search rules in
    let taken = taken-told (bytes c.args.src.now) (bytes c.walk.src) (g.P.Keeper.holds c.walk.keeper) refuses c.walk.number (reads c.args.src.now) (reads c.walk.src) c.walk.liner same c.walk.invariant.taken in
    all-told (bytes c.args.src.now) (bytes c.walk.src) (tree_of c.walk.liner) (tree_in g.K.TreeKey.shape c.args.site.now (g.N.Namer.named c.args.namer)) g.K.TreeKey.shape (root_of c.walk.liner) c.args.root (g.P.Keeper.holds c.take_next.new.keeper) refuses (reads c.args.src.now) (reads c.take_next.new.src)
    same c.walk.invariant.tree c.walk.invariant.root
    (subst (λ b. Takes (bytes c.walk.src) (g.P.Keeper.holds c.take_next.new.keeper) refuses c.walk.number (reads c.args.src.now) (reads c.take_next.new.src) c.walk.liner c.take_next.new.liner b) end
    (c.in-Ok-take_next.ensures.taken (reads c.args.src.now) taken))

pub returns-in-Err-take_next-clause-clear : goal.returns-in-Err-take_next-clause-clear
returns-in-Err-take_next-clause-clear g c image told = tt

pub returns-in-Err-take_next-clause-ordered : goal.returns-in-Err-take_next-clause-ordered
returns-in-Err-take_next-clause-ordered g c = tt

pub returns-in-Err-take_next-clause-reads : goal.returns-in-Err-take_next-clause-reads
returns-in-Err-take_next-clause-reads g c image told = tt

pub returns-in-Err-take_next-clause-refused : goal.returns-in-Err-take_next-clause-refused
returns-in-Err-take_next-clause-refused g c = c.in-Err-take_next.ensures.refused

pub returns-then-not-more : goal.returns-then-not-more
returns-then-not-more g c =
    let done = all g c in
    let kept = c.in-Ok-take_next.ensures.kept in
    let held = c.walk.invariant.kept in
    record {
      clear = λ image told. all-gathered (g.S.BlockSource.bytes c.args.src.now) (tree_in g.K.TreeKey.shape c.args.site.now (g.N.Namer.named c.args.namer)) g.K.TreeKey.shape c.args.root (g.P.Keeper.holds c.take_next.new.keeper) g.P.Keeper.refuses (g.S.BlockSource.reads c.args.src.now) (g.S.BlockSource.reads c.take_next.new.src) done image told;
      ordered = record { items = done.passed; held = done.held; ordered = done.ordered };
      present = λ image told. tt;
      refused = tt;
      exact = λ image told whole none. tt;
      reads = λ image told. (done.walked image told).few;
      cause = ok-not _ ReadFault;
      kept = record { same_bytes = kept.same_bytes ∙ held.same_bytes; same_size = kept.same_size ∙ held.same_size; later = omega (arith, kept.later, held.later) };
    }
