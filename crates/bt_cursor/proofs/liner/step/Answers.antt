use Rattle.std.proofs.Common.{ℕ, List, nat_lt, false, refl, ap, sym, ◌+◌, ◌∙◌, arith}
use Rattle.std.proofs.lemmas.Bool.{false≢true}
use Rattle.obj_base.specs.declared.stop.Stop.TheVariants.{ReadFault, NoMemory}
use Rattle.bt_node.specs.Node.{level_of}
use Rattle.bt_cursor.specs.declared.fault.WalkFault.TheVariants.{Order, Counts}
use Rattle.bt_cursor.specs.declared.seen.Seen.{Seen}
use Rattle.bt_cursor.specs.Tree.{tree_in, look_in}
use Rattle.bt_cursor.specs.Ahead.{ahead_if, passed_child}
use Rattle.bt_cursor.proofs.Ends.{ok-not, read-not, memory-not, err-as}
use Rattle.bt_cursor.proofs.Nodes.{step_few}
use Rattle.bt_cursor.proofs.Fuels.{fuel-passed}
use Rattle.bt_cursor.proofs.Ways.{IsIn-moved}
use Rattle.bt_cursor.proofs.Steps.{line-passed, none-left, seen-passed, bad-next}
use Rattle.bt_cursor.proofs.Passings.{stops-node}
use Rattle.bt_cursor.proofs.liner.step.Goals as goal

pub returns-in-Err : goal.returns-in-Err
returns-in-Err g c =
    let tree = λ (image : List ℕ). tree_in g.K.TreeKey.shape c.args.site.now (g.N.Namer.named c.args.namer.now) image in
    let e = c.in-Err.ensures in
    record { way = e.way; deep = e.back; within = e.within; gap = e.gap; reads = e.reads; kept = e.kept; moved = λ image told. tt; entered = λ image told. tt; seen = tt; stands = tt; key = tt; fuel = tt; present = λ image told root within. stops-node (tree image) root c.args.deep.now (passed_child g.K.TreeKey.shape c.args.way.now) c.args.seen.now (ahead_if (tree image) c.args.deep.now c.args.way.now) c.in-Err.stop (e.present image told root within); cause = λ is. e.cause (err-as c.in-Err.stop ReadFault is); no_memory = λ is. e.no_memory (err-as c.in-Err.stop NoMemory is) }

pub returns-then-fits : goal.returns-then-fits
returns-then-fits g c =
    let look = λ (image : List ℕ). look_in g.K.TreeKey.shape c.args.site.now (g.N.Namer.named c.args.namer.now) image in
    let tree = λ (image : List ℕ). tree_in g.K.TreeKey.shape c.args.site.now (g.N.Namer.named c.args.namer.now) image in
    let e = c.in-Ok.ensures in
    record { way = c.climb.ensures.way; entered = e.entered; reads = e.reads; kept = e.kept; moved = λ image told. (none-left (tree image) c.args.way.now c.fall.new.way c.climb.new.way c.args.deep.now (e.same image told) (c.climb.ensures.same (look image)) (c.climb.ensures.end c.if-not-climb.true (look image)), sym c.fits.ensures ∙ c.if-fits.true); deep = λ on. absurd (false≢true on); seen = λ on. absurd (false≢true on); stands = λ on. absurd (false≢true on); key = λ on. absurd (false≢true on); fuel = λ on. absurd (false≢true on); within = λ image told root within. c.climb.ensures.within (look image) root (e.within image told root within); present = λ image told root within. tt; gap = λ image told. tt; cause = ok-not false ReadFault; no_memory = ok-not false NoMemory }

pub returns-then-not-climb : goal.returns-then-not-climb
returns-then-not-climb g c =
    let look = λ (image : List ℕ). look_in g.K.TreeKey.shape c.args.site.now (g.N.Namer.named c.args.namer.now) image in
    let tree = λ (image : List ℕ). tree_in g.K.TreeKey.shape c.args.site.now (g.N.Namer.named c.args.namer.now) image in
    let e = c.in-Ok.ensures in
    record {
      way = c.climb.ensures.way;
      deep = λ on. absurd (false≢true on);
      reads = e.reads;
      kept = e.kept;
      moved = λ image told. tt;
      entered = λ image told. tt;
      seen = tt;
      stands = tt;
      key = tt;
      gap = λ image told. tt;
      fuel = tt;
      within = λ image told root within. c.climb.ensures.within (look image) root (e.within image told root within);
      present = λ image told root within. record {
        none = none-left (tree image) c.args.way.now c.fall.new.way c.climb.new.way c.args.deep.now (e.same image told) (c.climb.ensures.same (look image)) (c.climb.ensures.end c.if-not-climb.true (look image));
        entered = e.entered image told;
        wrong = sym c.fits.ensures ∙ c.if-fits.false;
      };
      cause = read-not Counts;
      no_memory = memory-not Counts;
    }

pub returns-in_default : goal.returns-in_default
returns-in_default g c =
    let look = λ (image : List ℕ). look_in g.K.TreeKey.shape c.args.site.now (g.N.Namer.named c.args.namer.now) image in
    let tree = λ (image : List ℕ). tree_in g.K.TreeKey.shape c.args.site.now (g.N.Namer.named c.args.namer.now) image in
    let e = c.in-Ok.ensures in
    record {
      way = c.climb.ensures.way;
      deep = λ on. absurd (false≢true on);
      reads = e.reads;
      kept = e.kept;
      moved = λ image told. tt;
      entered = λ image told. tt;
      seen = tt;
      stands = tt;
      key = tt;
      gap = λ image told. tt;
      fuel = tt;
      within = λ image told root within. c.climb.ensures.within (look image) root (e.within image told root within);
      present = λ image told root within.
          (ap (λ (s : Seen). s.number) (c.in_default.ensures.same refl), bad-next (tree image) c.args.way.now c.fall.new.way c.climb.new.way c.args.deep.now c.args.seen.now (e.same image told) (c.climb.ensures.same (look image)) (c.climb.ensures.left c.if-not-climb.false) (c.in_default.ensures.out refl));
      cause = read-not (Order c.see_next.new.seen.number);
      no_memory = memory-not (Order c.see_next.new.seen.number);
    }

pub returns-clause-seen : goal.returns-clause-seen
returns-clause-seen g c more =
    let last = c.climb.new.way.last in
    seen-passed g.K.TreeKey.shape c.args.seen.now c.see_next.new.seen last.at.oid (level_of last.block.items) last.block.items last.next (c.in-Some.ensures.seen refl)

pub returns-clause-moved : goal.returns-clause-moved
returns-clause-moved g c image told =
    let shape = g.K.TreeKey.shape in
    let named = g.N.Namer.named c.args.namer.now in
    (line-passed (tree_in shape c.args.site.now named image) c.args.way.now c.fall.new.way c.climb.new.way c.args.deep.now (nat_lt 0 c.level.result) (c.in-Ok.ensures.same image told) (c.climb.ensures.same (look_in shape c.args.site.now named image)) (c.climb.ensures.left c.if-not-climb.false) (ap (nat_lt 0) c.level.ensures), returns-clause-seen g c refl)

pub returns-clause-fuel : goal.returns-clause-fuel
returns-clause-fuel g c more =
    fuel-passed c.args.way.now c.fall.new.way c.climb.new.way c.args.deep.now (nat_lt 0 c.level.result) c.in-Ok.ensures.fuel c.climb.ensures.fuel (c.climb.ensures.left c.if-not-climb.false) (ap (nat_lt 0) c.level.ensures)

pub returns-clause-within : goal.returns-clause-within
returns-clause-within g c image told root within =
    let look = look_in g.K.TreeKey.shape c.args.site.now (g.N.Namer.named c.args.namer.now) image in
    let way = c.climb.new.way in
    IsIn-moved (tree_in g.K.TreeKey.shape c.args.site.now (g.N.Namer.named c.args.namer.now) image) root way.above.items way.last (way.last.next + 1) (c.climb.ensures.within look root (c.in-Ok.ensures.within image told root within))

pub overflow_add-way : goal.overflow_add-way
overflow_add-way g c = omega (arith, step_few g.K.TreeKey.shape c.args.site.now c.climb.new.way.last c.climb.ensures.way.hold_last, c.climb.ensures.left c.if-not-climb.false)
