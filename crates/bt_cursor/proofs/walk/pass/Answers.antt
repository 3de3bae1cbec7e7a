use Rattle.std.proofs.Common.{◌≡◌, ℕ, ◌+◌, ◌-◌, ◌<◌, List, true, false, refl, ap, sym, ◌∙◌, subst, arith, rules}
use Rattle.std.proofs.lemmas.Bool.{false≢true}
use Rattle.obj_base.specs.declared.stop.Stop.TheVariants.{ReadFault, NoMemory}
use Rattle.bt_cursor.proofs.Ends.{ok-not}
use Rattle.bt_node.specs.Node.{level_of}
use Rattle.bt_node.specs.Entries.{pair_of}
use Rattle.bt_cursor.specs.Tree.{tree_in, look_in}
use Rattle.bt_cursor.specs.Gaps.{all_flat, StopsAt}
use Rattle.bt_cursor.specs.Ahead.{gapped_ahead}
use Rattle.bt_cursor.proofs.Gaps.{flat-inner, flat-pass, places-pass, places-same, places-down}
use Rattle.bt_cursor.proofs.Fuels.{fuel-pass, weight-some}
use Rattle.bt_cursor.proofs.Ways.{IsIn-moved}
use Rattle.bt_cursor.proofs.walk.pass.Goals as goal

pub descend-init : goal.descend-init
descend-init g c =
    let look = λ (image : List ℕ). look_in g.K.TreeKey.shape c.args.site.now (g.N.Namer.named c.args.namer.now) image in
    record {
      way = c.climb.ensures.way;
      left = search rules;
      same = λ image told. ap all_flat (c.climb.ensures.same_gapped (look image));
      reads = λ image told. omega (arith, places-same (tree_in g.K.TreeKey.shape c.args.site.now (g.N.Namer.named c.args.namer.now) image) c.args.way.now c.climb.new.way (c.climb.ensures.same_gapped (look image)));
      few = omega (arith, c.climb.ensures.way.level_last, c.climb.ensures.depth);
      depth = c.climb.ensures.depth;
      fuel = c.climb.ensures.fuel;
      within = λ image told root within. c.climb.ensures.within (look image) root within;
      kept = search rules;
    }

pub descend-preserved : goal.descend-preserved
descend-preserved g c =
    let tree = λ (image : List ℕ). tree_in g.K.TreeKey.shape c.args.site.now (g.N.Namer.named c.args.namer.now) image in
    let last = c.descend.way.last in
    let pair = pair_of g.K.TreeKey.shape last.block.items last.next in
    let upper : 0 < level_of last.block.items = omega arith in
    record {
      way = c.in_ok-down.ensures.way;
      left = c.in_ok-down.ensures.more;
      same = λ image told.
          sym (ap all_flat (c.in_ok-down.ensures.passed image (search rules)) ∙ flat-inner last.at.oid last.next (level_of last.block.items) pair (gapped_ahead (tree image) c.down.new.way) upper)
          ∙ c.descend.invariant.same image told;
      reads = λ image told.
          let one = places-down (tree image) c.descend.way c.down.new.way last.at.oid last.next (level_of last.block.items) pair upper (c.in_ok-down.ensures.passed image (search rules)) in
          omega (arith, one, c.in_ok-down.ensures.reads, c.descend.invariant.reads image told);
      few = omega (arith, c.in_ok-down.ensures.reads, c.in_ok-down.ensures.level, c.descend.invariant.few);
      depth = c.in_ok-down.ensures.depth ∙ c.descend.invariant.depth;
      fuel = omega (arith, c.in_ok-down.ensures.fuel, c.descend.invariant.fuel);
      within = λ image told root within. c.in_ok-down.ensures.within image (search rules) root (c.descend.invariant.within image told root within);
      kept = search rules;
    }

pub returns : goal.returns
returns g c =
    let tree = λ (image : List ℕ). tree_in g.K.TreeKey.shape c.args.site.now (g.N.Namer.named c.args.namer.now) image in
    let way = c.descend.way in
    let last = way.last in
    let inv = c.descend.invariant in
    let leaf : level_of last.block.items ≡ 0 = omega arith in
    let held = inv.way.hold_last in
    record {
      way = record { hold = inv.way.hold; hold_last = record { accepted = held.accepted; long = held.long; node = held.node; inside = omega (arith, inv.left) }; levels = inv.way.levels; level_last = inv.way.level_last; buffers = inv.way.buffers };
      moved = λ image told. sym (inv.same image told) ∙ flat-pass (tree image) way.above.items last.at.oid last.block.items last.next (last.next + 1 - 1) inv.left leaf (omega arith);
      same = λ image told. tt;
      stops = λ image told. tt;
      depth = inv.depth;
      unread = λ image told. omega (arith, places-pass (tree image) way.above.items last.at.oid last.block.items last.next inv.left leaf, inv.reads image told);
      reads = omega (arith, inv.few);
      stands = λ on. record { leaf = leaf; some = omega arith };
      within = λ image told root within. IsIn-moved (tree image) root way.above.items last (last.next + 1) (inv.within image told root within);
      present = λ image told root within. tt;
      of_nodes = tt;
      fuel = λ on. omega (arith, fuel-pass last.block.items last.next (last.next + 1) inv.left refl, weight-some (level_of last.block.items), inv.fuel);
      cause = ok-not true ReadFault;
      no_memory = ok-not true NoMemory;
      kept = inv.kept;
    }

pub returns-then-not-climb : goal.returns-then-not-climb
returns-then-not-climb g c =
    let look = λ (image : List ℕ). look_in g.K.TreeKey.shape c.args.site.now (g.N.Namer.named c.args.namer.now) image in
    let e = c.climb.ensures in
    record {
      way = e.way;
      moved = λ image told. sym (ap all_flat (e.same_gapped (look image))) ∙ ap all_flat (e.end_gapped c.if-not-climb.true (look image));
      same = λ image told. tt;
      stops = λ image told. tt;
      depth = e.depth;
      unread = λ image told. omega (arith, places-same (tree_in g.K.TreeKey.shape c.args.site.now (g.N.Namer.named c.args.namer.now) image) c.args.way.now c.climb.new.way (e.same_gapped (look image)));
      reads = omega arith;
      stands = λ on. absurd (false≢true on);
      within = λ image told root within. e.within (look image) root within;
      present = λ image told root within. tt;
      of_nodes = tt;
      fuel = λ on. absurd (false≢true on);
      cause = ok-not false ReadFault;
      no_memory = ok-not false NoMemory;
      kept = record { same_bytes = refl; same_size = refl; later = omega arith };
    }

pub returns-in_err-down-clause-stops : goal.returns-in_err-down-clause-stops
returns-in_err-down-clause-stops g c image told =
    let tree = tree_in g.K.TreeKey.shape c.args.site.now (g.N.Namer.named c.args.namer.now) image in
    let stops : StopsAt (all_flat (gapped_ahead tree c.args.way.now)) c.in_err-down.field-0.0 = subst (λ xs. StopsAt xs c.in_err-down.field-0.0) (c.descend.invariant.same image told) (c.in_err-down.ensures.stops image (search rules)) in
    search rules
