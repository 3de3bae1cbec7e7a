use Rattle.std.proofs.Common.{ℕ, List, refl}
use Rattle.bt_cursor.specs.Ahead.{passed_child}
use Rattle.bt_cursor.specs.Liners.{tree_of, left_of}
use Rattle.bt_cursor.proofs.Passings.{passes-on, has-item, sees-one, stops-for, stops-first}
use Rattle.bt_cursor.proofs.Places.{tree-levelled, whole-world}
use Rattle.bt_cursor.proofs.liner.Liner.next.Goals as goal

pub returns-in-Ok : goal.returns-in-Ok
returns-in-Ok g c =
    let self = c.args.self.now in
    let more = c.in-Ok.more in
    let e = c.in-Ok.ensures in
    record { site = refl; root = refl; tree = refl; reads = e.reads; fuel = e.fuel; cause = e.cause; no_memory = e.no_memory; kept = e.kept; present = λ image told passed has. tt; first = λ image told passed has. tt; exact = λ image told passed has whole. tt; passed = λ image told passed has. passes-on image passed self _ more refl refl has (e.moved image told) (e.entered image told) (e.within image told self.root has.within) e.stands; stands = has-item _ more e.stands e.key; seen = sees-one self (record self { way = c.step.new.way; deep = c.step.new.deep; seen = c.step.new.seen; sound = c.step.ensures.way; deep_in = c.step.ensures.deep }) more e.seen }

pub returns-in-Err : goal.returns-in-Err
returns-in-Err g c =
    let self = c.args.self.now in
    let tree = λ (image : List ℕ). tree_of self image in
    let left = λ (image : List ℕ). left_of self image in
    let child = passed_child g.K.TreeKey.shape self.way in
    let stop = c.in-Err.stop in
    let e = c.in-Err.ensures in
    record {
      site = refl;
      root = refl;
      tree = refl;
      passed = λ image told passed has. tt;
      seen = tt;
      stands = tt;
      fuel = tt;
      present = λ image told passed has. stops-for (tree image) self.root passed (left image) self.seen self.deep child stop has.gone (e.present image told self.root has.within);
      first = λ image told passed has. stops-first (tree image) self.root passed (left image) self.seen self.deep child stop has.gone (e.gap image told) (e.present image told self.root has.within);
      exact = λ image told passed has whole. whole-world (tree image) self.root stop (tree-levelled g.K.TreeKey.shape self.site (g.N.Namer.named self.namer) image) whole
          (stops-for (tree image) self.root passed (left image) self.seen self.deep child stop has.gone (e.present image told self.root has.within));
      reads = e.reads;
      cause = e.cause;
      no_memory = e.no_memory;
      kept = e.kept;
    }
