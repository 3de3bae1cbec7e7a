use Rattle.std.proofs.Common.{◌≡◌, ℕ, List, [], ◌++◌, length, map, sym, subst}
use Rattle.std.specs.List.{flat_map}
use Rattle.std.specs.List.Sorted.{IsSortedBy}
use Rattle.std.proofs.lemmas.List.Sorted.{IsPermutation-sym}
use Rattle.std.proofs.lemmas.Result.{IfOk-from_err}
use Rattle.apfs_model.specs.Lists.{In}
use Rattle.obj_base.specs.declared.stop.Stop.TheVariants.{NoMemory}
use Rattle.obj_base.specs.Stops.{Tells, NoFeature}
use Rattle.view_sweep.specs.declared.sets.ViewSet.{ViewSet}
use Rattle.view_sweep.specs.declared.joining.Sought.{Sought}
use Rattle.view_sweep.specs.declared.wanted.SweptView.{SweptView}
use Rattle.view_sweep.specs.declared.wanted.Asked.{Asked}
use Rattle.view_sweep.specs.declared.used.Hit.{Hit}
use Rattle.view_sweep.specs.Sets.{AreSets, IsSetOf, all_asked, hit_by, AreNumbered}
use Rattle.view_sweep.specs.Found.{World, world, looked, used_of}
use Rattle.view_sweep.specs.Here.{Among, IsTwiceHere, IsLostHere, IsMappedBy, IsBadHit, IsRefusedHit}
use Rattle.view_sweep.specs.Swept.{IsOnce, ArePlaced, AreSound, AreRead, hit_asks}
use Rattle.view_sweep.specs.Order.{is_hit_below}
use Rattle.view_sweep.specs.Shared.{share_of}
use Rattle.view_sweep.specs.Asked.{AreSought, IsOfSought}
use Rattle.view_sweep.specs.Hits.{AreHitsOf}
use Rattle.view_sweep.proofs.Buffers.{kept-same, no-err, same-err, free-told, no-read}
use Rattle.view_sweep.proofs.Fors.{sought-like, lost-here, asked-permuted, numbered-permuted, once-permuted, level-for, hits-placed, hits-numbered, after-to, after-from}
use Rattle.view_sweep.proofs.Members.{numbered-more}
use Rattle.view_sweep.proofs.Shares.{level-shares}
use Rattle.view_sweep.proofs.Steps.{AreFor, placed-permuted, here-more, twice-tells, bad-tells, step_from}
use Rattle.view_sweep.proofs.Wholes.{looked-named}
use Rattle.view_sweep.proofs.level.take_level.Goals as goal
use Rattle.view_sweep.proofs.level.take_level.Goals.{After-by_record}

pub once-requires-clause-numbers : goal.once-requires-clause-numbers
once-requires-clause-numbers g c =
    let sets : List ViewSet = c.args.sets.now.items in
    let sorted : List Asked = c.by_id.new.asked.items in
    subst (λ (ss : List ViewSet). AreNumbered (length ss) c.deref-2.result.now) (sym c.deref.ensures.value)
    (subst (λ (xs : List Asked). AreNumbered (length sets) xs) (sym c.deref-2.ensures.value) (numbered-permuted (length sets) c.args.current.now.items sorted c.in_ok-by_id.ensures.order c.requires.numbers))

-- the hits in the order of their records are those of what is asked
level-hits : (g : _) (c : After-by_record g) (image : List ℕ)
    → AreFor (world c.args.volumes.now c.args.site.now image) (all_asked c.args.views.now c.args.sets.now.items c.args.current.now.items) c.by_record.new.hits.items (hit_by c.args.views.now c.hits.new.sets.items)
level-hits g c image =
    let k : World = world c.args.volumes.now c.args.site.now image in
    let views : List SweptView = c.args.views.now in
    let old : List ViewSet = c.args.sets.now.items in
    let new : List ViewSet = c.hits.new.sets.items in
    let sorted : List Asked = c.by_id.new.asked.items in
    let all : List Sought = c.in_ok-all.all.items in
    let found : List Hit = c.in-Ok-hits.found.items in
    let so : AreSought old sorted all =
    subst (λ (ss : List ViewSet). AreSought ss sorted all) c.deref-3.ensures.value (subst (λ (xs : List Asked). AreSought c.deref-3.result.now xs all) c.deref-4.ensures.value c.in_ok-all.ensures.all) in
    let of : AreHitsOf k.look k.site views new all found = subst (λ (xs : List Sought). AreHitsOf k.look k.site views new xs found) c.deref-5.ensures.value c.in-Ok-hits.ensures.hits in
    level-for k views old new c.args.current.now.items sorted all found c.by_record.new.hits.items c.in_ok-by_id.ensures.order so of c.by_record.ensures.order

pub hits-requires : goal.hits-requires
hits-requires g c = record {
  below = c.requires.below;
  rising = c.requires.rising;
  stretches = c.requires.stretches;
  all = subst (λ (xs : List Sought). (s : Sought) → In s xs → IsSetOf c.args.views.now s.set.items) (sym c.deref-5.ensures.value) c.in_ok-all.ensures.sets;
  sets = c.requires.sets;
}

pub returns-in-Err : goal.returns-in-Err
returns-in-Err g c = record {
  step = λ image told. tt;
  stops = (λ image told.
      let k : World = world c.args.volumes.now c.args.site.now image in
      let views : List SweptView = c.args.views.now in
      let sets : List ViewSet = c.args.sets.now.items in
      let current : List Asked = c.args.current.now.items in
      let sorted : List Asked = c.by_id.new.asked.items in
      here-more k (Among (all_asked views sets sorted)) (Among (all_asked views sets current)) (asked-permuted views sets sorted current (IsPermutation-sym current sorted c.in_ok-by_id.ensures.order)) c.in-Err.stop
      (twice-tells k (Among (all_asked views sets sorted)) c.in-Err.stop
      (subst (λ (ss : List ViewSet). Tells (IsTwiceHere (Among (all_asked views ss sorted))) NoFeature c.in-Err.stop) c.deref.ensures.value
      (subst (λ (xs : List Asked). Tells (IsTwiceHere (Among (all_asked views c.deref.result.now xs))) NoFeature c.in-Err.stop) c.deref-2.ensures.value c.in-Err.ensures.stops))));
  shares = tt;
  sets = tt;
  numbers = tt;
  same = tt;
  reads = tt;
  long = c.requires.long;
  cause = λ e. absurd (c.in-Err.ensures.no_read (same-err c.in-Err.stop _ e));
  kept = kept-same g.S.BlockSource.bytes g.S.BlockSource.bytes_len g.S.BlockSource.faults c.args.src.now;
}

pub returns : goal.returns
returns g c = record {
  step = (λ image told.
      let k : World = world c.args.volumes.now c.args.site.now image in
      let views : List SweptView = c.args.views.now in
      let old : List ViewSet = c.args.sets.now.items in
      let new : List ViewSet = c.hits.new.sets.items in
      let current : List Asked = c.args.current.now.items in
      let sorted : List Asked = c.by_id.new.asked.items in
      let hits : List Hit = c.by_record.new.hits.items in
      let before : List Asked = c.args.below.now.items in
      let after : List Asked = c.read_hits.new.out.items in
      let for : AreFor k (all_asked views old current) hits (hit_by views new) = level-hits g (goal.at.returns g c).After-by_record image in
      let once : IsOnce (all_asked views old current) = once-permuted views old current sorted c.in_ok-by_id.ensures.order
      (subst (λ (ss : List ViewSet). IsOnce (all_asked views ss sorted)) c.deref.ensures.value (subst (λ (xs : List Asked). IsOnce (all_asked views c.deref.result.now xs)) c.deref-2.ensures.value c.in-Ok.ensures.once)) in
      let e : after ≡ before ++ flat_map (hit_asks k.bytes) hits = subst (λ (hs : List Hit). after ≡ before ++ flat_map (hit_asks k.bytes) hs) c.deref-6.ensures.value (c.in-Ok-read_hits.ensures.wants image told) in
      step_from k (looked-named c.args.volumes.now c.args.site.now image) (all_asked views old current) hits (hit_by views new) for (all_asked views new before) (all_asked views new after) c.in-Ok-read_hits.read.items once
      (after-to k views new (all_asked views old current) hits for before after e)
      (after-from k views new (all_asked views old current) hits for before after e)
      (subst (λ (hs : List Hit). AreSound k.site k.bytes hs) c.deref-6.ensures.value (c.in-Ok-read_hits.ensures.sound image told))
      (subst (λ (hs : List Hit). AreRead (map used_of hs) c.in-Ok-read_hits.read.items) c.deref-6.ensures.value c.in-Ok-read_hits.ensures.read));
  stops = λ image told. tt;
  shares = (let k : World = world c.args.volumes.now c.args.site.now [] in
      let views : List SweptView = c.args.views.now in
      let old : List ViewSet = c.args.sets.now.items in
      let new : List ViewSet = c.hits.new.sets.items in
      let current : List Asked = c.args.current.now.items in
      let found : List Hit = c.in-Ok-hits.found.items in
      let hits : List Hit = c.by_record.new.hits.items in
      let for : AreFor k (all_asked views old current) hits (hit_by views new) = level-hits g (goal.at.returns g c).After-by_record [] in
      level-shares k (looked-named c.args.volumes.now c.args.site.now []) views new (all_asked views old current) hits for c.in-Ok-hits.ensures.sets
      (hits-numbered k.look k.site views new c.deref-5.result.now found hits c.in-Ok-hits.ensures.hits c.by_record.ensures.order) c.args.site.now.blocks c.args.shares.now.items c.add_shares.new.out.items
      (placed-permuted c.args.site.now.blocks found hits c.by_record.ensures.order (hits-placed k.look k.site views new c.deref-5.result.now found c.in-Ok-hits.ensures.hits))
      (subst (λ (hs : List Hit). c.add_shares.new.out.items ≡ c.args.shares.now.items ++ map share_of hs) c.deref-7.ensures.value c.in_ok-add_shares.ensures));
  sets = c.in-Ok-hits.ensures.sets;
  numbers = (let new : List ViewSet = c.hits.new.sets.items in
      let hits : List Hit = c.by_record.new.hits.items in
      c.in-Ok-read_hits.ensures.numbers (length new)
      (λ h i. hits-numbered (looked c.args.volumes.now c.args.site.now) c.args.site.now c.args.views.now new c.deref-5.result.now c.in-Ok-hits.found.items hits c.in-Ok-hits.ensures.hits c.by_record.ensures.order h (subst (In h) c.deref-6.ensures.value i))
      (numbered-more (length c.args.sets.now.items) (length new) c.args.below.now.items c.in-Ok-hits.ensures.kept.more c.requires.waiting));
  same = c.in-Ok-hits.ensures.kept;
  reads = c.in-Ok-read_hits.ensures.reads;
  long = c.in-Ok-read_hits.ensures.long;
  cause = λ e. absurd (no-err _ _ e);
  kept = c.read_hits.ensures.kept;
}

pub returns-in-Err-hits : goal.returns-in-Err-hits
returns-in-Err-hits g c = record {
  step = λ image told. tt;
  stops = (λ image told.
      let k : World = world c.args.volumes.now c.args.site.now image in
      let views : List SweptView = c.args.views.now in
      let sets : List ViewSet = c.args.sets.now.items in
      let current : List Asked = c.args.current.now.items in
      let sorted : List Asked = c.by_id.new.asked.items in
      let all : List Sought = c.in_ok-all.all.items in
      let so : AreSought sets sorted all =
      subst (λ (ss : List ViewSet). AreSought ss sorted all) c.deref-3.ensures.value (subst (λ (xs : List Asked). AreSought c.deref-3.result.now xs all) c.deref-4.ensures.value c.in_ok-all.ensures.all) in
      here-more k (Among (all_asked views sets sorted)) (Among (all_asked views sets current)) (asked-permuted views sets sorted current (IsPermutation-sym current sorted c.in_ok-by_id.ensures.order)) c.in-Err-hits.stop
      (lost-here k (looked-named c.args.volumes.now c.args.site.now image) (IsOfSought views all) (Among (all_asked views sets sorted)) (sought-like views sets sorted all so) c.in-Err-hits.stop
      (subst (λ (xs : List Sought). Tells (IsLostHere (looked c.args.volumes.now c.args.site.now) (IsOfSought views xs)) (IsMappedBy (looked c.args.volumes.now c.args.site.now) c.args.site.now.block_size (IsOfSought views xs)) c.in-Err-hits.stop) c.deref-5.ensures.value c.in-Err-hits.ensures.stops)));
  shares = tt;
  sets = tt;
  numbers = tt;
  same = tt;
  reads = tt;
  long = c.requires.long;
  cause = λ e. absurd (c.in-Err-hits.ensures.no_read (same-err c.in-Err-hits.stop _ e));
  kept = kept-same g.S.BlockSource.bytes g.S.BlockSource.bytes_len g.S.BlockSource.faults c.args.src.now;
}

pub once-requires-clause-sets : goal.once-requires-clause-sets
once-requires-clause-sets g c = subst (λ (ss : List ViewSet). AreSets c.args.views.now ss) (sym c.deref.ensures.value) c.requires.sets

pub joined-requires : goal.joined-requires
joined-requires g c = record {
  sets = subst (λ (ss : List ViewSet). AreSets c.args.views.now ss) (sym c.deref-3.ensures.value) c.requires.sets;
  numbers = (let sets : List ViewSet = c.args.sets.now.items in
      let sorted : List Asked = c.by_id.new.asked.items in
      subst (λ (ss : List ViewSet). AreNumbered (length ss) c.deref-4.result.now) (sym c.deref-3.ensures.value)
      (subst (λ (xs : List Asked). AreNumbered (length sets) xs) (sym c.deref-4.ensures.value) (numbered-permuted (length sets) c.args.current.now.items sorted c.in_ok-by_id.ensures.order c.requires.numbers)));
}

pub returns-in_err-add_shares : goal.returns-in_err-add_shares
returns-in_err-add_shares g c = record {
  step = λ image told. IfOk-from_err c.from_residual-in_err-add_shares.result _ c.from_residual-in_err-add_shares.ensures.0;
  stops = λ image told. free-told c.from_residual-in_err-add_shares.result _ _ NoMemory c.from_residual-in_err-add_shares.ensures.1 tt;
  shares = IfOk-from_err c.from_residual-in_err-add_shares.result _ c.from_residual-in_err-add_shares.ensures.0;
  sets = IfOk-from_err c.from_residual-in_err-add_shares.result _ c.from_residual-in_err-add_shares.ensures.0;
  numbers = IfOk-from_err c.from_residual-in_err-add_shares.result _ c.from_residual-in_err-add_shares.ensures.0;
  same = IfOk-from_err c.from_residual-in_err-add_shares.result _ c.from_residual-in_err-add_shares.ensures.0;
  reads = IfOk-from_err c.from_residual-in_err-add_shares.result _ c.from_residual-in_err-add_shares.ensures.0;
  long = c.read_hits.ensures.long;
  cause = λ e. absurd (no-read c.from_residual-in_err-add_shares.result c.from_residual-in_err-add_shares.ensures.1 e);
  kept = c.read_hits.ensures.kept;
}

pub returns-in_err-all : goal.returns-in_err-all
returns-in_err-all g c = record {
  step = λ image told. IfOk-from_err c.from_residual-in_err-all.result _ c.from_residual-in_err-all.ensures.0;
  stops = λ image told. free-told c.from_residual-in_err-all.result _ _ NoMemory c.from_residual-in_err-all.ensures.1 tt;
  shares = IfOk-from_err c.from_residual-in_err-all.result _ c.from_residual-in_err-all.ensures.0;
  sets = IfOk-from_err c.from_residual-in_err-all.result _ c.from_residual-in_err-all.ensures.0;
  numbers = IfOk-from_err c.from_residual-in_err-all.result _ c.from_residual-in_err-all.ensures.0;
  same = IfOk-from_err c.from_residual-in_err-all.result _ c.from_residual-in_err-all.ensures.0;
  reads = IfOk-from_err c.from_residual-in_err-all.result _ c.from_residual-in_err-all.ensures.0;
  long = c.requires.long;
  cause = λ e. absurd (no-read c.from_residual-in_err-all.result c.from_residual-in_err-all.ensures.1 e);
  kept = kept-same g.S.BlockSource.bytes g.S.BlockSource.bytes_len g.S.BlockSource.faults c.args.src.now;
}

pub returns-in-Err-read_hits : goal.returns-in-Err-read_hits
returns-in-Err-read_hits g c = record {
  step = λ image told. tt;
  stops = (λ image told.
      let k : World = world c.args.volumes.now c.args.site.now image in
      let views : List SweptView = c.args.views.now in
      let old : List ViewSet = c.args.sets.now.items in
      let new : List ViewSet = c.hits.new.sets.items in
      let current : List Asked = c.args.current.now.items in
      let hits : List Hit = c.by_record.new.hits.items in
      let for : AreFor k (all_asked views old current) hits (hit_by views new) = level-hits g (goal.at.returns-in-Err-read_hits g c).After-by_record image in
      bad-tells k (looked-named c.args.volumes.now c.args.site.now image) (all_asked views old current) hits (hit_by views new) for c.in-Err-read_hits.stop
      (subst (λ (hs : List Hit). Tells (IsBadHit k.site k.bytes hs) (IsRefusedHit k.site k.bytes hs) c.in-Err-read_hits.stop) c.deref-6.ensures.value (c.in-Err-read_hits.ensures.stops image told)));
  shares = tt;
  sets = tt;
  numbers = tt;
  same = tt;
  reads = tt;
  long = c.read_hits.ensures.long;
  cause = c.in-Err-read_hits.ensures.cause;
  kept = c.read_hits.ensures.kept;
}

pub read_hits-requires : goal.read_hits-requires
read_hits-requires g c = record {
  site = c.requires.site;
  long = c.requires.long;
  sorted = subst (λ (hs : List Hit). IsSortedBy is_hit_below hs) (sym c.deref-6.ensures.value) c.by_record.ensures.sorted;
  inside = subst (λ (hs : List Hit). ArePlaced c.args.site.now.blocks hs) (sym c.deref-6.ensures.value)
      (placed-permuted c.args.site.now.blocks c.in-Ok-hits.found.items c.by_record.new.hits.items c.by_record.ensures.order
      (hits-placed (looked c.args.volumes.now c.args.site.now) c.args.site.now c.args.views.now c.hits.new.sets.items c.deref-5.result.now c.in-Ok-hits.found.items c.in-Ok-hits.ensures.hits));
}
