use Rattle.std.proofs.Common.{◌≡◌, ℕ, ◌+◌, ◌≤◌, List, ◌++◌, length, map, get_or, Some, true, ap, sym, ◌∙◌, subst, arith}
use Rattle.std.specs.List.{flat_map}
use Rattle.std.proofs.lemmas.List.{take_all}
use Rattle.apfs_model.specs.Blocks.{in_container}
use Rattle.obj_base.specs.Site.{IsSiteFor}
use Rattle.view_sweep.specs.declared.used.Used.{Used}
use Rattle.view_sweep.specs.declared.used.Hit.{Hit}
use Rattle.view_sweep.specs.Swept.{AreSound, IsTurned, hit_asks}
use Rattle.view_sweep.specs.Found.{used_of, bytes_at, is_sound, wants_of}
use Rattle.view_sweep.specs.Sets.{asked_with}
use Rattle.view_sweep.proofs.Buffers.{kept-on, no-err, same-err, free-told}
use Rattle.view_sweep.proofs.Ranked.{place-in}
use Rattle.view_sweep.proofs.Readings.{reading-more, reading-all}
use Rattle.view_sweep.proofs.Waits.{asked-more}
use Rattle.view_sweep.proofs.Orders.{used_total, used-one}
use Rattle.view_sweep.proofs.Hits.{nohit, flat-more, sound-more, bad-hit, held-block}
use Rattle.view_sweep.proofs.reading.read_hits.Goals as goal

pub loop-hit-preserved : goal.loop-hit-preserved
loop-hit-preserved g c =
    let h : Hit = get_or c.args.hits.now c.loop-hit.hit-index nohit in
    let block : (image : List ℕ) → g.S.BlockSource.bytes c.args.src.now ≡ Some image → c.turn.new.block.items ≡ bytes_at image c.args.site.now h.mapping = λ image told.
    c.in_ok-turn.ensures.found image (c.loop-hit.invariant.kept.same_bytes ∙ told) ∙ ap (λ (u : Used). bytes_at image c.args.site.now u.mapping) c.used.ensures in
    record {
      kept = record {
        same_bytes = c.turn.ensures.kept.same_bytes ∙ c.loop-hit.invariant.kept.same_bytes;
        same_size = c.turn.ensures.kept.same_size ∙ c.loop-hit.invariant.kept.same_size;
        later = let a : g.S.BlockSource.faults c.args.src.now ≤ g.S.BlockSource.faults c.loop-hit.src = c.loop-hit.invariant.kept.later in
            let b : g.S.BlockSource.faults c.loop-hit.src ≤ g.S.BlockSource.faults c.turn.new.src = c.turn.ensures.kept.later in
            omega arith;
      };
      long = c.turn.ensures.long;
      held = λ image told. held-block (bytes_at image c.args.site.now) c.turn.new.block.items (used_of h) c.turn.new.held (c.in_ok-turn.ensures.held ∙ ap (λ (u : Used). Some u) c.used.ensures) (block image told);
      wants = λ image told. flat-more (hit_asks (bytes_at image c.args.site.now)) c.args.hits.now c.loop-hit.hit-index nohit c.args.out.now.items c.loop-hit.out.items c.take_hit.new.out.items c.loop-hit-test.true (c.loop-hit.invariant.wants image told)
          (c.in-Ok.ensures.added ∙ ap (λ (b : List ℕ). c.loop-hit.out.items ++ map (asked_with h.set) (wants_of h.wanted h.mapping b)) (c.deref.ensures.value ∙ block image told));
      sound = λ image told. sound-more c.args.site.now (bytes_at image c.args.site.now) c.args.hits.now c.loop-hit.hit-index nohit c.loop-hit-test.true (c.loop-hit.invariant.sound image told)
          (subst (λ (b : List ℕ). is_sound c.args.site.now h.wanted b ≡ true) (c.deref.ensures.value ∙ block image told) c.in-Ok.ensures.sound);
      numbers = λ n low first. asked-more n c.loop-hit.out.items c.take_hit.new.out.items (wants_of h.wanted h.mapping c.deref.result.now) h.set (low h (place-in c.args.hits.now c.loop-hit.hit-index nohit c.loop-hit-test.true)) c.in-Ok.ensures.added (c.loop-hit.invariant.numbers n low first);
      reading = reading-more used_of used_total used-one c.args.hits.now c.requires.sorted c.loop-hit.hit-index nohit c.loop-hit.held c.turn.new.held c.loop-hit.read.items c.turn.new.read.items c.loop-hit-test.true c.loop-hit.invariant.reading
          (c.in_ok-turn.ensures.held ∙ ap (λ (u : Used). Some u) c.used.ensures) (subst (λ (u : Used). IsTurned c.loop-hit.held u c.loop-hit.read.items c.turn.new.read.items) c.used.ensures c.in_ok-turn.ensures.turned);
      reads = let a : g.S.BlockSource.reads c.turn.new.src + length c.loop-hit.read.items ≤ g.S.BlockSource.reads c.loop-hit.src + length c.turn.new.read.items = c.in_ok-turn.ensures.reads in
          let b : g.S.BlockSource.reads c.loop-hit.src ≤ g.S.BlockSource.reads c.args.src.now + length c.loop-hit.read.items = c.loop-hit.invariant.reads in
          omega arith;
    }

pub turn-requires : goal.turn-requires
turn-requires g c = record {
  site = subst (λ n. IsSiteFor c.args.site.now n) (sym c.loop-hit.invariant.kept.same_size) c.requires.site;
  inside = (let h : Hit = get_or c.args.hits.now c.loop-hit.hit-index nohit in
      subst (λ (u : Used). in_container c.args.site.now.blocks u.mapping.paddr ≡ Some u.mapping.paddr) (sym c.used.ensures)
      (c.requires.inside h (place-in c.args.hits.now c.loop-hit.hit-index nohit c.loop-hit-test.true)));
  long = c.loop-hit.invariant.long;
  held = λ image told. c.loop-hit.invariant.held image (sym c.loop-hit.invariant.kept.same_bytes ∙ told);
}

pub returns-in_err-turn-clause-stops : goal.returns-in_err-turn-clause-stops
returns-in_err-turn-clause-stops g c = λ image told. free-told c.from_residual.result _ _ c.in_err-turn.field-0.0 c.from_residual.ensures.1 c.in_err-turn.ensures.free

pub returns-in-Err : goal.returns-in-Err
returns-in-Err g c = record {
  wants = λ image told. tt;
  sound = λ image told. tt;
  stops = (λ image told.
      let h : Hit = get_or c.args.hits.now c.loop-hit.hit-index nohit in
      let block : c.turn.new.block.items ≡ bytes_at image c.args.site.now h.mapping =
      c.in_ok-turn.ensures.found image (c.loop-hit.invariant.kept.same_bytes ∙ told) ∙ ap (λ (u : Used). bytes_at image c.args.site.now u.mapping) c.used.ensures in
      bad-hit c.args.site.now (bytes_at image c.args.site.now) c.args.hits.now h c.deref.result.now (place-in c.args.hits.now c.loop-hit.hit-index nohit c.loop-hit-test.true) (c.deref.ensures.value ∙ block) c.in-Err.stop c.in-Err.ensures.stops);
  numbers = λ n low first. tt;
  read = tt;
  reads = tt;
  long = c.turn.ensures.long;
  cause = λ e. absurd (c.in-Err.ensures.no_read (same-err c.in-Err.stop _ e));
  kept = kept-on g.S.BlockSource.bytes g.S.BlockSource.bytes_len g.S.BlockSource.faults c.args.src.now c.loop-hit.src c.turn.new.src c.loop-hit.invariant.kept c.turn.ensures.kept;
}

pub returns : goal.returns
returns g c = record {
  wants = λ image told.
      c.loop-hit.invariant.wants image told
      ∙ ap (λ (hs : List Hit). c.args.out.now.items ++ flat_map (hit_asks (bytes_at image c.args.site.now)) hs) (take_all c.loop-hit.hit-index c.args.hits.now c.loop-hit-test.false);
  sound = λ image told.
      subst (λ (hs : List Hit). AreSound c.args.site.now (bytes_at image c.args.site.now) hs) (take_all c.loop-hit.hit-index c.args.hits.now c.loop-hit-test.false) (c.loop-hit.invariant.sound image told);
  stops = λ image told. tt;
  numbers = c.loop-hit.invariant.numbers;
  read = (let t = reading-all used_of c.args.hits.now c.loop-hit.hit-index c.loop-hit.held c.loop-hit.read.items c.loop-hit-test.false c.loop-hit.invariant.reading in
      record { apart = c.loop-hit.invariant.reading.apart; each = t.0; only = t.1 });
  reads = c.loop-hit.invariant.reads;
  long = c.loop-hit.invariant.long;
  cause = λ e. absurd (no-err _ _ e);
  kept = c.loop-hit.invariant.kept;
}
