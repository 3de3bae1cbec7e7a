use Rattle.std.proofs.Common.{◌≡◌, ◌∙◌, [], ℕ, IfSome, get_or, length, option_map, if◌then◌else◌, refl, ap, sym, subst, arith}
use Rattle.std.proofs.lemmas.Grind.{common_steps}
use Rattle.std.proofs.lemmas.List.{take_all}
use Rattle.std.specs.List.{find}
use Rattle.nx_ring.specs.declared.line.RingLine.{RingLine}
use Rattle.nx_ring.specs.Valid.{is_valid, blocks_of, mappings_of}
use Rattle.nx_ring.specs.Newest.{seen_of}
use Rattle.nx_ring.specs.Reading.{loaded, IsHeld}
use Rattle.nx_ring.proofs.Some.{none_chosen, some_chosen}
use Rattle.nx_ring.proofs.Kept.{kept_on, none_known}
use Rattle.nx_ring.proofs.Tried.{find_more, find_here}
use Rattle.nx_ring.proofs.Room.{reads_last, reads_none}
use Rattle.nx_ring.proofs.choice.first_valid.Goals as goal

pub each-init : goal.each-init
each-init g c = record {
  none = λ image told at. refl;
  known = λ image told. none_known image c.args.areas.now c.new-known.result c.new-known.ensures.empty;
  kept = record { same_bytes = refl; same_size = refl; later = Prim.omega arith };
  reads = λ image told at. Prim.omega arith;
}

pub each-preserved : goal.each-preserved
each-preserved g c =
    let none : RingLine = record { index = 0; block = 0; xid = 0; desc_index = 0; desc_len = 0 } in
    let areas = c.args.areas.now in
    let lines = c.args.lines.now in
    let i = c.each.line-index in
    let line = get_or lines i none in
    let old = c.each.invariant in
    let kept = c.in_ok-found.ensures.kept in
    let empty = sym c.is_some.ensures ∙ c.if-is_some.false in
    record {
      none = λ image told at.
          let chosen = c.in_ok-found.ensures.found image (old.kept.same_bytes ∙ told) (old.known image told) (at i none c.each-test.true) in
          find_more (is_valid image areas) lines i none c.each-test.true (old.none image told at) (none_chosen (is_valid image areas line) (seen_of image areas [] line) c.in_ok-found.found chosen empty);
      known = λ image told. c.in_ok-found.ensures.known image (old.kept.same_bytes ∙ told) (old.known image told);
      kept = kept_on old.kept kept;
      reads = λ image told at.
          let chosen = c.in_ok-found.ensures.found image (old.kept.same_bytes ∙ told) (old.known image told) (at i none c.each-test.true) in
          let no = none_chosen (is_valid image areas line) (seen_of image areas [] line) c.in_ok-found.found chosen empty in
          let nothing : loaded image areas line ≡ 0 = ap (λ b. if b then length (blocks_of areas (mappings_of image areas line)) else 0) no in
          Prim.omega (arith, c.in_ok-found.ensures.reads image (old.kept.same_bytes ∙ told) (old.known image told), old.reads image told at, nothing);
    }

pub returns-then-is_some-clause-found : goal.returns-then-is_some-clause-found
returns-then-is_some-clause-found g c image told at =
    let none : RingLine = record { index = 0; block = 0; xid = 0; desc_index = 0; desc_len = 0 } in
    let areas = c.args.areas.now in
    let lines = c.args.lines.now in
    let i = c.each.line-index in
    let line = get_or lines i none in
    let old = c.each.invariant in
    let chosen = c.in_ok-found.ensures.found image (old.kept.same_bytes ∙ told) (old.known image told) (at i none c.each-test.true) in
    let valid = some_chosen (is_valid image areas line) (seen_of image areas [] line) c.in_ok-found.found chosen (sym c.is_some.ensures ∙ c.if-is_some.true) in
    let here = find_here (is_valid image areas) lines i none c.each-test.true (old.none image told at) valid in
    Prim.grind (arith, common_steps, chosen, valid, here)

pub returns-then-is_some-clause-holds : goal.returns-then-is_some-clause-holds
returns-then-is_some-clause-holds g c =
    let P : ℕ → Type 0 = λ len. IfSome c.in_ok-found.found (λ seen. IsHeld seen.nx len) in subst P c.each.invariant.kept.same_size c.in_ok-found.ensures.holds

pub returns-then-is_some-clause-reads : goal.returns-then-is_some-clause-reads
returns-then-is_some-clause-reads g c image told at few =
    let none : RingLine = record { index = 0; block = 0; xid = 0; desc_index = 0; desc_len = 0 } in
    let old = c.each.invariant in
    Prim.omega (arith, c.in_ok-found.ensures.reads image (old.kept.same_bytes ∙ told) (old.known image told), old.reads image told at, reads_last image c.args.areas.now (get_or c.args.lines.now c.each.line-index none) c.each.line-index _ c.requires.fits.some_data c.requires.fits.some_desc few c.each-test.true)

pub returns-in_err-found-clause-reads : goal.returns-in_err-found-clause-reads
returns-in_err-found-clause-reads g c image told at few =
    let none : RingLine = record { index = 0; block = 0; xid = 0; desc_index = 0; desc_len = 0 } in
    let old = c.each.invariant in
    Prim.omega (arith, c.in_err-found.ensures.reads image (old.kept.same_bytes ∙ told) (old.known image told), old.reads image told at, reads_last image c.args.areas.now (get_or c.args.lines.now c.each.line-index none) c.each.line-index _ c.requires.fits.some_data c.requires.fits.some_desc few c.each-test.true)

pub returns-clause-found : goal.returns-clause-found
returns-clause-found g c image told at =
    let p = is_valid image c.args.areas.now in
    sym (ap (option_map (seen_of image c.args.areas.now [])) (sym (ap (find p) (take_all c.each.line-index c.args.lines.now (Prim.omega (arith, c.each-test.false)))) ∙ c.each.invariant.none image told at))

pub returns-clause-reads : goal.returns-clause-reads
returns-clause-reads g c image told at few =
    Prim.omega (arith, c.each.invariant.reads image told at, reads_none image c.args.areas.now c.each.line-index _ few c.each.auto.line-index-end)
