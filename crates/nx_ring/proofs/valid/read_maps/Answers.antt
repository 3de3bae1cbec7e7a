use Rattle.std.proofs.Common.{◌≡◌, ◌∙◌, true, false, ap, sym, arith}
use Rattle.std.specs.List.{range_with_len, list_all}
use Rattle.nx_ring.specs.Valid.{is_map_after, has_maps, first_mappings, mappings_of, map_blocks}
use Rattle.nx_ring.proofs.More.{first_more, maps_more, maps_fail}
use Rattle.nx_ring.proofs.Kept.{kept_on}
use Rattle.nx_ring.proofs.valid.read_maps.Goals as goal

pub returns-then-not-branch-clause-found : goal.returns-then-not-branch-clause-found
unfolding has_maps
returns-then-not-branch-clause-found g c image told =
    let found = c.in_ok-add_map.ensures.found image (c.maps.invariant.kept.same_bytes ∙ told) in
    let fails : is_map_after image c.args.areas.now c.args.line.now c.maps.j ≡ false = sym found ∙ c.if-not-branch.true in
    sym (maps_fail image c.args.areas.now c.args.line.now (map_blocks c.args.line.now) c.maps.j c.maps-test.true fails)

pub maps-preserved : goal.maps-preserved
maps-preserved g c =
    let areas = c.args.areas.now in
    let line = c.args.line.now in
    let old = c.maps.invariant in
    let kept = c.in_ok-add_map.ensures.kept in
    record {
      listed = λ image told.
          let added = c.in_ok-add_map.ensures.added image (old.kept.same_bytes ∙ told) c.if-not-branch.false in
          let before = old.listed image told in
          let more = first_more image areas line c.maps.j in
          Prim.cc;
      sound = λ image told.
          let found = c.in_ok-add_map.ensures.found image (old.kept.same_bytes ∙ told) in
          let passes : is_map_after image areas line c.maps.j ≡ true = sym found ∙ c.if-not-branch.false in
          maps_more image areas line c.maps.j ∙ rw (old.sound image told) passes;
      kept = kept_on old.kept kept;
      reads = Prim.omega (arith, c.in_ok-add_map.ensures.reads, old.reads);
    }

pub returns-clause-found : goal.returns-clause-found
unfolding has_maps
returns-clause-found g c image told =
    let all : c.maps.j ≡ map_blocks c.args.line.now = Prim.omega (arith, c.maps.auto.j-end, c.maps-test.false) in
    sym (c.maps.invariant.sound image told) ∙ ap (λ n. list_all (is_map_after image c.args.areas.now c.args.line.now) (range_with_len 0 n)) all

pub returns-clause-listed : goal.returns-clause-listed
unfolding mappings_of
returns-clause-listed g c image told =
    let all : c.maps.j ≡ map_blocks c.args.line.now = Prim.omega (arith, c.maps.auto.j-end, c.maps-test.false) in
    c.maps.invariant.listed image told ∙ ap (first_mappings image c.args.areas.now c.args.line.now) all
