use Rattle.std.proofs.Common.{◌≡◌, ◌∙◌, ◌+◌, ◌*◌, ◌<◌, ◌≤◌, ◌++◌, ℕ, true, List, length, map, ap, arith}
use Rattle.std.proofs.lemmas.Grind.{common_steps}
use Rattle.std.specs.List.{range_with_len}
use Rattle.apfs_model.specs.Bytes.{u32_at}
use Rattle.nx_ring.specs.Mappings.{map_count_of, has_count, mapping_of_map}
use Rattle.nx_ring.proofs.More.{mappings_more}
use Rattle.nx_ring.proofs.mappings.add_mappings.Goals as goal

fits : (bytes : List ℕ) (count i : ℕ) → has_count bytes ≡ true → count ≡ u32_at bytes 36 → i < count → 40 + 40 * i + 40 ≤ length bytes
unfolding has_count map_count_of
fits bytes count i e is low = Prim.grind (arith, common_steps, e, is, low)

pub mapping_at-requires : goal.mapping_at-requires
mapping_at-requires c = fits c.args.bytes.now c.u32_at-i-end.result c.mappings.i c.requires.fits c.u32_at-i-end.ensures c.mappings-test.true

pub mappings-preserved : goal.mappings-preserved
mappings-preserved c =
    let items = c.in_ok-push.ensures.items in
    let before = c.mappings.invariant in
    let one = c.mapping_at.ensures in
    let more = mappings_more c.args.bytes.now c.args.into.now.items c.mappings.i in
    Prim.cc

pub returns-clause-added : goal.returns-clause-added
unfolding map_count_of
returns-clause-added c =
    let all : c.mappings.i ≡ map_count_of c.args.bytes.now = Prim.omega (arith, c.mappings.auto.i-end, c.mappings-test.false, c.u32_at-i-end.ensures) in
    c.mappings.invariant ∙ ap (λ n. c.args.into.now.items ++ map (mapping_of_map c.args.bytes.now) (range_with_len 0 n)) all
