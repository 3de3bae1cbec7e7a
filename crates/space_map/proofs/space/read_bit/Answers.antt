use Rattle.std.proofs.Common.{◌≡◌, ◌∙◌, ◌<◌, ◌/◌, ◌*◌, ◌+◌, ap, sym, arith, length, slice_index}
use Rattle.space_map.proofs.Loads.{byte-here, bit-here}
use Rattle.space_map.proofs.space.read_bit.Goals as goal

pub returns-clause-found : goal.returns-clause-found
returns-clause-found g c image told =
    let size = c.args.site.now.block_size in
    let low : c.args.i / 8 < size = omega (arith, c.requires.low) in
    let one : length c.read_at.new.into ≡ 1 = omega arith in
    c.has_bit.ensures
    ∙ sym (bit-here image size c.args.block c.args.i (slice_index c.read_at.new.into 0)
    (byte-here image c.read_at.new.into size c.args.block (c.args.i / 8) (c.from.result * c.args.block + c.args.i / 8) one low (ap (λ n. n * c.args.block + c.args.i / 8) c.from.ensures) (c.in_ok-read_at.ensures.found image told)))
