use Rattle.std.proofs.Common.{◌≡◌, false, length}
use Rattle.space_map.specs.Stops as stops
use Rattle.space_map.proofs.Telling.{outside-pool}
use Rattle.space_map.proofs.chunk.add_chunk.Goals as goal

pub returns-then-not-is_bitmap_placed-clause-present : goal.returns-then-not-is_bitmap_placed-clause-present
returns-then-not-is_bitmap_placed-clause-present c image told same =
    let wrong : stops.is_bitmap_placed c.args.site.now c.args.manager.now c.args.chunk ≡ false = cc in
    outside-pool image c.args.site.now c.args.manager.now (length c.args.chunks.now.items) c.args.chunk told same wrong
