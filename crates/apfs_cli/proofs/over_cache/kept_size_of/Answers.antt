-- What was read are the image's first bytes.
use Rattle.std.proofs.Common.{◌≡◌, ◌≤◌, length, arith}
use Rattle.std.proofs.lemmas.Grind.{common_steps}
use Rattle.apfs_cli.proofs.Kept.{kept_size_at}
use Rattle.apfs_cli.proofs.over_cache.kept_size_of.Goals as goal

pub returns-in-Ok-clause-value : goal.returns-in-Ok-clause-value
returns-in-Ok-clause-value g c image told =
    let whole : length image ≡ g.S.BlockSource.bytes_len c.args.src.now = g.met.S.BlockSource.whole c.args.src.now image told in
    let long : 4096 ≤ length image = omega (arith, c.if-size.false, c.size.ensures, whole) in
    let len : length c.read_at.new.into ≡ 4096 = grind (arith, common_steps, c.read_at.auto.into) in
    kept_size_at image c.read_at.new.into c.told_size.result long len (c.in-Ok.ensures.found image told) c.told_size.ensures.value
