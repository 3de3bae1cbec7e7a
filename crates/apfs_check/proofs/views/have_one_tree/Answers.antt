use Rattle.std.proofs.Common.{◌≡◌, ◌∙◌, ap, arith}
use Rattle.vol_view.specs.Volumes.{Loaded}
use Rattle.apfs_check.proofs.Again.{one-tree}
use Rattle.apfs_check.proofs.views.have_one_tree.Goals as goal

pub returns-then-one-other : goal.returns-then-one-other
returns-then-one-other c t =
    let same : c.args.one.now.root_oid ≡ c.args.other.now.root_oid = omega (arith, c.if-one-other.true) in
    one-tree c.args.volume.now c.args.one.now c.args.other.now c.records.result.now c.is_seen_alike.result same (c.records.ensures.all ∙ ap (λ (v : Loaded). v.omap.records) c.volume.view_is) c.is_seen_alike.ensures t
