use Rattle.std.proofs.Common.{[], ap, subst}
use Rattle.std.specs.Prelude.{Option, IfSome}
use Rattle.bt_keys.specs.Shapes.{fs_shape}
use Rattle.fs_name.specs.declared.naming.Names.{Names}
use Rattle.vol_view.specs.Volumes.{Loaded}
use Rattle.view_change.specs.declared.changing.Changed.{Changed}
use Rattle.view_change.specs.Kept.{IsKeptView}
use Rattle.view_change.specs.Difference.{IsKeptOf}
use Rattle.view_change.proofs.differing.keep.Goals as goal

pub returns-in-Ok-Some-clause-clear : goal.returns-in-Ok-Some-clause-clear
returns-in-Ok-Some-clause-clear g c image told =
    let site = c.args.site.now in
    let none = subst (λ (n : Names). IsKeptView fs_shape site image n [] c.none-none.result) (ap (λ (v : Loaded). v.names) c.volume.view_is) (c.none-none.ensures.kept site image) in
    subst (λ (o : Option Changed). IfSome o (λ changed. IsKeptOf image site c.args.volume.now c.args.view.now changed.after)) c.in-Ok-Some.field-0-is (c.in-Ok-Some.ensures.after image [] told none)
