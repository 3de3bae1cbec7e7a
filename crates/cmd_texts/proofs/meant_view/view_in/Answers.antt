-- The snapshot of the name, where there is one.
use Rattle.cmd_texts.proofs.Views.{by_name_low}
use Rattle.cmd_texts.proofs.meant_view.view_in.Goals as goal

pub past-requires : goal.past-requires
past-requires c = by_name_low c.args.volume.now c.as_bytes.result.now c.in-Some-by_name.i c.in-Some-by_name.ensures
