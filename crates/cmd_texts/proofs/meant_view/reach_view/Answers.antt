-- The view that is meant, or what stands in the way to it.
use Rattle.std.proofs.Common.{sym}
use Rattle.cmd_words.specs.Lent.{target_asked}
use Rattle.cmd_texts.proofs.OverView.{view_way}
use Rattle.cmd_texts.proofs.meant_view.reach_view.Goals as goal

pub returns-in-Err-clause-way : goal.returns-in-Err-clause-way
returns-in-Err-clause-way g c image given = view_way image (target_asked c.args.target) c.in-Err.stopped (c.in-Err.ensures.way image given)

pub returns-in-Some-clause-clear : goal.returns-in-Some-clause-clear
returns-in-Some-clause-clear g c image given = record { volume_is = c.in-Ok.ensures.clear image given; same = sym c.in-Some.ensures }

pub returns-in-None-clause-way : goal.returns-in-None-clause-way
returns-in-None-clause-way g c image given =
    record { seen = c.in-Ok.reached.checkpoint; volume = c.in-Ok.reached.volume; volume_is = c.in-Ok.ensures.clear image given; none = sym c.in-None.ensures }
