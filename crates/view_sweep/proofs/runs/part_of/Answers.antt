use Rattle.view_sweep.proofs.Rises.{part-rising, part-places}
use Rattle.view_sweep.proofs.runs.part_of.Goals as goal

pub returns : goal.returns
returns c = record {
  rising = part-rising c.args.low c.args.high c.args.runs.now c.between-these.result.now c.in_ok-part.part.items c.requires.order c.requires.rising c.between-these.ensures c.in_ok-part.ensures;
  places = λ k. part-places c.args.low c.args.high c.args.runs.now c.between-these.result.now c.in_ok-part.part.items k c.between-these.ensures c.in_ok-part.ensures;
}
