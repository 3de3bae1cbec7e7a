use Rattle.std.proofs.Common.{List, refl, subst}
use Rattle.view_sweep.specs.declared.runs.Run.{Run}
use Rattle.view_sweep.specs.Runs.{IsBehind}
use Rattle.view_sweep.proofs.Rises.{some-of, begins-rise}
use Rattle.view_sweep.proofs.runs.add.Goals as goal

pub put_all-requires : goal.put_all-requires
put_all-requires c = record {
  some = some-of c.args.more.now c.requires.more;
  order = λ i j d le within. begins-rise c.args.more.now i j d c.requires.more le within;
  behind = λ r h. subst (λ (xs : List Run). IsBehind r.from xs) c.deref.ensures.value (c.if-are_behind.ensures refl r h);
}
