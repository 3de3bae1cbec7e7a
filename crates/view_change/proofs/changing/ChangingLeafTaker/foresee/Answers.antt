use Rattle.std.proofs.Common.{◌∙◌, sym, arith}
use Rattle.std.proofs.lemmas.Bool.{false≢true}
use Rattle.view_change.proofs.changing.ChangingLeafTaker.foresee.Goals as goal

pub returns-then-not-shares_half : goal.returns-then-not-shares_half
returns-then-not-shares_half g c = record {
  foreseen = λ start site image had. c.let_go.ensures.held start site image had;
  reads_new = λ reads most limit begins few. absurd (false≢true (sym c.if-not-shares_half.true ∙ c.shares_half.ensures begins.0));
}

pub returns-else-not-shares_half : goal.returns-else-not-shares_half
returns-else-not-shares_half g c = record {
  foreseen = λ start site image had. had;
  reads_new = λ reads most limit begins few. (begins.0.stay, omega (arith, begins.1, few));
}
