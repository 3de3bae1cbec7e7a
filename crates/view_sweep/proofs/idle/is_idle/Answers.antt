use Rattle.std.proofs.Common.{refl}
use Rattle.view_sweep.proofs.idle.is_idle.Goals as goal

pub returns-then-is_among-clause-used : goal.returns-then-is_among-clause-used
returns-then-is_among-clause-used c = λ _ _. c.if-is_among.ensures.one refl

pub returns-clause-idle : goal.returns-clause-idle
returns-clause-idle c = λ _. c.if-is_among.ensures.none refl
