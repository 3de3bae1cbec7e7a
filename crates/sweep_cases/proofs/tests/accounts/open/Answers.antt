use Rattle.std.proofs.Common.{ℕ, List, Option, sym, subst}
use Rattle.apfs_model.specs.Lists.{In}
use Rattle.vol_view.specs.Placed.{IsHead}
use Rattle.vol_view.specs.declared.head.VolHead.{VolHead}
use Rattle.sweep_cases.proofs.tests.accounts.open.Goals as goal

pub load_all-requires-clause-heads : goal.load_all-requires-clause-heads
load_all-requires-clause-heads g c = λ head one.
    subst (λ (bytes : Option (List ℕ)). IsHead bytes c.in-Ok.cp head) (sym c.in-Ok-heads.ensures.kept.same_bytes)
    (c.in-Ok-heads.ensures.each head (subst (λ (heads : List VolHead). In head heads) c.deref.ensures.value one))
