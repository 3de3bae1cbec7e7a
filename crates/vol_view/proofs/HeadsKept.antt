-- A head that `heads` gave stays one while the source keeps its bytes, as a caller of `load` has to show.
use Rattle.std.specs.Prelude.{◌≡◌, ℕ, ◌<◌, List, Option, length}
use Rattle.std.proofs.Common.{sym, subst, get_or}
use Rattle.apfs_model.specs.Lists.{In}
use Rattle.nx_ring.specs.Checkpoint.{Seen}
use Rattle.vol_view.specs.Placed.{IsHead}
use Rattle.vol_view.specs.declared.head.VolHead.{VolHead}
use Rattle.vol_view.proofs.Wholeness.{item-in}

pub head-kept : (old new : Option (List ℕ)) (seen : Seen) (heads : List VolHead) (i : ℕ) (head : VolHead) → ((h : VolHead) → In h heads → IsHead old seen h) → new ≡ old → i < length heads → head ≡ get_or heads i head → IsHead new seen head
head-kept old new seen heads i head each same low e = subst (λ b. IsHead b seen head) (sym same) (each head (item-in heads i head low e))
