use Rattle.std.proofs.lemmas.List.Sorted.{Contains-permutation, IsPermutation-sym}
use Rattle.id_lists.proofs.Repeats.{contained, listed}
use Rattle.ext_ref.proofs.Members.{extent-same}
use Rattle.ext_ref.proofs.thinning.thin.Goals as goal

pub merge-requires : goal.merge-requires
merge-requires c = record { same = extent-same }

pub returns : goal.returns
returns c =
    let moved = c.sort_unstable_by_key.ensures.permutation in
    λ x. (
      (λ h. (c.merge.ensures x).0 (listed _ x (Contains-permutation _ _ x moved (contained _ x h)))),
      (λ h. listed _ x (Contains-permutation _ _ x (IsPermutation-sym _ _ moved) (contained _ x ((c.merge.ensures x).1 h)))),
    )
