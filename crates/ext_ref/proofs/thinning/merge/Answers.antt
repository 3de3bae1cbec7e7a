use Rattle.std.proofs.lemmas.List.Filters.{dedup_is}
use Rattle.std.proofs.lemmas.List.Kept.{Contains-dedup, Contains-from_dedup}
use Rattle.id_lists.proofs.Repeats.{contained, listed}
use Rattle.ext_ref.proofs.thinning.merge.Goals as goal

pub returns : goal.returns
returns g c =
    let is = dedup_is _ _ _ c.dedup.ensures.filtered in
    λ x. (
      (λ h. listed _ x (rw is (Contains-dedup g.met.T.Eq.laws c.requires.same _ x (contained _ x h)))),
      (λ h. listed _ x (Contains-from_dedup _ _ x (rw is at (contained _ x h)))),
    )
