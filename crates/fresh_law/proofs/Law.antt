-- What the blocks of a new container say is enough: the container is well-formed, and holds one empty volume.
use Rattle.std.proofs.Common.{◌≡◌, ℕ, List, [], ◌∷◌, inl, inr, refl, sym, subst}
use Rattle.apfs_model.specs.Lists.{In}
use Rattle.vol_view.specs.Heads.{heads_of}
use Rattle.vol_view.specs.declared.head.VolHead.{VolHead}
use Rattle.reach_rules.specs.Accounted.{IsAccounted}
use Rattle.view_rules.specs.declared.profile.Profile.{Profile}
use Rattle.view_rules.specs.declared.profile.Profile.TheVariants.{Plain, Strict}
use Rattle.apfs_check.specs.WellFormed.{IsRightVolume, IsWellFormed}
use Rattle.img_format.specs.declared.spec.Spec.{Spec}
use Rattle.img_format.specs.Valid.{IsValid}
use Rattle.fresh_law.specs.Site.{block_at}
use Rattle.fresh_law.specs.Checkpoint.{seen}
use Rattle.fresh_law.specs.Facts.{IsFresh}
use Rattle.img_format.specs.Fresh.{fresh}
use Rattle.fresh_law.proofs.Fresh.{fresh-says}
use Rattle.fresh_law.specs.Law.{SaidHolds, FreshHolds}
use Rattle.fresh_law.proofs.Newest.{newest}
use Rattle.fresh_law.proofs.Named.{are-named}
use Rattle.fresh_law.proofs.Trees.{are-in-order}
use Rattle.fresh_law.proofs.Features.{is-plain}
use Rattle.fresh_law.proofs.Space.{has-manager, is-shaped}
use Rattle.fresh_law.proofs.Bits.{is-settled, is-pool-settled}
use Rattle.fresh_law.proofs.Volumes.{head, heads-are, right-volume, empty-root, no-snaps}

pub accounted : (spec : Spec) (image : List ℕ) → IsValid spec → IsFresh spec image → IsAccounted image (seen image)
accounted spec image v f = record {
  names = are-named spec image v f;
  trees = are-in-order spec image v f;
  plain = is-plain spec image v f;
  manager = block_at image 9;
  block = 9;
  managed = has-manager spec image v f;
  shaped = is-shaped spec image v f;
  settled = is-settled spec image v f;
  pool = is-pool-settled spec image v f;
}

volumes-right : (profile : Profile) (spec : Spec) (image : List ℕ) → IsValid spec → IsFresh spec image → (h : VolHead) → In h (heads_of image (seen image)) → IsRightVolume profile image (seen image) h
volumes-right profile spec image v f h k =
    let one : In h (head spec ∷ []) = subst (λ hs. In h hs) (heads-are spec image v f) k in
    let e : h ≡ head spec = elim one as (λ _. h ≡ head spec) [ inl e ↦ e | inr z ↦ absurd z ] in
    subst (λ x. IsRightVolume profile image (seen image) x) (sym e) (right-volume profile spec image v f)

pub well-formed : (profile : Profile) (spec : Spec) (image : List ℕ) → IsValid spec → IsFresh spec image → IsWellFormed profile image
well-formed profile spec image v f = record {
  seen = seen image;
  newest = newest spec image v f;
  right = record { accounted = accounted spec image v f; volumes = volumes-right profile spec image v f };
}

-- the second step
pub said-holds : SaidHolds
said-holds spec image v f = record {
  plain = well-formed Plain spec image v f;
  strict = well-formed Strict spec image v f;
  seen = seen image;
  newest = newest spec image v f;
  transaction = refl;
  head = head spec;
  one = heads-are spec image v f;
  named = refl;
  identified = refl;
  counts_none = refl;
  lists_none = no-snaps spec image v f;
  empty = empty-root spec image v f;
}

-- the law
pub fresh-holds : FreshHolds
fresh-holds spec v = said-holds spec (fresh spec) v (fresh-says spec v)
