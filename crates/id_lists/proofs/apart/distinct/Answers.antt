use Rattle.std.proofs.Common.{sym, ◌∙◌}
use Rattle.std.proofs.lemmas.List.Filters.{dedup_is}
use Rattle.std.proofs.lemmas.List.Kept.{Contains-dedup, Contains-from_dedup, IsStrictlySortedBy-dedup}
use Rattle.std.proofs.lemmas.List.Sorted.{Contains-permutation, IsPermutation-sym}
use Rattle.id_lists.proofs.Repeats.{contained, listed, sorted_apart, ties}
use Rattle.id_lists.proofs.apart.distinct.Goals as goal

pub returns-clause-same : goal.returns-clause-same
returns-clause-same g c =
    let is = dedup_is _ _ _ c.dedup.ensures.filtered in
    let moved = c.sort_unstable.ensures.permutation in
    λ x. (
      (λ h. listed _ x (rw is (Contains-dedup g.met.T.Eq.laws (λ a b e. c.requires.one a b (ties _ (sym (g.met.T.Ord.matches_eq a b) ∙ e))) _ x (Contains-permutation _ _ x moved (contained _ x h))))),
      (λ h. listed _ x (Contains-permutation _ _ x (IsPermutation-sym _ _ moved) (Contains-from_dedup _ _ x (rw is at (contained _ x h))))),
    )

pub returns-clause-apart : goal.returns-clause-apart
returns-clause-apart g c =
    let is = dedup_is _ _ _ c.dedup.ensures.filtered in
    rw is (sorted_apart g.met.T.Ord.total _ (IsStrictlySortedBy-dedup g.met.T.Ord.total g.met.T.Ord.matches_eq _ c.sort_unstable.ensures.sorted))
