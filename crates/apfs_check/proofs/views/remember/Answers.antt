use Rattle.std.proofs.Common.{◌≡◌, ◌∙◌, List, [], ◌∷◌, drop, inl, inr, sym, ap, subst}
use Rattle.std.specs.Prelude.{◌⊎◌, Some}
use Rattle.apfs_model.specs.Lists.{In}
use Rattle.apfs_model.proofs.Searches.{in-append}
use Rattle.apfs_check.proofs.views.remember.Goals.{then-len-ge-REMEMBERED, else-len-ge-REMEMBERED}
use Rattle.apfs_check.proofs.views.remember.Goals as goal

-- an item after the first is one of all
in-rest : {X : Type 0} (x : X) (xs : List X) → In x (drop 1 xs) → In x xs
in-rest x [] h = h
in-rest x (y ∷ xs) h = inr h

pub returns : goal.returns
returns c other h =
    let old = c.args.passed.now.items in
    let these = c.if-len-ge-REMEMBERED.passed.items in
    elim (in-append other these (c.in-Some.one ∷ []) (subst (In other) c.in_ok-push.ensures.items h)) as (λ _. In other old ⊎ (c.args.one ≡ Some other)) [
      | inl k ↦ elim c.if-len-ge-REMEMBERED.branch as (λ _. In other old ⊎ (c.args.one ≡ Some other)) [
        | then-len-ge-REMEMBERED w ↦ inl (in-rest other old (subst (In other) (ap (λ v. v.items) w.passed-is ∙ w.remove.ensures.items) k))
        | else-len-ge-REMEMBERED w ↦ inl (subst (In other) (ap (λ v. v.items) w.passed-is) k)
      ]
      | inr (inl e) ↦ inr (c.in-Some.is ∙ ap Some (sym e))
      | inr (inr none) ↦ absurd none
    ]
