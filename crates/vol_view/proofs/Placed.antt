-- One more volume that has a property.
use Rattle.std.specs.Prelude.{◌≡◌, List, [], ◌++◌, Option, None, Some, IfSome, option_to_list}
use Rattle.std.proofs.Common.{subst, sym, inl, inr}
use Rattle.apfs_model.specs.Lists.{In}
use Rattle.apfs_model.proofs.Searches.{in-append}

one-has : {X : Type 0} (P : X → Type 0) (o : Option X) (x : X) → IfSome o P → In x (option_to_list o) → P x
one-has P None x h m = absurd m
one-has P (Some y) x h (inl e) = subst P (sym e) h
one-has P (Some y) x h (inr m) = absurd m

-- each item of a list, and one more if there is one
pub each-more : {X : Type 0} (P : X → Type 0) (xs : List X) (o : Option X) (ys : List X) → ys ≡ xs ++ option_to_list o → ((x : X) → In x xs → P x) → IfSome o P → (x : X) → In x ys → P x
each-more {X} P xs o ys e each one x m =
    elim (in-append x xs (option_to_list o) (subst (In x) e m)) [
      | inl h ↦ each x h
      | inr h ↦ one-has P o x one h
    ]
