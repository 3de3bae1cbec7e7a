-- Lists without items.
use Rattle.std.proofs.Common.{◌≡◌, List, [], ◌∷◌, ◌++◌, map, inl, inr, refl, ap, ◌∙◌}
use Rattle.std.specs.Prelude.{flat_map}
use Rattle.apfs_model.specs.Lists.{In}

pub left-none : {X : Type 0} (xs ys : List X) → xs ++ ys ≡ [] → xs ≡ []
left-none [] ys e = refl
left-none (x ∷ xs) ys e = absurd (cc)

pub right-none : {X : Type 0} (xs ys : List X) → xs ++ ys ≡ [] → ys ≡ []
right-none [] ys e = e
right-none (x ∷ xs) ys e = absurd (cc)

pub map-none : {X Y : Type 0} (f : X → Y) (xs : List X) → map f xs ≡ [] → xs ≡ []
map-none f [] e = refl
map-none f (x ∷ xs) e = absurd (cc)

pub flat-none : {X Y : Type 0} (f : X → List Y) (xs : List X) → flat_map f xs ≡ [] → (x : X) → In x xs → f x ≡ []
flat-none f [] e x h = absurd h
flat-none f (y ∷ ys) e x (inl s) = ap f s ∙ left-none (f y) (flat_map f ys) e
flat-none f (y ∷ ys) e x (inr h) = flat-none f ys (right-none (f y) (flat_map f ys) e) x h

pub none-flat : {X Y : Type 0} (f : X → List Y) (xs : List X) → ((x : X) → In x xs → f x ≡ []) → flat_map f xs ≡ []
none-flat f [] h = refl
none-flat f (x ∷ xs) h = ap (λ ys. ys ++ flat_map f xs) (h x (inl refl)) ∙ none-flat f xs (λ y k. h y (inr k))
