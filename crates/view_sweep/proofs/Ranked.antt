-- Lists that are sorted by a total order.
use Rattle.std.proofs.Common.{◌≡◌, ℕ, zero, suc, ◌<◌, ◌≤◌, Bool, false, List, [], ◌∷◌, ◌++◌, length, get_or, take, ◌⊎◌, inl, inr, refl, ap, sym, ◌∙◌, subst, arith}
use Rattle.std.specs.declared.cmp.Ordering.{Ordering}
use Rattle.std.specs.declared.cmp.Ordering.TheVariants.{Less, Equal, Greater}
use Rattle.std.specs.Ordering.{is_lt, ordering_reverse, nat_cmp, ordering_then}
use Rattle.std.specs.Cmp.{IsTotalOrder}
use Rattle.std.specs.List.Sorted.{IsSortedBy}
use Rattle.std.proofs.lemmas.Bool.Decides.{nat_tests}
use Rattle.std.proofs.lemmas.List.Sorted.{sorted_far, ranks_by}
use Rattle.apfs_model.specs.Lists.{In}

-- two of which none is below the other tie
ties-by : (c d : Ordering) → c ≡ ordering_reverse d → is_lt c ≡ false → is_lt d ≡ false → c ≡ Equal
ties-by Less d e p q = absurd (cc)
ties-by Equal d e p q = refl
ties-by Greater Less e p q = absurd (cc)
ties-by Greater Equal e p q = absurd (cc)
ties-by Greater Greater e p q = absurd (cc)

pub ties : {K : Type 0} {R : K → K → Ordering} → IsTotalOrder R → (x y : K) → is_lt (R x y) ≡ false → is_lt (R y x) ≡ false → R x y ≡ Equal
ties {K} {R} o x y p q = ties-by (R x y) (R y x) (o.antisymm x y) p q

-- what stands between two that tie ties with the first
pub between : {X K : Type 0} {R : K → K → Ordering} → IsTotalOrder R → (key : X → K) (xs : List X) → IsSortedBy (λ a b. is_lt (R (key a) (key b))) xs → (i j k : ℕ) (d : X) → i ≤ j → j ≤ k → k < length xs → R (key (get_or xs i d)) (key (get_or xs k d)) ≡ Equal → R (key (get_or xs i d)) (key (get_or xs j d)) ≡ Equal
between {X} {K} {R} o key xs sorted i j k d low high end tie =
    let lt : X → X → Bool = λ a b. is_lt (R (key a) (key b)) in
    let a : is_lt (R (key (get_or xs j d)) (key (get_or xs i d))) ≡ false = sorted_far lt (ranks_by o key) xs sorted i j d low (omega arith) in
    let b : is_lt (R (key (get_or xs k d)) (key (get_or xs j d))) ≡ false = sorted_far lt (ranks_by o key) xs sorted j k d high end in
    let c : R (key (get_or xs i d)) (key (get_or xs j d)) ≡ R (key (get_or xs k d)) (key (get_or xs j d)) = o.congr (key (get_or xs i d)) (key (get_or xs k d)) (key (get_or xs j d)) tie in
    ties o (key (get_or xs i d)) (key (get_or xs j d)) (ap is_lt c ∙ b) a

-- an item of the front of a list has a place in it
pub in-take : {X : Type 0} (xs : List X) (i : ℕ) (x d : X) → In x (take i xs) → (j : ℕ) × ((j < i) × ((j < length xs) × (x ≡ get_or xs j d)))
in-take [] zero x d h = absurd h
in-take [] (suc i) x d h = absurd h
in-take (y ∷ ys) zero x d h = absurd h
in-take (y ∷ ys) (suc i) x d (inl e) = (0, (omega arith, (omega arith, e)))
in-take (y ∷ ys) (suc i) x d (inr h) = let t = in-take ys i x d h in let low : t.0 < i = t.1.0 in let end : t.0 < length ys = t.1.1.0 in (suc t.0, (omega arith, (omega arith, t.1.1.1)))

-- an item of a list has a place in it
pub in-place : {X : Type 0} (xs : List X) (x d : X) → In x xs → (j : ℕ) × ((j < length xs) × (x ≡ get_or xs j d))
in-place [] x d h = absurd h
in-place (y ∷ ys) x d (inl e) = (0, (omega arith, e))
in-place (y ∷ ys) x d (inr h) = let t = in-place ys x d h in let low : t.0 < length ys = t.1.0 in (suc t.0, (omega arith, t.1.1))

pub place-in : {X : Type 0} (xs : List X) (j : ℕ) (d : X) → j < length xs → In (get_or xs j d) xs
place-in [] j d low = absurd (omega arith)
place-in (y ∷ ys) zero d low = inl refl
place-in (y ∷ ys) (suc j) d low = inr (place-in ys j d (omega arith))

pub get_or-same : {X : Type 0} (xs : List X) (i : ℕ) (d f : X) → i < length xs → get_or xs i d ≡ get_or xs i f
get_or-same [] i d f low = absurd (omega arith)
get_or-same (x ∷ xs) zero d f low = refl
get_or-same (x ∷ xs) (suc i) d f low = get_or-same xs i d f (omega arith)

-- an item of a list, or the one that is put after it
pub in-push : {X : Type 0} (x : X) (xs : List X) (y : X) → In x (xs ++ y ∷ []) → In x xs ⊎ (x ≡ y)
in-push x [] y (inl e) = inr e
in-push x [] y (inr h) = absurd h
in-push x (z ∷ zs) y (inl e) = inl (inl e)
in-push x (z ∷ zs) y (inr h) = elim (in-push x zs y h) as (λ _. In x (z ∷ zs) ⊎ (x ≡ y)) [ inl k ↦ inl (inr k) | inr e ↦ inr e ]

-- what holds of each item of the front, and of the next one, holds of each of the longer front
pub every-push : {X : Type 0} (P : X → Type 0) (xs ys : List X) (y : X) → ys ≡ xs ++ y ∷ [] → ((x : X) → In x xs → P x) → P y → (x : X) → In x ys → P x
every-push P xs ys y e all one x h =
    elim (in-push x xs y (subst (λ zs. In x zs) e h)) as (λ _. P x) [ inl k ↦ all x k | inr s ↦ subst P (sym s) one ]

-- two numbers that tie are one
pub nat-tie : (x y : ℕ) → nat_cmp x y ≡ Equal → x ≡ y
nat-tie x y e = grind (arith, nat_tests)

-- two orders one after the other tie where both do
pub then-tie : (c d : Ordering) → ordering_then c d ≡ Equal → (c ≡ Equal) × (d ≡ Equal)
then-tie Less d e = absurd (cc)
then-tie Equal d e = (refl, e)
then-tie Greater d e = absurd (cc)
