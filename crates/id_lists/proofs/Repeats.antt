-- Lists that are sorted and have each of their items once.
use Rattle.std.proofs.Common.{◌≡◌, ℕ, zero, suc, ◌<◌, true, List, [], ◌∷◌, length, slice_index_or, inl, inr, refl, ap, sym, ◌∙◌, arith}
use Rattle.std.specs.declared.cmp.Ordering.{Ordering}
use Rattle.std.specs.declared.cmp.Ordering.TheVariants.{Less, Equal, Greater}
use Rattle.std.specs.Ordering.{ordering_reverse, is_eq}
use Rattle.std.specs.Cmp.{IsTotalOrder}
use Rattle.std.specs.List.{Contains, AllByRecursion}
use Rattle.std.specs.List.Sorted.{IsStrictlySortedBy}
use Rattle.apfs_model.specs.Apart.{Apart}
use Rattle.apfs_model.specs.Lists.{In}

-- what is in a list has a place in it
pub contained : {X : Type 0} (xs : List X) (x : X) → In x xs → Contains xs x
contained [] x h = absurd h
contained (y ∷ ys) x (inl e) = (0, omega arith, sym e)
contained (y ∷ ys) x (inr h) = let t = contained ys x h in let low : t.0 < length ys = t.1 in (suc t.0, omega arith, t.2)

-- and what has a place in it is in it
placed : {X : Type 0} (xs : List X) (x : X) (k : ℕ) → k < length xs → slice_index_or xs k x ≡ x → In x xs
placed [] x k low e = absurd (omega arith)
placed (y ∷ ys) x zero low e = inl (sym e)
placed (y ∷ ys) x (suc k) low e = inr (placed ys x k (omega arith) e)

pub listed : {X : Type 0} (xs : List X) (x : X) → Contains xs x → In x xs
listed xs x t = placed xs x t.0 t.1 t.2

-- nothing is below itself
reversed : (o : Ordering) → o ≡ ordering_reverse o → o ≡ Less → ⊥
reversed Less e p = absurd (cc)
reversed Equal e p = absurd (cc)
reversed Greater e p = absurd (cc)

-- what is below all of a list isn't in it
below-out : {K : Type 0} {R : K → K → Ordering} → IsTotalOrder R → (x : K) (ys : List K) → AllByRecursion (λ y. R x y ≡ Less) ys → In x ys → ⊥
below-out o x [] all h = h
below-out {K} {R} o x (y ∷ ys) all (inl e) = reversed (R x x) (o.antisymm x x) (ap (R x) e ∙ all.0)
below-out o x (y ∷ ys) all (inr h) = below-out o x ys all.1 h

-- in a list that is strictly sorted nothing stands twice
pub sorted_apart : {K : Type 0} {R : K → K → Ordering} → IsTotalOrder R → (xs : List K) → IsStrictlySortedBy R xs → Apart xs
unfolding IsStrictlySortedBy
sorted_apart o [] s = tt
sorted_apart o (x ∷ xs) s = (below-out o x xs s.0, sorted_apart o xs s.1)

-- an order that is told as equal is equal
pub ties : (o : Ordering) → is_eq o ≡ true → o ≡ Equal
ties Less e = absurd (cc)
ties Equal e = refl
ties Greater e = absurd (cc)
