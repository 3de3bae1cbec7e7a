-- Items of lists, filtered lists and the greatest item.
use Rattle.std.specs.Prelude.{◌≡◌, ◌⊎◌, ℕ, zero, suc, ◌<◌, ◌≤◌, Bool, true, false, cond, List, [], ◌∷◌, ◌++◌, length, slice_index_or, filter, All, Some, refl}
use Rattle.std.proofs.Common.{arith, ap, sym, ◌∙◌, subst, inl, inr}
use Rattle.std.proofs.lemmas.Grind.{common_steps}
use Rattle.apfs_model.specs.Lists.{In, greatest, greater_of}
use Rattle.apfs_model.proofs.Greatest.{greatest-in, greatest-bound}

-- an item at a place is in the list
pub contains-in : {X : Type 0} (xs : List X) (x : X) (k : ℕ) → k < length xs → slice_index_or xs k x ≡ x → In x xs
contains-in [] x k low e = absurd (omega arith)
contains-in (y ∷ ys) x zero low e = inl (sym e)
contains-in (y ∷ ys) x (suc k) low e = inr (contains-in ys x k (omega arith) e)

-- what holds at each place holds of each item
pub all-in : {X : Type 0} (P : X → Type 0) (xs : List X) → All P xs → (x : X) → In x xs → P x
all-in P [] all x h = absurd h
all-in P (y ∷ ys) all x (inl e) = subst P (sym e) (all 0 y (omega arith))
all-in P (y ∷ ys) all x (inr h) = all-in P ys (λ k d low. all (suc k) d (omega arith)) x h

-- an item that passes is in the filtered list
pub in-filter : {X : Type 0} (test : X → Bool) (xs : List X) (x : X) → In x xs → test x ≡ true → In x (filter test xs)
in-filter test [] x h e = absurd h
in-filter {X} test (y ∷ ys) x (inl f) e = let passes : test y ≡ true = ap test (sym f) ∙ e in subst (λ (b : Bool). In x (cond b (y ∷ filter test ys) (filter test ys))) (sym passes) (inl f)
in-filter test (y ∷ ys) x (inr h) e = in-kept test y x (filter test ys) (test y) (in-filter test ys x h e)
  where
    in-kept : {X : Type 0} (test : X → Bool) (y x : X) (zs : List X) (b : Bool) → In x zs → In x (cond b (y ∷ zs) zs)
    in-kept test y x zs true h = inr h
    in-kept test y x zs false h = h

in-filtered : {X : Type 0} (test : X → Bool) (y x : X) (zs : List X) (b : Bool) → test y ≡ b → In x (cond b (y ∷ zs) zs) → ((x ≡ y) × (test y ≡ true)) ⊎ In x zs
in-filtered test y x zs true e (inl f) = inl (f, e)
in-filtered test y x zs true e (inr h) = inr h
in-filtered test y x zs false e h = inr h

in-chosen : {X : Type 0} (test : X → Bool) (y x : X) (ys : List X) → ((x ≡ y) × (test y ≡ true)) ⊎ In x (filter test ys) → (In x (filter test ys) → In x ys × (test x ≡ true)) → In x (y ∷ ys) × (test x ≡ true)
in-chosen test y x ys (inl (f, e)) rec = (inl f, ap test f ∙ e)
in-chosen test y x ys (inr h) rec = let r = rec h in (inr r.0, r.1)

-- an item of a filtered list is one of the list, and passes
pub filter-in : {X : Type 0} (test : X → Bool) (xs : List X) (x : X) → In x (filter test xs) → In x xs × (test x ≡ true)
filter-in test [] x h = absurd h
filter-in test (y ∷ ys) x h = in-chosen test y x ys (in-filtered test y x (filter test ys) (test y) refl h) (filter-in test ys x)

-- nothing is left where no item passes
pub filter-none : {X : Type 0} (test : X → Bool) (xs : List X) → ((x : X) → In x xs → test x ≡ false) → filter test xs ≡ []
filter-none test [] fails = refl
filter-none {X} test (y ∷ ys) fails = subst (λ (b : Bool). cond b (y ∷ filter test ys) (filter test ys) ≡ []) (sym (fails y (inl refl))) (filter-none test ys (λ x h. fails x (inr h)))

-- the greatest item is one of the list
pub greatest_one : {X : Type 0} (number : X → ℕ) (xs : List X) (g : X) → greatest number xs ≡ Some g → In g xs
greatest_one number xs g e = let c = greatest-in number xs g e in contains-in xs g c.0 c.1 c.2

-- no item has a greater number
pub greatest_bound : {X : Type 0} (number : X → ℕ) (xs : List X) (g : X) → greatest number xs ≡ Some g → (x : X) → In x xs → number x ≤ number g
greatest_bound number xs g e x h = all-in (λ x. number x ≤ number g) xs (greatest-bound number xs g e) x h

-- a last item above all others is the greatest
pub greatest-last : {X : Type 0} (number : X → ℕ) (xs : List X) (g : X) → ((x : X) → In x xs → number x < number g) → greatest number (xs ++ g ∷ []) ≡ Some g
greatest-last number [] g below = refl
greatest-last number (x ∷ xs) g below =
    let rest : greatest number (xs ++ g ∷ []) ≡ Some g = greatest-last number xs g (λ y h. below y (inr h)) in
    let less : number x < number g = below x (inl refl) in
    ap (λ o. Some (greater_of number x o)) rest ∙ grind (arith, common_steps)
