-- What a clause says of a value that is there.
use Rattle.std.proofs.Common.{◌≡◌, ℕ, zero, suc, ◌<◌, Bool, true, false, ◌&&◌, List, [], ◌∷◌, ◌++◌, length, get_or, Option, Some, None, IfSome, refl, ap, sym, subst, ◌∙◌, if◌then◌else◌, arith}
use Rattle.std.specs.Option.{is_some}
use Rattle.std.specs.List.{list_all}

pub some_at : {X : Type 0} (P : X → Type 0) {o : Option X} {x : X} → o ≡ Some x → IfSome o P → P x
some_at {X} P e h = let Q : Option X → Type 0 = λ o. IfSome o P in subst Q e h

-- where nothing is there, the test that chose failed, and otherwise it passed
pub none_chosen : {X : Type 0} (b : Bool) (x : X) (o : Option X) → o ≡ (if b then Some x else None) → is_some o ≡ false → b ≡ false
none_chosen true x o e f = sym (ap is_some e) ∙ f
none_chosen false x o e f = refl

pub some_chosen : {X : Type 0} (b : Bool) (x : X) (o : Option X) → o ≡ (if b then Some x else None) → is_some o ≡ true → b ≡ true
some_chosen true x o e f = refl
some_chosen false x o e f = sym (ap is_some e) ∙ f

-- what is there was chosen, and the test that chose passed
pub chosen_is : {X : Type 0} (b : Bool) (x y : X) (o : Option X) → o ≡ (if b then Some x else None) → o ≡ Some y → (b ≡ true) × (y ≡ x)
chosen_is true x y o e f = (refl, Prim.cc)
chosen_is false x y o e f = absurd (Prim.cc)

-- a list with one item more
pub grown : {X : Type 0} (new old part all : List X) (x y : X) → new ≡ old ++ y ∷ [] → old ≡ part → y ≡ x → all ≡ part ++ x ∷ [] → new ≡ all
grown new old part all x y e f g h = Prim.cc

-- one item that fails fails a list
pub all_fail : {X : Type 0} (p : X → Bool) (xs : List X) (i : ℕ) (d : X) → i < length xs → p (get_or xs i d) ≡ false → list_all p xs ≡ false
all_fail p [] i d low e = absurd (Prim.omega (arith, low))
all_fail p (x ∷ xs) zero d low e = ap (λ b. b && list_all p xs) e
all_fail p (x ∷ xs) (suc i) d low e =
    let rest : list_all p xs ≡ false = all_fail p xs i d (Prim.omega (arith, low)) e in
    elim (p x) as (λ b. (b && list_all p xs) ≡ false) [ true ↦ rest | false ↦ refl ]

passes_or : {X : Type 0} (p : X → Bool) (xs : List X) (i : ℕ) (d : X) (b : Bool) → p (get_or xs i d) ≡ b → i < length xs → list_all p xs ≡ true → b ≡ true
passes_or p xs i d true here low e = refl
passes_or p xs i d false here low e = sym (all_fail p xs i d low here) ∙ e

-- where a list passes, each item does
pub all_pass : {X : Type 0} (p : X → Bool) (xs : List X) (i : ℕ) (d : X) → i < length xs → list_all p xs ≡ true → p (get_or xs i d) ≡ true
all_pass p xs i d low e = passes_or p xs i d (p (get_or xs i d)) refl low e
