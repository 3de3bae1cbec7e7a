-- Owners that are kept, one after another, as ranges and as owners.
use Rattle.std.proofs.Common.{◌≡◌, ℕ, suc, ◌+◌, ◌<◌, ◌≤◌, Bool, true, false, cond, List, [], ◌∷◌, ◌++◌, length, map, take, get_or, refl, ap, sym, ◌∙◌, arith}
use Rattle.std.specs.Prelude.{not, ◌==◌, filter, flat_map}
use Rattle.std.proofs.lemmas.List.{take_more, append_assoc, append-nil, map-append, length-append}
use Rattle.std.proofs.lemmas.List.Concat.{flat_map-append}
use Rattle.std.proofs.lemmas.List.Elements.{filter-append}
use Rattle.reach_rules.specs.declared.naming.Naming.{Naming}
use Rattle.reach_rules.specs.declared.owner.Who.TheVariants.{Told}
use Rattle.reach_rules.specs.declared.owner.Owner.{Owner}
use Rattle.reach_rules.specs.Owners.{owner_of, told_from}
use Rattle.reach_rules.specs.Reached.{range_of}
use Rattle.reach_gather.specs.Held.{some_owners}
use Rattle.reach_gather.specs.Finished.{id_of}
use Rattle.reach_gather.specs.Kept.{namings_in, owners_in, some_ranges}
use Rattle.reach_gather.specs.declared.keeping.Noted.{Noted}
use Rattle.reach_gather.specs.declared.keeping.Noted.TheVariants.{Named, Block, One, Those}

-- what is made of a list grows by what is made of one more item
grown : {X Y : Type 0} (f : List X → List Y) → ((xs ys : List X) → f (xs ++ ys) ≡ f xs ++ f ys) → (xs : List X) (i : ℕ) (d : X) (old mid new : List Y) → i < length xs
    → mid ≡ old ++ f (take i xs) → new ≡ mid ++ f (get_or xs i d ∷ []) → new ≡ old ++ f (take (i + 1) xs)
grown f both xs i d old mid new low m given =
    let x = get_or xs i d in
    let more : take (i + 1) xs ≡ take i xs ++ x ∷ [] = take_more xs i d low in
    given ∙ (ap (λ ys. ys ++ f (x ∷ [])) m ∙ (append_assoc old (f (take i xs)) (f (x ∷ [])) ∙ ap (λ ys. old ++ ys) (sym (both (take i xs) (x ∷ [])) ∙ ap f (sym more))))

pub ranges-more : (xs : List (ℕ × ℕ)) (i : ℕ) (d : ℕ × ℕ) (old mid new : List (ℕ × ℕ)) → i < length xs → mid ≡ old ++ some_ranges (take i xs) → new ≡ mid ++ some_ranges (get_or xs i d ∷ []) → new ≡ old ++ some_ranges (take (i + 1) xs)
ranges-more = grown some_ranges (filter-append (λ (r : ℕ × ℕ). not (r.1 == 0)))

pub made-more : {Y : Type 0} (g : Noted → List Y) (xs : List Noted) (i : ℕ) (x : Noted) (old mid new : List Y) → i < length xs → get_or xs i x ≡ x → mid ≡ old ++ flat_map g (take i xs) → new ≡ mid ++ g x
    → new ≡ old ++ flat_map g (take (i + 1) xs)
made-more g xs i x old mid new low is m given =
    grown (flat_map g) (flat_map-append g) xs i x old mid new low m (given ∙ ap (λ ys. mid ++ ys) (sym (append-nil (g x)) ∙ ap (λ y. g y ++ []) (sym is)))

-- each item is one naming at most
pub few-namings : (ks : List Noted) → length (flat_map namings_in ks) ≤ length ks
few-namings [] = omega arith
few-namings (k ∷ ks) =
    let rest : length (flat_map namings_in ks) ≤ length ks = few-namings ks in
    let one : (k : Noted) → length (namings_in k) ≤ 1 = λ k. elim k as (λ k. length (namings_in k) ≤ 1) [ Named n ↦ omega arith | Block n ↦ omega arith | One o ↦ omega arith | Those n rs ↦ omega arith ] in
    let here : length (namings_in k) ≤ 1 = one k in
    omega (arith, rest, here, length-append (namings_in k) (flat_map namings_in ks))

-- the namings of what is kept that pass, item by item
abbrev pub passed_in : (Naming → Bool) → Noted → List Naming
passed_in p k = filter p (namings_in k)

pub passed-all : (p : Naming → Bool) (ks : List Noted) → flat_map (passed_in p) ks ≡ filter p (flat_map namings_in ks)
passed-all p [] = refl
passed-all p (k ∷ ks) = ap (λ ns. passed_in p k ++ ns) (passed-all p ks) ∙ sym (filter-append p (namings_in k) (flat_map namings_in ks))

-- their ids
abbrev pub ids_in : (Naming → Bool) → Noted → List ℕ
ids_in p k = map id_of (passed_in p k)

pub ids-all : (p : Naming → Bool) (ks : List Noted) → flat_map (ids_in p) ks ≡ map id_of (filter p (flat_map namings_in ks))
ids-all p [] = refl
ids-all p (k ∷ ks) =
    ap (λ ns. ids_in p k ++ ns) (ids-all p ks)
    ∙ (sym (map-append id_of (passed_in p k) (filter p (flat_map namings_in ks)))
    ∙ ap (map id_of) (sym (filter-append p (namings_in k) (flat_map namings_in ks))))

-- the ranges of what is kept, item by item
abbrev pub ranges_in : Noted → List (ℕ × ℕ)
ranges_in k = map range_of (owners_in k)

pub ranges-all : (ks : List Noted) → flat_map ranges_in ks ≡ map range_of (flat_map owners_in ks)
ranges-all [] = refl
ranges-all (k ∷ ks) = ap (λ ys. ranges_in k ++ ys) (ranges-all ks) ∙ sym (map-append range_of (owners_in k) (flat_map owners_in ks))

-- the ranges of which an object tells are those of their owners
told-if : (b : Bool) (o : Owner) (os : List Owner) (rs : List (ℕ × ℕ)) → map range_of os ≡ rs → map range_of (cond b (o ∷ os) os) ≡ cond b (range_of o ∷ rs) rs
told-if true o os rs e = ap (λ ys. range_of o ∷ ys) e
told-if false o os rs e = e

pub told-ranges : (n : Naming) (k : ℕ) (rs : List (ℕ × ℕ)) → map range_of (some_owners (told_from n k rs)) ≡ some_ranges rs
told-ranges n k [] = refl
told-ranges n k (r ∷ rs) = told-if (not (r.1 == 0)) (owner_of (Told n k) r) (some_owners (told_from n (suc k) rs)) (some_ranges rs) (told-ranges n (suc k) rs)
