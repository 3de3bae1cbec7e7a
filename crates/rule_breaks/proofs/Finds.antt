-- The first item that breaks a rule.
use Rattle.std.proofs.Common.{◌≡◌, ℕ, zero, suc, ◌+◌, ◌<◌, ◌≤◌, Bool, true, false, cond, List, [], ◌∷◌, ◌++◌, length, map, take, get_or, Option, Some, None, inl, inr, refl, ap, sym, ◌∙◌, subst, arith}
use Rattle.std.specs.List.{find}
use Rattle.std.proofs.lemmas.Option.{none-some}
use Rattle.std.proofs.lemmas.List.Folds.{find-append}
use Rattle.std.specs.Option.{option_or}
use Rattle.std.specs.Prelude.{option_to_list, filter}
use Rattle.std.proofs.lemmas.List.{take_more, take_all, map-append}
use Rattle.std.proofs.lemmas.List.Elements.{filter-append}
use Rattle.apfs_model.proofs.Searches.{found-in}
use Rattle.view_rules.specs.Words.{IsClear, IsBroken}

-- where nothing is found no item breaks the rule
pub none-clear : {X : Type 0} (breaks : X → Bool) (xs : List X) → find breaks xs ≡ None → IsClear breaks xs
none-clear breaks [] e x listed = absurd listed
none-clear {X} breaks (y ∷ ys) e x listed =
    let go : (b : Bool) → breaks y ≡ b → cond b (Some y) (find breaks ys) ≡ None → breaks x ≡ false =
    λ b. elim b as (λ b. breaks y ≡ b → cond b (Some y) (find breaks ys) ≡ None → breaks x ≡ false) [
      | true ↦ λ t n. absurd (none-some y (sym n))
      | false ↦ λ t n. elim listed as (λ _. breaks x ≡ false) [ inl same ↦ ap breaks same ∙ t | inr more ↦ none-clear breaks ys n x more ]
    ] in
    go (breaks y) refl e

-- what is found breaks the rule
pub found-broken : {X P : Type 0} (breaks : X → Bool) (place_of : X → P) (xs : List X) (x : X) → find breaks xs ≡ Some x → IsBroken breaks place_of xs (place_of x)
found-broken breaks place_of xs x e = let t = found-in breaks xs x e in record { item = x; listed = t.0; same = refl; breach = t.1 }

-- the next item of a list passes
pub find_here : {X : Type 0} (test : X → Bool) (xs : List X) (i : ℕ) (d : X) → i < length xs → find test (take i xs) ≡ None → test (get_or xs i d) ≡ true → find test xs ≡ Some (get_or xs i d)
find_here test [] i d low none passes = absurd (omega arith)
find_here {X} test (y ∷ ys) zero d low none passes = ap (λ b. cond b (Some y) (find test ys)) passes
find_here {X} test (y ∷ ys) (suc i) d low none passes =
    let go : (b : Bool) → cond b (Some y) (find test (take i ys)) ≡ None → cond b (Some y) (find test ys) ≡ Some (get_or ys i d) =
    λ b. elim b as (λ b. cond b (Some y) (find test (take i ys)) ≡ None → cond b (Some y) (find test ys) ≡ Some (get_or ys i d)) [
      | true ↦ λ e. absurd (none-some y (sym e))
      | false ↦ λ e. find_here test ys i d (omega arith) e passes
    ] in
    go (test y) none

-- it doesn't
pub find_more : {X : Type 0} (test : X → Bool) (xs : List X) (i : ℕ) (d : X) → i < length xs → find test (take i xs) ≡ None → test (get_or xs i d) ≡ false → find test (take (i + 1) xs) ≡ None
find_more {X} test xs i d low none fails =
    ap (find test) (take_more xs i d low) ∙ (find-append test (take i xs) (get_or xs i d ∷ []) ∙ (ap (λ (o : Option X). option_or o (cond (test (get_or xs i d)) (Some (get_or xs i d)) None)) none ∙ ap (λ b. cond b (Some (get_or xs i d)) None) fails))

-- the item of a turn is the first that passes
pub found_item : {X : Type 0} (test : X → Bool) (xs items : List X) (i : ℕ) (x : X) (r : Bool) → items ≡ xs → i < length items → x ≡ get_or items i x → find test (take i xs) ≡ None → r ≡ test x → r ≡ true → Some x ≡ find test xs
found_item {X} test xs items i x r same low is none tested passes =
    let at : x ≡ get_or xs i x = is ∙ ap (λ (ys : List X). get_or ys i x) same in
    let low2 : i < length xs = subst (λ (ys : List X). i < length ys) same low in
    ap Some at ∙ sym (find_here test xs i x low2 none (ap test (sym at) ∙ (sym tested ∙ passes)))

-- it fails
pub next_item : {X : Type 0} (test : X → Bool) (xs items : List X) (i : ℕ) (x : X) (r : Bool) → items ≡ xs → i < length items → x ≡ get_or items i x → find test (take i xs) ≡ None → r ≡ test x → r ≡ false → find test (take (i + 1) xs) ≡ None
next_item {X} test xs items i x r same low is none tested fails =
    let at : x ≡ get_or xs i x = is ∙ ap (λ (ys : List X). get_or ys i x) same in
    let low2 : i < length xs = subst (λ (ys : List X). i < length ys) same low in
    find_more test xs i x low2 none (ap test (sym at) ∙ (sym tested ∙ fails))

-- each item failed
pub all_clear : {X : Type 0} (test : X → Bool) (xs items : List X) (i : ℕ) → items ≡ xs → length items ≤ i → find test (take i xs) ≡ None → IsClear test xs
all_clear {X} test xs items i same high none = none-clear test xs (ap (find test) (sym (take_all i xs (subst (λ (ys : List X). length ys ≤ i) same high))) ∙ none)

noted-one : {X Y : Type 0} (p : X → Bool) (f : X → Y) (b : Bool) (x : X) → map f (cond b (x ∷ []) []) ≡ option_to_list (cond b (Some (f x)) None)
noted-one p f true x = refl
noted-one p f false x = refl

-- one more item is noted, where it passes
pub noted-more : {X Y : Type 0} (p : X → Bool) (f : X → Y) (xs items : List X) (i : ℕ) (x : X) (old new : List Y) (given : Option Y) → items ≡ xs → i < length items → x ≡ get_or items i x
    → old ≡ map f (filter p (take i xs)) → given ≡ cond (p x) (Some (f x)) None → new ≡ old ++ option_to_list given → new ≡ map f (filter p (take (i + 1) xs))
noted-more {X} {Y} p f xs items i x old new given same low is had noted added =
    let at : x ≡ get_or xs i x = is ∙ ap (λ (ys : List X). get_or ys i x) same in
    let low2 : i < length xs = subst (λ (ys : List X). i < length ys) same low in
    let next : take (i + 1) xs ≡ take i xs ++ x ∷ [] = take_more xs i x low2 ∙ ap (λ y. take i xs ++ y ∷ []) (sym at) in
    added
    ∙ ((λ j. had j ++ option_to_list (noted j))
    ∙ (ap (λ ys. map f (filter p (take i xs)) ++ ys) (sym (noted-one p f (p x) x))
    ∙ (sym (map-append f (filter p (take i xs)) (filter p (x ∷ [])))
    ∙ (ap (map f) (sym (filter-append p (take i xs) (x ∷ []))) ∙ ap (λ ys. map f (filter p ys)) (sym next)))))

append-assoc : {Y : Type 0} (xs ys zs : List Y) → (xs ++ ys) ++ zs ≡ xs ++ (ys ++ zs)
append-assoc [] ys zs = refl
append-assoc (x ∷ xs) ys zs = ap (λ ws. x ∷ ws) (append-assoc xs ys zs)

-- the same after what was there before
pub noted-after : {X Y : Type 0} (p : X → Bool) (f : X → Y) (xs items : List X) (i : ℕ) (x : X) (before old new : List Y) (given : Option Y) → items ≡ xs → i < length items → x ≡ get_or items i x
    → old ≡ before ++ map f (filter p (take i xs)) → given ≡ cond (p x) (Some (f x)) None → new ≡ old ++ option_to_list given → new ≡ before ++ map f (filter p (take (i + 1) xs))
noted-after {X} {Y} p f xs items i x before old new given same low is had noted added =
    let next : map f (filter p (take i xs)) ++ option_to_list given ≡ map f (filter p (take (i + 1) xs)) = noted-more p f xs items i x (map f (filter p (take i xs))) (map f (filter p (take i xs)) ++ option_to_list given) given same low is refl noted refl in
    added ∙ (ap (λ ys. ys ++ option_to_list given) had ∙ (append-assoc before (map f (filter p (take i xs))) (option_to_list given) ∙ ap (λ ys. before ++ ys) next))
