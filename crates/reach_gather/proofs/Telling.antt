-- The owners that are told range by range.
use Rattle.std.proofs.Common.{◌≡◌, ℕ, suc, ◌+◌, ◌<◌, Bool, true, false, cond, List, [], ◌∷◌, ◌++◌, length, take, get_or, refl, ap, sym, ◌∙◌, arith}
use Rattle.std.specs.Prelude.{not, ◌==◌, if◌then◌else◌}
use Rattle.std.proofs.lemmas.List.{take_more, append_assoc, length-take-le}
use Rattle.std.proofs.lemmas.List.Elements.{filter-append}
use Rattle.reach_rules.specs.declared.naming.Naming.{Naming}
use Rattle.reach_rules.specs.declared.owner.Who.TheVariants.{Told}
use Rattle.reach_rules.specs.declared.owner.Owner.{Owner}
use Rattle.reach_rules.specs.Owners.{owner, owner_of, told_from}
use Rattle.reach_gather.specs.Held.{some_owners}

told-more : (n : Naming) (k : ℕ) (xs : List (ℕ × ℕ)) (x : ℕ × ℕ) → told_from n k (xs ++ x ∷ []) ≡ told_from n k xs ++ owner_of (Told n (k + length xs)) x ∷ []
told-more n k [] x = ap (λ i. owner_of (Told n i) x ∷ []) (let e : k ≡ k + 0 = omega arith in e)
told-more n k (y ∷ ys) x = ap (λ os. owner_of (Told n k) y ∷ os) (told-more n (suc k) ys x ∙ ap (λ i. told_from n (suc k) ys ++ owner_of (Told n i) x ∷ []) (let e : suc k + length ys ≡ k + suc (length ys) = omega arith in e))

pub one-some : (b : Bool) (o : Owner) → cond (not b) (o ∷ []) [] ≡ (if b then [] else o ∷ [])
one-some true o = refl
one-some false o = refl

-- one more range is told
pub tell-more : (n : Naming) (xs : List (ℕ × ℕ)) (i : ℕ) (d : ℕ × ℕ) (old mid new : List Owner) → i < length xs
    → mid ≡ old ++ some_owners (told_from n 0 (take i xs)) → new ≡ mid ++ (if (get_or xs i d).1 == 0 then [] else owner (Told n i) (get_or xs i d).0 (get_or xs i d).1 ∷ []) → new ≡ old ++ some_owners (told_from n 0 (take (i + 1) xs))
tell-more n xs i d old mid new low m given =
    let x : ℕ × ℕ = get_or xs i d in
    let so_far : List Owner = some_owners (told_from n 0 (take i xs)) in
    let p : Owner → Bool = λ (o : Owner). not (o.blocks == 0) in
    let more : take (i + 1) xs ≡ take i xs ++ x ∷ [] = take_more xs i d low in
    let long : length (take i xs) ≡ i = length-take-le i xs (omega arith) in
    let place : 0 + length (take i xs) ≡ i = omega (arith, long) in
    let told : told_from n 0 (take (i + 1) xs) ≡ told_from n 0 (take i xs) ++ owner_of (Told n i) x ∷ [] =
    ap (told_from n 0) more ∙ (told-more n 0 (take i xs) x ∙ ap (λ k. told_from n 0 (take i xs) ++ owner_of (Told n k) x ∷ []) place) in
    given
    ∙ (ap (λ ys. ys ++ (if x.1 == 0 then [] else owner (Told n i) x.0 x.1 ∷ [])) m
    ∙ (append_assoc old so_far _
    ∙ (ap (λ ys. old ++ (so_far ++ ys)) (sym (one-some (x.1 == 0) (owner (Told n i) x.0 x.1)))
    ∙ (ap (λ ys. old ++ ys) (sym (filter-append p (told_from n 0 (take i xs)) (owner_of (Told n i) x ∷ [])))
    ∙ ap (λ ys. old ++ some_owners ys) (sym told)))))
