-- Ranges that are sorted and rise are those of the owners, each once.
use Rattle.std.proofs.Common.{◌≡◌, ℕ, ◌<◌, List, [], ◌∷◌, map, length, get_or, refl, ap, sym, ◌∙◌, subst}
use Rattle.std.specs.Prelude.{◌↔◌}
use Rattle.std.specs.List.{swap}
use Rattle.std.specs.List.Sorted.{IsPermutation, IsStrictlyIncreasing, SwapsInRange, apply_swaps}
use Rattle.std.proofs.lemmas.Cmp.{nat_cmp_total}
use Rattle.std.proofs.lemmas.List.{map-set, length-map, get_or-map}
use Rattle.std.proofs.lemmas.List.Sorted.{Contains-permutation, IsPermutation-sym}
use Rattle.std.proofs.lemmas.Map.Keys.{sorted_from_strictly_increasing}
use Rattle.std.proofs.Math.ListN.{set, get_or-map as get_or-under}
use Rattle.apfs_model.specs.Apart.{Apart}
use Rattle.apfs_model.specs.Lists.{In}
use Rattle.apfs_model.proofs.Searches.{in-map}
use Rattle.id_lists.proofs.Repeats.{contained, listed, sorted_apart}
use Rattle.reach_rules.specs.declared.owner.Owner.{Owner}
use Rattle.reach_rules.specs.Reached.{range_of}
use Rattle.reach_gather.specs.Finished.{AreRangesOnce, first_of}
use Rattle.reach_gather.proofs.Finishes.{ranges-once}

-- ---- a list whose images are put in another order
map-swap : {X Y : Type 0} (f : X → Y) (xs : List X) (i j : ℕ) → map f (swap xs i j) ≡ swap (map f xs) i j
map-swap f [] i j = refl
map-swap f (d ∷ ys) i j = map-set f (set (d ∷ ys) i (get_or (d ∷ ys) j d)) j (get_or (d ∷ ys) i d)
    ∙ (ap (λ zs. set zs j (f (get_or (d ∷ ys) i d))) (map-set f (d ∷ ys) i (get_or (d ∷ ys) j d))
    ∙ (ap (λ z. set (set (map f (d ∷ ys)) i z) j (f (get_or (d ∷ ys) i d))) (sym (get_or-under f (d ∷ ys) j d))
    ∙ ap (λ z. set (set (map f (d ∷ ys)) i (get_or (map f (d ∷ ys)) j (f d))) j z) (sym (get_or-under f (d ∷ ys) i d))))

map-swaps : {X Y : Type 0} (f : X → Y) (xs : List X) (moves : List (ℕ × ℕ)) → map f (apply_swaps xs moves) ≡ apply_swaps (map f xs) moves
map-swaps f xs [] = refl
map-swaps f xs (p ∷ ps) = map-swap f (apply_swaps xs ps) p.0 p.1 ∙ ap (λ ys. swap ys p.0 p.1) (map-swaps f xs ps)

-- the same exchanges put the list itself in that order
moved-alike : {X Y : Type 0} (f : X → Y) (xs : List X) (ys : List Y) → IsPermutation (map f xs) ys → (zs : List X) × (IsPermutation xs zs × (map f zs ≡ ys))
moved-alike f xs ys p =
    (apply_swaps xs p.moves, (record { moves = p.moves; below = subst (λ n. SwapsInRange n p.moves) (length-map xs f) p.below; is = refl }, map-swaps f xs p.moves ∙ sym p.is))

moved-same : {X : Type 0} (xs ys : List X) → IsPermutation xs ys → (x : X) → In x xs ↔ In x ys
moved-same xs ys p x = ((λ h. listed ys x (Contains-permutation xs ys x p (contained xs x h))), (λ h. listed xs x (Contains-permutation ys xs x (IsPermutation-sym xs ys p) (contained ys x h))))

-- ---- ranges that rise
apart-under : {X Y : Type 0} (f : X → Y) (xs : List X) → Apart (map f xs) → Apart xs
apart-under f [] apart = tt
apart-under f (x ∷ xs) apart = ((λ h. apart.0 (in-map f xs x h)), apart-under f xs apart.1)

rising-apart : (rs : List (ℕ × ℕ)) → IsStrictlyIncreasing (map first_of rs) → Apart rs
rising-apart rs rise = apart-under first_of rs (sorted_apart nat_cmp_total (map first_of rs) (sorted_from_strictly_increasing (map first_of rs) rise))

pub rising-once : (os : List Owner) (ranges sorted : List (ℕ × ℕ)) → ranges ≡ map range_of os → IsPermutation ranges sorted → IsStrictlyIncreasing (map first_of sorted) → AreRangesOnce os sorted
rising-once os ranges sorted e moved rise =
    let t = moved-alike range_of os sorted (subst (λ rs. IsPermutation rs sorted) e moved) in
    ranges-once os t.0 (moved-same os t.0 t.1.0) (apart-under range_of t.0 (subst Apart (sym t.1.1) (rising-apart sorted rise))) sorted (sym t.1.1)

-- ---- the first blocks, by their places
pub firsts-length : (rs : List (ℕ × ℕ)) → length (map first_of rs) ≡ length rs
firsts-length rs = length-map rs first_of

pub first-at : (rs : List (ℕ × ℕ)) (k : ℕ) → k < length rs → get_or (map first_of rs) k 0 ≡ (get_or rs k (0, 0)).0
first-at rs k low = get_or-map first_of rs k (0, 0) 0 low
