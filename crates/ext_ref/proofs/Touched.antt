-- Which extents touch a range.
use Rattle.std.proofs.Common.{◌≡◌, ℕ, suc, ◌+◌, ◌-◌, ◌<◌, ◌≤◌, Bool, true, false, cond, ◌&&◌, ◌||◌, ◌==◌, min, List, [], ◌∷◌, ◌++◌, length, map, filter, take, drop, get_or, refl, ap, sym, subst, ◌∙◌, arith, length-drop}
use Rattle.std.specs.Prelude.{slice_range}
use Rattle.std.specs.List.{list_any}
use Rattle.std.proofs.lemmas.List.{append-nil, take-append-drop, drop-drop, get_or-take, get_or-drop, length-take}
use Rattle.std.proofs.lemmas.List.Elements.{filter-append}
use Rattle.apfs_model.specs.Lists.{In, has, distinct}
use Rattle.apfs_model.proofs.Searches.{in-has, has-in}
use Rattle.apfs_model.proofs.Finite.{apart-same}
use Rattle.fs_record.specs.declared.extents.FileExt.{FileExt}
use Rattle.ext_ref.proofs.Counted.{into-distinct, from-distinct, apart-distinct}

-- where no item passes, none is left
none-pass : {X : Type 0} (p : X → Bool) (xs : List X) → ((i : ℕ) (d : X) → i < length xs → p (get_or xs i d) ≡ false) → filter p xs ≡ []
none-pass p [] none = refl
none-pass {X} p (x ∷ xs) none =
    let f : p x ≡ false = none 0 x (omega arith) in
    let rest : filter p xs ≡ [] = none-pass p xs (λ i d low. none (suc i) d (omega (arith, low))) in
    subst (λ (b : Bool). cond b (x ∷ filter p xs) (filter p xs) ≡ []) (sym f) rest

-- what passes stands in a part of the list, where all before it and after it fails
pub window : {X : Type 0} (p : X → Bool) (xs : List X) (low high : ℕ) → low ≤ high → high ≤ length xs →
    ((i : ℕ) (d : X) → i < low → p (get_or xs i d) ≡ false) → ((i : ℕ) (d : X) → high ≤ i → i < length xs → p (get_or xs i d) ≡ false) →
    filter p (slice_range xs low high) ≡ filter p xs
window {X} p xs low high fits inside before after =
    let a : filter p (take low xs) ≡ [] = none-pass p (take low xs) (λ i d h.
    let s : length (take low xs) ≡ min low (length xs) = length-take low xs in
    let l : i < low = omega (arith, h, s) in
    ap p (get_or-take low xs i d l) ∙ before i d l) in
    let b : filter p (drop high xs) ≡ [] = none-pass p (drop high xs) (λ i d h.
    let s : length (drop high xs) ≡ length xs - high = length-drop high xs in
    ap p (get_or-drop high xs i d) ∙ after (high + i) d (omega arith) (omega (arith, h, s, inside))) in
    let e : low + (high - low) ≡ high = omega (arith, fits) in
    let front : filter p xs ≡ filter p (drop low xs) =
    ap (filter p) (sym (take-append-drop low xs)) ∙ filter-append p (take low xs) (drop low xs) ∙ ap (λ (ys : List X). ys ++ filter p (drop low xs)) a in
    let rest : filter p (drop (high - low) (drop low xs)) ≡ [] = ap (filter p) (drop-drop (high - low) low xs ∙ ap (λ (n : ℕ). drop n xs) e) ∙ b in
    let middle : filter p (drop low xs) ≡ filter p (take (high - low) (drop low xs)) =
    ap (filter p) (sym (take-append-drop (high - low) (drop low xs)))
    ∙ filter-append p (take (high - low) (drop low xs)) (drop (high - low) (drop low xs))
    ∙ ap (λ (ys : List X). filter p (take (high - low) (drop low xs)) ++ ys) rest
    ∙ append-nil (filter p (take (high - low) (drop low xs))) in
    sym (front ∙ middle)

-- a number is among those of the items that pass where some item passes and has it
pub has-of : (p : ℕ × FileExt → Bool) (xs : List (ℕ × FileExt)) (n : ℕ) →
    has (map (λ (x : ℕ × FileExt). x.0) (filter p xs)) n ≡ list_any (λ (x : ℕ × FileExt). p x && (x.0 == n)) xs
has-of p [] n = refl
has-of p (x ∷ xs) n =
    let rest : has (map (λ (x : ℕ × FileExt). x.0) (filter p xs)) n ≡ list_any (λ (x : ℕ × FileExt). p x && (x.0 == n)) xs = has-of p xs n in
    let go : (b : Bool) → has (map (λ (x : ℕ × FileExt). x.0) (cond b (x ∷ filter p xs) (filter p xs))) n ≡ ((b && (x.0 == n)) || list_any (λ (x : ℕ × FileExt). p x && (x.0 == n)) xs) =
    λ b. elim b as (λ b. has (map (λ (x : ℕ × FileExt). x.0) (cond b (x ∷ filter p xs) (filter p xs))) n ≡ ((b && (x.0 == n)) || list_any (λ (x : ℕ × FileExt). p x && (x.0 == n)) xs)) [
      | true ↦ ap (λ (t : Bool). (x.0 == n) || t) rest
      | false ↦ rest
    ] in
    go (p x)

-- lists with the same numbers have as many distinct ones
pub same-distinct : (ns ms : List ℕ) → ((n : ℕ) → has ns n ≡ has ms n) → length (distinct ns) ≡ length (distinct ms)
same-distinct ns ms same =
    let into : (n : ℕ) → In n ns → In n ms = λ n h. has-in n ms (sym (same n) ∙ in-has n ns h) in
    let back : (n : ℕ) → In n ms → In n ns = λ n h. has-in n ns (same n ∙ in-has n ms h) in
    apart-same (λ n. In n ns) (distinct ns) (distinct ms) (apart-distinct ns) (apart-distinct ms)
    ((λ n h. from-distinct ns n h), (λ n h. into-distinct ns n h))
    ((λ n h. back n (from-distinct ms n h)), (λ n h. into-distinct ms n (into n h)))
