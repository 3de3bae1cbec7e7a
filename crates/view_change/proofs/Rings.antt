-- Chains in parts, and rings that turn.
use Rattle.std.proofs.Common.{◌≡◌, ℕ, zero, suc, ◌+◌, ◌-◌, ◌<◌, ◌≤◌, Bool, true, List, [], ◌∷◌, ◌++◌, length, get_or, take, drop, ap, refl, sym, ◌∙◌, subst, min, arith, append_assoc}
use Rattle.std.proofs.lemmas.List.{get_or-drop, get_or-take, get_or_default, length-drop, length-take-le, take-append-le, drop-append-le, drop-drop, drop-take, drop_all, take_all}
use Rattle.std.proofs.Math.Seq.{take-add}
use Rattle.rule_index.specs.Order.{IsChain}
use Rattle.view_change.specs.Rings.{MayCome}

module _ {X : Type 0} (follows : X → X → Bool) where
  -- nothing is a chain
  pub none-chain : IsChain follows []
  none-chain k d low = absurd (omega arith)

  -- what is left of a chain is one
  pub drop-chain : (n : ℕ) (xs : List X) → IsChain follows xs → IsChain follows (drop n xs)
  drop-chain n xs chain k d low =
      let long = length-drop n xs in
      let at : n + (k + 1) ≡ (n + k) + 1 = omega arith in
      (λ i. follows (get_or-drop n xs k d i) ((get_or-drop n xs (k + 1) d ∙ ap (λ j. get_or xs j d) at) i)) ∙ chain (n + k) d (omega (arith, long))

  -- so are its first items
  pub take-chain : (n : ℕ) (xs : List X) → n ≤ length xs → IsChain follows xs → IsChain follows (take n xs)
  take-chain n xs few chain k d low =
      let long = length-take-le n xs few in
      (λ i. follows (get_or-take n xs k d (omega (arith, long)) i) (get_or-take n xs (k + 1) d (omega (arith, long)) i)) ∙ chain k d (omega (arith, long))

  -- what is behind the first item of a chain is one
  rest-chain : (x : X) (xs : List X) → IsChain follows (x ∷ xs) → IsChain follows xs
  rest-chain x xs chain k d low =
      let at : suc (k + 1) ≡ suc k + 1 = omega arith in
      ap (λ j. follows (get_or xs k d) (get_or (x ∷ xs) j d)) at ∙ chain (suc k) d (omega arith)

  -- an item before a chain that may come behind it makes one
  put-first : (x : X) (ys : List X) → ((d : X) → 0 < length ys → follows x (get_or ys 0 d) ≡ true) → IsChain follows ys → IsChain follows (x ∷ ys)
  put-first x ys may chain zero d low = may d (omega arith)
  put-first x ys may chain (suc k) d low =
      let at : suc k + 1 ≡ suc (k + 1) = omega arith in
      ap (λ j. follows (get_or ys k d) (get_or (x ∷ ys) j d)) at ∙ chain k d (omega arith)

  -- two chains are one where the second may come behind the first
  pub join-chains : (xs ys : List X) → ((d : X) → 0 < length ys → MayCome follows xs (get_or ys 0 d)) → IsChain follows xs → IsChain follows ys → IsChain follows (xs ++ ys)
  join-chains [] ys may first second = second
  join-chains (x ∷ []) ys may first second = put-first x ys (λ d some. may d some d (omega arith)) second
  join-chains (x ∷ (y ∷ xs)) ys may first second =
      let last : (suc (suc (length xs)) - 1) ≡ suc (suc (length xs) - 1) = omega arith in
      put-first x ((y ∷ xs) ++ ys) (λ d some. first 0 d (omega arith))
      (join-chains (y ∷ xs) ys (λ d some e low. ap (λ j. follows (get_or (x ∷ (y ∷ xs)) j e) (get_or ys 0 d)) (sym last) ∙ may d some e (omega arith)) (rest-chain x (y ∷ xs) first) second)

  -- so they are where one that may come behind the first begins the second
  pub join-some : (xs ys : List X) (x : X) → x ≡ get_or ys 0 x → MayCome follows xs x → IsChain follows xs → IsChain follows ys → IsChain follows (xs ++ ys)
  join-some xs ys x is may first second =
      join-chains xs ys (λ d some. subst (MayCome follows xs) (is ∙ get_or_default ys 0 x d some) may) first second

-- the first item of a list is that of its first items
pub front-is : {X : Type 0} (n left : ℕ) (items : List X) (x : X) → x ≡ get_or items 0 x → x ≡ get_or (take n (take left items)) 0 x
front-is (suc n) (suc left) (y ∷ items) x e = e
front-is n left items x e = refl

-- a ring of which some first items have gone to its end
pub turned-left : {X : Type 0} (items : List X) (left n : ℕ) → n ≤ left → left ≤ length items → take (left - n) (drop n items ++ take n items) ≡ drop n (take left items)
turned-left items left n few inside =
    let long = length-drop n items in
    let all : n + (left - n) ≡ left = omega arith in
    take-append-le (left - n) (drop n items) (take n items) (omega (arith, long)) ∙ (sym (drop-take n (left - n) items) ∙ ap (λ m. drop n (take m items)) all)

take-take : {X : Type 0} (n m : ℕ) (xs : List X) → n ≤ m → take n (take m xs) ≡ take n xs
take-take (suc n) zero xs few = absurd (omega arith)
take-take (suc n) (suc m) (x ∷ xs) few = ap (λ ys. x ∷ ys) (take-take n m xs (omega arith))
take-take n m xs few = refl

pub turned-taken : {X : Type 0} (items : List X) (left n : ℕ) → n ≤ left → left ≤ length items → drop (left - n) (drop n items ++ take n items) ≡ drop left items ++ take n (take left items)
turned-taken items left n few inside =
    let long = length-drop n items in
    let all : n + (left - n) ≡ left = omega arith in
    drop-append-le (left - n) (drop n items) (take n items) (omega (arith, long))
    ∙ (λ i. (drop-drop (left - n) n items ∙ ap (λ m. drop m items) all) i ++ sym (take-take n left items few) i)

-- all that are there go where more are asked for
pub drop-few : {X : Type 0} (n k : ℕ) (xs : List X) → n ≡ min k (length xs) → drop n xs ≡ drop k xs
drop-few n k [] e = drop_all n [] (omega arith) ∙ sym (drop_all k [] (omega arith))
drop-few zero zero (x ∷ xs) e = refl
drop-few (suc n) (suc k) (x ∷ xs) e = drop-few n k xs (omega (arith, e))
drop-few n k xs e = absurd (omega (arith, e))

-- so they are the first of them
pub take-few : {X : Type 0} (n k : ℕ) (xs : List X) → n ≡ min k (length xs) → take n xs ≡ take k xs
take-few n k [] e = take_all n [] (omega arith) ∙ sym (take_all k [] (omega arith))
take-few zero zero (x ∷ xs) e = refl
take-few (suc n) (suc k) (x ∷ xs) e = ap (λ ys. x ∷ ys) (take-few n k xs (omega (arith, e)))
take-few n k xs e = absurd (omega (arith, e))

-- more items of a ring wait to go to its end
pub waits-taken : {X : Type 0} (items taken : List X) (waiting more number : ℕ) → more ≡ min number (length items - waiting) → taken ++ take (waiting + more) items ≡ (taken ++ take waiting items) ++ take number (drop waiting items)
waits-taken items taken waiting more number e =
    let long = length-drop waiting items in
    ap (λ ys. taken ++ ys) (take-add waiting more items) ∙ (sym (append_assoc taken (take waiting items) (take more (drop waiting items)))
    ∙ ap (λ ys. (taken ++ take waiting items) ++ ys) (take-few more number (drop waiting items) (omega (arith, e, long))))

-- what is behind the first item of a ring
pub next-left : {X : Type 0} (items : List X) (left : ℕ) → 0 < left → take (left - 1) (drop 1 items) ≡ drop 1 (take left items)
next-left items left some = let all : 1 + (left - 1) ≡ left = omega arith in sym (drop-take 1 (left - 1) items) ∙ ap (λ m. drop 1 (take m items)) all

pub next-taken : {X : Type 0} (items : List X) (left : ℕ) → 0 < left → drop (left - 1) (drop 1 items) ≡ drop left items
next-taken items left some = let all : 1 + (left - 1) ≡ left = omega arith in drop-drop (left - 1) 1 items ∙ ap (λ m. drop m items) all

-- an item more is gone
pub next-drop : {X : Type 0} (all xs rest : List X) (n : ℕ) (x : X) → xs ≡ drop n all → xs ≡ x ∷ rest → rest ≡ drop (n + 1) all
next-drop all xs rest n x at is = ap (drop 1) (sym is ∙ at) ∙ drop-drop 1 n all

pub next-take : {X : Type 0} (all rest : List X) (n : ℕ) (x : X) → drop n all ≡ x ∷ rest → take (n + 1) all ≡ take n all ++ x ∷ []
next-take [] rest n x e = let none : [] ≡ x ∷ rest = sym (drop_all n [] (omega arith)) ∙ e in absurd cc
next-take (y ∷ all) rest zero x e = let same : y ≡ x = ap (λ ys. get_or ys 0 x) e in ap (λ z. z ∷ []) same
next-take (y ∷ all) rest (suc n) x e = let at : suc n + 1 ≡ suc (n + 1) = omega arith in ap (λ k. take k (y ∷ all)) at ∙ ap (λ ys. y ∷ ys) (next-take all rest n x e)

-- where none is left, none is gone by more
pub none-drop : {X : Type 0} (all : List X) (m n : ℕ) → drop m all ≡ [] → m ≤ n → drop n all ≡ []
none-drop [] m n e few = drop_all n [] (omega arith)
none-drop (x ∷ all) zero n e few = absurd cc
none-drop (x ∷ all) (suc m) zero e few = absurd (omega arith)
none-drop (x ∷ all) (suc m) (suc n) e few = none-drop all m n e (omega arith)

pub none-take : {X : Type 0} (all : List X) (m n : ℕ) → drop m all ≡ [] → m ≤ n → take m all ≡ take n all
none-take [] m n e few = take_all m [] (omega arith) ∙ sym (take_all n [] (omega arith))
none-take (x ∷ all) zero n e few = absurd cc
none-take (x ∷ all) (suc m) zero e few = absurd (omega arith)
none-take (x ∷ all) (suc m) (suc n) e few = ap (λ ys. x ∷ ys) (none-take all m n e (omega arith))
