-- The entries of a node from one on.
use Rattle.std.proofs.Common.{◌≡◌, ℕ, zero, suc, ◌+◌, ◌<◌, ◌≤◌, List, [], ◌∷◌, map, drop, ap, sym, ◌∙◌, refl, arith}
use Rattle.std.specs.List.{range_with_len}
use Rattle.bt_node.specs.Shape.{Shape}
use Rattle.bt_node.specs.Node.{count_of}
use Rattle.bt_cursor.specs.Line.{entry_of, entries_of}

-- one item of a mapped range apart
drop-range : {X : Type 0} (f : ℕ → X) (a n i k : ℕ) → i < n → k ≡ a + i → drop i (map f (range_with_len a n)) ≡ f k ∷ drop (i + 1) (map f (range_with_len a n))
drop-range f a zero i k low same = absurd (omega arith)
drop-range f a (suc n) zero k low same =
    let here : k ≡ a = omega arith in
    ap (λ j. f j ∷ map f (range_with_len (a + 1) n)) (sym here)
drop-range f a (suc n) (suc i) k low same =
    let next : suc i + 1 ≡ suc (i + 1) = omega arith in
    drop-range f (a + 1) n i k (omega arith) (omega arith) ∙ ap (λ j. f k ∷ drop j (map f (range_with_len a (suc n)))) (sym next)

drop-end : {X : Type 0} (f : ℕ → X) (a n i : ℕ) → n ≤ i → drop i (map f (range_with_len a n)) ≡ []
drop-end f a zero zero past = refl
drop-end f a zero (suc i) past = refl
drop-end f a (suc n) zero past = absurd (omega arith)
drop-end f a (suc n) (suc i) past = drop-end f (a + 1) n i (omega arith)

pub entries_cons : {K : Type 0} (shape : Shape K) (node : List ℕ) (i : ℕ) → i < count_of node → drop i (entries_of shape node) ≡ entry_of shape node i ∷ drop (i + 1) (entries_of shape node)
entries_cons shape node i low = drop-range (entry_of shape node) 0 (count_of node) i i low (omega arith)

pub entries_end : {K : Type 0} (shape : Shape K) (node : List ℕ) (i : ℕ) → count_of node ≤ i → drop i (entries_of shape node) ≡ []
entries_end shape node i past = drop-end (entry_of shape node) 0 (count_of node) i past
