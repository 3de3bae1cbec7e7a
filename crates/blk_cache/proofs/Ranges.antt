-- Ranges of ranges.
use Rattle.std.proofs.Common.{◌≡◌, ℕ, ◌+◌, ◌-◌, ◌/◌, ◌%◌, ◌≤◌, min, List, ◌++◌, length, take, drop, slice_range, sym, ap, ◌∙◌, arith, length-append}
use Rattle.apfs_model.specs.Source.{Copies}
use Rattle.std.proofs.lemmas.Grind.{common_steps}
use Rattle.std.proofs.lemmas.Nat.{div-add-mod', div-mul-add, le-div}
use Rattle.std.proofs.lemmas.List.{take-append-drop, take-take, drop-drop, drop-take}

-- a range that is cut at the end
pub range-clip : {X : Type 0} (xs : List X) (a n : ℕ) → slice_range xs a (a + min n (length xs - a)) ≡ slice_range xs a (a + n)
range-clip xs a n = grind (arith, common_steps)

range-is : {X : Type 0} (xs : List X) (a n : ℕ) → slice_range xs a (a + n) ≡ take n (drop a xs)
range-is xs a n = ap (λ (k : ℕ). take k (drop a xs)) (omega arith)

take-rest : {X : Type 0} (ys : List X) (f m n : ℕ) → f + m ≤ n → take m (drop f (take n ys)) ≡ take m (drop f ys)
take-rest ys f m n low =
    ap (λ (k : ℕ). take m (drop f (take k ys))) (omega arith)
    ∙ ap (take m) (drop-take f (n - f) ys)
    ∙ take-take m (n - f) (drop f ys) (omega arith)

-- a range of a range
pub range-range : {X : Type 0} (xs : List X) (a n f m : ℕ) → f + m ≤ n → slice_range (slice_range xs a (a + n)) f (f + m) ≡ slice_range xs (a + f) (a + f + m)
range-range xs a n f m low =
    range-is (slice_range xs a (a + n)) f m
    ∙ ap (λ ys. take m (drop f ys)) (range-is xs a n)
    ∙ take-rest (drop a xs) f m n low
    ∙ ap (take m) (drop-drop f a xs)
    ∙ sym (range-is xs (a + f) m)

take-append : {X : Type 0} (ys : List X) (n m : ℕ) → take n ys ++ take m (drop n ys) ≡ take (n + m) ys
take-append ys n m =
    ap (λ l. l ++ take m (drop n ys)) (sym (take-take n (n + m) ys (omega arith)))
    ∙ ap (λ l. take n (take (n + m) ys) ++ l) (sym (drop-take n m ys))
    ∙ take-append-drop n (take (n + m) ys)

-- two ranges, one after the other
pub range-append : {X : Type 0} (xs : List X) (a n m : ℕ) → slice_range xs a (a + n) ++ slice_range xs (a + n) (a + n + m) ≡ slice_range xs a (a + (n + m))
range-append xs a n m =
    ap (λ l. l ++ slice_range xs (a + n) (a + n + m)) (range-is xs a n)
    ∙ ap (λ l. take n (drop a xs) ++ l) (range-is xs (a + n) m ∙ ap (take m) (sym (drop-drop n a xs)))
    ∙ take-append (drop a xs) n m
    ∙ sym (range-is xs a (n + m))

-- a part that is a range is a copy from its place on
pub range_copies : (image part : List ℕ) (at from n : ℕ) → part ≡ slice_range image from (from + n) → from ≡ at → length part ≡ n → Copies image at part
range_copies image part at from n shown same long = shown ∙ ap (λ (k : ℕ). slice_range image k (k + n)) same ∙ ap (λ (k : ℕ). slice_range image at (at + k)) (sym long)

-- a copy that another one follows
pub copies-append : (image front rest : List ℕ) (at from : ℕ) → Copies image at front → Copies image from rest → from ≡ at + length front → Copies image at (front ++ rest)
copies-append image front rest at from first second follows =
    ap (λ l. l ++ rest) first
    ∙ ap (λ l. slice_range image at (at + length front) ++ l) (second ∙ ap (λ (k : ℕ). slice_range image k (k + length rest)) follows)
    ∙ range-append image at (length front) (length rest)
    ∙ ap (λ (k : ℕ). slice_range image at (at + k)) (sym (length-append front rest))

-- the place after the rest of a block lies in the next one
pub rest_onward : (at n size : ℕ) → 1 ≤ size → at % size + n ≡ size → (at + n) / size ≡ at / size + 1
rest_onward at n size some e =
    let whole = div-add-mod' at size in
    ap (λ (k : ℕ). k / size) (omega (arith, whole, e)) ∙ div-mul-add (at / size + 1) size 0 (omega arith)

-- a place further on lies in no block before
pub block_later : (at later size : ℕ) → 1 ≤ size → at ≤ later → at / size ≤ later / size
block_later at later size some low = le-div (at / size) later size some (omega (arith, div-add-mod' at size))
