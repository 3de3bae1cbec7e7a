-- What is read of a part of a source is read of the source.
use Rattle.std.proofs.Common.{◌≡◌, ℕ, ◌+◌, ◌-◌, ◌≤◌, List, length, take, drop, slice_range, sym, ap, ◌∙◌, arith}
use Rattle.std.proofs.lemmas.List.{take-take, drop-drop, drop-take}
use Rattle.apfs_model.specs.Bytes.{part_at}
use Rattle.apfs_model.specs.Source.{Copies}

range-is : {X : Type 0} (xs : List X) (a n : ℕ) → slice_range xs a (a + n) ≡ take n (drop a xs)
range-is xs a n = ap (λ (k : ℕ). take k (drop a xs)) (omega arith)

take-rest : {X : Type 0} (ys : List X) (f m n : ℕ) → f + m ≤ n → take m (drop f (take n ys)) ≡ take m (drop f ys)
take-rest ys f m n low =
    ap (λ (k : ℕ). take m (drop f (take k ys))) (omega arith)
    ∙ ap (take m) (drop-take f (n - f) ys)
    ∙ take-take m (n - f) (drop f ys) (omega arith)

-- a range of a range
pub range-range : {X : Type 0} (xs : List X) (a n f m : ℕ) → f + m ≤ n → slice_range (slice_range xs a (a + n)) f (f + m) ≡ slice_range xs (a + f) (a + f + m)
range-range xs a n f m low =
    range-is (slice_range xs a (a + n)) f m
    ∙ ap (λ ys. take m (drop f ys)) (range-is xs a n)
    ∙ take-rest (drop a xs) f m n low
    ∙ ap (take m) (drop-drop f a xs)
    ∙ sym (range-is xs (a + f) m)

-- the bytes that are read from a place of a part are those that many bytes after its start
pub sliced_copies : (start len at : ℕ) (disk image part : List ℕ) → image ≡ part_at disk start len → at + length part ≤ len → Copies disk (start + at) part → Copies image at part
sliced_copies start len at disk image part is low copy =
    copy ∙ sym (range-range disk start len at (length part) low) ∙ ap (λ (l : List ℕ). slice_range l at (at + length part)) (sym is)
