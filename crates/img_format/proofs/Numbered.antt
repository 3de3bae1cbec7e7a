-- The blocks of a new container by their places.
use Rattle.std.proofs.Common.{◌≡◌, ℕ, ◌+◌, ◌-◌, ◌<◌, ◌≤◌, ◌==◌, List, [], ◌∷◌, ◌++◌, if◌then◌else◌, zero, suc, ap, refl, ◌∙◌, arith}
use Rattle.std.proofs.lemmas.List.{append-nil}
use Rattle.std.proofs.lemmas.Grind.{flat_map-append}
use Rattle.std.specs.Prelude.{flat_map, replicate}
use Rattle.std.specs.List.{range_with_len}
use Rattle.apfs_model.proofs.BoolTests.{never-true, equal-from}
use Rattle.img_format.specs.declared.spec.Spec.{Spec}
use Rattle.img_format.specs.Tables.{size}
use Rattle.img_format.specs.Fresh.{block, blocks_from, fresh}
use Rattle.img_format.specs.Steps.{zero_blocks}

pub other : {A : Type 0} (k n : ℕ) (x y : A) → (k ≡ n → ⊥) → (if k == n then x else y) ≡ y
other k n x y differ = ap (λ b. if b then x else y) (never-true (k == n) (λ e. differ (equal-from k n e)))

-- ---- runs of numbers
pub range-split : (first n m : ℕ) → range_with_len first (n + m) ≡ range_with_len first n ++ range_with_len (first + n) m
range-split first zero m =
    let none : 0 + m ≡ m = omega arith in
    let at : first ≡ first + 0 = omega arith in
    ap (range_with_len first) none ∙ ap (λ k. range_with_len k m) at
range-split first (suc n) m =
    let sum : suc n + m ≡ suc (n + m) = omega arith in
    let next : first + 1 + n ≡ first + suc n = omega arith in
    ap (range_with_len first) sum
    ∙ ap (λ (ks : List ℕ). first ∷ ks) (range-split (first + 1) n m)
    ∙ ap (λ k. (first ∷ range_with_len (first + 1) n) ++ range_with_len k m) next

pub runs-split : (f : ℕ → List ℕ) (first n m : ℕ) → flat_map f (range_with_len first (n + m)) ≡ flat_map f (range_with_len first n) ++ flat_map f (range_with_len (first + n) m)
runs-split f first n m = ap (flat_map f) (range-split first n m) ∙ flat_map-append f (range_with_len first n) (range_with_len (first + n) m)

pub runs-more : (f : ℕ → List ℕ) (n : ℕ) → flat_map f (range_with_len 0 (n + 1)) ≡ flat_map f (range_with_len 0 n) ++ f n
runs-more f n =
    let at : 0 + n ≡ n = omega arith in
    runs-split f 0 n 1 ∙ ap (λ k. flat_map f (range_with_len 0 n) ++ (f k ++ [])) at ∙ ap (λ bs. flat_map f (range_with_len 0 n) ++ bs) (append-nil (f n))

-- what follows place 56
pub zero-block : (spec : Spec) (k : ℕ) → 57 ≤ k → block spec k ≡ replicate size 0
unfolding block
zero-block spec k far =
    other k 0 _ _ (λ e. omega (arith, e, far))
    ∙ other k 1 _ _ (λ e. omega (arith, e, far))
    ∙ other k 2 _ _ (λ e. omega (arith, e, far))
    ∙ other k 9 _ _ (λ e. omega (arith, e, far))
    ∙ other k 10 _ _ (λ e. omega (arith, e, far))
    ∙ other k 11 _ _ (λ e. omega (arith, e, far))
    ∙ other k 12 _ _ (λ e. omega (arith, e, far))
    ∙ other k 25 _ _ (λ e. omega (arith, e, far))
    ∙ other k 26 _ _ (λ e. omega (arith, e, far))
    ∙ other k 27 _ _ (λ e. omega (arith, e, far))
    ∙ other k 43 _ _ (λ e. omega (arith, e, far))
    ∙ other k 44 _ _ (λ e. omega (arith, e, far))
    ∙ other k 51 _ _ (λ e. omega (arith, e, far))
    ∙ other k 52 _ _ (λ e. omega (arith, e, far))
    ∙ other k 53 _ _ (λ e. omega (arith, e, far))
    ∙ other k 54 _ _ (λ e. omega (arith, e, far))
    ∙ other k 55 _ _ (λ e. omega (arith, e, far))
    ∙ other k 56 _ _ (λ e. omega (arith, e, far))

pub zeros-from : (spec : Spec) (first at n : ℕ) → 57 ≤ first → flat_map (block spec) (range_with_len first n) ≡ flat_map (λ k. replicate size 0) (range_with_len at n)
zeros-from spec first at zero far = refl
zeros-from spec first at (suc n) far =
    ap (λ (bs : List ℕ). bs ++ flat_map (block spec) (range_with_len (first + 1) n)) (zero-block spec first far)
    ∙ ap (λ (bs : List ℕ). replicate size 0 ++ bs) (zeros-from spec (first + 1) (at + 1) n (omega (arith, far)))

-- ---- the parts of a new container
pub used-and-free : (spec : Spec) → 57 ≤ spec.blocks → fresh spec ≡ blocks_from spec 0 57 ++ zero_blocks (spec.blocks - 57)
unfolding fresh zero_blocks
used-and-free spec enough =
    let sum : spec.blocks ≡ 57 + (spec.blocks - 57) = omega (arith, enough) in
    let far : 57 ≤ 57 = omega arith in
    ap (blocks_from spec 0) sum
    ∙ runs-split (block spec) 0 57 (spec.blocks - 57)
    ∙ ap (λ bs. blocks_from spec 0 57 ++ bs) (zeros-from spec 57 0 (spec.blocks - 57) far)

-- ---- blocks of zeros
pub one-more : (n : ℕ) → zero_blocks (n + 1) ≡ zero_blocks n ++ replicate size 0
unfolding zero_blocks
one-more n = runs-more (λ k. replicate size 0) n

zeros-after : (n m : ℕ) → zero_blocks (n + m) ≡ zero_blocks n ++ flat_map (λ k. replicate size 0) (range_with_len n m)
unfolding zero_blocks
zeros-after n m =
    let at : 0 + n ≡ n = omega arith in
    runs-split (λ k. replicate size 0) 0 n m ∙ ap (λ k. zero_blocks n ++ flat_map (λ j. replicate size 0) (range_with_len k m)) at

-- after so many blocks and one more there is a rest
pub rest-after : (n count : ℕ) → n < count → (rest : List ℕ) × (zero_blocks count ≡ (zero_blocks n ++ replicate size 0) ++ rest)
rest-after n count below =
    let sum : count ≡ (n + 1) + (count - (n + 1)) = omega (arith, below) in
    let rest : List ℕ = flat_map (λ k. replicate size 0) (range_with_len (n + 1) (count - (n + 1))) in
    (rest, ap zero_blocks sum ∙ zeros-after (n + 1) (count - (n + 1)) ∙ ap (λ bs. bs ++ rest) (one-more n))
