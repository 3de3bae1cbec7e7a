-- The items of a list before a place, and the one that stands there.
use Rattle.std.proofs.Common.{◌≡◌, ℕ, zero, suc, ◌+◌, ◌<◌, List, [], ◌∷◌, ◌++◌, length, take, drop, Some, refl, ap, sym, ◌∙◌, arith, take-append-drop}
use Rattle.std.specs.Prelude.{All, slice_get}
use Rattle.std.proofs.lemmas.List.Elements.{All-weaker, All-same, All-push}
use Rattle.tree_export.specs.Parts.{TellsMore}
use Rattle.tree_export.specs.declared.putting.Put.{Put}
use Rattle.tree_export.specs.declared.putting.Put.TheVariants as puts
use Rattle.tree_export.specs.declared.told.Done.{Done}

pub taken_more : {X : Type 0} (xs : List X) (i : ℕ) (x : X) → slice_get xs i ≡ Some x → take (i + 1) xs ≡ take i xs ++ x ∷ []
taken_more [] i x at = absurd cc
taken_more (y ∷ xs) zero x at = let e : y ≡ x = cc in ap (λ z. z ∷ []) e
taken_more (y ∷ xs) (suc i) x at = let e : suc i + 1 ≡ suc (i + 1) = omega arith in ap (λ n. take n (y ∷ xs)) e ∙ ap (λ l. y ∷ l) (taken_more xs i x at)

pub taken_split : {X : Type 0} (xs : List X) (i : ℕ) (x : X) → slice_get xs i ≡ Some x → (take i xs ++ x ∷ []) ++ drop (i + 1) xs ≡ xs
taken_split xs i x at = ap (λ l. l ++ drop (i + 1) xs) (sym (taken_more xs i x at)) ∙ take-append-drop (i + 1) xs

pub taken_all : {X : Type 0} (xs : List X) (n : ℕ) → n ≡ length xs → take n xs ≡ xs
taken_all xs n e = ap (λ k. take k xs) e ∙ whole xs
  where
    whole : {X : Type 0} (xs : List X) → take (length xs) xs ≡ xs
    whole [] = refl
    whole (x ∷ xs) = ap (λ l. x ∷ l) (whole xs)

pub taken_len : {X : Type 0} (xs : List X) (i : ℕ) (x : X) → slice_get xs i ≡ Some x → length (take i xs) ≡ i
taken_len [] i x at = absurd cc
taken_len (y ∷ xs) zero x at = refl
taken_len (y ∷ xs) (suc i) x at = ap suc (taken_len xs i x at)

pub taken_there : {X : Type 0} (xs : List X) (i : ℕ) → i < length xs → (x : X) × (slice_get xs i ≡ Some x)
taken_there [] i low = absurd (omega arith)
taken_there (x ∷ xs) zero low = (x, refl)
taken_there (x ∷ xs) (suc i) low = taken_there xs i (omega arith)

-- the places of skipped items lie before the next one
pub inside_more : (old : Done) (n : ℕ) (put : Put) (new : Done) → TellsMore old n put new → All (λ (k : ℕ). k < n) old.skipped.items → All (λ (k : ℕ). k < n + 1) new.skipped.items
inside_more old n puts.Directory new more all = All-same (λ (k : ℕ). k < n + 1) new.skipped.items old.skipped.items more.3 (All-weaker (λ (k : ℕ). k < n) (λ (k : ℕ). k < n + 1) (λ k h. omega (arith, h)) old.skipped.items all)
inside_more old n (puts.File count) new more all = All-same (λ (k : ℕ). k < n + 1) new.skipped.items old.skipped.items more.3 (All-weaker (λ (k : ℕ). k < n) (λ (k : ℕ). k < n + 1) (λ k h. omega (arith, h)) old.skipped.items all)
inside_more old n puts.Nothing new more all =
    All-same (λ (k : ℕ). k < n + 1) new.skipped.items (old.skipped.items ++ n ∷ []) more.3
    (All-push (λ (k : ℕ). k < n + 1) old.skipped.items n (All-weaker (λ (k : ℕ). k < n) (λ (k : ℕ). k < n + 1) (λ k h. omega (arith, h)) old.skipped.items all) (omega arith))
