-- The targets of the entries of a directory, one by one, with their numbers.
use Rattle.std.proofs.Common.{◌≡◌, ℕ, zero, suc, ◌+◌, ◌<◌, List, [], ◌∷◌, ◌++◌, length, map, take, get_or, Option, Some, refl, ap, sym, ◌∙◌, arith, length-append}
use Rattle.fs_record.specs.Entries.{Entry}
use Rattle.fs_record.specs.Facts.{Fact}
use Rattle.view_rules.specs.Facts.{Facts}
use Rattle.path_search.specs.Parts.{whats, kind_by, target_by, targets_by, numbered}
use Rattle.path_search.specs.declared.kinds.KindAndSize.{KindAndSize}
use Rattle.path_search.specs.declared.order.Numbered.{Numbered}
use Rattle.path_search.specs.declared.target.Target.{Target}
use Rattle.path_search.proofs.Listed.{targets_more}
use Rattle.view_tree.specs.Parts.{AreTold}

-- what is told of the file of an entry at a place
pub kind_at : (facts : Facts) (es : List (Fact Entry)) (kinds : List (Option KindAndSize)) (i : ℕ) (e : Fact Entry) (kind : Option KindAndSize) → AreTold facts es kinds → i < length es → e ≡ get_or es i e → kind ≡ get_or kinds i kind → kind ≡ kind_by facts e.what
kind_at facts es kinds i e kind told low at here = go es i low at (here ∙ ap (λ (l : List (Option KindAndSize)). get_or l i kind) told)
  where
    go : (fs : List (Fact Entry)) (k : ℕ) → k < length fs → e ≡ get_or fs k e → kind ≡ get_or (map (kind_by facts) (whats fs)) k kind → kind ≡ kind_by facts e.what
    go [] k low at same = absurd (omega arith)
    go (f ∷ fs) zero low at same = same ∙ ap (λ (g : Fact Entry). kind_by facts g.what) (sym at)
    go (f ∷ fs) (suc k) low at same = go fs k (omega arith) at same

-- one more target with its number
numbered-end : (n : ℕ) (targets : List Target) (target : Target) (i : ℕ) → i ≡ n + length targets → numbered n targets ++ record { number = i; target = target } ∷ [] ≡ numbered n (targets ++ target ∷ [])
numbered-end n [] target i e = let same : i ≡ n = omega arith in ap (λ (k : ℕ). record { number = k; target = target } ∷ []) same
numbered-end n (t ∷ ts) target i e = ap (λ (l : List Numbered). record { number = n; target = t } ∷ l) (numbered-end (suc n) ts target i (omega arith))

-- the targets of the entries up to a place, with their numbers
abbrev pub AreNumbered : Facts → List (Fact Entry) → List Numbered → ℕ → Type 0
AreNumbered facts es items i = (items ≡ numbered 0 (targets_by facts (whats (take i es)))) × (i ≡ length (targets_by facts (whats (take i es))))

pub numbered_more : (facts : Facts) (es : List (Fact Entry)) (i : ℕ) (e : Fact Entry) (target : Target) (items : List Numbered) → i < length es → e ≡ get_or es i e → target_by facts e.what ≡ Some target → AreNumbered facts es items i → AreNumbered facts es (items ++ record { number = i; target = target } ∷ []) (i + 1)
numbered_more facts es i e target items low at told so_far =
    let before : List Target = targets_by facts (whats (take i es)) in
    let more : before ++ target ∷ [] ≡ targets_by facts (whats (take (i + 1) es)) = targets_more facts es i e target before low at told refl in (
      ap (λ (l : List Numbered). l ++ record { number = i; target = target } ∷ []) so_far.0 ∙ (numbered-end 0 before target i (omega (arith, so_far.1)) ∙ ap (numbered 0) more),
      omega (arith, so_far.1, ap length more, length-append before (target ∷ [])),
    )
