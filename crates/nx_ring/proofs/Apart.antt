-- Which numbers stand in lists.
use Rattle.std.proofs.Common.{◌≡◌, ℕ, ◌||◌, ◌==◌, List, ◌++◌}
use Rattle.std.proofs.lemmas.List.Folds.{list_any-append}
use Rattle.apfs_model.specs.Lists.{has}

-- a number is in two lists joined where it is in one of them
pub has_joined : (xs ys : List ℕ) (n : ℕ) → has (xs ++ ys) n ≡ (has xs n || has ys n)
has_joined xs ys n = list_any-append (λ m. m == n) xs ys
