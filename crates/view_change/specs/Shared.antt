-- Which leaves of a view the one before it has too, and which it hasn't.
use Rattle.std.specs.Prelude.{◌≡◌, ℕ, ◌+◌, ◌*◌, ◌<◌, ◌≤◌, Bool, true, false, not, ◌&&◌, ◌==◌, List, ◌∷◌, ◌++◌, length}
use Rattle.std.specs.List.{filter, list_any}
use Rattle.view_change.specs.declared.leaf.Leaf.{Leaf}

-- two leaves are one, by id and block
abbrev pub is_same_leaf : Leaf → Leaf → Bool
is_same_leaf leaf other = (leaf.oid == other.oid) && (leaf.block == other.block)

-- a leaf is among some
abbrev pub is_among : List Leaf → Leaf → Bool
is_among leaves leaf = list_any (is_same_leaf leaf) leaves

-- of some leaves, those that are among others
abbrev pub shared_leaves : List Leaf → List Leaf → List Leaf
shared_leaves others leaves = filter (is_among others) leaves

-- of some leaves, those that aren't
abbrev pub new_leaves : List Leaf → List Leaf → List Leaf
new_leaves others leaves = filter (λ (leaf : Leaf). not (is_among others leaf)) leaves

-- the leaves that two views have stand in one order in both, and of the one before fewer than 256 in a row are gone before one that stays
pub record StayInOrder (before after : List Leaf) : Type 0 where
  pub order : shared_leaves before after ≡ shared_leaves after before
  pub near : (first gone : List Leaf) (stays : Leaf) (rest : List Leaf) → before ≡ first ++ (gone ++ stays ∷ rest) → list_any (is_among after) gone ≡ false → is_among after stays ≡ true → length gone < 256

-- these leaves stay in order, and are half of those of either view or more
pub record ShareLeaves (before after : List Leaf) : Type 0 where
  pub stay : StayInOrder before after
  pub earlier : length before ≤ 2 * length (shared_leaves before after)
  pub later : length after ≤ 2 * length (shared_leaves before after)

-- with so many reads, and one for each leaf that is new, there are no more than a limit
abbrev pub IsWithin : List Leaf → List Leaf → ℕ → ℕ → Type 0
IsWithin before after reads limit = reads + length (new_leaves before after) ≤ limit

-- a leaf comes after others, of which none is it, and some leaves come after it
pub record ComesNext (leaf : Leaf) (leaves rest : List Leaf) : Type 0 where
  pub passed : List Leaf
  pub split : leaves ≡ passed ++ leaf ∷ rest
  pub others : is_among passed leaf ≡ false
