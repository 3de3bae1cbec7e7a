-- Which blocks pieces have, and how pieces are added.
use Rattle.std.specs.Prelude.{◌≡◌, ◌⊎◌, ◌↔◌, ℕ, ◌-◌, ◌^◌, ◌<◌, Bool, true}
use Rattle.piece_count.specs.Covered.{runs_at, is_among, is_covered}
use Rattle.use_report.specs.declared.pieces.Pieces.{Pieces}

-- a view is in the set whose views hold what is added next
abbrev pub has_turn : Pieces → ℕ → Bool
has_turn pieces view = is_among (runs_at pieces.all.sets.items pieces.set) view

-- the views of that set hold the blocks of a fact too, and nothing else has changed
pub record Grows (old new : Pieces) (P : ℕ → Type 0) : Type 0 where
  pub same : new ≡ record old { all = record old.all { pieces = new.all.pieces } }
  pub held : (view block : ℕ) → block < 2 ^ 64 - 1 → (is_covered new.all view block ≡ true) ↔ ((is_covered old.all view block ≡ true) ⊎ ((has_turn old view ≡ true) × P block))

-- a test passes for the blocks of which a fact holds, which are all of a container of so many
pub record HasExactly (blocks : ℕ) (P : ℕ → Type 0) (test : ℕ → Bool) : Type 0 where
  pub inside : (block : ℕ) → P block → block < blocks
  pub held : (block : ℕ) → block < blocks → (test block ≡ true) ↔ P block
