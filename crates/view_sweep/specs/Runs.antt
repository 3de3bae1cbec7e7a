-- Places by their runs.
use Rattle.std.specs.Prelude.{◌≡◌, ℕ, ◌<◌, ◌≤◌, Bool, true, false, ⊤, List, [], ◌∷◌, ◌++◌, Option, None, Some, max, min}
use Rattle.std.specs.List.{list_any}
use Rattle.apfs_model.specs.Lists.{In}
use Rattle.bit_lanes.specs.Places.{is_from}
use Rattle.view_sweep.specs.declared.runs.Run.{Run}

-- one of some runs has a place
unfoldable pub has_place : List Run → ℕ → Bool
has_place runs p = list_any (λ (run : Run). is_from run.from run.end p) runs

-- from a place on: no run is empty, and each begins where the one before it ends, or later
abbrev pub AreRisingFrom : ℕ → List Run → Type 0
AreRisingFrom low [] = ⊤
AreRisingFrom low (run ∷ runs) = (low ≤ run.from) × ((run.from < run.end) × AreRisingFrom run.end runs)

abbrev pub AreRising : List Run → Type 0
AreRising runs = AreRisingFrom 0 runs

-- no run is empty
abbrev pub AreSome : List Run → Type 0
AreSome runs = (r : Run) → In r runs → r.from < r.end

-- where a run begins
abbrev pub begin_of : Run → ℕ
begin_of run = run.from

-- a place isn't before one at which a run begins
abbrev pub IsBehind : ℕ → List Run → Type 0
IsBehind place runs = (r : Run) → In r runs → r.from ≤ place

-- no place from one up to another is in some runs
abbrev pub AreNone : List Run → ℕ → ℕ → Type 0
AreNone runs from to = (p : ℕ) → from ≤ p → p < to → has_place runs p ≡ false

-- the least place of some runs from one on
pub record IsLeastPlace (runs : List Run) (from p : ℕ) : Type 0 where
  pub above : from ≤ p
  pub is_in : has_place runs p ≡ true
  pub least : AreNone runs from p

-- the answer of a search for it
abbrev pub IsLeast : List Run → ℕ → Option ℕ → Type 0
IsLeast runs from None = (to : ℕ) → AreNone runs from to
IsLeast runs from (Some p) = IsLeastPlace runs from p

-- a run of some has a place
pub record IsHolding (runs : List Run) (p : ℕ) (run : Run) : Type 0 where
  pub listed : In run runs
  pub low : run.from ≤ p
  pub high : p < run.end

-- a place is in some runs and in others
pub record IsInBoth (runs others : List Run) (p : ℕ) : Type 0 where
  pub one : has_place runs p ≡ true
  pub other : has_place others p ≡ true

-- no place is
abbrev pub AreApart : List Run → List Run → Type 0
AreApart runs others = (p : ℕ) → has_place runs p ≡ true → has_place others p ≡ true → ⊥

-- the part of a run from one place up to another
abbrev pub clip : ℕ → ℕ → Run → Run
clip low high run = record { from = max run.from low; end = min run.end high }

-- these are the runs that have places from one up to another, of those that rise
pub record IsBetween (low high : ℕ) (runs these : List Run) : Type 0 where
  pub front : List Run
  pub back : List Run
  pub all : runs ≡ front ++ (these ++ back)
  pub before : (r : Run) → In r front → r.end ≤ low
  pub after : (r : Run) → In r back → high ≤ r.from
  pub ends : (r : Run) → In r these → low < r.end
  pub begins : (r : Run) → In r these → r.from < high
