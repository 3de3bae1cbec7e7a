-- What is known while parents are followed from some ids, one climb after the other: of the parents that aren't followed yet, and
-- of the ids that were met, each with the number of its climb.
use Rattle.std.specs.Prelude.{◌≡◌, ◌⊎◌, ℕ, ◌<◌, ◌≤◌, List, ◌++◌, ◌∷◌, true, Option, None, Some}
use Rattle.apfs_model.specs.Lists.{In}
use Rattle.fs_record.specs.Inodes.{Inode}
use Rattle.fs_record.specs.Facts.{Fact, first_user_id}
use Rattle.view_rules.specs.Facts.{Facts}
use Rattle.view_rules.specs.Directories.{Leads, is_user_directory, parent_at}

-- an id was met in a climb
abbrev pub IsMetIn : (ℕ → Option ℕ) → ℕ → ℕ → Type 0
IsMetIn met id climb = met id ≡ Some climb

-- the parents that are left are right, and of an id without one the parent was followed, or there is none
pub record HasLeft (parent : ℕ → Option ℕ) (left met : ℕ → Option ℕ) : Type 0 where
  pub right : (id above : ℕ) → left id ≡ Some above → parent id ≡ Some above
  pub gone : (id : ℕ) → left id ≡ None → (parent id ≡ None) ⊎ ((climb : ℕ) × IsMetIn met id climb)

-- before a climb: from each id that was met parents lead below 16
pub record HasClimbed (parent : ℕ → Option ℕ) (left met : ℕ → Option ℕ) (climb : ℕ) : Type 0 where
  pub rest : HasLeft parent left met
  pub before : (id number : ℕ) → IsMetIn met id number → number < climb
  pub leads : (id number : ℕ) → IsMetIn met id number → Leads parent id

-- in a climb: its ids lead to one another or to the next, and the start leads below 16 exactly where the next does
pub record IsClimbing (parent : ℕ → Option ℕ) (left met : ℕ → Option ℕ) (climb start next : ℕ) : Type 0 where
  pub rest : HasLeft parent left met
  pub before : (id number : ℕ) → IsMetIn met id number → number ≤ climb
  pub leads : (id number : ℕ) → IsMetIn met id number → number < climb → Leads parent id
  pub high : (id : ℕ) → IsMetIn met id climb → first_user_id ≤ id
  pub onward : (id above : ℕ) → IsMetIn met id climb → parent id ≡ Some above → IsMetIn met above climb ⊎ (above ≡ next)
  pub all : Leads parent next → (id : ℕ) → IsMetIn met id climb → Leads parent id
  pub forth : Leads parent start → Leads parent next
  pub back : Leads parent next → Leads parent start

-- parents lead below 16 from each directory of 16 or more among some inodes
abbrev pub HaveWays : Facts → List (Fact Inode) → Type 0
HaveWays facts inodes = (f : Fact Inode) → In f inodes → is_user_directory f ≡ true → Leads (parent_at facts) f.id

-- the first directory of 16 or more from which parents never lead below 16
pub record IsFirstUnreached (facts : Facts) (f : Fact Inode) : Type 0 where
  pub earlier : List (Fact Inode)
  pub later : List (Fact Inode)
  pub place : facts.inodes ≡ earlier ++ f ∷ later
  pub ways : HaveWays facts earlier
  pub directory : is_user_directory f ≡ true
  pub lost : Leads (parent_at facts) f.id → ⊥
