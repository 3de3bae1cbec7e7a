-- What the parts of a tree give. These are for the contracts of this crate's own functions; what `tree` promises is said elsewhere.
use Rattle.std.specs.Prelude.{◌≡◌, ◌⊎◌, ◌≤◌, ℕ, zero, suc, length, take, nat_le, IfSome, Bool, true, ◌&&◌, ◌==◌, List, [], ◌∷◌, ◌++◌, Option, Some, Result, Ok, Err, filter, map, if◌then◌else◌}
use Rattle.std.specs.BTreeMap.{BTreeMap, get}
use Rattle.std.specs.Ordering.{nat_cmp}
use Rattle.apfs_model.specs.Lists.{In}
use Rattle.obj_base.specs.declared.stop.Stop.{Stop}
use Rattle.obj_base.specs.declared.stop.Stop.TheVariants.{Found, Unsupported, ReadFault, NoMemory}
use Rattle.fs_name.specs.Shown.{shown_name}
use Rattle.fs_record.specs.Entries.{Entry}
use Rattle.fs_record.specs.Facts.{Fact, directory_kind, first_user_id}
use Rattle.view_rules.specs.declared.fault.TreeFault.{TreeFault}
use Rattle.view_rules.specs.declared.fault.TreeFault.TheVariants.{DirNames}
use Rattle.vol_view.specs.declared.volume.View.{View}
use Rattle.view_rules.specs.Facts.{Facts, inode_at, has_inode, is_directory}
use Rattle.path_search.specs.Paths.{slash, is_component}
use Rattle.path_search.specs.Places.{Place, target_of}
use Rattle.path_search.specs.Found.{entries_in, found, number_named}
use Rattle.path_search.specs.Listing.{children}
use Rattle.view_tree.specs.Met.{Spot, spot_in, taken_from, taken, is_user_id, IsEntryOf, IsEntered, IsMet, IsMetTwice}
use Rattle.path_search.specs.declared.answer.Answer.{Answer}
use Rattle.path_search.specs.declared.stop.PathStop.{PathStop}
use Rattle.path_search.specs.declared.target.Target.{Target}
use Rattle.path_search.specs.declared.kinds.KindAndSize.{KindAndSize}
use Rattle.path_search.specs.declared.stop.PathStop.TheVariants as stops
use Rattle.path_search.specs.Parts.{whats, kind_by, Tells, HasEntries, IsLack}
use Rattle.view_tree.specs.Kept.{path_after}
use Rattle.view_tree.specs.declared.kept.Row.{Row}

-- ---- trees, of rows as they are told
-- a directory that is entered where it is met on the way
abbrev pub is_opened_target : Target → Bool
is_opened_target target = (target.kind == directory_kind) && nat_le first_user_id target.id

-- the row of a target, after what leads to it
abbrev pub told_after : List ℕ → Target → List ℕ × Target
told_after before target = (before ++ shown_name target.name, target)

-- the rows of what a directory has
abbrev pub told_of : Facts → List ℕ → ℕ → List (List ℕ × Target)
told_of facts before id = map (told_after before) (map target_of (children facts id))

-- the rows right under a row
unfoldable pub told_under : Facts → List ℕ × Target → List (List ℕ × Target)
told_under facts row = if is_opened_target row.1 then told_of facts (row.0 ++ slash ∷ []) row.1.id else []

-- a target as a row that shares so many bytes of its path
abbrev pub row_at : ℕ → Target → Row
row_at shared target = record { shared = shared; target = target }

-- the rows right under a target, as they are kept
unfoldable pub kept_under : Facts → ℕ → Target → List Row
kept_under facts shared target = if is_opened_target target then map (row_at shared) (map target_of (children facts target.id)) else []

-- rows that are left, as they are told: each after a front of what the one above it was told after
abbrev pub left_told : List ℕ → List Row → List (List ℕ × Target)
left_told before [] = []
left_told before (row ∷ rows) = (path_after before row, row.target) ∷ left_told (take row.shared before) rows

-- what they share is there
abbrev pub Fits : List ℕ → List Row → Type 0
Fits before [] = Unit {0}
Fits before (row ∷ rows) = (row.shared ≤ length before) × Fits (take row.shared before) rows

-- n rows of a tree, or all
abbrev pub told_from : Facts → ℕ → List (List ℕ × Target) → List (List ℕ × Target)
told_from facts zero rows = []
told_from facts (suc n) [] = []
told_from facts (suc n) (row ∷ rows) = row ∷ told_from facts n (told_under facts row ++ rows)

-- each spot that is kept of a directory is one that the tree of a path meets, and its entry names the directory
abbrev pub IsMemo : Facts → List ℕ → BTreeMap ℕ (ℕ × ℕ) → Type 0
IsMemo facts path memo = (id : ℕ) → IfSome (get nat_cmp memo id) (λ s. IsMet facts path (spot_in s.0 s.1) × IsEntryOf facts (spot_in s.0 s.1) id)

-- the file of the entry at a spot has an inode, and where that is a directory of 16 or more the spot is the one that is kept of it
abbrev pub IsKeptAt : Facts → BTreeMap ℕ (ℕ × ℕ) → Spot → Type 0
IsKeptAt facts memo spot = (id : ℕ) → IsEntryOf facts spot id → (has_inode facts id ≡ true) × (is_user_id facts id ≡ true → get nat_cmp memo id ≡ Some (spot.id, spot.number))

-- the spots of all entries of a directory are kept so
abbrev pub AreKeptIn : Facts → BTreeMap ℕ (ℕ × ℕ) → ℕ → Type 0
AreKeptIn facts memo id = (number : ℕ) → IsKeptAt facts memo (spot_in id number)

-- the spots of all entries of directories that rows name and that are entered are kept so
abbrev pub AreRowsKept : Facts → BTreeMap ℕ (ℕ × ℕ) → List (List ℕ × Target) → Type 0
AreRowsKept facts memo rows = (row : List ℕ × Target) → In row rows → is_opened_target row.1 ≡ true → AreKeptIn facts memo row.1.id

-- what is kept of a directory stays
abbrev pub StaysKept : BTreeMap ℕ (ℕ × ℕ) → BTreeMap ℕ (ℕ × ℕ) → Type 0
StaysKept old new = (id : ℕ) (s : ℕ × ℕ) → get nat_cmp old id ≡ Some s → get nat_cmp new id ≡ Some s

-- the spot of the entry that a part of a path takes in a directory is kept so
abbrev pub KeepsTaken : Facts → BTreeMap ℕ (ℕ × ℕ) → ℕ → List ℕ → Type 0
KeepsTaken facts memo id part = is_component part ≡ true → (number : ℕ) → number_named facts.names part (entries_in facts id) ≡ Some number → IsKeptAt facts memo (spot_in id number)

-- of the spots that some parts take from a place on, each is kept so, or is one that other parts take from another place on
abbrev pub KeepsFrom : Facts → BTreeMap ℕ (ℕ × ℕ) → List (List ℕ) → Place → List (List ℕ) → Place → Type 0
KeepsFrom facts memo parts place rest next =
    (s : Spot) → In s (taken_from facts (filter is_component parts) place) → IsKeptAt facts memo s ⊎ In s (taken_from facts (filter is_component rest) next)

-- each spot that a path takes is kept so
abbrev pub KeepsPath : Facts → BTreeMap ℕ (ℕ × ℕ) → List ℕ → Type 0
KeepsPath facts memo path = (s : Spot) → In s (taken facts path) → IsKeptAt facts memo s

-- DirNames of a tree, as it is told
abbrev pub IsRepeat : Facts → View → List ℕ → TreeFault → Type 0
IsRepeat facts view path fault = (id : ℕ) × ((fault ≡ DirNames (record { slot = view.slot; xid = view.xid; id = id })) × IsMetTwice facts path id)

-- what was answered of a tree by the facts of a view: as of a path, or that a directory is met twice
abbrev pub IsTreeKnown : {T U : Type 0} → Facts → View → List ℕ → (T → U) → Result U Answer → Result T (Stop PathStop) → Type 0
IsTreeKnown facts view path shows wanted (Ok x) = wanted ≡ Ok (shows x)
IsTreeKnown facts view path shows wanted (Err (Found (stops.Answer a))) = wanted ≡ Err a
IsTreeKnown facts view path shows wanted (Err (Found (stops.Fault fault))) = IsLack facts view fault ⊎ IsRepeat facts view path fault
IsTreeKnown facts view path shows wanted (Err (Unsupported feature block)) = ⊥
IsTreeKnown facts view path shows wanted (Err ReadFault) = ⊥
IsTreeKnown facts view path shows wanted (Err NoMemory) = Unit {0}

-- why a tree stops by the facts of a view: an inode is missing, or a directory is met twice; or memory ran out
abbrev pub IsTreeStop : Facts → View → List ℕ → Stop PathStop → Type 0
IsTreeStop facts view path (Found (stops.Answer a)) = ⊥
IsTreeStop facts view path (Found (stops.Fault fault)) = IsLack facts view fault ⊎ IsRepeat facts view path fault
IsTreeStop facts view path (Unsupported feature block) = ⊥
IsTreeStop facts view path ReadFault = ⊥
IsTreeStop facts view path NoMemory = Unit {0}

-- a tree is underway: its path leads to a directory of this id, and these are the entries of the view, with what is told of their files
pub record IsUnderway (facts : Facts) (path : List ℕ) (first : ℕ) (entries : List (Fact Entry)) (kinds : List (Option KindAndSize)) : Type 0 where
  pub tells : Tells facts entries kinds
  pub place : Place
  pub there : found facts path ≡ Ok place
  pub same : place.id ≡ first
  pub directory : is_directory place.inode ≡ true

-- these are the entries of a directory, as they stand among those of the view
pub record HasAll (facts : Facts) (id : ℕ) (entries : List (Fact Entry)) : Type 0 where
  pub all : whats entries ≡ entries_in facts id
  pub each : HasEntries facts entries

-- this is what is told of their files
abbrev pub AreTold : Facts → List (Fact Entry) → List (Option KindAndSize) → Type 0
AreTold facts entries kinds = kinds ≡ map (kind_by facts) (whats entries)

-- directories among the targets of some rows are entered by the tree of a directory
abbrev pub RowsEntered : Facts → ℕ → List (List ℕ × Target) → Type 0
RowsEntered facts first rows = (row : List ℕ × Target) → In row rows → is_opened_target row.1 ≡ true → IsEntered facts first row.1.id

-- the entry that a part of a path takes at a place of this id leads to another place, and its spot is one that the path takes
abbrev pub IsTaken : Facts → List ℕ → ℕ → List ℕ → Place → Type 0
IsTaken facts path id part next =
    is_component part ≡ true → (number : ℕ) → number_named facts.names part (entries_in facts id) ≡ Some number →
    In (spot_in id number) (taken facts path) × (inode_at facts next.id ≡ Some next.inode) × IsEntryOf facts (spot_in id number) next.id

-- the spots that some parts take from a place on are among those of a path
abbrev pub TakesFrom : Facts → List ℕ → List (List ℕ) → Place → Type 0
TakesFrom facts path parts place = (s : Spot) → In s (taken_from facts (filter is_component parts) place) → In s (taken facts path)
