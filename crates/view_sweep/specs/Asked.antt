-- What is asked of sets of views under one id, and what is sought then.
use Rattle.std.specs.Prelude.{◌≡◌, ◌⊎◌, ℕ, ◌<◌, ◌≤◌, Bool, true, false, List, length, slice_index_or}
use Rattle.apfs_model.specs.Lists.{In}
use Rattle.view_sweep.specs.declared.runs.Run.{Run}
use Rattle.view_sweep.specs.declared.sets.ViewSet.{ViewSet}
use Rattle.view_sweep.specs.declared.wanted.SweptView.{SweptView}
use Rattle.view_sweep.specs.declared.wanted.Want.TheVariants.{Root}
use Rattle.view_sweep.specs.declared.wanted.Wanted.{Wanted}
use Rattle.view_sweep.specs.declared.wanted.Asked.{Asked}
use Rattle.view_sweep.specs.declared.joining.Sought.{Sought}
use Rattle.view_sweep.specs.Wanted.{number_by}
use Rattle.view_sweep.specs.Runs.{has_place, AreRising}
use Rattle.view_sweep.specs.Sets.{set_at, view_of, of_view, IsSetOf}

-- one of those that are asked for, by its place
abbrev pub nth_asked : List Asked → ℕ → Asked
nth_asked asked j = slice_index_or asked j (record { wanted = record { view = record { slot = 0; place = 0; xid = 0; map = 0; hashed = false; volume = 0 }; oid = 0; want = Root }; set = 0 })

-- it is asked of the view at a place
abbrev pub has_view : List ViewSet → Asked → ℕ → Bool
has_view sets a p = has_place (set_at sets a.set) p

-- of a view two are asked for in two ways
pub record AreClashing (views : List SweptView) (sets : List ViewSet) (other one : Asked) (p : ℕ) : Type 0 where
  pub below : p < length views
  pub one_has : has_view sets one p ≡ true
  pub other_has : has_view sets other p ≡ true
  pub apart : other.wanted.want ≡ one.wanted.want → ⊥

-- of no view
abbrev pub AreAlike : List SweptView → List ViewSet → Asked → Asked → Type 0
AreAlike views sets other one = (p : ℕ) → p < length views → has_view sets other p ≡ true → has_view sets one p ≡ true → other.wanted.want ≡ one.wanted.want

-- the last is asked for in another way than one before it, from some place on
pub record IsClashAt (views : List SweptView) (sets : List ViewSet) (asked : List Asked) (from last p : ℕ) : Type 0 where
  pub other : ℕ
  pub low : from ≤ other
  pub high : other < last
  pub is : AreClashing views sets (nth_asked asked other) (nth_asked asked last) p

-- so it is of two by their places
abbrev pub AreAlikeAt : List SweptView → List ViewSet → List Asked → ℕ → ℕ → Type 0
AreAlikeAt views sets asked j k = AreAlike views sets (nth_asked asked j) (nth_asked asked k)

-- of those before a place the last are of one id, from where their run began, and their views are seen; none is asked for in two ways of one view
pub record IsRun (views : List SweptView) (sets : List ViewSet) (asked : List Asked) (seen : List Run) (from i : ℕ) : Type 0 where
  pub start : from ≤ i
  pub rising : AreRising seen
  pub same : (j : ℕ) → from ≤ j → j < i → (nth_asked asked j).wanted.oid ≡ (nth_asked asked from).wanted.oid
  pub less : (j : ℕ) → j < from → (nth_asked asked j).wanted.oid < (nth_asked asked from).wanted.oid
  pub known : (j p : ℕ) → from ≤ j → j < i → has_view sets (nth_asked asked j) p ≡ true → has_place seen p ≡ true
  pub once : (j k : ℕ) → j < i → k < i → (nth_asked asked j).wanted.oid ≡ (nth_asked asked k).wanted.oid → AreAlikeAt views sets asked j k

-- an object is wanted under an id and a number, as one is by which it is told
pub record IsUnder (w : Wanted) (oid number : ℕ) : Type 0 where
  pub oid_is : w.oid ≡ oid
  pub number_is : number_by w.want ≡ number

-- one of some is asked of the view at a place, under an id and a number
pub record HasAsked (sets : List ViewSet) (asked : List Asked) (oid number p : ℕ) : Type 0 where
  pub one : Asked
  pub listed : In one asked
  pub under : IsUnder one.wanted oid number
  pub has : has_view sets one p ≡ true

-- so it is sought
pub record HasSought (all : List Sought) (oid number p : ℕ) : Type 0 where
  pub one : Sought
  pub listed : In one all
  pub under : IsUnder one.wanted oid number
  pub has : has_place one.set.items p ≡ true

-- one more is sought, in the views of a set
pub record IsJoined (w : Wanted) (set : List Run) (old new : List Sought) : Type 0 where
  pub kept : (oid number p : ℕ) → HasSought old oid number p → HasSought new oid number p
  pub more : (p : ℕ) → has_place set p ≡ true → HasSought new w.oid (number_by w.want) p
  pub only : (oid number p : ℕ) → HasSought new oid number p → HasSought old oid number p ⊎ (IsUnder w oid number × (has_place set p ≡ true))

-- what is asked is sought, whoever names it, and nothing else
pub record AreSought (sets : List ViewSet) (asked : List Asked) (all : List Sought) : Type 0 where
  pub each : (oid number p : ℕ) → HasAsked sets asked oid number p → HasSought all oid number p
  pub only : (oid number p : ℕ) → HasSought all oid number p → HasAsked sets asked oid number p

-- each is sought in a set of some views
abbrev pub AreOfSets : List SweptView → List Sought → Type 0
AreOfSets views all = (s : Sought) → In s all → IsSetOf views s.set.items

-- an object that is sought, as it is wanted of a view of the set
pub record IsOfSet (views : List SweptView) (w : Wanted) (set : List Run) (x : Wanted) : Type 0 where
  pub place : ℕ
  pub below : place < length views
  pub has : has_place set place ≡ true
  pub is : x ≡ of_view w (view_of views place)

-- one of those that are sought
abbrev pub IsOfSought : List SweptView → List Sought → Wanted → Type 0
IsOfSought views all x = (s : Sought) × (In s all × IsOfSet views s.wanted s.set.items x)
