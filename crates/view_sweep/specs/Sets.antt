-- Sets of views, and what is wanted of each view of one.
use Rattle.std.specs.Prelude.{◌≡◌, ℕ, zero, suc, ◌<◌, ◌≤◌, Bool, true, false, ◌&&◌, ◌||◌, ◌==◌, nat_lt, List, [], ◌∷◌, length, map, filter, flat_map, slice_index_or}
use Rattle.std.specs.List.{range_with_len}
use Rattle.apfs_model.specs.Lists.{In}
use Rattle.view_sweep.specs.declared.runs.Run.{Run}
use Rattle.view_sweep.specs.declared.sets.ViewSet.{ViewSet}
use Rattle.view_sweep.specs.declared.wanted.SweptView.{SweptView}
use Rattle.view_sweep.specs.declared.wanted.Wanted.{Wanted}
use Rattle.view_sweep.specs.declared.wanted.Asked.{Asked}
use Rattle.view_sweep.specs.declared.used.Hit.{Hit}
use Rattle.view_sweep.specs.Runs.{has_place, AreRising}
use Rattle.view_sweep.specs.Wanted.{wanted}

-- the view at a place
abbrev pub view_of : List SweptView → ℕ → SweptView
view_of views p = slice_index_or views p (record { slot = 0; place = 0; xid = 0; map = 0; hashed = false; volume = 0 })

-- the runs of the set of a number
abbrev pub set_at : List ViewSet → ℕ → List Run
set_at [] n = []
set_at (s ∷ ss) zero = s.runs.items
set_at (s ∷ ss) (suc n) = set_at ss n

-- the first place of a view
pub record IsFirst (views : List SweptView) (v : SweptView) (p : ℕ) : Type 0 where
  pub below : p < length views
  pub is : view_of views p ≡ v
  pub first : (q : ℕ) → q < length views → view_of views q ≡ v → p ≤ q

-- a view stands in a volume of a lower slot than another one, or at a lower place of the same
abbrev pub is_before : SweptView → SweptView → Bool
is_before a b = nat_lt a.slot b.slot || ((a.slot == b.slot) && nat_lt a.place b.place)

-- of so many views at the front none is another
abbrev pub AreDistinct : List SweptView → ℕ → Type 0
AreDistinct views n = (p q : ℕ) → p < q → q < n → view_of views p ≡ view_of views q → ⊥

-- runs of places of some views, which rise and have the first place of a view alone
pub record IsSetOf (views : List SweptView) (set : List Run) : Type 0 where
  pub rising : AreRising set
  pub first : (p : ℕ) → has_place set p ≡ true → IsFirst views (view_of views p) p

abbrev pub AreSets : List SweptView → List ViewSet → Type 0
AreSets views sets = (n : ℕ) → n < length sets → IsSetOf views (set_at sets n)

-- each of some sets has its number among others too
pub record AreKept (old new : List ViewSet) : Type 0 where
  pub more : length old ≤ length new
  pub same : (n : ℕ) → n < length old → set_at new n ≡ set_at old n

-- the views of a set
abbrev pub views_in : List SweptView → List Run → List SweptView
views_in views set = map (view_of views) (filter (has_place set) (range_with_len 0 (length views)))

-- the same object, as it is wanted of another view
abbrev pub of_view : Wanted → SweptView → Wanted
of_view w v = wanted v w.oid w.want

-- what is wanted, of each view of a set
abbrev pub of_set : List SweptView → List Run → Wanted → List Wanted
of_set views set w = map (of_view w) (views_in views set)

abbrev pub asked_of : List SweptView → List ViewSet → Asked → List Wanted
asked_of views sets a = of_set views (set_at sets a.set) a.wanted

abbrev pub all_asked : List SweptView → List ViewSet → List Asked → List Wanted
all_asked views sets asked = flat_map (asked_of views sets) asked

-- what a hit finds, of each view of its set
abbrev pub hit_by : List SweptView → List ViewSet → Hit → List Wanted
hit_by views sets h = of_set views (set_at sets h.set) h.wanted

-- what is wanted of the views of the set of a number
abbrev pub asked_with : ℕ → Wanted → Asked
asked_with n w = record { wanted = w; set = n }

-- the sets have numbers below one
abbrev pub AreNumbered : ℕ → List Asked → Type 0
AreNumbered n asked = (a : Asked) → In a asked → a.set < n

-- the set of one view of some
pub record IsSetOfOne (views : List SweptView) (set : List Run) (v : SweptView) : Type 0 where
  pub is_set : IsSetOf views set
  pub only : (p : ℕ) → has_place set p ≡ true → view_of views p ≡ v
  pub place : ℕ
  pub below : place < length views
  pub has : has_place set place ≡ true

-- two lists have the same items
pub record HaveSame {X : Type 0} (xs ys : List X) : Type 0 where
  pub to : (x : X) → In x xs → In x ys
  pub from : (x : X) → In x ys → In x xs
