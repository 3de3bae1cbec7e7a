-- Trees, of rows as they are told, and what a fault says of them.
use Rattle.std.proofs.Common.{◌≡◌, ℕ, zero, suc, Bool, true, false, cond, List, [], ◌∷◌, ◌++◌, length, map, inl, inr, refl, ap, sym, ◌∙◌, subst}
use Rattle.view_rules.specs.Facts.{Facts}
use Rattle.path_search.specs.Paths.{slash}
use Rattle.path_search.specs.Places.{Place, target_of}
use Rattle.path_search.specs.Listing.{children}
use Rattle.view_tree.specs.Tree.{Row, is_opened, row_after, rows_of, rows_under, rows_from, rows_below, row_told}
use Rattle.view_tree.specs.Parts.{told_after, told_of, told_under, told_from}
use Rattle.view_facts.specs.Stops.{IsOfRecords}
use Rattle.view_tree.specs.Told.{IsTold}
use Rattle.view_rules.specs.Listed.{raised}
use Rattle.bt_cursor.specs.declared.fault.WalkFault.{WalkFault}
use Rattle.bt_cursor.specs.declared.fault.WalkFault.TheVariants.{Unsound}
use Rattle.view_rules.specs.declared.fault.TreeFault.{TreeFault}
use Rattle.vol_view.specs.declared.volume.View.{View}

map-join : {X Y : Type 0} (f : X → Y) (xs ys : List X) → map f (xs ++ ys) ≡ map f xs ++ map f ys
map-join f [] ys = refl
map-join f (x ∷ xs) ys = ap (λ l. f x ∷ l) (map-join f xs ys)

told-after : (before : List ℕ) (places : List Place) → map row_told (map (row_after before) places) ≡ map (told_after before) (map target_of places)
told-after before [] = refl
told-after before (p ∷ ps) = ap (λ l. told_after before (target_of p) ∷ l) (told-after before ps)

told-of : (facts : Facts) (before : List ℕ) (id : ℕ) → map row_told (rows_of facts before id) ≡ told_of facts before id
told-of facts before id = told-after before (children facts id)

told-if : (facts : Facts) (row : Row) (b : Bool) → map row_told (cond b (rows_of facts (row.path ++ slash ∷ []) row.place.id) []) ≡ cond b (told_of facts (row.path ++ slash ∷ []) row.place.id) []
told-if facts row true = told-of facts (row.path ++ slash ∷ []) row.place.id
told-if facts row false = refl

told-under : (facts : Facts) (row : Row) → map row_told (rows_under facts row) ≡ told_under facts (row_told row)
unfolding rows_under told_under
told-under facts row = told-if facts row (is_opened row.place)

told-from : (facts : Facts) (n : ℕ) (rows : List Row) → map row_told (rows_from facts n rows) ≡ told_from facts n (map row_told rows)
told-from facts zero rows = refl
told-from facts (suc n) [] = refl
told-from facts (suc n) (row ∷ rows) =
    ap (λ l. row_told row ∷ l) (told-from facts n (rows_under facts row ++ rows)
    ∙ ap (told_from facts n) (map-join row_told (rows_under facts row) rows ∙ ap (λ l. l ++ map row_told rows) (told-under facts row)))

-- the rows below a directory, as they are told
pub rows_told : (facts : Facts) (id : ℕ) → map row_told (rows_below facts id) ≡ told_from facts (length facts.entries) (told_of facts [] id)
unfolding rows_below
rows_told facts id = told-from facts (length facts.entries) (rows_of facts [] id) ∙ ap (told_from facts (length facts.entries)) (told-of facts [] id)

pub told_none : (facts : Facts) (n : ℕ) → told_from facts n [] ≡ []
told_none facts zero = refl
told_none facts (suc n) = refl

-- a fault that a walk over all records names is no DirNames
walk-told : (view : View) (why : WalkFault) (facts : Facts) (path : List ℕ) → IsTold facts path (raised view why)
walk-told view (Unsound block why) facts path = tt
walk-told view why facts path = tt

pub records_told : (view : View) (facts : Facts) (path : List ℕ) (fault : TreeFault) → IsOfRecords view fault → IsTold facts path fault
records_told view facts path fault (inl (why, e)) = subst (λ (f : TreeFault). IsTold facts path f) (sym e) (walk-told view why facts path)
records_told view facts path fault (inr (item, why, e)) = subst (λ (f : TreeFault). IsTold facts path f) (sym e) tt
