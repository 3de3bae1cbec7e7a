-- The items of a view name ids that have inodes.
use Rattle.std.proofs.Common.{◌≡◌, ℕ, zero, suc, Bool, true, false, cond, List, [], ◌∷◌, ◌++◌, map, Option, Some, None, Result, Ok, Err, inl, inr, refl, ap, sym, ◌∙◌, subst}
use Rattle.std.specs.Prelude.{option_map}
use Rattle.std.specs.Option.{ok_or}
use Rattle.apfs_model.specs.Lists.{In, and_then, through, value_of}
use Rattle.apfs_model.proofs.Searches.{in-append, from-map}
use Rattle.fs_record.specs.Inodes.{Inode}
use Rattle.fs_record.specs.Facts.{root_id}
use Rattle.view_rules.specs.Facts.{Facts, inode_at, is_directory}
use Rattle.path_search.specs.Paths.{slash, components}
use Rattle.path_search.specs.Places.{Place, placed, root_name}
use Rattle.path_search.specs.Found.{found, walk}
use Rattle.path_search.specs.declared.answer.Answer.{Answer}
use Rattle.path_search.specs.declared.answer.Answer.TheVariants.{NotFound}
use Rattle.path_search.specs.declared.target.Target.{Target}
use Rattle.view_tree.specs.Tree.{Row, is_opened, rows_of, rows_under, rows_from, rows_below, lone_row, rows_at, row_told}
use Rattle.view_tree.proofs.Rows.{rows-from}
use Rattle.tree_export.specs.Exported.{Wanted, item_of, items_in}

-- a place has its inode by the facts
abbrev pub IsPlaced : Facts → Place → Type 0
IsPlaced facts place = inode_at facts place.id ≡ Some place.inode

ArePlaced : Facts → List Row → Type 0
ArePlaced facts rows = (row : Row) → In row rows → IsPlaced facts row.place

under-if : (facts : Facts) (before : List ℕ) (id : ℕ) (b : Bool) → ArePlaced facts (cond b (rows_of facts before id) [])
unfolding ArePlaced
under-if facts before id true row h = (rows-from facts before id row h).inode
under-if facts before id false row h = absurd h

under-placed : (facts : Facts) (row : Row) → ArePlaced facts (rows_under facts row)
unfolding rows_under
under-placed facts row = under-if facts (row.path ++ slash ∷ []) row.place.id (is_opened row.place)

both-placed : (facts : Facts) (xs ys : List Row) → ArePlaced facts xs → ArePlaced facts ys → ArePlaced facts (xs ++ ys)
unfolding ArePlaced
both-placed facts xs ys first second row h = elim (in-append row xs ys h) as (λ _. IsPlaced facts row.place) [ inl a ↦ first row a | inr b ↦ second row b ]

tail-placed : (facts : Facts) (row : Row) (rows : List Row) → ArePlaced facts (row ∷ rows) → ArePlaced facts rows
unfolding ArePlaced
tail-placed facts row rows all other h = all other (inr h)

from-placed : (facts : Facts) (n : ℕ) (rows : List Row) → ArePlaced facts rows → ArePlaced facts (rows_from facts n rows)
unfolding ArePlaced
from-placed facts zero rows all row h = absurd h
from-placed facts (suc n) [] all row h = absurd h
from-placed facts (suc n) (first ∷ rows) all row (inl same) = all row (inl same)
from-placed facts (suc n) (first ∷ rows) all row (inr h) = from-placed facts n (rows_under facts first ++ rows) (both-placed facts (rows_under facts first) rows (under-placed facts first) (tail-placed facts first rows all)) row h

below-placed : (facts : Facts) (id : ℕ) → ArePlaced facts (rows_below facts id)
unfolding rows_below ArePlaced
below-placed facts id = from-placed facts _ (rows_of facts [] id) (λ row h. (rows-from facts [] id row h).inode)

at-if : (facts : Facts) (place : Place) (b : Bool) → IsPlaced facts place → ArePlaced facts (cond b (rows_below facts place.id) (lone_row place ∷ []))
unfolding ArePlaced
at-if facts place true there row h = below-placed facts place.id row h
at-if facts place false there row (inl same) = subst (λ (r : Row). IsPlaced facts r.place) (sym same) there
at-if facts place false there row (inr h) = absurd h

-- ---- the root
root-placed : (facts : Facts) (o : Option Inode) (place : Place) → inode_at facts root_id ≡ o → and_then {T = Place} {U = Place} (ok_or (option_map (placed root_id root_name) o) NotFound) (λ root. walk facts [] root) ≡ Ok place → IsPlaced facts place
root-placed facts None place there e = absurd (let q : ⊥ = cc in q)
root-placed facts (Some inode) place there e =
    let same : placed root_id root_name inode ≡ place = let s : ◌≡◌ {A = Result Place Answer} (Ok (placed root_id root_name inode)) (Ok place) = e in cc in
    subst (IsPlaced facts) same there

found-placed : (facts : Facts) (place : Place) → found facts root_name ≡ Ok place → IsPlaced facts place
unfolding found components
found-placed facts place e = root-placed facts (inode_at facts root_id) place refl e

-- ---- the items
HaveAll : Facts → List Wanted → Type 0
HaveAll facts items = (item : Wanted) → In item items → (inode : Inode) × (inode_at facts item.id ≡ Some inode)

told-have : (facts : Facts) (rows : List Row) → ArePlaced facts rows → HaveAll facts (map item_of (map row_told rows))
unfolding ArePlaced HaveAll
told-have facts rows all item h =
    let t = from-map item_of (map row_told rows) item h in
    let u = from-map row_told rows t.0 t.1.0 in
    (u.0.place.inode, ap (λ (w : Wanted). inode_at facts w.id) (t.1.1 ∙ ap item_of u.1.1) ∙ all u.0 u.1.0)

tree-have : (facts : Facts) (r : Result Place Answer) → ((place : Place) → r ≡ Ok place → IsPlaced facts place) →
    HaveAll facts (map item_of (through (value_of (and_then {T = Place} {U = List (List ℕ × Target)} r (λ place. Ok (map row_told (rows_at facts place))))) (λ rows. rows)))
unfolding HaveAll
tree-have facts (Err a) placed item h = absurd h
tree-have facts (Ok place) placed item h = told-have facts (rows_at facts place) (at-if facts place (is_directory place.inode) (placed place refl)) item h

-- each item of a view names an id that has an inode
pub items_have : (facts : Facts) (item : Wanted) → In item (items_in facts) → (inode : Inode) × (inode_at facts item.id ≡ Some inode)
unfolding items_in HaveAll
items_have facts item h = tree-have facts (found facts root_name) (found-placed facts) item h
