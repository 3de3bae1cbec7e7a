-- Rows that are kept, and those that are left, as they are told.
use Rattle.std.proofs.Common.{◌≡◌, ℕ, suc, ◌≤◌, Bool, true, false, cond, List, [], ◌∷◌, ◌++◌, length, map, take, refl, ap, sym, ◌∙◌, subst, arith, append_assoc, length-append}
use Rattle.std.proofs.lemmas.List.{take_all, take-append-le}
use Rattle.fs_name.specs.Shown.{shown_name}
use Rattle.view_rules.specs.Facts.{Facts}
use Rattle.path_search.specs.Paths.{slash}
use Rattle.path_search.specs.Places.{target_of}
use Rattle.path_search.specs.Listing.{children}
use Rattle.path_search.specs.declared.target.Target.{Target}
use Rattle.view_tree.specs.Kept.{path_after, told_rows, last_path}
use Rattle.view_tree.specs.Parts.{is_opened_target, told_after, told_under, row_at, kept_under, left_told, Fits}
use Rattle.view_tree.specs.declared.kept.Row.{Row}

-- ---- rows one after the other
pub told_more : (before : List ℕ) (rows : List Row) (row : Row) → told_rows before (rows ++ row ∷ []) ≡ told_rows before rows ++ (path_after (last_path before rows) row, row.target) ∷ []
told_more before [] row = refl
told_more before (r ∷ rows) row = ap (λ (l : List (List ℕ × Target)). (path_after before r, r.target) ∷ l) (told_more (path_after before r ++ slash ∷ []) rows row)

pub path_more : (before : List ℕ) (rows : List Row) (row : Row) → last_path before (rows ++ row ∷ []) ≡ path_after (last_path before rows) row ++ slash ∷ []
path_more before [] row = refl
path_more before (r ∷ rows) row = path_more (path_after before r ++ slash ∷ []) rows row

-- a row is told after those before it
pub row_told : (rows : List Row) (row : Row) (path : List ℕ) (told new : List (List ℕ × Target)) → told ≡ told_rows [] rows → path ≡ last_path [] rows → new ≡ told ++ (path_after path row, row.target) ∷ [] → new ≡ told_rows [] (rows ++ row ∷ [])
row_told rows row path told new had at added = added ∙ ((λ i. had i ++ (path_after (at i) row, row.target) ∷ []) ∙ sym (told_more [] rows row))

pub row_path : (rows : List Row) (row : Row) (path new : List ℕ) → path ≡ last_path [] rows → new ≡ path_after path row ++ slash ∷ [] → new ≡ last_path [] (rows ++ row ∷ [])
row_path rows row path new at made = made ∙ (ap (λ (p : List ℕ). path_after p row ++ slash ∷ []) at ∙ sym (path_more [] rows row))

pub told_length : (before : List ℕ) (rows : List Row) → length (told_rows before rows) ≡ length rows
told_length before [] = refl
told_length before (r ∷ rows) = ap suc (told_length (path_after before r ++ slash ∷ []) rows)

pub told_joined : (before : List ℕ) (rows more : List Row) → told_rows before (rows ++ more) ≡ told_rows before rows ++ told_rows (last_path before rows) more
told_joined before [] more = refl
told_joined before (r ∷ rows) more = ap (λ (l : List (List ℕ × Target)). (path_after before r, r.target) ∷ l) (told_joined (path_after before r ++ slash ∷ []) rows more)

-- ---- rows that are left
-- what is left is told the same after more
left-longer : (x y : List ℕ) (rows : List Row) → Fits x rows → left_told (x ++ y) rows ≡ left_told x rows
left-longer x y [] fits = refl
left-longer x y (row ∷ rows) fits =
    let low : row.shared ≤ length x = fits.0 in
    ap (λ (b : List ℕ). (b ++ shown_name row.target.name, row.target) ∷ left_told b rows) (take-append-le row.shared x y low)

fits-longer : (x y : List ℕ) (rows : List Row) → Fits x rows → Fits (x ++ y) rows
fits-longer x y [] fits = tt
fits-longer x y (row ∷ rows) fits =
    let low : row.shared ≤ length x = fits.0 in
    (omega (arith, length-append x y), subst (λ (b : List ℕ). Fits b rows) (sym (take-append-le row.shared x y low)) fits.1)

-- targets that are put on top are told after the whole path
left-put : (path : List ℕ) (n : ℕ) (targets : List Target) (rest : List Row) → n ≡ length path → left_told path (map (row_at n) targets ++ rest) ≡ map (told_after path) targets ++ left_told path rest
left-put path n [] rest e = refl
left-put path n (t ∷ ts) rest e =
    let whole : length path ≤ n = omega arith in
    ap (λ (b : List ℕ). (b ++ shown_name t.name, t) ∷ left_told b (map (row_at n) ts ++ rest)) (take_all n path whole)
    ∙ ap (λ (l : List (List ℕ × Target)). told_after path t ∷ l) (left-put path n ts rest e)

fits-put : (path : List ℕ) (n : ℕ) (targets : List Target) (rest : List Row) → n ≡ length path → Fits path rest → Fits path (map (row_at n) targets ++ rest)
fits-put path n [] rest e fits = fits
fits-put path n (t ∷ ts) rest e fits =
    let whole : length path ≤ n = omega arith in
    (omega arith, subst (λ (b : List ℕ). Fits b (map (row_at n) ts ++ rest)) (sym (take_all n path whole)) (fits-put path n ts rest e fits))

-- the first rows
pub first_left : (targets : List Target) (left none : List Row) → left ≡ map (row_at 0) targets ++ none → none ≡ [] → left_told [] left ≡ map (told_after []) targets
first_left targets left none e empty =
    ap (left_told []) (e ∙ ap (λ (l : List Row). map (row_at 0) targets ++ l) empty) ∙ (left-put [] 0 targets [] refl ∙ append-none (map (told_after []) targets))
  where
    append-none : (l : List (List ℕ × Target)) → l ++ [] ≡ l
    append-none [] = refl
    append-none (x ∷ xs) = ap (λ (l : List (List ℕ × Target)). x ∷ l) (append-none xs)

pub first_fits : (targets : List Target) (left none : List Row) → left ≡ map (row_at 0) targets ++ none → none ≡ [] → Fits [] left
first_fits targets left none e empty = subst (λ (l : List Row). Fits [] l) (sym (e ∙ ap (λ (l : List Row). map (row_at 0) targets ++ l) empty)) (fits-put [] 0 targets [] refl tt)

-- the path of a row and a slash is what the row shares, and more
path-longer : (before path : List ℕ) (row : Row) → path ≡ path_after before row ++ slash ∷ [] → path ≡ take row.shared before ++ (shown_name row.target.name ++ slash ∷ [])
path-longer before path row same = same ∙ append_assoc (take row.shared before) (shown_name row.target.name) (slash ∷ [])

under-told : (facts : Facts) (row : Row) (before path : List ℕ) (n : ℕ) (rest : List Row) → path ≡ path_after before row ++ slash ∷ [] → n ≡ length path →
    left_told path (kept_under facts n row.target ++ rest) ≡ told_under facts (path_after before row, row.target) ++ left_told path rest
unfolding kept_under told_under
under-told facts row before path n rest same e =
    let targets : List Target = map target_of (children facts row.target.id) in
    let go : (b : Bool) → left_told path (cond b (map (row_at n) targets) [] ++ rest) ≡ cond b (map (told_after (path_after before row ++ slash ∷ [])) targets) [] ++ left_told path rest =
    λ b. elim b as (λ b. left_told path (cond b (map (row_at n) targets) [] ++ rest) ≡ cond b (map (told_after (path_after before row ++ slash ∷ [])) targets) [] ++ left_told path rest) [
      | true ↦ left-put path n targets rest e ∙ ap (λ (p : List ℕ). map (told_after p) targets ++ left_told path rest) same
      | false ↦ refl
    ] in
    go (is_opened_target row.target)

under-fits : (facts : Facts) (target : Target) (path : List ℕ) (n : ℕ) (rest : List Row) → n ≡ length path → Fits path rest → Fits path (kept_under facts n target ++ rest)
unfolding kept_under
under-fits facts target path n rest e fits =
    let targets : List Target = map target_of (children facts target.id) in
    let go : (b : Bool) → Fits path (cond b (map (row_at n) targets) [] ++ rest) = λ b. elim b as (λ b. Fits path (cond b (map (row_at n) targets) [] ++ rest)) [
      | true ↦ fits-put path n targets rest e fits
      | false ↦ fits
    ] in
    go (is_opened_target target)

-- the first row that is left was taken, and what is under it put on top
pub next_left : (facts : Facts) (row : Row) (before path : List ℕ) (n : ℕ) (rest next : List Row) → Fits before (row ∷ rest) → path ≡ path_after before row ++ slash ∷ [] → n ≡ length path → next ≡ kept_under facts n row.target ++ rest →
    left_told path next ≡ told_under facts (path_after before row, row.target) ++ left_told (take row.shared before) rest
next_left facts row before path n rest next fits same e put =
    ap (left_told path) put
    ∙ (under-told facts row before path n rest same e
    ∙ ap (λ (l : List (List ℕ × Target)). told_under facts (path_after before row, row.target) ++ l)
    (ap (λ (p : List ℕ). left_told p rest) (path-longer before path row same) ∙ left-longer (take row.shared before) (shown_name row.target.name ++ slash ∷ []) rest fits.1))

pub next_fits : (facts : Facts) (row : Row) (before path : List ℕ) (n : ℕ) (rest next : List Row) → Fits before (row ∷ rest) → path ≡ path_after before row ++ slash ∷ [] → n ≡ length path → next ≡ kept_under facts n row.target ++ rest → Fits path next
next_fits facts row before path n rest next fits same e put =
    subst (λ (l : List Row). Fits path l) (sym put)
    (under-fits facts row.target path n rest e
    (subst (λ (p : List ℕ). Fits p rest) (sym (path-longer before path row same)) (fits-longer (take row.shared before) (shown_name row.target.name ++ slash ∷ []) rest fits.1)))

-- ---- what is right under a target
pub kept_opened : (facts : Facts) (shared : ℕ) (target : Target) (targets : List Target) (left next : List Row) → is_opened_target target ≡ true → targets ≡ map target_of (children facts target.id) → next ≡ map (row_at shared) targets ++ left → next ≡ kept_under facts shared target ++ left
unfolding kept_under
kept_opened facts shared target targets left next e these put =
    put ∙ (ap (λ (l : List Target). map (row_at shared) l ++ left) these ∙ sym (ap (λ (b : Bool). cond b (map (row_at shared) (map target_of (children facts target.id))) [] ++ left) e))

pub kept_closed : (facts : Facts) (shared : ℕ) (target : Target) (left next : List Row) → is_opened_target target ≡ false → next ≡ left → next ≡ kept_under facts shared target ++ left
unfolding kept_under
kept_closed facts shared target left next e same = same ∙ sym (ap (λ (b : Bool). cond b (map (row_at shared) (map target_of (children facts target.id))) [] ++ left) e)
