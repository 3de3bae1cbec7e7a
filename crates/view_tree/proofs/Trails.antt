-- Where a walk along the rows below a directory is.
use Rattle.std.proofs.Common.{◌≡◌, ℕ, zero, suc, ◌+◌, ◌-◌, ◌<◌, ◌≤◌, List, [], ◌∷◌, ◌++◌, Some, length, get_or, take, refl, ap, sym, ◌∙◌, arith, length-append}
use Rattle.std.specs.Prelude.{slice_get}
use Rattle.std.proofs.lemmas.List.{take_all, take-append-le}
use Rattle.path_search.specs.Paths.{slash}
use Rattle.view_tree.specs.Kept.{path_after, told_rows, last_path}
use Rattle.view_tree.specs.Trails.{path_before, IsOn, path_of}
use Rattle.view_tree.specs.declared.kept.Row.{Row}
use Rattle.view_tree.specs.declared.trail.Trail.{Trail}
use Rattle.view_tree.proofs.RowsPut.{path_to}

-- the path of the last of n rows, by how they are told and by how they are kept
before-last : (before : List ℕ) (rows : List Row) (n : ℕ) → path_before before (told_rows before rows) n ≡ last_path before (take n rows)
before-last before [] zero = refl
before-last before [] (suc n) = refl
before-last before (row ∷ rows) zero = refl
before-last before (row ∷ rows) (suc n) = before-last (path_after before row ++ slash ∷ []) rows n

-- one row more was passed
pub on_next : (rows : List Row) (i : ℕ) (row : Row) (path next : List ℕ) → i < length rows → row ≡ get_or rows i row → path ≡ path_before [] (told_rows [] rows) i → next ≡ path_after path row ++ slash ∷ [] → next ≡ path_before [] (told_rows [] rows) (i + 1)
on_next rows i row path next low at is more = path_to rows i row path next low at (is ∙ before-last [] rows i) more ∙ sym (before-last [] rows (i + 1))

-- a path without the slash after it
pub without_slash : (path : List ℕ) → take (length (path ++ slash ∷ []) - 1) (path ++ slash ∷ []) ≡ path
without_slash path =
    let low : length path ≤ length path = omega arith in
    ap (λ (n : ℕ). take n (path ++ slash ∷ [])) (let e : length (path ++ slash ∷ []) - 1 ≡ length path = omega (arith, length-append path (slash ∷ [])) in e)
    ∙ (take-append-le (length path) path (slash ∷ []) low ∙ take_all (length path) path low)

told-at : (before : List ℕ) (rows : List Row) (i : ℕ) (row : Row) → i < length rows → row ≡ get_or rows i row → slice_get (told_rows before rows) i ≡ Some (path_after (last_path before (take i rows)) row, row.target)
told-at before [] i row low at = absurd (omega arith)
told-at before (r ∷ rows) zero row low at = ap (λ (x : Row). Some (path_after before x, x.target)) (sym at)
told-at before (r ∷ rows) (suc i) row low at = told-at (path_after before r ++ slash ∷ []) rows i row (omega arith) at

-- the row that was passed last
pub row_there : (rows : List Row) (i : ℕ) (row : Row) (trail : Trail) → i < length rows → row ≡ get_or rows i row → trail.passed ≡ i + 1 → IsOn (told_rows [] rows) trail → slice_get (told_rows [] rows) i ≡ Some (path_of trail, row.target)
row_there rows i row trail low at passed on =
    let path : List ℕ = path_after (last_path [] (take i rows)) row in
    let same : trail.path.items ≡ path ++ slash ∷ [] =
    on ∙ (ap (path_before [] (told_rows [] rows)) passed ∙ (before-last [] rows (i + 1) ∙ sym (path_to rows i row (last_path [] (take i rows)) (path ++ slash ∷ []) low at refl refl))) in
    told-at [] rows i row low at ∙ ap (λ (p : List ℕ). Some (p, row.target)) (sym (ap (λ (p : List ℕ). take (length p - 1) p) same ∙ without_slash path))
