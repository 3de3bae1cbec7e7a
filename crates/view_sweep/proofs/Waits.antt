-- What waits in sets of views: its levels and its numbers, and what superblocks want.
use Rattle.std.proofs.Common.{◌≡◌, ℕ, suc, ◌-◌, ◌<◌, ◌≤◌, Bool, true, false, ◌==◌, cond, List, [], ◌∷◌, ◌++◌, length, map, inl, inr, refl, ap, ap₂, sym, ◌∙◌, subst, arith}
use Rattle.std.specs.List.{filter}
use Rattle.std.proofs.lemmas.Grind.{flat_map-append}
use Rattle.std.proofs.lemmas.List.Elements.{filter-append}
use Rattle.apfs_model.specs.Lists.{In}
use Rattle.apfs_model.proofs.Searches.{in-left, in-right, in-append, in-map, from-map, from-filter}
use Rattle.view_sweep.specs.declared.sets.ViewSet.{ViewSet}
use Rattle.view_sweep.specs.declared.wanted.SweptView.{SweptView}
use Rattle.view_sweep.specs.declared.wanted.Wanted.{Wanted}
use Rattle.view_sweep.specs.declared.wanted.Asked.{Asked}
use Rattle.view_sweep.specs.declared.wanted.Head.{Head}
use Rattle.view_sweep.specs.Runs.{has_place}
use Rattle.view_sweep.specs.Wanted.{head_wants}
use Rattle.view_sweep.specs.Sets.{view_of, of_view, views_in, set_at, asked_of, all_asked, asked_with, AreNumbered, AreKept, IsSetOfOne, HaveSame}
use Rattle.view_sweep.specs.Found.{World}
use Rattle.view_sweep.specs.Swept.{AreKids, level_of}
use Rattle.view_sweep.proofs.Losts.{nobody}
use Rattle.view_sweep.proofs.Members.{from-asked, in-asked, asked-kept, numbered-more}
use Rattle.view_sweep.proofs.Wholes.{IsWaiting, IsLevel, at_level, level-from, head-view}

-- ---- numbers
pub asked-more : (n : ℕ) (old new : List Asked) (ws : List Wanted) (set : ℕ) → set < n → new ≡ old ++ map (asked_with set) ws → AreNumbered n old → AreNumbered n new
asked-more n old new ws set low e all a h = elim (in-append a old (map (asked_with set) ws) (subst (In a) e h)) as (λ _. a.set < n) [
  | inl i ↦ all a i
  | inr j ↦ let t = from-map (asked_with set) ws a j in let same : a.set ≡ set = ap (λ (x : Asked). x.set) t.1.1 in omega arith
]

pub level-numbered : (n m level : ℕ) (kids old new : List Asked) → m ≤ n → new ≡ old ++ filter (λ (a : Asked). level_of a.wanted == level) kids → AreNumbered m kids → AreNumbered n old → AreNumbered n new
level-numbered n m level kids old new le e low all a h = elim (in-append a old (filter (λ (x : Asked). level_of x.wanted == level) kids) (subst (In a) e h)) as (λ _. a.set < n) [
  | inl i ↦ all a i
  | inr j ↦ numbered-more m n kids le low a (from-filter (λ (x : Asked). level_of x.wanted == level) a kids j)
]

-- ---- levels
level-kept : (w : Wanted) (level : ℕ) (vs : List SweptView) → (level_of w == level) ≡ true → filter (at_level level) (map (of_view w) vs) ≡ map (of_view w) vs
level-kept w level [] e = refl
level-kept w level (v ∷ vs) e =
    ap (λ (b : Bool). cond b (of_view w v ∷ filter (at_level level) (map (of_view w) vs)) (filter (at_level level) (map (of_view w) vs))) e
    ∙ ap (λ (xs : List Wanted). of_view w v ∷ xs) (level-kept w level vs e)

level-dropped : (w : Wanted) (level : ℕ) (vs : List SweptView) → (level_of w == level) ≡ false → filter (at_level level) (map (of_view w) vs) ≡ []
level-dropped w level [] e = refl
level-dropped w level (v ∷ vs) e =
    ap (λ (b : Bool). cond b (of_view w v ∷ filter (at_level level) (map (of_view w) vs)) (filter (at_level level) (map (of_view w) vs))) e
    ∙ level-dropped w level vs e

asked-level : (views : List SweptView) (sets : List ViewSet) (level : ℕ) (kids : List Asked) → all_asked views sets (filter (λ (a : Asked). level_of a.wanted == level) kids) ≡ filter (at_level level) (all_asked views sets kids)
asked-level views sets level [] = refl
asked-level views sets level (a ∷ rest) =
    let kept : List Asked = filter (λ (x : Asked). level_of x.wanted == level) rest in
    let go : (b : Bool) → (level_of a.wanted == level) ≡ b → all_asked views sets (cond b (a ∷ kept) kept) ≡ filter (at_level level) (asked_of views sets a) ++ filter (at_level level) (all_asked views sets rest) =
    λ b. elim b as (λ b. (level_of a.wanted == level) ≡ b → all_asked views sets (cond b (a ∷ kept) kept) ≡ filter (at_level level) (asked_of views sets a) ++ filter (at_level level) (all_asked views sets rest)) [
      | true ↦ λ e. ap₂ (λ (xs ys : List Wanted). xs ++ ys) (sym (level-kept a.wanted level (views_in views (set_at sets a.set)) e)) (asked-level views sets level rest)
      | false ↦ λ e. asked-level views sets level rest ∙ ap (λ (xs : List Wanted). xs ++ filter (at_level level) (all_asked views sets rest)) (sym (level-dropped a.wanted level (views_in views (set_at sets a.set)) e))
    ] in
    go (level_of a.wanted == level) refl ∙ sym (filter-append (at_level level) (asked_of views sets a) (all_asked views sets rest))

-- what is added at a level is what is wanted there
pub level-asked : (views : List SweptView) (sets : List ViewSet) (level : ℕ) (old kids new : List Asked) → new ≡ old ++ filter (λ (a : Asked). level_of a.wanted == level) kids → all_asked views sets new ≡ all_asked views sets old ++ filter (at_level level) (all_asked views sets kids)
level-asked views sets level old kids new e =
    ap (all_asked views sets) e
    ∙ (flat_map-append (asked_of views sets) old (filter (λ (a : Asked). level_of a.wanted == level) kids)
    ∙ ap (λ (xs : List Wanted). all_asked views sets old ++ xs) (asked-level views sets level kids))

-- the level that is taken
pub taken : (k : World) (heads : List Head) (views : List SweptView) (first sets : List ViewSet) (kids current after : List Asked) (level : ℕ) → 0 < level → level ≤ 16 → AreKids k heads (all_asked views first kids) → AreKept first sets → AreNumbered (length first) kids → IsWaiting k heads level (all_asked views sets current)
    → after ≡ current ++ filter (λ (a : Asked). level_of a.wanted == level - 1) kids → IsLevel k heads (level - 1) (all_asked views sets after)
taken k heads views first sets kids current after level pos high a kept low b e =
    let s : level ≡ suc (level - 1) = omega arith in
    level-from k heads (all_asked views sets kids) (all_asked views sets current) (all_asked views sets after) (level - 1) (omega arith) (subst (λ (ws : List Wanted). AreKids k heads ws) (sym (asked-kept views first sets kids kept low)) a)
    (subst (λ (n : ℕ). IsWaiting k heads n (all_asked views sets current)) s b) (level-asked views sets (level - 1) current kids after e)

-- ---- what superblocks want

-- a head that isn't there, where a list has no item
abbrev pub nohead : Head
nohead = record { view = nobody.view; root_oid = 0; meta_ext = 0 }

pub heads-more : (views : List SweptView) (sets more : List ViewSet) (old new : List Asked) (head : Head) (n : ℕ) (xs ys : List Wanted) → ys ≡ xs ++ head_wants head → AreKept sets more → AreNumbered (length sets) old → IsSetOfOne views (set_at more n) head.view
    → new ≡ old ++ map (asked_with n) (head_wants head) → HaveSame (all_asked views sets old) xs → HaveSame (all_asked views more new) ys
heads-more views sets more old new head n xs ys longer kept low one e same =
    let whole : all_asked views more new ≡ all_asked views sets old ++ all_asked views more (map (asked_with n) (head_wants head)) =
    ap (all_asked views more) e ∙ (flat_map-append (asked_of views more) old (map (asked_with n) (head_wants head)) ∙ ap (λ (zs : List Wanted). zs ++ all_asked views more (map (asked_with n) (head_wants head))) (asked-kept views sets more old kept low)) in
    record {
      to = λ x h. subst (In x) (sym longer) (elim (in-append x (all_asked views sets old) (all_asked views more (map (asked_with n) (head_wants head))) (subst (In x) whole h)) as (λ _. In x (xs ++ head_wants head)) [
        | inl i ↦ in-left x xs (head_wants head) (same.to x i)
        | inr j ↦
            let a = from-asked views more (map (asked_with n) (head_wants head)) x j in
            let t = from-map (asked_with n) (head_wants head) a.0 a.1.0 in
            let o = a.1.1 in
            let at : view_of views o.place ≡ t.0.view = one.only o.place (sym (ap (λ (z : Asked). has_place (set_at more z.set) o.place) t.1.1) ∙ o.has) ∙ sym (head-view head t.0 t.1.0) in
            let is : x ≡ t.0 = o.is ∙ (ap (λ (z : Asked). of_view z.wanted (view_of views o.place)) t.1.1 ∙ ap (of_view t.0) at) in
            in-right x xs (head_wants head) (subst (λ (z : Wanted). In z (head_wants head)) (sym is) t.1.0)
      ]);
      from = λ x h. subst (In x) (sym whole) (elim (in-append x xs (head_wants head) (subst (In x) longer h)) as (λ _. In x (all_asked views sets old ++ all_asked views more (map (asked_with n) (head_wants head)))) [
        | inl i ↦ in-left x (all_asked views sets old) (all_asked views more (map (asked_with n) (head_wants head))) (same.from x i)
        | inr j ↦
            let at : x.view ≡ view_of views one.place = head-view head x j ∙ sym (one.only one.place one.has) in
            in-right x (all_asked views sets old) (all_asked views more (map (asked_with n) (head_wants head)))
            (in-asked views more (map (asked_with n) (head_wants head)) (asked_with n x) x (in-map (asked_with n) (head_wants head) x j) (record { place = one.place; below = one.below; has = one.has; is = ap (of_view x) at }))
      ]);
    }
