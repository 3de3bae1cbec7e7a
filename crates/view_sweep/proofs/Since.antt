-- An id resolves to one record at all transactions between two of its records.
use Rattle.std.proofs.Common.{◌≡◌, ℕ, ◌<◌, ◌≤◌, List, [], ◌∷◌, Bool, cond, refl, ap, sym, ◌∙◌, arith, inl, inr, Option, None, Some, IfSome, rules}
use Rattle.std.specs.Prelude.{◌⊎◌, filter, option_and_then, IsNone}
use Rattle.std.proofs.lemmas.Grind.{common_steps}
use Rattle.apfs_model.specs.Lists.{In, greatest}
use Rattle.std.specs.Prelude.{option_map}
use Rattle.apfs_model.specs.Blocks.{in_container}
use Rattle.obj_base.specs.declared.site.Site.{Site}
use Rattle.omap_map.specs.Resolve.{is_for, latest, resolved, unless_deleted}
use Rattle.omap_map.specs.Loading.{IsResolved}
use Rattle.omap_map.specs.declared.records.OmapRecord.{OmapRecord}
use Rattle.omap_map.proofs.Laws.{resolved-means}
use Rattle.vol_view.specs.Volumes.{Loaded}
use Rattle.view_sweep.specs.declared.wanted.SweptView.{SweptView}
use Rattle.view_sweep.specs.declared.wanted.Wanted.{Wanted}
use Rattle.view_sweep.specs.Found.{placed, looked, records_at}
use Rattle.view_sweep.specs.Sets.{of_view}
use Rattle.view_sweep.specs.Next.{AreNoneAfter, IsNext, AreAsOne}

-- tests that agree on a list leave the same of it
filter-same : {X : Type 0} (p q : X → Bool) (xs : List X) → ((x : X) → In x xs → p x ≡ q x) → filter p xs ≡ filter q xs
filter-same p q [] same = refl
filter-same p q (x ∷ xs) same =
    ap (λ (b : Bool). cond b (x ∷ filter p xs) (filter p xs)) (same x (inl refl))
    ∙ ap (λ ys. cond (q x) (x ∷ ys) ys) (filter-same p q xs (λ y h. same y (inr h)))

-- no record of an id tells two transactions apart
abbrev AreAlike : List OmapRecord → ℕ → ℕ → ℕ → Type 0
AreAlike records oid x y = (r : OmapRecord) → In r records → is_for oid x r ≡ is_for oid y r

resolved-alike : (records : List OmapRecord) (oid x y : ℕ) → AreAlike records oid x y → resolved records oid x ≡ resolved records oid y
unfolding resolved latest
resolved-alike records oid x y alike = ap (λ rs. option_and_then unless_deleted (greatest (λ (r : OmapRecord). r.xid) rs)) (filter-same (is_for oid x) (is_for oid y) records alike)

for-both : (oid x y : ℕ) (r : OmapRecord) → (r.oid ≡ oid → ((r.xid ≤ x) × (r.xid ≤ y)) ⊎ ((x < r.xid) × (y < r.xid))) → is_for oid x r ≡ is_for oid y r
for-both oid x y r both = grind (arith, common_steps)

-- a record is by two transactions, or after both: of one of them the last is by the other, and no record comes between that one and the next
both-sides : (records : List OmapRecord) (oid x y : ℕ) (r : OmapRecord) (next : Option ℕ) → IsResolved records oid x r → r.xid ≤ y → (IsNone next → AreNoneAfter records oid x) → IfSome next (IsNext records oid x) → IfSome next (λ n. y < n)
    → (s : OmapRecord) → In s records → s.oid ≡ oid → ((s.xid ≤ x) × (s.xid ≤ y)) ⊎ ((x < s.xid) × (y < s.xid))
both-sides records oid x y r None is since none some less s i e =
    let low : s.xid ≤ x = none (search rules) s i e in
    let last : s.xid ≤ r.xid = is.last s i e low in
    inl (low, omega arith)
both-sides records oid x y r (Some n) is since none some less s i e = elim (some.gap s i e) as (λ _. ((s.xid ≤ x) × (s.xid ≤ y)) ⊎ ((x < s.xid) × (y < s.xid))) [
  | inl low ↦ let last : s.xid ≤ r.xid = is.last s i e low in inl (low, omega arith)
  | inr high ↦ let after : x < n = some.after in inr (omega arith, omega arith)
]

-- an id resolves to one record at all transactions from that of the record up to the next one
same-since : (records : List OmapRecord) (oid x y : ℕ) (r : OmapRecord) (next : Option ℕ) → resolved records oid x ≡ Some r → r.xid ≤ y → (IsNone next → AreNoneAfter records oid x) → IfSome next (IsNext records oid x) → IfSome next (λ n. y < n) → resolved records oid y ≡ Some r
same-since records oid x y r next found since none some less =
    sym (resolved-alike records oid x y (λ s i. for-both oid x y s (both-sides records oid x y r next (resolved-means records oid x r found) since none some less s i))) ∙ found

-- the record by which an object is found is the one to which its id resolves
placed-is : (site : Site) (r m : OmapRecord) (o : Option ℕ) → option_map (λ (block : ℕ). r) o ≡ Some m → r ≡ m
placed-is site r m None e = absurd (cc)
placed-is site r m (Some b) e = cc

pub looked-is : (site : Site) (o : Option OmapRecord) (m : OmapRecord) → option_and_then (placed site) o ≡ Some m → o ≡ Some m
looked-is site None m e = absurd (cc)
looked-is site (Some r) m e = ap (λ (x : OmapRecord). Some x) (placed-is site r m (in_container site.blocks r.paddr) e)

-- so another view finds the object by it
pub found-since : (volumes : List Loaded) (site : Site) (w : Wanted) (v : SweptView) (m : OmapRecord) (next : Option ℕ) → looked volumes site w ≡ Some m → AreAsOne w.view v → m.xid ≤ v.xid → (IsNone next → AreNoneAfter (records_at volumes w.view.volume) w.oid w.view.xid) → IfSome next (IsNext (records_at volumes w.view.volume) w.oid w.view.xid) → IfSome next (λ n. v.xid < n) → looked volumes site (of_view w v) ≡ Some m
unfolding looked
found-since volumes site w v m next found one since none some less =
    let records : List OmapRecord = records_at volumes w.view.volume in
    let here : resolved records w.oid w.view.xid ≡ Some m = looked-is site (resolved records w.oid w.view.xid) m found in
    ap (λ (i : ℕ). option_and_then (placed site) (resolved (records_at volumes i) w.oid v.xid)) (sym one.volume)
    ∙ (ap (option_and_then (placed site)) (same-since records w.oid w.view.xid v.xid m next here since none some less ∙ sym here) ∙ found)
