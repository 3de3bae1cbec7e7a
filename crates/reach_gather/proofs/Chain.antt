-- What the reaper with its lists adds.
use Rattle.std.proofs.Common.{◌≡◌, ℕ, zero, suc, ◌+◌, ◌-◌, ◌<◌, ◌≤◌, Bool, true, false, List, [], ◌∷◌, ◌++◌, length, map, get_or, ◌⊎◌, inl, inr, refl, ap, sym, ◌∙◌, arith, if◌then◌else◌}
use Rattle.std.specs.Prelude.{◌==◌, slice_index}
use Rattle.std.specs.List.{range_with_len}
use Rattle.std.proofs.lemmas.List.{length-append}
use Rattle.std.proofs.lemmas.List.FromFn.{fill_by_all}
use Rattle.apfs_model.specs.Apart.{Apart}
use Rattle.apfs_model.specs.Lists.{In}
use Rattle.apfs_model.proofs.BoolTests.{test_or, equal-from, from-equal, unequal-from, never-true}
use Rattle.nx_ring.specs.Checkpoint.{Seen}
use Rattle.reach_rules.specs.declared.naming.LookUp.TheVariants.{ByMapping}
use Rattle.reach_rules.specs.declared.naming.Object.TheVariants.{Newest, OfId}
use Rattle.reach_rules.specs.declared.naming.Namer.TheVariants.{Whole}
use Rattle.reach_rules.specs.declared.naming.TreeKind.{TreeKind}
use Rattle.reach_rules.specs.declared.naming.Expected.{Expected}
use Rattle.reach_rules.specs.declared.naming.Expected.TheVariants.{TreeRoot, ReaperObject, ReapList}
use Rattle.reach_rules.specs.declared.naming.Naming.{Naming}
use Rattle.reach_rules.specs.Naming.{naming}
use Rattle.reach_rules.specs.Owners.{owners_through}
use Rattle.reach_rules.specs.PoolOwners.{pool_owners_through}
use Rattle.reach_gather.specs.ViewParts.{is_in_view}
use Rattle.reach_gather.specs.Container.{reaper_naming}
use Rattle.reach_gather.proofs.Joined.{part-apart}
use Rattle.reach_gather.specs.Reaped.{list_namings, reaper_namings, IsReaped}
use Rattle.reach_gather.specs.Held.{Held}
use Rattle.reach_gather.specs.Adds.{Adds}
use Rattle.reach_gather.specs.Chain.{reap_at}
use Rattle.reach_gather.proofs.Owning.{own-id, pool-id}
use Rattle.reach_gather.proofs.Branches.{OwnNothing, grewby-nothing}

-- ---- the namings, by number
same-either : (b : Bool) (x : ℕ) → (if b then x else x) ≡ x
same-either true x = refl
same-either false x = refl

zero-not : (k : ℕ) → (suc k == 0) ≡ false
zero-not k = never-true (suc k == 0) (λ e. let z : suc k ≡ 0 = equal-from (suc k) 0 e in let q : ⊥ = omega (arith, z) in q)

one-is : (k : ℕ) → (suc k == 1) ≡ (k == 0)
one-is k = elim (test_or (k == 0)) as (λ _. (suc k == 1) ≡ (k == 0)) [
  | inl t ↦ let z : k ≡ 0 = equal-from k 0 t in from-equal (suc k) 1 (ap suc z) ∙ sym t
  | inr f ↦ never-true (suc k == 1) (λ e. let z : suc k ≡ 1 = equal-from (suc k) 1 e in unequal-from k 0 f (omega (arith, z))) ∙ sym f
]

list-at : (by at : ℕ) (ids : List ℕ) (k : ℕ) (d : Naming) → k < length ids → get_or (list_namings by at ids) k d ≡ naming (Whole (OfId (get_or (by ∷ ids) k 0))) (if k == 0 then at else 32) ReapList ByMapping (get_or ids k 0)
list-at by at [] k d low = absurd (omega arith)
list-at by at (x ∷ xs) zero d low = refl
list-at by at (x ∷ xs) (suc k) d low =
    let shown : ℕ → Naming = λ a. naming (Whole (OfId (get_or (x ∷ xs) k 0))) a ReapList ByMapping (get_or xs k 0) in
    list-at x 32 xs k d (omega arith) ∙ (ap shown (same-either (k == 0) 32) ∙ ap (λ (b : Bool). shown (if b then at else 32)) (sym (zero-not k)))

reaper-at : (ids : List ℕ) (k : ℕ) (d : Naming) → k < length ids → get_or (reaper_namings ids) k d ≡ reap_at ids k
reaper-at [] k d low = absurd (omega arith)
reaper-at (x ∷ xs) zero d low = refl
reaper-at (x ∷ xs) (suc k) d low =
    let first : Naming = naming (Whole Newest) 168 ReaperObject ByMapping (get_or xs k 0) in
    let list : ℕ → Bool → Naming = λ j b. naming (Whole (OfId (slice_index (x ∷ xs) j))) (if b then 48 else 32) ReapList ByMapping (get_or xs k 0) in
    let before : suc k - 1 ≡ k = omega arith in
    list-at x 48 xs k d (omega arith)
    ∙ sym (ap (λ (b : Bool). if b then first else list (suc k - 1) (suc k == 1)) (zero-not k) ∙ (ap (λ j. list j (suc k == 1)) before ∙ ap (λ (b : Bool). list k b) (one-is k)))

list-long : (by at : ℕ) (ids : List ℕ) → length (list_namings by at ids) ≡ length ids
list-long by at [] = refl
list-long by at (x ∷ xs) = ap suc (list-long x 32 xs)

reaper-long : (ids : List ℕ) → length (reaper_namings ids) ≡ length ids
reaper-long [] = refl
reaper-long (x ∷ xs) = ap suc (list-long x 48 xs)

nothing-named : Naming
nothing-named = naming (Whole Newest) 0 ReapList ByMapping 0

links-are : (ids : List ℕ) → reaper_namings ids ≡ map (reap_at ids) (range_with_len 0 (length ids))
links-are ids = fill_by_all (reap_at ids) (reaper_namings ids) (length ids) nothing-named (reaper-long ids) (λ k low. reaper-at ids k nothing-named low)

-- ---- how they are named
abbrev ExpectsReaping : Expected → Type 0
ExpectsReaping e = (e ≡ ReaperObject) ⊎ (e ≡ ReapList)

abbrev IsReaping : Naming → Type 0
IsReaping n = (n.how ≡ ByMapping) × ExpectsReaping n.expected

list-shown : (by at : ℕ) (ids : List ℕ) (n : Naming) → In n (list_namings by at ids) → IsReaping n
list-shown by at [] n h = absurd h
list-shown by at (x ∷ xs) n (inl e) = (ap (λ (m : Naming). m.how) e, inr (ap (λ (m : Naming). m.expected) e))
list-shown by at (x ∷ xs) n (inr h) = list-shown x 32 xs n h

reaper-shown : (ids : List ℕ) (n : Naming) → In n (reaper_namings ids) → IsReaping n
reaper-shown [] n h = absurd h
reaper-shown (x ∷ xs) n (inl e) = (ap (λ (m : Naming). m.how) e, inl (ap (λ (m : Naming). m.expected) e))
reaper-shown (x ∷ xs) n (inr h) = list-shown x 48 xs n h

not-root : (e : Expected) (kind : TreeKind) → ExpectsReaping e → e ≡ TreeRoot kind → ⊥
not-root e kind (inl r) is = let z : ReaperObject ≡ TreeRoot kind = sym r ∙ is in let q : ⊥ = cc in q
not-root e kind (inr r) is = let z : ReapList ≡ TreeRoot kind = sym r ∙ is in let q : ⊥ = cc in q

-- ---- ids of which none stands twice are named once each
list-of : (by at : ℕ) (ids : List ℕ) (n : Naming) → In n (list_namings by at ids) → In n.oid ids
list-of by at [] n h = absurd h
list-of by at (x ∷ xs) n (inl e) = inl (ap (λ (m : Naming). m.oid) e)
list-of by at (x ∷ xs) n (inr h) = inr (list-of x 32 xs n h)

list-apart : (by at : ℕ) (ids : List ℕ) → Apart ids → Apart (list_namings by at ids)
list-apart by at [] a = tt
list-apart by at (x ∷ xs) a = ((λ h. a.0 (list-of x 32 xs (naming (Whole (OfId by)) at ReapList ByMapping x) h)), list-apart x 32 xs a.1)

reaper-apart : (ids : List ℕ) → Apart ids → Apart (reaper_namings ids)
reaper-apart [] a = tt
reaper-apart (x ∷ xs) a = ((λ h. a.0 (list-of x 48 xs (naming (Whole Newest) 168 ReaperObject ByMapping x) h)), list-apart x 48 xs a.1)

-- ---- none of them owns a block
reaping-own : (image : List ℕ) (seen : Seen) (ids : List ℕ) → IsReaped image seen ids → OwnNothing image seen (reaper_namings ids)
reaping-own image seen ids is = record {
  owners = λ n h.
      let s = reaper-shown ids n h in
      elim s.1 as (λ _. owners_through image seen n ≡ []) [ inl e ↦ own-id image seen n ReaperObject (is.plain n h) s.0 e | inr e ↦ own-id image seen n ReapList (is.plain n h) s.0 e ];
  pool_owners = λ n h.
      let s = reaper-shown ids n h in
      elim s.1 as (λ _. pool_owners_through image seen n ≡ []) [ inl e ↦ pool-id image seen n ReaperObject (is.plain n h) s.0 e | inr e ↦ pool-id image seen n ReapList (is.plain n h) s.0 e ];
}

pub reaper-adds : (image : List ℕ) (seen : Seen) (ids : List ℕ) (a b : Held) → IsReaped image seen ids
    → b.namings ≡ a.namings ++ map (reap_at ids) (range_with_len 0 (length ids)) → b.owners ≡ a.owners → b.pool_owners ≡ a.pool_owners
    → Adds image seen (reaper_naming seen.nx) [] a b
reaper-adds image seen ids a b is p q r = record {
  these = reaper_namings ids;
  part = part-apart image seen (reaper_naming seen.nx) (reaper_namings ids) (reaper-apart ids is.apart) is.live is.plain;
  outside = λ n h. ap is_in_view (reaper-shown ids n h).0;
  trees = λ n kind h e. absurd (not-root n.expected kind (reaper-shown ids n h).1 e);
  grew = grewby-nothing image seen (reaper_namings ids) a b (reaping-own image seen ids is) (p ∙ ap (λ xs. a.namings ++ xs) (sym (links-are ids))) q r;
}

-- a list to which others were put is no shorter
pub longer : {X : Type 0} (old more new : List X) → new ≡ old ++ more → length old ≤ length new
longer old more new e = let long : length new ≡ length old + length more = ap length e ∙ length-append old more in omega arith
