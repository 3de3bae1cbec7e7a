-- Where ids rise, the parents of directories alone are parents of inodes too.
use Rattle.std.proofs.Common.{◌≡◌, ℕ, suc, ◌+◌, ◌<◌, Bool, true, false, cond, List, [], ◌∷◌, length, take, get_or, Option, Some, None, inl, inr, refl, ap, sym, ◌∙◌, subst, arith}
use Rattle.std.specs.Prelude.{option_map, filter, ◌==◌}
use Rattle.std.specs.List.{find}
use Rattle.std.proofs.lemmas.List.{take_more}
use Rattle.std.proofs.lemmas.Bool.{eqb-true}
use Rattle.apfs_model.specs.Lists.{In}
use Rattle.apfs_model.proofs.Searches.{found-in}
use Rattle.fs_record.specs.Inodes.{Inode}
use Rattle.fs_record.specs.Facts.{Fact}
use Rattle.view_rules.specs.Facts.{Facts}
use Rattle.view_rules.specs.Directories.{Leads, low, up, is_user_directory, parent_at, HasWays}
use Rattle.parent_chain.specs.Directories.{Rise}
use Rattle.parent_chain.proofs.Climbing.{none-or}
use Rattle.parent_chain.proofs.FirstUnreached.{in-push}

-- the same facts with the directories of 16 or more alone
abbrev pub directories_of : Facts → Facts
directories_of facts = record facts { inodes = filter is_user_directory facts.inodes }

rise-rest : (x : Fact Inode) (xs : List (Fact Inode)) → Rise (x ∷ xs) → Rise xs
rise-rest x xs rise k d l = rise (suc k) d (omega (arith, l))

-- the first id is below each later one
first-below : (x : Fact Inode) (xs : List (Fact Inode)) → Rise (x ∷ xs) → (f : Fact Inode) → In f xs → x.id < f.id
first-below x [] rise f listed = absurd listed
first-below x (y ∷ ys) rise f listed =
    let next : x.id < y.id = rise 0 x (omega arith) in
    elim listed as (λ _. x.id < f.id) [
      | inl same ↦ subst (λ (g : Fact Inode). x.id < g.id) (sym same) next
      | inr more ↦ let later = first-below y ys (rise-rest x (y ∷ ys) rise) f more in omega (arith, next, later)
    ]

abbrev is_of_id : ℕ → Fact Inode → Bool
is_of_id q f = f.id == q

-- what is found of an id among those that pass a test is the first of all of that id
first-of-all : (test : Fact Inode → Bool) (q : ℕ) (xs : List (Fact Inode)) → Rise xs → (f : Fact Inode) → find (is_of_id q) (filter test xs) ≡ Some f → find (is_of_id q) xs ≡ Some f
first-of-all test q [] rise f e = e
first-of-all test q (x ∷ xs) rise f e =
    let rest = first-of-all test q xs (rise-rest x xs rise) f in
    let kept : (b : Bool) → find (is_of_id q) (cond b (x ∷ filter test xs) (filter test xs)) ≡ Some f → cond (is_of_id q x) (Some x) (find (is_of_id q) xs) ≡ Some f =
    λ b. elim b as (λ b. find (is_of_id q) (cond b (x ∷ filter test xs) (filter test xs)) ≡ Some f → cond (is_of_id q x) (Some x) (find (is_of_id q) xs) ≡ Some f) [
      | true ↦ here (is_of_id q x) rest
      | false ↦ λ g. past (is_of_id q x) refl (rest g)
    ] in
    kept (test x) e
  where
    here : (b : Bool) → (find (is_of_id q) (filter test xs) ≡ Some f → find (is_of_id q) xs ≡ Some f)
        → cond b (Some x) (find (is_of_id q) (filter test xs)) ≡ Some f → cond b (Some x) (find (is_of_id q) xs) ≡ Some f
    here true rest g = g
    here false rest g = rest g

    past : (b : Bool) → is_of_id q x ≡ b → find (is_of_id q) xs ≡ Some f → cond b (Some x) (find (is_of_id q) xs) ≡ Some f
    past false t g = g
    past true t g =
        let found = found-in (is_of_id q) xs f g in
        let above = first-below x xs rise f found.0 in
        let one : x.id ≡ q = eqb-true x.id q t in
        let other : f.id ≡ q = eqb-true f.id q found.1 in
        absurd (omega (arith, above, one, other))

-- a parent of a directory is that of its id
pub parents-same : (facts : Facts) → Rise facts.inodes → (id above : ℕ) → parent_at (directories_of facts) id ≡ Some above → parent_at facts id ≡ Some above
parents-same facts rise id above e =
    let parent : Option (Fact Inode) → Option ℕ = λ o. option_map (λ (inode : Inode). inode.parent) (option_map (λ (f : Fact Inode). f.what) o) in
    let go : (o : Option (Fact Inode)) → find (is_of_id id) (filter is_user_directory facts.inodes) ≡ o → parent o ≡ Some above → parent_at facts id ≡ Some above =
    λ o. elim o as (λ o. find (is_of_id id) (filter is_user_directory facts.inodes) ≡ o → parent o ≡ Some above → parent_at facts id ≡ Some above) [
      | None ↦ λ found p. none-or None above refl p
      | Some f ↦ λ found p. ap parent (first-of-all is_user_directory id facts.inodes rise f found) ∙ p
    ] in
    go (find (is_of_id id) (filter is_user_directory facts.inodes)) refl e

-- more parents lead as far
leads-too : (some all : ℕ → Option ℕ) → ((id above : ℕ) → some id ≡ Some above → all id ≡ Some above) → (id : ℕ) → Leads some id → Leads all id
leads-too some all same id (low _ l) = low id l
leads-too some all same id (up _ above e rest) = up id above (same id above e) (leads-too some all same above rest)

-- parents lead below 16 from each directory of 16 or more among some inodes
abbrev pub LeadFrom : (ℕ → Option ℕ) → List (Fact Inode) → Type 0
LeadFrom parent inodes = (f : Fact Inode) → In f inodes → is_user_directory f ≡ true → Leads parent f.id

-- they do from one more
pub lead-more : (parent : ℕ → Option ℕ) (inodes items : List (Fact Inode)) (i : ℕ) (f : Fact Inode) → items ≡ inodes → i < length items → f ≡ get_or items i f → LeadFrom parent (take i inodes)
    → (is_user_directory f ≡ true → Leads parent f.id) → LeadFrom parent (take (i + 1) inodes)
lead-more parent inodes items i f same l is had here e listed directory =
    let low2 : i < length inodes = subst (λ (ys : List (Fact Inode)). i < length ys) same l in
    let at : f ≡ get_or inodes i f = is ∙ ap (λ (ys : List (Fact Inode)). get_or ys i f) same in
    elim (in-push e (get_or inodes i f) (take i inodes) (subst (λ ys. In e ys) (take_more inodes i f low2) listed)) as (λ _. Leads parent e.id) [
      | inl m ↦ had e m directory
      | inr s ↦ let t : e ≡ f = s ∙ sym at in subst (λ (g : Fact Inode). Leads parent g.id) (sym t) (here (sym (ap is_user_directory t) ∙ directory))
    ]

-- where they lead by directories alone each directory has its way
pub have-ways : (facts : Facts) → Rise facts.inodes → LeadFrom (parent_at (directories_of facts)) facts.inodes → HasWays facts
have-ways facts rise lead f listed directory = leads-too (parent_at (directories_of facts)) (parent_at facts) (parents-same facts rise) f.id (lead f listed directory)
