-- Each of some sorted things is read once.
use Rattle.std.proofs.Common.{◌≡◌, ℕ, ◌+◌, ◌-◌, ◌<◌, ◌≤◌, List, [], ◌∷◌, ◌++◌, length, map, get_or, take, Option, Some, ◌⊎◌, inl, inr, ap, sym, ◌∙◌, subst, arith}
use Rattle.std.specs.declared.cmp.Ordering.{Ordering}
use Rattle.std.specs.declared.cmp.Ordering.TheVariants.{Equal}
use Rattle.std.specs.Ordering.{is_lt}
use Rattle.std.specs.Cmp.{IsTotalOrder}
use Rattle.std.specs.List.Sorted.{IsSortedBy}
use Rattle.std.proofs.lemmas.Cmp.{tied_itself}
use Rattle.std.proofs.lemmas.List.{take_more, take_all, map-append}
use Rattle.apfs_model.specs.Lists.{In}
use Rattle.apfs_model.specs.Apart.{Apart}
use Rattle.apfs_model.proofs.Searches.{in-left, in-right, from-map}
use Rattle.view_sweep.proofs.Ranked.{between, in-take, get_or-same, in-push}

pub apart-push : {X : Type 0} (xs : List X) (y : X) → Apart xs → (In y xs → ⊥) → Apart (xs ++ y ∷ [])
apart-push [] y a free = ((λ h. h), tt)
apart-push (x ∷ xs) y a free = (
  (λ h. elim (in-push x xs y h) as (λ _. ⊥) [ inl k ↦ a.0 k | inr e ↦ free (inl (sym e)) ]),
  apart-push xs y a.1 (λ k. free (inr k)),
)

-- what was read of the first so many things is theirs, each once, and what is held is that of the last of them
pub record Reading {X U : Type 0} (key : X → U) (xs : List X) (i : ℕ) (held : Option U) (read : List U) : Type 0 where
  pub last : (d : X) → 0 < i → held ≡ Some (key (get_or xs (i - 1) d))
  pub stands : (u : U) → held ≡ Some u → In u read
  pub apart : Apart read
  pub each : (u : U) → In u (map key (take i xs)) → In u read
  pub only : (u : U) → In u read → In u (map key (take i xs))

take-uses : {X U : Type 0} (key : X → U) (xs : List X) (i : ℕ) (d : X) → i < length xs → map key (take (i + 1) xs) ≡ map key (take i xs) ++ key (get_or xs i d) ∷ []
take-uses key xs i d low = ap (map key) (take_more xs i d low) ∙ map-append key (take i xs) (get_or xs i d ∷ [])

-- what isn't held wasn't read
not-read : {X U : Type 0} (key : X → U) {R : U → U → Ordering} → IsTotalOrder R → ((a b : U) → R a b ≡ Equal → a ≡ b) → (xs : List X) → IsSortedBy (λ a b. is_lt (R (key a) (key b))) xs → (i : ℕ) (d : X) (held : Option U) (read : List U) → i < length xs → Reading key xs i held read → (held ≡ Some (key (get_or xs i d)) → ⊥) → In (key (get_or xs i d)) read → ⊥
not-read {X} {U} key {R} order one xs sorted i d held read low w free h =
    let t = from-map key (take i xs) (key (get_or xs i d)) (w.only (key (get_or xs i d)) h) in
    let p = in-take xs i t.0 d t.1.0 in
    let j : ℕ = p.0 in
    let before : j < i = p.1.0 in
    let same : key (get_or xs i d) ≡ key (get_or xs j d) = t.1.1 ∙ ap key p.1.1.1 in
    let tie : R (key (get_or xs j d)) (key (get_or xs i d)) ≡ Equal = ap (R (key (get_or xs j d))) same ∙ tied_itself order (key (get_or xs j d)) in
    let near : R (key (get_or xs j d)) (key (get_or xs (i - 1) d)) ≡ Equal = between order key xs sorted j (i - 1) i d (omega arith) (omega arith) low tie in
    let e : key (get_or xs j d) ≡ key (get_or xs (i - 1) d) = one (key (get_or xs j d)) (key (get_or xs (i - 1) d)) near in
    free (w.last d (omega arith) ∙ ap Some (sym (same ∙ e)))

-- the next thing is taken
pub reading-more : {X U : Type 0} (key : X → U) {R : U → U → Ordering} → IsTotalOrder R → ((a b : U) → R a b ≡ Equal → a ≡ b) → (xs : List X) → IsSortedBy (λ a b. is_lt (R (key a) (key b))) xs → (i : ℕ) (d : X) (held new : Option U) (read after : List U) → i < length xs → Reading key xs i held read → new ≡ Some (key (get_or xs i d)) → ((held ≡ Some (key (get_or xs i d))) × (after ≡ read)) ⊎ ((held ≡ Some (key (get_or xs i d)) → ⊥) × (after ≡ read ++ key (get_or xs i d) ∷ [])) → Reading key xs (i + 1) new after
reading-more {X} {U} key order one xs sorted i d held new read after low w e (inl (s, f)) = record {
  last = λ g h. e ∙ ap (λ (x : X). Some (key x)) (get_or-same xs i d g low ∙ ap (λ k. get_or xs k g) (let k : i ≡ (i + 1) - 1 = omega arith in k));
  stands = λ u h. let q : ◌≡◌ {A = Option U} (Some (key (get_or xs i d))) (Some u) = sym e ∙ h in let k : key (get_or xs i d) ≡ u = cc in subst (λ us. In u us) (sym f) (w.stands u (s ∙ ap Some k));
  apart = subst (λ us. Apart us) (sym f) w.apart;
  each = λ u h. subst (λ us. In u us) (sym f) (elim (in-push u (map key (take i xs)) (key (get_or xs i d)) (subst (λ us. In u us) (take-uses key xs i d low) h)) as (λ _. In u read) [ inl k ↦ w.each u k | inr k ↦ w.stands u (s ∙ ap Some (sym k)) ]);
  only = λ u h. subst (λ us. In u us) (sym (take-uses key xs i d low)) (in-left u (map key (take i xs)) (key (get_or xs i d) ∷ []) (w.only u (subst (λ us. In u us) f h)));
}
reading-more {X} {U} key order one xs sorted i d held new read after low w e (inr (s, f)) = record {
  last = λ g h. e ∙ ap (λ (x : X). Some (key x)) (get_or-same xs i d g low ∙ ap (λ k. get_or xs k g) (let k : i ≡ (i + 1) - 1 = omega arith in k));
  stands = λ u h. let q : ◌≡◌ {A = Option U} (Some (key (get_or xs i d))) (Some u) = sym e ∙ h in let k : key (get_or xs i d) ≡ u = cc in subst (λ us. In u us) (sym f) (in-right u read (key (get_or xs i d) ∷ []) (inl (sym k)));
  apart = subst (λ us. Apart us) (sym f) (apart-push read (key (get_or xs i d)) w.apart (not-read key order one xs sorted i d held read low w s));
  each = λ u h. subst (λ us. In u us) (sym f) (elim (in-push u (map key (take i xs)) (key (get_or xs i d)) (subst (λ us. In u us) (take-uses key xs i d low) h)) as (λ _. In u (read ++ key (get_or xs i d) ∷ [])) [ inl k ↦ in-left u read (key (get_or xs i d) ∷ []) (w.each u k) | inr k ↦ in-right u read (key (get_or xs i d) ∷ []) (inl k) ]);
  only = λ u h. subst (λ us. In u us) (sym (take-uses key xs i d low)) (elim (in-push u read (key (get_or xs i d)) (subst (λ us. In u us) f h)) as (λ _. In u (map key (take i xs) ++ key (get_or xs i d) ∷ [])) [ inl k ↦ in-left u (map key (take i xs)) (key (get_or xs i d) ∷ []) (w.only u k) | inr k ↦ in-right u (map key (take i xs)) (key (get_or xs i d) ∷ []) (inl k) ]);
}

-- at the end each was read
pub reading-all : {X U : Type 0} (key : X → U) (xs : List X) (i : ℕ) (held : Option U) (read : List U) → length xs ≤ i → Reading key xs i held read → ((u : U) → In u (map key xs) → In u read) × ((u : U) → In u read → In u (map key xs))
reading-all key xs i held read high w = let e = take_all i xs high in (
  (λ u h. w.each u (subst (λ ys. In u (map key ys)) (sym e) h)),
  (λ u h. subst (λ ys. In u (map key ys)) e (w.only u h)),
)
