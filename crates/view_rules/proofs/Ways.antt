-- Whether parent ids lead below 16 is decided: a way that meets itself never does.
use Rattle.std.proofs.Common.{◌≡◌, ℕ, zero, suc, ◌+◌, ◌<◌, ◌≤◌, List, [], ◌∷◌, length, Option, Some, None, ◌⊎◌, inl, inr, refl, ap, sym, ◌∙◌, subst, arith}
use Rattle.std.proofs.lemmas.Bool.{cases_lt, cases_eq}
use Rattle.apfs_model.specs.Lists.{In}
use Rattle.apfs_model.specs.Apart.{Apart}
use Rattle.apfs_model.proofs.Finite.{apart-length, member_or}
use Rattle.view_rules.specs.Directories.{Leads, low, up}

-- what goes round among ids of 16 and more never leads below
pub trapped : (parent : ℕ → Option ℕ) (round : List ℕ) → ((j : ℕ) → In j round → (16 ≤ j) × ((k : ℕ) → parent j ≡ Some k → In k round)) → (i : ℕ) → In i round → Leads parent i → ⊥
trapped parent round closed i h (low _ l) = let b : 16 ≤ i = (closed i h).0 in absurd (omega arith)
trapped parent round closed i h (up _ j e m) = trapped parent round closed j ((closed i h).1 j e) m

-- a way up: each id is of 16 or more, and leads to the one after it, which stands before it here, or to the next
record Way (parent : ℕ → Option ℕ) (way : List ℕ) (next : ℕ) : Type 0 where
  apart : Apart way
  high : (j : ℕ) → In j way → 16 ≤ j
  on : (j : ℕ) → In j way → (k : ℕ) → parent j ≡ Some k → In k way ⊎ (k ≡ next)
  from : (j : ℕ) → In j way → (k : ℕ) × (parent j ≡ Some k)

-- one step on
step-on : (parent : ℕ → Option ℕ) (i k : ℕ) → 16 ≤ i → parent i ≡ Some k → Leads parent i → Leads parent k
step-on parent i k high e (low _ l) = absurd (omega arith)
step-on parent i k high e (up _ j f m) = let q : ◌≡◌ {A = Option ℕ} (Some j) (Some k) = sym f ∙ e in let s : j ≡ k = cc in subst (λ x. Leads parent x) s m

stuck : (parent : ℕ → Option ℕ) (i : ℕ) → 16 ≤ i → parent i ≡ None → Leads parent i → ⊥
stuck parent i high e (low _ l) = absurd (omega arith)
stuck parent i high e (up _ j f m) = let q : ◌≡◌ {A = Option ℕ} None (Some j) = sym e ∙ f in cc

climb : (parent : ℕ → Option ℕ) (ids : List ℕ) → ((j k : ℕ) → parent j ≡ Some k → In j ids) → (fuel : ℕ) (way : List ℕ) (next : ℕ) → length ids < fuel + length way → Way parent way next → Leads parent next ⊎ (Leads parent next → ⊥)
climb parent ids known zero way next many w =
    let k : length way ≤ length ids = apart-length way ids w.apart (λ j h. let t = w.from j h in known j t.0 t.1) in absurd (omega arith)
climb parent ids known (suc fuel) way next many w = elim (cases_lt next 16) as (λ _. Leads parent next ⊎ (Leads parent next → ⊥)) [
  | inl l ↦ inl (low next l)
  | inr high ↦ elim (member_or cases_eq next way) as (λ _. Leads parent next ⊎ (Leads parent next → ⊥)) [
    | inl h ↦ inr (trapped parent way (λ j m. (w.high j m, λ k e. elim (w.on j m k e) as (λ _. In k way) [ inl a ↦ a | inr s ↦ subst (λ x. In x way) (sym s) h ])) next h)
    | inr out ↦
        let go : (o : Option ℕ) → parent next ≡ o → Leads parent next ⊎ (Leads parent next → ⊥) = λ o. elim o as (λ o. parent next ≡ o → Leads parent next ⊎ (Leads parent next → ⊥)) [
          | None ↦ λ e. inr (λ l. stuck parent next high e l)
          | Some k ↦ λ e.
              let longer : Way parent (next ∷ way) k = record {
                apart = (out, w.apart);
                high = λ j h. elim h as (λ _. 16 ≤ j) [ inl s ↦ omega arith | inr m ↦ w.high j m ];
                on = λ j h m f. elim h as (λ _. In m (next ∷ way) ⊎ (m ≡ k)) [
                  | inl s ↦ let q : ◌≡◌ {A = Option ℕ} (Some m) (Some k) = sym f ∙ (ap parent s ∙ e) in inr cc
                  | inr a ↦ elim (w.on j a m f) as (λ _. In m (next ∷ way) ⊎ (m ≡ k)) [ inl b ↦ inl (inr b) | inr s ↦ inl (inl s) ]
                ];
                from = λ j h. elim h as (λ _. (m : ℕ) × (parent j ≡ Some m)) [ inl s ↦ (k, ap parent s ∙ e) | inr a ↦ w.from j a ];
              } in
              elim (climb parent ids known fuel (next ∷ way) k (omega arith) longer) as (λ _. Leads parent next ⊎ (Leads parent next → ⊥)) [ inl l ↦ inl (up next k e l) | inr n ↦ inr (λ l. n (step-on parent next k high e l)) ]
        ] in
        go (parent next) refl
  ]
]

-- parent ids lead below 16 from an id, or they never do; only so many ids have a parent
pub leads_or : (parent : ℕ → Option ℕ) (ids : List ℕ) → ((j k : ℕ) → parent j ≡ Some k → In j ids) → (i : ℕ) → Leads parent i ⊎ (Leads parent i → ⊥)
leads_or parent ids known i = climb parent ids known (suc (length ids)) [] i (omega arith) (record {
  apart = tt;
  high = λ j h. absurd h;
  on = λ j h k e. absurd h;
  from = λ j h. absurd h;
})
