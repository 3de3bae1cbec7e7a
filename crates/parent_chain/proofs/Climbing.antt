-- What a climb knows of its ids.
use Rattle.std.proofs.Common.{◌≡◌, ℕ, ◌+◌, ◌≤◌, Bool, true, false, cond, Option, Some, None, ◌⊎◌, inl, inr, refl, ap, sym, ◌∙◌, subst, arith}
use Rattle.std.specs.Prelude.{◌==◌, nat_lt, nat_le}
use Rattle.std.proofs.lemmas.Bool.{cases_lt, eqb-true, eq-eqb, leb-true, ltb-false}
use Rattle.apfs_model.specs.Lists.{passes}
use Rattle.fs_record.specs.Facts.{first_user_id}
use Rattle.view_rules.specs.Directories.{Leads, low, up}
use Rattle.parent_chain.specs.Climbs.{IsMetIn, HasLeft, HasClimbed, IsClimbing}

-- what is at hand is the same
same-of : (o : Option ℕ) (a b : ℕ) → o ≡ Some a → o ≡ Some b → a ≡ b
same-of o a b e f = let q : ◌≡◌ {A = Option ℕ} (Some a) (Some b) = sym e ∙ f in cc

pub none-or : {A : Type 0} (o : Option ℕ) (a : ℕ) → o ≡ None → o ≡ Some a → A
none-or {A} o a e f = let q : ◌≡◌ {A = Option ℕ} None (Some a) = sym e ∙ f in absurd (let r : ⊥ = cc in r)

-- an id of 16 or more leads below exactly where its parent does
step-on : (parent : ℕ → Option ℕ) (id above : ℕ) → 16 ≤ id → parent id ≡ Some above → Leads parent id → Leads parent above
step-on parent id above high e (low _ l) = absurd (omega arith)
step-on parent id above high e (up _ j f m) = subst (λ x. Leads parent x) (same-of (parent id) j above f e) m

-- without a parent it doesn't
stuck : (parent : ℕ → Option ℕ) (id : ℕ) → 16 ≤ id → parent id ≡ None → Leads parent id → ⊥
stuck parent id high e (low _ l) = absurd (omega arith)
stuck parent id high e (up _ j f m) = none-or (parent id) j e f

-- what goes round among ids of 16 and more never leads below
trapped : (parent : ℕ → Option ℕ) (Round : ℕ → Type 0) → ((j : ℕ) → Round j → 16 ≤ j) → ((j k : ℕ) → Round j → parent j ≡ Some k → Round k) → (i : ℕ) → Round i → Leads parent i → ⊥
trapped parent Round high closed i h (low _ l) = let b : 16 ≤ i = high i h in absurd (omega arith)
trapped parent Round high closed i h (up _ j e m) = trapped parent Round high closed j (closed i j h e) m

-- what is marked is the id itself, or was there
marked : (met met2 : ℕ → Option ℕ) (climb next : ℕ) → ((q : ℕ) → met2 q ≡ cond (next == q) (Some climb) (met q)) → (id number : ℕ) → IsMetIn met2 id number → ((id ≡ next) × (number ≡ climb)) ⊎ IsMetIn met id number
marked met met2 climb next marks id number h =
    let go : (b : Bool) → (next == id) ≡ b → cond b (Some climb) (met id) ≡ Some number → ((id ≡ next) × (number ≡ climb)) ⊎ IsMetIn met id number =
    λ b. elim b as (λ b. (next == id) ≡ b → cond b (Some climb) (met id) ≡ Some number → ((id ≡ next) × (number ≡ climb)) ⊎ IsMetIn met id number) [
      | true ↦ λ e f. inl (sym (eqb-true next id e), same-of (Some climb) number climb f refl)
      | false ↦ λ e f. inr f
    ] in
    go (next == id) refl (sym (marks id) ∙ h)

-- the id is marked, and each other stays
mark-here : (met met2 : ℕ → Option ℕ) (climb next : ℕ) → ((q : ℕ) → met2 q ≡ cond (next == q) (Some climb) (met q)) → IsMetIn met2 next climb
mark-here met met2 climb next marks = marks next ∙ ap (λ b. cond b (Some climb) (met next)) (eq-eqb next next refl)

-- what was marked in this climb still is
mark-stays : (met met2 : ℕ → Option ℕ) (climb next : ℕ) → ((q : ℕ) → met2 q ≡ cond (next == q) (Some climb) (met q)) → (id : ℕ) → IsMetIn met id climb → IsMetIn met2 id climb
mark-stays met met2 climb next marks id h =
    let go : (b : Bool) → cond b (Some climb) (met id) ≡ Some climb =
    λ b. elim b as (λ b. cond b (Some climb) (met id) ≡ Some climb) [ true ↦ refl | false ↦ h ] in
    marks id ∙ go (next == id)

-- what was marked still has a mark
mark-kept : (met met2 : ℕ → Option ℕ) (climb next : ℕ) → ((q : ℕ) → met2 q ≡ cond (next == q) (Some climb) (met q)) → (id number : ℕ) → IsMetIn met id number → (n : ℕ) × IsMetIn met2 id n
mark-kept met met2 climb next marks id number h =
    let go : (b : Bool) → (n : ℕ) × (cond b (Some climb) (met id) ≡ Some n) =
    λ b. elim b as (λ b. (n : ℕ) × (cond b (Some climb) (met id) ≡ Some n)) [ true ↦ (climb, refl) | false ↦ (number, h) ] in
    let t = go (next == id) in (t.0, marks id ∙ t.1)

-- what is left, after the parent of an id was followed
left-more : (parent : ℕ → Option ℕ) (left left2 met met2 : ℕ → Option ℕ) (climb next : ℕ) → HasLeft parent left met
    → ((q : ℕ) → left2 q ≡ cond (next == q) None (left q)) → ((q : ℕ) → met2 q ≡ cond (next == q) (Some climb) (met q)) → HasLeft parent left2 met2
left-more parent left left2 met met2 climb next rest lefts marks = record {
  right = λ id above h.
      let go : (b : Bool) → cond b None (left id) ≡ Some above → parent id ≡ Some above =
      λ b. elim b as (λ b. cond b None (left id) ≡ Some above → parent id ≡ Some above) [ true ↦ λ e. none-or None above refl e | false ↦ λ e. rest.right id above e ] in
      go (next == id) (sym (lefts id) ∙ h);
  gone = λ id h.
      let go : (b : Bool) → (next == id) ≡ b → cond b None (left id) ≡ None → (parent id ≡ None) ⊎ ((n : ℕ) × IsMetIn met2 id n) =
      λ b. elim b as (λ b. (next == id) ≡ b → cond b None (left id) ≡ None → (parent id ≡ None) ⊎ ((n : ℕ) × IsMetIn met2 id n)) [
        | true ↦ λ e f. inr (climb, subst (λ x. IsMetIn met2 x climb) (eqb-true next id e) (mark-here met met2 climb next marks))
        | false ↦ λ e f. elim (rest.gone id f) as (λ _. (parent id ≡ None) ⊎ ((n : ℕ) × IsMetIn met2 id n)) [
          | inl none ↦ inl none
          | inr t ↦ inr (mark-kept met met2 climb next marks id t.0 t.1)
        ]
      ] in
      go (next == id) refl (sym (lefts id) ∙ h);
}

-- a climb goes on to a parent
pub climb-on : (parent : ℕ → Option ℕ) (left left2 met met2 : ℕ → Option ℕ) (climb start next above : ℕ) → IsClimbing parent left met climb start next → 16 ≤ next → left next ≡ Some above
    → ((q : ℕ) → left2 q ≡ cond (next == q) None (left q)) → ((q : ℕ) → met2 q ≡ cond (next == q) (Some climb) (met q)) → IsClimbing parent left2 met2 climb start above
climb-on parent left left2 met met2 climb start next above had high there lefts marks =
    let named : parent next ≡ Some above = had.rest.right next above there in
    record {
      rest = left-more parent left left2 met met2 climb next had.rest lefts marks;
      before = λ id number h. elim (marked met met2 climb next marks id number h) as (λ _. number ≤ climb) [ inl t ↦ let e : number ≡ climb = t.1 in omega arith | inr m ↦ had.before id number m ];
      leads = λ id number h l. elim (marked met met2 climb next marks id number h) as (λ _. Leads parent id) [ inl t ↦ let e : number ≡ climb = t.1 in absurd (omega arith) | inr m ↦ had.leads id number m l ];
      high = λ id h. elim (marked met met2 climb next marks id climb h) as (λ _. 16 ≤ id) [ inl t ↦ let e : id ≡ next = t.0 in omega arith | inr m ↦ had.high id m ];
      onward = λ id k h e. elim (marked met met2 climb next marks id climb h) as (λ _. IsMetIn met2 k climb ⊎ (k ≡ above)) [
        | inl t ↦ inr (same-of (parent id) k above e (ap parent t.0 ∙ named))
        | inr m ↦ elim (had.onward id k m e) as (λ _. IsMetIn met2 k climb ⊎ (k ≡ above)) [
          | inl n ↦ inl (mark-stays met met2 climb next marks k n)
          | inr s ↦ inl (subst (λ x. IsMetIn met2 x climb) (sym s) (mark-here met met2 climb next marks))
        ]
      ];
      all = λ l id h.
          let here : Leads parent next = up next above named l in
          elim (marked met met2 climb next marks id climb h) as (λ _. Leads parent id) [ inl t ↦ subst (λ x. Leads parent x) (sym t.0) here | inr m ↦ had.all here id m ];
      forth = λ l. step-on parent next above high named (had.forth l);
      back = λ l. had.back (up next above named l);
    }

-- a climb ends at an id that leads below 16
pub climb-leads : (parent : ℕ → Option ℕ) (left met : ℕ → Option ℕ) (climb start top : ℕ) → IsClimbing parent left met climb start top → Leads parent top → Leads parent start × HasClimbed parent left met (climb + 1)
climb-leads parent left met climb start top had l = (
  had.back l,
  record {
    rest = had.rest;
    before = λ id number h. let b = had.before id number h in omega arith;
    leads = λ id number h. elim (cases_lt number climb) as (λ _. Leads parent id) [
      | inl less ↦ had.leads id number h less
      | inr more ↦ let b = had.before id number h in let e : number ≡ climb = omega arith in had.all l id (subst (λ n. IsMetIn met id n) e h)
    ];
  },
)

-- one that was met in this climb goes round
round : (parent : ℕ → Option ℕ) (left met : ℕ → Option ℕ) (climb start top : ℕ) → IsClimbing parent left met climb start top → IsMetIn met top climb → Leads parent top → ⊥
round parent left met climb start top had here =
    trapped parent (λ id. IsMetIn met id climb) had.high (λ j k h e. elim (had.onward j k h e) as (λ _. IsMetIn met k climb) [ inl m ↦ m | inr s ↦ subst (λ x. IsMetIn met x climb) (sym s) here ]) top here

-- it wasn't, and no parent of it is left
pub top-lost : (parent : ℕ → Option ℕ) (left met : ℕ → Option ℕ) (climb start top : ℕ) → IsClimbing parent left met climb start top → 16 ≤ top → left top ≡ None
    → passes (met top) (λ n. nat_lt n climb) ≡ false → Leads parent start → ⊥
top-lost parent left met climb start top had high none earlier l =
    elim (had.rest.gone top none) as (λ _. ⊥) [
      | inl e ↦ stuck parent top high e (had.forth l)
      | inr t ↦
          let late : climb ≤ t.0 = ltb-false t.0 climb (sym (ap (λ o. passes o (λ n. nat_lt n climb)) t.1) ∙ earlier) in
          let b = had.before top t.0 t.1 in
          let e : t.0 ≡ climb = omega arith in
          round parent left met climb start top had (subst (λ n. IsMetIn met top n) e t.1) (had.forth l)
    ]

-- what is followed is of 16 or more, and was left
pub followed : (o : Option ℕ) (id above : ℕ) → Some above ≡ cond (nat_le first_user_id id) o None → (16 ≤ id) × (o ≡ Some above)
followed o id above =
    let go : (b : Bool) → nat_le 16 id ≡ b → Some above ≡ cond b o None → (16 ≤ id) × (o ≡ Some above) =
    λ b. elim b as (λ b. nat_le 16 id ≡ b → Some above ≡ cond b o None → (16 ≤ id) × (o ≡ Some above)) [
      | true ↦ λ t e. (leb-true 16 id t, sym e)
      | false ↦ λ t e. none-or None above refl (sym e)
    ] in
    go (nat_le 16 id) refl
