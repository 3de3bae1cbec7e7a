-- A chain with no rank: all of it in a list, or an id that is named twice.
use Rattle.std.proofs.Common.{◌≡◌, ℕ, zero, suc, ◌+◌, ◌<◌, ◌≤◌, List, [], ◌∷◌, length, map, Option, Some, None, ◌⊎◌, inl, inr, refl, ap, sym, ◌∙◌, subst, arith}
use Rattle.std.proofs.lemmas.Bool.{cases_eq}
use Rattle.apfs_model.specs.Lists.{In, Lists}
use Rattle.reach_rules.specs.Live.{Live, rooted, led}
use Rattle.apfs_model.specs.Apart.{Apart}
use Rattle.apfs_model.proofs.Searches.{from-map}
use Rattle.apfs_model.proofs.Finite.{apart-length, member_or}

-- who names (0: the first; otherwise one more than the id), and whom
pub record Link : Type 0 where
  pub namer : ℕ
  pub oid : ℕ

-- a link to what is there
abbrev pub link_of : ℕ → Option ℕ → List Link
link_of namer None = []
link_of namer (Some oid) = record { namer = namer; oid = oid } ∷ []

abbrev pub links : (ℕ → Option ℕ) → Link → List Link
links after n = link_of (suc n.oid) (after n.oid)

abbrev pub first_link : Option ℕ → List Link
first_link head = link_of 0 head

abbrev pub IsLinked : Option ℕ → (ℕ → Option ℕ) → Link → Type 0
IsLinked head after n = Live (first_link head) (links after) n

-- an id that two different links name
abbrev pub LinkedTwice : Option ℕ → (ℕ → Option ℕ) → Type 0
LinkedTwice head after = (m : Link) × (n : Link) × (IsLinked head after m × IsLinked head after n × (m.oid ≡ n.oid) × (m ≡ n → ⊥))

-- what was walked: each id once, each link named from among them or first, and none but the next missing
record Walked (head : Option ℕ) (after : ℕ → Option ℕ) (way : List Link) (next : Option ℕ) (namer : ℕ) : Type 0 where
  live : (n : Link) → In n way → IsLinked head after n
  apart : Apart (map (λ (n : Link). n.oid) way)
  on : (n : Link) → In n way → (m : Link) → In m (links after n) → In m way ⊎ In m (link_of namer next)
  roots : (m : Link) → In m (first_link head) → In m way ⊎ In m (link_of namer next)
  next_live : (m : Link) → In m (link_of namer next) → IsLinked head after m
  by : (n : Link) → In n way → (n.namer ≡ 0) ⊎ ((j : ℕ) × ((n.namer ≡ suc j) × In j (map (λ (n : Link). n.oid) way)))
  by_next : (namer ≡ 0) ⊎ ((j : ℕ) × ((namer ≡ suc j) × In j (map (λ (n : Link). n.oid) way)))
  fresh : (n : Link) → In n way → n.namer ≡ namer → ⊥
  goes : (j : ℕ) → In j (map (λ (n : Link). n.oid) way) → (k : ℕ) × (after j ≡ Some k)

whole : (head : Option ℕ) (after : ℕ → Option ℕ) (way : List Link) (namer : ℕ) → Walked head after way None namer → (n : Link) → IsLinked head after n → In n way
whole head after way namer w n (rooted _ h) = elim (w.roots n h) as (λ _. In n way) [ inl a ↦ a | inr b ↦ absurd b ]
whole head after way namer w n (led m _ live h) = elim (w.on m (whole head after way namer w m live) n h) as (λ _. In n way) [ inl a ↦ a | inr b ↦ absurd b ]

-- the last: it has no next
ended : (head : Option ℕ) (after : ℕ → Option ℕ) (way : List Link) (k namer : ℕ) → after k ≡ None → Walked head after way (Some k) namer → (n : Link) → IsLinked head after n → In n (record { namer = namer; oid = k } ∷ way)
ended head after way k namer e w n (rooted _ h) = elim (w.roots n h) as (λ _. In n (record { namer = namer; oid = k } ∷ way)) [ inl a ↦ inr a | inr b ↦ elim b as (λ _. In n (record { namer = namer; oid = k } ∷ way)) [ inl s ↦ inl s | inr x ↦ absurd x ] ]
ended head after way k namer e w n (led m _ live h) = elim (ended head after way k namer e w m live) as (λ _. In n (record { namer = namer; oid = k } ∷ way)) [
  | inl s ↦ absurd (subst (λ o. In n (link_of (suc m.oid) o)) (ap after (ap (λ (x : Link). x.oid) s) ∙ e) h)
  | inr a ↦ elim (w.on m a n h) as (λ _. In n (record { namer = namer; oid = k } ∷ way)) [ inl b ↦ inr b | inr b ↦ elim b as (λ _. In n (record { namer = namer; oid = k } ∷ way)) [ inl s ↦ inl s | inr x ↦ absurd x ] ]
]

-- one more link
longer : (head : Option ℕ) (after : ℕ → Option ℕ) (way : List Link) (k namer further : ℕ) → after k ≡ Some further → (In k (map (λ (n : Link). n.oid) way) → ⊥) → Walked head after way (Some k) namer → Walked head after (record { namer = namer; oid = k } ∷ way) (Some further) (suc k)
longer head after way k namer further e out w = record {
  live = λ n h. elim h as (λ _. IsLinked head after n) [ inl s ↦ w.next_live n (inl s) | inr a ↦ w.live n a ];
  apart = (out, w.apart);
  on = λ n h m g. elim h as (λ _. In m (record { namer = namer; oid = k } ∷ way) ⊎ In m (link_of (suc k) (Some further))) [
    | inl s ↦ let f : n.oid ≡ k = ap (λ (x : Link). x.oid) s in inr (subst (λ o. In m (link_of (suc k) o)) e (subst (λ x. In m (link_of (suc x) (after x))) f g))
    | inr a ↦ elim (w.on n a m g) as (λ _. In m (record { namer = namer; oid = k } ∷ way) ⊎ In m (link_of (suc k) (Some further))) [
      | inl b ↦ inl (inr b)
      | inr b ↦ elim b as (λ _. In m (record { namer = namer; oid = k } ∷ way) ⊎ In m (link_of (suc k) (Some further))) [ inl s ↦ inl (inl s) | inr x ↦ absurd x ]
    ]
  ];
  roots = λ m h. elim (w.roots m h) as (λ _. In m (record { namer = namer; oid = k } ∷ way) ⊎ In m (link_of (suc k) (Some further))) [
    | inl a ↦ inl (inr a)
    | inr b ↦ elim b as (λ _. In m (record { namer = namer; oid = k } ∷ way) ⊎ In m (link_of (suc k) (Some further))) [ inl s ↦ inl (inl s) | inr x ↦ absurd x ]
  ];
  next_live = λ m h. led (record { namer = namer; oid = k }) m (w.next_live (record { namer = namer; oid = k }) (inl refl)) (subst (λ o. In m (link_of (suc k) o)) (sym e) h);
  by = λ n h. elim h as (λ _. (n.namer ≡ 0) ⊎ ((j : ℕ) × ((n.namer ≡ suc j) × In j (k ∷ map (λ (n : Link). n.oid) way)))) [
    | inl s ↦ let f : n.namer ≡ namer = ap (λ (x : Link). x.namer) s in elim w.by_next as (λ _. (n.namer ≡ 0) ⊎ ((j : ℕ) × ((n.namer ≡ suc j) × In j (k ∷ map (λ (n : Link). n.oid) way)))) [ inl z ↦ inl (f ∙ z) | inr t ↦ inr (t.0, (f ∙ t.1.0, inr t.1.1)) ]
    | inr a ↦ elim (w.by n a) as (λ _. (n.namer ≡ 0) ⊎ ((j : ℕ) × ((n.namer ≡ suc j) × In j (k ∷ map (λ (n : Link). n.oid) way)))) [ inl z ↦ inl z | inr t ↦ inr (t.0, (t.1.0, inr t.1.1)) ]
  ];
  by_next = inr (k, (refl, inl refl));
  fresh = λ n h f. elim h as (λ _. ⊥) [
    | inl s ↦ let g : n.namer ≡ namer = ap (λ (x : Link). x.namer) s in elim w.by_next as (λ _. ⊥) [ inl z ↦ absurd (omega arith) | inr t ↦ let u : namer ≡ suc t.0 = t.1.0 in let v : t.0 ≡ k = omega arith in out (subst (λ x. In x (map (λ (n : Link). n.oid) way)) v t.1.1) ]
    | inr a ↦ elim (w.by n a) as (λ _. ⊥) [ inl z ↦ absurd (omega arith) | inr t ↦ let u : n.namer ≡ suc t.0 = t.1.0 in let v : t.0 ≡ k = omega arith in out (subst (λ x. In x (map (λ (n : Link). n.oid) way)) v t.1.1) ]
  ];
  goes = λ j h. elim h as (λ _. (m : ℕ) × (after j ≡ Some m)) [ inl s ↦ (further, ap after s ∙ e) | inr a ↦ w.goes j a ];
}

chain : (head : Option ℕ) (after : ℕ → Option ℕ) (ids : List ℕ) → ((k m : ℕ) → after k ≡ Some m → In k ids) → (fuel : ℕ) (way : List Link) (next : Option ℕ) (namer : ℕ) → length ids < fuel + length (map (λ (n : Link). n.oid) way) → Walked head after way next namer →
    ((ns : List Link) × Lists ns (IsLinked head after)) ⊎ LinkedTwice head after
chain head after ids known fuel way None namer many w = inl (way, (w.live, whole head after way namer w))
chain head after ids known zero way (Some k) namer many w =
    let l : length (map (λ (n : Link). n.oid) way) ≤ length ids = apart-length (map (λ (n : Link). n.oid) way) ids w.apart (λ j h. let t = w.goes j h in known j t.0 t.1) in absurd (omega arith)
chain head after ids known (suc fuel) way (Some k) namer many w =
    let Answer : Type 0 = ((ns : List Link) × Lists ns (IsLinked head after)) ⊎ LinkedTwice head after in
    let here : Link = record { namer = namer; oid = k } in
    elim (member_or cases_eq k (map (λ (n : Link). n.oid) way)) as (λ _. Answer) [
      | inl h ↦ let t = from-map (λ (n : Link). n.oid) way k h in
          inr (here, t.0, (w.next_live here (inl refl), w.live t.0 t.1.0, t.1.1, λ e. w.fresh t.0 t.1.0 (ap (λ (x : Link). x.namer) (sym e))))
      | inr out ↦
          let go : (o : Option ℕ) → after k ≡ o → Answer = λ o. elim o as (λ o. after k ≡ o → Answer) [
            | None ↦ λ e. inl (here ∷ way, ((λ n h. elim h as (λ _. IsLinked head after n) [ inl s ↦ w.next_live n (inl s) | inr a ↦ w.live n a ]), ended head after way k namer e w))
            | Some further ↦ λ e. chain head after ids known fuel (here ∷ way) (Some further) (suc k) (omega arith) (longer head after way k namer further e out w)
          ] in
          go (after k) refl
    ]

pub chain_or : (head : Option ℕ) (after : ℕ → Option ℕ) (ids : List ℕ) → ((k m : ℕ) → after k ≡ Some m → In k ids) → ((ns : List Link) × Lists ns (IsLinked head after)) ⊎ LinkedTwice head after
chain_or head after ids known = chain head after ids known (suc (length ids)) [] head 0 (omega arith) (record {
  live = λ n h. absurd h;
  apart = tt;
  on = λ n h m g. absurd h;
  roots = λ m h. inr h;
  next_live = λ m h. rooted m h;
  by = λ n h. absurd h;
  by_next = inl refl;
  fresh = λ n h e. absurd h;
  goes = λ j h. absurd h;
})
