-- Each live naming is right, or something is present: names, features and trees.
use Rattle.std.proofs.Common.{◌≡◌, ℕ, true, false, List, [], ◌∷◌, ◌++◌, length, Option, Some, None, Ok, Err, is_ok, ◌⊎◌, inl, inr, refl, sym, ◌∙◌, subst}
use Rattle.apfs_model.specs.Counts.{given}
use Rattle.apfs_model.specs.Lists.{In, Lists, through}
use Rattle.obj_base.specs.declared.stop.Bad.{Bad}
use Rattle.obj_base.specs.declared.stop.Bad.TheVariants.{Found as Fails, Unsupported}
use Rattle.nx_ring.specs.Checkpoint.{Seen, site_of}
use Rattle.nx_ring.specs.Features.{container_features}
use Rattle.reach_rules.specs.declared.fault.Why.{Why}
use Rattle.reach_rules.specs.declared.fault.ReachFault.TheVariants.{Unsound, Unnamed, NamedTwice, Tree, Value}
use Rattle.reach_rules.specs.Naming.{TreeKind, Expected, TreeRoot, Naming}
use Rattle.reach_rules.specs.Resolved.{Found, resolved}
use Rattle.reach_rules.specs.Tested.{Answer, tested}
use Rattle.reach_rules.specs.Live.{IsLive, Names, NamesSound}
use Rattle.reach_rules.specs.Trees.{tree_line, misplaced, has_counts, is_short_at, IsRightTree, NamesRoot}
use Rattle.reach_rules.specs.Features.{Placed, first, of, used_features, tested_features, features_through}
use Rattle.reach_rules.specs.Faults.{is_once, within_of, xid_of}
use Rattle.reach_rules.specs.Accounted.{AreInOrder, IsPlain}
use Rattle.apfs_model.proofs.BoolTests.{test_or}
use Rattle.apfs_model.proofs.Searches.{in-right, every_of, below_or}
use Rattle.reach_rules.proofs.Equal.{lookup_eq, naming_eq}
use Rattle.std.proofs.lemmas.Bool.{cases_eq}
use Rattle.reach_rules.specs.Laws.{Flawed}

-- a part holds, and then the next, or something is present
pub then_or : {A B T : Type 0} → A ⊎ T → (A → B ⊎ T) → B ⊎ T
then_or {A} {B} {T} a next = elim a as (λ _. B ⊎ T) [ inl x ↦ next x | inr t ↦ inr t ]

pub found_or : (o : Option Found) → ((f : Found) × (o ≡ Some f)) ⊎ (o ≡ None)
found_or None = inr refl
found_or (Some f) = inl (f, refl)

answer_or : (a : Answer) → (is_ok a ≡ true) ⊎ ((bad : Bad Why) × (a ≡ Err bad))
answer_or (Ok bytes) = inl refl
answer_or (Err bad) = inr (bad, refl)

-- every live naming resolves to a sound object
abbrev pub AllSound : List ℕ → Seen → Type 0
AllSound image seen = (n : Naming) → IsLive image seen n → (f : Found) × NamesSound image seen n f

pub in-features : (image : List ℕ) (seen : Seen) (n : Naming) (f : Found) (x : Placed) → resolved image seen n ≡ Some f → In x (tested_features image seen n.expected f (tested (site_of seen) n.expected n.oid f.bytes)) → In x (features_through image seen n)
unfolding features_through
in-features image seen n f x e h =
    subst (λ o. In x (through o (λ (g : Found). used_features (site_of seen) g.object ++ tested_features image seen n.expected g (tested (site_of seen) n.expected n.oid g.bytes)))) (sym e)
    (in-right x (used_features (site_of seen) f.object) (tested_features image seen n.expected f (tested (site_of seen) n.expected n.oid f.bytes)) h)

unsound-flaw : (image : List ℕ) (seen : Seen) (n : Naming) (f : Found) (bad : Bad Why) → IsLive image seen n → resolved image seen n ≡ Some f → tested (site_of seen) n.expected n.oid f.bytes ≡ Err bad → Flawed image seen
unsound-flaw image seen n f (Fails why) live e t = inl (Unsound f.block why, record { naming = n; object = f; names = record { live = live; found = e }; at = refl; fails = t })
unsound-flaw image seen n f (Unsupported feature) live e t =
    inr (feature, (f.block, of n live (in-features image seen n f (feature, f.block) e (subst (λ a. In (feature, f.block) (tested_features image seen n.expected f a)) (sym t) (inl refl)))))

pub named_or : (image : List ℕ) (seen : Seen) (xs : List Naming) → Lists xs (IsLive image seen) → AllSound image seen ⊎ Flawed image seen
named_or image seen xs lists =
    let Good : Naming → Type 0 = λ n. (f : Found) × ((resolved image seen n ≡ Some f) × (is_ok (tested (site_of seen) n.expected n.oid f.bytes) ≡ true)) in
    let Wrong : Naming → Type 0 = λ n. (resolved image seen n ≡ None) ⊎ ((f : Found) × ((resolved image seen n ≡ Some f) × ((bad : Bad Why) × (tested (site_of seen) n.expected n.oid f.bytes ≡ Err bad)))) in
    let test : (n : Naming) → Good n ⊎ Wrong n = λ n. elim (found_or (resolved image seen n)) as (λ _. Good n ⊎ Wrong n) [
      | inr e ↦ inr (inl e)
      | inl t ↦ elim (answer_or (tested (site_of seen) n.expected n.oid t.0.bytes)) as (λ _. Good n ⊎ Wrong n) [
        | inl y ↦ inl (t.0, (t.1, y))
        | inr b ↦ inr (inr (t.0, (t.1, b)))
      ]
    ] in
    elim (every_of (IsLive image seen) xs lists Good Wrong test) as (λ _. AllSound image seen ⊎ Flawed image seen) [
      | inl all ↦ inl (λ n live. let t = all n live in (t.0, record { names = record { live = live; found = t.1.0 }; sound = t.1.1 }))
      | inr t ↦ elim t.1.1 as (λ _. AllSound image seen ⊎ Flawed image seen) [
        | inl e ↦ inr (inl (Unnamed (within_of t.0.how) t.0.oid (xid_of seen t.0.how), record { naming = t.0; live = t.1.0; lost = e; shown = record { within_is = refl; oid_is = refl; xid_is = refl } }))
        | inr b ↦ inr (unsound-flaw image seen t.0 b.0 b.1.1.0 t.1.0 b.1.0 b.1.1.1)
      ]
    ]

abbrev pub AllOnce : List ℕ → Seen → Type 0
AllOnce image seen = (m n : Naming) → IsLive image seen m → IsLive image seen n → is_once m.how ≡ true → m.how ≡ n.how → m.oid ≡ n.oid → m ≡ n

pub once_or : (image : List ℕ) (seen : Seen) (xs : List Naming) → Lists xs (IsLive image seen) → AllOnce image seen ⊎ Flawed image seen
once_or image seen xs lists =
    let Good : Naming → Naming → Type 0 = λ m n. is_once m.how ≡ true → m.how ≡ n.how → m.oid ≡ n.oid → m ≡ n in
    let Wrong : Naming → Naming → Type 0 = λ m n. (is_once m.how ≡ true) × ((m.how ≡ n.how) × ((m.oid ≡ n.oid) × (m ≡ n → ⊥))) in
    let test : (m n : Naming) → Good m n ⊎ Wrong m n = λ m n. elim (test_or (is_once m.how)) as (λ _. Good m n ⊎ Wrong m n) [
      | inr f ↦ inl (λ o. let z : true ≡ false = sym o ∙ f in absurd (let q : ⊥ = cc in q))
      | inl o ↦ elim (lookup_eq m.how n.how) as (λ _. Good m n ⊎ Wrong m n) [
        | inr d ↦ inl (λ _ a. absurd (d a))
        | inl a ↦ elim (cases_eq m.oid n.oid) as (λ _. Good m n ⊎ Wrong m n) [
          | inr d ↦ inl (λ _ _ b. absurd (d b))
          | inl b ↦ elim (naming_eq m n) as (λ _. Good m n ⊎ Wrong m n) [ inl e ↦ inl (λ _ _ _. e) | inr d ↦ inr (o, (a, (b, d))) ]
        ]
      ]
    ] in
    elim (every_of (IsLive image seen) xs lists (λ m. (n : Naming) → IsLive image seen n → Good m n) (λ m. (n : Naming) × (IsLive image seen n × Wrong m n))
    (λ m. every_of (IsLive image seen) xs lists (Good m) (Wrong m) (test m))) as (λ _. AllOnce image seen ⊎ Flawed image seen) [
      | inl all ↦ inl (λ m n x y. all m x n y)
      | inr t ↦
          let n = t.1.1.0 in
          let w = t.1.1.1.1 in
          inr (inl (
            NamedTwice (within_of t.0.how) t.0.oid (xid_of seen t.0.how),
            record {
              one = t.0;
              other = n;
              one_live = t.1.0;
              other_live = t.1.1.1.0;
              once = w.0;
              same_view = w.1.0;
              same_oid = w.1.1.0;
              apart = w.1.1.1;
              shown = record { within_is = refl; oid_is = refl; xid_is = refl };
            },
          ))
    ]

empty_or : {X : Type 0} (xs : List X) → (xs ≡ []) ⊎ ((x : X) × In x xs)
empty_or [] = inl refl
empty_or (x ∷ xs) = inr (x, inl refl)

pub plain_or : (image : List ℕ) (seen : Seen) (xs : List Naming) → Lists xs (IsLive image seen) → IsPlain image seen ⊎ Flawed image seen
plain_or image seen xs lists = elim (empty_or (container_features seen.nx)) as (λ _. IsPlain image seen ⊎ Flawed image seen) [
  | inr t ↦ inr (inr (t.0, (seen.line.block, first (t.1, refl))))
  | inl none ↦ elim (every_of (IsLive image seen) xs lists (λ n. features_through image seen n ≡ []) (λ n. (x : Placed) × In x (features_through image seen n)) (λ n. empty_or (features_through image seen n))) as (λ _. IsPlain image seen ⊎ Flawed image seen) [
    | inl all ↦ inl (record { first = none; all = all })
    | inr t ↦ let x = t.1.1 in inr (inr (x.0.0, (x.0.1, of t.0 t.1.0 x.1)))
  ]
]

-- a tree is right, or something of it is present
number_or : (o : Option ℕ) → (o ≡ None) ⊎ ((k : ℕ) × (o ≡ Some k))
number_or None = inl refl
number_or (Some k) = inr (k, refl)

tree_or : (image : List ℕ) (seen : Seen) (kind : TreeKind) (n : Naming) (f : Found) → Names image seen n f → n.expected ≡ TreeRoot kind → IsRightTree image seen kind n.oid ⊎ Flawed image seen
tree_or image seen kind n f names e =
    let root : NamesRoot image seen kind n f.block = record { object = f; names = names; root = e; at = refl } in
    elim (number_or (misplaced image seen kind n.oid)) as (λ _. IsRightTree image seen kind n.oid ⊎ Flawed image seen) [
      | inr t ↦ inr (inl (Tree f.block (Some (given t.0)), record { kind = kind; naming = n; root = root; number = t.0; first = t.1; same = refl }))
      | inl ordered ↦ elim (test_or (has_counts image seen kind n.oid)) as (λ _. IsRightTree image seen kind n.oid ⊎ Flawed image seen) [
        | inr w ↦ inr (inl (Tree f.block None, record { kind = kind; naming = n; root = root; wrong = w }))
        | inl counted ↦ elim (below_or (λ k. is_short_at image seen kind n.oid k ≡ false) (λ k. is_short_at image seen kind n.oid k ≡ true)
            (λ k. elim (test_or (is_short_at image seen kind n.oid k)) as (λ _. (is_short_at image seen kind n.oid k ≡ false) ⊎ (is_short_at image seen kind n.oid k ≡ true)) [ inl y ↦ inr y | inr z ↦ inl z ])
            (length (tree_line image seen kind n.oid))) as (λ _. IsRightTree image seen kind n.oid ⊎ Flawed image seen) [
              | inl long ↦ inl (record { ordered = ordered; counted = counted; long = long })
              | inr t ↦ inr (inl (Value f.block (given t.0), record { kind = kind; naming = n; root = root; number = t.0; low = t.1.0; short = t.1.1; same = refl }))
            ]
      ]
    ]

pub kind_or : (e : Expected) → ((kind : TreeKind) × (e ≡ TreeRoot kind)) ⊎ ((kind : TreeKind) → e ≡ TreeRoot kind → ⊥)
kind_or (TreeRoot kind) = inl (kind, refl)
kind_or e = inr (λ kind s. cc)

-- each item is right, or something is present
pub each_or : {X T : Type 0} (P : X → Type 0) (xs : List X) → ((x : X) → In x xs → P x ⊎ T) → ((x : X) → In x xs → P x) ⊎ T
each_or P [] f = inl (λ x h. absurd h)
each_or {X} {T} P (x ∷ xs) f = elim (f x (inl refl)) as (λ _. ((y : X) → In y (x ∷ xs) → P y) ⊎ T) [
  | inr t ↦ inr t
  | inl p ↦ elim (each_or P xs (λ y h. f y (inr h))) as (λ _. ((y : X) → In y (x ∷ xs) → P y) ⊎ T) [
    | inr t ↦ inr t
    | inl all ↦ inl (λ y h. elim h as (λ _. P y) [ inl e ↦ subst P (sym e) p | inr k ↦ all y k ])
  ]
]

pub trees_or : (image : List ℕ) (seen : Seen) (xs : List Naming) → Lists xs (IsLive image seen) → AllSound image seen → AreInOrder image seen ⊎ Flawed image seen
trees_or image seen xs lists sound =
    let Right : Naming → Type 0 = λ n. (kind : TreeKind) → n.expected ≡ TreeRoot kind → IsRightTree image seen kind n.oid in
    let test : (n : Naming) → In n xs → Right n ⊎ Flawed image seen = λ n h. elim (kind_or n.expected) as (λ _. Right n ⊎ Flawed image seen) [
      | inr none ↦ inl (λ kind e. absurd (none kind e))
      | inl t ↦
          let f = sound n (lists.0 n h) in
          elim (tree_or image seen t.0 n f.0 f.1.names t.1) as (λ _. Right n ⊎ Flawed image seen) [
            | inr w ↦ inr w
            | inl r ↦ inl (λ kind e. let z : TreeRoot t.0 ≡ TreeRoot kind = sym t.1 ∙ e in let s : t.0 ≡ kind = cc in subst (λ k. IsRightTree image seen k n.oid) s r)
          ]
    ] in
    elim (each_or Right xs test) as (λ _. AreInOrder image seen ⊎ Flawed image seen) [
      | inl all ↦ inl (λ n kind live e. all n (lists.1 n live) kind e)
      | inr t ↦ inr t
    ]
