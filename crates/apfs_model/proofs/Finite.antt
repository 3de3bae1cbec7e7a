-- Lists in which nothing stands twice are no longer than those that have all their items.
use Rattle.std.proofs.Common.{◌≡◌, ℕ, zero, suc, ◌+◌, ◌≤◌, Bool, true, false, cond, List, [], ◌∷◌, length, filter, ◌⊎◌, inl, inr, refl, ap, sym, ◌∙◌, subst, arith}
use Rattle.std.specs.List.{range_with_len}
use Rattle.apfs_model.specs.Lists.{In, Lists}
use Rattle.apfs_model.specs.Apart.{Apart}
use Rattle.apfs_model.proofs.Searches.{from-filter}

-- something holds, or it doesn't
abbrev pub Either : Type 0 → Type 0
Either A = A ⊎ (A → ⊥)

-- a list without one item
without : {X : Type 0} (x : X) (ys : List X) → In x ys → (zs : List X) × ((length ys ≡ suc (length zs)) × ((y : X) → In y ys → (y ≡ x → ⊥) → In y zs))
without x [] h = absurd h
without x (y ∷ ys) (inl e) = (ys, (refl, λ z k n. elim k as (λ _. In z ys) [ inl s ↦ absurd (n (s ∙ sym e)) | inr m ↦ m ]))
without {X} x (y ∷ ys) (inr h) = let t = without x ys h in
    let zs : List X = t.0 in
    let all : (z : X) → In z ys → (z ≡ x → ⊥) → In z zs = t.1.1 in
    (y ∷ zs, (ap suc t.1.0, λ z k n. elim k as (λ _. In z (y ∷ zs)) [ inl s ↦ inl s | inr m ↦ inr (all z m n) ]))

-- a list in which nothing stands twice is no longer than one that has all its items
pub apart-length : {X : Type 0} (xs ys : List X) → Apart xs → ((x : X) → In x xs → In x ys) → length xs ≤ length ys
apart-length [] ys a h = omega arith
apart-length (x ∷ xs) ys a h =
    let t = without x ys (h x (inl refl)) in
    let e : length ys ≡ suc (length t.0) = t.1.0 in
    let k : length xs ≤ length t.0 = apart-length xs t.0 a.1 (λ y m. t.1.1 y (h y (inr m)) (λ s. a.0 (subst (λ w. In w xs) s m))) in
    omega arith

-- two lists without repeats that stand for the same things are equally long
pub apart-same : {X : Type 0} (P : X → Type 0) (xs ys : List X) → Apart xs → Apart ys → Lists xs P → Lists ys P → length xs ≡ length ys
apart-same P xs ys a b f g =
    let k : length xs ≤ length ys = apart-length xs ys a (λ x h. g.1 x (f.0 x h)) in
    let l : length ys ≤ length xs = apart-length ys xs b (λ x h. f.1 x (g.0 x h)) in
    omega arith

-- an item stands in a list, or it doesn't
pub member_or : {X : Type 0} → ((a b : X) → Either (a ≡ b)) → (x : X) (xs : List X) → Either (In x xs)
member_or eq x [] = inr (λ h. h)
member_or eq x (y ∷ ys) = elim (eq x y) as (λ _. Either (In x (y ∷ ys))) [
  | inl e ↦ inl (inl e)
  | inr d ↦ elim (member_or eq x ys) as (λ _. Either (In x (y ∷ ys))) [
    | inl h ↦ inl (inr h)
    | inr out ↦ inr (λ h. elim h as (λ _. ⊥) [ inl e ↦ d e | inr k ↦ out k ])
  ]
]

-- a list of the same items without repeats
pub record IsOnce {X : Type 0} (xs : List X) : Type 0 where
  pub all : List X
  pub apart : Apart all
  pub into : (x : X) → In x all → In x xs
  pub back : (x : X) → In x xs → In x all

pub once : {X : Type 0} → ((a b : X) → Either (a ≡ b)) → (xs : List X) → IsOnce xs
once eq [] = record { all = []; apart = tt; into = λ x h. h; back = λ x h. h }
once {X} eq (x ∷ xs) =
    let t : IsOnce xs = once eq xs in
    elim (member_or eq x t.all) as (λ _. IsOnce (x ∷ xs)) [
      | inl h ↦ record {
        all = t.all;
        apart = t.apart;
        into = λ y k. inr (t.into y k);
        back = λ y k. elim k as (λ _. In y t.all) [ inl e ↦ subst (λ z. In z t.all) (sym e) h | inr m ↦ t.back y m ];
      }
      | inr out ↦ record {
        all = x ∷ t.all;
        apart = (out, t.apart);
        into = λ y k. elim k as (λ _. In y (x ∷ xs)) [ inl e ↦ inl e | inr m ↦ inr (t.into y m) ];
        back = λ y k. elim k as (λ _. In y (x ∷ t.all)) [ inl e ↦ inl e | inr m ↦ inr (t.back y m) ];
      }
    ]

-- the numbers of a range aren't below its first
at-least : (first n k : ℕ) → In k (range_with_len first n) → first ≤ k
at-least first zero k h = absurd h
at-least first (suc n) k (inl e) = omega arith
at-least first (suc n) k (inr h) = let l : first + 1 ≤ k = at-least (first + 1) n k h in omega arith

pub apart-range : (first n : ℕ) → Apart (range_with_len first n)
apart-range first zero = tt
apart-range first (suc n) = (λ h. let l : first + 1 ≤ first = at-least (first + 1) n first h in absurd (omega arith), apart-range (first + 1) n)

pub apart-filter : {X : Type 0} (p : X → Bool) (xs : List X) → Apart xs → Apart (filter p xs)
apart-filter p [] a = tt
apart-filter p (x ∷ xs) a =
    let more = apart-filter p xs a.1 in
    elim (p x) as (λ b. Apart (cond b (x ∷ filter p xs) (filter p xs))) [ true ↦ (λ h. a.0 (from-filter p x xs h), more) | false ↦ more ]
