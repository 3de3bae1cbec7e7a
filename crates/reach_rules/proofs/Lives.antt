-- What is live, as a list.
use Rattle.std.proofs.Common.{List, [], ◌∷◌, ◌++◌, ◌⊎◌, inl, inr, refl, sym, subst, ◌≡◌}
use Rattle.std.specs.List.{flat_map}
use Rattle.apfs_model.specs.Lists.{In, Lists}
use Rattle.reach_rules.specs.Live.{Live, rooted, led}
use Rattle.apfs_model.proofs.Searches.{in-left, in-right, in-append, in-flat_map, from-flat_map}

-- ---- view by view: what is live from two lists of roots
pub live-left : {N : Type 0} (next : N → List N) (rs ss : List N) (n : N) → Live rs next n → Live (rs ++ ss) next n
live-left next rs ss n (rooted _ h) = rooted n (in-left n rs ss h)
live-left next rs ss n (led m _ live h) = led m n (live-left next rs ss m live) h

pub live-right : {N : Type 0} (next : N → List N) (rs ss : List N) (n : N) → Live ss next n → Live (rs ++ ss) next n
live-right next rs ss n (rooted _ h) = rooted n (in-right n rs ss h)
live-right next rs ss n (led m _ live h) = led m n (live-right next rs ss m live) h

pub live-append : {N : Type 0} (next : N → List N) (rs ss : List N) (n : N) → Live (rs ++ ss) next n → Live rs next n ⊎ Live ss next n
live-append next rs ss n (rooted _ h) = elim (in-append n rs ss h) as (λ _. Live rs next n ⊎ Live ss next n) [ inl a ↦ inl (rooted n a) | inr b ↦ inr (rooted n b) ]
live-append next rs ss n (led m _ live h) = elim (live-append next rs ss m live) as (λ _. Live rs next n ⊎ Live ss next n) [ inl a ↦ inl (led m n a h) | inr b ↦ inr (led m n b h) ]

-- ---- the roots apart: what is live is a root, or live from what the roots lead to
pub live-unroll : {N : Type 0} (next : N → List N) (roots : List N) (n : N) → Live roots next n → In n roots ⊎ Live (flat_map next roots) next n
live-unroll next roots n (rooted _ h) = inl h
live-unroll next roots n (led m _ live h) =
    elim (live-unroll next roots m live) as (λ _. In n roots ⊎ Live (flat_map next roots) next n) [
      | inl a ↦ inr (rooted n (in-flat_map next m n roots a h))
      | inr b ↦ inr (led m n b h)
    ]

pub live-roll : {N : Type 0} (next : N → List N) (roots : List N) (n : N) → Live (flat_map next roots) next n → Live roots next n
live-roll next roots n (rooted _ h) = let t = from-flat_map next n roots h in led t.0 n (rooted t.0 t.1.0) t.1.1
live-roll next roots n (led m _ live h) = led m n (live-roll next roots m live) h

pub live-none : {N : Type 0} (next : N → List N) (n : N) → Live [] next n → ⊥
live-none next n (rooted _ h) = h
live-none next n (led m _ live h) = live-none next m live

-- what is live from one thing is it, or live from those to which it leads
pub live-next : {N : Type 0} (next : N → List N) (n m : N) → Live (n ∷ []) next m → (m ≡ n) ⊎ Live (next n) next m
live-next next n m live = elim (live-unroll next (n ∷ []) m live) as (λ _. (m ≡ n) ⊎ Live (next n) next m) [
  | inl h ↦ elim h as (λ _. (m ≡ n) ⊎ Live (next n) next m) [ inl e ↦ inl e | inr k ↦ absurd k ]
  | inr l ↦ elim (live-append next (next n) [] m l) as (λ _. (m ≡ n) ⊎ Live (next n) next m) [ inl k ↦ inr k | inr k ↦ absurd (live-none next m k) ]
]

pub from-next-live : {N : Type 0} (next : N → List N) (n m : N) → Live (next n) next m → Live (n ∷ []) next m
from-next-live next n m live = live-roll next (n ∷ []) m (live-left next (next n) [] m live)

-- from nothing nothing is live
pub lists-none : {N : Type 0} (next : N → List N) → Lists [] (Live [] next)
lists-none next = ((λ x h. absurd h), (λ x live. live-none next x live))

-- what is live from one thing, and from others, is so from all of them
pub lists-both : {N : Type 0} (next : N → List N) (n : N) (ns xs ys : List N) → Lists xs (Live (n ∷ []) next) → Lists ys (Live ns next) → Lists (xs ++ ys) (Live (n ∷ ns) next)
lists-both next n ns xs ys a b = (
  (λ x h. elim (in-append x xs ys h) as (λ _. Live (n ∷ ns) next x) [ inl k ↦ live-left next (n ∷ []) ns x (a.0 x k) | inr k ↦ live-right next (n ∷ []) ns x (b.0 x k) ]),
  (λ x live. elim (live-append next (n ∷ []) ns x live) as (λ _. In x (xs ++ ys)) [ inl k ↦ in-left x xs ys (a.1 x k) | inr k ↦ in-right x xs ys (b.1 x k) ]),
)

-- a thing, and what is live from all to which it leads
pub lists-by : {N : Type 0} (next : N → List N) (n : N) (xs : List N) → Lists xs (Live (next n) next) → Lists (n ∷ xs) (Live (n ∷ []) next)
lists-by next n xs b = (
  (λ x h. elim h as (λ _. Live (n ∷ []) next x) [ inl e ↦ rooted x (inl e) | inr k ↦ from-next-live next n x (b.0 x k) ]),
  (λ x live. elim (live-next next n x live) as (λ _. In x (n ∷ xs)) [ inl e ↦ inl e | inr l ↦ inr (b.1 x l) ]),
)

-- all that is live from something is a list
abbrev pub Ends : {N : Type 0} → (N → List N) → List N → Type 0
Ends {N} next ns = (xs : List N) × Lists xs (Live ns next)

-- from each of some things, so from all of them
pub gather : {N : Type 0} (next : N → List N) (ns : List N) → ((n : N) → In n ns → Ends next (n ∷ [])) → Ends next ns
gather next [] f = ([], lists-none next)
gather next (n ∷ ns) f =
    let a = f n (inl refl) in
    let b = gather next ns (λ m h. f m (inr h)) in
    (a.0 ++ b.0, lists-both next n ns a.0 b.0 a.1 b.1)

-- or from one of them something else is known
pub gather_or : {N T : Type 0} (next : N → List N) (ns : List N) → ((n : N) → In n ns → Ends next (n ∷ []) ⊎ T) → Ends next ns ⊎ T
gather_or next [] f = inl ([], lists-none next)
gather_or {N} {T} next (n ∷ ns) f = elim (f n (inl refl)) as (λ _. Ends next (n ∷ ns) ⊎ T) [
  | inr t ↦ inr t
  | inl a ↦ elim (gather_or next ns (λ m h. f m (inr h))) as (λ _. Ends next (n ∷ ns) ⊎ T) [
    | inr t ↦ inr t
    | inl b ↦ inl (a.0 ++ b.0, lists-both next n ns a.0 b.0 a.1 b.1)
  ]
]

-- a thing, and all from what it leads to
pub ends-by : {N : Type 0} (next : N → List N) (n : N) → Ends next (next n) → Ends next (n ∷ [])
ends-by next n b = (n ∷ b.0, lists-by next n b.0 b.1)

-- what is live from one of some roots is live from them
pub live-from : {N : Type 0} (next : N → List N) (roots : List N) (n x : N) → Live roots next n → Live (n ∷ []) next x → Live roots next x
live-from next roots n x live (rooted _ h) = elim h as (λ _. Live roots next x) [ inl e ↦ subst (λ y. Live roots next y) (sym e) live | inr k ↦ absurd k ]
live-from next roots n x live (led m _ more h) = led m x (live-from next roots n m live more) h
