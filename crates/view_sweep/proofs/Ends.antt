-- What is live of views is a list.
use Rattle.std.proofs.Common.{◌≡◌, ℕ, zero, suc, ◌<◌, List, [], ◌++◌, inl, inr, arith}
use Rattle.std.specs.List.{flat_map}
use Rattle.apfs_model.specs.Lists.{In, Lists}
use Rattle.apfs_model.proofs.Searches.{in-left, in-right, in-append, from-flat_map}
use Rattle.reach_rules.specs.Live.{Live, rooted, led}
use Rattle.reach_rules.proofs.Lives.{live-unroll, live-roll}
use Rattle.view_sweep.specs.declared.wanted.Head.{Head}
use Rattle.view_sweep.specs.declared.wanted.Wanted.{Wanted}
use Rattle.view_sweep.specs.Wanted.{heads_want}
use Rattle.view_sweep.specs.Found.{World, next_of}
use Rattle.view_sweep.specs.Swept.{IsLive, level_of}
use Rattle.view_sweep.proofs.Levels.{next-falls}
use Rattle.view_sweep.proofs.Wholes.{heads-level}

-- the first things, and so many times what they lead to
after : {N : Type 0} → (N → List N) → ℕ → List N → List N
after next zero first = []
after next (suc n) first = first ++ after next n (flat_map next first)

none-live : {N : Type 0} (next : N → List N) (first : List N) → ((x : N) → In x first → ⊥) → (x : N) → Live first next x → ⊥
none-live next first none x (rooted _ h) = none x h
none-live next first none x (led m _ live h) = none-live next first none m live

-- where each thing leads to lower ones alone, all that is live is a list
lists-after : {N : Type 0} (next : N → List N) (rank : N → ℕ) → ((m x : N) → In x (next m) → rank x < rank m) → (n : ℕ) (first : List N) → ((x : N) → In x first → rank x < n) → Lists (after next n first) (Live first next)
unfolding after
lists-after next rank falls zero first low = ((λ x h. absurd h), (λ x live. absurd (none-live next first (λ y i. let k : rank y < 0 = low y i in absurd (omega arith)) x live)))
lists-after {N} next rank falls (suc n) first low =
    let below : (x : N) → In x (flat_map next first) → rank x < n = λ x h. let t = from-flat_map next x first h in
    let a : rank t.0 < suc n = low t.0 t.1.0 in
    let b : rank x < rank t.0 = falls t.0 x t.1.1 in
    omega arith in
    let rest = lists-after next rank falls n (flat_map next first) below in (
      (λ x h. elim (in-append x first (after next n (flat_map next first)) h) as (λ _. Live first next x) [ inl i ↦ rooted x i | inr i ↦ live-roll next first x (rest.0 x i) ]),
      (λ x live. elim (live-unroll next first x live) as (λ _. In x (first ++ after next n (flat_map next first))) [
        | inl i ↦ in-left x first (after next n (flat_map next first)) i
        | inr i ↦ in-right x first (after next n (flat_map next first)) (rest.1 x i)
      ]),
    )

next-lower : (k : World) (m w : Wanted) → In w (next_of k m) → level_of w < level_of m
next-lower k m w h = elim (next-falls k m w h) as (λ _. level_of w < level_of m) [
  | inl t ↦ let a : level_of m ≡ 16 = t.0 in let b : level_of w < 16 = t.1 in omega arith
  | inr e ↦ let a : level_of m ≡ suc (level_of w) = e in omega arith
]

pub live-ends : (k : World) (heads : List Head) → (ws : List Wanted) × Lists ws (IsLive k heads)
live-ends k heads = (
  after (next_of k) 17 (heads_want heads),
  lists-after (next_of k) level_of (next-lower k) 17 (heads_want heads) (λ w h. let e : level_of w ≡ 16 = heads-level heads w h in omega arith),
)
