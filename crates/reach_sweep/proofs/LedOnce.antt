-- Nothing stands twice among some that are live, where each is led to by one of them alone.
use Rattle.std.proofs.Common.{◌≡◌, ◌+◌, ◌≤◌, List, arith}
use Rattle.std.specs.List.{flat_map}
use Rattle.apfs_model.specs.Apart.{Apart}
use Rattle.apfs_model.specs.Lists.{In}
use Rattle.apfs_model.proofs.Finite.{Either}
use Rattle.apfs_model.proofs.Searches.{from-flat_map}
use Rattle.reach_rules.specs.Live.{Live, rooted, led}
use Rattle.reach_sweep.proofs.Counting.{times, times-none, times-once, times-flat, apart-times}

-- of what is live from some roots these stand no more often than as roots and as led to by these; each is led to by these alone, and
-- by one of them, which leads to it once; and none that is a root is led to
pub record AreLedOnce {N : Type 0} (eq : (a b : N) → Either (a ≡ b)) (next : N → List N) (roots these : List N) : Type 0 where
  pub roots_apart : Apart roots
  pub next_apart : (m : N) → In m these → Apart (next m)
  pub led_on : (m n : N) → Live roots next m → In n (next m) → In n these → In m these
  pub unled : (m n : N) → In m these → In n (next m) → In n roots → ⊥
  pub one : (k m n : N) → In k these → In m these → In n (next k) → In n (next m) → k ≡ m
  pub counted : (n : N) → times eq n these ≤ times eq n roots + times eq n (flat_map next these)

-- so each that is live stands once
stands-once : {N : Type 0} (eq : (a b : N) → Either (a ≡ b)) (next : N → List N) (roots these : List N) → AreLedOnce eq next roots these → (n : N) → Live roots next n → In n these → times eq n these ≤ 1
stands-once eq next roots these a n (rooted _ h) k =
    let all : times eq n these ≤ times eq n roots + times eq n (flat_map next these) = a.counted n in
    let few : times eq n roots ≤ 1 = times-once eq n roots a.roots_apart in
    let none : times eq n (flat_map next these) ≡ 0 = times-none eq n (flat_map next these) (λ i. let t = from-flat_map next n these i in a.unled t.0 n t.1.0 t.1.1 h) in
    omega arith
stands-once eq next roots these a n (led m _ live h) k =
    let there : In m these = a.led_on m n live h k in
    let all : times eq n these ≤ times eq n roots + times eq n (flat_map next these) = a.counted n in
    let none : times eq n roots ≡ 0 = times-none eq n roots (λ r. a.unled m n there h r) in
    let few : times eq n (flat_map next these) ≤ times eq m these = times-flat eq next m n these a.next_apart (λ x i j. a.one m x n there i h j) in
    let before : times eq m these ≤ 1 = stands-once eq next roots these a m live there in
    omega arith

pub led-apart : {N : Type 0} (eq : (a b : N) → Either (a ≡ b)) (next : N → List N) (roots these : List N) → AreLedOnce eq next roots these → ((n : N) → In n these → Live roots next n) → Apart these
led-apart eq next roots these a live = apart-times eq these (λ n h. stands-once eq next roots these a n (live n h) h)
