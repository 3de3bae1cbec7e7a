-- Of each kind of thing what is live, with what is left, is no more than the first ones and all those to which it leads.
use Rattle.std.proofs.Common.{◌≡◌, ◌+◌, ◌≤◌, Bool, cond, List, [], ◌∷◌, ◌++◌, length, count_by, filter, refl, ap, ◌∙◌, arith}
use Rattle.std.specs.List.{flat_map}
use Rattle.std.proofs.lemmas.List.Sums.{sum_by-append, length-filter}
use Rattle.std.proofs.lemmas.List.Concat.{flat_map-append}
use Rattle.apfs_model.specs.Apart.{Apart}
use Rattle.apfs_model.specs.Lists.{In, Lists}
use Rattle.apfs_model.proofs.Finite.{apart-length, apart-filter}
use Rattle.apfs_model.proofs.Searches.{in-left, in-right, in-flat_map, in-filter, from-filter, filter-test}
use Rattle.reach_rules.specs.Live.{Live, rooted, led}
use Rattle.reach_rules.proofs.Lives.{lists-none, lists-both, lists-by}

-- of each kind of thing, these and a rest have no more than the first ones and all those to which these lead
abbrev pub CountsBy : {N : Type 0} → (N → List N) → List N → List N → List N → Type 0
CountsBy {N} next first these rest = (test : N → Bool) → count_by test these + count_by test rest ≤ count_by test first + count_by test (flat_map next these)

count-append : {N : Type 0} (test : N → Bool) (xs ys : List N) → count_by test (xs ++ ys) ≡ count_by test xs + count_by test ys
count-append test xs ys = sum_by-append (λ x. cond (test x) 1 0) xs ys

count-leads : {N : Type 0} (next : N → List N) (test : N → Bool) (xs ys : List N) → count_by test (flat_map next (xs ++ ys)) ≡ count_by test (flat_map next xs) + count_by test (flat_map next ys)
count-leads next test xs ys = ap (count_by test) (flat_map-append next xs ys) ∙ count-append test (flat_map next xs) (flat_map next ys)

-- ---- how counts are joined
pub counts-none : {N : Type 0} (next : N → List N) → CountsBy next [] [] []
counts-none next test = omega arith

pub counts-left : {N : Type 0} (next : N → List N) (ns : List N) → CountsBy next ns [] ns
counts-left next ns test = omega arith

-- the first ones themselves
pub counts-self : {N : Type 0} (next : N → List N) (ns : List N) → CountsBy next ns ns []
counts-self next ns test = let none : count_by test [] ≡ 0 = refl in omega (arith, none)

pub counts-join : {N : Type 0} (next : N → List N) (ns ms xs ys rs ss : List N) → CountsBy next ns xs rs → CountsBy next ms ys ss → CountsBy next (ns ++ ms) (xs ++ ys) (rs ++ ss)
counts-join next ns ms xs ys rs ss a b test = omega (arith, count-append test ns ms, count-append test xs ys, count-append test rs ss, count-leads next test xs ys, a test, b test)

pub counts-step : {N : Type 0} (next : N → List N) (n : N) (xs rs : List N) → CountsBy next (next n) xs rs → CountsBy next (n ∷ []) (n ∷ xs) rs
counts-step next n xs rs a test = omega (arith, count-append test (n ∷ []) xs, count-append test (next n) (flat_map next xs), a test)

pub counts-chain : {N : Type 0} (next : N → List N) (ns xs rs ys ss : List N) → CountsBy next ns xs rs → CountsBy next rs ys ss → CountsBy next ns (xs ++ ys) ss
counts-chain next ns xs rs ys ss a b test = omega (arith, count-append test xs ys, count-leads next test xs ys, a test, b test)

-- ---- lists without repeats
-- what is live is a first one, or is led to by what is live
live-among : {N : Type 0} (next : N → List N) (first these : List N) → Lists these (Live first next) → (x : N) → Live first next x → In x (first ++ flat_map next these)
live-among next first these l x (rooted _ h) = in-left x first (flat_map next these) h
live-among next first these l x (led m _ live h) = in-right x first (flat_map next these) (in-flat_map next m x these (l.1 m live) h)

pub counts-apart : {N : Type 0} (next : N → List N) (first these : List N) → Apart these → Lists these (Live first next) → CountsBy next first these []
counts-apart {N} next first these apart l test =
    let all : List N = first ++ flat_map next these in
    let fewer : length (filter test these) ≤ length (filter test all) =
    apart-length (filter test these) (filter test all) (apart-filter test these apart) (λ x h. in-filter test x all (live-among next first these l x (l.0 x (from-filter test x these h))) (filter-test test x these h)) in
    let none : count_by test [] ≡ 0 = refl in
    omega (arith, none, fewer, length-filter test these, length-filter test all, count-append test first (flat_map next these))

-- ---- all that is live
-- these are all that is live from first ones, and they are counted
pub record AreAllFrom {N : Type 0} (next : N → List N) (first these : List N) : Type 0 where
  pub live : Lists these (Live first next)
  pub counted : CountsBy next first these []

pub all-none : {N : Type 0} (next : N → List N) → AreAllFrom next [] []
all-none next = record { live = lists-none next; counted = counts-none next }

-- what is live from one thing, and from others, is so from all of them
pub all-both : {N : Type 0} (next : N → List N) (n : N) (ns xs ys : List N) → AreAllFrom next (n ∷ []) xs → AreAllFrom next ns ys → AreAllFrom next (n ∷ ns) (xs ++ ys)
all-both next n ns xs ys a b = record { live = lists-both next n ns xs ys a.live b.live; counted = counts-join next (n ∷ []) ns xs ys [] [] a.counted b.counted }

-- a thing, and what is live from all to which it leads
pub all-by : {N : Type 0} (next : N → List N) (n : N) (xs : List N) → AreAllFrom next (next n) xs → AreAllFrom next (n ∷ []) (n ∷ xs)
all-by next n xs a = record { live = lists-by next n xs a.live; counted = counts-step next n xs [] a.counted }
