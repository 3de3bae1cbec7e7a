-- The extents of a stream are in order, or two of them overlap.
use Rattle.std.proofs.Common.{◌≡◌, ℕ, zero, suc, ◌+◌, ◌-◌, ◌<◌, ◌≤◌, Bool, true, false, cond, ◌&&◌, ◌||◌, ◌==◌, List, [], ◌∷◌, map, length, get_or, Option, Some, None, inl, inr, refl, ap, sym, ◌∙◌, subst, arith}
use Rattle.std.specs.Prelude.{not, nat_lt, nat_le, min, max, filter, MatchOption, IfSome, IsNone}
use Rattle.std.specs.List.{find, list_any, list_all, AllByRecursion, All, IsDistinct}
use Rattle.std.specs.List.Sorted.{IsPermutation, IsSortedBy}
use Rattle.std.specs.Ordering.{is_lt}
use Rattle.std.specs.Cmp.{IsStrictWeakOrder}
use Rattle.std.proofs.lemmas.Bool.{cases_lt}
use Rattle.std.proofs.lemmas.Bool.Decides.{nat_tests}
use Rattle.std.proofs.lemmas.List.Sorted.{IsPermutation-refl, IsPermutation-sym, All-permutation, ranks_by, all_adjacent_more}
use Rattle.std.proofs.lemmas.List.{get_or_default, get_or-map, length-map}
use Rattle.std.proofs.lemmas.Map.Keys.{IsDistinct-IsPermutation, IsDistinct-from_apart, apart_from_distinct}
use Rattle.std.proofs.lemmas.Cmp.{nat_cmp_total, then_total, on_total}
use Rattle.apfs_model.specs.Lists.{In}
use Rattle.apfs_model.proofs.BoolTests.{clash, left-true, right-true, both-true, not-true, not-false, false-not, never-true, either-from, below-from, from-below, upto-from, equal-from, from-equal, all-in}
use Rattle.apfs_model.proofs.Searches.{in-map, from-map, in-filter, from-filter, all-of, found-in}
use Rattle.fs_record.specs.Facts.{Fact, all_for}
use Rattle.fs_record.specs.StreamExtents.{extent_end, overlap, is_extent_even, are_apart, are_extents_ordered}
use Rattle.fs_record.specs.declared.extents.FileExt.{FileExt}
use Rattle.view_rules.specs.Facts.{Facts}
use Rattle.view_rules.specs.Extents.{is_disordered, HasExtentOrder, IsExtentOrder}
use Rattle.view_rules.specs.Listed.{extents_with_ids}
use Rattle.rule_breaks.specs.Order.{is_uneven, piece, piece_cmp, follows, Follow, StandInOrder, IsCrossing}
use Rattle.rule_breaks.proofs.Finds.{none-clear}

abbrev what : Fact FileExt → FileExt
what f = f.what

abbrev is_of : ℕ → Fact FileExt → Bool
is_of id f = f.id == id

abbrev pub nothing : ℕ × FileExt
nothing = (0, record { logical = 0; length = 0; block = 0 })

-- two pieces of a stream have a byte in common
abbrev collide : ℕ → ℕ × FileExt → ℕ × FileExt → Bool
collide id a b = (a.0 == id) && ((b.0 == id) && overlap a.1 b.1)

-- the order by stream and place
pub piece_order : IsStrictWeakOrder (λ a b. is_lt (piece_cmp a b))
piece_order = ranks_by (then_total (on_total (λ (p : ℕ × FileExt). p.0) nat_cmp_total) (on_total (λ (p : ℕ × FileExt). p.1.logical) nat_cmp_total)) (λ (p : ℕ × FileExt). p)

left-false : (a b : Bool) → (a || b) ≡ false → a ≡ false
left-false true b e = e
left-false false b e = refl

right-false : (a b : Bool) → (a || b) ≡ false → b ≡ false
right-false true b e = absurd cc
right-false false b e = e

both-false : (a b : Bool) → a ≡ false → b ≡ false → (a || b) ≡ false
both-false true b e f = e
both-false false b e f = f

-- ---- the extents of a stream against all extents
head-over : (e : FileExt) (f : Fact FileExt) (rest : List (Fact FileExt)) (b : Bool) → list_any (overlap e) (map what (cond b (f ∷ rest) rest)) ≡ false → ((b && overlap e f.what) ≡ false) × (list_any (overlap e) (map what rest) ≡ false)
head-over e f rest true h = (left-false (overlap e f.what) (list_any (overlap e) (map what rest)) h, right-false (overlap e f.what) (list_any (overlap e) (map what rest)) h)
head-over e f rest false h = (refl, h)

over-head : (e : FileExt) (f : Fact FileExt) (rest : List (Fact FileExt)) (b : Bool) → (b && overlap e f.what) ≡ false → list_any (overlap e) (map what rest) ≡ false → list_any (overlap e) (map what (cond b (f ∷ rest) rest)) ≡ false
over-head e f rest true h r = both-false (overlap e f.what) (list_any (overlap e) (map what rest)) h r
over-head e f rest false h r = r

none-over : (e : FileExt) (id : ℕ) (fs : List (Fact FileExt)) → list_any (overlap e) (all_for id fs) ≡ false → AllByRecursion (λ (y : ℕ × FileExt). ((y.0 == id) && overlap e y.1) ≡ false) (map piece fs)
none-over e id [] h = tt
none-over e id (f ∷ fs) h = let s = head-over e f (filter (is_of id) fs) (f.id == id) h in (s.0, none-over e id fs s.1)

over-none : (e : FileExt) (id : ℕ) (fs : List (Fact FileExt)) → AllByRecursion (λ (y : ℕ × FileExt). ((y.0 == id) && overlap e y.1) ≡ false) (map piece fs) → list_any (overlap e) (all_for id fs) ≡ false
over-none e id [] h = refl
over-none e id (f ∷ fs) h = over-head e f (filter (is_of id) fs) (f.id == id) h.0 (over-none e id fs h.1)

each : {Y : Type 0} (P : Y → Type 0) → ((y : Y) → P y) → (ys : List Y) → AllByRecursion P ys
each P all [] = tt
each P all (y ∷ ys) = (all y, each P all ys)

head-apart : (id : ℕ) (f : Fact FileExt) (fs : List (Fact FileExt)) (b : Bool) → are_apart (map what (cond b (f ∷ filter (is_of id) fs) (filter (is_of id) fs))) ≡ true
    → AllByRecursion (λ (y : ℕ × FileExt). (b && ((y.0 == id) && overlap f.what y.1)) ≡ false) (map piece fs) × (are_apart (all_for id fs) ≡ true)
head-apart id f fs true h =
    (none-over f.what id fs (not-true (list_any (overlap f.what) (all_for id fs)) (left-true (not (list_any (overlap f.what) (all_for id fs))) (are_apart (all_for id fs)) h)), right-true (not (list_any (overlap f.what) (all_for id fs))) (are_apart (all_for id fs)) h)
head-apart id f fs false h = (each (λ (y : ℕ × FileExt). (false && ((y.0 == id) && overlap f.what y.1)) ≡ false) (λ y. refl) (map piece fs), h)

apart-head : (id : ℕ) (f : Fact FileExt) (fs : List (Fact FileExt)) (b : Bool) → AllByRecursion (λ (y : ℕ × FileExt). (b && ((y.0 == id) && overlap f.what y.1)) ≡ false) (map piece fs) → are_apart (all_for id fs) ≡ true
    → are_apart (map what (cond b (f ∷ filter (is_of id) fs) (filter (is_of id) fs))) ≡ true
apart-head id f fs true h r = both-true (not (list_any (overlap f.what) (all_for id fs))) (are_apart (all_for id fs)) (false-not (list_any (overlap f.what) (all_for id fs)) (over-none f.what id fs h)) r
apart-head id f fs false h r = r

apart-distinct : (id : ℕ) (fs : List (Fact FileExt)) → are_apart (all_for id fs) ≡ true → IsDistinct (collide id) (map piece fs)
unfolding IsDistinct
apart-distinct id [] h = tt
apart-distinct id (f ∷ fs) h = let s = head-apart id f fs (f.id == id) h in (s.0, apart-distinct id fs s.1)

distinct-apart : (id : ℕ) (fs : List (Fact FileExt)) → IsDistinct (collide id) (map piece fs) → are_apart (all_for id fs) ≡ true
unfolding IsDistinct
distinct-apart id [] h = refl
distinct-apart id (f ∷ fs) h = apart-head id f fs (f.id == id) h.0 (distinct-apart id fs h.1)

-- ---- pieces in order
overlap-flips : (a b : FileExt) → overlap a b ≡ overlap b a
overlap-flips a b = grind (arith, nat_tests)

swap-tests : (a b c : Bool) → (a && (b && c)) ≡ (b && (a && c))
swap-tests true true c = refl
swap-tests true false c = refl
swap-tests false true c = refl
swap-tests false false c = refl

flips : (id : ℕ) (a b : ℕ × FileExt) → collide id a b ≡ collide id b a
flips id a b = swap-tests (a.0 == id) (b.0 == id) (overlap a.1 b.1) ∙ ap (λ t. (b.0 == id) && ((a.0 == id) && t)) (overlap-flips a.1 b.1)

follows-trans : (a b c : ℕ × FileExt) → follows a b ≡ true → follows b c ≡ true → follows a c ≡ true
follows-trans a b c h k = grind (arith, nat_tests)

follows-far : (ps : List (ℕ × FileExt)) → Follow ps (length ps) → (i j : ℕ) (d : ℕ × FileExt) → i < j → j < length ps → follows (get_or ps i d) (get_or ps j d) ≡ true
follows-far ps all i zero d lt low = absurd (omega arith)
follows-far ps all i (suc j) d lt low =
    let s : suc j ≡ j + 1 = omega arith in
    let step : follows (get_or ps j d) (get_or ps (j + 1) d) ≡ true = all j d (omega arith) in
    subst (λ k. follows (get_or ps i d) (get_or ps k d) ≡ true) (sym s)
    (elim (cases_lt i j) as (λ _. follows (get_or ps i d) (get_or ps (j + 1) d) ≡ true) [
      | inl less ↦ follows-trans (get_or ps i d) (get_or ps j d) (get_or ps (j + 1) d) (follows-far ps all i j d less (omega arith)) step
      | inr ge ↦ let e : j ≡ i = omega arith in subst (λ k. follows (get_or ps k d) (get_or ps (j + 1) d) ≡ true) e step
    ])

follow-apart : (id : ℕ) (a b : ℕ × FileExt) → follows a b ≡ true → collide id a b ≡ false
follow-apart id a b h = never-true (collide id a b) (λ c.
    let p : a.0 ≡ id = equal-from a.0 id (left-true (a.0 == id) ((b.0 == id) && overlap a.1 b.1) c) in
    let c2 = right-true (a.0 == id) ((b.0 == id) && overlap a.1 b.1) c in
    let q : b.0 ≡ id = equal-from b.0 id (left-true (b.0 == id) (overlap a.1 b.1) c2) in
    let r : max a.1.logical b.1.logical < min (extent_end a.1) (extent_end b.1) = below-from (max a.1.logical b.1.logical) (min (extent_end a.1) (extent_end b.1)) (right-true (b.0 == id) (overlap a.1 b.1) c2) in
    elim (either-from (nat_lt a.0 b.0) ((a.0 == b.0) && nat_le (extent_end a.1) b.1.logical) h) as (λ _. ⊥) [
      | inl less ↦ let l : a.0 < b.0 = below-from a.0 b.0 less in omega arith
      | inr then ↦ let l : extent_end a.1 ≤ b.1.logical = upto-from (extent_end a.1) b.1.logical (right-true (a.0 == b.0) (nat_le (extent_end a.1) b.1.logical) then) in omega arith
    ])

-- pieces of which each follows the one before it don't collide
pub following-distinct : (id : ℕ) (ps : List (ℕ × FileExt)) → Follow ps (length ps) → IsDistinct (collide id) ps
following-distinct id ps all = IsDistinct-from_apart (collide id) ps (λ i j d lt low. follow-apart id (get_or ps i d) (get_or ps j d) (follows-far ps all i j d lt low))

-- ---- the rule
even-of : (block_size : ℕ) (fs : List (Fact FileExt)) → find (is_uneven block_size) fs ≡ None → (f : Fact FileExt) → In f fs → is_extent_even block_size f.what ≡ true
even-of block_size fs none f listed = not-false (is_extent_even block_size f.what) (none-clear (is_uneven block_size) fs none f listed)

all-even : (block_size : ℕ) (fs : List (Fact FileExt)) → find (is_uneven block_size) fs ≡ None → (id : ℕ) → list_all (is_extent_even block_size) (all_for id fs) ≡ true
all-even block_size fs none id = all-of (is_extent_even block_size) (all_for id fs) (λ e listed.
    let t = from-map what (filter (is_of id) fs) e listed in
    subst (λ (x : FileExt). is_extent_even block_size x ≡ true) (sym t.1.1) (even-of block_size fs none t.0 (from-filter (is_of id) t.0 fs t.1.0)))

-- no piece collides with another: the rule is clear
pub ordered-clear : (block_size : ℕ) (facts : Facts) (pieces : List (ℕ × FileExt)) → find (is_uneven block_size) facts.extents ≡ None → IsPermutation (extents_with_ids facts) pieces → Follow pieces (length pieces) → HasExtentOrder block_size facts
unfolding is_disordered are_extents_ordered
ordered-clear block_size facts pieces none moved follow f listed =
    let distinct : IsDistinct (collide f.id) (extents_with_ids facts) = IsDistinct-IsPermutation (collide f.id) (flips f.id) pieces (extents_with_ids facts) (IsPermutation-sym (extents_with_ids facts) pieces moved) (following-distinct f.id pieces follow) in
    ap not (both-true (list_all (is_extent_even block_size) (all_for f.id facts.extents)) (are_apart (all_for f.id facts.extents)) (all-even block_size facts.extents none f.id) (distinct-apart f.id facts.extents distinct))

standing-follow : (fs : List (Fact FileExt)) → StandInOrder fs → Follow (map piece fs) (length (map piece fs))
standing-follow fs stand k d low =
    let e : Fact FileExt = record { id = 0; what = nothing.1 } in
    let inside : k + 1 < length fs = omega (arith, length-map fs piece) in
    let here : get_or (map piece fs) k d ≡ piece (get_or fs k e) = get_or-map piece fs k e d (omega arith) in
    let next : get_or (map piece fs) (k + 1) d ≡ piece (get_or fs (k + 1) e) = get_or-map piece fs (k + 1) e d inside in
    ap (λ p. follows p (get_or (map piece fs) (k + 1) d)) here ∙ (ap (λ p. follows (piece (get_or fs k e)) p) next ∙ stand k e inside)

-- extents of which each follows the one before it as they stand: the rule is clear
pub standing-clear : (block_size : ℕ) (facts : Facts) → find (is_uneven block_size) facts.extents ≡ None → StandInOrder facts.extents → HasExtentOrder block_size facts
standing-clear block_size facts none stand = ordered-clear block_size facts (extents_with_ids facts) none (IsPermutation-refl (extents_with_ids facts)) (standing-follow facts.extents stand)

-- an extent that isn't even breaks the rule
pub uneven-broken : (block_size : ℕ) (facts : Facts) (f : Fact FileExt) → find (is_uneven block_size) facts.extents ≡ Some f → IsExtentOrder block_size facts f.id
unfolding is_disordered are_extents_ordered
uneven-broken block_size facts f found =
    let t = found-in (is_uneven block_size) facts.extents f found in
    let listed : In f.what (all_for f.id facts.extents) = in-map what (filter (is_of f.id) facts.extents) f (in-filter (is_of f.id) f facts.extents t.0 (from-equal f.id f.id refl)) in
    let fails : (list_all (is_extent_even block_size) (all_for f.id facts.extents) && are_apart (all_for f.id facts.extents)) ≡ false =
    never-true (list_all (is_extent_even block_size) (all_for f.id facts.extents) && are_apart (all_for f.id facts.extents)) (λ h.
    clash (is_extent_even block_size f.what) (all-in (is_extent_even block_size) (all_for f.id facts.extents) (left-true (list_all (is_extent_even block_size) (all_for f.id facts.extents)) (are_apart (all_for f.id facts.extents)) h) f.what listed)
    (not-true (is_extent_even block_size f.what) t.1)) in
    record { item = f; listed = t.0; same = refl; breach = ap not fails }

pub uneven_first : (block_size : ℕ) (facts : Facts) (f : Fact FileExt) → Some f ≡ find (is_uneven block_size) facts.extents → IsExtentOrder block_size facts f.id
uneven_first block_size facts f found = uneven-broken block_size facts f (sym found)

some-length : (block_size : ℕ) (e : FileExt) → is_extent_even block_size e ≡ true → 0 < e.length
unfolding is_extent_even
some-length block_size e h = grind (arith, nat_tests)

in-order : (a b : ℕ × FileExt) → is_lt (piece_cmp b a) ≡ false → (a.0 ≤ b.0) × (a.0 ≡ b.0 → a.1.logical ≤ b.1.logical)
in-order a b h = (grind (arith, nat_tests), (λ e. grind (arith, nat_tests)))

-- neighbours in order of which the second doesn't follow the first collide
beside-collide : (a b : ℕ × FileExt) → is_lt (piece_cmp b a) ≡ false → 0 < a.1.length → 0 < b.1.length → follows a b ≡ false → collide a.0 a b ≡ true
beside-collide a b sorted la lb crosses =
    let o = in-order a b sorted in
    let o0 : a.0 ≤ b.0 = o.0 in
    let same : b.0 ≡ a.0 = grind (arith, nat_tests) in
    let o1 : a.1.logical ≤ b.1.logical = o.1 (sym same) in
    let ends : b.1.logical < extent_end a.1 = grind (arith, nat_tests) in
    both-true (a.0 == a.0) ((b.0 == a.0) && overlap a.1 b.1) (from-equal a.0 a.0 refl) (both-true (b.0 == a.0) (overlap a.1 b.1) (from-equal b.0 a.0 same) (from-below (max a.1.logical b.1.logical) (min (extent_end a.1) (extent_end b.1)) (omega arith)))

-- each piece is that of a fact
abbrev told-all : (fs : List (Fact FileExt)) → All (λ p. (f : Fact FileExt) × (In f fs × (p ≡ piece f))) (map piece fs)
told-all fs k d low = told-at fs k d low
  where
    told-at : (fs : List (Fact FileExt)) (k : ℕ) (d : ℕ × FileExt) → k < length (map piece fs) → (f : Fact FileExt) × (In f fs × (get_or (map piece fs) k d ≡ piece f))
    told-at [] k d low = absurd (omega arith)
    told-at (f ∷ fs) zero d low = (f, (inl refl, refl))
    told-at (f ∷ fs) (suc k) d low = let t = told-at fs k d (omega arith) in (t.0, (inr t.1.0, t.1.1))

-- a piece that the next one doesn't follow: its stream breaks the rule
pub crossing-broken : (block_size : ℕ) (facts : Facts) (pieces : List (ℕ × FileExt)) (id : ℕ) → find (is_uneven block_size) facts.extents ≡ None → IsPermutation (extents_with_ids facts) pieces → IsSortedBy (λ a b. is_lt (piece_cmp a b)) pieces → IsCrossing pieces id → IsExtentOrder block_size facts id
unfolding is_disordered are_extents_ordered
crossing-broken block_size facts pieces id none moved sorted x =
    let k : ℕ = x.place in
    let a : ℕ × FileExt = get_or pieces x.place nothing in
    let b : ℕ × FileExt = get_or pieces (x.place + 1) nothing in
    let inside : x.place + 1 < length pieces = x.inside in
    let told : All (λ p. (f : Fact FileExt) × (In f facts.extents × (p ≡ piece f))) pieces = All-permutation (λ p. (f : Fact FileExt) × (In f facts.extents × (p ≡ piece f))) (extents_with_ids facts) pieces moved (told-all facts.extents) in
    let ta = told x.place nothing (omega arith) in
    let tb = told (x.place + 1) nothing inside in
    let la : 0 < (get_or pieces x.place nothing).1.length = subst (λ (p : ℕ × FileExt). 0 < p.1.length) (sym ta.1.1) (some-length block_size ta.0.what (even-of block_size facts.extents none ta.0 ta.1.0)) in
    let lb : 0 < (get_or pieces (x.place + 1) nothing).1.length = subst (λ (p : ℕ × FileExt). 0 < p.1.length) (sym tb.1.1) (some-length block_size tb.0.what (even-of block_size facts.extents none tb.0 tb.1.0)) in
    let met : collide (get_or pieces x.place nothing).0 (get_or pieces x.place nothing) (get_or pieces (x.place + 1) nothing) ≡ true = beside-collide (get_or pieces x.place nothing) (get_or pieces (x.place + 1) nothing) (sorted x.place nothing (omega arith) inside) la lb (x.crosses nothing) in
    let same : ta.0.id ≡ (get_or pieces x.place nothing).0 = ap (λ (p : ℕ × FileExt). p.0) (sym ta.1.1) in
    let met2 : collide ta.0.id (get_or pieces x.place nothing) (get_or pieces (x.place + 1) nothing) ≡ true = subst (λ q. collide q (get_or pieces x.place nothing) (get_or pieces (x.place + 1) nothing) ≡ true) (sym same) met in
    let fails : (list_all (is_extent_even block_size) (all_for ta.0.id facts.extents) && are_apart (all_for ta.0.id facts.extents)) ≡ false =
    never-true (list_all (is_extent_even block_size) (all_for ta.0.id facts.extents) && are_apart (all_for ta.0.id facts.extents)) (λ h.
    clash (collide ta.0.id (get_or pieces x.place nothing) (get_or pieces (x.place + 1) nothing)) met2
    (apart_from_distinct (collide ta.0.id) pieces x.place (x.place + 1) nothing
    (IsDistinct-IsPermutation (collide ta.0.id) (flips ta.0.id) (extents_with_ids facts) pieces moved (apart-distinct ta.0.id facts.extents (right-true (list_all (is_extent_even block_size) (all_for ta.0.id facts.extents)) (are_apart (all_for ta.0.id facts.extents)) h)))
    (omega arith) inside)) in
    record { item = ta.0; listed = ta.1.0; same = same ∙ x.same nothing; breach = ap not fails }

-- the rule is clear, or a stream breaks it
pub crossed_or : (block_size : ℕ) (facts : Facts) (pieces : List (ℕ × FileExt)) (first : Option ℕ) → find (is_uneven block_size) facts.extents ≡ None → IsPermutation (extents_with_ids facts) pieces → IsSortedBy (λ a b. is_lt (piece_cmp a b)) pieces
    → (IsNone first → Follow pieces (length pieces)) → IfSome first (IsCrossing pieces) → MatchOption first (HasExtentOrder block_size facts) (IsExtentOrder block_size facts)
crossed_or block_size facts pieces None none moved sorted follow cross = ordered-clear block_size facts pieces none moved (follow refl)
crossed_or block_size facts pieces (Some id) none moved sorted follow cross = crossing-broken block_size facts pieces id none moved sorted cross

-- a step of the search: the next piece doesn't follow
pub crossing-here : (ps : List (ℕ × FileExt)) (i : ℕ) (e : ℕ × FileExt) → 1 ≤ i → i < length ps → follows (get_or ps (i - 1) e) (get_or ps i e) ≡ false → IsCrossing ps (get_or ps (i - 1) e).0
crossing-here ps i e some low crosses =
    let s : (i - 1) + 1 ≡ i = omega arith in
    record {
      place = i - 1;
      inside = omega arith;
      same = λ d. ap (λ (p : ℕ × FileExt). p.0) (get_or_default ps (i - 1) d e (omega arith));
      crosses = λ d. ap (λ k. follows (get_or ps (i - 1) d) (get_or ps k d)) s
          ∙ (ap (λ p. follows p (get_or ps i d)) (get_or_default ps (i - 1) d e (omega arith)) ∙ (ap (λ p. follows (get_or ps (i - 1) e) p) (get_or_default ps i d e low) ∙ crosses));
    }

-- it does
pub follow-more : (ps : List (ℕ × FileExt)) (i : ℕ) (e : ℕ × FileExt) → 1 ≤ i → i < length ps → Follow ps i → follows (get_or ps (i - 1) e) (get_or ps i e) ≡ true → Follow ps (i + 1)
follow-more ps i e some low follow next =
    all_adjacent_more ps (λ (a b : ℕ × FileExt). follows a b ≡ true) i (omega arith) follow (λ d.
    ap (λ p. follows p (get_or ps i d)) (get_or_default ps (i - 1) d e (omega arith)) ∙ (ap (λ p. follows (get_or ps (i - 1) e) p) (get_or_default ps i d e low) ∙ next))
