-- Pieces, of which some share no block with another: what is counted of them, one after the other.
use Rattle.std.proofs.Common.{◌≡◌, ℕ, zero, suc, ◌+◌, ◌-◌, ◌^◌, ◌<◌, ◌≤◌, Bool, true, false, ◌&&◌, ◌||◌, ◌==◌, List, [], ◌∷◌, ◌++◌, length, take, get_or, set, replicate, min, max, if◌then◌else◌, inl, inr, refl, ap, ap₂, sym, ◌∙◌, subst, arith}
use Rattle.std.specs.List.{list_any, range_with_len}
use Rattle.std.specs.List.Sorted.{IsPermutation, IsNonDecreasingBy}
use Rattle.std.proofs.lemmas.List.{length-replicate, take_all, get_or-set_same, get_or-set_other}
use Rattle.std.proofs.lemmas.List.Sorted.{IsPermutation-sym}
use Rattle.apfs_model.proofs.BoolTests.{never-true, clash, test_or, equal-from, unequal-from}
use Rattle.piece_count.specs.Covered.{is_from, runs_at, is_among, covers, covered_by, is_covered, is_any, is_alone, count_below, nth_count, IsCount}
use Rattle.piece_count.specs.Lone.{passing_below, owed, with_more, no_piece, has_it, alone_has, some_has, AreCounts, IsSplit}
use Rattle.piece_count.specs.Tally.{has_none, grown_set, IsTally}
use Rattle.piece_count.specs.declared.lone.Split.{Split}
use Rattle.piece_count.specs.declared.piece.ViewRun.{ViewRun}
use Rattle.piece_count.specs.declared.piece.Views.{Views}
use Rattle.piece_count.specs.declared.piece.Piece.{Piece}
use Rattle.piece_count.specs.declared.piece.Holdings.{Holdings}
use Rattle.piece_count.specs.declared.tally.Counts.{Counts}
use Rattle.piece_count.specs.declared.tally.Tally.{Tally}
use Rattle.piece_count.specs.declared.tally.ViewCount.{ViewCount}
use Rattle.piece_count.proofs.Numbers.{from-low, from-high, one-test, below-any, count-empty, count-bound}
use Rattle.piece_count.proofs.Owing.{or-nothing, long-more, owed-more, all-more, owed-none, passing-tail, passing-same, passing-more}
use Rattle.piece_count.proofs.Pieces.{covered-push, covered-more, covers-within, none-covered, covered-permuted, piece-none}
use Rattle.piece_count.proofs.Tallies.{tally-same}

-- of the first so many pieces, which end by a block, the lone ones by a lower one, some are counted, and the others are told by the sets
pub record IsSplitting (blocks views : ℕ) (sets : List Views) (pieces : List Piece) (i : ℕ) (t : Tally) (lone : List ℕ) (high : ℕ) : Type 0 where
  pub rest : List Piece
  pub low : ℕ
  pub tally : IsTally blocks views (covered_by sets rest) t
  pub low_high : low ≤ high
  pub high_low : high ≤ blocks
  pub ahead : (v b : ℕ) → low ≤ b → b < blocks → covered_by sets (take i pieces) v b ≡ covered_by sets rest v b
  pub beyond : (v b : ℕ) → high ≤ b → b < blocks → covered_by sets (take i pieces) v b ≡ false
  pub long : length lone ≡ length sets
  pub few : owed (λ (has : ℕ → Bool). true) sets lone ≤ low
  pub owes : (test : (ℕ → Bool) → Bool) → test (λ (view : ℕ). false) ≡ false → passing_below test (covered_by sets (take i pieces)) low ≡ passing_below test (covered_by sets rest) low + owed test sets lone
  pub turn : i < length pieces → t.at ≤ min (get_or pieces i no_piece).first blocks
  pub next : i < length pieces → low ≤ min (get_or pieces i no_piece).first blocks

pub split-start : (blocks views : ℕ) (sets : List Views) (pieces : List Piece) (t : Tally) (lone : List ℕ) → IsTally blocks views has_none t → t.at ≡ 0 → lone ≡ replicate (length sets) 0 → IsSplitting blocks views sets pieces 0 t lone 0
split-start blocks views sets pieces t lone h at e = record {
  rest = take 0 pieces;
  low = 0;
  tally = piece-none blocks views sets pieces t h;
  low_high = omega arith;
  high_low = omega arith;
  ahead = λ v b up lb. refl;
  beyond = λ v b up lb. sym (none-covered sets pieces v b);
  long = ap (λ (xs : List ℕ). length xs) e ∙ length-replicate (length sets) 0;
  few = let z = ap (owed (λ has. true) sets) e ∙ owed-none (λ has. true) sets in omega (arith, z);
  owes = λ test fair. let z = ap (owed test sets) e ∙ owed-none test sets in omega (arith, z);
  turn = λ l. omega (arith, at);
  next = λ l. omega arith;
}

-- ---- one piece more
module _ (blocks views : ℕ) (sets : List Views) (pieces : List Piece) (i : ℕ) (t : Tally) (lone : List ℕ) (high first end reach : ℕ) (low : i < length pieces) (sorted : IsNonDecreasingBy (λ (p : Piece). p.first) pieces) (first_is : first ≡ min (get_or pieces i no_piece).first blocks)
    (end_is : end ≡ min (get_or pieces i no_piece).end blocks) (reach_is : reach ≡ max end high) (h : IsSplitting blocks views sets pieces i t lone high) where
  abbrev piece : Piece
  piece = get_or pieces i no_piece

  abbrev among : ℕ → Bool
  among = is_among (runs_at sets piece.set)

  abbrev seen : ℕ → ℕ → Bool
  seen = covered_by sets (take i pieces)

  abbrev more : ℕ → ℕ → Bool
  more = covered_by sets (take (i + 1) pieces)

  more-is : (v b : ℕ) → more v b ≡ (seen v b || (among v && is_from piece.first piece.end b))
  more-is v b = covered-more sets pieces i v b low

  beyond-more : (v b : ℕ) → reach ≤ b → b < blocks → more v b ≡ false
  beyond-more v b up lb =
      let none : is_from piece.first piece.end b ≡ false = never-true (is_from piece.first piece.end b) (λ e. let l = from-high piece.first piece.end b e in let q : ⊥ = omega (arith, l, up, lb, end_is, reach_is) in q) in
      more-is v b ∙ (ap₂ (λ x y. x || (among v && y)) (h.beyond v b (omega (arith, up, reach_is)) lb) none ∙ or-nothing false (among v))

  next-first : (n : ℕ) → n ≤ min piece.first blocks → i + 1 < length pieces → n ≤ min (get_or pieces (i + 1) no_piece).first blocks
  next-first n up l = let s = sorted i (i + 1) no_piece (omega arith) l in omega (arith, up, s)

  -- below where it begins it has no block
  more-before : (v b : ℕ) → b < piece.first → more v b ≡ seen v b
  more-before v b l =
      let none : is_from piece.first piece.end b ≡ false = never-true (is_from piece.first piece.end b) (λ e. let up = from-low piece.first piece.end b e in let q : ⊥ = omega (arith, l, up) in q) in
      more-is v b ∙ (ap (λ y. seen v b || (among v && y)) none ∙ or-nothing (seen v b) (among v))

  rest-before : (v b : ℕ) → b < piece.first → covered_by sets (h.rest ++ piece ∷ []) v b ≡ covered_by sets h.rest v b
  rest-before v b l =
      let none : is_from piece.first piece.end b ≡ false = never-true (is_from piece.first piece.end b) (λ e. let up = from-low piece.first piece.end b e in let q : ⊥ = omega (arith, l, up) in q) in
      covered-push sets h.rest piece v b ∙ (ap (λ y. covered_by sets h.rest v b || (among v && y)) none ∙ or-nothing (covered_by sets h.rest v b) (among v))

  -- it is counted
  pub split-shared : (new : Tally) (runs : List ViewRun) → runs ≡ runs_at sets piece.set → IsTally blocks views (grown_set (covered_by sets h.rest) runs first end) new → new.at ≡ first → IsSplitting blocks views sets pieces (i + 1) new lone reach
  split-shared new runs runs_is tally at =
      let next = h.next low in
      let few_high = h.high_low in
      let low_high = h.low_high in
      record {
        rest = h.rest ++ piece ∷ [];
        low = h.low;
        tally = tally-same blocks views (grown_set (covered_by sets h.rest) runs first end) (covered_by sets (h.rest ++ piece ∷ [])) new (λ v b l lb.
            ap (λ (rs : List ViewRun). covered_by sets h.rest v b || (is_among rs v && is_from first end b)) runs_is
            ∙ (ap₂ (λ (x y : ℕ). covered_by sets h.rest v b || (among v && is_from x y b)) first_is end_is
            ∙ (ap (λ y. covered_by sets h.rest v b || (among v && y)) (covers-within piece.first piece.end blocks b lb) ∙ sym (covered-push sets h.rest piece v b)))) tally;
        low_high = omega (arith, low_high, reach_is);
        high_low = omega (arith, few_high, reach_is, end_is);
        ahead = λ v b up lb. more-is v b ∙ (ap (λ x. x || covers sets piece v b) (h.ahead v b up lb) ∙ sym (covered-push sets h.rest piece v b));
        beyond = beyond-more;
        long = h.long;
        few = h.few;
        owes = λ test fair.
            passing-same test more seen h.low (λ v b l. more-before v b (omega (arith, l, next)))
            ∙ (h.owes test fair ∙ ap (λ n. n + owed test sets lone) (sym (passing-same test (covered_by sets (h.rest ++ piece ∷ [])) (covered_by sets h.rest) h.low (λ v b l. rest-before v b (omega (arith, l, next))))));
        turn = λ l. let n = next-first first (omega (arith, first_is)) l in omega (arith, n, at);
        next = next-first h.low next;
      }

  -- its blocks are told by its set
  pub split-lone : (told : List ℕ) (n : ℕ) → blocks < 2 ^ 64 → high ≤ piece.first → (i + 1 < length pieces → piece.end ≤ (get_or pieces (i + 1) no_piece).first) → n ≡ end - first → told ≡ with_more lone piece.set n → IsSplitting blocks views sets pieces (i + 1) t told reach
  split-lone told n small after apart n_is told_is =
      let next = h.next low in
      let few_high = h.high_low in
      let low_high = h.low_high in
      let few = h.few in
      let fits : owed (λ has. true) sets lone + n < 2 ^ 64 = omega (arith, few, next, n_is, first_is, end_is, small) in
      record {
        rest = h.rest;
        low = reach;
        tally = h.tally;
        low_high = omega arith;
        high_low = omega (arith, few_high, reach_is, end_is);
        ahead = λ v b up lb. beyond-more v b up lb ∙ sym (sym (h.ahead v b (omega (arith, up, reach_is, low_high)) lb) ∙ h.beyond v b (omega (arith, up, reach_is)) lb);
        beyond = beyond-more;
        long = ap (λ (xs : List ℕ). length xs) told_is ∙ (long-more lone piece.set n ∙ h.long);
        few =
            let z = ap (owed (λ has. true) sets) told_is in
            let m = all-more sets lone piece.set n h.long fits in
            omega (arith, z, m, few, next, n_is, first_is, end_is, reach_is, low_high);
        owes = λ test fair.
            let a = passing-more test seen more among piece.first piece.end reach fair (λ v b l. more-is v b) (λ v b up l. h.beyond v b (omega (arith, up, after)) (omega (arith, l, reach_is, end_is, few_high))) in
            let b = passing-tail test seen (covered_by sets h.rest) h.low reach (owed test sets lone) (omega (arith, low_high, reach_is)) (λ v b up l. h.ahead v b up (omega (arith, l, reach_is, end_is, few_high))) (h.owes test fair) in
            let c = ap (owed test sets) told_is ∙ owed-more test sets lone piece.set n h.long fits fair in
            let same : min piece.end reach - piece.first ≡ n = omega (arith, n_is, first_is, end_is, reach_is, after, few_high) in
            let d : (if test among then min piece.end reach - piece.first else 0) ≡ (if test among then n else 0) = ap (λ (k : ℕ). if test among then k else 0) same in
            omega (arith, a, b, c, d);
        turn = λ l. let here = h.turn low in next-first t.at here l;
        next = λ l. let s = sorted i (i + 1) no_piece (omega arith) l in let g = apart l in omega (arith, s, g, after, reach_is, end_is, few_high);
      }

-- ---- all pieces
no-any : (n : ℕ) → list_any (λ (v : ℕ). false) (range_with_len 0 n) ≡ false
no-any n = never-true (list_any (λ v. false) (range_with_len 0 n)) (λ e. let r = below-any (λ v. false) n e in clash false r.1.1 refl)

-- numbers by what is counted up to the last block
pub tally-counts : (blocks views : ℕ) (has : ℕ → ℕ → Bool) (t : Tally) → IsTally blocks views has t → t.at ≡ blocks → AreCounts views (λ test. passing_below test has blocks) t.counts
unfolding is_alone is_any
tally-counts blocks views has t h at = record {
  many = h.many;
  held = h.held;
  only = λ v l. h.only v l ∙ ap (count_below (is_alone has views v)) at;
  all = h.all;
}

-- numbers by another telling
pub counts-same : (views : ℕ) (a b : ((ℕ → Bool) → Bool) → ℕ) (counts : Counts) → ((test : (ℕ → Bool) → Bool) → test (λ (view : ℕ). false) ≡ false → a test ≡ b test) → AreCounts views a counts → AreCounts views b counts
counts-same views a b counts same h = record {
  many = h.many;
  held = λ v l. h.held v l ∙ same (has_it v) refl;
  only = λ v l. h.only v l ∙ same (alone_has views v) refl;
  all = h.all ∙ same (some_has views) (no-any views);
}

pub split-done : (blocks views : ℕ) (sets : List Views) (pieces : List Piece) (i : ℕ) (t new : Tally) (lone : List ℕ) (high : ℕ) (split : Split) → length pieces ≤ i → (h : IsSplitting blocks views sets pieces i t lone high) → IsTally blocks views (covered_by sets h.rest) new → new.at ≡ blocks → split.counts ≡ new.counts → split.lone.items ≡ lone → IsSplit blocks views sets pieces split
split-done blocks views sets pieces i t new lone high split all h tally at counts_is lone_is =
    let few = h.few in
    let low_high = h.low_high in
    let high_low = h.high_low in
    let taken : take i pieces ≡ pieces = take_all i pieces all in
    record {
      rest = λ test. passing_below test (covered_by sets h.rest) blocks;
      counted = subst (AreCounts views (λ test. passing_below test (covered_by sets h.rest) blocks)) (sym counts_is) (tally-counts blocks views (covered_by sets h.rest) new tally at);
      long = ap (λ (xs : List ℕ). length xs) lone_is ∙ h.long;
      few = let z = ap (owed (λ has. true) sets) lone_is in omega (arith, z, few, low_high, high_low);
      whole = λ test fair.
          ap (λ (ps : List Piece). passing_below test (covered_by sets ps) blocks) (sym taken)
          ∙ (passing-tail test (covered_by sets (take i pieces)) (covered_by sets h.rest) h.low blocks (owed test sets lone) (omega (arith, low_high, high_low)) h.ahead (h.owes test fair)
          ∙ ap (λ (ns : List ℕ). passing_below test (covered_by sets h.rest) blocks + owed test sets ns) (sym lone_is));
    }

-- ---- sets one after the other
owed-zero : (test : (ℕ → Bool) → Bool) (sets : List Views) (lone : List ℕ) → owed test (take 0 sets) (take 0 lone) ≡ 0
unfolding owed
owed-zero test [] lone = refl
owed-zero test (s ∷ sets) lone = refl

owed-next : (test : (ℕ → Bool) → Bool) (sets : List Views) (lone : List ℕ) (i : ℕ) → length lone ≡ length sets → i < length sets → owed test (take (suc i) sets) (take (suc i) lone) ≡ owed test (take i sets) (take i lone) + (if test (is_among (runs_at sets i)) then get_or lone i 0 else 0)
unfolding owed runs_at
owed-next test [] lone i long low = absurd (omega arith)
owed-next test (s ∷ sets) [] i long low = absurd (omega arith)
owed-next test (s ∷ sets) (x ∷ lone) zero long low = let z = owed-zero test sets lone in omega (arith, z)
owed-next test (s ∷ sets) (x ∷ lone) (suc i) long low = let r = owed-next test sets lone i (omega arith) (omega arith) in omega (arith, r)

owed-part : (sets : List Views) (lone : List ℕ) (i : ℕ) → owed (λ has. true) (take i sets) (take i lone) ≤ owed (λ has. true) sets lone
unfolding owed
owed-part [] lone zero = omega arith
owed-part [] lone (suc i) = omega arith
owed-part (s ∷ sets) [] zero = omega arith
owed-part (s ∷ sets) [] (suc i) = omega arith
owed-part (s ∷ sets) (x ∷ lone) zero = omega arith
owed-part (s ∷ sets) (x ∷ lone) (suc i) = let r = owed-part sets lone i in omega (arith, r)

-- the first so many sets have their blocks one after the other
pub record IsLaid (blocks views : ℕ) (sets : List Views) (lone : List ℕ) (i : ℕ) (t : Tally) : Type 0 where
  pub has : ℕ → ℕ → Bool
  pub tally : IsTally blocks views has t
  pub at : t.at ≡ owed (λ (has : ℕ → Bool). true) (take i sets) (take i lone)
  pub beyond : (v b : ℕ) → t.at ≤ b → has v b ≡ false
  pub owes : (test : (ℕ → Bool) → Bool) → test (λ (view : ℕ). false) ≡ false → passing_below test has blocks ≡ owed test (take i sets) (take i lone)

nothing-passes : (test : (ℕ → Bool) → Bool) (n : ℕ) → test (λ (view : ℕ). false) ≡ false → passing_below test has_none n ≡ 0
nothing-passes test n fair = count-empty (λ b. test (λ v. false)) n (λ k low. fair)

pub laid-none : (blocks views : ℕ) (sets : List Views) (lone : List ℕ) (t : Tally) → IsTally blocks views has_none t → t.at ≡ 0 → IsLaid blocks views sets lone 0 t
laid-none blocks views sets lone t h at = record {
  has = has_none;
  tally = h;
  at = at ∙ sym (owed-zero (λ has. true) sets lone);
  beyond = λ v b up. refl;
  owes = λ test fair. nothing-passes test blocks fair ∙ sym (owed-zero test sets lone);
}

-- the next set fits behind them
pub laid-fits : (blocks views : ℕ) (sets : List Views) (lone : List ℕ) (i : ℕ) (t : Tally) → length lone ≡ length sets → i < length sets → owed (λ has. true) sets lone ≤ blocks → IsLaid blocks views sets lone i t → t.at + get_or lone i 0 ≤ blocks
laid-fits blocks views sets lone i t long low few h =
    let e = owed-next (λ has. true) sets lone i long low in
    let p = owed-part sets lone (suc i) in
    let at = h.at in
    omega (arith, e, p, at, few)

pub laid-more : (blocks views : ℕ) (sets : List Views) (lone : List ℕ) (i : ℕ) (t new : Tally) (runs : List ViewRun) (end : ℕ) → length lone ≡ length sets → i < length sets → t.at + get_or lone i 0 ≤ blocks → end ≡ t.at + get_or lone i 0 → runs ≡ runs_at sets i → (h : IsLaid blocks views sets lone i t) →
    IsTally blocks views (grown_set h.has runs t.at end) new → new.at ≡ end → IsLaid blocks views sets lone (i + 1) new
laid-more blocks views sets lone i t new runs end long low fits end_is runs_is h tally at =
    let next : suc i ≡ i + 1 = omega arith in
    let among : ℕ → Bool = is_among (runs_at sets i) in
    let turn : (test : (ℕ → Bool) → Bool) → owed test (take (i + 1) sets) (take (i + 1) lone) ≡ owed test (take i sets) (take i lone) + (if test among then get_or lone i 0 else 0) = λ test. ap (λ (n : ℕ). owed test (take n sets) (take n lone)) (sym next) ∙ owed-next test sets lone i long low in
    let grows : (v b : ℕ) → grown_set h.has runs t.at end v b ≡ (h.has v b || (among v && is_from t.at end b)) = λ v b. ap (λ (rs : List ViewRun). h.has v b || (is_among rs v && is_from t.at end b)) runs_is in
    record {
      has = grown_set h.has runs t.at end;
      tally = tally;
      at = let a = h.at in let z = turn (λ has. true) in omega (arith, a, z, at, end_is);
      beyond = λ v b up.
          let none : is_from t.at end b ≡ false = never-true (is_from t.at end b) (λ e. let l = from-high t.at end b e in let q : ⊥ = omega (arith, l, up, at) in q) in
          ap₂ (λ x y. x || (is_among runs v && y)) (h.beyond v b (omega (arith, up, at, end_is))) none ∙ or-nothing false (is_among runs v);
      owes = λ test fair.
          let a = passing-more test h.has (grown_set h.has runs t.at end) among t.at end blocks fair (λ v b l. grows v b) (λ v b up l. h.beyond v b up) in
          let same : min end blocks - t.at ≡ get_or lone i 0 = omega (arith, end_is, fits) in
          let d : (if test among then min end blocks - t.at else 0) ≡ (if test among then get_or lone i 0 else 0) = ap (λ (k : ℕ). if test among then k else 0) same in
          let o = h.owes test fair in
          let z = turn test in
          omega (arith, a, d, o, z);
    }

pub laid-all : (blocks views : ℕ) (sets : List Views) (lone : List ℕ) (i : ℕ) (t new : Tally) → length lone ≡ length sets → length sets ≤ i → (h : IsLaid blocks views sets lone i t) → IsTally blocks views h.has new → new.at ≡ blocks → AreCounts views (λ test. owed test sets lone) new.counts
laid-all blocks views sets lone i t new long all h tally at =
    counts-same views (λ test. passing_below test h.has blocks) (λ test. owed test sets lone) new.counts
    (λ test fair. h.owes test fair ∙ ap₂ (λ (ss : List Views) (ns : List ℕ). owed test ss ns) (take_all i sets all) (take_all i lone (omega (arith, long, all))))
    (tally-counts blocks views h.has new tally at)

-- ---- the numbers of all
pub all-counted : (blocks views : ℕ) (held : Holdings) (sorted : List Piece) (split : Split) (lone sum : Counts) → blocks < 2 ^ 64 → IsPermutation held.pieces.items sorted → IsSplit blocks views held.sets.items sorted split → AreCounts views (λ test. owed test held.sets.items split.lone.items) lone →
    ((a b : ((ℕ → Bool) → Bool) → ℕ) → ((test : (ℕ → Bool) → Bool) → test (λ (view : ℕ). false) ≡ false → a test + b test < 2 ^ 64) → AreCounts views a split.counts → AreCounts views b lone → AreCounts views (λ test. a test + b test) sum) → IsCount blocks views held sum
unfolding is_alone is_any
all-counted blocks views held sorted split lone sum few p h l adds =
    let sets : List Views = held.sets.items in
    let same : (v b : ℕ) → covered_by sets sorted v b ≡ is_covered held v b = λ v b. one-test (covered_by sets sorted v b) (is_covered held v b) (covered-permuted sets sorted held.pieces.items (IsPermutation-sym held.pieces.items sorted p) v b) (covered-permuted sets held.pieces.items sorted p v b) in
    let number : ((ℕ → Bool) → Bool) → ℕ = λ test. h.rest test + owed test sets split.lone.items in
    let small : (test : (ℕ → Bool) → Bool) → test (λ (view : ℕ). false) ≡ false → number test < 2 ^ 64 = λ test fair. let w = h.whole test fair in let c = count-bound (λ b. test (λ v. covered_by sets sorted v b)) blocks in omega (arith, w, c, few) in
    let c : AreCounts views (λ test. passing_below test (is_covered held) blocks) sum = counts-same views number (λ test. passing_below test (is_covered held) blocks) sum
    (λ test fair. sym (h.whole test fair) ∙ passing-same test (covered_by sets sorted) (is_covered held) blocks (λ v b l. same v b))
    (adds h.rest (λ test. owed test sets split.lone.items) small h.counted l) in
    record { many = c.many; held = c.held; only = c.only; all = c.all }

-- ---- numbers of two kinds of blocks
pub summed : (f : ViewCount → ℕ) (old more views : List ViewCount) (i : ℕ) (x : ViewCount) → i < length views → f x ≡ min (f (nth_count old i) + f (nth_count more i)) (2 ^ 64 - 1) → ((v : ℕ) → v < i → f (nth_count views v) ≡ min (f (nth_count old v) + f (nth_count more v)) (2 ^ 64 - 1)) →
    (v : ℕ) → v < i + 1 → f (nth_count (set views i x) v) ≡ min (f (nth_count old v) + f (nth_count more v)) (2 ^ 64 - 1)
summed f old more views i x low this had v up = elim (test_or (v == i)) as (λ _. f (nth_count (set views i x) v) ≡ min (f (nth_count old v) + f (nth_count more v)) (2 ^ 64 - 1)) [
  | inl y ↦
      let e = equal-from v i y in
      ap (λ (k : ℕ). f (nth_count (set views i x) k)) e ∙ (ap f (get_or-set_same views i x (record { held = 0; only = 0 }) low) ∙ (this ∙ ap (λ (k : ℕ). min (f (nth_count old k) + f (nth_count more k)) (2 ^ 64 - 1)) (sym e)))
  | inr n ↦
      let apart = unequal-from v i n in
      ap f (get_or-set_other views i v x (record { held = 0; only = 0 }) apart) ∙ had v (omega (arith, up, apart))
]

pub later : (views : List ViewCount) (i v : ℕ) (x : ViewCount) → i + 1 ≤ v → nth_count (set views i x) v ≡ nth_count views v
later views i v x up = get_or-set_other views i v x (record { held = 0; only = 0 }) (λ e. let q : ⊥ = omega (arith, up, e) in q)

pub counts-sum : (views i : ℕ) (a b : ((ℕ → Bool) → Bool) → ℕ) (old more new : Counts) → length more.views.items ≤ i → length new.views.items ≡ length old.views.items → new.all ≡ min (old.all + more.all) (2 ^ 64 - 1) →
    ((v : ℕ) → v < i → (nth_count new.views.items v).held ≡ min ((nth_count old.views.items v).held + (nth_count more.views.items v).held) (2 ^ 64 - 1)) →
    ((v : ℕ) → v < i → (nth_count new.views.items v).only ≡ min ((nth_count old.views.items v).only + (nth_count more.views.items v).only) (2 ^ 64 - 1)) →
    ((test : (ℕ → Bool) → Bool) → test (λ (view : ℕ). false) ≡ false → a test + b test < 2 ^ 64) → AreCounts views a old → AreCounts views b more → AreCounts views (λ test. a test + b test) new
counts-sum views i a b old more new high many all held only small x y =
    let long = y.many in
    record {
      many = many ∙ x.many;
      held = λ v l.
          let s = small (has_it v) refl in
          let p = x.held v l in
          let q = y.held v l in
          let h = held v (omega (arith, l, high, long)) in
          omega (arith, s, p, q, h);
      only = λ v l.
          let s = small (alone_has views v) refl in
          let p = x.only v l in
          let q = y.only v l in
          let h = only v (omega (arith, l, high, long)) in
          omega (arith, s, p, q, h);
      all =
          let s = small (some_has views) (no-any views) in
          let p = x.all in
          let q = y.all in
          omega (arith, s, p, q, all);
    }
