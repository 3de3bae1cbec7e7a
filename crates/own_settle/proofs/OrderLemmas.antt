-- Ranges that lie one after the other.
use Rattle.std.proofs.Common.{◌≡◌, ℕ, zero, suc, ◌+◌, ◌-◌, ◌<◌, ◌≤◌, Bool, true, false, ◌||◌, nat_le, cond, Some, slice_get, List, [], ◌∷◌, ◌++◌, length, take, drop, get_or, inl, inr, refl, ap, ap₂, sym, ◌∙◌, subst, arith}
use Rattle.std.specs.Prelude.{count_by}
use Rattle.std.specs.List.{range_with_len}
use Rattle.std.proofs.lemmas.Bool.Decides.{nat_tests}
use Rattle.std.proofs.lemmas.List.{take-append-drop, take_more}
use Rattle.std.proofs.lemmas.List.Folds.{list_any-append}
use Rattle.std.proofs.lemmas.List.Sums.{sum_by-cons, sum_by_more}
use Rattle.std.proofs.lemmas.Bool.{or_from}
use Rattle.apfs_model.specs.Blocks.{is_in}
use Rattle.apfs_model.specs.Lists.{In}
use Rattle.apfs_model.proofs.BoolTests.{test_or, clash, upto-from}
use Rattle.own_ledger.proofs.MarkLemmas.{count_first, count_split, in-below}
use Rattle.reach_rules.specs.Settled.{has_block, is_held}
use Rattle.own_settle.specs.InOrder.{AreInOrder, blocks_in}
use Rattle.own_settle.proofs.ClaimLemmas.{held-more}

-- ---- what lies in order

pub order-end : (from to : ℕ) (rs : List (ℕ × ℕ)) → AreInOrder from to rs → from ≤ to
order-end from to [] h = h
order-end from to (r ∷ rs) h = let begins = h.0 in let rest = order-end (r.0 + r.1) to rs h.1 in omega arith

pub order-wider : (from lower to higher : ℕ) (rs : List (ℕ × ℕ)) → lower ≤ from → to ≤ higher → AreInOrder from to rs → AreInOrder lower higher rs
order-wider from lower to higher [] low high h = omega arith
order-wider from lower to higher (r ∷ rs) low high h = let begins = h.0 in (omega arith, order-wider (r.0 + r.1) (r.0 + r.1) to higher rs (omega arith) high h.1)

-- a range that begins at their end, or after it, lies after them
pub order-more : (from to : ℕ) (rs : List (ℕ × ℕ)) (r : ℕ × ℕ) → AreInOrder from to rs → to ≤ r.0 → AreInOrder from (r.0 + r.1) (rs ++ r ∷ [])
order-more from to [] r h after = (omega arith, omega arith)
order-more from to (s ∷ rs) r h after = (h.0, order-more (s.0 + s.1) to rs r h.1 after)

-- each ends by their end
pub order-inside : (from to : ℕ) (rs : List (ℕ × ℕ)) (r : ℕ × ℕ) → AreInOrder from to rs → In r rs → r.0 + r.1 ≤ to
order-inside from to [] r h one = absurd one
order-inside from to (s ∷ rs) r h (inl e) = subst (λ (x : ℕ × ℕ). x.0 + x.1 ≤ to) (sym e) (order-end (s.0 + s.1) to rs h.1)
order-inside from to (s ∷ rs) r h (inr e) = order-inside (s.0 + s.1) to rs r h.1 e

-- the ranges from a place on begin where the one at it does, and those after it where that ends
pub order-from : (from to : ℕ) (rs : List (ℕ × ℕ)) (i : ℕ) (none : ℕ × ℕ) → i < length rs → AreInOrder from to rs → AreInOrder (get_or rs i none).0 to (drop i rs)
order-from from to [] i none low h = absurd (omega arith)
order-from from to (r ∷ rs) zero none low h = (omega arith, h.1)
order-from from to (r ∷ rs) (suc i) none low h = order-from (r.0 + r.1) to rs i none (omega arith) h.1

order-after : (from to : ℕ) (rs : List (ℕ × ℕ)) (i : ℕ) (none : ℕ × ℕ) → i < length rs → AreInOrder from to rs → AreInOrder ((get_or rs i none).0 + (get_or rs i none).1) to (drop (suc i) rs)
order-after from to [] i none low h = absurd (omega arith)
order-after from to (r ∷ rs) zero none low h = h.1
order-after from to (r ∷ rs) (suc i) none low h = order-after (r.0 + r.1) to rs i none (omega arith) h.1

pub order-past : (from to : ℕ) (rs : List (ℕ × ℕ)) (i : ℕ) (none : ℕ × ℕ) → i < length rs → AreInOrder from to rs → AreInOrder ((get_or rs i none).0 + (get_or rs i none).1) to (drop (i + 1) rs)
order-past from to rs i none low h =
    let next : suc i ≡ i + 1 = omega arith in
    subst (λ n. AreInOrder ((get_or rs i none).0 + (get_or rs i none).1) to (drop n rs)) next (order-after from to rs i none low h)

pub order-drop : (to : ℕ) (rs : List (ℕ × ℕ)) (n : ℕ) → AreInOrder 0 to rs → AreInOrder 0 to (drop n rs)
order-drop to rs zero h = h
order-drop to [] (suc n) h = h
order-drop to (r ∷ rs) (suc n) h = order-drop to rs n (order-wider (r.0 + r.1) 0 to to rs (omega arith) (omega arith) h.1)

-- one range more of a list
pub order-next : (end next : ℕ) (rs : List (ℕ × ℕ)) (i : ℕ) → i < length rs → AreInOrder 0 end (take i rs) → end ≤ (get_or rs i (0, 0)).0 → next ≡ (get_or rs i (0, 0)).0 + (get_or rs i (0, 0)).1 → AreInOrder 0 next (take (i + 1) rs)
order-next end next rs i low before after ends =
    subst (λ xs. AreInOrder 0 next xs) (sym (take_more rs i (0, 0) low))
    (subst (λ n. AreInOrder 0 n (take i rs ++ get_or rs i (0, 0) ∷ [])) (sym ends) (order-more 0 end (take i rs) (get_or rs i (0, 0)) before after))

pub blocks-next : (rs : List (ℕ × ℕ)) (i : ℕ) → i < length rs → blocks_in (take (i + 1) rs) ≡ blocks_in (take i rs) + (get_or rs i (0, 0)).1
blocks-next rs i low = sum_by_more (λ (x : ℕ × ℕ). x.1) rs i (0, 0) low

-- ---- which blocks lie in them

-- none before the first
pub order-none : (from to : ℕ) (rs : List (ℕ × ℕ)) (block : ℕ) → AreInOrder from to rs → block < from → is_held rs block ≡ false
order-none from to [] block h low = refl
order-none from to (r ∷ rs) block h low =
    let begins = h.0 in
    let out : is_in block r.0 r.1 ≡ false = grind (arith, nat_tests) in
    or_from (has_block block r) (is_held rs block) out (order-none (r.0 + r.1) to rs block h.1 (omega arith))

pub held-split : (rs : List (ℕ × ℕ)) (n block : ℕ) → is_held rs block ≡ (is_held (take n rs) block || is_held (drop n rs) block)
held-split rs n block = ap (λ xs. is_held xs block) (sym (take-append-drop n rs)) ∙ list_any-append (has_block block) (take n rs) (drop n rs)

-- in how many of them a block lies: one at most
unfoldable pub times_held : List (ℕ × ℕ) → ℕ → ℕ
times_held rs block = count_by (has_block block) rs

pub times-cons : (r : ℕ × ℕ) (rs : List (ℕ × ℕ)) (block : ℕ) → times_held (r ∷ rs) block ≡ cond (has_block block r) 1 0 + times_held rs block
unfolding times_held
times-cons r rs block = sum_by-cons (λ (x : ℕ × ℕ). cond (has_block block x) 1 0) r rs

times-none : (from to : ℕ) (rs : List (ℕ × ℕ)) (block : ℕ) → AreInOrder from to rs → block < from → times_held rs block ≡ 0
unfolding times_held
times-none from to [] block h low = refl
times-none from to (r ∷ rs) block h low =
    let begins = h.0 in
    let out : is_in block r.0 r.1 ≡ false = grind (arith, nat_tests) in
    let rest = times-none (r.0 + r.1) to rs block h.1 (omega arith) in
    times-cons r rs block ∙ ap₂ (λ (b : Bool) (n : ℕ). cond b 1 0 + n) out rest

pub times-once : (from to : ℕ) (rs : List (ℕ × ℕ)) (block : ℕ) → AreInOrder from to rs → times_held rs block ≤ 1
unfolding times_held
times-once from to [] block h = omega arith
times-once from to (r ∷ rs) block h = elim (test_or (has_block block r)) [
  | inl one ↦
      let below = in-below block r.0 r.1 one in
      let rest = times-none (r.0 + r.1) to rs block h.1 below in
      let all = times-cons r rs block ∙ ap₂ (λ (b : Bool) (n : ℕ). cond b 1 0 + n) one rest in
      omega (arith, all)
  | inr out ↦
      let rest = times-once (r.0 + r.1) to rs block h.1 in
      let all = times-cons r rs block ∙ ap (λ (b : Bool). cond b 1 0 + times_held rs block) out in
      omega (arith, all, rest)
]

-- ---- how many blocks lie in them

pub count-all : (p : ℕ → Bool) (a n : ℕ) → ((i : ℕ) → i < n → p (a + i) ≡ true) → count_by p (range_with_len a n) ≡ n
count-all p a zero all = refl
count-all p a (suc n) all =
    let here : p a ≡ true = ap p (omega arith) ∙ all 0 (omega arith) in
    let rest = count-all p (a + 1) n (λ i low. ap p (omega arith) ∙ all (i + 1) (omega arith)) in
    count_first p a n ∙ ap₂ (λ (b : Bool) (m : ℕ). cond b 1 0 + m) here rest ∙ omega arith

count-no : (p : ℕ → Bool) (a n : ℕ) → ((i : ℕ) → i < n → p (a + i) ≡ false) → count_by p (range_with_len a n) ≡ 0
count-no p a zero none = refl
count-no p a (suc n) none =
    let here : p a ≡ false = ap p (omega arith) ∙ none 0 (omega arith) in
    let rest = count-no p (a + 1) n (λ i low. ap p (omega arith) ∙ none (i + 1) (omega arith)) in
    count_first p a n ∙ ap₂ (λ (b : Bool) (m : ℕ). cond b 1 0 + m) here rest

-- a range inside so many blocks has as many of them as its length
count-range : (first len n : ℕ) → first + len ≤ n → count_by (λ block. is_in block first len) (range_with_len 0 n) ≡ len
count-range first len n inside =
    let p : ℕ → Bool = λ block. is_in block first len in
    let all : n ≡ first + (len + (n - (first + len))) = omega arith in
    let before = count-no p 0 first (λ i low. grind (arith, nat_tests)) in
    let here = count-all p (0 + first) len (λ i low. grind (arith, nat_tests)) in
    let after = count-no p (0 + first + len) (n - (first + len)) (λ i low. grind (arith, nat_tests)) in
    let one = count_split p 0 first (len + (n - (first + len))) in
    let two = count_split p (0 + first) len (n - (first + len)) in
    ap (λ k. count_by p (range_with_len 0 k)) all ∙ omega (arith, one, two, before, here, after)

one-or : (a b : Bool) → (a ≡ true → b ≡ false) → cond (a || b) 1 0 ≡ cond a 1 0 + cond b 1 0
one-or true true apart = absurd (clash true refl (apart refl))
one-or true false apart = refl
one-or false true apart = refl
one-or false false apart = refl

-- two tests that never pass at once
count-or : (p q : ℕ → Bool) (xs : List ℕ) → ((x : ℕ) → p x ≡ true → q x ≡ false) → count_by (λ x. p x || q x) xs ≡ count_by p xs + count_by q xs
count-or p q [] apart = refl
count-or p q (x ∷ xs) apart =
    let rest = count-or p q xs apart in
    let left = sum_by-cons (λ (y : ℕ). cond (p y) 1 0) x xs in
    let right = sum_by-cons (λ (y : ℕ). cond (q y) 1 0) x xs in
    let both = sum_by-cons (λ (y : ℕ). cond (p y || q y) 1 0) x xs in
    let here : cond (p x || q x) 1 0 ≡ cond (p x) 1 0 + cond (q x) 1 0 = one-or (p x) (q x) (apart x) in
    omega (arith, rest, left, right, both, here)

pub order-count : (from n : ℕ) (rs : List (ℕ × ℕ)) → AreInOrder from n rs → count_by (is_held rs) (range_with_len 0 n) ≡ blocks_in rs
order-count from n [] h = count-no (λ block. false) 0 n (λ i low. refl)
order-count from n (r ∷ rs) h =
    let inside = order-end (r.0 + r.1) n rs h.1 in
    let here = count-range r.0 r.1 n inside in
    let rest = order-count (r.0 + r.1) n rs h.1 in
    let all = count-or (λ block. has_block block r) (is_held rs) (range_with_len 0 n) (λ block one. order-none (r.0 + r.1) n rs block h.1 (in-below block r.0 r.1 one)) in
    let sum = sum_by-cons (λ (x : ℕ × ℕ). x.1) r rs in
    omega (arith, here, rest, all, sum)

-- ---- a chunk's part of them

or-false : (a b : Bool) → b ≡ false → a ≡ (a || b)
or-false true b e = refl
or-false false b e = sym e

-- the first ranges up to a place hold the blocks before another that all hold, if those from the place on begin there or after it
pub front-alike : (to : ℕ) (rs : List (ℕ × ℕ)) (n first block : ℕ) → AreInOrder first to (drop n rs) → block < first → is_held (take n rs) block ≡ is_held rs block
front-alike to rs n first block order low = or-false (is_held (take n rs) block) (is_held (drop n rs) block) (order-none first to (drop n rs) block order low) ∙ sym (held-split rs n block)

-- the ranges from a place on hold the blocks that all hold, if those up to it hold none
pub back-alike : (rs : List (ℕ × ℕ)) (n block : ℕ) → is_held (take n rs) block ≡ false → is_held (drop n rs) block ≡ is_held rs block
back-alike rs n block none = sym (held-split rs n block ∙ ap (λ b. b || is_held (drop n rs) block) none)

-- one range more
pub held-next : (rs : List (ℕ × ℕ)) (i block : ℕ) → i < length rs → is_held (take (i + 1) rs) block ≡ (is_held (take i rs) block || is_in block (get_or rs i (0, 0)).0 (get_or rs i (0, 0)).1)
held-next rs i block low = ap (λ xs. is_held xs block) (take_more rs i (0, 0) low) ∙ held-more (take i rs) (get_or rs i (0, 0)) block

-- no block before the first range is held
pub begin-by : (to end : ℕ) (rs : List (ℕ × ℕ)) (r : ℕ × ℕ) → Some r ≡ slice_get rs 0 → AreInOrder 0 to rs → nat_le end r.0 ≡ true → (block : ℕ) → block < end → is_held rs block ≡ false
begin-by to end [] r is order by block low = absurd (cc)
begin-by to end (s ∷ rs) r is order by block low =
    let same : r ≡ s = cc in
    let up : end ≤ s.0 = subst (λ (x : ℕ × ℕ). end ≤ x.0) same (upto-from end r.0 by) in
    order-none s.0 to (s ∷ rs) block (omega arith, order.1) (omega arith)
