-- Numbers of blocks by the sets of views that have them.
use Rattle.std.proofs.Common.{◌≡◌, ℕ, zero, suc, ◌+◌, ◌-◌, ◌^◌, ◌<◌, ◌≤◌, Bool, true, false, cond, ◌&&◌, ◌||◌, nat_lt, List, [], ◌∷◌, length, get_or, set, replicate, min, if◌then◌else◌, ◌⊎◌, inl, inr, refl, ap, ap₂, sym, ◌∙◌, arith}
use Rattle.std.proofs.Math.Path.{fun_ext}
use Rattle.std.proofs.lemmas.List.{length-set}
use Rattle.apfs_model.proofs.BoolTests.{right-or, test_or, below-from, from-below}
use Rattle.piece_count.specs.Covered.{is_from, runs_at, is_among, count_below}
use Rattle.piece_count.specs.Lone.{passing_below, owed, with_more}
use Rattle.piece_count.specs.declared.piece.ViewRun.{ViewRun}
use Rattle.piece_count.specs.declared.piece.Views.{Views}
use Rattle.piece_count.proofs.Numbers.{from-low, count-more, count-same, count-grown}
use Rattle.piece_count.proofs.Pieces.{or-none}

-- ---- by sets
raised : (b : Bool) (x n : ℕ) → (if b then x + n else 0) ≡ (if b then x else 0) + (if b then n else 0)
raised true x n = refl
raised false x n = refl

owed-set : (test : (ℕ → Bool) → Bool) (sets : List Views) (lone : List ℕ) (i n : ℕ) → length lone ≡ length sets → i < length lone → owed test sets (set lone i (get_or lone i 0 + n)) ≡ owed test sets lone + (if test (is_among (runs_at sets i)) then n else 0)
unfolding owed runs_at
owed-set test [] lone i n long low = absurd (omega arith)
owed-set test (s ∷ sets) [] i n long low = absurd (omega arith)
owed-set test (s ∷ sets) (x ∷ lone) zero n long low = let r = raised (test (is_among s.runs.items)) x n in omega (arith, r)
owed-set test (s ∷ sets) (x ∷ lone) (suc i) n long low = let r = owed-set test sets lone i n (omega arith) (omega arith) in omega (arith, r)

owed-one : (sets : List Views) (lone : List ℕ) (i : ℕ) → length lone ≡ length sets → i < length lone → get_or lone i 0 ≤ owed (λ has. true) sets lone
unfolding owed
owed-one [] lone i long low = absurd (omega arith)
owed-one (s ∷ sets) [] i long low = absurd (omega arith)
owed-one (s ∷ sets) (x ∷ lone) zero long low = omega arith
owed-one (s ∷ sets) (x ∷ lone) (suc i) long low = let r = owed-one sets lone i (omega arith) (omega arith) in omega (arith, r)

runs-none : (sets : List Views) (i : ℕ) → length sets ≤ i → runs_at sets i ≡ []
unfolding runs_at
runs-none [] i high = refl
runs-none (s ∷ sets) zero high = absurd (omega arith)
runs-none (s ∷ sets) (suc i) high = runs-none sets i (omega arith)

more-in : (lone : List ℕ) (i n : ℕ) → i < length lone → get_or lone i 0 + n < 2 ^ 64 → with_more lone i n ≡ set lone i (get_or lone i 0 + n)
more-in lone i n low few =
    let m : min (get_or lone i 0 + n) (2 ^ 64 - 1) ≡ get_or lone i 0 + n = omega (arith, few) in
    ap (λ (b : Bool). if b then set lone i (min (get_or lone i 0 + n) (2 ^ 64 - 1)) else lone) (from-below i (length lone) low) ∙ ap (λ (k : ℕ). set lone i k) m

more-out : (lone : List ℕ) (i n : ℕ) → nat_lt i (length lone) ≡ false → with_more lone i n ≡ lone
more-out lone i n e = ap (λ (b : Bool). if b then set lone i (min (get_or lone i 0 + n) (2 ^ 64 - 1)) else lone) e

pub long-more : (lone : List ℕ) (i n : ℕ) → length (with_more lone i n) ≡ length lone
long-more lone i n =
    let go : (b : Bool) → length (if b then set lone i (min (get_or lone i 0 + n) (2 ^ 64 - 1)) else lone) ≡ length lone = λ b. elim b as (λ b. length (if b then set lone i (min (get_or lone i 0 + n) (2 ^ 64 - 1)) else lone) ≡ length lone) [
      | true ↦ length-set lone i (min (get_or lone i 0 + n) (2 ^ 64 - 1))
      | false ↦ refl
    ] in
    go (nat_lt i (length lone))

not-below : (i n : ℕ) → nat_lt i n ≡ false → n ≤ i
not-below i n e =
    let c : (i < n) ⊎ (n ≤ i) = grind arith in
    elim c as (λ _. n ≤ i) [ inl l ↦ absurd (let z : true ≡ false = sym (from-below i n l) ∙ e in let q : ⊥ = cc in q) | inr h ↦ h ]

pub owed-more : (test : (ℕ → Bool) → Bool) (sets : List Views) (lone : List ℕ) (i n : ℕ) → length lone ≡ length sets → owed (λ has. true) sets lone + n < 2 ^ 64 → test (λ view. false) ≡ false →
    owed test sets (with_more lone i n) ≡ owed test sets lone + (if test (is_among (runs_at sets i)) then n else 0)
unfolding is_among
owed-more test sets lone i n long few fair = elim (test_or (nat_lt i (length lone))) as (λ _. owed test sets (with_more lone i n) ≡ owed test sets lone + (if test (is_among (runs_at sets i)) then n else 0)) [
  | inl y ↦
      let low : i < length lone = below-from i (length lone) y in
      let one = owed-one sets lone i long low in
      ap (owed test sets) (more-in lone i n low (omega (arith, one, few))) ∙ owed-set test sets lone i n long low
  | inr y ↦
      let out = not-below i (length lone) y in
      let none : test (is_among (runs_at sets i)) ≡ false = ap (λ (rs : List ViewRun). test (is_among rs)) (runs-none sets i (omega (arith, out, long))) ∙ fair in
      let last : owed test sets lone ≡ owed test sets lone + (if test (is_among (runs_at sets i)) then n else 0) = let z : (if test (is_among (runs_at sets i)) then n else 0) ≡ 0 = ap (λ (b : Bool). if b then n else 0) none in omega (arith, z) in
      ap (owed test sets) (more-out lone i n y) ∙ last
]

pub all-more : (sets : List Views) (lone : List ℕ) (i n : ℕ) → length lone ≡ length sets → owed (λ has. true) sets lone + n < 2 ^ 64 → owed (λ has. true) sets (with_more lone i n) ≤ owed (λ has. true) sets lone + n
all-more sets lone i n long few = elim (test_or (nat_lt i (length lone))) as (λ _. owed (λ has. true) sets (with_more lone i n) ≤ owed (λ has. true) sets lone + n) [
  | inl y ↦
      let low : i < length lone = below-from i (length lone) y in
      let one = owed-one sets lone i long low in
      let e = ap (owed (λ has. true) sets) (more-in lone i n low (omega (arith, one, few))) ∙ owed-set (λ has. true) sets lone i n long low in
      omega (arith, e)
  | inr y ↦ let e = ap (owed (λ has. true) sets) (more-out lone i n y) in omega (arith, e)
]

pub owed-none : (test : (ℕ → Bool) → Bool) (sets : List Views) → owed test sets (replicate (length sets) 0) ≡ 0
unfolding owed
owed-none test [] = refl
owed-none test (s ∷ sets) =
    let r = owed-none test sets in
    let zero_is : ℕ = 0 in
    let z : (b : Bool) → (if b then zero_is else zero_is) ≡ zero_is = λ b. elim b as (λ (b : Bool). (if b then zero_is else zero_is) ≡ zero_is) [ true ↦ refl | false ↦ refl ] in
    let e = z (test (is_among s.runs.items)) in
    omega (arith, r, e)

-- ---- by blocks
-- beyond a block two tests tell the same
count-tail : (p q : ℕ → Bool) (low m k : ℕ) → ((b : ℕ) → low ≤ b → b < low + m → p b ≡ q b) → count_below p low ≡ count_below q low + k → count_below p (low + m) ≡ count_below q (low + m) + k
count-tail p q low zero k same e =
    let here : low + 0 ≡ low = omega arith in
    ap (count_below p) here ∙ (e ∙ ap (λ x. count_below q x + k) (sym here))
count-tail p q low (suc m) k same e =
    let here : low + suc m ≡ low + m + 1 = omega arith in
    let rest = count-tail p q low m k (λ b up l. same b up (omega (arith, l))) e in
    let x = count-more p (low + m) in
    let y = count-more q (low + m) in
    let z : cond (p (low + m)) 1 0 ≡ cond (q (low + m)) 1 0 = ap {B = ℕ} (λ b. cond b 1 0) (same (low + m) (omega arith) (omega arith)) in
    ap (count_below p) here ∙ (omega (arith, rest, x, y, z) ∙ ap (λ x. count_below q x + k) (sym here))

-- beyond a block the same views have each block
pub passing-tail : (test : (ℕ → Bool) → Bool) (has also : ℕ → ℕ → Bool) (low n k : ℕ) → low ≤ n → ((v b : ℕ) → low ≤ b → b < n → has v b ≡ also v b) → passing_below test has low ≡ passing_below test also low + k → passing_below test has n ≡ passing_below test also n + k
passing-tail test has also low n k up same e =
    let all : low + (n - low) ≡ n = omega (arith, up) in
    let p : ℕ → Bool = λ b. test (λ v. has v b) in
    let q : ℕ → Bool = λ b. test (λ v. also v b) in
    ap (count_below p) (sym all) ∙ (count-tail p q low (n - low) k (λ b l h. ap test (fun_ext (λ v. same v b l (omega (arith, h, all))))) e ∙ ap (λ x. count_below q x + k) all)

pub passing-same : (test : (ℕ → Bool) → Bool) (has also : ℕ → ℕ → Bool) (n : ℕ) → ((v b : ℕ) → b < n → has v b ≡ also v b) → passing_below test has n ≡ passing_below test also n
passing-same test has also n same = count-same (λ b. test (λ v. has v b)) (λ b. test (λ v. also v b)) n (λ b low. ap test (fun_ext (λ v. same v b low)))

and-true : (a : Bool) → (a && true) ≡ a
and-true true = refl
and-true false = refl

pub or-nothing : (a b : Bool) → (a || (b && false)) ≡ a
or-nothing true b = refl
or-nothing false true = refl
or-nothing false false = refl

-- the blocks from one up to another, which none had, have some views
pub passing-more : (test : (ℕ → Bool) → Bool) (has also : ℕ → ℕ → Bool) (among : ℕ → Bool) (lo hi n : ℕ) → test (λ view. false) ≡ false → ((v b : ℕ) → b < n → also v b ≡ (has v b || (among v && is_from lo hi b))) → ((v b : ℕ) → lo ≤ b → b < n → has v b ≡ false) →
    passing_below test also n ≡ passing_below test has n + (if test among then min hi n - lo else 0)
passing-more test has also among lo hi n fair grows none =
    let p : ℕ → Bool = λ b. test (λ v. has v b) in
    let q : ℕ → Bool = λ b. test (λ v. also v b) in
    let inside : (b : ℕ) → b < n → is_from lo hi b ≡ true → q b ≡ test among = λ b low y. ap test (fun_ext (λ v. grows v b low ∙ (ap₂ (λ x r. x || (among v && r)) (none v b (from-low lo hi b y) low) y ∙ and-true (among v)))) in
    let before : (b : ℕ) → b < n → is_from lo hi b ≡ true → p b ≡ false = λ b low y. ap test (fun_ext (λ v. none v b (from-low lo hi b y) low)) ∙ fair in
    let outside : (b : ℕ) → b < n → is_from lo hi b ≡ false → q b ≡ p b = λ b low y. ap test (fun_ext (λ v. grows v b low ∙ (ap (λ r. has v b || (among v && r)) y ∙ or-nothing (has v b) (among v)))) in
    let Goal : Bool → Type 0 = λ t. count_below q n ≡ count_below p n + (if t then min hi n - lo else 0) in
    let go : (t : Bool) → test among ≡ t → Goal t = λ t. elim t as (λ t. test among ≡ t → Goal t) [
      | true ↦ λ e. count-grown p q lo hi n
          (λ b low. elim (test_or (is_from lo hi b)) as (λ _. q b ≡ (p b || is_from lo hi b)) [
            | inl y ↦ inside b low y ∙ (e ∙ sym (right-or (p b) (is_from lo hi b) y))
            | inr y ↦ outside b low y ∙ sym (ap (λ r. p b || r) y ∙ or-none (p b))
          ])
          before
      | false ↦ λ e.
          let same = count-same q p n (λ b low. elim (test_or (is_from lo hi b)) as (λ _. q b ≡ p b) [
            | inl y ↦ inside b low y ∙ (e ∙ sym (before b low y))
            | inr y ↦ outside b low y
          ]) in
          omega (arith, same)
    ] in
    go (test among) refl
