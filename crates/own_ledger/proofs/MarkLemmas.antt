-- The marks of a ledger, by its bits.
use Rattle.std.proofs.Common.{◌≡◌, ℕ, zero, suc, ◌+◌, ◌-◌, ◌*◌, ◌/◌, ◌%◌, ◌^◌, ◌<◌, ◌≤◌, Bool, true, false, not, ◌&&◌, ◌||◌, nat_le, List, length, take, replicate, min, max, slice_range, refl, ap, ap₂, sym, ◌∙◌, arith, inl, inr, cond, zero-add}
use Rattle.std.specs.Prelude.{count_by}
use Rattle.std.specs.List.{range_with_len}
use Rattle.std.proofs.lemmas.Bool.{cases_Bool}
use Rattle.std.proofs.lemmas.Bool.Decides.{nat_tests}
use Rattle.std.proofs.lemmas.List.FromFn.{get_or-map-range_with_len, length-range_with_len}
use Rattle.std.proofs.lemmas.List.{get_or-take, length-replicate}
use Rattle.std.proofs.lemmas.List.Sums.{count_by-le-length, sum_by-cons}
use Rattle.apfs_model.specs.Bytes.{bit_at, has_bit}
use Rattle.bit_lanes.proofs.RunLemmas.{bit_in_part, no_bits, zero_at}
use Rattle.apfs_model.specs.Blocks.{is_in, is_within}
use Rattle.apfs_model.specs.Counts.{given}
use Rattle.apfs_model.proofs.BoolTests.{left-true, right-true, both-true, below-from, upto-from, from-below, from-upto, clash}
use Rattle.bit_lanes.specs.Bits.{IsFirstDifference, ones_below, ones_of}
use Rattle.own_ledger.specs.Held.{HeldBlocks, holds, held_count, lies_in, IsEmpty, CanClaim, AddsRange, AddsPart, IsTwice, Agrees, IsLeastDifference}
use Rattle.bit_lanes.specs.Places.{is_from, AreClear, IsLeastSet}
use Rattle.own_ledger.specs.Inside.{marks_of, IsSound}

-- the ledger of a range and its bits
abbrev pub ledger_of : ℕ → ℕ → List ℕ → HeldBlocks
ledger_of first blocks bits = record { first = first; blocks = blocks; marks = marks_of bits blocks }

-- ---- tests

pub record IsPart (first length outer outer_length : ℕ) : Type 0 where
  pub above : outer ≤ first
  pub below : first + length ≤ outer + outer_length

pub part-from : (first length outer outer_length : ℕ) → is_within first length outer outer_length ≡ true → IsPart first length outer outer_length
part-from first length outer outer_length e = record {
  above = upto-from outer first (left-true (nat_le outer first) _ e);
  below = upto-from (first + length) (outer + outer_length) (right-true (nat_le outer first) _ e);
}

pub in-above : (block first length : ℕ) → is_in block first length ≡ true → first ≤ block
in-above block first length e = upto-from first block (left-true (nat_le first block) _ e)

pub in-below : (block first length : ℕ) → is_in block first length ≡ true → block < first + length
in-below block first length e = below-from block (first + length) (right-true (nat_le first block) _ e)

pub in-from : (block first length : ℕ) → first ≤ block → block < first + length → is_in block first length ≡ true
in-from block first length above below = both-true (nat_le first block) _ (from-upto first block above) (from-below block (first + length) below)

-- ---- which blocks are held

and-true : (a b c : Bool) → a ≡ true → b ≡ c → (a && b) ≡ c
and-true true b c e f = f
and-true false b c e f = clash false e refl

and-false : (a b : Bool) → a ≡ false → (a && b) ≡ false
and-false true b e = clash true refl e
and-false false b e = refl

-- a block of the range is held exactly where its bit is set
pub holds-at : (first blocks : ℕ) (bits : List ℕ) (block : ℕ) → is_in block first blocks ≡ true → holds (ledger_of first blocks bits) block ≡ bit_at bits (block - first)
unfolding holds marks_of
holds-at first blocks bits block one =
    let above = in-above block first blocks one in
    let below = in-below block first blocks one in
    and-true (is_in block first blocks) _ _ one (get_or-map-range_with_len (bit_at bits) 0 blocks (block - first) (block - first) false (omega arith) (omega arith))

-- no other block is held
pub holds-out : (first blocks : ℕ) (bits : List ℕ) (block : ℕ) → is_in block first blocks ≡ false → holds (ledger_of first blocks bits) block ≡ false
unfolding holds
holds-out first blocks bits block out = and-false (is_in block first blocks) _ out

pub holds-place : (first blocks : ℕ) (bits : List ℕ) (place : ℕ) → place < blocks → holds (ledger_of first blocks bits) (first + place) ≡ bit_at bits place
holds-place first blocks bits place low =
    holds-at first blocks bits (first + place) (in-from (first + place) first blocks (omega arith) (omega arith)) ∙ ap (bit_at bits) (omega arith)

-- a block isn't covered as a range of one
pub holds-uncovered : (ledger : HeldBlocks) (block : ℕ) → lies_in ledger block 1 ≡ false → false ≡ holds ledger block
unfolding holds
holds-uncovered ledger block out =
    let none : is_in block ledger.first ledger.blocks ≡ false = grind (arith, nat_tests) in
    sym (and-false (is_in block ledger.first ledger.blocks) _ none)

pub holds-covered : (first blocks : ℕ) (bits : List ℕ) (block : ℕ) → is_within block 1 first blocks ≡ true → bit_at bits (block - first) ≡ holds (ledger_of first blocks bits) block
holds-covered first blocks bits block inside =
    let part = part-from block 1 first blocks inside in
    let above = part.above in
    let below = part.below in
    sym (holds-at first blocks bits block (in-from block first blocks (omega arith) (omega arith)))

-- ---- a new ledger

no_bit : (n k : ℕ) → bit_at (replicate n 0) k ≡ false
no_bit n k = no_bits (replicate n 0) (zero_at n) k

pub new-empty : (first blocks n : ℕ) → IsEmpty (ledger_of first blocks (replicate n 0)) first blocks
new-empty first blocks n = record {
  first_is = refl;
  blocks_is = refl;
  free = λ block. elim (cases_Bool (is_in block first blocks)) [
    | inl one ↦ holds-at first blocks (replicate n 0) block one ∙ no_bit n (block - first)
    | inr out ↦ holds-out first blocks (replicate n 0) block out
  ];
}

pub new-sound : (first blocks n : ℕ) → first + blocks < 2 ^ 64 → n ≡ blocks / 8 + min 1 (blocks % 8) → IsSound first blocks (replicate n 0)
new-sound first blocks n ends long = record { ends = ends; long = length-replicate n 0 ∙ omega arith; rest = λ place above. no_bit n place }

-- ---- claims

pub claim-twice : (l_first blocks : ℕ) (bits : List ℕ) (first length place : ℕ) → lies_in (ledger_of l_first blocks bits) first length ≡ true →
    IsLeastSet bits (first - l_first) (first - l_first + length) place → IsTwice (ledger_of l_first blocks bits) first length (l_first + place)
claim-twice l_first blocks bits first length place inside least =
    let part = part-from first length l_first blocks inside in
    let above = part.above in
    let below = part.below in
    let place_above = least.above in
    let place_below = least.below in
    record {
      inside = inside;
      one = in-from (l_first + place) first length (omega arith) (omega arith);
      held = holds-place l_first blocks bits place (omega arith) ∙ least.is_set;
      least = λ lower one before.
          let lower_above = in-above lower first length one in
          let lower_below = in-below lower first length one in
          holds-at l_first blocks bits lower (in-from lower l_first blocks (omega arith) (omega arith)) ∙ least.least (lower - l_first) (omega arith) (omega arith);
    }

pub claim-clear : (l_first blocks : ℕ) (bits : List ℕ) (first length : ℕ) → lies_in (ledger_of l_first blocks bits) first length ≡ true →
    AreClear bits (first - l_first) (first - l_first + length) → CanClaim (ledger_of l_first blocks bits) first length
claim-clear l_first blocks bits first length inside clear =
    let part = part-from first length l_first blocks inside in
    let above = part.above in
    let below = part.below in
    record {
      inside = λ some. inside;
      free = λ block one.
          let block_above = in-above block first length one in
          let block_below = in-below block first length one in
          holds-at l_first blocks bits block (in-from block l_first blocks (omega arith) (omega arith)) ∙ clear (block - l_first) (omega arith) (omega arith);
    }

pub claim-adds : (l_first blocks : ℕ) (old new : List ℕ) (first length : ℕ) → lies_in (ledger_of l_first blocks old) first length ≡ true →
    ((k : ℕ) → bit_at new k ≡ (bit_at old k || is_from (first - l_first) (first - l_first + length) k)) →
    AddsRange (ledger_of l_first blocks old) (ledger_of l_first blocks new) first length
claim-adds l_first blocks old new first length inside set =
    let part = part-from first length l_first blocks inside in
    let above = part.above in
    let below = part.below in
    record {
      same_first = refl;
      same_blocks = refl;
      held = λ block. elim (cases_Bool (is_in block l_first blocks)) [
        | inl one ↦
            let block_above = in-above block l_first blocks one in
            let block_below = in-below block l_first blocks one in
            let same : is_from (first - l_first) (first - l_first + length) (block - l_first) ≡ is_in block first length = grind (arith, nat_tests) in
            holds-at l_first blocks new block one ∙ set (block - l_first)
            ∙ ap₂ (λ a b. a || b) (sym (holds-at l_first blocks old block one)) same
        | inr out ↦
            let none : is_in block first length ≡ false = grind (arith, nat_tests) in
            holds-out l_first blocks new block out ∙ sym (ap₂ (λ a b. a || b) (holds-out l_first blocks old block out) none)
      ];
    }

-- a part of a range, from its greater first block up to its lesser end
pub hold-adds : (l_first blocks : ℕ) (old new : List ℕ) (first length from to : ℕ) → (max first l_first ≡ l_first + from) → (min (first + length) (l_first + blocks) ≡ l_first + to) →
    ((k : ℕ) → bit_at new k ≡ (bit_at old k || is_from from to k)) →
    AddsPart (ledger_of l_first blocks old) (ledger_of l_first blocks new) first length
hold-adds l_first blocks old new first length from to begins ends set = record {
  same_first = refl;
  same_blocks = refl;
  held = λ block one.
      let block_above = in-above block l_first blocks one in
      let block_below = in-below block l_first blocks one in
      let same : is_from from to (block - l_first) ≡ is_in block first length = grind (arith, nat_tests) in
      holds-at l_first blocks new block one ∙ set (block - l_first)
      ∙ ap₂ (λ a b. a || b) (sym (holds-at l_first blocks old block one)) same;
}

or-false : (b : Bool) → b ≡ (b || false)
or-false true = refl
or-false false = refl

-- no block of a range lies in the ledger's
pub hold-none : (l_first blocks : ℕ) (bits : List ℕ) (first length : ℕ) → min (first + length) (l_first + blocks) ≤ max first l_first →
    AddsPart (ledger_of l_first blocks bits) (ledger_of l_first blocks bits) first length
hold-none l_first blocks bits first length past = record {
  same_first = refl;
  same_blocks = refl;
  held = λ block one.
      let block_above = in-above block l_first blocks one in
      let block_below = in-below block l_first blocks one in
      let none : is_in block first length ≡ false = grind (arith, nat_tests) in
      or-false (holds (ledger_of l_first blocks bits) block) ∙ ap (λ b. holds (ledger_of l_first blocks bits) block || b) (sym none);
}

-- ---- comparisons

pub bit_in_front : (bytes : List ℕ) (n k : ℕ) → k < 8 * n → bit_at (take n bytes) k ≡ bit_at bytes k
unfolding bit_at
bit_in_front bytes n k low = ap (λ b. has_bit b (k % 8)) (get_or-take n bytes (k / 8) 0 (omega arith))

differ-not : (a b h : Bool) → (a ≡ b → ⊥) → h ≡ a → b ≡ not h
differ-not true true h apart same = absurd (apart refl)
differ-not true false h apart same = ap not (sym same)
differ-not false true h apart same = ap not (sym same)
differ-not false false h apart same = absurd (apart refl)

-- a part of the bits that begins with a whole byte, and other bits, as many bytes of both as the blocks need
module _ (l_first blocks : ℕ) (own : List ℕ) (first count bytes : ℕ) (bits : List ℕ) (inside : lies_in (ledger_of l_first blocks own) first count ≡ true)
    (whole : (first - l_first) % 8 ≡ 0) (enough : count ≤ 8 * bytes) where
  left_part : List ℕ
  left_part = slice_range own ((first - l_first) / 8) ((first - l_first) / 8 + bytes)

  held-left : (place : ℕ) → place < count → holds (ledger_of l_first blocks own) (first + place) ≡ bit_at left_part place
  unfolding left_part
  held-left place low =
      let part = part-from first count l_first blocks inside in
      let above = part.above in
      let below = part.below in
      let at : ℕ = (first - l_first) / 8 in
      let same : first + place ≡ l_first + (8 * at + place) = omega arith in
      ap (holds (ledger_of l_first blocks own)) same ∙ holds-place l_first blocks own (8 * at + place) (omega arith)
      ∙ sym (bit_in_part own at (at + bytes) place (omega arith))

  pub compare-agrees : (n : ℕ) → n ≤ count → ((k : ℕ) → k < n → bit_at (slice_range own ((first - l_first) / 8) ((first - l_first) / 8 + bytes)) k ≡ bit_at (take bytes bits) k) → Agrees (ledger_of l_first blocks own) first bits n
  unfolding left_part
  compare-agrees n few same place low = held-left place (omega arith) ∙ same place low ∙ bit_in_front bits bytes place (omega arith)

  pub compare-differs : (place : ℕ) (held : Bool) → place < count → held ≡ holds (ledger_of l_first blocks own) (first + place) →
      IsFirstDifference (slice_range own ((first - l_first) / 8) ((first - l_first) / 8 + bytes)) (take bytes bits) place →
      IsLeastDifference (ledger_of l_first blocks own) first count bits (record { block = first + place; held = held })
  unfolding left_part
  compare-differs place held low is difference = record {
    place = place;
    low = low;
    at = refl;
    held = sym is;
    bit = sym (bit_in_front bits bytes place (omega arith)) ∙ differ-not (bit_at left_part place) (bit_at (take bytes bits) place) held difference.differs (is ∙ held-left place low);
    least = compare-agrees place (omega arith) difference.least;
  }

-- ---- how many blocks are held

abbrev one_or_none : (ℕ → Bool) → ℕ → ℕ
one_or_none p i = cond (p i) 1 0

pub count_first : (p : ℕ → Bool) (a n : ℕ) → count_by p (range_with_len a (suc n)) ≡ one_or_none p a + count_by p (range_with_len (a + 1) n)
count_first p a n = sum_by-cons (one_or_none p) a (range_with_len (a + 1) n)

pub count_same : (p q : ℕ → Bool) (a b n : ℕ) → ((i : ℕ) → i < n → p (a + i) ≡ q (b + i)) → count_by p (range_with_len a n) ≡ count_by q (range_with_len b n)
count_same p q a b zero same = refl
count_same p q a b (suc n) same =
    let here : p a ≡ q b = ap p (omega arith) ∙ same 0 (omega arith) ∙ ap q (omega arith) in
    let rest : count_by p (range_with_len (a + 1) n) ≡ count_by q (range_with_len (b + 1) n) = count_same p q (a + 1) (b + 1) n (λ i low. ap p (omega arith) ∙ same (i + 1) (omega arith) ∙ ap q (omega arith)) in
    count_first p a n ∙ ap₂ (λ (x : Bool) (m : ℕ). cond x 1 0 + m) here rest ∙ sym (count_first q b n)

count_none : (p : ℕ → Bool) (a n : ℕ) → ((i : ℕ) → a ≤ i → p i ≡ false) → count_by p (range_with_len a n) ≡ 0
count_none p a zero none = refl
count_none p a (suc n) none =
    count_first p a n ∙ ap₂ (λ (x : Bool) (m : ℕ). cond x 1 0 + m) (none a (omega arith)) (count_none p (a + 1) n (λ i above. none i (omega arith)))

pub count_split : (p : ℕ → Bool) (a n m : ℕ) → count_by p (range_with_len a (n + m)) ≡ count_by p (range_with_len a n) + count_by p (range_with_len (a + n) m)
count_split p a zero m =
    let left : 0 + m ≡ m = omega arith in
    let right : a ≡ a + 0 = omega arith in
    ap (λ k. count_by p (range_with_len a k)) left ∙ ap (λ k. count_by p (range_with_len k m)) right ∙ omega arith
count_split p a (suc n) m =
    let left : suc n + m ≡ suc (n + m) = omega arith in
    let right : a + 1 + n ≡ a + suc n = omega arith in
    let rest = count_split p (a + 1) n m in
    let moved : count_by p (range_with_len (a + 1 + n) m) ≡ count_by p (range_with_len (a + suc n) m) = ap (λ k. count_by p (range_with_len k m)) right in
    let before = count_first p a n in
    let after = count_first p a (n + m) in
    ap (λ k. count_by p (range_with_len a k)) left ∙ omega (arith, before, after, rest, moved)

-- one number more
pub count_more : (p : ℕ → Bool) (n : ℕ) → count_by p (range_with_len 0 (n + 1)) ≡ count_by p (range_with_len 0 n) + cond (p n) 1 0
count_more p n = count_split p 0 n 1 ∙ omega (arith, count_first p (0 + n) 0, ap {B = ℕ} (λ k. cond (p k) 1 0) (zero-add n))

pub count_bound : (p : ℕ → Bool) (a n : ℕ) → count_by p (range_with_len a n) ≤ n
count_bound p a n = omega (arith, count_by-le-length p (range_with_len a n), length-range_with_len a n)

-- the bits that are set are as many as the blocks that are held
pub ones_are_held : (first blocks : ℕ) (bits : List ℕ) → IsSound first blocks bits → given (ones_of bits) ≡ held_count (ledger_of first blocks bits)
unfolding ones_of held_count
ones_are_held first blocks bits sound =
    let long = sound.long in
    let ends = sound.ends in
    let rest : ℕ = 8 * length bits - blocks in
    let all : 8 * length bits ≡ blocks + rest = omega arith in
    let split : ones_below bits (8 * length bits) ≡ count_by (bit_at bits) (range_with_len 0 blocks) + count_by (bit_at bits) (range_with_len (0 + blocks) rest) =
    ap (ones_below bits) all ∙ count_split (bit_at bits) 0 blocks rest in
    let none : count_by (bit_at bits) (range_with_len (0 + blocks) rest) ≡ 0 = count_none (bit_at bits) (0 + blocks) rest (λ i above. sound.rest i (omega arith)) in
    let same : count_by (bit_at bits) (range_with_len 0 blocks) ≡ count_by (holds (ledger_of first blocks bits)) (range_with_len first blocks) =
    count_same (bit_at bits) (holds (ledger_of first blocks bits)) 0 first blocks (λ i low. ap (bit_at bits) (omega arith) ∙ sym (holds-place first blocks bits i low)) in
    let bound = count_bound (bit_at bits) 0 blocks in
    omega (arith, split, none, same, bound)
