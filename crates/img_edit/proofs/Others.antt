-- What an edit of one block leaves of the others.
use Rattle.std.proofs.Common.{◌≡◌, ◌≢◌, ℕ, suc, ◌+◌, ◌*◌, ◌-◌, ◌<◌, ◌≤◌, inl, inr, List, take, drop, ap, sym, ◌∙◌, arith}
use Rattle.std.proofs.lemmas.List.{drop-drop, take-take, drop-take}
use Rattle.std.proofs.lemmas.Bool.{cases_lt}
use Rattle.std.proofs.Math.Nat.{eq-or-lt_of_le, mul-le-mul_left, mul-suc}
use Rattle.apfs_model.specs.Blocks.{block_of}
use Rattle.img_edit.specs.Edits.{IsSameAround}

-- so many bytes from a place on, of the bytes before a later place
pub part_before : (a s b : ℕ) (l : List ℕ) → a + s ≤ b → take s (drop a l) ≡ drop a (take (a + s) (take b l))
part_before a s b l h = sym (drop-take a s l) ∙ ap (λ m. drop a m) (sym (take-take (a + s) b l h))

-- so many bytes from a place on, of the bytes after an earlier place
pub part_after : (a s b : ℕ) (l : List ℕ) → b ≤ a → take s (drop a l) ≡ take s (drop (a - b) (drop b l))
part_after a s b l h =
    let e : b + (a - b) ≡ a = omega (arith, h) in
    ap (λ m. take s (drop m l)) (sym e) ∙ ap (λ m. take s m) (sym (drop-drop (a - b) b l))

-- a block starts after each block before it
pub blocks_apart : (s k j : ℕ) → k < j → s * k + s ≤ s * j
blocks_apart s k j h =
    let m : s * suc k ≤ s * j = mul-le-mul_left s (omega (arith, h)) in
    let e : s * suc k ≡ s * k + s = grind (arith, mul-suc) in
    omega (arith, m, e)

pub before_stays : (s j k : ℕ) (old new : List ℕ) → take (s * j) new ≡ take (s * j) old → k < j → block_of s new k ≡ block_of s old k
unfolding block_of
before_stays s j k old new same h =
    let n : s * k + s - s * k ≡ s = omega arith in
    rw n (part_before (s * k) s (s * j) new (blocks_apart s k j h)
    ∙ ap (λ m. drop (s * k) (take (s * k + s) m)) same
    ∙ sym (part_before (s * k) s (s * j) old (blocks_apart s k j h)))

pub after_stays : (s j k : ℕ) (old new : List ℕ) → drop (s * j + s) new ≡ drop (s * j + s) old → j < k → block_of s new k ≡ block_of s old k
unfolding block_of
after_stays s j k old new same h =
    let n : s * k + s - s * k ≡ s = omega arith in
    rw n (part_after (s * k) s (s * j + s) new (blocks_apart s j k h)
    ∙ ap (λ m. take s (drop (s * k - (s * j + s)) m)) same
    ∙ sym (part_after (s * k) s (s * j + s) old (blocks_apart s j k h)))

-- all blocks but the one that is edited stay
pub other_stays : (s j k : ℕ) (old new : List ℕ) → IsSameAround (s * j) (s * j + s) old new → k ≢ j → block_of s new k ≡ block_of s old k
other_stays s j k old new same apart =
    elim (cases_lt k j) [
      | inl h ↦ before_stays s j k old new same.before h
      | inr h ↦ elim (eq-or-lt_of_le h) [
        | inl e ↦ absurd (apart (sym e))
        | inr l ↦ after_stays s j k old new same.after l
      ]
    ]
