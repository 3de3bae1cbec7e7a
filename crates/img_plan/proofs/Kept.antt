-- Numbers that stay where others are written, and numbers in zeros.
use Rattle.std.proofs.Common.{◌≡◌, ℕ, zero, suc, ◌+◌, ◌-◌, ◌<◌, ◌≤◌, List, ◌++◌, length, take, drop, replicate, get_or, set, refl, ap, subst, sym, ◌∙◌, inl, inr, arith}
use Rattle.std.proofs.lemmas.Bool.{cases_lt}
use Rattle.std.proofs.lemmas.List.{append-nil, get_or-take, get_or-drop, get_or-replicate, get_or_past, drop-drop, drop_all, drop_at, take_at, take_all, take-set-le, length-drop, length-take-le, length-replicate}
use Rattle.img_edit.proofs.Sealed.{number_past}
use Rattle.apfs_model.specs.Bytes.{number_at, u16_at, u64_at}
use Rattle.img_edit.specs.Edits.{IsSameAround, put_at}
use Rattle.img_plan.specs.Records.{EndsInName}

-- a number before a place stays where the bytes before it do
pub number_before : (n : ℕ) (old new : List ℕ) (at start : ℕ) → at + n ≤ start → take start new ≡ take start old → number_at n new at ≡ number_at n old at
number_before zero old new at start inside same = refl
number_before (suc n) old new at start inside same =
    let here : at < start = omega (arith, inside) in
    let first : get_or new at 0 ≡ get_or old at 0 = sym (get_or-take start new at 0 here) ∙ ap (λ l. get_or l at 0) same ∙ get_or-take start old at 0 here in
    let rest : number_at n new (suc at) ≡ number_at n old (suc at) = number_before n old new (suc at) start (omega (arith, inside)) same in
    cc

-- a number of 64 bits before the bytes that are written stays
pub u64_before : (old new : List ℕ) (at start end : ℕ) → at + 8 ≤ start → IsSameAround start end old new → u64_at new at ≡ u64_at old at
unfolding u64_at
u64_before old new at start end inside same = number_before 8 old new at start inside same.before

-- a number of 64 bits after the bytes that are written stays
pub u64_after : (old new : List ℕ) (at start end : ℕ) → end ≤ at → IsSameAround start end old new → u64_at new at ≡ u64_at old at
unfolding u64_at
u64_after old new at start end past same = number_past 8 new old end (at - end) at (omega (arith, past)) same.after

-- what stays behind a place stays behind each later one
pub drop_later : (old new : List ℕ) (end later : ℕ) → end ≤ later → drop end new ≡ drop end old → drop later new ≡ drop later old
drop_later old new end later past same =
    let e : end + (later - end) ≡ later = omega (arith, past) in
    ap (λ n. drop n new) (sym e) ∙ sym (drop-drop (later - end) end new) ∙ ap (λ l. drop (later - end) l) same ∙ drop-drop (later - end) end old ∙ ap (λ n. drop n old) e

-- what is put at a place leaves the bytes before it
pub take_put : (at : ℕ) (part bytes : List ℕ) → at ≤ length bytes → take at (put_at at part bytes) ≡ take at bytes
take_put at part bytes inside = take_at (take at bytes) (part ++ drop (at + length part) bytes) at (length-take-le at bytes inside)

-- behind the place stands what is put there, and then what stood behind it
pub drop_put : (at : ℕ) (part bytes : List ℕ) → at ≤ length bytes → drop at (put_at at part bytes) ≡ part ++ drop (at + length part) bytes
drop_put at part bytes inside = drop_at (take at bytes) (part ++ drop (at + length part) bytes) at (length-take-le at bytes inside)

-- what stands behind a place after the bytes that are written stays
pub rest_stays : (old new : List ℕ) (start end later : ℕ) → end ≤ later → IsSameAround start end old new → drop later new ≡ drop later old
rest_stays old new start end later past same = drop_later old new end later past same.after

-- a name at the end stays where the bytes behind a place before it do
pub name_stays : (place : ℕ) (name old new : List ℕ) (end : ℕ) → end ≤ place → drop end new ≡ drop end old → EndsInName place name old → EndsInName place name new
unfolding u16_at
name_stays place name old new end past same named = record {
  len = number_past 2 new old end (place - end) place (omega (arith, past)) same ∙ named.len;
  rest = drop_later old new end (place + 2) (omega (arith, past)) same ∙ named.rest;
}

-- each of some zeros is 0, and so is what is behind them
zero_in_zeros : (k at : ℕ) → ◌≡◌ {A = ℕ} (get_or (replicate k 0) at 0) 0
zero_in_zeros k at =
    elim (cases_lt at k) [
      | inl h ↦ get_or-replicate k at 0 0 h
      | inr h ↦ get_or_past (replicate k 0) at 0 (omega (arith, h, length-replicate {A = ℕ} k 0))
    ]

-- a number of zeros is 0
pub number_in_zeros : (n k at : ℕ) → number_at n (replicate k 0) at ≡ 0
number_in_zeros zero k at = refl
number_in_zeros (suc n) k at =
    let first : ◌≡◌ {A = ℕ} (get_or (replicate k 0) at 0) 0 = zero_in_zeros k at in
    let rest : number_at n (replicate k 0) (suc at) ≡ 0 = number_in_zeros n k (suc at) in
    omega (arith, first, rest)

-- a number in bytes that start as another list does is that list's
pub number_in_front : (n m at : ℕ) (bytes : List ℕ) → at + n ≤ m → take m bytes ≡ replicate m 0 → number_at n bytes at ≡ 0
number_in_front n m at bytes inside zeros =
    let all : take m (replicate m 0) ≡ replicate m 0 = take_all m (replicate m 0) (omega (arith, length-replicate {A = ℕ} m 0)) in
    number_before n (replicate m 0) bytes at m inside (zeros ∙ sym all) ∙ number_in_zeros n m at

-- a number of n bytes before the bytes that are written stays
pub stays_before : (n : ℕ) (old new : List ℕ) (at start end : ℕ) → at + n ≤ start → IsSameAround start end old new → number_at n new at ≡ number_at n old at
stays_before n old new at start end inside same = number_before n old new at start inside same.before

-- a number of n bytes after the bytes that are written stays
pub stays_after : (n : ℕ) (old new : List ℕ) (at start end : ℕ) → end ≤ at → IsSameAround start end old new → number_at n new at ≡ number_at n old at
stays_after n old new at start end past same = number_past n new old end (at - end) at (omega (arith, past)) same.after

-- behind a place stands what was written in place of all that was there
pub part_behind : (place n : ℕ) (old part : List ℕ) → place ≤ length old → length old ≤ place + n → drop place (take place old ++ (part ++ drop n (drop place old))) ≡ part
part_behind place n old part inside all =
    drop_at (take place old) (part ++ drop n (drop place old)) place (length-take-le place old inside) ∙ ap (λ l. part ++ l) (drop_all n (drop place old) (omega (arith, length-drop place old))) ∙ append-nil part

-- what holds of bytes that were lent holds of them where they are written back to
pub written_back : (P : List ℕ → Type 0) (n : ℕ) (new rest : List ℕ) → length new ≡ n → P new → P (take n (new ++ rest))
written_back P n new rest long p = subst P (sym (take_at new rest n long)) p

-- a byte before a place stays where the bytes before that place do
pub byte_before : (old new : List ℕ) (at start : ℕ) → at < start → take start new ≡ take start old → ◌≡◌ {A = ℕ} (get_or new at 0) (get_or old at 0)
byte_before old new at start inside same = sym (get_or-take start new at 0 inside) ∙ ap (λ (l : List ℕ). get_or l at 0) same ∙ get_or-take start old at 0 inside

-- a number before the place of a byte that is written stays
pub number_set : (n : ℕ) (bytes : List ℕ) (place byte at : ℕ) → at + n ≤ place → number_at n (set bytes place byte) at ≡ number_at n bytes at
number_set n bytes place byte at inside = number_before n bytes (set bytes place byte) at place inside (take-set-le place bytes place byte (omega arith))

-- a number before the place of bytes that are put stays
pub number_put : (n at place : ℕ) (part bytes : List ℕ) → at + n ≤ place → place ≤ length bytes → number_at n (put_at place part bytes) at ≡ number_at n bytes at
number_put n at place part bytes inside long = number_before n bytes (put_at place part bytes) at place inside (take_put place part bytes long)

-- a number in the bytes behind a place is the one that stands there
pub number_behind : (n m at : ℕ) (bytes : List ℕ) → number_at n (drop m bytes) at ≡ number_at n bytes (m + at)
number_behind zero m at bytes = refl
number_behind (suc n) m at bytes =
    let first : ◌≡◌ {A = ℕ} (get_or (drop m bytes) at 0) (get_or bytes (m + at) 0) = get_or-drop m bytes at 0 in
    let rest : number_at n (drop m bytes) (suc at) ≡ number_at n bytes (m + suc at) = number_behind n m (suc at) bytes in
    let e : m + suc at ≡ suc (m + at) = omega arith in
    let moved : number_at n (drop m bytes) (suc at) ≡ number_at n bytes (suc (m + at)) = rest ∙ ap (λ k. number_at n bytes k) e in
    cc
