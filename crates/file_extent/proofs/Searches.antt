-- Which extent covers a byte, where extents rise.
use Rattle.std.proofs.Common.{◌≡◌, ℕ, zero, suc, ◌+◌, ◌<◌, ◌≤◌, true, false, cond, nat_le, List, [], ◌∷◌, ◌++◌, Some, None, refl, ap, ◌∙◌, subst, arith}
use Rattle.std.specs.List.{slice_get, list_any}
use Rattle.std.proofs.lemmas.Bool.Decides.{nat_tests}
use Rattle.std.proofs.lemmas.Grind.{common_steps}
use Rattle.std.proofs.lemmas.Option.{none-some, same_Some}
use Rattle.apfs_model.proofs.BoolTests.{left-true, right-true, both-true, upto-from, from-upto, false-not}
use Rattle.fs_record.specs.StreamExtents.{extent_end, covers, overlap, are_apart}
use Rattle.fs_record.specs.declared.extents.FileExt.{FileExt}
use Rattle.file_extent.specs.Streams.{extent_over}
use Rattle.file_extent.specs.Laid.{are_rising, last_end, IsPart}

covers-not-before : (e : FileExt) (j : ℕ) → j < e.logical → covers e j ≡ false
covers-not-before e j low = grind (arith, nat_tests)

covers-not-after : (e : FileExt) (j : ℕ) → extent_end e ≤ j → covers e j ≡ false
covers-not-after e j high = grind (arith, nat_tests)

covers-within : (e : FileExt) (j : ℕ) → e.logical ≤ j → j < extent_end e → covers e j ≡ true
covers-within e j low high = grind (arith, nat_tests)

over-miss : (e : FileExt) (es : List FileExt) (j : ℕ) → covers e j ≡ false → extent_over (e ∷ es) j ≡ extent_over es j
over-miss e es j miss = ap (λ b. cond b (Some e) (extent_over es j)) miss

-- before the first of them none covers a byte
none-before : (from j : ℕ) (es : List FileExt) → are_rising from es ≡ true → j < from → extent_over es j ≡ None
none-before from j [] rising low = refl
none-before from j (e ∷ es) rising low =
    let first : from ≤ e.logical = upto-from from e.logical (left-true (nat_le from e.logical) (are_rising (extent_end e) es) rising) in
    over-miss e es j (covers-not-before e j (omega arith))
    ∙ none-before (extent_end e) j es (right-true (nat_le from e.logical) (are_rising (extent_end e) es) rising) (omega arith)

pub over-none : (from j : ℕ) (es : List FileExt) → are_rising from es ≡ true → ((f : FileExt) → slice_get es 0 ≡ Some f → j < f.logical) → extent_over es j ≡ None
over-none from j [] rising next = refl
over-none from j (e ∷ es) rising next =
    none-before e.logical j (e ∷ es) (both-true (nat_le e.logical e.logical) (are_rising (extent_end e) es) (from-upto e.logical e.logical (omega arith)) (right-true (nat_le from e.logical) (are_rising (extent_end e) es) rising)) (next e refl)

rises-at : (from k : ℕ) (es : List FileExt) (e : FileExt) → are_rising from es ≡ true → slice_get es k ≡ Some e → from ≤ e.logical
rises-at from k [] e rising at = absurd (none-some e at)
rises-at from zero (x ∷ es) e rising at =
    let same : x ≡ e = same_Some x e at in
    subst (λ (f : FileExt). from ≤ f.logical) same (upto-from from x.logical (left-true (nat_le from x.logical) (are_rising (extent_end x) es) rising))
rises-at from (suc k) (x ∷ es) e rising at =
    let first : from ≤ x.logical = upto-from from x.logical (left-true (nat_le from x.logical) (are_rising (extent_end x) es) rising) in
    let later : extent_end x ≤ e.logical = rises-at (extent_end x) k es e (right-true (nat_le from x.logical) (are_rising (extent_end x) es) rising) at in
    omega arith

-- an extent begins where the one before it ends, or after that
pub rises-next : (from k n : ℕ) (es : List FileExt) (e f : FileExt) → are_rising from es ≡ true → slice_get es k ≡ Some e → slice_get es n ≡ Some f → n ≡ k + 1 → extent_end e ≤ f.logical
rises-next from k n [] e f rising at next same = absurd (none-some e at)
rises-next from k zero (x ∷ es) e f rising at next same = absurd (omega arith)
rises-next from zero (suc n) (x ∷ es) e f rising at next same =
    let here : x ≡ e = same_Some x e at in
    let later : extent_end x ≤ f.logical = rises-at (extent_end x) n es f (right-true (nat_le from x.logical) (are_rising (extent_end x) es) rising) next in
    subst (λ (y : FileExt). extent_end y ≤ f.logical) here later
rises-next from (suc k) (suc n) (x ∷ es) e f rising at next same =
    rises-next (extent_end x) k n es e f (right-true (nat_le from x.logical) (are_rising (extent_end x) es) rising) at next (omega arith)

-- the last extent that begins at a byte or before it is the one that covers it, if one does
pub over-some : (from j k n : ℕ) (es : List FileExt) (e : FileExt) → are_rising from es ≡ true → slice_get es k ≡ Some e → n ≡ k + 1 → e.logical ≤ j → ((f : FileExt) → slice_get es n ≡ Some f → j < f.logical) → extent_over es j ≡ cond (covers e j) (Some e) None
over-some from j k n [] e rising at same low next = absurd (none-some e at)
over-some from j k zero (x ∷ es) e rising at same low next = absurd (omega arith)
over-some from j zero (suc n) (x ∷ es) e rising at same low next =
    let here : x ≡ e = same_Some x e at in
    let none : extent_over es j ≡ None = over-none (extent_end x) j es (right-true (nat_le from x.logical) (are_rising (extent_end x) es) rising) (λ f q. next f (ap (slice_get es) (let z : n ≡ 0 = omega arith in z) ∙ q)) in
    ap (λ o. cond (covers x j) (Some x) o) none ∙ ap (λ (y : FileExt). cond (covers y j) (Some y) None) here
over-some from j (suc k) (suc n) (x ∷ es) e rising at same low next =
    let rest = right-true (nat_le from x.logical) (are_rising (extent_end x) es) rising in
    let later : extent_end x ≤ e.logical = rises-at (extent_end x) k es e rest at in
    over-miss x es j (covers-not-after x j (omega arith)) ∙ over-some (extent_end x) j k n es e rest at (omega arith) low next

-- a part that an extent covers
pub part-covered : (es : List FileExt) (k n i left : ℕ) (e : FileExt) → are_rising 0 es ≡ true → slice_get es k ≡ Some e → n ≡ k + 1 → e.logical ≤ i → 0 < left → i + left ≤ extent_end e → IsPart es i (Some e) left
part-covered es k n i left e rising at same low some ends = record {
  some = some;
  same = λ j from to.
      over-some 0 j k n es e rising at same (omega arith) (λ f q. let later : extent_end e ≤ f.logical = rises-next 0 k n es e f rising at q same in omega arith)
      ∙ ap (λ b. cond b (Some e) None) (covers-within e j (omega arith) (omega arith));
}

-- a part that none covers, after an extent or before the first
pub part-uncovered : (es : List FileExt) (k n i left : ℕ) (e : FileExt) → are_rising 0 es ≡ true → slice_get es k ≡ Some e → n ≡ k + 1 → e.logical ≤ i → extent_end e ≤ i → 0 < left → ((f : FileExt) → slice_get es n ≡ Some f → i + left ≤ f.logical) → IsPart es i None left
part-uncovered es k n i left e rising at same low past some next = record {
  some = some;
  same = λ j from to.
      over-some 0 j k n es e rising at same (omega arith) (λ f q. let later : i + left ≤ f.logical = next f q in omega arith)
      ∙ ap (λ b. cond b (Some e) None) (covers-not-after e j (omega arith));
}

pub part-first : (es : List FileExt) (i left : ℕ) → are_rising 0 es ≡ true → 0 < left → ((f : FileExt) → slice_get es 0 ≡ Some f → i + left ≤ f.logical) → IsPart es i None left
part-first es i left rising some next = record {
  some = some;
  same = λ j from to. over-none 0 j es rising (λ f q. let later : i + left ≤ f.logical = next f q in omega arith);
}

-- ---- one more extent
pub rising-push : (from : ℕ) (es : List FileExt) (e : FileExt) → are_rising from es ≡ true → last_end from es ≤ e.logical → are_rising from (es ++ e ∷ []) ≡ true
rising-push from [] e rising low = both-true (nat_le from e.logical) true (from-upto from e.logical low) refl
rising-push from (x ∷ es) e rising low =
    both-true (nat_le from x.logical) (are_rising (extent_end x) (es ++ e ∷ [])) (left-true (nat_le from x.logical) (are_rising (extent_end x) es) rising)
    (rising-push (extent_end x) es e (right-true (nat_le from x.logical) (are_rising (extent_end x) es) rising) low)

-- ---- extents that rise are apart
apart-from : (x : FileExt) (from : ℕ) (es : List FileExt) → are_rising from es ≡ true → extent_end x ≤ from → list_any (overlap x) es ≡ false
apart-from x from [] rising low = refl
apart-from x from (e ∷ es) rising low =
    let first : from ≤ e.logical = upto-from from e.logical (left-true (nat_le from e.logical) (are_rising (extent_end e) es) rising) in
    let here : overlap x e ≡ false = grind (arith, nat_tests) in
    let rest : list_any (overlap x) es ≡ false = apart-from x (extent_end e) es (right-true (nat_le from e.logical) (are_rising (extent_end e) es) rising) (omega arith) in
    grind (arith, nat_tests, common_steps, here, rest)

pub rising-apart : (from : ℕ) (es : List FileExt) → are_rising from es ≡ true → are_apart es ≡ true
rising-apart from [] rising = refl
rising-apart from (e ∷ es) rising =
    let rest = right-true (nat_le from e.logical) (are_rising (extent_end e) es) rising in
    both-true _ (are_apart es) (false-not (list_any (overlap e) es) (apart-from e (extent_end e) es rest (omega arith))) (rising-apart (extent_end e) es rest)
