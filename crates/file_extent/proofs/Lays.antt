-- An extent after those before it.
use Rattle.std.proofs.Common.{◌≡◌, ℕ, zero, suc, ◌+◌, ◌-◌, ◌<◌, ◌≤◌, ◌^◌, Bool, true, false, not, ◌&&◌, List, [], ◌∷◌, ◌++◌, length, Some, None, inl, inr, refl, ap, sym, ◌∙◌, subst, arith}
use Rattle.std.specs.List.{slice_get, list_all, list_any}
use Rattle.std.proofs.lemmas.Bool.Decides.{nat_tests}
use Rattle.std.proofs.lemmas.Grind.{common_steps}
use Rattle.std.proofs.lemmas.Option.{none-some, same_Some}
use Rattle.std.proofs.lemmas.List.Folds.{list_all-append}
use Rattle.apfs_model.specs.Lists.{In}
use Rattle.apfs_model.proofs.BoolTests.{both-true, left-or, right-or, all-in}
use Rattle.obj_base.specs.declared.site.Site.{Site}
use Rattle.fs_record.specs.StreamExtents.{extent_end, overlap, is_extent_even, is_extent_placed, are_apart, are_extents_ordered}
use Rattle.fs_record.specs.declared.extents.FileExt.{FileExt}
use Rattle.file_extent.specs.Streams.{are_extents_placed}
use Rattle.file_extent.specs.Laid.{last_end, AreLaid}
use Rattle.file_extent.specs.Collected.{IsMisordered}
use Rattle.file_extent.proofs.Searches.{rising-push, rising-apart}

-- the end of the last extent
last-at : (from k : ℕ) (es : List FileExt) (e : FileExt) → k + 1 ≡ length es → slice_get es k ≡ Some e → last_end from es ≡ extent_end e
last-at from k [] e long at = absurd (none-some e at)
last-at from zero (x ∷ []) e long at = ap extent_end (same_Some x e at)
last-at from zero (x ∷ y ∷ es) e long at = absurd (omega arith)
last-at from (suc k) (x ∷ es) e long at = last-at (extent_end x) k es e (omega arith) at

at-in : (k : ℕ) (es : List FileExt) (e : FileExt) → slice_get es k ≡ Some e → In e es
at-in k [] e at = absurd (none-some e at)
at-in zero (x ∷ es) e at = inl (sym (same_Some x e at))
at-in (suc k) (x ∷ es) e at = inr (at-in k es e at)

none-at : (k : ℕ) (es : List FileExt) → k + 1 ≡ length es → slice_get es k ≡ None → es ≡ []
none-at k [] long at = refl
none-at zero (x ∷ es) long at = absurd (cc)
none-at (suc k) (x ∷ es) long at = absurd (some-none-at k es (omega arith) at)
  where
    some-none-at : (k : ℕ) (es : List FileExt) → k + 1 ≡ length es → slice_get es k ≡ None → ⊥
    some-none-at k [] long at = absurd (omega arith)
    some-none-at zero (x ∷ es) long at = cc
    some-none-at (suc k) (x ∷ es) long at = some-none-at k es (omega arith) at

pub follows_none : (es : List FileExt) (e : FileExt) → slice_get es (length es - 1) ≡ None → last_end 0 es ≤ e.logical
follows_none [] e at = omega arith
follows_none (x ∷ es) e at = let none : x ∷ es ≡ [] = none-at (length (x ∷ es) - 1) (x ∷ es) (omega arith) at in absurd (cc)

some-long : (es : List FileExt) (e : FileExt) → slice_get es (length es - 1) ≡ Some e → (length es - 1) + 1 ≡ length es
some-long [] e at = absurd (none-some e at)
some-long (x ∷ es) e at = omega arith

pub follows_after : (es : List FileExt) (e last : FileExt) → slice_get es (length es - 1) ≡ Some last → extent_end last ≤ e.logical → last_end 0 es ≤ e.logical
follows_after es e last at low = let end = last-at 0 (length es - 1) es last (some-long es last at) at in omega (arith, end)

-- extents of which one has a byte in common with the last aren't apart
any-last : (x e : FileExt) (es : List FileExt) → overlap x e ≡ true → list_any (overlap x) (es ++ e ∷ []) ≡ true
any-last x e [] over = left-or (overlap x e) false over
any-last x e (y ∷ es) over = right-or (overlap x y) (list_any (overlap x) (es ++ e ∷ [])) (any-last x e es over)

not-apart : (x e : FileExt) (es : List FileExt) → In x es → overlap x e ≡ true → are_apart (es ++ e ∷ []) ≡ false
not-apart x e [] one over = absurd one
not-apart x e (y ∷ es) (inl same) over =
    let any : list_any (overlap y) (es ++ e ∷ []) ≡ true = any-last y e es (subst (λ (z : FileExt). overlap z e ≡ true) same over) in
    ap (λ b. not b && are_apart (es ++ e ∷ [])) any
not-apart x e (y ∷ es) (inr one) over =
    let rest : are_apart (es ++ e ∷ []) ≡ false = not-apart x e es one over in
    grind (arith, nat_tests, common_steps, rest)

pub follows_over : (es : List FileExt) (e last : FileExt) → slice_get es (length es - 1) ≡ Some last → 0 < last.length → 0 < e.length → e.logical < extent_end last → last.logical < extent_end e → are_apart (es ++ e ∷ []) ≡ false
follows_over es e last at some wide before after =
    let over : overlap last e ≡ true = grind (arith, nat_tests) in
    not-apart last e es (at-in (length es - 1) es last at) over

pub follows_before : (es : List FileExt) (e last : FileExt) → slice_get es (length es - 1) ≡ Some last → 0 < e.length → extent_end e ≤ last.logical → IsMisordered es e
follows_before es e last at wide before = record { other = last; one = at-in (length es - 1) es last at; later = omega arith }

-- ---- what the last extent fails, all of them fail
all-last : (test : FileExt → Bool) (es : List FileExt) (e : FileExt) → test e ≡ false → list_all test (es ++ e ∷ []) ≡ false
all-last test es e fails = list_all-append test es (e ∷ []) ∙ grind (arith, nat_tests, common_steps, fails)

pub uneven : (site : Site) (es : List FileExt) (e : FileExt) → is_extent_even site.block_size e ≡ false → are_extents_ordered site.block_size (es ++ e ∷ []) ≡ false
unfolding are_extents_ordered
uneven site es e fails = ap (λ b. b && are_apart (es ++ e ∷ [])) (all-last (is_extent_even site.block_size) es e fails)

pub unplaced : (site : Site) (es : List FileExt) (e : FileExt) → is_extent_placed site.block_size site.blocks e ≡ false → are_extents_placed site (es ++ e ∷ []) ≡ false
unfolding are_extents_placed
unplaced site es e fails = all-last (is_extent_placed site.block_size site.blocks) es e fails

pub overlapping : (site : Site) (es : List FileExt) → are_apart es ≡ false → are_extents_ordered site.block_size es ≡ false
unfolding are_extents_ordered
overlapping site es fails = grind (arith, nat_tests, common_steps, fails)

-- one more extent lies as the others do
pub laid-more : (site : Site) (es : List FileExt) (e : FileExt) → AreLaid site es → is_extent_even site.block_size e ≡ true → is_extent_placed site.block_size site.blocks e ≡ true → last_end 0 es ≤ e.logical → AreLaid site (es ++ e ∷ [])
unfolding are_extents_placed
laid-more site es e laid even placed low = record {
  even = list_all-append (is_extent_even site.block_size) es (e ∷ []) ∙ both-true (list_all (is_extent_even site.block_size) es) (is_extent_even site.block_size e && true) laid.even (both-true (is_extent_even site.block_size e) true even refl);
  placed = list_all-append (is_extent_placed site.block_size site.blocks) es (e ∷ []) ∙ both-true (list_all (is_extent_placed site.block_size site.blocks) es) (is_extent_placed site.block_size site.blocks e && true) laid.placed (both-true (is_extent_placed site.block_size site.blocks e) true placed refl);
  rising = rising-push 0 es e laid.rising low;
}

pub laid-none : (site : Site) → AreLaid site []
unfolding are_extents_placed
laid-none site = record { even = refl; placed = refl; rising = refl }

-- extents that lie so are ordered
pub laid-ordered : (site : Site) (es : List FileExt) → AreLaid site es → are_extents_ordered site.block_size es ≡ true
unfolding are_extents_ordered
laid-ordered site es laid = both-true (list_all (is_extent_even site.block_size) es) (are_apart es) laid.even (rising-apart 0 es laid.rising)

-- an even extent has a length, and ends at 2^63 at most
pub record HasEnd (e : FileExt) : Type 0 where
  pub some : 0 < e.length
  pub ends : extent_end e ≤ 2 ^ 63

pub even-ends : (block_size : ℕ) (e : FileExt) → is_extent_even block_size e ≡ true → HasEnd e
unfolding is_extent_even
even-ends block_size e even = record { some = grind (arith, nat_tests, even); ends = grind (arith, nat_tests, even) }

pub last-ends : (site : Site) (es : List FileExt) (k : ℕ) (e : FileExt) → AreLaid site es → slice_get es k ≡ Some e → HasEnd e
last-ends site es k e laid at = even-ends site.block_size e (all-in (is_extent_even site.block_size) es laid.even e (at-in k es e at))
