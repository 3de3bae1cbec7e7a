-- Pieces of blocks: how they grow, and how many blocks pass a test.
use Rattle.std.proofs.Common.{◌≡◌, ℕ, ◌+◌, ◌-◌, ◌^◌, ◌<◌, ◌≤◌, Bool, true, ◌&&◌, ◌||◌, nat_le, nat_lt, min, List, [], ◌∷◌, ◌++◌, length, ◌⊎◌, inl, inr, ap, ap₂, sym, ◌∙◌, subst, arith}
use Rattle.std.specs.Prelude.{◌↔◌, filter, count_by}
use Rattle.std.specs.List.{range_with_len}
use Rattle.std.proofs.lemmas.List.Sums.{length-filter}
use Rattle.apfs_model.specs.Blocks.{is_in}
use Rattle.apfs_model.proofs.BoolTests.{left-true, right-true, both-true, left-or, right-or, either-from, in-range, from-range, upto-from, below-from, from-upto, from-below}
use Rattle.apfs_model.proofs.Searches.{in-filter, filter-test, from-filter}
use Rattle.apfs_model.proofs.Finite.{apart-range, apart-filter}
use Rattle.piece_count.specs.Covered.{is_from, covered_by, is_covered, count_below}
use Rattle.piece_count.specs.declared.piece.Views.{Views}
use Rattle.piece_count.specs.declared.piece.Piece.{Piece}
use Rattle.piece_count.proofs.Numbers.{count-bound, from-low, from-high, from-is}
use Rattle.piece_count.proofs.Pieces.{covered-push}
use Rattle.reach_rules.specs.Tally.{IsNumberOf}
use Rattle.use_report.specs.Counted.{has_turn, Grows, HasExactly}
use Rattle.use_report.specs.declared.pieces.Pieces.{Pieces}

-- ---- blocks of ranges
pub in-above : (block first length : ℕ) → is_in block first length ≡ true → first ≤ block
in-above block first length e = upto-from first block (left-true (nat_le first block) (nat_lt block (first + length)) e)

pub in-below : (block first length : ℕ) → is_in block first length ≡ true → block < first + length
in-below block first length e = below-from block (first + length) (right-true (nat_le first block) (nat_lt block (first + length)) e)

pub in-from : (block first length : ℕ) → first ≤ block → block < first + length → is_in block first length ≡ true
in-from block first length above below = both-true (nat_le first block) (nat_lt block (first + length)) (from-upto first block above) (from-below block (first + length) below)

-- ---- how pieces grow
pub grows-range : (old new : Pieces) (first length end : ℕ) → end ≡ min (first + length) (2 ^ 64 - 1) → new ≡ record old { all = record old.all { pieces = new.all.pieces } } → new.all.pieces.items ≡ old.all.pieces.items ++ record { first = first; end = end; set = old.set } ∷ [] →
    Grows old new (λ block. is_in block first length ≡ true)
grows-range old new first length end end_is same items = record {
  same = same;
  held = λ view block low.
      let sets : List Views = old.all.sets.items in
      let piece : Piece = record { first = first; end = end; set = old.set } in
      let here : Bool = has_turn old view in
      let is : is_covered new.all view block ≡ (is_covered old.all view block || (here && is_from first end block)) =
      ap₂ (λ (ss : List Views) (ps : List Piece). covered_by ss ps view block) (ap (λ (p : Pieces). p.all.sets.items) same) items ∙ covered-push sets old.all.pieces.items piece view block in
      let Now : Type 0 = (is_covered old.all view block ≡ true) ⊎ ((here ≡ true) × (is_in block first length ≡ true)) in (
        (λ e. elim (either-from (is_covered old.all view block) (here && is_from first end block) (sym is ∙ e)) as (λ _. Now) [
          | inl o ↦ inl o
          | inr n ↦
              let there = right-true here (is_from first end block) n in
              let above = from-low first end block there in
              let below = from-high first end block there in
              inr (left-true here (is_from first end block) n, in-from block first length above (omega (arith, below, end_is)))
        ]),
        (λ t. is ∙ elim t as (λ _. (is_covered old.all view block || (here && is_from first end block)) ≡ true) [
          | inl o ↦ left-or (is_covered old.all view block) (here && is_from first end block) o
          | inr n ↦
              let above = in-above block first length n.1 in
              let below = in-below block first length n.1 in
              right-or (is_covered old.all view block) (here && is_from first end block) (both-true here (is_from first end block) n.0 (from-is first end block above (omega (arith, below, end_is, low))))
        ]),
      );
}

-- one after the other
pub grows-then : (a b c : Pieces) (P Q : ℕ → Type 0) → Grows a b P → Grows b c Q → Grows a c (λ block. P block ⊎ Q block)
grows-then a b c P Q g h = record {
  same = h.same ∙ ap (λ (p : Pieces). record p { all = record p.all { pieces = c.all.pieces } }) g.same;
  held = λ view block low.
      let range : has_turn b view ≡ has_turn a view = ap (λ (p : Pieces). has_turn p view) g.same in
      let x = g.held view block low in
      let y = h.held view block low in
      let Goal : Type 0 = (is_covered a.all view block ≡ true) ⊎ ((has_turn a view ≡ true) × (P block ⊎ Q block)) in (
        (λ e. elim (y.0 e) as (λ _. Goal) [
          | inl k ↦ elim (x.0 k) as (λ _. Goal) [ inl l ↦ inl l | inr p ↦ inr (p.0, inl p.1) ]
          | inr q ↦ inr (sym range ∙ q.0, inr q.1)
        ]),
        (λ t. elim t as (λ _. is_covered c.all view block ≡ true) [
          | inl l ↦ y.1 (inl (x.1 (inl l)))
          | inr pq ↦ elim pq.1 as (λ _. is_covered c.all view block ≡ true) [ inl p ↦ y.1 (inl (x.1 (inr (pq.0, p)))) | inr q ↦ y.1 (inr (range ∙ pq.0, q)) ]
        ]),
      );
}

-- the same blocks by another fact
pub grows-same : (old new : Pieces) (P Q : ℕ → Type 0) → ((block : ℕ) → P block ↔ Q block) → Grows old new P → Grows old new Q
grows-same old new P Q s g = record {
  same = g.same;
  held = λ view block low.
      let x = g.held view block low in (
        (λ e. elim (x.0 e) as (λ _. (is_covered old.all view block ≡ true) ⊎ ((has_turn old view ≡ true) × Q block)) [ inl l ↦ inl l | inr p ↦ inr (p.0, (s block).0 p.1) ]),
        (λ t. elim t as (λ _. is_covered new.all view block ≡ true) [ inl l ↦ x.1 (inl l) | inr q ↦ x.1 (inr (q.0, (s block).1 q.1)) ]),
      );
}

-- ---- how many blocks pass a test
-- the blocks of a container that pass a test, as a number
abbrev passing : (ℕ → Bool) → ℕ → List ℕ
passing test blocks = filter test (range_with_len 0 blocks)

pub number-by : (blocks : ℕ) (P : ℕ → Type 0) (test : ℕ → Bool) → blocks < 2 ^ 64 → ((block : ℕ) → block < blocks → test block ≡ true → P block) → ((block : ℕ) → P block → (test block ≡ true) × (block < blocks)) → IsNumberOf P (count_below test blocks)
unfolding count_below
number-by blocks P test few to from =
    let all : List ℕ = passing test blocks in
    let count : count_by test (range_with_len 0 blocks) ≡ length all = sym (length-filter test (range_with_len 0 blocks)) in
    let bound : count_by test (range_with_len 0 blocks) ≤ blocks = count-bound test blocks in
    let short : length all ≤ blocks = subst (λ n. n ≤ blocks) count bound in
    record {
      all = all;
      lists = (
        (λ block h. let low = from-range 0 blocks block (from-filter test block (range_with_len 0 blocks) h) in to block (omega (arith, low)) (filter-test test block (range_with_len 0 blocks) h)),
        (λ block p.
            let t = from block p in
            let low = t.1 in
            in-filter test block (range_with_len 0 blocks) (in-range 0 blocks block (omega arith) (omega (arith, low))) t.0),
      );
      apart = apart-filter test (range_with_len 0 blocks) (apart-range 0 blocks);
      same = count ∙ omega (arith, short, few);
    }

pub number-is : (blocks : ℕ) (P : ℕ → Type 0) (test : ℕ → Bool) → blocks < 2 ^ 64 → HasExactly blocks P test → IsNumberOf P (count_below test blocks)
number-is blocks P test few h = number-by blocks P test few (λ block low e. (h.held block low).0 e) (λ block p. let low = h.inside block p in ((h.held block low).1 p, low))
