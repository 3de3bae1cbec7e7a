use Rattle.std.proofs.Common.{◌≡◌, ℕ, ◌*◌, length, get_or, ap, sym, ◌∙◌, arith, inl, inr, w64}
use Rattle.std.proofs.lemmas.Bool.{cases_lt}
use Rattle.bit_lanes.proofs.WordLemmas.{same_words}
use Rattle.bit_lanes.proofs.LaneLemmas.{same_lanes}
use Rattle.bit_lanes.proofs.differ.equal_parts.Goals as goal

pub parts-preserved : goal.parts-preserved
parts-preserved c = λ i below.
    let at : ℕ = 64 * c.parts.part in
    let v = c.words_at.result in
    let w = c.words_at-in-parts.result in
    let long_v : length v ≡ 8 = ap length c.words_at.ensures in
    let long_w : length w ≡ 8 = ap length c.words_at-in-parts.ensures in
    let same = same_lanes w64 v w (long_v ∙ sym long_w) (omega arith) c.if-words_at-ne0.false in
    elim (cases_lt i at) [
      | inl before ↦ c.parts.invariant i before
      | inr from ↦
          same_words c.args.a.now c.args.b.now at (λ j. (c.type_inv.a j).fits) (λ j. (c.type_inv.b j).fits)
          (λ j lt. ap (λ l. get_or l j 0) (sym c.words_at.ensures) ∙ same j ∙ ap (λ l. get_or l j 0) c.words_at-in-parts.ensures) i from (omega arith)
    ]
