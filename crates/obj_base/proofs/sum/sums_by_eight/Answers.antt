use Rattle.std.proofs.Common.{◌≡◌, ◌+◌, ◌*◌, ◌≤◌, [], ◌∷◌, ◌++◌, length, sum, refl, sym, ap, ◌∙◌, arith, w64}
use Rattle.std.specs.Simd.Lanes.{zip2, sum_l, products}
use Rattle.std.proofs.lemmas.Simd.{adds_fit, sum_fits, fold-sum, sum-zip2, length-zip2}
use Rattle.apfs_model.specs.Sum.{weighted}
use Rattle.obj_base.specs.Words.{words_from}
use Rattle.obj_base.proofs.Lanes.{late, late_of_words, words_more, step_sums, eight_small, products_fit}
use Rattle.obj_base.proofs.sum.sums_by_eight.Goals as goal

pub steps-init : goal.steps-init
steps-init c = record { plain = refl; weighted = refl; plain_small = omega arith; weighted_small = omega arith }

pub overflow_add-plain : goal.overflow_add-plain
overflow_add-plain c =
    let new = c.eight_words-plain.result in
    let long : length new ≡ 8 = ap length c.eight_words-plain.ensures.words in
    let small = eight_small new long c.eight_words-plain.ensures.small in
    adds_fit w64 c.steps.plain new (omega arith)

pub overflow_add-weighted : goal.overflow_add-weighted
overflow_add-weighted c =
    let new = c.eight_words-plain.result in
    let long : length new ≡ 8 = ap length c.eight_words-plain.ensures.words in
    let small = eight_small new long c.eight_words-plain.ensures.small in
    let more = sum-zip2 c.steps.plain new (omega arith) in
    adds_fit w64 c.steps.weighted (zip2 (λ a b. a + b) c.steps.plain new) (omega arith)

pub steps-preserved : goal.steps-preserved
steps-preserved c =
    let new = c.eight_words-plain.result in
    let bytes = c.args.bytes.now in
    let first = c.args.first in
    let done = 8 * c.steps.step in
    let words = c.eight_words-plain.ensures.words in
    let long : length new ≡ 8 = ap length words in
    let small = eight_small new long c.eight_words-plain.ensures.small in
    let by_place : weighted new + late new ≡ 8 * sum_l new = rw words (late_of_words bytes (first + done)) in
    let sums = step_sums (words_from bytes first done) new c.steps.plain c.steps.weighted c.steps.auto.plain.0 c.steps.auto.weighted.0 long by_place c.steps.invariant.plain c.steps.invariant.weighted in
    let more : words_from bytes first done ++ new ≡ words_from bytes first (8 * (c.steps.step + 1)) =
    ap (λ l. words_from bytes first done ++ l) words ∙ sym (words_more bytes first done 8) ∙ ap (words_from bytes first) (omega arith) in
    let plain_more = sum-zip2 c.steps.plain new (omega arith) in
    let heavy_more = sum-zip2 c.steps.weighted (zip2 (λ a b. a + b) c.steps.plain new) (omega (arith, length-zip2 (λ a b. a + b) c.steps.plain new (omega arith))) in
    record {
      plain = sums.0 ∙ ap sum more;
      weighted = sums.1 ∙ ap (λ l. weighted l + late (zip2 (λ a b. a + b) c.steps.plain new)) more;
      plain_small = omega arith;
      weighted_small = omega arith;
    }

pub overflow_mul-late : goal.overflow_mul-late
overflow_mul-late c =
    let fewer : late c.steps.plain ≤ 8 * sum_l c.steps.weighted = omega arith in
    products_fit c.steps.plain (0 ∷ 1 ∷ 2 ∷ 3 ∷ 4 ∷ 5 ∷ 6 ∷ 7 ∷ []) (omega arith)

pub overflow_add-result : goal.overflow_add-result
overflow_add-result c = sum_fits w64 0 c.steps.plain (omega arith)

pub overflow_add-result-2 : goal.overflow_add-result-2
overflow_add-result-2 c = sum_fits w64 0 c.steps.weighted (omega arith)

pub overflow_mul-result : goal.overflow_mul-result
overflow_mul-result c =
    let whole = fold-sum 0 c.steps.weighted in
    record { fits = omega arith }

pub overflow_add-result-3 : goal.overflow_add-result-3
overflow_add-result-3 c = sum_fits w64 0 (products c.steps.plain (0 ∷ 1 ∷ 2 ∷ 3 ∷ 4 ∷ 5 ∷ 6 ∷ 7 ∷ [])) (omega arith)

pub overflow_sub-result : goal.overflow_sub-result
overflow_sub-result c =
    let whole = fold-sum 0 c.steps.weighted in
    let part = fold-sum 0 (products c.steps.plain (0 ∷ 1 ∷ 2 ∷ 3 ∷ 4 ∷ 5 ∷ 6 ∷ 7 ∷ [])) in
    omega arith

pub returns-clause-plain : goal.returns-clause-plain
returns-clause-plain c =
    let all : c.steps.step ≡ c.args.steps = omega arith in
    let whole = fold-sum 0 c.steps.plain in
    rw (← all) (omega arith)

pub returns-clause-weighted : goal.returns-clause-weighted
returns-clause-weighted c =
    let all : c.steps.step ≡ c.args.steps = omega arith in
    let whole = fold-sum 0 c.steps.weighted in
    let part = fold-sum 0 (products c.steps.plain (0 ∷ 1 ∷ 2 ∷ 3 ∷ 4 ∷ 5 ∷ 6 ∷ 7 ∷ [])) in
    rw (← all) (omega arith)

pub returns-clause-small : goal.returns-clause-small
returns-clause-small c =
    let simple = fold-sum 0 c.steps.plain in
    let whole = fold-sum 0 c.steps.weighted in
    (omega arith, omega arith)
