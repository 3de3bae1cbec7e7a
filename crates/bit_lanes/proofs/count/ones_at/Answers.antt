use Rattle.std.proofs.Common.{◌≡◌, ◌≤◌, get_or, ap, ◌∙◌, arith}
use Rattle.std.specs.Prelude.{count_ones}
use lib.Count.{ones-le}
use Rattle.bit_lanes.specs.Words.{eight_words}
use Rattle.bit_lanes.proofs.WordLemmas.{ones_of_word}
use Rattle.bit_lanes.proofs.count.ones_at.Goals as goal

pub words-preserved : goal.words-preserved
words-preserved c =
    let bytes = c.args.bytes.now in
    let at = c.args.at in
    let j = c.words.word-index in
    let few : count_ones (get_or c.words_at-words.result j 0) ≤ 64 = ones-le 64 (get_or c.words_at-words.result j 0) c.words-test.element_fits.fits in
    let word : c.from-ones.result ≡ count_ones (get_or (eight_words bytes at) j 0) = c.from-ones.ensures ∙ ap (λ l. count_ones (get_or l j 0)) c.words_at-words.ensures in
    let more = ones_of_word bytes at j c.words-test.true (λ k. (c.type_inv.bytes k).fits) in
    let counted = c.from-ones.ensures in
    record { small = omega arith; ones = omega arith }
