use Rattle.std.proofs.Common.{◌≡◌, ◌+◌, ◌*◌, ◌++◌, ◌∷◌, [], ◌%◌, ℕ, List, sum, ap, sym, ◌∙◌, arith, append-nil, append_assoc}
use Rattle.std.proofs.lemmas.List.FromFn.{map-range_with_len_more}
use Rattle.apfs_model.specs.Bytes.{u32_at}
use Rattle.apfs_model.specs.Sum.{weighted, top}
use Rattle.nx_ring.specs.Sums.{words_at, IsSumOf}
use Rattle.nx_ring.proofs.Parts.{plain_next, weighted_next}
use Rattle.nx_ring.proofs.running_sum.RunningSum.add.Goals as goal

pub words-init : goal.words-init
words-init c = record {
  plain_small = Prim.omega arith;
  weighted_small = Prim.omega arith;
  plain = λ words s. Prim.omega (arith, s.plain, ap sum (append-nil words));
  weighted = λ words s. Prim.omega (arith, s.weighted, ap weighted (append-nil words));
}

pub words-preserved : goal.words-preserved
words-preserved c =
    let bytes = c.args.bytes.now in
    let at = c.args.at in
    let i = c.words.i in
    let old = c.words.invariant in
    let word : c.from-plain.result ≡ u32_at bytes (at + 4 * i) = c.from-plain.ensures ∙ c.u32_at.ensures in
    let more : (words : List ℕ) → words ++ words_at bytes at (i + 1) ≡ (words ++ words_at bytes at i) ++ u32_at bytes (at + 4 * i) ∷ [] =
    λ words. ap (λ ws. words ++ ws) (map-range_with_len_more (λ i. u32_at bytes (at + 4 * i)) 0 i i (Prim.omega arith)) ∙ sym (append_assoc words (words_at bytes at i) (u32_at bytes (at + 4 * i) ∷ [])) in
    let plain : (words : List ℕ) → IsSumOf c.args.self.now words → (c.words.plain + c.from-plain.result) % top ≡ sum ((words ++ words_at bytes at i) ++ u32_at bytes (at + 4 * i) ∷ []) % top =
    λ words s. ap (λ w. (c.words.plain + w) % top) word ∙ plain_next (words ++ words_at bytes at i) (u32_at bytes (at + 4 * i)) top c.words.plain (old.plain words s) in
    record {
      plain_small = Prim.omega arith;
      weighted_small = Prim.omega arith;
      plain = λ words s. plain words s ∙ ap (λ ws. sum ws % top) (sym (more words));
      weighted = λ words s. weighted_next (words ++ words_at bytes at i) (u32_at bytes (at + 4 * i)) top (c.words.plain + c.from-plain.result) c.words.weighted (plain words s) (old.weighted words s) ∙ ap (λ ws. weighted ws % top) (sym (more words));
    }
