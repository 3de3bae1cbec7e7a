use Rattle.std.proofs.Common.{◌≡◌, inl, inr, ◌+◌, ◌-◌, ◌/◌, ℕ, take, length, arith, ap, sym, subst, ◌∙◌, length-take}
use Rattle.std.proofs.lemmas.Grind.{common_steps}
use Rattle.std.proofs.lemmas.Slice.{take-put_mid}
use Rattle.apfs_model.specs.Source.{Copies}
use Rattle.blk_cache.proofs.Ranges.{copies-append, rest_onward}
use Rattle.blk_cache.proofs.Keeps.{size_fits}
use Rattle.blk_cache.proofs.part.next.Goals as goal

pub returns-clause-found : goal.returns-clause-found
returns-clause-found g c = λ image told before.
    let done = c.args.done in
    let len = c.part_len-len.result in
    let front = take done c.args.into.now in
    let long : length front ≡ done = omega (arith, length-take done c.args.into.now, c.requires.some) in
    let both = copies-append image front c.part.new.into c.args.at (c.args.at + done) before (c.in_ok-part.ensures.found image told) (omega (arith, long)) in
    let shown = take-put_mid done (done + len - done) c.args.into.now c.part.new.into (done + len) (grind (arith, common_steps, c.part.auto.into, c.part_len-len.ensures.few, c.requires.some)) (omega (arith, c.requires.some)) in
    subst (Copies image c.args.at) (sym shown) both

pub returns-clause-onward : goal.returns-clause-onward
returns-clause-onward g c = λ low. elim c.part_len-len.ensures.rest [
  | inl all ↦ absurd (omega (arith, all, low, c.requires.some))
  | inr rest ↦ ap (λ (k : ℕ). k / c.args.store.now.size) (omega arith) ∙ rest_onward (c.args.at + c.args.done) c.part_len-len.result c.args.store.now.size (size_fits c.args.store.now.size c.requires.cache.accepted).0 rest
]
