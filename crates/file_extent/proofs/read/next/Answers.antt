use Rattle.std.proofs.Common.{◌≡◌, ◌+◌, ◌-◌, ◌++◌, ℕ, List, length, arith, refl, ap, sym, ◌∙◌}
use Rattle.std.proofs.lemmas.Grind.{common_steps}
use Rattle.std.proofs.lemmas.Slice.{take-put_mid}
use Rattle.file_extent.specs.Streams.{bytes_from}
use Rattle.file_extent.proofs.Pieces.{bytes-more}
use Rattle.file_extent.proofs.read.next.Goals as goal

pub returns-clause-found : goal.returns-clause-found
returns-clause-found g c = λ image told before.
    let bs = c.args.site.now.block_size in
    let done = c.args.done in
    let len = c.few-len.result in
    let long : length c.put.new.into ≡ len = grind (arith, common_steps, c.put.auto.into, c.few-len.ensures.wanted, c.requires.some) in
    let shown = take-put_mid done (done + len - done) c.args.into.now c.put.new.into (done + len) (omega (arith, long)) (omega (arith, c.requires.some)) in
    let found : c.put.new.into ≡ bytes_from bs image c.args.extents.now (c.args.from + done) len = c.in_ok-put.ensures.found image told ∙ ap (λ (n : ℕ). bytes_from bs image c.args.extents.now (c.args.from + done) n) (sym c.put.auto.into ∙ long) in
    shown
    ∙ ap (λ (l : List ℕ). l ++ c.put.new.into) before
    ∙ ap (λ (l : List ℕ). bytes_from bs image c.args.extents.now c.args.from done ++ l) found
    ∙ bytes-more bs image c.args.extents.now c.args.from done len (c.args.from + done) (done + len) refl refl
