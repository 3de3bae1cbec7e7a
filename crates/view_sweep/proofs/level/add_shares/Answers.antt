use Rattle.std.proofs.Common.{List, [], ◌∷◌, ◌++◌, map, ap, ◌∙◌}
use Rattle.std.proofs.lemmas.List.{take_all}
use Rattle.view_sweep.specs.declared.used.Hit.{Hit}
use Rattle.view_sweep.specs.declared.used.Share.{Share}
use Rattle.view_sweep.specs.Shared.{share_of}
use Rattle.view_sweep.proofs.Buffers.{pushed-more}
use Rattle.view_sweep.proofs.level.add_shares.Goals as goal

pub loop-hit-preserved : goal.loop-hit-preserved
loop-hit-preserved c =
    pushed-more share_of c.args.hits.now c.loop-hit.hit-index _ c.args.out.now.items c.loop-hit.out.items c.push.new.self.items c.loop-hit-test.true c.loop-hit.invariant
    (c.in_ok-push.ensures.items ∙ ap (λ (s : Share). c.loop-hit.out.items ++ s ∷ []) c.share.ensures)

pub returns : goal.returns
returns c = c.loop-hit.invariant ∙ ap (λ (hs : List Hit). c.args.out.now.items ++ map share_of hs) (take_all c.loop-hit.hit-index c.args.hits.now c.loop-hit-test.false)
