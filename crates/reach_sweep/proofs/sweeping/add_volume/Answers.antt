use Rattle.std.proofs.Common.{◌∙◌, List, [], ◌∷◌, ◌++◌, ap}
use Rattle.std.proofs.lemmas.List.{append_assoc}
use Rattle.view_sweep.specs.declared.wanted.Head.{Head}
use Rattle.reach_sweep.specs.Views.{live_head, past_heads}
use Rattle.reach_sweep.proofs.sweeping.add_volume.Goals as goal

pub returns-in-Ok-clause-added : goal.returns-in-Ok-clause-added
returns-in-Ok-clause-added c =
    let pasts : List Head = past_heads c.args.i c.args.volume.now 0 c.args.volume.now.snaps in
    c.in-Ok.ensures.added
    ∙ (ap (λ (hs : List Head). hs ++ pasts) (c.in_ok-push.ensures.items ∙ ap (λ (h : Head). c.args.out.now.items ++ h ∷ []) c.live_head-head.ensures)
    ∙ append_assoc c.args.out.now.items (live_head c.args.cp.now c.args.i c.args.volume.now ∷ []) pasts)
