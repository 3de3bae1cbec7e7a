use Rattle.std.proofs.Common.{◌≡◌, ◌∙◌, ◌<◌, ◌≤◌, List, [], ◌∷◌, ◌++◌, length, get_or, ap, sym, subst}
use Rattle.std.proofs.lemmas.List.{take_all}
use Rattle.vol_view.specs.Volumes.{Loaded}
use Rattle.vol_view.specs.declared.volume.Snapshot.{Snapshot}
use Rattle.view_sweep.specs.declared.wanted.Head.{Head}
use Rattle.reach_sweep.specs.Views.{past_heads}
use Rattle.reach_sweep.proofs.Heads.{pasts-push}
use Rattle.reach_sweep.proofs.sweeping.add_pasts.Goals as goal

pub loop-k-preserved : goal.loop-k-preserved
loop-k-preserved c =
    let x : Snapshot = c.index-snapshots-k.result in
    let snaps : c.as_slice-snapshots.result.now ≡ c.args.volume.now.snaps = c.as_slice-snapshots.ensures.value ∙ ap (λ (v : Loaded). v.snaps) c.volume.view_is in
    let low : c.loop-k.k < length c.args.volume.now.snaps = subst (λ (xs : List Snapshot). c.loop-k.k < length xs) snaps c.loop-k-test.true in
    let is : get_or c.args.volume.now.snaps c.loop-k.k x ≡ x = subst (λ (xs : List Snapshot). get_or xs c.loop-k.k x ≡ x) snaps (sym c.index-snapshots-k.is) in
    c.in_ok-push.ensures.items
    ∙ (ap (λ (h : Head). c.loop-k.out.items ++ h ∷ []) c.past_head-head.ensures
    ∙ pasts-push c.args.i c.args.volume.now c.args.volume.now.snaps c.loop-k.k x c.args.out.now.items c.loop-k.out.items low is c.loop-k.invariant)

pub returns-clause-added : goal.returns-clause-added
returns-clause-added c =
    let snaps : c.as_slice-snapshots.result.now ≡ c.args.volume.now.snaps = c.as_slice-snapshots.ensures.value ∙ ap (λ (v : Loaded). v.snaps) c.volume.view_is in
    let high : length c.args.volume.now.snaps ≤ c.loop-k.k = subst (λ (xs : List Snapshot). length xs ≤ c.loop-k.k) snaps c.loop-k-test.false in
    c.loop-k.invariant ∙ ap (λ (xs : List Snapshot). c.args.out.now.items ++ past_heads c.args.i c.args.volume.now 0 xs) (take_all c.loop-k.k c.args.volume.now.snaps high)
