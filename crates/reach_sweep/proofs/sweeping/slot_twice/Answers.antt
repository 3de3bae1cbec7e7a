use Rattle.std.proofs.Common.{◌≡◌, ℕ, ◌+◌, ◌-◌, ◌≤◌, List, length, take, drop, sym, ap, ◌∙◌, arith, length-drop}
use Rattle.std.proofs.lemmas.List.{take_all}
use Rattle.apfs_model.specs.Lists.{has}
use Rattle.vol_view.specs.Volumes.{Loaded}
use Rattle.reach_sweep.specs.Views.{slots_of}
use Rattle.reach_sweep.proofs.Slots.{twice-found, none-found}
use Rattle.reach_sweep.proofs.sweeping.slot_twice.Goals as goal

pub returns-then-stands-clause-twice : goal.returns-then-stands-clause-twice
returns-then-stands-clause-twice c =
    let volumes : List Loaded = c.args.volumes.now in
    let i : ℕ = c.loop-i.i in
    let volume : Loaded = c.index-volumes-i.result in
    let n : ℕ = length volumes - (i + 1) in
    let all : length (drop (i + 1) volumes) ≤ n = omega (arith, length-drop (i + 1) volumes) in
    let rest : take n (drop (i + 1) volumes) ≡ drop (i + 1) volumes = take_all n (drop (i + 1) volumes) all in
    let slot : c.volume.inside.head.slot ≡ volume.head.slot = ap (λ (v : Loaded). v.head.slot) c.volume.view_is in
    let id : c.volume.inside.head.oid ≡ volume.head.oid = ap (λ (v : Loaded). v.head.oid) c.volume.view_is in
    twice-found volumes i volume c.volume.inside.head.oid c.loop-i-test.true c.index-volumes-i.is id (sym (ap (λ (vs : List Loaded). has (slots_of vs) volume.head.slot) rest) ∙ (ap (λ x. has (slots_of (take n (drop (i + 1) volumes))) x) (sym slot) ∙ (sym c.stands.ensures ∙ c.if-stands.true)))

pub returns-clause-apart : goal.returns-clause-apart
returns-clause-apart c = λ t. none-found c.args.volumes.now c.loop-i.i c.loop-i-test.false c.loop-i.invariant
