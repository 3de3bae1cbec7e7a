-- The volume that is meant, or what stands in the way to it.
use Rattle.std.proofs.Common.{◌≡◌, ◌∙◌, ap, refl, subst, sym}
use Rattle.std.specs.Prelude.{ℕ, List, Option, Some, None}
use Rattle.vol_view.specs.declared.head.VolHead.{VolHead}
use Rattle.vol_view.specs.Placed.{IsHead}
use Rattle.apfs_check.specs.Raised.{of_volume}
use Rattle.cmd_texts.specs.Checkpoints.{IsNewest}
use Rattle.cmd_texts.specs.Meant.{IsMeant, IsMeantVolume}
use Rattle.cmd_lines.specs.Stops.{stopped_at}
use Rattle.cmd_texts.proofs.Ways.{heads_way, load_way, held_at, in_heads}
use Rattle.cmd_texts.proofs.meant.load_meant.Goals as goal

pub returns-in-Err-clause-way : goal.returns-in-Err-clause-way
returns-in-Err-clause-way g c image given =
    let seen = c.args.checkpoint.now in
    let stop = c.in-Err.stop in
    let newest : IsNewest image seen = record { newest = c.requires.found image given; plain = c.requires.plain } in
    let same : c.stopped_by.result ≡ stopped_at (of_volume seen.line.xid) stop = c.stopped_by.ensures ∙ ap (λ n. stopped_at (of_volume n) stop) c.xid.ensures in
    rw same (heads_way image c.args.named seen stop newest (c.in-Err.ensures.present image given) (c.in-Err.ensures.exact image given))

pub returns-in-None-clause-way : goal.returns-in-None-clause-way
returns-in-None-clause-way g c image given =
    let seen = c.args.checkpoint.now in
    let newest : IsNewest image seen = record { newest = c.requires.found image given; plain = c.requires.plain } in
    (refl, record { seen = seen; is = held_at image c.args.named seen c.in-Ok.heads.items c.deref.result.now None newest (c.in-Ok.ensures.clear image given) c.deref.ensures.value c.in-None.ensures })

pub load-requires-clause-head : goal.load-requires-clause-head
load-requires-clause-head g c =
    let P : Option (List ℕ) → Type 0 = λ bytes. IsHead bytes c.args.checkpoint.now c.in-Some.head.now in
    subst P (sym c.in-Ok.ensures.kept.same_bytes)
    (c.in-Ok.ensures.each c.in-Some.head.now (in_heads c.args.named c.in-Ok.heads.items c.deref.result.now c.in-Some.head.now c.deref.ensures.value c.in-Some.ensures))

pub returns-in-Ok-load-clause-clear : goal.returns-in-Ok-load-clause-clear
returns-in-Ok-load-clause-clear g c image given =
    let seen = c.args.checkpoint.now in
    let newest : IsNewest image seen = record { newest = c.requires.found image given; plain = c.requires.plain } in
    let meant : IsMeant image c.args.named seen (Some c.in-Some.head.now) =
    held_at image c.args.named seen c.in-Ok.heads.items c.deref.result.now (Some c.in-Some.head.now) newest (c.in-Ok.ensures.clear image given) c.deref.ensures.value c.in-Some.ensures in
    let P : VolHead → Type 0 = λ head. IsMeantVolume image c.args.named seen head c.in-Ok-load.volume in
    subst P (sym c.in-Ok-load.ensures.same) (record { meant = meant; loaded = c.in-Ok-load.ensures.clear image (c.in-Ok.ensures.kept.same_bytes ∙ given) })

pub returns-clause-way : goal.returns-clause-way
returns-clause-way g c image given =
    let seen = c.args.checkpoint.now in
    let stop = c.in-Err-load.stop in
    let newest : IsNewest image seen = record { newest = c.requires.found image given; plain = c.requires.plain } in
    let meant : IsMeant image c.args.named seen (Some c.in-Some.head.now) =
    held_at image c.args.named seen c.in-Ok.heads.items c.deref.result.now (Some c.in-Some.head.now) newest (c.in-Ok.ensures.clear image given) c.deref.ensures.value c.in-Some.ensures in
    let after = c.in-Ok.ensures.kept.same_bytes ∙ given in
    let same : c.stopped_by-in-Err-load.result ≡ stopped_at (of_volume seen.line.xid) stop = c.stopped_by-in-Err-load.ensures ∙ ap (λ n. stopped_at (of_volume n) stop) c.xid-in-Err-load.ensures in
    rw same (load_way image c.args.named seen c.in-Some.head.now stop meant (c.in-Err-load.ensures.present image after) (c.in-Err-load.ensures.exact image after))
