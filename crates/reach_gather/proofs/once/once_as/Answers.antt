use Rattle.std.specs.Prelude.{flat_map}
use Rattle.reach_gather.specs.Kept.{namings_in}
use Rattle.std.proofs.lemmas.Result.{IfOk-weaker}
use Rattle.reach_gather.specs.ViewParts.{AreOnceAs}
use Rattle.reach_gather.specs.Finished.{AreOnceHere}
use Rattle.reach_gather.proofs.Finishes.{those-look, those-in}
use Rattle.reach_gather.proofs.Onces.{sorted-in, in-sorted, once-as}
use Rattle.reach_gather.proofs.once.once_as.Goals as goal

pub beside-requires-clause-alike : goal.beside-requires-clause-alike
beside-requires-clause-alike c = λ n h.
    those-look (flat_map namings_in c.args.noted.now) c.args.how n
    (sorted-in (flat_map namings_in c.args.noted.now) c.in_ok-kept.kept.items c.by_id.new.namings.items c.deref.result.now c.args.how c.in_ok-kept.ensures c.by_id.ensures.order c.deref.ensures.value n h)

pub returns-clause-once : goal.returns-clause-once
returns-clause-once c =
    IfOk-weaker c.beside.result (λ _. AreOnceHere c.deref.result.now) (λ _. AreOnceAs c.args.how (flat_map namings_in c.args.noted.now))
    (λ _ once. once-as (flat_map namings_in c.args.noted.now) c.deref.result.now c.args.how
    (in-sorted (flat_map namings_in c.args.noted.now) c.in_ok-kept.kept.items c.by_id.new.namings.items c.deref.result.now c.args.how c.in_ok-kept.ensures c.by_id.ensures.order c.deref.ensures.value) once)
    c.beside.ensures.once

pub returns-clause-present : goal.returns-clause-present
returns-clause-present c = λ image live.
    c.beside.ensures.present image (λ n h. live n (those-in (flat_map namings_in c.args.noted.now) c.args.how n
    (sorted-in (flat_map namings_in c.args.noted.now) c.in_ok-kept.kept.items c.by_id.new.namings.items c.deref.result.now c.args.how c.in_ok-kept.ensures c.by_id.ensures.order c.deref.ensures.value n h)))
