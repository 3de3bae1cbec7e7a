use Rattle.std.proofs.Common.{◌^◌, ◌<◌, List, length, Option, IfSome, ◌∙◌, subst, arith}
use Rattle.view_sweep.specs.declared.sets.ViewSet.{ViewSet}
use Rattle.view_sweep.specs.declared.used.Reach.{Reach}
use Rattle.view_sweep.specs.declared.used.Share.{Share}
use Rattle.use_report.specs.Sharing.{AreShared, IsReachOf}
use Rattle.use_report.proofs.Shared.{shares-held}
use Rattle.use_report.proofs.sharing.held_by_sweep.Goals as goal

pub returns-in-Ok-true-add_owns-clause-held : goal.returns-in-Ok-true-add_owns-clause-held
returns-in-Ok-true-add_owns-clause-held g c image told seen s v given =
    let site = c.args.site.now in
    let volume = c.args.volume.now in
    let views = c.args.views.now in
    let reach : Reach = c.in-Ok-Some.reach in
    let before = c.add_shares.new.held.all in
    let after = c.add_owns.new.held.all in
    let few : site.blocks < 2 ^ 64 = omega arith in
    let reached : IsReachOf image seen volume views reach = subst (λ (o : Option Reach). IfSome o (IsReachOf image seen volume views)) c.in-Ok-Some.field-0-is (c.in-Ok-Some.ensures.reached image told seen s given) in
    let swept = c.reached.ensures.kept.same_bytes ∙ told in
    let shared : AreShared image site c.deref-2.result.now (length views) c.deref-3.result.now before = c.in-Ok-true.ensures.held image swept c.in-Ok-true.field-0-test in
    let these : AreShared image site reach.sets.items (length views) c.deref-3.result.now before = subst (λ (sets : List ViewSet). AreShared image site sets (length views) c.deref-3.result.now before) c.deref-2.ensures.value shared in
    let all : AreShared image site reach.sets.items (length views) reach.shares.items before = subst (λ (shares : List Share). AreShared image site reach.sets.items (length views) shares before) c.deref-3.ensures.value these in
    shares-held image seen volume site views reach before after s v given few reached all (c.in-Ok-true-add_owns.ensures.added image (c.add_shares.ensures.kept.same_bytes ∙ swept) (c.in-Ok-true.ensures.sets image swept c.in-Ok-true.field-0-test).own c.in-Ok-true-add_owns.field-0-test)
