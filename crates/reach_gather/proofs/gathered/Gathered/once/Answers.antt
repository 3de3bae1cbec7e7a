use Rattle.std.proofs.Common.{List, ap, ◌∙◌, subst}
use Rattle.std.specs.Prelude.{flat_map}
use Rattle.std.proofs.lemmas.Result.{IfOk-weaker}
use Rattle.apfs_model.specs.Lists.{In}
use Rattle.reach_rules.specs.declared.naming.LookUp.TheVariants.{ByMapping, InContainer}
use Rattle.reach_rules.specs.declared.naming.Naming.{Naming}
use Rattle.reach_gather.specs.ViewParts.{AreOnceAs}
use Rattle.reach_gather.specs.Held.{Held}
use Rattle.reach_gather.specs.Kept.{namings_in}
use Rattle.reach_gather.proofs.gathered.Gathered.once.Goals as goal

pub returns-in-Err-clause-present : goal.returns-in-Err-clause-present
returns-in-Err-clause-present c = λ image live.
    let e = ap (flat_map namings_in) c.deref.ensures.value ∙ ap (λ (h : Held). h.namings) c.self.view_is in
    c.in-Err.ensures.present image (λ n h. live n (subst (λ (ns : List Naming). In n ns) e h))

pub returns-clause-clear : goal.returns-clause-clear
returns-clause-clear c =
    let e = ap (flat_map namings_in) c.deref.ensures.value ∙ ap (λ (h : Held). h.namings) c.self.view_is in
    let f = ap (flat_map namings_in) c.deref-2.ensures.value ∙ ap (λ (h : Held). h.namings) c.self.view_is in
    IfOk-weaker c.once_as-2.result (λ _. AreOnceAs InContainer (flat_map namings_in c.deref-2.result.now)) (λ _. AreOnceAs ByMapping c.args.self.now.namings × AreOnceAs InContainer c.args.self.now.namings)
    (λ _ once. (subst (λ (ns : List Naming). AreOnceAs ByMapping ns) e c.in-Ok.ensures.once, subst (λ (ns : List Naming). AreOnceAs InContainer ns) f once))
    c.once_as-2.ensures.once

pub returns-clause-present : goal.returns-clause-present
returns-clause-present c = λ image live.
    let f = ap (flat_map namings_in) c.deref-2.ensures.value ∙ ap (λ (h : Held). h.namings) c.self.view_is in
    c.once_as-2.ensures.present image (λ n h. live n (subst (λ (ns : List Naming). In n ns) f h))
