use Rattle.std.proofs.Common.{List, length, ap, ◌∙◌, subst, arith}
use Rattle.std.specs.Prelude.{flat_map}
use Rattle.apfs_model.specs.Lists.{Lists}
use Rattle.reach_rules.specs.declared.naming.LookUp.TheVariants.{ByBlock, ByMapping}
use Rattle.reach_rules.specs.declared.naming.Naming.{Naming}
use Rattle.reach_gather.specs.Held.{Held}
use Rattle.reach_gather.specs.Kept.{namings_in}
use Rattle.reach_gather.specs.Finished.{IsIdOf}
use Rattle.reach_gather.proofs.Finishes.{objects-number}
use Rattle.reach_gather.proofs.Kepts.{few-namings}
use Rattle.reach_gather.proofs.gathered.Gathered.objects.Goals as goal

pub returns-in_err-ids-clause-few : goal.returns-in_err-ids-clause-few
returns-in_err-ids-clause-few c =
    let noted = c.self.inside.noted in
    omega (arith, ap (λ (h : Held). length h.namings) c.self.view_is, few-namings noted.items, noted.ok, noted.small)

pub returns-in_err-blocks-clause-few : goal.returns-in_err-blocks-clause-few
returns-in_err-blocks-clause-few c =
    let noted = c.self.inside.noted in
    omega (arith, ap (λ (h : Held). length h.namings) c.self.view_is, few-namings noted.items, noted.ok, noted.small)

pub returns-clause-few : goal.returns-clause-few
returns-clause-few c =
    let noted = c.self.inside.noted in
    omega (arith, ap (λ (h : Held). length h.namings) c.self.view_is, few-namings noted.items, noted.ok, noted.small)

pub returns-clause-count : goal.returns-clause-count
returns-clause-count c =
    let held = ap (λ (h : Held). h.namings) c.self.view_is in
    objects-number c.args.self.now.namings c.in_ok-ids.ids.items c.in_ok-blocks.blocks.items c.args.records.now.items c.distinct.new.items.items
    (subst (λ (ns : List Naming). Lists c.in_ok-ids.ids.items (IsIdOf ByMapping ns)) (ap (flat_map namings_in) c.deref.ensures.value ∙ held) c.in_ok-ids.ensures.lists) c.in_ok-ids.ensures.apart
    (subst (λ (ns : List Naming). Lists c.in_ok-blocks.blocks.items (IsIdOf ByBlock ns)) (ap (flat_map namings_in) c.deref-2.ensures.value ∙ held) c.in_ok-blocks.ensures.lists) c.in_ok-blocks.ensures.apart
    c.distinct.ensures.same c.distinct.ensures.apart c.len.result c.len-2.result c.len-3.result c.all_of.result (c.len.ensures ∙ omega (arith, c.in_ok-ids.ids.ok.0)) (c.len-2.ensures ∙ omega (arith, c.in_ok-blocks.blocks.ok.0)) (c.len-3.ensures ∙ omega (arith, c.distinct.new.items.ok.0)) c.all_of.ensures
