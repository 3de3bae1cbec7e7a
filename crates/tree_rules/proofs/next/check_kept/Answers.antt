use Rattle.std.proofs.Common.{◌≡◌, ◌∙◌, length, refl, sym, ap, subst, arith}
use Rattle.std.proofs.lemmas.Bool.Decides.{nat_tests}
use Rattle.std.specs.Prelude.{Option, IfSome}
use Rattle.view_rules.specs.Facts.{Facts}
use Rattle.view_rules.specs.Listed.{extents_with_ids}
use Rattle.view_rules.specs.Rules.{HasFactRules}
use Rattle.rule_changes.specs.Changes.{HasDistinctInodes}
use Rattle.view_change.specs.declared.kept_view.KeptView.{KeptView}
use Rattle.view_change.specs.Kept.{facts_of}
use Rattle.tree_rules.specs.Known.{AreRight}
use Rattle.tree_rules.specs.Tallies.{notes_of}
use Rattle.tree_rules.proofs.Nexts.{chain-distinct, none-long, gathered-same, right-if-silent, told-whole}
use Rattle.tree_rules.proofs.next.check_kept.Goals.{then-is_empty, else-is_empty, then-is_right, else-is_right}
use Rattle.tree_rules.proofs.next.check_kept.Goals as goal

pub returns-clause-clear : goal.returns-clause-clear
returns-clause-clear c image volume before is =
    let asked = c.args.asked.now in
    let kept = c.args.kept in
    let site = asked.site.now in
    let ranges = asked.ranges.now in
    let view = asked.view.now in
    let rules : HasFactRules asked.profile site ranges (facts_of kept) = subst (λ (f : Facts). HasFactRules asked.profile site ranges f) c.facts.ensures c.in-Ok.ensures.rules in
    let noted = c.in-Ok.ensures.noted ∙ ap (λ (f : Facts). notes_of asked.profile view f) c.facts.ensures in
    let gathered = gathered-same image site volume view kept c.facts.result.now c.records.result c.facts.ensures c.records.ensures is in
    let P : KeptView → Type 0 = λ other. (other ≡ kept) × AreRight asked.profile site ranges (facts_of kept) in
    told-whole asked.profile image site volume ranges view before kept _ is rules (c.in-Ok.ensures.value image volume gathered) (c.in_ok-extents.ensures ∙ ap extents_with_ids c.facts-2.ensures)
    (elim c.if-is_right.branch as (λ _. IfSome c.if-is_right.kept P) [
      | then-is_right w ↦ subst (λ (o : Option KeptView). IfSome o P) (sym w.kept-is) (
        refl,
        (elim c.if-is_empty.branch as (λ _. AreRight asked.profile site ranges (facts_of kept)) [
          | then-is_empty v ↦
              let distinct : HasDistinctInodes (facts_of kept) = chain-distinct (facts_of kept) (v.is_in_order-is_right.ensures (sym v.is_right-is ∙ w.if-is_right.true)).inodes in
              let nothing : length c.in-Ok.tally.notes.items ≡ 0 = grind (arith, nat_tests, c.in-Ok.tally.notes.ok.0, c.is_empty.ensures, v.if-is_empty.true) in
              right-if-silent asked.profile site ranges view (facts_of kept) rules distinct (sym noted ∙ none-long c.in-Ok.tally.notes.items nothing)
          | else-is_empty v ↦ absurd (let no = sym v.is_right-is ∙ w.if-is_right.true in cc)
        ]),
      )
      | else-is_right w ↦ subst (λ (o : Option KeptView). IfSome o P) (sym w.kept-is) tt
    ])
