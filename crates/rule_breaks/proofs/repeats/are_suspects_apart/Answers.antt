use Rattle.std.proofs.Common.{◌≡◌, true, List, ap, sym, subst, ◌∙◌, arith}
use Rattle.std.specs.List.Sorted.{IsNonDecreasingBy}
use Rattle.fs_name.specs.Normal.{are_hashed}
use Rattle.fs_record.specs.Entries.{Entry}
use Rattle.fs_record.specs.Facts.{Fact}
use Rattle.view_rules.specs.Facts.{Facts}
use Rattle.rule_breaks.specs.Suspects.{entry_rank, HasSuspects}
use Rattle.rule_breaks.proofs.Suspected.{suspects_apart}
use Rattle.rule_breaks.proofs.repeats.are_suspects_apart.Goals as goal

pub returns : goal.returns
returns c apart =
    let facts = c.args.facts.now in
    let digests = c.in_ok-digests.digests.items in
    let hashed : are_hashed facts.names ≡ true = ap (λ (f : Facts). are_hashed f.names) (sym c.facts.view_is) ∙ (sym c.are_hashed.ensures ∙ c.if-not-are_hashed.false) in
    let first = c.deref.ensures.value ∙ ap (λ (f : Facts). f.entries) c.facts.view_is in
    let second = c.deref-2.ensures.value ∙ ap (λ (f : Facts). f.entries) c.facts.view_is in
    suspects_apart facts digests hashed c.requires
    (subst (λ (entries : List (Fact Entry)). IsNonDecreasingBy entry_rank entries) first (c.are_ranked.ensures c.if-not-are_ranked.false))
    (subst (λ (entries : List (Fact Entry)). HasSuspects entries digests) second c.in_ok-digests.ensures)
    (λ q.
    let same = c.of.ensures q in
    let once = c.are_distinct-2.ensures.distinct apart q in
    omega arith)
