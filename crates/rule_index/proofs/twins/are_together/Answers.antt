use Rattle.std.proofs.Common.{ℕ, List, ap, sym, subst, ◌∙◌}
use Rattle.std.specs.Prelude.{filter, map}
use Rattle.std.specs.List.Sorted.{IsPermutation}
use Rattle.fs_record.specs.Entries.{Entry}
use Rattle.fs_record.specs.Siblings.{Link}
use Rattle.fs_record.specs.Facts.{Fact}
use Rattle.view_rules.specs.Facts.{Facts}
use Rattle.view_rules.specs.Siblings.{is_twin}
use Rattle.rule_index.specs.Twins.{sibling_pair, PairOff}
use Rattle.rule_index.proofs.Together.{AreTogether, all-fellows}
use Rattle.rule_index.proofs.twins.are_together.Goals as goal

pub returns : goal.returns
returns c together =
    let facts : Facts = c.args.facts.now in
    let twins : List (Fact Entry) = c.deref-3.result.now in
    let pairs : List (ℕ × ℕ) = c.deref-5.result.now in
    let all : AreTogether facts twins pairs = record {
      entries =
          subst (λ (ts : List (Fact Entry)). IsPermutation (filter is_twin facts.entries) ts) (sym c.deref-3.ensures.value)
          (subst (λ (es : List (Fact Entry)). IsPermutation (filter is_twin es) c.in_ok-twins.twins.items) (c.deref.ensures.value ∙ ap (λ (f : Facts). f.entries) c.facts.view_is) c.in_ok-twins.ensures);
      maps =
          subst (λ (ps : List (ℕ × ℕ)). IsPermutation (map sibling_pair facts.siblings) ps) (sym c.deref-5.ensures.value)
          (subst (λ (ms : List (Fact ℕ)). IsPermutation (map sibling_pair ms) c.in_ok-pairs.pairs.items) (c.deref-2.ensures.value ∙ ap (λ (f : Facts). f.siblings) c.facts.view_is) c.in_ok-pairs.ensures);
      off = subst (λ (ls : List (Fact Link)). PairOff twins ls pairs) (c.deref-4.ensures.value ∙ ap (λ (f : Facts). f.links) c.facts.view_is) (c.pair_off.ensures together);
    } in
    all-fellows facts twins pairs all
