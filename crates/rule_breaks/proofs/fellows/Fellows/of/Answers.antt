use Rattle.std.proofs.Common.{◌∙◌, ap, subst, ℕ, List}
use Rattle.fs_record.specs.Facts.{Fact}
use Rattle.fs_record.specs.Siblings.{Link}
use Rattle.view_rules.specs.Facts.{Facts}
use Rattle.rule_index.specs.Keys.{CountsKeys, link_fellow, map_sibling}
use Rattle.rule_breaks.proofs.fellows.Fellows.of.Goals as goal

pub invariant_of-result-clause-links_right : goal.invariant_of-result-clause-links_right
invariant_of-result-clause-links_right c = subst (λ (links : List (Fact Link)). CountsKeys link_fellow links c.in_ok-links.links) (c.deref.ensures.value ∙ ap (λ (f : Facts). f.links) c.facts.view_is) c.in_ok-links.ensures

pub invariant_of-result-clause-maps_right : goal.invariant_of-result-clause-maps_right
invariant_of-result-clause-maps_right c = subst (λ (maps : List (Fact ℕ)). CountsKeys map_sibling maps c.in_ok-maps.maps) (c.deref-2.ensures.value ∙ ap (λ (f : Facts). f.siblings) c.facts.view_is) c.in_ok-maps.ensures
