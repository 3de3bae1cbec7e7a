-- The first fault of both groups of rules.
use Rattle.std.proofs.Common.{◌≡◌, Option, Some, None}
use Rattle.std.specs.Option.{option_or}
use Rattle.view_rules.specs.Facts.{Facts}
use Rattle.view_rules.specs.Rules.{HasFactRules}
use Rattle.view_rules.specs.declared.fault.TreeFault.{TreeFault}
use Rattle.rule_breaks.specs.declared.faults.Asked.{Asked}
use Rattle.rule_breaks.specs.Faults.{IsFirst}
use Rattle.rule_breaks.proofs.Shown.{both}
use Rattle.tree_rules.specs.Groups.{HasNamingRules, HasContentRules}

-- the rules of both groups are all of them
fact-rules : (asked : Asked) (facts : Facts) → HasNamingRules facts → HasContentRules asked facts → HasFactRules asked.profile asked.site.now asked.ranges.now facts
fact-rules asked facts naming content =
    let n = naming.0 in
    let e = naming.1.0 in
    let d = naming.1.1 in
    let s = content.0 in
    let x = content.1.0 in
    let i = content.1.1.0 in
    record {
      entry_names = n.0;
      attribute_names = n.1.0;
      ascii_hashes = n.1.1;
      parents = e.0;
      files = e.1.0;
      root = e.1.1.0;
      kinds = e.1.1.1;
      directory_names = d.0.0;
      root_name = d.0.1;
      ways = d.1.0;
      children = d.1.1.0;
      links = d.1.1.1;
      entry_fellows = s.0;
      link_fellows = s.1.0;
      map_fellows = s.1.1.0;
      marks = s.1.1.1;
      extent_order = x.0;
      extent_places = x.1.0;
      cover = x.1.1;
      targets = i.0;
      stream_sizes = i.1.0;
      body_sizes = i.1.1.0;
      owners = i.1.1.1;
      name_hashes = content.1.1.1;
    }

-- what follows from the rules holds, or the fault that is given is there
first-so : (asked : Asked) (facts : Facts) (A B : Type 0) (first : Option TreeFault) → (A → B) → IsFirst asked facts A first → IsFirst asked facts B first
first-so asked facts A B None so holds = so holds
first-so asked facts A B (Some f) so there = there

-- the first fault of both groups is that of all rules
pub first_of_all : (asked : Asked) (facts : Facts) (naming content first : Option TreeFault) → first ≡ option_or naming content → IsFirst asked facts (HasNamingRules facts) naming → IsFirst asked facts (HasContentRules asked facts) content
    → IsFirst asked facts (HasFactRules asked.profile asked.site.now asked.ranges.now facts) first
first_of_all asked facts naming content first is one other =
    first-so asked facts (HasNamingRules facts × HasContentRules asked facts) (HasFactRules asked.profile asked.site.now asked.ranges.now facts) first (λ all. fact-rules asked facts all.0 all.1)
    (both asked facts (HasNamingRules facts) (HasContentRules asked facts) naming content first is one other)
