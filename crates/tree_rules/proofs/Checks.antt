-- What was found of a view's facts, said of the view.
use Rattle.std.proofs.Common.{◌≡◌, ℕ, List, Option, Some, None, ap, ◌∙◌, subst}
use Rattle.obj_base.specs.declared.site.Site.{Site}
use Rattle.ext_ref.specs.declared.range.NewRange.{NewRange}
use Rattle.vol_view.specs.Volumes.{Loaded}
use Rattle.vol_view.specs.declared.volume.View.{View}
use Rattle.view_rules.specs.Facts.{Facts}
use Rattle.view_rules.specs.Rules.{view_facts, HasFactRules, HasTreeRules, IsTreeFault}
use Rattle.view_rules.specs.declared.fault.TreeFault.{TreeFault}
use Rattle.view_rules.specs.declared.fault.TreeFault.TheVariants.{Unsound, Unnamed, Order, Counts, Record, NoInode}
use Rattle.view_rules.specs.declared.profile.Profile.{Profile}
use Rattle.view_facts.specs.Kept.{IsGatheredView}
use Rattle.view_facts.specs.declared.gathering.ViewFacts.{ViewFacts}
use Rattle.tree_rules.specs.Tallies.{notes_of}
use Rattle.tree_rules.specs.Tallies.{IsTally}
use Rattle.tree_rules.specs.declared.tallies.ViewTally.{ViewTally}
use Rattle.rule_breaks.specs.declared.faults.Asked.{Asked}
use Rattle.rule_breaks.specs.Faults.{IsShown, IsFirst}
use Rattle.tree_rules.proofs.Briefs.{rules-kept, shown-kept, notes-kept}

-- the rules of the facts are those of the view
pub facts_clear : (profile : Profile) (image : List ℕ) (site : Site) (volume : Loaded) (view : View) (ranges : List NewRange) (gathered : ViewFacts) → IsGatheredView image site volume view gathered → HasFactRules profile site ranges gathered.facts → HasTreeRules profile image site volume view ranges
facts_clear profile image site volume view ranges gathered g has = record {
  walkable = g.walkable;
  ordered = g.ordered;
  counted = g.counted;
  records = g.readable;
  facts = rules-kept profile site ranges (view_facts image site volume view) (subst (λ (facts : Facts). HasFactRules profile site ranges facts) g.facts has);
}

shown-there : (asked : Asked) (image : List ℕ) (volume : Loaded) (fault : TreeFault) → IsShown asked (view_facts image asked.site.now volume asked.view.now) fault → IsTreeFault asked.profile image asked.site.now volume asked.view.now asked.ranges.now fault
shown-there asked image volume (Unsound block why) there = absurd there
shown-there asked image volume (Unnamed slot oid xid) there = absurd there
shown-there asked image volume (Order slot xid item) there = absurd there
shown-there asked image volume (Counts slot xid) there = absurd there
shown-there asked image volume (Record slot xid item why) there = absurd there
shown-there asked image volume (NoInode slot xid id None) there = there
shown-there asked image volume fault there = there

-- a fault that the facts show is one of the view
pub facts_fault : (asked : Asked) (image : List ℕ) (volume : Loaded) (gathered : ViewFacts) (fault : TreeFault) → IsGatheredView image asked.site.now volume asked.view.now gathered → IsShown asked gathered.facts fault → IsTreeFault asked.profile image asked.site.now volume asked.view.now asked.ranges.now fault
facts_fault asked image volume gathered fault g there =
    shown-there asked image volume fault (shown-kept asked (view_facts image asked.site.now volume asked.view.now) fault (subst (λ (facts : Facts). IsShown asked facts fault) g.facts there))

-- the notes of the facts are those of the view
pub facts_tally : (profile : Profile) (image : List ℕ) (site : Site) (volume : Loaded) (view : View) (gathered : ViewFacts) (tally : ViewTally) → IsGatheredView image site volume view gathered → tally.records ≡ gathered.records → tally.notes.items ≡ notes_of profile view gathered.facts → IsTally profile image site volume view tally
facts_tally profile image site volume view gathered tally g counted noted = record {
  records = counted ∙ g.records;
  notes = noted ∙ (ap (λ (facts : Facts). notes_of profile view facts) g.facts ∙ notes-kept profile view (view_facts image site volume view));
}

-- what is given is there
pub first-there : (asked : Asked) (facts : Facts) (rules : Type 0) (first : Option TreeFault) (fault : TreeFault) → IsFirst asked facts rules first → first ≡ Some fault → IsShown asked facts fault
first-there asked facts rules first fault told is = subst (λ (o : Option TreeFault). IsFirst asked facts rules o) is told

-- none is given, so the rules hold
pub first-clear : (asked : Asked) (facts : Facts) (rules : Type 0) (first : Option TreeFault) → IsFirst asked facts rules first → first ≡ None → rules
first-clear asked facts rules first told none = subst (λ (o : Option TreeFault). IsFirst asked facts rules o) none told
