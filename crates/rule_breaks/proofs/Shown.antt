-- What a fact that breaks a rule shows.
use Rattle.std.proofs.Common.{◌≡◌, ℕ, Bool, true, false, List, Option, Some, None, Result, Ok, Err, inl, inr, refl, ap, sym, ◌∙◌, subst}
use Rattle.std.specs.Prelude.{option_map, is_some, not, IfOk}
use Rattle.std.specs.Option.{option_or}
use Rattle.std.specs.List.{find}
use Rattle.fs_record.specs.Inodes.{Inode}
use Rattle.fs_record.specs.Entries.{Entry}
use Rattle.fs_record.specs.Attributes.{Attribute}
use Rattle.fs_record.specs.Siblings.{Link}
use Rattle.fs_record.specs.Facts.{Fact}
use Rattle.fs_record.specs.declared.extents.FileExt.{FileExt}
use Rattle.view_rules.specs.Words.{IsClear, IsBroken}
use Rattle.view_rules.specs.Facts.{Facts, id_of_fact}
use Rattle.view_rules.specs.Names.{entry_place, attribute_place, is_entry_repeated, is_attribute_repeated, has_other_ascii_hash, has_other_name_hash}
use Rattle.view_rules.specs.Entries.{lacks_parent, lacks_inode, has_root, has_other_kind}
use Rattle.view_rules.specs.Directories.{is_misnamed, is_root_named, IsUnreached}
use Rattle.view_rules.specs.Counts.{has_other_children, has_other_links}
use Rattle.view_rules.specs.Siblings.{HasEntryFellows, is_entry_lost, is_link_lost, is_map_lost, is_unmarked, sibling_place, link_place, file_place}
use Rattle.view_rules.specs.Extents.{IsExtentOrder, is_misplaced, is_uncovered}
use Rattle.view_rules.specs.Inodes.{lacks_target, has_large_stream, has_large_body, lacks_owner}
use Rattle.view_rules.specs.declared.fault.IdAt.{IdAt}
use Rattle.view_rules.specs.declared.fault.NamedAt.{NamedAt}
use Rattle.view_rules.specs.declared.fault.TreeFault.{TreeFault}
use Rattle.view_rules.specs.declared.fault.TreeFault.TheVariants.{DupName, Hash, NoInode, DirNames, Unreached, SiblingLost, ExtentOrder, ExtentPlace, ExtentUncovered, Stream, AttrOwner, NameHash}
use Rattle.view_rules.specs.declared.profile.Profile.TheVariants.{Strict}
use Rattle.apfs_model.specs.declared.failed.NoMemory.{NoMemory}
use Rattle.apfs_model.proofs.BoolTests.{clash}
use Rattle.apfs_model.proofs.Searches.{found-in}
use Rattle.rule_breaks.proofs.Finds.{none-clear, found-broken}
use Rattle.rule_breaks.proofs.FellowLooks.{lost_none}
use Rattle.rule_breaks.specs.declared.faults.Asked.{Asked}
use Rattle.rule_breaks.specs.declared.faults.by_inode.InodeRule.{InodeRule}
use Rattle.rule_breaks.specs.declared.faults.by_inode.InodeRule.TheVariants.{Home, ChildCount, LinkCount, Target, Size}
use Rattle.rule_breaks.specs.declared.faults.entries.EntryRule.{EntryRule}
use Rattle.rule_breaks.specs.declared.faults.entries.EntryRule.TheVariants.{Directory, File, Kind}
use Rattle.rule_breaks.specs.ByInode as inodes
use Rattle.rule_breaks.specs.ByEntry as entries
use Rattle.rule_breaks.specs.Faults.{id_at, named_at, IsShown, IsFirst, either}

-- where nothing is found no item breaks the rule
pub none_clear : {X : Type 0} (breaks : X → Bool) (xs : List X) → None ≡ find breaks xs → IsClear breaks xs
none_clear breaks xs none = none-clear breaks xs (sym none)

-- some rules hold and some more, or the first fault that is given is there
first-of : (asked : Asked) (facts : Facts) (A B : Type 0) (one other : Option TreeFault) → IsFirst asked facts A one → IsFirst asked facts B other → IsFirst asked facts (A × B) (option_or one other)
first-of asked facts A B (Some f) other there more = there
first-of asked facts A B None (Some g) holds there = there
first-of asked facts A B None None holds more = (holds, more)

pub both : (asked : Asked) (facts : Facts) (A B : Type 0) (one other first : Option TreeFault) → first ≡ option_or one other → IsFirst asked facts A one → IsFirst asked facts B other → IsFirst asked facts (A × B) first
both asked facts A B one other first is here there = subst (λ o. IsFirst asked facts (A × B) o) (sym is) (first-of asked facts A B one other here there)

either-of : (asked : Asked) (facts : Facts) (A B : Type 0) (one other : Result (Option TreeFault) NoMemory) → IfOk one (IsFirst asked facts A) → IfOk other (IsFirst asked facts B) → IfOk (either one other) (IsFirst asked facts (A × B))
either-of asked facts A B (Ok one) (Ok other) here there = first-of asked facts A B one other here there
either-of asked facts A B (Ok one) (Err e) here there = there
either-of asked facts A B (Err e) other here there = here

-- the same where memory was enough for both
pub either-first : (asked : Asked) (facts : Facts) (A B : Type 0) (one other result : Result (Option TreeFault) NoMemory) → result ≡ either one other → IfOk one (IsFirst asked facts A) → IfOk other (IsFirst asked facts B) → IfOk result (IsFirst asked facts (A × B))
either-first asked facts A B one other result is here there = subst (λ r. IfOk r (IsFirst asked facts (A × B))) (sym is) (either-of asked facts A B one other here there)

regroup : (asked : Asked) (facts : Facts) (A B C : Type 0) (result : Result (Option TreeFault) NoMemory) → IfOk result (IsFirst asked facts ((A × B) × C)) → IfOk result (IsFirst asked facts (A × (B × C)))
regroup asked facts A B C (Err e) none = none
regroup asked facts A B C (Ok (Some f)) there = there
regroup asked facts A B C (Ok None) all = (all.0.0, (all.0.1, all.1))

-- two rules hold and some more, or the first fault that is given is there
pub two-and : (asked : Asked) (facts : Facts) (A B C : Type 0) (one other result : Result (Option TreeFault) NoMemory) → result ≡ either one other → IfOk one (IsFirst asked facts (A × B)) → IfOk other (IsFirst asked facts C)
    → IfOk result (IsFirst asked facts (A × (B × C)))
two-and asked facts A B C one other result is here there = regroup asked facts A B C result (either-first asked facts (A × B) C one other result is here there)

-- some rules hold, so it is about the one that is left
pub rest-holds : (asked : Asked) (facts : Facts) (A B C D : Type 0) (first : Option TreeFault) → A → B → D → IsFirst asked facts C first → IsFirst asked facts (A × (B × (C × D))) first
rest-holds asked facts A B C D (Some f) a b d there = there
rest-holds asked facts A B C D None a b d holds = (a, (b, (holds, d)))

-- some rules hold and a last one, or the first fault that is given is there
pub last-of : (asked : Asked) (facts : Facts) (A B C D : Type 0) (one other : Option TreeFault) → IsFirst asked facts (A × (B × C)) one → IsFirst asked facts D other → IsFirst asked facts (A × (B × (C × D))) (option_or one other)
last-of asked facts A B C D (Some f) other there more = there
last-of asked facts A B C D None (Some g) all there = there
last-of asked facts A B C D None None all holds = (all.0, (all.1.0, (all.1.1, holds)))

pub and-last : (asked : Asked) (facts : Facts) (A B C D : Type 0) (one other first : Option TreeFault) → first ≡ option_or one other → IsFirst asked facts (A × (B × C)) one → IsFirst asked facts D other → IsFirst asked facts (A × (B × (C × D))) first
and-last asked facts A B C D one other first is here there = subst (λ o. IsFirst asked facts (A × (B × (C × D))) o) (sym is) (last-of asked facts A B C D one other here there)

-- no fault is given, so the rules hold
pub none-given : (asked : Asked) (facts : Facts) (A : Type 0) (first : Option TreeFault) (none : Bool) → IsFirst asked facts A first → is_some first ≡ not none → none ≡ true → A
none-given asked facts A None none holds is e = holds
none-given asked facts A (Some f) true there is e = absurd (let r : ⊥ = cc in r)
none-given asked facts A (Some f) false there is e = absurd (let r : ⊥ = cc in r)

pub entry_twice : (asked : Asked) (facts : Facts) (x : Fact Entry) (n : ℕ) (name : List ℕ) (at : NamedAt) → Some x ≡ find (is_entry_repeated facts) facts.entries → n ≡ x.id → name ≡ x.what.name → at ≡ named_at asked.view.now n name → IsShown asked facts (DupName at)
entry_twice asked facts x n name at found called named is = subst (λ (y : NamedAt). IsShown asked facts (DupName y)) (sym (is ∙ (λ i. named_at asked.view.now (called i) (named i)))) ((refl, refl), inl (found-broken (is_entry_repeated facts) entry_place facts.entries x (sym found)))

pub attribute_twice : (asked : Asked) (facts : Facts) (x : Fact Attribute) (n : ℕ) (name : List ℕ) (at : NamedAt) → Some x ≡ find (is_attribute_repeated facts) facts.attributes → n ≡ x.id → name ≡ x.what.name → at ≡ named_at asked.view.now n name → IsShown asked facts (DupName at)
attribute_twice asked facts x n name at found called named is = subst (λ (y : NamedAt). IsShown asked facts (DupName y)) (sym (is ∙ (λ i. named_at asked.view.now (called i) (named i)))) ((refl, refl), inr (found-broken (is_attribute_repeated facts) attribute_place facts.attributes x (sym found)))

pub other_hash : (asked : Asked) (facts : Facts) (x : Fact Entry) (n : ℕ) (name : List ℕ) (at : NamedAt) → Some x ≡ find (has_other_ascii_hash facts) facts.entries → n ≡ x.id → name ≡ x.what.name → at ≡ named_at asked.view.now n name → IsShown asked facts (Hash at)
other_hash asked facts x n name at found called named is = subst (λ (y : NamedAt). IsShown asked facts (Hash y)) (sym (is ∙ (λ i. named_at asked.view.now (called i) (named i)))) ((refl, refl), found-broken (has_other_ascii_hash facts) entry_place facts.entries x (sym found))

entry-breach : (asked : Asked) (facts : Facts) (rule : EntryRule) (x : Fact Entry) → Some x ≡ find (entries.is_broken facts rule) facts.entries → IsShown asked facts (entries.fault rule (named_at asked.view.now x.id x.what.name))
entry-breach asked facts Directory x found = ((refl, refl), found-broken (lacks_parent facts) entry_place facts.entries x (sym found))
entry-breach asked facts File x found = ((refl, refl), found-broken (lacks_inode facts) entry_place facts.entries x (sym found))
entry-breach asked facts Kind x found = ((refl, refl), found-broken (has_other_kind facts) entry_place facts.entries x (sym found))

pub entry : (asked : Asked) (facts : Facts) (rule : EntryRule) (x : Fact Entry) (n : ℕ) (name : List ℕ) (at : NamedAt) (fault : TreeFault) → Some x ≡ find (entries.is_broken facts rule) facts.entries → n ≡ x.id → name ≡ x.what.name → at ≡ named_at asked.view.now n name
    → fault ≡ entries.fault rule at → IsShown asked facts fault
entry asked facts rule x n name at fault found called named is same = subst (λ (y : TreeFault). IsShown asked facts y) (sym (same ∙ ap (entries.fault rule) (is ∙ (λ i. named_at asked.view.now (called i) (named i))))) (entry-breach asked facts rule x found)

pub name_hash : (asked : Asked) (facts : Facts) (x : Fact Entry) (n : ℕ) (name : List ℕ) (at : NamedAt) → Some x ≡ find (has_other_name_hash facts) facts.entries → asked.profile ≡ Strict → n ≡ x.id → name ≡ x.what.name → at ≡ named_at asked.view.now n name → IsShown asked facts (NameHash at)
name_hash asked facts x n name at found strict called named is = subst (λ (y : NamedAt). IsShown asked facts (NameHash y)) (sym (is ∙ (λ i. named_at asked.view.now (called i) (named i)))) ((refl, refl), strict, found-broken (has_other_name_hash facts) entry_place facts.entries x (sym found))

inode-breach : (asked : Asked) (facts : Facts) (rule : InodeRule) (x : Fact Inode) → Some x ≡ find (inodes.is_broken facts rule) facts.inodes → IsShown asked facts (inodes.fault rule (id_at asked.view.now x.id))
inode-breach asked facts Home x found = ((refl, refl), inl (found-broken (is_misnamed facts) id_of_fact facts.inodes x (sym found)))
inode-breach asked facts ChildCount x found = ((refl, refl), found-broken (has_other_children facts) id_of_fact facts.inodes x (sym found))
inode-breach asked facts LinkCount x found = ((refl, refl), found-broken (has_other_links facts) id_of_fact facts.inodes x (sym found))
inode-breach asked facts Target x found = ((refl, refl), found-broken (lacks_target facts) id_of_fact facts.inodes x (sym found))
inode-breach asked facts Size x found = ((refl, refl), inl (found-broken has_large_stream id_of_fact facts.inodes x (sym found)))

pub inode : (asked : Asked) (facts : Facts) (rule : InodeRule) (x : Fact Inode) (n : ℕ) (at : IdAt) (fault : TreeFault) → Some x ≡ find (inodes.is_broken facts rule) facts.inodes → n ≡ x.id → at ≡ id_at asked.view.now n → fault ≡ inodes.fault rule at → IsShown asked facts fault
inode asked facts rule x n at fault found called is same = subst (λ (y : TreeFault). IsShown asked facts y) (sym (same ∙ ap (inodes.fault rule) (is ∙ ap (id_at asked.view.now) called))) (inode-breach asked facts rule x found)

pub lost_link : (asked : Asked) (facts : Facts) (x : Fact Link) (n : ℕ) (at : IdAt) → Some x ≡ find (is_link_lost facts) facts.links → n ≡ x.what.sibling → at ≡ id_at asked.view.now n → IsShown asked facts (SiblingLost at)
lost_link asked facts x n at found called is = subst (λ (y : IdAt). IsShown asked facts (SiblingLost y)) (sym (is ∙ ap (id_at asked.view.now) called)) ((refl, refl), inr (inl (found-broken (is_link_lost facts) link_place facts.links x (sym found))))

pub lost_map : (asked : Asked) (facts : Facts) (x : Fact ℕ) (n : ℕ) (at : IdAt) → Some x ≡ find (is_map_lost facts) facts.siblings → n ≡ x.id → at ≡ id_at asked.view.now n → IsShown asked facts (SiblingLost at)
lost_map asked facts x n at found called is = subst (λ (y : IdAt). IsShown asked facts (SiblingLost y)) (sym (is ∙ ap (id_at asked.view.now) called)) ((refl, refl), inr (inr (inl (found-broken (is_map_lost facts) id_of_fact facts.siblings x (sym found)))))

pub unmarked : (asked : Asked) (facts : Facts) (x : Fact Entry) (n : ℕ) (at : IdAt) → Some x ≡ find (is_unmarked facts) facts.entries → n ≡ x.what.file_id → at ≡ id_at asked.view.now n → IsShown asked facts (SiblingLost at)
unmarked asked facts x n at found called is = subst (λ (y : IdAt). IsShown asked facts (SiblingLost y)) (sym (is ∙ ap (id_at asked.view.now) called)) ((refl, refl), inr (inr (inr (found-broken (is_unmarked facts) file_place facts.entries x (sym found)))))

pub place : (asked : Asked) (facts : Facts) (x : Fact FileExt) (n : ℕ) (at : IdAt) → Some x ≡ find (is_misplaced asked.site.now.block_size asked.site.now.blocks) facts.extents → n ≡ x.id → at ≡ id_at asked.view.now n → IsShown asked facts (ExtentPlace at)
place asked facts x n at found called is = subst (λ (y : IdAt). IsShown asked facts (ExtentPlace y)) (sym (is ∙ ap (id_at asked.view.now) called)) ((refl, refl), found-broken (is_misplaced asked.site.now.block_size asked.site.now.blocks) id_of_fact facts.extents x (sym found))

pub cover : (asked : Asked) (facts : Facts) (x : Fact FileExt) (n : ℕ) (at : IdAt) → Some x ≡ find (is_uncovered asked.site.now.block_size asked.ranges.now) facts.extents → n ≡ x.id → at ≡ id_at asked.view.now n → IsShown asked facts (ExtentUncovered at)
cover asked facts x n at found called is = subst (λ (y : IdAt). IsShown asked facts (ExtentUncovered y)) (sym (is ∙ ap (id_at asked.view.now) called)) ((refl, refl), found-broken (is_uncovered asked.site.now.block_size asked.ranges.now) id_of_fact facts.extents x (sym found))

pub body : (asked : Asked) (facts : Facts) (x : Fact Attribute) (n : ℕ) (at : IdAt) → Some x ≡ find has_large_body facts.attributes → n ≡ x.id → at ≡ id_at asked.view.now n → IsShown asked facts (Stream at)
body asked facts x n at found called is = subst (λ (y : IdAt). IsShown asked facts (Stream y)) (sym (is ∙ ap (id_at asked.view.now) called)) ((refl, refl), inr (found-broken has_large_body id_of_fact facts.attributes x (sym found)))

pub owner : (asked : Asked) (facts : Facts) (x : Fact Attribute) (n : ℕ) (at : IdAt) → Some x ≡ find (lacks_owner facts) facts.attributes → n ≡ x.id → at ≡ id_at asked.view.now n → IsShown asked facts (AttrOwner at)
owner asked facts x n at found called is = subst (λ (y : IdAt). IsShown asked facts (AttrOwner y)) (sym (is ∙ ap (id_at asked.view.now) called)) ((refl, refl), found-broken (lacks_owner facts) id_of_fact facts.attributes x (sym found))

-- an entry that lacks its fellows is of a sibling, and that is the one named
pub lost_entry : (asked : Asked) (facts : Facts) (x : Fact Entry) (first : Option TreeFault) → Some x ≡ find (is_entry_lost facts) facts.entries → first ≡ option_map (λ s. SiblingLost (id_at asked.view.now s)) x.what.sibling → IsFirst asked facts (HasEntryFellows facts) first
lost_entry asked facts x first found is =
    let there : IsBroken (is_entry_lost facts) sibling_place facts.entries (sibling_place x) = found-broken (is_entry_lost facts) sibling_place facts.entries x (sym found) in
    let go : (o : Option ℕ) → x.what.sibling ≡ o → IsFirst asked facts (HasEntryFellows facts) (option_map (λ s. SiblingLost (id_at asked.view.now s)) o) =
    λ o. elim o as (λ o. x.what.sibling ≡ o → IsFirst asked facts (HasEntryFellows facts) (option_map (λ s. SiblingLost (id_at asked.view.now s)) o)) [
      | None ↦ λ none. absurd (clash (is_entry_lost facts x) (found-in (is_entry_lost facts) facts.entries x (sym found)).1 (lost_none facts x none))
      | Some s ↦ λ twin. ((refl, refl), inl (subst (λ p. IsBroken (is_entry_lost facts) sibling_place facts.entries p) twin there))
    ] in
    subst (λ y. IsFirst asked facts (HasEntryFellows facts) y) (sym is) (go x.what.sibling refl)

pub order : (asked : Asked) (facts : Facts) (id : ℕ) (at : IdAt) → at ≡ id_at asked.view.now id → IsExtentOrder asked.site.now.block_size facts id → IsShown asked facts (ExtentOrder at)
order asked facts id at is there = subst (λ (y : IdAt). IsShown asked facts (ExtentOrder y)) (sym is) ((refl, refl), there)

pub way : (asked : Asked) (facts : Facts) (id n : ℕ) (at : IdAt) → IsUnreached facts id → n ≡ id → at ≡ id_at asked.view.now n → IsShown asked facts (Unreached at)
way asked facts id n at there called is = subst (λ (y : IdAt). IsShown asked facts (Unreached y)) (sym (is ∙ ap (id_at asked.view.now) called)) ((refl, refl), there)

-- the root
pub root : (asked : Asked) (facts : Facts) → has_root facts ≡ false → IsShown asked facts (NoInode asked.view.now.slot asked.view.now.xid 2 None)
root asked facts fails = ((refl, refl), (refl, fails))

pub root_name : (asked : Asked) (facts : Facts) (at : IdAt) → at ≡ id_at asked.view.now 2 → is_root_named facts ≡ true → IsShown asked facts (DirNames at)
root_name asked facts at is named = subst (λ (y : IdAt). IsShown asked facts (DirNames y)) (sym is) ((refl, refl), inr (refl, named))
