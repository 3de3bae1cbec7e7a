-- What the rules say of what is kept of a view's facts they say of the facts.
use Rattle.std.proofs.Common.{◌≡◌, ℕ, ◌+◌, Bool, true, false, cond, ◌&&◌, ◌||◌, ◌==◌, List, [], ◌∷◌, map, None, inl, inr, refl, ap, sym, ◌∙◌}
use Rattle.std.specs.Prelude.{not, nat_lt, count_by, bytes_eq}
use Rattle.std.specs.List.{fold, list_any}
use Rattle.apfs_model.proofs.Searches.{in-map, from-map}
use Rattle.obj_base.specs.declared.site.Site.{Site}
use Rattle.ext_ref.specs.declared.range.NewRange.{NewRange}
use Rattle.fs_record.specs.Attributes.{Body, Embedded, Streamed, Attribute}
use Rattle.fs_record.specs.Facts.{Fact, link_kind}
use Rattle.fs_record.specs.Inodes.{Inode, inode_kind}
use Rattle.vol_view.specs.declared.volume.View.{View}
use Rattle.view_rules.specs.Words.{IsClear, IsBroken}
use Rattle.view_rules.specs.Facts.{Facts, id_of_fact}
use Rattle.view_rules.specs.Names.{attribute_place, is_attribute_at, is_entry_repeated, is_attribute_repeated, has_other_hash, has_other_ascii_hash, has_other_name_hash, IsDupName}
use Rattle.view_rules.specs.Entries.{lacks_parent, lacks_inode, has_root, has_other_kind}
use Rattle.view_rules.specs.Directories.{is_misnamed, is_root_named, IsUnreached}
use Rattle.view_rules.specs.Counts.{has_other_children, has_other_links}
use Rattle.view_rules.specs.Siblings.{is_entry_lost, is_link_lost, is_map_lost, is_unmarked}
use Rattle.view_rules.specs.Extents.{is_disordered}
use Rattle.view_rules.specs.Inodes.{target_name, holds_target, is_large_body, gives_target, lacks_target, has_large_body, lacks_owner, IsStream}
use Rattle.view_rules.specs.Rules.{HasFactRules}
use Rattle.view_rules.specs.declared.fault.TreeFault.{TreeFault}
use Rattle.view_rules.specs.declared.fault.TreeFault.TheVariants.{DupName, NoInode, Unreached, LinkTarget, Stream, AttrOwner}
use Rattle.view_rules.specs.declared.profile.Profile.{Profile}
use Rattle.view_rules.specs.declared.profile.Profile.TheVariants.{Plain, Strict}
use Rattle.view_facts.specs.Contents.{brief_body, brief, brief_facts}
use Rattle.tree_rules.specs.Notes.{is_unnamed}
use Rattle.tree_rules.specs.Tallies.{notes_of}
use Rattle.rule_breaks.specs.declared.faults.Asked.{Asked}
use Rattle.rule_breaks.specs.Faults.{IsShown}

fold-brief : (p : Fact Attribute → Bool) → ((a : Fact Attribute) → p (brief a) ≡ p a) → (n : ℕ) (xs : List (Fact Attribute)) → fold (λ a x. a + cond (p x) 1 0) n (map brief xs) ≡ fold (λ a x. a + cond (p x) 1 0) n xs
fold-brief p same n [] = refl
fold-brief p same n (x ∷ xs) = fold-brief p same (n + cond (p (brief x)) 1 0) xs ∙ ap (λ b. fold (λ a x. a + cond (p x) 1 0) (n + cond b 1 0) xs) (same x)

count-brief : (p : Fact Attribute → Bool) → ((a : Fact Attribute) → p (brief a) ≡ p a) → (xs : List (Fact Attribute)) → count_by p (map brief xs) ≡ count_by p xs
count-brief p same xs = fold-brief p same 0 xs

any-brief : (p : Fact Attribute → Bool) → ((a : Fact Attribute) → p (brief a) ≡ p a) → (xs : List (Fact Attribute)) → list_any p (map brief xs) ≡ list_any p xs
any-brief p same [] = refl
any-brief p same (x ∷ xs) = λ i. same x i || any-brief p same xs i

-- the target of a symbolic link is kept
target-kept : (b : Bool) (bytes : List ℕ) → (b && holds_target (Embedded (cond b bytes []))) ≡ (b && holds_target (Embedded bytes))
target-kept true bytes = refl
target-kept false bytes = refl

body-target : (name : List ℕ) (body : Body) → (bytes_eq name target_name && holds_target (brief_body name body)) ≡ (bytes_eq name target_name && holds_target body)
body-target name (Embedded bytes) = target-kept (bytes_eq name target_name) bytes
body-target name (Streamed id size) = refl

brief-target : (id : ℕ) (a : Fact Attribute) → gives_target id (brief a) ≡ gives_target id a
brief-target id a = ap (λ b. (a.id == id) && b) (body-target a.what.name a.what.body)

body-large : (name : List ℕ) (body : Body) → is_large_body (brief_body name body) ≡ is_large_body body
body-large name (Embedded bytes) = refl
body-large name (Streamed id size) = refl

-- the tests of attributes
same-repeated : (facts : Facts) (a : Fact Attribute) → is_attribute_repeated (brief_facts facts) (brief a) ≡ is_attribute_repeated facts a
unfolding is_attribute_repeated
same-repeated facts a = ap (nat_lt 1) (count-brief (is_attribute_at a.id a.what.name) (λ b. refl) facts.attributes)

same-large : (a : Fact Attribute) → has_large_body (brief a) ≡ has_large_body a
unfolding has_large_body
same-large a = body-large a.what.name a.what.body

same-owner : (facts : Facts) (a : Fact Attribute) → lacks_owner (brief_facts facts) (brief a) ≡ lacks_owner facts a
unfolding lacks_owner
same-owner facts a = refl

same-target : (facts : Facts) (f : Fact Inode) → lacks_target (brief_facts facts) f ≡ lacks_target facts f
unfolding lacks_target
same-target facts f = ap (λ b. (inode_kind f.what == link_kind) && not b) (any-brief (gives_target f.id) (brief-target f.id) facts.attributes)

clear-brief : (p q : Fact Attribute → Bool) → ((a : Fact Attribute) → p (brief a) ≡ q a) → (xs : List (Fact Attribute)) → IsClear p (map brief xs) → IsClear q xs
clear-brief p q same xs clear a listed = sym (same a) ∙ clear (brief a) (in-map brief xs a listed)

broken-brief : {P : Type 0} (p q : Fact Attribute → Bool) (place : Fact Attribute → P) → ((a : Fact Attribute) → p (brief a) ≡ q a) → ((a : Fact Attribute) → place (brief a) ≡ place a) → (xs : List (Fact Attribute)) (at : P) → IsBroken p place (map brief xs) at → IsBroken q place xs at
broken-brief p q place same stays xs at b =
    let t = from-map brief xs b.item b.listed in
    record { item = t.0; listed = t.1.0; same = sym (stays t.0) ∙ (ap place (sym t.1.1) ∙ b.same); breach = sym (same t.0) ∙ (ap p (sym t.1.1) ∙ b.breach) }

-- the rules
pub rules-kept : (profile : Profile) (site : Site) (ranges : List NewRange) (facts : Facts) → HasFactRules profile site ranges (brief_facts facts) → HasFactRules profile site ranges facts
unfolding is_entry_repeated has_other_hash has_other_ascii_hash has_other_name_hash lacks_parent lacks_inode has_root has_other_kind is_misnamed is_root_named has_other_children has_other_links is_entry_lost is_link_lost is_map_lost is_unmarked is_disordered
rules-kept profile site ranges facts has = record {
  entry_names = has.entry_names;
  attribute_names = clear-brief (is_attribute_repeated (brief_facts facts)) (is_attribute_repeated facts) (same-repeated facts) facts.attributes has.attribute_names;
  ascii_hashes = has.ascii_hashes;
  parents = has.parents;
  files = has.files;
  root = has.root;
  kinds = has.kinds;
  directory_names = has.directory_names;
  root_name = has.root_name;
  ways = has.ways;
  children = has.children;
  links = has.links;
  entry_fellows = has.entry_fellows;
  link_fellows = has.link_fellows;
  map_fellows = has.map_fellows;
  marks = has.marks;
  extent_order = has.extent_order;
  extent_places = has.extent_places;
  cover = has.cover;
  targets = λ f listed. sym (same-target facts f) ∙ has.targets f listed;
  stream_sizes = has.stream_sizes;
  body_sizes = clear-brief has_large_body has_large_body same-large facts.attributes has.body_sizes;
  owners = clear-brief (lacks_owner (brief_facts facts)) (lacks_owner facts) (same-owner facts) facts.attributes has.owners;
  name_hashes = has.name_hashes;
}

dup-kept : (facts : Facts) (id : ℕ) (name : List ℕ) → IsDupName (brief_facts facts) id name → IsDupName facts id name
unfolding is_entry_repeated
dup-kept facts id name (inl e) = inl e
dup-kept facts id name (inr a) = inr (broken-brief (is_attribute_repeated (brief_facts facts)) (is_attribute_repeated facts) attribute_place (same-repeated facts) (λ b. refl) facts.attributes (id, name) a)

stream-kept : (facts : Facts) (id : ℕ) → IsStream (brief_facts facts) id → IsStream facts id
stream-kept facts id (inl f) = inl f
stream-kept facts id (inr a) = inr (broken-brief has_large_body has_large_body id_of_fact same-large (λ b. refl) facts.attributes id a)

unreached-kept : (facts : Facts) (id : ℕ) → IsUnreached (brief_facts facts) id → IsUnreached facts id
unreached-kept facts id u = record { item = u.item; listed = u.listed; same = u.same; directory = u.directory; lost = u.lost }

-- the faults
pub shown-kept : (asked : Asked) (facts : Facts) (fault : TreeFault) → IsShown asked (brief_facts facts) fault → IsShown asked facts fault
unfolding is_entry_repeated has_other_hash has_other_ascii_hash has_other_name_hash lacks_parent lacks_inode has_root has_other_kind is_misnamed is_root_named has_other_children has_other_links is_entry_lost is_link_lost is_map_lost is_unmarked is_disordered
shown-kept asked facts (DupName at) there = (there.0, dup-kept facts at.id at.name there.1)
shown-kept asked facts (NoInode slot xid id None) there = there
shown-kept asked facts (Unreached at) there = (there.0, unreached-kept facts at.id there.1)
shown-kept asked facts (LinkTarget at) there = (there.0, (let b = there.1 in record { item = b.item; listed = b.listed; same = b.same; breach = sym (same-target facts b.item) ∙ b.breach }))
shown-kept asked facts (Stream at) there = (there.0, stream-kept facts at.id there.1)
shown-kept asked facts (AttrOwner at) there = (there.0, broken-brief (lacks_owner (brief_facts facts)) (lacks_owner facts) id_of_fact (same-owner facts) (λ b. refl) facts.attributes at.id there.1)
shown-kept asked facts fault there = there

-- the notes
pub notes-kept : (profile : Profile) (view : View) (facts : Facts) → notes_of profile view (brief_facts facts) ≡ notes_of profile view facts
unfolding notes_of is_unnamed has_other_hash has_other_name_hash
notes-kept Plain view facts = refl
notes-kept Strict view facts = refl
