-- Facts that have their rules are those after a plain change, but for a few conditions.
use Rattle.std.proofs.Common.{◌≡◌, ℕ, Bool, true, false, List, Some, ◌⊎◌, inl, inr, ap, sym, ◌∙◌, arith}
use Rattle.std.specs.Prelude.{not, ◌&&◌, ◌==◌, is_some}
use Rattle.std.specs.List.{list_any}
use Rattle.std.proofs.lemmas.Bool.{cases_lt}
use Rattle.apfs_model.proofs.BoolTests.{test_or, clash, left-true, right-true, never-true, not-false, false-not, equal-from}
use Rattle.fs_record.specs.Inodes.{Inode}
use Rattle.fs_record.specs.Facts.{Fact, is_reserved}
use Rattle.view_rules.specs.Words.{IsClear}
use Rattle.view_rules.specs.Facts.{Facts, inode_at, is_directory, has_inode, has_directory, is_system_id, does_count, names_file, entry_count, child_count}
use Rattle.view_rules.specs.Entries.{lacks_parent, HasParents, lacks_inode, HasFiles}
use Rattle.view_rules.specs.Siblings.{is_link_of, has_entry, has_map, is_link_lost, HasLinkFellows}
use Rattle.view_rules.specs.Inodes.{lacks_owner, HasOwners}
use Rattle.rule_changes.specs.Changes.{Weaves, is_of, has_fact, has_double, is_user_link, IsUnused}
use Rattle.rule_changes.specs.Laws.{PlainIfRight}
use Rattle.rule_changes.proofs.Weaving.{some-in, some-counted, in-differs}
use Rattle.rule_changes.proofs.Kept.{some-passes, asked}

-- what holds of the whole holds of what has come
part : {X : Type 0} {breaks : X → Bool} {all same other : List X} → Weaves all same other → IsClear breaks all → IsClear breaks other
part w clear x h = clear x (in-differs w x h)

-- an id without an inode is used by nothing
unused : (facts : Facts) → HasFiles facts → HasParents facts → HasOwners facts → (f : Fact Inode) → has_inode facts f.id ≡ false → IsUnused facts f
unfolding lacks_inode lacks_parent lacks_owner
unused facts files parents owners f none = record {
  entries = elim (cases_lt 0 (entry_count facts f.id)) as (λ _. entry_count facts f.id ≡ 0) [
    | inr l ↦ omega arith
    | inl some ↦
        let t = some-counted (names_file f.id) facts.entries some in
        let counts = left-true (does_count t.0) (t.0.what.file_id == f.id) t.1.1 in
        let same : t.0.what.file_id ≡ f.id = equal-from t.0.what.file_id f.id (right-true (does_count t.0) (t.0.what.file_id == f.id) t.1.1) in
        clash (has_inode facts f.id) (ap (has_inode facts) (sym same) ∙ asked (does_count t.0) (has_inode facts t.0.what.file_id) (files t.0 t.1.0) counts) none
  ];
  attributes = never-true (has_fact f.id facts.attributes) (λ some.
      let t = some-in (is_of f.id) facts.attributes some in
      let same : t.0.id ≡ f.id = equal-from t.0.id f.id t.1.1 in
      clash (has_inode facts f.id) (ap (has_inode facts) (sym same) ∙ not-false (has_inode facts t.0.id) (owners t.0 t.1.0)) none);
  children = λ directory user. elim (cases_lt 0 (child_count facts f.id)) as (λ _. child_count facts f.id ≡ 0) [
    | inr l ↦ omega arith
    | inl some ↦
        let t = some-counted (is_of f.id) facts.entries some in
        let same : t.0.id ≡ f.id = equal-from t.0.id f.id t.1.1 in
        let there : has_directory facts t.0.id ≡ true = asked (does_count t.0) (has_directory facts t.0.id) (parents t.0 t.1.0) (false-not (is_reserved t.0.id) (ap is_reserved same ∙ user)) in
        let at = some-passes (inode_at facts t.0.id) is_directory there in
        clash (has_inode facts f.id) (ap (has_inode facts) (sym same) ∙ has-at facts t.0.id at.0 at.1.0) none
  ];
}
  where
    has-at : (facts : Facts) (id : ℕ) (inode : Inode) → inode_at facts id ≡ Some inode → has_inode facts id ≡ true
    has-at facts id inode e = ap is_some e

-- a link that needs its map has it
mapped : (facts : Facts) → HasLinkFellows facts → (m : Fact ℕ) → (has_map facts m.what m.id ≡ true) ⊎ (list_any (is_user_link m.what m.id) facts.links ≡ false)
unfolding is_link_lost
mapped facts fellows m = elim (test_or (list_any (is_user_link m.what m.id) facts.links)) as (λ _. (has_map facts m.what m.id ≡ true) ⊎ (list_any (is_user_link m.what m.id) facts.links ≡ false)) [
  | inr none ↦ inr none
  | inl some ↦
      let t = some-in (is_user_link m.what m.id) facts.links some in
      let l = t.0 in
      let of = left-true (is_link_of m.what m.id l) (not (is_system_id l.what.parent)) t.1.1 in
      let user = right-true (is_link_of m.what m.id l) (not (is_system_id l.what.parent)) t.1.1 in
      let file : l.what.file ≡ m.what = equal-from l.what.file m.what (left-true (l.what.file == m.what) (l.what.sibling == m.id) of) in
      let sibling : l.what.sibling ≡ m.id = equal-from l.what.sibling m.id (right-true (l.what.file == m.what) (l.what.sibling == m.id) of) in
      let both = asked (not (is_system_id l.what.parent)) (has_entry facts l && has_map facts l.what.file l.what.sibling) (fellows l t.1.0) user in
      inl (ap (λ i. has_map facts i m.id) (sym file) ∙ (ap (λ i. has_map facts l.what.file i) (sym sibling) ∙ right-true (has_entry facts l) (has_map facts l.what.file l.what.sibling) both))
]

pub plain-if-right : PlainIfRight
plain-if-right profile site ranges before after gone come same r c mild = record {
  inodes = λ f h. elim (test_or (has_inode after f.id)) as (λ _. (has_double come f ≡ true) ⊎ IsUnused after f) [
    | inl there ↦ inl (mild.kinds f h there)
    | inr none ↦ inr (unused after r.files r.parents r.owners f none)
  ];
  root = r.root;
  root_name = r.root_name;
  entry_names = part c.made.entries r.entry_names;
  ascii_hashes = part c.made.entries r.ascii_hashes;
  name_hashes = λ strict. part c.made.entries (r.name_hashes strict);
  parents = part c.made.entries r.parents;
  files = part c.made.entries r.files;
  kinds = part c.made.entries r.kinds;
  directory_names = λ f h t. r.directory_names f h;
  links = λ f h t. r.links f h;
  children = λ f h t. r.children f h;
  ways = λ f h user. inr (r.ways f (in-differs c.made.inodes f h) user);
  fellows = record {
    new_entries = part c.made.entries r.entry_fellows;
    new_links = part c.made.links r.link_fellows;
    new_maps = part c.made.siblings r.map_fellows;
    old_entries = λ e l lost h t. r.link_fellows l h;
    old_links = mild.links;
    old_maps = λ m lost. mapped after r.link_fellows m;
    maps = λ m h t. r.map_fellows m h;
  };
  marks = part c.made.entries r.marks;
  shared = mild.shared;
  attribute_names = part c.made.attributes r.attribute_names;
  owners = part c.made.attributes r.owners;
  targets = λ f h t. r.targets f h;
  stream_sizes = part c.made.inodes r.stream_sizes;
  body_sizes = part c.made.attributes r.body_sizes;
  extent_order = λ f h t. r.extent_order f h;
  extent_places = part c.made.extents r.extent_places;
  cover = part c.made.extents r.cover;
}
