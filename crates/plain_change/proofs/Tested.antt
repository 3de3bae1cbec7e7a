-- What is tested of a change, put together.
use Rattle.std.proofs.Common.{◌≡◌, ℕ, ◌+◌, ◌<◌, Bool, true, false, ◌&&◌, ◌||◌, ◌==◌, List, Option, Some, None, inl, inr, refl, ap, arith}
use Rattle.std.specs.Prelude.{not, nat_lt, is_some, is_none, All}
use Rattle.std.specs.List.{list_any}
use Rattle.apfs_model.specs.Lists.{In}
use Rattle.apfs_model.proofs.BoolTests.{either-from, left-or, right-or, equal-from, from-equal, below-from, from-below}
use Rattle.obj_base.specs.declared.site.Site.{Site}
use Rattle.ext_ref.specs.declared.range.NewRange.{NewRange}
use Rattle.fs_record.specs.Facts.{Fact}
use Rattle.fs_record.specs.Inodes.{Inode}
use Rattle.fs_record.specs.Entries.{Entry}
use Rattle.fs_record.specs.Attributes.{Attribute}
use Rattle.view_rules.specs.Words.{IsClear}
use Rattle.view_rules.specs.Facts.{Facts, does_count, entry_count}
use Rattle.view_rules.specs.Names.{has_other_name_hash}
use Rattle.view_rules.specs.Siblings.{is_unmarked}
use Rattle.view_rules.specs.Rules.{HasFactRules}
use Rattle.view_rules.specs.declared.profile.Profile.{Profile}
use Rattle.view_rules.specs.declared.profile.Profile.TheVariants.{Strict}
use Rattle.rule_changes.specs.Changes.{IsChange, IsPlainChange, has_fact, is_name_of, is_renamed, is_refilled, is_stripped, is_newly_shared}
use Rattle.plain_change.specs.Fellows.{keeps_sharing, IsSharedStill}
use Rattle.plain_change.specs.Parts.{IsEntryRight, AreEntriesRight, AreNamesRight, AreInodesRight, AreStreamsRight}
use Rattle.rule_changes.proofs.Weaving.{in-differs}
use Rattle.rule_changes.proofs.Named.{ascii-hashes-kept}
use Rattle.rule_changes.proofs.Known.{counts-follow}
use Rattle.plain_change.proofs.Looks.{none-at, each-in}

-- ---- the ids of which something speaks
pub renamed-clear : (gone come : Facts) (bad : ℕ → Bool) → list_any (λ (f : Fact Inode). bad f.id) come.inodes ≡ false → list_any (λ (e : Fact Entry). bad e.what.file_id) gone.entries ≡ false
    → list_any (λ (e : Fact Entry). bad e.what.file_id) come.entries ≡ false → (id : ℕ) → is_renamed gone come id ≡ true → bad id ≡ false
renamed-clear gone come bad inodes old new id touched =
    elim (either-from (has_fact id come.inodes) (list_any (is_name_of id) gone.entries || list_any (is_name_of id) come.entries) touched) as (λ _. bad id ≡ false) [
      | inl some ↦ none-at (λ (f : Fact Inode). f.id) bad come.inodes inodes id some
      | inr rest ↦ elim (either-from (list_any (is_name_of id) gone.entries) (list_any (is_name_of id) come.entries) rest) as (λ _. bad id ≡ false) [
        | inl some ↦ none-at (λ (e : Fact Entry). e.what.file_id) bad gone.entries old id some
        | inr some ↦ none-at (λ (e : Fact Entry). e.what.file_id) bad come.entries new id some
      ]
    ]

pub refilled-clear : (gone come : Facts) (bad : ℕ → Bool) → list_any (λ (f : Fact Inode). bad f.id) come.inodes ≡ false → list_any (λ (e : Fact Entry). bad e.id) gone.entries ≡ false
    → list_any (λ (e : Fact Entry). bad e.id) come.entries ≡ false → (id : ℕ) → is_refilled gone come id ≡ true → bad id ≡ false
refilled-clear gone come bad inodes old new id touched =
    elim (either-from (has_fact id come.inodes) (has_fact id gone.entries || has_fact id come.entries) touched) as (λ _. bad id ≡ false) [
      | inl some ↦ none-at (λ (f : Fact Inode). f.id) bad come.inodes inodes id some
      | inr rest ↦ elim (either-from (has_fact id gone.entries) (has_fact id come.entries) rest) as (λ _. bad id ≡ false) [
        | inl some ↦ none-at (λ (e : Fact Entry). e.id) bad gone.entries old id some
        | inr some ↦ none-at (λ (e : Fact Entry). e.id) bad come.entries new id some
      ]
    ]

pub stripped-clear : (gone come : Facts) (bad : ℕ → Bool) → list_any (λ (f : Fact Inode). bad f.id) come.inodes ≡ false → list_any (λ (a : Fact Attribute). bad a.id) gone.attributes ≡ false
    → (id : ℕ) → is_stripped gone come id ≡ true → bad id ≡ false
stripped-clear gone come bad inodes old id touched =
    elim (either-from (has_fact id come.inodes) (has_fact id gone.attributes) touched) as (λ _. bad id ≡ false) [
      | inl some ↦ none-at (λ (f : Fact Inode). f.id) bad come.inodes inodes id some
      | inr some ↦ none-at (λ (a : Fact Attribute). a.id) bad gone.attributes old id some
    ]

-- ---- an entry of a file that has others has a sibling's id, or doesn't share its name anew
marked-or : (counts some more other : Bool) → (counts && (some && more)) ≡ false → some ≡ true → ((counts && more) && other) ≡ false
marked-or true true more other e s = ap (λ b. b && other) e
marked-or true false more other e s = absurd cc
marked-or false some more other e s = refl

unmarked : (o : Option ℕ) → is_some o ≡ false → is_none o ≡ true
unmarked (Some x) e = absurd cc
unmarked None e = refl

denied-last : (a b : Bool) → b ≡ true → (a && not b) ≡ false
denied-last true b t = ap not t
denied-last false b t = refl

-- a file whose entries are as many as those that have come had as many as are gone; if they are more than those by two, with those that are gone, it had two
as-gone : (after before gone come : ℕ) → after + gone ≡ before + come → after ≡ come → before ≡ gone
as-gone after before gone come sum same = omega arith

had-two : (after before gone come : ℕ) → after + gone ≡ before + come → come + 1 < after + gone → 1 < before
had-two after before gone come sum more = omega arith

shared-clear : (before after gone come same : Facts) → IsChange before after gone come same → IsClear (is_unmarked after) come.entries → ((e : Fact Entry) → In e come.entries → IsSharedStill after gone come e) → IsClear (is_newly_shared before after gone) come.entries
unfolding is_unmarked keeps_sharing
shared-clear before after gone come same change marks still e listed =
    let file = e.what.file_id in
    let sum = (counts-follow before after gone come same change file).0 in
    let several : Bool = nat_lt 1 (entry_count before file) in
    let whole : Bool = entry_count before file == entry_count gone file in
    let many : Bool = does_count e && nat_lt 1 (entry_count after file) in
    elim (still e listed) as (λ _. is_newly_shared before after gone e ≡ false) [
      | inl none ↦ marked-or (does_count e) (is_none e.what.sibling) (nat_lt 1 (entry_count after file)) (not (several || whole)) (marks e listed) (unmarked e.what.sibling none)
      | inr rest ↦ elim (either-from (entry_count after file == entry_count come file) (nat_lt (entry_count come file + 1) (entry_count after file + entry_count gone file)) rest) as (λ _. is_newly_shared before after gone e ≡ false) [
        | inl all ↦
            let same = equal-from (entry_count after file) (entry_count come file) all in
            denied-last many (several || whole) (right-or several whole (from-equal (entry_count before file) (entry_count gone file) (as-gone (entry_count after file) (entry_count before file) (entry_count gone file) (entry_count come file) sum same)))
        | inr more ↦
            let two = below-from (entry_count come file + 1) (entry_count after file + entry_count gone file) more in
            denied-last many (several || whole) (left-or several whole (from-below 1 (entry_count before file) (had-two (entry_count after file) (entry_count before file) (entry_count gone file) (entry_count come file) sum two)))
      ]
    ]

-- ---- all parts
pub entries-right : (after come : Facts) → All (IsEntryRight after) come.entries → AreEntriesRight after come
entries-right after come all = right (each-in (IsEntryRight after) come.entries all)
  where
    right : ((e : Fact Entry) → In e come.entries → IsEntryRight after e) → AreEntriesRight after come
    right each = record {
      hashes = λ e listed. (each e listed).hash;
      parents = λ e listed. (each e listed).parent;
      files = λ e listed. (each e listed).file;
      kinds = λ e listed. (each e listed).kind;
      marks = λ e listed. (each e listed).mark;
    }

pub plain : (profile : Profile) (site : Site) (ranges : List NewRange) (before after gone come same : Facts) → HasFactRules profile site ranges before → IsChange before after gone come same
    → AreEntriesRight after come → AreNamesRight after gone come → AreInodesRight after gone come → AreStreamsRight site ranges after gone come → ((x : Fact Entry) → In x come.entries → IsSharedStill after gone come x)
    → (profile ≡ Strict → IsClear (has_other_name_hash after) come.entries) → IsPlainChange profile site ranges before after gone come
plain profile site ranges before after gone come same rules change e n i s shared hashes = record {
  inodes = i.let_go;
  root = i.root;
  root_name = i.root_name;
  entry_names = λ x listed. n.entries x listed (ascii-hashes-kept before after gone come same change rules.ascii_hashes e.hashes) (in-differs change.made.entries x listed);
  ascii_hashes = e.hashes;
  name_hashes = hashes;
  parents = e.parents;
  files = e.files;
  kinds = e.kinds;
  directory_names = i.names change.distinct_after;
  links = i.links change.distinct_after;
  children = i.children change.distinct_after;
  ways = i.ways;
  fellows = n.fellows;
  marks = e.marks;
  shared = shared-clear before after gone come same change e.marks shared;
  attribute_names = n.attributes;
  owners = n.owners;
  targets = i.targets change.distinct_after;
  stream_sizes = s.streams;
  body_sizes = s.bodies;
  extent_order = s.order;
  extent_places = s.places;
  cover = s.cover;
}
