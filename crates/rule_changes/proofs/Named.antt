-- The rules on names, and those that look at one fact alone: DupName, Hash, NameHash, Stream, ExtentPlace, ExtentUncovered.
use Rattle.std.proofs.Common.{◌≡◌, ◌<◌, Bool, true, false, List, inl, inr, ap, sym, ◌∙◌, arith}
use Rattle.std.specs.Prelude.{count_by, nat_lt, not, ◌&&◌, ◌==◌, bytes_eq}
use Rattle.std.proofs.lemmas.Bool.{cases_lt}
use Rattle.std.proofs.lemmas.Slice.Eq.{bytes_eq-Decides}
use Rattle.apfs_model.specs.Lists.{In}
use Rattle.apfs_model.proofs.BoolTests.{clash, left-true, right-true, never-true, below-from, from-below, equal-from}
use Rattle.fs_name.specs.declared.naming.Names.{Names}
use Rattle.fs_name.specs.Text.{is_ascii_name}
use Rattle.fs_name.specs.Normal.{are_hashed}
use Rattle.fs_name.specs.Hash.{name_hash_of}
use Rattle.view_rules.specs.Words.{IsClear}
use Rattle.view_rules.specs.Facts.{Facts}
use Rattle.view_rules.specs.Names.{is_entry_at, is_attribute_at, is_entry_repeated, HasDistinctEntries, is_attribute_repeated, HasDistinctAttributes, has_other_hash, has_other_ascii_hash, HasAsciiHashes, has_other_name_hash, HasNameHashes}
use Rattle.rule_changes.specs.Changes.{Weaves, IsChange}
use Rattle.rule_changes.proofs.Weaving.{some-counted, in-stays, in-woven, count-woven, clear-woven}

-- what is at most once before is so after, where each of what has come that is like it is
at-most-once : {X : Type 0} (p : X → Bool) {before after gone come same : List X} → Weaves before same gone → Weaves after same come → nat_lt 1 (count_by p before) ≡ false → ((x : X) → In x come → p x ≡ true → nat_lt 1 (count_by p after) ≡ false) → nat_lt 1 (count_by p after) ≡ false
at-most-once p {before} {after} {gone} {come} {same} left made once new =
    let l = count-woven p left in
    let m = count-woven p made in
    elim (cases_lt 0 (count_by p come)) as (λ _. nat_lt 1 (count_by p after) ≡ false) [
      | inl some ↦ let t = some-counted p come some in new t.0 t.1.0 t.1.1
      | inr none ↦ never-true (nat_lt 1 (count_by p after)) (λ many.
          let lots : 1 < count_by p after = below-from 1 (count_by p after) many in
          clash (nat_lt 1 (count_by p before)) (from-below 1 (count_by p before) (omega arith)) once)
    ]

pub entry-names-kept : (before after gone come same : Facts) → IsChange before after gone come same → HasDistinctEntries before → IsClear (is_entry_repeated after) come.entries → HasDistinctEntries after
unfolding is_entry_repeated
entry-names-kept before after gone come same c b n e h = elim (in-woven c.made.entries e h) as (λ _. is_entry_repeated after e ≡ false) [
  | inr new ↦ n e new
  | inl old ↦ at-most-once (is_entry_at e.id e.what.name) c.left.entries c.made.entries (b e (in-stays c.left.entries e old)) (λ x k t.
      let id : x.id ≡ e.id = equal-from x.id e.id (left-true (x.id == e.id) (bytes_eq x.what.name e.what.name) t) in
      let name : x.what.name ≡ e.what.name = (bytes_eq-Decides x.what.name e.what.name).0 (right-true (x.id == e.id) (bytes_eq x.what.name e.what.name) t) in
      ap (λ i. nat_lt 1 (count_by (is_entry_at i e.what.name) after.entries)) (sym id) ∙ (ap (λ s. nat_lt 1 (count_by (is_entry_at x.id s) after.entries)) (sym name) ∙ n x k))
]

pub attribute-names-kept : (before after gone come same : Facts) → IsChange before after gone come same → HasDistinctAttributes before → IsClear (is_attribute_repeated after) come.attributes → HasDistinctAttributes after
unfolding is_attribute_repeated
attribute-names-kept before after gone come same c b n a h = elim (in-woven c.made.attributes a h) as (λ _. is_attribute_repeated after a ≡ false) [
  | inr new ↦ n a new
  | inl old ↦ at-most-once (is_attribute_at a.id a.what.name) c.left.attributes c.made.attributes (b a (in-stays c.left.attributes a old)) (λ x k t.
      let id : x.id ≡ a.id = equal-from x.id a.id (left-true (x.id == a.id) (bytes_eq x.what.name a.what.name) t) in
      let name : x.what.name ≡ a.what.name = (bytes_eq-Decides x.what.name a.what.name).0 (right-true (x.id == a.id) (bytes_eq x.what.name a.what.name) t) in
      ap (λ i. nat_lt 1 (count_by (is_attribute_at i a.what.name) after.attributes)) (sym id) ∙ (ap (λ s. nat_lt 1 (count_by (is_attribute_at x.id s) after.attributes)) (sym name) ∙ n x k))
]

pub ascii-hashes-kept : (before after gone come same : Facts) → IsChange before after gone come same → HasAsciiHashes before → IsClear (has_other_ascii_hash after) come.entries → HasAsciiHashes after
unfolding has_other_ascii_hash has_other_hash
ascii-hashes-kept before after gone come same c b n = clear-woven c.made.entries (λ e old.
    ap (λ (names : Names). is_ascii_name e.what.name && (are_hashed names && not (e.what.hash == name_hash_of names e.what.name))) c.names ∙ b e (in-stays c.left.entries e old)) n

pub name-hashes-kept : (before after gone come same : Facts) → IsChange before after gone come same → HasNameHashes before → IsClear (has_other_name_hash after) come.entries → HasNameHashes after
unfolding has_other_name_hash has_other_hash
name-hashes-kept before after gone come same c b n = clear-woven c.made.entries (λ e old.
    ap (λ (names : Names). not (is_ascii_name e.what.name) && (are_hashed names && not (e.what.hash == name_hash_of names e.what.name))) c.names ∙ b e (in-stays c.left.entries e old)) n
