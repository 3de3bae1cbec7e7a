-- The rules that count entries: DirNames, Links, Children, and that no file without siblings has two.
use Rattle.std.proofs.Common.{◌≡◌, ℕ, ◌<◌, Bool, true, false, List, inl, inr, refl, ap, sym, ◌∙◌, arith}
use Rattle.std.specs.Prelude.{count_by, nat_lt, not, ◌&&◌, ◌||◌, ◌==◌, is_none, pos}
use Rattle.std.specs.List.{list_any}
use Rattle.std.specs.Ordering.{int_eq}
use Rattle.std.proofs.lemmas.Bool.{cases_lt}
use Rattle.apfs_model.specs.Lists.{In}
use Rattle.apfs_model.proofs.BoolTests.{test_or, clash, left-true, right-true, both-true, never-true, left-or, right-or, below-from, from-below, equal-from, from-equal, either-from}
use Rattle.fs_record.specs.Inodes.{Inode, inode_kind}
use Rattle.fs_record.specs.Entries.{Entry}
use Rattle.fs_record.specs.Facts.{Fact, regular_kind}
use Rattle.view_rules.specs.Words.{IsClear}
use Rattle.view_rules.specs.Facts.{Facts, is_system_id, does_count, names_file, entry_count, entry_count_in, child_count}
use Rattle.view_rules.specs.Directories.{is_user_directory, is_misnamed, HasDirNames}
use Rattle.view_rules.specs.Counts.{is_counted_directory, has_other_children, HasChildren, is_system_name, has_other_links, HasLinks}
use Rattle.view_rules.specs.Siblings.{is_unmarked, HasMarks}
use Rattle.rule_changes.specs.Changes.{Weaves, IsChange, is_of, has_fact, is_name_of, is_renamed, is_refilled, IsClearWhere, is_newly_shared}
use Rattle.rule_changes.proofs.Kept.{asked}
use Rattle.rule_changes.proofs.Weaving.{any-in, some-in, counted, none-counted, some-counted, in-stays, in-woven, count-woven, count-same}

-- ---- a list before and after
-- neither of two tests passes
pub neither-from : (a b : Bool) → (a || b) ≡ false → (a ≡ false) × (b ≡ false)
neither-from a b e = (never-true a (λ t. clash (a || b) (left-or a b t) e), never-true b (λ t. clash (a || b) (right-or a b t) e))

-- no item of an id has come, so each was there
pub was-there : {X : Type 0} {before after gone come same : List (Fact X)} → Weaves before same gone → Weaves after same come → (f : Fact X) → In f after → has_fact f.id come ≡ false → In f before
was-there {X} {before} {after} {gone} {come} left made f h none = elim (in-woven made f h) as (λ _. In f before) [
  | inl old ↦ in-stays left f old
  | inr new ↦ clash (has_fact f.id come) (any-in (is_of f.id) come f new (from-equal f.id f.id refl)) none
]

-- what some item passes, one still does, where none that passes is gone
pub still-any : {X : Type 0} (p : X → Bool) {before after gone come same : List X} → Weaves before same gone → Weaves after same come → ((x : X) → In x gone → p x ≡ true → ⊥) → list_any p before ≡ true → list_any p after ≡ true
still-any p {before} {after} {gone} {come} {same} left made none t =
    let r = some-in p before t in
    elim (in-woven left r.0 r.1.0) as (λ _. list_any p after ≡ true) [
      | inl old ↦ any-in p after r.0 (in-stays made r.0 old) r.1.1
      | inr lost ↦ absurd (none r.0 lost r.1.1)
    ]

-- ---- entries of a file
-- no entry of a file is gone or has come
pub record IsSame (before after : Facts) (id : ℕ) : Type 0 where
  pub all : entry_count after id ≡ entry_count before id
  pub each : (directory : ℕ) → entry_count_in after id directory ≡ entry_count_in before id directory
  pub system : list_any (is_system_name id) before.entries ≡ list_any (is_system_name id) after.entries

one-way : {X : Type 0} (p q : X → Bool) → ((x : X) → p x ≡ true → q x ≡ true) → {all same other : List X} → Weaves all same other → list_any q other ≡ false → list_any p all ≡ true → list_any p same ≡ true
one-way p q more {all} {same} {other} w none t =
    let r = some-in p all t in
    elim (in-woven w r.0 r.1.0) as (λ _. list_any p same ≡ true) [
      | inl old ↦ any-in p same r.0 old r.1.1
      | inr lost ↦ clash (list_any q other) (any-in q other r.0 lost (more r.0 r.1.1)) none
    ]

back-way : {X : Type 0} (p : X → Bool) → {all same other : List X} → Weaves all same other → list_any p same ≡ true → list_any p all ≡ true
back-way p {all} {same} {other} w t = let r = some-in p same t in any-in p all r.0 (in-stays w r.0 r.1.0) r.1.1

pub agree : (a b : Bool) → (a ≡ true → b ≡ true) → (b ≡ true → a ≡ true) → a ≡ b
agree true b f g = sym (f refl)
agree false b f g = sym (never-true b (λ t. clash false (g t) refl))

unchanged : (before after gone come same : Facts) → IsChange before after gone come same → (id : ℕ) → list_any (is_name_of id) gone.entries ≡ false → list_any (is_name_of id) come.entries ≡ false → IsSame before after id
unchanged before after gone come same c id g n =
    let names : (e : Fact Entry) → names_file id e ≡ true → is_name_of id e ≡ true = λ e t. right-true (does_count e) (e.what.file_id == id) t in
    let system : (e : Fact Entry) → is_system_name id e ≡ true → is_name_of id e ≡ true = λ e t. right-true (is_system_id e.id) (e.what.file_id == id) t in
    record {
      all = count-same (names_file id) c.left.entries c.made.entries (none-counted (names_file id) (is_name_of id) names gone.entries g) (none-counted (names_file id) (is_name_of id) names come.entries n);
      each = λ directory.
          let p : Fact Entry → Bool = λ (e : Fact Entry). names_file id e && (e.id == directory) in
          let more : (e : Fact Entry) → p e ≡ true → is_name_of id e ≡ true = λ e t. names e (left-true (names_file id e) (e.id == directory) t) in
          count-same p c.left.entries c.made.entries (none-counted p (is_name_of id) more gone.entries g) (none-counted p (is_name_of id) more come.entries n);
      system = agree (list_any (is_system_name id) before.entries) (list_any (is_system_name id) after.entries)
          (λ t. back-way (is_system_name id) c.made.entries (one-way (is_system_name id) (is_name_of id) system c.left.entries g t))
          (λ t. back-way (is_system_name id) c.left.entries (one-way (is_system_name id) (is_name_of id) system c.made.entries n t));
    }

-- an inode of an id that isn't renamed was there, and its entries are what they were
pub not-renamed : (before after gone come same : Facts) → IsChange before after gone come same → (f : Fact Inode) → In f after.inodes → is_renamed gone come f.id ≡ false → In f before.inodes × IsSame before after f.id
not-renamed before after gone come same c f h calm =
    let one = neither-from (has_fact f.id come.inodes) (list_any (is_name_of f.id) gone.entries || list_any (is_name_of f.id) come.entries) calm in
    let two = neither-from (list_any (is_name_of f.id) gone.entries) (list_any (is_name_of f.id) come.entries) one.1 in
    (was-there c.left.inodes c.made.inodes f h one.0, unchanged before after gone come same c f.id two.0 two.1)

-- ---- the rules
pub directory-names-kept : (before after gone come same : Facts) → IsChange before after gone come same → HasDirNames before → IsClearWhere (is_renamed gone come) (is_misnamed after) after.inodes → HasDirNames after
unfolding is_misnamed
directory-names-kept before after gone come same c b n f h = elim (test_or (is_renamed gone come f.id)) as (λ _. is_misnamed after f ≡ false) [
  | inl touched ↦ n f h touched
  | inr calm ↦
      let s = not-renamed before after gone come same c f h calm in
      ap (λ k. is_user_directory f && not ((k == 1) && (entry_count_in after f.id f.what.parent == 1))) s.1.all
      ∙ (ap (λ k. is_user_directory f && not ((entry_count before f.id == 1) && (k == 1))) (s.1.each f.what.parent) ∙ b f s.0)
]

pub links-kept : (before after gone come same : Facts) → IsChange before after gone come same → HasLinks before → IsClearWhere (is_renamed gone come) (has_other_links after) after.inodes → HasLinks after
unfolding has_other_links
links-kept before after gone come same c b n f h = elim (test_or (is_renamed gone come f.id)) as (λ _. has_other_links after f ≡ false) [
  | inl touched ↦ n f h touched
  | inr calm ↦
      let s = not-renamed before after gone come same c f h calm in
      ap (λ k. ((inode_kind f.what == regular_kind) && (nat_lt 0 k && not (list_any (is_system_name f.id) after.entries))) && not (int_eq f.what.links (pos k))) s.1.all
      ∙ (ap (λ t. ((inode_kind f.what == regular_kind) && (nat_lt 0 (entry_count before f.id) && not t)) && not (int_eq f.what.links (pos (entry_count before f.id)))) (sym s.1.system) ∙ b f s.0)
]

pub children-kept : (before after gone come same : Facts) → IsChange before after gone come same → HasChildren before → IsClearWhere (is_refilled gone come) (has_other_children after) after.inodes → HasChildren after
unfolding has_other_children
children-kept before after gone come same c b n f h = elim (test_or (is_refilled gone come f.id)) as (λ _. has_other_children after f ≡ false) [
  | inl touched ↦ n f h touched
  | inr calm ↦
      let one = neither-from (has_fact f.id come.inodes) (has_fact f.id gone.entries || has_fact f.id come.entries) calm in
      let two = neither-from (has_fact f.id gone.entries) (has_fact f.id come.entries) one.1 in
      let p : Fact Entry → Bool = is_of f.id in
      let self : (e : Fact Entry) → p e ≡ true → p e ≡ true = λ e t. t in
      let count : child_count after f.id ≡ child_count before f.id = count-same p c.left.entries c.made.entries (none-counted p p self gone.entries two.0) (none-counted p p self come.entries two.1) in
      ap (λ k. is_counted_directory f && not (int_eq f.what.links (pos k))) count ∙ b f (was-there c.left.inodes c.made.inodes f h one.0)
]

-- a file with two entries or more had as many before, or all of them have come; else it has no more than it had
pub marks-kept : (before after gone come same : Facts) → IsChange before after gone come same → HasMarks before → IsClear (is_unmarked after) come.entries → IsClear (is_newly_shared before after gone) come.entries → HasMarks after
unfolding is_unmarked
marks-kept before after gone come same c b n shared e h = elim (in-woven c.made.entries e h) as (λ _. is_unmarked after e ≡ false) [
  | inr new ↦ n e new
  | inl old ↦ never-true (is_unmarked after e) (λ bad.
      let file : ℕ = e.what.file_id in
      let counts = left-true (does_count e) (is_none e.what.sibling && nat_lt 1 (entry_count after file)) bad in
      let rest = right-true (does_count e) (is_none e.what.sibling && nat_lt 1 (entry_count after file)) bad in
      let none = left-true (is_none e.what.sibling) (nat_lt 1 (entry_count after file)) rest in
      let many = right-true (is_none e.what.sibling) (nat_lt 1 (entry_count after file)) rest in
      let lots : 1 < entry_count after file = below-from 1 (entry_count after file) many in
      let l = count-woven (names_file file) c.left.entries in
      let m = count-woven (names_file file) c.made.entries in
      let stay : 0 < count_by (names_file file) same.entries = counted (names_file file) same.entries e old (both-true (does_count e) (e.what.file_id == file) counts (from-equal e.what.file_id file refl)) in
      let alone : nat_lt 1 (entry_count before file) ≡ true → ⊥ = λ more.
      clash (is_unmarked before e) (both-true (does_count e) (is_none e.what.sibling && nat_lt 1 (entry_count before file)) counts (both-true (is_none e.what.sibling) (nat_lt 1 (entry_count before file)) none more)) (b e (in-stays c.left.entries e old)) in
      elim (cases_lt 0 (count_by (names_file file) come.entries)) as (λ _. ⊥) [
        | inr zero ↦ alone (from-below 1 (entry_count before file) (omega arith))
        | inl some ↦
            let t = some-counted (names_file file) come.entries some in
            let new_counts = left-true (does_count t.0) (t.0.what.file_id == file) t.1.1 in
            let same_file : t.0.what.file_id ≡ file = equal-from t.0.what.file_id file (right-true (does_count t.0) (t.0.what.file_id == file) t.1.1) in
            let both : ℕ → Bool = λ i. nat_lt 1 (entry_count before i) || (entry_count before i == entry_count gone i) in
            let asks = asked (does_count t.0 && nat_lt 1 (entry_count after t.0.what.file_id)) (both t.0.what.file_id) (shared t.0 t.1.0)
            (both-true (does_count t.0) (nat_lt 1 (entry_count after t.0.what.file_id)) new_counts (ap (λ i. nat_lt 1 (entry_count after i)) same_file ∙ many)) in
            elim (either-from (nat_lt 1 (entry_count before file)) (entry_count before file == entry_count gone file) (ap both (sym same_file) ∙ asks)) as (λ _. ⊥) [
              | inl more ↦ alone more
              | inr all ↦ let gone_all : entry_count before file ≡ entry_count gone file = equal-from (entry_count before file) (entry_count gone file) all in absurd (omega arith)
            ]
      ])
]
