-- Unreached: from each directory parents still lead below 16.
use Rattle.std.proofs.Common.{◌≡◌, ℕ, Bool, true, Option, Some, ◌⊎◌, inl, inr, refl, ap, sym, ◌∙◌, subst, arith}
use Rattle.std.specs.Prelude.{nat_le, ◌&&◌, ◌==◌, option_map}
use Rattle.std.proofs.lemmas.Bool.{cases_lt}
use Rattle.apfs_model.specs.Lists.{In}
use Rattle.apfs_model.proofs.BoolTests.{left-true, right-true, both-true, from-upto, equal-from}
use Rattle.fs_record.specs.Inodes.{Inode}
use Rattle.fs_record.specs.Entries.{Entry}
use Rattle.fs_record.specs.Facts.{Fact, first_user_id}
use Rattle.view_rules.specs.Facts.{Facts, inode_at, is_directory, has_directory, does_count, names_file, entry_count, entry_count_in}
use Rattle.view_rules.specs.Entries.{lacks_parent, HasParents}
use Rattle.view_rules.specs.Directories.{is_user_directory, is_misnamed, HasDirNames, parent_at, Leads, low, up, HasWays}
use Rattle.rule_changes.specs.Changes.{IsChange, HasDistinctInodes, stands_as_in}
use Rattle.rule_changes.proofs.Weaving.{some-counted, in-stays, in-woven}
use Rattle.rule_changes.proofs.Kept.{some-passes, passes-at, asked, own-inode, found-inode, inode_either}

-- the parent of a directory that has its entry is a directory
parent-there : (facts : Facts) → HasDirNames facts → HasParents facts → (f : Fact Inode) → In f facts.inodes → is_user_directory f ≡ true → has_directory facts f.what.parent ≡ true
unfolding is_misnamed lacks_parent
parent-there facts named parents f h user =
    let both = asked (is_user_directory f) ((entry_count facts f.id == 1) && (entry_count_in facts f.id f.what.parent == 1)) (named f h) user in
    let one = equal-from (entry_count_in facts f.id f.what.parent) 1 (right-true (entry_count facts f.id == 1) (entry_count_in facts f.id f.what.parent == 1) both) in
    let p : Fact Entry → Bool = λ (e : Fact Entry). names_file f.id e && (e.id == f.what.parent) in
    let at = some-counted p facts.entries (omega arith) in
    let e : Fact Entry = at.0 in
    let counts = left-true (does_count e) (e.what.file_id == f.id) (left-true (names_file f.id e) (e.id == f.what.parent) at.1.1) in
    let same : e.id ≡ f.what.parent = equal-from e.id f.what.parent (right-true (names_file f.id e) (e.id == f.what.parent) at.1.1) in
    ap (has_directory facts) (sym same) ∙ asked (does_count e) (has_directory facts e.id) (parents e at.1.0) counts

-- what is tested of the directories that have come
abbrev pub AreLed : Facts → Facts → Facts → Type 0
AreLed after gone come = (f : Fact Inode) → In f come.inodes → is_user_directory f ≡ true → (stands_as_in gone f ≡ true) ⊎ Leads (parent_at after) f.id

-- a directory after: its parents lead below 16, or it was a directory before, in the same parent
Placed : Facts → Facts → Fact Inode → Type 0
Placed before after f = Leads (parent_at after) f.id ⊎ ((inode : Inode) × ((inode_at before f.id ≡ Some inode) × ((is_directory inode ≡ true) × (inode.parent ≡ f.what.parent))))

placed : (before after gone come same : Facts) → IsChange before after gone come same → AreLed after gone come → (f : Fact Inode) → In f after.inodes → is_user_directory f ≡ true → Placed before after f
unfolding Placed
placed before after gone come same c led f h user = elim (in-woven c.made.inodes f h) as (λ _. Placed before after f) [
  | inl old ↦ inr (f.what, (own-inode before c.distinct_before f (in-stays c.left.inodes f old), (left-true (is_directory f.what) (nat_le first_user_id f.id) user, refl)))
  | inr new ↦ elim (led f new user) as (λ _. Placed before after f) [
    | inr way ↦ inl way
    | inl stood ↦ elim (inode_either before after gone come same c f.id) as (λ _. Placed before after f) [
      | inl e ↦ inr (f.what, (sym e ∙ own-inode after c.distinct_after f h, (left-true (is_directory f.what) (nat_le first_user_id f.id) user, refl)))
      | inr e ↦
          let s = some-passes (inode_at gone f.id) (λ (inode : Inode). is_directory inode && (inode.parent == f.what.parent)) stood in
          inr (s.0, (e.0 ∙ s.1.0, (left-true (is_directory s.0) (s.0.parent == f.what.parent) s.1.1, equal-from s.0.parent f.what.parent (right-true (is_directory s.0) (s.0.parent == f.what.parent) s.1.1))))
    ]
  ]
]

-- what is known of the facts after
record Ready (before after : Facts) : Type 0 where
  distinct : HasDistinctInodes after
  named : HasDirNames after
  parents : HasParents after
  placed : (f : Fact Inode) → In f after.inodes → is_user_directory f ≡ true → Placed before after f

climbs : (before after : Facts) → Ready before after → (id : ℕ) → has_directory after id ≡ true → Leads (parent_at before) id → Leads (parent_at after) id
unfolding Placed
climbs before after r id there (low _ l) = low id l
climbs before after r id there (up _ above e way) = elim (cases_lt id first_user_id) as (λ _. Leads (parent_at after) id) [
  | inl l ↦ low id l
  | inr high ↦
      let at = some-passes (inode_at after id) is_directory there in
      let g = found-inode after id at.0 at.1.0 in
      let f : Fact Inode = g.0 in
      let same : f.id ≡ id = g.1.1.0 in
      let what : f.what ≡ at.0 = g.1.1.1 in
      let user : is_user_directory f ≡ true = both-true (is_directory f.what) (nat_le first_user_id f.id) (ap is_directory what ∙ at.1.1) (from-upto first_user_id f.id (omega arith)) in
      elim (r.placed f g.1.0 user) as (λ _. Leads (parent_at after) id) [
        | inl done ↦ subst (λ i. Leads (parent_at after) i) same done
        | inr p ↦
            let q : ◌≡◌ {A = Option ℕ} (Some p.0.parent) (Some above) = ap (option_map (λ (inode : Inode). inode.parent)) (sym p.1.0 ∙ ap (inode_at before) same) ∙ e in
            let one : p.0.parent ≡ above = cc in
            let goes : f.what.parent ≡ above = sym p.1.1.1 ∙ one in
            let on : parent_at after id ≡ Some above = ap (option_map (λ (inode : Inode). inode.parent)) at.1.0 ∙ ap Some (sym (ap (λ (inode : Inode). inode.parent) what) ∙ goes) in
            up id above on (climbs before after r above (ap (has_directory after) (sym goes) ∙ parent-there after r.named r.parents f g.1.0 user) way)
      ]
]

pub ways-kept : (before after gone come same : Facts) → IsChange before after gone come same → HasWays before → HasDirNames after → HasParents after → AreLed after gone come → HasWays after
unfolding Placed
ways-kept before after gone come same c b named parents led f h user =
    let r : Ready before after = record { distinct = c.distinct_after; named = named; parents = parents; placed = placed before after gone come same c led } in
    let there : has_directory after f.id ≡ true = passes-at (inode_at after f.id) is_directory f.what (own-inode after c.distinct_after f h) (left-true (is_directory f.what) (nat_le first_user_id f.id) user) in
    elim (placed before after gone come same c led f h user) as (λ _. Leads (parent_at after) f.id) [
      | inl done ↦ done
      | inr p ↦
          let g = found-inode before f.id p.0 p.1.0 in
          let high = right-true (is_directory f.what) (nat_le first_user_id f.id) user in
          let was : is_user_directory g.0 ≡ true = both-true (is_directory g.0.what) (nat_le first_user_id g.0.id) (ap is_directory g.1.1.1 ∙ p.1.1.0) (ap (nat_le first_user_id) g.1.1.0 ∙ high) in
          climbs before after r f.id there (subst (λ i. Leads (parent_at before) i) g.1.1.0 (b g.0 g.1.0 was))
    ]
