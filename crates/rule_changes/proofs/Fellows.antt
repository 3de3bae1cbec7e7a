-- SiblingLost: entries of siblings, their links and their maps still have their fellows.
use Rattle.std.proofs.Common.{◌≡◌, ℕ, Bool, true, false, List, [], ◌∷◌, Option, Some, None, inl, inr, refl, ap, sym, ◌∙◌}
use Rattle.std.specs.Prelude.{not, ◌&&◌, ◌||◌, ◌==◌, is_some, bytes_eq}
use Rattle.std.specs.List.{list_any}
use Rattle.std.proofs.lemmas.Slice.Eq.{bytes_eq-Decides}
use Rattle.apfs_model.specs.Lists.{In, passes}
use Rattle.apfs_model.proofs.BoolTests.{test_or, clash, left-true, right-true, both-true, left-or, right-or, either-from, not-false, equal-from, from-equal}
use Rattle.fs_record.specs.Entries.{Entry}
use Rattle.fs_record.specs.Siblings.{Link}
use Rattle.fs_record.specs.Facts.{Fact, private_id}
use Rattle.view_rules.specs.Facts.{Facts, is_system_id}
use Rattle.view_rules.specs.Siblings.{has_sibling, is_entry_of, is_link_of, is_map_of, go_together, has_link, has_entry, has_map, is_twin, is_entry_lost, is_link_lost, is_linked_entry, is_private_entry, is_system_link, has_fellows, is_map_lost, HasEntryFellows, HasLinkFellows, HasMapFellows}
use Rattle.rule_changes.specs.Changes.{IsChange, is_like, is_user_link, is_unsettled, KeepsFellows}
use Rattle.rule_changes.specs.Known.{is_marked, FellowsAlone}
use Rattle.rule_changes.proofs.Weaving.{any-in, none-in, some-in, in-stays, in-woven}
use Rattle.rule_changes.proofs.Kept.{asked, answered, some-passes, passes-at}
use Rattle.rule_changes.proofs.Counted.{neither-from, still-any}

-- what goes together with a link does with one like it
like-goes : (e : Fact Entry) (l other : Fact Link) → go_together e l ≡ true → is_like l other ≡ true → go_together e other ≡ true
like-goes e l other t same =
    let of = left-true (is_link_of l.what.file l.what.sibling other) ((other.what.parent == l.what.parent) && bytes_eq other.what.name l.what.name) same in
    let at = right-true (is_link_of l.what.file l.what.sibling other) ((other.what.parent == l.what.parent) && bytes_eq other.what.name l.what.name) same in
    let file : other.what.file ≡ l.what.file = equal-from other.what.file l.what.file (left-true (other.what.file == l.what.file) (other.what.sibling == l.what.sibling) of) in
    let sibling : other.what.sibling ≡ l.what.sibling = equal-from other.what.sibling l.what.sibling (right-true (other.what.file == l.what.file) (other.what.sibling == l.what.sibling) of) in
    let parent : other.what.parent ≡ l.what.parent = equal-from other.what.parent l.what.parent (left-true (other.what.parent == l.what.parent) (bytes_eq other.what.name l.what.name) at) in
    let name : other.what.name ≡ l.what.name = (bytes_eq-Decides other.what.name l.what.name).0 (right-true (other.what.parent == l.what.parent) (bytes_eq other.what.name l.what.name) at) in
    ap (λ i. is_entry_of i other.what.sibling e && ((e.id == other.what.parent) && bytes_eq e.what.name other.what.name)) file
    ∙ (ap (λ i. is_entry_of l.what.file i e && ((e.id == other.what.parent) && bytes_eq e.what.name other.what.name)) sibling
    ∙ (ap (λ i. is_entry_of l.what.file l.what.sibling e && ((e.id == i) && bytes_eq e.what.name other.what.name)) parent
    ∙ (ap (λ n. is_entry_of l.what.file l.what.sibling e && ((e.id == l.what.parent) && bytes_eq e.what.name n)) name ∙ t)))

-- an entry that stays has a link still
link-stays : (before after gone come same : Facts) → IsChange before after gone come same → KeepsFellows after gone come → (e : Fact Entry) → In e after.entries → has_link before e ≡ true → has_link after e ≡ true
link-stays before after gone come same c k e h t =
    let r = some-in (go_together e) before.links t in
    let l : Fact Link = r.0 in
    elim (in-woven c.left.links l r.1.0) as (λ _. has_link after e ≡ true) [
      | inl old ↦ any-in (go_together e) after.links l (in-stays c.made.links l old) r.1.1
      | inr lost ↦ elim (k.old_links l lost) as (λ _. has_link after e ≡ true) [
        | inl like ↦ let o = some-in (is_like l) after.links like in any-in (go_together e) after.links o.0 o.1.0 (like-goes e l o.0 r.1.1 o.1.1)
        | inr none ↦ clash (has_entry after l) (any-in (λ (x : Fact Entry). go_together x l) after.entries e h r.1.1) none
      ]
    ]

-- the map of a sibling that has a link stays
map-stays : (before after gone come same : Facts) → IsChange before after gone come same → KeepsFellows after gone come → (l : Fact Link) → In l after.links → not (is_system_id l.what.parent) ≡ true → has_map before l.what.file l.what.sibling ≡ true → has_map after l.what.file l.what.sibling ≡ true
map-stays before after gone come same c k l h user t =
    let p : Fact ℕ → Bool = is_map_of l.what.file l.what.sibling in
    let r = some-in p before.siblings t in
    let m : Fact ℕ = r.0 in
    let file : m.what ≡ l.what.file = equal-from m.what l.what.file (left-true (m.what == l.what.file) (m.id == l.what.sibling) r.1.1) in
    let sibling : m.id ≡ l.what.sibling = equal-from m.id l.what.sibling (right-true (m.what == l.what.file) (m.id == l.what.sibling) r.1.1) in
    elim (in-woven c.left.siblings m r.1.0) as (λ _. has_map after l.what.file l.what.sibling ≡ true) [
      | inl old ↦ any-in p after.siblings m (in-stays c.made.siblings m old) r.1.1
      | inr lost ↦ elim (k.old_maps m lost) as (λ _. has_map after l.what.file l.what.sibling ≡ true) [
        | inl has ↦ ap (λ i. has_map after i l.what.sibling) (sym file) ∙ (ap (λ i. has_map after m.what i) (sym sibling) ∙ has)
        | inr none ↦ clash (list_any (is_user_link m.what m.id) after.links)
            (any-in (is_user_link m.what m.id) after.links l h (both-true (is_link_of m.what m.id l) (not (is_system_id l.what.parent))
            (both-true (l.what.file == m.what) (l.what.sibling == m.id) (from-equal l.what.file m.what (sym file)) (from-equal l.what.sibling m.id (sym sibling))) user)) none
      ]
    ]

pub entry-fellows-kept : (before after gone come same : Facts) → IsChange before after gone come same → KeepsFellows after gone come → HasEntryFellows before → HasEntryFellows after
unfolding is_entry_lost
entry-fellows-kept before after gone come same c k b e h = elim (in-woven c.made.entries e h) as (λ _. is_entry_lost after e ≡ false) [
  | inr new ↦ k.new_entries e new
  | inl old ↦ answered (is_twin e) (has_link after e && passes e.what.sibling (has_map after e.what.file_id)) (λ twin.
      let both = asked (is_twin e) (has_link before e && passes e.what.sibling (has_map before e.what.file_id)) (b e (in-stays c.left.entries e old)) twin in
      let linked : has_link after e ≡ true = link-stays before after gone come same c k e h (left-true (has_link before e) (passes e.what.sibling (has_map before e.what.file_id)) both) in
      let s = some-passes e.what.sibling (has_map before e.what.file_id) (right-true (has_link before e) (passes e.what.sibling (has_map before e.what.file_id)) both) in
      let r = some-in (go_together e) after.links linked in
      let l : Fact Link = r.0 in
      let of = left-true (is_entry_of l.what.file l.what.sibling e) ((e.id == l.what.parent) && bytes_eq e.what.name l.what.name) r.1.1 in
      let at = right-true (is_entry_of l.what.file l.what.sibling e) ((e.id == l.what.parent) && bytes_eq e.what.name l.what.name) r.1.1 in
      let file : e.what.file_id ≡ l.what.file = equal-from e.what.file_id l.what.file (left-true (e.what.file_id == l.what.file) (has_sibling l.what.sibling e) of) in
      let t = some-passes e.what.sibling (λ t. t == l.what.sibling) (right-true (e.what.file_id == l.what.file) (has_sibling l.what.sibling e) of) in
      let q : ◌≡◌ {A = Option ℕ} (Some s.0) (Some t.0) = sym s.1.0 ∙ t.1.0 in
      let one : s.0 ≡ t.0 = cc in
      let sibling : s.0 ≡ l.what.sibling = one ∙ equal-from t.0 l.what.sibling t.1.1 in
      let parent : e.id ≡ l.what.parent = equal-from e.id l.what.parent (left-true (e.id == l.what.parent) (bytes_eq e.what.name l.what.name) at) in
      let user : not (is_system_id l.what.parent) ≡ true = ap (λ i. not (is_system_id i)) (sym parent) ∙ right-true (is_some e.what.sibling) (not (is_system_id e.id)) twin in
      let was : has_map before l.what.file l.what.sibling ≡ true = ap (λ i. has_map before i l.what.sibling) (sym file) ∙ (ap (has_map before e.what.file_id) (sym sibling) ∙ s.1.1) in
      let now : has_map after e.what.file_id s.0 ≡ true = ap (has_map after e.what.file_id) sibling ∙ (ap (λ i. has_map after i l.what.sibling) file ∙ map-stays before after gone come same c k l r.1.0 user was) in
      both-true (has_link after e) (passes e.what.sibling (has_map after e.what.file_id)) linked (passes-at e.what.sibling (has_map after e.what.file_id) s.0 s.1.0 now))
]

pub link-fellows-kept : (before after gone come same : Facts) → IsChange before after gone come same → KeepsFellows after gone come → HasLinkFellows before → HasLinkFellows after
unfolding is_link_lost
link-fellows-kept before after gone come same c k b l h = elim (in-woven c.made.links l h) as (λ _. is_link_lost after l ≡ false) [
  | inr new ↦ k.new_links l new
  | inl old ↦ answered (not (is_system_id l.what.parent)) (has_entry after l && has_map after l.what.file l.what.sibling) (λ user.
      let both = asked (not (is_system_id l.what.parent)) (has_entry before l && has_map before l.what.file l.what.sibling) (b l (in-stays c.left.links l old)) user in
      let r = some-in (λ (e : Fact Entry). go_together e l) before.entries (left-true (has_entry before l) (has_map before l.what.file l.what.sibling) both) in
      both-true (has_entry after l) (has_map after l.what.file l.what.sibling)
      (elim (in-woven c.left.entries r.0 r.1.0) as (λ _. has_entry after l ≡ true) [
        | inl there ↦ any-in (λ (e : Fact Entry). go_together e l) after.entries r.0 (in-stays c.made.entries r.0 there) r.1.1
        | inr lost ↦ left-true (has_entry after l) (has_map after l.what.file l.what.sibling) (asked (not (is_system_id l.what.parent)) (has_entry after l && has_map after l.what.file l.what.sibling) (k.old_entries r.0 l lost h r.1.1) user)
      ])
      (map-stays before after gone come same c k l h user (right-true (has_entry before l) (has_map before l.what.file l.what.sibling) both)))
]

-- a sibling of which no entry and no link is gone has its fellows
fellows-stay : (before after gone come same : Facts) → IsChange before after gone come same → HasEntryFellows after → (file sibling : ℕ) → list_any (is_entry_of file sibling) gone.entries ≡ false → list_any (is_link_of file sibling) gone.links ≡ false → has_fellows before file sibling ≡ true → has_fellows after file sibling ≡ true
unfolding is_entry_lost
fellows-stay before after gone come same c fellows file sibling no_entry no_link t =
    let linked : Facts → Bool = λ facts. list_any (is_linked_entry facts file sibling) facts.entries in
    let private : Facts → Bool = λ facts. list_any (is_private_entry file sibling) facts.entries in
    let system : Facts → Bool = λ facts. list_any (is_system_link file sibling) facts.links in
    elim (either-from (linked before) (private before || system before) t) as (λ _. has_fellows after file sibling ≡ true) [
      | inl a ↦
          let r = some-in (is_linked_entry before file sibling) before.entries a in
          let e : Fact Entry = r.0 in
          let of = left-true (is_entry_of file sibling e) (is_twin e && has_link before e) r.1.1 in
          let twin = left-true (is_twin e) (has_link before e) (right-true (is_entry_of file sibling e) (is_twin e && has_link before e) r.1.1) in
          left-or (linked after) (private after || system after) (elim (in-woven c.left.entries e r.1.0) as (λ _. linked after ≡ true) [
            | inr lost ↦ clash (is_entry_of file sibling e) of (none-in (is_entry_of file sibling) gone.entries no_entry e lost)
            | inl old ↦
                let h : In e after.entries = in-stays c.made.entries e old in
                let both = asked (is_twin e) (has_link after e && passes e.what.sibling (has_map after e.what.file_id)) (fellows e h) twin in
                any-in (is_linked_entry after file sibling) after.entries e h (both-true (is_entry_of file sibling e) (is_twin e && has_link after e) of
                (both-true (is_twin e) (has_link after e) twin (left-true (has_link after e) (passes e.what.sibling (has_map after e.what.file_id)) both)))
          ])
      | inr o ↦ right-or (linked after) (private after || system after) (elim (either-from (private before) (system before) o) as (λ _. (private after || system after) ≡ true) [
        | inl p ↦ left-or (private after) (system after) (still-any (is_private_entry file sibling) c.left.entries c.made.entries
            (λ e lost k. clash (is_entry_of file sibling e) (left-true (is_entry_of file sibling e) (e.id == private_id) k) (none-in (is_entry_of file sibling) gone.entries no_entry e lost)) p)
        | inr l ↦ right-or (private after) (system after) (still-any (is_system_link file sibling) c.left.links c.made.links
            (λ x lost k. clash (is_link_of file sibling x) (left-true (is_link_of file sibling x) (is_system_id x.what.parent) k) (none-in (is_link_of file sibling) gone.links no_link x lost)) l)
      ])
    ]

pub map-fellows-kept : (before after gone come same : Facts) → IsChange before after gone come same → KeepsFellows after gone come → HasEntryFellows after → HasMapFellows before → HasMapFellows after
unfolding is_map_lost
map-fellows-kept before after gone come same c k fellows b m h = elim (in-woven c.made.siblings m h) as (λ _. is_map_lost after m ≡ false) [
  | inr new ↦ k.new_maps m new
  | inl old ↦ elim (test_or (is_unsettled gone m)) as (λ _. is_map_lost after m ≡ false) [
    | inl touched ↦ k.maps m h touched
    | inr calm ↦
        let two = neither-from (list_any (is_entry_of m.what m.id) gone.entries) (list_any (is_link_of m.what m.id) gone.links) calm in
        ap not (fellows-stay before after gone come same c fellows m.what m.id two.0 two.1 (not-false (has_fellows before m.what m.id) (b m (in-stays c.left.siblings m old))))
  ]
]

-- ---- without siblings
some-sibling : (o : Option ℕ) (s : ℕ) → passes o (λ t. t == s) ≡ true → is_some o ≡ true
some-sibling None s e = e
some-sibling (Some t) s e = refl

-- an entry of a sibling is marked
entry-marked : (file sibling : ℕ) (e : Fact Entry) → is_entry_of file sibling e ≡ true → is_marked e ≡ true
entry-marked file sibling e t = some-sibling e.what.sibling sibling (right-true (e.what.file_id == file) (has_sibling sibling e) t)

none-of-nothing : {X : Type 0} (xs : List X) (x : X) → xs ≡ [] → In x xs → ⊥
none-of-nothing [] x e h = h
none-of-nothing (y ∷ xs) x e h = let q : ⊥ = cc in q

pub fellows-alone : FellowsAlone
unfolding is_entry_lost is_link_lost is_map_lost
fellows-alone after gone come g n = record {
  new_entries = λ e h. answered (is_twin e) (has_link after e && passes e.what.sibling (has_map after e.what.file_id)) (λ twin.
      clash (is_marked e) (left-true (is_marked e) (not (is_system_id e.id)) twin) (n.entries e h));
  new_links = λ l h. absurd (none-of-nothing come.links l n.links h);
  new_maps = λ m h. absurd (none-of-nothing come.siblings m n.siblings h);
  old_entries = λ e l lost h t. clash (is_marked e) (entry-marked l.what.file l.what.sibling e (left-true (is_entry_of l.what.file l.what.sibling e) ((e.id == l.what.parent) && bytes_eq e.what.name l.what.name) t)) (g.entries e lost);
  old_links = λ l h. absurd (none-of-nothing gone.links l g.links h);
  old_maps = λ m h. absurd (none-of-nothing gone.siblings m g.siblings h);
  maps = λ m h t. elim (either-from (list_any (is_entry_of m.what m.id) gone.entries) (list_any (is_link_of m.what m.id) gone.links) t) as (λ _. is_map_lost after m ≡ false) [
    | inl some ↦ let r = some-in (is_entry_of m.what m.id) gone.entries some in clash (is_marked r.0) (entry-marked m.what m.id r.0 r.1.1) (g.entries r.0 r.1.0)
    | inr some ↦ let r = some-in (is_link_of m.what m.id) gone.links some in absurd (none-of-nothing gone.links r.0 g.links r.1.0)
  ];
}
