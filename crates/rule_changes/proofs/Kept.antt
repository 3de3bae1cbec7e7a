-- Inodes that a change keeps, and the rules that look one up: NoParent, NoInode, KindMismatch, AttrOwner.
use Rattle.std.proofs.Common.{◌≡◌, ℕ, ◌<◌, Bool, true, false, Option, Some, None, ◌⊎◌, inl, inr, refl, ap, sym, ◌∙◌, arith}
use Rattle.std.specs.Prelude.{find, not, ◌&&◌, ◌==◌, is_some, option_map}
use Rattle.apfs_model.specs.Lists.{In, passes}
use Rattle.apfs_model.proofs.BoolTests.{clash, left-true, right-true, both-true, never-true, not-true, not-false, equal-from, from-equal}
use Rattle.apfs_model.proofs.Searches.{found-in}
use Rattle.fs_record.specs.Inodes.{Inode, inode_kind}
use Rattle.fs_record.specs.Entries.{Entry}
use Rattle.fs_record.specs.Facts.{Fact, directory_kind, is_reserved}
use Rattle.view_rules.specs.Words.{IsClear}
use Rattle.view_rules.specs.Facts.{Facts, inode_at, has_inode, has_directory, is_directory, does_count, names_file, entry_count, child_count}
use Rattle.view_rules.specs.Entries.{lacks_parent, HasParents, lacks_inode, HasFiles, has_other_kind, HasKinds}
use Rattle.view_rules.specs.Inodes.{lacks_owner, HasOwners}
use Rattle.rule_changes.specs.Changes.{IsChange, is_of, has_fact, HasDistinctInodes, has_double, IsUnused}
use Rattle.rule_changes.proofs.Weaving.{any-in, counted, found-only, in-stays, in-woven, find_either}

-- ---- tests
pub some-passes : {X : Type 0} (o : Option X) (test : X → Bool) → passes o test ≡ true → (x : X) × ((o ≡ Some x) × (test x ≡ true))
some-passes None test e = clash false e refl
some-passes (Some x) test e = (x, (refl, e))

pub passes-at : {X : Type 0} (o : Option X) (test : X → Bool) (x : X) → o ≡ Some x → test x ≡ true → passes o test ≡ true
passes-at o test x e t = ap (λ r. passes r test) e ∙ t

pub some-there : {X : Type 0} (o : Option X) → is_some o ≡ true → (x : X) × (o ≡ Some x)
some-there None e = clash false e refl
some-there (Some x) e = (x, refl)

pub mapped-some : {X Y : Type 0} (f : X → Y) (o : Option X) (y : Y) → option_map f o ≡ Some y → (x : X) × ((o ≡ Some x) × (f x ≡ y))
mapped-some f None y e = absurd (let q : ⊥ = cc in q)
mapped-some f (Some x) y e = (x, (refl, let q : f x ≡ y = cc in q))

-- of a rule that asks b where a holds
pub asked : (a b : Bool) → (a && not b) ≡ false → a ≡ true → b ≡ true
asked a b rule t = not-false b (never-true (not b) (λ n. clash (a && not b) (both-true a (not b) t n) rule))

pub answered : (a b : Bool) → (a ≡ true → b ≡ true) → (a && not b) ≡ false
answered a b f = never-true (a && not b) (λ t. clash b (f (left-true a (not b) t)) (not-true b (right-true a (not b) t)))

-- ---- inodes
pub own-inode : (facts : Facts) → HasDistinctInodes facts → (f : Fact Inode) → In f facts.inodes → inode_at facts f.id ≡ Some f.what
own-inode facts distinct f h = ap (option_map (λ (f : Fact Inode). f.what)) (found-only (is_of f.id) facts.inodes (distinct f.id) f h (from-equal f.id f.id refl))

pub found-inode : (facts : Facts) (id : ℕ) (inode : Inode) → inode_at facts id ≡ Some inode → (f : Fact Inode) × (In f facts.inodes × ((f.id ≡ id) × (f.what ≡ inode)))
found-inode facts id inode e =
    let m = mapped-some (λ (f : Fact Inode). f.what) (find (is_of id) facts.inodes) inode e in
    let r = found-in (is_of id) facts.inodes m.0 m.1.0 in
    (m.0, (r.0, (equal-from m.0.id id r.1, m.1.1)))

pub inode_either : (before after gone come same : Facts) → IsChange before after gone come same → (id : ℕ) → (inode_at after id ≡ inode_at before id) ⊎ ((inode_at before id ≡ inode_at gone id) × (inode_at after id ≡ inode_at come id))
inode_either before after gone come same c id =
    let what : Option (Fact Inode) → Option Inode = option_map (λ (f : Fact Inode). f.what) in
    elim (find_either (is_of id) c.left.inodes c.made.inodes (c.distinct_before id) (c.distinct_after id)) as (λ _. (inode_at after id ≡ inode_at before id) ⊎ ((inode_at before id ≡ inode_at gone id) × (inode_at after id ≡ inode_at come id))) [
      | inl e ↦ inl (ap what e)
      | inr e ↦ inr (ap what e.0, ap what e.1)
    ]

-- what is tested of the inodes that are gone
abbrev pub AreKept : Facts → Facts → Facts → Type 0
AreKept after gone come = (f : Fact Inode) → In f gone.inodes → (has_double come f ≡ true) ⊎ IsUnused after f

-- the id of an inode before has one of its kind after, or nothing speaks of it
abbrev IsKept : Facts → ℕ → Inode → Type 0
IsKept after id inode = ((other : Inode) × ((inode_at after id ≡ Some other) × (inode_kind other ≡ inode_kind inode))) ⊎ ((f : Fact Inode) × ((f.id ≡ id) × ((f.what ≡ inode) × IsUnused after f)))

pub kept : (before after gone come same : Facts) → IsChange before after gone come same → AreKept after gone come → (id : ℕ) (inode : Inode) → inode_at before id ≡ Some inode → IsKept after id inode
kept before after gone come same c k id inode e = elim (inode_either before after gone come same c id) as (λ _. IsKept after id inode) [
  | inl same ↦ inl (inode, (same ∙ e, refl))
  | inr moved ↦
      let g = found-inode gone id inode (sym moved.0 ∙ e) in
      elim (k g.0 g.1.0) as (λ _. IsKept after id inode) [
        | inl double ↦
            let s = some-passes (inode_at come g.0.id) (λ (inode : Inode). inode_kind inode == inode_kind g.0.what) double in
            inl (s.0, (moved.1 ∙ (ap (inode_at come) (sym g.1.1.0) ∙ s.1.0), equal-from (inode_kind s.0) (inode_kind g.0.what) s.1.1 ∙ ap inode_kind g.1.1.1))
        | inr unused ↦ inr (g.0, (g.1.1.0, (g.1.1.1, unused)))
      ]
]

-- ---- the rules
-- an entry that counts makes the id of its directory one that is used
stands-in : (facts : Facts) (e : Fact Entry) (f : Fact Inode) → In e facts.entries → does_count e ≡ true → f.id ≡ e.id → is_directory f.what ≡ true → IsUnused facts f → ⊥
stands-in facts e f h counts same directory unused =
    let some : 0 < child_count facts f.id = counted (is_of f.id) facts.entries e h (from-equal e.id f.id (sym same)) in
    let none = unused.children directory (ap is_reserved same ∙ not-true (is_reserved e.id) counts) in
    absurd (omega arith)

names-it : (facts : Facts) (e : Fact Entry) (f : Fact Inode) → In e facts.entries → does_count e ≡ true → f.id ≡ e.what.file_id → IsUnused facts f → ⊥
names-it facts e f h counts same unused =
    let some : 0 < entry_count facts f.id = counted (names_file f.id) facts.entries e h (both-true (does_count e) (e.what.file_id == f.id) counts (from-equal e.what.file_id f.id (sym same))) in
    let none = unused.entries in
    absurd (omega arith)

pub parents-kept : (before after gone come same : Facts) → IsChange before after gone come same → AreKept after gone come → HasParents before → IsClear (lacks_parent after) come.entries → HasParents after
unfolding lacks_parent
parents-kept before after gone come same c k b n e h = elim (in-woven c.made.entries e h) as (λ _. lacks_parent after e ≡ false) [
  | inr new ↦ n e new
  | inl old ↦ answered (does_count e) (has_directory after e.id) (λ counts.
      let at = some-passes (inode_at before e.id) is_directory (asked (does_count e) (has_directory before e.id) (b e (in-stays c.left.entries e old)) counts) in
      elim (kept before after gone come same c k e.id at.0 at.1.0) as (λ _. has_directory after e.id ≡ true) [
        | inl t ↦ passes-at (inode_at after e.id) is_directory t.0 t.1.0 (ap (λ n. n == directory_kind) t.1.1 ∙ at.1.1)
        | inr t ↦ absurd (stands-in after e t.0 h counts t.1.0 (ap is_directory t.1.1.0 ∙ at.1.1) t.1.1.1)
      ])
]

pub files-kept : (before after gone come same : Facts) → IsChange before after gone come same → AreKept after gone come → HasFiles before → IsClear (lacks_inode after) come.entries → HasFiles after
unfolding lacks_inode
files-kept before after gone come same c k b n e h = elim (in-woven c.made.entries e h) as (λ _. lacks_inode after e ≡ false) [
  | inr new ↦ n e new
  | inl old ↦ answered (does_count e) (has_inode after e.what.file_id) (λ counts.
      let at = some-there (inode_at before e.what.file_id) (asked (does_count e) (has_inode before e.what.file_id) (b e (in-stays c.left.entries e old)) counts) in
      elim (kept before after gone come same c k e.what.file_id at.0 at.1) as (λ _. has_inode after e.what.file_id ≡ true) [
        | inl t ↦ ap is_some t.1.0
        | inr t ↦ absurd (names-it after e t.0 h counts t.1.0 t.1.1.1)
      ])
]

pub owners-kept : (before after gone come same : Facts) → IsChange before after gone come same → AreKept after gone come → HasOwners before → IsClear (lacks_owner after) come.attributes → HasOwners after
unfolding lacks_owner
owners-kept before after gone come same c k b n a h = elim (in-woven c.made.attributes a h) as (λ _. lacks_owner after a ≡ false) [
  | inr new ↦ n a new
  | inl old ↦
      let at = some-there (inode_at before a.id) (not-false (has_inode before a.id) (b a (in-stays c.left.attributes a old))) in
      elim (kept before after gone come same c k a.id at.0 at.1) as (λ _. not (has_inode after a.id) ≡ false) [
        | inl t ↦ ap (λ r. not (is_some r)) t.1.0
        | inr t ↦ clash (has_fact t.0.id after.attributes) (any-in (is_of t.0.id) after.attributes a h (from-equal a.id t.0.id (sym t.1.0))) t.1.1.1.attributes
      ]
]

-- the test of an entry's kind
abbrev is_other : Fact Entry → Inode → Bool
is_other e inode = not (inode_kind inode == e.what.kind)

pub kinds-kept : (before after gone come same : Facts) → IsChange before after gone come same → AreKept after gone come → HasFiles before → HasKinds before → IsClear (has_other_kind after) come.entries → HasKinds after
unfolding lacks_inode has_other_kind
kinds-kept before after gone come same c k files b n e h = elim (in-woven c.made.entries e h) as (λ _. has_other_kind after e ≡ false) [
  | inr new ↦ n e new
  | inl old ↦ never-true (does_count e && passes (inode_at after e.what.file_id) (is_other e)) (λ other.
      let counts = left-true (does_count e) (passes (inode_at after e.what.file_id) (is_other e)) other in
      let now = some-passes (inode_at after e.what.file_id) (is_other e) (right-true (does_count e) (passes (inode_at after e.what.file_id) (is_other e)) other) in
      let was = in-stays c.left.entries e old in
      let at = some-there (inode_at before e.what.file_id) (asked (does_count e) (has_inode before e.what.file_id) (files e was) counts) in
      elim (kept before after gone come same c k e.what.file_id at.0 at.1) as (λ _. ⊥) [
        | inl t ↦
            let q : ◌≡◌ {A = Option Inode} (Some t.0) (Some now.0) = sym t.1.0 ∙ now.1.0 in
            let one : t.0 ≡ now.0 = cc in
            let wrong : is_other e at.0 ≡ true = ap (λ n. not (n == e.what.kind)) (sym (sym (ap inode_kind one) ∙ t.1.1)) ∙ now.1.1 in
            clash (does_count e && passes (inode_at before e.what.file_id) (is_other e)) (both-true (does_count e) (passes (inode_at before e.what.file_id) (is_other e)) counts (passes-at (inode_at before e.what.file_id) (is_other e) at.0 at.1 wrong)) (b e was)
        | inr t ↦ names-it after e t.0 h counts t.1.0 t.1.1.1
      ])
]
