-- What look-ups among few entries, links and maps tell of siblings.
use Rattle.std.proofs.Common.{◌≡◌, ℕ, Bool, true, false, List, Option, Some, None, ◌⊎◌, inl, inr, refl, ap, sym, ◌∙◌, subst}
use Rattle.std.specs.Prelude.{filter, find, not, ◌&&◌, ◌||◌, ◌==◌, is_some, bytes_eq}
use Rattle.std.specs.List.{list_any}
use Rattle.apfs_model.specs.Lists.{In, passes}
use Rattle.apfs_model.proofs.BoolTests.{test_or, clash, left-true, right-true, both-true, left-or, right-or, either-from, never-true, equal-from, from-equal}
use Rattle.apfs_model.proofs.Searches.{in-filter, from-filter, found-in}
use Rattle.fs_record.specs.Entries.{Entry}
use Rattle.fs_record.specs.Siblings.{Link}
use Rattle.fs_record.specs.Facts.{Fact}
use Rattle.view_rules.specs.Facts.{Facts, is_system_id}
use Rattle.view_rules.specs.Siblings.{has_sibling, is_entry_of, is_link_of, is_map_of, go_together, has_link, has_entry, has_map, is_twin, is_entry_lost, is_link_lost, is_linked_entry, is_private_entry, is_system_link, has_fellows, is_map_lost}
use Rattle.rule_breaks.proofs.FellowLooks.{lost_some}
use Rattle.rule_changes.specs.Changes.{is_of, is_name_of, is_like, is_user_link, KeepsFellows}
use Rattle.plain_change.specs.Lookups.{is_file_link}
use Rattle.plain_change.specs.Fellows.{LeavesLinks, IsLinkLetGo, IsMapLetGo, IsSettled, IsEntrySettled}
use Rattle.rule_changes.proofs.Weaving.{any-in, some-in}
use Rattle.plain_change.proofs.Looks.{any-kept}

-- ---- the parts of a pair
parts : (e : Fact Entry) (l : Fact Link) → go_together e l ≡ true → (is_entry_of l.what.file l.what.sibling e ≡ true) × (e.id ≡ l.what.parent)
parts e l t =
    let at = right-true (is_entry_of l.what.file l.what.sibling e) ((e.id == l.what.parent) && bytes_eq e.what.name l.what.name) t in (
      left-true (is_entry_of l.what.file l.what.sibling e) ((e.id == l.what.parent) && bytes_eq e.what.name l.what.name) t,
      equal-from e.id l.what.parent (left-true (e.id == l.what.parent) (bytes_eq e.what.name l.what.name) at),
    )

of-file : (file sibling : ℕ) (e : Fact Entry) → is_entry_of file sibling e ≡ true → e.what.file_id ≡ file
of-file file sibling e t = equal-from e.what.file_id file (left-true (e.what.file_id == file) (has_sibling sibling e) t)

-- ---- those that are looked through
pub entry-run : (facts : Facts) (l : Fact Link) → list_any (λ (e : Fact Entry). go_together e l) (filter (is_of l.what.parent) facts.entries) ≡ has_entry facts l
entry-run facts l = any-kept (λ (e : Fact Entry). go_together e l) (is_of l.what.parent) (λ e t. from-equal e.id l.what.parent (parts e l t).1) facts.entries

pub link-run : (facts : Facts) (e : Fact Entry) → list_any (go_together e) (filter (is_file_link e.what.file_id) facts.links) ≡ has_link facts e
link-run facts e = any-kept (go_together e) (is_file_link e.what.file_id) (λ l t. from-equal l.what.file e.what.file_id (sym (of-file l.what.file l.what.sibling e (parts e l t).0))) facts.links

like-file : (l other : Fact Link) → is_like l other ≡ true → is_file_link l.what.file other ≡ true
like-file l other t = left-true (other.what.file == l.what.file) (other.what.sibling == l.what.sibling) (left-true (is_link_of l.what.file l.what.sibling other) ((other.what.parent == l.what.parent) && bytes_eq other.what.name l.what.name) t)

pub like-run : (facts : Facts) (l : Fact Link) → list_any (is_like l) (filter (is_file_link l.what.file) facts.links) ≡ list_any (is_like l) facts.links
like-run facts l = any-kept (is_like l) (is_file_link l.what.file) (like-file l) facts.links

user-file : (file sibling : ℕ) (l : Fact Link) → is_user_link file sibling l ≡ true → is_file_link file l ≡ true
user-file file sibling l t = left-true (l.what.file == file) (l.what.sibling == sibling) (left-true (is_link_of file sibling l) (not (is_system_id l.what.parent)) t)

pub user-run : (facts : Facts) (file sibling : ℕ) → list_any (is_user_link file sibling) (filter (is_file_link file) facts.links) ≡ list_any (is_user_link file sibling) facts.links
user-run facts file sibling = any-kept (is_user_link file sibling) (is_file_link file) (user-file file sibling) facts.links

pub map-run : (facts : Facts) (file sibling : ℕ) → list_any (is_map_of file sibling) (filter (is_of sibling) facts.siblings) ≡ has_map facts file sibling
map-run facts file sibling = any-kept (is_map_of file sibling) (is_of sibling) (λ m t. right-true (m.what == file) (m.id == sibling) t) facts.siblings

-- what passes over them tell
pub entry-told : (facts : Facts) (l : Fact Link) (id : ℕ) (entries : List (Fact Entry)) (r : Bool) → id ≡ l.what.parent → entries ≡ filter (is_of id) facts.entries
    → r ≡ list_any (λ (e : Fact Entry). go_together e l) entries → r ≡ has_entry facts l
entry-told facts l id entries r at is told = told ∙ (ap (list_any (λ (e : Fact Entry). go_together e l)) is ∙ (ap (λ i. list_any (λ (e : Fact Entry). go_together e l) (filter (is_of i) facts.entries)) at ∙ entry-run facts l))

pub link-told : (facts : Facts) (e : Fact Entry) (id : ℕ) (links : List (Fact Link)) (r : Bool) → id ≡ e.what.file_id → links ≡ filter (is_file_link id) facts.links
    → r ≡ list_any (go_together e) links → r ≡ has_link facts e
link-told facts e id links r at is told = told ∙ (ap (list_any (go_together e)) is ∙ (ap (λ i. list_any (go_together e) (filter (is_file_link i) facts.links)) at ∙ link-run facts e))

pub like-told : (facts : Facts) (l : Fact Link) (id : ℕ) (links : List (Fact Link)) (r : Bool) → id ≡ l.what.file → links ≡ filter (is_file_link id) facts.links
    → r ≡ list_any (is_like l) links → r ≡ list_any (is_like l) facts.links
like-told facts l id links r at is told = told ∙ (ap (list_any (is_like l)) is ∙ (ap (λ i. list_any (is_like l) (filter (is_file_link i) facts.links)) at ∙ like-run facts l))

pub user-told : (facts : Facts) (file sibling : ℕ) (links : List (Fact Link)) (r : Bool) → links ≡ filter (is_file_link file) facts.links
    → r ≡ list_any (is_user_link file sibling) links → r ≡ list_any (is_user_link file sibling) facts.links
user-told facts file sibling links r is told = told ∙ (ap (list_any (is_user_link file sibling)) is ∙ user-run facts file sibling)

-- a file that nothing names has no entry of a link
pub unnamed : (facts : Facts) (l : Fact Link) → list_any (is_name_of l.what.file) facts.entries ≡ false → has_entry facts l ≡ false
unnamed facts l none = never-true (has_entry facts l) (λ t.
    let r = some-in (λ (e : Fact Entry). go_together e l) facts.entries t in
    clash (list_any (is_name_of l.what.file) facts.entries) (any-in (is_name_of l.what.file) facts.entries r.0 r.1.0 (from-equal r.0.what.file_id l.what.file (of-file l.what.file l.what.sibling r.0 (parts r.0 l r.1.1).0))) none)

-- ---- entries and links that have their fellows
fine : (a b : Bool) → (a ≡ true) ⊎ (b ≡ true) → (not a && not b) ≡ false
fine a b (inl t) = ap (λ c. not c && not b) t
fine true b (inr t) = refl
fine false b (inr t) = ap not t

pub entry-found : (facts : Facts) (e : Fact Entry) (s : ℕ) → e.what.sibling ≡ Some s → (is_system_id e.id ≡ true) ⊎ ((has_link facts e ≡ true) × (has_map facts e.what.file_id s ≡ true)) → is_entry_lost facts e ≡ false
entry-found facts e s is (inl t) = lost_some facts e s is ∙ fine (is_system_id e.id) (has_link facts e && has_map facts e.what.file_id s) (inl t)
entry-found facts e s is (inr t) = lost_some facts e s is ∙ fine (is_system_id e.id) (has_link facts e && has_map facts e.what.file_id s) (inr (both-true (has_link facts e) (has_map facts e.what.file_id s) t.0 t.1))

pub link_found : (facts : Facts) (l : Fact Link) → (is_system_id l.what.parent ≡ true) ⊎ ((has_entry facts l ≡ true) × (has_map facts l.what.file l.what.sibling ≡ true)) → is_link_lost facts l ≡ false
unfolding is_link_lost
link_found facts l (inl t) = fine (is_system_id l.what.parent) (has_entry facts l && has_map facts l.what.file l.what.sibling) (inl t)
link_found facts l (inr t) = fine (is_system_id l.what.parent) (has_entry facts l && has_map facts l.what.file l.what.sibling) (inr (both-true (has_entry facts l) (has_map facts l.what.file l.what.sibling) t.0 t.1))

-- ---- maps
some-there : (o : Option ℕ) (s : ℕ) → passes o (λ t. t == s) ≡ true → is_some o ≡ true
some-there (Some x) s t = refl
some-there None s t = clash false t refl

-- an entry that goes together with a link of a user's directory is a linked one
linked : (facts : Facts) (l : Fact Link) (e : Fact Entry) → In l facts.links → go_together e l ≡ true → is_system_id l.what.parent ≡ false → is_linked_entry facts l.what.file l.what.sibling e ≡ true
linked facts l e listed t user =
    let p = parts e l t in
    both-true (is_entry_of l.what.file l.what.sibling e) (is_twin e && has_link facts e) p.0
    (both-true (is_twin e) (has_link facts e)
    (both-true (is_some e.what.sibling) (not (is_system_id e.id)) (some-there e.what.sibling l.what.sibling (right-true (e.what.file_id == l.what.file) (has_sibling l.what.sibling e) p.0)) (ap (λ i. not (is_system_id i)) p.1 ∙ ap not user))
    (any-in (go_together e) facts.links l listed t))

own-fellows : (facts : Facts) (l : Fact Link) → In l facts.links → (is_system_id l.what.parent ≡ true) ⊎ (has_entry facts l ≡ true) → has_fellows facts l.what.file l.what.sibling ≡ true
own-fellows facts l listed t =
    let file = l.what.file in
    let sibling = l.what.sibling in
    let a = list_any (is_linked_entry facts file sibling) facts.entries in
    let b = list_any (is_private_entry file sibling) facts.entries in
    let c = list_any (is_system_link file sibling) facts.links in
    elim (test_or (is_system_id l.what.parent)) as (λ _. has_fellows facts file sibling ≡ true) [
      | inl system ↦ right-or a (b || c) (right-or b c (any-in (is_system_link file sibling) facts.links l listed
          (both-true (is_link_of file sibling l) (is_system_id l.what.parent) (both-true (file == file) (sibling == sibling) (from-equal file file refl) (from-equal sibling sibling refl)) system)))
      | inr user ↦ elim t as (λ _. has_fellows facts file sibling ≡ true) [
        | inl system ↦ clash (is_system_id l.what.parent) system user
        | inr there ↦
            let r = some-in (λ (e : Fact Entry). go_together e l) facts.entries there in
            left-or a (b || c) (any-in (is_linked_entry facts file sibling) facts.entries r.0 r.1.0 (linked facts l r.0 listed r.1.1 user))
      ]
    ]

-- a link of a sibling that is found, and has its entry or needs none
pub fellows-by : (facts : Facts) (file sibling : ℕ) (l : Fact Link) → find (is_link_of file sibling) (filter (is_file_link file) facts.links) ≡ Some l → (is_system_id l.what.parent ≡ true) ⊎ (has_entry facts l ≡ true) → has_fellows facts file sibling ≡ true
fellows-by facts file sibling l found t =
    let r = found-in (is_link_of file sibling) (filter (is_file_link file) facts.links) l found in
    let of : l.what.file ≡ file = equal-from l.what.file file (left-true (l.what.file == file) (l.what.sibling == sibling) r.1) in
    let at : l.what.sibling ≡ sibling = equal-from l.what.sibling sibling (right-true (l.what.file == file) (l.what.sibling == sibling) r.1) in
    ap (λ i. has_fellows facts i sibling) (sym of) ∙ (ap (λ i. has_fellows facts l.what.file i) (sym at) ∙ own-fellows facts l (from-filter (is_file_link file) l facts.links r.0) t)

pub map_found : (facts : Facts) (m : Fact ℕ) → has_fellows facts m.what m.id ≡ true → is_map_lost facts m ≡ false
unfolding is_map_lost
map_found facts m t = ap not t

pub settled-none : (facts : Facts) (file sibling : ℕ) → has_map facts file sibling ≡ false → IsSettled facts file sibling
settled-none facts file sibling none m listed t = clash (has_map facts file sibling) (any-in (is_map_of file sibling) facts.siblings m listed t) none

pub settled-all : (facts : Facts) (file sibling : ℕ) → has_fellows facts file sibling ≡ true → IsSettled facts file sibling
settled-all facts file sibling there m listed t =
    let of : m.what ≡ file = equal-from m.what file (left-true (m.what == file) (m.id == sibling) t) in
    let at : m.id ≡ sibling = equal-from m.id sibling (right-true (m.what == file) (m.id == sibling) t) in
    map_found facts m (ap (λ i. has_fellows facts i m.id) of ∙ (ap (λ i. has_fellows facts file i) at ∙ there))

has-none : (o : Option ℕ) (s : ℕ) → o ≡ None → passes o (λ t. t == s) ≡ true → ⊥
has-none o s is t = clash false (sym (ap (λ (p : Option ℕ). passes p (λ t. t == s)) is) ∙ t) refl

pub entry-settled-none : (facts : Facts) (e : Fact Entry) → e.what.sibling ≡ None → IsEntrySettled facts e
entry-settled-none facts e is m listed t = absurd (has-none e.what.sibling m.id is (right-true (e.what.file_id == m.what) (has_sibling m.id e) t))

pub entry-settled : (facts : Facts) (e : Fact Entry) (s : ℕ) → e.what.sibling ≡ Some s → IsSettled facts e.what.file_id s → IsEntrySettled facts e
entry-settled facts e s is settled m listed t =
    let at : s ≡ m.id = equal-from s m.id (sym (ap (λ (p : Option ℕ). passes p (λ t. t == m.id)) is) ∙ right-true (e.what.file_id == m.what) (has_sibling m.id e) t) in
    settled m listed (both-true (m.what == e.what.file_id) (m.id == s) (from-equal m.what e.what.file_id (sym (of-file m.what m.id e t))) (from-equal m.id s (sym at)))

-- ---- links that go together with an entry that is gone
pub leaves : (facts : Facts) (e : Fact Entry) (links : List (Fact Link)) → links ≡ filter (is_file_link e.what.file_id) facts.links
    → ((l : Fact Link) → In l links → go_together e l ≡ true → is_link_lost facts l ≡ false) → LeavesLinks facts e
leaves facts e links is each l listed t =
    each l (subst (λ (ls : List (Fact Link)). In l ls) (sym is) (in-filter (is_file_link e.what.file_id) l facts.links listed
    (from-equal l.what.file e.what.file_id (sym (of-file l.what.file l.what.sibling e (parts e l t).0))))) t

-- ---- all of them
pub fellows : (after gone come : Facts) → ((e : Fact Entry) → In e come.entries → is_entry_lost after e ≡ false) → ((l : Fact Link) → In l come.links → is_link_lost after l ≡ false)
    → ((m : Fact ℕ) → In m come.siblings → is_map_lost after m ≡ false) → ((e : Fact Entry) → In e gone.entries → LeavesLinks after e) → ((l : Fact Link) → In l gone.links → IsLinkLetGo after l)
    → ((m : Fact ℕ) → In m gone.siblings → IsMapLetGo after m) → ((e : Fact Entry) → In e gone.entries → IsEntrySettled after e)
    → ((l : Fact Link) → In l gone.links → IsSettled after l.what.file l.what.sibling) → KeepsFellows after gone come
fellows after gone come entries links maps leave let_go maps_go settled settled_links = record {
  new_entries = entries;
  new_links = links;
  new_maps = maps;
  old_entries = λ e l lost listed t. leave e lost l listed t;
  old_links = let_go;
  old_maps = maps_go;
  maps = λ m listed t. elim (either-from (list_any (is_entry_of m.what m.id) gone.entries) (list_any (is_link_of m.what m.id) gone.links) t) as (λ _. is_map_lost after m ≡ false) [
    | inl some ↦ let r = some-in (is_entry_of m.what m.id) gone.entries some in settled r.0 r.1.0 m listed r.1.1
    | inr some ↦
        let r = some-in (is_link_of m.what m.id) gone.links some in
        let l : Fact Link = r.0 in
        settled_links l r.1.0 m listed (both-true (m.what == l.what.file) (m.id == l.what.sibling)
        (from-equal m.what l.what.file (sym (equal-from l.what.file m.what (left-true (l.what.file == m.what) (l.what.sibling == m.id) r.1.1))))
        (from-equal m.id l.what.sibling (sym (equal-from l.what.sibling m.id (right-true (l.what.file == m.what) (l.what.sibling == m.id) r.1.1)))))
  ];
}
