-- Entries, links and maps that go together.
use Rattle.std.proofs.Common.{◌≡◌, ℕ, ◌+◌, ◌<◌, Bool, true, false, cond, List, [], ◌∷◌, length, take, get_or, Option, Some, None, refl, ap, sym, ◌∙◌, subst, arith}
use Rattle.std.specs.Prelude.{bytes_eq, ◌==◌, ◌&&◌, ◌||◌, nat_lt, not, option_map, is_some, count_by}
use Rattle.std.specs.List.{list_any}
use Rattle.std.proofs.lemmas.List.Sums.{count_by_more_yes, count_by_more_no}
use Rattle.std.proofs.lemmas.Cmp.{nat_eq_equiv, nat_list_eq_equiv}
use Rattle.apfs_model.specs.Lists.{passes}
use Rattle.fs_record.specs.Entries.{Entry}
use Rattle.fs_record.specs.Siblings.{Link}
use Rattle.fs_record.specs.Facts.{Fact, private_id}
use Rattle.view_rules.specs.Facts.{Facts, is_system_id}
use Rattle.view_rules.specs.Siblings.{go_together, has_link, has_entry, has_map, is_map_of, is_twin, is_entry_lost, is_linked_entry, is_private_entry, is_system_link}
use Rattle.rule_index.specs.Keys.{Key, is_same_key, has_key, key_count, CountsKeys, fellow_key, entry_fellow, link_fellow, sibling_key, map_sibling, private_sibling, system_sibling, linked_sibling}
use Rattle.rule_index.proofs.Counting.{count-same, any-counted}

assoc : (a b c d : Bool) → ((a && b) && (c && d)) ≡ (a && (b && (c && d)))
assoc true b c d = refl
assoc false b c d = refl

no-sibling : (a c : Bool) → ((a && false) && c) ≡ false
no-sibling true c = refl
no-sibling false c = refl

and-true : (a : Bool) → (a && true) ≡ a
and-true true = refl
and-true false = refl

-- a link has the key of an entry of a sibling where they go together
link-same : (e : Fact Entry) (s : ℕ) (l : Fact Link) → e.what.sibling ≡ Some s → has_key link_fellow (fellow_key e.what.file_id s e.id e.what.name) l ≡ go_together e l
link-same e s l is =
    (λ i. nat_eq_equiv.symm l.what.file e.what.file_id i && (nat_eq_equiv.symm l.what.sibling s i && (nat_eq_equiv.symm l.what.parent e.id i && nat_list_eq_equiv.symm l.what.name e.what.name i)))
    ∙ (sym (assoc (e.what.file_id == l.what.file) (s == l.what.sibling) (e.id == l.what.parent) (bytes_eq e.what.name l.what.name))
    ∙ ap (λ o. ((e.what.file_id == l.what.file) && passes o (λ t. t == l.what.sibling)) && ((e.id == l.what.parent) && bytes_eq e.what.name l.what.name)) (sym is))

pub has_link_some : (facts : Facts) (m : List Key) (e : Fact Entry) (s : ℕ) → CountsKeys link_fellow facts.links m → e.what.sibling ≡ Some s → nat_lt 0 (key_count m (fellow_key e.what.file_id s e.id e.what.name)) ≡ has_link facts e
has_link_some facts m e s counts is =
    ap (nat_lt 0) (counts (fellow_key e.what.file_id s e.id e.what.name) ∙ count-same (has_key link_fellow (fellow_key e.what.file_id s e.id e.what.name)) (go_together e) (λ l. link-same e s l is) facts.links) ∙ any-counted (go_together e) facts.links

none-together : (e : Fact Entry) (ls : List (Fact Link)) → e.what.sibling ≡ None → list_any (go_together e) ls ≡ false
none-together e [] is = refl
none-together e (l ∷ ls) is =
    let apart : go_together e l ≡ false =
    ap (λ o. ((e.what.file_id == l.what.file) && passes o (λ t. t == l.what.sibling)) && ((e.id == l.what.parent) && bytes_eq e.what.name l.what.name)) is
    ∙ no-sibling (e.what.file_id == l.what.file) ((e.id == l.what.parent) && bytes_eq e.what.name l.what.name) in
    ap (λ b. b || list_any (go_together e) ls) apart ∙ none-together e ls is

pub has_link_none : (facts : Facts) (e : Fact Entry) → e.what.sibling ≡ None → false ≡ has_link facts e
has_link_none facts e is = sym (none-together e facts.links is)

-- an entry has the key of a link where they go together
entry-same : (l : Fact Link) (e : Fact Entry) → has_key entry_fellow (fellow_key l.what.file l.what.sibling l.what.parent l.what.name) e ≡ go_together e l
entry-same l e =
    let go : (o : Option ℕ) → passes (option_map (λ s. fellow_key e.what.file_id s e.id e.what.name) o) (λ k. is_same_key k (fellow_key l.what.file l.what.sibling l.what.parent l.what.name))
    ≡ (((e.what.file_id == l.what.file) && passes o (λ t. t == l.what.sibling)) && ((e.id == l.what.parent) && bytes_eq e.what.name l.what.name)) =
    λ o. elim o as (λ o. passes (option_map (λ s. fellow_key e.what.file_id s e.id e.what.name) o) (λ k. is_same_key k (fellow_key l.what.file l.what.sibling l.what.parent l.what.name))
    ≡ (((e.what.file_id == l.what.file) && passes o (λ t. t == l.what.sibling)) && ((e.id == l.what.parent) && bytes_eq e.what.name l.what.name))) [
      | None ↦ sym (no-sibling (e.what.file_id == l.what.file) ((e.id == l.what.parent) && bytes_eq e.what.name l.what.name))
      | Some s ↦ sym (assoc (e.what.file_id == l.what.file) (s == l.what.sibling) (e.id == l.what.parent) (bytes_eq e.what.name l.what.name))
    ] in
    go e.what.sibling

pub has_entry_counts : (facts : Facts) (m : List Key) (l : Fact Link) → CountsKeys entry_fellow facts.entries m → nat_lt 0 (key_count m (fellow_key l.what.file l.what.sibling l.what.parent l.what.name)) ≡ has_entry facts l
has_entry_counts facts m l counts =
    ap (nat_lt 0) (counts (fellow_key l.what.file l.what.sibling l.what.parent l.what.name) ∙ count-same (has_key entry_fellow (fellow_key l.what.file l.what.sibling l.what.parent l.what.name)) (λ e. go_together e l) (entry-same l) facts.entries)
    ∙ any-counted (λ e. go_together e l) facts.entries

-- a sibling of a file has its map
map-same : (file sibling : ℕ) (m : Fact ℕ) → has_key map_sibling (sibling_key file sibling) m ≡ is_map_of file sibling m
map-same file sibling m = ap (λ b. (m.what == file) && b) (and-true (m.id == sibling))

pub has_map_counts : (facts : Facts) (m : List Key) (file sibling : ℕ) → CountsKeys map_sibling facts.siblings m → nat_lt 0 (key_count m (sibling_key file sibling)) ≡ has_map facts file sibling
has_map_counts facts m file sibling counts =
    ap (nat_lt 0) (counts (sibling_key file sibling) ∙ count-same (has_key map_sibling (sibling_key file sibling)) (is_map_of file sibling) (map-same file sibling) facts.siblings) ∙ any-counted (is_map_of file sibling) facts.siblings

-- an entry of a sibling lacks its fellows
pub lost_some : (facts : Facts) (e : Fact Entry) (s : ℕ) → e.what.sibling ≡ Some s → is_entry_lost facts e ≡ (not (is_system_id e.id) && not (has_link facts e && has_map facts e.what.file_id s))
unfolding is_entry_lost
lost_some facts e s is = ap (λ o. (is_some o && not (is_system_id e.id)) && not (has_link facts e && passes o (has_map facts e.what.file_id))) is

pub lost_none : (facts : Facts) (e : Fact Entry) → e.what.sibling ≡ None → is_entry_lost facts e ≡ false
unfolding is_entry_lost
lost_none facts e is = ap (λ o. (is_some o && not (is_system_id e.id)) && not (has_link facts e && passes o (has_map facts e.what.file_id))) is

guarded : (b : Bool) (o : Option ℕ) (f file sibling : ℕ) → passes (cond b (option_map (sibling_key f) o) None) (λ k. is_same_key k (sibling_key file sibling)) ≡ (((f == file) && passes o (λ s. s == sibling)) && b)
guarded true (Some s) f file sibling = sym (assoc (f == file) (s == sibling) true true)
guarded true None f file sibling = sym (no-sibling (f == file) true)
guarded false o f file sibling = sym (and-false ((f == file) && passes o (λ s. s == sibling)))
  where
    and-false : (a : Bool) → (a && false) ≡ false
    and-false true = refl
    and-false false = refl

-- an entry of the private directory has the key of its sibling
pub private_counts : (facts : Facts) (m : List Key) (file sibling : ℕ) → CountsKeys private_sibling facts.entries m → nat_lt 0 (key_count m (sibling_key file sibling)) ≡ list_any (is_private_entry file sibling) facts.entries
private_counts facts m file sibling counts =
    ap (nat_lt 0) (counts (sibling_key file sibling) ∙ count-same (has_key private_sibling (sibling_key file sibling)) (is_private_entry file sibling) (λ e. guarded (e.id == private_id) e.what.sibling e.what.file_id file sibling) facts.entries)
    ∙ any-counted (is_private_entry file sibling) facts.entries

-- a link of the private directory or of a reserved id has the key of its sibling
pub system_counts : (facts : Facts) (m : List Key) (file sibling : ℕ) → CountsKeys system_sibling facts.links m → nat_lt 0 (key_count m (sibling_key file sibling)) ≡ list_any (is_system_link file sibling) facts.links
system_counts facts m file sibling counts =
    ap (nat_lt 0) (counts (sibling_key file sibling) ∙ count-same (has_key system_sibling (sibling_key file sibling)) (is_system_link file sibling) (λ l. guarded (is_system_id l.what.parent) (Some l.what.sibling) l.what.file file sibling) facts.links)
    ∙ any-counted (is_system_link file sibling) facts.links

-- an entry that needs its fellows and has its link has the key of its sibling
pub linked_counts : (facts : Facts) (m : List Key) (file sibling : ℕ) → CountsKeys (linked_sibling facts) facts.entries m → nat_lt 0 (key_count m (sibling_key file sibling)) ≡ list_any (is_linked_entry facts file sibling) facts.entries
linked_counts facts m file sibling counts =
    ap (nat_lt 0) (counts (sibling_key file sibling) ∙ count-same (has_key (linked_sibling facts) (sibling_key file sibling)) (is_linked_entry facts file sibling) (λ e. guarded (is_twin e && has_link facts e) e.what.sibling e.what.file_id file sibling) facts.entries)
    ∙ any-counted (is_linked_entry facts file sibling) facts.entries

-- the key of an entry of a sibling
pub linked_some : (facts : Facts) (e : Fact Entry) (s : ℕ) → e.what.sibling ≡ Some s → linked_sibling facts e ≡ cond (not (is_system_id e.id) && has_link facts e) (Some (sibling_key e.what.file_id s)) None
linked_some facts e s is = ap (λ o. cond ((is_some o && not (is_system_id e.id)) && has_link facts e) (option_map (sibling_key e.what.file_id) o) None) is

pub linked_none : (facts : Facts) (e : Fact Entry) → e.what.sibling ≡ None → linked_sibling facts e ≡ None
linked_none facts e is = ap (λ o. cond ((is_some o && not (is_system_id e.id)) && has_link facts e) (option_map (sibling_key e.what.file_id) o) None) is

-- one more item is counted by its key, where it has one
pub key-more : {X : Type 0} (key : X → Option Key) (q : Key) (xs items : List X) (i : ℕ) (x : X) (k : Key) (old new : ℕ) → items ≡ xs → i < length items → x ≡ get_or items i x → Some k ≡ key x
    → old ≡ count_by (has_key key q) (take i xs) → new ≡ old + cond (is_same_key k q) 1 0 → new ≡ count_by (has_key key q) (take (i + 1) xs)
key-more {X} key q xs items i x k old new same low is has counted added =
    let low2 : i < length xs = subst (λ (ys : List X). i < length ys) same low in
    let test : has_key key q (get_or xs i x) ≡ is_same_key k q = ap (has_key key q) (sym (is ∙ ap (λ (ys : List X). get_or ys i x) same)) ∙ ap (λ o. passes o (λ k. is_same_key k q)) (sym has) in
    let go : (b : Bool) → is_same_key k q ≡ b → old + cond b 1 0 ≡ count_by (has_key key q) (take (i + 1) xs) =
    λ b. elim b as (λ b. is_same_key k q ≡ b → old + cond b 1 0 ≡ count_by (has_key key q) (take (i + 1) xs)) [
      | true ↦ λ e. omega (arith, counted, count_by_more_yes (has_key key q) xs i x low2 (test ∙ e))
      | false ↦ λ e. omega (arith, counted, count_by_more_no (has_key key q) xs i x low2 (test ∙ e))
    ] in
    added ∙ go (is_same_key k q) refl

-- it has none
pub key-none : {X : Type 0} (key : X → Option Key) (q : Key) (xs items : List X) (i : ℕ) (x : X) (old : ℕ) → items ≡ xs → i < length items → x ≡ get_or items i x → None ≡ key x
    → old ≡ count_by (has_key key q) (take i xs) → old ≡ count_by (has_key key q) (take (i + 1) xs)
key-none {X} key q xs items i x old same low is has counted =
    let low2 : i < length xs = subst (λ (ys : List X). i < length ys) same low in
    let test : has_key key q (get_or xs i x) ≡ false = ap (has_key key q) (sym (is ∙ ap (λ (ys : List X). get_or ys i x) same)) ∙ ap (λ o. passes o (λ k. is_same_key k q)) (sym has) in
    counted ∙ sym (count_by_more_no (has_key key q) xs i x low2 test)
