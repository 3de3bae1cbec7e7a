-- What is known of a change.
use Rattle.std.proofs.Common.{◌≡◌, ℕ, ◌+◌, ◌≤◌, ◌<◌, Bool, true, false, cond, List, map, [], ◌∷◌, Option, Some, None, ◌⊎◌, inl, inr, refl, ap, sym, ◌∙◌, subst, arith}
use Rattle.std.specs.Prelude.{count_by, find, not, ◌&&◌, ◌||◌, ◌==◌, nat_le, nat_lt, pos, is_some, option_map, bytes_eq}
use Rattle.std.specs.List.{list_any, filter_map, cons_option}
use Rattle.std.specs.Ordering.{int_eq}
use Rattle.std.proofs.lemmas.Bool.{cases_lt}
use Rattle.std.proofs.lemmas.Bool.Decides.{Decides-int_eq}
use Rattle.std.proofs.lemmas.Slice.Eq.{bytes_eq-Decides}
use Rattle.apfs_model.specs.Lists.{In, has, is_distinct}
use Rattle.apfs_model.proofs.BoolTests.{test_or, clash, left-true, right-true, both-true, never-true, not-true, false-not, from-equal, equal-from, either-from, upto-from}
use Rattle.apfs_model.proofs.Searches.{in-map, in-has}
use Rattle.bt_keys.specs.RecordKey.{inode_record, attribute_record, sibling_link_record, file_extent_record, entry_record, sibling_map_record}
use Rattle.fs_name.specs.Text.{is_ascii_name}
use Rattle.fs_name.specs.Normal.{are_hashed}
use Rattle.fs_name.specs.Hash.{name_hash_of}
use Rattle.fs_record.specs.Inodes.{Inode, inode_kind}
use Rattle.fs_record.specs.Entries.{Entry}
use Rattle.fs_record.specs.Facts.{Fact, fact_of, inodes_of, entries_of, attributes_of, links_of, sibling_files_of, extents_of, read_inode, read_entry, read_attribute, read_link, read_sibling, read_extent, is_reserved, root_id, first_user_id, regular_kind}
use Rattle.view_rules.specs.Facts.{Facts, inode_at, has_inode, has_directory, is_directory, does_count, names_file, entry_count, entry_count_in, child_count}
use Rattle.view_rules.specs.Names.{is_entry_at, has_other_hash, has_other_ascii_hash, HasAsciiHashes, has_other_name_hash, HasNameHashes}
use Rattle.view_rules.specs.Entries.{lacks_parent}
use Rattle.view_rules.specs.Directories.{is_user_directory, is_misnamed}
use Rattle.view_rules.specs.Counts.{is_counted_directory, has_other_children, is_system_name, has_other_links}
use Rattle.rule_changes.specs.Changes.{Weaves, ended, stays, differs, is_of, has_fact, is_name_of, is_renamed}
use Rattle.rule_changes.specs.Known.{RecordsWeave, CountsFollow, InodesKnown, is_counted_id, ChildrenKnown, NamedOnce, NamedStill, AlikeByHash, is_nameless, NoNameless, NoOddHashes, DistinctIds, ChildrenStep, LinksKnown}
use Rattle.rule_changes.proofs.Weaving.{any-in, one-more, one-yes, one-no, none-in, counted, some-counted, in-stays, in-woven, count-woven, find-stays, turned}
use Rattle.rule_changes.proofs.Kept.{some-passes, some-there, asked, answered, found-inode}
use Rattle.rule_changes.proofs.Counted.{neither-from, was-there, still-any, agree}
use Rattle.rule_changes.proofs.Named.{name-hashes-kept}

-- ---- records
put-stays : {Y : Type 0} (o : Option Y) {all same other : List Y} → Weaves all same other → Weaves (cons_option o all) (cons_option o same) other
put-stays None w = w
put-stays (Some y) {all} {same} {other} w = stays y all same other w

put-differs : {Y : Type 0} (o : Option Y) {all same other : List Y} → Weaves all same other → Weaves (cons_option o all) same (cons_option o other)
put-differs None w = w
put-differs (Some y) {all} {same} {other} w = differs y all same other w

woven-map : {X Y : Type 0} (f : X → Option Y) {all same other : List X} → Weaves all same other → Weaves (filter_map f all) (filter_map f same) (filter_map f other)
woven-map f ended = ended
woven-map f (stays x all same other w) = put-stays (f x) (woven-map f w)
woven-map f (differs x all same other w) = put-differs (f x) (woven-map f w)

pub records-weave : RecordsWeave
unfolding inodes_of entries_of attributes_of links_of sibling_files_of extents_of
records-weave names all same other w = record {
  inodes = woven-map (fact_of inode_record read_inode) w;
  entries = woven-map (fact_of entry_record (read_entry names)) w;
  attributes = woven-map (fact_of attribute_record read_attribute) w;
  links = woven-map (fact_of sibling_link_record read_link) w;
  siblings = woven-map (fact_of sibling_map_record read_sibling) w;
  extents = woven-map (fact_of file_extent_record read_extent) w;
}

-- ---- numbers and inodes
pub counts-follow : CountsFollow
counts-follow before after gone come same c id =
    let follow : (p : Fact Entry → Bool) → count_by p after.entries + count_by p gone.entries ≡ count_by p before.entries + count_by p come.entries =
    λ p. let l = count-woven p c.left.entries in let m = count-woven p c.made.entries in omega arith in
    (follow (names_file id), follow (is_of id))

found-some : {X : Type 0} (p : X → Bool) (xs : List X) (x : X) → In x xs → p x ≡ true → is_some (find p xs) ≡ true
found-some p [] x h t = absurd h
found-some p (y ∷ ys) x (inl e) t = ap (λ b. is_some (cond b (Some y) (find p ys))) (subst (λ z. p z ≡ true) e t)
found-some p (y ∷ ys) x (inr h) t = elim (test_or (p y)) as (λ _. is_some (find p (y ∷ ys)) ≡ true) [
  | inl here ↦ ap (λ b. is_some (cond b (Some y) (find p ys))) here
  | inr calm ↦ ap (λ b. is_some (cond b (Some y) (find p ys))) calm ∙ found-some p ys x h t
]

still-some : {X Y : Type 0} (f : X → Y) (o : Option X) → is_some o ≡ true → is_some (option_map f o) ≡ true
still-some f None e = e
still-some f (Some x) e = refl

-- an id without an inode is that of none
none-of : (facts : Facts) (id : ℕ) → has_inode facts id ≡ false → count_by (is_of id) facts.inodes ≡ 0
none-of facts id none = elim (cases_lt 0 (count_by (is_of id) facts.inodes)) as (λ _. count_by (is_of id) facts.inodes ≡ 0) [
  | inr l ↦ omega arith
  | inl some ↦
      let t = some-counted (is_of id) facts.inodes some in
      clash (has_inode facts id) (still-some (λ (f : Fact Inode). f.what) (find (is_of id) facts.inodes) (found-some (is_of id) facts.inodes t.0 t.1.0 t.1.1)) none
]

none-at : {X : Type 0} (o : Option X) → is_some o ≡ false → o ≡ None
none-at None e = refl
none-at (Some x) e = clash true refl e

-- an id with an inode is that of one
one-of : (facts : Facts) (id : ℕ) → has_inode facts id ≡ true → 0 < count_by (is_of id) facts.inodes
one-of facts id some =
    let at = some-there (inode_at facts id) some in
    let g = found-inode facts id at.0 at.1 in
    counted (is_of id) facts.inodes g.0 g.1.0 (from-equal g.0.id id g.1.1.0)

pub inodes-known : InodesKnown
inodes-known before after gone come same c id =
    let p : Fact Inode → Bool = is_of id in
    let l = count-woven p c.left.inodes in
    let m = count-woven p c.made.inodes in
    let b : count_by p before.inodes ≤ 1 = c.distinct_before id in
    let a : count_by p after.inodes ≤ 1 = c.distinct_after id in
    let what : Option (Fact Inode) → Option Inode = option_map (λ (f : Fact Inode). f.what) in
    record {
      lost = λ some.
          let one : 0 < count_by p gone.inodes = one-of gone id some in
          ap what (find-stays p (turned c.left.inodes) (omega arith));
      none = λ none some.
          let one : 0 < count_by p come.inodes = one-of come id some in
          let zero : count_by p gone.inodes ≡ 0 = none-of gone id none in
          ap what (find-stays p (turned c.left.inodes) (omega arith)) ∙ none-at (inode_at gone id) none;
      same = λ none none_new. ap what (find-stays p c.left.inodes (none-of gone id none) ∙ sym (find-stays p c.made.inodes (none-of come id none_new)));
    }

not-reserved : (id : ℕ) → is_counted_id id ≡ true → is_reserved id ≡ false
not-reserved id t = never-true (is_reserved id) (λ r.
    let high : (id ≡ 2) ⊎ (16 ≤ id) = elim (either-from (id == root_id) (nat_le first_user_id id) t) as (λ _. (id ≡ 2) ⊎ (16 ≤ id)) [ inl e ↦ inl (equal-from id root_id e) | inr l ↦ inr (upto-from first_user_id id l) ] in
    elim (either-from (id == 1) (nat_le 4 id && nat_le id 15) r) as (λ _. ⊥) [
      | inl e ↦ let one : id ≡ 1 = equal-from id 1 e in elim high as (λ _. ⊥) [ inl two ↦ absurd (omega arith) | inr more ↦ absurd (omega arith) ]
      | inr l ↦
          let low : 4 ≤ id = upto-from 4 id (left-true (nat_le 4 id) (nat_le id 15) l) in
          let most : id ≤ 15 = upto-from id 15 (right-true (nat_le 4 id) (nat_le id 15) l) in
          elim high as (λ _. ⊥) [ inl two ↦ absurd (omega arith) | inr more ↦ absurd (omega arith) ]
    ])

pub children-known : ChildrenKnown
unfolding lacks_parent has_other_children
children-known facts parents children id counts = record {
  given = λ inode at directory.
      let g = found-inode facts id inode at in
      let f : Fact Inode = g.0 in
      let here : ((f.id == root_id) || nat_le first_user_id f.id) ≡ true = ap is_counted_id g.1.1.0 ∙ counts in
      let right = asked (is_counted_directory f) (int_eq f.what.links (pos (child_count facts f.id))) (children f g.1.0) (both-true (is_directory f.what) (is_counted_id f.id) (ap is_directory g.1.1.1 ∙ directory) here) in
      let links : f.what.links ≡ pos (child_count facts f.id) = (Decides-int_eq f.what.links (pos (child_count facts f.id))).0 right in
      sym (ap (λ (inode : Inode). inode.links) g.1.1.1) ∙ (links ∙ ap (λ i. pos (child_count facts i)) g.1.1.0);
  none = λ none. elim (cases_lt 0 (child_count facts id)) as (λ _. child_count facts id ≡ 0) [
    | inr l ↦ omega arith
    | inl some ↦
        let t = some-counted (is_of id) facts.entries some in
        let same : t.0.id ≡ id = equal-from t.0.id id t.1.1 in
        let there = asked (does_count t.0) (has_directory facts t.0.id) (parents t.0 t.1.0) (false-not (is_reserved t.0.id) (ap is_reserved same ∙ not-reserved id counts)) in
        clash (has_directory facts id) (ap (has_directory facts) (sym same) ∙ there) none
  ];
}

-- what a test of two parts says where one fails
fails-left : (a b : Bool) → a ≡ false → (a && b) ≡ false
fails-left true b e = clash true refl e
fails-left false b e = refl

fails-right : (a b : Bool) → b ≡ false → (a && b) ≡ false
fails-right true b e = e
fails-right false b e = refl

pub children-step : ChildrenStep
unfolding has_other_children
children-step before after gone come same c parents children f n m counts was now sums =
    let known = children-known before parents children f.id counts in
    let follow = counts-follow before after gone come same c f.id in
    let sum = follow.1 in
    let old : child_count before f.id ≡ n = elim was as (λ _. child_count before f.id ≡ n) [
      | inl t ↦ let q : pos (child_count before f.id) ≡ pos n = sym (known.given t.0 t.1.0 t.1.1.0) ∙ t.1.1.1 in cc
      | inr t ↦ known.none t.0 ∙ sym t.1
    ] in
    let new : m ≡ child_count after f.id = omega arith in
    answered (is_counted_directory f) (int_eq f.what.links (pos (child_count after f.id))) (λ directory.
    (Decides-int_eq f.what.links (pos (child_count after f.id))).1 (now ∙ ap pos new))

pub links-known : LinksKnown
unfolding has_other_links
links-known facts f =
    let regular : Bool = inode_kind f.what == regular_kind in
    let free : Bool = list_any (is_system_name f.id) facts.entries in
    let right : Bool = int_eq f.what.links (pos (entry_count facts f.id)) in
    let asks : Bool = regular && (nat_lt 0 (entry_count facts f.id) && not free) in
    record {
      counted = λ e. answered asks right (λ t. (Decides-int_eq f.what.links (pos (entry_count facts f.id))).1 e);
      unnamed = λ e. fails-left asks (not right) (fails-right regular (nat_lt 0 (entry_count facts f.id) && not free) (fails-left (nat_lt 0 (entry_count facts f.id)) (not free) (ap (nat_lt 0) e)));
      other = λ e. fails-left asks (not right) (fails-left regular (nat_lt 0 (entry_count facts f.id) && not free) e);
      freed = λ e h t. fails-left asks (not right) (fails-right regular (nat_lt 0 (entry_count facts f.id) && not free) (fails-right (nat_lt 0 (entry_count facts f.id)) (not free) (ap not (any-in (is_system_name f.id) facts.entries e h t))));
    }

-- ---- directories
pub count-more : {X : Type 0} (p q : X → Bool) → ((x : X) → p x ≡ true → q x ≡ true) → (xs : List X) → count_by p xs ≤ count_by q xs
count-more p q more [] = let zero_p : count_by p [] ≡ 0 = refl in let zero_q : count_by q [] ≡ 0 = refl in omega arith
count-more p q more (x ∷ xs) =
    let rest : count_by p xs ≤ count_by q xs = count-more p q more xs in
    elim (test_or (p x)) as (λ _. count_by p (x ∷ xs) ≤ count_by q (x ∷ xs)) [
      | inl t ↦ let a = one-yes p x xs t in let b = one-yes q x xs (more x t) in omega arith
      | inr n ↦ let a = one-no p x xs n in let b = one-more q x xs in omega arith
    ]

pub named-once : NamedOnce
unfolding is_misnamed
named-once facts f e one h t place =
    let p : Fact Entry → Bool = λ (x : Fact Entry). names_file f.id x && (x.id == f.what.parent) in
    let most : count_by p facts.entries ≤ entry_count facts f.id = count-more p (names_file f.id) (λ x k. left-true (names_file f.id x) (x.id == f.what.parent) k) facts.entries in
    let least : 0 < count_by p facts.entries = counted p facts.entries e h (both-true (names_file f.id e) (e.id == f.what.parent) t (from-equal e.id f.what.parent place)) in
    let in_parent : entry_count_in facts f.id f.what.parent ≡ 1 = omega arith in
    answered (is_user_directory f) ((entry_count facts f.id == 1) && (entry_count_in facts f.id f.what.parent == 1)) (λ user.
    both-true (entry_count facts f.id == 1) (entry_count_in facts f.id f.what.parent == 1) (from-equal (entry_count facts f.id) 1 one) (from-equal (entry_count_in facts f.id f.what.parent) 1 in_parent))

pub named-still : NamedStill
unfolding is_misnamed
named-still before after gone come same c named f stood high none one =
    let at = some-passes (inode_at before f.id) (λ (inode : Inode). is_directory inode && (inode.parent == f.what.parent)) stood in
    let g = found-inode before f.id at.0 at.1.0 in
    let b : Fact Inode = g.0 in
    let directory = left-true (is_directory at.0) (at.0.parent == f.what.parent) at.1.1 in
    let parent : at.0.parent ≡ f.what.parent = equal-from at.0.parent f.what.parent (right-true (is_directory at.0) (at.0.parent == f.what.parent) at.1.1) in
    let user : is_user_directory b ≡ true = both-true (is_directory b.what) (nat_le first_user_id b.id) (ap is_directory g.1.1.1 ∙ directory) (ap (nat_le first_user_id) g.1.1.0 ∙ high) in
    let both = asked (is_user_directory b) ((entry_count before b.id == 1) && (entry_count_in before b.id b.what.parent == 1)) (named b g.1.0) user in
    let once = equal-from (entry_count_in before b.id b.what.parent) 1 (right-true (entry_count before b.id == 1) (entry_count_in before b.id b.what.parent == 1) both) in
    let p : Fact Entry → Bool = λ (x : Fact Entry). names_file b.id x && (x.id == b.what.parent) in
    let t = some-counted p before.entries (omega arith) in
    let e : Fact Entry = t.0 in
    let names : names_file f.id e ≡ true = subst (λ i. names_file i e ≡ true) g.1.1.0 (left-true (names_file b.id e) (e.id == b.what.parent) t.1.1) in
    let place : e.id ≡ f.what.parent = equal-from e.id b.what.parent (right-true (names_file b.id e) (e.id == b.what.parent) t.1.1) ∙ (ap (λ (inode : Inode). inode.parent) g.1.1.1 ∙ parent) in
    elim (in-woven c.left.entries e t.1.0) as (λ _. is_misnamed after f ≡ false) [
      | inl old ↦ named-once after f e one (in-stays c.made.entries e old) names place
      | inr lost ↦ clash (names_file f.id e) names (none-in (names_file f.id) gone.entries none e lost)
    ]

-- ---- names
count-alike : {X : Type 0} (p q : X → Bool) (xs : List X) → ((x : X) → In x xs → p x ≡ q x) → count_by p xs ≡ count_by q xs
count-alike p q [] same = refl
count-alike p q (x ∷ xs) same = one-more p x xs ∙ (ap (λ b. cond b 1 0 + count_by p xs) (same x (inl refl)) ∙ (ap (λ k. cond (q x) 1 0 + k) (count-alike p q xs (λ y h. same y (inr h))) ∙ sym (one-more q x xs)))

-- a hash that a rule asks for of the names of one kind
hash-asked : (facts : Facts) (kind : Bool) → are_hashed facts.names ≡ true → (e : Fact Entry) → (kind && has_other_hash facts e) ≡ false → kind ≡ true → e.what.hash ≡ name_hash_of facts.names e.what.name
unfolding has_other_hash
hash-asked facts kind hashed e right of =
    let same : Bool = e.what.hash == name_hash_of facts.names e.what.name in
    equal-from e.what.hash (name_hash_of facts.names e.what.name) (asked (are_hashed facts.names) same (never-true (are_hashed facts.names && not same) (λ t.
    clash (kind && (are_hashed facts.names && not same)) (both-true kind (are_hashed facts.names && not same) of t) right)) hashed)

-- names of which the hashes are right
abbrev IsHashKnown : Facts → List ℕ → Type 0
IsHashKnown facts name = (is_ascii_name name ≡ true) ⊎ HasNameHashes facts

hash-right : (facts : Facts) → are_hashed facts.names ≡ true → HasAsciiHashes facts → (e : Fact Entry) → In e facts.entries → IsHashKnown facts e.what.name → e.what.hash ≡ name_hash_of facts.names e.what.name
unfolding has_other_ascii_hash has_other_name_hash
hash-right facts hashed rights e h known = elim (test_or (is_ascii_name e.what.name)) as (λ _. e.what.hash ≡ name_hash_of facts.names e.what.name) [
  | inl ascii ↦ hash-asked facts (is_ascii_name e.what.name) hashed e (rights e h) ascii
  | inr other ↦ elim known as (λ _. e.what.hash ≡ name_hash_of facts.names e.what.name) [
    | inl ascii ↦ clash (is_ascii_name e.what.name) ascii other
    | inr all ↦ hash-asked facts (not (is_ascii_name e.what.name)) hashed e (all e h) (false-not (is_ascii_name e.what.name) other)
  ]
]

pub alike-by-hash : AlikeByHash
alike-by-hash facts hashed rights e h known =
    let p : Fact Entry → Bool = is_entry_at e.id e.what.name in
    let alike : (x : Fact Entry) → In x facts.entries → p x ≡ true → x.what.hash ≡ e.what.hash = λ x k t.
    let name : x.what.name ≡ e.what.name = (bytes_eq-Decides x.what.name e.what.name).0 (right-true (x.id == e.id) (bytes_eq x.what.name e.what.name) t) in
    hash-right facts hashed rights x k (subst (λ n. IsHashKnown facts n) (sym name) known) ∙ (ap (name_hash_of facts.names) name ∙ sym (hash-right facts hashed rights e h known)) in
    count-alike p (λ (x : Fact Entry). p x && (x.what.hash == e.what.hash)) facts.entries (λ x k. agree (p x) (p x && (x.what.hash == e.what.hash))
    (λ t. both-true (p x) (x.what.hash == e.what.hash) t (from-equal x.what.hash e.what.hash (alike x k t)))
    (λ t. left-true (p x) (x.what.hash == e.what.hash) t))

-- ---- notes
pub no-nameless : NoNameless
no-nameless before after gone come same c b n f h = elim (test_or (is_renamed gone come f.id)) as (λ _. is_nameless after f ≡ false) [
  | inl touched ↦ n f h touched
  | inr calm ↦
      let one = neither-from (has_fact f.id come.inodes) (list_any (is_name_of f.id) gone.entries || list_any (is_name_of f.id) come.entries) calm in
      let two = neither-from (list_any (is_name_of f.id) gone.entries) (list_any (is_name_of f.id) come.entries) one.1 in
      let asks : Bool = nat_le first_user_id f.id && not (is_directory f.what) in
      answered asks (list_any (is_name_of f.id) after.entries) (λ t.
      still-any (is_name_of f.id) c.left.entries c.made.entries (λ e lost k. clash (is_name_of f.id e) k (none-in (is_name_of f.id) gone.entries two.0 e lost))
      (asked asks (list_any (is_name_of f.id) before.entries) (b f (was-there c.left.inodes c.made.inodes f h one.0)) t))
]

pub no-odd-hashes : NoOddHashes
no-odd-hashes before after gone come same c b n = name-hashes-kept before after gone come same c b n

-- ---- ids
pub distinct-ids : DistinctIds
distinct-ids facts = once facts.inodes
  where
    once : (fs : List (Fact Inode)) → is_distinct (map (λ (f : Fact Inode). f.id) fs) ≡ true → (id : ℕ) → count_by (is_of id) fs ≤ 1
    once [] t id = let none : count_by {X = Fact Inode} (is_of id) [] ≡ 0 = refl in omega arith
    once (f ∷ fs) t id =
        let rest : count_by (is_of id) fs ≤ 1 = once fs (right-true (not (has (map (λ (f : Fact Inode). f.id) fs) f.id)) (is_distinct (map (λ (f : Fact Inode). f.id) fs)) t) id in
        elim (test_or (f.id == id)) as (λ _. count_by (is_of id) (f ∷ fs) ≤ 1) [
          | inr n ↦ let a = one-no (is_of id) f fs n in omega arith
          | inl e ↦
              let a = one-yes (is_of id) f fs e in
              elim (cases_lt 0 (count_by (is_of id) fs)) as (λ _. count_by (is_of id) (f ∷ fs) ≤ 1) [
                | inr l ↦ omega arith
                | inl some ↦
                    let g = some-counted (is_of id) fs some in
                    let same : g.0.id ≡ f.id = equal-from g.0.id id g.1.1 ∙ sym (equal-from f.id id e) in
                    let there : In f.id (map (λ (f : Fact Inode). f.id) fs) = subst (λ i. In i (map (λ (f : Fact Inode). f.id) fs)) same (in-map (λ (f : Fact Inode). f.id) fs g.0 g.1.0) in
                    clash (has (map (λ (f : Fact Inode). f.id) fs) f.id) (in-has f.id (map (λ (f : Fact Inode). f.id) fs) there) (not-true (has (map (λ (f : Fact Inode). f.id) fs) f.id) (left-true (not (has (map (λ (f : Fact Inode). f.id) fs) f.id)) (is_distinct (map (λ (f : Fact Inode). f.id) fs)) t))
              ]
        ]
