-- What look-ups in lists and passes over them tell.
use Rattle.std.proofs.Common.{◌≡◌, ℕ, suc, ◌+◌, ◌≤◌, Bool, true, false, cond, ◌&&◌, ◌||◌, ◌==◌, List, [], ◌∷◌, length, Option, Some, None, inl, inr, refl, ap, sym, ◌∙◌, subst, arith}
use Rattle.std.specs.Prelude.{◌*◌, ◌%◌, ◌^◌, nat_lt, count_by, filter, slice_get, option_map, bytes_eq, All}
use Rattle.std.specs.List.{find, list_any}
use Rattle.std.proofs.lemmas.Bool.Decides.{nat_tests}
use Rattle.apfs_model.specs.Lists.{In, passes}
use Rattle.apfs_model.proofs.BoolTests.{test_or, clash, never-true, equal-from, from-equal, left-true, right-true, both-true}
use Rattle.fs_record.specs.Facts.{Fact}
use Rattle.fs_name.specs.Text.{is_ascii_name}
use Rattle.fs_name.specs.Normal.{are_hashed}
use Rattle.fs_record.specs.Inodes.{Inode}
use Rattle.fs_record.specs.Entries.{Entry}
use Rattle.fs_record.specs.Attributes.{Attribute}
use Rattle.view_rules.specs.Facts.{Facts}
use Rattle.view_rules.specs.Names.{is_entry_at, is_attribute_at, HasAsciiHashes}
use Rattle.view_rules.specs.Directories.{parent_at, Leads, up}
use Rattle.rule_changes.specs.Changes.{is_of, HasDistinctInodes, IsClearWhere}
use Rattle.plain_change.specs.Lookups.{breaks_at}
use Rattle.rule_index.specs.Order.{hash_rank}
use Rattle.rule_index.proofs.Runs.{filter-no, filter-yes, first-kept}
use Rattle.rule_changes.proofs.Weaving.{one-more, one-no, none-in, some-in, found-only}
use Rattle.rule_changes.proofs.Known.{count-more, alike-by-hash}

-- what holds at each place holds of each item
pub each-in : {X : Type 0} (P : X → Type 0) (xs : List X) → All P xs → (x : X) → In x xs → P x
each-in P [] all x h = absurd h
each-in P (y ∷ ys) all x (inl e) = subst P (sym e) (all 0 y (omega arith))
each-in P (y ∷ ys) all x (inr h) = each-in P ys (λ k d low. all (suc k) d (omega arith)) x h

-- ---- the items of an id
-- those that are kept and pass
count-filtered : {X : Type 0} (p q : X → Bool) (xs : List X) → count_by p (filter q xs) ≡ count_by (λ x. q x && p x) xs
count-filtered p q [] = refl
count-filtered {X} p q (x ∷ xs) = elim (test_or (q x)) as (λ _. count_by p (filter q (x ∷ xs)) ≡ count_by (λ y. q y && p y) (x ∷ xs)) [
  | inl good ↦
      let more = ap (count_by p) (filter-yes q x xs good) in
      let a = one-more p x (filter q xs) in
      let b : count_by (λ y. q y && p y) (x ∷ xs) ≡ cond (p x) 1 0 + count_by (λ y. q y && p y) xs = one-more (λ y. q y && p y) x xs ∙ ap (λ b. cond (b && p x) 1 0 + count_by (λ y. q y && p y) xs) good in
      let rest = count-filtered p q xs in
      omega arith
  | inr bad ↦
      let more = ap (count_by p) (filter-no q x xs bad) in
      let b : count_by (λ y. q y && p y) (x ∷ xs) ≡ 0 + count_by (λ y. q y && p y) xs = one-no (λ y. q y && p y) x xs (ap (λ b. b && p x) bad) in
      let rest = count-filtered p q xs in
      omega arith
]

-- among those that are kept as many pass as among all, if at least as many are kept and pass
pub count-kept : {X : Type 0} (p q r : X → Bool) (xs : List X) → ((x : X) → r x ≡ true → (q x && p x) ≡ true) → count_by p xs ≤ count_by r xs → count_by p (filter q xs) ≡ count_by p xs
count-kept p q r xs kept most =
    let a = count-filtered p q xs in
    let b = count-more r (λ x. q x && p x) kept xs in
    let c = count-more (λ x. q x && p x) p (λ x e. right-true (q x) (p x) e) xs in
    omega arith

-- where all that pass are kept, some of those that are kept passes if some of all does
pub any-kept : {X : Type 0} (p q : X → Bool) → ((x : X) → p x ≡ true → q x ≡ true) → (xs : List X) → list_any p (filter q xs) ≡ list_any p xs
any-kept p q kept [] = refl
any-kept {X} p q kept (x ∷ xs) = elim (test_or (q x)) as (λ _. list_any p (filter q (x ∷ xs)) ≡ list_any p (x ∷ xs)) [
  | inl good ↦ ap (list_any p) (filter-yes q x xs good) ∙ ap (λ b. p x || b) (any-kept p q kept xs)
  | inr bad ↦ ap (list_any p) (filter-no q x xs bad) ∙ (any-kept p q kept xs ∙ ap (λ b. b || list_any p xs) (sym (never-true (p x) (λ t. clash (q x) (kept x t) bad))))
]

-- nothing is found, so nothing passes
none-found : {X : Type 0} (p : X → Bool) (xs : List X) → find p xs ≡ None → list_any p xs ≡ false
none-found p [] e = refl
none-found {X} p (x ∷ xs) e = go (p x) (none-found p xs) e
  where
    go : (b : Bool) → (find p xs ≡ None → list_any p xs ≡ false) → cond b (Some x) (find p xs) ≡ None → (b || list_any p xs) ≡ false
    go true more e = absurd cc
    go false more e = more e

pub none-long : {X : Type 0} (xs : List X) → length xs ≡ 0 → xs ≡ []
none-long [] e = refl
none-long (x ∷ xs) e = absurd (omega arith)

-- nothing is kept, so nothing passes
pub none-of-run : {X : Type 0} (p : X → Bool) (xs : List X) → filter p xs ≡ [] → list_any p xs ≡ false
none-of-run {X} p xs e = none-found p xs (sym (first-kept p xs) ∙ ap (λ (ys : List X). slice_get ys 0) e)

-- a number that is at most 1
pub not-twice : (n m : ℕ) → n ≤ 1 → n ≡ m → nat_lt 1 m ≡ false
not-twice n m few same = grind (arith, nat_tests)

-- ---- entries of a name
same-rank : (e x : Fact Entry) → x.id ≡ e.id → x.what.hash ≡ e.what.hash → hash_rank x ≡ hash_rank e
same-rank e x a b = λ i. (a i * 2 ^ 22 % 2 ^ 64 + b i) % 2 ^ 64

-- those of the hash of an ASCII name, among which all with the name stand
pub hash-fellows : (facts : Facts) (e : Fact Entry) → are_hashed facts.names ≡ true → is_ascii_name e.what.name ≡ true → HasAsciiHashes facts → In e facts.entries
    → count_by (is_entry_at e.id e.what.name) (filter (λ x. hash_rank x == hash_rank e) facts.entries) ≡ count_by (is_entry_at e.id e.what.name) facts.entries
hash-fellows facts e hashed ascii right listed =
    let alike = alike-by-hash facts hashed right e listed (inl ascii) in
    count-kept (is_entry_at e.id e.what.name) (λ x. hash_rank x == hash_rank e) (λ x. is_entry_at e.id e.what.name x && (x.what.hash == e.what.hash)) facts.entries
    (λ x h.
    let at = left-true (is_entry_at e.id e.what.name x) (x.what.hash == e.what.hash) h in
    let id = equal-from x.id e.id (left-true (x.id == e.id) (bytes_eq x.what.name e.what.name) at) in
    let hash = equal-from x.what.hash e.what.hash (right-true (is_entry_at e.id e.what.name x) (x.what.hash == e.what.hash) h) in
    both-true (hash_rank x == hash_rank e) (is_entry_at e.id e.what.name x) (from-equal (hash_rank x) (hash_rank e) (same-rank e x id hash)) at)
    (omega arith)

-- those of the directory
pub directory-fellows : (facts : Facts) (e : Fact Entry) → count_by (is_entry_at e.id e.what.name) (filter (λ x. x.id == e.id) facts.entries) ≡ count_by (is_entry_at e.id e.what.name) facts.entries
directory-fellows facts e =
    count-kept (is_entry_at e.id e.what.name) (λ x. x.id == e.id) (is_entry_at e.id e.what.name) facts.entries
    (λ x h. both-true (x.id == e.id) (is_entry_at e.id e.what.name x) (left-true (x.id == e.id) (bytes_eq x.what.name e.what.name) h) h)
    (omega arith)

-- the attributes of a file
pub attribute-fellows : (facts : Facts) (a : Fact Attribute) → count_by (is_attribute_at a.id a.what.name) (filter (λ x. x.id == a.id) facts.attributes) ≡ count_by (is_attribute_at a.id a.what.name) facts.attributes
attribute-fellows facts a =
    count-kept (is_attribute_at a.id a.what.name) (λ x. x.id == a.id) (is_attribute_at a.id a.what.name) facts.attributes
    (λ x h. both-true (x.id == a.id) (is_attribute_at a.id a.what.name x) (left-true (x.id == a.id) (bytes_eq x.what.name a.what.name) h) h)
    (omega arith)

-- ---- parents
pub one-step : (facts : Facts) (id : ℕ) (f : Fact Inode) → find (is_of id) facts.inodes ≡ Some f → Leads (parent_at facts) f.what.parent → Leads (parent_at facts) id
one-step facts id f found leads =
    up id f.what.parent (ap (λ (o : Option (Fact Inode)). option_map (λ (inode : Inode). inode.parent) (option_map (λ (g : Fact Inode). g.what) o)) found) leads

-- ---- ids of which something speaks
-- of an id that some item has nothing is wrong, if nothing is of the ids of the items
pub none-at : {X : Type 0} (key : X → ℕ) (bad : ℕ → Bool) (xs : List X) → list_any (λ x. bad (key x)) xs ≡ false → (id : ℕ) → list_any (λ x. key x == id) xs ≡ true → bad id ≡ false
none-at key bad xs none id some =
    let t = some-in (λ x. key x == id) xs some in
    ap bad (sym (equal-from (key t.0) id t.1.1)) ∙ none-in (λ x. bad (key x)) xs none t.0 t.1.0

-- the inode that is looked up is each one of its id
pub where-clear : (facts : Facts) → HasDistinctInodes facts → (test : ℕ → Bool) (breaks : Fact Inode → Bool) → ((id : ℕ) → test id ≡ true → breaks_at breaks facts id ≡ false) → IsClearWhere test breaks facts.inodes
where-clear facts distinct test breaks none f listed touched =
    ap (λ (o : Option (Fact Inode)). passes o breaks) (sym (found-only (is_of f.id) facts.inodes (distinct f.id) f listed (from-equal f.id f.id refl))) ∙ none f.id touched
