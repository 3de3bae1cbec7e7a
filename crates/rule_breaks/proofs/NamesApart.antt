-- Names that aren't there twice, since their digests aren't.
use Rattle.std.proofs.Common.{◌≡◌, ℕ, ◌≤◌, Bool, true, false, cond, List, [], ◌∷◌, Some, None, refl, ap, ◌∙◌, arith}
use Rattle.std.specs.Prelude.{count_by, find, bytes_eq, nat_lt, ◌==◌, ◌&&◌}
use Rattle.std.proofs.lemmas.Bool.Decides.{nat_tests}
use Rattle.std.proofs.lemmas.Slice.Eq.{bytes_eq-Decides}
use Rattle.std.proofs.lemmas.List.Sums.{sum_by-le-sum_by}
use Rattle.apfs_model.proofs.BoolTests.{left-true, right-true, equal-from, from-equal}
use Rattle.fs_record.specs.Entries.{Entry}
use Rattle.fs_record.specs.Attributes.{Attribute}
use Rattle.fs_record.specs.Facts.{Fact}
use Rattle.view_rules.specs.Facts.{Facts}
use Rattle.view_rules.specs.Names.{is_entry_at, is_attribute_at, is_entry_repeated, is_attribute_repeated}
use Rattle.rule_index.specs.Ids.{has_id, count_in, CountsIds}
use Rattle.rule_index.specs.Digests.{digest_of, entry_digest, attribute_digest}

-- the same name in the same place has the same digest
same-digest : (id other : ℕ) (name text : List ℕ) → ((other == id) && bytes_eq text name) ≡ true → (digest_of other text == digest_of id name) ≡ true
same-digest id other name text e =
    let ids : other ≡ id = equal-from other id (left-true (other == id) (bytes_eq text name) e) in
    let names : text ≡ name = (bytes_eq-Decides text name).0 (right-true (other == id) (bytes_eq text name) e) in
    from-equal (digest_of other text) (digest_of id name) (λ i. digest_of (ids i) (names i))

implied : (a b : Bool) → (a ≡ true → b ≡ true) → cond a 1 0 ≤ cond b 1 0
implied true b h = let e = h refl in grind (arith, nat_tests)
implied false b h = omega arith

-- nothing is found where none passes
pub found-none : {X : Type 0} (p : X → Bool) → ((x : X) → p x ≡ false) → (xs : List X) → find p xs ≡ None
found-none p fails [] = refl
found-none p fails (x ∷ xs) = ap (λ b. cond b (Some x) (find p xs)) (fails x) ∙ found-none p fails xs

few : (n m : ℕ) → n ≤ m → m ≤ 1 → nat_lt 1 n ≡ false
few n m le low = grind (arith, nat_tests)

-- where no digest of an entry's name is there twice no name is
pub entries_apart : (facts : Facts) (digests : List ℕ) → CountsIds entry_digest facts.entries digests → ((q : ℕ) → count_in digests q ≤ 1) → find (is_entry_repeated facts) facts.entries ≡ None
unfolding is_entry_repeated
entries_apart facts digests counts apart =
    found-none (is_entry_repeated facts) (λ e.
    let q = digest_of e.id e.what.name in
    let less : count_by (is_entry_at e.id e.what.name) facts.entries ≤ count_by (has_id entry_digest q) facts.entries =
    sum_by-le-sum_by (λ (f : Fact Entry). cond (is_entry_at e.id e.what.name f) 1 0) (λ (f : Fact Entry). cond (has_id entry_digest q f) 1 0) facts.entries
    (λ f. implied (is_entry_at e.id e.what.name f) (has_id entry_digest q f) (same-digest e.id f.id e.what.name f.what.name)) in
    let same = counts q in
    let once = apart q in
    few (count_by (is_entry_at e.id e.what.name) facts.entries) (count_by (has_id entry_digest q) facts.entries) less (omega arith)) facts.entries

-- where no digest of an attribute's name is there twice no name is
pub attributes_apart : (facts : Facts) (digests : List ℕ) → CountsIds attribute_digest facts.attributes digests → ((q : ℕ) → count_in digests q ≤ 1) → find (is_attribute_repeated facts) facts.attributes ≡ None
unfolding is_attribute_repeated
attributes_apart facts digests counts apart =
    found-none (is_attribute_repeated facts) (λ a.
    let q = digest_of a.id a.what.name in
    let less : count_by (is_attribute_at a.id a.what.name) facts.attributes ≤ count_by (has_id attribute_digest q) facts.attributes =
    sum_by-le-sum_by (λ (f : Fact Attribute). cond (is_attribute_at a.id a.what.name f) 1 0) (λ (f : Fact Attribute). cond (has_id attribute_digest q f) 1 0) facts.attributes
    (λ f. implied (is_attribute_at a.id a.what.name f) (has_id attribute_digest q f) (same-digest a.id f.id a.what.name f.what.name)) in
    let same = counts q in
    let once = apart q in
    few (count_by (is_attribute_at a.id a.what.name) facts.attributes) (count_by (has_id attribute_digest q) facts.attributes) less (omega arith)) facts.attributes
