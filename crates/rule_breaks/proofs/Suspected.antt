-- Names that aren't there twice, since those that could be have digests of their own.
use Rattle.std.proofs.Common.{◌≡◌, ℕ, zero, suc, ◌+◌, ◌-◌, ◌*◌, ◌<◌, ◌≤◌, Bool, true, false, cond, List, [], ◌∷◌, ◌++◌, length, take, get_or, None, inl, inr, refl, ap, sym, ◌∙◌, arith}
use Rattle.std.specs.Prelude.{◌^◌, count_by, find, bytes_eq, nat_lt, not, ◌==◌, ◌&&◌}
use Rattle.std.specs.List.Sorted.{IsNonDecreasingBy}
use Rattle.std.proofs.lemmas.Bool.{cases_lt, cases_eq}
use Rattle.std.proofs.lemmas.Slice.Eq.{bytes_eq-Decides}
use Rattle.std.proofs.lemmas.List.{get_or_default}
use Rattle.std.proofs.lemmas.List.Sums.{sum_by-cons, count_by_more_yes, count_by_more_no}
use Rattle.apfs_model.specs.Lists.{In}
use Rattle.apfs_model.proofs.BoolTests.{left-true, right-true, equal-from, from-equal, below-from, never-true}
use Rattle.fs_name.specs.Text.{is_ascii_name}
use Rattle.fs_name.specs.Normal.{are_hashed}
use Rattle.fs_name.specs.Hash.{name_hash_of}
use Rattle.fs_record.specs.Entries.{Entry}
use Rattle.fs_record.specs.Facts.{Fact}
use Rattle.view_rules.specs.Facts.{Facts}
use Rattle.view_rules.specs.Names.{is_entry_at, is_entry_repeated, has_other_hash, has_other_ascii_hash, HasAsciiHashes}
use Rattle.rule_index.specs.Ids.{count_in}
use Rattle.rule_index.specs.Digests.{digest_of}
use Rattle.rule_breaks.specs.Suspects.{entry_rank, IsAlone, HaveDigest, NoneAlone, HasSuspects}
use Rattle.rule_breaks.proofs.NamesApart.{found-none}

one-more : {X : Type 0} (p : X → Bool) (x : X) (xs : List X) → count_by p (x ∷ xs) ≡ cond (p x) 1 0 + count_by p xs
one-more p x xs = sum_by-cons (λ y. cond (p y) 1 0) x xs

-- an item stands in its list
in-at : {X : Type 0} (xs : List X) (i : ℕ) (d : X) → i < length xs → In (get_or xs i d) xs
in-at [] i d low = absurd (omega arith)
in-at (x ∷ xs) zero d low = inl refl
in-at (x ∷ xs) (suc i) d low = inr (in-at xs i d (omega arith))

-- where an item is counted there is one
some-one : {X : Type 0} (p : X → Bool) (xs : List X) (d : X) → 0 < count_by p xs → (k : ℕ) × ((k < length xs) × (p (get_or xs k d) ≡ true))
some-one p [] d some = absurd (omega arith)
some-one {X} p (x ∷ xs) d some =
    let both = one-more p x xs in
    let go : (b : Bool) → p x ≡ b → 0 < cond b 1 0 + count_by p xs → (k : ℕ) × ((k < length (x ∷ xs)) × (p (get_or (x ∷ xs) k d) ≡ true)) =
    λ b. elim b as (λ b. p x ≡ b → 0 < cond b 1 0 + count_by p xs → (k : ℕ) × ((k < length (x ∷ xs)) × (p (get_or (x ∷ xs) k d) ≡ true))) [
      | true ↦ λ e h. (0, (omega arith, e))
      | false ↦ λ e h. let rest = some-one p xs d (omega arith) in (suc rest.0, (omega (arith, rest.1.0), rest.1.1))
    ] in
    go (p x) refl (omega arith)

-- where two are counted there is another one than this
other-one : {X : Type 0} (p : X → Bool) (xs : List X) (j : ℕ) (d : X) → 1 < count_by p xs → (k : ℕ) × ((k < length xs) × ((k ≡ j → ⊥) × (p (get_or xs k d) ≡ true)))
other-one p [] j d lots = absurd (omega arith)
other-one {X} p (x ∷ xs) zero d lots =
    let both = one-more p x xs in
    let most : cond (p x) 1 0 ≤ 1 = at-most (p x) in
    let rest = some-one p xs d (omega arith) in
    (suc rest.0, (omega (arith, rest.1.0), ((λ e. absurd (omega (arith, e))), rest.1.1)))
  where
    at-most : (b : Bool) → cond b 1 0 ≤ 1
    at-most true = omega arith
    at-most false = omega arith
other-one {X} p (x ∷ xs) (suc j) d lots =
    let both = one-more p x xs in
    let go : (b : Bool) → p x ≡ b → 1 < cond b 1 0 + count_by p xs → (k : ℕ) × ((k < length (x ∷ xs)) × ((k ≡ suc j → ⊥) × (p (get_or (x ∷ xs) k d) ≡ true))) =
    λ b. elim b as (λ b. p x ≡ b → 1 < cond b 1 0 + count_by p xs → (k : ℕ) × ((k < length (x ∷ xs)) × ((k ≡ suc j → ⊥) × (p (get_or (x ∷ xs) k d) ≡ true)))) [
      | true ↦ λ e h. (0, (omega arith, ((λ f. absurd (omega (arith, f))), e)))
      | false ↦ λ e h. let rest = other-one p xs j d (omega arith) in (suc rest.0, (omega (arith, rest.1.0), ((λ f. rest.1.1.0 (omega (arith, f))), rest.1.1.1)))
    ] in
    go (p x) refl (omega arith)

right-hash : (ascii hashed same : Bool) → (ascii && (hashed && not same)) ≡ false → ascii ≡ true → hashed ≡ true → same ≡ true
right-hash true true true e a h = refl
right-hash true true false e a h = absurd (let r : ⊥ = cc in r)
right-hash true false same e a h = absurd (let r : ⊥ = cc in r)
right-hash false hashed same e a h = absurd (let r : ⊥ = cc in r)

-- an ASCII name of an entry gives its rank
ranked : (facts : Facts) (id : ℕ) (name : List ℕ) (k : ℕ) (d : Fact Entry) → are_hashed facts.names ≡ true → HasAsciiHashes facts → is_ascii_name name ≡ true → k < length facts.entries → is_entry_at id name (get_or facts.entries k d) ≡ true
    → entry_rank (get_or facts.entries k d) ≡ id * 2 ^ 32 + name_hash_of facts.names name
unfolding has_other_hash has_other_ascii_hash
ranked facts id name k d hashed right ascii low at =
    let e = get_or facts.entries k d in
    let same_id : e.id ≡ id = equal-from e.id id (left-true (e.id == id) (bytes_eq e.what.name name) at) in
    let same_name : e.what.name ≡ name = (bytes_eq-Decides e.what.name name).0 (right-true (e.id == id) (bytes_eq e.what.name name) at) in
    let clear : has_other_ascii_hash facts e ≡ false = right e (in-at facts.entries k d low) in
    let plain : is_ascii_name e.what.name ≡ true = ap is_ascii_name same_name ∙ ascii in
    let hash : e.what.hash ≡ name_hash_of facts.names e.what.name = equal-from e.what.hash (name_hash_of facts.names e.what.name) (right-hash (is_ascii_name e.what.name) (are_hashed facts.names) (e.what.hash == name_hash_of facts.names e.what.name) clear plain hashed) in
    (λ i. same_id i * 2 ^ 32 + (hash ∙ ap (name_hash_of facts.names) same_name) i)

-- where a name is there twice none of its entries is alone
not-alone : (facts : Facts) (id : ℕ) (name : List ℕ) → are_hashed facts.names ≡ true → HasAsciiHashes facts → IsNonDecreasingBy entry_rank facts.entries → 1 < count_by (is_entry_at id name) facts.entries → NoneAlone facts.entries (length facts.entries) (is_entry_at id name)
not-alone facts id name hashed right up lots i d low at alone =
    let es = facts.entries in
    let e = get_or es i d in
    let same_name : e.what.name ≡ name = (bytes_eq-Decides e.what.name name).0 (right-true (e.id == id) (bytes_eq e.what.name name) at) in
    let ascii : is_ascii_name name ≡ true = ap is_ascii_name (sym same_name) ∙ alone.ascii d in
    let other = other-one (is_entry_at id name) es i d lots in
    let k = other.0 in
    let mine = ranked facts id name i d hashed right ascii low at in
    let its = ranked facts id name k d hashed right ascii other.1.0 other.1.1.1 in
    elim (cases_lt k i) as (λ _. ⊥) [
      | inl before ↦
          let a = up k (i - 1) d (omega arith) (omega arith) in
          let b = up (i - 1) i d (omega arith) low in
          alone.before d (omega arith) (omega arith)
      | inr after ↦
          let apart = other.1.1.0 in
          elim (cases_eq k i) as (λ _. ⊥) [
            | inl same ↦ apart same
            | inr more ↦
                let a = up i (i + 1) d (omega arith) (omega (arith, other.1.0)) in
                let b = up (i + 1) k d (omega arith) other.1.0 in
                alone.after d (omega (arith, other.1.0)) (omega arith)
          ]
    ]

-- where no digest of a suspect is there twice no name is
pub suspects_apart : (facts : Facts) (digests : List ℕ) → are_hashed facts.names ≡ true → HasAsciiHashes facts → IsNonDecreasingBy entry_rank facts.entries → HasSuspects facts.entries digests → ((q : ℕ) → count_in digests q ≤ 1) → find (is_entry_repeated facts) facts.entries ≡ None
unfolding is_entry_repeated
suspects_apart facts digests hashed right up suspects apart =
    found-none (is_entry_repeated facts) (λ e.
    let p = is_entry_at e.id e.what.name in
    let q = digest_of e.id e.what.name in
    never-true (nat_lt 1 (count_by p facts.entries)) (λ many.
    let lots : 1 < count_by p facts.entries = below-from 1 (count_by p facts.entries) many in
    let bound = suspects p q (one-digest e.id e.what.name) (not-alone facts e.id e.what.name hashed right up lots) in
    let once = apart q in
    omega arith)) facts.entries
  where
    one-digest : (id : ℕ) (name : List ℕ) → HaveDigest (is_entry_at id name) (digest_of id name)
    one-digest id name x at =
        let ids : x.id ≡ id = equal-from x.id id (left-true (x.id == id) (bytes_eq x.what.name name) at) in
        let names : x.what.name ≡ name = (bytes_eq-Decides x.what.name name).0 (right-true (x.id == id) (bytes_eq x.what.name name) at) in
        λ i. digest_of (ids i) (names i)

-- the next one is alone, so no test is passed by it
pub alone-next : (entries : List (Fact Entry)) (i : ℕ) (d : Fact Entry) (ids : List ℕ) (test : Fact Entry → Bool) (q : ℕ) → i < length entries → IsAlone entries i → NoneAlone entries (i + 1) test → count_by test (take i entries) ≤ count_in ids q → count_by test (take (i + 1) entries) ≤ count_in ids q
alone-next entries i d ids test q low alone none so_far =
    let fails : test (get_or entries i d) ≡ false = never-true (test (get_or entries i d)) (λ yes. none i d (omega arith) yes alone) in
    let same = count_by_more_no test entries i d low fails in
    omega arith

count-end : (ids : List ℕ) (n q : ℕ) → count_in (ids ++ n ∷ []) q ≡ count_in ids q + cond (n == q) 1 0
unfolding count_in
count-end [] n q = let a = one-more (λ m. m == q) n [] in omega arith
count-end (m ∷ ms) n q =
    let a = one-more (λ m. m == q) m (ms ++ n ∷ []) in
    let b = one-more (λ m. m == q) m ms in
    let c = count-end ms n q in
    omega arith

-- the next one has its digest among them
pub suspect-next : (entries : List (Fact Entry)) (i : ℕ) (d : Fact Entry) (ids more : List ℕ) (test : Fact Entry → Bool) (q : ℕ) → i < length entries → more ≡ ids ++ digest_of (get_or entries i d).id (get_or entries i d).what.name ∷ [] → HaveDigest test q → count_by test (take i entries) ≤ count_in ids q → count_by test (take (i + 1) entries) ≤ count_in more q
suspect-next entries i d ids more test q low is digest so_far =
    let e = get_or entries i d in
    let n = digest_of e.id e.what.name in
    let longer : count_in more q ≡ count_in ids q + cond (n == q) 1 0 = ap (λ ns. count_in ns q) is ∙ count-end ids n q in
    let go : (b : Bool) → test e ≡ b → count_by test (take (i + 1) entries) ≤ count_in more q =
    λ b. elim b as (λ b. test e ≡ b → count_by test (take (i + 1) entries) ≤ count_in more q) [
      | true ↦ λ yes.
          let one : cond {A = ℕ} (n == q) 1 0 ≡ 1 = ap (λ b. cond b 1 0) (from-equal n q (digest e yes)) in
          let counted = count_by_more_yes test entries i d low yes in
          omega arith
      | false ↦ λ no.
          let counted = count_by_more_no test entries i d low no in
          omega arith
    ] in
    go (test e) refl

-- an entry is alone whose name is ASCII, where neither neighbour is like it
pub alone-here : (entries : List (Fact Entry)) (i : ℕ) (e : Fact Entry) → i < length entries → e ≡ get_or entries i e → is_ascii_name e.what.name ≡ true
    → ((d : Fact Entry) → 0 < i → entry_rank (get_or entries (i - 1) d) ≡ entry_rank (get_or entries i d) → ⊥)
    → ((d : Fact Entry) → i + 1 < length entries → entry_rank (get_or entries (i + 1) d) ≡ entry_rank (get_or entries i d) → ⊥) → IsAlone entries i
alone-here entries i e low is ascii before after = record {
  ascii = λ d. ap (λ (x : Fact Entry). is_ascii_name x.what.name) (get_or_default entries i d e low ∙ sym is) ∙ ascii;
  before = before;
  after = after;
}

-- some entry
abbrev pub some_entry : Fact Entry
some_entry = record { id = 0; what = record { name = []; hash = 0; file_id = 0; kind = 0; sibling = None } }
