-- What two views share, leaf by leaf of the later one.
use Rattle.std.proofs.Common.{◌≡◌, ◌∙◌, ℕ, zero, suc, ◌+◌, ◌<◌, ◌≤◌, Bool, true, false, not, ◌||◌, ◌==◌, cond, List, [], ◌∷◌, ◌++◌, length, take, refl, ap, sym, arith, append_assoc, inl, inr}
use Rattle.std.specs.List.{filter, list_any}
use Rattle.std.proofs.lemmas.Bool.{false≢true, eqb-true, eq-eqb, and_parts, and_from, or_parts, or_from, or_left, or_right, or_cases, cases_Bool, false_from_ne_true}
use Rattle.std.proofs.lemmas.List.Elements.{filter-append}
use Rattle.std.proofs.lemmas.List.Folds.{list_any-append}
use Rattle.view_change.specs.declared.leaf.Leaf.{Leaf}
use Rattle.view_change.specs.Shared.{is_same_leaf, is_among, shared_leaves, new_leaves, StayInOrder, IsWithin, ComesNext}

pub same-self : (leaf : Leaf) → is_same_leaf leaf leaf ≡ true
same-self leaf = and_from (leaf.oid == leaf.oid) (leaf.block == leaf.block) (eq-eqb leaf.oid leaf.oid refl) (eq-eqb leaf.block leaf.block refl)

pub same-one : (leaf other : Leaf) → is_same_leaf leaf other ≡ true → leaf ≡ other
same-one leaf other e =
    let both = and_parts (leaf.oid == other.oid) (leaf.block == other.block) e in
    let oid : leaf.oid ≡ other.oid = eqb-true leaf.oid other.oid both.0 in
    let block : leaf.block ≡ other.block = eqb-true leaf.block other.block both.1 in
    λ i. record { oid = oid i; block = block i }

-- two tests that agree on the leaves of a list
filter-on : (p q : Leaf → Bool) (leaves : List Leaf) → ((leaf : Leaf) → is_among leaves leaf ≡ true → p leaf ≡ q leaf) → filter p leaves ≡ filter q leaves
filter-on p q [] agree = refl
filter-on p q (x ∷ xs) agree =
    ap (λ (b : Bool). cond b (x ∷ filter p xs) (filter p xs)) (agree x (or_left (is_same_leaf x x) (is_among xs x) (same-self x)))
    ∙ ap (λ (ys : List Leaf). cond (q x) (x ∷ ys) ys) (filter-on p q xs (λ leaf there. agree leaf (or_right (is_same_leaf leaf x) (is_among xs leaf) there)))

any-on : (p q : Leaf → Bool) (leaves : List Leaf) → ((leaf : Leaf) → is_among leaves leaf ≡ true → p leaf ≡ q leaf) → list_any p leaves ≡ list_any q leaves
any-on p q [] agree = refl
any-on p q (x ∷ xs) agree =
    ap (λ (b : Bool). b || list_any p xs) (agree x (or_left (is_same_leaf x x) (is_among xs x) (same-self x)))
    ∙ ap (λ (b : Bool). q x || b) (any-on p q xs (λ leaf there. agree leaf (or_right (is_same_leaf leaf x) (is_among xs leaf) there)))

-- a leaf that passes a test is among those that do
kept-if : (b : Bool) (x leaf : Leaf) (p : Leaf → Bool) (xs : List Leaf) → p x ≡ b → (is_same_leaf leaf x || is_among xs leaf) ≡ true → p leaf ≡ true → (is_among xs leaf ≡ true → is_among (filter p xs) leaf ≡ true) → is_among (cond b (x ∷ filter p xs) (filter p xs)) leaf ≡ true
kept-if true x leaf p xs here there passes more =
    elim (or_cases (is_same_leaf leaf x) (is_among xs leaf) there) [
      | inl one ↦ or_left (is_same_leaf leaf x) (is_among (filter p xs) leaf) one
      | inr later ↦ or_right (is_same_leaf leaf x) (is_among (filter p xs) leaf) (more later)
    ]
kept-if false x leaf p xs here there passes more =
    elim (or_cases (is_same_leaf leaf x) (is_among xs leaf) there) [
      | inl one ↦ absurd (false≢true (sym here ∙ (ap p (sym (same-one leaf x one)) ∙ passes)))
      | inr later ↦ more later
    ]

kept : (p : Leaf → Bool) (leaves : List Leaf) (leaf : Leaf) → is_among leaves leaf ≡ true → p leaf ≡ true → is_among (filter p leaves) leaf ≡ true
kept p [] leaf there passes = absurd (false≢true there)
kept p (x ∷ xs) leaf there passes = kept-if (p x) x leaf p xs refl there passes (λ later. kept p xs leaf later passes)

-- and one among those that do is in the list, and does
kept-from-if : (b : Bool) (x leaf : Leaf) (p : Leaf → Bool) (xs : List Leaf) → p x ≡ b → is_among (cond b (x ∷ filter p xs) (filter p xs)) leaf ≡ true → (is_among (filter p xs) leaf ≡ true → (is_among xs leaf ≡ true) × (p leaf ≡ true)) → ((is_same_leaf leaf x || is_among xs leaf) ≡ true) × (p leaf ≡ true)
kept-from-if true x leaf p xs here there more =
    elim (or_cases (is_same_leaf leaf x) (is_among (filter p xs) leaf) there) [
      | inl one ↦ (or_left (is_same_leaf leaf x) (is_among xs leaf) one, ap p (same-one leaf x one) ∙ here)
      | inr later ↦ let both = more later in (or_right (is_same_leaf leaf x) (is_among xs leaf) both.0, both.1)
    ]
kept-from-if false x leaf p xs here there more = let both = more there in (or_right (is_same_leaf leaf x) (is_among xs leaf) both.0, both.1)

kept-from : (p : Leaf → Bool) (leaves : List Leaf) (leaf : Leaf) → is_among (filter p leaves) leaf ≡ true → (is_among leaves leaf ≡ true) × (p leaf ≡ true)
kept-from p [] leaf there = absurd (false≢true there)
kept-from p (x ∷ xs) leaf there = kept-from-if (p x) x leaf p xs refl there (kept-from p xs leaf)

-- the leaves of a split list
among-split : (leaf : Leaf) (leaves passed rest : List Leaf) (other : Leaf) → leaves ≡ passed ++ leaf ∷ rest → is_among leaves other ≡ (is_among passed other || (is_same_leaf other leaf || is_among rest other))
among-split leaf leaves passed rest other split = ap (λ (ls : List Leaf). is_among ls other) split ∙ list_any-append (is_same_leaf other) passed (leaf ∷ rest)

-- nothing stands before the first of a list
no-front : (leaf : Leaf) (front xs ys : List Leaf) → front ++ leaf ∷ xs ≡ leaf ∷ ys → is_among front leaf ≡ false → front ≡ []
no-front leaf [] xs ys e none = refl
no-front leaf (y ∷ front) xs ys e none =
    let same : leaf ≡ y = cc in
    absurd (false≢true (sym (or_parts (is_same_leaf leaf y) (is_among front leaf) none).0 ∙ (ap (is_same_leaf leaf) (sym same) ∙ same-self leaf)))

-- where the next leaf of a view is one of the view before: those before it there are gone, and what both have further on is in one order
record Follows (leaf : Leaf) (after before passed rest : List Leaf) : Type 0 where
  none : filter (is_among (leaf ∷ after)) passed ≡ []
  tails : filter (is_among before) after ≡ filter (is_among (leaf ∷ after)) rest

follows-next : (leaf : Leaf) (after before passed rest : List Leaf) → before ≡ passed ++ leaf ∷ rest → is_among passed leaf ≡ false → shared_leaves before (leaf ∷ after) ≡ shared_leaves (leaf ∷ after) before → Follows leaf after before passed rest
follows-next leaf after before passed rest split others order =
    let test : Leaf → Bool = is_among (leaf ∷ after) in
    let front : List Leaf = filter test passed in
    let here : is_among before leaf ≡ true =
    among-split leaf before passed rest leaf split ∙ or_right (is_among passed leaf) (is_same_leaf leaf leaf || is_among rest leaf) (or_left (is_same_leaf leaf leaf) (is_among rest leaf) (same-self leaf)) in
    let own : test leaf ≡ true = or_left (is_same_leaf leaf leaf) (is_among after leaf) (same-self leaf) in
    let left : shared_leaves before (leaf ∷ after) ≡ leaf ∷ filter (is_among before) after = ap (λ (b : Bool). cond b (leaf ∷ filter (is_among before) after) (filter (is_among before) after)) here in
    let right : filter test before ≡ front ++ leaf ∷ filter test rest =
    ap (filter test) split ∙ (filter-append test passed (leaf ∷ rest) ∙ ap (λ (b : Bool). front ++ cond b (leaf ∷ filter test rest) (filter test rest)) own) in
    let both : front ++ leaf ∷ filter test rest ≡ leaf ∷ filter (is_among before) after = sym right ∙ (sym order ∙ left) in
    let free : is_among front leaf ≡ false = false_from_ne_true (is_among front leaf) (λ there. false≢true (sym others ∙ (kept-from test passed leaf there).0)) in
    let none : front ≡ [] = no-front leaf front (filter test rest) (filter (is_among before) after) both free in
    let first : leaf ∷ filter test rest ≡ leaf ∷ filter (is_among before) after = ap (λ (ls : List Leaf). ls ++ leaf ∷ filter test rest) (sym none) ∙ both in
    record { none = none; tails = cc }

-- a later leaf is one of the view before exactly if it is one of those further on
later-same : (leaf : Leaf) (after before passed rest : List Leaf) → before ≡ passed ++ leaf ∷ rest → Follows leaf after before passed rest → (other : Leaf) → is_among after other ≡ true → is_among before other ≡ is_among rest other
later-same leaf after before passed rest split follows other there =
    let test : Leaf → Bool = is_among (leaf ∷ after) in
    let passes : test other ≡ true = or_right (is_same_leaf other leaf) (is_among after other) there in
    let apart : is_among passed other ≡ false =
    false_from_ne_true (is_among passed other) (λ early. false≢true (ap (λ (ls : List Leaf). is_among ls other) (sym follows.none) ∙ kept test passed other early passes)) in
    let all : is_among before other ≡ (is_same_leaf other leaf || is_among rest other) = among-split leaf before passed rest other split ∙ ap (λ (b : Bool). b || (is_same_leaf other leaf || is_among rest other)) apart in
    elim (cases_Bool (is_same_leaf other leaf)) [
      | inl one ↦
          let here : is_among before other ≡ true = all ∙ or_left (is_same_leaf other leaf) (is_among rest other) one in
          let further : is_among rest other ≡ true = (kept-from test rest other (ap (λ (ls : List Leaf). is_among ls other) (sym follows.tails) ∙ kept (is_among before) after other there here)).0 in
          here ∙ sym further
      | inr apart_one ↦ all ∙ ap (λ (b : Bool). b || is_among rest other) apart_one
    ]

-- and one of those further on is a later one exactly if it is one of the view
further-same : (leaf : Leaf) (after before passed rest : List Leaf) → Follows leaf after before passed rest → (other : Leaf) → is_among rest other ≡ true → is_among (leaf ∷ after) other ≡ is_among after other
further-same leaf after before passed rest follows other there =
    let test : Leaf → Bool = is_among (leaf ∷ after) in
    elim (cases_Bool (is_same_leaf other leaf)) [
      | inl one ↦
          let own : test other ≡ true = or_left (is_same_leaf other leaf) (is_among after other) one in
          let later : is_among after other ≡ true = (kept-from (is_among before) after other (ap (λ (ls : List Leaf). is_among ls other) follows.tails ∙ kept test rest other there own)).0 in
          own ∙ sym later
      | inr apart ↦ ap (λ (b : Bool). b || is_among after other) apart
    ]

among-part : (first gone : List Leaf) (stays : Leaf) (rest : List Leaf) (leaves : List Leaf) → leaves ≡ first ++ (gone ++ stays ∷ rest) → (other : Leaf) → is_among gone other ≡ true → is_among leaves other ≡ true
among-part first gone stays rest leaves split other there =
    ap (λ (ls : List Leaf). is_among ls other) split
    ∙ (list_any-append (is_same_leaf other) first (gone ++ stays ∷ rest)
    ∙ or_right (is_among first other) (is_among (gone ++ stays ∷ rest) other) (list_any-append (is_same_leaf other) gone (stays ∷ rest) ∙ or_left (is_among gone other) (is_among (stays ∷ rest) other) there))

-- the next leaf stays
pub record Stays (leaf : Leaf) (after before rest : List Leaf) : Type 0 where
  pub further : StayInOrder rest after
  pub fresh : new_leaves before (leaf ∷ after) ≡ new_leaves rest after
  pub shared : shared_leaves before (leaf ∷ after) ≡ leaf ∷ shared_leaves rest after

pub stays-next : (leaf : Leaf) (after before rest : List Leaf) → ComesNext leaf before rest → StayInOrder before (leaf ∷ after) → Stays leaf after before rest
stays-next leaf after before rest next is =
    let passed = next.passed in
    let follows = follows-next leaf after before passed rest next.split next.others is.order in
    let same = later-same leaf after before passed rest next.split follows in
    let further = further-same leaf after before passed rest follows in
    let here : is_among before leaf ≡ true =
    among-split leaf before passed rest leaf next.split ∙ or_right (is_among passed leaf) (is_same_leaf leaf leaf || is_among rest leaf) (or_left (is_same_leaf leaf leaf) (is_among rest leaf) (same-self leaf)) in
    let ours : filter (is_among before) after ≡ filter (is_among rest) after = filter-on (is_among before) (is_among rest) after same in
    record {
      further = record {
        order = sym ours ∙ (follows.tails ∙ filter-on (is_among (leaf ∷ after)) (is_among after) rest further);
        near = λ first gone stays others split none there.
            is.near (passed ++ leaf ∷ first) gone stays others
            (next.split ∙ (ap (λ (ls : List Leaf). passed ++ leaf ∷ ls) split ∙ sym (append_assoc passed (leaf ∷ first) (gone ++ stays ∷ others))))
            (any-on (is_among (leaf ∷ after)) (is_among after) gone (λ other inside. further other (among-part first gone stays others rest split other inside)) ∙ none)
            (or_right (is_same_leaf stays leaf) (is_among after stays) there);
      };
      fresh = ap (λ (b : Bool). cond (not b) (leaf ∷ new_leaves before after) (new_leaves before after)) here
          ∙ filter-on (λ (other : Leaf). not (is_among before other)) (λ (other : Leaf). not (is_among rest other)) after (λ other there. ap not (same other there));
      shared = ap (λ (b : Bool). cond b (leaf ∷ filter (is_among before) after) (filter (is_among before) after)) here ∙ ap (λ (ls : List Leaf). leaf ∷ ls) ours;
    }

-- the first place of a leaf that is among some
first-cons : (b : Bool) (x leaf : Leaf) (xs : List Leaf) → is_same_leaf leaf x ≡ b → (is_among xs leaf ≡ true → (rest : List Leaf) × ComesNext leaf xs rest) → (b || is_among xs leaf) ≡ true → (rest : List Leaf) × ComesNext leaf (x ∷ xs) rest
first-cons true x leaf xs here more there = (xs, record { passed = []; split = ap (λ (l : Leaf). l ∷ xs) (sym (same-one leaf x here)); others = refl })
first-cons false x leaf xs here more there =
    let later = more there in
    (later.0, record { passed = x ∷ later.1.passed; split = ap (λ (ls : List Leaf). x ∷ ls) later.1.split; others = or_from (is_same_leaf leaf x) (is_among later.1.passed leaf) here later.1.others })

first-of : (leaf : Leaf) (leaves : List Leaf) → is_among leaves leaf ≡ true → (rest : List Leaf) × ComesNext leaf leaves rest
first-of leaf [] there = absurd (false≢true there)
first-of leaf (x ∷ xs) there = first-cons (is_same_leaf leaf x) x leaf xs refl (first-of leaf xs) there

-- a leaf that comes after fewer than so many is among the first ones
among-first : (n : ℕ) (leaf : Leaf) (passed rest : List Leaf) → length passed < n → is_among (take n (passed ++ leaf ∷ rest)) leaf ≡ true
among-first zero leaf passed rest few = absurd (omega arith)
among-first (suc n) leaf [] rest few = or_left (is_same_leaf leaf leaf) (is_among (take n rest) leaf) (same-self leaf)
among-first (suc n) leaf (x ∷ passed) rest few = or_right (is_same_leaf leaf x) (is_among (take n (passed ++ leaf ∷ rest)) leaf) (among-first n leaf passed rest (omega arith))

any-none : (p : Leaf → Bool) (leaves : List Leaf) → filter p leaves ≡ [] → list_any p leaves ≡ false
any-none p [] e = refl
any-none p (x ∷ xs) e = elim (cases_Bool (p x)) [
  | inl passes ↦ absurd (let some : x ∷ filter p xs ≡ [] = ap (λ (b : Bool). cond b (x ∷ filter p xs) (filter p xs)) (sym passes) ∙ e in cc)
  | inr fails ↦ or_from (p x) (list_any p xs) fails (any-none p xs (ap (λ (b : Bool). cond b (x ∷ filter p xs) (filter p xs)) (sym fails) ∙ e))
]

-- the next leaf is new
pub record IsNew (leaf : Leaf) (after before : List Leaf) : Type 0 where
  pub further : StayInOrder before after
  pub fresh : new_leaves before (leaf ∷ after) ≡ leaf ∷ new_leaves before after
  pub shared : shared_leaves before (leaf ∷ after) ≡ shared_leaves before after

pub new-next : (leaf : Leaf) (after before : List Leaf) → is_among (take 256 before) leaf ≡ false → StayInOrder before (leaf ∷ after) → IsNew leaf after before
new-next leaf after before far is =
    let free : is_among before leaf ≡ false = false_from_ne_true (is_among before leaf) (λ there.
    let found = first-of leaf before there in
    let next = found.1 in
    let follows = follows-next leaf after before next.passed found.0 next.split next.others is.order in
    let few : length next.passed < 256 =
    is.near [] next.passed leaf found.0 next.split (any-none (is_among (leaf ∷ after)) next.passed follows.none) (or_left (is_same_leaf leaf leaf) (is_among after leaf) (same-self leaf)) in
    false≢true (sym far ∙ (ap (λ (ls : List Leaf). is_among (take 256 ls) leaf) next.split ∙ among-first 256 leaf next.passed found.0 few))) in
    let apart : (other : Leaf) → is_among before other ≡ true → is_same_leaf other leaf ≡ false =
    λ other there. false_from_ne_true (is_same_leaf other leaf) (λ one. false≢true (sym free ∙ (ap (is_among before) (sym (same-one other leaf one)) ∙ there))) in
    let same : (other : Leaf) → is_among before other ≡ true → is_among (leaf ∷ after) other ≡ is_among after other = λ other there. ap (λ (b : Bool). b || is_among after other) (apart other there) in
    let shared : shared_leaves before (leaf ∷ after) ≡ shared_leaves before after = ap (λ (b : Bool). cond b (leaf ∷ filter (is_among before) after) (filter (is_among before) after)) free in
    record {
      further = record {
        order = sym shared ∙ (is.order ∙ filter-on (is_among (leaf ∷ after)) (is_among after) before same);
        near = λ first gone stays rest split none there.
            is.near first gone stays rest split
            (any-on (is_among (leaf ∷ after)) (is_among after) gone (λ other inside. same other (among-part first gone stays rest before split other inside)) ∙ none)
            (or_right (is_same_leaf stays leaf) (is_among after stays) there);
      };
      fresh = ap (λ (b : Bool). cond (not b) (leaf ∷ new_leaves before after) (new_leaves before after)) free;
      shared = shared;
    }

-- a leaf that stays needs no read
pub stays-within : (leaf : Leaf) (left before rest : List Leaf) (reads limit : ℕ) → ComesNext leaf before rest → StayInOrder before (leaf ∷ left) → IsWithin before (leaf ∷ left) reads limit → StayInOrder rest left × IsWithin rest left reads limit
stays-within leaf left before rest reads limit next is within =
    let stays = stays-next leaf left before rest next is in
    (stays.further, let same = ap (λ (ls : List Leaf). length ls) stays.fresh in omega (arith, within, same))

-- another one is new, and needs one
pub new-within : (leaf : Leaf) (left before : List Leaf) (reads more limit : ℕ) → is_among (take 256 before) leaf ≡ false → more ≤ reads + 1 → StayInOrder before (leaf ∷ left) → IsWithin before (leaf ∷ left) reads limit → StayInOrder before left × IsWithin before left more limit
new-within leaf left before reads more limit far few is within =
    let new = new-next leaf left before far is in
    (new.further, let same = ap (λ (ls : List Leaf). length ls) new.fresh in omega (arith, within, few, same))
