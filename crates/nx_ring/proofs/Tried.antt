-- Of candidates in the order in which they are tried, the first valid one is the newest.
use Rattle.std.proofs.Common.{◌≡◌, ℕ, zero, suc, ◌+◌, ◌≤◌, ◌<◌, Bool, true, false, cond, nat_lt, List, [], ◌∷◌, ◌++◌, take, drop, length, filter, get_or, Option, Some, None, IfSome, inl, inr, refl, ap, sym, subst, ◌∙◌, append-nil, arith}
use Rattle.std.specs.Option.{option_to_list}
use Rattle.std.specs.List.{range_with_len, filter_map, cons_option, find, All, Contains}
use Rattle.std.specs.List.Sorted.{IsPermutation, IsSortedBy}
use Rattle.std.specs.Cmp.{IsStrictWeakOrder}
use Rattle.std.proofs.lemmas.Grind.{common_steps}
use Rattle.std.proofs.lemmas.Bool.{cases_lt}
use Rattle.std.proofs.lemmas.List.{take_more, take-append-drop}
use Rattle.std.proofs.Math.Seq.{drop-cons}
use Rattle.std.proofs.lemmas.Cmp.{nat_cmp_total, then_total, on_total, back_total}
use Rattle.std.proofs.lemmas.List.Sorted.{IsPermutation-sym, All-permutation, Contains-permutation, ranks_by, sorted_far}
use Rattle.std.proofs.lemmas.List.Elements.{Contains-get_or, All-push}
use Rattle.apfs_model.specs.Lists.{greatest, greater_of}
use Rattle.apfs_model.proofs.Greatest.{All-cons}
use Rattle.nx_ring.specs.declared.areas.Areas.{Areas}
use Rattle.nx_ring.specs.declared.line.RingLine.{RingLine}
use Rattle.nx_ring.specs.Candidates.{candidate, candidate_in, all_candidates}
use Rattle.nx_ring.specs.Reading.{AreCandidates}
use Rattle.nx_ring.specs.Valid.{is_valid}
use Rattle.nx_ring.specs.Order.{is_before}
use Rattle.nx_ring.specs.Newest.{newest_line}

-- the order is one
pub line_order : IsStrictWeakOrder is_before
line_order = ranks_by (then_total (back_total (on_total (λ (l : RingLine). l.xid) nat_cmp_total)) (on_total (λ (l : RingLine). l.index) nat_cmp_total)) (λ (l : RingLine). l)

abbrev number : RingLine → ℕ
number line = line.xid

-- what isn't before another has no greater transaction, and of the same no smaller index
no_greater : (h g : RingLine) → is_before h g ≡ false → nat_lt g.xid h.xid ≡ false
no_greater h g e = Prim.grind (arith, common_steps, e)

no_sooner : (h g : RingLine) → is_before h g ≡ false → h.index < g.index → nat_lt h.xid g.xid ≡ true
no_sooner h g e low = Prim.grind (arith, common_steps, e, low)

head-all : (P : RingLine → Type 0) (x : RingLine) (xs : List RingLine) → All P (x ∷ xs) → P x
head-all P x xs all = all 0 x (Prim.omega arith)

tail-all : (P : RingLine → Type 0) (x : RingLine) (xs : List RingLine) → All P (x ∷ xs) → All P xs
tail-all P x xs all = λ k d low. all (suc k) d (Prim.omega (arith, low))

-- each index is below those after it
abbrev Rising : List RingLine → Type 0
Rising [] = Unit {0}
Rising (x ∷ xs) = All (λ y. x.index < y.index) xs × Rising xs

top_of : (g x : RingLine) (o : Option RingLine) → nat_lt g.xid x.xid ≡ false → IfSome o (λ y. nat_lt g.xid y.xid ≡ false) → nat_lt g.xid (greater_of number x o).xid ≡ false
top_of g x None h rest = h
top_of g x (Some y) h rest = elim (nat_lt x.xid y.xid) as (λ b. nat_lt g.xid (cond b y x).xid ≡ false) [ true ↦ rest | false ↦ h ]

top_step : (v : RingLine → Bool) (g x : RingLine) (xs : List RingLine) (b : Bool) → (b ≡ true → nat_lt g.xid x.xid ≡ false) → IfSome (greatest number (filter v xs)) (λ y. nat_lt g.xid y.xid ≡ false) →
    IfSome (greatest number (cond b (x ∷ filter v xs) (filter v xs))) (λ y. nat_lt g.xid y.xid ≡ false)
top_step v g x xs true h rest = top_of g x (greatest number (filter v xs)) (h refl) rest
top_step v g x xs false h rest = rest

-- no valid one has a greater transaction, so the greatest hasn't
top : (v : RingLine → Bool) (g : RingLine) (xs : List RingLine) → All (λ h. v h ≡ true → is_before h g ≡ false) xs → IfSome (greatest number (filter v xs)) (λ y. nat_lt g.xid y.xid ≡ false)
top v g [] all = tt
top v g (x ∷ xs) all = top_step v g x xs (v x) (λ e. no_greater x g (head-all (λ h. v h ≡ true → is_before h g ≡ false) x xs all e)) (top v g xs (tail-all (λ h. v h ≡ true → is_before h g ≡ false) x xs all))

kept_first : (x : RingLine) (o : Option RingLine) → IfSome o (λ y. nat_lt x.xid y.xid ≡ false) → greater_of number x o ≡ x
kept_first x None h = refl
kept_first x (Some y) h = ap (λ b. cond b y x) h

greatest_cons : (v : RingLine → Bool) (x : RingLine) (xs : List RingLine) → v x ≡ true → greatest number (filter v (x ∷ xs)) ≡ Some (greater_of number x (greatest number (filter v xs)))
greatest_cons v x xs e = ap (λ b. greatest number (cond b (x ∷ filter v xs) (filter v xs))) e

later : (v : RingLine → Bool) (g x : RingLine) (xs : List RingLine) (b : Bool) → (b ≡ true → nat_lt x.xid g.xid ≡ true) → greatest number (filter v xs) ≡ Some g → greatest number (cond b (x ∷ filter v xs) (filter v xs)) ≡ Some g
later v g x xs false h e = e
later v g x xs true h e = ap (λ o. Some (greater_of number x o)) e ∙ ap (λ b. Some (cond b g x)) (h refl)

-- the one before which no valid one stands is the greatest, and the first on a tie
greatest_is : (v : RingLine → Bool) (xs : List RingLine) (g : RingLine) (k : ℕ) → k < length xs → get_or xs k g ≡ g → v g ≡ true → All (λ h. v h ≡ true → is_before h g ≡ false) xs → Rising xs → greatest number (filter v xs) ≡ Some g
greatest_is v [] g k low e t all up = absurd (Prim.omega (arith, low))
greatest_is v (x ∷ xs) g zero low e t all up =
    let tested : v x ≡ true = ap v e ∙ t in
    let same : IfSome (greatest number (filter v xs)) (λ y. nat_lt x.xid y.xid ≡ false) =
    subst (λ (l : RingLine). IfSome (greatest number (filter v xs)) (λ y. nat_lt l.xid y.xid ≡ false)) (sym e) (top v g xs (tail-all (λ h. v h ≡ true → is_before h g ≡ false) x xs all)) in
    greatest_cons v x xs tested ∙ ap Some (kept_first x (greatest number (filter v xs)) same ∙ e)
greatest_is v (x ∷ xs) g (suc k) low e t all up =
    let inside : k < length xs = Prim.omega (arith, low) in
    let rest = greatest_is v xs g k inside e t (tail-all (λ h. v h ≡ true → is_before h g ≡ false) x xs all) up.1 in
    let after : x.index < g.index = subst (λ (l : RingLine). x.index < l.index) e (up.0 k g inside) in
    later v g x xs (v x) (λ b. no_sooner x g (head-all (λ h. v h ≡ true → is_before h g ≡ false) x xs all b) after) rest

-- ---- the candidates rise
abbrev IsAt : ℕ → Option RingLine → Type 0
IsAt b o = IfSome o (λ line. line.index ≡ b)

candidate_at : (image : List ℕ) (areas : Areas) (b : ℕ) → IsAt b (candidate image areas b)
unfolding candidate_in
candidate_at image areas b = Prim.grind (arith, common_steps)

low_cons : (b : ℕ) (o : Option RingLine) (rest : List RingLine) → IsAt b o → All (λ (y : RingLine). (b + 1) ≤ y.index) rest → All (λ (y : RingLine). b ≤ y.index) (cons_option o rest)
low_cons b None rest h all = λ k d low. Prim.omega (arith, all k d low)
low_cons b (Some y) rest h all = All-cons (λ (y : RingLine). b ≤ y.index) y rest (Prim.omega (arith, h)) (λ k d low. Prim.omega (arith, all k d low))

lows : (image : List ℕ) (areas : Areas) (b n : ℕ) → All (λ (y : RingLine). b ≤ y.index) (filter_map (candidate image areas) (range_with_len b n))
lows image areas b zero = λ k d low. absurd (Prim.omega (arith, low))
lows image areas b (suc n) = low_cons b (candidate image areas b) (filter_map (candidate image areas) (range_with_len (b + 1) n)) (candidate_at image areas b) (lows image areas (b + 1) n)

rise_cons : (b : ℕ) (o : Option RingLine) (rest : List RingLine) → IsAt b o → All (λ (y : RingLine). (b + 1) ≤ y.index) rest → Rising rest → Rising (cons_option o rest)
rise_cons b None rest h all up = up
rise_cons b (Some y) rest h all up = ((λ k d low. Prim.omega (arith, all k d low, h)), up)

rising : (image : List ℕ) (areas : Areas) (b n : ℕ) → Rising (filter_map (candidate image areas) (range_with_len b n))
rising image areas b zero = tt
rising image areas b (suc n) = rise_cons b (candidate image areas b) (filter_map (candidate image areas) (range_with_len (b + 1) n)) (candidate_at image areas b) (lows image areas (b + 1) n) (rising image areas (b + 1) n)

are_cons : (image : List ℕ) (areas : Areas) (b : ℕ) (o : Option RingLine) (rest : List RingLine) → candidate image areas b ≡ o → IsAt b o → AreCandidates image areas rest → AreCandidates image areas (cons_option o rest)
are_cons image areas b None rest e h all = all
are_cons image areas b (Some y) rest e h all = All-cons (λ (l : RingLine). candidate image areas l.index ≡ Some l) y rest (ap (candidate image areas) h ∙ e) all

are : (image : List ℕ) (areas : Areas) (b n : ℕ) → AreCandidates image areas (filter_map (candidate image areas) (range_with_len b n))
are image areas b zero = λ k d low. absurd (Prim.omega (arith, low))
are image areas b (suc n) = are_cons image areas b (candidate image areas b) (filter_map (candidate image areas) (range_with_len (b + 1) n)) refl (candidate_at image areas b) (are image areas (b + 1) n)

-- in any order each is the candidate at its index
pub tried_are : (image : List ℕ) (areas : Areas) (tried : List RingLine) → IsPermutation (all_candidates image areas) tried → AreCandidates image areas tried
unfolding all_candidates
tried_are image areas tried p = All-permutation (λ (l : RingLine). candidate image areas l.index ≡ Some l) (all_candidates image areas) tried p (are image areas 0 areas.desc_blocks)

-- ---- the first that passes
step_none : (v : RingLine → Bool) (x : RingLine) (o : Option RingLine) (b : Bool) → cond b (Some x) o ≡ None → (b ≡ false) × (o ≡ None)
step_none v x o true e = absurd (Prim.cc)
step_none v x o false e = (refl, e)

none_pass : (v : RingLine → Bool) (xs : List RingLine) → find v xs ≡ None → All (λ h. v h ≡ false) xs
none_pass v [] e = λ k d low. absurd (Prim.omega (arith, low))
none_pass v (x ∷ xs) e =
    let parts = step_none v x (find v xs) (v x) e in
    All-cons (λ h. v h ≡ false) x xs parts.0 (none_pass v xs parts.1)

none_left : (v : RingLine → Bool) (xs : List RingLine) → All (λ h. v h ≡ false) xs → filter v xs ≡ []
none_left v [] all = refl
none_left v (x ∷ xs) all = ap (λ b. cond b (x ∷ filter v xs) (filter v xs)) (head-all (λ h. v h ≡ false) x xs all) ∙ none_left v xs (tail-all (λ h. v h ≡ false) x xs all)

find_after : (v : RingLine → Bool) (xs ys : List RingLine) → find v xs ≡ None → find v (xs ++ ys) ≡ find v ys
find_after v [] ys e = refl
find_after v (x ∷ xs) ys e =
    let parts = step_none v x (find v xs) (v x) e in
    ap (λ b. cond b (Some x) (find v (xs ++ ys))) parts.0 ∙ find_after v xs ys parts.1

-- one more that doesn't pass
pub find_more : (v : RingLine → Bool) (xs : List RingLine) (i : ℕ) (d : RingLine) → i < length xs → find v (take i xs) ≡ None → v (get_or xs i d) ≡ false → find v (take (i + 1) xs) ≡ None
find_more v xs i d low e f = ap (find v) (take_more xs i d low) ∙ (find_after v (take i xs) (get_or xs i d ∷ []) e ∙ ap (λ b. cond b (Some (get_or xs i d)) None) f)

-- the first that passes
pub find_here : (v : RingLine → Bool) (xs : List RingLine) (i : ℕ) (d : RingLine) → i < length xs → find v (take i xs) ≡ None → v (get_or xs i d) ≡ true → find v xs ≡ Some (get_or xs i d)
find_here v xs i d low e f =
    ap (find v) (sym (take-append-drop i xs)) ∙ (find_after v (take i xs) (drop i xs) e ∙ (ap (find v) (drop-cons xs i d low) ∙ ap (λ b. cond b (Some (get_or xs i d)) (find v (drop (suc i) xs))) f))

-- where the first that passes stands
record IsFirst (v : RingLine → Bool) (xs : List RingLine) (g : RingLine) : Type 0 where
  place : ℕ
  inside : place < length xs
  here : (d : RingLine) → get_or xs place d ≡ g
  passes : v g ≡ true
  before : (k : ℕ) (d : RingLine) → k < place → v (get_or xs k d) ≡ false

before_more : (v : RingLine → Bool) (x : RingLine) (xs : List RingLine) (n : ℕ) → v x ≡ false → ((k : ℕ) (d : RingLine) → k < n → v (get_or xs k d) ≡ false) → (k : ℕ) (d : RingLine) → k < suc n → v (get_or (x ∷ xs) k d) ≡ false
before_more v x xs n e all zero d low = e
before_more v x xs n e all (suc k) d low = all k d (Prim.omega (arith, low))

first_step : (v : RingLine → Bool) (x g : RingLine) (xs : List RingLine) (b : Bool) → v x ≡ b → cond b (Some x) (find v xs) ≡ Some g → (find v xs ≡ Some g → IsFirst v xs g) → IsFirst v (x ∷ xs) g
first_step v x g xs true t e rest =
    let same : x ≡ g = Prim.cc in
    record { place = 0; inside = Prim.omega arith; here = λ d. same; passes = ap v (sym same) ∙ t; before = λ k d low. absurd (Prim.omega (arith, low)) }
first_step v x g xs false t e rest =
    let f = rest e in
    let low : f.place < length xs = f.inside in
    record { place = suc f.place; inside = Prim.omega (arith, low); here = f.here; passes = f.passes; before = before_more v x xs f.place t f.before }

first_is : (v : RingLine → Bool) (xs : List RingLine) (g : RingLine) → find v xs ≡ Some g → IsFirst v xs g
first_is v [] g e = absurd (Prim.cc)
first_is v (x ∷ xs) g e = first_step v x g xs (v x) refl e (first_is v xs g)

-- no one that passes stands before the first of an ordered list
none_before : (v : RingLine → Bool) (xs : List RingLine) (g : RingLine) → IsSortedBy is_before xs → IsFirst v xs g → All (λ h. v h ≡ true → is_before h g ≡ false) xs
none_before v xs g sorted f = λ k d low. elim (cases_lt k f.place) as (λ _. v (get_or xs k d) ≡ true → is_before (get_or xs k d) g ≡ false) [
  | inl sooner ↦ λ t. let no = f.before k d sooner in absurd (Prim.cc)
  | inr after ↦ λ t. subst (λ (l : RingLine). is_before (get_or xs k d) l ≡ false) (f.here d) (sorted_far is_before line_order xs sorted f.place k d after low)
]

none_newest : (image : List ℕ) (areas : Areas) (tried : List RingLine) → IsPermutation (all_candidates image areas) tried → find (is_valid image areas) tried ≡ None → newest_line image areas ≡ None
unfolding newest_line
none_newest image areas tried p e =
    let v = is_valid image areas in
    let lines = all_candidates image areas in
    ap (greatest number) (none_left v lines (All-permutation (λ h. v h ≡ false) tried lines (IsPermutation-sym lines tried p) (none_pass v tried e)))

some_newest : (image : List ℕ) (areas : Areas) (tried : List RingLine) (g : RingLine) → IsPermutation (all_candidates image areas) tried → IsSortedBy is_before tried → find (is_valid image areas) tried ≡ Some g → newest_line image areas ≡ Some g
unfolding newest_line all_candidates
some_newest image areas tried g p sorted e =
    let v = is_valid image areas in
    let lines = all_candidates image areas in
    let f = first_is v tried g e in
    let there = Contains-permutation tried lines g (IsPermutation-sym lines tried p) (subst (λ (l : RingLine). Contains tried l) (f.here g) (Contains-get_or tried f.place g f.inside)) in
    greatest_is v lines g there.0 there.1 there.2 f.passes (All-permutation (λ h. v h ≡ true → is_before h g ≡ false) tried lines (IsPermutation-sym lines tried p) (none_before v tried g sorted f)) (rising image areas 0 areas.desc_blocks)

-- the first valid one of those that are tried in their order is the newest
pub first_is_newest : (image : List ℕ) (areas : Areas) (tried : List RingLine) (o : Option RingLine) → IsPermutation (all_candidates image areas) tried → IsSortedBy is_before tried → find (is_valid image areas) tried ≡ o → newest_line image areas ≡ o
first_is_newest image areas tried None p sorted e = none_newest image areas tried p e
first_is_newest image areas tried (Some g) p sorted e = some_newest image areas tried g p sorted e

-- one more candidate, where there is one, is of an index below
pub inside_more : (n i : ℕ) (xs : List RingLine) (o : Option RingLine) → All (λ (l : RingLine). l.index < n) xs → IfSome o (λ (l : RingLine). l.index ≡ i) → i < n → All (λ (l : RingLine). l.index < n) (xs ++ option_to_list o)
inside_more n i xs None all e low = subst (All (λ (l : RingLine). l.index < n)) (sym (append-nil xs)) all
inside_more n i xs (Some y) all e low = All-push (λ (l : RingLine). l.index < n) xs y all (Prim.omega (arith, e, low))
