-- Facts by ids that don't fall, and searches in them.
use Rattle.std.proofs.Common.{◌≡◌, ◌==◌, ℕ, zero, suc, ◌+◌, ◌-◌, ◌≤◌, ◌<◌, Bool, true, false, cond, List, [], ◌∷◌, ◌++◌, length, Some, None, inl, inr, refl, ap, sym, ◌∙◌, subst, arith, take, drop, get_or, append-nil}
use Rattle.std.specs.Prelude.{filter, option_map, slice_get, nat_lt}
use Rattle.std.specs.List.{position_or_len}
use Rattle.std.specs.List.Sorted.{IsPartitionPoint, IsPartitionedBy}
use Rattle.std.proofs.lemmas.Bool.{cases_lt, ltb-true, ltb-false, lt-ltb}
use Rattle.std.proofs.lemmas.Bool.Decides.{Decides-eqb}
use Rattle.std.proofs.lemmas.List.{take-append-drop, length-take, length-drop, get_or-take, get_or-drop}
use Rattle.std.proofs.lemmas.List.Elements.{filter-append}
use Rattle.std.proofs.lemmas.List.Sums.{position_or_len_is}
use Rattle.std.proofs.lemmas.List.Folds.{find_at}
use Rattle.apfs_model.specs.Lists.{In}
use Rattle.apfs_model.proofs.BoolTests.{never-true}
use Rattle.id_lists.proofs.InOrder.{point-here}
use Rattle.fs_record.specs.Facts.{Fact, first_for}
use Rattle.omap_map.proofs.Lists.{all-in, filter-none}
use Rattle.path_search.specs.Parts.{Rises, IsFirst}

at-in : {X : Type 0} (xs : List X) (k : ℕ) (d : X) → k < length xs → In (get_or xs k d) xs
at-in [] k d low = absurd (omega arith)
at-in (x ∷ xs) zero d low = inl refl
at-in (x ∷ xs) (suc k) d low = inr (at-in xs k d (omega arith))

-- by places
pub rises_at : {X : Type 0} (fs : List (Fact X)) (i j : ℕ) (d : Fact X) → Rises fs → i ≤ j → j < length fs → (get_or fs i d).id ≤ (get_or fs j d).id
rises_at [] i j d rise le low = absurd (omega arith)
rises_at (f ∷ fs) zero zero d rise le low = omega arith
rises_at (f ∷ fs) zero (suc j) d rise le low = rise.0 (get_or fs j d) (at-in fs j d (omega arith))
rises_at (f ∷ fs) (suc i) zero d rise le low = absurd (omega arith)
rises_at (f ∷ fs) (suc i) (suc j) d rise le low = rises_at fs i j d rise.1 (omega arith) (omega arith)

-- those below an id stand first
pub below_partitioned : {X : Type 0} (id : ℕ) (fs : List (Fact X)) → Rises fs → IsPartitionedBy (λ (f : Fact X). nat_lt f.id id) fs
below_partitioned id fs rise i j d low inside by =
    let a = rises_at fs i j d rise low inside in
    let b = ltb-true (get_or fs j d).id id by in
    lt-ltb (get_or fs i d).id id (omega arith)

-- a place before which a fact is of an id below one, and at which one isn't
pub point_here : {X : Type 0} (id n : ℕ) (fs : List (Fact X)) → Rises fs → n ≤ length fs → ((d : Fact X) → n < length fs → id ≤ (get_or fs n d).id) → ((d : Fact X) → 0 < n → (get_or fs (n - 1) d).id < id) →
    IsPartitionPoint (λ (f : Fact X). nat_lt f.id id ≡ true) (λ (f : Fact X). nat_lt f.id id ≡ false) fs n
point_here id n fs rise inside here before = point-here (λ f. f.id) fs id n (λ i j d le low. rises_at fs i j d rise le low) inside here before

-- where none is below an id, those of the id stand first
pub same_partitioned : {X : Type 0} (id : ℕ) (fs : List (Fact X)) → IsFirst id fs → IsPartitionedBy (λ (f : Fact X). f.id == id) fs
same_partitioned id fs first i j d low inside by =
    let a = rises_at fs i j d first.0 low inside in
    let b : (get_or fs j d).id ≡ id = (Decides-eqb (get_or fs j d).id id).0 by in
    let c : id ≤ (get_or fs i d).id = first.1 (get_or fs i d) (at-in fs i d (omega arith)) in
    (Decides-eqb (get_or fs i d).id id).1 (omega arith)

drop-rises : {X : Type 0} (n : ℕ) (fs : List (Fact X)) → Rises fs → Rises (drop n fs)
drop-rises zero fs rise = rise
drop-rises (suc n) [] rise = rise
drop-rises (suc n) (f ∷ fs) rise = drop-rises n fs rise.1

-- what is left after those below an id
pub rest_first : {X : Type 0} (id n : ℕ) (fs : List (Fact X)) → Rises fs → n ≤ length fs → IsPartitionPoint (λ (f : Fact X). nat_lt f.id id ≡ true) (λ (f : Fact X). nat_lt f.id id ≡ false) fs n → IsFirst id (drop n fs)
rest_first {X} id n fs rise inside point = (
  drop-rises n fs rise,
  all-in (λ (f : Fact X). id ≤ f.id) (drop n fs) (λ k d low.
      let same : get_or (drop n fs) k d ≡ get_or fs (n + k) d = get_or-drop n fs k d in
      let a = ltb-false (get_or fs (n + k) d).id id (point.1 (n + k) d (omega arith) (omega (arith, length-drop n fs))) in
      subst (λ (f : Fact X). id ≤ f.id) (sym same) a),
)

all-kept : {X : Type 0} (p : X → Bool) (xs : List X) → ((x : X) → In x xs → p x ≡ true) → filter p xs ≡ xs
all-kept p [] all = refl
all-kept p (x ∷ xs) all = ap (λ b. cond b (x ∷ filter p xs) (filter p xs)) (all x (inl refl)) ∙ ap (λ l. x ∷ l) (all-kept p xs (λ y h. all y (inr h)))

first-same : {X : Type 0} (id m : ℕ) (fs : List (Fact X)) → m ≤ length fs → IsPartitionPoint (λ (f : Fact X). (f.id == id) ≡ true) (λ (f : Fact X). (f.id == id) ≡ false) fs m → filter (λ (f : Fact X). f.id == id) fs ≡ take m fs
first-same {X} id m fs inside point =
    let p : Fact X → Bool = λ (f : Fact X). f.id == id in
    let front : filter p (take m fs) ≡ take m fs = all-kept p (take m fs) (all-in (λ (f : Fact X). p f ≡ true) (take m fs) (λ k d low.
    let inner : k < m = omega (arith, length-take m fs) in
    subst (λ (f : Fact X). p f ≡ true) (sym (get_or-take m fs k d inner)) (point.0 k d (omega arith) inner))) in
    let back : filter p (drop m fs) ≡ [] = filter-none p (drop m fs) (all-in (λ (f : Fact X). p f ≡ false) (drop m fs) (λ k d low.
    subst (λ (f : Fact X). p f ≡ false) (sym (get_or-drop m fs k d)) (point.1 (m + k) d (omega arith) (omega (arith, length-drop m fs))))) in
    ap (filter p) (sym (take-append-drop m fs)) ∙ (filter-append p (take m fs) (drop m fs) ∙ (ap (λ l. l ++ filter p (drop m fs)) front ∙ (ap (λ l. take m fs ++ l) back ∙ append-nil (take m fs))))

-- those of an id are a part of the list
pub run_is_part : {X : Type 0} (id n m : ℕ) (fs rest : List (Fact X)) → rest ≡ drop n fs → n ≤ length fs → m ≤ length rest →
    IsPartitionPoint (λ (f : Fact X). nat_lt f.id id ≡ true) (λ (f : Fact X). nat_lt f.id id ≡ false) fs n →
    IsPartitionPoint (λ (f : Fact X). (f.id == id) ≡ true) (λ (f : Fact X). (f.id == id) ≡ false) rest m →
    take m rest ≡ filter (λ (f : Fact X). f.id == id) fs
run_is_part {X} id n m fs rest same inside short point other =
    let p : Fact X → Bool = λ (f : Fact X). f.id == id in
    let front : filter p (take n fs) ≡ [] = filter-none p (take n fs) (all-in (λ (f : Fact X). p f ≡ false) (take n fs) (λ k d low.
    let inner : k < n = omega (arith, length-take n fs) in
    let below = ltb-true (get_or fs k d).id id (point.0 k d (omega arith) inner) in
    subst (λ (f : Fact X). p f ≡ false) (sym (get_or-take n fs k d inner)) (never-true (p (get_or fs k d)) (λ h. let e : (get_or fs k d).id ≡ id = (Decides-eqb (get_or fs k d).id id).0 h in omega arith)))) in
    sym (first-same id m rest short other) ∙ (ap (filter p) same ∙ sym (ap (filter p) (sym (take-append-drop n fs)) ∙ (filter-append p (take n fs) (drop n fs) ∙ ap (λ l. l ++ filter p (drop n fs)) front)))

-- the first of an id stands after those below it, where it is there
first-index : {X : Type 0} (id n : ℕ) (fs : List (Fact X)) (d : Fact X) → n < length fs → IsPartitionPoint (λ (f : Fact X). nat_lt f.id id ≡ true) (λ (f : Fact X). nat_lt f.id id ≡ false) fs n → (get_or fs n d).id ≡ id → position_or_len (λ (f : Fact X). f.id == id) fs ≡ n
first-index {X} id n fs d low point same =
    position_or_len_is (λ (f : Fact X). f.id == id) fs n d (omega arith)
    (λ k less. never-true ((get_or fs k d).id == id) (λ h. let e : (get_or fs k d).id ≡ id = (Decides-eqb (get_or fs k d).id id).0 h in let b = ltb-true (get_or fs k d).id id (point.0 k d (omega arith) less) in omega arith))
    (λ _. (Decides-eqb (get_or fs n d).id id).1 same)

no-index : {X : Type 0} (id n : ℕ) (fs : List (Fact X)) (d : Fact X) → n ≤ length fs → Rises fs → IsPartitionPoint (λ (f : Fact X). nat_lt f.id id ≡ true) (λ (f : Fact X). nat_lt f.id id ≡ false) fs n → (n < length fs → (get_or fs n d).id ≡ id → ⊥) → position_or_len (λ (f : Fact X). f.id == id) fs ≡ length fs
no-index {X} id n fs d low rise point other =
    let differs : (k : ℕ) → k < length fs → (get_or fs k d).id ≡ id → ⊥ = λ k less e. elim (cases_lt k n) as (λ _. ⊥) [
      | inl before ↦ let b = ltb-true (get_or fs k d).id id (point.0 k d (omega arith) before) in omega arith
      | inr after ↦
          let a = rises_at fs n k d rise after less in
          let b = ltb-false (get_or fs n d).id id (point.1 n d (omega arith) (omega arith)) in
          other (omega arith) (omega arith)
    ] in
    position_or_len_is (λ (f : Fact X). f.id == id) fs (length fs) d (omega arith)
    (λ k less. never-true ((get_or fs k d).id == id) (λ h. differs k less ((Decides-eqb (get_or fs k d).id id).0 h)))
    (λ less. absurd (omega arith))

get-past : {X : Type 0} (xs : List X) → slice_get xs (length xs) ≡ None
get-past [] = refl
get-past (x ∷ xs) = get-past xs

get-at : {X : Type 0} (xs : List X) (n : ℕ) (d : X) → n < length xs → slice_get xs n ≡ Some (get_or xs n d)
get-at [] n d low = absurd (omega arith)
get-at (x ∷ xs) zero d low = refl
get-at (x ∷ xs) (suc n) d low = get-at xs n d (omega arith)

-- what is found of an id is what stands after those below it
pub inode_is : {X : Type 0} (id n : ℕ) (fs : List (Fact X)) (f : Fact X) → n < length fs → f ≡ get_or fs n f → IsPartitionPoint (λ (g : Fact X). nat_lt g.id id ≡ true) (λ (g : Fact X). nat_lt g.id id ≡ false) fs n → f.id ≡ id → Some f.what ≡ first_for id fs
inode_is {X} id n fs f low at point same =
    let p : Fact X → Bool = λ (g : Fact X). g.id == id in
    let here : position_or_len p fs ≡ n = first-index id n fs f low point (sym (ap (λ (g : Fact X). g.id) at) ∙ same) in
    sym (ap (option_map (λ (g : Fact X). g.what)) (find_at p fs ∙ (ap (slice_get fs) here ∙ (get-at fs n f low ∙ ap Some (sym at)))))

pub no_inode : {X : Type 0} (id n : ℕ) (fs : List (Fact X)) → n ≤ length fs → Rises fs → IsPartitionPoint (λ (g : Fact X). nat_lt g.id id ≡ true) (λ (g : Fact X). nat_lt g.id id ≡ false) fs n → (n < length fs → (d : Fact X) → (get_or fs n d).id ≡ id → ⊥) → None ≡ first_for id fs
no_inode {X} id n [] low rise point other = refl
no_inode {X} id n (f ∷ fs) low rise point other =
    let p : Fact X → Bool = λ (g : Fact X). g.id == id in
    let none : position_or_len p (f ∷ fs) ≡ length (f ∷ fs) = no-index id n (f ∷ fs) f low rise point (λ less. other less f) in
    sym (ap (option_map (λ (g : Fact X). g.what)) (find_at p (f ∷ fs) ∙ (ap (slice_get (f ∷ fs)) none ∙ get-past (f ∷ fs))))
