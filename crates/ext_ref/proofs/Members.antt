-- Of extents it matters which there are, and not how often or in which order they stand.
use Rattle.std.proofs.Common.{◌≡◌, ℕ, Bool, true, ◌&&◌, ◌||◌, ◌==◌, not, List, [], ◌∷◌, filter, refl, ap, sym, subst, ◌∙◌, inl, inr}
use Rattle.std.specs.List.{list_any, range_with_len}
use Rattle.std.proofs.Math.Path.{fun_ext}
use Rattle.apfs_model.specs.Lists.{In}
use Rattle.apfs_model.proofs.BoolTests.{test_or, never-true, clash, right-or, equal-from, left-true, right-true}
use Rattle.fs_record.specs.declared.extents.FileExt.{FileExt}
use Rattle.fs_record.specs.contracts.extents.FileExtPartialEq.TheImpl as extents
use Rattle.ext_ref.specs.Cover.{is_owned}
use Rattle.ext_ref.specs.Same.{HaveSame}
use Rattle.ext_ref.specs.References.{touches, ids_touching, streams_of}
use Rattle.ext_ref.specs.Unreached.{reaches, is_unreached, runs_of, end_of_ranges, unreached_runs}
use Rattle.ext_ref.specs.declared.range.NewRange.{NewRange}
use Rattle.ext_ref.proofs.Touched.{has-of, same-distinct}

-- an item of a list passes
any-item : {X : Type 0} (test : X → Bool) (xs : List X) → list_any test xs ≡ true → (x : X) × (In x xs × (test x ≡ true))
any-item test [] e = absurd (cc)
any-item {X} test (x ∷ xs) e = elim (test_or (test x)) as (λ _. (y : X) × (In y (x ∷ xs) × (test y ≡ true))) [
  | inl t ↦ (x, (inl refl, t))
  | inr f ↦ let more = any-item test xs (sym (ap (λ (b : Bool). b || list_any test xs) f) ∙ e) in (more.0, (inr more.1.0, more.1.1))
]

item-any : {X : Type 0} (test : X → Bool) (xs : List X) (x : X) → In x xs → test x ≡ true → list_any test xs ≡ true
item-any test [] x h t = absurd h
item-any test (y ∷ ys) x (inl e) t = ap (λ (b : Bool). b || list_any test ys) (subst (λ z. test z ≡ true) e t)
item-any test (y ∷ ys) x (inr h) t = right-or (test y) (list_any test ys) (item-any test ys x h t)

-- some item passes in a list where some item passes in one with the same items
any-into : {X : Type 0} (test : X → Bool) (xs ys : List X) → ((x : X) → In x xs → In x ys) → list_any test xs ≡ true → list_any test ys ≡ true
any-into test xs ys into e = let t = any-item test xs e in item-any test ys t.0 (into t.0 t.1.0) t.1.1

pub any-same : {X : Type 0} (test : X → Bool) (xs ys : List X) → HaveSame xs ys → list_any test xs ≡ list_any test ys
any-same test xs ys same = elim (test_or (list_any test ys)) as (λ _. list_any test xs ≡ list_any test ys) [
  | inl t ↦ any-into test ys xs (λ x. (same x).1) t ∙ sym t
  | inr f ↦ never-true (list_any test xs) (λ t. clash (list_any test ys) (any-into test xs ys (λ x. (same x).0) t) f) ∙ sym f
]

-- how many streams touch a range
pub streams-same : (block_size : ℕ) (xs ys : List (ℕ × FileExt)) (r : NewRange) → HaveSame xs ys → streams_of block_size ys r ≡ streams_of block_size xs r
unfolding streams_of
streams-same block_size xs ys r same =
    let p : ℕ × FileExt → Bool = λ x. touches block_size r x.1 in
    same-distinct (ids_touching block_size ys r) (ids_touching block_size xs r)
    (λ n. has-of p ys n ∙ (any-same (λ (x : ℕ × FileExt). p x && (x.0 == n)) ys xs (λ x. ((same x).1, (same x).0)) ∙ sym (has-of p xs n)))

-- the runs that no extent reaches
pub unreached-same : (block_size : ℕ) (ranges : List NewRange) (xs ys : List (ℕ × FileExt)) → HaveSame xs ys → unreached_runs block_size ranges ys ≡ unreached_runs block_size ranges xs
unfolding unreached_runs is_unreached
unreached-same block_size ranges xs ys same =
    ap (λ (f : ℕ → Bool). runs_of (filter (λ (k : ℕ). is_owned ranges k && not (f k)) (range_with_len 0 (end_of_ranges ranges))))
    (fun_ext (λ k. any-same (reaches block_size k) ys xs (λ x. ((same x).1, (same x).0))))

-- extents that are told to be equal are one
extent_by : ℕ → ℕ → ℕ → FileExt
extent_by logical length block = record { logical = logical; length = length; block = block }

extent-is : (a b : FileExt) → a.logical ≡ b.logical → a.length ≡ b.length → a.block ≡ b.block → a ≡ b
unfolding extent_by
extent-is a b p q r = let k : extent_by a.logical a.length a.block ≡ extent_by b.logical b.length b.block = cc in k

pub extent-same : (x y : ℕ × FileExt) → ((x.0 == y.0) && extents.ghosts.eq x.1 y.1) ≡ true → x ≡ y
extent-same x y e =
    let ids : x.0 ≡ y.0 = equal-from x.0 y.0 (left-true _ _ e) in
    let rest = right-true (x.0 == y.0) (extents.ghosts.eq x.1 y.1) e in
    let logical : x.1.logical ≡ y.1.logical = equal-from x.1.logical y.1.logical (left-true _ _ rest) in
    let more = right-true (x.1.logical == y.1.logical) ((x.1.length == y.1.length) && (x.1.block == y.1.block)) rest in
    let long : x.1.length ≡ y.1.length = equal-from x.1.length y.1.length (left-true _ _ more) in
    let block : x.1.block ≡ y.1.block = equal-from x.1.block y.1.block (right-true _ _ more) in
    let what : x.1 ≡ y.1 = extent-is x.1 y.1 logical long block in
    λ j. (ids j, what j)
