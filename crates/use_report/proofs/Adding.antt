-- Pieces to which blocks are added: one, those of a hole or of an extent, and those of each of some items.
use Rattle.std.proofs.Common.{◌≡◌, ℕ, ◌+◌, ◌<◌, ◌≤◌, Bool, true, false, ◌==◌, if◌then◌else◌, List, [], ◌∷◌, map, length, ap, take, get_or, ◌⊎◌, inl, inr, refl, sym, subst, arith}
use Rattle.std.specs.Prelude.{◌↔◌}
use Rattle.std.proofs.lemmas.List.{take_all}
use Rattle.apfs_model.specs.Blocks.{is_in}
use Rattle.apfs_model.specs.Lists.{In}
use Rattle.apfs_model.proofs.Searches.{in-map, from-map}
use Rattle.bt_cursor.specs.declared.step.Step.{Step}
use Rattle.ext_ref.specs.Scanned.{blocks_by}
use Rattle.piece_count.specs.Covered.{is_covered}
use Rattle.use_report.specs.Counted.{Grows}
use Rattle.use_report.specs.declared.pieces.Pieces.{Pieces}
use Rattle.use_report.proofs.Lists.{taken-more}
use Rattle.use_report.proofs.Sets.{in-above, in-below, in-from, grows-then, grows-same}

-- ---- one block
block-is : (block b : ℕ) → (is_in b block 1 ≡ true) ↔ (b ≡ block)
block-is block b = (
  (λ e. let low = in-above b block 1 e in let high = in-below b block 1 e in omega (arith, low, high)),
  (λ s. in-from b block 1 (omega (arith, s)) (omega (arith, s))),
)

-- a block was added
pub grows-one : (old new : Pieces) (block : ℕ) → Grows old new (λ b. is_in b block 1 ≡ true) → Grows old new (λ b. b ≡ block)
grows-one old new block a = grows-same old new (λ b. is_in b block 1 ≡ true) (λ b. b ≡ block) (block-is block) a

-- ---- an extent

-- ---- the blocks of each of some items
-- a block of one of some items
abbrev pub IsOfOne : {X : Type 0} → (X → ℕ → Type 0) → List X → ℕ → Type 0
IsOfOne {X} P items block = (x : X) × In x items × P x block

one-more : {X : Type 0} (P : X → ℕ → Type 0) (xs : List X) (i : ℕ) (d : X) (block : ℕ) → i < length xs → (IsOfOne P (take i xs) block ⊎ P (get_or xs i d) block) ↔ IsOfOne P (take (i + 1) xs) block
one-more P xs i d block low =
    let Now : Type 0 = IsOfOne P (take i xs) block ⊎ P (get_or xs i d) block in (
      (λ t. elim t as (λ _. IsOfOne P (take (i + 1) xs) block) [
        | inl o ↦ (o.0, (taken-more xs i d o.0 low).1 (inl o.1), o.2)
        | inr p ↦ (get_or xs i d, (taken-more xs i d (get_or xs i d) low).1 (inr refl), p)
      ]),
      (λ o. elim ((taken-more xs i d o.0 low).0 o.1) as (λ _. Now) [
        | inl k ↦ inl (o.0, k, o.2)
        | inr e ↦ inr (subst (λ x. P x block) e o.2)
      ]),
    )

pub grows-next : {X : Type 0} (P : X → ℕ → Type 0) (xs : List X) (i : ℕ) (d : X) (a b c : Pieces) → i < length xs → Grows a b (IsOfOne P (take i xs)) → Grows b c (P (get_or xs i d)) → Grows a c (IsOfOne P (take (i + 1) xs))
grows-next P xs i d a b c low g h =
    grows-same a c (λ block. IsOfOne P (take i xs) block ⊎ P (get_or xs i d) block) (IsOfOne P (take (i + 1) xs)) (λ block. one-more P xs i d block low)
    (grows-then a b c (IsOfOne P (take i xs)) (P (get_or xs i d)) g h)

pub grows-last : {X : Type 0} (P : X → ℕ → Type 0) (xs : List X) (i : ℕ) (a b : Pieces) → length xs ≤ i → Grows a b (IsOfOne P (take i xs)) → Grows a b (IsOfOne P xs)
grows-last {X} P xs i a b high g = subst (λ (ys : List X). Grows a b (IsOfOne P ys)) (take_all i xs high) g

-- those that a field of each of some items tells
pub grows-mapped : {X : Type 0} (f : X → ℕ) (xs : List X) (a b : Pieces) → Grows a b (IsOfOne (λ (x : X) (block : ℕ). block ≡ f x) xs) → Grows a b (λ block. In block (map f xs))
grows-mapped {X} f xs a b g = grows-same a b (IsOfOne (λ (x : X) (block : ℕ). block ≡ f x) xs) (λ block. In block (map f xs)) (λ block. (
  (λ o. subst (λ y. In y (map f xs)) (sym o.2) (in-map f xs o.0 o.1)),
  (λ h. let t = from-map f xs block h in (t.0, t.1.0, t.1.1)),
)) g

-- ---- the nodes of a tree
grows-none : (a : Pieces) → Grows a a (λ block. In block [])
grows-none a = record {
  same = refl;
  held = λ view block low. (
    (λ e. inl e),
    (λ t. elim t as (λ _. is_covered a.all view block ≡ true) [ inl e ↦ e | inr p ↦ absurd p.1 ]),
  );
}

-- where there is no root there are none
pub tree-none : (root : ℕ) (steps : List Step) (a : Pieces) → (root == 0) ≡ true → Grows a a (λ block. In block (blocks_by root steps))
tree-none root steps a e =
    let by : Bool → List ℕ = λ b. if b then [] else root ∷ map (λ (s : Step). s.child) steps in
    subst (λ (blocks : List ℕ). Grows a a (λ block. In block blocks)) (sym (ap by e)) (grows-none a)

-- the root was added, and the children of the steps
pub tree-some : (root : ℕ) (steps : List Step) (a b c : Pieces) → (root == 0) ≡ false → Grows a b (λ block. is_in block root 1 ≡ true) → Grows b c (λ block. In block (map (λ (s : Step). s.child) steps)) → Grows a c (λ block. In block (blocks_by root steps))
tree-some root steps a b c e g h =
    let children : List ℕ = map (λ (s : Step). s.child) steps in
    let by : Bool → List ℕ = λ b. if b then [] else root ∷ children in
    subst (λ (blocks : List ℕ). Grows a c (λ block. In block blocks)) (sym (ap by e)) (grows-then a b c (λ block. block ≡ root) (λ block. In block children) (grows-one a b root g) h)
