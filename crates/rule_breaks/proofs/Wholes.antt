-- Where no entry is lost, each has its directory, its file and its kind; where no file has two entries, each has its mark.
use Rattle.std.proofs.Common.{◌≡◌, ◌≤◌, ℕ, Bool, true, false, List, [], ◌∷◌, Option, Some, None, inl, inr, refl, ap, ◌∙◌, arith}
use Rattle.std.specs.Prelude.{not, ◌&&◌, ◌||◌, ◌==◌, nat_lt, is_some, is_none}
use Rattle.std.specs.List.{list_any}
use Rattle.apfs_model.proofs.BoolTests.{never-true, below-from}
use Rattle.apfs_model.specs.Lists.{In, passes}
use Rattle.fs_record.specs.Inodes.{Inode, inode_kind}
use Rattle.view_rules.specs.Words.{IsClear}
use Rattle.view_rules.specs.Facts.{Facts, inode_at, has_directory, does_count, entry_count}
use Rattle.view_rules.specs.Entries.{lacks_parent, lacks_inode, has_other_kind, HasParents, HasFiles, HasKinds}
use Rattle.view_rules.specs.Siblings.{is_unmarked, HasMarks}
use Rattle.rule_index.specs.Lost.{is_lost}

has-parent : (c d t : Bool) → (c && not (d && t)) ≡ false → (c && not d) ≡ false
has-parent true true t e = refl
has-parent true false t e = e
has-parent false d t e = refl

has-file : (c d : Bool) (o : Option Inode) (k : ℕ) → (c && not (d && passes o (λ (x : Inode). inode_kind x == k))) ≡ false → (c && not (is_some o)) ≡ false
has-file true true None k e = e
has-file true true (Some x) k e = refl
has-file true false None k e = e
has-file true false (Some x) k e = refl
has-file false d o k e = refl

same-kind : (c d : Bool) (o : Option Inode) (k : ℕ) → (c && not (d && passes o (λ (x : Inode). inode_kind x == k))) ≡ false → (c && passes o (λ (x : Inode). not (inode_kind x == k))) ≡ false
same-kind true true None k e = refl
same-kind true true (Some x) k e = e
same-kind true false None k e = refl
same-kind true false (Some x) k e = absurd (let r : ⊥ = cc in r)
same-kind false d o k e = refl

none-passes : {X : Type 0} (test : X → Bool) (xs : List X) → list_any test xs ≡ false → IsClear test xs
none-passes test [] none x listed = absurd listed
none-passes test (y ∷ ys) none x listed =
    let rest : list_any test ys ≡ false → In x ys → test x ≡ false = λ e more. none-passes test ys e x more in
    let go : (b : Bool) → test y ≡ b → (b || list_any test ys) ≡ false → test x ≡ false =
    λ b. elim b as (λ b. test y ≡ b → (b || list_any test ys) ≡ false → test x ≡ false) [
      | true ↦ λ t e. absurd (let r : ⊥ = cc in r)
      | false ↦ λ t e. elim listed as (λ _. test x ≡ false) [ inl same ↦ ap test same ∙ t | inr more ↦ rest e more ]
    ] in
    go (test y) refl none

-- what isn't so is false
pub not-so : (b : Bool) → not b ≡ true → b ≡ false
not-so true e = absurd (let r : ⊥ = cc in r)
not-so false e = refl

-- each entry has them
pub whole : (facts : Facts) → list_any (is_lost facts) facts.entries ≡ false → HasParents facts × (HasFiles facts × HasKinds facts)
unfolding lacks_parent lacks_inode has_other_kind
whole facts none =
    let clear = none-passes (is_lost facts) facts.entries none in (
      (λ e listed. has-parent (does_count e) (has_directory facts e.id) (passes (inode_at facts e.what.file_id) (λ (x : Inode). inode_kind x == e.what.kind)) (clear e listed)),
      (
        (λ e listed. has-file (does_count e) (has_directory facts e.id) (inode_at facts e.what.file_id) e.what.kind (clear e listed)),
        (λ e listed. same-kind (does_count e) (has_directory facts e.id) (inode_at facts e.what.file_id) e.what.kind (clear e listed)),
      ),
    )

-- where no file has two entries each has its mark
pub all-marked : (facts : Facts) → ((id : ℕ) → entry_count facts id ≤ 1) → HasMarks facts
unfolding is_unmarked
all-marked facts single e listed =
    let few : nat_lt 1 (entry_count facts e.what.file_id) ≡ false = never-true (nat_lt 1 (entry_count facts e.what.file_id)) (λ h. let above = below-from 1 (entry_count facts e.what.file_id) h in let most = single e.what.file_id in omega (arith, above, most)) in
    ap (λ b. does_count e && (is_none e.what.sibling && b)) few ∙ nothing (does_count e) (is_none e.what.sibling)
  where
    nothing : (a b : Bool) → (a && (b && false)) ≡ false
    nothing true true = refl
    nothing true false = refl
    nothing false b = refl
