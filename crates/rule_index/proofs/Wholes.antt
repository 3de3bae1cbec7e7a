-- Entries that have their directories, and their files with their kinds.
use Rattle.std.proofs.Common.{◌≡◌, ℕ, Bool, true, false, List, [], ◌∷◌, ◌++◌, Option, Some, None, refl, ap, sym, ◌∙◌}
use Rattle.std.specs.Prelude.{option_map, not, ◌&&◌, ◌||◌, ◌==◌}
use Rattle.std.specs.List.{list_any}
use Rattle.apfs_model.specs.Lists.{passes}
use Rattle.fs_record.specs.Entries.{Entry}
use Rattle.fs_record.specs.Inodes.{Inode, inode_kind}
use Rattle.fs_record.specs.Facts.{Fact, directory_kind}
use Rattle.view_rules.specs.Facts.{Facts, inode_at, does_count}
use Rattle.rule_index.specs.Kins.{kin_of, kin_place, has_kind, HasKins}
use Rattle.id_lists.proofs.InOrder.{found-nowhere}
use Rattle.rule_index.specs.Homes.{is_astray}
use Rattle.rule_index.specs.Lost.{is_lost}
use Rattle.rule_index.specs.declared.kin.Kin.{Kin}

or-false : (b : Bool) → (b || false) ≡ b
or-false true = refl
or-false false = refl

-- whether one passes, with one more item
any-push : {X : Type 0} (test : X → Bool) (xs : List X) (x : X) → list_any test (xs ++ x ∷ []) ≡ (list_any test xs || test x)
any-push test [] x = or-false (test x)
any-push test (y ∷ ys) x =
    let go : (b : Bool) → (b || list_any test (ys ++ x ∷ [])) ≡ ((b || list_any test ys) || test x) =
    λ b. elim b as (λ b. (b || list_any test (ys ++ x ∷ [])) ≡ ((b || list_any test ys) || test x)) [ true ↦ refl | false ↦ any-push test ys x ] in
    go (test y)

kind-of : (o : Option Inode) (kind : ℕ) → passes (option_map kin_of o) (λ (k : Kin). k.kind == kind) ≡ passes o (λ (x : Inode). inode_kind x == kind)
kind-of None kind = refl
kind-of (Some x) kind = refl

-- the kinds of inodes tell whether an entry is lost
pub astray-lost : (facts : Facts) (kins : List (ℕ × Kin)) → HasKins facts.inodes kins → (e : Fact Entry) → is_astray kins e ≡ is_lost facts e
astray-lost facts kins has e =
    let kind : (q k : ℕ) → has_kind kins q k ≡ passes (inode_at facts q) (λ (x : Inode). inode_kind x == k) = λ q k. ap (λ (o : Option Kin). passes o (λ (x : Kin). x.kind == k)) (has q) ∙ kind-of (inode_at facts q) k in
    λ i. does_count e && not (kind e.id directory_kind i && kind e.what.file_id e.what.kind i)

-- an entry is astray where one is lost, and only there
pub any-lost : (facts : Facts) (kins : List (ℕ × Kin)) → HasKins facts.inodes kins → list_any (is_astray kins) facts.entries ≡ list_any (is_lost facts) facts.entries
any-lost facts kins has = λ i. list_any (λ e. astray-lost facts kins has e i) facts.entries

neither : (a b : Bool) → (not a && not b) ≡ not (a || b)
neither true b = refl
neither false b = refl

-- entries are still whole with one more
pub still-whole : {X : Type 0} (test : X → Bool) (xs : List X) (x : X) (whole one now : Bool) → now ≡ (whole && one) → whole ≡ not (list_any test xs) → one ≡ not (test x) → now ≡ not (list_any test (xs ++ x ∷ []))
still-whole test xs x whole one now is had here =
    is ∙ ((λ i. had i && here i) ∙ (neither (list_any test xs) (test x) ∙ ap not (sym (any-push test xs x))))

-- an entry that counts, of a file without an inode, is astray
pub astray-homeless : (kins : List (ℕ × Kin)) (e : Fact Entry) → does_count e ≡ true → None ≡ kin_place kins e.what.file_id → false ≡ not (is_astray kins e)
astray-homeless kins e counts nowhere =
    let none : has_kind kins e.what.file_id e.what.kind ≡ false =
    ap (λ (o : Option (ℕ × Kin)). passes (option_map (λ (k : ℕ × Kin). k.1) o) (λ (k : Kin). k.kind == e.what.kind)) (found-nowhere (λ (k : ℕ × Kin). k.0 == e.what.file_id) kins nowhere) in
    sym (ap not ((λ i. counts i && not (has_kind kins e.id directory_kind && none i)) ∙ lost (has_kind kins e.id directory_kind)))
  where
    lost : (b : Bool) → (true && not (b && false)) ≡ true
    lost true = refl
    lost false = refl
