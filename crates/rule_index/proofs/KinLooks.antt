-- The kind of each inode.
use Rattle.std.proofs.Common.{◌≡◌, ℕ, ◌+◌, Bool, true, false, cond, List, [], ◌∷◌, length, get_or, Option, Some, None, refl, ap, sym, ◌∙◌, arith}
use Rattle.std.specs.Prelude.{option_map, ◌==◌, not, map, nat_lt}
use Rattle.std.specs.List.{find, position, position_or_len}
use Rattle.apfs_model.specs.Lists.{passes}
use Rattle.fs_record.specs.Inodes.{Inode, inode_kind}
use Rattle.fs_record.specs.Facts.{Fact}
use Rattle.rule_index.specs.Kins.{kin_of, with_id, kin_in, kin_place, has_kind, HasKins}
use Rattle.rule_index.specs.declared.kin.Kin.{Kin}
use Rattle.id_lists.proofs.InOrder.{found-there, found-nowhere}

found-with : (q : ℕ) (inodes : List (Fact Inode)) → find (λ (k : ℕ × Kin). k.0 == q) (map with_id inodes) ≡ option_map with_id (find (λ (f : Fact Inode). f.id == q) inodes)
found-with q [] = refl
found-with q (f ∷ fs) =
    let go : (b : Bool) → cond b (Some (with_id f)) (find (λ (k : ℕ × Kin). k.0 == q) (map with_id fs)) ≡ option_map with_id (cond b (Some f) (find (λ (f : Fact Inode). f.id == q) fs)) =
    λ b. elim b as (λ b. cond b (Some (with_id f)) (find (λ (k : ℕ × Kin). k.0 == q) (map with_id fs)) ≡ option_map with_id (cond b (Some f) (find (λ (f : Fact Inode). f.id == q) fs))) [ true ↦ refl | false ↦ found-with q fs ] in
    go (f.id == q)

-- a list of all inodes after their ids
pub kins-given : (inodes : List (Fact Inode)) (given : List (ℕ × Kin)) → given ≡ map with_id inodes → HasKins inodes given
kins-given inodes given all q =
    let p : ℕ × Kin → Bool = λ (k : ℕ × Kin). k.0 == q in
    ap (option_map (λ (k : ℕ × Kin). k.1)) (ap (find p) all ∙ found-with q inodes) ∙ said (find (λ (f : Fact Inode). f.id == q) inodes)
  where
    said : (o : Option (Fact Inode)) → option_map (λ (k : ℕ × Kin). k.1) (option_map with_id o) ≡ option_map kin_of (option_map (λ (f : Fact Inode). f.what) o)
    said None = refl
    said (Some f) = refl

-- as many as there are inodes
pub long-with : (inodes : List (Fact Inode)) → length (map with_id inodes) ≡ length inodes
long-with [] = refl
long-with (f ∷ fs) = let rest = long-with fs in omega arith

spot-with : (q : ℕ) (inodes : List (Fact Inode)) → position_or_len (λ (k : ℕ × Kin). k.0 == q) (map with_id inodes) ≡ position_or_len (λ (f : Fact Inode). f.id == q) inodes
spot-with q [] = refl
spot-with q (f ∷ fs) = ap (λ n. cond (not (f.id == q)) (1 + n) 0) (spot-with q fs)

-- at the places of the inodes
pub place-with : (q : ℕ) (inodes : List (Fact Inode)) → kin_place (map with_id inodes) q ≡ position (λ (f : Fact Inode). f.id == q) inodes
place-with q inodes = λ j. cond (nat_lt (spot-with q inodes j) (long-with inodes j)) (Some (spot-with q inodes j)) None

-- those of an id whose inode stands at a place
pub kin-there : (inodes : List (Fact Inode)) (q at : ℕ) (d : Fact Inode) → Some at ≡ position (λ (f : Fact Inode). f.id == q) inodes → kin_in (map with_id inodes) q ≡ Some (kin_of (get_or inodes at d).what)
kin-there inodes q at d e =
    ap (option_map (λ (k : ℕ × Kin). k.1)) (found-with q inodes ∙ ap (option_map with_id) (found-there (λ (f : Fact Inode). f.id == q) inodes at d e))

-- and of one that has none
pub kin-nowhere : (inodes : List (Fact Inode)) (q : ℕ) → None ≡ position (λ (f : Fact Inode). f.id == q) inodes → kin_in (map with_id inodes) q ≡ None
kin-nowhere inodes q e =
    ap (option_map (λ (k : ℕ × Kin). k.1)) (found-with q inodes ∙ ap (option_map with_id) (found-nowhere (λ (f : Fact Inode). f.id == q) inodes e))

-- the inode at the place of an id tells its kind
pub kind-at : (inodes : List (Fact Inode)) (q at kind : ℕ) (d : Fact Inode) → Some at ≡ kin_place (map with_id inodes) q → (inode_kind (get_or inodes at d).what == kind) ≡ has_kind (map with_id inodes) q kind
kind-at inodes q at kind d e = sym (ap (λ (o : Option Kin). passes o (λ (k : Kin). k.kind == kind)) (kin-there inodes q at d (e ∙ place-with q inodes)))

-- whether there is a kind, and it is another
pub kind_passes : (o : Option Inode) (kind : ℕ) → passes (option_map inode_kind o) (λ k. not (k == kind)) ≡ passes o (λ (x : Inode). not (inode_kind x == kind))
kind_passes None kind = refl
kind_passes (Some x) kind = refl
